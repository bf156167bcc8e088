-- The goal of a mended text is that of the text with other sizes of blocks.
use Rattle.std.proofs.Common.{◌≡◌, ◌∙◌, [], ◌∷◌, ◌++◌, ◌&&◌, List, Option, Some, None, Bool, true, drop, filter, length, map, max, min, ℕ, suc, option_map, refl, ap, ap₂, sym}
use Rattle.std.specs.Prelude.{is_none, is_some}
use Rattle.std.specs.List.{list_all}
use Rattle.std.proofs.lemmas.Bool.{and_from}
use Rattle.std.proofs.lemmas.List.{map-append}
use Rattle.cyp_goal.proofs.DressedNormal.{dressing_law}
use Rattle.cyp_goal.proofs.Maps.{filter-map, map_both}
use Rattle.cyp_goal.specs.Dressed.{dressed_renaming, resized, resized_goal}
use Rattle.cyp_goal.specs.Normal.{normal}
use Rattle.cyp_heap.specs.Chunks.{insts}
use Rattle.cyp_heap.specs.Formed.{IsFormed, inst_fits, insts_fit, is_card_var}
use Rattle.cyp_heap.specs.PredsValue.{PredsValue}
use Rattle.cyp_heap.specs.declared.chunk.Chunk.{Chunk}
use Rattle.cyp_heap.specs.declared.chunk.Chunk.TheVariants.{Block, Cell, Inst}
use Rattle.cyp_heap.specs.declared.chunk.InstOf.{InstOf}
use Rattle.cyp_heap.specs.declared.goal.Goal.{Goal}
use Rattle.cyp_heap.specs.declared.goal.Node.{Node}
use Rattle.cyp_reading.proofs.MendedSame.{goal_names, universal_names}
use Rattle.cyp_reading.specs.Mended.{mended, mended_body, mended_text}
use Rattle.cyp_formed.proofs.FormedGoals.{formed}
use Rattle.cyp_names.specs.Bodies.{in_kinds, is_block, is_cell, is_instance}
use Rattle.cyp_formed.specs.LimitFaults.{root_of}
use Rattle.cyp_names.specs.NameFaults.{name_faults}
use Rattle.cyp_names.specs.ReadTerms.{Scope, read_chunk, read_chunks, read_lits, use_var}
use Rattle.cyp_names.specs.Specifications.{goal_scope, read_goal, read_preds, read_tree, with_cards}
use Rattle.cyp_names.specs.Uses.{param_uses}
use Rattle.cyp_text.specs.declared.tree.BodyTree.{BodyTree}
use Rattle.cyp_text.specs.declared.tree.ChunkTree.{ChunkTree}
use Rattle.cyp_text.specs.declared.tree.ChunkTree.TheVariants.{BlockOf, InstanceOf, NamedCell, TermCell}
use Rattle.cyp_text.specs.declared.tree.TextTree.{TextTree}
use Rattle.cyp_text.specs.declared.tree.PredTree.{PredTree}

-- a size brought into 1 to 8
abbrev pub clamp : ℕ → ℕ
clamp n = max 1 (min n 8)

-- ---- chunks

chunk_mended : (qs : List PredTree) (sc : Scope) (c : ChunkTree) → read_chunk qs sc (mended c) ≡ resized clamp (read_chunk qs sc c)
chunk_mended qs sc (NamedCell i t) = refl
chunk_mended qs sc (TermCell a t) = refl
chunk_mended qs sc (BlockOf a p n) = refl
chunk_mended qs sc (InstanceOf i xs) = refl

instance_mended : (c : ChunkTree) → is_instance (mended c) ≡ is_instance c
instance_mended (NamedCell i t) = refl
instance_mended (TermCell a t) = refl
instance_mended (BlockOf a p n) = refl
instance_mended (InstanceOf i xs) = refl

block_mended : (c : ChunkTree) → is_block (mended c) ≡ is_block c
block_mended (NamedCell i t) = refl
block_mended (TermCell a t) = refl
block_mended (BlockOf a p n) = refl
block_mended (InstanceOf i xs) = refl

cell_mended : (c : ChunkTree) → is_cell (mended c) ≡ is_cell c
cell_mended (NamedCell i t) = refl
cell_mended (TermCell a t) = refl
cell_mended (BlockOf a p n) = refl
cell_mended (InstanceOf i xs) = refl

kinds_mended : (cs : List ChunkTree) → in_kinds (map mended cs) ≡ map mended (in_kinds cs)
kinds_mended cs =
    (λ i. filter-map mended is_instance is_instance instance_mended cs i ++ filter-map mended is_block is_block block_mended cs i ++ filter-map mended is_cell is_cell cell_mended cs i)
    ∙ ap (λ (us : List ChunkTree). us ++ map mended (filter is_cell cs)) (sym (map-append mended (filter is_instance cs) (filter is_block cs)))
    ∙ sym (map-append mended (filter is_instance cs ++ filter is_block cs) (filter is_cell cs))

chunks_mended : (qs : List PredTree) (sc : Scope) (b : BodyTree) → read_chunks qs sc (mended_body b) ≡ map (resized clamp) (read_chunks qs sc b)
chunks_mended qs sc b =
    ap (map (read_chunk qs sc)) (kinds_mended b.chunks) ∙ map_both mended (read_chunk qs sc) (read_chunk qs sc) (resized clamp) (chunk_mended qs sc) (in_kinds b.chunks)

cards_resized : (k : ℕ) (cs : List Chunk) → with_cards k (map (resized clamp) cs) ≡ map (resized clamp) (with_cards k cs)
cards_resized k [] = refl
cards_resized k (Inst i ∷ cs) = λ j. with_cards k (Inst i ∷ []) ++ cards_resized (suc k) cs j
cards_resized k (Block b ∷ cs) = λ j. resized clamp (Block b) ∷ cards_resized k cs j
cards_resized k (Cell c ∷ cs) = λ j. Cell c ∷ cards_resized k cs j

insts_resized : (cs : List Chunk) → insts (map (resized clamp) cs) ≡ insts cs
insts_resized [] = refl
insts_resized (Inst i ∷ cs) = λ j. i ∷ insts_resized cs j
insts_resized (Block b ∷ cs) = insts_resized cs
insts_resized (Cell c ∷ cs) = insts_resized cs

-- ---- the goal

module _ (t : TextTree) where
  -- the goal of the mended text where these are the scopes
  abbrev said : Scope → Scope → Goal
  said sc first = record {
    program = map (use_var sc) (param_uses t.params);
    exist = map (use_var sc) (drop (length first) sc);
    pure_pre = read_lits sc t.pre;
    pre = record { chunks = with_cards 0 (read_chunks t.preds sc (mended_body t.pre)) };
    pure_post = read_lits sc t.post;
    post = record { chunks = read_chunks t.preds sc (mended_body t.post) };
  }

  pub goal_mended : read_goal (mended_text t) ≡ resized_goal clamp (read_goal t)
  goal_mended =
      ap₂ said (goal_names t) (universal_names t)
      ∙ (λ i. record {
        program = (read_goal t).program;
        exist = (read_goal t).exist;
        pure_pre = (read_goal t).pure_pre;
        pre = record { chunks = (ap (with_cards 0) (chunks_mended t.preds (goal_scope t) t.pre) ∙ cards_resized 0 (read_chunks t.preds (goal_scope t) t.pre)) i };
        pure_post = (read_goal t).pure_post;
        post = record { chunks = chunks_mended t.preds (goal_scope t) t.post i };
      })

  -- the node of the mended goal over any predicates
  abbrev pub mended_node : PredsValue → Node
  mended_node preds = record { preds = preds; goal = read_goal (mended_text t); links = [] }

  still_some : {A B : Type 0} (f : A → B) (o : Option A) → is_some (option_map f o) ≡ is_some o
  still_some f None = refl
  still_some f (Some x) = refl

  -- it has a normal form exactly where the goal as it is written has one
  pub normal_mended : (preds : PredsValue) → is_some (normal (mended_node preds)) ≡ is_some (normal (root_of (read_tree t)))
  normal_mended preds =
      ap (λ (g : Goal). is_some (normal (record { preds = preds; goal = g; links = [] }))) goal_mended
      ∙ ap is_some (dressing_law preds clamp (root_of (read_tree t)))
      ∙ still_some (dressed_renaming preds clamp) (normal (root_of (read_tree t)))

  -- its instances fit
  module _ (right : name_faults t ≡ []) where
    pub insts_mended : insts_fit (read_preds t.preds) (read_goal (mended_text t)) ≡ true
    insts_mended = ap (insts_fit (read_preds t.preds)) goal_mended ∙ same ∙ and_from (both && cards) plain (and_from both cards f.instances_fit f.pre_cards) f.post_cards
      where
        f : IsFormed (read_preds t.preds) (read_goal t)
        f = formed t right

        both : Bool
        both = list_all (inst_fits (read_preds t.preds)) (insts (read_goal t).pre.chunks ++ insts (read_goal t).post.chunks)

        cards : Bool
        cards = list_all (λ (i : InstOf). is_card_var i.card) (insts (read_goal t).pre.chunks)

        plain : Bool
        plain = list_all (λ (i : InstOf). is_none i.card) (insts (read_goal t).post.chunks)

        same : insts_fit (read_preds t.preds) (resized_goal clamp (read_goal t)) ≡ (both && cards && plain)
        same = λ i.
            list_all (inst_fits (read_preds t.preds)) (insts_resized (read_goal t).pre.chunks i ++ insts_resized (read_goal t).post.chunks i)
            && list_all (λ (x : InstOf). is_card_var x.card) (insts_resized (read_goal t).pre.chunks i)
            && list_all (λ (x : InstOf). is_none x.card) (insts_resized (read_goal t).post.chunks i)
