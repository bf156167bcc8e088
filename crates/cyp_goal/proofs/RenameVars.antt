-- The variables of what is renamed.
use Rattle.std.proofs.Common.{◌≡◌, ◌∙◌, ◌++◌, List, Option, Some, None, map, flat_map, refl, ap}
use Rattle.cyp_heap.specs.Chunks.{arg_vars, card_vars, chunk_vars, chunks_vars}
use Rattle.cyp_heap.specs.Goals.{goal_vars, image_vars, node_vars, tuple_vars}
use Rattle.cyp_heap.specs.declared.chunk.Arg.{Arg}
use Rattle.cyp_heap.specs.declared.chunk.Arg.TheVariants.{Int as IntArg, Set as SetArg}
use Rattle.cyp_heap.specs.declared.chunk.Chunk.{Chunk}
use Rattle.cyp_heap.specs.declared.chunk.Chunk.TheVariants.{Block, Cell, Inst}
use Rattle.cyp_heap.specs.declared.goal.Goal.{Goal}
use Rattle.cyp_heap.specs.declared.goal.Link.{Link}
use Rattle.cyp_heap.specs.declared.goal.Node.{Node}
use Rattle.cyp_term.specs.Terms.{base_vars, lit_vars, lits_vars, set_vars, term_vars, var_eq, var_in, without_repeats}
use Rattle.cyp_term.specs.declared.lit.Lit.{Lit}
use Rattle.cyp_term.specs.declared.lit.Lit.TheVariants.{Eq, Le, Lt, Member, Ne, NotMember, NotSame, NotSub, Same, Sub}
use Rattle.cyp_term.specs.declared.lit.SetTerm.{SetTerm}
use Rattle.cyp_term.specs.declared.subst.IntBind.{IntBind}
use Rattle.cyp_term.specs.declared.subst.SetBind.{SetBind}
use Rattle.cyp_term.specs.declared.subst.Subst.{Subst}
use Rattle.cyp_term.specs.declared.term.Term.{Term}
use Rattle.cyp_term.specs.declared.term.Var.{Var}
use Rattle.cyp_goal.proofs.Maps.{flat_map-map, joined, list_any-map, without_repeats-map}
use Rattle.cyp_goal.proofs.Rename.{IsRenaming, rename_arg, rename_base, rename_chunk, rename_goal, rename_images, rename_link, rename_lit, rename_node, rename_set, rename_term}

module _ (r : Var → Var) where
  base_vars-rename : (b : Option Var) → base_vars (rename_base r b) ≡ map r (base_vars b)
  base_vars-rename None = refl
  base_vars-rename (Some v) = refl

  pub term_vars-rename : (t : Term) → term_vars (rename_term r t) ≡ map r (term_vars t)
  term_vars-rename t = base_vars-rename t.base

  pub terms_vars-rename : (ts : List Term) → flat_map term_vars (map (rename_term r) ts) ≡ map r (flat_map term_vars ts)
  terms_vars-rename ts = flat_map-map (rename_term r) term_vars term_vars r term_vars-rename ts

  pub set_vars-rename : (u : SetTerm) → set_vars (rename_set r u) ≡ map r (set_vars u)
  set_vars-rename u = joined r u.vars (flat_map term_vars u.elems) (map r u.vars) (flat_map term_vars (map (rename_term r) u.elems)) refl (terms_vars-rename u.elems)

  two_terms : (a b : Term) → (term_vars (rename_term r a) ++ term_vars (rename_term r b)) ≡ map r (term_vars a ++ term_vars b)
  two_terms a b = joined r (term_vars a) (term_vars b) _ _ (term_vars-rename a) (term_vars-rename b)

  two_sets : (a b : SetTerm) → (set_vars (rename_set r a) ++ set_vars (rename_set r b)) ≡ map r (set_vars a ++ set_vars b)
  two_sets a b = joined r (set_vars a) (set_vars b) _ _ (set_vars-rename a) (set_vars-rename b)

  term_and_set : (a : Term) (b : SetTerm) → (term_vars (rename_term r a) ++ set_vars (rename_set r b)) ≡ map r (term_vars a ++ set_vars b)
  term_and_set a b = joined r (term_vars a) (set_vars b) _ _ (term_vars-rename a) (set_vars-rename b)

  pub lit_vars-rename : (l : Lit) → lit_vars (rename_lit r l) ≡ map r (lit_vars l)
  lit_vars-rename (Eq a b) = two_terms a b
  lit_vars-rename (Ne a b) = two_terms a b
  lit_vars-rename (Le a b) = two_terms a b
  lit_vars-rename (Lt a b) = two_terms a b
  lit_vars-rename (Same a b) = two_sets a b
  lit_vars-rename (NotSame a b) = two_sets a b
  lit_vars-rename (Member a b) = term_and_set a b
  lit_vars-rename (NotMember a b) = term_and_set a b
  lit_vars-rename (Sub a b) = two_sets a b
  lit_vars-rename (NotSub a b) = two_sets a b

  pub lits_vars-rename : (ls : List Lit) → lits_vars (map (rename_lit r) ls) ≡ map r (lits_vars ls)
  lits_vars-rename ls = flat_map-map (rename_lit r) lit_vars lit_vars r lit_vars-rename ls

  arg_vars-rename : (a : Arg) → arg_vars (rename_arg r a) ≡ map r (arg_vars a)
  arg_vars-rename (IntArg t) = term_vars-rename t
  arg_vars-rename (SetArg u) = set_vars-rename u

  card_vars-rename : (b : Option Var) → card_vars (rename_base r b) ≡ map r (card_vars b)
  card_vars-rename None = refl
  card_vars-rename (Some v) = refl

  pub chunk_vars-rename : (c : Chunk) → chunk_vars (rename_chunk r c) ≡ map r (chunk_vars c)
  chunk_vars-rename (Inst i) =
      joined r (flat_map arg_vars i.args) (card_vars i.card) _ _ (flat_map-map (rename_arg r) arg_vars arg_vars r arg_vars-rename i.args) (card_vars-rename i.card)
  chunk_vars-rename (Block k) = term_vars-rename k.at
  chunk_vars-rename (Cell k) = two_terms k.at k.content

  pub chunks_vars-rename : (cs : List Chunk) → chunks_vars (map (rename_chunk r) cs) ≡ map r (chunks_vars cs)
  chunks_vars-rename cs = flat_map-map (rename_chunk r) chunk_vars chunk_vars r chunk_vars-rename cs

  pub tuple_vars-rename : (ks : List Link) → tuple_vars (map (rename_link r) ks) ≡ map r (tuple_vars ks)
  tuple_vars-rename ks =
      flat_map-map (rename_link r) (λ (k : Link). flat_map term_vars k.tuple) (λ (k : Link). flat_map term_vars k.tuple) r (λ k. terms_vars-rename k.tuple) ks

  abbrev pub rename_int_bind : IntBind → IntBind
  rename_int_bind b = record { var = b.var; to = rename_term r b.to }

  abbrev pub rename_set_bind : SetBind → SetBind
  rename_set_bind b = record { var = b.var; to = rename_set r b.to }

  pub image_vars-rename : (m : Subst) → image_vars (rename_images r m) ≡ map r (image_vars m)
  image_vars-rename m =
      joined r (flat_map (λ (b : IntBind). term_vars b.to) m.ints) (flat_map (λ (b : SetBind). set_vars b.to) m.sets) _ _
      (flat_map-map rename_int_bind (λ (b : IntBind). term_vars b.to) (λ (b : IntBind). term_vars b.to) r (λ b. term_vars-rename b.to) m.ints)
      (flat_map-map rename_set_bind (λ (b : SetBind). set_vars b.to) (λ (b : SetBind). set_vars b.to) r (λ b. set_vars-rename b.to) m.sets)

  abbrev pub link_vars : Link → List Var
  link_vars k = flat_map term_vars k.tuple ++ image_vars k.map

  pub link_vars-rename : (k : Link) → link_vars (rename_link r k) ≡ map r (link_vars k)
  link_vars-rename k = joined r (flat_map term_vars k.tuple) (image_vars k.map) _ _ (terms_vars-rename k.tuple) (image_vars-rename k.map)

  pub goal_vars-rename : (g : Goal) → goal_vars (rename_goal r g) ≡ map r (goal_vars g)
  goal_vars-rename g =
      joined r (g.program ++ chunks_vars g.pre.chunks ++ chunks_vars g.post.chunks ++ lits_vars g.pure_pre) (lits_vars g.pure_post) _ _
      (joined r (g.program ++ chunks_vars g.pre.chunks ++ chunks_vars g.post.chunks) (lits_vars g.pure_pre) _ _
      (joined r (g.program ++ chunks_vars g.pre.chunks) (chunks_vars g.post.chunks) _ _
      (joined r g.program (chunks_vars g.pre.chunks) _ _ refl (chunks_vars-rename g.pre.chunks))
      (chunks_vars-rename g.post.chunks))
      (lits_vars-rename g.pure_pre))
      (lits_vars-rename g.pure_post)

module _ (r : Var → Var) (is : IsRenaming r) where
  pub node_vars-rename : (n : Node) → node_vars (rename_node r n) ≡ map r (node_vars n)
  node_vars-rename n =
      ap (without_repeats var_eq)
      (joined r (goal_vars n.goal) (flat_map (λ (k : Link). flat_map term_vars k.tuple ++ image_vars k.map) n.links) _ _ (goal_vars-rename r n.goal)
      (flat_map-map (rename_link r) (λ (k : Link). flat_map term_vars k.tuple ++ image_vars k.map) (λ (k : Link). flat_map term_vars k.tuple ++ image_vars k.map) r
      (link_vars-rename r) n.links))
      ∙ without_repeats-map r var_eq var_eq is.apart (goal_vars n.goal ++ flat_map (λ (k : Link). flat_map term_vars k.tuple ++ image_vars k.map) n.links)

  pub var_in-rename : (v : Var) (vs : List Var) → var_in (r v) (map r vs) ≡ var_in v vs
  var_in-rename v vs = list_any-map r (var_eq v) (var_eq (r v)) (is.apart v) vs
