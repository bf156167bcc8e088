-- The normal form looks neither at predicates nor at sizes of blocks.
use Rattle.std.proofs.Common.{◌≡◌, ◌∙◌, [], ◌∷◌, ◌+◌, ◌++◌, List, Option, Some, None, cond, ◌&&◌, ◌||◌, not, map, filter, flat_map, length, ℕ, zero, suc, nat_le, sum_by, option_and_then, option_map, refl, ap, ap₂, sym}
use Rattle.std.specs.List.{list_any}
use Rattle.std.proofs.lemmas.List.{length-map}
use Rattle.std.proofs.lemmas.List.Sums.{sum_by-cons}
use Rattle.cyp_goal.proofs.Maps.{at_cond, list_any-map, map_both}
use Rattle.cyp_goal.proofs.RenameSolve.{turn}
use Rattle.cyp_goal.specs.Dressed.{DressingLaw, dressed, dressed_renaming, resized}
use Rattle.cyp_goal.specs.Normal.{Renaming, keep_limits, solve, tidy_node}
use Rattle.cyp_goal.specs.Numbering.{new_name, numbering, renumber}
use Rattle.cyp_goal.specs.Pruning.{is_kept, only_vars, prune, spread_times}
use Rattle.cyp_goal.specs.Solving.{first_solved, is_logical, solve_post, solve_pre, solved_any, solved_eq, substitute, with_post, with_pre}
use Rattle.cyp_term.specs.Terms.{apply_lit, is_set_var, lit_elements, lit_eq, lits_vars, term_eq, term_vars, var_eq, var_in, wide_lit, wide_subst, with_all_new, without_repeats}
use Rattle.cyp_goal.specs.Tidying.{address, address_lits, tidy_lits}
use Rattle.cyp_heap.specs.Chunks.{apply_chunk, chunk_vars, chunks_vars, wide_chunk}
use Rattle.cyp_heap.specs.Goals.{apply_link, apply_node, image_vars, node_vars, tuple_vars, wide_link, wide_node}
use Rattle.cyp_heap.specs.Limits.{chunk_elements, chunk_units, is_within_limits, link_units, lit_units}
use Rattle.cyp_heap.specs.PredsValue.{PredsValue}
use Rattle.cyp_heap.specs.declared.chunk.Chunk.{Chunk}
use Rattle.cyp_heap.specs.declared.chunk.Chunk.TheVariants.{Block, Cell, Inst}
use Rattle.cyp_heap.specs.declared.goal.Goal.{Goal}
use Rattle.cyp_heap.specs.declared.goal.Link.{Link}
use Rattle.cyp_heap.specs.declared.goal.Node.{Node}
use Rattle.cyp_term.specs.declared.lit.Lit.{Lit}
use Rattle.cyp_term.specs.declared.subst.Subst.{Subst}
use Rattle.cyp_term.specs.declared.term.Var.{Var}

-- ---- pruning and numbering, where the variables of chunks are told

-- pruned, where the chunks of the pre and of the post have these variables
abbrev pruned : List Var → List Var → Node → Node
pruned a b n =
    let g : Goal = n.goal in
    let live : List Var = spread_times (length g.pure_pre) g.pure_pre (without_repeats var_eq (g.program ++ a ++ b ++ lits_vars g.pure_post ++ tuple_vars n.links)) in
    let pre : List Lit = filter (is_kept live) g.pure_pre in
    let used : List Var = a ++ b ++ lits_vars pre ++ lits_vars g.pure_post ++ tuple_vars n.links in
    let program : List Var = filter (λ v. var_in v used) g.program in
    let exist : List Var = filter (λ v. var_in v (b ++ lits_vars g.pure_post)) g.exist in
    let dropped : List Var = filter (λ v. not (var_in v program)) g.program ++ filter (λ v. not (var_in v exist)) g.exist in
    let alive : List Var = filter (λ v. not (var_in v dropped)) (live ++ program) in
    record {
      preds = n.preds;
      goal = record { program = program; exist = exist; pure_pre = pre; pre = g.pre; pure_post = g.pure_post; post = g.post };
      links = map (λ (k : Link). record k { map = only_vars alive k.map }) n.links;
    }

-- numbered by the list
abbrev numbered : List Var → Node → Node
numbered vs n = let m : Node = apply_node (numbering vs) n in record m { goal = record m.goal { program = map (new_name vs) n.goal.program; exist = map (new_name vs) n.goal.exist } }

module _ (size : ℕ → ℕ) where
  abbrev other : Chunk → Chunk
  other = resized size

  -- ---- chunks

  pub vars-other : (c : Chunk) → chunk_vars (other c) ≡ chunk_vars c
  vars-other (Inst i) = refl
  vars-other (Block k) = refl
  vars-other (Cell k) = refl

  pub elements-other : (c : Chunk) → chunk_elements (other c) ≡ chunk_elements c
  elements-other (Inst i) = refl
  elements-other (Block k) = refl
  elements-other (Cell k) = refl

  units-other : (c : Chunk) → chunk_units (other c) ≡ chunk_units c
  units-other (Inst i) = refl
  units-other (Block k) = refl
  units-other (Cell k) = refl

  address-other : (c : Chunk) → address (other c) ≡ address c
  address-other (Inst i) = refl
  address-other (Block k) = refl
  address-other (Cell k) = refl

  wide-other : (c : Chunk) → wide_chunk (other c) ≡ wide_chunk c
  wide-other (Inst i) = refl
  wide-other (Block k) = refl
  wide-other (Cell k) = refl

  apply-other : (by : Subst) (c : Chunk) → apply_chunk by (other c) ≡ other (apply_chunk by c)
  apply-other by (Inst i) = refl
  apply-other by (Block k) = refl
  apply-other by (Cell k) = refl

  pub flat-other : {A : Type 0} (f : Chunk → List A) → ((c : Chunk) → f (other c) ≡ f c) → (cs : List Chunk) → flat_map f (map other cs) ≡ flat_map f cs
  flat-other f e [] = refl
  flat-other f e (c ∷ cs) = λ i. e c i ++ flat-other f e cs i

  sum-other : (f : Chunk → ℕ) → ((c : Chunk) → f (other c) ≡ f c) → (cs : List Chunk) → sum_by f (map other cs) ≡ sum_by f cs
  sum-other f e [] = refl
  sum-other f e (c ∷ cs) =
      sum_by-cons f (other c) (map other cs) ∙ ap₂ ◌+◌ (e c) (sum-other f e cs) ∙ sym (sum_by-cons f c cs)

  chunks_vars-other : (cs : List Chunk) → chunks_vars (map other cs) ≡ chunks_vars cs
  chunks_vars-other cs = flat-other chunk_vars vars-other cs

  applied-other : (by : Subst) (cs : List Chunk) → map (apply_chunk by) (map other cs) ≡ map other (map (apply_chunk by) cs)
  applied-other by cs = map_both other (apply_chunk by) (apply_chunk by) other (apply-other by) cs

  module _ (preds : PredsValue) where
    abbrev dress : Node → Node
    dress = dressed preds size

    -- ---- substitution

    apply-dressed : (by : Subst) (n : Node) → apply_node by (dress n) ≡ dress (apply_node by n)
    apply-dressed by n =
        let g : Goal = n.goal in
        λ i. record {
          preds = preds;
          goal = record {
            program = g.program;
            exist = g.exist;
            pure_pre = map (apply_lit by) g.pure_pre;
            pre = record { chunks = applied-other by g.pre.chunks i };
            pure_post = map (apply_lit by) g.pure_post;
            post = record { chunks = applied-other by g.post.chunks i };
          };
          links = map (apply_link by) n.links;
        }

    wide-dressed : (n : Node) → wide_node (dress n) ≡ wide_node n
    wide-dressed n =
        let g : Goal = n.goal in
        let pre = list_any-map other wide_chunk wide_chunk wide-other g.pre.chunks in
        let post = list_any-map other wide_chunk wide_chunk wide-other g.post.chunks in
        λ i. (list_any wide_lit g.pure_pre || pre i || list_any wide_lit g.pure_post || post i) || list_any wide_link n.links

    substitute-dressed : (by : Subst) (n : Node) → substitute by (dress n) ≡ option_map dress (substitute by n)
    substitute-dressed by n =
        ap₂ (λ b m. cond (wide_subst by || b) None (Some m)) (ap wide_node (apply-dressed by n) ∙ wide-dressed (apply_node by n)) (apply-dressed by n)
        ∙ at_cond (option_map dress) (wide_subst by || wide_node (apply_node by n)) None (Some (apply_node by n))

    -- ---- solving

    module _ (again : Node → Option Node) (later : (m : Node) → again (dress m) ≡ option_map dress (again m)) where
      and_then-dressed : (o : Option Node) → option_and_then again (option_map dress o) ≡ option_map dress (option_and_then again o)
      and_then-dressed None = refl
      and_then-dressed (Some m) = later m

      turn-dressed : (put : Node → List Lit → Node) → ((m : Node) (ls : List Lit) → put (dress m) ls ≡ dress (put m ls))
          → (n : Node) (o : Option (Subst × List Lit)) → turn again put (dress n) o ≡ option_map dress (turn again put n o)
      turn-dressed put puts n None = refl
      turn-dressed put puts n (Some p) =
          ap (option_and_then again) (ap (substitute p.0) (puts n p.1) ∙ substitute-dressed p.0 (put n p.1)) ∙ and_then-dressed (substitute p.0 (put n p.1))

    solve_pre-dressed : (k : ℕ) (n : Node) → solve_pre k (dress n) ≡ option_map dress (solve_pre k n)
    solve_pre-dressed zero n = refl
    solve_pre-dressed (suc k) n =
        turn-dressed (solve_pre k) (solve_pre-dressed k) with_pre (λ m ls. refl) n (first_solved (solved_eq (is_logical n.goal)) n.goal.pure_pre)

    solve_post-dressed : (k : ℕ) (n : Node) → solve_post k (dress n) ≡ option_map dress (solve_post k n)
    solve_post-dressed zero n = refl
    solve_post-dressed (suc k) n =
        turn-dressed (solve_post k) (solve_post-dressed k) with_post (λ m ls. refl) n (first_solved (solved_any (λ v. var_in v n.goal.exist)) n.goal.pure_post)

    abbrev whole_post : Node → Option Node
    whole_post m = solve_post (length m.goal.pure_post) m

    solve-dressed : (n : Node) → solve (dress n) ≡ option_map dress (solve n)
    solve-dressed n =
        ap (option_and_then whole_post) (solve_pre-dressed (length n.goal.pure_pre) n)
        ∙ and_then-dressed whole_post (λ m. solve_post-dressed (length m.goal.pure_post) m) (solve_pre (length n.goal.pure_pre) n)

    -- ---- the steps behind solving

    tidy_node-dressed : (n : Node) → tidy_node (dress n) ≡ dress (tidy_node n)
    tidy_node-dressed n =
        let g : Goal = n.goal in
        let found = flat-other address address-other g.pre.chunks in
        λ i. record {
          preds = preds;
          goal = record {
            program = g.program;
            exist = g.exist;
            pure_pre = with_all_new lit_eq (tidy_lits g.pure_pre) (address_lits (found i));
            pre = record { chunks = map other g.pre.chunks };
            pure_post = tidy_lits g.pure_post;
            post = record { chunks = map other g.post.chunks };
          };
          links = n.links;
        }

    prune-dressed : (n : Node) → prune (dress n) ≡ dress (prune n)
    prune-dressed n = ap₂ (λ a b. pruned a b (dress n)) (chunks_vars-other n.goal.pre.chunks) (chunks_vars-other n.goal.post.chunks)

    node_vars-dressed : (n : Node) → node_vars (dress n) ≡ node_vars n
    node_vars-dressed n =
        let g : Goal = n.goal in
        let pre = chunks_vars-other g.pre.chunks in
        let post = chunks_vars-other g.post.chunks in
        λ i. without_repeats var_eq ((g.program ++ pre i ++ post i ++ lits_vars g.pure_pre ++ lits_vars g.pure_post)
        ++ flat_map (λ (k : Link). flat_map term_vars k.tuple ++ image_vars k.map) n.links)

    renumber-dressed : (n : Node) → renumber (dress n) ≡ dress (renumber n)
    renumber-dressed n =
        let vs : List Var = node_vars n in
        let g : Goal = n.goal in
        ap (λ (ws : List Var). numbered ws (dress n)) (node_vars-dressed n)
        ∙ (λ i. let m : Node = apply-dressed (numbering vs) n i in record m { goal = record m.goal { program = map (new_name vs) g.program; exist = map (new_name vs) g.exist } })

    limits-dressed : (n : Node) → is_within_limits (dress n) ≡ is_within_limits n
    limits-dressed n =
        let g : Goal = n.goal in
        let pre = length-map g.pre.chunks other in
        let post = length-map g.post.chunks other in
        let vars = node_vars-dressed n in
        let first = flat-other chunk_elements elements-other g.pre.chunks in
        let second = flat-other chunk_elements elements-other g.post.chunks in
        let before = sum-other chunk_units units-other g.pre.chunks in
        let behind = sum-other chunk_units units-other g.post.chunks in
        λ i. nat_le (pre i) 16 && nat_le (post i) 16
        && nat_le (length g.pure_pre) 40 && nat_le (length g.pure_post) 40
        && nat_le (length g.program) 12
        && nat_le (length (filter (λ v. not (is_set_var v)) (vars i))) 32
        && nat_le (length (filter is_set_var (vars i))) 12
        && nat_le (length (without_repeats term_eq (flat_map lit_elements g.pure_pre ++ first i ++ flat_map lit_elements g.pure_post ++ second i))) 6
        && nat_le (length n.links) 4
        && nat_le (length g.program + before i + behind i + sum_by lit_units g.pure_pre + sum_by lit_units g.pure_post + sum_by link_units n.links) 240

    keep_limits-dressed : (n : Node) → keep_limits (dress n) ≡ option_map (dressed_renaming preds size) (keep_limits n)
    keep_limits-dressed n =
        let m : Node = renumber n in
        ap₂ (λ b (x : Node). cond b (Some (record { node = x; old = n.goal.program })) None) (ap is_within_limits (renumber-dressed n) ∙ limits-dressed m) (renumber-dressed n)
        ∙ at_cond (option_map (dressed_renaming preds size)) (is_within_limits m) (Some (record { node = m; old = n.goal.program })) None

    -- ---- all steps

    abbrev finish : Node → Option Renaming
    finish m = keep_limits (prune (tidy_node m))

    finish-dressed : (m : Node) → finish (dress m) ≡ option_map (dressed_renaming preds size) (finish m)
    finish-dressed m =
        let t : Node = tidy_node m in
        ap keep_limits (ap prune (tidy_node-dressed m) ∙ prune-dressed t) ∙ keep_limits-dressed (prune t)

    finish_all : (o : Option Node) → option_and_then finish (option_map dress o) ≡ option_map (dressed_renaming preds size) (option_and_then finish o)
    finish_all None = refl
    finish_all (Some m) = finish-dressed m

pub dressing_law : DressingLaw
dressing_law preds size n = ap (option_and_then (finish size preds)) (solve-dressed size preds n) ∙ finish_all size preds (solve n)
