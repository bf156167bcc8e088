-- A text without faults whose numbers are small can be read.
use Rattle.std.proofs.Common.{Bool, List, [], arith, cond, false, filter, flat_map, inl, inr, length, map, refl, true, ◌+◌, ◌++◌, ◌<◌, ◌≤◌, ◌∷◌, ◌≡◌, ◌≢◌}
use Rattle.std.specs.Prelude.{is_some, nat_le, ◌&&◌}
use Rattle.std.specs.List.{All}
use Rattle.std.proofs.lemmas.Bool.{and_parts, leb-true}
use Rattle.std.proofs.lemmas.List.{length-map}
use Rattle.cyp_goal.specs.Normal.{normal}
use Rattle.cyp_heap.specs.Goals.{goal_vars}
use Rattle.cyp_heap.specs.Limits.{goal_elements, is_goal_within}
use Rattle.cyp_heap.specs.declared.chunk.Chunk.{Chunk}
use Rattle.cyp_heap.specs.declared.goal.Goal.{Goal}
use Rattle.cyp_reading.specs.Readable.{BodyReadable, ChunkReadable}
use Rattle.cyp_reading.specs.ReadableTexts.{ClauseReadable, GoalReadable, PredReadable}
use Rattle.cyp_spec.specs.Small.{BodySmall, ChunkSmall, ClauseSmall, PredSmall, TextSmall}
use Rattle.cyp_reading.proofs.Alls.{all_by}
use Rattle.cyp_spec.proofs.SortedRead.{Sorted, chunk_readable, lit_readable, pure_readable, sorted_flat, sorted_left, sorted_right}
use Rattle.cyp_term.specs.Terms.{is_set_var, sort_eq, term_eq, var_eq, without_repeats}
use Rattle.cyp_term.specs.declared.term.Sort.{Sort}
use Rattle.cyp_term.specs.declared.term.Sort.TheVariants.{Card, Int, Set}
use Rattle.cyp_term.specs.declared.term.Var.{Var}
use Rattle.cyp_term.proofs.Lists.{Among, Among-left, Among-right, filter_in}
use Rattle.cyp_names.specs.Bodies.{body_lits, in_kinds, is_block, is_cell, is_instance, kept_body, kept_lit, kept_parts}
use Rattle.cyp_formed.specs.LimitFaults.{is_root_within, limit_faults, root_of}
use Rattle.cyp_names.specs.PredFaults.{pred_limit_faults, size_faults}
use Rattle.cyp_names.specs.NameFaults.{clauses, name_faults, pred_faults, proc_faults, repeats}
use Rattle.cyp_names.specs.ReadTerms.{Scope, read_chunk, read_chunks}
use Rattle.cyp_names.specs.Specifications.{clause_scope, count_sort, goal_scope, read_goal, read_tree}
use Rattle.cyp_names.specs.Uses.{Use, chunk_uses}
use Rattle.cyp_text.specs.declared.tree.BodyTree.{BodyTree}
use Rattle.cyp_text.specs.declared.tree.ChunkTree.{ChunkTree}
use Rattle.cyp_text.specs.declared.tree.ChunkTree.TheVariants.{BlockOf, InstanceOf, NamedCell, TermCell}
use Rattle.cyp_text.specs.declared.tree.ClauseTree.{ClauseTree}
use Rattle.cyp_text.specs.declared.tree.PredTree.{PredTree}
use Rattle.cyp_text.specs.declared.tree.TextTree.{TextTree}
use Rattle.cyp_formed.proofs.FormedClauses.{name_sort as clause_sort}
use Rattle.cyp_formed.proofs.FormedPreds.{parts_none, short_by}
use Rattle.cyp_names.proofs.NoFaults.{none_both, none_each, test_true}
use Rattle.cyp_formed.proofs.FormedSorts.{name_sort as goal_sort}
use Rattle.cyp_formed.proofs.ClauseNames.{in_body, in_guard, ok as clause_ok}
use Rattle.cyp_formed.proofs.GoalNames.{in_post, in_pre, ok as goal_ok}
use Rattle.cyp_formed.proofs.Nameables.{Nameable}
use Rattle.cyp_formed.proofs.PredsRight.{clause_right, clause_within, each_part_none, once}
use Rattle.cyp_reading.proofs.Lengths.{cards_length, kinds_length}

-- ---- few names

count_by : (s : Sort) → s ≢ Card → (u : Use) (us : Scope) → length us ≤ count_sort Int us + count_sort Set us
    → length (u ∷ us) ≤ length (cond (sort_eq s Int) (u ∷ filter (λ (w : Use). sort_eq w.sort Int) us) (filter (λ (w : Use). sort_eq w.sort Int) us))
    + length (cond (sort_eq s Set) (u ∷ filter (λ (w : Use). sort_eq w.sort Set) us) (filter (λ (w : Use). sort_eq w.sort Set) us))
count_by Int n u us h = omega (arith, h)
count_by Set n u us h = omega (arith, h)
count_by Card n u us h = absurd (n refl)

pub count_all : (sc : Scope) → ((u : Use) → Among u sc → u.sort ≢ Card) → length sc ≤ count_sort Int sc + count_sort Set sc
count_all [] h = omega arith
count_all (u ∷ us) h = count_by u.sort (h u (inl refl)) u us (count_all us (λ w m. h w (inr m)))

few_in : (sc : Scope) → Nameable sc → length sc ≤ 255
few_in sc ok = omega (arith, count_all sc ok.plain, ok.few_ints, ok.few_sets)

-- ---- limits

first_test : (a b c d e f g h : Bool) → (a && b && c && d && e && f && g && h) ≡ true → a ≡ true
first_test true b c d e f g h k = refl
first_test false b c d e f g h k = absurd cc

-- a goal within the limits has few chunks
pre_few : (g : Goal) → is_goal_within g ≡ true → length g.pre.chunks ≤ 16
pre_few g e =
    let vs : List Var = without_repeats var_eq (goal_vars g) in
    leb-true (length g.pre.chunks) 16 (first_test (nat_le (length g.pre.chunks) 16) (nat_le (length g.post.chunks) 16) (nat_le (length g.pure_pre) 40) (nat_le (length g.pure_post) 40) (nat_le (length g.program) 12)
    (nat_le (length (filter (λ (v : Var). sort_eq v.sort Int) vs)) 64) (nat_le (length (filter is_set_var vs)) 32) (nat_le (length (without_repeats term_eq (goal_elements g))) 32) e)

chunks_few : (t : TextTree) → is_goal_within (read_goal t) ≡ true → length t.pre.chunks ≤ 255
chunks_few t e =
    let read : List Chunk = read_chunks t.preds (goal_scope t) t.pre in
    omega (arith, pre_few (read_goal t) e, cards_length 0 read, length-map (in_kinds t.pre.chunks) (read_chunk t.preds (goal_scope t)), kinds_length t.pre.chunks)

-- ---- bodies

-- each chunk is of a kind
pub in_a_kind : (c : ChunkTree) (cs : List ChunkTree) → Among c cs → Among c (in_kinds cs)
in_a_kind (InstanceOf i xs) cs m = Among-left _ (filter is_instance cs ++ filter is_block cs) (filter is_cell cs) (Among-left _ (filter is_instance cs) (filter is_block cs) (filter_in is_instance (InstanceOf i xs) cs m refl))
in_a_kind (BlockOf a p n) cs m = Among-left _ (filter is_instance cs ++ filter is_block cs) (filter is_cell cs) (Among-right _ (filter is_instance cs) (filter is_block cs) (filter_in is_block (BlockOf a p n) cs m refl))
in_a_kind (NamedCell i t) cs m = Among-right _ (filter is_instance cs ++ filter is_block cs) (filter is_cell cs) (filter_in is_cell (NamedCell i t) cs m refl)
in_a_kind (TermCell a t) cs m = Among-right _ (filter is_instance cs ++ filter is_block cs) (filter is_cell cs) (filter_in is_cell (TermCell a t) cs m refl)

module _ (qs : List PredTree) (few : length qs < 256) (sc : Scope) (b : BodyTree) (small : BodySmall b) (sorted : Sorted sc (kept_body qs b)) where
  abbrev lit_part : List Use
  lit_part = flat_map (kept_lit false) (body_lits b)

  abbrev chunk_part : List Use
  chunk_part = flat_map (chunk_uses kept_parts qs) (in_kinds b.chunks)

  pub body_readable : BodyReadable qs sc b
  body_readable = record {
    pure = pure_readable sc b.pure small.pure (λ l m. sorted_flat sc (kept_lit false) l (body_lits b) m (sorted_left sc lit_part chunk_part sorted));
    chunks = all_by ChunkSmall (ChunkReadable qs sc) b.chunks (λ c m k.
        chunk_readable sc qs few c k (sorted_flat sc (chunk_uses kept_parts qs) c (in_kinds b.chunks) (in_a_kind c b.chunks m) (sorted_right sc lit_part chunk_part sorted))) small.chunks;
  }

-- ---- predicates

module _ (qs : List PredTree) (right : flat_map (pred_faults qs) qs ≡ []) (within : flat_map (pred_limit_faults qs) qs ≡ []) (few : length qs < 256) where
  module _ (q : PredTree) (m : Among q qs) where
    q_right : pred_faults qs q ≡ []
    q_right = none_each (pred_faults qs) qs right q m

    q_within : pred_limit_faults qs q ≡ []
    q_within = none_each (pred_limit_faults qs) qs within q m

    sizes_right : (c : ClauseTree) → Among c (clauses q) → size_faults c.body ≡ []
    sizes_right = none_each (λ (c : ClauseTree). size_faults c.body) (clauses q) (each_part_none qs q q_right q_within).2

    clause_readable : (c : ClauseTree) → Among c (clauses q) → ClauseSmall c → ClauseReadable qs q.params c
    clause_readable c n s =
        let a = once qs q q_right q_within in
        let e = clause_right qs q q_right q_within c n in
        let w = clause_within qs q q_right q_within c n in
        let sc : Scope = clause_scope qs q.params c in
        record {
          inside = record {
            few = few_in sc (clause_ok qs q.params c a e w);
            guard = lit_readable sc false c.guard s.guard (λ u k. clause_sort qs q.params c a e u (in_guard qs q.params c a e w u k));
            body = body_readable qs few sc c.body s.body (λ u k. clause_sort qs q.params c a e u (in_body qs q.params c a e w u k));
          };
          sizes = sizes_right c n;
        }

  -- each predicate
  pub each_readable : All PredSmall qs → All (PredReadable qs) qs
  each_readable small = all_by PredSmall (PredReadable qs) qs (λ q m s. (clause_readable q m q.first (inl refl) s.0, all_by ClauseSmall (ClauseReadable qs q.params) q.others (λ c k. clause_readable q m c (inr k)) s.1)) small

-- the two bodies of a goal within the limits
pub bodies_readable : (t : TextTree) → name_faults t ≡ [] → is_goal_within (read_goal t) ≡ true → length t.preds < 256 → BodySmall t.pre → BodySmall t.post → GoalReadable t
bodies_readable t right within few pre post = record {
  few = few_in (goal_scope t) (goal_ok t right within);
  few_chunks = chunks_few t within;
  pre = body_readable t.preds few (goal_scope t) t.pre pre (λ u m. goal_sort t right u (in_pre t right within u m));
  post = body_readable t.preds few (goal_scope t) t.post post (λ u m. goal_sort t right u (in_post t right within u m));
}

-- ---- a text without faults

module _ (t : TextTree) (right : name_faults t ≡ []) (within : limit_faults t ≡ []) (small : TextSmall t) where
  abbrev qs : List PredTree
  qs = t.preds

  preds_right : flat_map (pred_faults qs) qs ≡ []
  preds_right =
      (none_both (repeats [] (map (λ (q : PredTree). q.name) qs)) (flat_map (pred_faults qs) qs)
      (none_both (repeats [] (map (λ (q : PredTree). q.name) qs) ++ flat_map (pred_faults qs) qs) (proc_faults t) right).0).1

  few_preds : length qs < 256
  few_preds = omega (arith, short_by 16 qs (parts_none t right within).1)

  pub preds_readable : All (PredReadable qs) qs
  preds_readable = each_readable qs preds_right (parts_none t right within).0 few_preds small.preds

  goal_within : is_goal_within (read_goal t) ≡ true
  goal_within =
      (and_parts (is_goal_within (read_goal t)) (is_some (normal (root_of (read_tree t)))) (test_true (is_root_within (read_tree t)) _ [] (parts_none t right within).4)).0

  pub goal_readable : GoalReadable t
  goal_readable = bodies_readable t right goal_within few_preds small.pre small.post

  pub pre_sizes : size_faults t.pre ≡ []
  pre_sizes = (parts_none t right within).2

  pub post_sizes : size_faults t.post ≡ []
  post_sizes = (parts_none t right within).3

  pub root_right : is_root_within (read_tree t) ≡ true
  root_right = test_true (is_root_within (read_tree t)) _ [] (parts_none t right within).4
