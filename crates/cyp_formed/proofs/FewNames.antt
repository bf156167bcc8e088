-- A goal within the limits has few names of each sort.
use Rattle.std.proofs.Common.{List, [], ap, arith, cond, false, filter, flat_map, inl, inr, length, map, not, refl, subst, sym, true, ◌++◌, ◌≤◌, ◌∙◌, ◌∷◌, ◌≡◌, ◌&&◌, ◌≢◌, ℕ, suc}
use Rattle.std.specs.Prelude.{Bool, nat_le}
use Rattle.std.proofs.lemmas.Bool.{and_parts, leb-true, not-true}
use Rattle.cyp_heap.specs.Chunks.{card_vars, chunk_vars, chunks_vars}
use Rattle.cyp_heap.specs.Formed.{all_differ, term_part_vars}
use Rattle.cyp_heap.specs.Goals.{goal_vars}
use Rattle.cyp_heap.specs.Limits.{goal_elements, is_goal_within}
use Rattle.cyp_heap.specs.declared.chunk.Chunk.{Chunk}
use Rattle.cyp_heap.specs.declared.chunk.Chunk.TheVariants.{Block, Cell, Inst}
use Rattle.cyp_heap.specs.declared.goal.Goal.{Goal}
use Rattle.cyp_term.specs.Terms.{is_set_var, lits_vars, sort_eq, term_eq, var_eq, var_in, without_repeats}
use Rattle.cyp_term.specs.declared.term.Sort.{Sort}
use Rattle.cyp_term.specs.declared.term.Sort.TheVariants.{Int, Set}
use Rattle.cyp_term.specs.declared.term.Var.{Var}
use Rattle.cyp_term.proofs.Equality.{Decides-var_eq}
use Rattle.cyp_term.proofs.Lists.{Among, Among-cases, Among-left, Among-map, Among-right, filter_in, filter_out, flat_in, flat_out, map_from, some_from}
use Rattle.cyp_term.proofs.Repeats.{without_repeats_in}
use Rattle.cyp_names.specs.Bodies.{kept_body}
use Rattle.cyp_names.specs.NameFaults.{chunk_faults}
use Rattle.cyp_names.specs.ReadTerms.{Scope, read_chunks, sort_in, use_var}
use Rattle.cyp_names.specs.Specifications.{count_sort, goal_scope, read_goal, universal_scope, with_cards}
use Rattle.cyp_text.specs.declared.tree.ChunkTree.{ChunkTree}
use Rattle.cyp_text.specs.declared.tree.TextTree.{TextTree}
use Rattle.cyp_names.specs.Uses.{Use, param_uses}
use Rattle.cyp_formed.proofs.Distinct.{Distinct, differ_mapped, distinct_all}
use Rattle.cyp_formed.proofs.FormedCards.{parts_with_cards}
use Rattle.cyp_names.proofs.GoalScopes.{first_uses, goal_grows, universal_grows}
use Rattle.cyp_formed.proofs.NamesStand.{body_goes}
use Rattle.cyp_formed.proofs.Maps.{length_mapped}

-- ---- different elements of a list

-- the list without an element
record Without (y : Var) (ys : List Var) : Type 0 where
  others : List Var
  one_less : length ys ≡ suc (length others)
  stay : (x : Var) → Among x ys → x ≢ y → Among x others

take_out : (y : Var) (ys : List Var) → Among y ys → Without y ys
take_out y [] m = absurd m
take_out y (z ∷ ys) (inl e) = record {
  others = ys;
  one_less = refl;
  stay = λ x k n. elim k [ inl same ↦ absurd (n (same ∙ sym e)) | inr more ↦ more ];
}
take_out y (z ∷ ys) (inr m) = by_rest (take_out y ys m)
  where
    by_rest : Without y ys → Without y (z ∷ ys)
    by_rest w = record {
      others = z ∷ w.others;
      one_less = ap suc w.one_less;
      stay = λ x k n. elim k [ inl same ↦ inl same | inr more ↦ inr (w.stay x more n) ];
    }

-- no more different elements than the list has
no_more : (xs ys : List Var) → all_differ xs ≡ true → ((x : Var) → Among x xs → Among x ys) → length xs ≤ length ys
no_more [] ys d h = omega arith
no_more (x ∷ xs) ys d h =
    let parts = and_parts (not (var_in x xs)) (all_differ xs) d in
    let w : Without x ys = take_out x ys (h x (inl refl)) in
    let new : var_in x xs ≡ false = not-true (var_in x xs) parts.0 in
    let rest : length xs ≤ length w.others = no_more xs w.others parts.1 (λ z m. w.stay z (h z (inr m)) (apart new z m)) in
    omega (arith, w.one_less)
  where
    apart : var_in x xs ≡ false → (z : Var) → Among z xs → z ≢ x
    apart new z m same = let yes : var_in x xs ≡ true = some_from (var_eq x) z xs m ((Decides-var_eq x z).1 (sym same)) in absurd cc

distinct_filter : (p : Use → Bool) (us : Scope) → Distinct us → Distinct (filter p us)
distinct_filter p [] d = tt
distinct_filter p (u ∷ us) d = by_test (distinct_filter p us d.1) (p u)
  where
    by_test : Distinct (filter p us) → (t : Bool) → Distinct (cond t (u ∷ filter p us) (filter p us))
    by_test h true = ((λ w m. d.0 w (filter_out p w us m).0), h)
    by_test h false = h

-- ---- the variables of a goal

part_stands : (cs : List Chunk) (v : Var) → Among v (flat_map term_part_vars cs) → Among v (chunks_vars cs)
part_stands cs v m =
    let o = flat_out term_part_vars v cs m in
    flat_in chunk_vars v o.0 cs o.1 (in_chunk o.0 o.2)
  where
    in_chunk : (c : Chunk) → Among v (term_part_vars c) → Among v (chunk_vars c)
    in_chunk (Inst i) k = Among-left v (term_part_vars (Inst i)) (card_vars i.card) k
    in_chunk (Block b) k = k
    in_chunk (Cell c) k = k

within_counts : (a b c d : Bool) → (a && b && c && d) ≡ true → (b ≡ true) × (c ≡ true)
within_counts a b c d k =
    let first = and_parts (a && b && c) d k in
    let second = and_parts (a && b) c first.0 in
    ((and_parts a b second.0).1, second.1)

-- few variables of each sort stand in a goal within the limits
goal_few : (g : Goal) → is_goal_within g ≡ true
    → (length (filter (λ (v : Var). sort_eq v.sort Int) (without_repeats var_eq (goal_vars g))) ≤ 64) × (length (filter is_set_var (without_repeats var_eq (goal_vars g))) ≤ 32)
goal_few g e = (leb-true _ 64 counts.0, leb-true _ 32 counts.1)
  where
    vs : List Var
    vs = without_repeats var_eq (goal_vars g)

    front : Bool
    front = nat_le (length g.pre.chunks) 16 && nat_le (length g.post.chunks) 16 && nat_le (length g.pure_pre) 40 && nat_le (length g.pure_post) 40 && nat_le (length g.program) 12

    counts : (nat_le (length (filter (λ (v : Var). sort_eq v.sort Int) vs)) 64 ≡ true) × (nat_le (length (filter is_set_var vs)) 32 ≡ true)
    counts = within_counts front (nat_le (length (filter (λ (v : Var). sort_eq v.sort Int) vs)) 64) (nat_le (length (filter is_set_var vs)) 32) (nat_le (length (without_repeats term_eq (goal_elements g))) 32) e

module _ (t : TextTree) (right : (c : ChunkTree) → Among c (t.pre.chunks ++ t.post.chunks) → chunk_faults t.preds c ≡ []) where
  abbrev sc : Scope
  sc = goal_scope t

  abbrev kept : List Use
  kept = first_uses t ++ kept_body t.preds t.post

  abbrev goal : Goal
  goal = read_goal t

  -- each name of the scope is one of those that are kept
  scope_kept : (u : Use) → Among u sc → Among u kept
  scope_kept u m = elim (Among-cases u (universal_scope t) (goal_grows t).more (subst (λ (us : Scope). Among u us) (goal_grows t).parts m)) [
    | inl a ↦ Among-left u (first_uses t) (kept_body t.preds t.post) ((universal_grows t).only u (subst (λ (us : Scope). Among u us) (universal_grows t).parts a))
    | inr b ↦ Among-right u (first_uses t) (kept_body t.preds t.post) ((goal_grows t).only u b)
  ]

  abbrev in_pre : List Var
  in_pre = goal.program ++ chunks_vars goal.pre.chunks

  in_chunks_pre : (v : Var) → Among v (chunks_vars goal.pre.chunks) → Among v (goal_vars goal)
  in_chunks_pre v m = Among-left v (in_pre ++ chunks_vars goal.post.chunks ++ lits_vars goal.pure_pre) (lits_vars goal.pure_post)
      (Among-left v (in_pre ++ chunks_vars goal.post.chunks) (lits_vars goal.pure_pre) (Among-left v in_pre (chunks_vars goal.post.chunks) (Among-right v goal.program (chunks_vars goal.pre.chunks) m)))

  in_chunks_post : (v : Var) → Among v (chunks_vars goal.post.chunks) → Among v (goal_vars goal)
  in_chunks_post v m = Among-left v (in_pre ++ chunks_vars goal.post.chunks ++ lits_vars goal.pure_pre) (lits_vars goal.pure_post)
      (Among-left v (in_pre ++ chunks_vars goal.post.chunks) (lits_vars goal.pure_pre) (Among-right v in_pre (chunks_vars goal.post.chunks) m))

  in_lits_pre : (v : Var) → Among v (lits_vars goal.pure_pre) → Among v (goal_vars goal)
  in_lits_pre v m = Among-left v (in_pre ++ chunks_vars goal.post.chunks ++ lits_vars goal.pure_pre) (lits_vars goal.pure_post)
      (Among-right v (in_pre ++ chunks_vars goal.post.chunks) (lits_vars goal.pure_pre) m)

  in_lits_post : (v : Var) → Among v (lits_vars goal.pure_post) → Among v (goal_vars goal)
  in_lits_post v m = Among-right v (in_pre ++ chunks_vars goal.post.chunks ++ lits_vars goal.pure_pre) (lits_vars goal.pure_post) m

  in_program : (v : Var) → Among v goal.program → Among v (goal_vars goal)
  in_program v m = Among-left v (in_pre ++ chunks_vars goal.post.chunks ++ lits_vars goal.pure_pre) (lits_vars goal.pure_post)
      (Among-left v (in_pre ++ chunks_vars goal.post.chunks) (lits_vars goal.pure_pre) (Among-left v in_pre (chunks_vars goal.post.chunks) (Among-left v goal.program (chunks_vars goal.pre.chunks) m)))

  in_goal : (u : Use) → Among u kept → Among (use_var sc u) (goal_vars goal)
  in_goal u m = elim (Among-cases u (first_uses t) (kept_body t.preds t.post) m) [
    | inr b ↦ elim (body_goes sc u t.preds t.post (λ c k. right c (Among-right c t.pre.chunks t.post.chunks k)) b) [
      | inl l ↦ in_lits_post (use_var sc u) l
      | inr k ↦ in_chunks_post (use_var sc u) (part_stands (read_chunks t.preds sc t.post) (use_var sc u) k)
    ]
    | inl a ↦ elim (Among-cases u (param_uses t.params) (kept_body t.preds t.pre) a) [
      | inl p ↦ in_program (use_var sc u) (Among-map (use_var sc) u (param_uses t.params) p)
      | inr b ↦ elim (body_goes sc u t.preds t.pre (λ c k. right c (Among-left c t.pre.chunks t.post.chunks k)) b) [
        | inl l ↦ in_lits_pre (use_var sc u) l
        | inr k ↦ in_chunks_pre (use_var sc u) (part_stands (with_cards 0 (read_chunks t.preds sc t.pre)) (use_var sc u)
            (subst (λ (vs : List Var). Among (use_var sc u) vs) (sym (parts_with_cards 0 (read_chunks t.preds sc t.pre))) k))
      ]
    ]
  ]

  module _ (sorted : (u : Use) → Among u kept → sort_in sc u.name.text ≡ u.sort) where
    distinct : Distinct sc
    distinct = distinct_all (universal_scope t) (kept_body t.preds t.post) (distinct_all [] (first_uses t) tt)

    -- no more names of a sort than variables of the goal
    count_within : (s : Sort) → count_sort s sc ≤ length (filter (λ (v : Var). sort_eq v.sort s) (without_repeats var_eq (goal_vars goal)))
    count_within s =
        subst (λ (n : ℕ). n ≤ length (filter test (without_repeats var_eq (goal_vars goal)))) (length_mapped (use_var sc) names)
        (no_more (map (use_var sc) names) (filter test (without_repeats var_eq (goal_vars goal))) (differ_mapped sc names (λ u m. (u, (filter_out of_sort u sc m).0, refl)) (distinct_filter of_sort sc distinct)) stands)
      where
        test : Var → Bool
        test v = sort_eq v.sort s

        of_sort : Use → Bool
        of_sort u = sort_eq u.sort s

        names : Scope
        names = filter of_sort sc

        stands : (v : Var) → Among v (map (use_var sc) names) → Among v (filter test (without_repeats var_eq (goal_vars goal)))
        stands v m =
            let f = map_from (use_var sc) v names m in
            let o = filter_out of_sort f.0 sc f.1 in
            let here : Among f.0 kept = scope_kept f.0 o.0 in
            let there : Among v (goal_vars goal) = subst (λ (w : Var). Among w (goal_vars goal)) (sym f.2) (in_goal f.0 here) in
            let sort_is : sort_eq v.sort s ≡ true = ap (λ (r : Sort). sort_eq r s) (ap (λ (w : Var). w.sort) f.2 ∙ sorted f.0 here) ∙ o.1 in
            filter_in test v (without_repeats var_eq (goal_vars goal)) (without_repeats_in var_eq Decides-var_eq v (goal_vars goal) there) sort_is

    pub few_names : is_goal_within goal ≡ true → (count_sort Int sc ≤ 64) × (count_sort Set sc ≤ 64)
    few_names e = (ints (goal_few goal e).0, sets (goal_few goal e).1)
      where
        ints : length (filter (λ (v : Var). sort_eq v.sort Int) (without_repeats var_eq (goal_vars goal))) ≤ 64 → count_sort Int sc ≤ 64
        ints h = omega (arith, count_within Int)

        sets : length (filter is_set_var (without_repeats var_eq (goal_vars goal))) ≤ 32 → count_sort Set sc ≤ 64
        sets h = omega (arith, count_within Set)
