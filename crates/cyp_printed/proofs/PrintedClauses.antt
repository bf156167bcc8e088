-- Clauses that are printed: they are read as what they were, and have no faults.
use Rattle.std.proofs.Common.{List, [], ap, append_assoc, cond, false, filter, flat_map, inl, inr, length, map, not, refl, subst, sym, true, ◌++◌, ◌∙◌, ◌≡◌, ◌&&◌, ℕ}
use Rattle.std.specs.Prelude.{Bool}
use Rattle.std.specs.List.{list_any}
use Rattle.std.specs.Str.{bytes_eq}
use Rattle.std.proofs.lemmas.Bool.{and_parts}
use Rattle.std.proofs.lemmas.Slice.Eq.{bytes_eq-Decides}
use Rattle.cyp_goal.specs.Raw.{lit_once}
use Rattle.cyp_lex.specs.declared.ident.Ident.{Ident}
use Rattle.cyp_heap.specs.PredsFormed.{is_clause_within}
use Rattle.cyp_heap.specs.declared.pred.Clause.{Clause}
use Rattle.cyp_lex.specs.declared.fault.FaultKind.TheVariants.{UnboundVariable, Unproductive, WrongSort}
use Rattle.cyp_term.specs.Terms.{sort_eq, with_all_new}
use Rattle.cyp_term.specs.declared.lit.Lit.{Lit}
use Rattle.cyp_term.specs.declared.term.Sort.{Sort}
use Rattle.cyp_term.specs.declared.term.Sort.TheVariants.{Int, Set}
use Rattle.cyp_term.specs.declared.term.Term.{Term}
use Rattle.cyp_term.specs.declared.term.Var.{Var}
use Rattle.cyp_term.proofs.Lists.{Among, Among-cases, Among-map, map_from, some_from, some_out}
use Rattle.cyp_names.specs.Bodies.{body_uses, is_cell, is_instance, kept_body, kept_lit}
use Rattle.cyp_names.specs.PredFaults.{size_faults, unproductive_fault}
use Rattle.cyp_names.specs.NameFaults.{chunk_faults, clause_faults, fault_at, guard_faults, is_set_literal, lit_place, param_names, repeats, sort_faults, unbound_fault}
use Rattle.cyp_writing.specs.PrintedTrees.{lit_tree, param_tree, params_from, var_ident}
use Rattle.cyp_names.specs.ReadTerms.{Scope, compared, read_chunks, read_int, read_lit, read_lits, use_var, var_named}
use Rattle.cyp_names.specs.Specifications.{clause_scope, count_sort, read_clause}
use Rattle.cyp_text.specs.LitTrees.{Comparing, Inside, LitTree, Negation, SameSets, SubSets}
use Rattle.cyp_text.specs.declared.tree.ClauseTree.{ClauseTree}
use Rattle.cyp_text.specs.declared.tree.Comparison.{Comparison}
use Rattle.cyp_text.specs.declared.tree.Comparison.TheVariants.{IsEqual}
use Rattle.cyp_text.specs.declared.tree.ParamTree.{ParamTree}
use Rattle.cyp_text.specs.declared.tree.PredTree.{PredTree}
use Rattle.cyp_names.specs.Uses.{Use, lit_uses, param_sort, param_uses, same_name}
use Rattle.cyp_formed.proofs.Distinct.{Distinct}
use Rattle.cyp_formed.proofs.FirstNames.{begins_with}
use Rattle.cyp_names.proofs.NoFaults.{none_both, none_each, test_true, test_false}
use Rattle.cyp_formed.proofs.FormedOnce.{lits_once}
use Rattle.cyp_formed.proofs.FormedScope.{distinct_params}
use Rattle.cyp_formed.proofs.Names.{Comes, lit_comes}
use Rattle.cyp_printed.proofs.PrintedAgain.{again_clause, again_params, again_preds}
use Rattle.cyp_printed.proofs.PrintedBack.{IsBack, lit_back}
use Rattle.cyp_printed.proofs.PrintedBodies.{body_firsts, chunks_again, chunks_right_again, kept_again, lits_again, owns_again, sizes_again, written_again}
use Rattle.cyp_printed.proofs.PrintedFirsts.{Firsts, firsts_mapped, firsts_same}
use Rattle.cyp_printed.proofs.PrintedKept.{lit_kept, under, under_not}
use Rattle.cyp_formed.proofs.Maps.{filter_mapped, length_mapped, none_from}
use Rattle.cyp_formed.proofs.Nameables.{HasAll}
use Rattle.cyp_printed.proofs.PrintedNames.{printed_all_new, printed_use, read_back}
use Rattle.cyp_printed.proofs.PrintedParams.{IsPrinted, distinct_printed, names_of, no_params_twice, no_sort_faults, param_vars, params_printed}
use Rattle.cyp_printed.proofs.PrintedUses.{kept_printed_lit, written_lit}
use Rattle.cyp_names.proofs.ScopeNames.{Has, grow}
use Rattle.cyp_formed.proofs.TextOrder.{lit_in}
use Rattle.cyp_formed.proofs.ClauseNames.{alone, chunks_right, guard_none, has, in_body, in_guard, in_params, ok, right}

-- ---- guards

printed_compared : (n : Bool) (c : Comparison) (a b : Term) → is_set_literal (lit_tree (under n (compared c a b))) ≡ false
printed_compared false IsEqual a b = refl
printed_compared true IsEqual a b = refl
printed_compared false _ a b = refl
printed_compared true _ a b = refl

printed_kind : (sc : Scope) (n : Bool) (l : LitTree) → is_set_literal (lit_tree (under n (read_lit sc l))) ≡ is_set_literal l
printed_kind sc n (Comparing a c b) = printed_compared n c (read_int sc a) (read_int sc b)
printed_kind sc false (SameSets a b) = refl
printed_kind sc true (SameSets a b) = refl
printed_kind sc false (SubSets a b) = refl
printed_kind sc true (SubSets a b) = refl
printed_kind sc false (Inside a b) = refl
printed_kind sc true (Inside a b) = refl
printed_kind sc n (Negation p l) = ap (λ (x : Lit). is_set_literal (lit_tree x)) (under_not n (read_lit sc l)) ∙ printed_kind sc (not n) l

once_alone : (sc : Scope) (l : LitTree) → lit_once (read_lit sc l) ≡ true
once_alone sc l = (and_parts (lit_once (read_lit sc l)) true (lits_once sc (alone l))).0

-- ---- a clause

module _ (qs : List PredTree) (ps : List ParamTree) (c : ClauseTree) (once : repeats [] (param_names ps) ≡ []) (none : clause_faults qs ps c ≡ []) (within : is_clause_within (read_clause qs ps c) ≡ true) where
  abbrev sc : Scope
  sc = clause_scope qs ps c

  abbrev kept : List Use
  kept = param_uses ps ++ kept_lit false c.guard ++ kept_body qs c.body

  -- the clause as it is printed
  abbrev again : ClauseTree
  again = again_clause qs ps c

  pars_distinct : Distinct (param_uses ps)
  pars_distinct = distinct_params [] ps once

  -- ---- the parameters

  -- the variables of the parameters, by number
  pub param_vars_are : map (use_var sc) (param_uses ps) ≡ params_from [] (map param_sort ps)
  param_vars_are = ap (λ (us : Scope). map (use_var us) (param_uses ps)) begins ∙ param_vars ps (grow (param_uses ps) others).more pars_distinct
    where
      others : List Use
      others = kept_lit false c.guard ++ kept_body qs c.body

      begins : sc ≡ param_uses ps ++ (grow (param_uses ps) others).more
      begins = ap (λ (us : List Use). with_all_new same_name [] us) (append_assoc (param_uses ps) (kept_lit false c.guard) (kept_body qs c.body)) ∙ begins_with (param_uses ps) others pars_distinct

  pub params_again : param_uses (again_params ps) ≡ map (printed_use sc) (param_uses ps)
  params_again = ap (λ (vs : List Var). param_uses (map param_tree vs)) (sym param_vars_are) ∙ params_printed sc ps (λ u m. right qs ps c once none within u (in_params qs ps c once none within u m))

  pub no_param_twice : repeats [] (param_names (again_params ps)) ≡ []
  no_param_twice = no_params_twice (again_params ps) (subst (λ (us : List Use). Distinct us) (sym params_again) (distinct_printed sc (ok qs ps c once none within) (param_uses ps) (λ u m. has qs ps c once none within u (in_params qs ps c once none within u m)) pars_distinct))

  -- ---- the scope

  guard_firsts : Firsts (kept_lit false again.guard) (map (printed_use sc) (kept_lit false c.guard))
  guard_firsts = subst (λ (us : List Use). Firsts us (map (printed_use sc) (kept_lit false c.guard))) (sym (kept_printed_lit (read_lit sc c.guard))) (lit_kept sc false c.guard)

  names_firsts : Firsts (param_uses (again_params ps) ++ kept_lit false again.guard ++ kept_body (again_preds qs) again.body) (map (printed_use sc) kept)
  names_firsts =
      firsts_mapped (printed_use sc) (param_uses (again_params ps) ++ kept_lit false again.guard) (kept_body (again_preds qs) again.body) (param_uses ps ++ kept_lit false c.guard) (kept_body qs c.body)
      (firsts_mapped (printed_use sc) (param_uses (again_params ps)) (kept_lit false again.guard) (param_uses ps) (kept_lit false c.guard) (firsts_same _ _ params_again) guard_firsts)
      (subst (λ (us : List Use). Firsts us (map (printed_use sc) (kept_body qs c.body))) (sym (kept_again qs sc c.body (chunks_right qs ps c once none within))) (body_firsts qs sc c.body (chunks_right qs ps c once none within)))

  scope_again : clause_scope (again_preds qs) (again_params ps) again ≡ map (printed_use sc) sc
  scope_again = names_firsts.alike [] ∙ printed_all_new sc (ok qs ps c once none within) [] kept (λ u m. absurd m) (has qs ps c once none within)

  -- ---- what is read

  abbrev printed_sc : Scope
  printed_sc = map (printed_use sc) sc

  back : (a : List ℕ) → Has sc a → IsBack printed_sc (var_named sc a)
  back a h = read_back sc (ok qs ps c once none within) a h

  guard_back : read_lit printed_sc again.guard ≡ read_lit sc c.guard
  guard_back = lit_back printed_sc (read_lit sc c.guard) (λ v m. come v (lit_comes sc v false c.guard m)) (once_alone sc c.guard)
    where
      come : (v : Var) → Comes sc (kept_lit false c.guard) v → IsBack printed_sc v
      come v k = subst (λ (w : Var). IsBack printed_sc w) (sym k.2) (back k.0.name.text (has qs ps c once none within k.0 (in_guard qs ps c once none within k.0 k.1)))

  count_again : (s : Sort) → count_sort s printed_sc ≡ count_sort s sc
  count_again s =
      ap length (filter_mapped (printed_use sc) (λ (u : Use). sort_eq u.sort s) (λ (u : Use). sort_eq u.sort s) (λ u. refl) sc)
      ∙ length_mapped (printed_use sc) (filter (λ (u : Use). sort_eq u.sort s) sc)

  pub clause_again : read_clause (again_preds qs) (again_params ps) again ≡ read_clause qs ps c
  clause_again = ap said scope_again ∙ (λ i. record {
    guard = guard_back i;
    lits = lits_again qs sc c.body (chunks_right qs ps c once none within) printed_sc body_has back i;
    heap = record { chunks = chunks_again qs sc c.body (chunks_right qs ps c once none within) printed_sc body_has back i };
    ints = count_again Int i;
    sets = count_again Set i;
  })
    where
      body_has : HasAll sc (kept_body qs c.body)
      body_has u m = has qs ps c once none within u (in_body qs ps c once none within u m)

      said : Scope → Clause
      said sd = record {
        guard = read_lit sd again.guard;
        lits = read_lits sd again.body;
        heap = record { chunks = read_chunks (again_preds qs) sd again.body };
        ints = count_sort Int sd;
        sets = count_sort Set sd;
      }

  -- ---- faults

  -- the printed uses are those of kept names
  body_printed : (u : Use) → Among u (body_uses (again_preds qs) again.body) → IsPrinted sc (ok qs ps c once none within) kept u
  body_printed u m =
      let f = map_from (printed_use sc) u (kept_body qs c.body) ((body_firsts qs sc c.body (chunks_right qs ps c once none within)).within u (subst (λ (us : List Use). Among u us) (written_again qs sc c.body (chunks_right qs ps c once none within)) m)) in
      (f.0, in_body qs ps c once none within f.0 f.1, f.2)

  guard_printed : (u : Use) → Among u (lit_uses again.guard) → (w : Use) × Among w (kept_lit false c.guard) × (u ≡ printed_use sc w)
  guard_printed u m = map_from (printed_use sc) u (kept_lit false c.guard) ((lit_kept sc false c.guard).within u (subst (λ (us : List Use). Among u us) (written_lit (read_lit sc c.guard)) m))

  no_wrong_sorts : sort_faults (param_uses (again_params ps)) (lit_uses again.guard ++ body_uses (again_preds qs) again.body) ≡ []
  no_wrong_sorts = no_sort_faults sc (ok qs ps c once none within) kept (has qs ps c once none within) (right qs ps c once none within) (param_uses (again_params ps)) (lit_uses again.guard ++ body_uses (again_preds qs) again.body) params_printed_uses uses_printed
    where
      params_printed_uses : (w : Use) → Among w (param_uses (again_params ps)) → IsPrinted sc (ok qs ps c once none within) kept w
      params_printed_uses w m = let f = map_from (printed_use sc) w (param_uses ps) (subst (λ (us : List Use). Among w us) params_again m) in (f.0, in_params qs ps c once none within f.0 f.1, f.2)

      uses_printed : (w : Use) → Among w (lit_uses again.guard ++ body_uses (again_preds qs) again.body) → IsPrinted sc (ok qs ps c once none within) kept w
      uses_printed w m = elim (Among-cases w (lit_uses again.guard) (body_uses (again_preds qs) again.body) m) [
        | inl a ↦ (let g = guard_printed w a in (g.0, in_guard qs ps c once none within g.0 g.1, g.2))
        | inr b ↦ body_printed w b
      ]

  -- the guard's names are parameters
  none_unbound : (u : Use) → Among u (lit_uses again.guard) → unbound_fault (again_params ps) u ≡ []
  none_unbound u m = by_use (guard_printed u m)
    where
      by_param : (w : Use) → (p : Ident) × Among p (param_names ps) × (bytes_eq p.text w.name.text ≡ true) → u ≡ printed_use sc w → unbound_fault (again_params ps) u ≡ []
      by_param w k e =
          let x = map_from (λ (r : Use). r.name) k.0 (param_uses ps) (subst (λ (is : List Ident). Among k.0 is) (names_of ps) k.1) in
          let same : x.0.name.text ≡ w.name.text = ap (λ (i : Ident). i.text) (sym x.2) ∙ (bytes_eq-Decides k.0.text w.name.text).0 k.2 in
          let there : Among (printed_use sc x.0).name (param_names (again_params ps)) =
          subst (λ (is : List Ident). Among (printed_use sc x.0).name is) (sym (names_of (again_params ps) ∙ ap (λ (us : List Use). map (λ (r : Use). r.name) us) params_again))
          (Among-map (λ (r : Use). r.name) (printed_use sc x.0) (map (printed_use sc) (param_uses ps)) (Among-map (printed_use sc) x.0 (param_uses ps) x.1)) in
          let named : (printed_use sc x.0).name.text ≡ u.name.text = ap (λ (a : List ℕ). (var_ident (var_named sc a)).text) same ∙ ap (λ (r : Use). r.name.text) (sym e) in
          let found : list_any (λ (i : Ident). bytes_eq i.text u.name.text) (param_names (again_params ps)) ≡ true =
          some_from (λ (i : Ident). bytes_eq i.text u.name.text) (printed_use sc x.0).name (param_names (again_params ps)) there ((bytes_eq-Decides (printed_use sc x.0).name.text u.name.text).1 named) in
          ap (λ (t : Bool). cond t [] (fault_at UnboundVariable u.name.place)) found

      by_use : (w : Use) × Among w (kept_lit false c.guard) × (u ≡ printed_use sc w) → unbound_fault (again_params ps) u ≡ []
      by_use g =
          let w : Use = g.0 in
          let bound : unbound_fault ps w ≡ [] = none_each (unbound_fault ps) (lit_uses c.guard) (none_both (cond (is_set_literal c.guard) (fault_at WrongSort (lit_place c.guard)) []) (flat_map (unbound_fault ps) (lit_uses c.guard)) (guard_none qs ps c once none within)).1 w (lit_in w false c.guard g.1) in
          by_param w (some_out (λ (i : Ident). bytes_eq i.text w.name.text) (param_names ps) (test_true (list_any (λ (i : Ident). bytes_eq i.text w.name.text) (param_names ps)) _ [] bound)) g.2

  guard_again : guard_faults (again_params ps) again.guard ≡ []
  guard_again = λ i. kind_part i ++ none_from (unbound_fault (again_params ps)) (lit_uses again.guard) none_unbound i
    where
      no_set : is_set_literal again.guard ≡ false
      no_set = printed_kind sc false c.guard ∙ test_false (is_set_literal c.guard) _ [] (none_both (cond (is_set_literal c.guard) (fault_at WrongSort (lit_place c.guard)) []) (flat_map (unbound_fault ps) (lit_uses c.guard)) (guard_none qs ps c once none within)).0

      kind_part : cond (is_set_literal again.guard) (fault_at WrongSort (lit_place again.guard)) [] ≡ []
      kind_part = ap (λ (t : Bool). cond t (fault_at WrongSort (lit_place again.guard)) []) no_set

  -- the printed clause has no faults of names and sorts
  pub clause_right_again : clause_faults (again_preds qs) (again_params ps) again ≡ []
  clause_right_again = λ i. (guard_again i ++ no_wrong_sorts i) ++ none_from (chunk_faults (again_preds qs)) again.body.chunks (chunks_right_again qs sc c.body (chunks_right qs ps c once none within)) i

  -- nor those of predicates and limits
  pub productive_again : unproductive_fault c ≡ [] → unproductive_fault again ≡ []
  productive_again e = ap (λ (t : Bool). cond t (fault_at Unproductive 0) []) (owns_again qs sc c.body (test_false (list_any is_instance c.body.chunks && not (list_any is_cell c.body.chunks)) _ [] e))

  pub clause_sizes_again : size_faults c.body ≡ [] → size_faults again.body ≡ []
  clause_sizes_again e = sizes_again qs sc c.body e
