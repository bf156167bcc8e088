-- Texts that are printed: they are read as what they were, have no faults, and their marks are tokens of specifications.
use Rattle.std.proofs.Common.{List, [], ap, false, flat_map, inl, inr, map, refl, subst, sym, true, ◌++◌, ◌∙◌, ◌∷◌, ◌≡◌}
use Rattle.std.specs.Prelude.{Bool, cond, is_some, slice_get}
use Rattle.std.proofs.lemmas.Bool.{and_parts}
use Rattle.cyp_goal.specs.Normal.{normal}
use Rattle.cyp_lex.specs.Lexemes.{Symbol}
use Rattle.cyp_lex.specs.Spelling.{At, Mark, all_spelling, ident, sign, word}
use Rattle.cyp_lex.specs.declared.ident.Ident.{Ident}
use Rattle.cyp_heap.specs.Limits.{is_goal_within}
use Rattle.cyp_heap.specs.PredsFormed.{is_clause_within}
use Rattle.cyp_lex.specs.declared.fault.Fault.{Fault}
use Rattle.cyp_lex.specs.declared.fault.FaultKind.TheVariants.{TooLarge}
use Rattle.cyp_lex.specs.declared.token.Sign.TheVariants.{Bar, Implies, LeftBrace, RightBrace}
use Rattle.cyp_lex.specs.declared.token.Word.TheVariants.{Predicate, Void}
use Rattle.cyp_term.specs.declared.term.Var.{Var}
use Rattle.cyp_term.proofs.Lists.{Among, map_from}
use Rattle.cyp_names.specs.Bodies.{kept_body, kept_lit}
use Rattle.cyp_text.specs.Grammar.{body_spelling, clause_spelling, in_braces, lit_spelling, params_spelling, pred_spelling, text_spelling}
use Rattle.cyp_formed.specs.LimitFaults.{is_root_within, limit_faults, root_of}
use Rattle.cyp_names.specs.PredFaults.{extra_pred_fault, pred_limit_faults, size_faults}
use Rattle.cyp_names.specs.NameFaults.{clause_faults, clauses, fault_at, name_faults, param_names, pred_faults, proc_faults, repeats}
use Rattle.cyp_writing.specs.PrintedTrees.{ident_of, params_from}
use Rattle.cyp_names.specs.ReadTerms.{Scope, read_lit, use_var}
use Rattle.cyp_names.specs.Specifications.{Specification, clause_scope, goal_scope, read_clause, read_goal, read_tree}
use Rattle.cyp_text.specs.declared.tree.BodyTree.{BodyTree}
use Rattle.cyp_text.specs.declared.tree.ClauseTree.{ClauseTree}
use Rattle.cyp_text.specs.declared.tree.PredTree.{PredTree}
use Rattle.cyp_text.specs.declared.tree.TextTree.{TextTree}
use Rattle.cyp_names.specs.Uses.{param_sort, param_uses}
use Rattle.cyp_names.proofs.NoFaults.{none_both, none_each, test_true}
use Rattle.cyp_formed.proofs.Names.{lit_comes}
use Rattle.cyp_printed.proofs.PrintedAgain.{again_clause, again_params, again_pred, again_preds, again_text}
use Rattle.cyp_printed.proofs.PrintedBare.{bare_fault, bare_ident}
use Rattle.cyp_printed.proofs.PrintedBareFaults.{bare_repeats}
use Rattle.cyp_printed.proofs.PrintedBodies.{sizes_again}
use Rattle.cyp_formed.proofs.ClauseNames as clause_names
use Rattle.cyp_formed.proofs.GoalNames as goal_names
use Rattle.cyp_printed.proofs.PrintedClauses as of_clause
use Rattle.cyp_printed.proofs.PrintedGoals as of_goal
use Rattle.cyp_printed.proofs.PrintedMarks.{AreShort, lit_marks}
use Rattle.cyp_spec.proofs.TokenMarks.{Marks, each_all, marks_all, marks_both, marks_cons, marks_first, marks_left, marks_none, marks_rest, marks_right, proper_sign, proper_word}
use Rattle.cyp_formed.proofs.Nameables.{HasAll, Nameable}
use Rattle.cyp_formed.proofs.PredsRight.{clause_right, clause_within, once}
use Rattle.cyp_printed.proofs.PrintedPreds.{extra_again, preds_again, preds_limits_again, preds_right_again}
use Rattle.cyp_printed.proofs.PrintedProper.{body_marks, braced_inner, braced_marks, come_short, params_marks}
use Rattle.cyp_printed.proofs.PrintedSmall.{lit_small}

-- ---- marks of clauses and predicates

-- what stands in the braces of a predicate
abbrev clauses_spelling : ClauseTree → List ClauseTree → List Mark
clauses_spelling c cs = clause_spelling c ++ (all_spelling clause_spelling cs ++ sign RightBrace ∷ [])

module _ (qs : List PredTree) (q : PredTree) (right : pred_faults qs q ≡ []) (limits : pred_limit_faults qs q ≡ []) where
  module _ (c : ClauseTree) (m : Among c (clauses q)) where
    abbrev sc : Scope
    sc = clause_scope qs q.params c

    abbrev again : ClauseTree
    again = again_clause qs q.params c

    one : repeats [] (param_names q.params) ≡ []
    one = once qs q right limits

    none : clause_faults qs q.params c ≡ []
    none = clause_right qs q right limits c m

    within : is_clause_within (read_clause qs q.params c) ≡ true
    within = clause_within qs q right limits c m

    ok : Nameable sc
    ok = clause_names.ok qs q.params c one none within

    params_has : HasAll sc (param_uses q.params)
    params_has u n = clause_names.has qs q.params c one none within u (clause_names.in_params qs q.params c one none within u n)

    guard_has : HasAll sc (kept_lit false c.guard)
    guard_has u n = clause_names.has qs q.params c one none within u (clause_names.in_guard qs q.params c one none within u n)

    body_has : HasAll sc (kept_body qs c.body)
    body_has u n = clause_names.has qs q.params c one none within u (clause_names.in_body qs q.params c one none within u n)

    clause_marks : Marks (clause_spelling c) → Marks (clause_spelling again)
    clause_marks h =
        marks_cons (At (Symbol Bar) 0) (lit_spelling again.guard ++ (sign Implies ∷ in_braces again.body)) (proper_sign Bar refl)
        (marks_both (lit_spelling again.guard) (sign Implies ∷ in_braces again.body) guard_part (marks_cons (sign Implies) (in_braces again.body) (proper_sign Implies refl) (braced_marks again.body body_part)))
      where
        inner : Marks (lit_spelling c.guard ++ (sign Implies ∷ in_braces c.body))
        inner = marks_rest (At (Symbol Bar) c.place) (lit_spelling c.guard ++ (sign Implies ∷ in_braces c.body)) h

        guard_part : Marks (lit_spelling again.guard)
        guard_part =
            lit_marks (read_lit sc c.guard) (λ v k. come_short sc ok (kept_lit false c.guard) guard_has v (lit_comes sc v false c.guard k))
            (lit_small sc c.guard (marks_left (lit_spelling c.guard) (sign Implies ∷ in_braces c.body) inner))

        body_part : Marks (body_spelling again.body)
        body_part =
            body_marks qs sc ok c.body body_has (clause_names.chunks_right qs q.params c one none within)
            (braced_inner c.body (marks_rest (sign Implies) (in_braces c.body) (marks_right (lit_spelling c.guard) (sign Implies ∷ in_braces c.body) inner)))

    params_short : AreShort (params_from [] (map param_sort q.params))
    params_short v n =
        let f = map_from (use_var sc) v (param_uses q.params) (subst (λ (vs : List Var). Among v vs) (sym (of_clause.param_vars_are qs q.params c one none within)) n) in
        come_short sc ok (param_uses q.params) params_has v (f.0, f.1, f.2)

  pub pred_marks : Marks (pred_spelling q) → Marks (pred_spelling (again_pred qs q))
  pred_marks h =
      marks_cons (word Predicate) (ident (ident_of q.name.text) ∷ (params_spelling (again_params q.params) ++ (sign LeftBrace ∷ printed_clauses))) (proper_word Predicate)
      (marks_cons (ident (ident_of q.name.text)) (params_spelling (again_params q.params) ++ (sign LeftBrace ∷ printed_clauses)) (marks_first (ident q.name) (params_spelling q.params ++ (sign LeftBrace ∷ clauses_spelling q.first q.others)) named)
      (marks_both (params_spelling (again_params q.params)) (sign LeftBrace ∷ printed_clauses) (params_marks (params_from [] (map param_sort q.params)) (params_short q.first (inl refl)))
      (marks_cons (sign LeftBrace) printed_clauses (proper_sign LeftBrace refl)
      (marks_both (clause_spelling (again_clause qs q.params q.first)) (all_spelling clause_spelling (map (again_clause qs q.params) q.others) ++ sign RightBrace ∷ [])
      (clause_marks q.first (inl refl) (marks_left (clause_spelling q.first) (all_spelling clause_spelling q.others ++ sign RightBrace ∷ []) inner))
      (marks_both (all_spelling clause_spelling (map (again_clause qs q.params) q.others)) (sign RightBrace ∷ []) (marks_all clause_spelling (map (again_clause qs q.params) q.others) other) (marks_cons (sign RightBrace) [] (proper_sign RightBrace refl) marks_none))))))
    where
      printed_clauses : List Mark
      printed_clauses = clauses_spelling (again_clause qs q.params q.first) (map (again_clause qs q.params) q.others)

      named : Marks (ident q.name ∷ (params_spelling q.params ++ (sign LeftBrace ∷ clauses_spelling q.first q.others)))
      named = marks_rest (word Predicate) (ident q.name ∷ (params_spelling q.params ++ (sign LeftBrace ∷ clauses_spelling q.first q.others))) h

      inner : Marks (clauses_spelling q.first q.others)
      inner = marks_rest (sign LeftBrace) (clauses_spelling q.first q.others) (marks_right (params_spelling q.params) (sign LeftBrace ∷ clauses_spelling q.first q.others)
          (marks_rest (ident q.name) (params_spelling q.params ++ (sign LeftBrace ∷ clauses_spelling q.first q.others)) named))

      rest : Marks (all_spelling clause_spelling q.others)
      rest = marks_left (all_spelling clause_spelling q.others) (sign RightBrace ∷ []) (marks_right (clause_spelling q.first) (all_spelling clause_spelling q.others ++ sign RightBrace ∷ []) inner)

      other : (d : ClauseTree) → Among d (map (again_clause qs q.params) q.others) → Marks (clause_spelling d)
      other d m =
          let f = map_from (again_clause qs q.params) d q.others m in
          subst (λ (x : ClauseTree). Marks (clause_spelling x)) (sym f.2) (clause_marks f.0 (inr f.1) (each_all clause_spelling q.others rest f.0 f.1))

-- ---- a text without faults

module _ (t : TextTree) (right : name_faults t ≡ []) (limits : limit_faults t ≡ []) where
  abbrev qs : List PredTree
  qs = t.preds

  -- the tree by which it is printed
  abbrev printed : TextTree
  printed = again_text t

  abbrev names_part : List Fault
  names_part = repeats [] (map (λ (q : PredTree). q.name) qs)

  abbrev preds_part : List Fault
  preds_part = flat_map (pred_faults qs) qs

  three : (names_part ≡ []) × (preds_part ≡ []) × (proc_faults t ≡ [])
  three =
      let a = none_both (names_part ++ preds_part) (proc_faults t) right in
      let b = none_both names_part preds_part a.0 in
      (b.0, b.1, a.1)

  pred_right : (q : PredTree) → Among q qs → pred_faults qs q ≡ []
  pred_right = none_each (pred_faults qs) qs three.1

  abbrev limit_part : List Fault
  limit_part = flat_map (pred_limit_faults qs) qs

  abbrev extra_part : List Fault
  extra_part = extra_pred_fault (slice_get qs 16)

  abbrev root_part : List Fault
  root_part = cond (is_root_within (read_tree t)) [] (fault_at TooLarge t.name.place)

  five : (limit_part ≡ []) × (extra_part ≡ []) × (size_faults t.pre ≡ []) × (size_faults t.post ≡ []) × (root_part ≡ [])
  five =
      let a = none_both (limit_part ++ extra_part ++ size_faults t.pre ++ size_faults t.post) root_part limits in
      let b = none_both (limit_part ++ extra_part ++ size_faults t.pre) (size_faults t.post) a.0 in
      let c = none_both (limit_part ++ extra_part) (size_faults t.pre) b.0 in
      let d = none_both limit_part extra_part c.0 in
      (d.0, d.1, c.1, b.1, a.1)

  pred_limits : (q : PredTree) → Among q qs → pred_limit_faults qs q ≡ []
  pred_limits = none_each (pred_limit_faults qs) qs five.0

  root_within : is_root_within (read_tree t) ≡ true
  root_within = test_true (is_root_within (read_tree t)) _ [] five.4

  small : is_goal_within (read_goal t) ≡ true
  small = (and_parts (is_goal_within (read_goal t)) (is_some (normal (root_of (read_tree t)))) root_within).0

  -- it is read as what it was
  pub tree_again : read_tree printed ≡ read_tree t
  tree_again = λ i. record { preds = preds_again qs pred_right pred_limits i; name = t.name.text; goal = of_goal.goal_again t right small i }

  -- it has no faults
  pub names_again : name_faults printed ≡ []
  names_again = λ i. (once_part i ++ preds_right_again qs pred_right pred_limits i) ++ of_goal.proc_right_again t right small i
    where
      names_are : (ps : List PredTree) → map (λ (q : PredTree). q.name) (map (again_pred qs) ps) ≡ map bare_ident (map (λ (q : PredTree). q.name) ps)
      names_are [] = refl
      names_are (p ∷ ps) = ap (λ (is : List Ident). ident_of p.name.text ∷ is) (names_are ps)

      once_part : repeats [] (map (λ (q : PredTree). q.name) (again_preds qs)) ≡ []
      once_part = ap (λ (is : List Ident). repeats [] is) (names_are qs) ∙ bare_repeats [] (map (λ (q : PredTree). q.name) qs) ∙ ap (λ (fs : List Fault). map bare_fault fs) three.0

  pub limits_again : limit_faults printed ≡ []
  limits_again = λ i. (((preds_limits_again qs pred_right pred_limits i ++ extra_again qs five.1 i) ++ pre_part i) ++ sizes_again qs (goal_scope t) t.post five.3 i) ++ within i
    where
      pre_part : size_faults printed.pre ≡ []
      pre_part = ap size_faults (of_goal.pre_is t right small) ∙ sizes_again qs (goal_scope t) t.pre five.2

      within : cond (is_root_within (read_tree printed)) [] (fault_at TooLarge 0) ≡ []
      within = ap (λ (s : Specification). cond (is_root_within s) [] (fault_at TooLarge 0)) tree_again ∙ ap (λ (b : Bool). cond b [] (fault_at TooLarge 0)) root_within

  -- ---- its marks

  abbrev pub proc_spelling : TextTree → List Mark
  proc_spelling u = word Void ∷ ident u.name ∷ (params_spelling u.params ++ (in_braces u.pre ++ in_braces u.post))

  program_short : AreShort (read_goal t).program
  program_short v m =
      let f = map_from (use_var (goal_scope t)) v (param_uses t.params) m in
      come_short (goal_scope t) (goal_names.ok t right small) (param_uses t.params) (λ u n. goal_names.has t right small u (goal_names.in_pars t right small u n)) v (f.0, f.1, f.2)

  pub printed_proc : Marks (text_spelling t) → Marks (proc_spelling printed)
  printed_proc h =
      marks_cons (word Void) (ident printed.name ∷ (params_spelling printed.params ++ (in_braces printed.pre ++ in_braces printed.post))) (proper_word Void)
      (marks_cons (ident printed.name) (params_spelling printed.params ++ (in_braces printed.pre ++ in_braces printed.post)) (marks_first (ident t.name) (params_spelling t.params ++ (in_braces t.pre ++ in_braces t.post)) named)
      (marks_both (params_spelling printed.params) (in_braces printed.pre ++ in_braces printed.post) (params_marks (read_goal t).program program_short)
      (marks_both (in_braces printed.pre) (in_braces printed.post) (braced_marks printed.pre pre_part) (braced_marks printed.post post_part))))
    where
      named : Marks (ident t.name ∷ (params_spelling t.params ++ (in_braces t.pre ++ in_braces t.post)))
      named = marks_rest (word Void) (ident t.name ∷ (params_spelling t.params ++ (in_braces t.pre ++ in_braces t.post))) (marks_right (all_spelling pred_spelling qs) (proc_spelling t) h)

      bodies : Marks (in_braces t.pre ++ in_braces t.post)
      bodies = marks_right (params_spelling t.params) (in_braces t.pre ++ in_braces t.post) (marks_rest (ident t.name) (params_spelling t.params ++ (in_braces t.pre ++ in_braces t.post)) named)

      pre_part : Marks (body_spelling printed.pre)
      pre_part =
          subst (λ (b : BodyTree). Marks (body_spelling b)) (sym (of_goal.pre_is t right small))
          (body_marks qs (goal_scope t) (goal_names.ok t right small) t.pre (λ u n. goal_names.has t right small u (goal_names.in_pre t right small u n)) (goal_names.pre_right t right small)
          (braced_inner t.pre (marks_left (in_braces t.pre) (in_braces t.post) bodies)))

      post_part : Marks (body_spelling printed.post)
      post_part =
          body_marks qs (goal_scope t) (goal_names.ok t right small) t.post (λ u n. goal_names.has t right small u (goal_names.in_post t right small u n)) (goal_names.post_right t right small)
          (braced_inner t.post (marks_right (in_braces t.pre) (in_braces t.post) bodies))

  pub preds_marks_again : Marks (text_spelling t) → (q : PredTree) → Among q qs → Marks (pred_spelling (again_pred qs q))
  preds_marks_again h q m = pred_marks qs q (pred_right q m) (pred_limits q m) (each_all pred_spelling qs (marks_left (all_spelling pred_spelling qs) (proc_spelling t) h) q m)
