-- What the code of a clause's limits knows at each step.
use Rattle.std.proofs.Common.{[], ◌≡◌, ◌∙◌, ◌++◌, ◌&&◌, List, Bool, true, false, flat_map, length, map, nat_le, ◌<◌, ◌≤◌, ap, subst, sym}
use Rattle.std.specs.List.{All}
use Rattle.std.proofs.lemmas.Bool.{and_parts}
use Rattle.cyp_heap.specs.PredsFormed.{is_clause_within}
use Rattle.cyp_spec.proofs.ClausesReadable.{args_ready, few_names, guard_ready, pure_ready, scope_plain}
use Rattle.cyp_spec.proofs.ClauseTests.{elements_decide, many_lits, many_names, names_within}
use Rattle.cyp_spec.specs.Elements.{ArgsOf, body_elements, tree_elements}
use Rattle.cyp_reading.specs.Readable.{LitReadable, PureReadable}
use Rattle.cyp_spec.specs.Small.{ClauseSmall}
use Rattle.cyp_term.specs.Integers.{is_int_lit}
use Rattle.cyp_term.specs.Terms.{lit_elements, term_eq, without_repeats}
use Rattle.cyp_term.specs.declared.lit.Lit.{Lit}
use Rattle.cyp_term.specs.declared.term.Sort.TheVariants.{Int, Set}
use Rattle.cyp_term.specs.declared.term.Term.{Term}
use Rattle.cyp_formed.proofs.FormedGuards.{guard_right}
use Rattle.cyp_formed.proofs.PlainSorts.{ArePlain}
use Rattle.cyp_names.specs.Bodies.{body_lits}
use Rattle.cyp_names.specs.NameFaults.{clause_faults, param_names, repeats}
use Rattle.cyp_names.specs.ReadTerms.{Scope, read_lit, read_lits}
use Rattle.cyp_names.specs.Specifications.{clause_scope, count_sort, read_clause}
use Rattle.cyp_text.specs.declared.tree.ChunkTree.{ChunkTree}
use Rattle.cyp_text.specs.declared.tree.ClauseTree.{ClauseTree}
use Rattle.cyp_text.specs.declared.tree.ParamTree.{ParamTree}
use Rattle.cyp_text.specs.declared.tree.PredTree.{PredTree}

-- the names of a scope are few
abbrev pub are_few_names : Scope → Bool
are_few_names sc = nat_le (count_sort Int sc) 64 && nat_le (count_sort Set sc) 32

module _ (qs : List PredTree) (ps : List ParamTree) (c : ClauseTree) (sc : Scope) (is : sc ≡ clause_scope qs ps c) where
  pub many_names_at : false ≡ are_few_names sc → false ≡ is_clause_within (read_clause qs ps c)
  many_names_at h = many_names qs ps c (sym (h ∙ ap are_few_names is))

  lits_are : (ls : List Lit) → ls ≡ map (read_lit sc) (body_lits c.body) → ls ≡ read_lits (clause_scope qs ps c) c.body
  lits_are ls e = e ∙ ap (λ (s : Scope). map (read_lit s) (body_lits c.body)) is

  pub many_lits_at : (ls : List Lit) → ls ≡ map (read_lit sc) (body_lits c.body) → 8 < length ls → false ≡ is_clause_within (read_clause qs ps c)
  many_lits_at ls e h = many_lits qs ps c (subst (λ (xs : List Lit). 8 < length xs) (lits_are ls e) h)

  pub elements_decide_at : (ls : List Lit) → ls ≡ map (read_lit sc) (body_lits c.body) → (ds : List ChunkTree) → ds ≡ c.body.chunks → length ds ≤ 8 → length ls ≤ 8
      → true ≡ are_few_names sc → (es : List Term) → es ≡ flat_map lit_elements ls ++ flat_map (tree_elements qs sc) ds → (f : Bool) → f ≡ nat_le (length (without_repeats term_eq es)) 32
      → f ≡ is_clause_within (read_clause qs ps c)
  elements_decide_at ls e ds d few_ds few_ls names es made f told =
      elements_decide qs ps c (subst (λ (xs : List ChunkTree). length xs ≤ 8) d few_ds) (subst (λ (xs : List Lit). length xs ≤ 8) (lits_are ls e) few_ls) (sym (names ∙ ap are_few_names is)) f
      (told ∙ ap (λ (xs : List Term). nat_le (length (without_repeats term_eq xs)) 32) all)
    where
      all : es ≡ body_elements qs (clause_scope qs ps c) c.body
      all = made ∙ (λ i. flat_map lit_elements (lits_are ls e i) ++ flat_map (tree_elements qs (is i)) (d i))

  module _ (once : repeats [] (param_names ps) ≡ []) (none : clause_faults qs ps c ≡ []) where
    pub few_at : true ≡ are_few_names sc → length sc ≤ 255
    few_at h = few_names sc (subst ArePlain (sym is) (scope_plain qs ps c once none)) (sym h)

    pub few_within_at : is_clause_within (read_clause qs ps c) ≡ true → length sc ≤ 255
    few_within_at h = few_at (sym (ap are_few_names is ∙ names_within qs ps c h))

    -- the guard compares integers
    pub int_guard_at : (g : Lit) → g ≡ read_lit sc c.guard → is_int_lit g ≡ true
    int_guard_at g e =
        subst (λ (l : Lit). is_int_lit l ≡ true) (sym (e ∙ ap (λ (s : Scope). read_lit s c.guard) is))
        (and_parts (is_int_lit (read_lit (clause_scope qs ps c) c.guard)) _ (guard_right qs ps c once none)).0

    pub guard_at : ClauseSmall c → LitReadable sc c.guard
    guard_at small = subst (λ (s : Scope). LitReadable s c.guard) (sym is) (guard_ready qs ps c once none small)

    pub pure_at : ClauseSmall c → PureReadable sc c.body.pure
    pure_at small = subst (λ (s : Scope). PureReadable s c.body.pure) (sym is) (pure_ready qs ps c once none small)

    pub args_at : ClauseSmall c → (ds : List ChunkTree) → ds ≡ c.body.chunks → All (ArgsOf qs sc) ds
    args_at small ds d =
        subst (λ (s : Scope). All (ArgsOf qs s) ds) (sym is) (subst (λ (xs : List ChunkTree). All (ArgsOf qs (clause_scope qs ps c)) xs) (sym d) (args_ready qs ps c once none small))
