-- Clauses of a text without faults of names and sorts: their variables are counted, and guards speak of parameters.
use Rattle.std.proofs.Common.{List, [], ap, arith, cond, false, filter, flat_map, inl, inr, length, refl, subst, suc, sym, true, ℕ, ◌+◌, ◌++◌, ◌<◌, ◌∙◌, ◌∷◌, ◌≡◌}
use Rattle.std.specs.Prelude.{Bool, nat_lt}
use Rattle.std.specs.Str.{bytes_eq}
use Rattle.std.proofs.lemmas.Bool.{and_from, le-leb}
use Rattle.cyp_heap.specs.PredsFormed.{clause_set_vars, clause_terms, is_below, is_closed, lit_terms, chunk_terms, chunk_set_vars}
use Rattle.cyp_term.specs.Regions.{lit_set_vars}
use Rattle.cyp_term.specs.Terms.{sort_eq, term_vars}
use Rattle.cyp_term.specs.declared.term.Sort.{Sort}
use Rattle.cyp_term.specs.declared.term.Sort.TheVariants.{Int, Set}
use Rattle.cyp_term.specs.declared.term.Term.{Term}
use Rattle.cyp_term.specs.declared.term.Var.{Var}
use Rattle.cyp_term.proofs.Equality.{Decides-sort_eq}
use Rattle.cyp_term.proofs.Lists.{Among, Among-cases, Among-left, Among-right, each_from, flat_out}
use Rattle.cyp_names.specs.Bodies.{body_uses, kept_body, kept_lit}
use Rattle.cyp_names.specs.NameFaults.{clause_faults, guard_faults, chunk_faults, param_names, repeats, sort_faults}
use Rattle.cyp_names.specs.ReadTerms.{Scope, rank_of, read_chunks, read_lit, read_lits, sort_in, var_named}
use Rattle.cyp_names.specs.Specifications.{clause_scope, count_sort, read_clause}
use Rattle.cyp_text.specs.declared.tree.ClauseTree.{ClauseTree}
use Rattle.cyp_text.specs.declared.tree.IntTree.{IntTree}
use Rattle.cyp_text.specs.declared.tree.IntTree.TheVariants.{MinusNum, NameMinus, NamePlus, Named, Num, NumPlus}
use Rattle.cyp_text.specs.declared.tree.ParamTree.{ParamTree}
use Rattle.cyp_text.specs.declared.tree.PredTree.{PredTree}
use Rattle.cyp_names.specs.Uses.{Use, int_uses, lit_uses, param_uses, use_of}
use Rattle.cyp_formed.proofs.ClauseTerms.{SetVarIs, TermIs, Within, body_set_vars_are, body_terms_are, lit_set_vars_are, lit_terms_are, set_var_more, term_more}
use Rattle.cyp_names.proofs.NoFaults.{none_both}
use Rattle.cyp_formed.proofs.FormedScope.{distinct_params}
use Rattle.cyp_formed.proofs.KnownSorts.{Agree, distinct_agree, scope_agrees, uses_agree}
use Rattle.cyp_formed.proofs.Names.{int_comes}
use Rattle.cyp_names.proofs.ScopeNames.{Has, grow, has_later}
use Rattle.cyp_formed.proofs.TextOrder.{body_in, lit_in}

-- ---- numbers of variables

-- a name's number is below the count of names of its sort
pub rank_below : (s : Sort) (sc : Scope) (a : List ℕ) → Has sc a → sort_in sc a ≡ s → rank_of s sc a < count_sort s sc
rank_below s [] a h e = absurd h.1
rank_below s (u ∷ us) a h e = by_test (bytes_eq u.name.text a) refl e (sort_eq u.sort s) refl (λ p q. rank_below s us a (has_later u us a p h) q)
  where
    by_test : (t : Bool) → bytes_eq u.name.text a ≡ t → cond t u.sort (sort_in us a) ≡ s → (x : Bool) → sort_eq u.sort s ≡ x
        → (bytes_eq u.name.text a ≡ false → sort_in us a ≡ s → rank_of s us a < count_sort s us)
        → cond t 0 (cond (sort_eq u.sort s) 1 0 + rank_of s us a) < length (cond (sort_eq u.sort s) (u ∷ filter (λ (w : Use). sort_eq w.sort s) us) (filter (λ (w : Use). sort_eq w.sort s) us))
    by_test true p q x y ih = rw ((Decides-sort_eq u.sort s).1 q) (omega arith)
    by_test false p q true y ih = rw y (omega (arith, ih p q))
    by_test false p q false y ih = rw y (omega (arith, ih p q))

less_test : (m n : ℕ) → m < n → nat_lt m n ≡ true
less_test m n h = le-leb (suc m) n (omega (arith, h))

-- a name of the scope is a variable of its sort below the count
pub var_below : (s : Sort) (sc : Scope) (a : List ℕ) → Has sc a → sort_in sc a ≡ s → is_below s (count_sort s sc) (var_named sc a) ≡ true
var_below s sc a h e =
    let number : rank_of (sort_in sc a) sc a < count_sort s sc = subst (λ (r : Sort). rank_of r sc a < count_sort s sc) (sym e) (rank_below s sc a h e) in
    and_from _ _ ((Decides-sort_eq (sort_in sc a) s).1 e) (less_test (rank_of (sort_in sc a) sc a) (count_sort s sc) number)

pub int_sorts : (x : IntTree) (u : Use) → Among u (int_uses x) → u.sort ≡ Int
int_sorts (Num p n) u m = absurd m
int_sorts (MinusNum p n) u m = absurd m
int_sorts (Named i) u (inl e) = ap (λ (w : Use). w.sort) e
int_sorts (NamePlus i n) u (inl e) = ap (λ (w : Use). w.sort) e
int_sorts (NameMinus i n) u (inl e) = ap (λ (w : Use). w.sort) e
int_sorts (NumPlus p n i) u (inl e) = ap (λ (w : Use). w.sort) e
int_sorts (Named i) u (inr m) = absurd m
int_sorts (NamePlus i n) u (inr m) = absurd m
int_sorts (NameMinus i n) u (inr m) = absurd m
int_sorts (NumPlus p n i) u (inr m) = absurd m

module _ (qs : List PredTree) (ps : List ParamTree) (c : ClauseTree) (once : repeats [] (param_names ps) ≡ []) (none : clause_faults qs ps c ≡ []) where
  abbrev pub sc : Scope
  sc = clause_scope qs ps c

  abbrev pub kept : List Use
  kept = param_uses ps ++ kept_lit false c.guard ++ kept_body qs c.body

  abbrev pub written : List Use
  written = lit_uses c.guard ++ body_uses qs c.body

  sorts_none : sort_faults (param_uses ps) written ≡ []
  sorts_none = (none_both (guard_faults ps c.guard) (sort_faults (param_uses ps) written) (none_both (guard_faults ps c.guard ++ sort_faults (param_uses ps) written) (flat_map (chunk_faults qs) c.body.chunks) none).0).1

  all_agree : Agree (param_uses ps ++ written) kept
  all_agree u m = elim (Among-cases u (param_uses ps ++ kept_lit false c.guard) (kept_body qs c.body) m) [
    | inr b ↦ uses_agree (param_uses ps) written sorts_none u (Among-right u (lit_uses c.guard) (body_uses qs c.body) (body_in u qs c.body b))
    | inl a ↦ elim (Among-cases u (param_uses ps) (kept_lit false c.guard) a) [
      | inl p ↦ distinct_agree (param_uses ps) written (distinct_params [] ps once) u p
      | inr g ↦ uses_agree (param_uses ps) written sorts_none u (Among-left u (lit_uses c.guard) (body_uses qs c.body) (lit_in u false c.guard g))
    ]
  ]

  -- each name of the clause is there, with the sort of its uses
  pub name_sort : (u : Use) → Among u kept → sort_in sc u.name.text ≡ u.sort
  name_sort u m = scope_agrees (param_uses ps ++ written) kept all_agree u m

  name_there : (u : Use) → Among u kept → Has sc u.name.text
  name_there u m = (grow [] kept).new_there u m

  term_below : (t : Term) → TermIs sc kept t → (v : Var) → Among v (term_vars t) → is_below Int (count_sort Int sc) v ≡ true
  term_below t i v m =
      let f = int_comes sc v i.0 (subst (λ (r : Term). Among v (term_vars r)) i.2 m) in
      let u : Use = f.0 in
      let here : Among u kept = i.1 u f.1 in
      subst (λ (w : Var). is_below Int (count_sort Int sc) w ≡ true) (sym f.2) (var_below Int sc u.name.text (name_there u here) (name_sort u here ∙ int_sorts i.0 u f.1))

  set_below : (v : Var) → SetVarIs sc kept v → is_below Set (count_sort Set sc) v ≡ true
  set_below v i =
      subst (λ (w : Var). is_below Set (count_sort Set sc) w ≡ true) (sym i.2)
      (var_below Set sc i.0.text (name_there (use_of Set i.0) i.1) (name_sort (use_of Set i.0) i.1))

  -- ---- the clause

  abbrev lits_of : List Term
  lits_of = flat_map lit_terms (read_lits sc c.body)

  pub guard_within : Within (kept_lit false c.guard) kept
  guard_within u m = Among-left u (param_uses ps ++ kept_lit false c.guard) (kept_body qs c.body) (Among-right u (param_uses ps) (kept_lit false c.guard) m)

  body_within : Within (kept_body qs c.body) kept
  body_within u m = Among-right u (param_uses ps ++ kept_lit false c.guard) (kept_body qs c.body) m

  clause_term_is : (t : Term) → Among t (clause_terms (read_clause qs ps c)) → TermIs sc kept t
  clause_term_is t m = elim (Among-cases t (lit_terms (read_lit sc c.guard) ++ lits_of) (flat_map chunk_terms (read_chunks qs sc c.body)) m) [
    | inr b ↦ term_more sc (kept_body qs c.body) kept body_within t (body_terms_are sc qs c.body t (inr b))
    | inl a ↦ elim (Among-cases t (lit_terms (read_lit sc c.guard)) lits_of a) [
      | inl g ↦ term_more sc (kept_lit false c.guard) kept guard_within t (lit_terms_are sc false c.guard t g)
      | inr l ↦ term_more sc (kept_body qs c.body) kept body_within t (body_terms_are sc qs c.body t (inl l))
    ]
  ]

  clause_set_var_is : (v : Var) → Among v (clause_set_vars (read_clause qs ps c)) → SetVarIs sc kept v
  clause_set_var_is v m = elim (Among-cases v (lit_set_vars (read_lit sc c.guard) ++ flat_map lit_set_vars (read_lits sc c.body)) (flat_map chunk_set_vars (read_chunks qs sc c.body)) m) [
    | inr b ↦ set_var_more sc (kept_body qs c.body) kept body_within v (body_set_vars_are sc qs c.body v (inr b))
    | inl a ↦ elim (Among-cases v (lit_set_vars (read_lit sc c.guard)) (flat_map lit_set_vars (read_lits sc c.body)) a) [
      | inl g ↦ set_var_more sc (kept_lit false c.guard) kept guard_within v (lit_set_vars_are sc false c.guard v g)
      | inr l ↦ set_var_more sc (kept_body qs c.body) kept body_within v (body_set_vars_are sc qs c.body v (inl l))
    ]
  ]

  pub closed : is_closed (read_clause qs ps c) ≡ true
  closed = and_from _ _ (each_from (is_below Int (count_sort Int sc)) (flat_map term_vars (clause_terms (read_clause qs ps c))) ints) (each_from (is_below Set (count_sort Set sc)) (clause_set_vars (read_clause qs ps c)) (λ v m. set_below v (clause_set_var_is v m)))
    where
      ints : (v : Var) → Among v (flat_map term_vars (clause_terms (read_clause qs ps c))) → is_below Int (count_sort Int sc) v ≡ true
      ints v m = let o = flat_out term_vars v (clause_terms (read_clause qs ps c)) m in term_below o.0 (clause_term_is o.0 o.1) v o.2
