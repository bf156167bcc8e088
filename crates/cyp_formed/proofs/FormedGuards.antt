-- Guards of a text without faults of names and sorts are literals of integers over parameters.
use Rattle.std.proofs.Common.{List, [], ap, append_assoc, arith, false, flat_map, inl, inr, map, refl, subst, sym, true, ℕ, ◌&&◌, ◌++◌, ◌≤◌, ◌∙◌, ◌∷◌, ◌≡◌}
use Rattle.std.specs.Prelude.{Bool, nat_le}
use Rattle.std.specs.List.{list_all, list_any}
use Rattle.std.specs.Str.{bytes_eq}
use Rattle.std.proofs.lemmas.Bool.{and_from, le-leb}
use Rattle.std.proofs.lemmas.Slice.Eq.{bytes_eq-Decides}
use Rattle.cyp_lex.specs.declared.ident.Ident.{Ident}
use Rattle.cyp_heap.specs.PredsFormed.{count_of, is_below, lit_terms}
use Rattle.cyp_term.specs.Integers.{is_int_lit}
use Rattle.cyp_term.specs.Terms.{lit_vars, negated, term_vars, with_all_new}
use Rattle.cyp_term.specs.declared.lit.Lit.{Lit}
use Rattle.cyp_term.specs.declared.lit.Lit.TheVariants.{Eq, Le, Lt, Member, Ne, NotMember, NotSame, NotSub, Same, Sub}
use Rattle.cyp_term.specs.declared.term.Sort.{Sort}
use Rattle.cyp_term.specs.declared.term.Sort.TheVariants.{Int, Set}
use Rattle.cyp_term.specs.declared.term.Term.{Term}
use Rattle.cyp_term.specs.declared.term.Var.{Var}
use Rattle.cyp_term.proofs.Lists.{Among, Among-cases, each_from, some_out}
use Rattle.cyp_names.specs.Bodies.{kept_body, kept_lit}
use Rattle.cyp_names.specs.NameFaults.{chunk_faults, clause_faults, guard_faults, is_set_literal, param_names, repeats, sort_faults, unbound_fault}
use Rattle.cyp_names.specs.ReadTerms.{Scope, compared, read_int, read_lit, sort_in, use_var, var_named}
use Rattle.cyp_names.specs.Specifications.{clause_scope, count_sort}
use Rattle.cyp_text.specs.LitTrees.{Comparing, Inside, LitTree, Negation, SameSets, SubSets}
use Rattle.cyp_text.specs.declared.tree.ClauseTree.{ClauseTree}
use Rattle.cyp_text.specs.declared.tree.Comparison.{Comparison}
use Rattle.cyp_text.specs.declared.tree.Comparison.TheVariants.{IsAbove, IsAtLeast, IsAtMost, IsBelow, IsEqual, IsUnequal}
use Rattle.cyp_text.specs.declared.tree.ParamTree.{ParamTree}
use Rattle.cyp_text.specs.declared.tree.PredTree.{PredTree}
use Rattle.cyp_names.specs.Uses.{Use, lit_uses, param_sort, param_uses, same_name}
use Rattle.cyp_formed.proofs.ClauseTerms.{TermIs, lit_terms_are}
use Rattle.cyp_formed.proofs.FirstNames.{begins_with, count_le, count_params, var_has}
use Rattle.cyp_formed.proofs.FormedClauses.{guard_within, int_sorts, name_sort, var_below, written}
use Rattle.cyp_names.proofs.NoFaults.{none_both, none_each, test_true}
use Rattle.cyp_formed.proofs.FormedScope.{distinct_params, sort_has}
use Rattle.cyp_names.proofs.NoFaults.{test_false}
use Rattle.cyp_formed.proofs.Names.{int_comes}
use Rattle.cyp_names.proofs.ScopeNames.{Has, grow}
use Rattle.cyp_formed.proofs.TextOrder.{lit_in}

int_compared : (c : Comparison) (a b : Term) → is_int_lit (compared c a b) ≡ true
int_compared IsEqual a b = refl
int_compared IsUnequal a b = refl
int_compared IsAtMost a b = refl
int_compared IsBelow a b = refl
int_compared IsAtLeast a b = refl
int_compared IsAbove a b = refl

int_negated : (l : Lit) → is_int_lit l ≡ true → is_int_lit (negated l) ≡ true
int_negated (Eq a b) e = refl
int_negated (Ne a b) e = refl
int_negated (Le a b) e = refl
int_negated (Lt a b) e = refl
int_negated (Same a b) e = e
int_negated (NotSame a b) e = e
int_negated (Member a b) e = e
int_negated (NotMember a b) e = e
int_negated (Sub a b) e = e
int_negated (NotSub a b) e = e

-- what is no set literal is one of integers
int_literal : (s : Scope) (l : LitTree) → is_set_literal l ≡ false → is_int_lit (read_lit s l) ≡ true
int_literal s (Comparing a c b) e = int_compared c (read_int s a) (read_int s b)
int_literal s (Negation p l) e = int_negated (read_lit s l) (int_literal s l e)
int_literal s (SameSets a b) e = absurd cc
int_literal s (SubSets a b) e = absurd cc
int_literal s (Inside a b) e = absurd cc

-- its variables are those of its two terms
term_of_var : (l : Lit) → is_int_lit l ≡ true → (v : Var) → Among v (lit_vars l) → (t : Term) × Among t (lit_terms l) × Among v (term_vars t)
term_of_var (Eq a b) e v m = elim (Among-cases v (term_vars a) (term_vars b) m) [ inl k ↦ (a, inl refl, k) | inr k ↦ (b, inr (inl refl), k) ]
term_of_var (Ne a b) e v m = elim (Among-cases v (term_vars a) (term_vars b) m) [ inl k ↦ (a, inl refl, k) | inr k ↦ (b, inr (inl refl), k) ]
term_of_var (Le a b) e v m = elim (Among-cases v (term_vars a) (term_vars b) m) [ inl k ↦ (a, inl refl, k) | inr k ↦ (b, inr (inl refl), k) ]
term_of_var (Lt a b) e v m = elim (Among-cases v (term_vars a) (term_vars b) m) [ inl k ↦ (a, inl refl, k) | inr k ↦ (b, inr (inl refl), k) ]
term_of_var (Same a b) e v m = absurd cc
term_of_var (NotSame a b) e v m = absurd cc
term_of_var (Member a b) e v m = absurd cc
term_of_var (NotMember a b) e v m = absurd cc
term_of_var (Sub a b) e v m = absurd cc
term_of_var (NotSub a b) e v m = absurd cc

module _ (qs : List PredTree) (ps : List ParamTree) (c : ClauseTree) (once : repeats [] (param_names ps) ≡ []) (none : clause_faults qs ps c ≡ []) where
  abbrev scope : Scope
  scope = clause_scope qs ps c

  abbrev pars : Scope
  pars = param_uses ps

  abbrev others : List Use
  others = kept_lit false c.guard ++ kept_body qs c.body

  guard_none : guard_faults ps c.guard ≡ []
  guard_none =
      (none_both (guard_faults ps c.guard) (sort_faults pars (written qs ps c once none)) (none_both (guard_faults ps c.guard ++ sort_faults pars (written qs ps c once none)) (flat_map (chunk_faults qs) c.body.chunks) none).0).0

  not_set : is_set_literal c.guard ≡ false
  not_set = test_false (is_set_literal c.guard) _ [] (none_both _ (flat_map (unbound_fault ps) (lit_uses c.guard)) guard_none).0

  bound : (u : Use) → Among u (lit_uses c.guard) → Has pars u.name.text
  bound u m =
      let is_named : Ident → Bool = λ (i : Ident). bytes_eq i.text u.name.text in
      let here : list_any is_named (param_names ps) ≡ true =
      test_true (list_any is_named (param_names ps)) _ [] (none_each (unbound_fault ps) (lit_uses c.guard) (none_both _ (flat_map (unbound_fault ps) (lit_uses c.guard)) guard_none).1 u m) in
      let i = some_out is_named (param_names ps) here in
      by_param i.0 i.1 ((bytes_eq-Decides i.0.text u.name.text).0 i.2)
    where
      in_pars : (rs : List ParamTree) (i : Ident) → Among i (param_names rs) → i.text ≡ u.name.text → Has (param_uses rs) u.name.text
      in_pars [] i k e = absurd k
      in_pars (r ∷ rs) i (inl s) e = (record { name = r.name; sort = param_sort r }, inl refl, ap (λ (j : Ident). j.text) (sym s) ∙ e)
      in_pars (r ∷ rs) i (inr k) e = let h = in_pars rs i k e in (h.0, inr h.1, h.2)

      by_param : (i : Ident) → Among i (param_names ps) → i.text ≡ u.name.text → Has pars u.name.text
      by_param i k e = in_pars ps i k e

  -- the scope begins with the parameters
  scope_is : scope ≡ pars ++ (grow pars others).more
  scope_is = ap (λ (us : List Use). with_all_new same_name [] us) (append_assoc pars (kept_lit false c.guard) (kept_body qs c.body)) ∙ begins_with pars others (distinct_params [] ps once)

  guard_var : (v : Var) → Among v (lit_vars (read_lit scope c.guard)) → is_below Int (count_of Int (map param_sort ps)) v ≡ true
  guard_var v m = by_term (term_of_var (read_lit scope c.guard) (int_literal scope c.guard not_set) v m)
    where
      by_use : (u : Use) → Among u (kept_lit false c.guard) → u.sort ≡ Int → v ≡ use_var scope u → is_below Int (count_of Int (map param_sort ps)) v ≡ true
      by_use u k s e =
          let a : List ℕ = u.name.text in
          let there : Has pars a = bound u (lit_in u false c.guard k) in
          let more : Scope = (grow pars others).more in
          let sorts : sort_in pars a ≡ Int =
          sym (sort_has pars more a there) ∙ ap (λ (us : Scope). sort_in us a) (sym scope_is) ∙ name_sort qs ps c once none u (guard_within qs ps c once none u k) ∙ s in
          let same : v ≡ var_named pars a = e ∙ ap (λ (us : Scope). var_named us a) scope_is ∙ var_has pars more a there in
          let below : is_below Int (count_sort Int pars) (var_named pars a) ≡ true = var_below Int pars a there sorts in
          subst (λ (n : ℕ). is_below Int n v ≡ true) (sym (count_params Int ps)) (subst (λ (w : Var). is_below Int (count_sort Int pars) w ≡ true) (sym same) below)

      by_term : (t : Term) × Among t (lit_terms (read_lit scope c.guard)) × Among v (term_vars t) → is_below Int (count_of Int (map param_sort ps)) v ≡ true
      by_term o =
          let i : TermIs scope (kept_lit false c.guard) o.0 = lit_terms_are scope false c.guard o.0 o.1 in
          let f = int_comes scope v i.0 (subst (λ (r : Term). Among v (term_vars r)) i.2 o.2) in
          by_use f.0 (i.1 f.0 f.1) (int_sorts i.0 f.0 f.1) f.2

  pub guard_right : is_int_lit (read_lit scope c.guard) && list_all (is_below Int (count_of Int (map param_sort ps))) (lit_vars (read_lit scope c.guard)) ≡ true
  guard_right = and_from _ _ (int_literal scope c.guard not_set) (each_from (is_below Int (count_of Int (map param_sort ps))) (lit_vars (read_lit scope c.guard)) guard_var)

  count_within : (s : Sort) → nat_le (count_of s (map param_sort ps)) (count_sort s scope) ≡ true
  count_within s =
      let more : Scope = (grow pars others).more in
      let le : count_sort s pars ≤ count_sort s (pars ++ more) = count_le s pars more in
      let params : count_of s (map param_sort ps) ≡ count_sort s pars = count_params s ps in
      let whole : count_sort s scope ≡ count_sort s (pars ++ more) = ap (λ (us : Scope). count_sort s us) scope_is in
      le-leb _ _ (omega (arith, le, params, whole))

  pub counts_right : nat_le (count_of Int (map param_sort ps)) (count_sort Int scope) && nat_le (count_of Set (map param_sort ps)) (count_sort Set scope) ≡ true
  counts_right = and_from _ _ (count_within Int) (count_within Set)
