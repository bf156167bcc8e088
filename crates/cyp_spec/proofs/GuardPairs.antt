-- Two guards as the solver sees them.
use Rattle.std.proofs.Common.{◌≡◌, [], ◌∷◌, ◌++◌, List, Option, Some, None, true, length, ◌≤◌, refl, subst, sym, arith}
use Rattle.std.specs.Prelude.{IsTrue, is_some, ◌↔◌}
use Rattle.std.proofs.lemmas.Bool.{false≢true}
use Rattle.std.proofs.lemmas.Bool.Decides.{same_from_decides}
use Rattle.std.proofs.lemmas.List.{length-append}
use Rattle.std.proofs.lemmas.List.Elements.{All-cons}
use Rattle.cyp_spec.proofs.DistinctCounts.{no_more_different}
use Rattle.cyp_diff.specs.Solving.{AreInts, SolveMeans, given, variables}
use Rattle.cyp_diff.specs.declared.solver.Value.{Value}
use Rattle.cyp_heap.specs.PredsFormed.{overlap}
use Rattle.cyp_term.proofs.Entailment.{satisfiable_law}
use Rattle.cyp_term.specs.Entailment.{satisfiable}
use Rattle.cyp_term.specs.Integers.{is_int_lit}
use Rattle.cyp_term.specs.Meaning.{Satisfiable}
use Rattle.cyp_term.specs.Terms.{base_vars, lit_vars, lits_vars, term_vars, var_eq}
use Rattle.cyp_term.specs.declared.lit.Lit.{Lit}
use Rattle.cyp_term.specs.declared.lit.Lit.TheVariants.{Eq, Le, Lt, Member, Ne, NotMember, NotSame, NotSub, Same, Sub}
use Rattle.cyp_term.specs.declared.term.Term.{Term}
use Rattle.cyp_term.specs.declared.term.Var.{Var}

base_few : (o : Option Var) → length (base_vars o) ≤ 1
base_few None = omega arith
base_few (Some v) = omega arith

two_few : (a b : Term) → length (term_vars a ++ term_vars b) ≤ 2
two_few a b = omega (arith, length-append (term_vars a) (term_vars b), base_few a.base, base_few b.base)

lit_few : (l : Lit) → is_int_lit l ≡ true → length (lit_vars l) ≤ 2
lit_few (Eq a b) h = two_few a b
lit_few (Ne a b) h = two_few a b
lit_few (Le a b) h = two_few a b
lit_few (Lt a b) h = two_few a b
lit_few (Same a b) h = absurd (false≢true h)
lit_few (NotSame a b) h = absurd (false≢true h)
lit_few (Member a b) h = absurd (false≢true h)
lit_few (NotMember a b) h = absurd (false≢true h)
lit_few (Sub a b) h = absurd (false≢true h)
lit_few (NotSub a b) h = absurd (false≢true h)

module _ (a b : Lit) (int : is_int_lit a ≡ true) (other : is_int_lit b ≡ true) where
  two_ints : AreInts (a ∷ b ∷ [])
  two_ints = All-cons (λ l. IsTrue (is_int_lit l)) a (b ∷ []) int (All-cons (λ l. IsTrue (is_int_lit l)) b [] other (λ k d l. absurd (omega (arith, l))))

  two_variables : length (variables (a ∷ b ∷ [])) ≤ 32
  two_variables =
      omega (arith, no_more_different var_eq (lits_vars (a ∷ b ∷ [])), length-append (lit_vars a) (lit_vars b ++ []), length-append (lit_vars b) [], lit_few a int, lit_few b other)

  solved_overlaps : (o : Option (List Value)) → SolveMeans (a ∷ b ∷ []) o → is_some o ≡ overlap a b
  solved_overlaps o means = same_from_decides (is_some o) (satisfiable (a ∷ b ∷ [])) (decides o means) (satisfiable_law (a ∷ b ∷ []))
    where
      decides : (p : Option (List Value)) → SolveMeans (a ∷ b ∷ []) p → IsTrue (is_some p) ↔ Satisfiable (a ∷ b ∷ [])
      decides None h = (λ e. absurd (false≢true e), λ s. absurd (h s))
      decides (Some bs) h = (λ e. (given bs, h.1), λ s. refl)

  pub pair_ints : (ls : List Lit) → ls ≡ a ∷ b ∷ [] → AreInts ls
  pair_ints ls e = subst AreInts (sym e) two_ints

  pub pair_few : (ls : List Lit) → ls ≡ a ∷ b ∷ [] → length (variables ls) ≤ 32
  pair_few ls e = subst (λ (ms : List Lit). length (variables ms) ≤ 32) (sym e) two_variables

  pub pair_overlaps : (ls : List Lit) → ls ≡ a ∷ b ∷ [] → (o : Option (List Value)) → SolveMeans ls o → is_some o ≡ overlap a b
  pair_overlaps ls e o h = solved_overlaps o (subst (λ (ms : List Lit). SolveMeans ms o) e h)
