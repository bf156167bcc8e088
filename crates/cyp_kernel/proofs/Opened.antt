-- The assignment of an opened instance: the clause's own variables and new cardinalities have the values for which it holds.
use Rattle.std.proofs.Common.{◌≡◌, refl, sym, ap, ◌∙◌, ℕ, ◌+◌, ◌-◌, ◌<◌, ◌≤◌, cond, List, get_or, ℤ, pos, arith, subst}
use Rattle.std.specs.Prelude.{nat_lt}
use Rattle.std.proofs.lemmas.Bool.{cond-false, cond-true, le-ltb, lt-ltb}
use Rattle.cyp_kernel.proofs.NewNumber.{int_var}
use Rattle.cyp_kernel.proofs.OldVars.{IsOld, next_at}
use Rattle.cyp_kernel.proofs.UnfoldParams.{set_numbered}
use Rattle.cyp_kernel.specs.Correct.{AgreeBy}
use Rattle.cyp_pred.specs.Unfold.{card_var}
use Rattle.cyp_pred.specs.declared.unfolded.Next.{Next}
use Rattle.cyp_term.specs.Meaning.{Assignment, int_in}
use Rattle.cyp_term.specs.declared.term.Sort.{Sort}
use Rattle.cyp_term.specs.declared.term.Sort.TheVariants.{Card, Int, Set}
use Rattle.cyp_term.specs.declared.term.Var.{Var}

module _ (x : Next) (ints sets : ℕ) (ns : List ℕ) (s w : Assignment) where
  abbrev pub opened_number : Sort → Var → ℤ
  opened_number Int v = cond (nat_lt v.number x.ints) (s.number v) (w.number (int_var (ints + (v.number - x.ints))))
  opened_number Card v = cond (nat_lt v.number x.cards) (s.number v) (pos (get_or ns (v.number - x.cards) 0))
  opened_number Set v = s.number v

  abbrev pub opened_members : Var → List ℤ
  opened_members v = cond (nat_lt v.number x.sets) (s.members v) (w.members (set_numbered (sets + (v.number - x.sets))))

  -- old variables as in the first assignment; new integers and sets as the clause's own variables in the second, which are numbered
  -- from these numbers on; new cardinalities are the heights
  abbrev pub opened : Assignment
  opened = record { number = λ v. opened_number v.sort v; members = opened_members }

  number_by_sort : (o : Sort) (v : Var) → v.number < next_at x o → s.number v ≡ opened_number o v
  number_by_sort Int v h = sym (cond-true (nat_lt v.number x.ints) (s.number v) (w.number (int_var (ints + (v.number - x.ints)))) (lt-ltb v.number x.ints h))
  number_by_sort Card v h = sym (cond-true (nat_lt v.number x.cards) (s.number v) (pos (get_or ns (v.number - x.cards) 0)) (lt-ltb v.number x.cards h))
  number_by_sort Set v h = refl

  pub number_old : (v : Var) → IsOld x v → s.number v ≡ opened.number v
  number_old v h = number_by_sort v.sort v h

  agree_by_sort : (o : Sort) (v : Var) → v.sort ≡ o → IsOld x v → AgreeBy o s opened v
  agree_by_sort Int v e h = number_old v h
  agree_by_sort Card v e h = number_old v h
  agree_by_sort Set v e h =
      let below : v.number < x.sets = subst (λ (o : Sort). v.number < next_at x o) e h in
      λ z. sym (ap (int_in z) (cond-true (nat_lt v.number x.sets) (s.members v) (w.members (set_numbered (sets + (v.number - x.sets)))) (lt-ltb v.number x.sets below)))

  -- old variables keep their values
  pub opened_old : (v : Var) → IsOld x v → AgreeBy v.sort s opened v
  opened_old v h = agree_by_sort v.sort v refl h

  behind : (a d : ℕ) → a ≤ a + d
  behind a d = omega arith

  taken : (a d : ℕ) → (a + d) - a ≡ d
  taken a d = omega arith

  -- and the new ones have theirs
  pub new_number : (d : ℕ) → opened.number (int_var (x.ints + d)) ≡ w.number (int_var (ints + d))
  new_number d =
      cond-false (nat_lt (x.ints + d) x.ints) (s.number (int_var (x.ints + d))) (w.number (int_var (ints + ((x.ints + d) - x.ints)))) (le-ltb (x.ints + d) x.ints (behind x.ints d))
      ∙ ap (λ (y : ℕ). w.number (int_var (ints + y))) (taken x.ints d)

  pub new_members : (d : ℕ) → opened.members (set_numbered (x.sets + d)) ≡ w.members (set_numbered (sets + d))
  new_members d =
      cond-false (nat_lt (x.sets + d) x.sets) (s.members (set_numbered (x.sets + d))) (w.members (set_numbered (sets + ((x.sets + d) - x.sets)))) (le-ltb (x.sets + d) x.sets (behind x.sets d))
      ∙ ap (λ (y : ℕ). w.members (set_numbered (sets + y))) (taken x.sets d)

  pub new_card : (d : ℕ) → opened.number (card_var (x.cards + d)) ≡ pos (get_or ns d 0)
  new_card d =
      cond-false (nat_lt (x.cards + d) x.cards) (s.number (card_var (x.cards + d))) (pos (get_or ns ((x.cards + d) - x.cards) 0)) (le-ltb (x.cards + d) x.cards (behind x.cards d))
      ∙ ap (λ (y : ℕ). pos (get_or ns y 0)) (taken x.cards d)
