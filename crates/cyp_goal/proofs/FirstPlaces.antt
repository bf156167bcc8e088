-- The first literal that is solved, by its place.
use Rattle.std.proofs.Common.{◌≡◌, ◌∙◌, [], ◌∷◌, ℕ, zero, suc, ◌<◌, ◌≤◌, List, None, Option, Some, true, length, get_or, take, option_map, refl, ap, sym, arith}
use Rattle.std.specs.List.{list_all, remove}
use Rattle.std.specs.Option.{is_none}
use Rattle.std.proofs.lemmas.Bool.{and_parts, false≢true}
use Rattle.std.proofs.lemmas.List.{take_all}
use Rattle.std.proofs.lemmas.Option.{slice_get_read}
use Rattle.cyp_goal.proofs.FirstSolved.{first_at, none_found}
use Rattle.cyp_goal.specs.SolvedSides.{IsAnswer, IsFirst, side_answer}
use Rattle.cyp_goal.specs.Solving.{first_solved}
use Rattle.cyp_goal.specs.declared.equations.Side.{Side}
use Rattle.cyp_term.specs.declared.lit.Lit.{Lit}
use Rattle.cyp_term.specs.declared.subst.Subst.{Subst}

module _ (f : Lit → Option Subst) where
  here : (o : Option Subst) (l : Lit) (ls : List Lit) (by : Subst) → o ≡ Some by → first_at o l ls (first_solved f ls) ≡ Some (by, ls)
  here o l ls by e = ap (λ x. first_at x l ls (first_solved f ls)) e

  later : (o : Option Subst) (l : Lit) (ls rest : List Lit) (by : Subst) → is_none o ≡ true → first_solved f ls ≡ Some (by, rest) → first_at o l ls (first_solved f ls) ≡ Some (by, l ∷ rest)
  later None l ls rest by h e = ap (option_map (λ (p : Subst × List Lit). (p.0, l ∷ p.1))) e
  later (Some x) l ls rest by h e = absurd (false≢true h)

  at_place : (ls : List Lit) (k : ℕ) (d : Lit) (by : Subst) → list_all (λ m. is_none (f m)) (take k ls) ≡ true → k < length ls → f (get_or ls k d) ≡ Some by → first_solved f ls ≡ Some (by, remove ls k)
  at_place [] k d by h lt e = absurd (omega arith)
  at_place (l ∷ ls) zero d by h lt e = here (f l) l ls by e
  at_place (l ∷ ls) (suc k) d by h lt e =
      let both = and_parts (is_none (f l)) (list_all (λ m. is_none (f m)) (take k ls)) h in
      later (f l) l ls (remove ls k) by both.0 (at_place ls k d by both.1 (omega arith) e)

  by_answer : (given o : Option Subst) → IsAnswer given o → (by : Subst) × (given ≡ Some by) × (o ≡ Some by)
  by_answer given (Some by) a = (by, a.0, refl)
  by_answer given None a = absurd (false≢true a.1)

  -- the literal at the place is the first
  pub is_first : (ls : List Lit) (k : ℕ) (l : Lit) (side : Side) → list_all (λ m. is_none (f m)) (take k ls) ≡ true → k < length ls → l ≡ get_or ls k l → IsAnswer (f l) (side_answer side l)
      → IsFirst f ls k side
  is_first ls k l side h lt is a =
      let b = by_answer (f l) (side_answer side l) a in
      record {
        within = lt;
        lit = l;
        there = slice_get_read ls (length ls) k l refl lt is;
        by = b.0;
        answer = b.2;
        first = at_place ls k l b.0 h lt (ap f (sym is) ∙ b.1);
      }

  -- there is none
  pub is_no_first : (ls : List Lit) (k : ℕ) → list_all (λ m. is_none (f m)) (take k ls) ≡ true → length ls ≤ k → first_solved f ls ≡ None
  is_no_first ls k h le = none_found f ls (ap (list_all (λ m. is_none (f m))) (sym (take_all k ls le)) ∙ h)
