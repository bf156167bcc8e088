-- The status of new alternatives, one after the other.
use Rattle.std.proofs.Common.{◌≡◌, refl, sym, ◌∙◌, ap, ℕ, ◌+◌, ◌<◌, ◌==◌, Bool, false, List, [], ◌∷◌, drop, length, arith}
use Rattle.std.specs.Prelude.{slice_index_or}
use Rattle.std.proofs.lemmas.Bool.{eqb-false}
use Rattle.std.proofs.lemmas.List.{drop_more}
use Rattle.cyp_space.specs.Alts.{AltOf}
use Rattle.cyp_tree.specs.declared.mark.Mark.{Mark}
use Rattle.cyp_tree.specs.declared.mark.Mark.TheVariants.{Undecided, Solved, Failed}
use Rattle.cyp_tree.specs.Statuses.{either}
use Rattle.cyp_tree.specs.Enlarged.{premises_status, fresh_status}

open_again : (x y : Mark) → either Undecided (either Undecided x) ≡ y → either Undecided x ≡ y
open_again Undecided y e = e
open_again Solved y e = e
open_again Failed y e = e

step : (st x y : Mark) → (st ≡ Solved → ⊥) → either st (either Undecided x) ≡ y → either Undecided x ≡ y
step Undecided x y h e = open_again x y e
step Solved x y h e = absurd (h refl)
step Failed x y h e = e

some_premise : {N : Type 0} (ns : List N) → 0 < length ns → premises_status ns ≡ Undecided
some_premise [] h = absurd (omega arith)
some_premise (n ∷ ns) h = refl

pub fresh_next : {R N : Type 0} (as' : List (AltOf R N)) (i : ℕ) (a : AltOf R N) (st : Mark) → i < length as' → a ≡ slice_index_or as' i a → 0 < length a.premises → (st ≡ Solved → ⊥)
    → either st (fresh_status (drop i as')) ≡ fresh_status as' → either Undecided (fresh_status (drop (i + 1) as')) ≡ fresh_status as'
fresh_next as' i a st h e some no_solved inv =
    step st (fresh_status (drop (i + 1) as')) (fresh_status as') no_solved
    (sym (ap (either st) (ap fresh_status (drop_more as' i a h ∙ ap (λ (z : AltOf _ _). z ∷ drop (i + 1) as') (sym e)) ∙ ap (λ (z : Mark). either z (fresh_status (drop (i + 1) as'))) (some_premise a.premises some))) ∙ inv)

pub some_by_test : (b : Bool) (n m : ℕ) → n ≡ m → b ≡ false → b ≡ (n == 0) → 0 < m
some_by_test b n m same no_item e = let some : n ≡ 0 → ⊥ = eqb-false n 0 (sym e ∙ no_item) in omega arith
