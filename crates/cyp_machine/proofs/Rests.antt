-- Bodies one after another, and called procedures' variables.
use Rattle.std.proofs.Common.{[], List, None, Some, ap, arith, length, refl, suc, sym, ℕ, ℤ, ◌+◌, ◌++◌, ◌∙◌, ◌∷◌, ◌≡◌}
use Rattle.cyp_machine.specs.Rests.{first_of, rest_of}
use Rattle.cyp_machine.specs.Steps.{followed_by}
use Rattle.cyp_machine.specs.Values.{params_from}
use Rattle.cyp_prog.specs.Programs.{Body, End, Statement, Then}

pub followed-end : (b : Body) → followed_by b End ≡ b
followed-end End = refl
followed-end (Then s b) = ap (Then s) (followed-end b)

-- one more argument
pub params-push : (k : ℕ) (zs : List ℤ) (z : ℤ) → params_from k (zs ++ z ∷ []) ≡ params_from k zs ++ (k + length zs, z) ∷ []
params-push k [] z = λ i. (sym (more k) i, z) ∷ []
  where
    more : (k : ℕ) → k + 0 ≡ k
    more k = omega arith
params-push k (y ∷ zs) z = ap (λ vs. (k, y) ∷ vs) (params-push (suc k) zs z ∙ ap (λ (j : ℕ). params_from (suc k) zs ++ (j, z) ∷ []) (more k (length zs)))
  where
    more : (k n : ℕ) → suc k + n ≡ k + suc n
    more k n = omega arith

pub then_of : (b : Body) (s : Statement) → first_of b ≡ Some s → b ≡ Then s (rest_of b)
then_of End s e = cc
then_of (Then t b) s e = let same : t ≡ s = cc in ap (λ (u : Statement). Then u b) same

pub end_of : (b : Body) → first_of b ≡ None → b ≡ End
end_of End e = refl
end_of (Then s b) e = cc
