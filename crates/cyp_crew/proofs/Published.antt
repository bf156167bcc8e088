-- A leaf is published where its node is in the list of published nodes.
use Rattle.std.proofs.Common.{◌≡◌, refl, sym, ap, subst, IsTrue, zero, suc, Bool, true, false, ◌||◌, List, [], ◌∷◌, arith}
use Rattle.std.specs.List.{Contains, list_any}
use Rattle.cyp_crew.specs.Crews.{Task, TellsEqual, Crew}
use Rattle.cyp_crew.specs.Claims.{is_published}

or_right : (a b : Bool) → b ≡ true → (a || b) ≡ true
or_right true b e = refl
or_right false b e = e

module _ {N : Type 0} (same : N → N → Bool) (tells : TellsEqual same) (n : N) where
  first_or_later : (x : N) (xs : List N) (b : Bool) → same n x ≡ b → (b || list_any (same n) xs) ≡ true → (list_any (same n) xs ≡ true → Contains xs n) → Contains (x ∷ xs) n
  first_or_later x xs true e h later = (0, omega arith, sym (tells.equal n x e))
  first_or_later x xs false e h later = let there : Contains xs n = later h in (suc there.0, omega (arith, there.1), there.2)

  found_in : (xs : List N) → list_any (same n) xs ≡ true → Contains xs n
  found_in [] h = cc
  found_in (x ∷ xs) h = first_or_later x xs (same n x) refl h (found_in xs)

  in_found : (xs : List N) → Contains xs n → list_any (same n) xs ≡ true
  in_found [] (j, h, e) = let past : ⊥ = omega arith in absurd past
  in_found (x ∷ xs) (zero, h, e) = let yes : same n x ≡ true = subst (λ (y : N). same n y ≡ true) (sym e) (tells.itself n) in ap (λ (b : Bool). b || list_any (same n) xs) yes
  in_found (x ∷ xs) (suc j, h, e) = or_right (same n x) (list_any (same n) xs) (in_found xs (j, omega arith, e))

pub published_law : {R N : Type 0} (t : Task R N) (c : Crew N) (n : N) → TellsEqual t.same
    → (IsTrue (is_published t c n) → Contains c.published n) × (Contains c.published n → IsTrue (is_published t c n))
published_law t c n tells = (found_in t.same tells n c.published, in_found t.same tells n c.published)
