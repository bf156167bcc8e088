-- How many premises a memo holds once a place is made, and once a place has moves.
use Rattle.std.proofs.Common.{◌≡◌, refl, sym, ap, ℕ, ◌+◌, Bool, true, false, cond, List, [], ◌∷◌, ◌++◌, Option, Some, None, arith}
use Rattle.std.specs.Prelude.{is_some, if◌then◌else◌}
use Rattle.std.specs.Map.{lookup, set_value}
use Rattle.cyp_space.specs.Alts.{AltOf, premises_in}
use Rattle.cyp_memo.specs.Places.{Places, moves_there, has_place, with_place, held_at, held_in}

-- a place without moves holds nothing
pub held-place : {R N : Type 0} (places : Places R N) (n : N) → held_in (places ++ (n, None) ∷ []) ≡ held_in places
held-place [] n = refl
held-place (p ∷ places) n = ap (λ (k : ℕ). held_at p.1 + k) (held-place places n)

pub none_from : {A : Type 0} (o : Option A) → is_some o ≡ false → o ≡ None
none_from None e = refl
none_from (Some x) e = let bad : true ≡ false = e in cc

no_moves : {M : Type 0} (o : Option (Option M)) → is_some o ≡ true → moves_there o ≡ None → o ≡ Some None
no_moves None e f = let bad : false ≡ true = e in cc
no_moves (Some None) e f = refl
no_moves (Some (Some m)) e f = cc

module _ {R N : Type 0} (test : N → Bool) (moves : List (AltOf R N)) where
  set_by : (p : N × Option (List (AltOf R N))) (places : Places R N) (b : Bool) → cond b (Some p.1) (lookup test places) ≡ Some None
      → (lookup test places ≡ Some None → held_in (set_value test places (Some moves)) ≡ premises_in moves + held_in places)
      → held_in (cond b ((p.0, Some moves) ∷ places) (p ∷ set_value test places (Some moves))) ≡ premises_in moves + (held_at p.1 + held_in places)
  set_by p places true e more =
      let none : p.1 ≡ None = (let same : Some p.1 ≡ Some None = e in cc) in
      omega (arith, ap held_at none)
  set_by p places false e more = omega (arith, more e)

  held_set : (places : Places R N) → lookup test places ≡ Some None → held_in (set_value test places (Some moves)) ≡ premises_in moves + held_in places
  held_set [] e = cc
  held_set (p ∷ places) e = set_by p places (test p.0) e (held_set places)

  -- moves at a place without any are held besides
  pub held-moves : (places : Places R N) → is_some (lookup test places) ≡ true → moves_there (lookup test places) ≡ None → held_in (set_value test places (Some moves)) ≡ premises_in moves + held_in places
  held-moves places e f = held_set places (no_moves (lookup test places) e f)

-- where a node has a place, nothing is made, and else one
pub placed_there : {R N : Type 0} (eq : N → N → Bool) (places : Places R N) (n : N) → has_place eq places n ≡ true → places ≡ with_place eq places n
placed_there eq places n e = ap (λ (b : Bool). if b then places else (places ++ (n, None) ∷ [])) (sym e)

pub placed_new : {R N : Type 0} (eq : N → N → Bool) (places : Places R N) (n : N) → has_place eq places n ≡ false → places ++ (n, None) ∷ [] ≡ with_place eq places n
placed_new eq places n e = ap (λ (b : Bool). if b then places else (places ++ (n, None) ∷ [])) (sym e)
