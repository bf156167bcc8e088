-- A place that is made changes no answer, and it is there.
use Rattle.std.proofs.Common.{◌≡◌, refl, sym, ◌∙◌, ap, Bool, true, false, cond, List, [], ◌∷◌, ◌++◌, Option, Some, None}
use Rattle.std.specs.Prelude.{is_some, if◌then◌else◌}
use Rattle.std.specs.Map.{lookup}
use Rattle.cyp_space.specs.Alts.{AltOf}
use Rattle.cyp_memo.specs.Places.{Places, moves_there, has_place, moves_at, with_place}

module _ {R N : Type 0} (eq : N → N → Bool) (n : N) where
  there_by : (p : N × Option (List (AltOf R N))) (places : Places R N) (b : Bool) → is_some (lookup (eq n) (places ++ (n, None) ∷ [])) ≡ true → is_some (cond b (Some p.1) (lookup (eq n) (places ++ (n, None) ∷ []))) ≡ true
  there_by p places true h = refl
  there_by p places false h = h

  there_last : (places : Places R N) → eq n n ≡ true → is_some (lookup (eq n) (places ++ (n, None) ∷ [])) ≡ true
  there_last [] e = ap (λ (b : Bool). is_some (cond {A = Option (Option (List (AltOf R N)))} b (Some None) None)) e
  there_last (p ∷ places) e = there_by p places (eq n p.0) (there_last places e)

  there : (places : Places R N) (b : Bool) → has_place eq places n ≡ b → eq n n ≡ true → is_some (lookup (eq n) (if b then places else (places ++ (n, None) ∷ []))) ≡ true
  there places true h e = h
  there places false h e = there_last places e

  pub has-with_place : (places : Places R N) → eq n n ≡ true → has_place eq (with_place eq places n) n ≡ true
  has-with_place places e = there places (has_place eq places n) refl e

  same_by : (q : N) (p : N × Option (List (AltOf R N))) (places : Places R N) (b : Bool) → moves_there (lookup (eq q) (places ++ (n, None) ∷ [])) ≡ moves_there (lookup (eq q) places)
      → moves_there (cond b (Some p.1) (lookup (eq q) (places ++ (n, None) ∷ []))) ≡ moves_there (cond b (Some p.1) (lookup (eq q) places))
  same_by q p places true h = refl
  same_by q p places false h = h

  nothing_by : (b : Bool) → moves_there {M = List (AltOf R N)} (cond b (Some None) None) ≡ None
  nothing_by true = refl
  nothing_by false = refl

  same_last : (q : N) (places : Places R N) → moves_there (lookup (eq q) (places ++ (n, None) ∷ [])) ≡ moves_there (lookup (eq q) places)
  same_last q [] = nothing_by (eq q n)
  same_last q (p ∷ places) = same_by q p places (eq q p.0) (same_last q places)

  same : (q : N) (places : Places R N) (b : Bool) → moves_there (lookup (eq q) (if b then places else (places ++ (n, None) ∷ []))) ≡ moves_there (lookup (eq q) places)
  same q places true = refl
  same q places false = same_last q places

  pub moves_at-with_place : (q : N) (places : Places R N) → moves_at eq (with_place eq places n) q ≡ moves_at eq places q
  moves_at-with_place q places = same q places (has_place eq places n)
