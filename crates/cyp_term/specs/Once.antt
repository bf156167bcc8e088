-- Which items of a list stand there for the first time.
use Rattle.std.specs.Prelude.{[], ◌≡◌, ◌++◌, ◌∷◌, Bool, Decides, List, not}
use Rattle.std.specs.List.{list_any}
use Rattle.cyp_term.specs.Terms.{without_repeats}

-- the second list has each item of the first once, where it stands first, by each test that decides equality
abbrev pub IsOnce : {A : Type 0} → List A → List A → Type 0
IsOnce {A} xs once = (eq : A → A → Bool) → ((x y : A) → Decides (eq x y) (x ≡ y)) → once ≡ without_repeats eq xs

-- for each of the others whether it stands neither among the first items nor before it
abbrev pub are_new : {A : Type 0} → (A → A → Bool) → List A → List A → List Bool
are_new eq before [] = []
are_new eq before (x ∷ xs) = not (list_any (eq x) before) ∷ are_new eq (before ++ x ∷ []) xs
