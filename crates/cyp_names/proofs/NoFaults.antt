-- Lists of faults that are empty.
use Rattle.std.proofs.Common.{List, [], ap, false, flat_map, inl, inr, refl, true, ◌++◌, ◌∙◌, ◌∷◌, ◌≡◌}
use Rattle.std.specs.Prelude.{Bool, cond}
use Rattle.cyp_term.proofs.Lists.{Among}

pub none_both : {A : Type 0} (xs ys : List A) → xs ++ ys ≡ [] → (xs ≡ []) × (ys ≡ [])
none_both [] ys e = (refl, e)
none_both (x ∷ xs) ys e = absurd cc

pub none_each : {A B : Type 0} (f : A → List B) (xs : List A) → flat_map f xs ≡ [] → (x : A) → Among x xs → f x ≡ []
none_each f [] e x m = absurd m
none_each f (y ∷ ys) e x (inl s) = ap f s ∙ (none_both (f y) (flat_map f ys) e).0
none_each f (y ∷ ys) e x (inr m) = none_each f ys (none_both (f y) (flat_map f ys) e).1 x m

pub test_true : {A : Type 0} (t : Bool) (x : A) (xs : List A) → cond t [] (x ∷ xs) ≡ [] → t ≡ true
test_true true x xs e = refl
test_true false x xs e = absurd cc

pub test_false : {A : Type 0} (t : Bool) (x : A) (xs : List A) → cond t (x ∷ xs) [] ≡ [] → t ≡ false
test_false false x xs e = refl
test_false true x xs e = absurd cc
