-- Elements that are added to a list unless they stand there.
use Rattle.std.proofs.Common.{◌≡◌, OnOk, Result, Ok, Err, ℕ, zero, suc, ◌+◌, ◌<◌, List, [], ◌∷◌, ◌++◌, Bool, get_or, length, take, sym, ap, ◌∙◌, add-one, append-nil, append_assoc, arith}
use Rattle.std.specs.List.{flat_map}
use Rattle.std.proofs.lemmas.List.{take_more}
use Rattle.cyp_term.specs.Terms.{with_all_new, with_new}
use Rattle.cyp_term.proofs.Repeats.{with_all_new_append}

-- both lists, one after the other
pub added_two : {X : Type 0} (eq : X → X → Bool) (old now new ys zs : List X) → now ≡ with_all_new eq old ys → new ≡ with_all_new eq now zs → new ≡ with_all_new eq old (ys ++ zs)
added_two eq old now new ys zs e f = f ∙ ap (λ xs. with_all_new eq xs zs) e ∙ sym (with_all_new_append eq old ys zs)

-- the element at one index more
pub added_at : {X : Type 0} (eq : X → X → Bool) (xs old now new : List X) (i : ℕ) (d : X) → now ≡ with_all_new eq old (take i xs) → i < length xs → new ≡ with_new eq now (get_or xs i d) → new ≡ with_all_new eq old (take (i + 1) xs)
added_at eq xs old now new i d e h f = added_two eq old now new (take i xs) (get_or xs i d ∷ []) e f ∙ ap (with_all_new eq old) (sym (take_more xs i d h))

-- one element more
pub added_one : {X : Type 0} (eq : X → X → Bool) (xs old now new : List X) (i : ℕ) (x : X) → now ≡ with_all_new eq old (take i xs) → i < length xs → x ≡ get_or xs i x → new ≡ with_new eq now x → new ≡ with_all_new eq old (take (i + 1) xs)
added_one eq xs old now new i x e h is f = added_at eq xs old now new i x e h (f ∙ ap (with_new eq now) is)

flat_map-suc : {X Y : Type 0} (f : X → List Y) (xs : List X) (i : ℕ) (d : X) → i < length xs → flat_map f (take (suc i) xs) ≡ flat_map f (take i xs) ++ f (get_or xs i d)
flat_map-suc f [] i d h = absurd (omega arith)
flat_map-suc f (x ∷ xs) zero d h = append-nil (f x)
flat_map-suc f (x ∷ xs) (suc i) d h = ap (λ zs. f x ++ zs) (flat_map-suc f xs i d (omega arith)) ∙ sym (append_assoc (f x) (flat_map f (take i xs)) (f (get_or xs i d)))

-- what one element brings more
pub flat_map-more : {X Y : Type 0} (f : X → List Y) (xs : List X) (i : ℕ) (d : X) → i < length xs → flat_map f (take (i + 1) xs) ≡ flat_map f (take i xs) ++ f (get_or xs i d)
flat_map-more f xs i d h = ap (λ n. flat_map f (take n xs)) (add-one i) ∙ flat_map-suc f xs i d h

-- the elements of one part more
pub added_part : {X Y : Type 0} (eq : Y → Y → Bool) (f : X → List Y) (xs : List X) (old now new : List Y) (i : ℕ) (x : X) → now ≡ with_all_new eq old (flat_map f (take i xs)) → i < length xs → x ≡ get_or xs i x → new ≡ with_all_new eq now (f x) → new ≡ with_all_new eq old (flat_map f (take (i + 1) xs))
added_part eq f xs old now new i x e h is g =
    added_two eq old now new (flat_map f (take i xs)) (f x) e g ∙ ap (λ y. with_all_new eq old (flat_map f (take i xs) ++ f y)) is ∙ ap (with_all_new eq old) (sym (flat_map-more f xs i x h))

-- both lists, where the second was added too
pub added_ok : {X U E : Type 0} (eq : X → X → Bool) (old now new ys zs : List X) (r : Result U E) → now ≡ with_all_new eq old ys → OnOk r (new ≡ with_all_new eq now zs) → OnOk r (new ≡ with_all_new eq old (ys ++ zs))
added_ok eq old now new ys zs (Ok u) e f = added_two eq old now new ys zs e f
added_ok eq old now new ys zs (Err x) e f = tt
