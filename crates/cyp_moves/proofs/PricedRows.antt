-- A list that is mapped element by element.
use Rattle.std.proofs.Common.{◌≡◌, ◌∙◌, ◌++◌, ◌∷◌, List, [], ap, append_assoc, map, sym}

-- the first element of what is left goes over
pub goes_over : {A B : Type 0} (f : A → B) (x : A) (xs ys : List A) (done more all : List B) → ys ≡ x ∷ xs → all ≡ done ++ map f ys → more ≡ done ++ f x ∷ [] → all ≡ more ++ map f xs
goes_over f x xs ys done more all e h m =
    h ∙ ap (λ zs. done ++ map f zs) e ∙ sym (append_assoc done (f x ∷ []) (map f xs)) ∙ ap (λ zs. zs ++ map f xs) (sym m)
