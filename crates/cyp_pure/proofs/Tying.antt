-- Literals that tie one term to others, one after another.
use Rattle.std.proofs.Common.{◌≡◌, ℕ, zero, suc, ◌+◌, ◌<◌, ◌≤◌, List, [], ◌∷◌, ◌++◌, get_or, length, take, refl, sym, ap, ap₂, ◌∙◌, add-one, append_assoc, arith}
use Rattle.std.specs.List.{zip}
use Rattle.std.proofs.lemmas.List.{take_all}
use Rattle.cyp_term.specs.declared.lit.Lit.{Lit}
use Rattle.cyp_term.specs.declared.term.Term.{Term}
use Rattle.cyp_pure.specs.Dealing.{tie, ties}

take_zip : {X Y : Type 0} (xs : List X) (ys : List Y) (i : ℕ) (x : X) (y d : Y) → i < length xs → i < length ys → x ≡ get_or xs i x → y ≡ get_or ys i d → take (suc i) (zip xs ys) ≡ take i (zip xs ys) ++ (x, y) ∷ []
take_zip [] ys i x y d h k e f = absurd (omega arith)
take_zip (u ∷ xs) [] i x y d h k e f = absurd (omega arith)
take_zip (u ∷ xs) (v ∷ ys) zero x y d h k e f = ap₂ (λ a b. (a, b) ∷ []) (sym e) (sym f)
take_zip (u ∷ xs) (v ∷ ys) (suc i) x y d h k e f = ap (λ ps. (u, v) ∷ ps) (take_zip xs ys i x y d (omega arith) (omega arith) e f)

ties-push : (t : Term) (k : ℕ) (ps : List (Term × ℕ)) (p : Term × ℕ) → ties t k (ps ++ p ∷ []) ≡ ties t k ps ++ tie t k p ∷ []
ties-push t k [] p = refl
ties-push t k (q ∷ ps) p = ap (λ ls. tie t k q ∷ ls) (ties-push t k ps p)

pub tied_more : (facts now new : List Lit) (ts : List Term) (ks : List ℕ) (t : Term) (k i : ℕ) (u : Term) (j d : ℕ) (l : Lit) → now ≡ facts ++ ties t k (take i (zip ts ks)) → i < length ts → i < length ks → u ≡ get_or ts i u → j ≡ get_or ks i d → l ≡ tie t k (u, j) → new ≡ now ++ l ∷ [] → new ≡ facts ++ ties t k (take (i + 1) (zip ts ks))
tied_more facts now new ts ks t k i u j d l e h m a b f g =
    g ∙ ap₂ (λ xs x. xs ++ x ∷ []) e f ∙ append_assoc facts (ties t k (take i (zip ts ks))) (tie t k (u, j) ∷ [])
    ∙ ap (λ xs. facts ++ xs) (sym (ties-push t k (take i (zip ts ks)) (u, j)))
    ∙ ap (λ ps. facts ++ ties t k ps) (sym (take_zip ts ks i u j d h m a b) ∙ ap (λ n. take n (zip ts ks)) (sym (add-one i)))

length-zip-le : {X Y : Type 0} (xs : List X) (ys : List Y) → length (zip xs ys) ≤ length ys
length-zip-le [] ys = omega arith
length-zip-le (x ∷ xs) [] = omega arith
length-zip-le (x ∷ xs) (y ∷ ys) = omega (arith, length-zip-le xs ys)

pub tied_all : (facts now : List Lit) (ts : List Term) (ks : List ℕ) (t : Term) (k i : ℕ) → now ≡ facts ++ ties t k (take i (zip ts ks)) → length ks ≤ i → now ≡ facts ++ ties t k (zip ts ks)
tied_all facts now ts ks t k i e h = e ∙ ap (λ ps. facts ++ ties t k ps) (take_all i (zip ts ks) (omega (arith, length-zip-le ts ks)))
