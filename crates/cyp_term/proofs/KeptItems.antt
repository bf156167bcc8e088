-- A set of references to items has the items that were met.
use Rattle.std.proofs.Common.{◌≡◌, ◌∙◌, ◌||◌, ◌+◌, ◌<◌, [], ◌∷◌, ◌++◌, Bool, Bor, Decides, List, ℕ, cond, drop, false, get_or, length, not, take, true, ap, refl, subst, sym}
use Rattle.std.specs.List.{list_any}
use Rattle.std.proofs.lemmas.Bool.Decides.{same_from_decides}
use Rattle.std.proofs.lemmas.List.{append_assoc, drop_more, take_more}
use Rattle.cyp_term.proofs.FirstOnes.{one_more}
use Rattle.cyp_term.specs.Once.{are_new}

-- an exact test decides equality
pub decided : {A : Type 0} (eq : A → A → Bool) → ((x y : A) → eq x y ≡ true → x ≡ y) → ((x : A) → eq x x ≡ true) → (x y : A) → Decides (eq x y) (x ≡ y)
decided eq exact self x y = (exact x y, λ e. subst (λ z. eq x z ≡ true) e (self x))

either_way : (a b : Bool) → cond a true b ≡ (b || a)
either_way true true = refl
either_way true false = refl
either_way false true = refl
either_way false false = refl

module _ {A : Type 0} (eq : A → A → Bool) (decides : (x y : A) → Decides (eq x y) (x ≡ y)) where
  turned : (a b : A) → eq a b ≡ eq b a
  turned a b = same_from_decides (eq a b) (eq b a) (decides a b) (λ e. sym ((decides b a).0 e), λ e. (decides b a).1 (sym e))

  -- whether the item is among those that the set refers to
  abbrev is_kept : A → List (Bor A) → Bool
  is_kept q keys = list_any (λ k. eq q k.now) keys

  module _ (xs : List A) (i : ℕ) (lt : i < length xs) (keys : List (Bor A)) (x : A) (is : x ≡ get_or xs i x) (same : (q : A) → is_kept q keys ≡ list_any (eq q) (take i xs)) where
    next : take (i + 1) xs ≡ take i xs ++ x ∷ []
    next = take_more xs i x lt ∙ ap (λ l. take i xs ++ l ∷ []) (sym is)

    pub kept_more : (new : List (Bor A)) → ((q : Bor A) → is_kept q.now new ≡ cond (eq x q.now) true (is_kept q.now keys)) → (q : A) → is_kept q new ≡ list_any (eq q) (take (i + 1) xs)
    kept_more new updates q =
        updates (record { ref_ptr = (0, 0); now = q }) ∙ ap (cond (eq x q) true) (same q)
        ∙ either_way (eq x q) (list_any (eq q) (take i xs)) ∙ ap (λ b. list_any (eq q) (take i xs) || b) (turned x q) ∙ sym (one_more eq decides (take i xs) x q)
        ∙ ap (list_any (eq q)) (sym next)

    pub told_more : (news new whole : List Bool) (b : Bool) → b ≡ not (is_kept x keys) → new ≡ news ++ b ∷ [] → news ++ are_new eq (take i xs) (drop i xs) ≡ whole
        → new ++ are_new eq (take (i + 1) xs) (drop (i + 1) xs) ≡ whole
    told_more news new whole b e added told =
        let rest : List Bool = are_new eq (take i xs ++ x ∷ []) (drop (i + 1) xs) in
        let here : b ∷ rest ≡ are_new eq (take i xs) (drop i xs) =
        ap (λ c. c ∷ rest) (e ∙ ap not (same x)) ∙ ap (are_new eq (take i xs)) (ap (λ l. l ∷ drop (i + 1) xs) is ∙ sym (drop_more xs i x lt)) in
        (λ j. added j ++ are_new eq (next j) (drop (i + 1) xs)) ∙ append_assoc news (b ∷ []) rest ∙ ap (λ bs. news ++ bs) here ∙ told
