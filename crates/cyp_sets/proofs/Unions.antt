-- The masks of set terms.
use Rattle.std.proofs.Common.{◌≡◌, ℕ, ◌+◌, ◌<◌, Bool, ◌||◌, List, [], ◌∷◌, length, get_or, take, refl, sym, ap₂, ◌∙◌}
use Rattle.std.specs.Int.Bits.{bit_or}
use Rattle.std.specs.List.{All, list_any}
use Rattle.std.proofs.lemmas.List.Elements.{All-head, All-tail}
use Rattle.std.proofs.lemmas.List.Folds.{list_any_more}
use Rattle.cyp_term.specs.declared.lit.SetTerm.{SetTerm}
use Rattle.cyp_term.specs.Regions.{has_class}
use Rattle.cyp_term.specs.Terms.{var_in}
use Rattle.cyp_sets.specs.Masks.{share}
use Rattle.cyp_sets.specs.Names.{HasPlaces, IsUnion, Named, class_bit, class_in, var_bit}
use Rattle.cyp_sets.proofs.Bits.{share-or}

-- the mask of a list's elements, with one bit more
pub more_bits : {X : Type 0} (bit : X → ℕ) (xs : List X) (i mask b : ℕ) (d : X) → ((m : ℕ) → share m mask ≡ list_any (λ y. share m (bit y)) (take i xs)) → i < length xs → b ≡ bit (get_or xs i d) →
    (m : ℕ) → share m (bit_or mask b) ≡ list_any (λ y. share m (bit y)) (take (i + 1) xs)
more_bits bit xs i mask b d before lt is m =
    share-or m mask b ∙ ap₂ (λ s t. s || share m t) (before m) is ∙ sym (list_any_more (λ y. share m (bit y)) xs i d lt)

-- tests that agree at each element pass some element alike
pub list_any_agree : {X : Type 0} (p q : X → Bool) (xs : List X) → All (λ x. p x ≡ q x) xs → list_any p xs ≡ list_any q xs
list_any_agree p q [] h = refl
list_any_agree p q (x ∷ xs) h = ap₂ ◌||◌ (All-head (λ y. p y ≡ q y) x xs h) (list_any_agree p q xs (All-tail (λ y. p y ≡ q y) x xs h))

-- what holds of each element, from another fact of each
pub All-from : {X : Type 0} (P Q : X → Type 0) (xs : List X) → ((x : X) → P x → Q x) → All P xs → All Q xs
All-from P Q xs f h k d lt = f (get_or xs k d) (h k d lt)

pub union_mask : (n : Named) (u : SetTerm) (vs cs : ℕ) → HasPlaces n u → ((m : ℕ) → share m vs ≡ list_any (λ v. share m (var_bit n v)) u.vars) → ((m : ℕ) → share m cs ≡ list_any (λ e. share m (class_bit n e)) u.elems) → IsUnion n u (record { vars = vs; classes = cs })
union_mask n u vs cs h vars classes x m is =
    ap₂ ◌||◌
    (list_any_agree (λ v. var_in v x.region) (λ v. share m.vars (var_bit n v)) u.vars (All-from _ (λ v. var_in v x.region ≡ share m.vars (var_bit n v)) u.vars is.region h.0) ∙ sym (vars m.vars))
    (list_any_agree (λ e. has_class x.class (class_in n e)) (λ e. share m.classes (class_bit n e)) u.elems (All-from _ (λ e. has_class x.class (class_in n e) ≡ share m.classes (class_bit n e)) u.elems is.class h.1) ∙ sym (classes m.classes))
