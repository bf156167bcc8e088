-- The tuple of the last link.
use Rattle.std.proofs.Common.{◌≡◌, ◌∙◌, ◌-◌, ◌∷◌, [], List, ap, get_or, length, refl, arith}
use Rattle.cyp_heap.specs.declared.goal.Link.{Link}
use Rattle.cyp_step.specs.Unfolding.{last_tuple}

last_at : (x : Link) (ks : List Link) (d : Link) → (get_or (x ∷ ks) (length ks) d).tuple ≡ last_tuple (x ∷ ks)
last_at x [] d = refl
last_at x (y ∷ ks) d = last_at y ks d

pub tuple_of_last : (ks : List Link) (d : Link) → (length ks ≡ 0 → ⊥) → (get_or ks (length ks - 1) d).tuple ≡ last_tuple ks
tuple_of_last [] d h = absurd (h refl)
tuple_of_last (x ∷ ks) d h =
    let same : length (x ∷ ks) - 1 ≡ length ks = omega arith in
    ap (λ i. (get_or (x ∷ ks) i d).tuple) same ∙ last_at x ks d
