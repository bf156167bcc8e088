-- The least distances of rows meet them.
use Rattle.std.proofs.Common.{◌≡◌, inl, inr, ℕ, zero, suc, ◌+◌, ◌*◌, ◌^◌, ◌<◌, ◌≤◌, ℤ, pos, neg_ℤ, ◌+ℤ◌, ◌≤ℤ◌, ◌<ℤ◌, List, [], ◌∷◌, ◌++◌, length, get_or, take, map, refl, sym, ap, ap₂, ◌∙◌, subst, add-one, FitsSigned, to_z, of_z, w64, arith}
use Rattle.std.proofs.lemmas.Int.{ints, to_z-of_z}
use Rattle.std.proofs.lemmas.List.{take_all}
use Rattle.std.specs.Int.{int_min}
use Rattle.cyp_diff.specs.Distances.{none, distance}
use Rattle.cyp_diff.specs.Closed.{AreBounds}
use Rattle.cyp_diff.specs.Solution.{least, at, IsLow, Solves}
use Rattle.cyp_diff.proofs.Closing.{distance_least}
use Rattle.cyp_diff.proofs.Coming.{length_map}
use Rattle.cyp_diff.proofs.Mapping.{get_or-any}
use Rattle.cyp_diff.proofs.Meeting.{solution_meets, least-step, least-low, least-reached, inside}

-- the least entry of a row, and at most 0
abbrev pub row_least : List ℤ → ℤ
row_least row = least (λ k. get_or row k none) 40

get_or-map_in : {X Y : Type 0} (f : X → Y) (xs : List X) (k : ℕ) (d : Y) (e : X) → k < length xs → get_or (map f xs) k d ≡ f (get_or xs k e)
get_or-map_in f [] k d e h = absurd (omega arith)
get_or-map_in f (x ∷ xs) zero d e h = refl
get_or-map_in f (x ∷ xs) (suc k) d e h = get_or-map_in f xs k d e (omega arith)

value : (rows : List (List ℤ)) (a : ℕ) (d : ℤ) → a < length rows → get_or (map row_least rows) a d ≡ least (distance rows a) 40
value rows a d h = get_or-map_in row_least rows a d [] h

least_from : (rows : List (List ℤ)) (a : ℕ) → AreBounds rows → a < length rows → IsLow (least (distance rows a) 40)
least_from rows a h la =
    let low : least (distance rows a) 40 ≤ℤ pos 0 = least-low (distance rows a) 40 in
    elim (least-reached (distance rows a) 40) [
      | inl e ↦ record { least = omega (arith, ints); most = low }
      | inr e ↦
          let r : ℕ = e.0 in
          let g : least (distance rows a) 40 ≡ distance rows a r = e.2 in
          let q : distance rows a r <ℤ none = omega (arith, ints) in
          let k : neg_ℤ (distance rows a r) ≤ℤ pos (33 * 2 ^ 34) = distance_least (length rows) (distance rows) a r h.closed h.few la (inside (length rows) (distance rows) h.closed a r q) q in
          record { least = omega (arith, ints); most = low }
    ]

pub solved : (rows : List (List ℤ)) (xs : List ℤ) → AreBounds rows → xs ≡ map row_least rows → Solves rows xs
solved rows xs h e = record {
  places = ap length e ∙ length_map row_least rows;
  meets = λ a b la lb f.
      let m : least (distance rows a) 40 ≤ℤ (least (distance rows b) 40 +ℤ distance rows a b) = solution_meets (length rows) 40 (distance rows) (omega (arith, h.few)) h.closed a b la lb f in
      let va : at xs a ≡ least (distance rows a) 40 = ap (λ zs. get_or zs a (pos 0)) e ∙ value rows a (pos 0) la in
      let vb : at xs b ≡ least (distance rows b) 40 = ap (λ zs. get_or zs b (pos 0)) e ∙ value rows b (pos 0) lb in
      omega (arith, ints);
  low = λ k d lk.
      let lr : k < length rows = omega (arith, ap length e, length_map row_least rows) in
      subst IsLow (sym (ap (λ zs. get_or zs k d) e ∙ value rows k d lr)) (least_from rows k h lr);
}

pub least_step : (row : List ℤ) (k : ℕ) (low r : ℤ) → k < length row → FitsSigned w64 (get_or row k (pos 0)) → FitsSigned w64 r → low ≡ least (λ i. get_or row i none) k → r ≡ int_min (to_z w64 (of_z w64 (get_or row k (pos 0)))) low →
    to_z w64 (of_z w64 r) ≡ least (λ i. get_or row i none) (k + 1)
least_step row k low r h f g e is =
    to_z-of_z w64 r g ∙ is ∙ ap₂ int_min (to_z-of_z w64 (get_or row k (pos 0)) f ∙ get_or-any row k (pos 0) none h) e ∙ sym (least-step (λ i. get_or row i none) k)

take_more_map : {X Y : Type 0} (f : X → Y) (xs : List X) (i : ℕ) (d : X) → i < length xs → map f (take i xs) ++ f (get_or xs i d) ∷ [] ≡ map f (take (suc i) xs)
take_more_map f [] i d h = absurd (omega arith)
take_more_map f (x ∷ xs) zero d h = refl
take_more_map f (x ∷ xs) (suc i) d h = ap (λ zs. f x ∷ zs) (take_more_map f xs i d (omega arith))

pub solution_step : (rows : List (List ℤ)) (xs new : List ℤ) (i : ℕ) (r : ℤ) → xs ≡ map row_least (take i rows) → i < length rows → FitsSigned w64 r → r ≡ row_least (get_or rows i []) → new ≡ xs ++ to_z w64 (of_z w64 r) ∷ [] → new ≡ map row_least (take (i + 1) rows)
solution_step rows xs new i r e h f g is =
    is ∙ ap₂ (λ zs z. zs ++ z ∷ []) e (to_z-of_z w64 r f ∙ g) ∙ take_more_map row_least rows i [] h ∙ ap (λ n. map row_least (take n rows)) (sym (add-one i))

pub all_solved : (rows items : List (List ℤ)) (xs : List ℤ) (i : ℕ) → AreBounds rows → items ≡ rows → length items ≤ i → xs ≡ map row_least (take i items) → Solves rows xs
all_solved rows items xs i h e le is = solved rows xs h (is ∙ ap (map row_least) (take_all i items le ∙ e))
