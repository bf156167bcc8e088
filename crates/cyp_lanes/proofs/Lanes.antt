-- One lane of sixty-four bits, and eight entries read one by one.
use Rattle.std.proofs.Common.{◌≡◌, ℕ, zero, suc, ◌+◌, ◌-◌, ◌%◌, ◌^◌, ◌≤◌, ◌<◌, ℤ, int_lt, pos, negsuc, neg_ℤ, ◌≤ℤ◌, ◌+ℤ◌, to_z, of_z, FitsSigned, w64, List, [], ◌∷◌, length, take, drop, get_or, map, Bool, true, false, cond, refl, sym, ap, subst, add-one, append-nil, ◌++◌, ap₂, ◌∙◌, arith, replicate}
use Rattle.std.proofs.lemmas.Int.{ints, clamps, to_z-of_z, wrapping_add-bits, int_wrap_fits}
use Rattle.std.proofs.Math.Facts.{Fits-of_z}
use Rattle.std.proofs.Math.ListN.{set}
use Rattle.std.proofs.lemmas.List.{take_all, length-drop}
use Rattle.std.proofs.lemmas.List.Elements.{All-take, All-drop}
use Rattle.std.proofs.Math.ListN.{drop_of_length-le}
use Rattle.cyp_lanes.proofs.Parts.{joined_to, set-joined, get_or-joined, length-joined, put-joined, drop-joined, rest-joined}
use Rattle.std.proofs.Math.Seq.{drop-cons}
use Rattle.std.specs.Int.{int_min, int_wrap}
use Rattle.std.specs.List.{All}
use lib.Signed.{lt_z, mag}
use lib.Lanes.{zip2, sel_l, top, chunk, put_chunk}
use borrow.Rule.Slice.PartMut.{put_mid}
use Rattle.cyp_lanes.specs.Rows.{IsModest, relaxed}

-- the bits of a comparison, and of a sum that wraps
abbrev below : ℕ → ℕ → ℕ
below a b = cond (lt_z (to_z w64 a) (to_z w64 b)) (2 ^ 64 - 1) 0

abbrev added : ℕ → ℕ → ℕ
added a b = (a + b) % 2 ^ 64

abbrev chosen : Bool → ℕ → ℕ → ℤ
chosen b d s = to_z w64 (cond (top 63 (cond b (2 ^ 64 - 1) 0)) d s)

bits_fit : (z : ℤ) → FitsSigned w64 z → of_z w64 z < 2 ^ 64
bits_fit z f = (Fits-of_z f).fits

-- a number between -n and n, for n of at most 2 ^ 62
mag_from : (z : ℤ) (n : ℕ) → (neg_ℤ (pos n)) ≤ℤ z → z ≤ℤ pos n → mag z ≤ n
mag_from (pos m) n l h = omega (arith, ints)
mag_from (negsuc m) n l h = omega (arith, ints)

pub modest_fits : (z : ℤ) → IsModest z → FitsSigned w64 z
modest_fits z h = record { sfits = omega (arith, mag_from z (2 ^ 61) (omega (arith, ints)) (omega (arith, ints))) }

sum_fits : (s a : ℤ) → IsModest s → IsModest a → FitsSigned w64 (s +ℤ a)
sum_fits s a h k = record { sfits = omega (arith, mag_from (s +ℤ a) (2 ^ 62) (omega (arith, ints)) (omega (arith, ints))) }

pub through : (z : ℤ) → FitsSigned w64 z → to_z w64 (of_z w64 z) ≡ z
through z f = to_z-of_z w64 z f

sum_lane : (s a : ℤ) → IsModest s → IsModest a → to_z w64 (added (of_z w64 s) (of_z w64 a)) ≡ s +ℤ a
sum_lane s a h k =
    wrapping_add-bits w64 (of_z w64 s) (of_z w64 a) (bits_fit s (modest_fits s h)) (bits_fit a (modest_fits a k))
    ∙ ap₂ (λ x y. int_wrap w64 (x +ℤ y)) (through s (modest_fits s h)) (through a (modest_fits a k))
    ∙ int_wrap_fits w64 (s +ℤ a) (sum_fits s a h k)

lane_by : (d t : ℤ) (e : ℕ) → FitsSigned w64 d → to_z w64 e ≡ t → (b : Bool) → lt_z (to_z w64 (of_z w64 d)) (to_z w64 e) ≡ b → chosen b (of_z w64 d) e ≡ int_min d t
lane_by d t e fits is true h = grind (arith, ints, clamps)
lane_by d t e fits is false h = grind (arith, ints, clamps)

-- lane by lane, the lesser is chosen
pub lanes : (ds ss : List ℤ) (n : ℕ) (a : ℤ) → All (FitsSigned w64) ds → All IsModest ss → IsModest a → length ss ≤ n → map (to_z w64) (sel_l (map (top 63) (zip2 below (map (of_z w64) ds) (zip2 added (map (of_z w64) ss) (replicate n (of_z w64 a))))) (map (of_z w64) ds) (zip2 added (map (of_z w64) ss) (replicate n (of_z w64 a)))) ≡ relaxed ds ss a
lanes [] ss n a fits small modest h = refl
lanes (d ∷ ds) [] n a fits small modest h = refl
lanes (d ∷ ds) (s ∷ ss) zero a fits small modest h = absurd (omega arith)
lanes (d ∷ ds) (s ∷ ss) (suc n) a fits small modest h =
    ap₂ (λ z zs. z ∷ zs)
    (lane_by d (s +ℤ a) (added (of_z w64 s) (of_z w64 a)) (fits 0 d (omega arith)) (sum_lane s a (small 0 s (omega arith)) modest) _ refl)
    (lanes ds ss n a (λ k e lt. fits (suc k) e (omega arith)) (λ k e lt. small (suc k) e (omega arith)) modest (omega arith))

next_entry : (n i j : ℕ) (xs : List ℤ) (d : ℤ) → j ≡ i + 1 → i < length xs → get_or xs i d ∷ chunk j n xs ≡ chunk i (suc n) xs
next_entry n i j xs d e h = rw (e, add-one, drop-cons xs i d)

pub through-all : (zs : List ℤ) → All (FitsSigned w64) zs → map (to_z w64) (map (of_z w64) zs) ≡ zs
through-all [] f = refl
through-all (z ∷ zs) f = ap₂ (λ y ys. y ∷ ys) (through z (f 0 z (omega arith))) (through-all zs (λ k d h. f (suc k) d (omega arith)))

eight_entries : (i : ℕ) (xs : List ℤ) (d : ℤ) → i + 8 ≤ length xs → get_or xs i d ∷ get_or xs (i + 1) d ∷ get_or xs (i + 2) d ∷ get_or xs (i + 3) d ∷ get_or xs (i + 4) d ∷ get_or xs (i + 5) d ∷ get_or xs (i + 6) d ∷ get_or xs (i + 7) d ∷ [] ≡ chunk i 8 xs
eight_entries i xs d h =
    ap (λ zs. get_or xs i d ∷ get_or xs (i + 1) d ∷ get_or xs (i + 2) d ∷ get_or xs (i + 3) d ∷ get_or xs (i + 4) d ∷ get_or xs (i + 5) d ∷ get_or xs (i + 6) d ∷ zs) (next_entry 0 (i + 7) (i + 8) xs d (omega arith) (omega arith))
    ∙ ap (λ zs. get_or xs i d ∷ get_or xs (i + 1) d ∷ get_or xs (i + 2) d ∷ get_or xs (i + 3) d ∷ get_or xs (i + 4) d ∷ get_or xs (i + 5) d ∷ zs) (next_entry 1 (i + 6) (i + 7) xs d (omega arith) (omega arith))
    ∙ ap (λ zs. get_or xs i d ∷ get_or xs (i + 1) d ∷ get_or xs (i + 2) d ∷ get_or xs (i + 3) d ∷ get_or xs (i + 4) d ∷ zs) (next_entry 2 (i + 5) (i + 6) xs d (omega arith) (omega arith))
    ∙ ap (λ zs. get_or xs i d ∷ get_or xs (i + 1) d ∷ get_or xs (i + 2) d ∷ get_or xs (i + 3) d ∷ zs) (next_entry 3 (i + 4) (i + 5) xs d (omega arith) (omega arith))
    ∙ ap (λ zs. get_or xs i d ∷ get_or xs (i + 1) d ∷ get_or xs (i + 2) d ∷ zs) (next_entry 4 (i + 3) (i + 4) xs d (omega arith) (omega arith))
    ∙ ap (λ zs. get_or xs i d ∷ get_or xs (i + 1) d ∷ zs) (next_entry 5 (i + 2) (i + 3) xs d (omega arith) (omega arith))
    ∙ ap (λ zs. get_or xs i d ∷ zs) (next_entry 6 (i + 1) (i + 2) xs d (omega arith) (omega arith))
    ∙ next_entry 7 i (i + 1) xs d refl (omega arith)

-- the entries that were read are those of the chunk
pub eight_read : (i : ℕ) (xs zs : List ℤ) (d : ℤ) → i + 8 ≤ length xs → All (FitsSigned w64) zs → zs ≡ get_or xs i d ∷ get_or xs (i + 1) d ∷ get_or xs (i + 2) d ∷ get_or xs (i + 3) d ∷ get_or xs (i + 4) d ∷ get_or xs (i + 5) d ∷ get_or xs (i + 6) d ∷ get_or xs (i + 7) d ∷ [] → map (to_z w64) (map (of_z w64) zs) ≡ chunk i 8 xs
eight_read i xs zs d h f e = through-all zs f ∙ e ∙ eight_entries i xs d h

-- one entry of the loop that goes place by place
pub entry_step : (xs ys dst : List ℤ) (i : ℕ) (add a r : ℤ) → a ≡ to_z w64 (of_z w64 add) → length ys ≡ length xs → i < length xs → FitsSigned w64 (get_or dst i (pos 0)) → IsModest (get_or ys i (pos 0)) → IsModest add → FitsSigned w64 r → dst ≡ joined_to (λ d s. int_min d (s +ℤ a)) i xs ys →
    r ≡ int_min (to_z w64 (of_z w64 (get_or dst i (pos 0)))) (to_z w64 (of_z w64 (to_z w64 (of_z w64 (get_or ys i (pos 0))) +ℤ a))) →
    set dst i (to_z w64 (of_z w64 r)) ≡ joined_to (λ d s. int_min d (s +ℤ a)) (i + 1) xs ys
entry_step xs ys dst i add a r ea same h fd ms ma fr e is =
    let y : ℤ = get_or ys i (pos 0) in
    let f : ℤ → ℤ → ℤ = λ d s. int_min d (s +ℤ a) in
    let ea' : a ≡ add = ea ∙ through add (modest_fits add ma) in
    let sum : to_z w64 (of_z w64 (to_z w64 (of_z w64 y) +ℤ a)) ≡ y +ℤ a =
    ap (λ z. to_z w64 (of_z w64 (z +ℤ a))) (through y (modest_fits y ms)) ∙ ap (λ b. to_z w64 (of_z w64 (y +ℤ b))) ea' ∙ through (y +ℤ add) (sum_fits y add ms ma) ∙ ap (λ b. y +ℤ b) (sym ea') in
    let here : get_or dst i (pos 0) ≡ get_or xs i (pos 0) = ap (λ zs. get_or zs i (pos 0)) e ∙ get_or-joined f i xs ys (pos 0) same in
    let value : to_z w64 (of_z w64 r) ≡ f (get_or xs i (pos 0)) y =
    through r fr ∙ is ∙ ap₂ int_min (through _ fd ∙ here) sum in
    ap₂ (λ zs z. set zs i z) e value ∙ set-joined f i xs ys (pos 0) (pos 0) same h ∙ ap (λ n. joined_to f n xs ys) (sym (add-one i))

pub fits_still : (zs : List ℤ) → All (FitsSigned w64) zs → All (FitsSigned w64) (map (to_z w64) (map (of_z w64) zs))
fits_still zs f = subst (λ ys. All (FitsSigned w64) ys) (sym (through-all zs f)) f

-- entries of a chunk are entries of the list
pub modest_chunk : (i : ℕ) (xs : List ℤ) → All IsModest xs → All IsModest (chunk i 8 xs)
modest_chunk i xs h = All-take IsModest 8 (drop i xs) (All-drop IsModest i xs h)

pub modest_still : (i : ℕ) (xs zs : List ℤ) → zs ≡ chunk i 8 xs → All (FitsSigned w64) zs → All IsModest xs → All IsModest (map (to_z w64) (map (of_z w64) zs))
modest_still i xs zs e f h = subst (λ ys. All IsModest ys) (sym (through-all zs f ∙ e)) (modest_chunk i xs h)

min_fits : (d t : ℤ) → FitsSigned w64 d → FitsSigned w64 t → FitsSigned w64 (int_min d t)
min_fits d t f g = pick (int_lt t d) where
  pick : (b : Bool) → FitsSigned w64 (cond b t d)
  pick true = g
  pick false = f

relaxed_fits : (ds ss : List ℤ) (a : ℤ) → IsModest a → All (FitsSigned w64) ds → All IsModest ss → All (FitsSigned w64) (relaxed ds ss a)
relaxed_fits [] ss a m f g k d lt = absurd (omega arith)
relaxed_fits (x ∷ ds) [] a m f g k d lt = absurd (omega arith)
relaxed_fits (x ∷ ds) (s ∷ ss) a m f g zero d lt = min_fits x (s +ℤ a) (f 0 d (omega arith)) (sum_fits s a (g 0 d (omega arith)) m)
relaxed_fits (x ∷ ds) (s ∷ ss) a m f g (suc k) d lt = relaxed_fits ds ss a m (λ j e h. f (suc j) e (omega arith)) (λ j e h. g (suc j) e (omega arith)) k d (omega arith)

-- eight entries of the loop that goes chunk by chunk
pub eight_step : (xs ys dst here there out : List ℤ) (i : ℕ) (add a : ℤ) → a ≡ to_z w64 (of_z w64 add) → length ys ≡ length xs → i + 8 ≤ length dst → All (FitsSigned w64) here → All (FitsSigned w64) there → here ≡ chunk i 8 dst → there ≡ chunk i 8 ys → IsModest add → All IsModest ys →
    dst ≡ joined_to (λ d s. int_min d (s +ℤ a)) i xs ys → out ≡ relaxed (map (to_z w64) (map (of_z w64) here)) (map (to_z w64) (map (of_z w64) there)) a →
    put_chunk i dst (map (to_z w64) (map (of_z w64) out)) ≡ joined_to (λ d s. int_min d (s +ℤ a)) (i + 8) xs ys
eight_step xs ys dst here there out i add a ea same h fh ft eh et ma small e is =
    let f : ℤ → ℤ → ℤ = λ d s. int_min d (s +ℤ a) in
    let ma' : IsModest a = subst IsModest (sym (ea ∙ through add (modest_fits add ma))) ma in
    let ms : All IsModest there = subst (λ zs. All IsModest zs) (sym et) (modest_chunk i ys small) in
    let short : out ≡ relaxed here there a = is ∙ ap₂ (λ ds ss. relaxed ds ss a) (through-all here fh) (through-all there ft) in
    let whole : map (to_z w64) (map (of_z w64) out) ≡ zip2 f (chunk i 8 xs) (chunk i 8 ys) =
    ap (λ zs. map (to_z w64) (map (of_z w64) zs)) short ∙ through-all (relaxed here there a) (relaxed_fits here there a ma' fh ms)
    ∙ ap₂ (λ ds ss. relaxed ds ss a) (eh ∙ ap (take 8) (ap (drop i) e ∙ drop-joined f i xs ys same)) et in
    ap₂ (put_chunk i) e whole ∙ put-joined f i 8 xs ys same (omega (arith, ap length e, length-joined f i xs ys same))

-- the tail of the loop that goes chunk by chunk
pub last_step : (xs ys dst new : List ℤ) (i : ℕ) (add a : ℤ) → a ≡ to_z w64 (of_z w64 add) → length ys ≡ length xs → IsModest add → i ≤ length xs → dst ≡ joined_to (λ d s. int_min d (s +ℤ a)) i xs ys →
    new ≡ relaxed (take (length dst - i) (drop i dst)) (take (length ys - i) (drop i ys)) a →
    put_mid i (length dst - i) dst new ≡ relaxed xs ys add
last_step xs ys dst new i add a ea same ma h e is =
    let f : ℤ → ℤ → ℤ = λ d s. int_min d (s +ℤ a) in
    let rest : new ≡ zip2 f (drop i xs) (drop i ys) =
    is ∙ ap₂ (λ ds ss. relaxed ds ss a) (take_all (length dst - i) (drop i dst) (omega (arith, length-drop i dst)) ∙ ap (drop i) e ∙ drop-joined f i xs ys same)
    (take_all (length ys - i) (drop i ys) (omega (arith, length-drop i ys))) in
    let none : drop (length dst - i) (drop i dst) ≡ [] = drop_of_length-le (drop i dst) (omega (arith, length-drop i dst)) in
    ap₂ (λ zs ws. take i dst ++ (zs ++ ws)) rest none ∙ ap (λ zs. take i dst ++ zs) (append-nil _)
    ∙ ap (λ zs. take i zs ++ zip2 f (drop i xs) (drop i ys)) e ∙ rest-joined f i xs ys same ∙ ap (λ b. relaxed xs ys b) (ea ∙ through add (modest_fits add ma))
