-- Bounds between places say what comparisons of terms say.
use Rattle.std.proofs.Common.{◌≡◌, ℕ, zero, suc, ◌+◌, ◌-◌, ◌^◌, ◌<◌, ◌≤◌, ℤ, pos, negsuc, neg_ℤ, ◌+ℤ◌, ◌-ℤ◌, ◌≤ℤ◌, ◌<ℤ◌, Bool, true, false, cond, List, [], ◌∷◌, ◌++◌, length, Option, Some, None, FitsSigned, to_z, of_z, w64, refl, sym, ap, ap₂, ◌∙◌, subst, arith}
use Rattle.std.proofs.lemmas.Int.{ints, to_z-of_z}
use Rattle.std.specs.List.{All}
use lib.Signed.{mag}
use Rattle.cyp_term.specs.declared.lit.Lit.TheVariants.{Eq, Ne, Le, Lt}
use Rattle.cyp_term.specs.declared.term.Term.{Term}
use Rattle.cyp_term.specs.declared.term.Var.{Var}
use Rattle.cyp_term.specs.TermValue.{IsTerm}
use Rattle.cyp_term.specs.Terms.{var_eq}
use Rattle.cyp_diff.specs.Distances.{Within}
use Rattle.cyp_diff.specs.Places.{base_place, further, level, var_place}
use Rattle.cyp_diff.specs.declared.gaps.Gap.{Gap}
use Rattle.cyp_diff.specs.Gaps.{Apart, IsGap}
use Rattle.cyp_diff.specs.Systems.{AtMostMeans, EqMeans, GapMeans, IsBit, LeMeans, LitMeans}

-- at most 2^32 in size
pub record IsNarrow (z : ℤ) : Type 0 where
  pub least : negsuc (2 ^ 32 - 1) ≤ℤ z
  pub most : z ≤ℤ pos (2 ^ 32)

pub narrow : (t : Term) (n : ℤ) → IsTerm t.base n → n ≡ t.offset → IsNarrow t.offset
narrow t n h e = subst (λ (z : ℤ). IsNarrow z) e (record { least = h.least; most = h.most })

place_by : (b : Bool) (n k : ℕ) → k ≤ n → cond b 1 (further k) ≤ suc n
place_by true n k h = omega arith
place_by false n zero h = omega arith
place_by false n (suc k) h = omega arith

var_place_in : (vs : List Var) (v : Var) → var_place vs v ≤ length vs
var_place_in [] v = omega arith
var_place_in (w ∷ ws) v = place_by (var_eq w v) (length ws) (var_place ws v) (var_place_in ws v)

pub place_in : (vs : List Var) (o : Option Var) → base_place vs o < length vs + 1
place_in vs None = omega arith
place_in vs (Some v) = omega (arith, var_place_in vs v)

mag_from : (z : ℤ) (n : ℕ) → (neg_ℤ (pos n)) ≤ℤ z → z ≤ℤ pos n → mag z ≤ n
mag_from (pos m) n l h = omega (arith, ints)
mag_from (negsuc m) n l h = omega (arith, ints)

fits_by : (z : ℤ) → (neg_ℤ (pos (2 ^ 35))) ≤ℤ z → z ≤ℤ pos (2 ^ 35) → FitsSigned w64 z
fits_by z l h = record { sfits = omega (arith, mag_from z (2 ^ 35) l h) }

offset_fits : (t : Term) → IsNarrow t.offset → FitsSigned w64 t.offset
offset_fits t h = let l = h.least in let m = h.most in fits_by t.offset (omega (arith, ints)) (omega (arith, ints))

-- the difference that is computed
abbrev pub gap_code : Term → Term → ℤ
gap_code a b = to_z w64 (of_z w64 (to_z w64 (of_z w64 b.offset) -ℤ to_z w64 (of_z w64 a.offset)))

pub gap_code_is : (a b : Term) → IsNarrow a.offset → IsNarrow b.offset → gap_code a b ≡ (b.offset -ℤ a.offset)
gap_code_is a b h k =
    let l = h.least in let m = h.most in let l' = k.least in let m' = k.most in
    ap₂ (λ y z. to_z w64 (of_z w64 (y -ℤ z))) (to_z-of_z w64 b.offset (offset_fits b k)) (to_z-of_z w64 a.offset (offset_fits a h))
    ∙ to_z-of_z w64 (b.offset -ℤ a.offset) (fits_by (b.offset -ℤ a.offset) (omega (arith, ints)) (omega (arith, ints)))

-- the difference where its parts are read
pub difference : (a b : Term) (p q : ℤ) → IsNarrow a.offset → IsNarrow b.offset → p ≡ b.offset → q ≡ a.offset → to_z w64 (of_z w64 (to_z w64 (of_z w64 p) -ℤ to_z w64 (of_z w64 q))) ≡ (b.offset -ℤ a.offset)
difference a b p q h k e f = ap₂ (λ y z. to_z w64 (of_z w64 (to_z w64 (of_z w64 y) -ℤ to_z w64 (of_z w64 z)))) e f ∙ gap_code_is a b h k

pub difference_less : (a b : Term) (p q less : ℤ) → IsNarrow a.offset → IsNarrow b.offset → IsBit less → p ≡ b.offset → q ≡ a.offset →
    to_z w64 (of_z w64 (to_z w64 (of_z w64 (to_z w64 (of_z w64 p) -ℤ to_z w64 (of_z w64 q))) -ℤ to_z w64 (of_z w64 less))) ≡ ((b.offset -ℤ a.offset) -ℤ less)
difference_less a b p q less h k s e f =
    let l = h.least in let m = h.most in let l' = k.least in let m' = k.most in let sl = s.least in let sm = s.most in
    ap₂ (λ y z. to_z w64 (of_z w64 (y -ℤ z))) (difference a b p q h k e f) (to_z-of_z w64 less (fits_by less (omega (arith, ints)) (omega (arith, ints))))
    ∙ to_z-of_z w64 ((b.offset -ℤ a.offset) -ℤ less) (fits_by ((b.offset -ℤ a.offset) -ℤ less) (omega (arith, ints)) (omega (arith, ints)))

le_to : (vs : List Var) (a b : Term) (less c : ℤ) (x : ℕ → ℤ) (i j : ℕ) → i ≡ base_place vs a.base → j ≡ base_place vs b.base → c ≡ ((b.offset -ℤ a.offset) -ℤ less) → Within x i j c → (level vs x a +ℤ less) ≤ℤ level vs x b
le_to vs a b less c x i j ei ej ec w =
    let xi : x i ≡ x (base_place vs a.base) = ap x ei in
    let xj : x j ≡ x (base_place vs b.base) = ap x ej in
    let w' : x i ≤ℤ (x j +ℤ c) = w in
    omega (arith, ints)

le_back : (vs : List Var) (a b : Term) (less c : ℤ) (x : ℕ → ℤ) (i j : ℕ) → i ≡ base_place vs a.base → j ≡ base_place vs b.base → c ≡ ((b.offset -ℤ a.offset) -ℤ less) → (level vs x a +ℤ less) ≤ℤ level vs x b → Within x i j c
le_back vs a b less c x i j ei ej ec w =
    let xi : x i ≡ x (base_place vs a.base) = ap x ei in
    let xj : x j ≡ x (base_place vs b.base) = ap x ej in
    let w' : ((x (base_place vs a.base) +ℤ a.offset) +ℤ less) ≤ℤ (x (base_place vs b.base) +ℤ b.offset) = w in
    omega (arith, ints)

pub le_means : (vs : List Var) (a b : Term) (less c : ℤ) (i j : ℕ) (old new : List (List ℤ)) (r : Bool) → i ≡ base_place vs a.base → j ≡ base_place vs b.base → c ≡ ((b.offset -ℤ a.offset) -ℤ less) → AtMostMeans i j c old new r → LeMeans vs a b less old new r
le_means vs a b less c i j old new true ei ej ec h = λ x. (
  λ m. (((h x).0 m).0, le_to vs a b less c x i j ei ej ec ((h x).0 m).1),
  λ m. (h x).1 (m.0, le_back vs a b less c x i j ei ej ec m.1),
)
le_means vs a b less c i j old new false ei ej ec h = λ x m w. h x m (le_back vs a b less c x i j ei ej ec w)

both_le : (p q : ℤ) → (p +ℤ pos 0) ≤ℤ q → (q +ℤ pos 0) ≤ℤ p → p ≡ q
both_le p q h k = omega (arith, ints)

le_of : (p q : ℤ) → p ≡ q → (p +ℤ pos 0) ≤ℤ q
le_of p q e = omega (arith, ints)

pub eq_means : (vs : List Var) (a b : Term) (old mid new : List (List ℤ)) (r : Bool) → LeMeans vs a b (pos 0) old mid true → LeMeans vs b a (pos 0) mid new r → EqMeans vs a b old new r
eq_means vs a b old mid new true h k = λ x. (
  λ m. (((h x).0 ((k x).0 m).0).0, both_le (level vs x a) (level vs x b) ((h x).0 ((k x).0 m).0).1 ((k x).0 m).1),
  λ m. (k x).1 ((h x).1 (m.0, le_of (level vs x a) (level vs x b) m.1), le_of (level vs x b) (level vs x a) (sym m.1)),
)
eq_means vs a b old mid new false h k = λ x m e. k x ((h x).1 (m, le_of (level vs x a) (level vs x b) e)) (le_of (level vs x b) (level vs x a) (sym e))

gap_to : (vs : List Var) (a b : Term) (x : ℕ → ℤ) (i j : ℕ) (c : ℤ) → i ≡ base_place vs a.base → j ≡ base_place vs b.base → c ≡ (b.offset -ℤ a.offset) → level vs x a ≡ level vs x b → x i ≡ (x j +ℤ c)
gap_to vs a b x i j c ei ej ec e =
    let xi : x i ≡ x (base_place vs a.base) = ap x ei in
    let xj : x j ≡ x (base_place vs b.base) = ap x ej in
    let e' : (x (base_place vs a.base) +ℤ a.offset) ≡ (x (base_place vs b.base) +ℤ b.offset) = e in
    omega (arith, ints)

gap_back : (vs : List Var) (a b : Term) (x : ℕ → ℤ) (i j : ℕ) (c : ℤ) → i ≡ base_place vs a.base → j ≡ base_place vs b.base → c ≡ (b.offset -ℤ a.offset) → x i ≡ (x j +ℤ c) → level vs x a ≡ level vs x b
gap_back vs a b x i j c ei ej ec e =
    let xi : x i ≡ x (base_place vs a.base) = ap x ei in
    let xj : x j ≡ x (base_place vs b.base) = ap x ej in
    let goal : (x (base_place vs a.base) +ℤ a.offset) ≡ (x (base_place vs b.base) +ℤ b.offset) = omega (arith, ints) in
    goal

pub gap_means : (vs : List Var) (a b : Term) (g : Gap) → g.i ≡ base_place vs a.base → g.j ≡ base_place vs b.base → g.c ≡ (b.offset -ℤ a.offset) → GapMeans vs a b g
gap_means vs a b g ei ej ec x = (
  λ h e. h (gap_to vs a b x g.i g.j g.c ei ej ec e),
  λ h e. h (gap_back vs a b x g.i g.j g.c ei ej ec e),
)

pub is_gap : (vs : List Var) (a b : Term) (g : Gap) → IsNarrow a.offset → IsNarrow b.offset → g.i ≡ base_place vs a.base → g.j ≡ base_place vs b.base → g.c ≡ (b.offset -ℤ a.offset) → IsGap (length vs + 1) g
is_gap vs a b g h k ei ej ec =
    let l = h.least in let m = h.most in let l' = k.least in let m' = k.most in
    record {
      first = omega (arith, ei, place_in vs a.base);
      second = omega (arith, ej, place_in vs b.base);
      least = omega (arith, ints);
      most = omega (arith, ints);
    }

-- ---- one literal

lt_of : (p q : ℤ) → (p +ℤ pos 1) ≤ℤ q → p <ℤ q
lt_of p q h = omega (arith, ints)

of_lt : (p q : ℤ) → p <ℤ q → (p +ℤ pos 1) ≤ℤ q
of_lt p q h = omega (arith, ints)

le_is : (p q : ℤ) → (p +ℤ pos 0) ≤ℤ q → p ≤ℤ q
le_is p q h = omega (arith, ints)

is_le : (p q : ℤ) → p ≤ℤ q → (p +ℤ pos 0) ≤ℤ q
is_le p q h = omega (arith, ints)

pub lit_le : (vs : List Var) (a b : Term) (old new : List (List ℤ)) (gaps : List Gap) (r : Bool) → length new ≡ length old → All (IsGap (length old)) gaps → LeMeans vs a b (pos 0) old new r → LitMeans vs (Le a b) old gaps new gaps r
lit_le vs a b old new gaps true e g h = (
  e,
  subst (λ n. All (IsGap n) gaps) (sym e) g,
  λ x. (λ m. ((((h x).0 m.0).0, m.1), le_is (level vs x a) (level vs x b) ((h x).0 m.0).1), λ m. ((h x).1 (m.0.0, is_le (level vs x a) (level vs x b) m.1), m.0.1)),
)
lit_le vs a b old new gaps false e g h = λ x m w. h x m (is_le (level vs x a) (level vs x b) w)

pub lit_lt : (vs : List Var) (a b : Term) (old new : List (List ℤ)) (gaps : List Gap) (r : Bool) → length new ≡ length old → All (IsGap (length old)) gaps → LeMeans vs a b (pos 1) old new r → LitMeans vs (Lt a b) old gaps new gaps r
lit_lt vs a b old new gaps true e g h = (
  e,
  subst (λ n. All (IsGap n) gaps) (sym e) g,
  λ x. (λ m. ((((h x).0 m.0).0, m.1), lt_of (level vs x a) (level vs x b) ((h x).0 m.0).1), λ m. ((h x).1 (m.0.0, of_lt (level vs x a) (level vs x b) m.1), m.0.1)),
)
lit_lt vs a b old new gaps false e g h = λ x m w. h x m (of_lt (level vs x a) (level vs x b) w)

pub lit_eq : (vs : List Var) (a b : Term) (old new : List (List ℤ)) (gaps : List Gap) (r : Bool) → length new ≡ length old → All (IsGap (length old)) gaps → EqMeans vs a b old new r → LitMeans vs (Eq a b) old gaps new gaps r
lit_eq vs a b old new gaps true e g h = (
  e,
  subst (λ n. All (IsGap n) gaps) (sym e) g,
  λ x. (λ m. ((((h x).0 m.0).0, m.1), ((h x).0 m.0).1), λ m. ((h x).1 (m.0.0, m.1), m.0.1)),
)
lit_eq vs a b old new gaps false e g h = λ x m w. h x m w

pub All-push : {X : Type 0} (P : X → Type 0) (xs : List X) (y : X) → All P xs → P y → All P (xs ++ y ∷ [])
All-push P [] y h p zero d lt = p
All-push P [] y h p (suc k) d lt = absurd (omega arith)
All-push P (x ∷ xs) y h p zero d lt = h 0 x (omega arith)
All-push P (x ∷ xs) y h p (suc k) d lt = All-push P xs y (λ m e l. h (suc m) e (omega arith)) p k d (omega arith)

All-front : {X : Type 0} (P : X → Type 0) (xs : List X) (y : X) → All P (xs ++ y ∷ []) → All P xs
All-front P [] y h k d lt = absurd (omega arith)
All-front P (x ∷ xs) y h zero d lt = h 0 x (omega arith)
All-front P (x ∷ xs) y h (suc k) d lt = All-front P xs y (λ m e l. h (suc m) e (omega arith)) k d (omega arith)

All-last : {X : Type 0} (P : X → Type 0) (xs : List X) (y : X) → All P (xs ++ y ∷ []) → P y
All-last P [] y h = h 0 y (omega arith)
All-last P (x ∷ xs) y h = All-last P xs y (λ m e l. h (suc m) e (omega arith))

pub lit_ne : (vs : List Var) (a b : Term) (old : List (List ℤ)) (gaps more : List Gap) (g : Gap) → length old ≡ length vs + 1 → All (IsGap (length old)) gaps → IsGap (length vs + 1) g → GapMeans vs a b g → more ≡ gaps ++ g ∷ [] → LitMeans vs (Ne a b) old gaps old more true
lit_ne vs a b old gaps more g e h i m is =
    subst (λ gs. LitMeans vs (Ne a b) old gaps old gs true) (sym is) (
      refl,
      All-push (IsGap (length old)) gaps g h (subst (λ n. IsGap n g) (sym e) i),
      λ x. (
        λ k. ((k.0, All-front (Apart x) gaps g k.1), (m x).0 (All-last (Apart x) gaps g k.1)),
        λ k. (k.0.0, All-push (Apart x) gaps g k.0.1 ((m x).1 k.1)),
      ),
    )
