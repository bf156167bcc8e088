-- Literals are gathered one by one into bounds and gaps.
use Rattle.std.proofs.Common.{◌≡◌, ℕ, zero, suc, ◌+◌, ◌<◌, ◌≤◌, ℤ, true, false, List, [], ◌∷◌, length, get_or, take, Option, Some, None, Result, Ok, Err, sym, ◌∙◌, subst, add-one, arith}
use Rattle.std.proofs.lemmas.List.{take_all}
use Rattle.std.proofs.lemmas.List.Elements.{All-take}
use Rattle.std.specs.Prelude.{◌↔◌, IfOk}
use Rattle.std.specs.List.{All}
use Rattle.cyp_term.specs.declared.lit.Lit.{Lit}
use Rattle.cyp_term.specs.declared.term.Var.{Var}
use Rattle.cyp_diff.specs.declared.gaps.Gap.{Gap}
use Rattle.cyp_diff.specs.Distances.{Meets}
use Rattle.cyp_diff.specs.Gaps.{Apart, SeparateMeans}
use Rattle.cyp_diff.specs.Places.{Holds}
use Rattle.cyp_diff.specs.Solution.{at}
use Rattle.cyp_diff.specs.Systems.{LitMeans, SystemMeans}

-- the bounds and gaps say what the first i literals say
abbrev pub Says : List Var → List Lit → List (List ℤ) → List Gap → Type 0
Says vs ls rows gaps = (x : ℕ → ℤ) → (Meets x rows × All (Apart x) gaps) ↔ All (Holds vs x) ls

All-more : {X : Type 0} (P : X → Type 0) (xs : List X) (i : ℕ) (l d : X) → i < length xs → l ≡ get_or xs i d → All P (take i xs) → P l → All P (take (suc i) xs)
All-more P [] i l d h e a p k d' lt = absurd (omega arith)
All-more P (x ∷ xs) zero l d h e a p zero d' lt = subst P e p
All-more P (x ∷ xs) zero l d h e a p (suc k) d' lt = absurd (omega arith)
All-more P (x ∷ xs) (suc i) l d h e a p zero d' lt = a 0 x (omega arith)
All-more P (x ∷ xs) (suc i) l d h e a p (suc k) d' lt = All-more P xs i l d (omega arith) e (λ m f g. a (suc m) f (omega arith)) p k d' (omega arith)

All-less : {X : Type 0} (P : X → Type 0) (xs : List X) (i : ℕ) → All P (take (suc i) xs) → All P (take i xs)
All-less P [] zero a k d lt = absurd (omega arith)
All-less P [] (suc i) a k d lt = absurd (omega arith)
All-less P (x ∷ xs) zero a k d lt = absurd (omega arith)
All-less P (x ∷ xs) (suc i) a zero d lt = a 0 x (omega arith)
All-less P (x ∷ xs) (suc i) a (suc k) d lt = All-less P xs i (λ m e g. a (suc m) e (omega arith)) k d (omega arith)

All-at : {X : Type 0} (P : X → Type 0) (xs : List X) (i : ℕ) (l d : X) → i < length xs → l ≡ get_or xs i d → All P (take (suc i) xs) → P l
All-at P [] i l d h e a = absurd (omega arith)
All-at P (x ∷ xs) zero l d h e a = subst P (sym e) (a 0 x (omega arith))
All-at P (x ∷ xs) (suc i) l d h e a = All-at P xs i l d (omega arith) e (λ m f g. a (suc m) f (omega arith))

pub says_more : (vs : List Var) (ls : List Lit) (i : ℕ) (l : Lit) (old new : List (List ℤ)) (gaps more : List Gap) → i < length ls → l ≡ get_or ls i l → Says vs (take i ls) old gaps → LitMeans vs l old gaps new more true → Says vs (take (i + 1) ls) new more
says_more vs ls i l old new gaps more h e s m = subst (λ n. Says vs (take n ls) new more) (sym (add-one i)) (λ x. (
  λ k. All-more (Holds vs x) ls i l l h e ((s x).0 ((m.2 x).0 k).0) ((m.2 x).0 k).1,
  λ k. (m.2 x).1 ((s x).1 (All-less (Holds vs x) ls i k), All-at (Holds vs x) ls i l l h e k),
))

pub says_none : (vs : List Var) (ls : List Lit) (i : ℕ) (l : Lit) (old new : List (List ℤ)) (gaps more : List Gap) → i < length ls → l ≡ get_or ls i l → Says vs (take i ls) old gaps → LitMeans vs l old gaps new more false → (x : ℕ → ℤ) → All (Holds vs x) ls → ⊥
says_none vs ls i l old new gaps more h e s m x a =
    m x ((s x).1 (All-take (Holds vs x) i ls a)).0 (subst (Holds vs x) (sym e) (a i l h))

pub says_all : {E : Type 0} (vs : List Var) (ls : List Lit) (i : ℕ) (rows : List (List ℤ)) (gaps gaps' : List Gap) (r : Result (Option (List ℤ)) E) → length ls ≤ i → length rows ≡ length vs + 1 → Says vs (take i ls) rows gaps → gaps' ≡ gaps → IfOk r (SeparateMeans rows gaps') → IfOk r (SystemMeans vs ls)
says_all vs ls i rows gaps gaps' (Err f) le p s e h = tt
says_all vs ls i rows gaps gaps' (Ok None) le p s e h = λ x a.
    let k = (s x).1 (subst (λ ms. All (Holds vs x) ms) (sym (take_all i ls le)) a) in h x k.0 (subst (λ gs. All (Apart x) gs) (sym e) k.1)
says_all vs ls i rows gaps gaps' (Ok (Some xs)) le p s e h =
    (h.0.places ∙ p, h.0.low, subst (λ ms. All (Holds vs (at xs)) ms) (take_all i ls le) ((s (at xs)).0 (h.0.meets, subst (λ gs. All (Apart (at xs)) gs) e h.1)))
