-- The arrangements of terms: what their literals say, and that some arrangement fits any values.
use Rattle.std.proofs.Common.{◌≡◌, ◌⊎◌, ◌↔◌, ℕ, zero, suc, ◌≤◌, ◌<◌, ℤ, List, [], ◌∷◌, map, length, Bool, true, false, cond, ◌==◌, refl, sym, ap, subst, ◌∙◌, inl, inr, arith, le_of_lt, le_refl}
use Rattle.std.specs.List.{AllByRecursion}
use Rattle.std.proofs.lemmas.Bool.{both_ways, cases_eq, cond-true, cond-false}
use Rattle.std.proofs.lemmas.Bool.Decides.{Decides-eqb}
use Rattle.cyp_term.specs.declared.term.Term.{Term}
use Rattle.cyp_term.specs.declared.lit.Lit.TheVariants.{Eq, Ne}
use Rattle.cyp_term.specs.Terms.{term_eq}
use Rattle.cyp_term.specs.Meaning.{Assignment, value}
use Rattle.cyp_term.specs.Entailment.{up_to, with_class, with_classes, arrangements, class_literal, class_literals}
use Rattle.cyp_term.proofs.Equality.{Decides-term_eq}
use Rattle.cyp_term.proofs.Lists.{SomeOf, Among, Among-map, Every-among, Every-append, Every-left, Every-right, SomeOf-left, SomeOf-right, some_among}
use Rattle.cyp_term.proofs.Literals.{IntTruth}
use Rattle.cyp_term.proofs.Arranged.{Arranged, value_or_not}

-- ---- the literals of an arrangement say that it is one
class_literal_in : (class : Term → ℕ) (a : Assignment) (s t : Term) → (value a s ≡ value a t) ↔ (class s ≡ class t) → IntTruth (value a) (class_literal class s t)
class_literal_in class a s t h = by_test (class s == class t) refl
  where
    by_test : (b : Bool) → (class s == class t) ≡ b → IntTruth (value a) (cond b (Eq s t) (Ne s t))
    by_test true e = h.1 ((Decides-eqb (class s) (class t)).0 e)
    by_test false e = λ p. both_ways _ e ((Decides-eqb (class s) (class t)).1 (h.0 p))

class_literal_out : (class : Term → ℕ) (a : Assignment) (s t : Term) → IntTruth (value a) (class_literal class s t) → (value a s ≡ value a t) ↔ (class s ≡ class t)
class_literal_out class a s t h = by_test (class s == class t) refl h
  where
    by_test : (b : Bool) → (class s == class t) ≡ b → IntTruth (value a) (cond b (Eq s t) (Ne s t)) → (value a s ≡ value a t) ↔ (class s ≡ class t)
    by_test true e k = (λ p. (Decides-eqb (class s) (class t)).0 e, λ p. k)
    by_test false e k = (λ p. absurd (k p), λ p. absurd (both_ways _ e ((Decides-eqb (class s) (class t)).1 p)))

row_in : (class : Term → ℕ) (a : Assignment) (s : Term) (ts : List Term) → ((t : Term) → Among t ts → (value a s ≡ value a t) ↔ (class s ≡ class t)) → AllByRecursion (IntTruth (value a)) (map (class_literal class s) ts)
row_in class a s [] h = tt
row_in class a s (t ∷ ts) h = (class_literal_in class a s t (h t (inl refl)), row_in class a s ts (λ w i. h w (inr i)))

row_out : (class : Term → ℕ) (a : Assignment) (s : Term) (ts : List Term) → AllByRecursion (IntTruth (value a)) (map (class_literal class s) ts) → (t : Term) → Among t ts → (value a s ≡ value a t) ↔ (class s ≡ class t)
row_out class a s ts h t i =
    class_literal_out class a s t (Every-among (IntTruth (value a)) (class_literal class s t) (map (class_literal class s) ts) h (Among-map (class_literal class s) t ts i))

pub arranged_in : (class : Term → ℕ) (a : Assignment) (ts : List Term) → Arranged class ts (value a) → AllByRecursion (IntTruth (value a)) (class_literals class ts)
unfolding class_literals
arranged_in class a [] h = tt
arranged_in class a (s ∷ ts) h =
    Every-append (IntTruth (value a)) (map (class_literal class s) ts) (class_literals class ts)
    (row_in class a s ts (λ t i. h s t (inl refl) (inr i))) (arranged_in class a ts (λ p q i j. h p q (inr i) (inr j)))

-- the same of the two terms in the other order, and of the first term with itself
pair_by : (class : Term → ℕ) (a : Assignment) (s : Term) (ts : List Term) → ((t : Term) → Among t ts → (value a s ≡ value a t) ↔ (class s ≡ class t)) → Arranged class ts (value a) → Arranged class (s ∷ ts) (value a)
pair_by class a s ts h k p q (inl i) (inl j) = (λ e. ap class (i ∙ sym j), λ e. ap (value a) (i ∙ sym j))
pair_by class a s ts h k p q (inl i) (inr j) =
    (λ e. ap class i ∙ (h q j).0 (sym (ap (value a) i) ∙ e), λ e. ap (value a) i ∙ (h q j).1 (sym (ap class i) ∙ e))
pair_by class a s ts h k p q (inr i) (inl j) =
    (λ e. sym ((h p i).0 (sym (e ∙ ap (value a) j))) ∙ sym (ap class j), λ e. sym ((h p i).1 (sym (e ∙ ap class j))) ∙ sym (ap (value a) j))
pair_by class a s ts h k p q (inr i) (inr j) = k p q i j

pub arranged_out : (class : Term → ℕ) (a : Assignment) (ts : List Term) → AllByRecursion (IntTruth (value a)) (class_literals class ts) → Arranged class ts (value a)
unfolding class_literals
arranged_out class a [] h = λ p q i j. absurd i
arranged_out class a (s ∷ ts) h =
    pair_by class a s ts (row_out class a s ts (Every-left (IntTruth (value a)) (map (class_literal class s) ts) (class_literals class ts) h))
    (arranged_out class a ts (Every-right (IntTruth (value a)) (map (class_literal class s) ts) (class_literals class ts) h))

-- ---- some arrangement fits the values
up_to-among : (n k : ℕ) → k ≤ n → Among k (up_to n)
up_to-among zero k h = inl (omega arith)
up_to-among (suc n) k h = elim (cases_eq k (suc n)) [ inl e ↦ inl e | inr e ↦ inr (up_to-among n k (omega arith)) ]

with_classes_in : (P Q : (Term → ℕ) → Type 0) (e : Term) (ks : List ℕ) (fs : List (Term → ℕ)) → ((f : Term → ℕ) → P f → (k : ℕ) × Among k ks × Q (with_class e f k)) → SomeOf P fs → SomeOf Q (with_classes e ks fs)
with_classes_in P Q e ks [] h m = absurd m
with_classes_in P Q e ks (f ∷ fs) h (inl p) =
    let r = h f p in
    SomeOf-left Q (map (with_class e f) ks) (with_classes e ks fs) (some_among Q (with_class e f r.0) (map (with_class e f) ks) (Among-map (with_class e f) r.0 ks r.1) r.2)
with_classes_in P Q e ks (f ∷ fs) h (inr m) = SomeOf-right Q (map (with_class e f) ks) (with_classes e ks fs) (with_classes_in P Q e ks fs h m)

-- an arrangement of the terms, with classes below their number
abbrev pub Fits : (Term → ℤ) → List Term → (Term → ℕ) → Type 0
Fits val es f = Arranged f es val × ((t : Term) → Among t es → f t < length es)

-- a class for one more term
abbrev IsClassFor : (Term → ℤ) → List Term → (Term → ℕ) → Term → ℕ → Type 0
IsClassFor val es f e k = (k ≤ length es) × ((t : Term) → Among t es → (val e ≡ val t) ↔ (k ≡ f t))

class_for : (val : Term → ℤ) (es : List Term) (f : Term → ℕ) (e : Term) → Fits val es f → (k : ℕ) × IsClassFor val es f e k
class_for val es f e h =
    elim (value_or_not val es (val e)) [
      | inl w ↦ (f w.0, (le_of_lt (h.1 w.0 w.1), λ t i. (λ p. (h.0 w.0 t w.1 i).0 (sym w.2 ∙ p), λ q. w.2 ∙ (h.0 w.0 t w.1 i).1 q)))
      | inr n ↦ (length es, (le_refl (length es), λ t i. (λ p. absurd (n t i p), λ q. absurd (not_below (f t) (length es) (h.1 t i) q))))
    ]
  where
    not_below : (m n : ℕ) → m < n → n ≡ m → ⊥
    not_below m n p q = omega arith

-- what the new arrangement has at a term
abbrev View : List Term → (Term → ℕ) → Term → ℕ → Term → Type 0
View es f e k t = ((t ≡ e) × (with_class e f k t ≡ k)) ⊎ (Among t es × (with_class e f k t ≡ f t))

view : (es : List Term) (f : Term → ℕ) (e : Term) (k : ℕ) (t : Term) → Among t (e ∷ es) → View es f e k t
view es f e k t h = by_test (term_eq t e) refl h
  where
    by_test : (b : Bool) → term_eq t e ≡ b → Among t (e ∷ es) → View es f e k t
    by_test true p i = inl ((Decides-term_eq t e).0 p, cond-true (term_eq t e) k (f t) p)
    by_test false p (inl q) = absurd (both_ways _ p ((Decides-term_eq t e).1 q))
    by_test false p (inr i) = inr (i, cond-false (term_eq t e) k (f t) p)

arranged_more : (val : Term → ℤ) (es : List Term) (f : Term → ℕ) (e : Term) (k : ℕ) → Fits val es f → IsClassFor val es f e k → (s t : Term) → View es f e k s → View es f e k t → (val s ≡ val t) ↔ (with_class e f k s ≡ with_class e f k t)
arranged_more val es f e k h c s t (inl i) (inl j) = (λ p. i.1 ∙ sym j.1, λ q. ap val (i.0 ∙ sym j.0))
arranged_more val es f e k h c s t (inl i) (inr j) =
    let m = c.1 t j.0 in
    (λ p. i.1 ∙ (m.0 (sym (ap val i.0) ∙ p) ∙ sym j.1), λ q. ap val i.0 ∙ m.1 (sym i.1 ∙ (q ∙ j.1)))
arranged_more val es f e k h c s t (inr i) (inl j) =
    let m = c.1 s i.0 in
    (λ p. i.1 ∙ (sym (m.0 (sym (p ∙ ap val j.0))) ∙ sym j.1), λ q. sym (m.1 (sym (sym i.1 ∙ (q ∙ j.1)))) ∙ sym (ap val j.0))
arranged_more val es f e k h c s t (inr i) (inr j) =
    let m = h.0 s t i.0 j.0 in
    (λ p. i.1 ∙ (m.0 p ∙ sym j.1), λ q. m.1 (sym i.1 ∙ (q ∙ j.1)))

below_more : (val : Term → ℤ) (es : List Term) (f : Term → ℕ) (e : Term) (k : ℕ) → Fits val es f → k ≤ length es → (t : Term) → View es f e k t → with_class e f k t < length (e ∷ es)
below_more val es f e k h c t (inl i) = subst (λ n. n < length (e ∷ es)) (sym i.1) (omega (arith, c))
below_more val es f e k h c t (inr i) = subst (λ n. n < length (e ∷ es)) (sym i.1) (omega (arith, h.1 t i.0))

pub arrangement_for : (val : Term → ℤ) (es : List Term) → SomeOf (Fits val es) (arrangements es)
unfolding arrangements
arrangement_for val [] = inl ((λ s t i j. absurd i), λ t i. absurd i)
arrangement_for val (e ∷ es) =
    with_classes_in (Fits val es) (Fits val (e ∷ es)) e (up_to (length es)) (arrangements es)
    (λ f h.
    let c = class_for val es f e h in (
      c.0,
      up_to-among (length es) c.0 c.1.0,
      (
        (λ s t i j. arranged_more val es f e c.0 h c.1 s t (view es f e c.0 s i) (view es f e c.0 t j)),
        λ t i. below_more val es f e c.0 h c.1.0 t (view es f e c.0 t i),
      ),
    ))
    (arrangement_for val es)
