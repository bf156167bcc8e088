-- Terms and their classes, one beside the other: their values agree with one class more exactly where the literals say so.
use Rattle.std.proofs.Common.{◌≡◌, ◌⊎◌, ◌↔◌, ℕ, ◌<◌, ℤ, Bool, true, false, List, [], ◌∷◌, ◌++◌, ◌==◌, if◌then◌else◌, get_or, length, inl, inr, refl, sym, ap, ap₂, ◌∙◌, subst, arith}
use Rattle.std.specs.List.{AllByRecursion, zip}
use Rattle.std.proofs.lemmas.Bool.{both_ways}
use Rattle.std.proofs.lemmas.Bool.Decides.{Decides-eqb}
use Rattle.cyp_term.specs.declared.lit.Lit.TheVariants.{Eq, Ne}
use Rattle.cyp_term.specs.declared.term.Term.{Term}
use Rattle.cyp_term.specs.Meaning.{AllTrue, Assignment, Truth, value}
use Rattle.cyp_term.proofs.Lists.{Among, Among-cases, Among-left, Every-among, Every-from_among}
use Rattle.cyp_pure.specs.Dealing.{Agrees, tie, ties}

-- ---- terms beside their classes
pub zip_left : {X Y : Type 0} (xs : List X) (ys : List Y) (p : X × Y) → Among p (zip xs ys) → Among p.0 xs
zip_left [] ys p m = absurd m
zip_left (x ∷ xs) [] p m = absurd m
zip_left (x ∷ xs) (y ∷ ys) p (inl e) = inl (ap (λ q. q.0) e)
zip_left (x ∷ xs) (y ∷ ys) p (inr m) = inr (zip_left xs ys p m)

pub zip_right : {X Y : Type 0} (xs : List X) (ys : List Y) (p : X × Y) → Among p (zip xs ys) → Among p.1 ys
zip_right [] ys p m = absurd m
zip_right (x ∷ xs) [] p m = absurd m
zip_right (x ∷ xs) (y ∷ ys) p (inl e) = inl (ap (λ q. q.1) e)
zip_right (x ∷ xs) (y ∷ ys) p (inr m) = inr (zip_right xs ys p m)

pub zip_nil : {X Y : Type 0} (xs : List X) → zip {K = X} {X = Y} xs [] ≡ []
zip_nil [] = refl
zip_nil (x ∷ xs) = refl

pub zip_push : {X Y : Type 0} (xs : List X) (ys : List Y) (x : X) (y : Y) → length ys < length xs → x ≡ get_or xs (length ys) x → zip xs (ys ++ y ∷ []) ≡ zip xs ys ++ (x, y) ∷ []
zip_push [] ys x y h e = absurd (omega arith)
zip_push (w ∷ xs) [] x y h e = ap₂ (λ u us. (u, y) ∷ us) (sym e) (zip_nil xs)
zip_push (w ∷ xs) (v ∷ ys) x y h e = ap (λ us. (w, v) ∷ us) (zip_push xs ys x y (omega arith) e)

-- ---- agreement of each two
-- the values of the two terms are equal exactly where their classes are
abbrev Alike : (Term → ℤ) → Term × ℕ → Term × ℕ → Type 0
Alike val p q = (val p.0 ≡ val q.0) ↔ (p.1 ≡ q.1)

module _ (val : Term → ℤ) where
  pub agrees_at : (ps : List (Term × ℕ)) (p q : Term × ℕ) → Agrees val ps → Among p ps → Among q ps → (val p.0 ≡ val q.0) ↔ (p.1 ≡ q.1)
  agrees_at ps p q h i j = Every-among (Alike val p) q ps (Every-among (λ r. AllByRecursion (Alike val r) ps) p ps h.alike i) j

  pub agrees_by : (ps : List (Term × ℕ)) → ((p q : Term × ℕ) → Among p ps → Among q ps → (val p.0 ≡ val q.0) ↔ (p.1 ≡ q.1)) → Agrees val ps
  agrees_by ps h = record { alike = Every-from_among (λ r. AllByRecursion (Alike val r) ps) ps (λ p i. Every-from_among (Alike val p) ps (λ q j. h p q i j)) }

  turned : (p q : Term × ℕ) → Alike val p q → Alike val q p
  turned p q h = (λ e. sym (h.0 (sym e)), λ e. sym (h.1 (sym e)))

  -- one term and its class more
  pub agrees_more : (ps : List (Term × ℕ)) (r : Term × ℕ) → Agrees val ps → ((p : Term × ℕ) → Among p ps → Alike val p r) → Agrees val (ps ++ r ∷ [])
  agrees_more ps r h k = agrees_by (ps ++ r ∷ []) (λ p q i j. by_cases p q (Among-cases p ps (r ∷ []) i) (Among-cases q ps (r ∷ []) j))
    where
      by_cases : (p q : Term × ℕ) → Among p ps ⊎ Among p (r ∷ []) → Among q ps ⊎ Among q (r ∷ []) → Alike val p q
      by_cases p q (inl i) (inl j) = agrees_at ps p q h i j
      by_cases p q (inl i) (inr (inl j)) = subst (Alike val p) (sym j) (k p i)
      by_cases p q (inr (inl i)) (inl j) = subst (λ w. Alike val w q) (sym i) (turned q r (k q j))
      by_cases p q (inr (inl i)) (inr (inl j)) = (λ e. ap (λ w. w.1) (i ∙ sym j), λ e. ap (λ w. val w.0) (i ∙ sym j))
      by_cases p q (inl i) (inr (inr j)) = absurd j
      by_cases p q (inr (inr i)) j = absurd i
      by_cases p q (inr (inl i)) (inr (inr j)) = absurd j

  pub agrees_less : (ps qs : List (Term × ℕ)) → Agrees val (ps ++ qs) → Agrees val ps
  agrees_less ps qs h = agrees_by ps (λ p q i j. agrees_at (ps ++ qs) p q h (Among-left p ps qs i) (Among-left q ps qs j))

-- ---- what the literals say
tie_in : (s : Assignment) (t : Term) (k : ℕ) (p : Term × ℕ) → Alike (value s) p (t, k) → Truth s (tie t k p)
tie_in s t k p h = by_test (p.1 == k) refl
  where
    by_test : (b : Bool) → (p.1 == k) ≡ b → Truth s (if b then Eq p.0 t else Ne p.0 t)
    by_test true e = h.1 ((Decides-eqb p.1 k).0 e)
    by_test false e = λ i. both_ways _ e ((Decides-eqb p.1 k).1 (h.0 i))

tie_out : (s : Assignment) (t : Term) (k : ℕ) (p : Term × ℕ) → Truth s (tie t k p) → Alike (value s) p (t, k)
tie_out s t k p h = by_test (p.1 == k) refl h
  where
    by_test : (b : Bool) → (p.1 == k) ≡ b → Truth s (if b then Eq p.0 t else Ne p.0 t) → Alike (value s) p (t, k)
    by_test true e i = (λ j. (Decides-eqb p.1 k).0 e, λ j. i)
    by_test false e i = (λ j. absurd (i j), λ j. absurd (both_ways _ e ((Decides-eqb p.1 k).1 j)))

pub ties_in : (s : Assignment) (t : Term) (k : ℕ) (ps : List (Term × ℕ)) → ((p : Term × ℕ) → Among p ps → (value s p.0 ≡ value s t) ↔ (p.1 ≡ k)) → AllTrue s (ties t k ps)
ties_in s t k [] h = tt
ties_in s t k (p ∷ ps) h = (tie_in s t k p (h p (inl refl)), ties_in s t k ps (λ q i. h q (inr i)))

pub ties_out : (s : Assignment) (t : Term) (k : ℕ) (ps : List (Term × ℕ)) → AllTrue s (ties t k ps) → (p : Term × ℕ) → Among p ps → (value s p.0 ≡ value s t) ↔ (p.1 ≡ k)
ties_out s t k [] h p m = absurd m
ties_out s t k (q ∷ ps) h p (inl e) = subst (λ r. Alike (value s) r (t, k)) (sym e) (tie_out s t k q h.0)
ties_out s t k (q ∷ ps) h p (inr m) = ties_out s t k ps h.1 p m
