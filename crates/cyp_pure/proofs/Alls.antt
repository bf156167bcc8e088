-- Facts of all elements of a list, and of all literals.
use Rattle.std.proofs.Common.{zero, suc, List, [], ◌∷◌, ◌++◌, Result, Ok, Err, inl, inr, refl, sym, subst, arith}
use Rattle.std.specs.Prelude.{IfOk}
use Rattle.std.specs.List.{All}
use Rattle.cyp_term.specs.declared.lit.Lit.{Lit}
use Rattle.cyp_term.specs.Meaning.{AllTrue, Assignment, Truth}
use Rattle.cyp_term.proofs.Lists.{Among}

module _ {X : Type 0} (P : X → Type 0) where
  pub all_among : (xs : List X) (x : X) → All P xs → Among x xs → P x
  all_among [] x a m = absurd m
  all_among (y ∷ ys) x a (inl e) = subst P (sym e) (a 0 x (omega arith))
  all_among (y ∷ ys) x a (inr m) = all_among ys x (λ k d lt. a (suc k) d (omega arith)) m

  pub all_from_among : (xs : List X) → ((x : X) → Among x xs → P x) → All P xs
  all_from_among [] h k d lt = absurd (omega arith)
  all_from_among (y ∷ ys) h zero d lt = h y (inl refl)
  all_from_among (y ∷ ys) h (suc k) d lt = all_from_among ys (λ x m. h x (inr m)) k d (omega arith)

-- a fact of what a call answers, from another
pub ok_with : {X E : Type 0} (r : Result X E) (P Q : X → Type 0) → ((x : X) → P x → Q x) → IfOk r P → IfOk r Q
ok_with (Ok x) P Q h p = h x p
ok_with (Err e) P Q h p = tt

-- ---- literals of two lists
pub true_both : (s : Assignment) (xs ys : List Lit) → AllTrue s xs → AllTrue s ys → AllTrue s (xs ++ ys)
true_both s [] ys h k = k
true_both s (x ∷ xs) ys h k = (h.0, true_both s xs ys h.1 k)

pub true_left : (s : Assignment) (xs ys : List Lit) → AllTrue s (xs ++ ys) → AllTrue s xs
true_left s [] ys h = tt
true_left s (x ∷ xs) ys h = (h.0, true_left s xs ys h.1)

pub true_right : (s : Assignment) (xs ys : List Lit) → AllTrue s (xs ++ ys) → AllTrue s ys
true_right s [] ys h = h
true_right s (x ∷ xs) ys h = true_right s xs ys h.1

pub true_from_among : (s : Assignment) (ls : List Lit) → ((l : Lit) → Among l ls → Truth s l) → AllTrue s ls
true_from_among s [] h = tt
true_from_among s (l ∷ ls) h = (h l (inl refl), true_from_among s ls (λ m i. h m (inr i)))

pub true_among : (s : Assignment) (l : Lit) (ls : List Lit) → AllTrue s ls → Among l ls → Truth s l
true_among s l [] h m = absurd m
true_among s l (k ∷ ls) h (inl e) = subst (Truth s) (sym e) h.0
true_among s l (k ∷ ls) h (inr m) = true_among s l ls h.1 m
