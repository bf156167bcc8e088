-- The test of equality of literals decides it.
use Rattle.std.proofs.Common.{◌≡◌, [], ◌∷◌, List, Bool, true, ◌&&◌, Decides, ◌↔◌, refl, subst}
use Rattle.std.proofs.lemmas.Bool.{and_from, and_parts, false≢true}
use Rattle.cyp_goal.proofs.SameVars.{same_bool}
use Rattle.cyp_term.proofs.Equality.{Decides-term_eq, Decides-var_eq}
use Rattle.cyp_term.specs.Terms.{lists_eq, lit_eq, set_eq, term_eq, var_eq}
use Rattle.cyp_term.specs.declared.lit.Lit.{Lit}
use Rattle.cyp_term.specs.declared.lit.Lit.TheVariants.{Eq, Le, Lt, Member, Ne, NotMember, NotSame, NotSub, Same, Sub}
use Rattle.cyp_term.specs.declared.lit.SetTerm.{SetTerm}
use Rattle.cyp_term.specs.declared.term.Term.{Term}

module _ {A : Type 0} (eq : A → A → Bool) (decides : (x y : A) → Decides (eq x y) (x ≡ y)) where
  lists_same : (xs ys : List A) → lists_eq eq xs ys ≡ true → xs ≡ ys
  lists_same [] [] e = refl
  lists_same [] (y ∷ ys) e = absurd (false≢true e)
  lists_same (x ∷ xs) [] e = absurd (false≢true e)
  lists_same (x ∷ xs) (y ∷ ys) e =
      let both = and_parts (eq x y) (lists_eq eq xs ys) e in
      let first = (decides x y).0 both.0 in
      let rest = lists_same xs ys both.1 in
      λ i. first i ∷ rest i

  lists_self : (xs : List A) → lists_eq eq xs xs ≡ true
  lists_self [] = refl
  lists_self (x ∷ xs) = and_from (eq x x) (lists_eq eq xs xs) ((decides x x).1 refl) (lists_self xs)

pub set_same : (a b : SetTerm) → set_eq a b ≡ true → a ≡ b
set_same a b e =
    let both = and_parts (lists_eq var_eq a.vars b.vars) (lists_eq term_eq a.elems b.elems) e in
    let vars = lists_same var_eq Decides-var_eq a.vars b.vars both.0 in
    let elems = lists_same term_eq Decides-term_eq a.elems b.elems both.1 in
    λ i. record { vars = vars i; elems = elems i }

pub set_self : (a : SetTerm) → set_eq a a ≡ true
set_self a = and_from (lists_eq var_eq a.vars a.vars) (lists_eq term_eq a.elems a.elems) (lists_self var_eq Decides-var_eq a.vars) (lists_self term_eq Decides-term_eq a.elems)

term_same : (a b : Term) → term_eq a b ≡ true → a ≡ b
term_same a b e = (Decides-term_eq a b).0 e

term_self : (a : Term) → term_eq a a ≡ true
term_self a = (Decides-term_eq a a).1 refl

module _ {A B : Type 0} (f : A → B → Lit) (eq : A → A → Bool) (eq' : B → B → Bool) (one : (x y : A) → eq x y ≡ true → x ≡ y) (other : (x y : B) → eq' x y ≡ true → x ≡ y) where
  two_same : (a c : A) (b d : B) → (eq a c && eq' b d) ≡ true → f a b ≡ f c d
  two_same a c b d e =
      let both = and_parts (eq a c) (eq' b d) e in
      let left = one a c both.0 in
      let right = other b d both.1 in
      λ i. f (left i) (right i)

pub lit_same : (l m : Lit) → lit_eq l m ≡ true → l ≡ m
lit_same (Eq a b) (Eq c d) e = two_same Eq term_eq term_eq term_same term_same a c b d e
lit_same (Ne a b) (Ne c d) e = two_same Ne term_eq term_eq term_same term_same a c b d e
lit_same (Le a b) (Le c d) e = two_same Le term_eq term_eq term_same term_same a c b d e
lit_same (Lt a b) (Lt c d) e = two_same Lt term_eq term_eq term_same term_same a c b d e
lit_same (Same a b) (Same c d) e = two_same Same set_eq set_eq set_same set_same a c b d e
lit_same (NotSame a b) (NotSame c d) e = two_same NotSame set_eq set_eq set_same set_same a c b d e
lit_same (Member a b) (Member c d) e = two_same Member term_eq set_eq term_same set_same a c b d e
lit_same (NotMember a b) (NotMember c d) e = two_same NotMember term_eq set_eq term_same set_same a c b d e
lit_same (Sub a b) (Sub c d) e = two_same Sub set_eq set_eq set_same set_same a c b d e
lit_same (NotSub a b) (NotSub c d) e = two_same NotSub set_eq set_eq set_same set_same a c b d e
lit_same l m e = absurd (false≢true e)

pub lit_self : (l : Lit) → lit_eq l l ≡ true
lit_self (Eq a b) = and_from (term_eq a a) (term_eq b b) (term_self a) (term_self b)
lit_self (Ne a b) = and_from (term_eq a a) (term_eq b b) (term_self a) (term_self b)
lit_self (Le a b) = and_from (term_eq a a) (term_eq b b) (term_self a) (term_self b)
lit_self (Lt a b) = and_from (term_eq a a) (term_eq b b) (term_self a) (term_self b)
lit_self (Same a b) = and_from (set_eq a a) (set_eq b b) (set_self a) (set_self b)
lit_self (NotSame a b) = and_from (set_eq a a) (set_eq b b) (set_self a) (set_self b)
lit_self (Member a b) = and_from (term_eq a a) (set_eq b b) (term_self a) (set_self b)
lit_self (NotMember a b) = and_from (term_eq a a) (set_eq b b) (term_self a) (set_self b)
lit_self (Sub a b) = and_from (set_eq a a) (set_eq b b) (set_self a) (set_self b)
lit_self (NotSub a b) = and_from (set_eq a a) (set_eq b b) (set_self a) (set_self b)

pub Decides-lit_eq : (l m : Lit) → Decides (lit_eq l m) (l ≡ m)
Decides-lit_eq l m = (lit_same l m, λ e. rw e (lit_self m))

-- a test that decides equality is the test
pub same_test : {A : Type 0} (b c : Bool) (x y : A) → (b ≡ true) ↔ (x ≡ y) → Decides c (x ≡ y) → b ≡ c
same_test b c x y h d = same_bool b c (λ e. d.1 (h.0 e)) (λ e. h.1 (d.0 e))

pub Decides-set_eq : (a b : SetTerm) → Decides (set_eq a b) (a ≡ b)
Decides-set_eq a b = (set_same a b, λ e. subst (λ x. set_eq a x ≡ true) e (set_self a))
