-- What literals say, one literal after the other.
use Rattle.std.proofs.Common.{◌≡◌, ℕ, ◌+◌, ◌<◌, Bool, true, false, not, ◌&&◌, List, [], ◌∷◌, ◌++◌, length, get_or, take, refl, sym, ap, ap₂, subst, ◌∙◌, append_assoc}
use Rattle.std.specs.Bool.{beq}
use Rattle.std.specs.List.{All, list_all, list_any}
use Rattle.std.proofs.lemmas.List.{take_more}
use Rattle.std.proofs.lemmas.List.Elements.{All-tail}
use Rattle.std.proofs.lemmas.List.Folds.{list_all-append}
use Rattle.cyp_term.specs.declared.lit.Lit.{Lit}
use Rattle.cyp_term.specs.declared.lit.Lit.TheVariants.{NotSame as LitNotSame, NotSub as LitNotSub}
use Rattle.cyp_term.specs.declared.lit.SetTerm.{SetTerm}
use Rattle.cyp_term.specs.Regions.{Spot, allows, in_spot, is_shown}
use Rattle.cyp_term.proofs.Lists.{some_from, some_out}
use Rattle.cyp_sets.specs.declared.masks.Mask.{Mask}
use Rattle.cyp_sets.specs.declared.masks.Rule.{Rule}
use Rattle.cyp_sets.specs.declared.masks.Want.{Want}
use Rattle.cyp_sets.specs.declared.masks.Want.TheVariants.{NotSame, NotSub}
use Rattle.cyp_sets.specs.declared.masks.Saying.{Saying}
use Rattle.cyp_sets.specs.declared.masks.Saying.TheVariants.{OfEach, OfSome}
use Rattle.cyp_sets.specs.Masks.{obeys, shown_by, shows}
use Rattle.cyp_sets.specs.Names.{IsMaskOf, IsUnion, Named, class_in}
use Rattle.cyp_sets.specs.Saying.{Adds, AreMasksOf, Says, SaysLit}
use Rattle.cyp_sets.proofs.Containing.{Among-from_contains, Contains-from_among}

pub same_tests : (a b : Bool) → (a ≡ true → b ≡ true) → (b ≡ true → a ≡ true) → a ≡ b
same_tests true b h k = sym (h refl)
same_tests false true h k = k refl
same_tests false false h k = refl

-- tests that tell an integer and its mask alike pass for some of each
pub some_alike : (n : Named) (xs : List Spot) (ms : List Mask) (p : Spot → Bool) (q : Mask → Bool) → AreMasksOf n xs ms → ((x : Spot) (m : Mask) → IsMaskOf n x m → p x ≡ q m) → list_any p xs ≡ list_any q ms
some_alike n xs ms p q are h =
    same_tests (list_any p xs) (list_any q ms)
    (λ e.
    let r = some_out p xs e in
    let m = are.each r.0 (Contains-from_among r.0 xs r.1) in
    some_from q m.0 ms (Among-from_contains m.0 ms m.1) (sym (h r.0 m.0 m.2) ∙ r.2))
    (λ e.
    let r = some_out q ms e in
    let x = are.only r.0 (Contains-from_among r.0 ms r.1) in
    some_from p x.0 xs (Among-from_contains x.0 xs x.1) (h x.0 r.0 x.2 ∙ r.2))

-- ---- one literal more

and_true : (b : Bool) → (b && true) ≡ b
and_true true = refl
and_true false = refl

all_more : {X : Type 0} (p : X → Bool) (xs : List X) (x : X) → list_all p (xs ++ x ∷ []) ≡ (list_all p xs && p x)
all_more p xs x = list_all-append p xs (x ∷ []) ∙ ap (λ b. list_all p xs && b) (and_true (p x))

-- the tests of the literals and of what they say, with one literal that says something, or that passes anyhow
more_said : {X Y : Type 0} (p : X → Bool) (q : Y → Bool) (xs : List X) (ys : List Y) (x : X) (y : Y) → list_all p xs ≡ list_all q ys → p x ≡ q y → list_all p (xs ++ x ∷ []) ≡ list_all q (ys ++ y ∷ [])
more_said p q xs ys x y e f = all_more p xs x ∙ ap₂ ◌&&◌ e f ∙ sym (all_more q ys y)

none_said : {X Y : Type 0} (p : X → Bool) (q : Y → Bool) (xs : List X) (ys : List Y) (x : X) → list_all p xs ≡ list_all q ys → p x ≡ true → list_all p (xs ++ x ∷ []) ≡ list_all q ys
none_said p q xs ys x e f = all_more p xs x ∙ ap₂ ◌&&◌ e f ∙ and_true (list_all q ys)

module _ (n : Named) (ls : List Lit) (l : Lit) where
  says_each : (rule : Rule) (rules more : List Rule) (wants same : List Want) → more ≡ rules ++ rule ∷ [] → same ≡ wants → SaysLit n l (OfEach rule) → Says n ls rules wants → Says n (ls ++ l ∷ []) more same
  says_each rule rules more wants same em es h s = record {
    ruled = λ x m is. more_said (allows (class_in n) x) (obeys m) ls rules l rule (s.ruled x m is) (h.0 x m is) ∙ ap (list_all (obeys m)) (sym em);
    wanted = λ xs ms are. none_said (is_shown (class_in n) xs) (shown_by ms) ls wants l (s.wanted xs ms are) (h.1 xs) ∙ ap (list_all (shown_by ms)) (sym es);
  }

  says_some : (want : Want) (rules same : List Rule) (wants more : List Want) → same ≡ rules → more ≡ wants ++ want ∷ [] → SaysLit n l (OfSome want) → Says n ls rules wants → Says n (ls ++ l ∷ []) same more
  says_some want rules same wants more es em h s = record {
    ruled = λ x m is. none_said (allows (class_in n) x) (obeys m) ls rules l (s.ruled x m is) (h.0 x) ∙ ap (list_all (obeys m)) (sym es);
    wanted = λ xs ms are. more_said (is_shown (class_in n) xs) (shown_by ms) ls wants l want (s.wanted xs ms are) (h.1 xs ms are) ∙ ap (list_all (shown_by ms)) (sym em);
  }

  pub says_more : (saying : Saying) (rules rules' : List Rule) (wants wants' : List Want) → Adds saying rules wants rules' wants' → SaysLit n l saying → Says n ls rules wants → Says n (ls ++ l ∷ []) rules' wants'
  says_more (OfEach rule) rules rules' wants wants' adds h s = says_each rule rules rules' wants wants' adds.0 adds.1 h s
  says_more (OfSome want) rules rules' wants wants' adds h s = says_some want rules rules' wants wants' adds.1 adds.0 h s

pub says_nothing : (n : Named) (rules : List Rule) (wants : List Want) → rules ≡ [] → wants ≡ [] → Says n [] rules wants
says_nothing n rules wants er ew = record { ruled = λ x m is. ap (list_all (obeys m)) (sym er); wanted = λ xs ms are. ap (list_all (shown_by ms)) (sym ew) }

pub All-right : {X : Type 0} (P : X → Type 0) (xs ys : List X) → All P (xs ++ ys) → All P ys
All-right P [] ys h = h
All-right P (x ∷ xs) ys h = All-right P xs ys (All-tail P x (xs ++ ys) h)

-- ---- literals that want something

module _ (n : Named) (a b : SetTerm) (s t : Mask) (left : IsUnion n a s) (right : IsUnion n b t) where
  pub says_not_same : (l : Lit) → l ≡ LitNotSame a b → SaysLit n l (OfSome (NotSame s t))
  says_not_same l e = subst (λ k. SaysLit n k (OfSome (NotSame s t))) (sym e) (
    λ x. refl,
    λ xs ms are. some_alike n xs ms (λ x. not (beq (in_spot (class_in n) x a) (in_spot (class_in n) x b))) (λ m. shows m (NotSame s t)) are
        (λ x m is. ap not (ap₂ beq (left x m is) (right x m is))),
  )

  pub says_not_sub : (l : Lit) → l ≡ LitNotSub a b → SaysLit n l (OfSome (NotSub s t))
  says_not_sub l e = subst (λ k. SaysLit n k (OfSome (NotSub s t))) (sym e) (
    λ x. refl,
    λ xs ms are. some_alike n xs ms (λ x. in_spot (class_in n) x a && not (in_spot (class_in n) x b)) (λ m. shows m (NotSub s t)) are
        (λ x m is. ap₂ (λ p q. p && not q) (left x m is) (right x m is)),
  )

-- ---- the literals from a place on
pub says_taken : (n : Named) (lits : List Lit) (i : ℕ) (l : Lit) (saying : Saying) (rules rules' : List Rule) (wants wants' : List Want) (ls : List Lit) → i < length lits → l ≡ get_or lits i l → Adds saying rules wants rules' wants' → SaysLit n l saying → Says n (ls ++ take i lits) rules wants → Says n (ls ++ take (i + 1) lits) rules' wants'
says_taken n lits i l saying rules rules' wants wants' ls lt is adds says s =
    subst (λ ks. Says n ks rules' wants') (append_assoc ls (take i lits) (l ∷ []) ∙ ap (λ ks. ls ++ ks) (ap (λ k. take i lits ++ k ∷ []) is ∙ sym (take_more lits i l lt)))
    (says_more n (ls ++ take i lits) l saying rules rules' wants wants' adds says s)
