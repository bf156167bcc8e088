-- What a literal says of integers alone and what it says of sets alone, at any values of its terms. A literal of the other
-- kind says nothing there.
use Rattle.std.proofs.Common.{◌≡◌, ◌↔◌, ℤ, ◌≤ℤ◌, ◌<ℤ◌, List, [], ◌∷◌, ◌++◌, map, true, false, IsTrue, refl, sym, subst₂}
use Rattle.std.specs.List.{AllByRecursion, flat_map}
use Rattle.std.proofs.lemmas.Bool.{false≢true, true≢false}
use Rattle.cyp_term.specs.declared.term.Var.{Var}
use Rattle.cyp_term.specs.declared.term.Term.{Term}
use Rattle.cyp_term.specs.declared.lit.SetTerm.{SetTerm}
use Rattle.cyp_term.specs.declared.lit.Lit.{Lit}
use Rattle.cyp_term.specs.declared.lit.Lit.TheVariants.{Eq, Ne, Le, Lt, Same, NotSame, Member, NotMember, Sub, NotSub}
use Rattle.cyp_term.specs.Meaning.{Assignment, int_in, value, set_value, SameMembers, IsSubset, Truth, AllTrue}
use Rattle.cyp_term.specs.Integers.{is_int_lit}
use Rattle.cyp_term.specs.Regions.{term_at_value, set_at_values, lit_at_values}
use Rattle.cyp_term.proofs.Deciding.{not_iff}
use Rattle.cyp_term.proofs.Numbers.{zero-plus}
use Rattle.cyp_term.proofs.Lists.{Among}
use Rattle.cyp_term.proofs.Sets.{HaveSame, IsWithin, Decides-int_in, have_same, same_members, is_within, is_subset}

-- ---- the two parts
abbrev pub IntTruth : (Term → ℤ) → Lit → Type 0
IntTruth val (Eq s t) = val s ≡ val t
IntTruth val (Ne s t) = ¬ (val s ≡ val t)
IntTruth val (Le s t) = val s ≤ℤ val t
IntTruth val (Lt s t) = val s <ℤ val t
IntTruth val _ = Unit {0}

-- the members of a set term, with any integers as the values of the terms
abbrev pub members_at : (Term → ℤ) → (Var → List ℤ) → SetTerm → List ℤ
members_at val sets u = flat_map sets u.vars ++ map val u.elems

abbrev pub SetTruth : (Term → ℤ) → (Var → List ℤ) → Lit → Type 0
SetTruth val sets (Same s t) = HaveSame (members_at val sets s) (members_at val sets t)
SetTruth val sets (NotSame s t) = ¬ HaveSame (members_at val sets s) (members_at val sets t)
SetTruth val sets (Member e s) = Among (val e) (members_at val sets s)
SetTruth val sets (NotMember e s) = ¬ Among (val e) (members_at val sets s)
SetTruth val sets (Sub s t) = IsWithin (members_at val sets s) (members_at val sets t)
SetTruth val sets (NotSub s t) = ¬ IsWithin (members_at val sets s) (members_at val sets t)
SetTruth val sets _ = Unit {0}

-- ---- relations of sets, by what is among their elements
same_among : (xs us ys vs : List ℤ) → xs ≡ us → ys ≡ vs → SameMembers xs ys ↔ HaveSame us vs
same_among xs us ys vs p q =
    (λ h. have_same us vs (subst₂ SameMembers p q h), λ h. subst₂ SameMembers (sym p) (sym q) (same_members us vs h))

sub_among : (xs us ys vs : List ℤ) → xs ≡ us → ys ≡ vs → IsSubset xs ys ↔ IsWithin us vs
sub_among xs us ys vs p q =
    (λ h. is_within us vs (subst₂ IsSubset p q h), λ h. subst₂ IsSubset (sym p) (sym q) (is_subset us vs h))

abbrev IsIn : ℤ → List ℤ → Type 0
IsIn z xs = IsTrue (int_in z xs)

member_among : (y z : ℤ) (xs us : List ℤ) → y ≡ z → xs ≡ us → IsIn y xs ↔ Among z us
member_among y z xs us p q =
    (λ h. (Decides-int_in z us).0 (subst₂ IsIn p q h), λ h. subst₂ IsIn (sym p) (sym q) ((Decides-int_in z us).1 h))

-- ---- a literal of one kind
pub int_truth : (a : Assignment) (l : Lit) → is_int_lit l ≡ true → Truth a l ↔ IntTruth (value a) l
int_truth a (Eq s t) e = (λ h. h, λ h. h)
int_truth a (Ne s t) e = (λ h. h, λ h. h)
int_truth a (Le s t) e = (λ h. h, λ h. h)
int_truth a (Lt s t) e = (λ h. h, λ h. h)
int_truth a _ e = absurd (false≢true e)

pub int_nothing : (val : Term → ℤ) (l : Lit) → is_int_lit l ≡ false → IntTruth val l
int_nothing val (Eq s t) e = absurd (true≢false e)
int_nothing val (Ne s t) e = absurd (true≢false e)
int_nothing val (Le s t) e = absurd (true≢false e)
int_nothing val (Lt s t) e = absurd (true≢false e)
int_nothing val _ e = tt

pub set_truth : (a : Assignment) (l : Lit) → is_int_lit l ≡ false → Truth a l ↔ SetTruth (value a) a.members l
set_truth a (Same s t) e = same_among (set_value a s) _ (set_value a t) _ refl refl
set_truth a (NotSame s t) e = not_iff (same_among (set_value a s) _ (set_value a t) _ refl refl)
set_truth a (Member t s) e = member_among (value a t) _ (set_value a s) _ refl refl
set_truth a (NotMember t s) e = not_iff (member_among (value a t) _ (set_value a s) _ refl refl)
set_truth a (Sub s t) e = sub_among (set_value a s) _ (set_value a t) _ refl refl
set_truth a (NotSub s t) e = not_iff (sub_among (set_value a s) _ (set_value a t) _ refl refl)
set_truth a _ e = absurd (true≢false e)

pub set_nothing : (val : Term → ℤ) (sets : Var → List ℤ) (l : Lit) → is_int_lit l ≡ true → SetTruth val sets l
set_nothing val sets (Eq s t) e = tt
set_nothing val sets (Ne s t) e = tt
set_nothing val sets (Le s t) e = tt
set_nothing val sets (Lt s t) e = tt
set_nothing val sets _ e = absurd (false≢true e)

-- ---- a literal with values in place of its element terms
values-at_value : (a : Assignment) (val : Term → ℤ) (ts : List Term) → map (value a) (map (term_at_value val) ts) ≡ map val ts
values-at_value a val [] = refl
values-at_value a val (t ∷ ts) = λ i. zero-plus (val t) i ∷ values-at_value a val ts i

set_value-at_values : (a : Assignment) (val : Term → ℤ) (u : SetTerm) → set_value a (set_at_values val u) ≡ members_at val a.members u
set_value-at_values a val u = λ i. flat_map a.members u.vars ++ values-at_value a val u.elems i

pub truth-at_values : (a : Assignment) (val : Term → ℤ) (l : Lit) → is_int_lit l ≡ false → Truth a (lit_at_values val l) ↔ SetTruth val a.members l
truth-at_values a val (Same s t) e = same_among _ _ _ _ (set_value-at_values a val s) (set_value-at_values a val t)
truth-at_values a val (NotSame s t) e = not_iff (same_among _ _ _ _ (set_value-at_values a val s) (set_value-at_values a val t))
truth-at_values a val (Member t s) e = member_among _ _ _ _ (zero-plus (val t)) (set_value-at_values a val s)
truth-at_values a val (NotMember t s) e = not_iff (member_among _ _ _ _ (zero-plus (val t)) (set_value-at_values a val s))
truth-at_values a val (Sub s t) e = sub_among _ _ _ _ (set_value-at_values a val s) (set_value-at_values a val t)
truth-at_values a val (NotSub s t) e = not_iff (sub_among _ _ _ _ (set_value-at_values a val s) (set_value-at_values a val t))
truth-at_values a val _ e = absurd (true≢false e)

-- ---- lists of literals
pub AllTrue-map : (a : Assignment) (f : Lit → Lit) (ls : List Lit) → AllTrue a (map f ls) ↔ AllByRecursion (λ l. Truth a (f l)) ls
AllTrue-map a f [] = (λ h. tt, λ h. tt)
AllTrue-map a f (l ∷ ls) = let r = AllTrue-map a f ls in (λ h. (h.0, r.0 h.1), λ h. (h.0, r.1 h.1))

pub AllTrue-every : (a : Assignment) (ls : List Lit) → AllTrue a ls ↔ AllByRecursion (Truth a) ls
AllTrue-every a [] = (λ h. tt, λ h. tt)
AllTrue-every a (l ∷ ls) = let r = AllTrue-every a ls in (λ h. (h.0, r.0 h.1), λ h. (h.0, r.1 h.1))
