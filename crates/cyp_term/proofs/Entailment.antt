-- The tests of satisfiability and of entailment decide what they are meant to decide.
use Rattle.std.proofs.Common.{◌≡◌, ◌↔◌, ℕ, ℤ, List, [], ◌∷◌, ◌++◌, Bool, true, false, not, IsTrue, Decides, refl, subst, inl, inr}
use Rattle.std.specs.List.{AllByRecursion}
use Rattle.std.proofs.lemmas.Bool.{and_parts, and_from}
use Rattle.std.proofs.lemmas.Bool.Decides.{Decides-like, Decides-and, Decides-not}
use Rattle.cyp_term.specs.declared.term.Var.{Var}
use Rattle.cyp_term.specs.declared.term.Term.{Term}
use Rattle.cyp_term.specs.declared.lit.Lit.{Lit}
use Rattle.cyp_term.specs.Terms.{negated}
use Rattle.cyp_term.specs.Meaning.{Assignment, value, Truth, AllTrue, Satisfiable, Entails}
use Rattle.cyp_term.specs.Integers.{is_int_lit, ints_fit}
use Rattle.cyp_term.specs.Regions.{all_terms, regions_fit}
use Rattle.cyp_term.specs.Entailment.{arrangements, class_literals, arrangement_fits, satisfiable, entailed}
use Rattle.cyp_term.proofs.Lists.{Every-append, Every-left, Every-right, some_out, some_holds}
use Rattle.cyp_term.proofs.Literals.{IntTruth, SetTruth, int_truth, int_nothing, set_truth, set_nothing}
use Rattle.cyp_term.proofs.Feasible.{value_agree}
use Rattle.cyp_term.proofs.Integers.{Decides-ints_fit}
use Rattle.cyp_term.proofs.Regions.{Decides-parts}
use Rattle.cyp_term.proofs.Arrangements.{Fits, arranged_in, arranged_out, arrangement_for}
use Rattle.cyp_term.proofs.Negation.{truth_or_negated, not_both}

-- ---- a literal is true where its integers and its sets say so
join : (a : Assignment) (l : Lit) (t : Bool) → is_int_lit l ≡ t → IntTruth (value a) l → SetTruth (value a) a.members l → Truth a l
join a l true e h k = (int_truth a l e).1 h
join a l false e h k = (set_truth a l e).1 k

int_part : (a : Assignment) (l : Lit) (t : Bool) → is_int_lit l ≡ t → Truth a l → IntTruth (value a) l
int_part a l true e h = (int_truth a l e).0 h
int_part a l false e h = int_nothing (value a) l e

set_part : (a : Assignment) (l : Lit) (t : Bool) → is_int_lit l ≡ t → Truth a l → SetTruth (value a) a.members l
set_part a l true e h = set_nothing (value a) a.members l e
set_part a l false e h = (set_truth a l e).0 h

all_join : (a : Assignment) (ls : List Lit) → AllByRecursion (IntTruth (value a)) ls → AllByRecursion (SetTruth (value a) a.members) ls → AllTrue a ls
all_join a [] h k = tt
all_join a (l ∷ ls) h k = (join a l (is_int_lit l) refl h.0 k.0, all_join a ls h.1 k.1)

all_int_part : (a : Assignment) (ls : List Lit) → AllTrue a ls → AllByRecursion (IntTruth (value a)) ls
all_int_part a [] h = tt
all_int_part a (l ∷ ls) h = (int_part a l (is_int_lit l) refl h.0, all_int_part a ls h.1)

all_set_part : (a : Assignment) (ls : List Lit) → AllTrue a ls → AllByRecursion (SetTruth (value a) a.members) ls
all_set_part a [] h = tt
all_set_part a (l ∷ ls) h = (set_part a l (is_int_lit l) refl h.0, all_set_part a ls h.1)

-- ---- the test
value-members : (a : Assignment) (sets : Var → List ℤ) → value a ≡ value (record { number = a.number; members = sets })
value-members a sets = λ i t. value_agree a (record { number = a.number; members = sets }) t (λ y m. refl) i

arrangement_out : (ls : List Lit) (class : Term → ℕ) → arrangement_fits ls class ≡ true → Satisfiable ls
unfolding arrangement_fits
arrangement_out ls class h =
    let p = and_parts (ints_fit (class_literals class (all_terms ls) ++ ls)) (regions_fit class ls) h in
    let n = (Decides-ints_fit (class_literals class (all_terms ls) ++ ls)).0 p.0 in
    let arranged = arranged_out class n.0 (all_terms ls) (Every-left (IntTruth (value n.0)) (class_literals class (all_terms ls)) ls n.1) in
    let s = (Decides-parts class ls (value n.0) arranged).0 p.1 in
    let a : Assignment = record { number = n.0.number; members = s.0 } in
    let e = value-members n.0 s.0 in (
      a,
      all_join a ls (subst (λ val. AllByRecursion (IntTruth val) ls) e (Every-right (IntTruth (value n.0)) (class_literals class (all_terms ls)) ls n.1))
          (subst (λ val. AllByRecursion (SetTruth val s.0) ls) e s.1),
    )

arrangement_in : (ls : List Lit) (a : Assignment) → AllTrue a ls → (class : Term → ℕ) → Fits (value a) (all_terms ls) class → arrangement_fits ls class ≡ true
unfolding arrangement_fits
arrangement_in ls a h class f =
    and_from (ints_fit (class_literals class (all_terms ls) ++ ls)) (regions_fit class ls)
    ((Decides-ints_fit (class_literals class (all_terms ls) ++ ls)).1
    (a, Every-append (IntTruth (value a)) (class_literals class (all_terms ls)) ls (arranged_in class a (all_terms ls) f.0) (all_int_part a ls h)))
    ((Decides-parts class ls (value a) f.0).1 (a.members, all_set_part a ls h))

pub satisfiable_law : (ls : List Lit) → IsTrue (satisfiable ls) ↔ Satisfiable ls
unfolding satisfiable
satisfiable_law ls = (
  λ h.
      let c = some_out (arrangement_fits ls) (arrangements (all_terms ls)) h in
      arrangement_out ls c.0 c.2,
  λ h. some_holds (arrangement_fits ls) (arrangements (all_terms ls)) (arrangement_in ls h.0 h.1) (arrangement_for (value h.0) (all_terms ls)),
)

-- ---- entailment
abbrev EntailsOne : List Lit → Lit → Type 0
EntailsOne given l = (a : Assignment) → AllTrue a given → Truth a l

pub entails_one : (given : List Lit) (l : Lit) → ¬ Satisfiable (negated l ∷ given) → EntailsOne given l
entails_one given l h a k = elim (truth_or_negated a l) [ inl j ↦ j | inr j ↦ absurd (h (a, (j, k))) ]

pub refutes_one : (given : List Lit) (l : Lit) → EntailsOne given l → ¬ Satisfiable (negated l ∷ given)
refutes_one given l h k = not_both k.0 l (h k.0 k.1.1) k.1.0

Decides-one : (given : List Lit) (l : Lit) → Decides (not (satisfiable (negated l ∷ given))) (EntailsOne given l)
Decides-one given l =
    Decides-like _ (entails_one given l) (refutes_one given l) (Decides-not _ (satisfiable_law (negated l ∷ given)))

pub entailed_law : (given wanted : List Lit) → IsTrue (entailed given wanted) ↔ Entails given wanted
unfolding entailed
entailed_law given [] = (λ e a h. tt, λ h. refl)
entailed_law given (l ∷ ls) =
    Decides-like _ (λ h a k. (h.0 a k, h.1 a k)) (λ h. (λ a k. (h a k).0, λ a k. (h a k).1))
    (Decides-and _ _ (Decides-one given l) (entailed_law given ls))
