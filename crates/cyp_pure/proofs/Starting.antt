-- Where no term has a class yet.
use Rattle.std.proofs.Common.{◌≡◌, ◌↔◌, ℕ, ℤ, List, [], ◌∷◌, ◌++◌, IsTrue, length, refl, sym, ap, ◌∙◌, subst, arith}
use Rattle.std.specs.List.{flat_map, zip}
use Rattle.cyp_term.specs.declared.lit.Lit.{Lit}
use Rattle.cyp_term.specs.declared.lit.Lit.TheVariants.{Same, NotSame, Member, NotMember, Sub, NotSub}
use Rattle.cyp_term.specs.declared.term.Term.{Term}
use Rattle.cyp_term.specs.Integers.{is_int_lit}
use Rattle.cyp_term.specs.Meaning.{AllTrue, Satisfiable, value}
use Rattle.cyp_term.specs.Regions.{all_terms, elem_terms}
use Rattle.cyp_term.specs.Terms.{lit_elements, lits_vars, term_eq, term_vars, with_all_new, without_repeats}
use Rattle.cyp_term.proofs.Lists.{Among, Among-left, Among-right}
use Rattle.cyp_diff.specs.Solving.{AreInts}
use Rattle.cyp_pure.specs.declared.dealing.Dealing.{Dealing}
use Rattle.cyp_pure.specs.declared.dealing.Question.{Question}
use Rattle.cyp_pure.specs.Dealing.{Agrees, CanDeal, IsDealt, IsStart, SaysClasses}
use Rattle.cyp_pure.specs.Questions.{CanBeTrue, IsAsked, int_side, set_side}
use Rattle.cyp_pure.proofs.Agreeing.{zip_nil}
use Rattle.cyp_pure.proofs.Alls.{all_among, all_from_among}
use Rattle.cyp_pure.proofs.Counts.{seen_both}
use Rattle.cyp_pure.proofs.Saying.{among_var, var_among}

-- ---- the element terms
pub same_elements : (l : Lit) → elem_terms l ≡ lit_elements l
same_elements (Same a b) = refl
same_elements (NotSame a b) = refl
same_elements (Member t a) = refl
same_elements (NotMember t a) = refl
same_elements (Sub a b) = refl
same_elements (NotSub a b) = refl
same_elements _ = refl

all_same_elements : (ls : List Lit) → flat_map lit_elements ls ≡ flat_map elem_terms ls
all_same_elements [] = refl
all_same_elements (l ∷ ls) = λ i. sym (same_elements l) i ++ all_same_elements ls i

pub terms_are : (a b : List Lit) (xs ys zs : List Term) → xs ≡ [] → ys ≡ with_all_new term_eq xs (flat_map lit_elements a) → zs ≡ with_all_new term_eq ys (flat_map lit_elements b) → zs ≡ all_terms (a ++ b)
unfolding all_terms
terms_are a b xs ys zs d e f = seen_both term_eq lit_elements a b xs ys zs d e f ∙ ap (without_repeats term_eq) (all_same_elements (a ++ b))

-- ---- the dealing of no terms
no_classes : (val : Term → ℤ) (ts : List Term) (ks : List ℕ) → ks ≡ [] → Agrees val (zip ts ks)
no_classes val ts ks e = subst (Agrees val) (sym (ap (zip ts) e ∙ zip_nil ts)) (record { alike = tt })

ints_right : (xs ys : List Lit) → AreInts (xs ++ ys) → AreInts ys
ints_right xs ys h = all_from_among (λ l. IsTrue (is_int_lit l)) ys (λ l m. all_among (λ l. IsTrue (is_int_lit l)) (xs ++ ys) l h (Among-right l xs ys m))

module _ (q : Question) (d : Dealing) (start : IsStart q.more.now d) where
  start_said : IsAsked q → SaysClasses q d
  start_said asked = record {
    ints_only = subst AreInts (sym start.facts) (ints_right q.ints.now q.more.now asked.lits.ints_only);
    vars = λ v h.
        among_var v (lits_vars q.more.now ++ flat_map term_vars q.terms.now)
        (Among-left v (lits_vars q.more.now) (flat_map term_vars q.terms.now) (subst (λ ls. Among v (lits_vars ls)) start.facts (var_among v (lits_vars d.facts) h)));
    means = λ s. (λ h. (subst (AllTrue s) start.facts h, no_classes (value s) q.terms.now d.classes start.classes), λ h. subst (AllTrue s) (sym start.facts) h.0);
  }

  pub start_dealt : IsAsked q → IsDealt q d
  start_dealt asked =
      let none : length d.classes ≡ 0 = ap length start.classes in
      let count = start.count in
      record {
        few = omega arith;
        count = omega arith;
        below = λ k e lt. absurd (omega arith);
        facts = start_said asked;
      }

  pub start_means : CanDeal q d.classes ↔ CanBeTrue (int_side q) (set_side q)
  start_means = (λ h. (h.0, h.1, h.2), λ h. (h.0, h.1, h.2, no_classes (value h.0) q.terms.now d.classes start.classes))

-- integers for the literals of integers are integers for those and the dealing's
pub start_solved : (ints more : List Lit) (d : Dealing) → IsStart more d → Satisfiable (ints ++ more) → Satisfiable (ints ++ d.facts)
start_solved ints more d start h = subst (λ ls. Satisfiable (ints ++ ls)) (sym start.facts) h
