-- Where all terms have classes, the test over regions tells whether integers and sets make all true.
use Rattle.std.proofs.Common.{◌≡◌, ◌↔◌, ℕ, ℤ, Bool, true, false, List, [], ◌∷◌, ◌++◌, IsTrue, cond, length, inl, inr, refl, sym, ap, ◌∙◌, subst, arith}
use Rattle.std.specs.List.{AllByRecursion, zip}
use Rattle.std.proofs.lemmas.Bool.{both_ways}
use Rattle.cyp_term.specs.declared.lit.Lit.{Lit}
use Rattle.cyp_term.specs.declared.term.Term.{Term}
use Rattle.cyp_term.specs.declared.term.Var.{Var}
use Rattle.cyp_term.specs.Integers.{is_int_lit}
use Rattle.cyp_term.specs.Meaning.{AllTrue, Assignment, Satisfiable, value}
use Rattle.cyp_term.specs.Regions.{all_terms, class_by, regions_fit}
use Rattle.cyp_term.specs.Terms.{term_eq}
use Rattle.cyp_term.proofs.Arranged.{Arranged}
use Rattle.cyp_term.proofs.Equality.{Decides-term_eq}
use Rattle.cyp_term.proofs.Feasible.{value_agree}
use Rattle.cyp_term.proofs.Lists.{Among, Every-among, Every-from_among}
use Rattle.cyp_term.proofs.Literals.{IntTruth, SetTruth, int_truth, set_truth}
use Rattle.cyp_term.proofs.Regions.{Decides-parts}
use Rattle.cyp_diff.specs.Solving.{AreInts}
use Rattle.cyp_sets.specs.Asking.{AreSets}
use Rattle.cyp_pure.specs.declared.dealing.Dealing.{Dealing}
use Rattle.cyp_pure.specs.declared.dealing.Question.{Question}
use Rattle.cyp_pure.specs.Dealing.{Agrees, CanDeal, IsDealt}
use Rattle.cyp_pure.specs.Questions.{IsAsked, int_side, set_side}
use Rattle.cyp_pure.proofs.Agreeing.{agrees_at}
use Rattle.cyp_pure.proofs.Alls.{all_among, true_among, true_both, true_from_among, true_left, true_right}

-- ---- the classes arrange the terms
pair_by : (u t : Term) (ts : List Term) (k j : ℕ) (ks : List ℕ) (b : Bool) → term_eq u t ≡ b → (Among t ts → Among (t, j) (zip ts ks)) → Among t (u ∷ ts) → Among (t, cond b k j) ((u, k) ∷ zip ts ks)
pair_by u t ts k j ks true e h m = inl (ap (λ w. (w, k)) (sym ((Decides-term_eq u t).0 e)))
pair_by u t ts k j ks false e h (inl i) = absurd (both_ways _ e ((Decides-term_eq u t).1 (sym i)))
pair_by u t ts k j ks false e h (inr m) = inr (h m)

pair_of : (ts : List Term) (ks : List ℕ) (t : Term) → length ks ≡ length ts → Among t ts → Among (t, class_by ts ks t) (zip ts ks)
pair_of [] ks t e m = absurd m
pair_of (u ∷ ts) [] t e m = absurd (omega arith)
pair_of (u ∷ ts) (k ∷ ks) t e m = pair_by u t ts k (class_by ts ks t) ks (term_eq u t) refl (pair_of ts ks t (omega arith)) m

arranged : (val : Term → ℤ) (ts : List Term) (ks : List ℕ) → length ks ≡ length ts → Agrees val (zip ts ks) → Arranged (class_by ts ks) ts val
arranged val ts ks e h s t i j = agrees_at val (zip ts ks) (s, class_by ts ks s) (t, class_by ts ks t) h (pair_of ts ks s e i) (pair_of ts ks t e j)

-- ---- the truth of literals of one kind
value-members : (s : Assignment) (sets : Var → List ℤ) → value s ≡ value (record { number = s.number; members = sets })
value-members s sets = λ i t. value_agree s (record { number = s.number; members = sets }) t (λ y m. refl) i

pub ints_stay : (s : Assignment) (sets : Var → List ℤ) (ls : List Lit) → AreInts ls → AllTrue s ls → AllTrue (record { number = s.number; members = sets }) ls
ints_stay s sets ls h k =
    let a : Assignment = record { number = s.number; members = sets } in
    true_from_among a ls (λ l m.
    let e : is_int_lit l ≡ true = all_among (λ l. IsTrue (is_int_lit l)) ls l h m in
    (int_truth a l e).1 (subst (λ val. IntTruth val l) (value-members s sets) ((int_truth s l e).0 (true_among s l ls k m))))

sets_in : (s : Assignment) (ls : List Lit) → AreSets ls → AllTrue s ls → AllByRecursion (SetTruth (value s) s.members) ls
sets_in s ls h k =
    Every-from_among (SetTruth (value s) s.members) ls (λ l m. (set_truth s l (all_among (λ l. is_int_lit l ≡ false) ls l h m)).0 (true_among s l ls k m))

sets_out : (s : Assignment) (sets : Var → List ℤ) (ls : List Lit) → AreSets ls → AllByRecursion (SetTruth (value s) sets) ls → AllTrue (record { number = s.number; members = sets }) ls
sets_out s sets ls h k =
    let a : Assignment = record { number = s.number; members = sets } in
    true_from_among a ls (λ l m.
    (set_truth a l (all_among (λ l. is_int_lit l ≡ false) ls l h m)).1 (subst (λ val. SetTruth val sets l) (value-members s sets) (Every-among (SetTruth (value s) sets) l ls k m)))

-- ---- all terms have classes
module _ (q : Question) (d : Dealing) (asked : IsAsked q) (dealt : IsDealt q d) (all : length d.classes ≡ length q.terms.now) where
  arranged_at : (s : Assignment) → Agrees (value s) (zip q.terms.now d.classes) → Arranged (class_by (all_terms (set_side q)) d.classes) (all_terms (set_side q)) (value s)
  arranged_at s h = subst (λ ts. Arranged (class_by ts d.classes) ts (value s)) asked.terms (arranged (value s) q.terms.now d.classes all h)

  join_sets : (s : Assignment) → AllTrue s (q.ints.now ++ d.facts) → regions_fit (class_by (all_terms (set_side q)) d.classes) (set_side q) ≡ true → CanDeal q d.classes
  join_sets s h fit =
      let said = (dealt.facts.means s).0 (true_right s q.ints.now d.facts h) in
      let parts = (Decides-parts (class_by (all_terms (set_side q)) d.classes) (set_side q) (value s) (arranged_at s said.1)).0 fit in (
        record { number = s.number; members = parts.0 },
        ints_stay s parts.0 (int_side q) asked.lits.ints_only (true_both s q.ints.now q.more.now (true_left s q.ints.now d.facts h) said.0),
        sets_out s parts.0 (set_side q) asked.lits.sets_only parts.1,
        subst (λ val. Agrees val (zip q.terms.now d.classes)) (value-members s parts.0) said.1,
      )

  fit_from : CanDeal q d.classes → regions_fit (class_by (all_terms (set_side q)) d.classes) (set_side q) ≡ true
  fit_from h =
      (Decides-parts (class_by (all_terms (set_side q)) d.classes) (set_side q) (value h.0) (arranged_at h.0 h.3)).1
      (h.0.members, sets_in h.0 (set_side q) asked.lits.sets_only h.2)

  pub at_end : (r : Bool) → Satisfiable (q.ints.now ++ d.facts) → r ≡ regions_fit (class_by (all_terms (set_side q)) d.classes) (set_side q) → IsTrue r ↔ CanDeal q d.classes
  at_end r possible e = (λ h. join_sets possible.0 possible.1 (sym e ∙ h), λ h. e ∙ fit_from h)
