-- The test over regions decides whether finite sets exist.
use Rattle.std.proofs.Common.{◌↔◌, ℕ, ℤ, pos, List, map, not, Decides, ap}
use Rattle.std.specs.List.{AllByRecursion}
use Rattle.std.proofs.lemmas.Bool.{not-true, not-false}
use Rattle.std.proofs.lemmas.Bool.Decides.{Decides-like}
use Rattle.cyp_term.specs.declared.term.Var.{Var}
use Rattle.cyp_term.specs.declared.term.Term.{Term}
use Rattle.cyp_term.specs.declared.lit.Lit.{Lit}
use Rattle.cyp_term.specs.Meaning.{Assignment, Truth, AllTrue}
use Rattle.cyp_term.specs.Integers.{is_int_lit}
use Rattle.cyp_term.specs.Regions.{all_terms, set_lits, lit_at_values, HasSets, IsArranged, regions_fit}
use Rattle.cyp_term.proofs.Lists.{Every-among, Every-from_among, Every-filter}
use Rattle.cyp_term.proofs.Literals.{SetTruth, set_nothing, truth-at_values, AllTrue-map}
use Rattle.cyp_term.proofs.Arranged.{Arranged, arranged_among}
use Rattle.cyp_term.proofs.RegionsFrom.{regions_fit_from}
use Rattle.cyp_term.proofs.RegionsTo.{regions_fit_to}

-- finite sets that make every literal say something true
abbrev pub HasParts : (Term → ℤ) → List Lit → Type 0
HasParts val ls = (sets : Var → List ℤ) × AllByRecursion (SetTruth val sets) ls

pub Decides-parts : (class : Term → ℕ) (ls : List Lit) (val : Term → ℤ) → Arranged class (all_terms ls) val → Decides (regions_fit class ls) (HasParts val ls)
Decides-parts class ls val arranged = (
  λ h. let r = regions_fit_to class ls val arranged h in (r.0, Every-from_among (SetTruth val r.0) ls r.1),
  λ h. regions_fit_from class ls val h.0 arranged (λ l i. Every-among (SetTruth val h.0) l ls h.1 i),
)

set_lits_true : (val : Term → ℤ) (a : Assignment) (ls : List Lit) → AllTrue a (map (lit_at_values val) (set_lits ls)) ↔ AllByRecursion (SetTruth val a.members) ls
set_lits_true val a ls =
    let to = AllTrue-map a (lit_at_values val) (set_lits ls) in
    let of = Every-filter (λ l. not (is_int_lit l)) (λ l. Truth a (lit_at_values val l)) (SetTruth val a.members)
    (λ l e. truth-at_values a val l (not-true (is_int_lit l) e)) (λ l e. set_nothing val a.members l (not-false (is_int_lit l) e)) ls in
    (λ h. of.0 (to.0 h), λ h. to.1 (of.1 h))

pub Decides-regions : (class : Term → ℕ) (ls : List Lit) (val : Term → ℤ) → IsArranged class (all_terms ls) val → Decides (regions_fit class ls) (HasSets val ls)
Decides-regions class ls val arranged =
    Decides-like (regions_fit class ls)
    (λ h. let a : Assignment = record { number = λ v. pos 0; members = h.0 } in (a, (set_lits_true val a ls).1 h.1))
    (λ h. (h.0.members, (set_lits_true val h.0 ls).0 h.1))
    (Decides-parts class ls val (arranged_among class (all_terms ls) val arranged))

-- the classes themselves serve as values
pub Decides-regions_by_class : (class : Term → ℕ) (ls : List Lit) → Decides (regions_fit class ls) (HasSets (λ t. pos (class t)) ls)
Decides-regions_by_class class ls = Decides-regions class ls (λ t. pos (class t)) (λ s t i j. (λ e. cc, λ e. ap pos e))
