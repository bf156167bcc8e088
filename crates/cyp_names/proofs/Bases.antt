-- A literal begins with its first negation, or where it begins without them.
use Rattle.std.proofs.Common.{List, None, Option, Some, [], ap, false, refl, sym, true, ℕ, ◌∙◌, ◌∷◌, ◌≡◌}
use Rattle.std.specs.Prelude.{Bool}
use Rattle.cyp_lex.specs.declared.fault.Fault.{Fault}
use Rattle.cyp_lex.specs.declared.fault.FaultKind.TheVariants.{WrongSort}
use Rattle.cyp_names.specs.LeastFaults.{set_guard_fault}
use Rattle.cyp_names.specs.Places.{base_place, is_set_base}
use Rattle.cyp_text.specs.LitTrees.{Comparing, Inside, LitTree, Negation, SameSets, SubSets, lit_base, lit_nots}
use Rattle.cyp_names.specs.NameFaults.{is_set_literal, lit_place}
use Rattle.cyp_names.specs.FaultOrder.{least_fault}
use Rattle.cyp_text.specs.declared.lit_tree.BaseTree.{BaseTree}

pub place_negated : (l : LitTree) (p : ℕ) (ps : List ℕ) → lit_nots l ≡ p ∷ ps → p ≡ lit_place l
place_negated (Comparing a c b) p ps e = absurd cc
place_negated (SameSets a b) p ps e = absurd cc
place_negated (SubSets a b) p ps e = absurd cc
place_negated (Inside a b) p ps e = absurd cc
place_negated (Negation q l) p ps e = cc

pub place_plain : (l : LitTree) → lit_nots l ≡ [] → base_place (lit_base l) ≡ lit_place l
place_plain (Comparing a c b) e = refl
place_plain (SameSets a b) e = refl
place_plain (SubSets a b) e = refl
place_plain (Inside a b) e = refl
place_plain (Negation q l) e = absurd cc

pub set_by_base : (l : LitTree) → is_set_literal l ≡ is_set_base (lit_base l)
set_by_base (Comparing a c b) = refl
set_by_base (SameSets a b) = refl
set_by_base (SubSets a b) = refl
set_by_base (Inside a b) = refl
set_by_base (Negation q l) = set_by_base l

abbrev pub wrong_sort : ℕ → Fault
wrong_sort q = record { kind = WrongSort; place = q }

pub set_guard : (g : LitTree) (b : BaseTree) (t : Bool) (r : Option Fault) (p : ℕ)
    → t ≡ is_set_base b → b ≡ lit_base g → t ≡ true → p ≡ lit_place g → r ≡ Some (wrong_sort p) → r ≡ least_fault (set_guard_fault g)
set_guard g b t r p test base sets place is =
    let set : is_set_literal g ≡ true = set_by_base g ∙ ap is_set_base (sym base) ∙ sym test ∙ sets in
    let here : Some (wrong_sort (lit_place g)) ≡ least_fault (set_guard_fault g) = rw set refl in
    is ∙ ap (λ (q : ℕ). Some (wrong_sort q)) place ∙ here

pub plain_guard : (g : LitTree) (b : BaseTree) (t : Bool) → t ≡ is_set_base b → b ≡ lit_base g → t ≡ false → None ≡ least_fault (set_guard_fault g)
plain_guard g b t test base plain =
    let set : is_set_literal g ≡ false = set_by_base g ∙ ap is_set_base (sym base) ∙ sym test ∙ plain in
    rw set refl
