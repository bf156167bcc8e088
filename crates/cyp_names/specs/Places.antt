-- What a literal is without its negations.
use Rattle.std.specs.Prelude.{Bool, false, true, ℕ}
use Rattle.cyp_names.specs.NameFaults.{int_place, set_place}
use Rattle.cyp_text.specs.declared.lit_tree.BaseTree.{BaseTree}
use Rattle.cyp_text.specs.declared.lit_tree.BaseTree.TheVariants.{Comparing, Inside, SameSets, SubSets}

-- where it begins
abbrev pub base_place : BaseTree → ℕ
base_place (Comparing a c b) = int_place a
base_place (SameSets a b) = set_place a
base_place (SubSets a b) = set_place a
base_place (Inside a b) = int_place a

-- it speaks of sets
abbrev pub is_set_base : BaseTree → Bool
is_set_base (Comparing a c b) = false
is_set_base _ = true
