-- Integers and set terms as masks of classes and of set variables, and what rules and wants say of an integer.
use Rattle.std.specs.Prelude.{ℕ, Bool, not, ◌&&◌, ◌||◌, ◌==◌, List, bit_and}
use Rattle.std.specs.Bool.{beq}
use Rattle.std.specs.List.{list_any}
use Rattle.cyp_sets.specs.declared.masks.Mask.{Mask}
use Rattle.cyp_sets.specs.declared.masks.Rule.{Rule}
use Rattle.cyp_sets.specs.declared.masks.Rule.TheVariants.{Same, Sub, Apart}
use Rattle.cyp_sets.specs.declared.masks.Want.{Want}
use Rattle.cyp_sets.specs.declared.masks.Want.TheVariants.{NotSame, NotSub}

-- some bit is set in both numbers
abbrev pub share : ℕ → ℕ → Bool
share a b = not (bit_and a b == 0)

-- the masks have a set variable or a class in common
abbrev pub meets : Mask → Mask → Bool
meets a b = share a.vars b.vars || share a.classes b.classes

-- the rule holds of the integer
abbrev pub obeys : Mask → Rule → Bool
obeys x (Same a b) = beq (meets x a) (meets x b)
obeys x (Sub a b) = not (meets x a) || meets x b
obeys x (Apart a b) = not (meets x a) || not (meets x b)

-- the integer is what is wanted
abbrev pub shows : Mask → Want → Bool
shows x (NotSame a b) = not (beq (meets x a) (meets x b))
shows x (NotSub a b) = meets x a && not (meets x b)

-- one of the integers is what is wanted
abbrev pub shown_by : List Mask → Want → Bool
shown_by xs w = list_any (λ x. shows x w) xs
