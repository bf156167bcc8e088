-- When rules and wants over masks say what set literals say.
use Rattle.std.specs.Prelude.{◌≡◌, true, List, [], ◌∷◌, ◌++◌, Contains, IsTrue}
use Rattle.std.specs.List.{list_all}
use Rattle.cyp_term.specs.declared.lit.Lit.{Lit}
use Rattle.cyp_term.specs.declared.lit.Lit.TheVariants.{Same, NotSame, Member, NotMember, Sub, NotSub}
use Rattle.cyp_term.specs.Regions.{Spot, allows, is_shown, term_in}
use Rattle.cyp_sets.specs.declared.masks.Mask.{Mask}
use Rattle.cyp_sets.specs.declared.masks.Rule.{Rule}
use Rattle.cyp_sets.specs.declared.masks.Want.{Want}
use Rattle.cyp_sets.specs.declared.masks.Saying.{Saying}
use Rattle.cyp_sets.specs.declared.masks.Saying.TheVariants.{OfEach, OfSome}
use Rattle.cyp_sets.specs.Masks.{obeys, shown_by}
use Rattle.cyp_sets.specs.Names.{HasPlaces, IsMaskOf, Named, class_in}

-- all set variables and element terms of the literal have places
abbrev pub LitHasPlaces : Named → Lit → Type 0
LitHasPlaces n (Same a b) = HasPlaces n a × HasPlaces n b
LitHasPlaces n (NotSame a b) = HasPlaces n a × HasPlaces n b
LitHasPlaces n (Member e a) = IsTrue (term_in e n.terms) × HasPlaces n a
LitHasPlaces n (NotMember e a) = IsTrue (term_in e n.terms) × HasPlaces n a
LitHasPlaces n (Sub a b) = HasPlaces n a × HasPlaces n b
LitHasPlaces n (NotSub a b) = HasPlaces n a × HasPlaces n b
LitHasPlaces n _ = Unit {0}

-- each of the integers has its mask among the masks, and each mask is that of one of the integers
pub record AreMasksOf (n : Named) (xs : List Spot) (ms : List Mask) : Type 0 where
  pub each : (x : Spot) → Contains xs x → (m : Mask) × Contains ms m × IsMaskOf n x m
  pub only : (m : Mask) → Contains ms m → (x : Spot) × Contains xs x × IsMaskOf n x m

-- the literal says of each integer what the rule says of its mask, and wants nothing; or wants what is wanted of some mask,
-- and says nothing of each
abbrev pub SaysLit : Named → Lit → Saying → Type 0
SaysLit n l (OfEach rule) = ((x : Spot) (m : Mask) → IsMaskOf n x m → allows (class_in n) x l ≡ obeys m rule) × ((xs : List Spot) → is_shown (class_in n) xs l ≡ true)
SaysLit n l (OfSome want) = ((x : Spot) → allows (class_in n) x l ≡ true) × ((xs : List Spot) (ms : List Mask) → AreMasksOf n xs ms → is_shown (class_in n) xs l ≡ shown_by ms want)

-- all the literals say of each integer what the rules say of its mask, and want what is wanted of some mask
pub record Says (n : Named) (ls : List Lit) (rules : List Rule) (wants : List Want) : Type 0 where
  pub ruled : (x : Spot) (m : Mask) → IsMaskOf n x m → list_all (allows (class_in n) x) ls ≡ list_all (obeys m) rules
  pub wanted : (xs : List Spot) (ms : List Mask) → AreMasksOf n xs ms → list_all (is_shown (class_in n) xs) ls ≡ list_all (shown_by ms) wants

-- the lists with what is said at the end of one of them
abbrev pub Adds : Saying → List Rule → List Want → List Rule → List Want → Type 0
Adds (OfEach rule) rules wants rules' wants' = (rules' ≡ rules ++ rule ∷ []) × (wants' ≡ wants)
Adds (OfSome want) rules wants rules' wants' = (wants' ≡ wants ++ want ∷ []) × (rules' ≡ rules)
