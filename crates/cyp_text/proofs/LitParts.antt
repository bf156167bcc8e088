-- A literal that was made of negations and what they negate has these.
use Rattle.std.proofs.Common.{◌≡◌, ℕ, List, [], ◌∷◌, refl, ap}
use Rattle.cyp_text.specs.LitTrees.{lit_base, lit_nots, negated, plain_lit}
use Rattle.cyp_text.specs.declared.lit_tree.BaseTree.{BaseTree}
use Rattle.cyp_text.specs.declared.lit_tree.BaseTree.TheVariants.{Comparing, Inside, SameSets, SubSets}

plain_nots : (b : BaseTree) → lit_nots (plain_lit b) ≡ []
plain_nots (Comparing a c b) = refl
plain_nots (SameSets a b) = refl
plain_nots (SubSets a b) = refl
plain_nots (Inside a b) = refl

plain_base : (b : BaseTree) → lit_base (plain_lit b) ≡ b
plain_base (Comparing a c b) = refl
plain_base (SameSets a b) = refl
plain_base (SubSets a b) = refl
plain_base (Inside a b) = refl

pub nots_of_negated : (ps : List ℕ) (b : BaseTree) → lit_nots (negated ps b) ≡ ps
nots_of_negated [] b = plain_nots b
nots_of_negated (p ∷ ps) b = ap (λ (qs : List ℕ). p ∷ qs) (nots_of_negated ps b)

pub base_of_negated : (ps : List ℕ) (b : BaseTree) → lit_base (negated ps b) ≡ b
base_of_negated [] b = plain_base b
base_of_negated (p ∷ ps) b = base_of_negated ps b
