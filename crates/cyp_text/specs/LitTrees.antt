-- Literals as trees, and their negations one by one.
use Rattle.std.specs.Prelude.{[], List, ℕ, ◌∷◌, ◌≡◌, refl}
use Rattle.std.proofs.Common.{ap}
use Rattle.std.specs.Coded.{Coded, code_by, coded×, coded_list, coded_ℕ}
use Rattle.cyp_text.specs.declared.lit_tree.BaseTree.{BaseTree}
use Rattle.cyp_text.specs.declared.lit_tree.BaseTree.TheVariants as bases
use Rattle.cyp_text.specs.declared.tree.Comparison.{Comparison}
use Rattle.cyp_text.specs.declared.tree.IntTree.{IntTree}
use Rattle.cyp_text.specs.declared.tree.SetTree.{SetTree}

-- a literal; `not` has its place
pub data LitTree : Type 0 where
  Comparing : IntTree → Comparison → IntTree → LitTree
  SameSets : SetTree → SetTree → LitTree
  SubSets : SetTree → SetTree → LitTree
  Inside : IntTree → SetTree → LitTree
  Negation : (place : ℕ) → LitTree → LitTree

-- a literal without `not`, as a literal
abbrev pub plain_lit : BaseTree → LitTree
plain_lit (bases.Comparing a c b) = Comparing a c b
plain_lit (bases.SameSets a b) = SameSets a b
plain_lit (bases.SubSets a b) = SubSets a b
plain_lit (bases.Inside a b) = Inside a b

-- negated by a `not` at each of these places, the outermost first
abbrev pub negated : List ℕ → BaseTree → LitTree
negated [] b = plain_lit b
negated (p ∷ ps) b = Negation p (negated ps b)

-- the places of the negations, the outermost first
abbrev pub lit_nots : LitTree → List ℕ
lit_nots (Negation p l) = p ∷ lit_nots l
lit_nots _ = []

-- what all of the negations negate
abbrev pub lit_base : LitTree → BaseTree
lit_base (Comparing a c b) = bases.Comparing a c b
lit_base (SameSets a b) = bases.SameSets a b
lit_base (SubSets a b) = bases.SubSets a b
lit_base (Inside a b) = bases.Inside a b
lit_base (Negation p l) = lit_base l

-- a literal is what it negates with its negations
pub negated_parts : (l : LitTree) → negated (lit_nots l) (lit_base l) ≡ l
negated_parts (Comparing a c b) = refl
negated_parts (SameSets a b) = refl
negated_parts (SubSets a b) = refl
negated_parts (Inside a b) = refl
negated_parts (Negation p l) = ap (Negation p) (negated_parts l)

-- a literal is stored as its negations' places and what they negate
abbrev pub lit_code : Coded BaseTree → Coded LitTree
lit_code c = code_by (List ℕ × BaseTree) (coded× (coded_list coded_ℕ) c) (λ l. (lit_nots l, lit_base l)) (λ p. negated p.0 p.1) negated_parts
