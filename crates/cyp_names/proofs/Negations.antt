-- A literal is kept by what its negations negate and by whether their number is odd.
use Rattle.std.proofs.Common.{List, [], ap, arith, false, length, refl, sym, true, suc, ℕ, ◌%◌, ◌==◌, ◌∙◌, ◌∷◌, ◌≡◌}
use Rattle.std.specs.Prelude.{Bool, not}
use Rattle.std.proofs.lemmas.Bool.Decides.{nat_tests}
use Rattle.cyp_names.specs.Orders.{base_in, lit_in}
use Rattle.cyp_names.specs.declared.uses.Order.{Order}
use Rattle.cyp_names.specs.declared.uses.Order.TheVariants.{AsKept, OfText}
use Rattle.cyp_names.specs.Bodies.{kept_lit}
use Rattle.cyp_text.specs.LitTrees.{Comparing, Inside, LitTree, Negation, SameSets, SubSets, lit_base, lit_nots}
use Rattle.cyp_names.specs.Uses.{lit_uses}
use Rattle.cyp_text.specs.declared.lit_tree.BaseTree.{BaseTree}

-- turned round once for each
abbrev flips : Bool → List ℕ → Bool
flips n [] = n
flips n (p ∷ ps) = flips (not n) ps

even_odd : (n : ℕ) → (suc n % 2 == 1) ≡ (n % 2 == 0)
even_odd n = grind (arith, nat_tests)

odd_even : (n : ℕ) → (suc n % 2 == 0) ≡ (n % 2 == 1)
odd_even n = grind (arith, nat_tests)

-- an odd number of turns, or an even one
odd_flips : (ps : List ℕ) → (flips false ps ≡ (length ps % 2 == 1)) × (flips true ps ≡ (length ps % 2 == 0))
odd_flips [] = (refl, refl)
odd_flips (p ∷ ps) = ((odd_flips ps).1 ∙ sym (even_odd (length ps)), (odd_flips ps).0 ∙ sym (odd_even (length ps)))

kept_by : (n : Bool) (l : LitTree) → kept_lit n l ≡ base_in AsKept (flips n (lit_nots l)) (lit_base l)
kept_by n (Comparing a c b) = refl
kept_by n (SameSets a b) = refl
kept_by n (SubSets a b) = refl
kept_by n (Inside a b) = refl
kept_by n (Negation p l) = kept_by (not n) l

uses_by : (n : Bool) (l : LitTree) → lit_uses l ≡ base_in OfText n (lit_base l)
uses_by n (Comparing a c b) = refl
uses_by n (SameSets a b) = refl
uses_by n (SubSets a b) = refl
uses_by n (Inside a b) = refl
uses_by n (Negation p l) = uses_by n l

pub lit_by_base : (o : Order) (l : LitTree) → lit_in o l ≡ base_in o (length (lit_nots l) % 2 == 1) (lit_base l)
lit_by_base OfText l = uses_by (length (lit_nots l) % 2 == 1) l
lit_by_base AsKept l = kept_by false l ∙ rw ((odd_flips (lit_nots l)).0) refl

-- by the parts that the code has of it
pub lit_of_base : (o : Order) (l : LitTree) (ns : List ℕ) (n : ℕ) (b : BaseTree)
    → ns ≡ lit_nots l → n ≡ length ns → b ≡ lit_base l → base_in o (n % 2 == 1) b ≡ lit_in o l
lit_of_base o l ns n b nots count base = (λ i. base_in o ((count ∙ ap length nots) i % 2 == 1) (base i)) ∙ sym (lit_by_base o l)
