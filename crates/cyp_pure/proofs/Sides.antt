-- The variables and the element terms of a literal of sets, of its two sides.
use Rattle.std.proofs.Common.{◌≡◌, ◌⊎◌, ◌++◌, inl, inr, ap}
use Rattle.cyp_term.specs.declared.lit.Lit.{Lit}
use Rattle.cyp_term.specs.declared.lit.Lit.TheVariants.{Same, NotSame, Sub, NotSub}
use Rattle.cyp_term.specs.declared.lit.SetTerm.{SetTerm}
use Rattle.cyp_term.specs.Terms.{lit_elements, lit_vars, set_vars}

-- the literal compares the two sets
abbrev pub Compares : Lit → SetTerm → SetTerm → Type 0
Compares l a b = (l ≡ Same a b) ⊎ ((l ≡ NotSame a b) ⊎ ((l ≡ Sub a b) ⊎ (l ≡ NotSub a b)))

pub elements_compared : (l : Lit) (a b : SetTerm) → Compares l a b → lit_elements l ≡ a.elems ++ b.elems
elements_compared l a b (inl e) = ap lit_elements e
elements_compared l a b (inr (inl e)) = ap lit_elements e
elements_compared l a b (inr (inr (inl e))) = ap lit_elements e
elements_compared l a b (inr (inr (inr e))) = ap lit_elements e

pub vars_compared : (l : Lit) (a b : SetTerm) → Compares l a b → lit_vars l ≡ set_vars a ++ set_vars b
vars_compared l a b (inl e) = ap lit_vars e
vars_compared l a b (inr (inl e)) = ap lit_vars e
vars_compared l a b (inr (inr (inl e))) = ap lit_vars e
vars_compared l a b (inr (inr (inr e))) = ap lit_vars e
