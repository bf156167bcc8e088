-- What follows from facts within the limits of the decision of entailment.
use Rattle.std.specs.Prelude.{Bool, List, false, true}
use Rattle.cyp_pure.specs.Fits.{fits}
use Rattle.cyp_term.specs.Entailment.{entailed}
use Rattle.cyp_term.specs.declared.lit.Lit.{Lit}

-- the literals follow from the facts, and both fit
abbrev pub follows : List Lit → List Lit → Bool
follows fs ls = elim (fits fs ls) [ true ↦ entailed fs ls | false ↦ false ]
