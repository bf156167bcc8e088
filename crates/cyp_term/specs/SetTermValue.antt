use Rattle.std.specs.Prelude.{List, [], ◌∷◌, ◌≡◌}
use Rattle.cyp_term.specs.declared.term.Var.{Var}
use Rattle.cyp_term.specs.declared.term.Sort.TheVariants.{Set}
use Rattle.cyp_term.specs.TermValue.{TermValue}

-- a union of set variables and single elements
pub record SetTermValue : Type 0 where
  pub vars : List Var
  pub elems : List TermValue

-- each of the variables is of sort Set
abbrev pub AllSets : List Var → Type 0
AllSets [] = Unit {0}
AllSets (v ∷ vs) = (v.sort ≡ Set) × AllSets vs
