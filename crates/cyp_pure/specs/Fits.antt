-- Which lists of literals the decision of entailment takes.
use Rattle.std.specs.Prelude.{◌&&◌, ◌++◌, Bool, List, filter, flat_map, length, nat_le, not}
use Rattle.cyp_term.specs.Terms.{is_set_var, lit_elements, lits_vars, term_eq, var_eq, without_repeats}
use Rattle.cyp_term.specs.declared.lit.Lit.{Lit}
use Rattle.cyp_term.specs.declared.term.Var.{Var}

-- both lists together are within the limits of the decision procedure
abbrev pub fits : List Lit → List Lit → Bool
fits a b =
    let vs : List Var = without_repeats var_eq (lits_vars (a ++ b)) in
    nat_le (length (filter (λ v. not (is_set_var v)) vs)) 32
    && nat_le (length (filter is_set_var vs)) 12
    && nat_le (length (without_repeats term_eq (flat_map lit_elements (a ++ b)))) 6
    && nat_le (length a) 320 && nat_le (length b) 64
