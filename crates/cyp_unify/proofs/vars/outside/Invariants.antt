use Rattle.std.proofs.Common.{◌≡◌, ◌++◌, Bool, drop, not}
use Rattle.std.specs.List.{filter}
use Rattle.cyp_term.specs.Terms.{var_in}
use Rattle.cyp_term.specs.declared.term.Var.{Var}
use Rattle.cyp_unify.proofs.vars.outside.Given as goal

abbrev pub invariant-loop-var : goal.invariant-loop-var
invariant-loop-var l =
    let outside : Var → Bool = λ v. not (var_in v l.exist) in
    l.kept.items ++ filter outside (drop l.var-index l.vars) ≡ filter outside l.vars
