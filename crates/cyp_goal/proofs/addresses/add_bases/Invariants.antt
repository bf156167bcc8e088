use Rattle.std.proofs.Common.{◌≡◌, ◌++◌, Some, drop, map}
use Rattle.cyp_goal.specs.Tidying.{above_zero, least_of, offsets_at}
use Rattle.cyp_term.specs.declared.lit.Lit.{Lit}
use Rattle.cyp_term.specs.declared.term.Var.{Var}
use Rattle.cyp_goal.proofs.addresses.add_bases.Given as goal

abbrev pub invariant-loop-base : goal.invariant-loop-base
invariant-loop-base l =
    let lit : Var → Lit = λ v. above_zero (record { base = Some v; offset = least_of (offsets_at v l.terms) }) in
    l.lits.items ++ map lit (drop l.base-index l.bases) ≡ l.initial.lits.items ++ map lit l.bases
