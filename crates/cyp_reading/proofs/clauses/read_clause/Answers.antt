use Rattle.std.proofs.Common.{ap, subst, sym, ◌∙◌}
use Rattle.cyp_reading.specs.InScope.{clause_in}
use Rattle.cyp_reading.specs.ReadableTexts.{ClauseIn}
use Rattle.cyp_reading.proofs.InScopes.{clause_said}
use Rattle.cyp_names.specs.ReadTerms.{Scope}
use Rattle.cyp_reading.proofs.clauses.read_clause.Goals as goal

pub clause_in-requires : goal.clause_in-requires
clause_in-requires c = subst (λ (sc : Scope). ClauseIn c.args.preds.now sc c.args.tree.now) (sym c.in_ok-scope.ensures) c.requires.inside

pub returns : goal.returns
returns c =
    c.in_ok-clause.ensures ∙ ap (λ (sc : Scope). clause_in c.args.preds.now sc c.args.tree.now) c.in_ok-scope.ensures
    ∙ clause_said c.args.preds.now c.args.params.now c.args.tree.now c.requires.sizes
