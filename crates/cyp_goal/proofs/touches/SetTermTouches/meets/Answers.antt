use Rattle.std.proofs.Common.{◌∙◌, false, refl, sym, true}
use Rattle.std.specs.List.{flat_map, list_any}
use Rattle.cyp_goal.proofs.Occurring.{set_met}
use Rattle.cyp_term.specs.Terms.{term_vars, var_in}
use Rattle.cyp_goal.proofs.touches.SetTermTouches.meets.Goals as goal

pub returns-then-some_meets : goal.returns-then-some_meets
returns-then-some_meets c =
    let u = c.args.self.now in
    c.if-some_meets.true
    ∙ set_met c.args.table.now u c.vars.result.now u.elems true (list_any (λ v. var_in v c.args.table.now) (flat_map term_vars u.elems)) c.vars.ensures.vars refl (sym c.if-some_meets.true ∙ c.some_meets.ensures) refl

pub returns-else-some_meets : goal.returns-else-some_meets
returns-else-some_meets c =
    set_met c.args.table.now c.args.self.now c.vars.result.now c.elems.result.now false c.some_meets-else-some_meets.result c.vars.ensures.vars c.elems.ensures (sym c.if-some_meets.false ∙ c.some_meets.ensures)
    c.some_meets-else-some_meets.ensures
