use Rattle.std.proofs.Common.{◌≡◌, ◌<◌, rules, get_or, sym, ap, ◌∙◌, arith}
use Rattle.cyp_diff.specs.Places.{base_place, var_place}
use Rattle.cyp_diff.proofs.Levels.{place_in}
use Rattle.cyp_diff.proofs.Vars.{told_place}
use Rattle.cyp_diff.proofs.places.place.Goals as goal

told : (c : goal.After-result-1) → get_or c.vars.inside.places c.place_in_table.result 0 ≡ base_place c.args.vars.now c.args.term.now.base
told c =
    let small : c.in-Some.var.number < 256 = search rules in
    told_place c.vars.inside.vars.items c.vars.inside.places c.in-Some.var c.place_in_table.result c.vars.invariant small c.place_in_table.ensures.value
    ∙ ap (λ vs. var_place vs c.in-Some.var) c.vars.view_is ∙ ap (base_place c.args.vars.now) (sym c.in-Some.is ∙ c.base.ensures.base)

pub overflow_cast-result : goal.overflow_cast-result
overflow_cast-result c = record { fits = omega (arith, told c, place_in c.args.vars.now c.args.term.now.base, c.requires) }

pub returns-in-Some : goal.returns-in-Some
returns-in-Some c = told c
