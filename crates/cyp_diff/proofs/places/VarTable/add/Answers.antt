use Rattle.std.proofs.Common.{◌≡◌, ◌<◌, ◌++◌, ◌∷◌, [], cond, rules, length, get_or, sym, ap, ◌∙◌, arith}
use Rattle.cyp_term.specs.Terms.{var_eq, with_new}
use Rattle.cyp_diff.specs.Places.{var_place}
use Rattle.cyp_diff.proofs.Vars.{told_more, told_place, absent, present}
use Rattle.cyp_diff.proofs.places.VarTable.add.Goals as goal

pub invariant_of-self-then-self-k-eq0 : goal.invariant_of-self-then-self-k-eq0
invariant_of-self-then-self-k-eq0 c =
    let small : c.args.var.number < 256 = search rules in
    let long : c.place_in_table-k.result < length c.self.inside.places = omega (arith, c.self.told, c.place_in_table-k.ensures.within) in
    told_more c.self.inside.vars.items c.push.new.self.items c.self.inside.places c.args.var c.place_in_table-k.result c.len.result c.self.invariant small long
    c.place_in_table-k.ensures.value c.if-self-k-eq0.true c.in_ok-push.ensures.items (omega (arith, c.len.ensures, c.push.new.self.ok.0))

pub returns-in_ok-push : goal.returns-in_ok-push
returns-in_ok-push c =
    let small : c.args.var.number < 256 = search rules in
    let none : var_place c.self.inside.vars.items c.args.var ≡ 0 =
    sym (told_place c.self.inside.vars.items c.self.inside.places c.args.var c.place_in_table-k.result c.self.invariant small c.place_in_table-k.ensures.value) ∙ c.if-self-k-eq0.true in
    c.in_ok-push.ensures.items
    ∙ ap (λ b. cond b c.self.inside.vars.items (c.self.inside.vars.items ++ c.args.var ∷ [])) (sym (absent c.self.inside.vars.items c.args.var none))
    ∙ ap (λ vs. with_new var_eq vs c.args.var) c.self.view_is

pub returns-else-self-k-eq0 : goal.returns-else-self-k-eq0
returns-else-self-k-eq0 c =
    let small : c.args.var.number < 256 = search rules in
    let told : get_or c.self.inside.places c.place_in_table-k.result 0 ≡ var_place c.self.inside.vars.items c.args.var =
    told_place c.self.inside.vars.items c.self.inside.places c.args.var c.place_in_table-k.result c.self.invariant small c.place_in_table-k.ensures.value in
    sym c.self.view_is
    ∙ ap (λ b. cond b c.self.inside.vars.items (c.self.inside.vars.items ++ c.args.var ∷ [])) (sym (present c.self.inside.vars.items c.args.var (λ e. c.if-self-k-eq0.false (told ∙ e))))
    ∙ ap (λ vs. with_new var_eq vs c.args.var) c.self.view_is
