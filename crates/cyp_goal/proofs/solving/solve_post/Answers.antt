use Rattle.std.proofs.Common.{◌∙◌, ◌-◌, ◌<◌, ap, length, refl, subst, sym}
use Rattle.std.proofs.lemmas.Result.{err_from_is_err_and}
use Rattle.cyp_goal.proofs.KnownVars.{exist_stay}
use Rattle.cyp_goal.proofs.SolvingTurns.{stays, turns_fail, turns_go_on}
use Rattle.cyp_goal.specs.Solving.{solve_post, solved_any, with_post}
use Rattle.cyp_heap.specs.declared.goal.Node.{Node}
use Rattle.cyp_term.specs.Terms.{var_in}
use Rattle.cyp_goal.proofs.solving.solve_post.Goals as goal

pub returns-in_default : goal.returns-in_default
returns-in_default c =
    let d = c.loop-turn.draft in
    sym c.loop-turn.invariant.turns
    ∙ stays solve_post with_post (solved_any (λ v. var_in v d.goal.exist)) d.goal.pure_post d (λ k. refl) c.in_default.ensures refl (length c.args.draft.goal.pure_post - c.loop-turn._turn)

pub turn_post-requires : goal.turn_post-requires
turn_post-requires c = c.in-Some.ensures

pub returns-in_err-draft : goal.returns-in_err-draft
returns-in_err-draft c =
    let p = err_from_is_err_and c.from_residual.result c.from_residual.ensures.1 in
    let many : c.loop-turn._turn < length c.args.draft.goal.pure_post =
    subst (λ k. c.loop-turn._turn < k) (c.len-turn-end.ensures ∙ ap (λ (n : Node). length n.goal.pure_post) c.draft.view_is) c.loop-turn-test.true in
    rw (p.1, p.2) (turns_fail solve_post c.args.draft c.loop-turn.draft (length c.args.draft.goal.pure_post) c.loop-turn._turn c.loop-turn.invariant.turns many c.in_err-draft.field-0.0 c.in_err-draft.ensures.turned)

pub loop-turn-preserved : goal.loop-turn-preserved
loop-turn-preserved c =
    let many : c.loop-turn._turn < length c.args.draft.goal.pure_post =
    subst (λ k. c.loop-turn._turn < k) (c.len-turn-end.ensures ∙ ap (λ (n : Node). length n.goal.pure_post) c.draft.view_is) c.loop-turn-test.true in
    record {
      turns = turns_go_on solve_post c.args.draft c.loop-turn.draft (length c.args.draft.goal.pure_post) c.loop-turn._turn c.loop-turn.invariant.turns many c.in_ok-draft.draft c.in_ok-draft.ensures.turned;
      known = exist_stay c.loop-turn.draft c.in_ok-draft.draft c.add_exist.new.exist c.in_ok-draft.ensures.names c.loop-turn.invariant.known;
    }
