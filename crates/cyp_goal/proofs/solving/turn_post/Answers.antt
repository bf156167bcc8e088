use Rattle.std.proofs.Common.{List, refl, subst, sym}
use Rattle.cyp_goal.proofs.SolvingTurns.{turn_given}
use Rattle.cyp_goal.specs.SolvedSides.{IsFirst}
use Rattle.cyp_goal.specs.Solving.{solve_post, solved_any, substitute, with_post}
use Rattle.cyp_goal.specs.Turns.{Turned}
use Rattle.cyp_heap.specs.declared.goal.Node.{Node}
use Rattle.cyp_term.specs.Answers.{GivesWhere}
use Rattle.cyp_term.specs.Terms.{var_in}
use Rattle.cyp_term.specs.declared.lit.Lit.{Lit}
use Rattle.cyp_goal.proofs.solving.turn_post.Goals as goal

pub returns-clause-turned : goal.returns-clause-turned
returns-clause-turned c =
    let s = c.draft.inside in
    let n : Node = record { preds = s.preds; goal = s.goal; links = s.links } in
    let is = subst (λ (m : Node). IsFirst (solved_any (λ v. var_in v m.goal.exist)) m.goal.pure_post c.args.place c.args.side) (sym c.draft.view_is) c.requires in
    subst (λ (m : Node). Turned solve_post m c.substituted.result) c.draft.view_is
    (turn_given solve_post with_post (solved_any (λ v. var_in v n.goal.exist)) n.goal.pure_post n (λ k. refl) c.args.place c.args.side is c.remove-lit.result c.remove-lit.ensures.item c.in_ok-by.by c.in_ok-by.ensures.0
    c.substituted.result (subst (λ (ls : List Lit). GivesWhere (substitute c.in_ok-by.by (with_post n ls)) c.substituted.result) c.remove-lit.ensures.rest c.substituted.ensures.gives))
