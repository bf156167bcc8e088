use Rattle.std.proofs.Common.{◌≡◌, sym, ap, ◌∙◌, zero, suc, ◌+◌, ◌-◌, ◌≤◌, true, false, add-one, arith}
use Rattle.std.proofs.lemmas.Result.{IfOk-weaker}
use Rattle.cyp_tree.specs.Trees.{Moving}
use Rattle.cyp_tree.specs.Sizes.{size}
use Rattle.cyp_tree.specs.Growing.{expand_next}
use Rattle.cyp_search.specs.Reports.{report_at, report_from}
use Rattle.cyp_search.proofs.ReportProof.{report-grown, report-ended}
use Rattle.cyp_search.proofs.best_first.search.Goals as goal

pub loop-expansions-init : goal.loop-expansions-init
loop-expansions-init g c =
    let space : Moving g.row.S-Rule.Denot g.row.S-Node.Denot = record { moves = g.S.Space.moves_of c.args.space.now; weight = g.S.Space.weight_of c.args.space.now } in
    let all : c.args.settings.now.budget - 0 ≡ c.args.settings.now.budget = omega arith in
    record {
      frontier = c.in_ok-frontier.ensures.frontier;
      same = λ i. report_from space c.args.settings.now.nodes (all i) 0 (c.in_ok-frontier.ensures.tree i);
    }

pub returns-then-not-branch : goal.returns-then-not-branch
returns-then-not-branch g c =
    let space : Moving g.row.S-Rule.Denot g.row.S-Node.Denot = record { moves = g.S.Space.moves_of c.args.space.now; weight = g.S.Space.weight_of c.args.space.now } in
    let no : c.in_ok-expand.field-0 ≡ false = cc in
    let ended = rw (no, c.nodes-limit.ensures.value) at c.in_ok-expand.ensures in
    let k = c.loop-expansions.expansions in
    let t = c.loop-expansions.frontier.tree in
    IfOk-weaker c.report.result _ _
    (λ r e.
    e ∙ ap (report_at k) ended.0 ∙ sym (report-ended space c.args.settings.now.nodes (c.args.settings.now.budget - k) k t ended.1)
    ∙ c.loop-expansions.invariant.same)
    c.report.ensures

pub loop-expansions-preserved : goal.loop-expansions-preserved
loop-expansions-preserved g c =
    let space : Moving g.row.S-Rule.Denot g.row.S-Node.Denot = record { moves = g.S.Space.moves_of c.args.space.now; weight = g.S.Space.weight_of c.args.space.now } in
    let yes : c.in_ok-expand.field-0 ≡ true = cc in
    let grown = rw (yes, c.nodes-limit.ensures.value) at c.in_ok-expand.ensures in
    let k = c.loop-expansions.expansions in
    let left = c.args.settings.now.budget - (k + 1) in
    let t = c.loop-expansions.frontier.tree in
    let one : c.args.settings.now.budget - k ≡ suc left = omega arith in
    let fits : size (expand_next space t) ≤ c.args.settings.now.nodes = omega (arith, grown.2, ap size grown.1) in
    let was = rw one at c.loop-expansions.invariant.same in
    record {
      frontier = grown.3;
      same =
          (λ i. report_from space c.args.settings.now.nodes left (add-one k i) (grown.1 i))
          ∙ sym (report-grown space c.args.settings.now.nodes left k t grown.0 fits)
          ∙ was;
    }

pub returns : goal.returns
returns g c =
    let space : Moving g.row.S-Rule.Denot g.row.S-Node.Denot = record { moves = g.S.Space.moves_of c.args.space.now; weight = g.S.Space.weight_of c.args.space.now } in
    let k = c.loop-expansions.expansions in
    let t = c.loop-expansions.frontier.tree in
    let none : zero ≡ c.args.settings.now.budget - k = omega arith in
    let all : c.budget.result ≡ k = omega arith in
    IfOk-weaker c.report-2.result _ _
    (λ r e. e ∙ (λ i. report_from space c.args.settings.now.nodes (none i) (all i) t) ∙ c.loop-expansions.invariant.same)
    c.report-2.ensures
