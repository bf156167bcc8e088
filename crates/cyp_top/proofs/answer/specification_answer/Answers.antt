use Rattle.std.proofs.Common.{List, Ok, ap, refl, ℕ, ◌≡◌, ◌∙◌}
use Rattle.std.proofs.lemmas.Result.{IfOk-weaker}
use Rattle.cyp_moves.specs.Moves.{is_built}
use Rattle.cyp_search.specs.PlainReports.{plain_report, plain_verdict}
use Rattle.cyp_top.specs.Asked.{search_of}
use Rattle.cyp_top.specs.Given.{plain_answer}
use Rattle.cyp_top.specs.Synthesis.{report_output, result_output}
use Rattle.cyp_top.proofs.FoundVerdicts.{is_found, is_output}
use Rattle.cyp_top.proofs.answer.specification_answer.Goals as goal

pub report_answer-requires : goal.report_answer-requires
report_answer-requires c =
    let v = c.args.settings.now in
    is_found v.«unfold» v.budget v.nodes c.in_ok-root.root (plain_verdict c.in_ok-report.report.verdict) (plain_report c.in_ok-report.report) c.in_ok-report.ensures refl

pub returns : goal.returns
returns c =
    let v = c.args.settings.now in
    let o = search_of v c.args.extras in
    let r = plain_report c.in_ok-report.report in
    IfOk-weaker c.report_answer.result (λ a. plain_answer a ≡ report_output o c.name.result.now r) (λ a. plain_answer a ≡ result_output is_built o (Ok c.args.spec.now))
    (λ a said. is_output o c.args.spec.now c.in_ok-root.root v.nodes r (plain_answer a) c.in_ok-root.ensures c.requires c.in_ok-report.ensures
    (said ∙ ap (λ (n : List ℕ). report_output o n r) c.name.ensures))
    c.report_answer.ensures
