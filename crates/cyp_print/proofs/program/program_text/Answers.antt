use Rattle.std.proofs.Common.{◌≡◌, ◌∙◌, length, sym, ap}
use Rattle.cyp_kernel.specs.Compile.{main_name}
use Rattle.cyp_prog.specs.ProgramText.{join_with_comma, params_text}
use Rattle.cyp_tree.specs.Derivations.{plain_derivation}
use Rattle.cyp_tree.specs.Follows.{root}
use Rattle.cyp_print.specs.Lines.{main_lines}
use Rattle.cyp_print.proofs.SolvedTrees.{solved_root}
use Rattle.cyp_print.proofs.Whole.{put_together, whole_text, written}
use Rattle.cyp_print.proofs.program.program_text.Goals as goal

pub returns : goal.returns
returns c =
    let n = c.get.result.now in
    let d = plain_derivation c.args.found.now in
    let at : root d ≡ n = solved_root c.args.found.now ∙ sym c.get.ensures in
    let whole = whole_text c.args.name.now d n at c.requires in
    let text : c.from_vec.result ≡ written (main_name c.args.name.now) (join_with_comma (params_text 1 c.len.result)) (main_lines d) =
    put_together (main_name c.args.name.now) (join_with_comma (params_text 1 c.len.result)) (main_lines d)
    c.new-text.result.items c.add.new.text.items c.add_main_name.new.text.items c.add-2.new.text.items c.add_parameters.new.text.items c.add-3.new.text.items c.add_body.new.text.items
    c.from_vec.result
    c.new-text.ensures.items c.in_ok-add.ensures c.in_ok-add_main_name.ensures c.in_ok-add-2.ensures c.in_ok-add_parameters.ensures c.in_ok-add-3.ensures c.in_ok-add_body.ensures
    (c.from_vec.ensures ∙ c.in_ok-add-4.ensures)
    in
    text
    ∙ ap (λ k. written (main_name c.args.name.now) (join_with_comma (params_text 1 k)) (main_lines d)) (c.len.ensures ∙ ap (λ g. length g.program) c.goal.ensures.goal)
    ∙ sym whole
