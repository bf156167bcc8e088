use Rattle.std.proofs.Common.{◌≡◌, ◌∙◌, ◌++◌, ◌+◌, length, sym, add-one}
use Rattle.std.proofs.lemmas.Result.{on_ok_weaker}
use Rattle.cyp_tree.specs.Derivations.{plain_derivation}
use Rattle.cyp_tree.specs.Follows.{root}
use Rattle.cyp_print.specs.Lines.{main_lines}
use Rattle.cyp_print.proofs.Loop.{finished, further, named_at, rule_at, without_first}
use Rattle.cyp_print.proofs.SolvedTrees.{solved_root}
use Rattle.cyp_print.proofs.Steps.{starts}
use Rattle.cyp_print.proofs.body.add_body.Goals as goal

pub loop-part-init : goal.loop-part-init
loop-part-init c =
    let d = plain_derivation c.args.found.now in
    let at : root d ≡ c.get.result.now = solved_root c.args.found.now ∙ sym c.get.ensures in
    starts c.get.result.now d c.args.text.now.items c.in_ok-scope.scope.numbers.items c.in_ok-scope.scope.count at c.requires
    c.in_ok-scope.ensures.numbers c.in_ok-scope.ensures.count c.in_ok-scope.ensures.few

pub add_step-requires-clause-flat : goal.add_step-requires-clause-flat
add_step-requires-clause-flat c =
    rule_at c.loop-part.left.now (c.args.text.now.items ++ main_lines (plain_derivation c.args.found.now)) (length c.args.text.now.items)
    c.loop-part.text.items c.loop-part.scope.numbers.items c.loop-part.scope.count c.loop-part.invariant

pub add_step-requires-clause-named : goal.add_step-requires-clause-named
add_step-requires-clause-named c =
    named_at c.loop-part.left.now (c.args.text.now.items ++ main_lines (plain_derivation c.args.found.now)) (length c.args.text.now.items)
    c.loop-part.text.items c.loop-part.scope.numbers.items c.loop-part.scope.count c.loop-part.invariant c.get-in-Some.result.now c.get-in-Some.ensures

pub loop-part-preserved : goal.loop-part-preserved
loop-part-preserved c =
    further c.loop-part.left.now (c.args.text.now.items ++ main_lines (plain_derivation c.args.found.now)) (length c.args.text.now.items)
    c.loop-part.text.items c.loop-part.scope.numbers.items c.loop-part.scope.count c.loop-part.invariant
    c.in-Some.part.now c.as_slice.result.now c.get-in-Some.result.now c.add_step.new.text.items c.in_ok-scope-2.scope.numbers.items c.in_ok-scope-2.scope.count
    c.get-in-Some.ensures c.as_slice.ensures c.in-Some.ensures.value
    c.in_ok-scope-2.ensures.lines c.in_ok-scope-2.ensures.numbers c.in_ok-scope-2.ensures.count

pub returns : goal.returns
returns c =
    on_ok_weaker c.add_own_lines.result
    (finished c.loop-part.left.now (c.args.text.now.items ++ main_lines (plain_derivation c.args.found.now)) (length c.args.text.now.items)
    c.loop-part.text.items c.loop-part.scope.numbers.items c.loop-part.scope.count c.loop-part.invariant
    c.as_slice.result.now c.get-2.result.now c.add_own_lines.new.text.items c.as_slice-2.result.now (c.loop-part.scope.count + 1)
    c.get-2.ensures c.as_slice.ensures
    (without_first c.as_slice.result.now c.first.result _ c.in_default.not-Some c.first.ensures.item.3)
    c.as_slice-2.ensures.value (add-one c.loop-part.scope.count))
    c.add_own_lines.ensures
