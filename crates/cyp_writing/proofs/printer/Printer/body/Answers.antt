use Rattle.std.proofs.Common.{map, ◌++◌}
use Rattle.std.proofs.lemmas.Result.{on_ok_weaker}
use Rattle.cyp_lex.specs.Spelling.{sign}
use Rattle.cyp_lex.specs.declared.token.Sign.TheVariants.{LeftBrace, RightBrace}
use Rattle.cyp_writing.proofs.PrintSteps.{both, enclosed}
use Rattle.cyp_text.specs.Grammar.{heap_spelling, pure_spelling}
use Rattle.cyp_writing.specs.PrintedTrees.{chunk_tree, pure_tree}
use Rattle.cyp_writing.proofs.printer.Printer.body.Goals as goal

pub returns : goal.returns
returns c =
    let pure = pure_spelling (pure_tree c.args.lits.now) in
    let heap = heap_spelling (map (chunk_tree c.args.preds.now) c.args.chunks.now) in
    on_ok_weaker c.sign-2.result
    (λ e. enclosed (sign LeftBrace) (sign RightBrace) (pure ++ heap) c.args.self.now c.sign.new.self c.heap.new.self c.sign-2.new.self
    c.in_ok-sign.ensures (both pure heap c.sign.new.self c.pure.new.self c.heap.new.self c.in_ok-pure.ensures c.in_ok-heap.ensures) e)
    c.sign-2.ensures
