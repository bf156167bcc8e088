use Rattle.std.proofs.lemmas.Result.{on_ok_weaker}
use Rattle.cyp_lex.specs.Spelling.{word}
use Rattle.cyp_lex.specs.declared.token.Word.TheVariants.{In}
use Rattle.cyp_writing.specs.PrintParts.{set_marks}
use Rattle.cyp_writing.proofs.PrintSteps.{between}
use Rattle.cyp_text.specs.Grammar.{int_spelling}
use Rattle.cyp_writing.specs.PrintedTrees.{term_tree}
use Rattle.cyp_writing.proofs.printer.Printer.member.Goals as goal

pub returns : goal.returns
returns c =
    on_ok_weaker c.set.result
    (λ e. between (int_spelling (term_tree c.args.elem.now)) (set_marks c.args.set.now) (word In) c.args.self.now c.term.new.self c.word.new.self c.set.new.self c.in_ok-term.ensures c.in_ok-word.ensures e)
    c.set.ensures
