use Rattle.std.proofs.Common.{◌++◌, ◌∷◌}
use Rattle.std.proofs.lemmas.Result.{on_ok_weaker}
use Rattle.cyp_lex.specs.Spelling.{word}
use Rattle.cyp_lex.specs.declared.token.Word.TheVariants.{In}
use Rattle.cyp_writing.specs.PrintParts.{set_marks}
use Rattle.cyp_writing.proofs.PrintUnits.{negated}
use Rattle.cyp_text.specs.Grammar.{int_spelling}
use Rattle.cyp_writing.specs.PrintedTrees.{term_tree}
use Rattle.cyp_writing.proofs.printer.Printer.not_member.Goals as goal

pub returns : goal.returns
returns c =
    on_ok_weaker c.sign.result
    (λ e. negated (int_spelling (term_tree c.args.elem.now) ++ (word In ∷ set_marks c.args.set.now)) c.args.self.now c.open_negation.new.self c.member.new.self c.sign.new.self
    c.in_ok-open_negation.ensures c.in_ok-member.ensures e)
    c.sign.ensures
