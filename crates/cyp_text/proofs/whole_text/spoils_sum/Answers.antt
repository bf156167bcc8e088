use Rattle.std.proofs.Common.{map, sym, ◌∙◌}
use Rattle.cyp_lex.specs.Lexemes.{lexeme_of}
use Rattle.cyp_text.proofs.KindsRead.{minus_is, minus_not, minus_result, other_spoils, spoils_at_once}
use Rattle.cyp_text.proofs.whole_text.spoils_sum.Goals as goal

pub returns-then-spoils_last : goal.returns-then-spoils_last
returns-then-spoils_last c =
    spoils_at_once (map (lexeme_of c.args.text.now) c.args.before.now) (lexeme_of c.args.text.now c.args.next).said (sym (c.spoils_last.ensures c.args.text.now _) ∙ c.if-spoils_last.true)

pub returns-then-is_minus : goal.returns-then-is_minus
returns-then-is_minus c =
    minus_result (map (lexeme_of c.args.text.now) c.args.before.now) (lexeme_of c.args.text.now c.args.next).said (sym (c.spoils_last.ensures c.args.text.now _) ∙ c.if-spoils_last.false)
    (minus_is (lexeme_of c.args.text.now c.args.next).said (sym (c.is_minus.ensures _) ∙ c.if-is_minus.true)) c.ends_in_first_number.result c.ends_in_first_number.ensures

pub returns : goal.returns
returns c =
    other_spoils (map (lexeme_of c.args.text.now) c.args.before.now) (lexeme_of c.args.text.now c.args.next).said (sym (c.spoils_last.ensures c.args.text.now _) ∙ c.if-spoils_last.false)
    (minus_not (lexeme_of c.args.text.now c.args.next).said (sym (c.is_minus.ensures _) ∙ c.if-is_minus.false))
