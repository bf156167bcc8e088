use Rattle.std.proofs.Common.{map}
use Rattle.cyp_lex.specs.Lexemes.{lexeme_of}
use Rattle.cyp_text.specs.GrammarFaults.{spoiled}
use Rattle.cyp_text.proofs.KindsRead.{name_allowed, name_refused, other_expected, told_false, told_true, word_expected, word_reserved}
use Rattle.cyp_text.proofs.whole_text.refused_kind.Goals as goal

pub returns-then-branch : goal.returns-then-branch
returns-then-branch c = spoiled (told_true c.in_ok-spoils_sum.field-0 _ c.if-branch.true c.in_ok-spoils_sum.ensures)

pub returns-in-AName : goal.returns-in-AName
returns-in-AName c =
    let before = map (lexeme_of c.args.text.now) c.args.before.now in
    word_reserved c.args.text.now before c.args.next c.in-Word.field-0 c.in-Word.is (name_allowed c.args.want before c.in-AName.is c.requires.names)

pub returns-in-NoName : goal.returns-in-NoName
returns-in-NoName c =
    let before = map (lexeme_of c.args.text.now) c.args.before.now in
    word_expected c.args.text.now before c.args.next c.in-Word.field-0 c.in-Word.is (name_refused c.args.want before c.in-NoName.is c.requires.names)
    (told_false c.in_ok-spoils_sum.field-0 _ c.if-branch.false c.in_ok-spoils_sum.ensures)

pub returns-in_default : goal.returns-in_default
returns-in_default c =
    let before = map (lexeme_of c.args.text.now) c.args.before.now in
    other_expected c.args.text.now before c.args.next c.in_default.not-Word (told_false c.in_ok-spoils_sum.field-0 _ c.if-branch.false c.in_ok-spoils_sum.ensures)
