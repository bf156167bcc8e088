use Rattle.std.proofs.Common.{length, map}
use Rattle.cyp_lex.specs.Lexemes.{lexeme_of}
use Rattle.cyp_lex.proofs.InOrder.{LieInOrder-within}
use Rattle.cyp_text.proofs.StopFaults.{whole_is_spelled}
use Rattle.cyp_text.proofs.whole_text.parse.Goals as goal

pub whole-requires : goal.whole-requires
whole-requires c = LieInOrder-within 0 c.args.tokens.now (length c.args.text.now) c.requires.in_order

pub fault-requires-clause-within : goal.fault-requires-clause-within
fault-requires-clause-within c = LieInOrder-within 0 c.args.tokens.now (length c.args.text.now) c.requires.in_order

pub returns-in-Ok : goal.returns-in-Ok
returns-in-Ok c = whole_is_spelled (map (lexeme_of c.args.text.now) c.args.tokens.now) c.in-Ok.tree c.in-Ok.ensures
