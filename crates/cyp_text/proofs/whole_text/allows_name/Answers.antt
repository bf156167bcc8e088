use Rattle.std.proofs.Common.{map}
use Rattle.cyp_lex.specs.Lexemes.{lexeme_of}
use Rattle.cyp_text.proofs.KindsRead.{name_allowed, name_refused}
use Rattle.cyp_text.proofs.StopFaults.{ended, name_told, named_stop}
use Rattle.cyp_text.proofs.whole_text.allows_name.Goals as goal

pub returns-in-Ok : goal.returns-in-Ok
returns-in-Ok c = ended (map (lexeme_of c.args.text.now) c.args.front.now) c.in-Ok._tree c.in-Ok.ensures

pub returns-in-AName : goal.returns-in-AName
returns-in-AName c =
    let ls = map (lexeme_of c.args.text.now) c.args.front.now in
    name_allowed c.in-Err-Named.stopped.want ls c.in-AName.is (name_told ls c.in-Err-Named.stopped c.requires.begins (named_stop ls c.in-Err-Named.field-0 c.in-Err-Named.stopped c.in-Err-Named.field-0-is c.in-Err-Named.ensures))

pub returns-in-NoName : goal.returns-in-NoName
returns-in-NoName c =
    let ls = map (lexeme_of c.args.text.now) c.args.front.now in
    name_refused c.in-Err-Named.stopped.want ls c.in-NoName.is (name_told ls c.in-Err-Named.stopped c.requires.begins (named_stop ls c.in-Err-Named.field-0 c.in-Err-Named.stopped c.in-Err-Named.field-0-is c.in-Err-Named.ensures))
