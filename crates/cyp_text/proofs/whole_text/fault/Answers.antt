use Rattle.std.proofs.Common.{arith, length, map, ◌≤◌}
use Rattle.cyp_text.proofs.FaultParts.{parts_begin, parts_name, token_fault, within_left}
use Rattle.cyp_lex.specs.Lexemes.{lexeme_of}
use Rattle.cyp_text.proofs.StopFaults.{end_fault}
use Rattle.cyp_text.proofs.whole_text.fault.Goals as goal

pub overflow_sub-at : goal.overflow_sub-at
overflow_sub-at c = within_left c.args.text.now c.args.tokens.now c.args.stopped c.requires.stops

pub refused_kind-requires-clause-begins : goal.refused_kind-requires-clause-begins
refused_kind-requires-clause-begins c = parts_begin c.args.text.now c.args.tokens.now c.args.stopped c.requires.stops

pub refused_kind-requires-clause-names : goal.refused_kind-requires-clause-names
refused_kind-requires-clause-names c = parts_name c.args.text.now c.args.tokens.now c.args.stopped c.requires.stops

pub returns-then-stopped-eq0 : goal.returns-then-stopped-eq0
returns-then-stopped-eq0 c =
    end_fault (length c.args.text.now) (map (lexeme_of c.args.text.now) c.args.tokens.now) c.args.stopped c.end_kind_of.result c.requires.stops c.if-stopped-eq0.true (c.end_kind_of.ensures c.args.text.now)

pub returns : goal.returns
returns c =
    let within : c.args.stopped.left ≤ length c.args.tokens.now = within_left c.args.text.now c.args.tokens.now c.args.stopped c.requires.stops in
    token_fault (length c.args.text.now) c.args.text.now c.args.tokens.now c.args.stopped c.in_ok-kind.kind c.requires.stops (omega (arith, within, c.if-stopped-eq0.false)) c.in_ok-kind.ensures
