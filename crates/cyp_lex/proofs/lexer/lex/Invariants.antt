use Rattle.std.proofs.Common.{◌≡◌, ◌≤◌, ◌-◌, length, drop}
use Rattle.cyp_lex.specs.Lexing.{lexed, LieInOrder}
use Rattle.cyp_lex.proofs.Laws.{with_front}
use Rattle.cyp_lex.proofs.lexer.lex.Given as goal

abbrev pub invariant-loop-at : goal.invariant-loop-at
invariant-loop-at l = record { within : l.at ≤ length l.text; in_order : LieInOrder 0 l.out.items l.at; so_far : with_front l.out.items (lexed (record { signs = l.signs; greatest = l.greatest }) 0 l.at (drop l.at l.text)) ≡ lexed (record { signs = l.signs; greatest = l.greatest }) 0 0 l.text }

abbrev pub decreases-loop-at : goal.decreases-loop-at
decreases-loop-at l = length l.text - l.at
