use Rattle.std.proofs.Common.{arith, rules, ◌≡◌, ◌-◌, length, sym, ap, ◌∙◌}
use Rattle.cyp_lex.specs.Spelled.{sign_text}
use Rattle.cyp_lex.specs.declared.token.TokenKind.TheVariants as kinds
use Rattle.cyp_lex.specs.declared.lexer.Piece.TheVariants.{Begun}
use Rattle.cyp_lex.specs.Lexing.{Lexicon}
use Rattle.cyp_lex.proofs.Laws.{number_begins, sign_begins}
use Rattle.cyp_lex.proofs.lexer.first_piece.Goals as goal

pub returns-in-Some-find_sign-clause-value : goal.returns-in-Some-find_sign-clause-value
returns-in-Some-find_sign-clause-value c =
    let s = c.in-Some-find_sign.sign in
    let x : Lexicon = record { signs = c.args.signs.now; greatest = c.args.greatest } in
    let more : c.saturating_sub.result ≡ length (sign_text s) - 1 = omega (arith, ap length c.bytes.ensures) in
    ap (λ n. Begun (kinds.Sign s) n) more ∙ sym (sign_begins x c.args.first c.args.after.now c.args.text.now s c.requires.text (sym c.if-is_blank_byte.ensures) (search rules) (sym c.if-is_start_byte.ensures) (sym c.if-is_digit_byte.ensures) (sym c.in-Some-find_sign.ensures.value))

pub returns-in-Some-clause-value : goal.returns-in-Some-clause-value
returns-in-Some-clause-value c =
    let x : Lexicon = record { signs = c.args.signs.now; greatest = c.args.greatest } in
    sym (number_begins x c.args.first c.args.after.now c.args.text.now c.in-Some.n c.digits_len-more.result c.requires.text c.digits_len-more.ensures.value (sym c.if-is_blank_byte.ensures) (search rules) (sym c.if-is_start_byte.ensures) (sym c.if-is_digit_byte.ensures) (sym c.in-Some.ensures))
