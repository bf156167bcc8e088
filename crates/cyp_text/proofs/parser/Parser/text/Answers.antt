use Rattle.std.proofs.Common.{Err, refl, rules, ◌≡◌}
use Rattle.cyp_text.specs.TextReaders.{braced_at, text_at}
use Rattle.cyp_text.proofs.PartsRead.{stops_with}
use Rattle.cyp_text.proofs.parser.Parser.text.Goals as goal

pub returns-in_err-post : goal.returns-in_err-post
returns-in_err-post c =
    let is : c.from_residual-in_err-post.result ≡ Err c.in_err-post.field-0.0 = search rules in
    stops_with text_at braced_at c.args.self.now c.braced.new.self c.braced-2.new.self c.in_err-post.field-0.0 c.from_residual-in_err-post.result is c.in_err-post.ensures
    (λ s e. rw (c.in_ok-preds.ensures, c.in_ok-word.ensures, c.in_ok-name.ensures, c.in_ok-params.ensures, c.in_ok-pre.ensures, e) refl)

pub returns : goal.returns
returns c = rw (c.in_ok-preds.ensures, c.in_ok-word.ensures, c.in_ok-name.ensures, c.in_ok-params.ensures, c.in_ok-pre.ensures, c.in_ok-post.ensures) refl
