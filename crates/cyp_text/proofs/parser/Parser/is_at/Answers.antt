use Rattle.std.proofs.Common.{◌≡◌, List, Some, sym, ◌∙◌, ap, [], ◌∷◌, subst}
use Rattle.cyp_lex.specs.Lexemes.{Lexeme}
use Rattle.cyp_lex.specs.Readers.{heads, is_sign}
use Rattle.cyp_lex.specs.SignTests.{same_sign}
use Rattle.cyp_lex.specs.declared.token.Sign.{Sign}
use Rattle.cyp_lex.specs.declared.token.TokenKind.{TokenKind}
use Rattle.cyp_lex.specs.declared.token.TokenKind.TheVariants as kinds
use Rattle.cyp_text.specs.Parsing.{IsOfKind}
use Rattle.cyp_text.proofs.SameSigns.{same_signs}
use Rattle.cyp_text.proofs.parser.Parser.is_at.Goals as goal

head_sign : (ls : List Lexeme) (s t : Sign) → IsOfKind (Some (kinds.Sign s)) ls → heads (is_sign t) ls ≡ same_sign t s
head_sign [] s t k = absurd k
head_sign (l ∷ ls) s t k = ap (is_sign t) k.1

head_kind : (ls : List Lexeme) (f : TokenKind) (s t : Sign) → f ≡ kinds.Sign s → IsOfKind (Some f) ls → heads (is_sign t) ls ≡ same_sign t s
head_kind ls f s t e k = head_sign ls s t (subst (λ (g : TokenKind). IsOfKind (Some g) ls) e k)

pub returns-in-Some-Sign : goal.returns-in-Some-Sign
returns-in-Some-Sign c =
    c.eq.ensures ∙ same_signs c.in-Some-Sign.sign c.args.wanted
    ∙ sym (head_kind c.args.self.now c.in-Some-Sign.field-0 c.in-Some-Sign.sign c.args.wanted c.in-Some-Sign.field-0-is c.in-Some-Sign.ensures)
