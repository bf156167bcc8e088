-- Readers that give the same are right together.
use Rattle.std.proofs.Common.{Bool, List, refl, subst, ◌≡◌, ◌∷◌, [], ℕ}
use Rattle.cyp_lex.specs.Lexemes.{Lexeme, Said}
use Rattle.cyp_lex.specs.Readers.{Read, is_sign, is_word, sign_token, word_token}
use Rattle.cyp_lex.specs.Spelling.{Mark}
use Rattle.cyp_lex.specs.declared.want.Want.TheVariants.{NoName}
use Rattle.cyp_lex.proofs.Readings.{Reads, Sound}
use Rattle.cyp_lex.specs.declared.token.Sign.{Sign}
use Rattle.cyp_lex.specs.declared.token.Word.{Word}
use Rattle.cyp_text.specs.ListReaders.{Refuses}

pub same_reads : {A : Type 0} {sp : A → List Mark} {s f : Said → Bool} {p q : List Lexeme → Read A} {n : ℕ} → ((ts : List Lexeme) → p ts ≡ q ts) → Reads n A sp s f p → Reads n A sp s f q
same_reads {A} {sp} {s} {f} {p} {q} e P = record {
  sound = λ ts short. subst (λ (r : Read A). Sound A sp s f ts r) (e ts) (P.sound ts short);
  first = P.first;
  full = P.full;
  some = P.some;
  shown = P.shown;
  is_some = P.is_some;
}

pub sign_refuses : (s : Sign) → Refuses NoName (is_sign s) (sign_token s)
sign_refuses s [] e = refl
sign_refuses s (t ∷ ts) e = rw e refl

pub word_refuses : (w : Word) → Refuses NoName (is_word w) (word_token w)
word_refuses w [] e = refl
word_refuses w (t ∷ ts) e = rw e refl
