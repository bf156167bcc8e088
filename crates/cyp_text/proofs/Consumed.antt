-- What is read takes a lexeme at least.
use Rattle.std.proofs.Common.{Err, List, Ok, Result, [], ap, arith, length, length-append, subst, suc, ℕ, ◌++◌, ◌<◌, ◌∷◌, ◌≡◌}
use Rattle.std.specs.Prelude.{Bool}
use Rattle.cyp_lex.specs.Lexemes.{Lexeme, Said}
use Rattle.cyp_lex.specs.Readers.{Read}
use Rattle.cyp_lex.specs.Spelling.{IsEnd, Mark, Match}
use Rattle.cyp_lex.proofs.Readings.{Reads, Sound, Took}
use Rattle.cyp_text.specs.ListReaders.{Consumes, IsShorter}
use Rattle.cyp_text.specs.Parsing.{Gives}
use Rattle.cyp_lex.specs.declared.want.Want.{Want}
use Rattle.cyp_term.specs.declared.fail.Fail.{Fail}

pub consumes : {A : Type 0} {sp : A → List Mark} {s f : Said → Bool} {p : List Lexeme → Read A} → ((n : ℕ) → Reads n A sp s f p) → Consumes p
consumes {A} {sp} {s} {f} {p} P ts x rest e = by_front took.front took.parts took.matched
  where
    took : Took A sp f ts x rest
    took = subst (λ (r : Read A). Sound A sp s f ts r) e ((P (suc (length ts))).sound ts (omega arith))

    by_front : (front : List Lexeme) → ts ≡ front ++ rest → Match (sp x) front → length rest < length ts
    by_front [] e m = absurd ((P 0).full x IsEnd m)
    by_front (t ∷ front) e m = omega (arith, ap length e, length-append (t ∷ front) rest)

-- so is what the code reads
pub shorter : {A : Type 0} (p : List Lexeme → Read A) → Consumes p → (ls : List Lexeme) (r : Result A (Fail Want)) (rest : List Lexeme) → Gives p ls r rest → IsShorter r ls rest
shorter p c ls (Ok x) rest g = c ls x rest g
shorter p c ls (Err e) rest g = tt
