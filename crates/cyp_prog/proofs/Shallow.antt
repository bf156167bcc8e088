-- Lexemes with few braces are shallow.
use Rattle.std.proofs.Common.{◌≡◌, ◌∙◌, ◌+◌, ◌≤◌, Bool, List, ◌∷◌, ap, arith, cond}
use Rattle.std.specs.List.{count_by}
use Rattle.std.proofs.lemmas.List.Sums.{sum_by-append}
use Rattle.cyp_lex.specs.Lexemes.{Lexeme}
use Rattle.cyp_prog.specs.Nesting.{IsShallow, is_opening}

pub few_braces : (ls : List Lexeme) → count_by (λ (l : Lexeme). is_opening l.said) ls ≤ 128 → IsShallow ls
few_braces ls few before after l e deep =
    let opening : Lexeme → Bool = λ (k : Lexeme). is_opening k.said in
    let split : count_by opening ls ≡ count_by opening before + count_by opening (l ∷ after) = ap (λ (xs : List Lexeme). count_by opening xs) e ∙ sum_by-append (λ (k : Lexeme). cond (opening k) 1 0) before (l ∷ after) in
    omega (arith, deep.1)
