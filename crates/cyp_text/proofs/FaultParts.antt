-- The tokens before and behind the place where the reader stops.
use Rattle.std.proofs.Common.{List, ap, arith, drop, get_or, length, map, suc, take, ℕ, ◌++◌, ◌-◌, ◌<◌, ◌≤◌, ◌∙◌}
use Rattle.std.proofs.lemmas.List.{length-map}
use Rattle.cyp_lex.specs.Beginnings.{Begins}
use Rattle.cyp_lex.specs.Lexemes.{Lexeme, lexeme_of}
use Rattle.cyp_lex.specs.declared.fault.FaultKind.{FaultKind}
use Rattle.cyp_lex.specs.declared.token.Token.{Token}
use Rattle.cyp_text.specs.Grammar.{text_spelling}
use Rattle.cyp_text.specs.GrammarFaults.{GrammarFault, IsKind}
use Rattle.cyp_text.specs.Stopping.{StopsSo, TellsName}
use Rattle.cyp_text.specs.declared.whole_text.Stopped.{Stopped}
use Rattle.cyp_text.proofs.StopFaults.{begins_before, left_within, lexeme_fault, names_before}
use Rattle.cyp_text.proofs.TokensParted.{no_token, parted_lexemes, rest_length, rest_lexemes}

pub within_left : (text : List ℕ) (xs : List Token) (s : Stopped) → StopsSo (map (lexeme_of text) xs) s → s.left ≤ length xs
within_left text xs s e = omega (arith, left_within (map (lexeme_of text) xs) s e, length-map xs (lexeme_of text))

pub parts_begin : (text : List ℕ) (xs : List Token) (s : Stopped) → StopsSo (map (lexeme_of text) xs) s → Begins text_spelling (map (lexeme_of text) (take (length xs - s.left) xs))
parts_begin text xs s e =
    let at = length xs - s.left in
    begins_before (map (lexeme_of text) xs) (map (lexeme_of text) (take at xs)) (map (lexeme_of text) (drop at xs)) s e (parted_lexemes text xs at) (rest_length text xs s.left (within_left text xs s e))

pub parts_name : (text : List ℕ) (xs : List Token) (s : Stopped) → StopsSo (map (lexeme_of text) xs) s → TellsName s.want (map (lexeme_of text) (take (length xs - s.left) xs))
parts_name text xs s e =
    let at = length xs - s.left in
    names_before (map (lexeme_of text) xs) (map (lexeme_of text) (take at xs)) (map (lexeme_of text) (drop at xs)) s e (parted_lexemes text xs at) (rest_length text xs s.left (within_left text xs s e))

-- the fault of the token where the reader stops
pub token_fault : (size : ℕ) (text : List ℕ) (xs : List Token) (s : Stopped) (k : FaultKind) → StopsSo (map (lexeme_of text) xs) s → length xs - s.left < length xs
    → IsKind (map (lexeme_of text) (take (length xs - s.left) xs)) (lexeme_of text (get_or xs (length xs - s.left) no_token)).said k
    → GrammarFault size (map (lexeme_of text) xs) (record { kind = k; place = (get_or xs (length xs - s.left) no_token).start })
token_fault size text xs s k e l is =
    let at = length xs - s.left in
    let rest = rest_lexemes text xs at l in
    lexeme_fault size (map (lexeme_of text) xs) (map (lexeme_of text) (take at xs)) (map (lexeme_of text) (drop (suc at) xs)) (lexeme_of text (get_or xs at no_token)) s k e
    (parted_lexemes text xs at ∙ ap (λ (ls : List Lexeme). map (lexeme_of text) (take at xs) ++ ls) rest)
    (rest_length text xs s.left (within_left text xs s e) ∙ ap (λ (ls : List Lexeme). length ls) rest) is
