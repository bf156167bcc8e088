-- Worked rows.
use Rattle.std.proofs.Common.{◌≡◌, [], ◌∷◌, Ok, Err, refl}
use Rattle.std.specs.Prelude.{codes}
use Rattle.cyp_lex.specs.declared.token.Sign.TheVariants.{Plus, Minus, Star, TwoStars, Assign, Same, Semicolon, Subset, AtMost}
use Rattle.cyp_lex.specs.declared.token.Word.TheVariants.{In}
use Rattle.cyp_lex.specs.declared.token.TokenKind.TheVariants as kinds
use Rattle.cyp_lex.specs.declared.fault.FaultKind.TheVariants.{BadByte, NumberRange}
use Rattle.cyp_lex.specs.Lexing.{tokens_of, program_tokens_of, lexed, piece_at, sign_at, stands, name_kind}

row_sum : tokens_of (codes "in1 in+ 7//x") ≡ Ok (record { kind = kinds.Name; start = 0; end = 3 } ∷ record { kind = kinds.Word In; start = 4; end = 6 } ∷ record { kind = kinds.Sign Plus; start = 6; end = 7 } ∷ record { kind = kinds.Number 7; start = 8; end = 9 } ∷ [])
unfolding lexed piece_at sign_at stands name_kind
row_sum = refl

row_letter : tokens_of (codes "<=i <=ix") ≡ Ok (record { kind = kinds.Sign Subset; start = 0; end = 3 } ∷ record { kind = kinds.Sign AtMost; start = 4; end = 6 } ∷ record { kind = kinds.Name; start = 6; end = 8 } ∷ [])
unfolding lexed piece_at sign_at stands name_kind
row_letter = refl

row_bad : tokens_of (codes "x =ix") ≡ Err (record { kind = BadByte; place = 2 })
unfolding lexed piece_at sign_at stands name_kind
row_bad = refl

row_range : tokens_of (codes "2147483648 2147483649 ?") ≡ Err (record { kind = NumberRange; place = 11 })
unfolding lexed piece_at sign_at stands name_kind
row_range = refl

row_stars : program_tokens_of (codes "***v1 = -5;") ≡ Ok (record { kind = kinds.Sign TwoStars; start = 0; end = 2 } ∷ record { kind = kinds.Sign Star; start = 2; end = 3 } ∷ record { kind = kinds.Name; start = 3; end = 5 } ∷ record { kind = kinds.Sign Assign; start = 6; end = 7 } ∷ record { kind = kinds.Sign Minus; start = 8; end = 9 } ∷ record { kind = kinds.Number 5; start = 9; end = 10 } ∷ record { kind = kinds.Sign Semicolon; start = 10; end = 11 } ∷ [])
unfolding lexed piece_at sign_at stands name_kind
row_stars = refl

row_assign : program_tokens_of (codes "=i =i2") ≡ Ok (record { kind = kinds.Sign Same; start = 0; end = 2 } ∷ record { kind = kinds.Sign Assign; start = 3; end = 4 } ∷ record { kind = kinds.Name; start = 4; end = 6 } ∷ [])
unfolding lexed piece_at sign_at stands name_kind
row_assign = refl

row_great : program_tokens_of (codes "4294967296 4294967297") ≡ Err (record { kind = NumberRange; place = 11 })
unfolding lexed piece_at sign_at stands name_kind
row_great = refl

row_specification : tokens_of (codes "x * y") ≡ Err (record { kind = BadByte; place = 2 })
unfolding lexed piece_at sign_at stands name_kind
row_specification = refl
