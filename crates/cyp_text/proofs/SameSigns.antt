-- The code's test of two symbols is that of the definitions.
use Rattle.std.proofs.Common.{◌≡◌, refl}
use denote.Enum.Bare.{sameb}
use Rattle.cyp_lex.specs.SignTests.{same_sign}
use Rattle.cyp_lex.specs.contracts.token.Sign.{the_type}
use Rattle.cyp_lex.specs.declared.token.Sign.{Sign}
use Rattle.cyp_lex.specs.declared.token.Sign.TheVariants.{AndAnd, Assign, AtLeast, AtMost, Bar, Comma, Equal, Greater, Implies, LeftBrace, LeftBracket, LeftParen, Less, Minus, Plus, PointsTo, RightBrace, RightBracket, RightParen, Same, Semicolon, SlashAnd, Star, Subset, TwoPluses, TwoStars, Unequal}

pub same_signs : (s t : Sign) → sameb the_type s t ≡ same_sign t s
same_signs PointsTo PointsTo = refl
same_signs Subset Subset = refl
same_signs TwoStars TwoStars = refl
same_signs TwoPluses TwoPluses = refl
same_signs Implies Implies = refl
same_signs Equal Equal = refl
same_signs Unequal Unequal = refl
same_signs AtMost AtMost = refl
same_signs AtLeast AtLeast = refl
same_signs SlashAnd SlashAnd = refl
same_signs AndAnd AndAnd = refl
same_signs Same Same = refl
same_signs Less Less = refl
same_signs Greater Greater = refl
same_signs LeftParen LeftParen = refl
same_signs RightParen RightParen = refl
same_signs LeftBrace LeftBrace = refl
same_signs RightBrace RightBrace = refl
same_signs LeftBracket LeftBracket = refl
same_signs RightBracket RightBracket = refl
same_signs Comma Comma = refl
same_signs Semicolon Semicolon = refl
same_signs Bar Bar = refl
same_signs Plus Plus = refl
same_signs Minus Minus = refl
same_signs Star Star = refl
same_signs Assign Assign = refl
same_signs s t = refl
