-- Which symbols, and which reserved words, are the same.
use Rattle.std.specs.Prelude.{Bool, false, true}
use Rattle.cyp_lex.specs.declared.token.Sign.{Sign}
use Rattle.cyp_lex.specs.declared.token.Sign.TheVariants.{AndAnd, Assign, AtLeast, AtMost, Bar, Comma, Equal, Greater, Implies, LeftBrace, LeftBracket, LeftParen, Less, Minus, Plus, PointsTo, RightBrace, RightBracket, RightParen, Same, Semicolon, SlashAnd, Star, Subset, TwoPluses, TwoStars, Unequal}
use Rattle.cyp_lex.specs.declared.token.Word.{Word}
use Rattle.cyp_lex.specs.declared.token.Word.TheVariants.{Else, Emp, Error, Free, If, In, Int, Let, Loc, Malloc, Not, Predicate, Set, True, Void}

-- both are one symbol
abbrev pub same_sign : Sign → Sign → Bool
same_sign PointsTo PointsTo = true
same_sign Subset Subset = true
same_sign TwoStars TwoStars = true
same_sign TwoPluses TwoPluses = true
same_sign Implies Implies = true
same_sign Equal Equal = true
same_sign Unequal Unequal = true
same_sign AtMost AtMost = true
same_sign AtLeast AtLeast = true
same_sign SlashAnd SlashAnd = true
same_sign AndAnd AndAnd = true
same_sign Same Same = true
same_sign Less Less = true
same_sign Greater Greater = true
same_sign LeftParen LeftParen = true
same_sign RightParen RightParen = true
same_sign LeftBrace LeftBrace = true
same_sign RightBrace RightBrace = true
same_sign LeftBracket LeftBracket = true
same_sign RightBracket RightBracket = true
same_sign Comma Comma = true
same_sign Semicolon Semicolon = true
same_sign Bar Bar = true
same_sign Plus Plus = true
same_sign Minus Minus = true
same_sign Star Star = true
same_sign Assign Assign = true
same_sign s t = false

-- both are one reserved word
abbrev pub same_word : Word → Word → Bool
same_word Predicate Predicate = true
same_word Void Void = true
same_word Loc Loc = true
same_word Int Int = true
same_word Set Set = true
same_word Emp Emp = true
same_word True True = true
same_word Not Not = true
same_word In In = true
same_word If If = true
same_word Else Else = true
same_word Let Let = true
same_word Malloc Malloc = true
same_word Free Free = true
same_word Error Error = true
same_word w v = false
