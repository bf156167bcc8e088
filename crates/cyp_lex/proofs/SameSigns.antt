-- Symbols and reserved words that are found the same are equal.
use Rattle.std.proofs.Common.{refl, true, ◌≡◌}
use Rattle.cyp_lex.specs.declared.token.Sign.{Sign}
use Rattle.cyp_lex.specs.declared.token.Sign.TheVariants.{AndAnd, Assign, AtLeast, AtMost, Bar, Comma, Equal, Greater, Implies, LeftBrace, LeftBracket, LeftParen, Less, Minus, Plus, PointsTo, RightBrace, RightBracket, RightParen, Same, Semicolon, SlashAnd, Star, Subset, TwoPluses, TwoStars, Unequal}
use Rattle.cyp_lex.specs.declared.token.Word.{Word}
use Rattle.cyp_lex.specs.declared.token.Word.TheVariants.{Else, Emp, Error, Free, If, In, Int, Let, Loc, Malloc, Not, Predicate, Set, True, Void}
use Rattle.cyp_lex.specs.SignTests.{same_sign, same_word}

pub sign_is : (s t : Sign) → same_sign s t ≡ true → s ≡ t
sign_is PointsTo PointsTo e = refl
sign_is Subset Subset e = refl
sign_is TwoStars TwoStars e = refl
sign_is TwoPluses TwoPluses e = refl
sign_is Implies Implies e = refl
sign_is Equal Equal e = refl
sign_is Unequal Unequal e = refl
sign_is AtMost AtMost e = refl
sign_is AtLeast AtLeast e = refl
sign_is SlashAnd SlashAnd e = refl
sign_is AndAnd AndAnd e = refl
sign_is Same Same e = refl
sign_is Less Less e = refl
sign_is Greater Greater e = refl
sign_is LeftParen LeftParen e = refl
sign_is RightParen RightParen e = refl
sign_is LeftBrace LeftBrace e = refl
sign_is RightBrace RightBrace e = refl
sign_is LeftBracket LeftBracket e = refl
sign_is RightBracket RightBracket e = refl
sign_is Comma Comma e = refl
sign_is Semicolon Semicolon e = refl
sign_is Bar Bar e = refl
sign_is Plus Plus e = refl
sign_is Minus Minus e = refl
sign_is Star Star e = refl
sign_is Assign Assign e = refl
sign_is s t e = absurd cc

pub sign_self : (s : Sign) → same_sign s s ≡ true
sign_self PointsTo = refl
sign_self Subset = refl
sign_self TwoStars = refl
sign_self TwoPluses = refl
sign_self Implies = refl
sign_self Equal = refl
sign_self Unequal = refl
sign_self AtMost = refl
sign_self AtLeast = refl
sign_self SlashAnd = refl
sign_self AndAnd = refl
sign_self Same = refl
sign_self Less = refl
sign_self Greater = refl
sign_self LeftParen = refl
sign_self RightParen = refl
sign_self LeftBrace = refl
sign_self RightBrace = refl
sign_self LeftBracket = refl
sign_self RightBracket = refl
sign_self Comma = refl
sign_self Semicolon = refl
sign_self Bar = refl
sign_self Plus = refl
sign_self Minus = refl
sign_self Star = refl
sign_self Assign = refl

pub word_is : (w v : Word) → same_word w v ≡ true → w ≡ v
word_is Predicate Predicate e = refl
word_is Void Void e = refl
word_is Loc Loc e = refl
word_is Int Int e = refl
word_is Set Set e = refl
word_is Emp Emp e = refl
word_is True True e = refl
word_is Not Not e = refl
word_is In In e = refl
word_is If If e = refl
word_is Else Else e = refl
word_is Let Let e = refl
word_is Malloc Malloc e = refl
word_is Free Free e = refl
word_is Error Error e = refl
word_is w v e = absurd cc

pub word_self : (w : Word) → same_word w w ≡ true
word_self Predicate = refl
word_self Void = refl
word_self Loc = refl
word_self Int = refl
word_self Set = refl
word_self Emp = refl
word_self True = refl
word_self Not = refl
word_self In = refl
word_self If = refl
word_self Else = refl
word_self Let = refl
word_self Malloc = refl
word_self Free = refl
word_self Error = refl
