-- How reserved words and symbols are written.
use Rattle.std.specs.Prelude.{ℕ, List, codes}
use Rattle.cyp_lex.specs.declared.token.Word.{Word}
use Rattle.cyp_lex.specs.declared.token.Word.TheVariants.{Predicate, Void, Loc, Int, Set, Emp, True, Not, In, If, Else, Let, Malloc, Free, Error}
use Rattle.cyp_lex.specs.declared.token.Sign.{Sign}
use Rattle.cyp_lex.specs.declared.token.Sign.TheVariants.{PointsTo, Subset, TwoStars, TwoPluses, Implies, Equal, Unequal, AtMost, AtLeast, SlashAnd, AndAnd, Same, Less, Greater, LeftParen, RightParen, LeftBrace, RightBrace, LeftBracket, RightBracket, Comma, Semicolon, Bar, Plus, Minus, Star, Assign}

-- the bytes that write a reserved word
abbrev pub word_text : Word → List ℕ
word_text Predicate = codes "predicate"
word_text Void = codes "void"
word_text Loc = codes "loc"
word_text Int = codes "int"
word_text Set = codes "set"
word_text Emp = codes "emp"
word_text True = codes "true"
word_text Not = codes "not"
word_text In = codes "in"
word_text If = codes "if"
word_text Else = codes "else"
word_text Let = codes "let"
word_text Malloc = codes "malloc"
word_text Free = codes "free"
word_text Error = codes "error"

-- the bytes that write a symbol
abbrev pub sign_text : Sign → List ℕ
sign_text PointsTo = codes ":->"
sign_text Subset = codes "<=i"
sign_text TwoStars = codes "**"
sign_text TwoPluses = codes "++"
sign_text Implies = codes "=>"
sign_text Equal = codes "=="
sign_text Unequal = codes "!="
sign_text AtMost = codes "<="
sign_text AtLeast = codes ">="
sign_text SlashAnd = codes "/\\"
sign_text AndAnd = codes "&&"
sign_text Same = codes "=i"
sign_text Less = codes "<"
sign_text Greater = codes ">"
sign_text LeftParen = codes "("
sign_text RightParen = codes ")"
sign_text LeftBrace = codes "{"
sign_text RightBrace = codes "}"
sign_text LeftBracket = codes "["
sign_text RightBracket = codes "]"
sign_text Comma = codes ","
sign_text Semicolon = codes ";"
sign_text Bar = codes "|"
sign_text Plus = codes "+"
sign_text Minus = codes "-"
sign_text Star = codes "*"
sign_text Assign = codes "="
