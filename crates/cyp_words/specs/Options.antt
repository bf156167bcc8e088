-- The options of a command, as they are written.
use Rattle.std.specs.Prelude.{Bool, List, None, Option, Some, [], codes, cond, drop, false, length, nat_le, true, ◌&&◌, ◌++◌, ◌∷◌, ℕ}
use Rattle.std.specs.List.{list_all}
use Rattle.std.specs.Str.{bytes_eq}
use Rattle.cyp_lex.specs.Lexing.{begins_with, decimal_value, is_digit}
use Rattle.cyp_words.specs.declared.choice.Choice.{Choice}
use Rattle.cyp_words.specs.declared.choice.Choice.TheVariants.{Budget, Fuel, Stats, Unfold, Workers}

-- a word of the command line, as its bytes
abbrev pub Text : Type 0
Text = List ℕ

-- the name of an option
abbrev pub choice_name : Choice → Text
choice_name Budget = codes "budget"
choice_name Unfold = codes "unfold"
choice_name Workers = codes "workers"
choice_name Fuel = codes "fuel"
choice_name Stats = codes "stats"

-- the word of an option: `--` and its name
abbrev pub choice_word : Choice → Text
choice_word c = 45 ∷ 45 ∷ choice_name c

-- the option has no number
abbrev pub is_flag : Choice → Bool
is_flag Stats = true
is_flag c = false

-- one option is the other
abbrev pub choice_eq : Choice → Choice → Bool
choice_eq Budget Budget = true
choice_eq Unfold Unfold = true
choice_eq Workers Workers = true
choice_eq Fuel Fuel = true
choice_eq Stats Stats = true
choice_eq a b = false

-- one to seven digits, leading zeros among them
abbrev pub is_number : Text → Bool
is_number text = nat_le 1 (length text) && nat_le (length text) 7 && list_all is_digit text

-- the number that the digits write, where it is in these bounds
abbrev pub number_within : ℕ → ℕ → Text → Option ℕ
number_within least most text =
    cond (is_number text && nat_le least (decimal_value 0 text) && nat_le (decimal_value 0 text) most) (Some (decimal_value 0 text)) None

-- the number of an option, where it is in the option's bounds
abbrev pub choice_number : Choice → Text → Option ℕ
choice_number Budget text = number_within 1 100000 text
choice_number Unfold text = number_within 0 3 text
choice_number Workers text = number_within 1 32 text
choice_number Fuel text = number_within 1 1000000 text
choice_number Stats text = None

-- an option as it is written, with the text of its number; a flag has none
pub record Written : Type 0 where
  pub choice : Choice
  pub text : Text

-- what a word is: an option that takes the next word, a whole option, or nothing that is known
pub data Meaning : Type 0 where
  Takes : Choice → Meaning
  Whole : Written → Meaning
  Unknown : Meaning

-- the option's word and `=`
abbrev pub with_equals : Choice → Text
with_equals c = choice_word c ++ 61 ∷ []

-- the option's word by itself: a flag is whole, another option takes the next word
abbrev pub alone : Choice → Meaning
alone c = cond (is_flag c) (Whole (record { choice = c; text = [] })) (Takes c)

-- the option's word with a text behind `=`, which a flag can't have
abbrev pub with_text : Choice → Text → Meaning
with_text c text = cond (is_flag c) Unknown (Whole (record { choice = c; text = text }))

-- what the word is among these options
abbrev pub meaning : List Choice → Text → Meaning
meaning [] w = Unknown
meaning (c ∷ cs) w =
    cond (bytes_eq w (choice_word c)) (alone c)
    (cond (begins_with w (with_equals c)) (with_text c (drop (length (with_equals c)) w))
    (meaning cs w))

-- the option before those that were read after it
abbrev pub with_option : Written → Option (List Written) → Option (List Written)
with_option o None = None
with_option o (Some os) = Some (o ∷ os)

-- the options that the words write, with a word that still waits for its number, or nothing where a word is unknown or waits for ever
abbrev pub written : List Choice → Option Choice → List Text → Option (List Written)
written cs None [] = Some []
written cs (Some c) [] = None
written cs (Some c) (w ∷ ws) = with_option (record { choice = c; text = w }) (written cs None ws)
written cs None (w ∷ ws) = elim (meaning cs w) [
  | Takes c ↦ written cs (Some c) ws
  | Whole o ↦ with_option o (written cs None ws)
  | Unknown ↦ None
]
