-- Readers on lists of lexemes: the value and the lexemes after it, or the place where the reader stops.
use Rattle.std.specs.Prelude.{not, ◌||◌, Bool, Err, List, None, Ok, Option, Result, Some, [], cond, false, length, suc, true, zero, ◌∷◌, ◌≡◌, ◌⊎◌, ℕ}
use Rattle.std.proofs.Common.{inl, inr}
use Rattle.cyp_lex.specs.declared.token.Sign.{Sign}
use Rattle.cyp_lex.specs.declared.token.Sign.TheVariants.{Comma}
use Rattle.cyp_lex.specs.declared.token.Word.{Word}
use Rattle.cyp_lex.specs.declared.want.Want.{Want}
use Rattle.cyp_lex.specs.declared.want.Want.TheVariants.{AName, NoName}
use Rattle.cyp_lex.specs.Lexemes.{Lexeme, Name, Number, Reserved, Said, Symbol}
use Rattle.cyp_lex.specs.SignTests.{same_sign, same_word}
use Rattle.cyp_lex.specs.declared.ident.Ident.{Ident}

-- a reader stopped before so many lexemes that are left
pub record Stop : Type 0 where
  pub want : Want
  pub left : ℕ

-- the lexeme is a name
abbrev pub IsNamed : Lexeme → Type 0
IsNamed l = (text : List ℕ) × (l.said ≡ Name text)

-- the value and the lexemes after it, or where the reader stops
abbrev pub Read : Type 0 → Type 0
Read A = Result (A × List Lexeme) Stop

-- goes on with what was read, and stops where the reading stopped
infixl 10 ◌>>=◌
abbrev pub ◌>>=◌ : {A B : Type 0} → Result A Stop → (A → Result B Stop) → Result B Stop
(Ok x) >>= f = f x
(Err e) >>= f = Err e

-- stops before these lexemes
abbrev pub stop : {A : Type 0} → Want → List Lexeme → Read A
stop w ts = Err (record { want = w; left = length ts })

-- the first lexeme passes the test
abbrev pub heads : (Said → Bool) → List Lexeme → Bool
heads test [] = false
heads test (t ∷ ts) = test t.said

-- one lexeme, which tells a value
abbrev pub token_or : {A : Type 0} → Option A → Want → Lexeme → List Lexeme → Read A
token_or None n t ts = stop n (t ∷ ts)
token_or (Some a) n t ts = Ok (a, ts)

-- one lexeme that tells a value, else a stop before it
abbrev pub single : {A : Type 0} → (Lexeme → Option A) → Want → List Lexeme → Read A
single tells want [] = stop want []
single tells want (t ∷ ts) = token_or (tells t) want t ts

-- one after the other
abbrev pub both : {A B : Type 0} → (List Lexeme → Read A) → (List Lexeme → Read B) → List Lexeme → Read (A × B)
both p q ts = p ts >>= λ x. q x.1 >>= λ y. Ok ((x.0, y.0), y.1)

-- what is read, as another value
abbrev pub mapped : {A B : Type 0} → (A → B) → (List Lexeme → Read A) → List Lexeme → Read B
mapped g p ts = p ts >>= λ x. Ok (g x.0, x.1)

-- no lexeme may follow that would go on
abbrev pub closed_by : {A : Type 0} → A → List Lexeme → Bool → Read A
closed_by x rest true = stop NoName rest
closed_by x rest false = Ok (x, rest)

-- what is read, where no lexeme follows that the test knows
abbrev pub closed : {A : Type 0} → (Said → Bool) → (List Lexeme → Read A) → List Lexeme → Read A
closed test p ts = p ts >>= λ x. closed_by x.0 x.1 (heads test x.1)

-- a part that may be left out, where the test knows its first lexeme
abbrev pub option_by : {A B : Type 0} → A → List Lexeme → (List Lexeme → Read B) → Bool → Read (A × Option B)
option_by x rest q false = Ok ((x, None), rest)
option_by x rest q true = q rest >>= λ y. Ok ((x, Some y.0), y.1)

-- what is read, and behind it the part that may be left out
abbrev pub option_after : {A B : Type 0} → (Said → Bool) → (List Lexeme → Read A) → (List Lexeme → Read B) → List Lexeme → Read (A × Option B)
option_after test p q ts = p ts >>= λ x. option_by x.0 x.1 q (heads test x.1)

-- one of two
abbrev pub pick_by : {A B : Type 0} → (List Lexeme → Read A) → (List Lexeme → Read B) → List Lexeme → Bool → Read (A ⊎ B)
pick_by p q ts true = p ts >>= λ x. Ok (inl x.0, x.1)
pick_by p q ts false = q ts >>= λ x. Ok (inr x.0, x.1)

-- a stop where neither may begin, else the one that is picked
abbrev pub either_by : {A B : Type 0} → Want → (List Lexeme → Bool) → (List Lexeme → Read A) → (List Lexeme → Read B) → List Lexeme → Bool → Read (A ⊎ B)
either_by n pick p q ts false = stop n ts
either_by n pick p q ts true = pick_by p q ts (pick ts)

-- one of two, which a test of the lexemes picks, or a stop before the first lexeme
abbrev pub either : {A B : Type 0} → Want → (Said → Bool) → (List Lexeme → Bool) → (List Lexeme → Read A) → (List Lexeme → Read B) → List Lexeme → Read (A ⊎ B)
either n starts pick p q ts = either_by n pick p q ts (heads starts ts)

-- one or more, with a lexeme between each two; the number is above that of the lexemes
abbrev pub cons_of : {A : Type 0} → A × Option (Unit {0} × (A × List A)) → A × List A
cons_of {A} x = from x.0 x.1
  where
    from : A → Option (Unit {0} × (A × List A)) → A × List A
    from a None = (a, [])
    from a (Some y) = (a, y.1.0 ∷ y.1.1)

-- one or more, while the test knows the lexeme between them; the number bounds how many
abbrev pub listed : {A : Type 0} → ℕ → (Said → Bool) → (List Lexeme → Read (Unit {0})) → (List Lexeme → Read A) → List Lexeme → Read (A × List A)
listed zero is sep p ts = stop NoName ts
listed (suc n) is sep p ts = mapped cons_of (option_after is p (both sep (listed n is sep p))) ts

-- one or more, with a lexeme between each two that the test knows
abbrev pub listing : {A : Type 0} → (Said → Bool) → (List Lexeme → Read (Unit {0})) → (List Lexeme → Read A) → List Lexeme → Read (A × List A)
listing is sep p ts = listed (suc (length ts)) is sep p ts

-- a lexeme that tells only that it is there
abbrev pub kind_tells : (Said → Bool) → Lexeme → Option (Unit {0})
kind_tells is t = cond (is t.said) (Some tt) None

-- a lexeme of these
abbrev pub token : (Said → Bool) → List Lexeme → Read (Unit {0})
token is ts = single (kind_tells is) NoName ts

-- there is a value
abbrev pub is_there : {A : Type 0} → Option A → Bool
is_there None = false
is_there (Some a) = true

-- the lexemes that tell a value
abbrev pub telling : {A : Type 0} → (Said → Option A) → Said → Bool
telling of k = is_there (of k)

-- what a lexeme tells
abbrev pub plainly : {A : Type 0} → (Said → Option A) → Lexeme → Option A
plainly of l = of l.said

-- a value that was told, behind the place
abbrev pub placed_by : {A : Type 0} → ℕ → Option A → Option (ℕ × A)
placed_by p None = None
placed_by p (Some a) = Some (p, a)

-- what a lexeme tells, and its place
abbrev pub placed : {A : Type 0} → (Said → Option A) → Lexeme → Option (ℕ × A)
placed of l = placed_by l.place (of l.said)

-- the first lexemes of the two
abbrev pub one_of : (Said → Bool) → (Said → Bool) → Said → Bool
one_of a b k = a k || b k

-- one of two, which the first lexeme tells
abbrev pub first_tells : {A B : Type 0} → Want → (Said → Bool) → (Said → Bool) → (List Lexeme → Read A) → (List Lexeme → Read B) → List Lexeme → Read (A ⊎ B)
first_tells want a b p q ts = either want (one_of a b) (heads a) p q ts

-- the symbols that are this one
abbrev pub is_sign : Sign → Said → Bool
is_sign s (Symbol t) = same_sign s t
is_sign s k = false

-- the reserved words that are this one
abbrev pub is_word : Word → Said → Bool
is_word w (Reserved v) = same_word w v
is_word w k = false

-- this symbol
abbrev pub sign_token : Sign → List Lexeme → Read (Unit {0})
sign_token s ts = token (is_sign s) ts

-- this reserved word
abbrev pub word_token : Word → List Lexeme → Read (Unit {0})
word_token w ts = token (is_word w) ts

-- the place of a lexeme of these
abbrev pub place_if : (Said → Bool) → Lexeme → Option ℕ
place_if is l = cond (is l.said) (Some l.place) None

-- the place of this symbol
abbrev pub sign_place : Sign → List Lexeme → Read ℕ
sign_place s ts = single (place_if (is_sign s)) NoName ts

-- the place of this reserved word
abbrev pub word_place : Word → List Lexeme → Read ℕ
word_place w ts = single (place_if (is_word w)) NoName ts

-- a name's bytes
abbrev pub name_of : Said → Option (List ℕ)
name_of (Name text) = Some text
name_of k = None

-- a number
abbrev pub number_of : Said → Option ℕ
number_of (Number n) = Some n
number_of k = None

-- the names
abbrev pub is_name : Said → Bool
is_name = telling name_of

-- the numbers
abbrev pub is_number : Said → Bool
is_number = telling number_of

-- a name of a tree, of its place and its bytes
abbrev pub ident_of : ℕ × List ℕ → Ident
ident_of x = record { text = x.1; place = x.0 }

-- a name
abbrev pub ident_token : List Lexeme → Read Ident
ident_token ts = mapped ident_of (single (placed name_of) AName) ts

-- a number
abbrev pub number_token : List Lexeme → Read ℕ
number_token ts = single (plainly number_of) NoName ts

-- a number with its place
abbrev pub placed_number : List Lexeme → Read (ℕ × ℕ)
placed_number ts = single (placed number_of) NoName ts

-- where a name stands the lexeme behind it tells, else the first lexeme
abbrev pub goes_left : (Said → Bool) → (Said → Bool) → Said → List Lexeme → Bool
goes_left a behind k ts = cond (is_name k) (not (heads behind ts)) (a k)

-- whether the first of two is picked: where a name stands first, by the lexeme behind it
abbrev pub left_by_second : (Said → Bool) → (Said → Bool) → List Lexeme → Bool
left_by_second a behind [] = true
left_by_second a behind (t ∷ ts) = goes_left a behind t.said ts

-- one of two that may both begin with a name; the second has one of the given lexemes behind it
abbrev pub second_tells : {A B : Type 0} → Want → (Said → Bool) → (Said → Bool) → (Said → Bool) → (List Lexeme → Read A) → (List Lexeme → Read B) → List Lexeme → Read (A ⊎ B)
second_tells want a b behind p q ts = either want (one_of a b) (left_by_second a behind) p q ts

-- a list that may be empty, and what closes it
abbrev pub Enclosed : Type 0 → Type 0
Enclosed A = Unit {0} ⊎ ((A × List A) × Unit {0})

-- the parts of a list that may be empty
abbrev pub enclosed_list : {A : Type 0} → Enclosed A → List A
enclosed_list (inl u) = []
enclosed_list (inr y) = y.0.0 ∷ y.0.1

-- none or more between commas up to the symbol that closes them
abbrev pub enclosed : {A : Type 0} → Want → Sign → (Said → Bool) → (List Lexeme → Read A) → List Lexeme → Read (List A)
enclosed want close starts p ts = mapped enclosed_list (first_tells want (is_sign close) starts (sign_token close) (both (listing (is_sign Comma) (sign_token Comma) p) (sign_token close))) ts

-- one part more, or the end
abbrev pub repeated_tree : {A B : Type 0} → (A × (List A × B)) ⊎ B → List A × B
repeated_tree (inl x) = (x.0 ∷ x.1.0, x.1.1)
repeated_tree (inr b) = ([], b)

-- none or more of the first, and then the second; the number is above that of the lexemes
abbrev pub repeated : {A B : Type 0} → ℕ → Want → (Said → Bool) → (Said → Bool) → (List Lexeme → Read A) → (List Lexeme → Read B) → List Lexeme → Read (List A × B)
repeated zero want a b p q ts = stop NoName ts
repeated (suc n) want a b p q ts = mapped repeated_tree (first_tells want a b (both p (repeated n want a b p q)) q) ts

-- none or more of the first, and then the second
abbrev pub repeating : {A B : Type 0} → Want → (Said → Bool) → (Said → Bool) → (List Lexeme → Read A) → (List Lexeme → Read B) → List Lexeme → Read (List A × B)
repeating want a b p q ts = repeated (suc (length ts)) want a b p q ts

-- ---- all of the lexemes

-- the value where nothing is left, or the stop before what is left
abbrev pub end_by : {A : Type 0} → A → List Lexeme → Result A Stop
end_by x [] = Ok x
end_by x (t ∷ us) = Err (record { want = NoName; left = length (t ∷ us) })

-- reads all of the lexemes
abbrev pub whole_of : {A : Type 0} → (List Lexeme → Read A) → List Lexeme → Result A Stop
whole_of p ts = p ts >>= λ x. end_by x.0 x.1
