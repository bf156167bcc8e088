-- The kind of the fault of a token that is refused.
use Rattle.std.proofs.Common.{Bool, Err, List, Ok, Result, [], ap, arith, false, get_or, inl, inr, length, map, refl, subst, sym, take, true, ℕ, ◌++◌, ◌-◌, ◌<◌, ◌≤◌, ◌∙◌, ◌∷◌, ◌≡◌}
use Rattle.std.specs.Result.{IfOk}
use Rattle.cyp_lex.specs.Readers.{is_sign}
use Rattle.cyp_lex.specs.declared.want.Want.{Want}
use Rattle.cyp_lex.specs.declared.want.Want.TheVariants.{AName, NoName}
use Rattle.cyp_lex.proofs.SameSigns.{sign_is}
use Rattle.cyp_lex.specs.declared.token.Sign.{Sign}
use Rattle.cyp_term.specs.declared.fail.NoMemory.{NoMemory}
use Rattle.cyp_text.proofs.TokensParted.{last_lexemes, no_token}
use Rattle.cyp_lex.specs.Lexemes.{Lexeme, Name, Number, Reserved, Said, Symbol, Variable, lexeme_of, said_by}
use Rattle.cyp_lex.specs.declared.fault.FaultKind.TheVariants.{Expected, ReservedName}
use Rattle.cyp_lex.specs.declared.token.Sign.TheVariants.{Minus, Plus}
use Rattle.cyp_lex.specs.declared.token.Token.{Token}
use Rattle.cyp_lex.specs.declared.token.TokenKind.{TokenKind}
use Rattle.cyp_lex.specs.declared.token.TokenKind.TheVariants as kinds
use Rattle.cyp_lex.specs.declared.token.Word.{Word}
use Rattle.cyp_text.specs.GrammarFaults.{AllowsName, EndsInFirstNumber, IsKind, SpoilsSum, TakesName, backwards, ends_sum, other, reserved, spoils, wants_name, wants_number}
use Rattle.cyp_text.specs.Stopping.{Tells, TellsName}
use Rattle.cyp_text.proofs.Parted.{no_end, one_last}

-- ---- a number at the end

number_kind : (k : TokenKind) (bytes : List ℕ) (n : ℕ) → said_by k bytes ≡ Number n → k ≡ kinds.Number n
number_kind (kinds.Number m) bytes n e =
    let same : m ≡ n = cc in
    ap (λ (x : ℕ). kinds.Number x) same
number_kind kinds.Name bytes n e = absurd cc
number_kind (kinds.Word w) bytes n e = absurd cc
number_kind (kinds.Sign s) bytes n e = absurd cc

kind_says : (k : TokenKind) (bytes : List ℕ) (n : ℕ) → k ≡ kinds.Number n → said_by k bytes ≡ Number n
kind_says k bytes n e = ap (λ (x : TokenKind). said_by x bytes) e

-- nothing ends in a number
pub nothing_ends : EndsInFirstNumber [] → ⊥
nothing_ends x = no_end x.front x.last x.parts

-- the last lexeme is a number: it begins a term where a name may stand
pub number_ends : (front : List Lexeme) (l : Lexeme) (n : ℕ) (b : Bool) → l.said ≡ Number n → Tells b (AllowsName front) → Tells b (EndsInFirstNumber (front ++ l ∷ []))
number_ends front l n true e names = record { front = front; last = l; number = n; parts = refl; says = e; begins_term = names }
number_ends front l n false e none = λ (x : EndsInFirstNumber (front ++ l ∷ [])).
    none (subst (λ (ls : List Lexeme). AllowsName ls) (one_last x.front front x.last l (sym x.parts)).0 x.begins_term)

pub other_ends : (front : List Lexeme) (l : Lexeme) → ((n : ℕ) → l.said ≡ Number n → ⊥) → EndsInFirstNumber (front ++ l ∷ []) → ⊥
other_ends front l differs x = differs x.number (ap (λ (m : Lexeme). m.said) (sym (one_last x.front front x.last l (sym x.parts)).1) ∙ x.says)

-- the same of tokens
pub token_ends : (text : List ℕ) (front : List Token) (t : Token) (n : ℕ) (b : Bool) → t.kind ≡ kinds.Number n → Tells b (AllowsName (map (lexeme_of text) front))
    → Tells b (EndsInFirstNumber (map (lexeme_of text) front ++ lexeme_of text t ∷ []))
token_ends text front t n b e h = number_ends (map (lexeme_of text) front) (lexeme_of text t) n b (kind_says t.kind _ n e) h

pub token_no_end : (text : List ℕ) (front : List Token) (t : Token) → ((n : ℕ) → t.kind ≡ kinds.Number n → ⊥) → EndsInFirstNumber (map (lexeme_of text) front ++ lexeme_of text t ∷ []) → ⊥
token_no_end text front t differs = other_ends (map (lexeme_of text) front) (lexeme_of text t) (λ n e. differs n (number_kind t.kind _ n e))

-- ---- sums

pub spoils_at_once : (before : List Lexeme) (k : Said) → spoils (backwards [] before) k ≡ true → SpoilsSum before k
spoils_at_once before k e = inl e

pub minus_spoils : (before : List Lexeme) (k : Said) (b : Bool) → spoils (backwards [] before) k ≡ false → k ≡ Symbol Minus → Tells b (EndsInFirstNumber before) → Tells b (SpoilsSum before k)
minus_spoils before k true e m h = inr (m, h)
minus_spoils before k false e m h = none
  where
    none : SpoilsSum before k → ⊥
    none (inl s) = absurd cc
    none (inr x) = h x.1

pub other_spoils : (before : List Lexeme) (k : Said) → spoils (backwards [] before) k ≡ false → (k ≡ Symbol Minus → ⊥) → SpoilsSum before k → ⊥
other_spoils before k e differs (inl s) = absurd cc
other_spoils before k e differs (inr x) = differs x.0

minus_kind : (k : TokenKind) (bytes : List ℕ) → said_by k bytes ≡ Symbol Minus → k ≡ kinds.Sign Minus
minus_kind (kinds.Sign s) bytes e =
    let same : s ≡ Minus = cc in
    ap (λ x. kinds.Sign x) same
minus_kind kinds.Name bytes e = absurd cc
minus_kind (kinds.Number n) bytes e = absurd cc
minus_kind (kinds.Word w) bytes e = absurd cc

pub no_minus : (text : List ℕ) (t : Token) → (t.kind ≡ kinds.Sign Minus → ⊥) → (lexeme_of text t).said ≡ Symbol Minus → ⊥
no_minus text t differs e = differs (minus_kind t.kind _ e)

-- ---- the kind

takes_by : (before : List Lexeme) (k : Said) → ((w : Word) → k ≡ Reserved w → ⊥) → TakesName before k → ⊥
takes_by before (Reserved w) differs t = differs w refl
takes_by before (Name x) differs t = t
takes_by before (Variable x) differs t = t
takes_by before (Number x) differs t = t
takes_by before (Symbol x) differs t = t

word_kind : (k : TokenKind) (bytes : List ℕ) (w : Word) → said_by k bytes ≡ Reserved w → k ≡ kinds.Word w
word_kind (kinds.Word v) bytes w e =
    let same : v ≡ w = cc in
    ap (λ x. kinds.Word x) same
word_kind kinds.Name bytes w e = absurd cc
word_kind (kinds.Number n) bytes w e = absurd cc
word_kind (kinds.Sign s) bytes w e = absurd cc

word_said : (k : TokenKind) (bytes : List ℕ) (w : Word) → k ≡ kinds.Word w → said_by k bytes ≡ Reserved w
word_said k bytes w e = ap (λ (x : TokenKind). said_by x bytes) e

pub word_reserved : (text : List ℕ) (before : List Lexeme) (t : Token) (w : Word) → t.kind ≡ kinds.Word w → AllowsName before → IsKind before (lexeme_of text t).said ReservedName
word_reserved text before t w e all =
    subst (λ (k : Said). IsKind before k ReservedName) (sym (word_said t.kind _ w e)) (reserved all)

pub word_expected : (text : List ℕ) (before : List Lexeme) (t : Token) (w : Word) → t.kind ≡ kinds.Word w → (AllowsName before → ⊥) → (SpoilsSum before (lexeme_of text t).said → ⊥)
    → IsKind before (lexeme_of text t).said Expected
word_expected text before t w e none differs =
    other differs (subst (λ (k : Said). TakesName before k → ⊥) (sym (word_said t.kind _ w e)) none)

pub other_expected : (text : List ℕ) (before : List Lexeme) (t : Token) → ((w : Word) → t.kind ≡ kinds.Word w → ⊥) → (SpoilsSum before (lexeme_of text t).said → ⊥) → IsKind before (lexeme_of text t).said Expected
other_expected text before t not_word differs = other differs (takes_by before (lexeme_of text t).said (λ w e. not_word w (word_kind t.kind _ w e)))

-- ---- what was told

pub told_true : (b : Bool) (P : Type 0) → b ≡ true → Tells b P → P
told_true true P e h = h
told_true false P e h = absurd cc

pub told_false : (b : Bool) (P : Type 0) → b ≡ false → Tells b P → P → ⊥
told_false true P e h = absurd cc
told_false false P e h = h

pub name_allowed : (w : Want) (before : List Lexeme) → w ≡ AName → TellsName w before → AllowsName before
name_allowed AName before e h = h
name_allowed NoName before e h = absurd cc

pub name_refused : (w : Want) (before : List Lexeme) → w ≡ NoName → TellsName w before → AllowsName before → ⊥
name_refused AName before e h = absurd cc
name_refused NoName before e h = h

-- ---- what the code answers

pub number_result : (text : List ℕ) (xs : List Token) (n : ℕ) → 1 ≤ length xs → (get_or xs (length xs - 1) no_token).kind ≡ kinds.Number n
    → (r : Result Bool NoMemory) → IfOk r (λ b. Tells b (AllowsName (map (lexeme_of text) (take (length xs - 1) xs)))) → IfOk r (λ b. Tells b (EndsInFirstNumber (map (lexeme_of text) xs)))
number_result text xs n l e (Ok b) h =
    subst (λ (ls : List Lexeme). Tells b (EndsInFirstNumber ls)) (sym (last_lexemes text xs l)) (token_ends text (take (length xs - 1) xs) (get_or xs (length xs - 1) no_token) n b e h)
number_result text xs n l e (Err x) h = tt

pub no_number : (text : List ℕ) (xs : List Token) → 1 ≤ length xs → ((n : ℕ) → (get_or xs (length xs - 1) no_token).kind ≡ kinds.Number n → ⊥) → EndsInFirstNumber (map (lexeme_of text) xs) → ⊥
no_number text xs l differs =
    subst (λ (ls : List Lexeme). EndsInFirstNumber ls → ⊥) (sym (last_lexemes text xs l)) (token_no_end text (take (length xs - 1) xs) (get_or xs (length xs - 1) no_token) differs)

pub minus_is : (k : Said) → is_sign Minus k ≡ true → k ≡ Symbol Minus
minus_is (Symbol x) e = ap (λ (s : Sign). Symbol s) (sym (sign_is Minus x e))
minus_is (Name x) e = absurd cc
minus_is (Variable x) e = absurd cc
minus_is (Number x) e = absurd cc
minus_is (Reserved x) e = absurd cc

pub minus_not : (k : Said) → is_sign Minus k ≡ false → k ≡ Symbol Minus → ⊥
minus_not k e m =
    let also : is_sign Minus k ≡ true = ap (λ (x : Said). is_sign Minus x) m in
    cc

pub minus_result : (before : List Lexeme) (k : Said) → spoils (backwards [] before) k ≡ false → k ≡ Symbol Minus
    → (r : Result Bool NoMemory) → IfOk r (λ b. Tells b (EndsInFirstNumber before)) → IfOk r (λ b. Tells b (SpoilsSum before k))
minus_result before k e m (Ok b) h = minus_spoils before k b e m h
minus_result before k e m (Err x) h = tt

-- ---- fewer than two

wants_number_one : (x : Said) → wants_number (x ∷ []) ≡ false
wants_number_one (Symbol Plus) = refl
wants_number_one (Symbol Minus) = refl
wants_number_one x = refl

wants_name_one : (x : Said) → wants_name (x ∷ []) ≡ false
wants_name_one (Symbol Plus) = refl
wants_name_one x = refl

ends_sum_one : (x : Said) → ends_sum (x ∷ []) ≡ false
ends_sum_one (Number n) = refl
ends_sum_one (Name t) = refl
ends_sum_one x = refl

one_spoils : (x k : Said) → spoils (x ∷ []) k ≡ false
one_spoils x (Name t) = wants_number_one x
one_spoils x (Number n) = wants_name_one x
one_spoils x (Symbol Plus) = ends_sum_one x
one_spoils x (Symbol Minus) = ends_sum_one x
one_spoils x k = refl

none_spoils : (k : Said) → spoils [] k ≡ false
none_spoils (Name t) = refl
none_spoils (Number n) = refl
none_spoils (Symbol Plus) = refl
none_spoils (Symbol Minus) = refl
none_spoils k = refl

pub few_spoil : (text : List ℕ) (xs : List Token) (k : Said) → length xs < 2 → false ≡ spoils (backwards [] (map (lexeme_of text) xs)) k
few_spoil text [] k l = sym (none_spoils k)
few_spoil text (x ∷ []) k l = sym (one_spoils (lexeme_of text x).said k)
few_spoil text (x ∷ y ∷ xs) k l = absurd (omega (arith, l))
