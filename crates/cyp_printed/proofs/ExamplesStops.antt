-- Worked examples of the first lexeme that no text allows.
use Rattle.std.specs.Prelude.{List, [], codes, drop, length, take, ℕ, ◌++◌, ◌∷◌, ◌≡◌}
use Rattle.std.proofs.Common.{refl, inl, inr}
use Rattle.cyp_lex.specs.Lexemes.{Lexeme, Name, Number, Reserved, Said, Symbol, Variable}
use Rattle.cyp_lex.specs.Readers.{Stop}
use Rattle.cyp_lex.specs.declared.want.Want.TheVariants.{AName, NoName}
use Rattle.cyp_lex.specs.Lexing.{lexed, name_kind, piece_at, sign_at, stands}
use Rattle.cyp_lex.specs.declared.fault.FaultKind.TheVariants.{Expected, MissingProcedure, NotDifference, ReservedName}
use Rattle.cyp_lex.specs.declared.token.Sign.TheVariants.{Minus}
use Rattle.cyp_lex.specs.declared.token.Word.TheVariants.{If, True}
use Rattle.cyp_text.specs.GrammarFaults.{SpoilsSum, name_at, other, reserved, spoiled}
use Rattle.cyp_formed.specs.Reading.{IsReading}
use Rattle.cyp_spec.proofs.ExampleForms.{lexemes, refused}
use Rattle.cyp_text.proofs.StopsAt.{any_name, first_number_at, no_name, refused_at, unfinished_at}

abbrev stop : ℕ → Stop
stop n = record { want = NoName; left = n }

-- where a name is allowed
abbrev name_stop : ℕ → Stop
name_stop n = record { want = AName; left = n }

abbrev lexeme : Said → ℕ → Lexeme
lexeme k p = record { said = k; place = p }

-- ---- texts that end too early

abbrev half : List ℕ
half = codes "void f(loc x) { x :-> a"

half_text : IsReading half (refused Expected 23)
unfolding lexed piece_at sign_at stands name_kind
half_text = inr (_, inr (record { unfinished = unfinished_at (lexemes half) (stop 0) refl refl; kind = refl; place = refl }), refl)

abbrev half_predicate : List ℕ
half_predicate = codes "predicate p(loc x) { | x == 0 => { emp }"

no_void : IsReading half_predicate (refused MissingProcedure 40)
unfolding lexed piece_at sign_at stands name_kind
no_void = inr (_, inr (record { unfinished = unfinished_at (lexemes half_predicate) (stop 0) refl refl; kind = refl; place = refl }), refl)

-- ---- sums that are no difference

abbrev sum : List ℕ
sum = codes "void f(loc x) { x + y == 1 ; emp } { emp }"

sum_of_names : IsReading sum (refused NotDifference 20)
unfolding lexed piece_at sign_at stands name_kind
sum_of_names = inr (
  _,
  inl (record {
    before = take 9 (lexemes sum);
    lexeme = name_at (codes "y") 20;
    after = drop 10 (lexemes sum);
    parts = refl;
    refused = refused_at (lexemes sum) (stop (length (drop 9 (lexemes sum)))) refl (take 9 (lexemes sum)) (name_at (codes "y") 20) (drop 10 (lexemes sum)) refl refl;
    kind = spoiled (inl refl);
    place = refl;
  }),
  refl,
)

-- only a number is allowed behind a name and `+`
abbrev word : List ℕ
word = codes "void f(loc x) { x + if == 1 ; emp } { emp }"

spoils_nothing : (before : List Lexeme) → SpoilsSum before (Reserved If) → ⊥
spoils_nothing before (inl e) = absurd cc
spoils_nothing before (inr e) = absurd cc

word_in_sum : IsReading word (refused Expected 20)
unfolding lexed piece_at sign_at stands name_kind
word_in_sum = inr (
  _,
  inl (record {
    before = take 9 (lexemes word);
    lexeme = lexeme (Reserved If) 20;
    after = drop 10 (lexemes word);
    parts = refl;
    refused = refused_at (lexemes word) (stop (length (drop 9 (lexemes word)))) refl (take 9 (lexemes word)) (lexeme (Reserved If) 20) (drop 10 (lexemes word)) refl refl;
    kind = other (spoils_nothing (take 9 (lexemes word))) (no_name (lexemes word) (stop (length (drop 9 (lexemes word)))) refl (take 9 (lexemes word)) (drop 9 (lexemes word)) refl refl refl);
    place = refl;
  }),
  refl,
)

-- a number begins a term where a name is allowed in its place
abbrev numbers : List ℕ
numbers = codes "void f() { 1 - 2 == 0 ; emp } { emp }"

-- the lexemes before the term, and one that no text has
abbrev no_term : List Lexeme
no_term = take 5 (lexemes numbers) ++ lexeme (Variable 0) 11 ∷ []

minus_of_numbers : IsReading numbers (refused NotDifference 13)
unfolding lexed piece_at sign_at stands name_kind
minus_of_numbers = inr (
  _,
  inl (record {
    before = take 6 (lexemes numbers);
    lexeme = lexeme (Symbol Minus) 13;
    after = drop 7 (lexemes numbers);
    parts = refl;
    refused = refused_at (lexemes numbers) (stop (length (drop 6 (lexemes numbers)))) refl (take 6 (lexemes numbers)) (lexeme (Symbol Minus) 13) (drop 7 (lexemes numbers)) refl refl;
    kind = spoiled (inr (
      refl,
      record {
        front = take 5 (lexemes numbers);
        last = lexeme (Number 1) 11;
        number = 1;
        parts = refl;
        says = refl;
        begins_term = any_name no_term (name_stop 1) refl (take 5 (lexemes numbers)) (lexeme (Variable 0) 11 ∷ []) refl refl refl;
      },
    ));
    place = refl;
  }),
  refl,
)

-- a block's size begins no term
abbrev block : List ℕ
block = codes "void f(loc x) { [x, 2 - 1] } { emp }"

spoils_no_size : SpoilsSum (take 11 (lexemes block)) (Symbol Minus) → ⊥
unfolding lexed piece_at sign_at stands name_kind
spoils_no_size (inl e) = absurd cc
spoils_no_size (inr x) =
    let first = first_number_at (take 10 (lexemes block)) (lexeme (Number 2) 20) x.1 in
    no_name (take 10 (lexemes block)) (stop 0) refl (take 10 (lexemes block)) [] refl refl refl first.2

size_and_minus : IsReading block (refused Expected 22)
unfolding lexed piece_at sign_at stands name_kind
size_and_minus = inr (
  _,
  inl (record {
    before = take 11 (lexemes block);
    lexeme = lexeme (Symbol Minus) 22;
    after = drop 12 (lexemes block);
    parts = refl;
    refused = refused_at (lexemes block) (stop (length (drop 11 (lexemes block)))) refl (take 11 (lexemes block)) (lexeme (Symbol Minus) 22) (drop 12 (lexemes block)) refl refl;
    kind = other spoils_no_size (λ (x : ⊥). x);
    place = refl;
  }),
  refl,
)

-- a union has no sums
abbrev union : List ℕ
union = codes "void f() { {1} ++ s - 1 =i s ; emp } { emp }"

spoils_no_union : SpoilsSum (take 10 (lexemes union)) (Symbol Minus) → ⊥
unfolding lexed piece_at sign_at stands name_kind
spoils_no_union (inl e) = absurd cc
spoils_no_union (inr x) =
    let first = first_number_at (take 9 (lexemes union)) (name_at (codes "s") 18) x.1 in
    let says : Name (codes "s") ≡ Number first.0 = first.1 in
    absurd cc

union_and_minus : IsReading union (refused Expected 20)
unfolding lexed piece_at sign_at stands name_kind
union_and_minus = inr (
  _,
  inl (record {
    before = take 10 (lexemes union);
    lexeme = lexeme (Symbol Minus) 20;
    after = drop 11 (lexemes union);
    parts = refl;
    refused = refused_at (lexemes union) (stop (length (drop 10 (lexemes union)))) refl (take 10 (lexemes union)) (lexeme (Symbol Minus) 20) (drop 11 (lexemes union)) refl refl;
    kind = other spoils_no_union (λ (x : ⊥). x);
    place = refl;
  }),
  refl,
)

-- ---- reserved words where a name is allowed

abbrev number_and_word : List ℕ
number_and_word = codes "void f() { 1 + if == 1 ; emp } { emp }"

word_behind_number : IsReading number_and_word (refused ReservedName 15)
unfolding lexed piece_at sign_at stands name_kind
word_behind_number = inr (
  _,
  inl (record {
    before = take 7 (lexemes number_and_word);
    lexeme = lexeme (Reserved If) 15;
    after = drop 8 (lexemes number_and_word);
    parts = refl;
    refused = refused_at (lexemes number_and_word) (name_stop (length (drop 7 (lexemes number_and_word)))) refl (take 7 (lexemes number_and_word)) (lexeme (Reserved If) 15) (drop 8 (lexemes number_and_word)) refl refl;
    kind = reserved (any_name (lexemes number_and_word) (name_stop (length (drop 7 (lexemes number_and_word)))) refl (take 7 (lexemes number_and_word)) (drop 7 (lexemes number_and_word)) refl refl refl);
    place = refl;
  }),
  refl,
)

abbrev true_guard : List ℕ
true_guard = codes "predicate p(loc x) { | true => { emp } } void f() { emp } { emp }"

true_is_no_guard : IsReading true_guard (refused ReservedName 23)
unfolding lexed piece_at sign_at stands name_kind
true_is_no_guard = inr (
  _,
  inl (record {
    before = take 8 (lexemes true_guard);
    lexeme = lexeme (Reserved True) 23;
    after = drop 9 (lexemes true_guard);
    parts = refl;
    refused = refused_at (lexemes true_guard) (name_stop (length (drop 8 (lexemes true_guard)))) refl (take 8 (lexemes true_guard)) (lexeme (Reserved True) 23) (drop 9 (lexemes true_guard)) refl refl;
    kind = reserved (any_name (lexemes true_guard) (name_stop (length (drop 8 (lexemes true_guard)))) refl (take 8 (lexemes true_guard)) (drop 8 (lexemes true_guard)) refl refl refl);
    place = refl;
  }),
  refl,
)
