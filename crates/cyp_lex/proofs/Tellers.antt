-- Readers of one lexeme by what it says: a value, a value with its place, a symbol, a reserved word, a name, a number.
use Rattle.std.proofs.Common.{◌≡◌, ℕ, Bool, true, false, cond, List, [], Option, Some, None, refl, sym, ap, ◌∙◌}
use Rattle.cyp_lex.specs.declared.token.Sign.{Sign}
use Rattle.cyp_lex.specs.declared.token.Word.{Word}
use Rattle.cyp_lex.specs.Lexemes.{Lexeme, Name, Number, Reserved, Said, Symbol}
use Rattle.cyp_lex.specs.Spelling.{Any, At, Mark, ident}
use Rattle.cyp_lex.specs.declared.ident.Ident.{Ident}
use Rattle.cyp_lex.specs.Readers.{Read, ident_of, ident_token, is_name, is_number, is_sign, is_there, is_word, listing, name_of, number_of, number_token, place_if, placed, placed_by, placed_number, plainly, sign_place, sign_token, single, telling, word_place, word_token}
use Rattle.cyp_lex.specs.declared.want.Want.{Want}
use Rattle.cyp_lex.specs.declared.want.Want.TheVariants.{AName, NoName}
use Rattle.cyp_lex.proofs.SameSigns.{sign_is, sign_self, word_is, word_self}
use Rattle.cyp_lex.proofs.Readings.{Apart, Reads, Within}
use Rattle.cyp_lex.proofs.Singles.{IsSingle, Says, one, single_reads, some_is, some_of}
use Rattle.cyp_lex.proofs.Mapped.{mapped_reads}
use Rattle.cyp_lex.proofs.Lists.{listed_spelling, listing_reads, made, token_reads}

-- what is told is what is said
pub record Tells (A : Type 0) (of : Said → Option A) (said : A → Said) : Type 0 where
  pub only : (k : Said) (a : A) → of k ≡ Some a → k ≡ said a
  pub back : (a : A) → of (said a) ≡ Some a
  pub value : A

-- every name is told, or none
abbrev pub TellsNames : {A : Type 0} → (Said → Option A) → Want → Type 0
TellsNames of AName = (x : List ℕ) → telling of (Name x) ≡ true
TellsNames of NoName = (x : List ℕ) → telling of (Name x) ≡ false

is_true : {A : Type 0} (o : Option A) (a : A) → o ≡ Some a → is_there o ≡ true
is_true None a e = absurd cc
is_true (Some b) a e = refl

value_of : {A : Type 0} (o : Option A) → is_there o ≡ true → (a : A) × (o ≡ Some a)
value_of None e = absurd cc
value_of (Some a) e = (a, refl)

not_none : {A : Type 0} (o : Option A) → is_there o ≡ true → o ≡ None → ⊥
not_none None e f = cc
not_none (Some a) e f = cc

plainly_says : {A : Type 0} (of : Said → Option A) (want : Want) → TellsNames of want → Says (plainly of) want
plainly_says of AName names = λ t n. value_of (of t.said) (ap (telling of) n.1 ∙ names n.0)
plainly_says of NoName names = λ t a n e. cc (is_true (of t.said) a e, ap (telling of) n.1, names n.0)

plainly_single : {A : Type 0} (of : Said → Option A) (said : A → Said) (want : Want) → Tells A of said → TellsNames of want → IsSingle A (plainly of) (λ a. Any (said a)) (telling of) want
plainly_single of said want T names = record {
  fits = λ t a e. T.only t.said a e;
  only = λ t a e. ap of e ∙ T.back a;
  starts_true = λ t a e. is_true (of t.said) a e;
  starts_some = λ t st e. not_none (of t.said) st e;
  says = plainly_says of want names;
  token = made (said T.value);
  value = T.value;
  shows = T.back T.value;
}

-- a lexeme that tells a value
pub plainly_reads : {A : Type 0} {of : Said → Option A} {said : A → Said} {want : Want} {ends : Said → Bool} {n : ℕ} → Tells A of said → TellsNames of want
    → Reads n A (one (λ a. Any (said a))) (telling of) ends (single (plainly of) want)
plainly_reads {A} {of} {said} {want} T names = single_reads (plainly_single of said want T names)

placed_parts : {A : Type 0} (p : ℕ) (o : Option A) (x : ℕ × A) → placed_by p o ≡ Some x → (o ≡ Some x.1) × (p ≡ x.0)
placed_parts p None x e = absurd cc
placed_parts {A} p (Some a) x e =
    let same : (p, a) ≡ x = some_is (p, a) x e in
    (ap (λ (y : ℕ × A). some_of y.1) same, ap (λ (y : ℕ × A). y.0) same)

placed_none : {A : Type 0} (p : ℕ) (o : Option A) → is_there o ≡ true → placed_by p o ≡ None → ⊥
placed_none p None e f = cc
placed_none p (Some a) e f = cc

placed_is : {A : Type 0} (p : ℕ) (o : Option A) (x : ℕ × A) → o ≡ Some x.1 → p ≡ x.0 → placed_by p o ≡ Some x
placed_is p o x e f = rw (e, f) refl

placed_says : {A : Type 0} (of : Said → Option A) (want : Want) → TellsNames of want → Says (placed of) want
placed_says of AName names = λ t n.
    let a = value_of (of t.said) (ap (telling of) n.1 ∙ names n.0) in
    ((t.place, a.0), placed_is t.place (of t.said) (t.place, a.0) a.1 refl)
placed_says of NoName names = λ t a n e. cc (is_true (of t.said) a.1 (placed_parts t.place (of t.said) a e).0, ap (telling of) n.1, names n.0)

placed_single : {A : Type 0} (of : Said → Option A) (said : A → Said) (want : Want) → Tells A of said → TellsNames of want → IsSingle (ℕ × A) (placed of) (λ x. At (said x.1) x.0) (telling of) want
placed_single of said want T names = record {
  fits = λ t a e.
      let p = placed_parts t.place (of t.said) a e in
      (T.only t.said a.1 p.0, p.1);
  only = λ t a e. placed_is t.place (of t.said) a (ap of e.0 ∙ T.back a.1) e.1;
  starts_true = λ t a e. is_true (of t.said) a.1 (placed_parts t.place (of t.said) a e).0;
  starts_some = λ t st e. placed_none t.place (of t.said) st e;
  says = placed_says of want names;
  token = made (said T.value);
  value = (0, T.value);
  shows = placed_is 0 (of (said T.value)) (0, T.value) (T.back T.value) refl;
}

-- a lexeme that tells a value, with its place
pub placed_reads : {A : Type 0} {of : Said → Option A} {said : A → Said} {want : Want} {ends : Said → Bool} {n : ℕ} → Tells A of said → TellsNames of want
    → Reads n (ℕ × A) (one (λ x. At (said x.1) x.0)) (telling of) ends (single (placed of) want)
placed_reads {A} {of} {said} {want} T names = single_reads (placed_single of said want T names)

-- ---- symbols and reserved words

sign_only : (s : Sign) (k : Said) → is_sign s k ≡ true → k ≡ Symbol s
sign_only s (Symbol t) e = ap (λ (u : Sign). Symbol u) (sym (sign_is s t e))
sign_only s k e = absurd cc

word_only : (w : Word) (k : Said) → is_word w k ≡ true → k ≡ Reserved w
word_only w (Reserved v) e = ap (λ (u : Word). Reserved u) (sym (word_is w v e))
word_only w k e = absurd cc

abbrev pub sign_mark : Sign → Unit {0} → Mark
sign_mark s u = Any (Symbol s)

abbrev pub word_mark : Word → Unit {0} → Mark
word_mark w u = Any (Reserved w)

pub sign_reads : {ends : Said → Bool} {n : ℕ} (s : Sign) → Reads n (Unit {0}) (one (sign_mark s)) (is_sign s) ends (sign_token s)
sign_reads s = token_reads {k = Symbol s} {is = is_sign s} (sign_self s) (sign_only s) (λ x. refl)

pub word_reads : {ends : Said → Bool} {n : ℕ} (w : Word) → Reads n (Unit {0}) (one (word_mark w)) (is_word w) ends (word_token w)
word_reads w = token_reads {k = Reserved w} {is = is_word w} (word_self w) (word_only w) (λ x. refl)

-- one or more with this symbol between each two
pub sign_listing_reads : {A : Type 0} {sp : A → List Mark} {sA fA f : Said → Bool} {p : List Lexeme → Read A} (s : Sign)
    → Apart (is_sign s) fA → Within fA f → Within (is_sign s) f → Apart sA (is_sign s) → ((m : ℕ) → Reads m A sp sA fA p) → (n : ℕ)
    → Reads n (A × List A) (listed_spelling (Symbol s) sp) sA f (listing (is_sign s) (sign_token s) p)
sign_listing_reads s sep inA inS apart P n = listing_reads {k = Symbol s} {is = is_sign s} (sign_self s) (sign_only s) (λ x. refl) sep inA inS apart P n

abbrev place_by : Bool → ℕ → Option ℕ
place_by b p = cond b (Some p) None

place_parts : (b : Bool) (p a : ℕ) → place_by b p ≡ Some a → (b ≡ true) × (p ≡ a)
place_parts true p a e = (refl, cc)
place_parts false p a e = absurd cc

place_none : (b : Bool) (p : ℕ) → b ≡ true → place_by b p ≡ None → ⊥
place_none true p e f = cc
place_none false p e f = cc

place_single : (k : Said) (is : Said → Bool) → is k ≡ true → ((j : Said) → is j ≡ true → j ≡ k) → ((x : List ℕ) → is (Name x) ≡ false) → IsSingle ℕ (place_if is) (λ p. At k p) is NoName
place_single k is is_so only names = record {
  fits = λ t a e.
      let p = place_parts (is t.said) t.place a e in
      (only t.said p.0, p.1);
  only = λ t a e. rw (e.0, is_so, e.1) refl;
  starts_true = λ t a e. (place_parts (is t.said) t.place a e).0;
  starts_some = λ t st e. place_none (is t.said) t.place st e;
  says = λ t a n e. cc ((place_parts (is t.said) t.place a e).0, ap is n.1, names n.0);
  token = made k;
  value = 0;
  shows = rw is_so refl;
}

pub sign_place_reads : {ends : Said → Bool} {n : ℕ} (s : Sign) → Reads n ℕ (one (λ p. At (Symbol s) p)) (is_sign s) ends (sign_place s)
sign_place_reads s = single_reads (place_single (Symbol s) (is_sign s) (sign_self s) (sign_only s) (λ x. refl))

pub word_place_reads : {ends : Said → Bool} {n : ℕ} (w : Word) → Reads n ℕ (one (λ p. At (Reserved w) p)) (is_word w) ends (word_place w)
word_place_reads w = single_reads (place_single (Reserved w) (is_word w) (word_self w) (word_only w) (λ x. refl))

-- ---- names and numbers

name_only : (k : Said) (a : List ℕ) → name_of k ≡ Some a → k ≡ Name a
name_only (Name x) a e = ap (λ (y : List ℕ). Name y) (some_is x a e)
name_only k a e = absurd cc

number_only : (k : Said) (a : ℕ) → number_of k ≡ Some a → k ≡ Number a
number_only (Number x) a e = ap (λ (y : ℕ). Number y) (some_is x a e)
number_only k a e = absurd cc

name_tells : Tells (List ℕ) name_of (λ x. Name x)
name_tells = record { only = name_only; back = λ a. refl; value = [] }

number_tells : Tells ℕ number_of (λ x. Number x)
number_tells = record { only = number_only; back = λ a. refl; value = 0 }

abbrev pub number_mark : ℕ → Mark
number_mark n = Any (Number n)

abbrev pub placed_mark : ℕ × ℕ → Mark
placed_mark x = At (Number x.1) x.0

abbrev name_mark : ℕ × List ℕ → Mark
name_mark x = At (Name x.1) x.0

pub number_token_reads : {ends : Said → Bool} {n : ℕ} → Reads n ℕ (one number_mark) is_number ends number_token
number_token_reads = plainly_reads {of = number_of} {want = NoName} number_tells (λ x. refl)

pub placed_number_reads : {ends : Said → Bool} {n : ℕ} → Reads n (ℕ × ℕ) (one placed_mark) is_number ends placed_number
placed_number_reads = placed_reads {of = number_of} {want = NoName} number_tells (λ x. refl)

abbrev name_parts : Ident → ℕ × List ℕ
name_parts i = (i.place, i.text)

pub ident_reads : {ends : Said → Bool} {n : ℕ} → Reads n Ident (one ident) is_name ends ident_token
ident_reads = mapped_reads {spA = one name_mark} {spB = one ident} ident_of name_parts (λ x. refl) (λ i. refl) (λ i. refl) (placed_reads {of = name_of} {want = AName} name_tells (λ x. refl))
