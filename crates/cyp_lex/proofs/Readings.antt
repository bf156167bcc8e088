-- What it means that a reader gives the tree that is spelled, or stops at the first lexeme that nothing of the grammar allows.
use Rattle.std.proofs.Common.{◌≡◌, ℕ, suc, Bool, true, false, List, [], ◌∷◌, ◌++◌, Ok, Err, ◌⊎◌, inl, inr, refl, ap, length, ◌<◌, arith, length-append}
use Rattle.cyp_lex.specs.Lexemes.{Lexeme, Name, Said}
use Rattle.cyp_lex.specs.Spelling.{Mark, Match, Then}
use Rattle.cyp_lex.specs.Readers.{IsNamed, Read, Stop, heads}
use Rattle.cyp_lex.specs.declared.want.Want.{Want}
use Rattle.cyp_lex.specs.declared.want.Want.TheVariants.{AName, NoName}
use Rattle.cyp_lex.proofs.Spellings.{head_is}

abbrev pub SameHead : List Lexeme → List Lexeme → Type 0
SameHead [] [] = Unit {0}
SameHead [] (u ∷ us) = ⊥
SameHead (t ∷ ts) [] = ⊥
SameHead (t ∷ ts) (u ∷ us) = t ≡ u

abbrev pub IsNameFirst : List Lexeme → Type 0
IsNameFirst [] = ⊥
IsNameFirst (t ∷ ts) = IsNamed t

abbrev pub Next : List Lexeme → List Lexeme → Type 0
Next rest w = SameHead rest w ⊎ IsNameFirst w

-- what is not allowed where a reader stopped: its lexeme, and a name where none is allowed
abbrev pub Bars : Want → List Lexeme → List Lexeme → Type 0
Bars AName rest w = SameHead rest w
Bars NoName rest w = Next rest w

-- what is allowed there: a name where one is
abbrev pub May : Want → List Lexeme → Type 0
May n [] = Unit {0}
May AName (t ∷ ts) = IsNamed t × (ts ≡ [])
May NoName (t ∷ ts) = ⊥

pub bars_next : (n : Want) (rest w : List Lexeme) → Bars n rest w → Next rest w
bars_next AName rest w h = inl h
bars_next NoName rest w h = h

pub next_append : (b x y : List Lexeme) → Next x y → Next (b ++ x) (b ++ y)
next_append [] x y h = h
next_append (t ∷ b) x y h = inl refl

abbrev pub Avoids : (Said → Bool) → (List Lexeme → Type 0) → Type 0
Avoids ends K = (t : Lexeme) (w : List Lexeme) → K (t ∷ w) → ends t.said ≡ false

-- the lexemes at the front are spelled by x, and those of no other value unless the lexeme after them, or a name, goes on
pub record Took (A : Type 0) (spell : A → List Mark) (ends : Said → Bool) (ts : List Lexeme) (x : A) (rest : List Lexeme) : Type 1 where
  pub front : List Lexeme
  pub parts : ts ≡ front ++ rest
  pub matched : Match (spell x) front
  pub only : (K : List Lexeme → Type 0) → Avoids ends K → (w : List Lexeme) → Next rest w → (y : A) → Then (spell y) K (front ++ w) → (y ≡ x) × K w

-- the lexemes before the stop begin a spelling, and with the next lexeme none
pub record Stuck (A : Type 0) (spell : A → List Mark) (starts ends : Said → Bool) (ts : List Lexeme) (s : Stop) : Type 1 where
  pub before : List Lexeme
  pub rest : List Lexeme
  pub left : s.left ≡ length rest
  pub parts : ts ≡ before ++ rest
  pub begun : (t : Lexeme) (us : List Lexeme) → ts ≡ t ∷ us → starts t.said ≡ true → before ≡ [] → ⊥
  pub viable : (K : List Lexeme → Type 0) (k : List Lexeme) → K k → (u : List Lexeme) → May s.want u → (w : List Lexeme) × (y : A) × Then (spell y) K (before ++ (u ++ w))
  pub none : (K : List Lexeme → Type 0) → Avoids ends K → (w : List Lexeme) → Bars s.want rest w → (y : A) → Then (spell y) K (before ++ w) → ⊥

abbrev pub Sound : (A : Type 0) (spell : A → List Mark) (starts ends : Said → Bool) (ts : List Lexeme) → Read A → Type 1
Sound A spell starts ends ts (Ok x) = Took A spell ends ts x.0 x.1
Sound A spell starts ends ts (Err s) = Stuck A spell starts ends ts s

-- p is right on lists of fewer than n lexemes
pub record Reads (n : ℕ) (A : Type 0) (spell : A → List Mark) (starts ends : Said → Bool) (p : List Lexeme → Read A) : Type 1 where
  pub sound : (ts : List Lexeme) → length ts < n → Sound A spell starts ends ts (p ts)
  pub first : (x : A) (K : List Lexeme → Type 0) (t : Lexeme) (w : List Lexeme) → Then (spell x) K (t ∷ w) → starts t.said ≡ true
  pub full : (x : A) (K : List Lexeme → Type 0) → Then (spell x) K [] → ⊥
  pub some : A
  pub shown : List Lexeme
  pub is_some : Match (spell some) shown

abbrev pub Apart : (Said → Bool) → (Said → Bool) → Type 0
Apart starts ends = (k : Said) → starts k ≡ true → ends k ≡ false

pub shorter : (ts front rest : List Lexeme) (n : ℕ) → ts ≡ front ++ rest → length ts < n → length rest < n
shorter ts front rest n e h = omega (arith, ap length e, length-append front rest)

abbrev pub Within : (Said → Bool) → (Said → Bool) → Type 0
Within a b = (k : Said) → a k ≡ true → b k ≡ true

pub avoids_less : (a b : Said → Bool) (K : List Lexeme → Type 0) → Within a b → Avoids b K → Avoids a K
avoids_less a b K sub av t w k = is_false (a t.said) (b t.said) (sub t.said) (av t w k)
  where
    is_false : (x y : Bool) → (x ≡ true → y ≡ true) → y ≡ false → x ≡ false
    is_false true y h e = absurd (let is_so = h refl in cc)
    is_false false y h e = refl

-- a name is none of these lexemes, and so is what stands at the head of rest
pub no_start : (test : Said → Bool) (rest w : List Lexeme) → ((x : List ℕ) → test (Name x) ≡ false) → heads test rest ≡ false → Next rest w → (t : Lexeme) (us : List Lexeme) → w ≡ t ∷ us → test t.said ≡ true → ⊥
no_start test rest [] name head n t us e is_so = cc
no_start test [] (u ∷ w) name head (inl n) t us e is_so = n
no_start test (v ∷ rest) (u ∷ w) name head (inl n) t us e is_so =
    let same : u ≡ t = head_is u t w us e in
    cc (ap (λ (x : Lexeme). test x.said) n, ap (λ (x : Lexeme). test x.said) same, head, is_so)
no_start test rest (u ∷ w) name head (inr n) t us e is_so =
    let same : u ≡ t = head_is u t w us e in
    cc (ap test n.1, name n.0, ap (λ (x : Lexeme). test x.said) same, is_so)

pub less_reads : {A : Type 0} {sp : A → List Mark} {s f : Said → Bool} {p : List Lexeme → Read A} {n : ℕ} → Reads (suc n) A sp s f p → Reads n A sp s f p
less_reads P = record {
  sound = λ ts short. P.sound ts (omega arith);
  first = P.first;
  full = P.full;
  some = P.some;
  shown = P.shown;
  is_some = P.is_some;
}

-- no lexeme
abbrev pub none : Said → Bool
none k = false

pub nowhere : (f : Said → Bool) → Within none f
nowhere f k e = absurd cc

pub apart_none : (f : Said → Bool) → Apart f none
apart_none f k e = refl

pub within_self : (f : Said → Bool) → Within f f
within_self f k e = e
