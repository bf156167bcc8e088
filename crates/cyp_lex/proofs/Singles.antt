-- Readers of one lexeme.
use Rattle.std.proofs.Common.{◌≡◌, ℕ, Bool, true, List, [], ◌∷◌, ◌++◌, Option, Some, None, inl, inr, refl, sym, ap, subst, ◌∙◌}
use Rattle.cyp_lex.specs.Lexemes.{Lexeme, Said}
use Rattle.cyp_lex.specs.Spelling.{Fits, Mark, Then}
use Rattle.cyp_lex.specs.Readers.{IsNamed, single, token_or}
use Rattle.cyp_lex.specs.declared.want.Want.{Want}
use Rattle.cyp_lex.specs.declared.want.Want.TheVariants.{AName, NoName}
use Rattle.cyp_lex.proofs.Spellings.{head_is}
use Rattle.cyp_lex.proofs.Readings.{Bars, May, Reads, Sound}

-- what is said of names where a lexeme is refused
abbrev pub Says : {A : Type 0} → (Lexeme → Option A) → Want → Type 0
Says {A} tells AName = (t : Lexeme) → IsNamed t → (a : A) × (tells t ≡ Some a)
Says {A} tells NoName = (t : Lexeme) (a : A) → IsNamed t → tells t ≡ Some a → ⊥

pub record IsSingle (A : Type 0) (tells : Lexeme → Option A) (mark : A → Mark) (starts : Said → Bool) (want : Want) : Type 0 where
  pub fits : (t : Lexeme) (a : A) → tells t ≡ Some a → Fits (mark a) t
  pub only : (t : Lexeme) (a : A) → Fits (mark a) t → tells t ≡ Some a
  pub starts_true : (t : Lexeme) (a : A) → tells t ≡ Some a → starts t.said ≡ true
  pub starts_some : (t : Lexeme) → starts t.said ≡ true → tells t ≡ None → ⊥
  pub says : Says tells want
  pub token : Lexeme
  pub value : A
  pub shows : tells token ≡ Some value

abbrev pub one : {A : Type 0} → (A → Mark) → A → List Mark
one mark a = mark a ∷ []

single_viable : {A : Type 0} (tells : Lexeme → Option A) (mark : A → Mark) (starts : Said → Bool) (want : Want) (S : IsSingle A tells mark starts want)
    (n : Want) → Says tells n → (K : List Lexeme → Type 0) (k : List Lexeme) → K k → (u : List Lexeme) → May n u → (w : List Lexeme) × (y : A) × Then (one mark y) K (u ++ w)
single_viable tells mark starts want S n says K k h [] m = (S.token ∷ k, S.value, (S.fits S.token S.value S.shows, h))
single_viable tells mark starts want S AName says K k h (t ∷ us) m =
    let a = says t m.0 in
    (k, a.0, (S.fits t a.0 a.1, subst (λ (v : List Lexeme). K (v ++ k)) (sym m.1) h))
single_viable tells mark starts want S NoName says K k h (t ∷ us) m = absurd m

single_none : {A : Type 0} (tells : Lexeme → Option A) (mark : A → Mark) (starts : Said → Bool) (want : Want) (S : IsSingle A tells mark starts want)
    (n : Want) → Says tells n → (ts : List Lexeme) → ((t : Lexeme) (us : List Lexeme) → ts ≡ t ∷ us → tells t ≡ None)
    → (K : List Lexeme → Type 0) (w : List Lexeme) → Bars n ts w → (y : A) → Then (one mark y) K w → ⊥
single_none tells mark starts want S n says ts none_of K [] b y h = h
single_none tells mark starts want S AName says [] none_of K (u ∷ w) b y h = b
single_none tells mark starts want S AName says (t ∷ ts) none_of K (u ∷ w) b y h =
    let e : tells t ≡ None = none_of t ts refl in
    let f = S.only u y h.0 in
    cc (e, f, ap tells b)
single_none tells mark starts want S NoName says ts none_of K (u ∷ w) (inr b) y h = says u y b (S.only u y h.0)
single_none tells mark starts want S NoName says [] none_of K (u ∷ w) (inl b) y h = b
single_none tells mark starts want S NoName says (t ∷ ts) none_of K (u ∷ w) (inl b) y h =
    let e : tells t ≡ None = none_of t ts refl in
    let f = S.only u y h.0 in
    cc (e, f, ap tells b)

abbrev pub some_of : {A : Type 0} → A → Option A
some_of x = Some x

pub some_is : {A : Type 0} (x y : A) → some_of x ≡ some_of y → x ≡ y
some_is x y e = cc

single_sound : {A : Type 0} (tells : Lexeme → Option A) (mark : A → Mark) (starts ends : Said → Bool) (want : Want) (S : IsSingle A tells mark starts want)
    (t : Lexeme) (ts : List Lexeme) (o : Option A) → tells t ≡ o → Sound A (one mark) starts ends (t ∷ ts) (token_or o want t ts)
single_sound tells mark starts ends want S t ts None e = record {
  before = [];
  rest = t ∷ ts;
  left = refl;
  parts = refl;
  begun = λ u us eq st nil. S.starts_some t (subst (λ (v : Lexeme). starts v.said ≡ true) (sym (head_is t u ts us eq)) st) e;
  viable = λ K k h u m. single_viable tells mark starts want S want S.says K k h u m;
  none = λ K av w b y h. single_none tells mark starts want S want S.says (t ∷ ts) (λ u us eq. ap tells (sym (head_is t u ts us eq)) ∙ e) K w b y h;
}
single_sound tells mark starts ends want S t ts (Some a) e = record {
  front = t ∷ [];
  parts = refl;
  matched = (S.fits t a e, refl);
  only = λ K av w n y h. (some_is y a (sym (S.only t y h.0) ∙ e), h.1);
}

pub single_reads : {A : Type 0} {tells : Lexeme → Option A} {mark : A → Mark} {starts : Said → Bool} {want : Want} {ends : Said → Bool} {n : ℕ}
    → IsSingle A tells mark starts want → Reads n A (one mark) starts ends (single tells want)
single_reads {A} {tells} {mark} {starts} {want} {ends} {n} S = record {
  sound = λ ts short. all ts;
  first = λ x K t w h. S.starts_true t x (S.only t x h.0);
  full = λ x K h. h;
  some = S.value;
  shown = S.token ∷ [];
  is_some = (S.fits S.token S.value S.shows, refl);
}
  where
    all : (ts : List Lexeme) → Sound A (one mark) starts ends ts (single tells want ts)
    all [] = record {
      before = [];
      rest = [];
      left = refl;
      parts = refl;
      begun = λ u us eq st nil. cc;
      viable = λ K k h u m. single_viable tells mark starts want S want S.says K k h u m;
      none = λ K av w b y h. single_none tells mark starts want S want S.says [] (λ u us eq. absurd cc) K w b y h;
    }
    all (t ∷ ts) = single_sound tells mark starts ends want S t ts (tells t) refl
