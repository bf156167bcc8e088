-- Readers of the same under other trees, and readers after which no lexeme may stand that would go on.
use Rattle.std.proofs.Common.{◌≡◌, ℕ, Bool, true, false, List, [], ◌∷◌, ◌++◌, Ok, Err, inl, inr, refl, sym, ap, subst, ◌∙◌}
use Rattle.cyp_lex.specs.Lexemes.{Lexeme, Name, Said}
use Rattle.cyp_lex.specs.Spelling.{IsEnd, Mark, Match, Then}
use Rattle.cyp_lex.specs.Readers.{Read, closed, closed_by, heads, mapped, ◌>>=◌}
use Rattle.cyp_lex.specs.declared.want.Want.TheVariants.{NoName}
use Rattle.cyp_lex.proofs.Spellings.{then_put}
use Rattle.cyp_lex.proofs.Readings.{Avoids, May, Next, Reads, Sound, Took, Within}

pub mapped_reads : {A B : Type 0} {spA : A → List Mark} {s f : Said → Bool} {p : List Lexeme → Read A} {spB : B → List Mark} {n : ℕ} (to : A → B) (back : B → A)
    → ((x : A) → back (to x) ≡ x) → ((y : B) → to (back y) ≡ y) → ((y : B) → spB y ≡ spA (back y)) → Reads n A spA s f p → Reads n B spB s f (mapped to p)
mapped_reads {A} {B} {spA} {s} {f} {p} {spB} {n} to back there again same P = record {
  sound = λ ts short. of ts (p ts) (P.sound ts short);
  first = λ y K t w h. P.first (back y) K t w (turn y K (t ∷ w) h);
  full = λ y K h. P.full (back y) K (turn y K [] h);
  some = to P.some;
  shown = P.shown;
  is_some = put P.some IsEnd P.shown P.is_some;
}
  where
    turn : (y : B) (K : List Lexeme → Type 0) (w : List Lexeme) → Then (spB y) K w → Then (spA (back y)) K w
    turn y K w h = subst (λ (m : List Mark). Then m K w) (same y) h

    put : (x : A) (K : List Lexeme → Type 0) (w : List Lexeme) → Then (spA x) K w → Then (spB (to x)) K w
    put x K w h = subst (λ (m : List Mark). Then m K w) (sym (same (to x) ∙ ap spA (there x))) h

    of : (ts : List Lexeme) (r : Read A) → Sound A spA s f ts r → Sound B spB s f ts (r >>= λ x. Ok (to x.0, x.1))
    of ts (Ok x) h = record {
      front = h.front;
      parts = h.parts;
      matched = put x.0 IsEnd h.front h.matched;
      only = λ K av w nx y hy.
          let a = h.only K av w nx (back y) (turn y K (h.front ++ w) hy) in
          (sym (again y) ∙ ap to a.0, a.1);
    }
    of ts (Err e) h = record {
      before = h.before;
      rest = h.rest;
      left = h.left;
      parts = h.parts;
      begun = h.begun;
      viable = λ K k kk u m.
          let v = h.viable K k kk u m in
          (v.0, to v.1, put v.1 K (h.before ++ (u ++ v.0)) v.2);
      none = λ K av w b y hy. h.none K av w b (back y) (turn y K (h.before ++ w) hy);
    }

-- ---- no lexeme that would go on

closed_sound : {A : Type 0} (sp : A → List Mark) (s f test : Said → Bool) (p : List Lexeme → Read A) (n : ℕ) (P : Reads n A sp s f p)
    (sub : Within test f) (name : (x : List ℕ) → f (Name x) ≡ true) (ts : List Lexeme) (x : A) (rest : List Lexeme) (h : Took A sp f ts x rest) (b : Bool) → heads test rest ≡ b → Sound A sp s f ts (closed_by x rest b)
closed_sound sp s f test p n P sub name ts x rest h false e = h
closed_sound sp s f test p n P sub name ts x [] h true e = absurd cc
closed_sound sp s f test p n P sub name ts x (t ∷ rest) h true e = record {
  before = h.front;
  rest = t ∷ rest;
  left = refl;
  parts = h.parts;
  begun = λ u us eq st nil. P.full x IsEnd (subst (λ (v : List Lexeme). Match (sp x) v) nil h.matched);
  viable = λ K k kk u m. (k, x, plain K k kk u m);
  none = λ K av w b y hy. bar K av w b (h.only K av w b y hy).1;
}
  where
    plain : (K : List Lexeme → Type 0) (k : List Lexeme) → K k → (u : List Lexeme) → May NoName u → Then (sp x) K (h.front ++ (u ++ k))
    plain K k kk [] m = then_put (sp x) K h.front k h.matched kk
    plain K k kk (u ∷ us) m = absurd m

    bar : (K : List Lexeme → Type 0) → Avoids f K → (w : List Lexeme) → Next (t ∷ rest) w → K w → ⊥
    bar K av [] (inl b) k = b
    bar K av [] (inr b) k = b
    bar K av (u ∷ w) (inr b) k = cc (av u w k, name b.0, ap f b.1)
    bar K av (u ∷ w) (inl b) k =
        let is_so : f t.said ≡ true = sub t.said e in
        let not_so : f u.said ≡ false = av u w k in
        cc (is_so, not_so, ap (λ (v : Lexeme). f v.said) b)

closed_any : {A : Type 0} (sp : A → List Mark) (s f test : Said → Bool) (p : List Lexeme → Read A) (n : ℕ) (P : Reads n A sp s f p)
    (sub : Within test f) (name : (x : List ℕ) → f (Name x) ≡ true) (ts : List Lexeme) (r : Read A) → Sound A sp s f ts r → Sound A sp s f ts (r >>= λ x. closed_by x.0 x.1 (heads test x.1))
closed_any sp s f test p n P sub name ts (Ok x) h = closed_sound sp s f test p n P sub name ts x.0 x.1 h (heads test x.1) refl
closed_any sp s f test p n P sub name ts (Err e) h = h

pub closed_reads : {A : Type 0} {sp : A → List Mark} {s f test : Said → Bool} {p : List Lexeme → Read A} {n : ℕ} → Reads n A sp s f p
    → Within test f → ((x : List ℕ) → f (Name x) ≡ true) → Reads n A sp s f (closed test p)
closed_reads {A} {sp} {s} {f} {test} {p} {n} P sub name = record {
  sound = λ ts short. closed_any sp s f test p n P sub name ts (p ts) (P.sound ts short);
  first = P.first;
  full = P.full;
  some = P.some;
  shown = P.shown;
  is_some = P.is_some;
}
