-- Readers of one thing after another.
use Rattle.std.proofs.Common.{◌≡◌, ℕ, suc, Bool, List, [], ◌∷◌, ◌++◌, Ok, Err, sym, ap, subst, ◌∙◌, append_assoc, length, ◌<◌, arith, length-append}
use Rattle.cyp_lex.specs.Lexemes.{Lexeme, Said}
use Rattle.cyp_lex.specs.Spelling.{IsEnd, Mark, Match, Then}
use Rattle.cyp_lex.specs.Readers.{Read, both, ◌>>=◌}
use Rattle.cyp_lex.proofs.Spellings.{match_join, nil_left, then_join, then_put, then_split}
use Rattle.cyp_lex.proofs.Readings.{Apart, Next, Reads, Sound, Took, bars_next, less_reads, next_append, shorter}

abbrev pub spell_both : {A B : Type 0} → (A → List Mark) → (B → List Mark) → A × B → List Mark
spell_both f g x = f x.0 ++ g x.1

pub pair_is : {A B : Type 0} (z : A × B) (a : A) (b : B) → z.0 ≡ a → z.1 ≡ b → z ≡ (a, b)
pair_is {A} {B} z a b p q = ap (λ (u : A). (u, z.1)) p ∙ ap (λ (v : B). (a, v)) q

pub both_ok : {A B : Type 0} (spA : A → List Mark) (sA fA : Said → Bool) (p : List Lexeme → Read A) (spB : B → List Mark) (sB fB : Said → Bool) (q : List Lexeme → Read B)
    (n : ℕ) (P : Reads n A spA sA fA p) (Q : Reads n B spB sB fB q) (sep : Apart sB fA) (ts : List Lexeme) (x : A) (rest : List Lexeme) (h : Took A spA fA ts x rest)
    (r : Read B) → Sound B spB sB fB rest r → Sound (A × B) (spell_both spA spB) sA fB ts (r >>= λ y. Ok ((x, y.0), y.1))
both_ok spA sA fA p spB sB fB q n P Q sep ts x rest h (Ok y) g = record {
  front = h.front ++ g.front;
  parts = h.parts ∙ ap (λ (w : List Lexeme). h.front ++ w) g.parts ∙ sym (append_assoc h.front g.front y.1);
  matched = match_join (spA x) (spB y.0) h.front g.front h.matched g.matched;
  only = λ K av w n z hz.
      let moved : Then (spA z.0 ++ spB z.1) K (h.front ++ (g.front ++ w)) = subst (λ (v : List Lexeme). Then (spA z.0 ++ spB z.1) K v) (append_assoc h.front g.front w) hz in
      let next : Next rest (g.front ++ w) = subst (λ (v : List Lexeme). Next v (g.front ++ w)) (sym g.parts) (next_append g.front y.1 w n) in
      let a = h.only (Then (spB z.1) K) (λ t us l. sep t.said (Q.first z.1 K t us l)) (g.front ++ w) next z.0 (then_split (spA z.0) (spB z.1) K (h.front ++ (g.front ++ w)) moved) in
      let b = g.only K av w n z.1 a.1 in
      (pair_is z x y.0 a.0 b.0, b.1);
}
both_ok spA sA fA p spB sB fB q n P Q sep ts x rest h (Err s) g = record {
  before = h.front ++ g.before;
  rest = g.rest;
  left = g.left;
  parts = h.parts ∙ ap (λ (w : List Lexeme). h.front ++ w) g.parts ∙ sym (append_assoc h.front g.before g.rest);
  begun = λ t us e st nil. P.full x IsEnd (subst (λ (f : List Lexeme). Match (spA x) f) (nil_left h.front g.before nil) h.matched);
  viable = λ K k0 k u m.
      let v = g.viable K k0 k u m in
      let put = then_join (spA x) (spB v.1) K (h.front ++ (g.before ++ (u ++ v.0))) (then_put (spA x) (Then (spB v.1) K) h.front (g.before ++ (u ++ v.0)) h.matched v.2) in
      (v.0, (x, v.1), subst (λ (w : List Lexeme). Then (spA x ++ spB v.1) K w) (sym (append_assoc h.front g.before (u ++ v.0))) put);
  none = λ K av w b z hz.
      let moved : Then (spA z.0 ++ spB z.1) K (h.front ++ (g.before ++ w)) = subst (λ (v : List Lexeme). Then (spA z.0 ++ spB z.1) K v) (append_assoc h.front g.before w) hz in
      let next : Next rest (g.before ++ w) = subst (λ (v : List Lexeme). Next v (g.before ++ w)) (sym g.parts) (next_append g.before g.rest w (bars_next s.want g.rest w b)) in
      let a = h.only (Then (spB z.1) K) (λ t us l. sep t.said (Q.first z.1 K t us l)) (g.before ++ w) next z.0 (then_split (spA z.0) (spB z.1) K (h.front ++ (g.before ++ w)) moved) in
      g.none K av w b z.1 a.1;
}

both_sound : {A B : Type 0} (spA : A → List Mark) (sA fA : Said → Bool) (p : List Lexeme → Read A) (spB : B → List Mark) (sB fB : Said → Bool) (q : List Lexeme → Read B)
    (n : ℕ) (P : Reads n A spA sA fA p) (Q : Reads n B spB sB fB q) (sep : Apart sB fA) (ts : List Lexeme) (short : length ts < n)
    (r : Read A) → Sound A spA sA fA ts r → Sound (A × B) (spell_both spA spB) sA fB ts (r >>= λ x. q x.1 >>= λ y. Ok ((x.0, y.0), y.1))
both_sound spA sA fA p spB sB fB q n P Q sep ts short (Ok x) h = both_ok spA sA fA p spB sB fB q n P Q sep ts x.0 x.1 h (q x.1) (Q.sound x.1 (shorter ts h.front x.1 n h.parts short))
both_sound spA sA fA p spB sB fB q n P Q sep ts short (Err s) h = record {
  before = h.before;
  rest = h.rest;
  left = h.left;
  parts = h.parts;
  begun = h.begun;
  viable = λ K k0 k u m.
      let v = h.viable (Then (spB Q.some) K) (Q.shown ++ k0) (then_put (spB Q.some) K Q.shown k0 Q.is_some k) u m in
      (v.0, (v.1, Q.some), then_join (spA v.1) (spB Q.some) K (h.before ++ (u ++ v.0)) v.2);
  none = λ K av w b z hz. h.none (Then (spB z.1) K) (λ t us l. sep t.said (Q.first z.1 K t us l)) w b z.0 (then_split (spA z.0) (spB z.1) K (h.before ++ w) hz);
}

-- the first of two parts has a lexeme
first_of_both : (a b : List Mark) (K : List Lexeme → Type 0) (P : Type 0) (ts : List Lexeme) → (Then a (Then b K) ts → P) → Then (a ++ b) K ts → P
first_of_both a b K P ts f h = f (then_split a b K ts h)

pub both_reads : {A B : Type 0} {spA : A → List Mark} {sA fA : Said → Bool} {p : List Lexeme → Read A} {spB : B → List Mark} {sB fB : Said → Bool} {q : List Lexeme → Read B} {n : ℕ}
    → Reads n A spA sA fA p → Reads n B spB sB fB q → Apart sB fA → Reads n (A × B) (spell_both spA spB) sA fB (both p q)
both_reads {A} {B} {spA} {sA} {fA} {p} {spB} {sB} {fB} {q} {n} P Q sep = record {
  sound = λ ts short. both_sound spA sA fA p spB sB fB q n P Q sep ts short (p ts) (P.sound ts short);
  first = λ x K t w h. P.first x.0 (Then (spB x.1) K) t w (then_split (spA x.0) (spB x.1) K (t ∷ w) h);
  full = λ x K h. P.full x.0 (Then (spB x.1) K) (then_split (spA x.0) (spB x.1) K [] h);
  some = (P.some, Q.some);
  shown = P.shown ++ Q.shown;
  is_some = match_join (spA P.some) (spB Q.some) P.shown Q.shown P.is_some Q.is_some;
}

-- the second part is read where fewer lexemes are left
pub then_reads : {A B : Type 0} {spA : A → List Mark} {sA fA : Said → Bool} {p : List Lexeme → Read A} {spB : B → List Mark} {sB fB : Said → Bool} {q : List Lexeme → Read B} {n : ℕ}
    → Reads (suc n) A spA sA fA p → Reads n B spB sB fB q → Apart sB fA → Reads (suc n) (A × B) (spell_both spA spB) sA fB (both p q)
then_reads {A} {B} {spA} {sA} {fA} {p} {spB} {sB} {fB} {q} {n} P Q sep = record {
  sound = λ ts short. step ts short (p ts) (P.sound ts short);
  first = λ x K t w h. P.first x.0 (Then (spB x.1) K) t w (then_split (spA x.0) (spB x.1) K (t ∷ w) h);
  full = λ x K h. P.full x.0 (Then (spB x.1) K) (then_split (spA x.0) (spB x.1) K [] h);
  some = (P.some, Q.some);
  shown = P.shown ++ Q.shown;
  is_some = match_join (spA P.some) (spB Q.some) P.shown Q.shown P.is_some Q.is_some;
}
  where
    fewer : (ts : List Lexeme) (x : A) (rest front : List Lexeme) → length ts < suc n → ts ≡ front ++ rest → Match (spA x) front → length rest < n
    fewer ts x rest [] short e m = absurd (P.full x IsEnd m)
    fewer ts x rest (u ∷ front) short e m = omega (arith, ap length e, length-append (u ∷ front) rest, short)

    step : (ts : List Lexeme) → length ts < suc n → (r : Read A) → Sound A spA sA fA ts r → Sound (A × B) (spell_both spA spB) sA fB ts (r >>= λ x. q x.1 >>= λ y. Ok ((x.0, y.0), y.1))
    step ts short (Ok x) h = both_ok spA sA fA p spB sB fB q n (less_reads P) Q sep ts x.0 x.1 h (q x.1) (Q.sound x.1 (fewer ts x.0 x.1 h.front short h.parts h.matched))
    step ts short (Err s) h = record {
      before = h.before;
      rest = h.rest;
      left = h.left;
      parts = h.parts;
      begun = h.begun;
      viable = λ K k0 k u m.
          let v = h.viable (Then (spB Q.some) K) (Q.shown ++ k0) (then_put (spB Q.some) K Q.shown k0 Q.is_some k) u m in
          (v.0, (v.1, Q.some), then_join (spA v.1) (spB Q.some) K (h.before ++ (u ++ v.0)) v.2);
      none = λ K av w b z hz. h.none (Then (spB z.1) K) (λ t us l. sep t.said (Q.first z.1 K t us l)) w b z.0 (then_split (spA z.0) (spB z.1) K (h.before ++ w) hz);
    }
