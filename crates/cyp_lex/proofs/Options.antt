-- Readers of a part that may be left out.
use Rattle.std.proofs.Common.{◌≡◌, ℕ, suc, Bool, true, false, List, [], ◌∷◌, ◌++◌, Option, Some, None, Ok, Err, refl, sym, ap, subst, ◌∙◌, append_assoc, length, ◌<◌, arith, length-append}
use Rattle.cyp_lex.specs.Lexemes.{Lexeme, Name, Said}
use Rattle.cyp_lex.specs.Spelling.{IsEnd, Mark, Match, Then}
use Rattle.cyp_lex.specs.Readers.{Read, heads, option_after, option_by, ◌>>=◌}
use Rattle.cyp_lex.proofs.Spellings.{append_nil, head_is, match_join, nil_left, then_join, then_put, then_split}
use Rattle.cyp_lex.proofs.Readings.{Apart, Avoids, Bars, Next, Reads, Sound, Took, Within, avoids_less, bars_next, next_append, no_start}

abbrev pub spell_maybe : {B : Type 0} → (B → List Mark) → Option B → List Mark
spell_maybe g None = []
spell_maybe g (Some y) = g y

abbrev pub spell_option : {A B : Type 0} → (A → List Mark) → (B → List Mark) → A × Option B → List Mark
spell_option f g x = f x.0 ++ spell_maybe g x.1

-- what is left out doesn't begin there
left_out : {B : Type 0} (spB : B → List Mark) (sB fB : Said → Bool) (q : List Lexeme → Read B) (n : ℕ) (Q : Reads n B spB sB fB q) (b : B) (K : List Lexeme → Type 0)
    (rest w : List Lexeme) → ((x : List ℕ) → sB (Name x) ≡ false) → heads sB rest ≡ false → Next rest w → Then (spB b) K w → ⊥
left_out spB sB fB q n Q b K rest [] name head nx h = Q.full b K h
left_out spB sB fB q n Q b K rest (u ∷ w) name head nx h = no_start sB rest (u ∷ w) name head nx u w refl (Q.first b K u w h)

abbrev Same2 : {A B : Type 0} → A → B → A → B → Type 0
Same2 {A} {B} a b x y =
    let left : A × B = (a, b) in
    let right : A × B = (x, y) in
    left ≡ right

option_none : {A B : Type 0} (spA : A → List Mark) (sA fA : Said → Bool) (p : List Lexeme → Read A) (spB : B → List Mark) (sB fB f : Said → Bool) (q : List Lexeme → Read B)
    (n : ℕ) (Q : Reads n B spB sB fB q) (sep : Apart sB fA) (inA : Within fA f) (name : (x : List ℕ) → sB (Name x) ≡ false)
    (ts : List Lexeme) (x : A) (rest : List Lexeme) (h : Took A spA fA ts x rest) → heads sB rest ≡ false → Took (A × Option B) (spell_option spA spB) f ts (x, None) rest
option_none {A} {B} spA sA fA p spB sB fB f q n Q sep inA name ts x rest h head = record {
  front = h.front;
  parts = h.parts;
  matched = subst (λ (m : List Mark). Match m h.front) (sym (append_nil (spA x))) h.matched;
  only = λ K av w nx y hy. by_part K av w nx y.0 y.1 hy;
}
  where
    by_part : (K : List Lexeme → Type 0) → Avoids f K → (w : List Lexeme) → Next rest w → (a : A) (o : Option B) → Then (spell_option spA spB (a, o)) K (h.front ++ w) → Same2 a o x None × K w
    by_part K av w nx a None hy =
        let r = h.only K (avoids_less fA f K inA av) w nx a (subst (λ (m : List Mark). Then m K (h.front ++ w)) (append_nil (spA a)) hy) in
        (ap (λ (u : A). (u, None)) r.0, r.1)
    by_part K av w nx a (Some b) hy =
        let r = h.only (Then (spB b) K) (λ t us l. sep t.said (Q.first b K t us l)) w nx a (then_split (spA a) (spB b) K (h.front ++ w) hy) in
        absurd (left_out spB sB fB q n Q b K rest w name head nx r.1)

option_ok : {A B : Type 0} (spA : A → List Mark) (sA fA : Said → Bool) (p : List Lexeme → Read A) (spB : B → List Mark) (sB fB f : Said → Bool) (q : List Lexeme → Read B)
    (n : ℕ) (P : Reads (suc n) A spA sA fA p) (Q : Reads n B spB sB fB q) (sep : Apart sB fA) (inA : Within fA f) (inB : Within fB f) (inS : Within sB f)
    (ts : List Lexeme) (x : A) (t : Lexeme) (rest : List Lexeme) (h : Took A spA fA ts x (t ∷ rest)) → sB t.said ≡ true
    → (r : Read B) → Sound B spB sB fB (t ∷ rest) r → Sound (A × Option B) (spell_option spA spB) sA f ts (r >>= λ y. Ok ((x, Some y.0), y.1))
option_ok {A} {B} spA sA fA p spB sB fB f q n P Q sep inA inB inS ts x t rest h starts (Ok y) g = record {
  front = h.front ++ g.front;
  parts = h.parts ∙ ap (λ (w : List Lexeme). h.front ++ w) g.parts ∙ sym (append_assoc h.front g.front y.1);
  matched = match_join (spA x) (spB y.0) h.front g.front h.matched g.matched;
  only = λ K av w nx z hz. by_part K av w nx z.0 z.1 (subst (λ (v : List Lexeme). Then (spell_option spA spB z) K v) (append_assoc h.front g.front w) hz);
}
  where
    next : (w : List Lexeme) → Next y.1 w → Next (t ∷ rest) (g.front ++ w)
    next w nx = subst (λ (v : List Lexeme). Next v (g.front ++ w)) (sym g.parts) (next_append g.front y.1 w nx)

    -- K begins with no lexeme of the part
    no_part : (K : List Lexeme → Type 0) → Avoids f K → (w : List Lexeme) → K (g.front ++ w) → ⊥
    no_part K av w k = begins g.front g.parts g.matched k
      where
        begins : (front : List Lexeme) → (t ∷ rest) ≡ front ++ y.1 → Match (spB y.0) front → K (front ++ w) → ⊥
        begins [] e m k = Q.full y.0 IsEnd m
        begins (u ∷ front) e m k =
            let same : t ≡ u = head_is t u rest (front ++ y.1) e in
            cc (inS t.said starts, av u (front ++ w) k, ap (λ (v : Lexeme). f v.said) same)

    by_part : (K : List Lexeme → Type 0) → Avoids f K → (w : List Lexeme) → Next y.1 w → (a : A) (o : Option B) → Then (spell_option spA spB (a, o)) K (h.front ++ (g.front ++ w)) → Same2 a o x (Some y.0) × K w
    by_part K av w nx a None hy =
        let r = h.only K (avoids_less fA f K inA av) (g.front ++ w) (next w nx) a (subst (λ (m : List Mark). Then m K (h.front ++ (g.front ++ w))) (append_nil (spA a)) hy) in
        absurd (no_part K av w r.1)
    by_part K av w nx a (Some b) hy =
        let r = h.only (Then (spB b) K) (λ t us l. sep t.said (Q.first b K t us l)) (g.front ++ w) (next w nx) a (then_split (spA a) (spB b) K (h.front ++ (g.front ++ w)) hy) in
        let s = g.only K (avoids_less fB f K inB av) w nx b r.1 in
        (ap (λ (u : A). (u, Some b)) r.0 ∙ ap (λ (v : B). (x, Some v)) s.0, s.1)
option_ok {A} {B} spA sA fA p spB sB fB f q n P Q sep inA inB inS ts x t rest h starts (Err s) g = record {
  before = h.front ++ g.before;
  rest = g.rest;
  left = g.left;
  parts = h.parts ∙ ap (λ (w : List Lexeme). h.front ++ w) g.parts ∙ sym (append_assoc h.front g.before g.rest);
  begun = λ u us e st nil. P.full x IsEnd (subst (λ (v : List Lexeme). Match (spA x) v) (nil_left h.front g.before nil) h.matched);
  viable = λ K k kk u m.
      let v = g.viable K k kk u m in
      let put = then_join (spA x) (spB v.1) K (h.front ++ (g.before ++ (u ++ v.0))) (then_put (spA x) (Then (spB v.1) K) h.front (g.before ++ (u ++ v.0)) h.matched v.2) in
      (v.0, (x, Some v.1), subst (λ (w : List Lexeme). Then (spA x ++ spB v.1) K w) (sym (append_assoc h.front g.before (u ++ v.0))) put);
  none = λ K av w b z hz. by_part K av w b z.0 z.1 (subst (λ (v : List Lexeme). Then (spell_option spA spB z) K v) (append_assoc h.front g.before w) hz);
}
  where
    next : (w : List Lexeme) → Bars s.want g.rest w → Next (t ∷ rest) (g.before ++ w)
    next w b = subst (λ (v : List Lexeme). Next v (g.before ++ w)) (sym g.parts) (next_append g.before g.rest w (bars_next s.want g.rest w b))

    no_part : (K : List Lexeme → Type 0) → Avoids f K → (w : List Lexeme) → K (g.before ++ w) → ⊥
    no_part K av w k = begins g.before g.parts (g.begun t rest refl starts) k
      where
        begins : (front : List Lexeme) → (t ∷ rest) ≡ front ++ g.rest → (front ≡ [] → ⊥) → K (front ++ w) → ⊥
        begins [] e m k = m refl
        begins (u ∷ front) e m k =
            let same : t ≡ u = head_is t u rest (front ++ g.rest) e in
            cc (inS t.said starts, av u (front ++ w) k, ap (λ (v : Lexeme). f v.said) same)

    by_part : (K : List Lexeme → Type 0) → Avoids f K → (w : List Lexeme) → Bars s.want g.rest w → (a : A) (o : Option B) → Then (spell_option spA spB (a, o)) K (h.front ++ (g.before ++ w)) → ⊥
    by_part K av w b a None hy =
        let r = h.only K (avoids_less fA f K inA av) (g.before ++ w) (next w b) a (subst (λ (m : List Mark). Then m K (h.front ++ (g.before ++ w))) (append_nil (spA a)) hy) in
        no_part K av w r.1
    by_part K av w b a (Some c) hy =
        let r = h.only (Then (spB c) K) (λ t us l. sep t.said (Q.first c K t us l)) (g.before ++ w) (next w b) a (then_split (spA a) (spB c) K (h.front ++ (g.before ++ w)) hy) in
        g.none K (avoids_less fB f K inB av) w b c r.1

option_step : {A B : Type 0} (spA : A → List Mark) (sA fA : Said → Bool) (p : List Lexeme → Read A) (spB : B → List Mark) (sB fB f : Said → Bool) (q : List Lexeme → Read B)
    (n : ℕ) (P : Reads (suc n) A spA sA fA p) (Q : Reads n B spB sB fB q) (sep : Apart sB fA) (inA : Within fA f) (inB : Within fB f) (inS : Within sB f) (name : (x : List ℕ) → sB (Name x) ≡ false)
    (ts : List Lexeme) (short : length ts < suc n) (x : A) (rest : List Lexeme) (h : Took A spA fA ts x rest) (b : Bool) → heads sB rest ≡ b → Sound (A × Option B) (spell_option spA spB) sA f ts (option_by x rest q b)
option_step spA sA fA p spB sB fB f q n P Q sep inA inB inS name ts short x rest h false e = option_none spA sA fA p spB sB fB f q n Q sep inA name ts x rest h e
option_step spA sA fA p spB sB fB f q n P Q sep inA inB inS name ts short x [] h true e = absurd cc
option_step spA sA fA p spB sB fB f q n P Q sep inA inB inS name ts short x (t ∷ rest) h true e =
    option_ok spA sA fA p spB sB fB f q n P Q sep inA inB inS ts x t rest h e (q (t ∷ rest)) (Q.sound (t ∷ rest) (took_less h.front h.parts h.matched))
  where
    took_less : (front : List Lexeme) → ts ≡ front ++ (t ∷ rest) → Match (spA x) front → length (t ∷ rest) < n
    took_less [] e m = absurd (P.full x IsEnd m)
    took_less (u ∷ front) e m = omega (arith, ap length e, length-append (u ∷ front) (t ∷ rest), short)

option_any : {A B : Type 0} (spA : A → List Mark) (sA fA : Said → Bool) (p : List Lexeme → Read A) (spB : B → List Mark) (sB fB f : Said → Bool) (q : List Lexeme → Read B)
    (n : ℕ) (P : Reads (suc n) A spA sA fA p) (Q : Reads n B spB sB fB q) (sep : Apart sB fA) (inA : Within fA f) (inB : Within fB f) (inS : Within sB f) (name : (x : List ℕ) → sB (Name x) ≡ false)
    (ts : List Lexeme) (short : length ts < suc n) (r : Read A) → Sound A spA sA fA ts r → Sound (A × Option B) (spell_option spA spB) sA f ts (r >>= λ x. option_by x.0 x.1 q (heads sB x.1))
option_any spA sA fA p spB sB fB f q n P Q sep inA inB inS name ts short (Ok x) h = option_step spA sA fA p spB sB fB f q n P Q sep inA inB inS name ts short x.0 x.1 h (heads sB x.1) refl
option_any {A} {B} spA sA fA p spB sB fB f q n P Q sep inA inB inS name ts short (Err s) h = record {
  before = h.before;
  rest = h.rest;
  left = h.left;
  parts = h.parts;
  begun = h.begun;
  viable = λ K k kk u m.
      let v = h.viable K k kk u m in
      (v.0, (v.1, None), subst (λ (m : List Mark). Then m K (h.before ++ (u ++ v.0))) (sym (append_nil (spA v.1))) v.2);
  none = λ K av w b z hz. by_part K av w b z.0 z.1 hz;
}
  where
    by_part : (K : List Lexeme → Type 0) → Avoids f K → (w : List Lexeme) → Bars s.want h.rest w → (a : A) (o : Option B) → Then (spell_option spA spB (a, o)) K (h.before ++ w) → ⊥
    by_part K av w b a None hy = h.none K (avoids_less fA f K inA av) w b a (subst (λ (m : List Mark). Then m K (h.before ++ w)) (append_nil (spA a)) hy)
    by_part K av w b a (Some c) hy = h.none (Then (spB c) K) (λ t us l. sep t.said (Q.first c K t us l)) w b a (then_split (spA a) (spB c) K (h.before ++ w) hy)

pub option_reads : {A B : Type 0} {spA : A → List Mark} {sA fA : Said → Bool} {p : List Lexeme → Read A} {spB : B → List Mark} {sB fB f : Said → Bool} {q : List Lexeme → Read B} {n : ℕ}
    → Reads (suc n) A spA sA fA p → Reads n B spB sB fB q → Apart sB fA → Within fA f → Within fB f → Within sB f → ((x : List ℕ) → sB (Name x) ≡ false)
    → Reads (suc n) (A × Option B) (spell_option spA spB) sA f (option_after sB p q)
option_reads {A} {B} {spA} {sA} {fA} {p} {spB} {sB} {fB} {f} {q} {n} P Q sep inA inB inS name = record {
  sound = λ ts short. option_any spA sA fA p spB sB fB f q n P Q sep inA inB inS name ts short (p ts) (P.sound ts short);
  first = λ x K t w h. P.first x.0 (Then (spell_maybe spB x.1) K) t w (then_split (spA x.0) (spell_maybe spB x.1) K (t ∷ w) h);
  full = λ x K h. P.full x.0 (Then (spell_maybe spB x.1) K) (then_split (spA x.0) (spell_maybe spB x.1) K [] h);
  some = (P.some, None);
  shown = P.shown;
  is_some = subst (λ (m : List Mark). Match m P.shown) (sym (append_nil (spA P.some))) P.is_some;
}
