-- Readers of one of two things.
use Rattle.std.proofs.Common.{◌≡◌, ℕ, Bool, true, false, List, [], ◌∷◌, ◌++◌, Ok, Err, ◌⊎◌, inl, inr, refl, sym, ap, subst, length, ◌<◌}
use Rattle.cyp_lex.specs.Lexemes.{Lexeme, Name, Said}
use Rattle.cyp_lex.specs.Spelling.{IsEnd, Mark, Match, Then}
use Rattle.cyp_lex.specs.Readers.{IsNamed, Read, either, either_by, heads, pick_by, ◌>>=◌}
use Rattle.cyp_lex.specs.declared.want.Want.{Want}
use Rattle.cyp_lex.specs.declared.want.Want.TheVariants.{AName, NoName}
use Rattle.cyp_lex.proofs.Spellings.{head_is, then_put}
use Rattle.cyp_lex.proofs.Readings.{Avoids, Bars, May, Next, Reads, Sound, Within, avoids_less, bars_next, next_append}

abbrev pub spell_either : {A B : Type 0} → (A → List Mark) → (B → List Mark) → A ⊎ B → List Mark
spell_either f g (inl x) = f x
spell_either f g (inr y) = g y

-- what is said of names where neither begins
abbrev pub SaysStart : {A : Type 0} → (A → List Mark) → (Said → Bool) → Want → Type 0
SaysStart {A} sp starts AName = (t : Lexeme) → IsNamed t → (y : A) × (w : List Lexeme) × Match (sp y) (t ∷ w)
SaysStart {A} sp starts NoName = ((x : List ℕ) → starts (Name x) ≡ false)

-- the choice is right: where a lexeme of the two stands, the one that is chosen begins with it, and the other doesn't begin so
pub record IsChoice (A B : Type 0) (spA : A → List Mark) (sA : Said → Bool) (spB : B → List Mark) (sB : Said → Bool) (want : Want) (starts : Said → Bool) (pick : List Lexeme → Bool) : Type 1 where
  pub takes_left : (t : Lexeme) (us : List Lexeme) → starts t.said ≡ true → pick (t ∷ us) ≡ true → sA t.said ≡ true
  pub takes_right : (t : Lexeme) (us : List Lexeme) → starts t.said ≡ true → pick (t ∷ us) ≡ false → sB t.said ≡ true
  pub in_left : Within sA starts
  pub in_right : Within sB starts
  pub not_right : (t : Lexeme) (us w : List Lexeme) → starts t.said ≡ true → pick (t ∷ us) ≡ true → Next us w → (y : B) (K : List Lexeme → Type 0) → Then (spB y) K (t ∷ w) → ⊥
  pub not_left : (t : Lexeme) (us w : List Lexeme) → starts t.said ≡ true → pick (t ∷ us) ≡ false → Next us w → (y : A) (K : List Lexeme → Type 0) → Then (spA y) K (t ∷ w) → ⊥
  pub says : SaysStart (spell_either spA spB) starts want

-- a list of lexemes that is taken from the front of this one has the same first lexeme, and then agrees with it
pub record Agrees (t : Lexeme) (us v : List Lexeme) : Type 0 where
  pub tail : List Lexeme
  pub is : v ≡ t ∷ tail
  pub next : Next us tail

pub agrees : (t : Lexeme) (us front x w : List Lexeme) → (t ∷ us) ≡ front ++ x → (front ≡ [] → ⊥) → Next x w → Agrees t us (front ++ w)
agrees t us [] x w e full nx = absurd (full refl)
agrees t us (u ∷ front) x w e full nx = record {
  tail = front ++ w;
  is = ap (λ (v : Lexeme). v ∷ (front ++ w)) (sym (head_is t u us (front ++ x) e));
  next = subst (λ (v : List Lexeme). Next v (front ++ w)) (sym (tail_is t u us (front ++ x) e)) (next_append front x w nx);
}
  where
    tail_is : (a b : Lexeme) (x y : List Lexeme) → a ∷ x ≡ b ∷ y → x ≡ y
    tail_is a b x y e = cc

abbrev inl_of : {A B : Type 0} → A → A ⊎ B
inl_of x = inl x

left_sound : {A B : Type 0} (spA : A → List Mark) (sA fA : Said → Bool) (spB : B → List Mark) (sB f : Said → Bool) (want : Want) (starts : Said → Bool) (pick : List Lexeme → Bool)
    (C : IsChoice A B spA sA spB sB want starts pick) (full : (x : A) → Match (spA x) [] → ⊥) (inA : Within fA f) (t : Lexeme) (us : List Lexeme) → starts t.said ≡ true → pick (t ∷ us) ≡ true
    → (r : Read A) → Sound A spA sA fA (t ∷ us) r → Sound (A ⊎ B) (spell_either spA spB) starts f (t ∷ us) (r >>= λ x. Ok (inl x.0, x.1))
left_sound {A} {B} spA sA fA spB sB f want starts pick C full inA t us st pk (Ok x) h = record {
  front = h.front;
  parts = h.parts;
  matched = h.matched;
  only = by_side;
}
  where
    by_side : (K : List Lexeme → Type 0) → Avoids f K → (w : List Lexeme) → Next x.1 w → (y : A ⊎ B) → Then (spell_either spA spB y) K (h.front ++ w) → (y ≡ inl x.0) × K w
    by_side K av w nx (inl a) hy =
        let r = h.only K (avoids_less fA f K inA av) w nx a hy in
        (ap (λ (u : A). inl_of u) r.0, r.1)
    by_side K av w nx (inr b) hy =
        let g = agrees t us h.front x.1 w h.parts (λ e. full x.0 (subst (λ (v : List Lexeme). Match (spA x.0) v) e h.matched)) nx in
        absurd (C.not_right t us g.tail st pk g.next b K (subst (λ (v : List Lexeme). Then (spB b) K v) g.is hy))
left_sound {A} {B} spA sA fA spB sB f want starts pick C full inA t us st pk (Err s) h = record {
  before = h.before;
  rest = h.rest;
  left = h.left;
  parts = h.parts;
  begun = λ u vs e su nil. not_nil nil;
  viable = λ K k kk u m.
      let v = h.viable K k kk u m in
      (v.0, inl v.1, v.2);
  none = by_side;
}
  where
    not_nil : h.before ≡ [] → ⊥
    not_nil nil = h.begun t us refl (C.takes_left t us st pk) nil

    by_side : (K : List Lexeme → Type 0) → Avoids f K → (w : List Lexeme) → Bars s.want h.rest w → (y : A ⊎ B) → Then (spell_either spA spB y) K (h.before ++ w) → ⊥
    by_side K av w b (inl a) hy = h.none K (avoids_less fA f K inA av) w b a hy
    by_side K av w b (inr c) hy =
        let g = agrees t us h.before h.rest w h.parts not_nil (bars_next s.want h.rest w b) in
        C.not_right t us g.tail st pk g.next c K (subst (λ (v : List Lexeme). Then (spB c) K v) g.is hy)

abbrev inr_of : {A B : Type 0} → B → A ⊎ B
inr_of x = inr x

right_sound : {A B : Type 0} (spA : A → List Mark) (sA : Said → Bool) (spB : B → List Mark) (sB fB f : Said → Bool) (want : Want) (starts : Said → Bool) (pick : List Lexeme → Bool)
    (C : IsChoice A B spA sA spB sB want starts pick) (full : (x : B) → Match (spB x) [] → ⊥) (inB : Within fB f) (t : Lexeme) (us : List Lexeme) → starts t.said ≡ true → pick (t ∷ us) ≡ false
    → (r : Read B) → Sound B spB sB fB (t ∷ us) r → Sound (A ⊎ B) (spell_either spA spB) starts f (t ∷ us) (r >>= λ x. Ok (inr x.0, x.1))
right_sound {A} {B} spA sA spB sB fB f want starts pick C full inB t us st pk (Ok x) h = record {
  front = h.front;
  parts = h.parts;
  matched = h.matched;
  only = by_side;
}
  where
    by_side : (K : List Lexeme → Type 0) → Avoids f K → (w : List Lexeme) → Next x.1 w → (y : A ⊎ B) → Then (spell_either spA spB y) K (h.front ++ w) → (y ≡ inr x.0) × K w
    by_side K av w nx (inr a) hy =
        let r = h.only K (avoids_less fB f K inB av) w nx a hy in
        (ap (λ (u : B). inr_of u) r.0, r.1)
    by_side K av w nx (inl b) hy =
        let g = agrees t us h.front x.1 w h.parts (λ e. full x.0 (subst (λ (v : List Lexeme). Match (spB x.0) v) e h.matched)) nx in
        absurd (C.not_left t us g.tail st pk g.next b K (subst (λ (v : List Lexeme). Then (spA b) K v) g.is hy))
right_sound {A} {B} spA sA spB sB fB f want starts pick C full inB t us st pk (Err s) h = record {
  before = h.before;
  rest = h.rest;
  left = h.left;
  parts = h.parts;
  begun = λ u vs e su nil. not_nil nil;
  viable = λ K k kk u m.
      let v = h.viable K k kk u m in
      (v.0, inr v.1, v.2);
  none = by_side;
}
  where
    not_nil : h.before ≡ [] → ⊥
    not_nil nil = h.begun t us refl (C.takes_right t us st pk) nil

    by_side : (K : List Lexeme → Type 0) → Avoids f K → (w : List Lexeme) → Bars s.want h.rest w → (y : A ⊎ B) → Then (spell_either spA spB y) K (h.before ++ w) → ⊥
    by_side K av w b (inr a) hy = h.none K (avoids_less fB f K inB av) w b a hy
    by_side K av w b (inl c) hy =
        let g = agrees t us h.before h.rest w h.parts not_nil (bars_next s.want h.rest w b) in
        C.not_left t us g.tail st pk g.next c K (subst (λ (v : List Lexeme). Then (spA c) K v) g.is hy)

pub either_reads : {A B : Type 0} {spA : A → List Mark} {sA fA : Said → Bool} {p : List Lexeme → Read A} {spB : B → List Mark} {sB fB f : Said → Bool} {q : List Lexeme → Read B}
    {want : Want} {starts : Said → Bool} {pick : List Lexeme → Bool} {n : ℕ} → Reads n A spA sA fA p → Reads n B spB sB fB q → IsChoice A B spA sA spB sB want starts pick → Within fA f → Within fB f
    → Reads n (A ⊎ B) (spell_either spA spB) starts f (either want starts pick p q)
either_reads {A} {B} {spA} {sA} {fA} {p} {spB} {sB} {fB} {f} {q} {want} {starts} {pick} {n} P Q C inA inB = record {
  sound = λ ts short. by_start ts short (heads starts ts) refl;
  first = first_of;
  full = full_of;
  some = inl P.some;
  shown = P.shown;
  is_some = P.is_some;
}
  where
    first_of : (y : A ⊎ B) (K : List Lexeme → Type 0) (t : Lexeme) (w : List Lexeme) → Then (spell_either spA spB y) K (t ∷ w) → starts t.said ≡ true
    first_of (inl a) K t w h = C.in_left t.said (P.first a K t w h)
    first_of (inr b) K t w h = C.in_right t.said (Q.first b K t w h)

    full_of : (y : A ⊎ B) (K : List Lexeme → Type 0) → Then (spell_either spA spB y) K [] → ⊥
    full_of (inl a) K h = P.full a K h
    full_of (inr b) K h = Q.full b K h

    viable_of : (m : Want) → SaysStart (spell_either spA spB) starts m → (K : List Lexeme → Type 0) (k : List Lexeme) → K k → (u : List Lexeme) → May m u → (w : List Lexeme) × (y : A ⊎ B) × Then (spell_either spA spB y) K (u ++ w)
    viable_of m says K k kk [] may = (P.shown ++ k, inl P.some, then_put (spA P.some) K P.shown k P.is_some kk)
    viable_of AName says K k kk (t ∷ us) may =
        let v = says t may.0 in
        let put = then_put (spell_either spA spB v.0) K (t ∷ v.1) k v.2 kk in
        (v.1 ++ k, v.0, subst (λ (x : List Lexeme). Then (spell_either spA spB v.0) K (t ∷ (x ++ (v.1 ++ k)))) (sym may.1) put)
    viable_of NoName says K k kk (t ∷ us) may = absurd may

    none_of : (m : Want) → SaysStart (spell_either spA spB) starts m → (ts w : List Lexeme) → heads starts ts ≡ false → Bars m ts w → (y : A ⊎ B) (K : List Lexeme → Type 0) → Then (spell_either spA spB y) K w → ⊥
    none_of m says ts [] e b y K h = full_of y K h
    none_of AName says [] (u ∷ w) e b y K h = b
    none_of AName says (t ∷ ts) (u ∷ w) e b y K h = cc (first_of y K u w h, e, ap (λ (v : Lexeme). starts v.said) b)
    none_of NoName says ts (u ∷ w) e (inr b) y K h = cc (first_of y K u w h, says b.0, ap starts b.1)
    none_of NoName says [] (u ∷ w) e (inl b) y K h = b
    none_of NoName says (t ∷ ts) (u ∷ w) e (inl b) y K h = cc (first_of y K u w h, e, ap (λ (v : Lexeme). starts v.said) b)

    not_begun : (ts : List Lexeme) → heads starts ts ≡ false → (t : Lexeme) (us : List Lexeme) → ts ≡ t ∷ us → starts t.said ≡ true → ⊥
    not_begun [] e t us eq st = cc
    not_begun (v ∷ ts) e t us eq st = cc (e, st, ap (λ (x : Lexeme). starts x.said) (head_is v t ts us eq))

    by_pick : (t : Lexeme) (us : List Lexeme) → length (t ∷ us) < n → starts t.said ≡ true → (b : Bool) → pick (t ∷ us) ≡ b → Sound (A ⊎ B) (spell_either spA spB) starts f (t ∷ us) (pick_by p q (t ∷ us) b)
    by_pick t us short st true e = left_sound spA sA fA spB sB f want starts pick C (λ x m. P.full x IsEnd m) inA t us st e (p (t ∷ us)) (P.sound (t ∷ us) short)
    by_pick t us short st false e = right_sound spA sA spB sB fB f want starts pick C (λ x m. Q.full x IsEnd m) inB t us st e (q (t ∷ us)) (Q.sound (t ∷ us) short)

    by_start : (ts : List Lexeme) → length ts < n → (b : Bool) → heads starts ts ≡ b → Sound (A ⊎ B) (spell_either spA spB) starts f ts (either_by want pick p q ts b)
    by_start ts short false e = record {
      before = [];
      rest = ts;
      left = refl;
      parts = refl;
      begun = λ t us eq st nil. not_begun ts e t us eq st;
      viable = λ K k kk u m. viable_of want C.says K k kk u m;
      none = λ K av w b y h. none_of want C.says ts w e b y K h;
    }
    by_start [] short true e = absurd cc
    by_start (t ∷ us) short true e = by_pick t us short e (pick (t ∷ us)) refl
