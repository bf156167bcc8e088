-- Choices by the lexeme behind a name.
use Rattle.std.proofs.Common.{◌≡◌, ℕ, Bool, true, false, cond, not, List, [], ◌∷◌, ◌⊎◌, inl, inr, refl, ap, ◌∙◌}
use Rattle.cyp_lex.specs.Lexemes.{Lexeme, Name, Said}
use Rattle.cyp_lex.specs.Spelling.{Mark, Then}
use Rattle.cyp_lex.specs.Readers.{IsNamed, Read, heads, is_name, left_by_second, one_of, second_tells}
use Rattle.cyp_lex.specs.declared.want.Want.{Want}
use Rattle.cyp_lex.proofs.Spellings.{head_is}
use Rattle.cyp_lex.proofs.Readings.{Apart, Next, Reads, Within, no_start}
use Rattle.cyp_lex.proofs.Choices.{IsChoice, SaysStart, either_reads, spell_either}
use Rattle.cyp_lex.proofs.Firsts.{or_left, or_other, or_right}

-- the first of a list is one of these
pub record Leads (good : Said → Bool) (w : List Lexeme) : Type 0 where
  pub head : Lexeme
  pub tail : List Lexeme
  pub is : w ≡ head ∷ tail
  pub leads : good head.said ≡ true

-- behind a name that begins it stands one of these lexemes
abbrev pub Behind : {A : Type 0} → (A → List Mark) → (Said → Bool) → Type 1
Behind {A} sp good = (t : Lexeme) (w : List Lexeme) (y : A) (K : List Lexeme → Type 0) → IsNamed t → Then (sp y) K (t ∷ w) → Leads good w

-- of what isn't a name no lexeme is of both
abbrev pub ApartButNames : (Said → Bool) → (Said → Bool) → Type 0
ApartButNames a b = (k : Said) → is_name k ≡ false → a k ≡ true → b k ≡ false

pub named : (l : Lexeme) → is_name l.said ≡ true → IsNamed l
named l e = of l.said refl e
  where
    of : (k : Said) → l.said ≡ k → is_name k ≡ true → IsNamed l
    of (Name x) is e = (x, is)
    of k is e = absurd cc

not_true : (b : Bool) → not b ≡ true → b ≡ false
not_true true e = absurd cc
not_true false e = refl

not_false : (b : Bool) → not b ≡ false → b ≡ true
not_false true e = refl
not_false false e = absurd cc

-- no lexeme of the one kind agrees with the head of a list that one of the other kind leads
apart_heads : (gA gB : Said → Bool) → Apart gA gB → ((x : List ℕ) → gA (Name x) ≡ false) → (us w : List Lexeme) → heads gB us ≡ true → Next us w → Leads gA w → ⊥
apart_heads gA gB apart names us [] e nx lead = let bad = lead.is in cc
apart_heads gA gB apart names us (v ∷ w) e (inr n) lead =
    let same : v ≡ lead.head = head_is v lead.head w lead.tail lead.is in
    cc (ap (λ (x : Lexeme). gA x.said) same, lead.leads, ap gA n.1, names n.0)
apart_heads gA gB apart names [] (v ∷ w) e (inl n) lead = n
apart_heads gA gB apart names (u ∷ us) (v ∷ w) e (inl n) lead =
    let same : v ≡ lead.head = head_is v lead.head w lead.tail lead.is in
    cc (e, ap (λ (x : Lexeme). gB x.said) n, ap (λ (x : Lexeme). gB x.said) same, apart lead.head.said lead.leads)

second_choice : {A B : Type 0} (spA : A → List Mark) (sA fA : Said → Bool) (p : List Lexeme → Read A) (spB : B → List Mark) (sB fB : Said → Bool) (q : List Lexeme → Read B) (want : Want) (gA gB : Said → Bool) (n : ℕ)
    → Reads n A spA sA fA p → Reads n B spB sB fB q → ApartButNames sA sB → Behind spA gA → Behind spB gB → Apart gA gB
    → ((x : List ℕ) → gA (Name x) ≡ false) → ((x : List ℕ) → gB (Name x) ≡ false) → ((x : List ℕ) → sA (Name x) ≡ true) → ((x : List ℕ) → sB (Name x) ≡ true)
    → SaysStart (spell_either spA spB) (one_of sA sB) want → IsChoice A B spA sA spB sB want (one_of sA sB) (left_by_second sA gB)
second_choice {A} {B} spA sA fA p spB sB fB q want gA gB n P Q apart behindA behindB apartG namesA namesB inA inB says = record {
  takes_left = λ t us st pk. takes_left t us (is_name t.said) refl pk;
  takes_right = λ t us st pk. takes_right t us (is_name t.said) refl st pk;
  in_left = λ k e. or_left (sA k) (sB k) e;
  in_right = λ k e. or_right (sA k) (sB k) e;
  not_right = λ t us w st pk nx y K h. not_right t us w (is_name t.said) refl pk nx y K h;
  not_left = λ t us w st pk nx y K h. not_left t us w (is_name t.said) refl pk nx y K h;
  says = says;
}
  where
    goes : Bool → Said → List Lexeme → Bool
    goes b k us = cond b (not (heads gB us)) (sA k)

    takes_left : (t : Lexeme) (us : List Lexeme) (b : Bool) → is_name t.said ≡ b → cond b (not (heads gB us)) (sA t.said) ≡ true → sA t.said ≡ true
    takes_left t us true e pk =
        let n = named t e in
        ap sA n.1 ∙ inA n.0
    takes_left t us false e pk = pk

    takes_right : (t : Lexeme) (us : List Lexeme) (b : Bool) → is_name t.said ≡ b → one_of sA sB t.said ≡ true → cond b (not (heads gB us)) (sA t.said) ≡ false → sB t.said ≡ true
    takes_right t us true e st pk =
        let n = named t e in
        ap sB n.1 ∙ inB n.0
    takes_right t us false e st pk = or_other (sA t.said) (sB t.said) st pk

    not_right : (t : Lexeme) (us w : List Lexeme) (b : Bool) → is_name t.said ≡ b → cond b (not (heads gB us)) (sA t.said) ≡ true → Next us w → (y : B) (K : List Lexeme → Type 0) → Then (spB y) K (t ∷ w) → ⊥
    not_right t us w true e pk nx y K h =
        let lead = behindB t w y K (named t e) h in
        no_start gB us w namesB (not_true (heads gB us) pk) nx lead.head lead.tail lead.is lead.leads
    not_right t us w false e pk nx y K h = cc (Q.first y K t w h, apart t.said e pk)

    not_left : (t : Lexeme) (us w : List Lexeme) (b : Bool) → is_name t.said ≡ b → cond b (not (heads gB us)) (sA t.said) ≡ false → Next us w → (y : A) (K : List Lexeme → Type 0) → Then (spA y) K (t ∷ w) → ⊥
    not_left t us w true e pk nx y K h = apart_heads gA gB apartG namesA us w (not_false (heads gB us) pk) nx (behindA t w y K (named t e) h)
    not_left t us w false e pk nx y K h = cc (P.first y K t w h, pk)

-- one of two that may both begin with a name; the lexeme behind it tells
pub second_reads : {A B : Type 0} {spA : A → List Mark} {sA fA : Said → Bool} {p : List Lexeme → Read A} {spB : B → List Mark} {sB fB f : Said → Bool} {q : List Lexeme → Read B} {want : Want} {n : ℕ} (gA gB : Said → Bool)
    → Reads n A spA sA fA p → Reads n B spB sB fB q → ApartButNames sA sB → Behind spA gA → Behind spB gB → Apart gA gB
    → ((x : List ℕ) → gA (Name x) ≡ false) → ((x : List ℕ) → gB (Name x) ≡ false) → ((x : List ℕ) → sA (Name x) ≡ true) → ((x : List ℕ) → sB (Name x) ≡ true)
    → SaysStart (spell_either spA spB) (one_of sA sB) want → Within fA f → Within fB f
    → Reads n (A ⊎ B) (spell_either spA spB) (one_of sA sB) f (second_tells want sA sB gB p q)
second_reads {A} {B} {spA} {sA} {fA} {p} {spB} {sB} {fB} {f} {q} {want} {n} gA gB P Q apart behindA behindB apartG namesA namesB inA inB says withinA withinB =
    either_reads P Q (second_choice spA sA fA p spB sB fB q want gA gB n P Q apart behindA behindB apartG namesA namesB inA inB says) withinA withinB
