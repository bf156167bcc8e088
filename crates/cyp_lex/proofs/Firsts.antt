-- Choices by the first lexeme, and spellings that may begin with any name.
use Rattle.std.proofs.Common.{◌≡◌, ℕ, Bool, true, false, ◌||◌, List, [], ◌∷◌, ◌++◌, Option, None, ◌⊎◌, inl, inr, refl, sym, ap, subst, ◌∙◌}
use Rattle.cyp_lex.specs.Lexemes.{Lexeme, Said}
use Rattle.cyp_lex.specs.Spelling.{Mark, Match, ident}
use Rattle.cyp_lex.specs.declared.ident.Ident.{Ident}
use Rattle.cyp_lex.specs.Readers.{IsNamed, Read, first_tells, heads, ident_of, one_of}
use Rattle.cyp_lex.specs.declared.want.Want.{Want}
use Rattle.cyp_lex.proofs.Spellings.{append_nil, match_join}
use Rattle.cyp_lex.proofs.Readings.{Apart, Reads, Within}
use Rattle.cyp_lex.proofs.Sequences.{spell_both}
use Rattle.cyp_lex.proofs.Singles.{one}
use Rattle.cyp_lex.proofs.Options.{spell_option}
use Rattle.cyp_lex.proofs.Choices.{IsChoice, SaysStart, either_reads, spell_either}
use Rattle.cyp_lex.proofs.Lists.{listed_spelling}

-- ---- spellings that may begin with any name

pub record NameBegins (A : Type 0) (sp : A → List Mark) : Type 0 where
  pub shows : (t : Lexeme) → IsNamed t → (y : A) × (w : List Lexeme) × Match (sp y) (t ∷ w)

pub name_ident : NameBegins Ident (one ident)
name_ident = record {
  shows = λ t n. (ident_of (t.place, n.0), [], ((n.1, refl), refl));
}

pub name_both : {A B : Type 0} {spA : A → List Mark} {spB : B → List Mark} {sB fB : Said → Bool} {q : List Lexeme → Read B} {n : ℕ} → NameBegins A spA → Reads n B spB sB fB q → NameBegins (A × B) (spell_both spA spB)
name_both {A} {B} {spA} {spB} N Q = record {
  shows = λ t n.
      let a = N.shows t n in
      ((a.0, Q.some), a.1 ++ Q.shown, match_join (spA a.0) (spB Q.some) (t ∷ a.1) Q.shown a.2 Q.is_some);
}

pub name_option : {A B : Type 0} {spA : A → List Mark} (spB : B → List Mark) → NameBegins A spA → NameBegins (A × Option B) (spell_option spA spB)
name_option {A} {B} {spA} spB N = record {
  shows = λ t n.
      let a = N.shows t n in
      ((a.0, None), a.1, subst (λ (m : List Mark). Match m (t ∷ a.1)) (sym (append_nil (spA a.0))) a.2);
}

pub name_listed : {A : Type 0} {sp : A → List Mark} (k : Said) → NameBegins A sp → NameBegins (A × List A) (listed_spelling k sp)
name_listed {A} {sp} k N = record {
  shows = λ t n.
      let a = N.shows t n in
      ((a.0, []), a.1, subst (λ (m : List Mark). Match m (t ∷ a.1)) (sym (append_nil (sp a.0))) a.2);
}

pub name_left : {A B : Type 0} {spA : A → List Mark} {spB : B → List Mark} → NameBegins A spA → NameBegins (A ⊎ B) (spell_either spA spB)
name_left N = record {
  shows = λ t n.
      let a = N.shows t n in
      (inl a.0, a.1, a.2);
}

pub name_right : {A B : Type 0} {spA : A → List Mark} {spB : B → List Mark} → NameBegins B spB → NameBegins (A ⊎ B) (spell_either spA spB)
name_right N = record {
  shows = λ t n.
      let b = N.shows t n in
      (inr b.0, b.1, b.2);
}

pub name_mapped : {A B : Type 0} {spA : A → List Mark} {spB : B → List Mark} (to : A → B) (back : B → A) → ((x : A) → back (to x) ≡ x) → ((y : B) → spB y ≡ spA (back y)) → NameBegins A spA → NameBegins B spB
name_mapped {A} {B} {spA} {spB} to back there same N = record {
  shows = λ t n.
      let a = N.shows t n in
      (to a.0, a.1, subst (λ (m : List Mark). Match m (t ∷ a.1)) (sym (same (to a.0) ∙ ap spA (there a.0))) a.2);
}

-- ---- choices

pub or_left : (a b : Bool) → a ≡ true → a || b ≡ true
or_left true b e = refl
or_left false b e = absurd cc

pub or_right : (a b : Bool) → b ≡ true → a || b ≡ true
or_right true b e = refl
or_right false b e = e

pub or_other : (a b : Bool) → a || b ≡ true → a ≡ false → b ≡ true
or_other true b e f = absurd cc
or_other false b e f = e

first_choice : {A B : Type 0} (spA : A → List Mark) (sA fA : Said → Bool) (p : List Lexeme → Read A) (spB : B → List Mark) (sB fB : Said → Bool) (q : List Lexeme → Read B) (want : Want) (n : ℕ)
    → Reads n A spA sA fA p → Reads n B spB sB fB q → Apart sA sB → SaysStart (spell_either spA spB) (one_of sA sB) want → IsChoice A B spA sA spB sB want (one_of sA sB) (heads sA)
first_choice spA sA fA p spB sB fB q want n P Q apart says = record {
  takes_left = λ t us st pk. pk;
  takes_right = λ t us st pk. or_other (sA t.said) (sB t.said) st pk;
  in_left = λ k e. or_left (sA k) (sB k) e;
  in_right = λ k e. or_right (sA k) (sB k) e;
  not_right = λ t us w st pk nx y K h. cc (Q.first y K t w h, apart t.said pk);
  not_left = λ t us w st pk nx y K h. cc (P.first y K t w h, pk);
  says = says;
}

-- one of two, which the first lexeme tells
pub first_reads : {A B : Type 0} {spA : A → List Mark} {sA fA : Said → Bool} {p : List Lexeme → Read A} {spB : B → List Mark} {sB fB f : Said → Bool} {q : List Lexeme → Read B} {want : Want} {n : ℕ}
    → Reads n A spA sA fA p → Reads n B spB sB fB q → Apart sA sB → SaysStart (spell_either spA spB) (one_of sA sB) want → Within fA f → Within fB f
    → Reads n (A ⊎ B) (spell_either spA spB) (one_of sA sB) f (first_tells want sA sB p q)
first_reads {A} {B} {spA} {sA} {fA} {p} {spB} {sB} {fB} {f} {q} {want} {n} P Q apart says inA inB =
    either_reads P Q (first_choice spA sA fA p spB sB fB q want n P Q apart says) inA inB
