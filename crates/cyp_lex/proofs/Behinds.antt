-- What may stand behind a name that begins a spelling.
use Rattle.std.proofs.Common.{◌≡◌, ℕ, Bool, true, false, List, [], ◌∷◌, ◌⊎◌, inl, inr, refl, ap, subst}
use Rattle.cyp_lex.specs.Lexemes.{Lexeme, Name, Said}
use Rattle.cyp_lex.specs.Spelling.{Mark, Then, ident, more_spelling}
use Rattle.cyp_lex.specs.declared.ident.Ident.{Ident}
use Rattle.cyp_lex.specs.Readers.{Read}
use Rattle.cyp_lex.proofs.Spellings.{then_split}
use Rattle.cyp_lex.proofs.Readings.{Reads}
use Rattle.cyp_lex.proofs.Singles.{one}
use Rattle.cyp_lex.proofs.Sequences.{spell_both}
use Rattle.cyp_lex.proofs.Choices.{spell_either}
use Rattle.cyp_lex.proofs.Lists.{listed_spelling}
use Rattle.cyp_lex.proofs.Seconds.{Behind, Leads}

-- behind a name that begins the spelling stands one of these lexemes
pub record NameLeads (A : Type 0) (sp : A → List Mark) (good : Said → Bool) : Type 1 where
  pub behind : Behind sp good

-- no name begins it
pub leads_no_name : {A : Type 0} {sp : A → List Mark} {s f : Said → Bool} {p : List Lexeme → Read A} {n : ℕ} (good : Said → Bool) → Reads n A sp s f p → ((x : List ℕ) → s (Name x) ≡ false) → NameLeads A sp good
leads_no_name {A} {sp} {s} good P names = record {
  behind = λ t w y K name h. absurd (clash (s t.said) (s (Name name.0)) (P.first y K t w h) (ap s name.1) (names name.0));
}
  where
    clash : (a b : Bool) → a ≡ true → a ≡ b → b ≡ false → ⊥
    clash a b x y z = cc

pub leads_both : {A B : Type 0} {spA : A → List Mark} {good : Said → Bool} (spB : B → List Mark) → NameLeads A spA good → NameLeads (A × B) (spell_both spA spB) good
leads_both {A} {B} {spA} {good} spB D = record {
  behind = λ t w y K name h. D.behind t w y.0 (Then (spB y.1) K) name (then_split (spA y.0) (spB y.1) K (t ∷ w) h);
}

-- a name, and then what begins so
pub leads_name : {B : Type 0} {spB : B → List Mark} {sB f : Said → Bool} {q : List Lexeme → Read B} {n : ℕ} → Reads n B spB sB f q → NameLeads (Ident × B) (spell_both (one ident) spB) sB
leads_name {B} {spB} {sB} {f} {q} {n} Q = record { behind = λ t w y K name h. of y.1 K w h.1 }
  where
    of : (b : B) (K : List Lexeme → Type 0) (w : List Lexeme) → Then (spB b) K w → Leads sB w
    of b K [] k = absurd (Q.full b K k)
    of b K (v ∷ vs) k = record { head = v; tail = vs; is = refl; leads = Q.first b K v vs k }

pub leads_either : {A B : Type 0} {spA : A → List Mark} {spB : B → List Mark} {good : Said → Bool} → NameLeads A spA good → NameLeads B spB good → NameLeads (A ⊎ B) (spell_either spA spB) good
leads_either {A} {B} {spA} {spB} {good} D E = record { behind = of }
  where
    of : Behind (spell_either spA spB) good
    of t w (inl a) K name k = D.behind t w a K name k
    of t w (inr b) K name k = E.behind t w b K name k

pub leads_listed : {A : Type 0} {sp : A → List Mark} {good : Said → Bool} (k : Said) → NameLeads A sp good → NameLeads (A × List A) (listed_spelling k sp) good
leads_listed {A} {sp} {good} k D = record {
  behind = λ t w y K name h. D.behind t w y.0 (Then (more_spelling k sp y.1) K) name (then_split (sp y.0) (more_spelling k sp y.1) K (t ∷ w) h);
}

pub leads_mapped : {A B : Type 0} {spA : A → List Mark} {spB : B → List Mark} {good : Said → Bool} (back : B → A) → ((y : B) → spB y ≡ spA (back y)) → NameLeads A spA good → NameLeads B spB good
leads_mapped {A} {B} {spA} {spB} {good} back same D = record {
  behind = λ t w y K name h. D.behind t w (back y) K name (subst (λ (m : List Mark). Then m K (t ∷ w)) (same y) h);
}
