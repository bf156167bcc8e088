-- Readers of none or more of the same, and then of something else.
use Rattle.std.proofs.Common.{◌≡◌, ℕ, zero, suc, Bool, true, List, [], ◌∷◌, ◌++◌, ◌⊎◌, inl, inr, refl, subst, append_assoc, length, arith}
use Rattle.cyp_lex.specs.Lexemes.{Lexeme, Said}
use Rattle.cyp_lex.specs.Spelling.{Mark, Then, all_spelling}
use Rattle.cyp_lex.specs.Readers.{Read, one_of, repeated, repeated_tree, repeating}
use Rattle.cyp_lex.specs.declared.want.Want.{Want}
use Rattle.cyp_lex.proofs.Spellings.{then_split}
use Rattle.cyp_lex.proofs.Readings.{Apart, Reads, within_self}
use Rattle.cyp_lex.proofs.Sequences.{spell_both, then_reads}
use Rattle.cyp_lex.proofs.Mapped.{mapped_reads}
use Rattle.cyp_lex.proofs.Choices.{SaysStart, spell_either}
use Rattle.cyp_lex.proofs.Firsts.{first_reads, or_left, or_right}

abbrev pub repeated_spelling : {A B : Type 0} → (A → List Mark) → (B → List Mark) → List A × B → List Mark
repeated_spelling sp spB x = all_spelling sp x.0 ++ spB x.1

-- one more, or what is behind them
abbrev pub either_spelling : {A B : Type 0} → (A → List Mark) → (B → List Mark) → (A × (List A × B)) ⊎ B → List Mark
either_spelling sp spB = spell_either (spell_both sp (repeated_spelling sp spB)) spB

abbrev repeated_parts : {A B : Type 0} → List A × B → (A × (List A × B)) ⊎ B
repeated_parts {A} {B} x = of x.0 x.1
  where
    of : List A → B → (A × (List A × B)) ⊎ B
    of [] b = inr b
    of (a ∷ xs) b = inl (a, (xs, b))

there : {A B : Type 0} (x : (A × (List A × B)) ⊎ B) → repeated_parts (repeated_tree x) ≡ x
there (inl x) = refl
there (inr b) = refl

again : {A B : Type 0} (xs : List A) (b : B) → repeated_tree (repeated_parts (xs, b)) ≡ (xs, b)
again [] b = refl
again (a ∷ xs) b = refl

same : {A B : Type 0} (sp : A → List Mark) (spB : B → List Mark) (xs : List A) (b : B) → repeated_spelling sp spB (xs, b) ≡ either_spelling sp spB (repeated_parts (xs, b))
same sp spB [] b = refl
same sp spB (a ∷ xs) b = append_assoc (sp a) (all_spelling sp xs) (spB b)

pub repeated_reads : {A B : Type 0} {sp : A → List Mark} {sA fA : Said → Bool} {p : List Lexeme → Read A} {spB : B → List Mark} {sB fB : Said → Bool} {q : List Lexeme → Read B} (want : Want)
    → Apart sA sB → Apart (one_of sA sB) fA → SaysStart (either_spelling sp spB) (one_of sA sB) want
    → ((m : ℕ) → Reads m A sp sA fA p) → ((m : ℕ) → Reads m B spB sB fB q) → (n : ℕ)
    → Reads n (List A × B) (repeated_spelling sp spB) (one_of sA sB) fB (repeated n want sA sB p q)
repeated_reads {A} {B} {sp} {sA} {fA} {p} {spB} {sB} {fB} {q} want apart ends says P Q zero = record {
  sound = λ ts short. absurd (omega arith);
  first = λ x K t w h. first x.0 x.1 K t w h;
  full = λ x K h. full x.0 x.1 K h;
  some = ([], (Q 0).some);
  shown = (Q 0).shown;
  is_some = (Q 0).is_some;
}
  where
    first : (xs : List A) (b : B) (K : List Lexeme → Type 0) (t : Lexeme) (w : List Lexeme) → Then (repeated_spelling sp spB (xs, b)) K (t ∷ w) → one_of sA sB t.said ≡ true
    first [] b K t w h = or_right (sA t.said) (sB t.said) ((Q 0).first b K t w h)
    first (a ∷ xs) b K t w h =
        let moved : Then (sp a ++ (all_spelling sp xs ++ spB b)) K (t ∷ w) = subst (λ (m : List Mark). Then m K (t ∷ w)) (append_assoc (sp a) (all_spelling sp xs) (spB b)) h in
        or_left (sA t.said) (sB t.said) ((P 0).first a (Then (all_spelling sp xs ++ spB b) K) t w (then_split (sp a) (all_spelling sp xs ++ spB b) K (t ∷ w) moved))

    full : (xs : List A) (b : B) (K : List Lexeme → Type 0) → Then (repeated_spelling sp spB (xs, b)) K [] → ⊥
    full [] b K h = (Q 0).full b K h
    full (a ∷ xs) b K h =
        let moved : Then (sp a ++ (all_spelling sp xs ++ spB b)) K [] = subst (λ (m : List Mark). Then m K []) (append_assoc (sp a) (all_spelling sp xs) (spB b)) h in
        (P 0).full a (Then (all_spelling sp xs ++ spB b) K) (then_split (sp a) (all_spelling sp xs ++ spB b) K [] moved)
repeated_reads {A} {B} {sp} {sA} {fA} {p} {spB} {sB} {fB} {q} want apart ends says P Q (suc n) =
    mapped_reads repeated_tree repeated_parts there (λ x. again x.0 x.1) (λ x. same sp spB x.0 x.1)
    (first_reads (then_reads (P (suc n)) (repeated_reads want apart ends says P Q n) ends) (Q (suc n)) apart says (within_self _) (within_self _))

pub repeating_reads : {A B : Type 0} {sp : A → List Mark} {sA fA : Said → Bool} {p : List Lexeme → Read A} {spB : B → List Mark} {sB fB : Said → Bool} {q : List Lexeme → Read B} (want : Want)
    → Apart sA sB → Apart (one_of sA sB) fA → SaysStart (either_spelling sp spB) (one_of sA sB) want
    → ((m : ℕ) → Reads m A sp sA fA p) → ((m : ℕ) → Reads m B spB sB fB q) → (n : ℕ)
    → Reads n (List A × B) (repeated_spelling sp spB) (one_of sA sB) fB (repeating want sA sB p q)
repeating_reads want apart ends says P Q n =
    let L = λ (m : ℕ). repeated_reads want apart ends says P Q m in
    record {
      sound = λ ts short. (L (suc (length ts))).sound ts (omega arith);
      first = (L 0).first;
      full = (L 0).full;
      some = (L 0).some;
      shown = (L 0).shown;
      is_some = (L 0).is_some;
    }
