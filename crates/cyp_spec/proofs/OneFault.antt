-- Lexemes have at most one fault of the grammar, and none where they spell a tree.
use Rattle.std.proofs.Common.{List, ap, inl, inr, refl, subst, sym, ℕ, ◌∙◌, ◌≡◌}
use Rattle.cyp_lex.specs.Beginnings.{Begins}
use Rattle.cyp_lex.specs.Lexemes.{Lexeme, Name, Number, Reserved, Said, Symbol, Variable}
use Rattle.cyp_lex.specs.Spelling.{Match}
use Rattle.cyp_lex.specs.declared.fault.Fault.{Fault}
use Rattle.cyp_lex.specs.declared.fault.FaultKind.{FaultKind}
use Rattle.cyp_text.specs.Grammar.{text_spelling}
use Rattle.cyp_text.specs.GrammarFaults.{GrammarFault, IsKind, RefusesEnd, RefusesLexeme, SpoilsSum, TakesName, other, reserved, spoiled}
use Rattle.cyp_text.specs.declared.tree.TextTree.{TextTree}
use Rattle.cyp_text.proofs.Fronts.{begins_less, spelled_begins}
use Rattle.cyp_text.proofs.Parted.{Parted, longer, parted, same, shorter}

spoils_no_word : (before : List Lexeme) (k : Said) → SpoilsSum before k → TakesName before k → ⊥
spoils_no_word before (Name text) s t = t
spoils_no_word before (Variable n) s t = t
spoils_no_word before (Number n) s t = t
spoils_no_word before (Symbol s') s t = t
spoils_no_word before (Reserved w) (inl s) t = absurd cc
spoils_no_word before (Reserved w) (inr s) t = absurd cc

one_kind : (before : List Lexeme) (k : Said) (a b : FaultKind) → IsKind before k a → IsKind before k b → a ≡ b
one_kind before k _ _ (spoiled s) (spoiled s') = refl
one_kind before k _ _ (spoiled s) (reserved t) = absurd (spoils_no_word before k s t)
one_kind before k _ _ (spoiled s) (other none _) = absurd (none s)
one_kind before k _ _ (reserved t) (spoiled s) = absurd (spoils_no_word before k s t)
one_kind before k _ _ (reserved t) (reserved t') = refl
one_kind before k _ _ (reserved t) (other _ none) = absurd (none t)
one_kind before k _ _ (other none _) (spoiled s) = absurd (none s)
one_kind before k _ _ (other _ none) (reserved t) = absurd (none t)
one_kind before k _ _ (other _ _) (other _ _) = refl

abbrev fault : FaultKind → ℕ → Fault
fault k p = record { kind = k; place = p }

same_fault : (f g : Fault) → f.kind ≡ g.kind → f.place ≡ g.place → f ≡ g
same_fault f g k p = ap (λ (x : FaultKind). fault x f.place) k ∙ ap (λ (n : ℕ). fault g.kind n) p

lexeme_fault : (ls : List Lexeme) (f g : Fault) (a : RefusesLexeme ls f) (b : RefusesLexeme ls g) → Parted a.before b.before a.lexeme b.lexeme → f ≡ g
lexeme_fault ls f g a b (same p q) =
    let kind : IsKind a.before a.lexeme.said g.kind =
    subst (λ (l : Lexeme). IsKind a.before l.said g.kind) (sym q) (subst (λ (bs : List Lexeme). IsKind bs b.lexeme.said g.kind) (sym p) b.kind) in
    same_fault f g (one_kind a.before a.lexeme.said f.kind g.kind a.kind kind) (a.place ∙ ap (λ (l : Lexeme). l.place) q ∙ sym b.place)
lexeme_fault ls f g a b (longer more p) =
    absurd (a.refused.1 (begins_less a.before a.lexeme more (subst (λ (bs : List Lexeme). Begins text_spelling bs) p b.refused.0)))
lexeme_fault ls f g a b (shorter more p) =
    absurd (b.refused.1 (begins_less b.before b.lexeme more (subst (λ (bs : List Lexeme). Begins text_spelling bs) p a.refused.0)))

not_both_ends : (size : ℕ) (ls : List Lexeme) (f g : Fault) → RefusesLexeme ls f → RefusesEnd size ls g → ⊥
not_both_ends size ls f g a b =
    a.refused.1 (begins_less a.before a.lexeme a.after (subst (λ (bs : List Lexeme). Begins text_spelling bs) a.parts b.unfinished.0))

pub one_fault : (size : ℕ) (ls : List Lexeme) (f g : Fault) → GrammarFault size ls f → GrammarFault size ls g → f ≡ g
one_fault size ls f g (inl a) (inl b) =
    lexeme_fault ls f g a b (parted a.before b.before a.lexeme b.lexeme a.after b.after (sym a.parts ∙ b.parts))
one_fault size ls f g (inl a) (inr b) = absurd (not_both_ends size ls f g a b)
one_fault size ls f g (inr a) (inl b) = absurd (not_both_ends size ls g f b a)
one_fault size ls f g (inr a) (inr b) = same_fault f g (a.kind ∙ sym b.kind) (a.place ∙ sym b.place)

-- what spells a tree has no fault of the grammar
pub spelled_has_none : (size : ℕ) (ls : List Lexeme) (t : TextTree) (f : Fault) → Match (text_spelling t) ls → GrammarFault size ls f → ⊥
spelled_has_none size ls t f m (inl a) =
    a.refused.1 (spelled_begins t a.before a.lexeme a.after (subst (λ (bs : List Lexeme). Match (text_spelling t) bs) a.parts m))
spelled_has_none size ls t f m (inr a) = a.unfinished.1 t m
