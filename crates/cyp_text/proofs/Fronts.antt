-- Fronts of what a text of the grammar begins with.
use Rattle.std.proofs.Common.{List, [], append_assoc, subst, sym, ◌++◌, ◌∙◌, ◌∷◌}
use Rattle.cyp_lex.specs.Beginnings.{Begins}
use Rattle.cyp_lex.specs.Lexemes.{Lexeme}
use Rattle.cyp_lex.specs.Spelling.{Match}
use Rattle.cyp_text.specs.Grammar.{text_spelling}
use Rattle.cyp_text.specs.declared.tree.TextTree.{TextTree}

-- what begins so begins with each part of it
pub begins_less : (before : List Lexeme) (l : Lexeme) (more : List Lexeme) → Begins text_spelling (before ++ l ∷ more) → Begins text_spelling (before ++ l ∷ [])
begins_less before l more b = (
  b.0,
  more ++ b.1,
  subst (λ (ls : List Lexeme). Match (text_spelling b.0) ls) (append_assoc before (l ∷ more) b.1 ∙ sym (append_assoc before (l ∷ []) (more ++ b.1))) b.2,
)

-- what is spelled begins so
pub spelled_begins : (t : TextTree) (before : List Lexeme) (l : Lexeme) (more : List Lexeme) → Match (text_spelling t) (before ++ l ∷ more) → Begins text_spelling (before ++ l ∷ [])
spelled_begins t before l more m = (t, more, subst (λ (ls : List Lexeme). Match (text_spelling t) ls) (sym (append_assoc before (l ∷ []) more)) m)

-- what begins so begins without its last lexeme
pub front_begins : (front : List Lexeme) (l : Lexeme) → Begins text_spelling (front ++ l ∷ []) → Begins text_spelling front
front_begins front l b = (b.0, l ∷ b.1, subst (λ (ls : List Lexeme). Match (text_spelling b.0) ls) (append_assoc front (l ∷ []) b.1) b.2)
