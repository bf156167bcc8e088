-- Whether a name may stand behind lexemes that a text begins with, where the grammar is decided for each list of lexemes.
use Rattle.std.proofs.Common.{List, [], inl, inr, subst, sym, ℕ, ◌++◌, ◌∙◌, ◌∷◌, ◌≡◌, ◌⊎◌}
use Rattle.std.proofs.lemmas.List.{append-nil}
use Rattle.cyp_lex.specs.Beginnings.{Begins}
use Rattle.cyp_lex.specs.Lexemes.{Lexeme}
use Rattle.cyp_lex.specs.Spelling.{Match}
use Rattle.cyp_text.specs.Grammar.{text_spelling}
use Rattle.cyp_text.specs.GrammarFaults.{AllowsName, name_at}
use Rattle.cyp_text.specs.declared.tree.TextTree.{TextTree}
use Rattle.cyp_text.proofs.Fronts.{begins_less, spelled_begins}
use Rattle.cyp_text.proofs.Parted.{Parted, longer, parted, same, shorter}

-- no tree's spelling begins with these lexemes and the next one, or none ends here where nothing is left
abbrev pub IsNoMore : List Lexeme → List Lexeme → Type 0
IsNoMore before [] = (t : TextTree) → Match (text_spelling t) before → ⊥
IsNoMore before (l ∷ ls) = Begins text_spelling (before ++ l ∷ []) → ⊥

-- no name may stand behind these lexemes
abbrev pub AllowsNone : List Lexeme → Type 0
AllowsNone before = (text : List ℕ) (place : ℕ) → Begins text_spelling (before ++ name_at text place ∷ []) → ⊥

-- the lexemes go on as no text does, and any name may stand there or none
pub record Stops (ls : List Lexeme) : Type 0 where
  pub before : List Lexeme
  pub rest : List Lexeme
  pub parts : ls ≡ before ++ rest
  pub begins : Begins text_spelling before
  pub no_more : IsNoMore before rest
  pub names : AllowsName before ⊎ AllowsNone before

-- the lexemes spell a tree, or they stop
abbrev pub Parsed : List Lexeme → Type 0
Parsed ls = ((t : TextTree) × Match (text_spelling t) ls) ⊎ Stops ls

-- ---- where names may stand

-- a front that a text begins with, and then a lexeme: the stop is at the lexeme or behind it
stop_names : (front : List Lexeme) (text : List ℕ) (place : ℕ) → Begins text_spelling front → (s : Stops (front ++ name_at text place ∷ []))
    → Begins text_spelling (front ++ name_at text place ∷ []) ⊎ AllowsNone front
stop_names front text place b s = by_rest s.rest s.parts s.no_more
  where
    at_lexeme : (l : Lexeme) (more : List Lexeme) → (Begins text_spelling (s.before ++ l ∷ []) → ⊥) → Parted front s.before (name_at text place) l
        → Begins text_spelling (front ++ name_at text place ∷ []) ⊎ AllowsNone front
    at_lexeme l more refused (same p q) = by_names s.names
      where
        by_names : AllowsName s.before ⊎ AllowsNone s.before → Begins text_spelling (front ++ name_at text place ∷ []) ⊎ AllowsNone front
        by_names (inl all) = inl (subst (λ (bs : List Lexeme). Begins text_spelling (bs ++ name_at text place ∷ [])) (sym p) (all text place))
        by_names (inr none) = inr (subst (λ (bs : List Lexeme). AllowsNone bs) (sym p) none)
    at_lexeme l more refused (longer more' p) =
        inl (begins_less front (name_at text place) more' (subst (λ (bs : List Lexeme). Begins text_spelling bs) p s.begins))
    at_lexeme l more refused (shorter more' p) = absurd (refused (begins_less s.before l more' (subst (λ (bs : List Lexeme). Begins text_spelling bs) p b)))

    by_rest : (rest : List Lexeme) → front ++ name_at text place ∷ [] ≡ s.before ++ rest → IsNoMore s.before rest
        → Begins text_spelling (front ++ name_at text place ∷ []) ⊎ AllowsNone front
    by_rest [] p end = inl (subst (λ (bs : List Lexeme). Begins text_spelling bs) (sym (p ∙ append-nil s.before)) s.begins)
    by_rest (l ∷ more) p refused = at_lexeme l more refused (parted front s.before (name_at text place) l [] more p)

-- one name may stand there, or none may
one_name : ((ls : List Lexeme) → Parsed ls) → (front : List Lexeme) (text : List ℕ) (place : ℕ) → Begins text_spelling front
    → Begins text_spelling (front ++ name_at text place ∷ []) ⊎ AllowsNone front
one_name parse front text place b = by (parse (front ++ name_at text place ∷ []))
  where
    by : Parsed (front ++ name_at text place ∷ []) → Begins text_spelling (front ++ name_at text place ∷ []) ⊎ AllowsNone front
    by (inl t) = inl (spelled_begins t.0 front (name_at text place) [] t.1)
    by (inr s) = stop_names front text place b s

-- any name may stand behind these lexemes, or none may
pub decide_name : ((ls : List Lexeme) → Parsed ls) → (front : List Lexeme) → Begins text_spelling front → AllowsName front ⊎ AllowsNone front
decide_name parse front b = by (one_name parse front [] 0 b)
  where
    also : Begins text_spelling (front ++ name_at [] 0 ∷ []) → (text : List ℕ) (place : ℕ)
        → Begins text_spelling (front ++ name_at text place ∷ []) ⊎ AllowsNone front → Begins text_spelling (front ++ name_at text place ∷ [])
    also one text place (inl b) = b
    also one text place (inr none) = absurd (none [] 0 one)

    by : Begins text_spelling (front ++ name_at [] 0 ∷ []) ⊎ AllowsNone front → AllowsName front ⊎ AllowsNone front
    by (inl one) = inl (λ text place. also one text place (one_name parse front text place b))
    by (inr none) = inr none

pub not_any : (front : List Lexeme) → AllowsNone front → AllowsName front → ⊥
not_any front none all = none [] 0 (all [] 0)
