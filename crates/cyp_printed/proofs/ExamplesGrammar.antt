-- Worked examples of texts that are refused by the grammar.
use Rattle.std.specs.Prelude.{List, [], codes, ℕ, ◌++◌, ◌∷◌, ◌≡◌}
use Rattle.std.proofs.Common.{refl, inl, inr, sym, ◌∙◌}
use Rattle.cyp_lex.specs.Beginnings.{Begins}
use Rattle.cyp_lex.specs.Lexemes.{Lexeme, Name, Reserved, Said}
use Rattle.cyp_lex.specs.Spelling.{Mark, Match, all_spelling, ident, word}
use Rattle.cyp_lex.specs.declared.ident.Ident.{Ident}
use Rattle.cyp_lex.specs.Lexing.{lexed, name_kind, piece_at, sign_at, stands}
use Rattle.cyp_lex.specs.declared.fault.FaultKind.TheVariants.{Expected, MissingProcedure, ReservedName}
use Rattle.cyp_lex.specs.declared.token.Word.TheVariants.{If, Predicate, Void}
use Rattle.cyp_text.specs.Grammar.{pred_spelling, text_spelling}
use Rattle.cyp_text.specs.GrammarFaults.{AllowsName, SpoilsSum, name_at, other, reserved}
use Rattle.cyp_formed.specs.Reading.{IsReading}
use Rattle.cyp_text.specs.declared.tree.PredTree.{PredTree}
use Rattle.cyp_text.specs.declared.tree.PureTree.TheVariants.{NoItems}
use Rattle.cyp_text.specs.declared.tree.TextTree.{TextTree}
use Rattle.cyp_spec.proofs.ExampleForms.{lexemes, refused}

-- the least tree, with this name
abbrev least : List ℕ → ℕ → TextTree
least text place = record {
  preds = [];
  name = record { text = text; place = place };
  params = [];
  pre = record { pure = NoItems; chunks = [] };
  post = record { pure = NoItems; chunks = [] };
}

-- ---- the empty text

none_by : (qs : List PredTree) (ms : List Mark) → Match (all_spelling pred_spelling qs ++ (word Void ∷ ms)) [] → ⊥
none_by [] ms m = m
none_by (q ∷ qs) ms m = m

spelled_by_none : (t : TextTree) → Match (text_spelling t) [] → ⊥
spelled_by_none t m = none_by t.preds _ m

no_procedure : IsReading [] (refused MissingProcedure 0)
unfolding lexed piece_at sign_at stands name_kind
no_procedure = inr (
  _,
  inr (record {
    unfinished = ((least (codes "f") 5, lexemes (codes "void f(){emp}{emp}"), assumption refl), spelled_by_none);
    kind = refl;
    place = refl;
  }),
  refl,
)

-- ---- a reserved word where no name is allowed

-- a text begins with `predicate` or `void`
begins_not_by : (k : Said) → (k ≡ Reserved Void → ⊥) → (k ≡ Reserved Predicate → ⊥) → (qs : List PredTree) (ms : List Mark) (l : Lexeme) (ls : List Lexeme)
    → l.said ≡ k → Match (all_spelling pred_spelling qs ++ (word Void ∷ ms)) (l ∷ ls) → ⊥
begins_not_by k v p [] ms l ls e m = v (sym e ∙ m.0)
begins_not_by k v p (q ∷ qs) ms l ls e m = p (sym e ∙ m.0)

begins_not : (k : Said) → (k ≡ Reserved Void → ⊥) → (k ≡ Reserved Predicate → ⊥) → (l : Lexeme) → l.said ≡ k → Begins text_spelling (l ∷ []) → ⊥
begins_not k v p l e b = begins_not_by k v p b.0.preds _ l b.1 e b.2

abbrev if_at : ℕ → Lexeme
if_at p = record { said = Reserved If; place = p }

spoils_nothing : (before : List Lexeme) → SpoilsSum before (Reserved If) → ⊥
spoils_nothing before (inl e) = absurd cc
spoils_nothing before (inr e) = absurd cc

no_name_first : AllowsName [] → ⊥
no_name_first all = begins_not (Name []) (λ e. cc) (λ e. cc) (name_at [] 0) refl (all [] 0)

first_word : IsReading (codes "if") (refused Expected 0)
unfolding lexed piece_at sign_at stands name_kind
first_word = inr (
  _,
  inl (record {
    before = [];
    lexeme = if_at 0;
    after = [];
    parts = refl;
    refused = ((least (codes "f") 5, lexemes (codes "void f(){emp}{emp}"), assumption refl), begins_not (Reserved If) (λ e. cc) (λ e. cc) (if_at 0) refl);
    kind = other (spoils_nothing []) no_name_first;
    place = refl;
  }),
  refl,
)

-- ---- a reserved word where a name is allowed

abbrev void_at : ℕ → Lexeme
void_at p = record { said = Reserved Void; place = p }

no_second_by : (qs : List PredTree) (i : Ident) (ms : List Mark) (ls : List Lexeme) → Match (all_spelling pred_spelling qs ++ (word Void ∷ ident i ∷ ms)) (void_at 0 ∷ void_at 5 ∷ ls) → ⊥
no_second_by [] i ms ls m = let says : Reserved Void ≡ Name i.text = m.1.0.0 in absurd cc
no_second_by (q ∷ qs) i ms ls m = let says : Reserved Void ≡ Reserved Predicate = m.0 in absurd cc

abbrev voids : List ℕ
voids = codes "void void() { emp } { emp }"

-- behind the first word of a text
abbrev pub behind : List Lexeme → List Lexeme
behind [] = []
behind (l ∷ ls) = ls

second_void : IsReading voids (refused ReservedName 5)
unfolding lexed piece_at sign_at stands name_kind
second_void = inr (
  _,
  inl (record {
    before = void_at 0 ∷ [];
    lexeme = void_at 5;
    after = behind (behind (lexemes voids));
    parts = refl;
    refused = (
      (least (codes "f") 5, behind (lexemes (codes "void f(){emp}{emp}")), assumption refl),
      λ b. no_second_by b.0.preds b.0.name _ b.1 b.2,
    );
    kind = reserved (λ text place. (least text place, behind (behind (lexemes (codes "void f(){emp}{emp}"))), assumption refl));
    place = refl;
  }),
  refl,
)
