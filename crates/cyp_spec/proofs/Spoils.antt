-- Whether a lexeme would make a sum that is no difference, where the grammar is decided for each list of lexemes.
use Rattle.std.proofs.Common.{List, [], ap, false, inl, inr, refl, subst, sym, true, ◌++◌, ◌∙◌, ◌∷◌, ◌≡◌, ◌⊎◌}
use Rattle.std.specs.Prelude.{Bool, IsTrue}
use Rattle.cyp_lex.specs.Beginnings.{Begins}
use Rattle.cyp_lex.specs.Lexemes.{Lexeme, Number, Said, Symbol}
use Rattle.cyp_lex.specs.declared.token.Sign.TheVariants as signs
use Rattle.cyp_text.specs.Grammar.{text_spelling}
use Rattle.cyp_text.specs.GrammarFaults.{AllowsName, EndsInFirstNumber, SpoilsSum, backwards, spoils}
use Rattle.cyp_text.proofs.Fronts.{front_begins}
use Rattle.cyp_text.proofs.NamesAllowed.{AllowsNone, Parsed, decide_name, not_any}
use Rattle.cyp_text.proofs.Parted.{LastSplit, last_split, no_end, one_last}

-- it holds or it doesn't
abbrev pub Decided : Type 0 → Type 0
Decided A = A ⊎ (A → ⊥)

by_bool : (b : Bool) → Decided (IsTrue b)
by_bool true = inl refl
by_bool false = inr (λ e. cc)

is_minus : (k : Said) → Decided (k ≡ Symbol signs.Minus)
is_minus (Symbol signs.Minus) = inl refl
is_minus _ = inr (λ e. cc)

-- what the last lexeme says
told_last : (before front : List Lexeme) (l : Lexeme) → before ≡ front ++ l ∷ [] → AllowsName front ⊎ AllowsNone front → (k : Said) → l.said ≡ k → Decided (EndsInFirstNumber before)
told_last before front l p (inl all) (Number n) e = inl (record { front = front; last = l; number = n; parts = p; says = e; begins_term = all })
told_last before front l p (inr none) (Number n) e = inr (λ (x : EndsInFirstNumber before).
    not_any front none (subst (λ (ls : List Lexeme). AllowsName ls) (one_last x.front front x.last l (sym x.parts ∙ p)).0 x.begins_term))
told_last before front l p names k e = inr (λ (x : EndsInFirstNumber before).
    let one : x.last ≡ l = (one_last x.front front x.last l (sym x.parts ∙ p)).1 in
    let says : Number x.number ≡ k = sym x.says ∙ ap (λ (m : Lexeme). m.said) one ∙ e in
    absurd cc)

first_number : ((ls : List Lexeme) → Parsed ls) → (before : List Lexeme) → Begins text_spelling before → LastSplit before → Decided (EndsInFirstNumber before)
first_number parse before b (inl e) = inr (λ (x : EndsInFirstNumber before). no_end x.front x.last (sym e ∙ x.parts))
first_number parse before b (inr s) =
    let begun : Begins text_spelling s.0 = front_begins s.0 s.1 (subst (λ (ls : List Lexeme). Begins text_spelling ls) s.2 b) in
    told_last before s.0 s.1 s.2 (decide_name parse s.0 begun) s.1.said refl

both_decided : {A B : Type 0} → Decided A → Decided B → Decided (A × B)
both_decided (inl a) (inl b) = inl (a, b)
both_decided (inr na) d = inr (λ x. na x.0)
both_decided (inl a) (inr nb) = inr (λ x. nb x.1)

either_decided : {A B : Type 0} → Decided A → Decided B → Decided (A ⊎ B)
either_decided (inl a) d = inl (inl a)
either_decided (inr na) (inl b) = inl (inr b)
either_decided {A} {B} (inr na) (inr nb) = inr neither
  where
    neither : A ⊎ B → ⊥
    neither (inl a) = na a
    neither (inr b) = nb b

-- whether a lexeme behind these would make a sum that is no difference
pub decide_spoils : ((ls : List Lexeme) → Parsed ls) → (before : List Lexeme) → Begins text_spelling before → (k : Said) → Decided (SpoilsSum before k)
decide_spoils parse before b k =
    either_decided (by_bool (spoils (backwards [] before) k)) (both_decided (is_minus k) (first_number parse before b (last_split before)))
