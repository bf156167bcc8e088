-- A text has one reading at most.
use Rattle.std.proofs.Common.{◌≡◌, ◌++◌, ◌∙◌, Err, List, Ok, Result, ap, inl, inr, length, subst, sym, ℕ}
use Rattle.cyp_lex.specs.Lexemes.{Lexeme}
use Rattle.cyp_lex.specs.Spelling.{Mark, Match}
use Rattle.cyp_lex.specs.declared.token.Token.{Token}
use Rattle.cyp_prog.proofs.GrammarFaults.{compare, Compared, one_kind, passed, whole_passes}
use Rattle.cyp_prog.specs.Faults.{ProgFault, ProgKind}
use Rattle.cyp_prog.specs.Lexemes.{program_lexemes}
use Rattle.cyp_prog.specs.Nesting.{IsShallow}
use Rattle.cyp_prog.specs.Passes.{HasTree, IsGrammarFault, IsReading, IsRefused, IsText, IsTokenFault, IsTreeFault, Says, Syntax, place_of_next, token_kind}

-- lexemes spell one tree at most
abbrev pub IsUnambiguous : {A : Type 0} → (A → List Mark) → Type 0
IsUnambiguous {A} spell = (s t : A) (ls : List Lexeme) → Match (spell s) ls → Match (spell t) ls → s ≡ t

fault_same : (f g : ProgFault) → f.kind ≡ g.kind → f.place ≡ g.place → f ≡ g
fault_same f g k p =
    let fault : ProgKind → ℕ → ProgFault = λ x y. record { kind = x; place = y } in
    ap (λ x. fault x f.place) k ∙ ap (λ y. fault g.kind y) p

says_one : (bytes : List ℕ) (a b : List Lexeme) → Says bytes a → Says bytes b → a ≡ b
says_one bytes a b x y =
    let same : x.tokens ≡ y.tokens = cc (x.lexed, y.lexed) in
    sym x.said ∙ ap (λ (ts : List Token). program_lexemes bytes ts) same ∙ y.said

-- ---- faults of different passes, and trees

said_no_token_fault : (bytes : List ℕ) (ls : List Lexeme) (f : ProgFault) → Says bytes ls → IsTokenFault bytes f → ⊥
said_no_token_fault bytes ls f x y = cc (x.lexed, y.lexed)

tree_same : (A R : Type 0) (x : Syntax A R) → IsUnambiguous x.spelling → (bytes : List ℕ) (s t : A) → HasTree A R x bytes s → HasTree A R x bytes t → s ≡ t
tree_same A R x one bytes s t h i = one s t i.lexemes (subst (λ (ls : List Lexeme). Match (x.spelling s) ls) (says_one bytes h.lexemes i.lexemes h.says i.says) h.spelled) i.spelled

tree_no_grammar_fault : (A R : Type 0) (x : Syntax A R) (bytes : List ℕ) (t : A) (f : ProgFault) → HasTree A R x bytes t → IsGrammarFault A R x bytes f → ⊥
tree_no_grammar_fault A R x bytes t f h g =
    let same : h.lexemes ≡ g.before ++ g.rest = says_one bytes h.lexemes (g.before ++ g.rest) h.says g.says in
    whole_passes x.spelling t g.before g.rest f.kind (subst (λ (ls : List Lexeme). Match (x.spelling t) ls) same h.spelled) (subst (λ (ls : List Lexeme). IsShallow ls) same h.shallow) g.refused

-- ---- one fault of each pass

token_fault_same : (bytes : List ℕ) (f g : ProgFault) → IsTokenFault bytes f → IsTokenFault bytes g → f ≡ g
token_fault_same bytes f g x y =
    let same : x.fault ≡ y.fault = cc (x.lexed, y.lexed) in
    fault_same f g (x.kind ∙ ap (λ e. token_kind e.kind) same ∙ sym y.kind) (x.place ∙ ap (λ e. e.place) same ∙ sym y.place)

grammar_fault_same : (A R : Type 0) (x : Syntax A R) (bytes : List ℕ) (f g : ProgFault) → IsGrammarFault A R x bytes f → IsGrammarFault A R x bytes g → f ≡ g
grammar_fault_same A R x bytes f g h i = of (compare h.before h.rest i.before i.rest (says_one bytes (h.before ++ h.rest) (i.before ++ i.rest) h.says i.says))
  where
    of : Compared h.before h.rest i.before i.rest → f ≡ g
    of (inl e) =
        let moved = subst (λ (ls : List Lexeme). IsRefused x.spelling ls i.rest g.kind) (sym e.0) i.refused in
        let moved' = subst (λ (ls : List Lexeme). IsRefused x.spelling h.before ls g.kind) (sym e.1) moved in
        fault_same f g (one_kind x.spelling h.before h.rest f.kind g.kind h.refused moved') (h.place ∙ ap (λ (ls : List Lexeme). place_of_next (length bytes) ls) e.1 ∙ sym i.place)
    of (inr (inl on)) = absurd (passed x.spelling h.before h.rest i.before f.kind on i.begun i.shallow h.refused)
    of (inr (inr on)) = absurd (passed x.spelling i.before i.rest h.before g.kind on h.begun h.shallow i.refused)

tree_fault_same : (A R : Type 0) (x : Syntax A R) → IsUnambiguous x.spelling → (bytes : List ℕ) (f g : ProgFault) → IsTreeFault A R x bytes f → IsTreeFault A R x bytes g → f ≡ g
tree_fault_same A R x one bytes f g h i =
    let same : h.tree ≡ i.tree = tree_same A R x one bytes h.tree i.tree h.parsed i.parsed in
    cc (h.least, i.least)

text_same : (A R : Type 0) (x : Syntax A R) → IsUnambiguous x.spelling → (bytes : List ℕ) (r s : R) → IsText A R x bytes r → IsText A R x bytes s → r ≡ s
text_same A R x one bytes r s h i =
    let same : h.tree ≡ i.tree = tree_same A R x one bytes h.tree i.tree h.parsed i.parsed in
    sym h.said ∙ ap x.said same ∙ i.said

-- ---- readings

text_not_refused : (A R : Type 0) (x : Syntax A R) → IsUnambiguous x.spelling → (bytes : List ℕ) (r : R) (f : ProgFault) → IsReading x bytes (Ok r) → IsReading x bytes (Err f) → ⊥
text_not_refused A R x one bytes r f h (inl y) = said_no_token_fault bytes h.parsed.lexemes f h.parsed.says y
text_not_refused A R x one bytes r f h (inr (inl y)) = tree_no_grammar_fault A R x bytes h.tree f h.parsed y
text_not_refused A R x one bytes r f h (inr (inr y)) =
    let same : h.tree ≡ y.tree = tree_same A R x one bytes h.tree y.tree h.parsed y.parsed in
    cc (h.faultless, y.least)

refused_once : (A R : Type 0) (x : Syntax A R) → IsUnambiguous x.spelling → (bytes : List ℕ) (f g : ProgFault) → IsReading x bytes (Err f) → IsReading x bytes (Err g) → f ≡ g
refused_once A R x one bytes f g (inl h) (inl i) = token_fault_same bytes f g h i
refused_once A R x one bytes f g (inl h) (inr (inl i)) = absurd (said_no_token_fault bytes (i.before ++ i.rest) f i.says h)
refused_once A R x one bytes f g (inl h) (inr (inr i)) = absurd (said_no_token_fault bytes i.parsed.lexemes f i.parsed.says h)
refused_once A R x one bytes f g (inr (inl h)) (inl i) = absurd (said_no_token_fault bytes (h.before ++ h.rest) g h.says i)
refused_once A R x one bytes f g (inr (inl h)) (inr (inl i)) = grammar_fault_same A R x bytes f g h i
refused_once A R x one bytes f g (inr (inl h)) (inr (inr i)) = absurd (tree_no_grammar_fault A R x bytes i.tree f i.parsed h)
refused_once A R x one bytes f g (inr (inr h)) (inl i) = absurd (said_no_token_fault bytes h.parsed.lexemes g h.parsed.says i)
refused_once A R x one bytes f g (inr (inr h)) (inr (inl i)) = absurd (tree_no_grammar_fault A R x bytes h.tree g h.parsed i)
refused_once A R x one bytes f g (inr (inr h)) (inr (inr i)) = tree_fault_same A R x one bytes f g h i

-- a text of an unambiguous grammar has one reading at most
pub reading_once : (A R : Type 0) (x : Syntax A R) → IsUnambiguous x.spelling → (bytes : List ℕ) (r s : Result R ProgFault) → IsReading x bytes r → IsReading x bytes s → r ≡ s
reading_once A R x one bytes (Ok r) (Ok s) h i = ap (λ (u : R). Ok u) (text_same A R x one bytes r s h i)
reading_once A R x one bytes (Ok r) (Err g) h i = absurd (text_not_refused A R x one bytes r g h i)
reading_once A R x one bytes (Err f) (Ok s) h i = absurd (text_not_refused A R x one bytes s f i h)
reading_once A R x one bytes (Err f) (Err g) h i = ap (λ (e : ProgFault). Err e) (refused_once A R x one bytes f g h i)
