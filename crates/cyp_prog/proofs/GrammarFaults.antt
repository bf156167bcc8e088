-- The second pass has one fault at most, and none where a tree is spelled.
use Rattle.std.proofs.Common.{◌≡◌, ◌++◌, ◌⊎◌, List, [], ◌∷◌, ap, append-nil, append_assoc, inl, inr, refl, subst, sym}
use Rattle.cyp_lex.specs.Beginnings.{Begins}
use Rattle.cyp_lex.specs.Lexemes.{Lexeme}
use Rattle.cyp_lex.specs.Spelling.{Mark, Match}
use Rattle.cyp_prog.specs.Faults.{BadByte, DuplicateName, Expected, NumberRange, ProgKind, TooLarge, UnknownName, WrongArity}
use Rattle.cyp_prog.specs.Nesting.{IsShallow}
use Rattle.cyp_prog.specs.Passes.{IsRefused}

-- the lexemes `c` go on behind `a`, behind which `b` stands
pub record GoesOn (a b c : List Lexeme) : Type 0 where
  pub next : Lexeme
  pub more : List Lexeme
  pub after : List Lexeme
  pub begins : b ≡ next ∷ after
  pub is : c ≡ a ++ next ∷ more

more_on : (l : Lexeme) (a b c : List Lexeme) → GoesOn a b c → GoesOn (l ∷ a) b (l ∷ c)
more_on l a b c g = record { next = g.next; more = g.more; after = g.after; begins = g.begins; is = ap (λ (ls : List Lexeme). l ∷ ls) g.is }

abbrev pub Compared : (a b c d : List Lexeme) → Type 0
Compared a b c d = ((a ≡ c) × (b ≡ d)) ⊎ (GoesOn a b c ⊎ GoesOn c d a)

more_compared : (l : Lexeme) (a b c d : List Lexeme) → Compared a b c d → Compared (l ∷ a) b (l ∷ c) d
more_compared l a b c d (inl e) = inl (ap (λ (ls : List Lexeme). l ∷ ls) e.0, e.1)
more_compared l a b c d (inr (inl g)) = inr (inl (more_on l a b c g))
more_compared l a b c d (inr (inr g)) = inr (inr (more_on l c d a g))

-- two ways to cut one list
pub compare : (a b c d : List Lexeme) → a ++ b ≡ c ++ d → Compared a b c d
compare [] b [] d e = inl (refl, e)
compare [] b (k ∷ c) d e = inr (inl (record { next = k; more = c; after = c ++ d; begins = e; is = refl }))
compare (l ∷ a) b [] d e = inr (inr (record { next = l; more = a; after = a ++ b; begins = sym e; is = refl }))
compare (l ∷ a) b (k ∷ c) d e =
    let heads : l ≡ k = cc in
    let tails : a ++ b ≡ c ++ d = cc in
    subst (λ (x : Lexeme). Compared (l ∷ a) b (x ∷ c) d) heads (more_compared l a b c d (compare a b c d tails))

-- a beginning of a beginning is one
pub begun : {A : Type 0} (spell : A → List Mark) (a b : List Lexeme) → Begins spell (a ++ b) → Begins spell a
begun spell a b h = (h.0, b ++ h.1, subst (λ (ls : List Lexeme). Match (spell h.0) ls) (append_assoc a b h.1) h.2)

-- nothing is refused inside a beginning that is shallow
passed_by : {A : Type 0} (spell : A → List Mark) (before after : List Lexeme) (l : Lexeme) (more : List Lexeme) (k : ProgKind)
    → Begins spell (before ++ l ∷ more) → IsShallow (before ++ l ∷ more) → IsRefused spell before (l ∷ after) k → ⊥
passed_by spell before after l more Expected b s h = h (begun spell (before ++ l ∷ []) more (subst (λ (ls : List Lexeme). Begins spell ls) (sym (append_assoc before (l ∷ []) more)) b))
passed_by spell before after l more TooLarge b s h = s before more l refl h.1
passed_by spell before after l more BadByte b s h = h
passed_by spell before after l more NumberRange b s h = h
passed_by spell before after l more UnknownName b s h = h
passed_by spell before after l more DuplicateName b s h = h
passed_by spell before after l more WrongArity b s h = h

pub passed : {A : Type 0} (spell : A → List Mark) (before rest longer : List Lexeme) (k : ProgKind) → GoesOn before rest longer
    → Begins spell longer → IsShallow longer → IsRefused spell before rest k → ⊥
passed spell before rest longer k g b s h =
    passed_by spell before g.after g.next g.more k
    (subst (λ (ls : List Lexeme). Begins spell ls) g.is b) (subst (λ (ls : List Lexeme). IsShallow ls) g.is s) (subst (λ (ls : List Lexeme). IsRefused spell before ls k) g.begins h)

-- one kind of fault at one place
pub one_kind : {A : Type 0} (spell : A → List Mark) (before rest : List Lexeme) (k j : ProgKind) → IsRefused spell before rest k → IsRefused spell before rest j → k ≡ j
one_kind spell before [] Expected Expected h i = refl
one_kind spell before [] Expected j h i = absurd i
one_kind spell before [] k j h i = absurd h
one_kind spell before (l ∷ after) Expected Expected h i = refl
one_kind spell before (l ∷ after) Expected TooLarge h i = absurd (h i.0)
one_kind spell before (l ∷ after) TooLarge Expected h i = absurd (i h.0)
one_kind spell before (l ∷ after) TooLarge TooLarge h i = refl
one_kind spell before (l ∷ after) Expected j h i = absurd i
one_kind spell before (l ∷ after) TooLarge j h i = absurd i
one_kind spell before (l ∷ after) k j h i = absurd h

-- what is spelled whole isn't refused
pub whole_passes : {A : Type 0} (spell : A → List Mark) (tree : A) (before rest : List Lexeme) (k : ProgKind) → Match (spell tree) (before ++ rest) → IsShallow (before ++ rest)
    → IsRefused spell before rest k → ⊥
whole_passes spell tree before [] Expected m s h = h tree (subst (λ (ls : List Lexeme). Match (spell tree) ls) (append-nil before) m)
whole_passes spell tree before [] k m s h = h
whole_passes spell tree before (l ∷ after) k m s h =
    passed_by spell before after l after k (tree, [], subst (λ (ls : List Lexeme). Match (spell tree) ls) (sym (append-nil (before ++ l ∷ after))) m) s h
