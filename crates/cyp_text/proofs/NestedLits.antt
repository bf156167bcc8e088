-- Literals read one negation inside the other, and that this is how the negations in a row are read.
use Rattle.std.proofs.Common.{Bool, Err, List, Ok, ap, arith, false, inl, inr, length, refl, suc, sym, true, zero, ℕ, ◌<◌, ◌∙◌, ◌∷◌, ◌≡◌, ◌⊎◌}
use Rattle.cyp_lex.specs.Lexemes.{Lexeme}
use Rattle.cyp_lex.specs.Readers.{Read, both, first_tells, heads, is_sign, is_word, kind_tells, mapped, place_if, sign_token, stop, word_place, ◌>>=◌}
use Rattle.cyp_lex.specs.declared.want.Want.TheVariants.{AName, NoName}
use Rattle.cyp_lex.specs.declared.token.Sign.TheVariants.{LeftParen, RightParen}
use Rattle.cyp_lex.specs.declared.token.Word.TheVariants.{Not}
use Rattle.cyp_text.specs.ListReaders.{Refuses, cons_rest, many, more_by}
use Rattle.cyp_text.specs.LitReaders.{Base, Related, base_at, base_tree, begins_base, closes, int_lit, is_set_tail, lit_at, negated_end, negated_rest, opening, place_rest, plain_base, set_lit}
use Rattle.cyp_text.specs.LitTrees.{Comparing, Inside, LitTree, Negation, SameSets, SubSets, negated, plain_lit}
use Rattle.cyp_text.specs.TermReaders.{begins_int, begins_set}
use Rattle.cyp_text.specs.declared.lit_tree.BaseTree.{BaseTree}
use Rattle.cyp_text.specs.declared.tree.IntTree.{IntTree}
use Rattle.cyp_text.specs.declared.tree.SetTree.{SetTree}
use Rattle.cyp_text.proofs.ChoicesRead.{second_refuses}
use Rattle.cyp_text.proofs.ListsRead.{first_left, first_right, pair_of, to_left, to_right}
use Rattle.cyp_text.proofs.LitsRead.{opening_consumes}
use Rattle.cyp_text.proofs.Many.{many_is, single_consumes}

abbrev pub set_tree_of : SetTree → Bool → SetTree → LitTree
set_tree_of a true b = SameSets a b
set_tree_of a false b = SubSets a b

abbrev pub related_tree : IntTree → Related → LitTree
related_tree a (inl y) = Comparing a y.0 y.1
related_tree a (inr y) = Inside a y.1

abbrev pub Negated : Type 0
Negated = ℕ × (Unit {0} × (LitTree × Unit {0}))

abbrev pub lit_tree : Negated ⊎ Base → LitTree
lit_tree (inl x) = Negation x.0 x.1.1.0
lit_tree (inr (inl x)) = related_tree x.0 x.1
lit_tree (inr (inr x)) = set_tree_of x.0 x.1.0 x.1.1

-- the number is above that of the lexemes
abbrev pub lit_in : ℕ → List Lexeme → Read LitTree
lit_in zero ts = stop NoName ts
lit_in (suc n) ts = mapped lit_tree (first_tells AName (is_word Not) begins_base (both (word_place Not) (both (sign_token LeftParen) (both (lit_in n) (sign_token RightParen)))) base_at) ts

-- ---- the same in a row

abbrev lit_end : (Negated ⊎ Base) × List Lexeme → Read LitTree
lit_end z = Ok (lit_tree z.0, z.1)

plain_tree : (b : Base) → lit_tree (inr b) ≡ plain_lit (base_tree b)
plain_tree (inl (a, inl y)) = refl
plain_tree (inl (a, inr y)) = refl
plain_tree (inr (a, (true, b))) = refl
plain_tree (inr (a, (false, b))) = refl

abbrev ok_at : List Lexeme → LitTree → Read LitTree
ok_at rest l = Ok (l, rest)

abbrev base_end : Base × List Lexeme → Read BaseTree
base_end z = Ok (base_tree z.0, z.1)

no_negation : (r : Read Base) → ((r >>= to_right {A = Negated}) >>= lit_end) ≡ ((r >>= base_end) >>= λ y. ok_at y.1 (plain_lit y.0))
no_negation (Ok x) = ap (ok_at x.1) (plain_tree x.0)
no_negation (Err e) = refl

closes_last : (n : ℕ) (ls : List Lexeme) → closes (suc n) ls ≡ (closes n ls >>= λ z. sign_token RightParen z.1)
closes_last zero ls = last (sign_token RightParen ls)
  where
    last : (r : Read (Unit {0})) → (r >>= λ x. closes zero x.1) ≡ r
    last (Ok x) = refl
    last (Err e) = refl
closes_last (suc n) ls = step (closes_last n) (sign_token RightParen ls)
  where
    step : ((us : List Lexeme) → closes (suc n) us ≡ (closes n us >>= λ z. sign_token RightParen z.1)) → (r : Read (Unit {0}))
        → (r >>= λ x. closes (suc n) x.1) ≡ ((r >>= λ x. closes n x.1) >>= λ z. sign_token RightParen z.1)
    step h (Ok x) = h x.1
    step h (Err e) = refl

-- a literal and its parenthesis, and what was before it
abbrev outer : ℕ → Unit {0} → Read LitTree → Read LitTree
outer p u r = ((((r >>= λ l. sign_token RightParen l.1 >>= pair_of l.0) >>= pair_of u) >>= pair_of p) >>= to_left {B = Base}) >>= lit_end

last_paren : (p : ℕ) (u : Unit {0}) (ps : List ℕ) (b : BaseTree) (r : Read (Unit {0}))
    → outer p u (r >>= negated_end ps b) ≡ ((r >>= λ z. sign_token RightParen z.1) >>= negated_end (p ∷ ps) b)
last_paren p u ps b (Ok z) = by (sign_token RightParen z.1)
  where
    by : (r : Read (Unit {0})) → ((((r >>= pair_of (negated ps b)) >>= pair_of u) >>= pair_of p) >>= to_left {B = Base}) >>= lit_end ≡ (r >>= negated_end (p ∷ ps) b)
    by (Ok y) = refl
    by (Err e) = refl
last_paren p u ps b (Err e) = refl

negated_base : (p : ℕ) (u : Unit {0}) (ps : List ℕ) (r : Read BaseTree)
    → outer p u (r >>= λ y. closes (length ps) y.1 >>= negated_end ps y.0) ≡ (r >>= λ y. closes (suc (length ps)) y.1 >>= negated_end (p ∷ ps) y.0)
negated_base p u ps (Ok y) =
    last_paren p u ps y.0 (closes (length ps) y.1) ∙ ap (λ (r : Read (Unit {0})). r >>= negated_end (p ∷ ps) y.0) (sym (closes_last (length ps) y.1))
negated_base p u ps (Err e) = refl

more_nots : (p : ℕ) (u : Unit {0}) (r : Read (List ℕ)) → outer p u (r >>= negated_rest) ≡ ((r >>= cons_rest p) >>= negated_rest)
more_nots p u (Ok x) = negated_base p u x.0 (plain_base x.1)
more_nots p u (Err e) = refl

-- a reader gives the same as another on fewer lexemes than so many
abbrev Agrees : ℕ → (List Lexeme → Read LitTree) → (List Lexeme → Read LitTree) → Type 0
Agrees n p q = (us : List Lexeme) → length us < n → p us ≡ q us

after_paren : (n m p : ℕ) → Agrees m (lit_in n) lit_at → (r : Read (Unit {0})) → ((u : Unit {0}) (us : List Lexeme) → r ≡ Ok (u, us) → length us < m)
    → ((((r >>= λ u. (lit_in n u.1 >>= λ l. sign_token RightParen l.1 >>= pair_of l.0) >>= pair_of u.0) >>= pair_of p) >>= to_left {B = Base}) >>= lit_end)
    ≡ (((r >>= place_rest p) >>= λ x. many (is_word Not) opening x.1 >>= cons_rest x.0) >>= negated_rest)
after_paren n m p h (Ok u) c = ap (outer p u.0) (h u.1 (c u.0 u.1 refl)) ∙ more_nots p u.0 (many (is_word Not) opening u.1)
after_paren n m p h (Err e) c = refl

after_not : (n m : ℕ) → Agrees m (lit_in n) lit_at → (r : Read ℕ) → ((p : ℕ) (us : List Lexeme) → r ≡ Ok (p, us) → length us < m)
    → (((r >>= λ p. (sign_token LeftParen p.1 >>= λ u. (lit_in n u.1 >>= λ l. sign_token RightParen l.1 >>= pair_of l.0) >>= pair_of u.0) >>= pair_of p.0) >>= to_left {B = Base}) >>= lit_end)
    ≡ (((r >>= λ x. sign_token LeftParen x.1 >>= place_rest x.0) >>= λ x. many (is_word Not) opening x.1 >>= cons_rest x.0) >>= negated_rest)
after_not n m h (Ok p) c =
    let short = c p.0 p.1 refl in
    after_paren n m p.0 h (sign_token LeftParen p.1) (λ u us e. omega (arith, short, single_consumes (kind_tells (is_sign LeftParen)) NoName p.1 u us e))
after_not n m h (Err e) c = refl

pub base_refuses : Refuses AName begins_base base_at
base_refuses = second_refuses AName begins_int begins_set is_set_tail int_lit set_lit

by_first : (n : ℕ) (ts : List Lexeme) → Agrees (length ts) (lit_in n) lit_at → (b : Bool) → heads (is_word Not) ts ≡ b
    → lit_in (suc n) ts ≡ (more_by (many (is_word Not) opening) opening ts b >>= negated_rest)
by_first n ts h true e =
    ap (λ (r : Read (Negated ⊎ Base)). r >>= lit_end) (first_left AName (is_word Not) begins_base (both (word_place Not) (both (sign_token LeftParen) (both (lit_in n) (sign_token RightParen)))) base_at ts e)
    ∙ after_not n (length ts) h (word_place Not ts) (λ p us f. single_consumes (place_if (is_word Not)) NoName ts p us f)
by_first n ts h false e =
    ap (λ (r : Read (Negated ⊎ Base)). r >>= lit_end) (first_right AName (is_word Not) begins_base (both (word_place Not) (both (sign_token LeftParen) (both (lit_in n) (sign_token RightParen)))) base_at base_refuses ts e)
    ∙ no_negation (base_at ts)

nested : (n : ℕ) → Agrees n (lit_in n) lit_at
nested zero ts short = absurd (omega (arith, short))
nested (suc n) ts short =
    by_first n ts (λ us less. nested n us (omega (arith, short, less))) (heads (is_word Not) ts) refl
    ∙ ap (λ (r : Read (List ℕ)). r >>= negated_rest) (sym (many_is (is_word Not) opening opening_consumes ts))

pub nested_is : (ts : List Lexeme) → lit_in (suc (length ts)) ts ≡ lit_at ts
nested_is ts = nested (suc (length ts)) ts (omega arith)
