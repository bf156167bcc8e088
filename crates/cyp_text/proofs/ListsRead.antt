-- Lists up to what ends them are read part after part.
use Rattle.std.proofs.Common.{Bool, Err, List, Ok, [], ap, arith, false, inl, inr, length, refl, suc, sym, true, zero, ℕ, ◌<◌, ◌∙◌, ◌∷◌, ◌≡◌, ◌⊎◌}
use Rattle.cyp_lex.specs.Lexemes.{Lexeme, Said}
use Rattle.cyp_lex.specs.Readers.{Read, both, first_tells, heads, mapped, pick_by, repeated, repeated_tree, repeating, ◌>>=◌}
use Rattle.cyp_lex.specs.declared.want.Want.{Want}
use Rattle.cyp_lex.specs.declared.want.Want.TheVariants.{NoName}
use Rattle.cyp_text.specs.ListReaders.{Consumes, Refuses, cons_rest, many, more_by}
use Rattle.cyp_text.proofs.Many.{many_is}

abbrev pub pair_of : {A B : Type 0} → A → B × List Lexeme → Read (A × B)
pair_of a y = Ok ((a, y.0), y.1)

-- one list reader gives what another does on fewer lexemes than so many
abbrev Agrees : {A : Type 0} → ℕ → (List Lexeme → Read A) → (List Lexeme → Read A) → Type 0
Agrees n p q = (ls : List Lexeme) → length ls < n → p ls ≡ q ls

-- what is left after reading has fewer lexemes than so many
abbrev Leaves : {A : Type 0} → ℕ → Read A → Type 0
Leaves {A} n r = (x : A) (rest : List Lexeme) → r ≡ Ok (x, rest) → length rest < n

-- ---- the choice that a first lexeme tells

abbrev pub to_left : {A B : Type 0} → A × List Lexeme → Read (A ⊎ B)
to_left x = Ok (inl x.0, x.1)

abbrev pub to_right : {A B : Type 0} → B × List Lexeme → Read (A ⊎ B)
to_right x = Ok (inr x.0, x.1)

pub pick_left : {A B : Type 0} (p : List Lexeme → Read A) (q : List Lexeme → Read B) (ts : List Lexeme) (x : Bool) → x ≡ true → pick_by p q ts x ≡ (p ts >>= to_left)
pick_left p q ts true e = refl
pick_left p q ts false e = absurd cc

pub pick_right : {A B : Type 0} (p : List Lexeme → Read A) (q : List Lexeme → Read B) (ts : List Lexeme) (x : Bool) → x ≡ false → pick_by p q ts x ≡ (q ts >>= to_right)
pick_right p q ts true e = absurd cc
pick_right p q ts false e = refl

pub first_left : {A B : Type 0} (want : Want) (a b : Said → Bool) (p : List Lexeme → Read A) (q : List Lexeme → Read B) (ts : List Lexeme)
    → heads a ts ≡ true → first_tells want a b p q ts ≡ (p ts >>= to_left)
first_left want a b p q [] e = absurd cc
first_left want a b p q (t ∷ ts) e = rw e (pick_left p q (t ∷ ts) (a t.said) e)

right_by : {A B : Type 0} (want : Want) (a b : Said → Bool) (p : List Lexeme → Read A) (q : List Lexeme → Read B) → Refuses want b q → (ts : List Lexeme)
    → heads a ts ≡ false → (x : Bool) → heads b ts ≡ x → first_tells want a b p q ts ≡ (q ts >>= to_right)
right_by want a b p q h [] e x f = rw (h [] refl) refl
right_by want a b p q h (t ∷ ts) e true f = rw (e, f) (pick_right p q (t ∷ ts) (a t.said) e)
right_by want a b p q h (t ∷ ts) e false f = rw (e, f, h (t ∷ ts) f) refl

pub first_right : {A B : Type 0} (want : Want) (a b : Said → Bool) (p : List Lexeme → Read A) (q : List Lexeme → Read B) → Refuses want b q → (ts : List Lexeme)
    → heads a ts ≡ false → first_tells want a b p q ts ≡ (q ts >>= to_right)
first_right want a b p q h ts e = right_by want a b p q h ts e (heads b ts) refl

-- ---- lists up to what ends them

abbrev repeated_end : {A B : Type 0} → ((A × (List A × B)) ⊎ B) × List Lexeme → Read (List A × B)
repeated_end z = Ok (repeated_tree z.0, z.1)

last_part : {A B : Type 0} (x : A) (xs : List A) (r : Read B) → (((((r >>= pair_of xs) >>= pair_of x) >>= to_left) >>= repeated_end)) ≡ (r >>= pair_of (x ∷ xs))
last_part x xs (Ok y) = refl
last_part x xs (Err e) = refl

parts_then : {A B : Type 0} (x : A) (q : List Lexeme → Read B) (r : Read (List A))
    → ((((r >>= λ y. q y.1 >>= pair_of y.0) >>= pair_of x) >>= to_left) >>= repeated_end) ≡ ((r >>= cons_rest x) >>= λ y. q y.1 >>= pair_of y.0)
parts_then x q (Ok y) = last_part x y.0 (q y.1)
parts_then x q (Err e) = refl

one_part : {A B : Type 0} (k : List Lexeme → Read (List A)) (l : List Lexeme → Read (List A × B)) (q : List Lexeme → Read B) (n : ℕ) → Agrees n l (both k q)
    → (r : Read A) → Leaves n r
    → (((r >>= λ x. l x.1 >>= pair_of x.0) >>= to_left) >>= repeated_end) ≡ ((r >>= λ x. k x.1 >>= cons_rest x.0) >>= λ y. q y.1 >>= pair_of y.0)
one_part {A} {B} k l q n h (Ok x) d =
    ap (λ (r : Read (List A × B)). ((r >>= pair_of x.0) >>= to_left) >>= repeated_end) (h x.1 (d x.0 x.1 refl)) ∙ parts_then x.0 q (k x.1)
one_part k l q n h (Err e) d = refl

abbrev with_none : {A B : Type 0} → B × List Lexeme → Read (List A × B)
with_none y = Ok (([], y.0), y.1)

no_part : {A B : Type 0} (r : Read B) → ((r >>= to_right {A = A × (List A × B)}) >>= repeated_end) ≡ (r >>= with_none {A = A})
no_part (Ok y) = refl
no_part (Err e) = refl

module _ {A B : Type 0} (a b : Said → Bool) (p : List Lexeme → Read A) (q : List Lexeme → Read B) (c : Consumes p) (h : Refuses NoName b q) where
  abbrev parts : List Lexeme → Read (List A)
  parts = many a p

  by_first : (n : ℕ) (l : List Lexeme → Read (List A × B)) → Agrees n l (both parts q) → (ts : List Lexeme) → length ts < suc n → (x : Bool) → heads a ts ≡ x
      → mapped repeated_tree (first_tells NoName a b (both p l) q) ts ≡ (more_by parts p ts x >>= λ y. q y.1 >>= pair_of y.0)
  by_first n l g ts short true e =
      ap (λ (r : Read ((A × (List A × B)) ⊎ B)). r >>= repeated_end) (first_left NoName a b (both p l) q ts e)
      ∙ one_part parts l q n g (p ts) (λ x rest f. omega (arith, short, c ts x rest f))
  by_first n l g ts short false e =
      ap (λ (r : Read ((A × (List A × B)) ⊎ B)). r >>= repeated_end) (first_right NoName a b (both p l) q h ts e) ∙ no_part (q ts)

  repeated_is : (n : ℕ) → Agrees n (repeated n NoName a b p q) (both parts q)
  repeated_is zero ts short = absurd (omega (arith, short))
  repeated_is (suc n) ts short =
      by_first n (repeated n NoName a b p q) (repeated_is n) ts short (heads a ts) refl
      ∙ ap (λ (r : Read (List A)). r >>= λ y. q y.1 >>= pair_of y.0) (sym (many_is a p c ts))

-- as many parts as there are, and then what ends them
pub repeating_is : {A B : Type 0} (a b : Said → Bool) (p : List Lexeme → Read A) (q : List Lexeme → Read B) → Consumes p → Refuses NoName b q → (ts : List Lexeme)
    → repeating NoName a b p q ts ≡ both (many a p) q ts
repeating_is a b p q c h ts = repeated_is a b p q c h (suc (length ts)) ts (omega arith)
