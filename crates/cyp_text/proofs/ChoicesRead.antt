-- Choices that the first or the second lexeme tells, where no test is made that the code does not make.
use Rattle.std.proofs.Common.{Bool, List, [], false, refl, true, ◌∷◌, ◌≡◌}
use Rattle.std.specs.Prelude.{◌||◌}
use Rattle.cyp_lex.specs.Lexemes.{Lexeme, Said}
use Rattle.cyp_lex.specs.Readers.{Read, either_by, first_tells, heads, left_by_second, mapped, one_of, second_tells, ◌>>=◌}
use Rattle.cyp_lex.specs.declared.want.Want.{Want}
use Rattle.cyp_text.specs.ListReaders.{Refuses}
use Rattle.cyp_text.proofs.ListsRead.{first_left, pick_left, pick_right, to_left, to_right}

-- where the second's lexemes do not stand, the first stops as the choice does
pub first_else : {A B : Type 0} (want : Want) (a b : Said → Bool) (p : List Lexeme → Read A) (q : List Lexeme → Read B) → Refuses want a p → (ts : List Lexeme)
    → heads b ts ≡ false → first_tells want a b p q ts ≡ (p ts >>= to_left)
first_else want a b p q h [] e = rw (h [] refl) refl
first_else want a b p q h (t ∷ ts) e = by (a t.said) refl
  where
    by : (x : Bool) → a t.said ≡ x → first_tells want a b p q (t ∷ ts) ≡ (p (t ∷ ts) >>= to_left)
    by true f = first_left want a b p q (t ∷ ts) f
    by false f = rw (e, f, h (t ∷ ts) f) refl

or_false_left : (x y : Bool) → (x || y) ≡ false → x ≡ false
or_false_left true y e = absurd cc
or_false_left false y e = refl

or_false_right : (x y : Bool) → (x || y) ≡ false → y ≡ false
or_false_right true y e = absurd cc
or_false_right false y e = e

pub one_left : (a b : Said → Bool) (ts : List Lexeme) → heads (one_of a b) ts ≡ false → heads a ts ≡ false
one_left a b [] e = refl
one_left a b (t ∷ ts) e = or_false_left (a t.said) (b t.said) e

pub one_right : (a b : Said → Bool) (ts : List Lexeme) → heads (one_of a b) ts ≡ false → heads b ts ≡ false
one_right a b [] e = refl
one_right a b (t ∷ ts) e = or_false_right (a t.said) (b t.said) e

pub second_left : {A B : Type 0} (want : Want) (a b behind : Said → Bool) (p : List Lexeme → Read A) (q : List Lexeme → Read B) → Refuses want a p → (ts : List Lexeme)
    → left_by_second a behind ts ≡ true → second_tells want a b behind p q ts ≡ (p ts >>= to_left)
second_left {A} {B} want a b behind p q h ts e = by (heads (one_of a b) ts) refl
  where
    by : (x : Bool) → heads (one_of a b) ts ≡ x → either_by want (left_by_second a behind) p q ts x ≡ (p ts >>= to_left)
    by true f = pick_left p q ts (left_by_second a behind ts) e
    by false f = rw (h ts (one_left a b ts f)) refl

pub second_right : {A B : Type 0} (want : Want) (a b behind : Said → Bool) (p : List Lexeme → Read A) (q : List Lexeme → Read B) → Refuses want b q → (ts : List Lexeme)
    → left_by_second a behind ts ≡ false → second_tells want a b behind p q ts ≡ (q ts >>= to_right)
second_right {A} {B} want a b behind p q h ts e = by (heads (one_of a b) ts) refl
  where
    by : (x : Bool) → heads (one_of a b) ts ≡ x → either_by want (left_by_second a behind) p q ts x ≡ (q ts >>= to_right)
    by true f = pick_right p q ts (left_by_second a behind ts) e
    by false f = rw (h ts (one_right a b ts f)) refl

-- ---- what stops at once

pub mapped_refuses : {A B : Type 0} (want : Want) (a : Said → Bool) (g : A → B) (p : List Lexeme → Read A) → Refuses want a p → Refuses want a (mapped g p)
mapped_refuses want a g p h ls e = rw (h ls e) refl

-- a choice stops at once where neither begins
pub first_refuses : {A B : Type 0} (want : Want) (a b : Said → Bool) (p : List Lexeme → Read A) (q : List Lexeme → Read B) → Refuses want (one_of a b) (first_tells want a b p q)
first_refuses want a b p q ls e = rw e refl

pub second_refuses : {A B : Type 0} (want : Want) (a b behind : Said → Bool) (p : List Lexeme → Read A) (q : List Lexeme → Read B) → Refuses want (one_of a b) (second_tells want a b behind p q)
second_refuses want a b behind p q ls e = rw e refl
