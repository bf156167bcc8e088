-- Literals with their negations.
use Rattle.std.proofs.Common.{ap, arith, length, refl, suc, zero, ℕ, ◌%◌, ◌∙◌, ◌≡◌, ◌≢◌}
use Rattle.cyp_term.specs.Terms.{negated}
use Rattle.cyp_term.specs.declared.lit.Lit.{Lit}
use Rattle.cyp_term.specs.declared.lit.Lit.TheVariants.{Eq, Le, Lt, Member, Ne, NotMember, NotSame, NotSub, Same, Sub}
use Rattle.cyp_text.specs.LitTrees.{Comparing, Inside, LitTree, Negation, SameSets, SubSets, lit_base, lit_nots, plain_lit}
use Rattle.cyp_names.specs.ReadTerms.{Scope, read_lit}

twice : (l : Lit) → negated (negated l) ≡ l
twice (Eq a b) = refl
twice (Ne a b) = refl
twice (Le a b) = refl
twice (Lt a b) = refl
twice (Same a b) = refl
twice (NotSame a b) = refl
twice (Member a b) = refl
twice (NotMember a b) = refl
twice (Sub a b) = refl
twice (NotSub a b) = refl

-- negated so many times
abbrev negations : ℕ → Lit → Lit
negations zero l = l
negations (suc n) l = negated (negations n l)

even_negations : (n : ℕ) (l : Lit) → n % 2 ≡ 0 → negations n l ≡ l
even_negations zero l e = refl
even_negations (suc zero) l e = absurd (omega (arith, e))
even_negations (suc (suc n)) l e = twice (negations n l) ∙ even_negations n l (omega (arith, e))

odd_negations : (n : ℕ) (l : Lit) → n % 2 ≡ 1 → negations n l ≡ negated l
odd_negations zero l e = absurd (omega (arith, e))
odd_negations (suc n) l e = ap negated (even_negations n l (omega (arith, e)))

by_nots : (sc : Scope) (l : LitTree) → read_lit sc l ≡ negations (length (lit_nots l)) (read_lit sc (plain_lit (lit_base l)))
by_nots sc (Comparing a c b) = refl
by_nots sc (SameSets a b) = refl
by_nots sc (SubSets a b) = refl
by_nots sc (Inside a b) = refl
by_nots sc (Negation p l) = ap negated (by_nots sc l)

-- an odd number of negations
pub odd_read : (sc : Scope) (l : LitTree) → length (lit_nots l) % 2 ≡ 1 → read_lit sc l ≡ negated (read_lit sc (plain_lit (lit_base l)))
odd_read sc l e = by_nots sc l ∙ odd_negations (length (lit_nots l)) (read_lit sc (plain_lit (lit_base l))) e

-- an even one
pub even_read : (sc : Scope) (l : LitTree) → length (lit_nots l) % 2 ≢ 1 → read_lit sc l ≡ read_lit sc (plain_lit (lit_base l))
even_read sc l e = by_nots sc l ∙ even_negations (length (lit_nots l)) (read_lit sc (plain_lit (lit_base l))) (omega (arith, e))
