-- The variables eliminated one after another.
use Rattle.std.proofs.Common.{◌≡◌, ℤ, ◌+ℤ◌, neg_ℤ, ◌≤ℤ◌, List, [], ◌∷◌, map, Option, Some, None, Bool, true, false, cond, refl, sym, ap, subst, subst₂}
use Rattle.std.proofs.lemmas.Bool.{cond-true, cond-false}
use Rattle.cyp_term.specs.declared.term.Var.{Var}
use Rattle.cyp_term.specs.declared.term.Term.{Term}
use Rattle.cyp_term.specs.Terms.{plus, var_eq}
use Rattle.cyp_term.specs.Meaning.{Assignment, base_value, value}
use Rattle.cyp_term.specs.Integers.{Bound, at_most, offset_by, offset_at, part_by, part, eliminate, eliminate_all}
use Rattle.cyp_term.proofs.Numbers.{plus-plus, move_low, move_low_back, move_high, move_high_back, cancel, cancel_back}
use Rattle.cyp_term.proofs.Parts.{Meets, AllMet, PartMet, PartsMet, joined_from_some, some_from_joined}

-- b with v at x
unfoldable pub put : Assignment → Var → ℤ → Assignment
put b x v = record { number = λ y. cond (var_eq y x) v (b.number y); members = b.members }

pub put-same : (b : Assignment) (x : Var) (v : ℤ) (y : Var) → var_eq y x ≡ true → (put b x v).number y ≡ v
unfolding put
put-same b x v y e = cond-true (var_eq y x) v (b.number y) e

pub put-other : (b : Assignment) (x : Var) (v : ℤ) (y : Var) → var_eq y x ≡ false → (put b x v).number y ≡ b.number y
unfolding put
put-other b x v y e = cond-false (var_eq y x) v (b.number y) e

-- what `offset_at` tells
abbrev OffsetTells : Assignment → Var → ℤ → Term → Option ℤ → Type 0
OffsetTells b x v s None = value (put b x v) s ≡ value b s
OffsetTells b x v s (Some c) = value (put b x v) s ≡ (v +ℤ c)

tells_by : (b : Assignment) (x : Var) (v : ℤ) (y : Var) (n : ℤ) (t : Bool) → var_eq y x ≡ t → OffsetTells b x v (record { base = Some y; offset = n }) (cond t (Some n) None)
tells_by b x v y n true e = ap (λ m. m +ℤ n) (put-same b x v y e)
tells_by b x v y n false e = ap (λ m. m +ℤ n) (put-other b x v y e)

base_tells : (b : Assignment) (x : Var) (v : ℤ) (o : Option Var) (n : ℤ) → OffsetTells b x v (record { base = o; offset = n }) (offset_by x o n)
base_tells b x v None n = refl
base_tells b x v (Some y) n = tells_by b x v y n (var_eq y x) refl

offset_tells : (b : Assignment) (x : Var) (v : ℤ) (s : Term) → OffsetTells b x v s (offset_at x s)
offset_tells b x v s = base_tells b x v s.base s.offset

pub value-plus : (b : Assignment) (s : Term) (d : ℤ) → value b (plus s d) ≡ value b s +ℤ d
value-plus b s d = plus-plus (base_value b s.base) s.offset d

-- ---- a bound and its part say the same
part_by_out : (b : Assignment) (x : Var) (v : ℤ) (s t : Term) (k m : Option ℤ) → OffsetTells b x v s k → OffsetTells b x v t m → Meets (put b x v) (at_most s t) → PartMet b v (part_by s t k m)
part_by_out b x v s t None None p q h = subst₂ (λ i j. i ≤ℤ j) p q h
part_by_out b x v s t None (Some d) p q h =
    subst (λ i. i ≤ℤ v) (sym (value-plus b s (neg_ℤ d))) (move_low (value b s) v d (subst₂ (λ i j. i ≤ℤ j) p q h))
part_by_out b x v s t (Some c) None p q h =
    subst (λ i. v ≤ℤ i) (sym (value-plus b t (neg_ℤ c))) (move_high v (value b t) c (subst₂ (λ i j. i ≤ℤ j) p q h))
part_by_out b x v s t (Some c) (Some d) p q h = cancel v c d (subst₂ (λ i j. i ≤ℤ j) p q h)

part_by_back : (b : Assignment) (x : Var) (v : ℤ) (s t : Term) (k m : Option ℤ) → OffsetTells b x v s k → OffsetTells b x v t m → PartMet b v (part_by s t k m) → Meets (put b x v) (at_most s t)
part_by_back b x v s t None None p q h = subst₂ (λ i j. i ≤ℤ j) (sym p) (sym q) h
part_by_back b x v s t None (Some d) p q h =
    subst₂ (λ i j. i ≤ℤ j) (sym p) (sym q) (move_low_back (value b s) v d (subst (λ i. i ≤ℤ v) (value-plus b s (neg_ℤ d)) h))
part_by_back b x v s t (Some c) None p q h =
    subst₂ (λ i j. i ≤ℤ j) (sym p) (sym q) (move_high_back v (value b t) c (subst (λ i. v ≤ℤ i) (value-plus b t (neg_ℤ c)) h))
part_by_back b x v s t (Some c) (Some d) p q h = subst₂ (λ i j. i ≤ℤ j) (sym p) (sym q) (cancel_back v c d h)

parts_out : (b : Assignment) (x : Var) (v : ℤ) (cs : List Bound) → AllMet (put b x v) cs → PartsMet b v (map (part x) cs)
parts_out b x v [] h = tt
parts_out b x v (at_most s t ∷ cs) h =
    (part_by_out b x v s t (offset_at x s) (offset_at x t) (offset_tells b x v s) (offset_tells b x v t) h.0, parts_out b x v cs h.1)

parts_back : (b : Assignment) (x : Var) (v : ℤ) (cs : List Bound) → PartsMet b v (map (part x) cs) → AllMet (put b x v) cs
parts_back b x v [] h = tt
parts_back b x v (at_most s t ∷ cs) h =
    (part_by_back b x v s t (offset_at x s) (offset_at x t) (offset_tells b x v s) (offset_tells b x v t) h.0, parts_back b x v cs h.1)

pub eliminate_in : (b : Assignment) (x : Var) (v : ℤ) (cs : List Bound) → AllMet (put b x v) cs → AllMet b (eliminate x cs)
unfolding eliminate
eliminate_in b x v cs h = joined_from_some b v (map (part x) cs) (parts_out b x v cs h)

pub eliminate_out : (b : Assignment) (x : Var) (cs : List Bound) → AllMet b (eliminate x cs) → (v : ℤ) × AllMet (put b x v) cs
unfolding eliminate
eliminate_out b x cs h =
    let r = some_from_joined b (map (part x) cs) h in
    (r.0, parts_back b x r.0 cs r.1)

-- ---- all of them
pub eliminate_all_out : (b : Assignment) (xs : List Var) (cs : List Bound) → AllMet b (eliminate_all xs cs) → (d : Assignment) × AllMet d cs
unfolding eliminate_all
eliminate_all_out b [] cs h = (b, h)
eliminate_all_out b (x ∷ xs) cs h =
    let r = eliminate_all_out b xs (eliminate x cs) h in
    let s = eliminate_out r.0 x cs r.1 in
    (put r.0 x s.0, s.1)

-- the numbers of a at each of the variables xs, and else those of d
unfoldable pub over : List Var → Assignment → Assignment → Assignment
over [] a d = d
over (x ∷ xs) a d = put (over xs a d) x (a.number x)

-- over more variables: those already taken change nothing
pub eliminate_all_in : (a d : Assignment) (xs : List Var) (cs : List Bound) → AllMet (over xs a d) cs → AllMet d (eliminate_all xs cs)
unfolding eliminate_all over
eliminate_all_in a d [] cs h = h
eliminate_all_in a d (x ∷ xs) cs h = eliminate_all_in a d xs (eliminate x cs) (eliminate_in (over xs a d) x (a.number x) cs h)
