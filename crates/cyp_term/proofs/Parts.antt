-- One variable eliminated: the joined parts are met exactly where some integer at the variable meets the parts.
use Rattle.std.proofs.Common.{ℤ, pos, ◌≤ℤ◌, List, [], ◌∷◌, map, inl, inr}
use Rattle.std.specs.List.{AllByRecursion}
use Rattle.cyp_term.specs.declared.term.Term.{Term}
use Rattle.cyp_term.specs.Meaning.{Assignment, value}
use Rattle.cyp_term.specs.Integers.{Bound, at_most, Part, keep, above, below, kept, lows, highs, pairs, joined}
use Rattle.cyp_term.proofs.Numbers.{≤ℤ_trans, ≤ℤ_cases, ≤ℤ-self}
use Rattle.cyp_term.proofs.Lists.{Every-append, Every-left, Every-right}

abbrev pub Meets : Assignment → Bound → Type 0
Meets b (at_most s t) = value b s ≤ℤ value b t

abbrev pub AllMet : Assignment → List Bound → Type 0
AllMet b cs = AllByRecursion (Meets b) cs

-- what a part says where the variable has v
abbrev pub PartMet : Assignment → ℤ → Part → Type 0
PartMet b v (keep c) = Meets b c
PartMet b v (above s) = value b s ≤ℤ v
PartMet b v (below s) = v ≤ℤ value b s

abbrev pub PartsMet : Assignment → ℤ → List Part → Type 0
PartsMet b v [] = Unit {0}
PartsMet b v (p ∷ ps) = PartMet b v p × PartsMet b v ps

-- each term is at most v, and the other way round
abbrev pub AllUnder : Assignment → List Term → ℤ → Type 0
AllUnder b [] v = Unit {0}
AllUnder b (s ∷ ss) v = (value b s ≤ℤ v) × AllUnder b ss v

abbrev pub AllOver : Assignment → ℤ → List Term → Type 0
AllOver b v [] = Unit {0}
AllOver b v (s ∷ ss) = (v ≤ℤ value b s) × AllOver b v ss

-- ---- the parts, sorted into three lists
pub split_parts : (b : Assignment) (v : ℤ) (ps : List Part) → PartsMet b v ps → AllMet b (kept ps) × AllUnder b (lows ps) v × AllOver b v (highs ps)
split_parts b v [] h = (tt, tt, tt)
split_parts b v (keep c ∷ ps) h = let r = split_parts b v ps h.1 in ((h.0, r.0), r.1, r.2)
split_parts b v (above s ∷ ps) h = let r = split_parts b v ps h.1 in (r.0, (h.0, r.1), r.2)
split_parts b v (below s ∷ ps) h = let r = split_parts b v ps h.1 in (r.0, r.1, (h.0, r.2))

pub join_parts : (b : Assignment) (v : ℤ) (ps : List Part) → AllMet b (kept ps) → AllUnder b (lows ps) v → AllOver b v (highs ps) → PartsMet b v ps
join_parts b v [] h k m = tt
join_parts b v (keep c ∷ ps) h k m = (h.0, join_parts b v ps h.1 k m)
join_parts b v (above s ∷ ps) h k m = (k.0, join_parts b v ps h k.1 m)
join_parts b v (below s ∷ ps) h k m = (m.0, join_parts b v ps h k m.1)

-- ---- the pairs
pair_row : (b : Assignment) (s : Term) (v : ℤ) (ts : List Term) → value b s ≤ℤ v → AllOver b v ts → AllMet b (map (at_most s) ts)
pair_row b s v [] h k = tt
pair_row b s v (t ∷ ts) h k = (≤ℤ_trans _ v _ h k.0, pair_row b s v ts h k.1)

pub pairs_from_between : (b : Assignment) (v : ℤ) (ss ts : List Term) → AllUnder b ss v → AllOver b v ts → AllMet b (pairs ss ts)
pairs_from_between b v [] ts h k = tt
pairs_from_between b v (s ∷ ss) ts h k = Every-append (Meets b) (map (at_most s) ts) (pairs ss ts) (pair_row b s v ts h.0 k) (pairs_from_between b v ss ts h.1 k)

-- some integer is at most each term
over_lower : (b : Assignment) (v w : ℤ) (ts : List Term) → w ≤ℤ v → AllOver b v ts → AllOver b w ts
over_lower b v w [] h k = tt
over_lower b v w (t ∷ ts) h k = (≤ℤ_trans w v _ h k.0, over_lower b v w ts h k.1)

lower_than : (b : Assignment) (ts : List Term) → (v : ℤ) × AllOver b v ts
lower_than b [] = (pos 0, tt)
lower_than b (t ∷ ts) =
    let r = lower_than b ts in
    elim (≤ℤ_cases (value b t) r.0)
    [ inl h ↦ (value b t, (≤ℤ-self _, over_lower b r.0 _ ts h r.1)) | inr h ↦ (r.0, (h, r.1)) ]

under_higher : (b : Assignment) (v w : ℤ) (ss : List Term) → v ≤ℤ w → AllUnder b ss v → AllUnder b ss w
under_higher b v w [] h k = tt
under_higher b v w (s ∷ ss) h k = (≤ℤ_trans _ v w k.0 h, under_higher b v w ss h k.1)

row_over : (b : Assignment) (s : Term) (ts : List Term) → AllMet b (map (at_most s) ts) → AllOver b (value b s) ts
row_over b s [] h = tt
row_over b s (t ∷ ts) h = (h.0, row_over b s ts h.1)

pub between_from_pairs : (b : Assignment) (ss ts : List Term) → AllMet b (pairs ss ts) → (v : ℤ) × AllUnder b ss v × AllOver b v ts
between_from_pairs b [] ts h = let r = lower_than b ts in (r.0, tt, r.1)
between_from_pairs b (s ∷ ss) ts h =
    let r = between_from_pairs b ss ts (Every-right (Meets b) (map (at_most s) ts) (pairs ss ts) h) in
    let row = row_over b s ts (Every-left (Meets b) (map (at_most s) ts) (pairs ss ts) h) in
    elim (≤ℤ_cases (value b s) r.0)
    [ inl k ↦ (r.0, (k, r.1), r.2) | inr k ↦ (value b s, (≤ℤ-self _, under_higher b r.0 _ ss k r.1), row) ]

-- ---- the two together
pub joined_from_some : (b : Assignment) (v : ℤ) (ps : List Part) → PartsMet b v ps → AllMet b (joined ps)
unfolding joined
joined_from_some b v ps h =
    let r = split_parts b v ps h in
    Every-append (Meets b) (kept ps) (pairs (lows ps) (highs ps)) r.0 (pairs_from_between b v (lows ps) (highs ps) r.1 r.2)

pub some_from_joined : (b : Assignment) (ps : List Part) → AllMet b (joined ps) → (v : ℤ) × PartsMet b v ps
unfolding joined
some_from_joined b ps h =
    let r = between_from_pairs b (lows ps) (highs ps) (Every-right (Meets b) (kept ps) (pairs (lows ps) (highs ps)) h) in
    (r.0, join_parts b r.0 ps (Every-left (Meets b) (kept ps) (pairs (lows ps) (highs ps)) h) r.1 r.2)
