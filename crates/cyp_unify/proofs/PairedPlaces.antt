-- Whether places pair a companion's chunks with present ones, and the positions of the pairs.
use Rattle.std.proofs.Common.{◌≡◌, ◌≢◌, ◌∙◌, ◌&&◌, ◌++◌, ◌==◌, ◌+◌, ◌<◌, ℕ, suc, Bool, true, false, not, List, [], ◌∷◌, length, drop, get_or, Option, Some, None, Result, Ok, Err, IfOk, is_some, refl, ap, sym}
use Rattle.std.specs.Prelude.{option_map}
use Rattle.std.specs.List.{list_any, slice_get}
use Rattle.std.specs.Option.{option_and_then}
use Rattle.std.proofs.Math.Bool.{and-false}
use Rattle.std.proofs.lemmas.Bool.{false≢true}
use Rattle.std.proofs.lemmas.List.{drop_more}
use Rattle.std.proofs.lemmas.Option.{none-some, same_Some}
use Rattle.cyp_heap.specs.declared.chunk.Chunk.{Chunk}
use Rattle.cyp_heap.specs.declared.goal.Link.{Link}
use Rattle.cyp_heap.specs.declared.goal.Node.{Node}
use Rattle.cyp_unify.specs.Frames.{alike}
use Rattle.cyp_unify.specs.Matches.{Position, finish_match, match_at, no_walk, pair_positions, positions, walk}
use Rattle.cyp_unify.specs.Meeting.{match_in, may_pair, positions_of}
use Rattle.cyp_unify.specs.declared.found.Match.{Match}

-- the walk over a pair, where the present chunk is this one
abbrev by_test : List Chunk → List Chunk → List ℕ → Chunk → ℕ → Chunk → Bool → Option (List Position)
by_test present cs ks c k d false = None
by_test present cs ks c k d true = option_map (λ (ps : List Position). positions c k d ++ ps) (pair_positions present cs ks)

abbrev by_chunk : List Chunk → List Chunk → List ℕ → Chunk → ℕ → Option Chunk → Option (List Position)
by_chunk present cs ks c k None = None
by_chunk present cs ks c k (Some d) = by_test present cs ks c k d (alike c d && not (list_any (λ j. j == k) ks))

abbrev may_by : List ℕ → Chunk → ℕ → Option Chunk → Bool
may_by ks c k None = false
may_by ks c k (Some d) = alike c d && not (list_any (λ j. j == k) ks)

some_mapped : {A B : Type 0} (f : A → B) (o : Option A) → is_some (option_map f o) ≡ is_some o
some_mapped f None = refl
some_mapped f (Some x) = refl

module _ (present cs : List Chunk) (ks : List ℕ) (c : Chunk) (k : ℕ) where
  some_by_test : (d : Chunk) (b : Bool) → is_some (by_test present cs ks c k d b) ≡ (b && is_some (pair_positions present cs ks))
  some_by_test d false = refl
  some_by_test d true = some_mapped (λ (ps : List Position). positions c k d ++ ps) (pair_positions present cs ks)

  some_by_chunk : (o : Option Chunk) → is_some (by_chunk present cs ks c k o) ≡ (may_by ks c k o && is_some (pair_positions present cs ks))
  some_by_chunk None = refl
  some_by_chunk (Some d) = some_by_test d (alike c d && not (list_any (λ j. j == k) ks))

  some_first : is_some (pair_positions present (c ∷ cs) (k ∷ ks)) ≡ (may_pair present c k ks && is_some (pair_positions present cs ks))
  some_first = some_by_chunk (slice_get present k)

pub none_where_lengths_differ : (present cs : List Chunk) (ks : List ℕ) → length cs ≢ length ks → is_some (pair_positions present cs ks) ≡ false
none_where_lengths_differ present [] [] h = absurd (h refl)
none_where_lengths_differ present [] (k ∷ ks) h = refl
none_where_lengths_differ present (c ∷ cs) [] h = refl
none_where_lengths_differ present (c ∷ cs) (k ∷ ks) h =
    some_first present cs ks c k ∙ ap (λ b. may_pair present c k ks && b) (none_where_lengths_differ present cs ks (λ e. h (ap suc e))) ∙ and-false (may_pair present c k ks)

-- ---- one place after another

module _ (present cs : List Chunk) (ks : List ℕ) (i : ℕ) (whole : Bool) (h : is_some (pair_positions present (drop i cs) (drop i ks)) ≡ whole) (c : Chunk) (k : ℕ) (lt : i < length cs) (mt : i < length ks) (is : c ≡ get_or cs i c) (it : k ≡ get_or ks i k) where
  first_here : (may_pair present c k (drop (i + 1) ks) && is_some (pair_positions present (drop (i + 1) cs) (drop (i + 1) ks))) ≡ whole
  first_here =
      sym (some_first present (drop (i + 1) cs) (drop (i + 1) ks) c k)
      ∙ (λ j. is_some (pair_positions present ((ap (λ z. z ∷ drop (i + 1) cs) is ∙ sym (drop_more cs i c lt)) j) ((ap (λ z. z ∷ drop (i + 1) ks) it ∙ sym (drop_more ks i k mt)) j)))
      ∙ h

  pub paired_here : (b : Bool) → b ≡ may_pair present c k (drop (i + 1) ks) → b ≡ true → is_some (pair_positions present (drop (i + 1) cs) (drop (i + 1) ks)) ≡ whole
  paired_here b e t = ap (λ x. x && is_some (pair_positions present (drop (i + 1) cs) (drop (i + 1) ks))) (sym t ∙ e) ∙ first_here

  pub unpaired_here : (b : Bool) → b ≡ may_pair present c k (drop (i + 1) ks) → b ≡ false → false ≡ whole
  unpaired_here b e t = ap (λ x. x && is_some (pair_positions present (drop (i + 1) cs) (drop (i + 1) ks))) (sym t ∙ e) ∙ first_here

-- ---- the positions of a pairing

mapped_some : {A B : Type 0} (f : A → B) (o : Option A) (r : B) → option_map f o ≡ Some r → (x : A) × (o ≡ Some x) × (r ≡ f x)
mapped_some f None r e = absurd (none-some r e)
mapped_some f (Some x) r e = (x, refl, sym (same_Some (f x) r e))

abbrev positions_by : Chunk → ℕ → Option Chunk → List Position
positions_by c k None = []
positions_by c k (Some d) = positions c k d

module _ (present cs : List Chunk) (ks : List ℕ) (c : Chunk) (k : ℕ) (ps : List Position) (rest : (qs : List Position) → pair_positions present cs ks ≡ Some qs → qs ≡ positions_of present cs ks) where
  tested : (d : Chunk) (b : Bool) → by_test present cs ks c k d b ≡ Some ps → ps ≡ positions c k d ++ positions_of present cs ks
  tested d false e = absurd (none-some ps e)
  tested d true e =
      let m = mapped_some (λ (qs : List Position). positions c k d ++ qs) (pair_positions present cs ks) ps e in
      m.2 ∙ ap (λ qs. positions c k d ++ qs) (rest m.0 m.1)

  there : (o : Option Chunk) → by_chunk present cs ks c k o ≡ Some ps → ps ≡ positions_by c k o ++ positions_of present cs ks
  there None e = absurd (none-some ps e)
  there (Some d) e = tested d (alike c d && not (list_any (λ j. j == k) ks)) e

pub positions_paired : (present cs : List Chunk) (ks : List ℕ) (ps : List Position) → pair_positions present cs ks ≡ Some ps → ps ≡ positions_of present cs ks
positions_paired present [] [] ps e = sym (same_Some [] ps e)
positions_paired present [] (k ∷ ks) ps e = absurd (none-some ps e)
positions_paired present (c ∷ cs) [] ps e = absurd (none-some ps e)
positions_paired present (c ∷ cs) (k ∷ ks) ps e = there present cs ks c k ps (λ qs d. positions_paired present cs ks qs d) (slice_get present k) e

-- ---- the match of a pairing

module _ (present : List Chunk) (l : Link) (ks : List ℕ) where
  abbrev finished : List Position → Option Match
  finished ps = finish_match l ks (walk l.goal.exist no_walk ps)

  unpaired_by : (o : Option (List Position)) → is_some o ≡ false → option_and_then finished o ≡ None
  unpaired_by None h = refl
  unpaired_by (Some ps) h = absurd (false≢true (sym h))

  pub unpaired : (b : Bool) → b ≡ is_some (pair_positions present l.goal.pre.chunks ks) → b ≡ false → match_in present l ks ≡ None
  unpaired b e h = unpaired_by (pair_positions present l.goal.pre.chunks ks) (sym e ∙ h)

  paired_by : (o : Option (List Position)) → ((ps : List Position) → o ≡ Some ps → ps ≡ positions_of present l.goal.pre.chunks ks) → is_some o ≡ true → option_and_then finished o ≡ finished (positions_of present l.goal.pre.chunks ks)
  paired_by None f h = absurd (false≢true h)
  paired_by (Some ps) f h = ap finished (f ps refl)

  pub paired : (b : Bool) → b ≡ is_some (pair_positions present l.goal.pre.chunks ks) → b ≡ true → match_in present l ks ≡ finish_match l ks (walk l.goal.exist no_walk (positions_of present l.goal.pre.chunks ks))
  paired b e h = paired_by (pair_positions present l.goal.pre.chunks ks) (positions_paired present l.goal.pre.chunks ks) (sym e ∙ h)

-- the match of the companion at a place
pub match_given : {E : Type 0} (r : Result (Option Match) E) (n : Node) (k : ℕ) (l : Link) (present : List Chunk) (ks : List ℕ) → slice_get n.links k ≡ Some l → present ≡ n.goal.pre.chunks → IfOk r (λ m. m ≡ match_in present l ks)
    → IfOk r (λ m. option_map (λ (j : Link). match_at n j ks) (slice_get n.links k) ≡ Some m)
match_given (Ok m) n k l present ks e f h = ap (option_map (λ (j : Link). match_at n j ks)) e ∙ ap Some (ap (λ cs. match_in cs l ks) (sym f) ∙ sym h)
match_given (Err x) n k l present ks e f h = tt
