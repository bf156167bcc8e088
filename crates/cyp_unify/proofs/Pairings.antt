-- The matches of a listing are those of the pairings.
use Rattle.std.proofs.Common.{◌≡◌, ◌∙◌, ◌&&◌, ◌||◌, ◌++◌, ◌==◌, ℕ, Bool, true, false, not, cond, List, [], ◌∷◌, Option, Some, None, Result, Ok, Err, IfOk, map, take, flat_map, refl, ap, sym, append_assoc, append-nil}
use Rattle.std.specs.Prelude.{option_map}
use Rattle.std.specs.List.{cons_option, filter_map, list_any, slice_get}
use Rattle.std.specs.Option.{option_to_list}
use Rattle.std.proofs.Math.Bool.{or_comm}
use Rattle.std.proofs.lemmas.List.Elements.{filter_map-append}
use Rattle.std.proofs.lemmas.List.Folds.{list_any-append}
use Rattle.cyp_heap.specs.declared.chunk.Chunk.{Chunk}
use Rattle.cyp_heap.specs.declared.goal.Link.{Link}
use Rattle.cyp_heap.specs.declared.goal.Node.{Node}
use Rattle.cyp_unify.specs.Frames.{alike, with_places}
use Rattle.cyp_unify.specs.Listing.{matches_from, matches_in, may_follow, with_more}
use Rattle.cyp_unify.specs.Matches.{matches, pairings}
use Rattle.cyp_unify.specs.Meeting.{match_in}
use Rattle.cyp_unify.specs.declared.found.Match.{Match}
use Rattle.cyp_unify.specs.declared.listing.Listing.{Listing}
use Rattle.cyp_unify.proofs.Listed.{listed}

one_kept : {A : Type 0} (o : Option A) → option_to_list o ≡ cons_option o []
one_kept None = refl
one_kept (Some x) = refl

kept_each : {A B C : Type 0} (f : B → Option C) (g : A → List B) (xs : List A) → flat_map (λ x. filter_map f (g x)) xs ≡ filter_map f (flat_map g xs)
kept_each f g [] = refl
kept_each f g (x ∷ xs) = ap (λ zs. filter_map f (g x) ++ zs) (kept_each f g xs) ∙ sym (filter_map-append f (g x) (flat_map g xs))

kept_mapped : {A B C : Type 0} (f : B → Option C) (g : A → B) (xs : List A) → filter_map (λ x. f (g x)) xs ≡ filter_map f (map g xs)
kept_mapped f g [] = refl
kept_mapped f g (x ∷ xs) = ap (cons_option (f (g x))) (kept_mapped f g xs)

-- the same places are used
abbrev Same : List ℕ → List ℕ → Type 0
Same used chosen = (k : ℕ) → list_any (λ j. j == k) chosen ≡ list_any (λ j. j == k) used

one_more : (used chosen : List ℕ) (p : ℕ) → Same used chosen → Same (p ∷ used) (chosen ++ p ∷ [])
one_more used chosen p h k =
    list_any-append (λ j. j == k) chosen (p ∷ []) ∙ or_comm (list_any (λ j. j == k) chosen) ((p == k) || false) ∙ by_test (p == k) ∙ ap (λ b. (p == k) || b) (h k)
  where
    by_test : (b : Bool) → ((b || false) || list_any (λ j. j == k) chosen) ≡ (b || list_any (λ j. j == k) chosen)
    by_test true = refl
    by_test false = refl

module _ (present : List Chunk) (l : Link) where
  abbrev after : List ℕ → List ℕ → Option Match
  after chosen ks = match_in present l (chosen ++ ks)

  abbrev paired : List ℕ → List Chunk → ℕ → Bool → List (List ℕ)
  paired used cs k false = []
  paired used cs k true = map (λ (ks : List ℕ). k ∷ ks) (pairings (with_places 0 present) (k ∷ used) cs)

  by_pair : (cs : List Chunk) (used chosen : List ℕ) (k : ℕ) (b : Bool) → matches_from present l (chosen ++ k ∷ []) cs ≡ filter_map (after (chosen ++ k ∷ [])) (pairings (with_places 0 present) (k ∷ used) cs)
      → cond b (matches_from present l (chosen ++ k ∷ []) cs) [] ≡ filter_map (after chosen) (paired used cs k b)
  by_pair cs used chosen k false h = refl
  by_pair cs used chosen k true h =
      h
      ∙ (λ i. filter_map (λ (ks : List ℕ). match_in present l (append_assoc chosen (k ∷ []) ks i)) (pairings (with_places 0 present) (k ∷ used) cs))
      ∙ kept_mapped (after chosen) (λ (ks : List ℕ). k ∷ ks) (pairings (with_places 0 present) (k ∷ used) cs)

  from_pairings : (cs : List Chunk) (used chosen : List ℕ) → Same used chosen → matches_from present l chosen cs ≡ filter_map (after chosen) (pairings (with_places 0 present) used cs)
  from_pairings [] used chosen h = ap (λ ks. option_to_list (match_in present l ks)) (sym (append-nil chosen)) ∙ one_kept (after chosen [])
  from_pairings (c ∷ cs) used chosen h =
      (λ i. flat_map (λ (p : ℕ × Chunk). by_pair cs used chosen p.0 (may_follow chosen c p) (from_pairings cs (p.0 ∷ used) (chosen ++ p.0 ∷ []) (one_more used chosen p.0 h)) i) (with_places 0 present))
      ∙ (λ i. flat_map (λ (p : ℕ × Chunk). filter_map (after chosen) (paired used cs p.0 (alike c p.1 && not (h p.0 i)))) (with_places 0 present))
      ∙ kept_each (after chosen) (λ (p : ℕ × Chunk). paired used cs p.0 (alike c p.1 && not (list_any (λ j. j == p.0) used))) (with_places 0 present)

  first_matches : take 64 (matches_from present l [] l.goal.pre.chunks) ≡ matches_in present l
  first_matches = ap (take 64) (from_pairings l.goal.pre.chunks [] [] (λ k. refl))

  -- what is listed from nothing on
  pub first_listed : (s t : Listing) (wanted : List Chunk) → s ≡ listed [] [] → wanted ≡ l.goal.pre.chunks → t ≡ with_more s (matches_from present l s.chosen wanted) → t.found ≡ matches_in present l
  first_listed s t wanted e d h = ap (λ (x : Listing). x.found) h ∙ (λ i. take 64 ((e i).found ++ matches_from present l (e i).chosen (d i))) ∙ first_matches

-- the matches of the companion at a place
pub matches_given : {E : Type 0} (r : Result (List Match) E) (n : Node) (k : ℕ) (l : Link) (present : List Chunk) → slice_get n.links k ≡ Some l → present ≡ n.goal.pre.chunks → IfOk r (λ ms. ms ≡ matches_in present l)
    → IfOk r (λ ms. option_map (λ (j : Link). matches n j) (slice_get n.links k) ≡ Some ms)
matches_given (Ok ms) n k l present e f h = ap (option_map (λ (j : Link). matches n j)) e ∙ ap Some (ap (λ cs. matches_in cs l) (sym f) ∙ sym h)
matches_given (Err x) n k l present e f h = tt
