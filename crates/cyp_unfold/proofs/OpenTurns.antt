-- The rules that open, place by place.
use Rattle.std.proofs.Common.{◌≡◌, ◌∙◌, ◌+◌, ◌++◌, ◌<◌, ◌≤◌, ◌∷◌, ℕ, [], Bool, List, add-one, ap, append-nil, append_assoc, cond, drop, false, get_or, length, map, nat_lt, refl, suc, sym, true}
use Rattle.std.proofs.lemmas.List.{at_drop_all, at_drop_more}
use Rattle.cyp_heap.specs.declared.chunk.Chunk.{Chunk}
use Rattle.cyp_heap.specs.declared.chunk.Chunk.TheVariants.{Block, Cell, Inst}
use Rattle.cyp_step.specs.declared.rule.Rule.{Rule}
use Rattle.cyp_step.specs.declared.rule.Rule.TheVariants.{ByOpen}
use Rattle.cyp_unfold.specs.OpenPlaces.{is_openable, opening_at}
use Rattle.cyp_unfold.specs.UnfoldRows.{openable}

module _ (limit : ℕ) where
  -- the rules from this place on
  abbrev pub openings_from : ℕ → List Chunk → List Rule
  openings_from k cs = map ByOpen (openable limit k cs)

  -- with the rule at a place, where its chunk is opened
  abbrev with_place : Bool → ℕ → List Rule → List Rule
  with_place b k rs = cond b (ByOpen k ∷ rs) rs

  apart : (b : Bool) (k : ℕ) (rs : List Rule) → with_place b k rs ≡ cond b (ByOpen k ∷ []) [] ++ rs
  apart true k rs = refl
  apart false k rs = refl

  first_place : (k : ℕ) (c : Chunk) (cs : List Chunk) → openings_from k (c ∷ cs) ≡ with_place (is_openable limit c) k (openings_from (suc k) cs)
  first_place k (Inst i) cs = by_test (nat_lt i.tag limit)
    where
      by_test : (b : Bool) → map ByOpen (cond b (k ∷ openable limit (suc k) cs) (openable limit (suc k) cs)) ≡ with_place b k (openings_from (suc k) cs)
      by_test true = refl
      by_test false = refl
  first_place k (Block b) cs = refl
  first_place k (Cell c) cs = refl

  module _ (chunks : List Chunk) (k : ℕ) (c : Chunk) (lt : k < length chunks) (is : c ≡ get_or chunks k c) where
    turn : openings_from k (drop k chunks) ≡ with_place (is_openable limit c) k (openings_from (k + 1) (drop (k + 1) chunks))
    turn =
        at_drop_more (openings_from k) chunks k c lt ∙ ap (λ d. openings_from k (d ∷ drop (k + 1) chunks)) (sym is) ∙ first_place k c (drop (k + 1) chunks)
        ∙ ap (λ j. with_place (is_openable limit c) k (openings_from j (drop (k + 1) chunks))) (sym (add-one k))

    pub place_added : (done more all : List Rule) → done ++ openings_from k (drop k chunks) ≡ all → more ≡ done ++ opening_at limit k c → more ++ openings_from (k + 1) (drop (k + 1) chunks) ≡ all
    place_added done more all h m =
        let rest = openings_from (k + 1) (drop (k + 1) chunks) in
        ap (λ rs. rs ++ rest) m ∙ append_assoc done (opening_at limit k c) rest ∙ sym (ap (λ rs. done ++ rs) (turn ∙ apart (is_openable limit c) k rest)) ∙ h

  pub places_end : (chunks : List Chunk) (k : ℕ) (done all : List Rule) → length chunks ≤ k → done ++ openings_from k (drop k chunks) ≡ all → done ≡ all
  places_end chunks k done all le h = sym (append-nil done) ∙ sym (ap (λ rs. done ++ rs) (at_drop_all (openings_from k) chunks k le)) ∙ h
