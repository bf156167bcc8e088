-- How a listing of matches grows: by the match of a pairing, by those of a place, and by those of one place after another.
use Rattle.std.proofs.Common.{◌≡◌, ◌∙◌, ◌+◌, ◌-◌, ◌++◌, ◌≤◌, ◌<◌, ◌==◌, ℕ, suc, Bool, true, false, cond, List, [], ◌∷◌, Option, Some, None, MatchOption, OnOk, Result, Ok, Err, length, take, drop, get_or, flat_map, refl, ap, sym, add-one, append_assoc, append-nil, arith}
use Rattle.std.specs.Option.{option_to_list}
use Rattle.std.proofs.lemmas.Bool.{false≢true}
use Rattle.std.proofs.lemmas.List.{drop_all, length-append, take_all, take_at}
use Rattle.cyp_heap.specs.declared.chunk.Chunk.{Chunk}
use Rattle.cyp_heap.specs.declared.goal.Link.{Link}
use Rattle.cyp_unify.specs.Frames.{with_places}
use Rattle.cyp_unify.specs.Listing.{matches_by, matches_from, may_follow, with_more}
use Rattle.cyp_unify.specs.Meeting.{match_in, may_pair}
use Rattle.cyp_unify.specs.declared.found.Match.{Match}
use Rattle.cyp_unify.specs.declared.listing.Listing.{Listing}
use Rattle.cyp_unify.proofs.Firsts.{first_again, length_first, popped, rest_there}

abbrev pub listed : List ℕ → List Match → Listing
listed ks ms = record { chosen = ks; found = ms }

pub few_more : (s new : Listing) (more : List Match) → new ≡ with_more s more → length new.found ≤ 64
few_more s new more e = let few : length (take 64 (s.found ++ more)) ≤ 64 = length_first 64 (s.found ++ more) in omega (arith, few, ap (λ (l : Listing). length l.found) e)

pub none_more : (s : Listing) → length s.found ≤ 64 → s ≡ with_more s []
none_more s le = ap (listed s.chosen) (sym (take_all 64 s.found le) ∙ ap (take 64) (sym (append-nil s.found)))

-- where 64 are found
pub full : (s : Listing) (more : List Match) → length s.found ≡ 64 → s ≡ with_more s more
full s more e = ap (listed s.chosen) (sym (take_at s.found more 64 e))

-- ---- the match of a pairing

pub some_added : {A E : Type 0} (r : Result A E) (s : Listing) (o : Option Match) (m : Match) (new : List Match) → o ≡ Some m → length s.found < 64 → OnOk r (new ≡ s.found ++ m ∷ [])
    → OnOk r (listed s.chosen new ≡ with_more s (option_to_list o))
some_added (Err x) s o m new e lt d = tt
some_added (Ok x) s o m new e lt d =
    let few : length (s.found ++ m ∷ []) ≤ 64 = omega (arith, length-append s.found (m ∷ []), lt) in
    ap (listed s.chosen) (d ∙ sym (take_all 64 (s.found ++ m ∷ []) few) ∙ ap (λ x. take 64 (s.found ++ option_to_list x)) (sym e))

pub none_added : (s : Listing) (o : Option Match) → o ≡ None → length s.found < 64 → s ≡ with_more s (option_to_list o)
none_added s o e lt = let few : length s.found ≤ 64 = omega (arith, lt) in none_more s few ∙ ap (λ x. with_more s (option_to_list x)) (sym e)

-- ---- those of a place

module _ (present : List Chunk) (l : Link) (s : Listing) (c : Chunk) (cs : List Chunk) (k : ℕ) (ks : List ℕ) (same : ks ≡ s.chosen) (b : Bool) (e : b ≡ may_pair present c k ks) where
  tested : (t : Bool) → b ≡ t → cond t (matches_from present l (s.chosen ++ k ∷ []) cs) [] ≡ matches_by present l s.chosen c cs k
  tested t is = ap (λ x. cond x (matches_from present l (s.chosen ++ k ∷ []) cs) []) (sym is ∙ e ∙ ap (may_pair present c k) same)

  pub not_paired : b ≡ false → length s.found ≤ 64 → s ≡ with_more s (matches_by present l s.chosen c cs k)
  not_paired is le = none_more s le ∙ ap (with_more s) (tested false is)

  pub paired_by : b ≡ true → (mid : List ℕ) → mid ≡ s.chosen ++ k ∷ [] → (t : Listing) → t ≡ with_more (listed mid s.found) (matches_from present l mid cs) → (left : List ℕ) (last : Option ℕ)
      → MatchOption last ((t.chosen ≡ []) × (left ≡ [])) (λ x. t.chosen ≡ left ++ x ∷ []) → listed left t.found ≡ with_more s (matches_by present l s.chosen c cs k)
  paired_by is mid d t h left last p =
      (λ i. listed (popped s.chosen k t.chosen left last (ap (λ (x : Listing). x.chosen) h ∙ d) p i) (h i).found)
      ∙ ap (λ js. with_more s (matches_from present l js cs)) d
      ∙ ap (with_more s) (tested true is)

-- ---- those of the places from one on

abbrev pub branch : List Chunk → Link → List ℕ → Chunk → List Chunk → ℕ × Chunk → List Match
branch present l chosen c cs p = cond (may_follow chosen c p) (matches_from present l (chosen ++ p.0 ∷ []) cs) []

abbrev pub places_from : List Chunk → Link → List ℕ → List Chunk → ℕ → List Match
places_from present l chosen [] k = option_to_list (match_in present l chosen)
places_from present l chosen (c ∷ cs) k = flat_map (branch present l chosen c cs) (with_places k (drop k present))

pub places_start : (present : List Chunk) (l : Link) (chosen : List ℕ) (cs : List Chunk) → places_from present l chosen cs 0 ≡ matches_from present l chosen cs
places_start present l chosen [] = refl
places_start present l chosen (c ∷ cs) = refl

places_end : (present : List Chunk) (l : Link) (chosen : List ℕ) (cs : List Chunk) (k : ℕ) → (length cs == 0) ≡ false → length present ≤ k → places_from present l chosen cs k ≡ []
places_end present l chosen [] k some le = absurd (false≢true (sym some))
places_end present l chosen (c ∷ cs) k some le = ap (λ ds. flat_map (branch present l chosen c cs) (with_places k ds)) (drop_all k present le)

places_next : (present : List Chunk) (l : Link) (chosen : List ℕ) (c : Chunk) (cs : List Chunk) (k : ℕ) → k < length present
    → places_from present l chosen (c ∷ cs) k ≡ matches_by present l chosen c cs k ++ places_from present l chosen (c ∷ cs) (k + 1)
places_next present l chosen c cs k lt =
    let there = rest_there present k lt in
    let alike_there : may_follow chosen c (k, there.0) ≡ may_pair present c k chosen = ap (λ o. elim o [ None ↦ false | Some d ↦ may_follow chosen c (k, d) ]) (sym there.1) in
    ap (λ ds. flat_map (branch present l chosen c cs) (with_places k ds)) there.2
    ∙ ap (λ b. cond b (matches_from present l (chosen ++ k ∷ []) cs) [] ++ places_from present l chosen (c ∷ cs) (suc k)) alike_there
    ∙ ap (λ j. matches_by present l chosen c cs k ++ places_from present l chosen (c ∷ cs) j) (sym (add-one k))

abbrev pub Goes : List Chunk → Link → List Chunk → Listing → Listing → ℕ → Type 0
Goes present l cs before s k = (length s.found ≤ 64) × (with_more s (places_from present l before.chosen cs k) ≡ with_more before (matches_from present l before.chosen cs))

module _ (present : List Chunk) (l : Link) (before : Listing) where
  pub goes_first : (cs : List Chunk) → length before.found < 64 → Goes present l cs before before 0
  goes_first cs lt = let few : length before.found ≤ 64 = omega (arith, lt) in (few, ap (with_more before) (places_start present l before.chosen cs))

  step : (c : Chunk) (cs : List Chunk) (s : Listing) (k : ℕ) → k < length present → Goes present l (c ∷ cs) before s k → (new : Listing) → new ≡ with_more s (matches_by present l s.chosen c cs k) → Goes present l (c ∷ cs) before new (k + 1)
  step c cs s k lt h new e =
      let more = places_from present l before.chosen (c ∷ cs) (k + 1) in
      let here = matches_by present l before.chosen c cs k in
      let is : new ≡ with_more s here = e ∙ ap (λ ks. with_more s (matches_by present l ks c cs k)) (ap (λ (x : Listing). x.chosen) h.1) in (
        few_more s new here is,
        ap (λ x. with_more x more) is
            ∙ ap (listed s.chosen) (first_again 64 (s.found ++ here) more ∙ ap (take 64) (append_assoc s.found here more ∙ ap (λ ms. s.found ++ ms) (sym (places_next present l before.chosen c cs k lt))))
            ∙ h.1,
      )

  pub goes_on : (wanted : List Chunk) (s : Listing) (k : ℕ) (c : Chunk) (cs : List Chunk) → (length wanted == 0) ≡ false → c ≡ get_or wanted 0 c → cs ≡ take (length wanted - 1) (drop 1 wanted) → k < length present → Goes present l wanted before s k
      → (new : Listing) → new ≡ with_more s (matches_by present l s.chosen c cs k) → Goes present l wanted before new (k + 1)
  goes_on [] s k c cs some is rest lt h new e = absurd (false≢true (sym some))
  goes_on (d ∷ ds) s k c cs some is rest lt h new e =
      let all : length ds ≤ suc (length ds) - 1 = omega arith in
      let whole : cs ≡ ds = rest ∙ take_all (suc (length ds) - 1) ds all in
      step d ds s k lt h new (e ∙ (λ i. with_more s (matches_by present l s.chosen (is i) (whole i) k)))

  pub goes_last : (wanted : List Chunk) (s : Listing) (k : ℕ) → (length wanted == 0) ≡ false → length present ≤ k → Goes present l wanted before s k → s ≡ with_more before (matches_from present l before.chosen wanted)
  goes_last wanted s k some le h = none_more s h.0 ∙ ap (with_more s) (sym (places_end present l before.chosen wanted k some le)) ∙ h.1
