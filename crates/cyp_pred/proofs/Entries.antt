-- Entries of clauses: when they are wide, and the one at a place.
use Rattle.std.proofs.Common.{◌≡◌, ◌∙◌, refl, ap, sym, ℕ, suc, ◌+◌, ◌<◌, Bool, true, false, ◌||◌, List, [], ◌∷◌, ◌++◌, Some, Err, get_or, length, map, option_map, take}
use Rattle.std.proofs.lemmas.List.{map-append, take_more}
use Rattle.std.proofs.lemmas.List.Folds.{list_any-append}
use Rattle.std.proofs.lemmas.Option.{slice_get-map, slice_get_read}
use Rattle.std.specs.List.{list_any, slice_get}
use Rattle.cyp_heap.specs.Chunks.{insts, wide_chunk}
use Rattle.cyp_heap.specs.declared.chunk.InstOf.{InstOf}
use Rattle.cyp_heap.specs.declared.pred.Clause.{Clause}
use Rattle.cyp_pred.proofs.Tagged.{wide_below, wide_with_tags}
use Rattle.cyp_pred.specs.Parts.{apply_clause, entry, wide_clause}
use Rattle.cyp_pred.specs.Unfold.{below_card, clause_subst, count_from, unfold_clause, wide_unfolded}
use Rattle.cyp_pred.specs.Unfoldable.{wide_entry}
use Rattle.cyp_pred.specs.declared.unfolded.Next.{Next}
use Rattle.cyp_pred.specs.declared.unfolded.Unfolded.{Unfolded}
use Rattle.cyp_term.specs.Answers.{GivesUnless}
use Rattle.cyp_term.specs.Terms.{wide_lit}
use Rattle.cyp_term.specs.declared.fail.Fail.{Fail}
use Rattle.cyp_term.specs.declared.fail.Fail.TheVariants.{Named, NoMemory}
use Rattle.cyp_term.specs.declared.lit.Lit.{Lit}

or_none : (b : Bool) → (b || false) ≡ b
or_none true = refl
or_none false = refl

-- one more item's image behind those before it, none of which passes the test
pub one_more : {X Y : Type 0} (f : X → Y) (test : Y → Bool) (xs : List X) (k : ℕ) (x : X) (y : Y) (made new : List Y) → k < length xs → x ≡ get_or xs k x
    → (test (f x) ≡ false) × (y ≡ f x) → new ≡ made ++ y ∷ [] → made ≡ map f (take k xs) → list_any test (map f (take k xs)) ≡ false
    → (new ≡ map f (take (k + 1) xs)) × (list_any test (map f (take (k + 1) xs)) ≡ false)
one_more f test xs k x y made new lt is one push before narrow =
    let grown : map f (take (k + 1) xs) ≡ map f (take k xs) ++ f x ∷ [] = ap (map f) (take_more xs k x lt ∙ ap (λ z. take k xs ++ z ∷ []) (sym is)) ∙ map-append f (take k xs) (x ∷ []) in (
      push ∙ ap (λ ys. ys ++ y ∷ []) before ∙ ap (λ z. map f (take k xs) ++ z ∷ []) one.1 ∙ sym grown,
      ap (list_any test) grown ∙ list_any-append test (map f (take k xs)) (f x ∷ []) ∙ ap (λ b. b || (test (f x) || false)) narrow ∙ or_none (test (f x)) ∙ one.0,
    )

-- tags and comparisons of cardinalities widen nothing
pub wide_made : (i : InstOf) (next : Next) (c : Clause) → wide_unfolded (entry i next c) ≡ wide_clause c
wide_made i next c =
    let more : List Lit = below_card i.card (count_from next.cards (length (insts c.heap.chunks))) in
    let lits : list_any wide_lit (c.lits ++ more) ≡ list_any wide_lit c.lits =
    list_any-append wide_lit c.lits more ∙ ap (λ b. list_any wide_lit c.lits || b) (wide_below i.card (count_from next.cards (length (insts c.heap.chunks)))) ∙ or_none (list_any wide_lit c.lits) in
    ap (λ b. wide_lit c.guard || b || list_any wide_chunk (entry i next c).heap.chunks) lits
    ∙ ap (λ b. wide_lit c.guard || list_any wide_lit c.lits || b) (wide_with_tags i.card (suc i.tag) next.cards c.heap.chunks)

module _ (i : InstOf) (next : Next) where
  -- the entry of the applied clause is the clause's
  pub entry_gives : (c applied : Clause) (u : Unfolded) → applied ≡ apply_clause (clause_subst i.args c next) c → wide_clause applied ≡ false → u ≡ entry i next applied
      → (wide_unfolded (unfold_clause i next c) ≡ false) × (u ≡ unfold_clause i next c)
  entry_gives c applied u is narrow made =
      let whole : entry i next applied ≡ unfold_clause i next c = ap (entry i next) is in
      (sym (ap wide_unfolded whole) ∙ wide_made i next applied ∙ narrow, made ∙ whole)

  refused_so : (a b : Bool) {A B E : Type 0} (x : A) (y : B) (e : Fail E) → a ≡ b → GivesUnless a x (Err e) → GivesUnless b y (Err e)
  refused_so a b x y (Named e) same h = sym same ∙ h
  refused_so a b x y NoMemory same h = tt

  -- where the applied clause is refused, its entry is
  pub entry_refused : {E : Type 0} (c wide : Clause) (e : Fail E) → wide ≡ apply_clause (clause_subst i.args c next) c
      → GivesUnless (wide_clause wide) wide (Err e) → GivesUnless (wide_unfolded (unfold_clause i next c)) (unfold_clause i next c) (Err e)
  entry_refused c wide e is h =
      refused_so (wide_clause wide) (wide_unfolded (unfold_clause i next c)) wide (unfold_clause i next c) e
      (ap wide_clause is ∙ sym (wide_made i next (apply_clause (clause_subst i.args c next) c))) h

  -- ---- the entry at a place

  some_at : (cs : List Clause) (k : ℕ) (c : Clause) → k < length cs → c ≡ get_or cs k c → slice_get (map (unfold_clause i next) cs) k ≡ Some (unfold_clause i next c)
  some_at cs k c lt is = slice_get-map (unfold_clause i next) cs k ∙ ap (option_map (unfold_clause i next)) (slice_get_read cs (length cs) k c refl lt is)

  pub one_made : (cs ds : List Clause) (k : ℕ) (c : Clause) (u : Unfolded) → cs ≡ ds → k < length cs → c ≡ get_or cs k c
      → (wide_unfolded (unfold_clause i next c) ≡ false) × (u ≡ unfold_clause i next c)
      → (wide_entry (slice_get (map (unfold_clause i next) ds) k) ≡ false) × (Some u ≡ slice_get (map (unfold_clause i next) ds) k)
  one_made cs ds k c u same lt is h =
      let there : slice_get (map (unfold_clause i next) ds) k ≡ Some (unfold_clause i next c) = some_at ds k c (rw (← same) lt) (rw (← same) is) in
      (ap wide_entry there ∙ h.0, ap Some h.1 ∙ sym there)

  pub one_refused : {E : Type 0} (cs ds : List Clause) (k : ℕ) (c : Clause) (e : Fail E) → cs ≡ ds → k < length cs → c ≡ get_or cs k c
      → GivesUnless (wide_unfolded (unfold_clause i next c)) (unfold_clause i next c) (Err e)
      → GivesUnless (wide_entry (slice_get (map (unfold_clause i next) ds) k)) (slice_get (map (unfold_clause i next) ds) k) (Err e)
  one_refused cs ds k c e same lt is h =
      let there : slice_get (map (unfold_clause i next) ds) k ≡ Some (unfold_clause i next c) = some_at ds k c (rw (← same) lt) (rw (← same) is) in
      refused_so (wide_unfolded (unfold_clause i next c)) (wide_entry (slice_get (map (unfold_clause i next) ds) k)) (unfold_clause i next c) (slice_get (map (unfold_clause i next) ds) k) e (sym (ap wide_entry there)) h
