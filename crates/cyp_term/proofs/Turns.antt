-- A turn of a loop that adds what each item of a list brings.
use Rattle.std.proofs.Common.{◌≡◌, ◌∙◌, ◌<◌, ℕ, ◌+◌, List, ◌∷◌, ◌++◌, Bool, false, ◌||◌, ap, drop, get_or, length, sym}
use Rattle.std.specs.List.{list_any}
use Rattle.std.proofs.lemmas.List.{append_assoc}
use Rattle.std.proofs.lemmas.List.Folds.{list_any-append}
use Rattle.std.proofs.Math.Numerals.{add-one}
use Rattle.std.proofs.Math.Seq.{drop-cons}
use Rattle.cyp_term.specs.Terms.{with_all_new}
use Rattle.cyp_term.proofs.Repeats.{with_all_new_append}

-- the items from a place are the one there and those behind it
pub drop_here : {V : Type 0} (vs : List V) (i : ℕ) (d : V) → i < length vs → drop i vs ≡ get_or vs i d ∷ drop (i + 1) vs
drop_here vs i d lt = rw add-one (drop-cons vs i d lt)

module _ {V X : Type 0} (part : V → List X) (all : List V → List X) (parts : (v : V) (vs : List V) → all (v ∷ vs) ≡ part v ++ all vs) where
  all_here : (vs : List V) (i : ℕ) (d : V) → i < length vs → all (drop i vs) ≡ part (get_or vs i d) ++ all (drop (i + 1) vs)
  all_here vs i d lt = ap all (drop_here vs i d lt) ∙ parts (get_or vs i d) (drop (i + 1) vs)

  -- what the item brings is added, and what those behind it bring is left
  pub added_turn : (eq : X → X → Bool) (vs : List V) (i : ℕ) (d : V) (old new whole : List X) → i < length vs → new ≡ with_all_new eq old (part (get_or vs i d))
      → with_all_new eq old (all (drop i vs)) ≡ whole → with_all_new eq new (all (drop (i + 1) vs)) ≡ whole
  added_turn eq vs i d old new whole lt added h =
      let rest : List X = all (drop (i + 1) vs) in
      ap (λ (us : List X). with_all_new eq us rest) added ∙ sym (with_all_new_append eq old (part (get_or vs i d)) rest)
      ∙ sym (ap (λ (us : List X). with_all_new eq old us) (all_here vs i d lt)) ∙ h

  -- what the item brings is put behind, and what those behind it bring is left
  pub appended_turn : (vs : List V) (i : ℕ) (d : V) (old new whole : List X) → i < length vs → new ≡ old ++ part (get_or vs i d) → old ++ all (drop i vs) ≡ whole → new ++ all (drop (i + 1) vs) ≡ whole
  appended_turn vs i d old new whole lt added h =
      let rest : List X = all (drop (i + 1) vs) in
      ap (λ (us : List X). us ++ rest) added ∙ append_assoc old (part (get_or vs i d)) rest ∙ sym (ap (λ (us : List X). old ++ us) (all_here vs i d lt)) ∙ h

  -- nothing that the item brings passes the test
  pub untold_turn : (test : X → Bool) (vs : List V) (i : ℕ) (d : V) (whole : Bool) → i < length vs → list_any test (part (get_or vs i d)) ≡ false
      → whole ≡ list_any test (all (drop i vs)) → whole ≡ list_any test (all (drop (i + 1) vs))
  untold_turn test vs i d whole lt untold h =
      let rest : List X = all (drop (i + 1) vs) in
      h ∙ ap (list_any test) (all_here vs i d lt) ∙ list_any-append test (part (get_or vs i d)) rest ∙ ap (λ (b : Bool). b || list_any test rest) untold
