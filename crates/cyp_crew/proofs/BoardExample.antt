-- A board after a commit, with one claim outstanding and an entry left of the leaf that was expanded.
use Rattle.std.proofs.Common.{◌≡◌, refl, sym, ◌∙◌, ap, subst, IsTrue, ℕ, zero, suc, false, List, [], ◌∷◌, ◌++◌, Option, Some, None, slice_get, arith}
use Rattle.std.specs.List.{Contains}
use Rattle.std.proofs.lemmas.Option.{same_Some, none-some}
use Rattle.cyp_space.specs.Alts.{AltOf}
use Rattle.cyp_tree.specs.declared.mark.Mark.TheVariants.{Undecided}
use Rattle.cyp_tree.specs.Live.{Waiting}
use Rattle.cyp_search.specs.Stages.{stage}
use Rattle.cyp_crew.specs.declared.event.Event.{Event}
use Rattle.cyp_crew.specs.declared.event.Event.TheVariants.{Claim}
use Rattle.cyp_crew.specs.Crews.{Outstanding, Crew}
use Rattle.cyp_crew.specs.Claims.{crew_leaves, is_free}
use Rattle.cyp_crew.specs.Board.{MarkedNode, Place, Entry, PlainBoard, entry_of, stage_marks, IsRight, StandsFor}
use Rattle.cyp_crew.proofs.Examples.{ways, space, task, one_commit}

abbrev so_far : List Event
so_far = one_commit ++ (Claim 0 2 ∷ [])

abbrev claim : Outstanding ℕ
claim = record { worker = 0; serial = 2; leaf = 1; node = 1; cancelled = false }

abbrev crew : Crew ℕ
crew = record { commits = 1; published = 0 ∷ []; outstanding = claim ∷ []; claims = 2 }

abbrev mark : ℕ → MarkedNode ℕ
mark k = record { number = k; node = k; priority = k; status = Undecided }

abbrev entry : ℕ → Entry
entry k = record { priority = k; leaf = k }

abbrev leaf : ℕ → Waiting ℕ
leaf k = record { priority = k; number = k; node = k }

abbrev known_place : Place ℕ ℕ
known_place = record { node = 0; moves = Some (ways 0) }

abbrev claimed_place : Place ℕ ℕ
claimed_place = record { node = 1; moves = None }

abbrev board : PlainBoard ℕ ℕ
board = record {
  journal = so_far;
  claims = claim ∷ [];
  tree = stage space 0 1;
  nodes = mark 0 ∷ (mark 1 ∷ (mark 2 ∷ []));
  memo = known_place ∷ (claimed_place ∷ []);
  to_commit = entry 0 ∷ (entry 1 ∷ (entry 2 ∷ []));
  to_claim = entry 2 ∷ [];
  claim_room = 1;
  journal_room = 1;
}

abbrev IsAt : MarkedNode ℕ → Type 0
IsAt m = slice_get board.nodes m.number ≡ Some m

marked : (m : MarkedNode ℕ) → Contains (stage_marks task so_far board) m → IsAt m
marked m (zero, h, e) = subst IsAt e refl
marked m (suc zero, h, e) = subst IsAt e refl
marked m (suc (suc zero), h, e) = subst IsAt e refl
marked m (suc (suc (suc k)), h, e) = let past : ⊥ = omega arith in absurd past

right : (x : Entry) → Contains board.to_commit x → IsRight task so_far board x
right x (zero, h, e) = subst (IsRight task so_far board) e (mark 0, (0, omega arith, refl), refl, refl)
right x (suc zero, h, e) = subst (IsRight task so_far board) e (mark 1, (1, omega arith, refl), refl, refl)
right x (suc (suc zero), h, e) = subst (IsRight task so_far board) e (mark 2, (2, omega arith, refl), refl, refl)
right x (suc (suc (suc k)), h, e) = let past : ⊥ = omega arith in absurd past

claims_right : (x : Entry) → Contains board.to_claim x → IsRight task so_far board x
claims_right x (zero, h, e) = subst (IsRight task so_far board) e (mark 2, (2, omega arith, refl), refl, refl)
claims_right x (suc k, h, e) = let past : ⊥ = omega arith in absurd past

abbrev IsToCommit : Waiting ℕ → Type 0
IsToCommit w = Contains board.to_commit (entry_of w)

live : (w : Waiting ℕ) → Contains (crew_leaves task crew) w → IsToCommit w
live w (zero, h, e) = subst IsToCommit e (1, omega arith, refl)
live w (suc zero, h, e) = subst IsToCommit e (2, omega arith, refl)
live w (suc (suc k), h, e) = let past : ⊥ = omega arith in absurd past

abbrev IsToClaim : Waiting ℕ → Type 0
IsToClaim w = Contains board.to_claim (entry_of w)

-- the first leaf is claimed
free : (w : Waiting ℕ) → Contains (crew_leaves task crew) w → IsTrue (is_free task crew w) → IsToClaim w
free w (zero, h, e) f = let no_longer : IsTrue (is_free task crew (leaf 1)) = subst (λ (x : Waiting ℕ). IsTrue (is_free task crew x)) (sym e) f in cc
free w (suc zero, h, e) f = subst IsToClaim e (0, omega arith, refl)
free w (suc (suc k), h, e) f = let past : ⊥ = omega arith in absurd past

abbrev HasMoves : ℕ → Type 0
HasMoves n = Contains board.memo (record { node = n; moves = Some (ways n) })

published : (n : ℕ) → Contains crew.published n → HasMoves n
published n (zero, h, e) = subst HasMoves e (0, omega arith, refl)
published n (suc k, h, e) = let past : ⊥ = omega arith in absurd past

known : (n : ℕ) (m : List (AltOf ℕ ℕ)) → Contains board.memo (record { node = n; moves = Some m }) → Contains crew.published n × (m ≡ ways n)
known n m (zero, h, e) =
    let node : 0 ≡ n = ap (λ (p : Place ℕ ℕ). p.node) e in
    let moves : ways 0 ≡ m = same_Some (ways 0) m (ap (λ (p : Place ℕ ℕ). p.moves) e) in
    ((0, omega arith, node), sym moves ∙ ap ways node)
known n m (suc zero, h, e) = absurd (none-some m (ap (λ (p : Place ℕ ℕ). p.moves) e))
known n m (suc (suc k), h, e) = let past : ⊥ = omega arith in absurd past

node_of : (p q : Place ℕ ℕ) → Some p ≡ Some q → p.node ≡ q.node
node_of p q e = ap (λ (x : Place ℕ ℕ). x.node) (same_Some p q e)

one_place : (i j : ℕ) (p q : Place ℕ ℕ) → slice_get board.memo i ≡ Some p → slice_get board.memo j ≡ Some q → p.node ≡ q.node → i ≡ j
one_place zero zero p q e f s = refl
one_place zero (suc zero) p q e f s = let a : 0 ≡ p.node = node_of known_place p e in let b : 1 ≡ q.node = node_of claimed_place q f in omega (arith, s)
one_place (suc zero) zero p q e f s = let a : 1 ≡ p.node = node_of claimed_place p e in let b : 0 ≡ q.node = node_of known_place q f in omega (arith, s)
one_place (suc zero) (suc zero) p q e f s = refl
one_place (suc (suc i)) j p q e f s = absurd (none-some p e)
one_place zero (suc (suc j)) p q e f s = absurd (none-some q f)
one_place (suc zero) (suc (suc j)) p q e f s = absurd (none-some q f)

abbrev IsPlaced : Outstanding ℕ → Type 0
IsPlaced o = (m : Option (List (AltOf ℕ ℕ))) × Contains board.memo (record { node = o.node; moves = m })

placed : (o : Outstanding ℕ) → Contains crew.outstanding o → IsPlaced o
placed o (zero, h, e) = subst IsPlaced e (None, (1, omega arith, refl))
placed o (suc k, h, e) = let past : ⊥ = omega arith in absurd past

board_stands : StandsFor task so_far board
board_stands = record {
  state = crew;
  journal = record { stored = refl; allowed = refl; claims = refl };
  tree = record { tree = refl; counted = refl; marked = marked };
  memo = record { one_place = one_place; published = published; known = known };
  orders = record { live = live; free = free; commits_right = right; claims_right = claims_right };
  room = record { placed = placed; entries = omega arith; events = omega arith };
}
