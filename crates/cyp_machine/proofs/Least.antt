-- With the least allocation a state has one next step at most.
use Rattle.std.proofs.Common.{[], List, ap, arith, int_eq, length, map, pos, refl, replicate, slice_get, sym, true, ℕ, ℤ, ◌∙◌, ◌∷◌, ◌≡◌, ◌≤ℤ◌}
use Rattle.std.proofs.lemmas.Bool.{and_parts}
use Rattle.std.proofs.lemmas.Bool.Decides.{Decides-int_eq}
use Rattle.std.proofs.lemmas.Int.{ints}
use Rattle.std.specs.FinMap.{get, insert, remove}
use Rattle.std.specs.List.{list_all}
use Rattle.cyp_heap.specs.Stores.{Store}
use Rattle.cyp_machine.proofs.Options.{same_some}
use Rattle.cyp_machine.specs.Laws.{LeastIsOne}
use Rattle.cyp_machine.specs.States.{Frame, State}
use Rattle.cyp_machine.specs.Steps.{BodyStep, FramesStep, StatementStep, addresses, insert_all, least_pick, remove_all}
use Rattle.cyp_machine.specs.Values.{Values, expr_value, params_from}
use Rattle.cyp_prog.specs.Programs.{Body, Choosing, End, Failing, Giving, Invoking, Loading, Procedure, Statement, Storing, Taking, Then}

all_zero : (zs : List ℤ) → list_all (int_eq (pos 0)) zs ≡ true → zs ≡ replicate (length zs) (pos 0)
all_zero [] h = refl
all_zero (z ∷ zs) h =
    let parts = and_parts (int_eq (pos 0) z) (list_all (int_eq (pos 0)) zs) h in
    λ i. (sym ((Decides-int_eq (pos 0) z).0 parts.0) i) ∷ (all_zero zs parts.1 i)

same_zeros : (n : ℕ) (ys zs : List ℤ) → length ys ≡ n → length zs ≡ n → list_all (int_eq (pos 0)) ys ≡ true → list_all (int_eq (pos 0)) zs ≡ true → ys ≡ zs
same_zeros n ys zs p q a b = all_zero ys a ∙ ap (λ (k : ℕ). replicate k (pos 0)) (p ∙ sym q) ∙ sym (all_zero zs b)

same_base : (a b : ℤ) → a ≤ℤ b → b ≤ℤ a → a ≡ b
same_base a b p q = omega (arith, ints)

-- two states that are made alike from equal parts
module _ {A : Type 0} (make : A → State) where
  same_made : (t u : State) (x y : A) → t ≡ make x → u ≡ make y → x ≡ y → t ≡ u
  same_made t u x y p q e = p ∙ ap make e ∙ sym q

module _ (ps : List Procedure) where
  statement_one : (s : Statement) (h : Store) (vs : Values) (rest : Body) (below : List Frame) (t u : State)
      → StatementStep least_pick ps s h vs rest below t → StatementStep least_pick ps s h vs rest below u → t ≡ u
  statement_one (Loading v e) h vs rest below t u p q =
      same_made (λ (z : ℤ). record { store = h; frames = record { values = (v, z) ∷ vs; rest = rest } ∷ below }) t u p.0 q.0 p.2 q.2
      (same_some (get h.cells (expr_value vs e)) p.0 q.0 p.1 q.1)
  statement_one (Storing a e) h vs rest below t u p q = p.1 ∙ sym q.1
  statement_one (Taking v n) h vs rest below t u p q =
      let base : p.0 ≡ q.0 = same_base p.0 q.0 (p.4.0 q.0 q.3) (q.4.0 p.0 p.3) in
      let content : p.1 ≡ q.1 = same_zeros n p.1 q.1 p.2 q.2 p.4.1 q.4.1 in
      p.5
      ∙ (λ i. record {
        store = record { cells = insert_all h.cells (base i) (content i); blocks = insert h.blocks (base i) n };
        frames = record { values = (v, base i) ∷ vs; rest = rest } ∷ below;
      })
      ∙ sym q.5
  statement_one (Giving e) h vs rest below t u p q =
      same_made (λ (n : ℕ). record {
        store = record { cells = remove_all h.cells (addresses (expr_value vs e) n); blocks = remove h.blocks (expr_value vs e) };
        frames = record { values = vs; rest = rest } ∷ below;
      }) t u p.0 q.0 p.3 q.3
      (same_some (get h.blocks (expr_value vs e)) p.0 q.0 p.1 q.1)
  statement_one (Invoking i es) h vs rest below t u p q =
      same_made (λ (r : Procedure). record {
        store = h;
        frames = record { values = params_from 1 (map (expr_value vs) es); rest = r.body } ∷ record { values = vs; rest = rest } ∷ below;
      }) t u p.0 q.0 p.2 q.2
      (same_some (slice_get ps i) p.0 q.0 p.1 q.1)
  statement_one (Choosing c x y) h vs rest below t u p q = p ∙ sym q
  statement_one Failing h vs rest below t u p q = absurd p

  body_one : (x : Body) (h : Store) (vs : Values) (below : List Frame) (t u : State) → BodyStep least_pick ps h vs x below t → BodyStep least_pick ps h vs x below u → t ≡ u
  body_one End h vs [] t u p q = absurd p
  body_one End h vs (g ∷ below) t u p q = p ∙ sym q
  body_one (Then s x) h vs below t u p q = statement_one s h vs x below t u p q

  frames_one : (fs : List Frame) (h : Store) (t u : State) → FramesStep least_pick ps h fs t → FramesStep least_pick ps h fs u → t ≡ u
  frames_one [] h t u p q = absurd p
  frames_one (f ∷ fs) h t u p q = body_one f.rest h f.values fs t u p q

pub least_is_one : LeastIsOne
least_is_one ps s t u p q = frames_one ps s.frames s.store t u p q
