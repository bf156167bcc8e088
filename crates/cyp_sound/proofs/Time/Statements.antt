-- A statement that calls nothing keeps to its time where what follows does.
use Rattle.cyp_heap.specs.Stores.{Store, cell_count}
use Rattle.cyp_heap.specs.declared.goal.Link.{Link}
use Rattle.cyp_heap.specs.declared.goal.Node.{Node}
use Rattle.cyp_kernel.specs.Bound.{body_length, statement_length, times}
use Rattle.cyp_kernel.specs.Meets.{body_state}
use Rattle.cyp_kernel.specs.Naming.{Names}
use Rattle.cyp_kernel.specs.Statements.{first_body}
use Rattle.cyp_machine.proofs.Allocated.{cells as cells_law}
use Rattle.cyp_machine.specs.Allocations.{RunAllocates, allocated, statement_allocates}
use Rattle.cyp_machine.specs.Runs.{Run}
use Rattle.cyp_machine.specs.States.{State}
use Rattle.cyp_machine.specs.Steps.{Step}
use Rattle.cyp_machine.specs.Values.{Values}
use Rattle.cyp_prog.specs.Programs.{Body, Procedure, Statement, Then}
use Rattle.cyp_sound.proofs.Time.CallTime.{at_start}
use Rattle.cyp_sound.proofs.Time.Growth.{grown_nine, later_in_time}
use Rattle.cyp_sound.proofs.Time.KeepsTime.{AtPlace, BodyKeepsTime, KeepsTime, grown}
use Rattle.cyp_sound.proofs.Time.Measures.{LexAtMost, ends_of, levels_of, nat_of, numbers_of}
use Rattle.cyp_sound.proofs.Time.Plain.{is_bare_card, is_card, is_card_base}
use Rattle.cyp_sound.proofs.Time.RuleLaws.{AllKeepBefore}
use Rattle.cyp_step.specs.Unfolding.{last_tuple}
use Rattle.cyp_term.specs.Meaning.{Assignment, value}
use Rattle.cyp_term.specs.declared.term.Term.{Term}
use Rattle.cyp_term.specs.declared.term.Var.{Var}
use Rattle.std.proofs.Common.{◌≡◌, refl, sym, ap, ◌∙◌, ℕ, zero, suc, ◌+◌, ◌≤◌, true, List, [], ◌∷◌, Option, Some, None, ℤ, pos, ◌+ℤ◌, arith, subst}
use Rattle.std.proofs.lemmas.Bool.{and_parts}
use Rattle.std.specs.List.{list_all}
use Rattle.std.specs.Ordering.{int_eq}

-- what the statement leads to, and that what follows keeps to its time from there, with number y
pub record LeadsOn (ps : List Procedure) (k : ℕ) (start : List ℕ) (b : Body) (t : State) (y : ℕ) : Type 0 where
  pub heap : Store
  pub values : Values
  pub state_is : t ≡ body_state heap values b
  pub follows : suc (cell_count heap) ≤ y → KeepsTime ps k heap values b y start

module _ (ps : List Procedure) (k : ℕ) (start : List ℕ) where
  pub step_in_time : (h : Store) (vs : Values) (c : Statement) (b : Body) (z a : ℕ) → statement_allocates c ≡ a → a ≤ 8 → 1 ≤ statement_length c → suc (cell_count h) ≤ z
      → ((t : State) → Step ps (body_state h vs (Then c b)) t → LeadsOn ps k start b t (suc z + a)) → KeepsTime ps k h vs (Then c b) z start
  step_in_time h vs c b z a takes few long some on zero e t l r = at_start ps start (statement_length c + body_length b) z e r.1
  step_in_time h vs c b z a takes few long some on (suc m) e t l r =
      let u : State = r.0.0 in
      let o = on u r.0.1 in
      let one : Run ps 1 (body_state h vs (Then c b)) u = (u, r.0.1, refl) in
      let cells = cells_law ps 1 (body_state h vs (Then c b)) u one in
      let room : suc (cell_count o.heap) ≤ suc z + a =
      cells_in (cell_count u.store) (cell_count h) (statement_allocates c) a z (cell_count o.heap) cells takes some (ap (λ (x : State). cell_count x.store) (sym o.state_is)) in
      let later : RunAllocates ps m (allocated ps m u t r.0.2) u t = (r.0.2, refl) in
      let rest = o.follows room m (allocated ps m u t r.0.2) t (less m k l) (subst (λ (x : State). RunAllocates ps m (allocated ps m u t r.0.2) x t) o.state_is later) in
      later_in_time ps start (statement_length c) (body_length b) z (suc z + a) (z + suc m + e) long (within z a (grown ps start z) few (grown_nine ps start z))
      (sum z m e a (statement_allocates c) (allocated ps m u t r.0.2) (times (body_length b) (grown ps start) (suc z + a)) r.1 takes rest)
    where
      less : (m k : ℕ) → suc m ≤ k → m ≤ k
      less m k l = omega arith

      cells_in : (c h p a z o : ℕ) → c ≤ h + (p + 0) → p ≡ a → suc h ≤ z → o ≡ c → suc o ≤ suc z + a
      cells_in c h p a z o l e s q = omega arith

      within : (z a g : ℕ) → a ≤ 8 → z + 9 ≤ g → suc z + a ≤ g
      within z a g l m = omega arith

      sum : (z m e a p d t : ℕ) → p + d ≡ e → p ≡ a → suc z + a + m + d ≤ t → z + suc m + e ≤ t
      sum z m e a p d t q r l = omega arith

-- ---- places

pub one_keeps : (ps : List Procedure) (names : Names) (k : ℕ) (start : List ℕ) (m : Node) (bs : List Body) → AllKeepBefore ps names k start (m ∷ []) bs → BodyKeepsTime ps m names k start (first_body bs)
one_keeps ps names k start m [] h = absurd h
one_keeps ps names k start m (b ∷ bs) h = h.0

same_base : (s u : Assignment) (b : Option Var) (o : ℤ) → ((v : Var) → is_card v ≡ true → s.number v ≡ u.number v) → is_card_base b ≡ true
    → value s (record { base = b; offset = o }) ≡ value u (record { base = b; offset = o })
same_base s u None o same h = refl
same_base s u (Some v) o same h = ap (λ (x : ℤ). x +ℤ o) (same v h)

pub same_numbers : (s u : Assignment) (ts : List Term) → ((v : Var) → is_card v ≡ true → s.number v ≡ u.number v) → list_all is_bare_card ts ≡ true → numbers_of s ts ≡ numbers_of u ts
same_numbers s u [] same h = refl
same_numbers s u (t ∷ ts) same h =
    let both = and_parts (is_bare_card t) (list_all is_bare_card ts) h in
    let here = same_base s u t.base t.offset same (and_parts (int_eq t.offset (pos 0)) (is_card_base t.base) both.0).1 in
    let rest = same_numbers s u ts same both.1 in
    λ i. nat_of (here i) ∷ rest i

-- a place after a statement, at values that are the same for cardinalities
pub place_moves : (ls : List Link) (s u : Assignment) (h g : Store) (z y : ℕ) (start : List ℕ) → list_all is_bare_card (last_tuple ls) ≡ true → ((v : Var) → is_card v ≡ true → s.number v ≡ u.number v)
    → z ≤ y → suc (cell_count g) ≤ y → AtPlace ls s h z start → AtPlace ls u g y start
place_moves ls s u h g z y start bare same more cells place = record {
  cells = cells;
  cards = λ v e. let w = place.cards v e in (w.0, sym (same v e) ∙ w.1, wider w.0 z y w.2 more);
  below = subst (λ (xs : List ℕ). LexAtMost (levels_of (ends_of ls) xs) start) (same_numbers s u (last_tuple ls) same bare) place.below;
  long = place.long;
}
  where
    wider : (a b c : ℕ) → a ≤ b → b ≤ c → a ≤ c
    wider a b c p q = omega arith
