-- Open keeps to its time: the tests of guards, and the premise whose guard is true.
use Rattle.cyp_goal.proofs.EachVar.{EachPart}
use Rattle.cyp_heap.specs.Chunks.{arg_vars, card_vars, chunk_vars, chunks_vars, without}
use Rattle.cyp_heap.specs.Stores.{Store, cell_count}
use Rattle.cyp_heap.specs.declared.chunk.Chunk.{Chunk}
use Rattle.cyp_heap.specs.declared.chunk.Chunk.TheVariants.{Block, Cell, Inst}
use Rattle.cyp_heap.specs.declared.chunk.InstOf.{InstOf}
use Rattle.cyp_heap.specs.declared.goal.Goal.{Goal}
use Rattle.cyp_heap.specs.declared.goal.Link.{Link}
use Rattle.cyp_heap.specs.declared.goal.Node.{Node}
use Rattle.cyp_heap.specs.declared.pred.Pred.{Pred}
use Rattle.cyp_heap.specs.declared.pred.Preds.{Preds}
use Rattle.cyp_kernel.proofs.ForgetVars.{among_from_in}
use Rattle.cyp_kernel.proofs.GuardTests.{OnlyTrue, followed_by_end, pred_same, test_tells, zero_suc}
use Rattle.cyp_kernel.proofs.NewNumber.{old_parts}
use Rattle.cyp_kernel.proofs.OldVars.{IsOld}
use Rattle.cyp_kernel.proofs.RuleOpen.{OpenedNode, all_mapped, guard_of, map_at, map_out, open_parts, opened_node, premise_of, without_among}
use Rattle.cyp_kernel.proofs.SteadyParts.{chunk_vars_among}
use Rattle.cyp_kernel.specs.Bound.{body_length, times}
use Rattle.cyp_kernel.specs.Meets.{AreNamed, body_state}
use Rattle.cyp_kernel.specs.Naming.{Names, test_of}
use Rattle.cyp_kernel.specs.Statements.{choose, guards}
use Rattle.cyp_machine.specs.Allocations.{RunAllocates, allocated}
use Rattle.cyp_machine.specs.States.{State}
use Rattle.cyp_machine.specs.Values.{Values, test_value}
use Rattle.cyp_pred.specs.Unfold.{clauses_of, unfold_clause, unfold_inst}
use Rattle.cyp_pred.specs.declared.unfolded.Next.{Next}
use Rattle.cyp_pred.specs.declared.unfolded.Unfolded.{Unfolded}
use Rattle.cyp_prog.specs.Programs.{Body, Choosing, End, Procedure, Then}
use Rattle.cyp_prog.specs.declared.stmt.Test.{Test}
use Rattle.cyp_sound.proofs.Time.CallTime.{at_start}
use Rattle.cyp_sound.proofs.Time.Growth.{grown_nine, later_in_time, times_grow}
use Rattle.cyp_sound.proofs.Time.KeepsTime.{BodyKeepsTime, KeepsTime, grown}
use Rattle.cyp_sound.proofs.Time.KnownCompanions.{link_of, links_after}
use Rattle.cyp_sound.proofs.Time.Measures.{LexAtMost, ends_of, levels_of, measure_at, nat_of, numbers_of}
use Rattle.cyp_sound.proofs.Time.NormalForm.{last_vars}
use Rattle.cyp_sound.proofs.Time.OpenedMeasures.{last_push}
use Rattle.cyp_sound.proofs.Time.RuleLaws.{AllKeepBefore, TimedRawLaw}
use Rattle.cyp_step.specs.Calling.{chunk_or_none}
use Rattle.cyp_step.specs.Changes.{next_of, pre_of}
use Rattle.cyp_step.specs.Unfolding.{card_terms, cards_of, last_tuple, open_link, is_testable}
use Rattle.cyp_step.specs.declared.rule.Rule.TheVariants.{ByOpen}
use Rattle.cyp_term.proofs.Lists.{Among-cases, Among-left, Among-right, Among, flat_in, flat_out}
use Rattle.cyp_term.specs.Meaning.{Assignment, Truth, value}
use Rattle.cyp_term.specs.Terms.{term_vars}
use Rattle.cyp_term.specs.declared.lit.Lit.{Lit}
use Rattle.cyp_term.specs.declared.term.Term.{Term}
use Rattle.cyp_term.specs.declared.term.Var.{Var}
use Rattle.std.proofs.Common.{⊎_elim, ◌≤◌, ◌+◌, ◌+ℤ◌, flat_map, arith, None, ℤ, ◌≡◌, refl, sym, ap, ◌∙◌, ℕ, zero, suc, inl, Bool, true, List, [], ◌∷◌, ◌++◌, map, Option, Some, subst, false, cond, Decides, slice_get}
use Rattle.std.proofs.lemmas.Bool.{and_parts, both_ways}
use Rattle.std.proofs.lemmas.List.{append_assoc}
use Rattle.std.proofs.lemmas.Option.{none-some, same_Some}
use Rattle.std.specs.List.{list_all}

-- ---- tests

module _ (ps : List Procedure) (preds : Preds) (g : Goal) (names : Names) (s : Assignment) (h : Store) (vs : Values) (k : ℕ) (start : List ℕ) (named : AreNamed names vs s g.program) where
  -- the body keeps to its time from each number from z on
  abbrev FromOn : ℕ → Body → Type 0
  FromOn z b = (y : ℕ) → z ≤ y → KeepsTime ps k h vs b y start

  choosing_in_time : (c : Test) (b0 rest b : Body) (z : ℕ) → cond (test_value vs c) b0 rest ≡ b → body_length b ≤ body_length b0 + body_length rest → FromOn z b → FromOn z (Then (Choosing c b0 rest) End)
  choosing_in_time c b0 rest b z chosen short right y from zero e t l r = at_start ps start (1 + body_length b0 + body_length rest + 0) y e r.1
  choosing_in_time c b0 rest b z chosen short right y from (suc m) e t l r =
      let moved = subst (λ (x : State). RunAllocates ps m (allocated ps m r.0.0 t r.0.2) x t) (r.0.1 ∙ ap (body_state h vs) (followed_by_end (cond (test_value vs c) b0 rest) ∙ chosen)) (r.0.2, refl) in
      let rest_in = right (suc y) (more z y from) m (allocated ps m r.0.0 t r.0.2) t (less m k l) moved in
      most (y + suc m + e) _ _
      (later_in_time ps start 1 (body_length b) y (suc y) (y + suc m + e) (one tt) (within y (grown ps start y) (grown_nine ps start y))
      (sum y m e (allocated ps m r.0.0 t r.0.2) (times (body_length b) (grown ps start) (suc y)) r.1 rest_in))
      (times_grow ps start (1 + body_length b) (1 + body_length b0 + body_length rest + 0) y y (longer (body_length b) (body_length b0) (body_length rest) short) (same y))
    where
      one : Unit {0} → 1 ≤ 1
      one x = omega arith

      same : (y : ℕ) → y ≤ y
      same y = omega arith

      more : (z y : ℕ) → z ≤ y → z ≤ suc y
      more z y l = omega arith

      less : (m k : ℕ) → suc m ≤ k → m ≤ k
      less m k l = omega arith

      within : (y g : ℕ) → y + 9 ≤ g → suc y ≤ g
      within y g l = omega arith

      sum : (y m e d t : ℕ) → 0 + d ≡ e → suc y + m + d ≤ t → y + suc m + e ≤ t
      sum y m e d t p q = omega arith

      longer : (b a c : ℕ) → b ≤ a + c → 1 + b ≤ 1 + a + c + 0
      longer b a c l = omega arith

      most : (a b c : ℕ) → a ≤ b → b ≤ c → a ≤ c
      most a b c p q = omega arith

  -- the guards choose the body of the one that is true
  choose_in_time : (gs : List Lit) (bs : List Body) (i : ℕ) (l : Lit) (b : Body) (z : ℕ) → list_all (is_testable g) gs ≡ true → slice_get gs i ≡ Some l → slice_get bs i ≡ Some b → Truth s l
      → OnlyTrue ps preds g names s h vs k named gs i → FromOn z b → FromOn z (choose names gs bs)
  choose_in_time [] bs i l b z all at body holds only right = absurd (none-some l at)
  choose_in_time (l0 ∷ gs) [] i l b z all at body holds only right = absurd (none-some b body)
  choose_in_time (l0 ∷ []) (b0 ∷ bs) zero l b z all at body holds only right = subst (λ (x : Body). FromOn z x) (sym (same_Some b0 b body)) right
  choose_in_time (l0 ∷ []) (b0 ∷ bs) (suc i) l b z all at body holds only right = absurd (none-some l at)
  choose_in_time (l0 ∷ l1 ∷ gs) (b0 ∷ bs) i l b z all at body holds only right =
      let both = and_parts (is_testable g l0) (list_all (is_testable g) (l1 ∷ gs)) all in
      let tells = test_tells names vs s g named l0 both.0 in
      two l0 (l1 ∷ gs) b0 bs (choose names (l1 ∷ gs) bs) (test_value vs (test_of names l0)) refl tells i l b at body holds only right
      (λ i' at' body' only'. choose_in_time (l1 ∷ gs) bs i' l b z both.1 at' body' holds only' right)
    where
      left : (a c : ℕ) → a ≤ a + c
      left a c = omega arith

      last : (a c : ℕ) → c ≤ a + c
      last a c = omega arith

      two : (l0 : Lit) (gs : List Lit) (b0 : Body) (bs : List Body) (rest : Body) (test : Bool) → test_value vs (test_of names l0) ≡ test → Decides (test_value vs (test_of names l0)) (Truth s l0)
          → (i : ℕ) (l : Lit) (b : Body) → slice_get (l0 ∷ gs) i ≡ Some l → slice_get (b0 ∷ bs) i ≡ Some b → Truth s l → OnlyTrue ps preds g names s h vs k named (l0 ∷ gs) i → FromOn z b
          → ((i' : ℕ) → slice_get gs i' ≡ Some l → slice_get bs i' ≡ Some b → OnlyTrue ps preds g names s h vs k named gs i' → FromOn z rest)
          → FromOn z (Then (Choosing (test_of names l0) b0 rest) End)
      two l0 gs b0 bs rest true e tells zero l b at body holds only right more =
          choosing_in_time (test_of names l0) b0 rest b0 z (ap (λ (x : Bool). cond x b0 rest) e) (left (body_length b0) (body_length rest)) (subst (λ (x : Body). FromOn z x) (sym (same_Some b0 b body)) right)
      two l0 gs b0 bs rest true e tells (suc i) l b at body holds only right more = absurd (zero_suc i (only 0 l0 refl (tells.0 e)))
      two l0 gs b0 bs rest false e tells zero l b at body holds only right more =
          absurd (both_ways (test_value vs (test_of names l0)) e (tells.1 (subst (λ (x : Lit). Truth s x) (sym (same_Some l0 l at)) holds)))
      two l0 gs b0 bs rest false e tells (suc i) l b at body holds only right more =
          choosing_in_time (test_of names l0) b0 rest rest z (ap (λ (x : Bool). cond x b0 rest) e) (last (body_length b0) (body_length rest)) (more i at body (λ p q a y. pred_same p i (only (suc p) q a y)))

-- ---- the rule

-- the premise at a place and its body
keeps_at : (ps : List Procedure) (names : Names) (k : ℕ) (start : List ℕ) (ms : List Node) (bs : List Body) (i : ℕ) (m : Node) → AllKeepBefore ps names k start ms bs → slice_get ms i ≡ Some m
    → (b : Body) × (slice_get bs i ≡ Some b) × BodyKeepsTime ps m names k start b
keeps_at ps names k start [] bs i m a e = absurd (none-some m e)
keeps_at ps names k start (x ∷ ms) [] i m a e = absurd a
keeps_at ps names k start (x ∷ ms) (b ∷ bs) zero m a e = (b, refl, subst (λ (y : Node). BodyKeepsTime ps y names k start b) (same_Some x m e) a.0)
keeps_at ps names k start (x ∷ ms) (b ∷ bs) (suc i) m a e = keeps_at ps names k start ms bs i m a.1 e

-- numbers depend on the values of variables
pub numbers_on : (s u : Assignment) (ts : List Term) → ((v : Var) → Among v (flat_map term_vars ts) → s.number v ≡ u.number v) → numbers_of s ts ≡ numbers_of u ts
numbers_on s u [] same = refl
numbers_on s u (t ∷ ts) same =
    let here = base_on t.base t.offset (λ v k. same v (Among-left v (term_vars t) (flat_map term_vars ts) k)) in
    let rest = numbers_on s u ts (λ v k. same v (Among-right v (term_vars t) (flat_map term_vars ts) k)) in
    λ i. nat_of (here i) ∷ rest i
  where
    base_on : (b : Option Var) (o : ℤ) → ((v : Var) → Among v (term_vars (record { base = b; offset = o })) → s.number v ≡ u.number v) → value s (record { base = b; offset = o }) ≡ value u (record { base = b; offset = o })
    base_on None o same = refl
    base_on (Some v) o same = ap (λ (x : ℤ). x +ℤ o) (same v (inl refl))

flat_map-append : (a b : List Term) → flat_map term_vars (a ++ b) ≡ flat_map term_vars a ++ flat_map term_vars b
flat_map-append [] b = refl
flat_map-append (t ∷ a) b = ap (λ (vs : List Var). term_vars t ++ vs) (flat_map-append a b) ∙ sym (append_assoc (term_vars t) (flat_map term_vars a) (flat_map term_vars b))

-- the cardinalities of chunks are among their variables
card_in : (c : Option Var) (v : Var) → Among v (flat_map term_vars (card_terms c)) → Among v (card_vars c)
card_in None v k = k
card_in (Some w) v k = k

cards_in : (cs : List Chunk) (v : Var) → Among v (flat_map term_vars (cards_of cs)) → Among v (chunks_vars cs)
cards_in [] v k = k
cards_in (Inst i ∷ cs) v k =
    ⊎_elim
    (λ a. Among-left v (chunk_vars (Inst i)) (chunks_vars cs) (Among-right v (flat_map arg_vars i.args) (card_vars i.card) (card_in i.card v a)))
    (λ a. Among-right v (chunk_vars (Inst i)) (chunks_vars cs) (cards_in cs v a))
    (Among-cases v (flat_map term_vars (card_terms i.card)) (flat_map term_vars (cards_of cs)) (subst (Among v) (flat_map-append (card_terms i.card) (cards_of cs)) k))
cards_in (Block b ∷ cs) v k = Among-right v (chunk_vars (Block b)) (chunks_vars cs) (cards_in cs v k)
cards_in (Cell c ∷ cs) v k = Among-right v (chunk_vars (Cell c)) (chunks_vars cs) (cards_in cs v k)

-- the variables of the measure of what is opened are the node's
own_old : (n : Node) (i : ℕ) (j : InstOf) → slice_get (pre_of n) i ≡ Some (Inst j) → (v : Var) → Among v (flat_map term_vars (open_link n i j).own) → IsOld (next_of n) v
own_old n i j at v k =
    let old : EachPart (IsOld (next_of n)) n = old_parts n in
    let a : List Term = last_tuple n.links in
    let b : List Term = card_terms j.card in
    let c : List Term = cards_of (without (pre_of n) i) in
    ⊎_elim
    (λ x.
    ⊎_elim (last_vars (IsOld (next_of n)) n.links old.links v)
    (λ y. old.pre v (chunk_vars_among (pre_of n) i (Inst j) at v (Among-right v (flat_map arg_vars j.args) (card_vars j.card) (card_in j.card v y))))
    (Among-cases v (flat_map term_vars a) (flat_map term_vars b) (subst (Among v) (flat_map-append a b) x)))
    (λ x.
    let f = flat_out chunk_vars v (without (pre_of n) i) (cards_in (without (pre_of n) i) v x) in
    old.pre v (flat_in chunk_vars v f.0 (pre_of n) (without_among f.0 (pre_of n) i f.1) f.2))
    (Among-cases v (flat_map term_vars (a ++ b)) (flat_map term_vars c) (subst (Among v) (flat_map-append (a ++ b) c) k))

pub open_in_time : (i : ℕ) → TimedRawLaw (ByOpen i)
open_in_time i ps n ms bs names procs new k start formed steady plain naming is callee timed safe all s h ns vs z pre named place =
    let w = open_parts n i (slice_get (pre_of n) i) ms is in
    let j : InstOf = w.0 in
    let next : Next = next_of n in
    let o : OpenedNode n steady.raw.steady formed i j w.1 s h ns pre = opened_node n steady.raw.steady formed i j w.1 s h ns pre in
    let u : Unfolded = unfold_clause j next o.clause in
    let l : Link = open_link n i j in
    let entries : List Unfolded = map (unfold_clause j next) o.pred.clauses in
    let listed : unfold_inst n.preds j next ≡ entries = ap (λ (x : Option Pred). map (unfold_clause j next) (clauses_of x)) o.pred_is in
    let entry_is : slice_get entries o.place ≡ Some u = map_at (unfold_clause j next) o.pred.clauses o.place o.clause o.clause_is in
    let all' : AllKeepBefore ps names k start (map (premise_of n i j) entries) bs = subst (λ (xs : List Node). AllKeepBefore ps names k start xs bs) (w.3 ∙ ap (map (premise_of n i j)) listed) all in
    let met = keeps_at ps names k start (map (premise_of n i j) entries) bs o.place (premise_of n i j u) all' (map_at (premise_of n i j) entries o.place u entry_is) in
    let tests : list_all (is_testable n.goal) (map guard_of entries) ≡ true =
    all_mapped guard_of (is_testable n.goal) entries (subst (λ (xs : List Unfolded). list_all (λ (x : Unfolded). is_testable n.goal x.guard) xs ≡ true) listed w.2) in
    let old : EachPart (IsOld next) n = old_parts n in
    let links : links_after n (ByOpen i) ≡ n.links ++ l ∷ [] = ap (λ (x : Option Chunk). n.links ++ link_of n i (chunk_or_none x)) w.1 in
    let tuple : last_tuple (n.links ++ l ∷ []) ≡ l.own = last_push n.links l in
    let numbers : numbers_of s (last_tuple (n.links ++ l ∷ [])) ≡ numbers_of o.values (last_tuple (n.links ++ l ∷ [])) =
    ap (numbers_of s) tuple ∙ numbers_on s o.values l.own (λ v x. o.numbers v (own_old n i j w.1 v x)) ∙ ap (numbers_of o.values) (sym tuple) in
    let below : LexAtMost (measure_at o.values (n.links ++ l ∷ [])) start =
    subst (λ (xs : List ℕ). LexAtMost (levels_of (ends_of (n.links ++ l ∷ [])) xs) start) numbers (subst (λ (ls : List Link). LexAtMost (measure_at s ls) start) links place.below) in
    let right : FromOn ps n.preds n.goal names s h vs k start named z met.0 =
    λ y from. met.2 o.values h o.heights vs y o.holds (λ v e. named v e ∙ o.numbers v (old.program v (among_from_in v n.goal.program e)))
    (record {
      cells = most (suc (cell_count h)) z y place.cells from;
      cards = o.small y (λ v e. let x = place.cards v e in (x.0, x.1, most x.0 z y x.2 from));
      below = below;
      long = place.long;
    }) in
    let chosen : FromOn ps n.preds n.goal names s h vs k start named z (choose names (map guard_of entries) bs) =
    choose_in_time ps n.preds n.goal names s h vs k start named (map guard_of entries) bs o.place u.guard met.0 z tests (map_at guard_of entries o.place u entry_is) met.1 o.guard
    (λ p l e x.
    let a = map_out guard_of entries p l e in
    let b = map_out (unfold_clause j next) o.pred.clauses p a.0 a.1 in
    o.alone p b.0 b.1 (subst (λ (y : Lit). Truth s y) (a.2 ∙ ap guard_of b.2) x)) right in
    subst (λ (gs : List Lit). FromOn ps n.preds n.goal names s h vs k start named z (choose names gs bs)) (sym (ap (guards n) w.1 ∙ ap (map guard_of) listed)) chosen z (itself z)
  where
    most : (a b c : ℕ) → a ≤ b → b ≤ c → a ≤ c
    most a b c p q = omega arith

    itself : (z : ℕ) → z ≤ z
    itself z = omega arith
