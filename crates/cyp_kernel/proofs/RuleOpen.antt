-- Open is sound: the clause that holds is the one whose guard is true, and its premise's body runs.
use Rattle.std.proofs.Common.{◌≡◌, refl, sym, ap, ◌∙◌, ℕ, zero, suc, ◌≤◌, inl, inr, Bool, true, get_or, arith, List, [], ◌∷◌, ◌++◌, map, flat_map, length, Option, Some, pos, subst}
use Rattle.std.specs.Prelude.{slice_get}
use Rattle.std.specs.List.{list_all}
use Rattle.std.proofs.lemmas.Bool.{and_from, and_parts}
use Rattle.std.proofs.lemmas.Option.{none-some, same_Some}
use Rattle.cyp_goal.proofs.EachVar.{EachPart, each_part}
use Rattle.cyp_heap.proofs.Guards.{guards_law}
use Rattle.cyp_heap.specs.Assertions.{CardIs, SideHolds}
use Rattle.cyp_heap.specs.Chunks.{arg_vars, card_vars, chunk_vars, put_all, without}
use Rattle.cyp_heap.specs.Instances.{InstanceHolds, Instances, arg_value, height_above}
use Rattle.cyp_heap.specs.Laws.{SameArgValues}
use Rattle.cyp_heap.specs.Formed.{is_card_var}
use Rattle.cyp_heap.specs.PredsFormed.{IsFormedPreds}
use Rattle.cyp_heap.specs.Stores.{Store}
use Rattle.cyp_heap.specs.declared.chunk.Chunk.{Chunk}
use Rattle.cyp_heap.specs.declared.chunk.Chunk.TheVariants.{Inst}
use Rattle.cyp_heap.specs.declared.chunk.InstOf.{InstOf}
use Rattle.cyp_heap.specs.declared.goal.Node.{Node}
use Rattle.cyp_heap.specs.declared.pred.Clause.{Clause}
use Rattle.cyp_heap.specs.declared.pred.Pred.{Pred}
use Rattle.cyp_kernel.proofs.AgreeVars.{AgreeAt, chunk_sorted, lits_by_vars, same_by_vars, side_by_vars}
use Rattle.cyp_kernel.proofs.Allowed.{where_true_parts}
use Rattle.cyp_kernel.proofs.BodyRuns.{same_post}
use Rattle.cyp_kernel.proofs.ChunkOrder.{AllHold, place_out, put_all_holds}
use Rattle.cyp_kernel.proofs.ClauseAgrees.{guard_at}
use Rattle.cyp_kernel.proofs.ForgetVars.{among_from_in, met_by_others}
use Rattle.cyp_kernel.proofs.GoalFacts.{true_join}
use Rattle.cyp_kernel.proofs.GuardTests.{GoesRight, choose_right}
use Rattle.cyp_kernel.proofs.NewNumber.{old_parts}
use Rattle.cyp_kernel.proofs.OldVars.{IsOld, old_vars}
use Rattle.cyp_kernel.proofs.Opened.{number_old, opened, opened_old}
use Rattle.cyp_kernel.proofs.OpenedSmall.{SmallCards, get_small, opened_small}
use Rattle.cyp_kernel.proofs.OpenedHolds.{card_there, entry_holds}
use Rattle.cyp_kernel.proofs.SteadyParts.{chunk_sorted_at, chunk_vars_among, pre_chunk_fits, sorted_goal}
use Rattle.cyp_kernel.specs.Meets.{BodyMeets}
use Rattle.cyp_kernel.specs.Naming.{Names}
use Rattle.cyp_kernel.specs.RuleLaws.{AllMeet, RuleLaw}
use Rattle.cyp_kernel.specs.Statements.{choose, guards}
use Rattle.cyp_kernel.specs.Steady.{IsSteady}
use Rattle.cyp_pred.specs.Unfold.{clauses_of, int_args, set_args, unfold_clause, unfold_inst}
use Rattle.cyp_pred.specs.declared.unfolded.Next.{Next}
use Rattle.cyp_pred.specs.declared.unfolded.Unfolded.{Unfolded}
use Rattle.cyp_prog.specs.Programs.{Body, Procedure}
use Rattle.cyp_step.specs.Changes.{next_of, pre_of}
use Rattle.cyp_step.specs.Unfolding.{is_testable, open_link, open_premise, raw_open}
use Rattle.cyp_step.specs.declared.rule.Rule.TheVariants.{ByOpen}
use Rattle.cyp_term.proofs.Lists.{Among, Among-right, each_at, each_from, flat_in, flat_out}
use Rattle.cyp_term.specs.Terms.{sort_eq}
use Rattle.cyp_term.specs.declared.term.Sort.TheVariants.{Card}
use Rattle.cyp_term.specs.Meaning.{Assignment, Truth}
use Rattle.cyp_term.specs.declared.lit.Lit.{Lit}
use Rattle.cyp_term.specs.declared.term.Var.{Var}

-- ---- lists

pub without_among : {A : Type 0} (x : A) (xs : List A) (i : ℕ) → Among x (without xs i) → Among x xs
without_among x [] i h = absurd h
without_among x (y ∷ xs) zero h = inr h
without_among x (y ∷ xs) (suc i) (inl e) = inl e
without_among x (y ∷ xs) (suc i) (inr h) = inr (without_among x xs i h)

pub map_at : {A B : Type 0} (f : A → B) (xs : List A) (k : ℕ) (x : A) → slice_get xs k ≡ Some x → slice_get (map f xs) k ≡ Some (f x)
map_at f [] k x e = absurd (none-some x e)
map_at f (y ∷ xs) zero x e = ap (λ z. Some (f z)) (same_Some y x e)
map_at f (y ∷ xs) (suc k) x e = map_at f xs k x e

pub map_out : {A B : Type 0} (f : A → B) (xs : List A) (k : ℕ) (y : B) → slice_get (map f xs) k ≡ Some y → (x : A) × (slice_get xs k ≡ Some x) × (y ≡ f x)
map_out f [] k y e = absurd (none-some y e)
map_out f (x ∷ xs) zero y e = (x, refl, sym (same_Some (f x) y e))
map_out f (x ∷ xs) (suc k) y e = map_out f xs k y e

pub all_mapped : {A B : Type 0} (f : A → B) (p : B → Bool) (xs : List A) → list_all (λ x. p (f x)) xs ≡ true → list_all p (map f xs) ≡ true
all_mapped f p [] h = refl
all_mapped f p (x ∷ xs) h = let both = and_parts (p (f x)) (list_all (λ y. p (f y)) xs) h in and_from (p (f x)) (list_all p (map f xs)) both.0 (all_mapped f p xs both.1)

-- the premise at a place and its body
meets_at : (ps : List Procedure) (names : Names) (k : ℕ) (ms : List Node) (bs : List Body) (i : ℕ) (m : Node) → AllMeet ps names k ms bs → slice_get ms i ≡ Some m
    → (b : Body) × (slice_get bs i ≡ Some b) × BodyMeets ps m.preds m.goal names k b
meets_at ps names k [] bs i m a e = absurd (none-some m e)
meets_at ps names k (x ∷ ms) [] i m a e = absurd a
meets_at ps names k (x ∷ ms) (b ∷ bs) zero m a e = (b, refl, subst (λ (y : Node). BodyMeets ps y.preds y.goal names k b) (same_Some x m e) a.0)
meets_at ps names k (x ∷ ms) (b ∷ bs) (suc i) m a e = meets_at ps names k ms bs i m a.1 e

abbrev pub guard_of : Unfolded → Lit
guard_of u = u.guard

abbrev pub premise_of : Node → ℕ → InstOf → Unfolded → Node
premise_of n i j = open_premise n i (open_link n i j)

pub open_parts : (n : Node) (i : ℕ) (o : Option Chunk) (ms : List Node) → raw_open n i o ≡ Some ms
    → (j : InstOf) × (o ≡ Some (Inst j)) × (list_all (λ (u : Unfolded). is_testable n.goal u.guard) (unfold_inst n.preds j (next_of n)) ≡ true)
    × (ms ≡ map (premise_of n i j) (unfold_inst n.preds j (next_of n)))
open_parts n i (Some (Inst j)) ms is =
    let a = where_true_parts _ _ ms is in
    (j, refl, (and_parts _ _ a.0).1, sym (same_Some _ ms a.1))
open_parts n i o ms is = cc

-- the node with its instance, and a heap of its precondition
module _ (n : Node) (steady : IsSteady n) (formed : IsFormedPreds n.preds) (i : ℕ) (j : InstOf) (at : slice_get (pre_of n) i ≡ Some (Inst j)) (s : Assignment) (h : Store) (ns : List ℕ)
    (pre : SideHolds n.preds s n.goal.pure_pre n.goal.pre.chunks h ns) where
  abbrev pub inst : Instances
  inst = InstanceHolds n.preds

  abbrev pub next : Next
  next = next_of n

  -- what the instance's heap and the clause that holds there give
  pub record OpenedNode : Type 0 where
    pub pred : Pred
    pub pred_is : slice_get n.preds.list j.pred ≡ Some pred
    pub place : ℕ
    pub clause : Clause
    pub clause_is : slice_get pred.clauses place ≡ Some clause
    -- its guard is true, and no other is
    pub guard : Truth s (unfold_clause j next clause).guard
    pub alone : (k : ℕ) (d : Clause) → slice_get pred.clauses k ≡ Some d → Truth s (unfold_clause j next d).guard → k ≡ place
    -- values for which the premise's precondition holds, and with which the old variables keep theirs
    pub values : Assignment
    pub numbers : (v : Var) → IsOld next v → s.number v ≡ values.number v
    pub kept : EachPart (AgreeAt s values) n
    pub heights : List ℕ
    -- where the cardinalities are small before, so are they after
    pub small : (z : ℕ) → SmallCards z s → SmallCards z values
    pub holds : SideHolds n.preds values (n.goal.pure_pre ++ ((unfold_clause j next clause).guard ∷ (unfold_clause j next clause).lits))
        (put_all (without (pre_of n) i) (unfold_clause j next clause).heap.chunks) h heights

  below : (a b m k z : ℕ) → a ≤ b → m ≡ b → pos k ≡ pos m → k ≤ z → a ≤ z
  below a b m k z p q e l = most a b m k z p q (same k m e) l
    where
      same : (k m : ℕ) → pos k ≡ pos m → k ≡ m
      same k m e = cc

      most : (a b m k z : ℕ) → a ≤ b → m ≡ b → k ≡ m → k ≤ z → a ≤ z
      most a b m k z p q r l = omega arith

  pub opened_node : OpenedNode
  opened_node =
      let sorted = sorted_goal n steady in
      let fit = pre_chunk_fits n steady i (Inst j) at in
      let out = place_out inst s (pre_of n) i (Inst j) h at (ns, pre.1, pre.2) in
      let m : ℕ = out.one.0 in
      let held = out.one.1 in
      let q : Pred = held.0 in
      let clause = held.2 in
      let k : ℕ = clause.0 in
      let c : Clause = clause.1 in
      let w : Assignment = clause.2 in
      let hs : List ℕ = clause.3 in
      let t : Assignment = opened next (length (int_args j.args)) (length (set_args j.args)) hs s w in
      let old : EachPart (IsOld next) n = old_parts n in
      let olds : (v : Var) → IsOld next v → s.number v ≡ t.number v = number_old next (length (int_args j.args)) (length (set_args j.args)) hs s w in
      let keeps : (v : Var) → IsOld next v → AgreeAt s t v = opened_old next (length (int_args j.args)) (length (set_args j.args)) hs s w in
      let parts : EachPart (AgreeAt s t) n = each_part (AgreeAt s t) n (λ v x. keeps v (old_vars n v x)) in
      let kept_args : SameArgValues (map (arg_value s) j.args) (map (arg_value t) j.args) =
      (same_by_vars s t (Inst j) (chunk_sorted_at (pre_of n) i (Inst j) at sorted.pre) (λ v x. parts.pre v (chunk_vars_among (pre_of n) i (Inst j) at v x))).1 in
      let card = card_there j.card fit.1 in
      let card_old : IsOld next card.0 =
      old.pre card.0 (chunk_vars_among (pre_of n) i (Inst j) at card.0 (Among-right card.0 (flat_map arg_vars j.args) (card_vars j.card)
      (subst (λ (o : Option Var). Among card.0 (card_vars o)) (sym card.1) (inl refl)))) in
      let card_value : t.number card.0 ≡ pos m = sym (olds card.0 card_old) ∙ subst (λ (o : Option Var). CardIs s o m) card.1 out.one.2 in
      let entry = entry_holds n.preds formed j next q held.1 fit.0 s w clause.5 k c clause.4 hs out.part m card.0 card.1 card_value kept_args clause.6 clause.7 clause.8 clause.9 in
      let rest : AllHold inst t (without (pre_of n) i) out.rest =
      let side =
      side_by_vars s t n.preds [] (without (pre_of n) i) out.rest out.others.0 refl
      (each_from chunk_sorted (without (pre_of n) i) (λ x y. each_at chunk_sorted x (pre_of n) sorted.pre (without_among x (pre_of n) i y)))
      (λ v x. absurd x)
      (λ v x. let f = flat_out chunk_vars v (without (pre_of n) i) x in parts.pre v (flat_in chunk_vars v f.0 (pre_of n) (without_among f.0 (pre_of n) i f.1) f.2))
      (tt, out.others.1, out.others.2) in
      (out.others.0, side.1, side.2) in
      let whole = put_all_holds inst t (without (pre_of n) i) (unfold_clause j next c).heap.chunks h out.part out.rest out.union entry.chunks rest in
      record {
        pred = q;
        pred_is = held.1;
        place = k;
        clause = c;
        clause_is = clause.4;
        guard = (guard_at n.preds formed j next q held.1 fit.0 s w clause.5 k c clause.4).1 clause.6;
        alone = λ k' d e x. guards_law n.preds formed j.pred k' k q d c w held.1 e clause.4 ((guard_at n.preds formed j next q held.1 fit.0 s w clause.5 k' d e).0 x) clause.6;
        values = t;
        numbers = olds;
        kept = parts;
        heights = whole.0;
        small = λ z cards.
            let is_card : sort_eq card.0.sort Card ≡ true = subst (λ (o : Option Var). is_card_var o ≡ true) card.1 fit.1 in
            let known = cards card.0 is_card in
            opened_small next (length (int_args j.args)) (length (set_args j.args)) hs s w z cards
            (λ d. below (get_or hs d 0) (height_above hs) m known.0 z (get_small hs d) clause.9 (sym known.1 ∙ subst (λ (o : Option Var). CardIs s o m) card.1 out.one.2) known.2);
        holds = (
          true_join t n.goal.pure_pre ((unfold_clause j next c).guard ∷ (unfold_clause j next c).lits) (lits_by_vars s t n.goal.pure_pre sorted.pure_pre parts.pure_pre pre.0) entry.lits,
          whole.1,
          whole.2,
        );
      }

pub by_open : (i : ℕ) → RuleLaw (ByOpen i)
by_open i ps n ms bs names procs new k steady formed naming is callees all s h ns vs pre named =
    let w = open_parts n i (slice_get (pre_of n) i) ms is in
    let j : InstOf = w.0 in
    let next : Next = next_of n in
    let o = opened_node n steady formed i j w.1 s h ns pre in
    let u : Unfolded = unfold_clause j next o.clause in
    let entries : List Unfolded = map (unfold_clause j next) o.pred.clauses in
    let listed : unfold_inst n.preds j next ≡ entries = ap (λ (x : Option Pred). map (unfold_clause j next) (clauses_of x)) o.pred_is in
    let entry_is : slice_get entries o.place ≡ Some u = map_at (unfold_clause j next) o.pred.clauses o.place o.clause o.clause_is in
    let all' : AllMeet ps names k (map (premise_of n i j) entries) bs = subst (λ (xs : List Node). AllMeet ps names k xs bs) (w.3 ∙ ap (map (premise_of n i j)) listed) all in
    let met = meets_at ps names k (map (premise_of n i j) entries) bs o.place (premise_of n i j u) all' (map_at (premise_of n i j) entries o.place u entry_is) in
    let tests : list_all (is_testable n.goal) (map guard_of entries) ≡ true =
    all_mapped guard_of (is_testable n.goal) entries (subst (λ (xs : List Unfolded). list_all (λ (x : Unfolded). is_testable n.goal x.guard) xs ≡ true) listed w.2) in
    let sorted = sorted_goal n steady in
    let old : EachPart (IsOld next) n = old_parts n in
    let right : GoesRight ps n.preds n.goal s h vs k met.0 =
    λ m t le r. same_post n.preds (premise_of n i j u).goal n.goal o.values s t
    (met_by_others n.preds n.goal s o.values t.store sorted.pure_post sorted.post o.kept.pure_post o.kept.post)
    (met.2 o.values h o.heights vs o.holds (λ v e. named v e ∙ o.numbers v (old.program v (among_from_in v n.goal.program e))) m t le r) in
    let chosen : GoesRight ps n.preds n.goal s h vs k (choose names (map guard_of entries) bs) =
    choose_right ps n.preds n.goal names s h vs k named (map guard_of entries) bs o.place u.guard met.0 tests (map_at guard_of entries o.place u entry_is) met.1 o.guard
    (λ p l e x.
    let a = map_out guard_of entries p l e in
    let b = map_out (unfold_clause j next) o.pred.clauses p a.0 a.1 in
    o.alone p b.0 b.1 (subst (λ (y : Lit). Truth s y) (a.2 ∙ ap guard_of b.2) x)) right in
    subst (λ (gs : List Lit). GoesRight ps n.preds n.goal s h vs k (choose names gs bs)) (sym (ap (guards n) w.1 ∙ ap (map guard_of) listed)) chosen
