-- Close is sound: where the clause's unfolding is left, the focus is left.
use Rattle.std.proofs.Common.{◌≡◌, refl, sym, ◌∙◌, ℕ, zero, suc, ◌<◌, ◌≤◌, ◌-◌, inl, inr, Bool, true, false, List, [], ◌∷◌, ◌++◌, map, Option, Some, arith, subst}
use Rattle.std.specs.Prelude.{slice_get}
use Rattle.std.specs.List.{list_all}
use Rattle.std.proofs.lemmas.Bool.{false_from_ne_true, or_from}
use Rattle.std.proofs.lemmas.List.Folds.{list_any-append}
use Rattle.cyp_goal.proofs.EachVar.{Each, EachPart}
use Rattle.cyp_heap.specs.Assertions.{SideHolds}
use Rattle.cyp_heap.specs.Chunks.{chunks_vars, put_all, without}
use Rattle.cyp_heap.specs.Instances.{ChunksHold, InstanceHolds, Instances, arg_value, height_above}
use Rattle.cyp_heap.specs.Stores.{Store}
use Rattle.cyp_heap.specs.declared.chunk.Chunk.{Chunk}
use Rattle.cyp_heap.specs.declared.chunk.Chunk.TheVariants.{Inst}
use Rattle.cyp_heap.specs.declared.chunk.InstOf.{InstOf}
use Rattle.cyp_heap.specs.declared.goal.Goal.{Goal}
use Rattle.cyp_heap.specs.declared.goal.Node.{Node}
use Rattle.cyp_heap.specs.declared.pred.Preds.{Preds}
use Rattle.cyp_kernel.proofs.AgreeVars.{chunk_sorted, lit_sorted, side_by_vars}
use Rattle.cyp_kernel.proofs.Allowed.{mapped_some, where_true_parts}
use Rattle.cyp_kernel.proofs.BodyRuns.{one_premise, same_post}
use Rattle.cyp_kernel.proofs.ChunkOrder.{AllHold, first_holds, put_all_out}
use Rattle.cyp_kernel.proofs.Folded.{clause_of_entry, folds}
use Rattle.cyp_kernel.proofs.ForgetVars.{agree_sym, agree_trans, among_from_in, mixed, mixed_at, mixed_out}
use Rattle.cyp_kernel.proofs.GoalFacts.{true_left, true_right}
use Rattle.cyp_kernel.proofs.NewNumber.{old_parts}
use Rattle.cyp_kernel.proofs.OldVars.{IsOld, next_at}
use Rattle.cyp_kernel.proofs.RuleFrame.{head_out, no_card}
use Rattle.cyp_kernel.proofs.SteadyParts.{post_chunk_fits, sorted_goal}
use Rattle.cyp_kernel.specs.Correct.{AgreeBeside, AgreeBy, MeetsPost}
use Rattle.cyp_kernel.specs.RuleLaws.{AllMeet, RuleLaw}
use Rattle.cyp_kernel.specs.Steady.{IsSteady}
use Rattle.cyp_pred.specs.Unfold.{count_from, new_ints, new_sets, unfold_clause, unfold_inst}
use Rattle.cyp_pred.specs.declared.unfolded.Next.{Next}
use Rattle.cyp_pred.specs.declared.unfolded.Unfolded.{Unfolded}
use Rattle.cyp_step.specs.Changes.{add_post, next_of, post_of}
use Rattle.cyp_step.specs.Unfolding.{raw_close}
use Rattle.cyp_step.specs.declared.rule.Rule.TheVariants.{ByClose}
use Rattle.cyp_term.proofs.Lists.{Among, map_from}
use Rattle.cyp_term.specs.Meaning.{AllTrue, Assignment, Truth}
use Rattle.cyp_term.specs.Terms.{lits_vars, var_eq, var_in}
use Rattle.cyp_term.specs.declared.term.Sort.{Sort}
use Rattle.cyp_term.specs.declared.term.Sort.TheVariants.{Int, Set}
use Rattle.cyp_term.specs.declared.term.Var.{Var}
use Rattle.cyp_unify.specs.Frames.{focus}

-- ---- the clause's own variables are new

pub from_first : (j a m : ℕ) → Among j (count_from a m) → a ≤ j
from_first j a zero h = absurd h
from_first j a (suc m) (inl e) = same j a e
  where
    same : (j a : ℕ) → j ≡ a → a ≤ j
    same j a e = omega arith
from_first j a (suc m) (inr h) = less j a (from_first j (suc a) m h)
  where
    less : (j a : ℕ) → suc a ≤ j → a ≤ j
    less j a l = omega arith

module _ (x : Next) (o : Sort) where
  -- variables of the sort, numbered from the first new one on
  abbrev pub numbered : ℕ → List Var
  numbered m = map (λ j. record { sort = o; number = j }) (count_from (next_at x o) m)

  pub not_numbered : (v : Var) → IsOld x v → (m : ℕ) → var_in v (numbered m) ≡ false
  not_numbered v h m = false_from_ne_true (var_in v (numbered m)) (λ e.
      let r = map_from (λ j. record { sort = o; number = j }) v (count_from (next_at x o) m) (among_from_in v (numbered m) e) in
      apart r.0 (next_at x o) (subst (λ (w : Var). IsOld x w) r.2 h) (from_first r.0 (next_at x o) m r.1))
    where
      apart : (j a : ℕ) → j < a → a ≤ j → ⊥
      apart j a l m = omega arith

-- a postcondition met with more existentials, which are new, is met with those that there were
fewer_exist : (preds : Preds) (g : Goal) (s t : Assignment) (own : List Var) (h : Store) (ns : List ℕ) → list_all lit_sorted g.pure_post ≡ true → list_all chunk_sorted g.post.chunks ≡ true
    → Each (λ v. var_in v own ≡ false) (lits_vars g.pure_post) → Each (λ v. var_in v own ≡ false) (chunks_vars g.post.chunks)
    → AgreeBeside (g.exist ++ own) s t → SideHolds preds t g.pure_post g.post.chunks h ns → MeetsPost preds g s h
fewer_exist preds g s t own h ns lits chunks a b beside k =
    let u : Assignment = mixed g.exist s t in (
      u,
      ns,
      (λ v out. mixed_out g.exist s t v.sort v out),
      side_by_vars t u preds g.pure_post g.post.chunks h ns lits chunks (λ v m. kept v (var_in v g.exist) refl (a v m)) (λ v m. kept v (var_in v g.exist) refl (b v m)) k,
    )
  where
    kept : (v : Var) (o : Bool) → var_in v g.exist ≡ o → var_in v own ≡ false → AgreeBy v.sort t (mixed g.exist s t) v
    kept v true e new = mixed_at g.exist s t v (among_from_in v g.exist e)
    kept v false e new =
        agree_trans v.sort t s (mixed g.exist s t) v
        (agree_sym v.sort s t v (beside v (list_any-append (var_eq v) g.exist own ∙ or_from (var_in v g.exist) (var_in v own) e new)))
        (mixed_out g.exist s t v.sort v e)

abbrev pub own_vars : Next → Unfolded → List Var
own_vars next u = new_ints next.ints (u.next.ints - next.ints) ++ new_sets next.sets (u.next.sets - next.sets)

abbrev pub closed_node : Node → Unfolded → Node
closed_node n u =
    let m : Node = add_post n (u.guard ∷ u.lits) (put_all (without (post_of n) 0) u.heap.chunks) in
    record m { goal = record m.goal { exist = n.goal.exist ++ own_vars (next_of n) u } }

pub close_parts : (n : Node) (k : ℕ) (o : Option Chunk) (ms : List Node) → raw_close n k o ≡ Some ms
    → (j : InstOf) × (o ≡ Some (Inst j)) × (u : Unfolded) × (slice_get (unfold_inst n.preds j (next_of n)) k ≡ Some u) × (ms ≡ closed_node n u ∷ [])
close_parts n k (Some (Inst j)) ms is =
    let a = where_true_parts _ _ ms is in
    let b = mapped_some (λ (u : Unfolded). closed_node n u ∷ []) _ ms a.1 in
    (j, refl, b.0, b.1, sym b.2)
close_parts n k o ms is = cc

pub own_apart : (n : Node) (u : Unfolded) (v : Var) → IsOld (next_of n) v → var_in v (own_vars (next_of n) u) ≡ false
own_apart n u v h =
    let next : Next = next_of n in
    list_any-append (var_eq v) (new_ints next.ints (u.next.ints - next.ints)) (new_sets next.sets (u.next.sets - next.sets))
    ∙ or_from (var_in v (new_ints next.ints (u.next.ints - next.ints))) (var_in v (new_sets next.sets (u.next.sets - next.sets)))
    (not_numbered next Int v h (u.next.ints - next.ints)) (not_numbered next Set v h (u.next.sets - next.sets))

pub by_close : (k : ℕ) → RuleLaw (ByClose k)
by_close k' ps n ms bs names procs next k steady formed naming is callees all s h ns vs pre named m t le r =
    let w = close_parts n k' (focus n.goal) ms is in
    let j : InstOf = w.0 in
    let u : Unfolded = w.2 in
    let node : Node = closed_node n u in
    let premise = one_premise ps names k node bs (subst (λ (xs : List Node). AllMeet ps names k xs bs) w.4 all) in
    same_post n.preds node.goal n.goal s s t (closes n steady s j w.1 k' u w.3 t.store) (premise s h ns vs pre named m t le r)
  where
    closes : (n : Node) → IsSteady n → (s : Assignment) (j : InstOf) → focus n.goal ≡ Some (Inst j) → (k : ℕ) (u : Unfolded) → slice_get (unfold_inst n.preds j (next_of n)) k ≡ Some u
        → (g : Store) → MeetsPost n.preds (closed_node n u).goal s g → MeetsPost n.preds n.goal s g
    closes n steady s j f k u e g p =
        let inst : Instances = InstanceHolds n.preds in
        let c = clause_of_entry n.preds j (next_of n) k u e in
        let fits = post_chunk_fits n steady 0 (Inst j) f in
        let out = put_all_out inst p.0 (without (post_of n) 0) u.heap.chunks g (p.1, p.3.1, p.3.2) in
        let more = true_right p.0 n.goal.pure_post (u.guard ∷ u.lits) p.3.0 in
        let same : u ≡ unfold_clause j (next_of n) c.1 = c.4 in
        let holds : inst j.pred (map (arg_value p.0) j.args) out.part (height_above out.new.0) =
        folds n.preds j (next_of n) c.0 c.2 fits.0 p.0 k c.1 c.3 out.part out.new.0
        (subst (λ (x : Unfolded). Truth p.0 x.guard) same more.0)
        (subst (λ (x : Unfolded). AllTrue p.0 x.lits) same more.1)
        (subst (λ (x : Unfolded). ChunksHold inst p.0 x.heap.chunks out.part out.new.0) same out.new.1) in
        let whole = first_holds inst p.0 (Inst j) (without (post_of n) 0) g out.part out.rest out.union (height_above out.new.0, holds, no_card p.0 j.card (height_above out.new.0) fits.1) out.old in
        let back : Inst j ∷ without (post_of n) 0 ≡ post_of n = head_out (post_of n) (Inst j) f in
        let post : AllHold inst p.0 (post_of n) g = subst (λ (cs : List Chunk). AllHold inst p.0 cs g) back whole in
        let sorted = sorted_goal n steady in
        let old : EachPart (IsOld (next_of n)) n = old_parts n in
        fewer_exist n.preds n.goal s p.0 (own_vars (next_of n) u) g post.0 sorted.pure_post sorted.post
        (λ v m. own_apart n u v (old.pure_post v m)) (λ v m. own_apart n u v (old.post v m)) p.2
        (true_left p.0 n.goal.pure_post (u.guard ∷ u.lits) p.3.0, post.1, post.2)
