-- The rule Call is sound.
use Rattle.std.proofs.Common.{◌≡◌, refl, sym, ap, ◌∙◌, ℕ, Bool, true, false, List, [], ◌∷◌, map, Option, Some, None, subst}
use Rattle.std.specs.Prelude.{slice_get, slice_index}
use Rattle.std.proofs.lemmas.Option.{none-some, same_Some}
use Rattle.cyp_goal.proofs.EachVar.{EachPart}
use Rattle.cyp_heap.specs.Assertions.{SideHolds}
use Rattle.cyp_heap.specs.Chunks.{insts, put_all}
use Rattle.cyp_heap.specs.Instances.{InstanceHolds, Instances}
use Rattle.cyp_heap.specs.Stores.{IsUnion, Store}
use Rattle.cyp_heap.specs.declared.goal.Link.{Link}
use Rattle.cyp_heap.specs.declared.goal.Node.{Node}
use Rattle.cyp_kernel.proofs.AgreeVars.{AgreeAt}
use Rattle.cyp_kernel.proofs.Allowed.{taken_some}
use Rattle.cyp_kernel.proofs.BodyRuns.{one_premise, same_post}
use Rattle.cyp_kernel.proofs.CallEnd.{after_holds, left, parts_kept, program_kept, values}
use Rattle.cyp_kernel.proofs.CallRuns.{call_right}
use Rattle.cyp_kernel.proofs.CallStart.{Callable, args_passed, call_start, call_stores, callable, callee_values, stores_writable}
use Rattle.cyp_kernel.proofs.ChunkOrder.{AllHold}
use Rattle.cyp_kernel.proofs.ForgetVars.{met_by_others}
use Rattle.cyp_kernel.proofs.FoundImages.{ExistFree}
use Rattle.cyp_kernel.proofs.FoundMatch.{found}
use Rattle.cyp_kernel.proofs.GuardTests.{GoesRight}
use Rattle.cyp_kernel.proofs.SteadyParts.{sorted_goal}
use Rattle.cyp_kernel.proofs.StoreRuns.{stores_right}
use Rattle.cyp_kernel.specs.CallLaw.{CallLaw}
use Rattle.cyp_kernel.specs.Correct.{MeetsPost, unlinked}
use Rattle.cyp_kernel.specs.Meets.{AreNamed, BodyMeets, ProcedureMeets}
use Rattle.cyp_kernel.specs.Naming.{Names, expr_of}
use Rattle.cyp_kernel.specs.RuleLaws.{AllMeet}
use Rattle.cyp_kernel.specs.Statements.{first_body, in_cell_order, kept_mends, linked_call, matched_call, stores}
use Rattle.cyp_kernel.specs.Steady.{IsSteady}
use Rattle.cyp_machine.specs.Values.{Values}
use Rattle.cyp_prog.specs.Programs.{Body, Invoking, Procedure, Then}
use Rattle.cyp_prog.specs.declared.stmt.Expr.{Expr}
use Rattle.cyp_step.specs.Calling.{after_call, chunks_at, chunks_beside, is_callable, next_tag, raw_call}
use Rattle.cyp_step.specs.Changes.{pre_of}
use Rattle.cyp_step.specs.declared.rule.CallBy.{CallBy}
use Rattle.cyp_term.specs.Meaning.{Assignment}
use Rattle.cyp_term.specs.Terms.{apply_term, var_term}
use Rattle.cyp_unify.specs.Matches.{match_at}
use Rattle.cyp_unify.specs.declared.found.Match.{Match}
use Rattle.cyp_unify.specs.declared.found.Mend.{Mend}

-- ---- the rule's tests

-- the companion, its match and the premise
pub record Called (n : Node) (ks : List ℕ) (o : Option Link) (ms : List Node) : Type 0 where
  pub link : Link
  pub link_is : o ≡ Some link
  pub found_match : Match
  pub match_is : match_at n link ks ≡ Some found_match
  pub passes : is_callable n link found_match ≡ true
  pub premises : ms ≡ after_call n link found_match ∷ []

allowed : (b : Bool) (x ms : List Node) → ◌≡◌ {A = Option (List Node)} (elim b [ false ↦ None | true ↦ Some x ]) (Some ms) → (b ≡ true) × (ms ≡ x)
allowed true x ms e = (refl, sym (same_Some x ms e))
allowed false x ms e = absurd (none-some ms e)

pub called : (n : Node) (ks : List ℕ) (o : Option Link) (ms : List Node) → raw_call n ks o ≡ Some ms → Called n ks o ms
called n ks None ms e = absurd (none-some ms e)
called n ks (Some l) ms e =
    let a = taken_some (match_at n l ks) _ ms e in
    let b = allowed (is_callable n l a.0) (after_call n l a.0 ∷ []) ms a.2 in
    record { link = l; link_is = refl; found_match = a.0; match_is = a.1; passes = b.0; premises = b.1 }

-- ---- the statements

module _ (ps : List Procedure) (n : Node) (steady : IsSteady n) (i : ℕ) (l : Link) (at : slice_get n.links i ≡ Some l) (inner : IsSteady (unlinked n.preds l.goal))
    (free : ExistFree l.map l.goal.exist ≡ true) (ks : List ℕ) (f : Match) (match : match_at n l ks ≡ Some f) (calls : Callable n l f)
    (names : Names) (p k : ℕ) (works : ProcedureMeets ps n.preds l.goal p k) (b : Body) (premise : BodyMeets ps n.preds (after_call n l f).goal names k b)
    (s : Assignment) (h : Store) (ns : List ℕ) (vs : Values) (pre : SideHolds n.preds s n.goal.pure_pre n.goal.pre.chunks h ns) (named : AreNamed names vs s n.goal.program) where
  abbrev pub inst : Instances
  inst = InstanceHolds n.preds

  abbrev pub u : Assignment
  u = callee_values n steady l inner ks f match calls s h ns pre

  abbrev pub made : List Mend
  made = call_stores n steady l inner ks f match calls s h ns pre

  abbrev pub args : List Expr
  args = map (λ v. expr_of names (apply_term f.by (var_term v))) l.goal.program

  -- what follows the call goes right
  follows : (rest : Store) → AllHold inst s (chunks_beside 0 ks (pre_of n)) rest → (g large : Store) → MeetsPost n.preds l.goal u g → IsUnion large g rest
      → GoesRight ps n.preds n.goal s large vs k b
  follows rest others g large post union m t le r =
      let ms : List ℕ = post.1 in
      let w : Assignment = values n steady i l at inner free ks f match s post.0 ms post.2 in
      let tag : ℕ = next_tag (insts (chunks_at (pre_of n) f.pairs)) in
      let side = after_holds n steady i l at inner free ks f match s post.0 ms post.2 tag g large rest post.3 others union pre.0 in
      let kept : EachPart (AgreeAt s w) n = parts_kept n steady i l at inner free ks f match s post.0 ms post.2 in
      let pairs : f.pairs ≡ ks = (found n l ks f match).pairs_are in
      let side' : SideHolds n.preds w (after_call n l f).goal.pure_pre (after_call n l f).goal.pre.chunks large side.0 =
      subst (λ (xs : List ℕ). SideHolds n.preds w (after_call n l f).goal.pure_pre (put_all (chunks_beside 0 xs (pre_of n)) (left n steady i l at inner free ks f match s post.0 ms post.2 tag)) large side.0) (sym pairs) side.1 in
      let sorted = sorted_goal n steady in
      same_post n.preds (after_call n l f).goal n.goal w s t (met_by_others n.preds n.goal s w t.store sorted.pure_post sorted.post kept.pure_post kept.post)
      (premise w large side.0 vs side' (λ v e. named v e ∙ program_kept n steady i l at inner free ks f match s post.0 ms post.2 v e) m t le r)

  goes_right : GoesRight ps n.preds n.goal s h vs k (stores n names made (Then (Invoking p args) b))
  goes_right =
      stores_right inst ps n n.goal names s vs k (Then (Invoking p args) b) named made (stores_writable n steady l inner ks f match calls s h ns pre) (pre_of n) h (λ j. refl) (ns, pre.1, pre.2)
      (λ large all.
      let st = call_start n steady l inner ks f match calls s h ns pre large all in
      call_right ps p n.preds l.goal u large st.part st.rest st.union k (λ m t le r. works u st.part st.heights st.holds m t le r) n.goal s vs args b
      (args_passed n steady l inner ks f match calls s h ns pre names vs named) (follows st.rest st.others))

pub by_call : (c : CallBy) → CallLaw c
by_call c ps n ms bs names procs new k steady links formed naming is callees all s h ns vs pre named =
    let o = called n c.pairs (slice_get n.links c.link) ms is in
    let l : Link = o.link in
    let f : Match = o.found_match in
    let b : Body = first_body bs in
    let calls = callable n l f o.passes in
    let premise = one_premise ps names k (after_call n l f) bs (subst (λ (xs : List Node). AllMeet ps names k xs bs) o.premises all) in
    let right = goes_right ps n steady c.link l o.link_is (links.goals c.link l o.link_is) (links.exist_free c.link l o.link_is) c.pairs f o.match_is calls names (slice_index procs c.link) k
    (callees l o.link_is) b premise s h ns vs pre named in
    subst (λ (x : Body). GoesRight ps n.preds n.goal s h vs k x)
    (sym (ap (linked_call n names procs c b) o.link_is ∙ ap (matched_call n names procs c b l) o.match_is
    ∙ ap (λ (x : Option (List Mend)). stores n names (in_cell_order (kept_mends x)) (Then (Invoking (slice_index procs c.link) (map (λ v. expr_of names (apply_term f.by (var_term v))) l.goal.program)) b)) calls.writes))
    right
