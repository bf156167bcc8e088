-- A rule is sound through the normal form where it is so before it.
use Rattle.std.proofs.Common.{◌≡◌, ◌∷◌, ℕ, IfSome, List, [], Option, Some, sym, subst}
use Rattle.std.specs.List.{AllByRecursion}
use Rattle.std.proofs.lemmas.List.Elements.{recursion_from_All}
use Rattle.std.proofs.lemmas.Option.{option_and_then_some, same_Some}
use Rattle.cyp_goal.specs.Normal.{Renaming}
use Rattle.cyp_heap.specs.declared.goal.Link.{Link}
use Rattle.cyp_heap.specs.declared.goal.Node.{Node}
use Rattle.cyp_heap.specs.declared.pred.Preds.{Preds}
use Rattle.cyp_kernel.proofs.NormalBody.{normal_bodies}
use Rattle.cyp_kernel.proofs.NormalEach.{Split, split}
use Rattle.cyp_kernel.proofs.NormalSteady.{steady_is_ready}
use Rattle.cyp_kernel.proofs.RuleCall.{by_call}
use Rattle.cyp_kernel.proofs.SteadyRules.{leaves_steady}
use Rattle.cyp_kernel.specs.Compile.{with_new_name}
use Rattle.cyp_kernel.specs.Correct.{unlinked}
use Rattle.cyp_kernel.specs.Naming.{Names}
use Rattle.cyp_kernel.specs.NormalRules.{AllMeetRenamed, NodeRuleLaw, NormalRuleLaw}
use Rattle.cyp_kernel.specs.RuleLaws.{AllMeet, RuleLaw}
use Rattle.cyp_kernel.specs.Steady.{IsSteady}
use Rattle.cyp_kernel.specs.SteadyLaws.{IsSteadyNode, IsSteadyRaw}
use Rattle.cyp_kernel.specs.SteadyLinks.{HasFreeExist, HasSteadyLinks}
use Rattle.cyp_prog.specs.Programs.{Body, Procedure}
use Rattle.cyp_step.proofs.ChunkLists.{Every-slice_get}
use Rattle.cyp_step.specs.Nodes.{IsOver}
use Rattle.cyp_step.specs.Step.{all_normal, raws}
use Rattle.cyp_step.specs.declared.rule.CallBy.{CallBy}
use Rattle.cyp_step.specs.declared.rule.Rule.{Rule}
use Rattle.cyp_step.specs.declared.rule.Rule.TheVariants.{ByCall}

-- bodies that meet the goals of the normal forms meet those of the nodes
pub meet_before : (ps : List Procedure) (names : Names) (k : ℕ) (preds : Preds) (ms : List Node) (rs : List Renaming) (bs : List Body)
    → AllByRecursion (IsOver preds IsSteadyRaw) ms → all_normal ms ≡ Some rs → AllMeetRenamed ps names k rs bs → AllMeet ps names k ms bs
meet_before ps names k preds [] rs [] s e h = tt
meet_before ps names k preds [] rs (b ∷ bs) s e h = subst (λ (xs : List Renaming). AllMeetRenamed ps names k xs (b ∷ bs)) (sym (same_Some [] rs e)) h
meet_before ps names k preds (m ∷ ms) rs [] s e h =
    let d : Split m ms rs = split m ms rs e in
    subst (λ (xs : List Renaming). AllMeetRenamed ps names k xs []) d.both h
meet_before ps names k preds (m ∷ ms) rs (b ∷ bs) s e h =
    let d : Split m ms rs = split m ms rs e in
    let both = subst (λ (xs : List Renaming). AllMeetRenamed ps names k xs (b ∷ bs)) d.both h in (
      normal_bodies m d.first (steady_is_ready m s.0.fact.steady) d.first_is ps names k b both.0,
      meet_before ps names k preds ms d.others bs s.1 d.others_are both.1,
    )

-- a node of a derivation is as the rules ask
pub at_nodes : (rule : Rule) → RuleLaw rule → NodeRuleLaw rule
at_nodes rule law ps n ms bs names procs next k formed w naming e callee all = law ps n ms bs names procs next k w.raw.steady formed naming e callee all

pub through_node : (rule : Rule) → NodeRuleLaw rule → NormalRuleLaw rule
through_node rule law ps n rs bs names procs next k formed w naming is callee all =
    option_and_then_some all_normal (raws n rule) rs is (λ ms e d.
    law ps n ms bs names procs next k formed w naming e callee
    (meet_before ps (with_new_name n rule next names) k n.preds ms rs bs (recursion_from_All (IsOver n.preds IsSteadyRaw) ms (leaves_steady n rule ms formed w e)) d all))

pub through_normal : (rule : Rule) → RuleLaw rule → NormalRuleLaw rule
through_normal rule law = through_node rule (at_nodes rule law)

-- ---- a call

-- the companions of a node of a derivation are as a call asks
pub steady_links : (n : Node) → IsSteadyNode n → HasSteadyLinks n
steady_links n w = record {
  goals = λ i l e. subst (λ (o : Option Link). IfSome o (λ (k : Link). IsSteady (unlinked n.preds k.goal))) e (Every-slice_get (λ (k : Link). IsSteady (unlinked n.preds k.goal)) n.links i w.raw.companions);
  exist_free = λ i l e. subst (λ (o : Option Link). IfSome o HasFreeExist) e (Every-slice_get HasFreeExist n.links i w.free);
}

pub call_at_nodes : (c : CallBy) → NodeRuleLaw (ByCall c)
call_at_nodes c ps n ms bs names procs next k formed w naming e callee all =
    by_call c ps n ms bs names procs next k w.raw.steady (steady_links n w) formed naming e callee all
