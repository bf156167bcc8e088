-- What each rule owes for the bound, before the normal form and through it.
use Rattle.cyp_goal.specs.Normal.{Renaming}
use Rattle.cyp_heap.specs.Assertions.{SideHolds}
use Rattle.cyp_heap.specs.PredsFormed.{IsFormedPreds}
use Rattle.cyp_heap.specs.Stores.{Store}
use Rattle.cyp_heap.specs.declared.goal.Node.{Node}
use Rattle.cyp_kernel.specs.Compile.{renamed_names, with_new_name}
use Rattle.cyp_kernel.specs.Meets.{AreNamed, IsNaming}
use Rattle.cyp_kernel.specs.Naming.{Names}
use Rattle.cyp_kernel.specs.NormalRules.{AllMeetRenamed}
use Rattle.cyp_kernel.specs.RuleLaws.{CalleeMeets, AllMeet}
use Rattle.cyp_kernel.specs.Statements.{rule_body}
use Rattle.cyp_kernel.specs.SteadyLaws.{IsSteadyNode}
use Rattle.cyp_machine.specs.States.{start}
use Rattle.cyp_machine.specs.Values.{Values}
use Rattle.cyp_prog.specs.Programs.{Body, Procedure}
use Rattle.cyp_sound.proofs.Time.KeepsTime.{AtPlace, BodyKeepsTime, KeepsTime, ProcedureKeepsTime}
use Rattle.cyp_sound.proofs.Time.KnownCompanions.{links_after}
use Rattle.cyp_sound.proofs.Time.Measures.{Companion, companions_of}
use Rattle.cyp_sound.proofs.Time.Plain.{IsPlain}
use Rattle.cyp_step.specs.Step.{renamed_premises, raws}
use Rattle.cyp_step.specs.declared.rule.Rule.{Rule}
use Rattle.cyp_step.specs.declared.rule.Rule.TheVariants.{ByCall}
use Rattle.cyp_term.specs.Meaning.{Assignment}
use Rattle.std.specs.Prelude.{[], List, Some, slice_get, slice_index, ℕ, ◌∷◌, ◌≡◌}

-- the procedure of the companion that the rule calls keeps to its time in runs of fewer than k steps
abbrev pub CalleeKeepsTime : List Procedure → Node → List ℕ → ℕ → Rule → Type 0
CalleeKeepsTime ps n procs k (ByCall c) =
    (x : Companion) → slice_get (companions_of n.links) c.link ≡ Some x → ProcedureKeepsTime ps n.preds x (slice_index procs c.link) k
CalleeKeepsTime ps n procs k r = Unit {0}

-- each body keeps to its time at its premise
abbrev pub AllKeepTime : List Procedure → Names → ℕ → List ℕ → List Renaming → List Body → Type 0
AllKeepTime ps names k start [] [] = Unit {0}
AllKeepTime ps names k start (r ∷ rs) (b ∷ bs) = BodyKeepsTime ps r.node (renamed_names names r) k start b × AllKeepTime ps names k start rs bs
AllKeepTime ps names k start _ _ = ⊥

-- where the bodies of a rule's premises keep to their time, and moreover meet their goals, so does the node's body
abbrev pub TimedRuleLaw : Rule → Type 0
TimedRuleLaw rule =
    (ps : List Procedure) (n : Node) (rs : List Renaming) (bs : List Body) (names : Names) (procs : List ℕ) (next k : ℕ) (start : List ℕ)
    → IsFormedPreds n.preds → IsSteadyNode n → IsPlain n → IsNaming names n.goal.program next → renamed_premises n rule ≡ Some rs
    → CalleeMeets ps n procs k rule → CalleeKeepsTime ps n procs k rule
    → AllMeetRenamed ps (with_new_name n rule next names) k rs bs → AllKeepTime ps (with_new_name n rule next names) k start rs bs
    → (s : Assignment) (h : Store) (ns : List ℕ) (vs : Values) (z : ℕ) → SideHolds n.preds s n.goal.pure_pre n.goal.pre.chunks h ns → AreNamed names vs s n.goal.program
    → AtPlace (links_after n rule) s h z start → KeepsTime ps k h vs (rule_body n names procs next rule bs) z start

-- each body keeps to its time at its node
abbrev pub AllKeepBefore : List Procedure → Names → ℕ → List ℕ → List Node → List Body → Type 0
AllKeepBefore ps names k start [] [] = Unit {0}
AllKeepBefore ps names k start (m ∷ ms) (b ∷ bs) = BodyKeepsTime ps m names k start b × AllKeepBefore ps names k start ms bs
AllKeepBefore ps names k start _ _ = ⊥

-- the time of a rule's body, where those of the premises before their normal forms keep to theirs
abbrev pub TimedRawLaw : Rule → Type 0
TimedRawLaw rule =
    (ps : List Procedure) (n : Node) (ms : List Node) (bs : List Body) (names : Names) (procs : List ℕ) (next k : ℕ) (start : List ℕ)
    → IsFormedPreds n.preds → IsSteadyNode n → IsPlain n → IsNaming names n.goal.program next → raws n rule ≡ Some ms
    → CalleeMeets ps n procs k rule → CalleeKeepsTime ps n procs k rule
    → AllMeet ps (with_new_name n rule next names) k ms bs → AllKeepBefore ps (with_new_name n rule next names) k start ms bs
    → (s : Assignment) (h : Store) (ns : List ℕ) (vs : Values) (z : ℕ) → SideHolds n.preds s n.goal.pure_pre n.goal.pre.chunks h ns → AreNamed names vs s n.goal.program
    → AtPlace (links_after n rule) s h z start → KeepsTime ps k h vs (rule_body n names procs next rule bs) z start
