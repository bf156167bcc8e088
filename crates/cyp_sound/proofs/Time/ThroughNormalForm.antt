-- A rule keeps to its time through the normal form where it does so before it.
use Rattle.cyp_goal.specs.Normal.{Renaming}
use Rattle.cyp_heap.specs.declared.goal.Link.{Link}
use Rattle.cyp_heap.specs.declared.goal.Node.{Node}
use Rattle.cyp_heap.specs.declared.pred.Preds.{Preds}
use Rattle.cyp_kernel.proofs.NormalEach.{Split, split}
use Rattle.cyp_kernel.proofs.NormalRules.{meet_before}
use Rattle.cyp_kernel.proofs.NormalSteady.{steady_is_ready}
use Rattle.cyp_kernel.proofs.SteadyRules.{leaves_steady}
use Rattle.cyp_kernel.specs.Compile.{with_new_name}
use Rattle.cyp_kernel.specs.Naming.{Names}
use Rattle.cyp_kernel.specs.SteadyLaws.{IsSteadyNode, IsSteadyRaw}
use Rattle.cyp_prog.specs.Programs.{Body, Procedure}
use Rattle.cyp_sound.proofs.Time.KnownCompanions.{links_are, links_after}
use Rattle.cyp_sound.proofs.Time.NormalForm.{normal_in_time}
use Rattle.cyp_sound.proofs.Time.OpenedMeasures.{bare_last, last_push, opened_bare}
use Rattle.cyp_sound.proofs.Time.OpenedPlaces.{links_are as opened_links, opens}
use Rattle.cyp_sound.proofs.Time.Plain.{IsPlain, is_bare_card}
use Rattle.cyp_sound.proofs.Time.RuleLaws.{AllKeepTime, TimedRuleLaw, AllKeepBefore, TimedRawLaw}
use Rattle.cyp_step.specs.Nodes.{IsOver}
use Rattle.cyp_step.specs.Step.{all_normal, raws}
use Rattle.cyp_step.specs.Unfolding.{last_tuple, open_link}
use Rattle.cyp_step.specs.declared.rule.Rule.{Rule}
use Rattle.cyp_step.specs.declared.rule.Rule.TheVariants.{ByOpen}
use Rattle.std.proofs.Common.{◌≡◌, sym, ap, ◌∙◌, ℕ, true, List, [], ◌∷◌, Some, subst}
use Rattle.std.proofs.lemmas.List.Elements.{recursion_from_All}
use Rattle.std.proofs.lemmas.Option.{option_and_then_some, same_Some}
use Rattle.std.specs.List.{AllByRecursion, list_all}

-- the last measure at a rule's premises is of cardinalities alone
pub bare_after : (n : Node) (r : Rule) (ms : List Node) → raws n r ≡ Some ms → IsSteadyNode n → IsPlain n → list_all is_bare_card (last_tuple (links_after n r)) ≡ true
bare_after n (ByOpen i) ms e steady plain =
    let o = opens n i ms e in
    ap (λ (ls : List Link). list_all is_bare_card (last_tuple ls)) (opened_links n i o) ∙ ap (list_all is_bare_card) (last_push n.links (open_link n i o.inst)) ∙ opened_bare n i o.inst o.at steady plain
bare_after n r ms e steady plain = bare_last n.links plain.links

keep_before : (ps : List Procedure) (names : Names) (k : ℕ) (start : List ℕ) (preds : Preds) (ls : List Link) → list_all is_bare_card (last_tuple ls) ≡ true → (ms : List Node) (rs : List Renaming) (bs : List Body)
    → AllByRecursion (IsOver preds IsSteadyRaw) ms → AllByRecursion (λ (m : Node). m.links ≡ ls) ms → all_normal ms ≡ Some rs → AllKeepTime ps names k start rs bs → AllKeepBefore ps names k start ms bs
keep_before ps names k start preds ls bare [] rs [] s l e h = tt
keep_before ps names k start preds ls bare [] rs (b ∷ bs) s l e h = subst (λ (xs : List Renaming). AllKeepTime ps names k start xs (b ∷ bs)) (sym (same_Some [] rs e)) h
keep_before ps names k start preds ls bare (m ∷ ms) rs [] s l e h =
    let d : Split m ms rs = split m ms rs e in
    subst (λ (xs : List Renaming). AllKeepTime ps names k start xs []) d.both h
keep_before ps names k start preds ls bare (m ∷ ms) rs (b ∷ bs) s l e h =
    let d : Split m ms rs = split m ms rs e in
    let both = subst (λ (xs : List Renaming). AllKeepTime ps names k start xs (b ∷ bs)) d.both h in (
      normal_in_time ps m d.first names k start b (steady_is_ready m s.0.fact.steady) (ap (λ (xs : List Link). list_all is_bare_card (last_tuple xs)) l.0 ∙ bare) d.first_is both.0,
      keep_before ps names k start preds ls bare ms d.others bs s.1 l.1 d.others_are both.1,
    )

pub through_time : (r : Rule) → TimedRawLaw r → TimedRuleLaw r
through_time r law ps n rs bs names procs next k start formed steady plain naming is callee timed safe all =
    option_and_then_some all_normal (raws n r) rs is (λ ms e d.
    let left = recursion_from_All (IsOver n.preds IsSteadyRaw) ms (leaves_steady n r ms formed steady e) in
    law ps n ms bs names procs next k start formed steady plain naming e callee timed (meet_before ps (with_new_name n r next names) k n.preds ms rs bs left d safe)
    (keep_before ps (with_new_name n r next names) k start n.preds (links_after n r) (bare_after n r ms e steady plain) ms rs bs left (links_are n r ms e) d all))
