use Rattle.std.proofs.Common.{◌≡◌, ℕ, List, Some, None, filter, not, sym, ap, ap₂, subst, ◌∙◌, IsTrue}
use Rattle.std.proofs.lemmas.Bool.{false≢true}
use Rattle.std.proofs.lemmas.Result.{IfOk-weaker}
use Rattle.cyp_sets.specs.declared.masks.Want.{Want}
use Rattle.cyp_sets.specs.Dealing.{AreRegions, Deals, Fits, ListsMean, allowed_regions, shown_in}
use Rattle.cyp_sets.proofs.Fitting.{fits_from, fits_to, fits_nowhere, left_over}
use Rattle.cyp_sets.proofs.sets.fits.Goals as goal

pub returns-in-None : goal.returns-in-None
returns-in-None c =
    let rules = c.args.said.now.rules.items in
    let wants = c.args.said.now.wants.items in
    let m : ListsMean rules c.args.count c.args.classes None =
    subst (λ rs. ListsMean rs c.args.count c.args.classes None) c.as_slice-rules.ensures.value (subst (ListsMean c.as_slice-rules.result.now c.args.count c.args.classes) c.in-None.is c.in_ok-class_regions.ensures) in (
      λ e. absurd (false≢true e),
      λ f. absurd (fits_nowhere rules wants c.args.count c.args.classes m.0 m.1 m.2 f),
    )

pub returns-in_ok-left-in-Some : goal.returns-in_ok-left-in-Some
returns-in_ok-left-in-Some c =
    let rules = c.args.said.now.rules.items in
    let wants = c.args.said.now.wants.items in
    let count = c.args.count in
    let are : AreRegions rules count c.args.classes c.in-Some.lists =
    subst (λ rs. ListsMean rs count c.args.classes (Some c.in-Some.lists)) c.as_slice-rules.ensures.value (subst (ListsMean c.as_slice-rules.result.now count c.args.classes) c.in-Some.is c.in_ok-class_regions.ensures) in
    let outside : c.as_slice-in-Some.result.now ≡ allowed_regions rules count 0 =
    c.as_slice-in-Some.ensures ∙ c.in_ok-outside-in-Some.ensures ∙ ap (λ rs. allowed_regions rs count 0) c.as_slice-rules.ensures.value in
    let left : c.as_slice-in-Some-2.result.now ≡ left_over rules count wants =
    c.as_slice-in-Some-2.ensures ∙ c.in_ok-left-in-Some.ensures ∙ ap₂ (λ (rs : List ℕ) (ws : List Want). filter (λ w. not (shown_in rs 0 w)) ws) outside c.as_slice.ensures.value in
    IfOk-weaker c.deal.result _ (λ b. (IsTrue b → Fits rules wants count c.args.classes) × (Fits rules wants count c.args.classes → IsTrue b))
    (λ b h. (
      λ e. fits_from rules wants count c.args.classes c.in-Some.lists are (subst (λ ws. Deals ws c.in-Some.lists) left (h.0 e)),
      λ f. h.1 (subst (λ ws. Deals ws c.in-Some.lists) (sym left) (fits_to rules wants count c.args.classes c.in-Some.lists are f)),
    ))
    c.deal.ensures.deals
