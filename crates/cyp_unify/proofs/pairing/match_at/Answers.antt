use Rattle.std.proofs.Common.{◌≡◌, ◌∙◌, IsTrue, ap, get_or, length, refl, subst, sym}
use Rattle.std.specs.List.{list_all}
use Rattle.std.proofs.lemmas.Option.{slice_get_read}
use Rattle.cyp_heap.specs.Formed.{insts_fit}
use Rattle.cyp_heap.specs.declared.goal.Goal.{Goal}
use Rattle.cyp_heap.specs.declared.goal.Link.{Link}
use Rattle.cyp_unify.specs.Meeting.{has_card}
use Rattle.cyp_unify.proofs.Cards.{all_at, fitting_cards}
use Rattle.cyp_unify.proofs.PairedPlaces.{match_given}
use Rattle.cyp_unify.proofs.pairing.match_at.Goals as goal

link_there : (c : goal.After-chunks) → c.index-as_slice-link.result ≡ get_or c.args.node.now.links c.args.link c.index-as_slice-link.result
link_there c = c.index-as_slice-link.is ∙ ap (λ ls. get_or ls c.args.link c.index-as_slice-link.result) (c.as_slice.ensures ∙ c.links.ensures.links)

pub match_in-requires-clause-from : goal.match_in-requires-clause-from
match_in-requires-clause-from c =
    let n = c.args.node.now in
    let l = c.index-as_slice-link.result in
    fitting_cards n.preds l.goal (all_at (λ (k : Link). insts_fit n.preds k.goal) n.links c.args.link l c.goal.ensures.keeps.linked.goals_fit c.requires (link_there c))

pub match_in-requires-clause-to : goal.match_in-requires-clause-to
match_in-requires-clause-to c =
    let n = c.args.node.now in
    subst (λ cs. IsTrue (list_all has_card cs)) (sym (c.chunks.ensures.chunks ∙ ap (λ (g : Goal). g.pre.chunks) c.goal.ensures.goal)) (fitting_cards n.preds n.goal c.goal.ensures.keeps.fits)

pub returns : goal.returns
returns c =
    let n = c.args.node.now in
    let l = c.index-as_slice-link.result in
    let there : l ≡ get_or n.links c.args.link l = c.index-as_slice-link.is ∙ ap (λ ls. get_or ls c.args.link l) (c.as_slice.ensures ∙ c.links.ensures.links) in
    match_given c.match_in.result n c.args.link l c.chunks.result.now c.args.pairs.now (slice_get_read n.links (length n.links) c.args.link l refl c.requires there)
    (c.chunks.ensures.chunks ∙ ap (λ (g : Goal). g.pre.chunks) c.goal.ensures.goal) c.match_in.ensures
