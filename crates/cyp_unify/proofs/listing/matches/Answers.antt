use Rattle.std.proofs.Common.{◌≡◌, ◌∙◌, IsTrue, ap, get_or, length, refl, subst, sym}
use Rattle.std.specs.List.{list_all}
use Rattle.std.proofs.lemmas.Option.{slice_get_read}
use Rattle.cyp_heap.specs.Formed.{insts_fit}
use Rattle.cyp_heap.specs.declared.goal.Goal.{Goal}
use Rattle.cyp_heap.specs.declared.goal.Link.{Link}
use Rattle.cyp_unify.specs.Meeting.{has_card}
use Rattle.cyp_unify.proofs.Cards.{all_at, fitting_cards}
use Rattle.cyp_unify.proofs.FewChunks.{few_chunks}
use Rattle.cyp_unify.proofs.Pairings.{matches_given}
use Rattle.cyp_unify.proofs.listing.matches.Goals as goal

link_there : (c : goal.After-chunks) → c.index-as_slice-link.result ≡ get_or c.args.node.now.links c.args.link c.index-as_slice-link.result
link_there c = c.index-as_slice-link.is ∙ ap (λ ls. get_or ls c.args.link c.index-as_slice-link.result) (c.as_slice.ensures ∙ c.links.ensures.links)

chunks_are : (c : goal.After-chunks) → c.chunks.result.now ≡ c.args.node.now.goal.pre.chunks
chunks_are c = c.chunks.ensures.chunks ∙ ap (λ (g : Goal). g.pre.chunks) c.goal.ensures.goal

pub matches_in-requires-clause-from : goal.matches_in-requires-clause-from
matches_in-requires-clause-from c =
    let n = c.args.node.now in
    let l = c.index-as_slice-link.result in
    fitting_cards n.preds l.goal (all_at (λ (k : Link). insts_fit n.preds k.goal) n.links c.args.link l c.goal.ensures.keeps.linked.goals_fit c.requires (link_there c))

pub matches_in-requires-clause-to : goal.matches_in-requires-clause-to
matches_in-requires-clause-to c =
    let n = c.args.node.now in
    subst (λ cs. IsTrue (list_all has_card cs)) (sym (chunks_are c)) (fitting_cards n.preds n.goal c.goal.ensures.keeps.fits)

pub matches_in-requires-clause-few : goal.matches_in-requires-clause-few
matches_in-requires-clause-few c = few_chunks c.args.node.now c.chunks.result.now (chunks_are c) c.goal.ensures.keeps

pub returns : goal.returns
returns c =
    let n = c.args.node.now in
    let l = c.index-as_slice-link.result in
    let there : l ≡ get_or n.links c.args.link l = c.index-as_slice-link.is ∙ ap (λ ls. get_or ls c.args.link l) (c.as_slice.ensures ∙ c.links.ensures.links) in
    matches_given c.matches_in.result n c.args.link l c.chunks.result.now (slice_get_read n.links (length n.links) c.args.link l refl c.requires there)
    (c.chunks.ensures.chunks ∙ ap (λ (g : Goal). g.pre.chunks) c.goal.ensures.goal) c.matches_in.ensures
