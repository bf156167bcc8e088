use Rattle.std.proofs.Common.{◌∙◌, ap, sym}
use Rattle.cyp_unify.specs.Meeting.{match_in}
use Rattle.cyp_unify.proofs.Listed.{none_added, some_added}
use Rattle.cyp_unify.proofs.listing.Listing.add.Goals as goal

pub returns-in-Some : goal.returns-in-Some
returns-in-Some c =
    let present = c.args.present.now in
    let l = c.args.link.now in
    let s = c.args.self.now in
    some_added c.push.result s (match_in present l s.chosen) c.in-Some.found c.push.new.self (ap (match_in present l) (sym c.as_slice.ensures) ∙ sym c.in_ok-found.ensures ∙ c.in-Some.is) c.requires.room
    c.push.ensures.ok

pub returns-in-None : goal.returns-in-None
returns-in-None c =
    let present = c.args.present.now in
    let l = c.args.link.now in
    let s = c.args.self.now in
    none_added s (match_in present l s.chosen) (ap (match_in present l) (sym c.as_slice.ensures) ∙ sym c.in_ok-found.ensures ∙ c.in-None.is) c.requires.room
