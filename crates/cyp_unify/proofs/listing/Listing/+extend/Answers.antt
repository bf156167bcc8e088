use Rattle.std.proofs.Common.{◌∙◌, arith, refl, sym}
use Rattle.cyp_unify.specs.Listing.{matches_by}
use Rattle.cyp_unify.proofs.Listed.{full, goes_last, goes_on, not_paired, paired_by}
use Rattle.cyp_unify.proofs.listing.Listing.+extend.Goals as goal

pub extend-loop-place-preserved : goal.extend-loop-place-preserved
extend-loop-place-preserved t c =
    goes_on c.args.present.now c.args.link.now c.args.self.now c.args.wanted.now c.loop-place.self c.loop-place.place c.index-wanted-0.result _ (sym c.is_empty.ensures ∙ c.if-is_empty.false) c.index-wanted-0.is refl
    c.loop-place-test.true c.loop-place.invariant c.extend_by.new.self c.in_ok-extend_by.ensures

pub extend-returns : goal.extend-returns
extend-returns t c =
    goes_last c.args.present.now c.args.link.now c.args.self.now c.args.wanted.now c.loop-place.self c.loop-place.place (sym c.is_empty.ensures ∙ c.if-is_empty.false) (omega (arith, c.loop-place-test.false))
    c.loop-place.invariant

pub extend_by-returns-then-len-eq-MOST_MATCHES : goal.extend_by-returns-then-len-eq-MOST_MATCHES
extend_by-returns-then-len-eq-MOST_MATCHES t c =
    let s = c.args.self.now in
    full s (matches_by c.args.present.now c.args.link.now s.chosen c.args.chunk.now c.args.rest.now c.args.place) (omega (arith, c.len.ensures, c.if-len-eq-MOST_MATCHES.true))

pub extend_by-returns-then-not-may_pair : goal.extend_by-returns-then-not-may_pair
extend_by-returns-then-not-may_pair t c =
    let present = c.args.present.now in
    let chunk = c.args.chunk.now in
    not_paired present c.args.link.now c.args.self.now chunk c.args.rest.now c.args.place c.as_slice.result.now c.as_slice.ensures c.may_pair.result c.may_pair.ensures
    c.if-not-may_pair.true c.requires.room

pub extend_by-returns : goal.extend_by-returns
extend_by-returns t c =
    let present = c.args.present.now in
    let chunk = c.args.chunk.now in
    paired_by present c.args.link.now c.args.self.now chunk c.args.rest.now c.args.place c.as_slice.result.now c.as_slice.ensures c.may_pair.result c.may_pair.ensures
    c.if-not-may_pair.false c.push.new.self c.in_ok-push.ensures.ok c.extend.new.self c.in_ok-extend.ensures c.pop.new.self c.pop.result c.pop.ensures
