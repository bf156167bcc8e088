use Rattle.std.proofs.Common.{◌∙◌, ◌<◌, ap, get_or, length, subst, sym}
use Rattle.cyp_goal.proofs.Loops.{replaced_long, replaced_more, replaced_rest, replaced_test}
use Rattle.cyp_goal.proofs.numbering.rename_all.Goals as goal

pub loop-place-preserved : goal.loop-place-preserved
loop-place-preserved g c =
    let f = g.T.Rename.numbered c.args.names.now in
    let test = g.T.Rename.fits in
    let i = c.loop-place.place in
    let old = c.loop-place.items in
    let new = c.set-old.new.self in
    let x = c.index-as_slice-place.result in
    let y = c.in_ok-item.item in
    let first : i < length c.args.items = subst (λ n. i < n) c.len-place-end.ensures c.loop-place-test.true in
    let lt : i < length old = subst (λ n. i < n) (sym c.loop-place.invariant.long) first in
    let is = c.index-as_slice-place.is ∙ ap (λ xs. get_or xs i x) c.as_slice.ensures in
    record {
      same = replaced_more f test c.args.items old new i lt x y is c.in_ok-item.ensures.renamed c.set-old.ensures.new _ c.loop-place.invariant.same;
      rest = replaced_rest f test c.args.items old new i lt x y is c.in_ok-item.ensures.renamed c.set-old.ensures.new c.loop-place.invariant.rest;
      sorted = replaced_test f test c.args.items old new i lt x y is c.in_ok-item.ensures.renamed c.set-old.ensures.new c.loop-place.invariant.rest first c.in_ok-item.ensures.sorted c.loop-place.invariant.sorted;
      long = replaced_long f test c.args.items old new i lt x y is c.in_ok-item.ensures.renamed c.set-old.ensures.new c.loop-place.invariant.long;
    }
