use Rattle.std.proofs.Common.{◌≡◌, ◌∙◌, sym, ap, not, true, false}
use Rattle.cyp_term.specs.Integers.{is_int_lit}
use Rattle.cyp_pure.specs.Sorts.{HasSorts}
use Rattle.cyp_pure.proofs.Parting.{all_more, filter_kept, filter_left}
use Rattle.cyp_pure.proofs.parted.parted_of.Goals as goal
use Rattle.cyp_pure.proofs.parted.parted_of.Goals.{then-compares_ints+in_ok-push, else-compares_ints+in_ok-push-2}

pub loop-lit-preserved : goal.loop-lit-preserved
loop-lit-preserved c =
    let sorts = all_more HasSorts c.args.lits.now c.loop-lit.lit-index c.lit-item.result c.loop-lit.invariant.sorts c.loop-lit-test.true c.lit-item.is c.compares_ints.ensures.sorts in
    let ls = c.args.lits.now in
    let l = c.lit-item.result in
    let k = c.loop-lit.lit-index in
    elim c.if-compares_ints.branch [
      | then-compares_ints+in_ok-push w ↦
          let int : is_int_lit l ≡ true = sym w.if-compares_ints.ensures.kind in
          record {
            ints = ap (λ v. v.items) w.ints-is ∙ filter_kept is_int_lit ls c.loop-lit.ints.items w.push.new.self.items k l c.in_ok-copy.copy c.loop-lit.invariant.ints c.loop-lit-test.true c.lit-item.is int c.in_ok-copy.ensures w.in_ok-push.ensures.items;
            sets = ap (λ v. v.items) w.sets-is ∙ filter_left (λ m. not (is_int_lit m)) ls c.loop-lit.sets.items k l c.loop-lit.invariant.sets c.loop-lit-test.true c.lit-item.is (ap not int);
            sorts = sorts;
          }
      | else-compares_ints+in_ok-push-2 w ↦
          let int : is_int_lit l ≡ false = sym w.if-compares_ints.ensures.kind in
          record {
            ints = ap (λ v. v.items) w.ints-is ∙ filter_left is_int_lit ls c.loop-lit.ints.items k l c.loop-lit.invariant.ints c.loop-lit-test.true c.lit-item.is int;
            sets = ap (λ v. v.items) w.sets-is
                ∙ filter_kept (λ m. not (is_int_lit m)) ls c.loop-lit.sets.items w.push-else-compares_ints.new.self.items k l c.in_ok-copy.copy c.loop-lit.invariant.sets c.loop-lit-test.true c.lit-item.is (ap not int) c.in_ok-copy.ensures w.in_ok-push-2.ensures.items;
            sorts = sorts;
          }
    ]
