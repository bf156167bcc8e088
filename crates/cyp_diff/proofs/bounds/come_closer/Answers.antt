use Rattle.std.proofs.Common.{rules, pos, w64, get_or, FitsSigned, arith}
use Rattle.cyp_diff.proofs.Nearing.{Nears, parts_fit, sum_modest, comes_closer, stays, stays_far}
use Rattle.cyp_diff.proofs.bounds.come_closer.Goals.{else-far-lt-NONE-via-then-far-lt-NONE+else-far-c, else-far-lt-NONE-via-else-far-lt-NONE}
use Rattle.cyp_diff.proofs.bounds.come_closer.Goals as goal

pub overflow_add-far-then-far-c : goal.overflow_add-far-then-far-c
overflow_add-far-then-far-c c =
    let fits : FitsSigned w64 (get_or c.args.row.now c.args.i (pos 0)) = search rules in
    let nears : Nears c.args.row.now c.args.i c.args.c = record { place = omega (arith, c.told-row, c.requires.first); small = c.requires.small; number = c.ranges.c; room = c.requires.room; fits = fits; bounded = c.if-far-lt-NONE.true } in
    parts_fit c.args.row.now c.args.i c.args.c nears

pub relax_row-requires-clause-add : goal.relax_row-requires-clause-add
relax_row-requires-clause-add c =
    let fits : FitsSigned w64 (get_or c.args.row.now c.args.i (pos 0)) = search rules in
    let nears : Nears c.args.row.now c.args.i c.args.c = record { place = omega (arith, c.told-row, c.requires.first); small = c.requires.small; number = c.ranges.c; room = c.requires.room; fits = fits; bounded = c.if-far-lt-NONE.true } in
    sum_modest c.args.row.now c.args.i c.args.c nears

pub returns-then-far-c : goal.returns-then-far-c
returns-then-far-c c =
    let fits : FitsSigned w64 (get_or c.args.row.now c.args.i (pos 0)) = search rules in
    let nears : Nears c.args.row.now c.args.i c.args.c = record { place = omega (arith, c.told-row, c.requires.first); small = c.requires.small; number = c.ranges.c; room = c.requires.room; fits = fits; bounded = c.if-far-lt-NONE.true } in
    comes_closer c.args.row.now c.args.from.now c.relax_row.new.dst c.args.i c.args.c nears c.relax_row.ensures

pub returns-else-far-lt-NONE : goal.returns-else-far-lt-NONE
returns-else-far-lt-NONE c =
    let fits : FitsSigned w64 (get_or c.args.row.now c.args.i (pos 0)) = search rules in
    elim c.else-far-lt-NONE.branch [
      | else-far-lt-NONE-via-then-far-lt-NONE+else-far-c w ↦
          let fits_second : FitsSigned w64 (get_or c.args.row.now c.args.j (pos 0)) = search rules in
          let nears : Nears c.args.row.now c.args.i c.args.c = record { place = omega (arith, c.told-row, c.requires.first); small = c.requires.small; number = c.ranges.c; room = c.requires.room; fits = fits; bounded = w.if-far-lt-NONE.true } in
          stays c.args.row.now c.args.from.now c.args.i c.args.j c.args.c nears c.told-row c.told-from c.requires.second fits_second c.requires.through w.if-far-c.false
      | else-far-lt-NONE-via-else-far-lt-NONE w ↦ stays_far c.args.row.now c.args.from.now c.args.i c.args.c (omega (arith, c.told-row, c.requires.first)) fits w.if-far-lt-NONE.false
    ]
