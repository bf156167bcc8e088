use Rattle.std.proofs.Common.{◌≡◌, ◌∙◌, sym, ap, subst, length, arith}
use Rattle.cyp_diff.specs.Closed.{AreBounds}
use Rattle.cyp_diff.specs.Distances.{Meets}
use Rattle.cyp_diff.proofs.Empty.{empty_row, empty_rows, bounds_empty, meets_empty, rows_step, length-empty_rows}
use Rattle.cyp_diff.proofs.bounds.Bounds.new.Goals as goal

pub loop-i-init : goal.loop-i-init
unfolding empty_rows
loop-i-init c = c.new-rows.ensures.items

pub loop-i-preserved : goal.loop-i-preserved
unfolding empty_row
loop-i-preserved c = rows_step c.loop-i.rows.items c.push.new.self.items c.loop-i.i c.loop-i.invariant c.in_ok-push.ensures.items

all_rows : (c : goal.After-loop-i) → c.loop-i.rows.items ≡ empty_rows c.args.n
all_rows c = let e : c.loop-i.i ≡ c.args.n = omega arith in c.loop-i.invariant ∙ ap empty_rows e

pub invariant_of-result : goal.invariant_of-result
invariant_of-result c = subst AreBounds (sym (all_rows c)) (bounds_empty c.args.n c.requires.most)

pub returns : goal.returns
returns c = (ap length (all_rows c) ∙ length-empty_rows c.args.n, λ x. subst (λ rows. Meets x rows) (sym (all_rows c)) (meets_empty c.args.n c.requires.most x))
