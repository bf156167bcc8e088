use Rattle.std.proofs.Common.{◌≡◌, ◌++◌, drop, map}
use Rattle.cyp_names.specs.Orders.{parts_in}
use Rattle.cyp_names.specs.Uses.{args_uses, param_sort}
use Rattle.cyp_names.proofs.body_uses.add_args.Given as goal

abbrev pub invariant-loop-place : goal.invariant-loop-place
invariant-loop-place l =
    l.uses.items ++ args_uses (parts_in l.order) (drop l.place (map param_sort l.params)) (drop l.place l.args)
    ≡ l.initial.uses.items ++ args_uses (parts_in l.order) (map param_sort l.params) l.args
