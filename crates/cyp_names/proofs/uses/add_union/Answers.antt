use Rattle.std.proofs.lemmas.Result.{on_ok_weaker}
use Rattle.cyp_names.proofs.EachKind.{kept_union}
use Rattle.cyp_names.specs.Orders.{union_parts}
use Rattle.cyp_names.proofs.uses.add_union.Goals as goal

pub returns-in_ok-add_union_of_kind-in-AsKept : goal.returns-in_ok-add_union_of_kind-in-AsKept
returns-in_ok-add_union_of_kind-in-AsKept c =
    on_ok_weaker c.add_union_of_kind-in-AsKept-2.result
    (λ is. kept_union c.args.order c.args.uses.now.items c.add_union_of_kind-in-AsKept.new.uses.items c.add_union_of_kind-in-AsKept-2.new.uses.items
    (union_parts c.args.union.now) c.in-AsKept.is c.in_ok-add_union_of_kind-in-AsKept.ensures is)
    c.add_union_of_kind-in-AsKept-2.ensures
