use Rattle.std.proofs.Common.{◌++◌, ◌∙◌, ap}
use Rattle.std.proofs.lemmas.Result.{on_ok_weaker}
use Rattle.cyp_names.proofs.EachKind.{items_added}
use Rattle.cyp_names.specs.Orders.{item_uses}
use Rattle.cyp_names.proofs.body_uses.add_pure.Goals as goal

pub returns-in_ok-add_item-in-Items : goal.returns-in_ok-add_item-in-Items
returns-in_ok-add_item-in-Items c =
    on_ok_weaker c.add_items.result
    (λ is. items_added c.args.order c.args.pure.now c.in-Items.first c.in-Items.others c.as_slice.result.now c.args.uses.now.items c.add_item.new.uses.items
    c.add_items.new.uses.items c.in-Items.is c.as_slice.ensures
    (c.in_ok-add_item-in-Items.ensures ∙ ap (λ i. c.args.uses.now.items ++ item_uses c.args.order i) c.get.ensures) is)
    c.add_items.ensures
