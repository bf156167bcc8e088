use Rattle.std.proofs.Common.{ap, ◌∙◌}
use Rattle.std.specs.List.{list_any}
use Rattle.cyp_sets.specs.Masks.{share}
use Rattle.cyp_sets.specs.Names.{class_bit, var_bit}
use Rattle.cyp_sets.proofs.Unions.{union_mask}
use Rattle.cyp_sets.proofs.names.Names.union_of.Goals as goal

pub returns : goal.returns
returns c =
    let n = c.args.self.now in
    union_mask n c.args.set.now c.vars_mask.result c.classes_mask.result c.requires
    (λ m. c.vars_mask.ensures m ∙ ap (list_any (λ v. share m (var_bit n v))) c.vars.ensures.vars)
    (λ m. c.classes_mask.ensures m ∙ ap (list_any (λ e. share m (class_bit n e))) c.elems.ensures)
