use Rattle.std.proofs.Common.{◌∙◌, get_or, subst, sym}
use Rattle.std.proofs.lemmas.List.{get_or_default}
use Rattle.cyp_goal.proofs.Loops.{image_added}
use Rattle.cyp_goal.proofs.NamedImages.{set_at}
use Rattle.cyp_goal.specs.Named.{named}
use Rattle.cyp_term.proofs.Images.{AllSets_with_new}
use Rattle.cyp_term.specs.SetTermValue.{AllSets}
use Rattle.cyp_term.specs.Terms.{var_eq}
use Rattle.cyp_term.specs.declared.term.Sort.TheVariants.{Int}
use Rattle.cyp_term.specs.declared.term.Var.{Var}
use Rattle.cyp_goal.proofs.numbering.renamed_vars.Goals as goal

pub loop-var-preserved : goal.loop-var-preserved
loop-var-preserved c =
    let vs = c.args.vars.now in
    let i = c.loop-var.var-index in
    let first : Var = record { sort = Int; number = 0 } in
    let v : Var = get_or vs i first in
    record {
      same = image_added var_eq (named c.args.names.now) vs i _ c.loop-var.renamed.items c.add_var.new.vars.items v c.new_var.result c.loop-var.invariant.same c.loop-var-test.true
          (get_or_default vs i first v c.loop-var-test.true) c.new_var.ensures.named c.in_ok-add_var.ensures;
      sorts = subst AllSets (sym c.in_ok-add_var.ensures)
          (AllSets_with_new c.loop-var.renamed.items c.new_var.result c.loop-var.invariant.sorts (c.new_var.ensures.sort ∙ set_at vs i first c.requires c.loop-var-test.true));
    }
