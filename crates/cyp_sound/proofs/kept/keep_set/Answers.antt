use Rattle.cyp_goal.proofs.NamedImages.{sets_fit}
use Rattle.cyp_goal.specs.Named.{no_set}
use Rattle.cyp_goal.specs.Raw.{term_fits}
use Rattle.cyp_term.specs.SetTermValue.{AllSets}
use Rattle.cyp_term.specs.Terms.{is_set_var}
use Rattle.std.proofs.Common.{subst, true, ◌≡◌}
use Rattle.std.proofs.lemmas.Bool.{and_from}
use Rattle.std.specs.List.{list_all}
use Rattle.cyp_sound.proofs.kept.keep_set.Goals as goal

pub returns : goal.returns
returns c =
    let u = c.args.set.now in
    and_from (list_all is_set_var u.vars) (list_all (term_fits no_set) u.elems) (sets_fit u.vars (subst AllSets c.vars.ensures.vars c.vars.ensures.sorts))
    (subst (λ ts. list_all (term_fits no_set) ts ≡ true) c.elems.ensures c.keep_terms.ensures)
