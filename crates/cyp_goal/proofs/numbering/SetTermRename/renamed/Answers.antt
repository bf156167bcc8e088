use Rattle.std.proofs.Common.{◌≡◌, ◌∙◌, ap, map, subst, true}
use Rattle.std.specs.List.{list_all}
use Rattle.std.proofs.lemmas.Bool.{and_from}
use Rattle.cyp_goal.proofs.NamedImages.{set_numbered, sets_fit}
use Rattle.cyp_goal.specs.Named.{named, no_set}
use Rattle.cyp_goal.specs.Numbering.{numbering}
use Rattle.cyp_goal.specs.Raw.{term_fits}
use Rattle.cyp_term.specs.SetTermValue.{AllSets}
use Rattle.cyp_term.specs.Terms.{apply_term, is_set_var, term_eq, var_eq, without_repeats}
use Rattle.cyp_goal.proofs.numbering.SetTermRename.renamed.Goals as goal

pub returns-clause-renamed : goal.returns-clause-renamed
returns-clause-renamed c =
    let vs = c.args.names.now in
    let u = c.args.self.now in
    c.new.ensures
    ∙ set_numbered vs u c.in_ok-vars.vars c.in_ok-elems.elems (subst AllSets c.vars.ensures.vars c.vars.ensures.sorts)
    (c.in_ok-vars.ensures.vars ∙ ap (λ ws. without_repeats var_eq (map (named vs) ws)) c.vars.ensures.vars)
    (c.in_ok-elems.ensures.elems ∙ ap (λ ts. without_repeats term_eq (map (apply_term (numbering vs)) ts)) c.elems.ensures)

pub returns-clause-sorted : goal.returns-clause-sorted
returns-clause-sorted c =
    let u = c.args.self.now in
    and_from (list_all is_set_var u.vars) (list_all (term_fits no_set) u.elems) (sets_fit u.vars (subst AllSets c.vars.ensures.vars c.vars.ensures.sorts))
    (subst (λ ts. list_all (term_fits no_set) ts ≡ true) c.elems.ensures c.in_ok-elems.ensures.sorted)
