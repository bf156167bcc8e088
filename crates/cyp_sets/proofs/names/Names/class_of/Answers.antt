use Rattle.std.proofs.Common.{ap, ◌∙◌, subst, length, arith}
use Rattle.cyp_term.specs.Terms.{term_eq}
use Rattle.cyp_sets.specs.Names.{IsFew, Named, place}
use Rattle.cyp_sets.proofs.Places.{term_index, read_class}
use Rattle.cyp_sets.proofs.names.Names.class_of.Goals as goal

pub index-requires : goal.index-requires
index-requires c =
    let few = subst IsFew c.self.view_is c.self.invariant in
    let terms = c.as_slice.ensures.value ∙ ap (λ (n : Named). n.terms) c.self.view_is in
    omega (arith, term_index c.args.self.now few c.args.term.now c.requires, c.term_place.ensures ∙ ap (λ ts. place term_eq ts c.args.term.now) terms, ap (λ (n : Named). length n.classes) c.self.view_is, c.self.inside.classes.ok.0)

pub returns : goal.returns
returns c =
    let few = subst IsFew c.self.view_is c.self.invariant in
    read_class c.args.self.now few c.args.term.now c.as_slice.result.now c.self.inside.classes.items c.term_place.result c.index.result.now c.requires
    (c.as_slice.ensures.value ∙ ap (λ (n : Named). n.terms) c.self.view_is) (ap (λ (n : Named). n.classes) c.self.view_is) c.term_place.ensures c.index.ensures
