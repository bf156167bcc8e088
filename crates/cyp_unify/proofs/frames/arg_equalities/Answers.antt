use Rattle.std.proofs.Common.{◌∙◌, ◌++◌, append-nil, ap, sym}
use Rattle.std.proofs.lemmas.Slice.Zip.{zip_end}
use Rattle.cyp_unify.proofs.Framing.{equalities_end}
use Rattle.cyp_unify.proofs.frames.arg_equalities.Goals as goal

pub returns : goal.returns
returns c =
    let e = zip_end c.args.post.now c.args.pre.now c.loop-to.yielded c.into_iter-to-iterator.result c.loop-to.to-iterator c.next.new.self _ (cc) (cc) c.loop-to.yielded_by c.in-None.is c.next.ensures.steps in
    c.from_vec.ensures ∙ sym (append-nil c.loop-to.lits.items) ∙ sym (ap (λ ls. c.loop-to.lits.items ++ ls) (equalities_end c.args.post.now c.args.pre.now _ e)) ∙ c.loop-to.invariant
