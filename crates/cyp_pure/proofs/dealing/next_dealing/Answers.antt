use Rattle.std.proofs.Common.{◌≡◌, ◌∷◌, [], ◌++◌, ◌∙◌, sym, ap, get_or, arith}
use Rattle.std.specs.List.{zip}
use Rattle.cyp_pure.specs.declared.dealing.Dealing.{Dealing}
use Rattle.cyp_pure.specs.Dealing.{ties}
use Rattle.cyp_pure.proofs.Saying.{Follows, dealt_more}
use Rattle.cyp_pure.proofs.dealing.next_dealing.Goals as goal
use Rattle.cyp_pure.proofs.dealing.next_dealing.Goals.{then-class-dealing, else-class-dealing}

pub returns : goal.returns
returns c =
    let ts = c.args.question.now.terms.now in
    let d = c.args.dealing.now in
    let t = c.index-question-len.result in
    let next : Dealing = record { classes = c.push.new.self; count = c.if-class-dealing.count; facts = c.in_ok-facts.facts } in
    let classes : c.push.new.self ≡ d.classes ++ c.args.class ∷ [] = c.in_ok-push.ensures.ok ∙ ap (λ ks. ks ++ c.args.class ∷ []) c.in_ok-classes.ensures in
    let follows : Follows c.args.question.now d t c.args.class next = record {
      more = c.requires.more;
      term = c.index-question-len.is ∙ ap (λ n. get_or ts n t) c.len.ensures;
      classes = classes;
      facts = c.in_ok-facts.ensures ∙ ap (λ u. d.facts ++ ties u c.args.class (zip ts d.classes)) (sym c.index-question-len.is);
    } in (
      classes,
      elim c.if-class-dealing.branch [
        | then-class-dealing w ↦
            dealt_more c.args.question.now d next t c.args.class c.requires.dealt follows (omega (arith, w.count-is)) (omega (arith, w.count-is, w.if-class-dealing.true)) (omega (arith, w.count-is))
        | else-class-dealing w ↦
            dealt_more c.args.question.now d next t c.args.class c.requires.dealt follows (omega (arith, w.count-is, w.if-class-dealing.false)) (omega (arith, w.count-is)) (omega (arith, w.count-is, c.requires.class))
      ],
    )
