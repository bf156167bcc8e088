use Rattle.std.proofs.Common.{◌≡◌, sym, ◌∙◌, ap, false, true, arith}
use Rattle.std.proofs.lemmas.List.{get_or_default}
use Rattle.std.proofs.lemmas.Result.{IfOk-weaker}
use Rattle.cyp_tree.specs.declared.mark.Mark.TheVariants.{Undecided, Solved}
use Rattle.cyp_tree.specs.Statuses.{status}
use Rattle.cyp_tree.specs.Derivations.{chosen_derivation}
use Rattle.cyp_tree.proofs.DerivedSolved.{some_where_solved, none_unsolved}
use Rattle.cyp_tree.proofs.WholeTrees.{status_is}
use Rattle.cyp_tree.proofs.tree.Tree.chosen.Goals as goal

pub returns-clause-solved : goal.returns-clause-solved
returns-clause-solved g c =
    IfOk-weaker c.rebuilt.result _ _ (λ d e. some_where_solved c.args.self.now d (e ∙ ap chosen_derivation c.self.view_is)) c.rebuilt.ensures

pub returns-in_default : goal.returns-in_default
returns-in_default g c =
    let root : status c.args.self.now ≡ c.index.result.now =
    sym
    (c.index.ensures
    ∙ get_or_default c.self.inside.arena.marks.statuses.items 0 c.index.result.now Undecided (omega (arith, c.self.invariant.whole.arena.sized.statuses, c.self.invariant.whole.arena.linked.some))
    ∙ sym (status_is c.self.inside.arena.root c.self.inside.arena.places.items c.self.inside.arena.ways.items c.self.inside.arena.marks c.self.invariant.whole.arena) ∙ ap status c.self.view_is)
    in
    let unsolved : status c.args.self.now ≡ Solved → ⊥ = (λ s. c.in_default.not-Solved (sym root ∙ s)) in
    record {
      derivation = none_unsolved c.args.self.now unsolved;
      solved = (λ h. (let bad : false ≡ true = h in cc), λ s. absurd (unsolved s));
    }
