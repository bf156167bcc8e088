use Rattle.std.proofs.Common.{◌∙◌, ◌++◌, length, refl, sym, ap, subst₂, arith}
use Rattle.std.specs.Prelude.{◌↔◌, IsTrue}
use Rattle.cyp_diff.specs.Solving.{variables}
use Rattle.cyp_pure.specs.declared.dealing.Question.{Question}
use Rattle.cyp_pure.specs.Dealing.{CanDeal}
use Rattle.cyp_pure.specs.Questions.{CanBeAsked, CanBeTrue}
use Rattle.cyp_pure.proofs.Alls.{ok_with}
use Rattle.cyp_pure.proofs.Asking.{few_ints}
use Rattle.cyp_pure.proofs.Solved.{no_sets, solved_some}
use Rattle.cyp_pure.proofs.Starting.{start_dealt, start_means, start_solved, terms_are}
use Rattle.cyp_pure.proofs.entail.can_be_true.Goals as goal

pub solve_with-requires-clause-few : goal.solve_with-requires-clause-few
solve_with-requires-clause-few c =
    let few = few_ints (c.args.parted.now.ints ++ c.args.more.now) (c.args.parted.now.sets ++ c.args.more_sets.now) c.requires in
    omega (arith, few, ap (λ ls. length (variables (ls ++ c.args.more.now))) c.as_slice-ints.ensures)

pub returns-then-is_empty-2 : goal.returns-then-is_empty-2
returns-then-is_empty-2 c = (
  λ e.
      no_sets (c.args.parted.now.ints ++ c.args.more.now) c.args.parted.now.sets c.args.more_sets.now
      (solved_some _ c.in_ok-solve_with.field-0 c.if-is_none.ensures (rw (← c.as_slice-ints.ensures) c.in_ok-solve_with.ensures))
      (rw (← c.as_slice-sets.ensures) (sym c.if-is_empty.ensures)) (sym c.if-is_empty-2.ensures),
  λ h. refl,
)

pub deal-requires-clause-asked : goal.deal-requires-clause-asked
deal-requires-clause-asked c = record {
  lits = subst₂ (λ is ss. CanBeAsked (is ++ c.args.more.now) (ss ++ c.args.more_sets.now)) (sym c.as_slice-ints.ensures) (sym c.as_slice-sets.ensures) c.requires;
  terms = c.as_slice.ensures.value
      ∙ terms_are c.as_slice-sets.result.now c.args.more_sets.now c.new-terms.result.items c.add_all_elements.new.terms.items c.add_all_elements-2.new.terms.items c.new-terms.ensures.items c.in_ok-add_all_elements.ensures c.in_ok-add_all_elements-2.ensures;
}

pub deal-requires-clause-dealt : goal.deal-requires-clause-dealt
deal-requires-clause-dealt c =
    let q : Question = record { ints = c.as_slice-ints.result; more = c.args.more; sets = c.as_slice-sets.result; more_sets = c.args.more_sets; terms = c.as_slice.result } in
    start_dealt q c.in_ok-start.field-0 c.in_ok-start.ensures (deal-requires-clause-asked c)

pub deal-requires-clause-possible : goal.deal-requires-clause-possible
deal-requires-clause-possible c =
    start_solved c.as_slice-ints.result.now c.args.more.now c.in_ok-start.field-0 c.in_ok-start.ensures (solved_some _ c.in_ok-solve_with.field-0 c.if-is_none.ensures c.in_ok-solve_with.ensures)

pub returns : goal.returns
returns c =
    let q : Question = record { ints = c.as_slice-ints.result; more = c.args.more; sets = c.as_slice-sets.result; more_sets = c.args.more_sets; terms = c.as_slice.result } in
    let means = start_means q c.in_ok-start.field-0 c.in_ok-start.ensures in
    ok_with c.deal.result (λ b. IsTrue b ↔ CanDeal q c.in_ok-start.field-0.classes) (λ b. IsTrue b ↔ CanBeTrue (c.args.parted.now.ints ++ c.args.more.now) (c.args.parted.now.sets ++ c.args.more_sets.now))
    (λ b h.
    subst₂ (λ is ss. IsTrue b ↔ CanBeTrue (is ++ c.args.more.now) (ss ++ c.args.more_sets.now)) c.as_slice-ints.ensures c.as_slice-sets.ensures
    (λ e. means.0 (h.0 e), λ k. h.1 (means.1 k)))
    c.deal.ensures
