use Rattle.std.proofs.Common.{sym, subst, ◌≤◌, take}
use Rattle.cyp_goal.proofs.VarTables.{slot_most}
use Rattle.cyp_term.specs.declared.term.Sort.TheVariants.{Card, Int, Set}
use Rattle.cyp_goal.proofs.var_table.VarTable.slot.Goals as goal

pub returns-in-Int-clause-most : goal.returns-in-Int-clause-most
returns-in-Int-clause-most c =
    let s = c.self.inside in
    subst (λ k. k ≤ 256) (sym c.place.ensures.place) (slot_most (take s.len s.order) Int s.ints.places s.ints.filled c.self.invariant.int_places c.args.var.number c.place.ensures.low)

pub returns-in-Card-clause-most : goal.returns-in-Card-clause-most
returns-in-Card-clause-most c =
    let s = c.self.inside in
    subst (λ k. k ≤ 256) (sym c.place-in-Card.ensures.place) (slot_most (take s.len s.order) Card s.cards.places s.cards.filled c.self.invariant.card_places c.args.var.number c.place-in-Card.ensures.low)

pub returns-in-Set-clause-most : goal.returns-in-Set-clause-most
returns-in-Set-clause-most c =
    let s = c.self.inside in
    subst (λ k. k ≤ 256) (sym c.place-in-Set.ensures.place) (slot_most (take s.len s.order) Set s.sets.places s.sets.filled c.self.invariant.set_places c.args.var.number c.place-in-Set.ensures.low)
