use Rattle.std.proofs.Common.{ap, sym, ◌∙◌}
use Rattle.cyp_goal.proofs.VarTables.{card_more, card_room, int_more, int_room, more_room, set_more, set_room, table_more}
use Rattle.cyp_term.specs.Terms.{var_in}
use Rattle.cyp_goal.proofs.var_table.VarTable.add.Goals as goal

pub bounds-self-inside-self-inside : goal.bounds-self-inside-self-inside
bounds-self-inside-self-inside c =
    let s = c.self.inside in
    more_room s.order s.len s.ints.places s.ints.filled s.cards.places s.cards.filled s.sets.places s.sets.filled c.self.invariant c.args.var c.has.ensures.low
    (ap (var_in c.args.var) c.self.view_is ∙ sym c.has.ensures.has ∙ c.if-has.false)

pub fill-requires : goal.fill-requires
fill-requires c =
    let s = c.self.inside in
    int_room s.order s.len s.ints.places s.ints.filled s.cards.places s.cards.filled s.sets.places s.sets.filled c.self.invariant c.args.var c.has.ensures.low
    (ap (var_in c.args.var) c.self.view_is ∙ sym c.has.ensures.has ∙ c.if-has.false) c.in-Int.is

pub invariant_of-self : goal.invariant_of-self
invariant_of-self c =
    let s = c.self.inside in
    int_more s.order s.len s.ints.places s.ints.filled s.cards.places s.cards.filled s.sets.places s.sets.filled c.self.invariant c.args.var c.has.ensures.low
    (ap (var_in c.args.var) c.self.view_is ∙ sym c.has.ensures.has ∙ c.if-has.false) c.fill.new.self.places c.fill.new.self.filled c.in-Int.is c.fill.ensures.places c.fill.ensures.filled

pub returns-in-Int : goal.returns-in-Int
returns-in-Int c =
    let s = c.self.inside in
    table_more s.order s.len s.ints.places s.ints.filled s.cards.places s.cards.filled s.sets.places s.sets.filled c.self.invariant c.args.var c.has.ensures.low
    (ap (var_in c.args.var) c.self.view_is ∙ sym c.has.ensures.has ∙ c.if-has.false) c.args.self.now c.self.view_is

pub fill-requires-in-Card : goal.fill-requires-in-Card
fill-requires-in-Card c =
    let s = c.self.inside in
    card_room s.order s.len s.ints.places s.ints.filled s.cards.places s.cards.filled s.sets.places s.sets.filled c.self.invariant c.args.var c.has.ensures.low
    (ap (var_in c.args.var) c.self.view_is ∙ sym c.has.ensures.has ∙ c.if-has.false) c.in-Card.is

pub invariant_of-self-in-Card : goal.invariant_of-self-in-Card
invariant_of-self-in-Card c =
    let s = c.self.inside in
    card_more s.order s.len s.ints.places s.ints.filled s.cards.places s.cards.filled s.sets.places s.sets.filled c.self.invariant c.args.var c.has.ensures.low
    (ap (var_in c.args.var) c.self.view_is ∙ sym c.has.ensures.has ∙ c.if-has.false) c.fill-in-Card.new.self.places c.fill-in-Card.new.self.filled c.in-Card.is c.fill-in-Card.ensures.places c.fill-in-Card.ensures.filled

pub returns-in-Card : goal.returns-in-Card
returns-in-Card c =
    let s = c.self.inside in
    table_more s.order s.len s.ints.places s.ints.filled s.cards.places s.cards.filled s.sets.places s.sets.filled c.self.invariant c.args.var c.has.ensures.low
    (ap (var_in c.args.var) c.self.view_is ∙ sym c.has.ensures.has ∙ c.if-has.false) c.args.self.now c.self.view_is

pub fill-requires-in-Set : goal.fill-requires-in-Set
fill-requires-in-Set c =
    let s = c.self.inside in
    set_room s.order s.len s.ints.places s.ints.filled s.cards.places s.cards.filled s.sets.places s.sets.filled c.self.invariant c.args.var c.has.ensures.low
    (ap (var_in c.args.var) c.self.view_is ∙ sym c.has.ensures.has ∙ c.if-has.false) c.in-Set.is

pub invariant_of-self-in-Set : goal.invariant_of-self-in-Set
invariant_of-self-in-Set c =
    let s = c.self.inside in
    set_more s.order s.len s.ints.places s.ints.filled s.cards.places s.cards.filled s.sets.places s.sets.filled c.self.invariant c.args.var c.has.ensures.low
    (ap (var_in c.args.var) c.self.view_is ∙ sym c.has.ensures.has ∙ c.if-has.false) c.fill-in-Set.new.self.places c.fill-in-Set.new.self.filled c.in-Set.is c.fill-in-Set.ensures.places c.fill-in-Set.ensures.filled

pub returns-in-Set : goal.returns-in-Set
returns-in-Set c =
    let s = c.self.inside in
    table_more s.order s.len s.ints.places s.ints.filled s.cards.places s.cards.filled s.sets.places s.sets.filled c.self.invariant c.args.var c.has.ensures.low
    (ap (var_in c.args.var) c.self.view_is ∙ sym c.has.ensures.has ∙ c.if-has.false) c.args.self.now c.self.view_is
