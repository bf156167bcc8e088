use Rattle.std.proofs.Common.{sym, ap₂, ◌+◌}
use Rattle.cyp_goal.proofs.VarTables.{none_placed}
use Rattle.cyp_term.specs.declared.term.Sort.TheVariants.{Card, Int, Set}
use Rattle.cyp_goal.proofs.var_table.VarTable.new.Goals as goal

pub invariant_of-result : goal.invariant_of-result
invariant_of-result c = record {
  int_places = none_placed Int c.new.result.places c.new.result.filled c.new.ensures.places c.new.ensures.filled;
  card_places = none_placed Card c.new-2.result.places c.new-2.result.filled c.new-2.ensures.places c.new-2.ensures.filled;
  set_places = none_placed Set c.new-3.result.places c.new-3.result.filled c.new-3.ensures.places c.new-3.ensures.filled;
  total = sym (ap₂ ◌+◌ (ap₂ ◌+◌ c.new.ensures.filled c.new-2.ensures.filled) c.new-3.ensures.filled);
  long = c.no_vars.ensures;
}
