-- The least fault, part by part.
use Rattle.std.specs.Prelude.{[], List, None, Option, Some, cond, ◌++◌, ◌∷◌}
use Rattle.std.specs.List.{list_any}
use Rattle.std.specs.Str.{bytes_eq}
use Rattle.cyp_lex.specs.declared.ident.Ident.{Ident}
use Rattle.cyp_lex.specs.declared.fault.Fault.{Fault}
use Rattle.cyp_lex.specs.declared.fault.FaultKind.TheVariants.{DuplicateName, WrongSort}
use Rattle.cyp_term.specs.declared.term.Sort.{Sort}
use Rattle.cyp_names.specs.Bodies.{body_uses}
use Rattle.cyp_text.specs.LitTrees.{LitTree}
use Rattle.cyp_names.specs.NameFaults.{fault_at, is_set_literal, lit_place, sort_faults}
use Rattle.cyp_names.specs.FaultOrder.{lesser}
use Rattle.cyp_names.specs.Uses.{Use, lit_uses, param_uses}
use Rattle.cyp_text.specs.declared.tree.ClauseTree.{ClauseTree}
use Rattle.cyp_text.specs.declared.tree.ParamTree.{ParamTree}
use Rattle.cyp_text.specs.declared.tree.PredTree.{PredTree}
use Rattle.cyp_text.specs.declared.tree.TextTree.{TextTree}

-- the lesser of two faults, where both are there
abbrev pub lesser_of : Option Fault → Option Fault → Option Fault
lesser_of None b = b
lesser_of (Some a) b = Some (lesser a b)

-- the name stands earlier
abbrev pub repeat_fault : List Ident → Ident → List Fault
repeat_fault earlier i = cond (list_any (λ (j : Ident). bytes_eq j.text i.text) earlier) (fault_at DuplicateName i.place) []

-- the uses seen so far, with a use of a name of which no sort is known yet
abbrev pub noted : Option Sort → List Use → Use → List Use
noted None seen u = seen ++ u ∷ []
noted (Some s) seen u = seen

-- the guard speaks of sets
abbrev pub set_guard_fault : LitTree → List Fault
set_guard_fault g = cond (is_set_literal g) (fault_at WrongSort (lit_place g)) []

-- the uses of another sort in a clause
abbrev pub clause_sorts : List PredTree → List ParamTree → ClauseTree → List Fault
clause_sorts qs ps c = sort_faults (param_uses ps) (lit_uses c.guard ++ body_uses qs c.body)

-- the uses of another sort in the procedure
abbrev pub proc_sorts : TextTree → List Fault
proc_sorts t = sort_faults (param_uses t.params) (body_uses t.preds t.pre ++ body_uses t.preds t.post)
