-- The numbers of the kinds of faults.
use Rattle.std.specs.Prelude.{ℕ}
use Rattle.cyp_lex.specs.declared.fault.FaultKind.{FaultKind}
use Rattle.cyp_lex.specs.declared.fault.FaultKind.TheVariants.{BadByte, Expected, NumberRange, DuplicateName, ReservedName, UnknownPredicate, WrongArity, WrongSort, NotDifference, UnboundVariable, GuardsOverlap, Unproductive, TooLarge, MissingProcedure, TooLong}

-- the number by which a kind of fault is named outside the program
abbrev pub fault_number : FaultKind → ℕ
fault_number BadByte = 1
fault_number Expected = 2
fault_number NumberRange = 3
fault_number DuplicateName = 4
fault_number ReservedName = 5
fault_number UnknownPredicate = 6
fault_number WrongArity = 7
fault_number WrongSort = 8
fault_number NotDifference = 9
fault_number UnboundVariable = 10
fault_number GuardsOverlap = 11
fault_number Unproductive = 12
fault_number TooLarge = 13
fault_number MissingProcedure = 14
fault_number TooLong = 15
