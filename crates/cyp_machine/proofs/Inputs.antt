-- Laws of the input of a run.
use Rattle.cyp_machine.proofs.InputLaws.{input_decided, one_input}
use Rattle.cyp_machine.specs.RunInput.{InputTree, RunInput, input_syntax}
use Rattle.cyp_machine.specs.RunInputLaws.{OneInputReading, OneInputTree, SomeInputReading}
use Rattle.cyp_prog.proofs.Decided.{has_reading}
use Rattle.cyp_prog.proofs.Readings.{reading_once}

pub one_input_tree : OneInputTree
one_input_tree s t ls p q = one_input s t ls p q

pub one_input_reading : OneInputReading
one_input_reading bytes r s h i = reading_once InputTree RunInput input_syntax one_input bytes r s h i

pub some_input_reading : SomeInputReading
some_input_reading bytes = has_reading InputTree RunInput input_syntax input_decided bytes
