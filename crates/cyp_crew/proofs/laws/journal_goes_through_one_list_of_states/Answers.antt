use Rattle.cyp_crew.proofs.Paths.{one_path}
use Rattle.cyp_crew.proofs.laws.journal_goes_through_one_list_of_states.Goals as goal

pub returns : goal.returns
returns g c = one_path
