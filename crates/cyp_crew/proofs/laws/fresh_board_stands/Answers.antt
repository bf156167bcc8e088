use Rattle.cyp_crew.proofs.FreshBoard.{fresh_stands}
use Rattle.cyp_crew.proofs.laws.fresh_board_stands.Goals as goal

pub returns : goal.returns
returns g c = fresh_stands
