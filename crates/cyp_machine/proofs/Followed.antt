-- One body after another.
use Rattle.std.proofs.Common.{ap, refl, ◌≡◌}
use Rattle.cyp_machine.specs.Steps.{followed_by}
use Rattle.cyp_prog.specs.Programs.{Body, End, Then}

pub followed-assoc : (a b c : Body) → followed_by (followed_by a b) c ≡ followed_by a (followed_by b c)
followed-assoc End b c = refl
followed-assoc (Then s a) b c = ap (Then s) (followed-assoc a b c)

pub followed-end : (a : Body) → followed_by a End ≡ a
followed-end End = refl
followed-end (Then s a) = ap (Then s) (followed-end a)
