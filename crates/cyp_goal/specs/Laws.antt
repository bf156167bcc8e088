-- What is proved of the definitions.
use Rattle.std.specs.Prelude.{Some, ◌≡◌}
use Rattle.cyp_goal.specs.Normal.{Renaming, normal}
use Rattle.cyp_goal.specs.Raw.{IsRegular}
use Rattle.cyp_heap.specs.declared.goal.Node.{Node}

-- the normal form of a normal form is that normal form, under the names that it has
abbrev pub NormalOfNormal : Type 0
NormalOfNormal = (n : Node) (r : Renaming) → IsRegular n → normal n ≡ Some r → normal r.node ≡ Some (record { node = r.node; old = r.node.goal.program })
