-- What is proved of the normal form under new names.
use Rattle.std.specs.Prelude.{IsTrue, List, map, true, ◌++◌, ◌≡◌}
use Rattle.std.specs.Option.{option_map}
use Rattle.cyp_goal.specs.Normal.{Renaming, normal}
use Rattle.cyp_goal.specs.Renamed.{AreNewNames, rename_node}
use Rattle.cyp_goal.specs.Raw.{is_sorted}
use Rattle.cyp_heap.specs.Goals.{node_vars}
use Rattle.cyp_heap.specs.declared.goal.Node.{Node}
use Rattle.cyp_term.specs.Terms.{var_in}
use Rattle.cyp_term.specs.declared.term.Var.{Var}

-- the variables that stand in a node or are named as its existentials
abbrev pub known_vars : Node → List Var
known_vars n = node_vars n ++ n.goal.exist

-- the same node; what its program variables were called is renamed
abbrev pub rename_old : (Var → Var) → Renaming → Renaming
rename_old r s = record { node = s.node; old = map r s.old }

-- a node under new names has the normal form that it had, or none where it had none
abbrev pub RenamingLaw : Type 0
RenamingLaw = (r : Var → Var) (n : Node) → AreNewNames (known_vars n) r → IsTrue (is_sorted n)
    → normal (rename_node r n) ≡ option_map (rename_old r) (normal n)

-- where the program variables keep their names the normal form stays as it was
abbrev pub LogicalRenamingLaw : Type 0
LogicalRenamingLaw = (r : Var → Var) (n : Node) → AreNewNames (known_vars n) r → IsTrue (is_sorted n) → ((v : Var) → var_in v n.goal.program ≡ true → r v ≡ v)
    → normal (rename_node r n) ≡ normal n
