-- What is known of the goal of a text before its normal form is judged.
use Rattle.std.specs.Prelude.{None, Option, Some, false, true, ◌≡◌}
use Rattle.cyp_heap.specs.Limits.{is_goal_within}
use Rattle.cyp_heap.specs.declared.goal.Goal.{Goal}
use Rattle.cyp_reading.specs.Mended.{mended_text}
use Rattle.cyp_names.specs.Specifications.{read_goal}
use Rattle.cyp_text.specs.declared.tree.TextTree.{TextTree}

-- there is none where a limit is passed as it is written, and else it is that of the text with sizes of blocks brought into 1 to 8
abbrev pub IsWritten : TextTree → Option Goal → Type 0
IsWritten t None = is_goal_within (read_goal t) ≡ false
IsWritten t (Some g) = (is_goal_within (read_goal t) ≡ true) × (g ≡ read_goal (mended_text t))
