-- The lines of a derivation by rules that unfold and call nothing, step by step.
use Rattle.std.specs.Prelude.{[], ◌++◌, List, codes, cond, false, length, map, suc, zero, zip, ℕ, ◌∷◌}
use Rattle.cyp_goal.specs.Normal.{Renaming}
use Rattle.cyp_heap.specs.declared.goal.Node.{Node}
use Rattle.cyp_kernel.specs.Companions.{Proof}
use Rattle.cyp_kernel.specs.Compile.{body, renamings, with_new_name}
use Rattle.cyp_kernel.specs.Naming.{Names, expr_of, name_of, param_names}
use Rattle.cyp_kernel.specs.Statements.{focus_content, focus_size, pre_cell_at}
use Rattle.cyp_prog.specs.ProgramText.{Bytes, body_text, statement_text, var_text}
use Rattle.cyp_prog.specs.Programs.{Failing, Giving, Loading, Storing, Taking}
use Rattle.cyp_step.specs.Step.{renamed_premises}
use Rattle.cyp_step.specs.declared.rule.Rule.{Rule}
use Rattle.cyp_step.specs.declared.rule.Rule.TheVariants.{ByAlloc, ByFree, ByInconsistent, ByRead, ByWrite}
use Rattle.cyp_term.specs.Terms.{var_eq}
use Rattle.cyp_term.specs.declared.term.Var.{Var}
use Rattle.cyp_tree.specs.Follows.{root}

-- the node's program variables by these numbers
abbrev pub names_at : Node → List ℕ → Names
names_at n numbers = zip n.goal.program numbers

-- the number of a variable, or this one where it has no name
abbrev pub number_or : Names → ℕ → Var → ℕ
number_or [] k v = k
number_or (p ∷ ps) k v = cond (var_eq p.0 v) p.1 (number_or ps k v)

-- a rule's own lines in the body of a procedure
abbrev pub own_lines : Names → ℕ → Node → Rule → Bytes
own_lines names new n ByInconsistent = statement_text [] 1 Failing
own_lines names new n (ByRead i) = statement_text [] 1 (Loading new (expr_of names (pre_cell_at n i)))
own_lines names new n (ByWrite i) = statement_text [] 1 (Storing (expr_of names (pre_cell_at n i)) (expr_of names (focus_content n)))
own_lines names new n (ByFree i) = statement_text [] 1 (Giving (expr_of names (pre_cell_at n i)))
own_lines names new n ByAlloc = statement_text [] 1 (Taking new (focus_size n))
own_lines names new n r = []

-- what the program variables of the first premise were called, and nothing where there is none
abbrev pub old_names : List Renaming → List Var
old_names [] = []
old_names (m ∷ ms) = m.old

-- what the program variables of a rule's first premise were called at the node
abbrev pub old_variables : Node → Rule → List Var
old_variables n r = old_names (renamings (renamed_premises n r))

-- what the program variables of a rule's premise are called
abbrev pub next_numbers : Node → Rule → List ℕ → ℕ → List ℕ
next_numbers n r numbers new = map (name_of (with_new_name n r new (names_at n numbers))) (old_variables n r)

-- the lines of a derivation where the root's program variables have these numbers and so many variables have one
abbrev pub lines_from : List ℕ → ℕ → Proof → Bytes
lines_from numbers count d = body_text [] 1 (body false 0 1 (names_at (root d) numbers) count [] d)

-- the lines of the main procedure's body
abbrev pub main_lines : Proof → Bytes
main_lines d = body_text [] 1 (body false 0 1 (param_names (root d)) (length (root d).goal.program) [] d)

-- the parameter at this place, with a comma before it if it isn't the first
abbrev pub parameter_text : ℕ → Bytes
parameter_text zero = var_text 1
parameter_text (suc k) = codes ", " ++ var_text (suc (suc k))
