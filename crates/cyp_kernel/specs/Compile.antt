-- The program that a derivation stands for.
use Rattle.std.specs.Prelude.{[], ◌&&◌, ◌+◌, ◌++◌, Bool, List, None, Option, Some, cond, decimal, false, length, map, not, suc, true, zip, ℕ, ◌∷◌}
use Rattle.cyp_goal.specs.Normal.{Renaming}
use Rattle.cyp_heap.specs.declared.goal.Node.{Node}
use Rattle.cyp_kernel.specs.Companions.{Proof, Proofs, called_count, is_called}
use Rattle.cyp_kernel.specs.Naming.{Names, expr_of, name_of, param_names}
use Rattle.cyp_kernel.specs.Statements.{rule_body}
use Rattle.cyp_prog.specs.Lexemes.{is_variable_name}
use Rattle.cyp_prog.specs.Programs.{Body, End, Invoking, Procedure, Then}
use Rattle.cyp_tree.specs.Derivations.{Derived, More, NoMore}
use Rattle.cyp_step.specs.Changes.{new_int}
use Rattle.cyp_step.specs.Step.{renamed_premises}
use Rattle.cyp_step.specs.declared.rule.Rule.{Rule}
use Rattle.cyp_step.specs.declared.rule.Rule.TheVariants.{ByAlloc, ByOpen, ByRead}
use Rattle.cyp_term.specs.Terms.{var_term}

-- whether the rule binds a new program variable
abbrev pub is_binder : Rule → Bool
is_binder (ByRead i) = true
is_binder ByAlloc = true
is_binder r = false

-- where the rule binds a variable, the names get that variable with its number, `new`
abbrev pub with_new_name : Node → Rule → ℕ → Names → Names
with_new_name n r new names = cond (is_binder r) (names ++ (new_int n, new) ∷ []) names

-- the number of parameters and binders on the path once the rule has been applied
abbrev pub bound_count : Rule → ℕ → ℕ
bound_count r m = cond (is_binder r) (suc m) m

-- the premise's program variables are called what the node called them
abbrev pub renamed_names : Names → Renaming → Names
renamed_names names r = zip r.node.goal.program (map (name_of names) r.old)

-- the premises' renamings, and an empty list where the rule isn't allowed
abbrev pub renamings : Option (List Renaming) → List Renaming
renamings None = []
renamings (Some rs) = rs

-- the procedures of the links at the premises
abbrev pub with_proc : Rule → ℕ → List ℕ → List ℕ
with_proc (ByOpen i) self procs = procs ++ self ∷ []
with_proc r self procs = procs

-- the names at the first premise; empty where there is no premise
abbrev pub head_names : Names → List Renaming → Names
head_names names [] = []
head_names names (r ∷ rs) = renamed_names names r

-- the renamings of all premises but the first
abbrev pub tail_renamings : List Renaming → List Renaming
tail_renamings [] = []
tail_renamings (r ∷ rs) = rs

-- ---- the body of a derivation

abbrev mutual
  -- `top` where this node begins the procedure `self`; `next` is the number of the next procedure below, `m` counts parameters and binders on the path
  pub body : Bool → ℕ → ℕ → Names → ℕ → List ℕ → Proof → Body
  body top self next names m procs (Derived n r ps) =
      elim (not top && is_called n r ps) [
        | true ↦ Then (Invoking next (map (λ v. expr_of names (var_term v)) n.goal.program)) End
        | false ↦ rule_body n names procs (suc m) r
            (bodies next (with_new_name n r (suc m) names) (renamings (renamed_premises n r)) (bound_count r m) (with_proc r self procs) ps)
      ]

  pub bodies : ℕ → Names → List Renaming → ℕ → List ℕ → Proofs → List Body
  bodies next names rs m procs NoMore = []
  bodies next names rs m procs (More d ds) =
      body false 0 next (head_names names rs) m procs d ∷ bodies (next + called_count d) names (tail_renamings rs) m procs ds

-- the body of the procedure of this number that begins at the derivation
abbrev pub procedure_body : ℕ → List ℕ → Proof → Body
procedure_body self procs (Derived n r ps) = body true self (suc self) (param_names n) (length n.goal.program) procs (Derived n r ps)

-- ---- procedures

-- the main name, `_` and a number
abbrev pub auxiliary_name : List ℕ → ℕ → List ℕ
auxiliary_name main k = main ++ (95 ∷ decimal k)

-- the procedure that begins at the derivation, with a parameter for each program variable of its goal
abbrev pub procedure : List ℕ → ℕ → List ℕ → Proof → Procedure
procedure name self procs (Derived n r ps) =
    record { name = name; params = length n.goal.program; body = procedure_body self procs (Derived n r ps) }

abbrev mutual
  -- the procedures of called companions in preorder, numbered from `next` on
  pub procedures : List ℕ → ℕ → List ℕ → Proof → List Procedure
  procedures main next procs (Derived n r ps) =
      elim (is_called n r ps) [
        | true ↦ procedure (auxiliary_name main next) next procs (Derived n r ps) ∷ procedures_in main (suc next) (with_proc r next procs) ps
        | false ↦ procedures_in main next (with_proc r 0 procs) ps
      ]

  pub procedures_in : List ℕ → ℕ → List ℕ → Proofs → List Procedure
  procedures_in main next procs NoMore = []
  procedures_in main next procs (More d ds) = procedures main next procs d ++ procedures_in main (next + called_count d) procs ds

-- ---- the whole program

-- the main procedure's name: the given one, with `_0` behind it where it would read as a variable
abbrev pub main_name : List ℕ → List ℕ
main_name name = cond (is_variable_name name) (name ++ 95 ∷ 48 ∷ []) name

-- the program: the main procedure, and one for each other called companion
abbrev pub program_of : List ℕ → Proof → List Procedure
program_of name (Derived n r ps) =
    procedure (main_name name) 0 [] (Derived n r ps) ∷ procedures_in (main_name name) 1 (with_proc r 0 []) ps
