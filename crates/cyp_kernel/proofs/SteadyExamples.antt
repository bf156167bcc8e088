-- A worked node: reading a cell that is to be left as it is. It is as the rules ask, so is its premise, and its body goes right.
use Rattle.std.proofs.Common.{[], ◌∷◌, ◌++◌, ◌≡◌, ◌<◌, ℕ, zero, suc, Bool, map, option_map, true, false, cond, List, Some, pos, refl, subst, arith}
use Rattle.std.specs.List.{All}
use Rattle.cyp_goal.specs.Normal.{Renaming}
use Rattle.cyp_heap.proofs.PrefixTuples.{IsWellLinked-none}
use Rattle.cyp_heap.specs.PredsFormed.{IsFormedPreds}
use Rattle.cyp_heap.specs.declared.chunk.Chunk.{Chunk}
use Rattle.cyp_heap.specs.declared.chunk.Chunk.TheVariants.{Cell}
use Rattle.cyp_heap.specs.declared.goal.Goal.{Goal}
use Rattle.cyp_heap.specs.declared.goal.Link.{Link}
use Rattle.cyp_heap.specs.declared.goal.Node.{Node}
use Rattle.cyp_heap.specs.declared.pred.Preds.{Preds}
use Rattle.cyp_kernel.proofs.ForgetVars.{agree_self}
use Rattle.cyp_kernel.proofs.NormalRules.{through_normal}
use Rattle.cyp_kernel.proofs.RuleRead.{by_read}
use Rattle.cyp_kernel.proofs.SteadyParts.{slice_get-among}
use Rattle.cyp_kernel.proofs.SteadyRules.{premises_steady}
use Rattle.cyp_kernel.specs.Compile.{renamed_names, renamings}
use Rattle.cyp_kernel.specs.Meets.{BodyMeets, IsNaming, MeetsSoFar}
use Rattle.cyp_kernel.specs.Naming.{Names}
use Rattle.cyp_kernel.specs.NormalRules.{AllMeetRenamed}
use Rattle.cyp_kernel.specs.SteadyLaws.{IsSteadyNode}
use Rattle.cyp_machine.specs.States.{State}
use Rattle.cyp_prog.specs.Programs.{End, Loading, Procedure, Then}
use Rattle.cyp_step.specs.Changes.{new_int}
use Rattle.cyp_step.specs.Nodes.{IsOver}
use Rattle.cyp_step.specs.Step.{nodes_of, raws, renamed_premises}
use Rattle.cyp_step.specs.declared.rule.Rule.TheVariants.{ByRead}
use Rattle.cyp_term.specs.Terms.{var_eq, var_term}
use Rattle.cyp_term.specs.declared.term.Sort.TheVariants.{Int}
use Rattle.cyp_term.specs.declared.term.Var.{Var}

abbrev var : ℕ → Var
var n = record { sort = Int; number = n }

abbrev cell : ℕ → ℕ → Chunk
cell a c = Cell (record { at = var_term (var a); content = var_term (var c) })

abbrev no_preds : Preds
no_preds = record { list = [] }

-- the program has the cell's address
abbrev reading_goal : Goal
reading_goal = record { program = var 0 ∷ []; exist = []; pure_pre = []; pre = record { chunks = cell 0 1 ∷ [] }; pure_post = []; post = record { chunks = cell 0 1 ∷ [] } }

abbrev reading : Node
reading = record { preds = no_preds; goal = reading_goal; links = [] }

no_preds_formed : IsFormedPreds no_preds
no_preds_formed = record {
  few = refl;
  has_clauses = refl;
  few_clauses = refl;
  few_params = refl;
  params_sorted = refl;
  guards_plain = refl;
  guards_apart = refl;
  params_counted = refl;
  closed = refl;
  instances_plain = refl;
  productive = refl;
  clauses_within = refl;
}

reading_steady : IsSteadyNode reading
reading_steady = record {
  node = record { within = refl; raw = record { fits = refl; linked = IsWellLinked-none no_preds reading_goal } };
  raw = record {
    steady = record {
      sorted = refl;
      fits = refl;
      program_int = refl;
      program_differs = refl;
      exist_differs = refl;
      exist_apart = refl;
      exist_images = λ k i v e h. absurd (slice_get-among {A = Link} [] i k e);
    };
    companions = tt;
  };
  free = tt;
  exist_stand = refl;
}

abbrev names : Names
names = (var 0, 1) ∷ []

-- the first premise, and its names
abbrev unnamed : List Renaming → Node
unnamed [] = reading
unnamed (r ∷ rs) = r.node

abbrev read_names : List Renaming → Names
read_names [] = []
read_names (r ∷ rs) = renamed_names (names ++ (new_int reading, 2) ∷ []) r

abbrev read : List Renaming
read = renamings (renamed_premises reading (ByRead 0))

read_steady : All (IsOver no_preds IsSteadyNode) (nodes_of read)
read_steady = premises_steady reading (ByRead 0) (nodes_of read) no_preds_formed reading_steady refl

name_below : (b : Bool) → cond b 1 0 < 2
name_below true = omega arith
name_below false = omega arith

named : IsNaming names (var 0 ∷ []) 2
named = record { keys = refl; below = λ v h. name_below (var_eq (var 0) v) }

-- nothing is left to do for the premise
ends : (ps : List Procedure) (k : ℕ) → AllMeetRenamed ps (names ++ (new_int reading, 2) ∷ []) k read (End ∷ [])
ends ps k = (goes, tt)
  where
    goes : BodyMeets ps (unnamed read).preds (unnamed read).goal (read_names read) k End
    goes s h ns vs side values zero t le run =
        subst (λ (u : State). MeetsSoFar (unnamed read).preds (unnamed read).goal s u) run (record { no_fault = refl; meets_post = λ e. (s, ns, (λ v l. agree_self v.sort s v), (tt, side.1, side.2)) })
    goes s h ns vs side values (suc m) t le run = absurd run.1

reads : (ps : List Procedure) (k : ℕ) → BodyMeets ps no_preds reading_goal names k (Then (Loading 2 (record { var = Some 1; offset = pos 0 })) End)
reads ps k = through_normal (ByRead 0) (by_read 0) ps reading read (End ∷ []) names [] 2 k no_preds_formed reading_steady named refl tt (ends ps k)

-- ---- an existential that doesn't stand in the node isn't the new variable

abbrev hidden : Node
hidden = record { preds = no_preds; goal = record reading_goal { exist = var 2 ∷ [] }; links = [] }

-- Read leaves a program variable above it
above_hidden : option_map (map (λ (m : Node). m.goal.program)) (raws hidden (ByRead 0)) ≡ Some ((var 0 ∷ (var 3 ∷ [])) ∷ [])
above_hidden = refl

still_hidden : option_map (map (λ (m : Node). m.goal.exist)) (raws hidden (ByRead 0)) ≡ Some ((var 2 ∷ []) ∷ [])
still_hidden = refl
