-- The program variables of what Read and Alloc leave: those that were there, and the new one.
use Rattle.std.proofs.Common.{◌≡◌, ◌++◌, ℕ, List, [], ◌∷◌, Bool, true, false, Option, Some, None, refl, sym, subst}
use Rattle.std.specs.Prelude.{slice_get}
use Rattle.std.proofs.lemmas.Bool.{false≢true}
use Rattle.std.proofs.lemmas.Option.{none-some, option_and_then_some, same_Some}
use Rattle.cyp_goal.specs.Normal.{Renaming}
use Rattle.cyp_heap.specs.declared.chunk.Chunk.{Chunk}
use Rattle.cyp_heap.specs.declared.chunk.Chunk.TheVariants.{Block, Cell, Inst}
use Rattle.cyp_heap.specs.declared.goal.Node.{Node}
use Rattle.cyp_kernel.specs.Compile.{is_binder}
use Rattle.cyp_step.specs.Changes.{new_int, pre_of, where_true}
use Rattle.cyp_step.specs.FlatRules.{raw_alloc, raw_read}
use Rattle.cyp_step.specs.Step.{all_normal, raws, renamed_premises}
use Rattle.cyp_step.specs.declared.rule.Rule.{Rule}
use Rattle.cyp_step.specs.declared.rule.Rule.TheVariants.{ByAlloc, ByCall, ByClose, ByEmp, ByFrame, ByFree, ByInconsistent, ByOpen, ByPick, ByRead, ByWrite}
use Rattle.cyp_term.proofs.Lists.{Among}
use Rattle.cyp_term.specs.declared.term.Var.{Var}
use Rattle.cyp_unify.specs.Frames.{focus}
use Rattle.cyp_print.proofs.OldProgram.{first_is, old_among}

-- one node, with the new program variable behind those of this one
record HasNew (n : Node) (ms : List Node) : Type 0 where
  left : Node
  alone : ms ≡ left ∷ []
  program : left.goal.program ≡ n.goal.program ++ new_int n ∷ []

of_test : (n : Node) (b : Bool) (m : Node) (ms : List Node) → m.goal.program ≡ n.goal.program ++ new_int n ∷ [] → where_true b (Some (m ∷ [])) ≡ Some ms → HasNew n ms
of_test n true m ms p e = record { left = m; alone = sym (same_Some (m ∷ []) ms e); program = p }
of_test n false m ms p e = absurd (none-some ms e)

read_new : (n : Node) (i : ℕ) (o : Option Chunk) (ms : List Node) → raw_read n i o ≡ Some ms → HasNew n ms
read_new n i None ms e = absurd (none-some ms e)
read_new n i (Some (Inst j)) ms e = absurd (none-some ms e)
read_new n i (Some (Block b)) ms e = absurd (none-some ms e)
read_new n i (Some (Cell c)) ms e = of_test n _ _ ms refl e

alloc_new : (n : Node) (o : Option Chunk) (ms : List Node) → raw_alloc n o ≡ Some ms → HasNew n ms
alloc_new n None ms e = absurd (none-some ms e)
alloc_new n (Some (Inst j)) ms e = absurd (none-some ms e)
alloc_new n (Some (Cell c)) ms e = absurd (none-some ms e)
alloc_new n (Some (Block b)) ms e = of_test n _ _ ms refl e

new_left : (n : Node) (r : Rule) (ms : List Node) → is_binder r ≡ true → raws n r ≡ Some ms → HasNew n ms
new_left n ByInconsistent ms b e = absurd (false≢true b)
new_left n ByEmp ms b e = absurd (false≢true b)
new_left n (ByRead i) ms b e = read_new n i (slice_get (pre_of n) i) ms e
new_left n (ByFrame i) ms b e = absurd (false≢true b)
new_left n (ByWrite i) ms b e = absurd (false≢true b)
new_left n (ByFree i) ms b e = absurd (false≢true b)
new_left n ByAlloc ms b e = alloc_new n (focus n.goal) ms e
new_left n (ByCall c) ms b e = absurd (false≢true b)
new_left n (ByOpen i) ms b e = absurd (false≢true b)
new_left n (ByClose c) ms b e = absurd (false≢true b)
new_left n (ByPick u) ms b e = absurd (false≢true b)

-- each program variable of the premise was one of the node's, or is the new one
pub old_or_new : (n : Node) (r : Rule) (x : Renaming) (xs : List Renaming) → is_binder r ≡ true → renamed_premises n r ≡ Some (x ∷ xs) → (v : Var) → Among v x.old
    → Among v (n.goal.program ++ new_int n ∷ [])
old_or_new n r x xs b e v k =
    option_and_then_some all_normal (raws n r) (x ∷ xs) e (λ ms left normals.
    let new : HasNew n ms = new_left n r ms b left in
    let done = subst (λ (ns : List Node). all_normal ns ≡ Some (x ∷ xs)) new.alone normals in
    subst (Among v) new.program (old_among new.left x (first_is new.left [] x xs done) v k))
