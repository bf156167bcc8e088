-- The statements that a rule stands for.
use Rattle.std.specs.Prelude.{[], List, None, Option, Some, cond, map, nat_lt, pos, slice_get, slice_index, ℕ, ◌∷◌}
use Rattle.cyp_heap.specs.declared.chunk.Chunk.{Chunk}
use Rattle.cyp_heap.specs.declared.chunk.Chunk.TheVariants.{Block, Cell, Inst}
use Rattle.cyp_heap.specs.declared.goal.Link.{Link}
use Rattle.cyp_heap.specs.declared.goal.Node.{Node}
use Rattle.cyp_kernel.specs.Naming.{Names, expr_of, test_of}
use Rattle.cyp_pred.specs.Unfold.{unfold_inst}
use Rattle.cyp_pred.specs.declared.unfolded.Unfolded.{Unfolded}
use Rattle.cyp_prog.specs.Programs.{Body, Choosing, End, Failing, Giving, Invoking, Loading, Storing, Taking, Then}
use Rattle.cyp_step.specs.Changes.{next_of, pre_of}
use Rattle.cyp_step.specs.Mends.{writes_for}
use Rattle.cyp_step.specs.declared.rule.CallBy.{CallBy}
use Rattle.cyp_step.specs.declared.rule.Rule.{Rule}
use Rattle.cyp_step.specs.declared.rule.Rule.TheVariants.{ByAlloc, ByCall, ByClose, ByEmp, ByFrame, ByFree, ByInconsistent, ByOpen, ByPick, ByRead, ByWrite}
use Rattle.cyp_term.specs.Terms.{apply_term, number_term, var_term}
use Rattle.cyp_term.specs.declared.lit.Lit.{Lit}
use Rattle.cyp_term.specs.declared.term.Term.{Term}
use Rattle.cyp_unify.specs.Frames.{focus}
use Rattle.cyp_unify.specs.Matches.{match_at}
use Rattle.cyp_unify.specs.declared.found.Match.{Match}
use Rattle.cyp_unify.specs.declared.found.Mend.{Mend}

-- the address of a cell or block, and 0 for anything else
abbrev pub chunk_address : Option Chunk → Term
chunk_address (Some (Cell c)) = c.at
chunk_address (Some (Block b)) = b.at
chunk_address _ = number_term (pos 0)

-- the address of the pre chunk at this place
abbrev pub pre_cell_at : Node → ℕ → Term
pre_cell_at n i = chunk_address (slice_get (pre_of n) i)

-- the content of a cell, and 0 for anything else
abbrev pub chunk_content : Option Chunk → Term
chunk_content (Some (Cell c)) = c.content
chunk_content _ = number_term (pos 0)

-- the content of the focus, the postcondition's first chunk: what a write stores
abbrev pub focus_content : Node → Term
focus_content n = chunk_content (focus n.goal)

-- the number of cells of a block, and 0 for anything else
abbrev pub block_size : Option Chunk → ℕ
block_size (Some (Block b)) = b.size
block_size _ = 0

-- the size of the focus, the postcondition's first chunk: how many cells an allocation takes
abbrev pub focus_size : Node → ℕ
focus_size n = block_size (focus n.goal)

-- the body of the first premise; the empty body where there is no premise
abbrev pub first_body : List Body → Body
first_body [] = End
first_body (b ∷ bs) = b

-- the guards of the clauses of the opened instance
abbrev pub guards : Node → Option Chunk → List Lit
guards n (Some (Inst j)) = map (λ (u : Unfolded). u.guard) (unfold_inst n.preds j (next_of n))
guards n _ = []

-- a test for each guard but the last
abbrev pub choose : Names → List Lit → List Body → Body
choose names (g ∷ h ∷ gs) (b ∷ bs) = Then (Choosing (test_of names g) b (choose names (h ∷ gs) bs)) End
choose names gs bs = first_body bs

-- stores in order of cell place
abbrev pub by_cell : Mend → List Mend → List Mend
by_cell m [] = m ∷ []
by_cell m (k ∷ ks) = cond (nat_lt m.cell k.cell) (m ∷ k ∷ ks) (k ∷ by_cell m ks)

-- the stores sorted by the place of their cell
abbrev pub in_cell_order : List Mend → List Mend
in_cell_order [] = []
in_cell_order (m ∷ ms) = by_cell m (in_cell_order ms)

-- one store statement for each of these stores, and then the body
abbrev pub stores : Node → Names → List Mend → Body → Body
stores n names [] b = b
stores n names (m ∷ ms) b = Then (Storing (expr_of names (pre_cell_at n m.cell)) (expr_of names m.value)) (stores n names ms b)

-- the stores as a list, empty where some store that is needed is not possible
abbrev pub kept_mends : Option (List Mend) → List Mend
kept_mends None = []
kept_mends (Some ms) = ms

-- stores, the call on the images of the companion's variables, and what follows; empty without a match
abbrev pub matched_call : Node → Names → List ℕ → CallBy → Body → Link → Option Match → Body
matched_call n names procs c b l None = End
matched_call n names procs c b l (Some f) =
    stores n names (in_cell_order (kept_mends (writes_for n.goal f)))
    (Then (Invoking (slice_index procs c.link) (map (λ v. expr_of names (apply_term f.by (var_term v))) l.goal.program)) b)

-- the statements of a call of this companion by its pairing; the empty body where there is none
abbrev pub linked_call : Node → Names → List ℕ → CallBy → Body → Option Link → Body
linked_call n names procs c b None = End
linked_call n names procs c b (Some l) = matched_call n names procs c b l (match_at n l c.pairs)

-- the stores that a call needs, the call itself and what follows
abbrev pub call_body : Node → Names → List ℕ → CallBy → Body → Body
call_body n names procs c b = linked_call n names procs c b (slice_get n.links c.link)

-- a rule's own statements around those of its premises; a new variable has this number
abbrev pub rule_body : Node → Names → List ℕ → ℕ → Rule → List Body → Body
rule_body n names procs new ByInconsistent bs = Then Failing End
rule_body n names procs new ByEmp bs = End
rule_body n names procs new (ByRead i) bs = Then (Loading new (expr_of names (pre_cell_at n i))) (first_body bs)
rule_body n names procs new (ByFrame i) bs = first_body bs
rule_body n names procs new (ByWrite i) bs = Then (Storing (expr_of names (pre_cell_at n i)) (expr_of names (focus_content n))) (first_body bs)
rule_body n names procs new (ByFree i) bs = Then (Giving (expr_of names (pre_cell_at n i))) (first_body bs)
rule_body n names procs new ByAlloc bs = Then (Taking new (focus_size n)) (first_body bs)
rule_body n names procs new (ByCall c) bs = call_body n names procs c (first_body bs)
rule_body n names procs new (ByOpen i) bs = choose names (guards n (slice_get (pre_of n) i)) bs
rule_body n names procs new (ByClose c) bs = first_body bs
rule_body n names procs new (ByPick u) bs = first_body bs
