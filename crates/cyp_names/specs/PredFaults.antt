-- The faults of predicates, and of the sizes of blocks, in a specification whose names and sorts are right.
use Rattle.std.specs.Prelude.{[], Bool, List, None, Option, Some, cond, flat_map, length, nat_le, not, ◌&&◌, ◌++◌, ◌∷◌}
use Rattle.std.specs.List.{list_all, list_any}
use Rattle.cyp_heap.specs.PredsFormed.{is_clause_within, overlap}
use Rattle.cyp_heap.specs.declared.pred.Pred.{Pred}
use Rattle.cyp_lex.specs.declared.fault.Fault.{Fault}
use Rattle.cyp_lex.specs.declared.fault.FaultKind.TheVariants.{GuardsOverlap, TooLarge, Unproductive}
use Rattle.cyp_term.specs.declared.lit.Lit.{Lit}
use Rattle.cyp_names.specs.Bodies.{is_cell, is_instance}
use Rattle.cyp_names.specs.NameFaults.{clauses, fault_at, lit_place}
use Rattle.cyp_names.specs.Specifications.{read_clause, read_pred}
use Rattle.cyp_text.specs.declared.tree.BodyTree.{BodyTree}
use Rattle.cyp_text.specs.declared.tree.ChunkTree.{ChunkTree}
use Rattle.cyp_text.specs.declared.tree.ChunkTree.TheVariants.{BlockOf}
use Rattle.cyp_text.specs.declared.tree.ClauseTree.{ClauseTree}
use Rattle.cyp_text.specs.declared.tree.ParamTree.{ParamTree}
use Rattle.cyp_text.specs.declared.tree.PredTree.{PredTree}

-- ---- guards and cells

-- the guard of a clause, over the variables of the parameters
abbrev pub guard_of : List PredTree → List ParamTree → ClauseTree → Lit
guard_of qs ps c = (read_clause qs ps c).guard

-- the guard and one of these can both hold
abbrev pub overlaps : List Lit → Lit → Bool
overlaps seen g = list_any (λ (h : Lit). overlap h g) seen

-- each guard that can hold beside an earlier one, which is in `seen`
abbrev pub overlap_faults : (ClauseTree → Lit) → List Lit → List ClauseTree → List Fault
overlap_faults guard seen [] = []
overlap_faults guard seen (c ∷ cs) =
    cond (overlaps seen (guard c)) (fault_at GuardsOverlap (lit_place c.guard)) [] ++ overlap_faults guard (seen ++ guard c ∷ []) cs

-- an instance and no cell
abbrev pub unproductive_fault : ClauseTree → List Fault
unproductive_fault c = cond (list_any is_instance c.body.chunks && not (list_any is_cell c.body.chunks)) (fault_at Unproductive c.place) []

-- ---- limits

-- a block has 1 to 8 cells
abbrev pub size_fault : ChunkTree → List Fault
size_fault (BlockOf a p n) = cond (nat_le 1 n && nat_le n 8) [] (fault_at TooLarge p)
size_fault _ = []

-- the wrong sizes of blocks in a body
abbrev pub size_faults : BodyTree → List Fault
size_faults b = flat_map size_fault b.chunks

-- a predicate has at most 8 parameters and 8 clauses, each within the limits of a clause
abbrev pub is_pred_within : Pred → Bool
is_pred_within q = nat_le (length q.params) 8 && nat_le (length q.clauses) 8 && list_all is_clause_within q.clauses

-- the faults of a predicate: its guards, clauses without a cell, sizes of blocks, and its limits at its name
abbrev pub pred_limit_faults : List PredTree → PredTree → List Fault
pred_limit_faults qs q =
    overlap_faults (guard_of qs q.params) [] (clauses q)
    ++ flat_map unproductive_fault (clauses q)
    ++ flat_map (λ (c : ClauseTree). size_faults c.body) (clauses q)
    ++ cond (is_pred_within (read_pred qs q)) [] (fault_at TooLarge q.name.place)

-- a predicate past the 16th
abbrev pub extra_pred_fault : Option PredTree → List Fault
extra_pred_fault None = []
extra_pred_fault (Some q) = fault_at TooLarge q.name.place
