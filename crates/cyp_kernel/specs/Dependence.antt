-- What a side of a goal depends on: the values of its variables, and nothing else.
use Rattle.std.specs.Prelude.{IsTrue, List, not, ◌++◌, ℕ}
use Rattle.std.specs.List.{list_all}
use Rattle.cyp_goal.specs.Raw.{chunk_fits, lit_fits}
use Rattle.cyp_heap.specs.Assertions.{SideHolds}
use Rattle.cyp_heap.specs.Chunks.{chunks_vars}
use Rattle.cyp_heap.specs.Stores.{Store}
use Rattle.cyp_heap.specs.declared.chunk.Chunk.{Chunk}
use Rattle.cyp_heap.specs.declared.pred.Preds.{Preds}
use Rattle.cyp_kernel.specs.Correct.{AgreeBy}
use Rattle.cyp_term.specs.Meaning.{Assignment}
use Rattle.cyp_term.specs.Terms.{is_set_var, lits_vars, var_in}
use Rattle.cyp_term.specs.declared.lit.Lit.{Lit}
use Rattle.cyp_term.specs.declared.term.Var.{Var}

-- the assignments agree at each of the variables, by its sort
abbrev pub AgreeOn : List Var → Assignment → Assignment → Type 0
AgreeOn vs s t = (v : Var) → IsTrue (var_in v vs) → AgreeBy v.sort s t v

-- the variables of the literals and chunks have the sorts of their places
pub record AreSorted (ls : List Lit) (cs : List Chunk) : Type 0 where
  pub lits : IsTrue (list_all (lit_fits (λ v. not (is_set_var v)) is_set_var) ls)
  pub chunks : IsTrue (list_all (chunk_fits (λ v. not (is_set_var v)) is_set_var) cs)

-- a sorted side that holds in an assignment holds in each that agrees with it at the side's variables, in the same heap at the same heights
abbrev pub SideDependsOnVars : Type 0
SideDependsOnVars =
    (preds : Preds) (s t : Assignment) (ls : List Lit) (cs : List Chunk) (h : Store) (ns : List ℕ)
    → AreSorted ls cs → AgreeOn (lits_vars ls ++ chunks_vars cs) s t → SideHolds preds s ls cs h ns → SideHolds preds t ls cs h ns
