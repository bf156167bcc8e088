-- No existential stands on the companion's side of a match's positions.
use Rattle.std.proofs.Common.{◌≡◌, ℕ, false, List, [], ◌∷◌, flat_map, Option, Some, None, sym, subst}
use Rattle.std.specs.List.{AllByRecursion}
use Rattle.cyp_goal.proofs.EachVar.{Each, first, second}
use Rattle.cyp_heap.specs.Chunks.{arg_vars, card_vars, chunk_vars, chunks_vars}
use Rattle.cyp_heap.specs.declared.chunk.Arg.{Arg}
use Rattle.cyp_heap.specs.declared.chunk.Arg.TheVariants.{Int as IntArg, Set as SetArg}
use Rattle.cyp_heap.specs.declared.chunk.Chunk.{Chunk}
use Rattle.cyp_heap.specs.declared.chunk.Chunk.TheVariants.{Block, Cell, Inst}
use Rattle.cyp_kernel.proofs.PairedChunks.{ArePaired}
use Rattle.cyp_kernel.proofs.WalkFinds.{IsFreeOf}
use Rattle.cyp_term.proofs.Lists.{Every-append}
use Rattle.cyp_term.specs.Terms.{term_vars, var_in}
use Rattle.cyp_term.specs.declared.term.Var.{Var}
use Rattle.cyp_unify.specs.Matches.{Position, arg_positions, card_position, positions}

module _ (exist : List Var) where
  -- the variable is no existential
  abbrev IsFree : Var → Type 0
  IsFree v = var_in v exist ≡ false

  args_free : (xs ys : List Arg) → Each IsFree (flat_map arg_vars xs) → AllByRecursion (IsFreeOf exist) (arg_positions xs ys)
  args_free [] ys f = tt
  args_free (x ∷ xs) [] f = tt
  args_free (IntArg x ∷ xs) (IntArg y ∷ ys) f =
      (first IsFree (arg_vars (IntArg x)) (flat_map arg_vars xs) f, args_free xs ys (second IsFree (arg_vars (IntArg x)) (flat_map arg_vars xs) f))
  args_free (SetArg x ∷ xs) (SetArg y ∷ ys) f = (
    first IsFree x.vars (flat_map (λ e. term_vars e) x.elems) (first IsFree (arg_vars (SetArg x)) (flat_map arg_vars xs) f),
    args_free xs ys (second IsFree (arg_vars (SetArg x)) (flat_map arg_vars xs) f),
  )
  args_free (IntArg x ∷ xs) (SetArg y ∷ ys) f = args_free xs ys (second IsFree (arg_vars (IntArg x)) (flat_map arg_vars xs) f)
  args_free (SetArg x ∷ xs) (IntArg y ∷ ys) f = args_free xs ys (second IsFree (arg_vars (SetArg x)) (flat_map arg_vars xs) f)

  card_free : (c d : Option Var) → Each IsFree (card_vars c) → AllByRecursion (IsFreeOf exist) (card_position c d)
  card_free None d f = tt
  card_free (Some c) None f = tt
  card_free (Some c) (Some d) f = (f, tt)

  chunk_free : (c d : Chunk) (k : ℕ) → Each IsFree (chunk_vars c) → AllByRecursion (IsFreeOf exist) (positions c k d)
  chunk_free (Inst i) (Inst j) k f =
      Every-append (IsFreeOf exist) (arg_positions i.args j.args) (card_position i.card j.card)
      (args_free i.args j.args (first IsFree (flat_map arg_vars i.args) (card_vars i.card) f)) (card_free i.card j.card (second IsFree (flat_map arg_vars i.args) (card_vars i.card) f))
  chunk_free (Block b) (Block c) k f = (f, tt)
  chunk_free (Cell b) (Cell c) k f = (first IsFree (term_vars b.at) (term_vars b.content) f, (second IsFree (term_vars b.at) (term_vars b.content) f, tt))
  chunk_free (Inst i) (Block c) k f = tt
  chunk_free (Inst i) (Cell c) k f = tt
  chunk_free (Block b) (Inst j) k f = tt
  chunk_free (Block b) (Cell c) k f = tt
  chunk_free (Cell b) (Inst j) k f = tt
  chunk_free (Cell b) (Block c) k f = tt

  pub positions_free : (present cs : List Chunk) (ks : List ℕ) (ps : List Position) → ArePaired present cs ks ps → Each IsFree (chunks_vars cs) → AllByRecursion (IsFreeOf exist) ps
  positions_free present [] [] ps a f = subst (λ (xs : List Position). AllByRecursion (IsFreeOf exist) xs) (sym a) tt
  positions_free present [] (k ∷ ks) ps a f = absurd a
  positions_free present (c ∷ cs) [] ps a f = absurd a
  positions_free present (c ∷ cs) (k ∷ ks) ps a f =
      subst (λ (xs : List Position). AllByRecursion (IsFreeOf exist) xs) (sym a.5)
      (Every-append (IsFreeOf exist) (positions c k a.0) a.1 (chunk_free c a.0 k (first IsFree (chunk_vars c) (chunks_vars cs) f))
      (positions_free present cs ks a.1 a.6 (second IsFree (chunk_vars c) (chunks_vars cs) f)))
