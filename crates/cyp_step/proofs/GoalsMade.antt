-- Goals that are put together from their parts.
use Rattle.std.proofs.Common.{◌≡◌, ◌∙◌, ◌++◌, ◌&&◌, ◌==◌, ◌∷◌, ℕ, [], Bool, true, false, List, length, not, refl, slice_set, suc, sym, ap, arith}
use Rattle.std.specs.List.{list_any}
use Rattle.std.proofs.lemmas.Bool.{ne_eqb}
use Rattle.cyp_heap.specs.Chunks.{insts, is_inst}
use Rattle.cyp_heap.specs.declared.chunk.CellAt.{CellAt}
use Rattle.cyp_heap.specs.declared.chunk.Chunk.{Chunk}
use Rattle.cyp_heap.specs.declared.chunk.Chunk.TheVariants.{Block, Cell, Inst}
use Rattle.cyp_heap.specs.declared.goal.Goal.{Goal}
use Rattle.cyp_step.specs.FlatGoals.{read_goal, with_post_lit, with_pre}
use Rattle.cyp_term.specs.Terms.{var_term}
use Rattle.cyp_term.specs.declared.lit.Lit.{Lit}
use Rattle.cyp_term.specs.declared.lit.Lit.TheVariants.{Eq}
use Rattle.cyp_term.specs.declared.term.Term.{Term}
use Rattle.cyp_term.specs.declared.term.Var.{Var}

pub post_lit_made : (g h : Goal) (l m : Lit) (ls : List Lit) → h ≡ g → l ≡ m → ls ≡ h.pure_post ++ l ∷ [] → record h { pure_post = ls } ≡ with_post_lit g m
post_lit_made g h l m ls d e f = ap (λ xs. record h { pure_post = xs }) f ∙ (λ i. with_post_lit (d i) (e i))

pub read_made : (g h : Goal) (i : ℕ) (y : Var) (c : CellAt) (t : Term) (cs : List Chunk) (vs : List Var) (ls : List Lit) → t ≡ var_term y
    → cs ≡ slice_set g.pre.chunks i (Cell (record { at = c.at; content = t })) → h ≡ with_pre g cs → vs ≡ h.program ++ y ∷ [] → ls ≡ h.pure_pre ++ Eq t c.content ∷ []
    → record h { program = vs; pure_pre = ls } ≡ read_goal g i y c
read_made g h i y c t cs vs ls e s d v l =
    (λ j. record h { program = v j; pure_pre = l j })
    ∙ ap (λ (k : Goal). record k { program = k.program ++ y ∷ []; pure_pre = k.pure_pre ++ Eq t c.content ∷ [] }) (d ∙ ap (with_pre g) s)
    ∙ ap (λ (u : Term). record g {
      program = g.program ++ y ∷ [];
      pure_pre = g.pure_pre ++ Eq u c.content ∷ [];
      pre = record { chunks = slice_set g.pre.chunks i (Cell (record { at = c.at; content = u })) };
    }) e

-- ---- no instances

none_there : (cs : List Chunk) → (length (insts cs) == 0) ≡ not (list_any is_inst cs)
none_there [] = refl
none_there (Inst i ∷ cs) = ne_eqb (suc (length (insts cs))) 0 (λ e. omega arith)
none_there (Block b ∷ cs) = none_there cs
none_there (Cell c ∷ cs) = none_there cs

module _ (cs ds : List Chunk) (b t : Bool) (d : ds ≡ cs) (e : b ≡ list_any is_inst ds) where
  both : ((length (insts cs) == 0) && t) ≡ (not b && t)
  both = ap (λ u. u && t) (none_there cs ∙ ap not (ap (list_any is_inst) (sym d) ∙ sym e))

  pub with_an_instance : b ≡ true → false ≡ ((length (insts cs) == 0) && t)
  with_an_instance f = sym (both ∙ ap (λ u. not u && t) f)

  pub without_instances : b ≡ false → t ≡ ((length (insts cs) == 0) && t)
  without_instances f = sym (both ∙ ap (λ u. not u && t) f)
