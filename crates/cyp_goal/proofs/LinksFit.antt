-- Instances that fit their predicates, chunk by chunk, and changes of chunks that keep it.
use Rattle.std.proofs.Common.{◌≡◌, ◌&&◌, ◌++◌, Bool, List, [], ◌∷◌, None, Option, Some, IsTrue, is_none, map, refl, slice_get, sym, subst}
use Rattle.std.specs.Bool.{⊤}
use Rattle.std.specs.List.{AllByRecursion, list_all}
use Rattle.std.proofs.lemmas.Bool.{and_from, and_parts}
use Rattle.std.proofs.lemmas.List.Folds.{list_all-append}
use Rattle.cyp_heap.specs.Chunks.{apply_arg, apply_card, apply_chunk, insts}
use Rattle.cyp_heap.specs.Goals.{apply_goal}
use Rattle.cyp_heap.specs.Formed.{fits_pred, inst_fits, insts_fit, is_card_var, sorts_fit}
use Rattle.cyp_heap.specs.declared.chunk.Arg.{Arg}
use Rattle.cyp_heap.specs.declared.chunk.Arg.TheVariants.{Int as IntArg, Set as SetArg}
use Rattle.cyp_heap.specs.declared.chunk.Chunk.{Chunk}
use Rattle.cyp_heap.specs.declared.chunk.Chunk.TheVariants.{Block, Cell, Inst}
use Rattle.cyp_heap.specs.declared.chunk.InstOf.{InstOf}
use Rattle.cyp_heap.specs.declared.goal.Goal.{Goal}
use Rattle.cyp_heap.specs.declared.pred.Pred.{Pred}
use Rattle.cyp_heap.specs.declared.pred.Preds.{Preds}
use Rattle.cyp_goal.proofs.LinksCards.{KeepsCards}
use Rattle.cyp_term.specs.declared.subst.Subst.{Subst}
use Rattle.cyp_term.specs.declared.term.Sort.{Sort}
use Rattle.cyp_term.specs.declared.term.Var.{Var}

-- where the chunk is an instance, it has both tests' answers
abbrev pub InstPasses : (InstOf → Bool) → (InstOf → Bool) → Chunk → Type 0
InstPasses p q (Inst i) = IsTrue (p i) × IsTrue (q i)
InstPasses p q (Block k) = ⊤
InstPasses p q (Cell k) = ⊤

-- an instance of a precondition fits its predicate and has a cardinality
abbrev pub FitsPre : Preds → Chunk → Type 0
FitsPre preds = InstPasses (inst_fits preds) (λ (i : InstOf). is_card_var i.card)

-- an instance of a postcondition fits its predicate and has none
abbrev pub FitsPost : Preds → Chunk → Type 0
FitsPost preds = InstPasses (inst_fits preds) (λ (i : InstOf). is_none i.card)

-- each instance of both sides fits, and has a cardinality just where it should
pub record SidesFit (preds : Preds) (g : Goal) : Type 0 where
  pub pre : AllByRecursion (FitsPre preds) g.pre.chunks
  pub post : AllByRecursion (FitsPost preds) g.post.chunks

-- ---- between the test and the fact

module _ (p q : InstOf → Bool) where
  passes_from : (cs : List Chunk) → IsTrue (list_all p (insts cs)) → IsTrue (list_all q (insts cs)) → AllByRecursion (InstPasses p q) cs
  passes_from [] h k = tt
  passes_from (Inst i ∷ cs) h k =
      let first : IsTrue (p i) × IsTrue (list_all p (insts cs)) = and_parts (p i) (list_all p (insts cs)) h in
      let second : IsTrue (q i) × IsTrue (list_all q (insts cs)) = and_parts (q i) (list_all q (insts cs)) k in
      ((first.0, second.0), passes_from cs first.1 second.1)
  passes_from (Block b ∷ cs) h k = (tt, passes_from cs h k)
  passes_from (Cell c ∷ cs) h k = (tt, passes_from cs h k)

  pub passes_first : (cs : List Chunk) → AllByRecursion (InstPasses p q) cs → IsTrue (list_all p (insts cs))
  passes_first [] h = refl
  passes_first (Inst i ∷ cs) h = and_from (p i) (list_all p (insts cs)) h.0.0 (passes_first cs h.1)
  passes_first (Block b ∷ cs) h = passes_first cs h.1
  passes_first (Cell c ∷ cs) h = passes_first cs h.1

  passes_second : (cs : List Chunk) → AllByRecursion (InstPasses p q) cs → IsTrue (list_all q (insts cs))
  passes_second [] h = refl
  passes_second (Inst i ∷ cs) h = and_from (q i) (list_all q (insts cs)) h.0.1 (passes_second cs h.1)
  passes_second (Block b ∷ cs) h = passes_second cs h.1
  passes_second (Cell c ∷ cs) h = passes_second cs h.1

module _ (preds : Preds) (g : Goal) where
  pub sides_fit : IsTrue (insts_fit preds g) → SidesFit preds g
  sides_fit h =
      let cards : Bool = list_all (λ (i : InstOf). is_card_var i.card) (insts g.pre.chunks) in
      let pres : Bool = list_all (inst_fits preds) (insts g.pre.chunks) in
      let posts : Bool = list_all (inst_fits preds) (insts g.post.chunks) in
      let fit : Bool = list_all (inst_fits preds) (insts g.pre.chunks ++ insts g.post.chunks) in
      let outer : IsTrue (fit && cards) × IsTrue (list_all (λ (i : InstOf). is_none i.card) (insts g.post.chunks)) = and_parts (fit && cards) _ h in
      let inner : IsTrue fit × IsTrue cards = and_parts fit cards outer.0 in
      let both : IsTrue pres × IsTrue posts = and_parts pres posts (subst IsTrue (list_all-append (inst_fits preds) (insts g.pre.chunks) (insts g.post.chunks)) inner.0) in
      record {
        pre = passes_from (inst_fits preds) (λ (i : InstOf). is_card_var i.card) g.pre.chunks both.0 inner.1;
        post = passes_from (inst_fits preds) (λ (i : InstOf). is_none i.card) g.post.chunks both.1 outer.1;
      }

  pub insts_fit_from : SidesFit preds g → IsTrue (insts_fit preds g)
  insts_fit_from s =
      let card : InstOf → Bool = λ i. is_card_var i.card in
      let bare : InstOf → Bool = λ i. is_none i.card in
      and_from _ _
      (and_from _ _
      (subst IsTrue (sym (list_all-append (inst_fits preds) (insts g.pre.chunks) (insts g.post.chunks)))
      (and_from _ _ (passes_first (inst_fits preds) card g.pre.chunks s.pre) (passes_first (inst_fits preds) bare g.post.chunks s.post)))
      (passes_second (inst_fits preds) card g.pre.chunks s.pre))
      (passes_second (inst_fits preds) bare g.post.chunks s.post)

-- ---- substitution

module _ (by : Subst) where
  sorts-map : (xs : List Arg) (ss : List Sort) → IsTrue (sorts_fit xs ss) → IsTrue (sorts_fit (map (apply_arg by) xs) ss)
  sorts-map [] [] h = h
  sorts-map [] (s ∷ ss) h = h
  sorts-map (x ∷ xs) [] h = h
  sorts-map (IntArg t ∷ xs) (s ∷ ss) h = and_from _ _ (and_parts _ (sorts_fit xs ss) h).0 (sorts-map xs ss (and_parts _ (sorts_fit xs ss) h).1)
  sorts-map (SetArg u ∷ xs) (s ∷ ss) h = and_from _ _ (and_parts _ (sorts_fit xs ss) h).0 (sorts-map xs ss (and_parts _ (sorts_fit xs ss) h).1)

  -- the arguments keep their sorts
  fits-map : (i j : InstOf) (q : Option Pred) → j.args ≡ map (apply_arg by) i.args → IsTrue (fits_pred i q) → IsTrue (fits_pred j q)
  fits-map i j None e h = h
  fits-map i j (Some q) e h = rw e (sorts-map i.args q.params h)

  -- the instance with every variable replaced by its image
  abbrev applied : InstOf → InstOf
  applied i = record { pred = i.pred; args = map (apply_arg by) i.args; card = apply_card by i.card; tag = i.tag }

  module _ (preds : Preds) where
    inst_fits-applied : (i : InstOf) → IsTrue (inst_fits preds i) → IsTrue (inst_fits preds (applied i))
    inst_fits-applied i h = fits-map i (applied i) (slice_get preds.list i.pred) refl h

    card_kept : KeepsCards by → (c : Option Var) → IsTrue (is_card_var c) → IsTrue (is_card_var (apply_card by c))
    card_kept k None t = t
    card_kept k (Some v) t = k v t

    none_kept : (c : Option Var) → IsTrue (is_none c) → IsTrue (is_none (apply_card by c))
    none_kept None t = t
    none_kept (Some v) t = t

    applied_pre : KeepsCards by → (cs : List Chunk) → AllByRecursion (FitsPre preds) cs → AllByRecursion (FitsPre preds) (map (apply_chunk by) cs)
    applied_pre k [] h = tt
    applied_pre k (Inst i ∷ cs) h = ((inst_fits-applied i h.0.0, card_kept k i.card h.0.1), applied_pre k cs h.1)
    applied_pre k (Block b ∷ cs) h = (tt, applied_pre k cs h.1)
    applied_pre k (Cell c ∷ cs) h = (tt, applied_pre k cs h.1)

    applied_post : (cs : List Chunk) → AllByRecursion (FitsPost preds) cs → AllByRecursion (FitsPost preds) (map (apply_chunk by) cs)
    applied_post [] h = tt
    applied_post (Inst i ∷ cs) h = ((inst_fits-applied i h.0.0, none_kept i.card h.0.1), applied_post cs h.1)
    applied_post (Block b ∷ cs) h = (tt, applied_post cs h.1)
    applied_post (Cell c ∷ cs) h = (tt, applied_post cs h.1)

    pub applied_sides : KeepsCards by → (g : Goal) → SidesFit preds g → SidesFit preds (apply_goal by g)
    applied_sides k g s = record { pre = applied_pre k g.pre.chunks s.pre; post = applied_post g.post.chunks s.post }

    -- the same without a word on cardinalities
    pub applied_insts : (cs : List Chunk) → IsTrue (list_all (inst_fits preds) (insts cs)) → IsTrue (list_all (inst_fits preds) (insts (map (apply_chunk by) cs)))
    applied_insts [] h = refl
    applied_insts (Inst i ∷ cs) h =
        let both : IsTrue (inst_fits preds i) × IsTrue (list_all (inst_fits preds) (insts cs)) = and_parts (inst_fits preds i) (list_all (inst_fits preds) (insts cs)) h in
        and_from (inst_fits preds (applied i)) (list_all (inst_fits preds) (insts (map (apply_chunk by) cs))) (inst_fits-applied i both.0) (applied_insts cs both.1)
    applied_insts (Block b ∷ cs) h = applied_insts cs h
    applied_insts (Cell c ∷ cs) h = applied_insts cs h
