-- The entries of an unfolding have the sorts of their places, and a fact of arguments and new variables holds of their variables.
use Rattle.std.proofs.Common.{◌≡◌, refl, sym, ℕ, zero, suc, ◌≤◌, true, ◌&&◌, ◌==◌, List, [], ◌∷◌, is_none, length, map, flat_map, Option, Some, None, slice_get, subst}
use Rattle.std.specs.List.{AllByRecursion, list_all}
use Rattle.std.proofs.lemmas.Bool.{and_from, and_parts}
use Rattle.cyp_goal.proofs.EachVar.{Each, first}
use Rattle.cyp_goal.specs.Raw.{arg_fits}
use Rattle.cyp_heap.specs.Chunks.{apply_chunk, arg_vars, card_vars, insts}
use Rattle.cyp_heap.specs.Formed.{inst_fits}
use Rattle.cyp_heap.specs.PredsFormed.{IsFormedPreds, insts_plain, is_closed}
use Rattle.cyp_heap.specs.declared.chunk.Chunk.{Chunk}
use Rattle.cyp_heap.specs.declared.chunk.Chunk.TheVariants.{Block, Cell, Inst}
use Rattle.cyp_heap.specs.declared.chunk.InstOf.{InstOf}
use Rattle.cyp_heap.specs.declared.pred.Clause.{Clause}
use Rattle.cyp_heap.specs.declared.pred.Pred.{Pred}
use Rattle.cyp_heap.specs.declared.pred.Preds.{Preds}
use Rattle.cyp_kernel.proofs.AgreeVars.{is_number_var}
use Rattle.cyp_kernel.proofs.AppliedVars.{joined}
use Rattle.cyp_kernel.proofs.SteadyParts.{slice_get-among}
use Rattle.cyp_kernel.proofs.UnfoldVars.{ArgHas, ChunkHas, ChunkPlain, ClauseFits, LitHas, NewHave, UnfoldedHas, below, chunk_has, lit_has, one_var, sorted, up, self}
use Rattle.cyp_pred.specs.Unfold.{below_card, card_var, clause_subst, clauses_of, count_from, new_card, unfold_clause, unfold_inst, with_tags}
use Rattle.cyp_pred.specs.declared.unfolded.Next.{Next}
use Rattle.cyp_term.proofs.Lists.{Every-among, Every-append, Every-from_among, each_at, map_from}
use Rattle.cyp_term.specs.Terms.{apply_lit, is_set_var}
use Rattle.cyp_term.specs.declared.lit.Lit.{Lit}
use Rattle.cyp_term.specs.declared.subst.Subst.{Subst}
use Rattle.cyp_term.specs.declared.term.Var.{Var}

-- ---- the clauses of formed predicates

-- its instances have no cardinalities, and its variables are counted
pub record ClauseRight (c : Clause) : Type 0 where
  pub plain : AllByRecursion ChunkPlain c.heap.chunks
  pub closed : is_closed c ≡ true

chunks_plain : (preds : Preds) (cs : List Chunk) → list_all (λ (i : InstOf). inst_fits preds i && is_none i.card && (i.tag == 0)) (insts cs) ≡ true → AllByRecursion ChunkPlain cs
chunks_plain preds [] h = tt
chunks_plain preds (Inst i ∷ cs) h =
    let both = and_parts (inst_fits preds i && is_none i.card && (i.tag == 0)) (list_all (λ (i : InstOf). inst_fits preds i && is_none i.card && (i.tag == 0)) (insts cs)) h in
    ((and_parts (inst_fits preds i) (is_none i.card) (and_parts (inst_fits preds i && is_none i.card) (i.tag == 0) both.0).0).1, chunks_plain preds cs both.1)
chunks_plain preds (Block b ∷ cs) h = (tt, chunks_plain preds cs h)
chunks_plain preds (Cell c ∷ cs) h = (tt, chunks_plain preds cs h)

pub clauses_right : (preds : Preds) → IsFormedPreds preds → (k : ℕ) → AllByRecursion ClauseRight (clauses_of (slice_get preds.list k))
clauses_right preds f k = of_pred (slice_get preds.list k) refl
  where
    of_pred : (o : Option Pred) → slice_get preds.list k ≡ o → AllByRecursion ClauseRight (clauses_of o)
    of_pred None e = tt
    of_pred (Some q) e =
        let m = slice_get-among preds.list k q e in
        let plain = each_at (λ (q : Pred). list_all (λ (c : Clause). insts_plain preds c) q.clauses) q preds.list f.instances_plain m in
        let closed = each_at (λ (q : Pred). list_all (λ (c : Clause). is_closed c) q.clauses) q preds.list f.closed m in
        Every-from_among ClauseRight q.clauses (λ c i. record {
          plain = chunks_plain preds c.heap.chunks (each_at (λ (c : Clause). insts_plain preds c) c q.clauses plain i);
          closed = each_at (λ (c : Clause). is_closed c) c q.clauses closed i;
        })

-- ---- entries

module _ (K : Var → Type 0) (j : InstOf) (next : Next) (new : NewHave K next) (args : AllByRecursion (ArgHas K) j.args)
    (card_sorted : list_all is_number_var (card_vars j.card) ≡ true) (card_has : Each K (card_vars j.card)) where
  new_card_sorted : (o : Option Var) (k : ℕ) → list_all is_number_var (card_vars (new_card o k)) ≡ true
  new_card_sorted None k = refl
  new_card_sorted (Some a) k = refl

  new_card_has : (o : Option Var) (k : ℕ) → next.cards ≤ k → Each K (card_vars (new_card o k))
  new_card_has None k l v m = absurd m
  new_card_has (Some a) k l v m = one_var K (card_var k) (new.cards k l) v m

  tags_have : (tag k : ℕ) (cs : List Chunk) → next.cards ≤ k → AllByRecursion (ChunkHas K) cs → AllByRecursion (ChunkHas K) (with_tags j.card tag k cs)
  tags_have tag k [] l h = tt
  tags_have tag k (Inst i ∷ cs) l h = (
    (
      and_from (list_all (arg_fits is_number_var is_set_var) i.args) (list_all is_number_var (card_vars (new_card j.card k)))
          (and_parts (list_all (arg_fits is_number_var is_set_var) i.args) (list_all is_number_var (card_vars i.card)) h.0.0).0 (new_card_sorted j.card k),
      joined K (flat_map arg_vars i.args) (card_vars (new_card j.card k)) (first K (flat_map arg_vars i.args) (card_vars i.card) h.0.1) (new_card_has j.card k l),
    ),
    tags_have tag (suc k) cs (up next.cards k l) h.1,
  )
  tags_have tag k (Block b ∷ cs) l h = (h.0, tags_have tag k cs l h.1)
  tags_have tag k (Cell c ∷ cs) l h = (h.0, tags_have tag k cs l h.1)

  below_has : (o : Option Var) → list_all is_number_var (card_vars o) ≡ true → Each K (card_vars o) → (k m : ℕ) → next.cards ≤ k → AllByRecursion (LitHas K) (below_card o (count_from k m))
  below_has None h e k m l = tt
  below_has (Some a) h e k zero l = tt
  below_has (Some a) h e k (suc m) l =
      ((h, joined K (card_var k ∷ []) (a ∷ []) (one_var K (card_var k) (new.cards k l)) e), below_has (Some a) h e (suc k) m (up next.cards k l))

  entry_has : (c : Clause) → ClauseRight c → UnfoldedHas K (unfold_clause j next c)
  entry_has c r =
      let by : Subst = clause_subst j.args c next in
      let here : ClauseFits is_number_var is_set_var c = sorted K j next new args c r.plain r.closed in
      let counted = below K j next new args c r.plain r.closed in
      let lits : List Lit = map (apply_lit by) c.lits in
      let chunks : List Chunk = map (apply_chunk by) c.heap.chunks in
      let less : List Lit = below_card j.card (count_from next.cards (length (insts chunks))) in
      record {
        lits = (
          lit_has K j next new args c r.plain r.closed c.guard here.guard counted.guard,
          Every-append (LitHas K) lits less
              (Every-from_among (LitHas K) lits (λ l m.
              let x = map_from (apply_lit by) l c.lits m in
              subst (LitHas K) (sym x.2)
              (lit_has K j next new args c r.plain r.closed x.0 (each_at _ x.0 c.lits here.lits x.1) (each_at _ x.0 c.lits counted.lits x.1))))
              (below_has j.card card_sorted card_has next.cards (length (insts chunks)) (self next.cards)),
        );
        chunks = tags_have (suc j.tag) next.cards chunks (self next.cards)
            (Every-from_among (ChunkHas K) chunks (λ d m.
            let x = map_from (apply_chunk by) d c.heap.chunks m in
            subst (ChunkHas K) (sym x.2)
            (chunk_has K j next new args c r.plain r.closed x.0 (Every-among ChunkPlain x.0 c.heap.chunks r.plain x.1) (each_at _ x.0 c.heap.chunks here.chunks x.1) (each_at _ x.0 c.heap.chunks counted.chunks x.1))));
      }

  each_entry : (cs : List Clause) → AllByRecursion ClauseRight cs → AllByRecursion (UnfoldedHas K) (map (unfold_clause j next) cs)
  each_entry [] h = tt
  each_entry (c ∷ cs) h = (entry_has c h.0, each_entry cs h.1)

  pub entries_have : (preds : Preds) → IsFormedPreds preds → AllByRecursion (UnfoldedHas K) (unfold_inst preds j next)
  entries_have preds f = each_entry (clauses_of (slice_get preds.list j.pred)) (clauses_right preds f j.pred)
