-- What Call, Open and Close leave to do.
use Rattle.std.proofs.Common.{◌&&◌, ◌≡◌, ◌∷◌, ℕ, zero, suc, Bool, List, [], None, Option, Some, IfSome, IsTrue, is_none, length, ltb-true, map, nat_lt, refl, slice_get, subst}
use Rattle.std.specs.List.{AllByRecursion, list_all, list_any}
use Rattle.std.specs.Prelude.{◌==◌}
use Rattle.std.proofs.lemmas.Bool.{and_parts, cond_both, false≢true}
use Rattle.cyp_goal.proofs.LinksFit.{FitsPost, FitsPre, applied_insts, passes_first, sides_fit}
use Rattle.cyp_heap.specs.Chunks.{apply_chunk, insts, without}
use Rattle.cyp_heap.specs.Formed.{inst_fits, insts_fit, is_card_var}
use Rattle.cyp_heap.specs.declared.chunk.Chunk.{Chunk}
use Rattle.cyp_heap.specs.declared.chunk.Chunk.TheVariants.{Block, Cell, Inst}
use Rattle.cyp_heap.specs.declared.chunk.InstOf.{InstOf}
use Rattle.cyp_heap.specs.declared.goal.Link.{Link}
use Rattle.cyp_heap.specs.declared.goal.Node.{Node}
use Rattle.cyp_heap.specs.declared.pred.Clause.{Clause}
use Rattle.cyp_heap.specs.declared.pred.Pred.{Pred}
use Rattle.cyp_heap.specs.declared.pred.Preds.{Preds}
use Rattle.cyp_pred.specs.Unfold.{clause_subst, clauses_of, unfold_clause, unfold_inst, with_tags}
use Rattle.cyp_pred.specs.declared.unfolded.Next.{Next}
use Rattle.cyp_pred.specs.declared.unfolded.Unfolded.{Unfolded}
use Rattle.cyp_step.proofs.ChunkLists.{Every-map, Every-put_all, Every-slice_get, Every-without}
use Rattle.cyp_step.proofs.OpenedLink.{opened_linked}
use Rattle.cyp_step.proofs.RawNodes.{AreLeft, IsLeft, by_option, by_test, its_sides, left_goal, left_one}
use Rattle.cyp_step.specs.Calling.{after_call, chunks_at, chunks_beside, is_callable, next_tag, raw_call, with_exist, with_new_cards}
use Rattle.cyp_step.specs.Changes.{next_of, post_of, pre_of}
use Rattle.cyp_step.specs.Nodes.{IsNode, clause_fits, clauses_fit, pred_fits}
use Rattle.cyp_step.specs.Unfolding.{is_testable, open_link, open_premise, raw_close, raw_open}
use Rattle.cyp_term.specs.declared.subst.Subst.{Subst}
use Rattle.cyp_term.specs.declared.term.Var.{Var}
use Rattle.cyp_unify.specs.Matches.{match_at}
use Rattle.cyp_unify.specs.declared.found.Match.{Match}

module _ (preds : Preds) where
  -- the chunks' instances fit their predicates
  abbrev fit : List Chunk → Bool
  fit cs = list_all (inst_fits preds) (insts cs)

  -- ---- new cardinalities and tags

  module _ (tag : ℕ) where
    new_cards_fit : (k : ℕ) (cs : List Chunk) → IsTrue (fit cs) → AllByRecursion (FitsPre preds) (with_new_cards tag k cs)
    new_cards_fit k [] h = tt
    new_cards_fit k (Inst i ∷ cs) h = let both = and_parts (inst_fits preds i) (fit cs) h in ((both.0, refl), new_cards_fit (suc k) cs both.1)
    new_cards_fit k (Block b ∷ cs) h = (tt, new_cards_fit k cs h)
    new_cards_fit k (Cell c ∷ cs) h = (tt, new_cards_fit k cs h)

    tagged_pre : (card : Option Var) → IsTrue (is_card_var card) → (k : ℕ) (cs : List Chunk) → IsTrue (fit cs) → AllByRecursion (FitsPre preds) (with_tags card tag k cs)
    tagged_pre card t k [] h = tt
    tagged_pre None t k (Inst i ∷ cs) h = absurd (false≢true t)
    tagged_pre (Some v) t k (Inst i ∷ cs) h = let both = and_parts (inst_fits preds i) (fit cs) h in ((both.0, refl), tagged_pre (Some v) t (suc k) cs both.1)
    tagged_pre card t k (Block b ∷ cs) h = (tt, tagged_pre card t k cs h)
    tagged_pre card t k (Cell c ∷ cs) h = (tt, tagged_pre card t k cs h)

    tagged_post : (card : Option Var) → IsTrue (is_none card) → (k : ℕ) (cs : List Chunk) → IsTrue (fit cs) → AllByRecursion (FitsPost preds) (with_tags card tag k cs)
    tagged_post card t k [] h = tt
    tagged_post None t k (Inst i ∷ cs) h = let both = and_parts (inst_fits preds i) (fit cs) h in ((both.0, refl), tagged_post None t (suc k) cs both.1)
    tagged_post (Some v) t k (Inst i ∷ cs) h = absurd (false≢true t)
    tagged_post card t k (Block b ∷ cs) h = (tt, tagged_post card t k cs h)
    tagged_post card t k (Cell c ∷ cs) h = (tt, tagged_post card t k cs h)

  -- ---- unfolded clauses

  clauses_of_fit : (qs : List Pred) (k : ℕ) → IsTrue (list_all (pred_fits preds) qs) → IsTrue (list_all (clause_fits preds) (clauses_of (slice_get qs k)))
  clauses_of_fit [] k h = refl
  clauses_of_fit (q ∷ qs) zero h = (and_parts (pred_fits preds q) (list_all (pred_fits preds) qs) h).0
  clauses_of_fit (q ∷ qs) (suc k) h = clauses_of_fit qs k (and_parts (pred_fits preds q) (list_all (pred_fits preds) qs) h).1

  -- each chunk of the entry has the fact where clauses fit
  abbrev EntryFits : (Chunk → Type 0) → Unfolded → Type 0
  EntryFits P u = IsTrue (clauses_fit preds) → AllByRecursion P u.heap.chunks

  module _ (P : Chunk → Type 0) (j : InstOf) (next : Next) (tagged : (cs : List Chunk) → IsTrue (fit cs) → AllByRecursion P (with_tags j.card (suc j.tag) next.cards cs)) where
    each_fits : (cs : List Clause) → (IsTrue (clauses_fit preds) → IsTrue (list_all (clause_fits preds) cs)) → AllByRecursion (EntryFits P) (map (unfold_clause j next) cs)
    each_fits [] h = tt
    each_fits (c ∷ cs) h = (
      λ k. tagged (map (apply_chunk (clause_subst j.args c next)) c.heap.chunks)
          (applied_insts (clause_subst j.args c next) preds c.heap.chunks (and_parts (clause_fits preds c) (list_all (clause_fits preds) cs) (h k)).0),
      each_fits cs (λ k. (and_parts (clause_fits preds c) (list_all (clause_fits preds) cs) (h k)).1),
    )

    entries_fit : AllByRecursion (EntryFits P) (unfold_inst preds j next)
    entries_fit = each_fits (clauses_of (slice_get preds.list j.pred)) (clauses_of_fit preds.list j.pred)

-- ---- chunks that a call leaves alone

beside_kept : (P : Chunk → Type 0) (k : ℕ) (ks : List ℕ) (cs : List Chunk) → AllByRecursion P cs → AllByRecursion P (chunks_beside k ks cs)
beside_kept P k ks [] h = tt
beside_kept P k ks (c ∷ cs) h =
    cond_both (list_any (λ j. j == k) ks) (chunks_beside (suc k) ks cs) (c ∷ chunks_beside (suc k) ks cs) (AllByRecursion P)
    (λ e. beside_kept P (suc k) ks cs h.1)
    (λ e. (h.0, beside_kept P (suc k) ks cs h.1))

module _ (n : Node) (w : IsNode n) where
  pre : AllByRecursion (FitsPre n.preds) n.goal.pre.chunks
  pre = (its_sides n w).pre

  post : AllByRecursion (FitsPost n.preds) n.goal.post.chunks
  post = (its_sides n w).post

  pub called_fits : (l : Link) (f : Match) → IsTrue (insts_fit n.preds l.goal) → AllByRecursion (FitsPre n.preds) (after_call n l f).goal.pre.chunks
  called_fits l f fits =
      let next : Next = next_of n in
      let by : Subst = with_exist next l.goal.exist f.by in
      let tag : ℕ = next_tag (insts (chunks_at (pre_of n) f.pairs)) in
      let chunks : List Chunk = map (apply_chunk by) l.goal.post.chunks in
      let bare : InstOf → Bool = λ i. is_none i.card in
      Every-put_all (FitsPre n.preds) (chunks_beside 0 f.pairs (pre_of n)) (with_new_cards tag next.cards chunks)
      (new_cards_fit n.preds tag next.cards chunks
      (applied_insts by n.preds l.goal.post.chunks (passes_first (inst_fits n.preds) bare l.goal.post.chunks (sides_fit n.preds l.goal fits).post)))
      (beside_kept (FitsPre n.preds) 0 f.pairs (pre_of n) pre)

  pub call_left : (ks : List ℕ) (o : Option Link) → IfSome o (λ (l : Link). IsTrue (insts_fit n.preds l.goal)) → AreLeft n (raw_call n ks o)
  call_left ks None h = tt
  call_left ks (Some l) h =
      by_option (match_at n l ks) (λ e. rw (e, raw_call) tt)
      (λ f e. rw (e, raw_call) (by_test (is_callable n l f) (λ d. rw d (left_one n w _ (called_fits l f h) post)) (λ d. rw d tt)))

  pub open_left : (i : ℕ) (o : Option Chunk) → slice_get (pre_of n) i ≡ o → IfSome o (FitsPre n.preds) → AreLeft n (raw_open n i o)
  open_left i (Some (Inst j)) at h =
      let next : Next = next_of n in
      let entries : List Unfolded = unfold_inst n.preds j next in
      let few : Bool = nat_lt (length n.links) 4 in
      let all : Bool = list_all (λ (u : Unfolded). is_testable n.goal u.guard) entries in
      by_test (few && nat_lt j.tag 255 && all)
      (λ e. rw e
      (let room : IsTrue few = (and_parts few (nat_lt j.tag 255) (and_parts (few && nat_lt j.tag 255) all e).0).0 in
      Every-map (IsLeft n) (EntryFits n.preds (FitsPre n.preds)) (open_premise n i (open_link n i j))
      (λ u k. record {
        same = refl;
        linked = opened_linked n w i j at (ltb-true (length n.links) 4 room) (open_premise n i (open_link n i j) u).goal;
        fits = λ c. record {
          pre = Every-put_all (FitsPre n.preds) (without (pre_of n) i) u.heap.chunks (k c) (Every-without (FitsPre n.preds) (pre_of n) i pre);
          post = post;
        };
      })
      entries
      (entries_fit n.preds (FitsPre n.preds) j next (tagged_pre n.preds (suc j.tag) j.card h.1 next.cards))))
      (λ e. rw e tt)
  open_left i _ at h = tt

  pub close_left : (c : ℕ) (o : Option Chunk) → IfSome o (FitsPost n.preds) → AreLeft n (raw_close n c o)
  close_left c (Some (Inst j)) h =
      let next : Next = next_of n in
      let entries : List Unfolded = unfold_inst n.preds j next in
      by_test (nat_lt j.tag 255)
      (λ e. rw e
      (by_option (slice_get entries c) (λ d. rw d tt)
      (λ u d. rw d (
        left_goal n w _ (λ k. record {
          pre = pre;
          post = Every-put_all (FitsPost n.preds) (without (post_of n) 0) u.heap.chunks
              (subst (λ (o : Option Unfolded). IfSome o (EntryFits n.preds (FitsPost n.preds))) d
              (Every-slice_get (EntryFits n.preds (FitsPost n.preds)) entries c
              (entries_fit n.preds (FitsPost n.preds) j next (tagged_post n.preds (suc j.tag) j.card h.1 next.cards)))
              k)
              (Every-without (FitsPost n.preds) (post_of n) 0 post);
        }),
        tt,
      ))))
      (λ e. rw e tt)
  close_left c _ h = tt
