-- Open and Close leave what the rules ask.
use Rattle.std.proofs.Common.{◌≡◌, refl, sym, ap, ◌∙◌, ℕ, zero, suc, ◌-◌, ◌≤◌, arith, true, false, not, ◌&&◌, List, [], ◌∷◌, ◌++◌, IfSome, Option, Some, None, inl, inr, filter, flat_map, length, map, nat_lt, slice_get, subst}
use Rattle.std.specs.List.{AllByRecursion, list_all}
use Rattle.std.proofs.lemmas.Bool.{and_from, and_parts, false_from_ne_true, not-true, or_from}
use Rattle.std.proofs.lemmas.List.Folds.{list_any-append}
use Rattle.cyp_goal.proofs.EachVar.{Each, EachPart, first, link_vars, second}
use Rattle.cyp_goal.proofs.Live.{in_among}
use Rattle.cyp_goal.specs.Raw.{arg_fits, images_fit, set_fits, term_fits}
use Rattle.cyp_heap.specs.Chunks.{arg_vars, card_vars, chunk_vars, put_all, without}
use Rattle.cyp_heap.specs.Formed.{all_differ}
use Rattle.cyp_heap.specs.Goals.{image_vars, node_vars}
use Rattle.cyp_heap.specs.PredsFormed.{IsFormedPreds}
use Rattle.cyp_heap.specs.declared.chunk.Chunk.{Chunk}
use Rattle.cyp_heap.specs.declared.chunk.Chunk.TheVariants.{Block, Cell, Inst}
use Rattle.cyp_heap.specs.declared.chunk.InstOf.{InstOf}
use Rattle.cyp_heap.specs.declared.goal.Link.{Link}
use Rattle.cyp_heap.specs.declared.goal.Node.{Node}
use Rattle.cyp_kernel.proofs.AgreeVars.{chunk_sorted, is_number_var, lit_sorted}
use Rattle.cyp_kernel.proofs.AppliedVars.{joined}
use Rattle.cyp_kernel.proofs.NewNumber.{int_var, old_parts}
use Rattle.cyp_kernel.proofs.OldVars.{IsOld}
use Rattle.cyp_kernel.proofs.RuleClose.{from_first, own_apart, own_vars}
use Rattle.cyp_kernel.proofs.SteadyFlat.{AreSettled, differ_join}
use Rattle.cyp_kernel.proofs.SteadyNodes.{alone_steady, ChunkClear, ChunkSorted, Clear, CompanionSteady, IsSettled, LinkClear, LitClear, LitSorted, both_tests, both_vars, each_both, exist_old, fresh_clear, new_clear, settled_node, tests_true}
use Rattle.cyp_kernel.proofs.UnfoldEntries.{entries_have}
use Rattle.cyp_kernel.proofs.UnfoldParams.{set_numbered}
use Rattle.cyp_kernel.proofs.UnfoldVars.{ArgHas, ChunkHas, LitHas, NewHave, UnfoldedHas}
use Rattle.cyp_kernel.specs.SteadyLaws.{IsSteadyNode}
use Rattle.cyp_pred.specs.Unfold.{card_var, count_from, new_ints, new_sets, unfold_inst}
use Rattle.cyp_pred.specs.declared.unfolded.Next.{Next}
use Rattle.cyp_pred.specs.declared.unfolded.Unfolded.{Unfolded}
use Rattle.cyp_step.proofs.ChunkLists.{Every-map, Every-put_all, Every-slice_get, Every-without}
use Rattle.cyp_step.proofs.RawNodes.{by_option, by_test}
use Rattle.cyp_step.specs.Changes.{next_of, post_of, pre_of}
use Rattle.cyp_step.specs.Unfolding.{card_terms, cards_of, identity_map, is_testable, last_tuple, open_link, open_premise, raw_close, raw_open}
use Rattle.cyp_term.proofs.Lists.{Among, Among-right, Every-among, Every-append, Every-from_among, each_from, filter_out, flat_in, flat_out, map_from}
use Rattle.cyp_term.specs.Terms.{is_set_var, lit_vars, set_var, set_vars, term_vars, var_eq, var_in, var_term}
use Rattle.cyp_term.specs.declared.subst.IntBind.{IntBind}
use Rattle.cyp_term.specs.declared.subst.SetBind.{SetBind}
use Rattle.cyp_term.specs.declared.term.Sort.{Sort}
use Rattle.cyp_term.specs.declared.term.Sort.TheVariants.{Int, Set}
use Rattle.cyp_term.specs.declared.term.Term.{Term}
use Rattle.cyp_term.specs.declared.term.Var.{Var}

abbrev Any : Var → Type 0
Any v = Unit {0}

abbrev TermSorted : Term → Type 0
TermSorted t = term_fits is_number_var t ≡ true

pub each_weaker : {A : Type 0} (P Q : A → Type 0) → ((x : A) → P x → Q x) → (xs : List A) → AllByRecursion P xs → AllByRecursion Q xs
each_weaker P Q f [] h = tt
each_weaker P Q f (x ∷ xs) h = (f x h.0, each_weaker P Q f xs h.1)

-- ---- the variables that a clause makes existentials

module _ (o : Sort) where
  abbrev of_number : ℕ → Var
  of_number j = record { sort = o; number = j }

  numbers_differ : (a m : ℕ) → all_differ (map of_number (count_from a m)) ≡ true
  numbers_differ a zero = refl
  numbers_differ a (suc m) =
      and_from (not (var_in (of_number a) (map of_number (count_from (suc a) m)))) (all_differ (map of_number (count_from (suc a) m)))
      (ap not (false_from_ne_true (var_in (of_number a) (map of_number (count_from (suc a) m))) (λ e.
      let r = map_from of_number (of_number a) (count_from (suc a) m) (in_among (of_number a) (map of_number (count_from (suc a) m)) e) in
      apart a r.0 (ap (λ (v : Var). v.number) r.2) (from_first r.0 (suc a) m r.1))))
      (numbers_differ (suc a) m)
    where
      apart : (a j : ℕ) → a ≡ j → suc a ≤ j → ⊥
      apart a j e l = omega arith

sorts_differ : (a b m k : ℕ) → Each (λ v. var_in v (new_sets b k) ≡ false) (new_ints a m)
sorts_differ a b m k v i =
    false_from_ne_true (var_in v (new_sets b k)) (λ e.
    let x = map_from int_var v (count_from a m) i in
    let y = map_from set_numbered v (count_from b k) (in_among v (new_sets b k) e) in
    apart (sym (ap (λ (w : Var). w.sort) x.2) ∙ ap (λ (w : Var). w.sort) y.2))
  where
    apart : Int ≡ Set → ⊥
    apart e = cc

own_differs : (next : Next) (u : Unfolded) → all_differ (own_vars next u) ≡ true
own_differs next u =
    let m : ℕ = u.next.ints - next.ints in
    let k : ℕ = u.next.sets - next.sets in
    differ_join (new_ints next.ints m) (new_sets next.sets k) (numbers_differ Int next.ints m) (numbers_differ Set next.sets k) (sorts_differ next.ints next.sets m k)

module _ (n : Node) (formed : IsFormedPreds n.preds) (w : IsSteadyNode n) where
  abbrev exist : List Var
  exist = n.goal.exist

  abbrev s : IsSettled n
  s = settled_node n w

  -- ---- Close

  close_settled : (u : Unfolded) → UnfoldedHas Any u
      → IsSettled (record n { goal = record n.goal { exist = exist ++ own_vars (next_of n) u; pure_post = n.goal.pure_post ++ (u.guard ∷ u.lits); post = record { chunks = put_all (without (post_of n) 0) u.heap.chunks } } })
  close_settled u has =
      let own : List Var = own_vars (next_of n) u in
      let old : EachPart (IsOld (next_of n)) n = old_parts n in
      let still : (v : Var) → Clear exist v → IsOld (next_of n) v → Clear (exist ++ own) v = (λ v c o.
      list_any-append (var_eq v) exist own ∙ or_from (var_in v exist) (var_in v own) c (own_apart n u v o)) in
      record {
        program_int = s.program_int;
        program_differs = s.program_differs;
        exist_differs = differ_join exist own s.exist_differs (own_differs (next_of n) u) (λ v k. own_apart n u v (exist_old n w v k));
        program = λ v k. still v (s.program v k) (old.program v k);
        pure_pre = each_both lit_sorted lit_vars (Clear (exist ++ own)) n.goal.pure_pre (both_tests lit_sorted lit_vars (Clear exist) n.goal.pure_pre s.pure_pre)
            (λ v k. still v (both_vars lit_sorted lit_vars (Clear exist) n.goal.pure_pre s.pure_pre v k) (old.pure_pre v k));
        pre = each_both chunk_sorted chunk_vars (Clear (exist ++ own)) (pre_of n) (both_tests chunk_sorted chunk_vars (Clear exist) (pre_of n) s.pre)
            (λ v k. still v (both_vars chunk_sorted chunk_vars (Clear exist) (pre_of n) s.pre v k) (old.pre v k));
        pure_post = Every-append LitSorted n.goal.pure_post (u.guard ∷ u.lits) s.pure_post (each_weaker (LitHas Any) LitSorted (λ l h. h.0) (u.guard ∷ u.lits) has.lits);
        post = Every-put_all ChunkSorted (without (post_of n) 0) u.heap.chunks (each_weaker (ChunkHas Any) ChunkSorted (λ c h. h.0) u.heap.chunks has.chunks)
            (Every-without ChunkSorted (post_of n) 0 s.post);
        links = Every-from_among (LinkClear (exist ++ own)) n.links (λ k i.
            let h = Every-among (LinkClear exist) k n.links s.links i in
            (h.0, λ v m. still v (h.1 v m) (old.links v (flat_in link_vars v k n.links i (Among-right v (flat_map term_vars k.tuple) (image_vars k.map) m)))));
        companions = s.companions;
      }

  pub close_steady : (c : ℕ) (o : Option Chunk) → IfSome o ChunkSorted → AreSettled (raw_close n c o)
  close_steady c (Some (Inst j)) h =
      let next : Next = next_of n in
      let entries : List Unfolded = unfold_inst n.preds j next in
      let both = and_parts (list_all (arg_fits is_number_var is_set_var) j.args) (list_all is_number_var (card_vars j.card)) h in
      let args : AllByRecursion (ArgHas Any) j.args = each_both (arg_fits is_number_var is_set_var) arg_vars Any j.args both.0 (λ v k. tt) in
      let all = entries_have Any j next (record { ints = λ k l. tt; sets = λ k l. tt; cards = λ k l. tt }) args both.1 (λ v k. tt) n.preds formed in
      by_test (nat_lt j.tag 255)
      (λ e. rw e
      (by_option (slice_get entries c) (λ d. rw d tt)
      (λ u d. rw d (close_settled u (subst (λ (o : Option Unfolded). IfSome o (UnfoldedHas Any)) d (Every-slice_get (UnfoldedHas Any) entries c all)), tt))))
      (λ e. rw e tt)
  close_steady c _ h = tt

  -- ---- Open

  last_sorted : (ls : List Link) → AllByRecursion (LinkClear exist) ls → AllByRecursion TermSorted (last_tuple ls)
  last_sorted [] h = tt
  last_sorted (l ∷ []) h = sorted_terms l.tuple (and_parts (list_all (term_fits is_number_var) l.tuple) (images_fit is_number_var is_set_var l.map) h.0.0).0
    where
      sorted_terms : (ts : List Term) → list_all (term_fits is_number_var) ts ≡ true → AllByRecursion TermSorted ts
      sorted_terms [] h = tt
      sorted_terms (t ∷ ts) h = let both = and_parts (term_fits is_number_var t) (list_all (term_fits is_number_var) ts) h in (both.0, sorted_terms ts both.1)
  last_sorted (l ∷ m ∷ ls) h = last_sorted (m ∷ ls) h.1

  card_sorted : (o : Option Var) → list_all is_number_var (card_vars o) ≡ true → AllByRecursion TermSorted (card_terms o)
  card_sorted None h = tt
  card_sorted (Some c) h = (h, tt)

  cards_sorted : (cs : List Chunk) → AllByRecursion (ChunkClear exist) cs → AllByRecursion TermSorted (cards_of cs)
  cards_sorted [] h = tt
  cards_sorted (Inst i ∷ cs) h =
      Every-append TermSorted (card_terms i.card) (cards_of cs)
      (card_sorted i.card (and_parts (list_all (arg_fits is_number_var is_set_var) i.args) (list_all is_number_var (card_vars i.card)) h.0.0).1) (cards_sorted cs h.1)
  cards_sorted (Block b ∷ cs) h = cards_sorted cs h.1
  cards_sorted (Cell c ∷ cs) h = cards_sorted cs h.1

  abbrev own : List Var
  own = filter (λ v. not (var_in v exist)) (node_vars n)

  abbrev to_int : Var → IntBind
  to_int v = record { var = v; to = var_term v }

  abbrev to_set : Var → SetBind
  to_set v = record { var = v; to = set_var v }

  abbrev ints : List Var
  ints = filter (λ v. not (is_set_var v)) own

  abbrev sets : List Var
  sets = filter is_set_var own

  own_clear : (v : Var) → Among v own → Clear exist v
  own_clear v k = not-true (var_in v exist) (filter_out (λ v. not (var_in v exist)) v (node_vars n) k).1

  map_sorted : images_fit is_number_var is_set_var (identity_map n) ≡ true
  map_sorted =
      and_from (list_all (λ (b : IntBind). term_fits is_number_var b.to) (map to_int ints)) (list_all (λ (b : SetBind). set_fits is_number_var is_set_var b.to) (map to_set sets))
      (each_from (λ (b : IntBind). term_fits is_number_var b.to) (map to_int ints) (λ b k.
      let x = map_from to_int b ints k in
      rw x.2 (and_from (is_number_var x.0) true (filter_out (λ v. not (is_set_var v)) x.0 own x.1).1 refl)))
      (each_from (λ (b : SetBind). set_fits is_number_var is_set_var b.to) (map to_set sets) (λ b k.
      let x = map_from to_set b sets k in
      rw x.2 (and_from (is_set_var x.0 && true) true (and_from (is_set_var x.0) true (filter_out is_set_var x.0 own x.1).1 refl) refl)))

  map_clear : Each (Clear exist) (image_vars (identity_map n))
  map_clear =
      joined (Clear exist) (flat_map (λ (b : IntBind). term_vars b.to) (map to_int ints)) (flat_map (λ (b : SetBind). set_vars b.to) (map to_set sets))
      (λ v k.
      let b = flat_out (λ (b : IntBind). term_vars b.to) v (map to_int ints) k in
      let x = map_from to_int b.0 ints b.1 in
      alone v x.0 (own_clear x.0 (filter_out (λ v. not (is_set_var v)) x.0 own x.1).0) (subst (λ (y : IntBind). Among v (term_vars y.to)) x.2 b.2))
      (λ v k.
      let b = flat_out (λ (b : SetBind). set_vars b.to) v (map to_set sets) k in
      let x = map_from to_set b.0 sets b.1 in
      alone v x.0 (own_clear x.0 (filter_out is_set_var x.0 own x.1).0) (subst (λ (y : SetBind). Among v (set_vars y.to)) x.2 b.2))
    where
      alone : (v w : Var) → Clear exist w → Among v (w ∷ []) → Clear exist v
      alone v w c (inl e) = subst (Clear exist) (sym e) c
      alone v w c (inr m) = absurd m

  link_clear : (i : ℕ) (j : InstOf) → list_all is_number_var (card_vars j.card) ≡ true → LinkClear exist (open_link n i j)
  link_clear i j h =
      let cards : List Term = cards_of (without (pre_of n) i) in
      let sorted = Every-append TermSorted (last_tuple n.links ++ card_terms j.card) cards (Every-append TermSorted (last_tuple n.links) (card_terms j.card) (last_sorted n.links s.links) (card_sorted j.card h))
      (cards_sorted (without (pre_of n) i) (Every-without (ChunkClear exist) (pre_of n) i s.pre)) in (
        and_from (list_all (term_fits is_number_var) (last_tuple n.links ++ card_terms j.card ++ cards)) (images_fit is_number_var is_set_var (identity_map n))
            (tests_true (term_fits is_number_var) (last_tuple n.links ++ card_terms j.card ++ cards) sorted) map_sorted,
        map_clear,
      )

  pub open_steady : (i : ℕ) (o : Option Chunk) → IfSome o (ChunkClear exist) → AreSettled (raw_open n i o)
  open_steady i (Some (Inst j)) h =
      let next : Next = next_of n in
      let entries : List Unfolded = unfold_inst n.preds j next in
      let both = and_parts (list_all (arg_fits is_number_var is_set_var) j.args) (list_all is_number_var (card_vars j.card)) h.0 in
      let args : AllByRecursion (ArgHas (Clear exist)) j.args = each_both (arg_fits is_number_var is_set_var) arg_vars (Clear exist) j.args both.0 (first (Clear exist) (flat_map arg_vars j.args) (card_vars j.card) h.1) in
      let new : NewHave (Clear exist) next = record { ints = λ k l. new_clear n w k l; sets = λ k l. fresh_clear n w (set_numbered k) l; cards = λ k l. fresh_clear n w (card_var k) l } in
      let all = entries_have (Clear exist) j next new args both.1 (second (Clear exist) (flat_map arg_vars j.args) (card_vars j.card) h.1) n.preds formed in
      by_test (nat_lt (length n.links) 4 && nat_lt j.tag 255 && list_all (λ (u : Unfolded). is_testable n.goal u.guard) entries)
      (λ e. rw e
      (Every-map IsSettled (UnfoldedHas (Clear exist)) (open_premise n i (open_link n i j))
      (λ u k. record {
        program_int = s.program_int;
        program_differs = s.program_differs;
        exist_differs = s.exist_differs;
        program = s.program;
        pure_pre = Every-append (LitClear exist) n.goal.pure_pre (u.guard ∷ u.lits) s.pure_pre k.lits;
        pre = Every-put_all (ChunkClear exist) (without (pre_of n) i) u.heap.chunks k.chunks (Every-without (ChunkClear exist) (pre_of n) i s.pre);
        pure_post = s.pure_post;
        post = s.post;
        links = Every-append (LinkClear exist) n.links (open_link n i j ∷ []) s.links (link_clear i j both.1, tt);
        companions = Every-append (CompanionSteady n.preds) n.links (open_link n i j ∷ []) s.companions (alone_steady n w.raw.steady, tt);
      })
      entries all))
      (λ e. rw e tt)
  open_steady i _ h = tt
