-- What each rule leaves of a plain node is plain.
use Rattle.cyp_goal.proofs.Fits.{ImagesFit, chunk_fits-apply, lit_fits-apply}
use Rattle.cyp_goal.specs.Facts.{facts}
use Rattle.cyp_goal.specs.Normal.{Renaming}
use Rattle.cyp_goal.specs.Raw.{arg_fits, chunk_fits, lit_fits, set_fits, term_fits}
use Rattle.cyp_heap.specs.Chunks.{put, put_all, without, insts, apply_chunk, card_vars}
use Rattle.cyp_heap.specs.Formed.{is_card_var, insts_fit}
use Rattle.cyp_heap.specs.Goals.{node_vars}
use Rattle.cyp_heap.specs.PredsFormed.{IsFormedPreds}
use Rattle.cyp_heap.specs.declared.chunk.Arg.{Arg}
use Rattle.cyp_heap.specs.declared.chunk.Arg.TheVariants.{Int as IntArg, Set as SetArg}
use Rattle.cyp_heap.specs.declared.chunk.Chunk.{Chunk}
use Rattle.cyp_heap.specs.declared.chunk.Chunk.TheVariants.{Block, Cell, Inst}
use Rattle.cyp_heap.specs.declared.chunk.InstOf.{InstOf}
use Rattle.cyp_heap.specs.declared.goal.Goal.{Goal}
use Rattle.cyp_heap.specs.declared.goal.Link.{Link}
use Rattle.cyp_heap.specs.declared.goal.Node.{Node}
use Rattle.cyp_heap.specs.declared.pred.Clause.{Clause}
use Rattle.cyp_heap.specs.declared.pred.Pred.{Pred}
use Rattle.cyp_heap.specs.declared.pred.Preds.{Preds}
use Rattle.cyp_kernel.proofs.Allowed.{mapped_some}
use Rattle.cyp_kernel.proofs.CallEnd.{beside_among}
use Rattle.cyp_kernel.proofs.FramePairs.{pair_of_focus}
use Rattle.cyp_kernel.proofs.NormalEach.{Split, split}
use Rattle.cyp_kernel.proofs.RuleClose.{own_vars}
use Rattle.cyp_kernel.proofs.SteadyFlat.{cells_kept}
use Rattle.cyp_kernel.proofs.SteadyNodes.{each_true, tests_true}
use Rattle.cyp_kernel.proofs.SteadyParts.{pre_chunk_fits, post_chunk_fits}
use Rattle.cyp_kernel.proofs.UnfoldEntries.{ClauseRight, clauses_right}
use Rattle.cyp_kernel.proofs.UnfoldVars.{ClauseFits, closed_fits, int_image_among, set_image_among}
use Rattle.cyp_kernel.specs.SteadyLaws.{IsSteadyNode}
use Rattle.cyp_pred.specs.Unfold.{below_card, card_var, clause_subst, clauses_of, count_from, int_args, new_ints, new_sets, own_ints, own_sets, set_args, unfold_clause, unfold_inst, with_tags}
use Rattle.cyp_pred.specs.declared.unfolded.Next.{Next}
use Rattle.cyp_pred.specs.declared.unfolded.Unfolded.{Unfolded}
use Rattle.cyp_sound.proofs.Time.Measures.{nat_of, AreShort, ends_of, last_end}
use Rattle.cyp_sound.proofs.Time.OpenedMeasures.{numbers_long, opened_bare}
use Rattle.cyp_sound.proofs.Time.Plain.{IsPlain, chunk_plain, is_card, is_int, lit_plain, bind_plain, link_plain}
use Rattle.cyp_sound.proofs.Time.PlainMatches.{goal_from, goal_parts, PlainBinds, add_plain, add_set_plain, link_from, link_parts, match_plain}
use Rattle.cyp_sound.proofs.Time.PlainNormalForm.{normal_plain}
use Rattle.cyp_sound.proofs.Time.PlainSubstitutions.{all_map, fits_plain, chunk_kept, lit_kept}
use Rattle.cyp_sound.specs.Kept.{are_small, is_small}
use Rattle.cyp_step.proofs.ChunkLists.{Every-put, Every-put_all, Every-slice_set, Every-without, Every-map, Every-slice_get}
use Rattle.cyp_step.proofs.OpenedLink.{card_short, cards_short, length-without, pre_short}
use Rattle.cyp_step.proofs.RawNodes.{by_test, by_option}
use Rattle.cyp_step.specs.Calling.{with_exist, with_new_cards, chunks_beside, chunks_at, next_tag, is_callable, raw_call}
use Rattle.cyp_step.specs.Changes.{Raws, pre_of, new_int, post_of, next_of}
use Rattle.cyp_step.specs.FlatRules.{occurs_elsewhere, raw_read, block_cells, first_place, has_exist, is_bare_open, is_cell_at, is_place, pair_at, raw_alloc, raw_frame, raw_free, raw_write, without_cells, equal_vars, new_cells, first_exist, is_universal, raw_pick}
use Rattle.cyp_step.specs.Shown.{is_program_expr, is_open, shown}
use Rattle.cyp_step.specs.Step.{all_normal, nodes_of, raws, renamed_premises, premises}
use Rattle.cyp_step.specs.Unfolding.{card_terms, cards_of, is_testable, last_tuple, open_link, open_premise, raw_close, raw_open}
use Rattle.cyp_step.specs.declared.rule.Rule.{Rule}
use Rattle.cyp_step.specs.declared.rule.Rule.TheVariants.{ByAlloc, ByCall, ByClose, ByEmp, ByFrame, ByFree, ByInconsistent, ByOpen, ByPick, ByRead, ByWrite}
use Rattle.cyp_term.proofs.Equality.{Decides-sort_eq}
use Rattle.cyp_term.proofs.Lists.{Among, Among-cases, each_at, filter_out, each_from}
use Rattle.cyp_term.specs.Entailment.{satisfiable}
use Rattle.cyp_term.specs.Meaning.{Assignment, value}
use Rattle.cyp_term.specs.Terms.{set_var, var_term, is_set_var, sort_eq, apply_lit, var_in}
use Rattle.cyp_term.specs.declared.lit.Lit.{Lit}
use Rattle.cyp_term.specs.declared.lit.Lit.TheVariants.{Lt, Eq}
use Rattle.cyp_term.specs.declared.lit.SetTerm.{SetTerm}
use Rattle.cyp_term.specs.declared.subst.SetBind.{SetBind}
use Rattle.cyp_term.specs.declared.subst.Subst.{Subst}
use Rattle.cyp_term.specs.declared.term.Sort.{Sort}
use Rattle.cyp_term.specs.declared.term.Sort.TheVariants.{Int, Set, Card}
use Rattle.cyp_term.specs.declared.term.Term.{Term}
use Rattle.cyp_term.specs.declared.term.Var.{Var}
use Rattle.cyp_unify.specs.Frames.{focus, frame_pairs, arg_equalities, arg_equality, frame_lits}
use Rattle.cyp_unify.specs.Matches.{add_int, add_set, match_at}
use Rattle.cyp_unify.specs.declared.found.Pair.{Pair}
use Rattle.std.proofs.Common.{⊎_elim, ◌+◌, ◌≡◌, refl, ℕ, true, not, ◌&&◌, length, List, [], ◌∷◌, ◌++◌, map, Option, Some, None, subst, sym, zero, suc, inl, inr, ◌-◌, nat_lt, slice_get, Bool, false, ◌||◌, ◌==◌, ◌∙◌, ap, IfSome, is_none, pos, ◌≤◌, arith, filter}
use Rattle.std.proofs.lemmas.Bool.{and_from, and_parts, or_right, both_ways, not-true, false≢true}
use Rattle.std.proofs.lemmas.List.{length-map, length-append, map-append}
use Rattle.std.proofs.lemmas.List.Elements.{All-from_recursion}
use Rattle.std.proofs.lemmas.Option.{none-some, same_Some, option_and_then_some}
use Rattle.std.specs.List.{AllByRecursion, list_all, All}
use Rattle.std.specs.Prelude.{slice_set}

abbrev ArePlain : Raws → Type 0
ArePlain None = Unit {0}
ArePlain (Some ms) = AllByRecursion IsPlain ms

-- ---- tests of lists

all_append : {A : Type 0} (t : A → Bool) (xs ys : List A) → list_all t xs ≡ true → list_all t ys ≡ true → list_all t (xs ++ ys) ≡ true
all_append t [] ys p q = q
all_append t (x ∷ xs) ys p q = let both = and_parts (t x) (list_all t xs) p in and_from (t x) (list_all t (xs ++ ys)) both.0 (all_append t xs ys both.1 q)

all_without : {A : Type 0} (t : A → Bool) (xs : List A) (i : ℕ) → list_all t xs ≡ true → list_all t (without xs i) ≡ true
all_without t xs i p = tests_true t (without xs i) (Every-without (λ x. t x ≡ true) xs i (each_true t xs p))

all_set : {A : Type 0} (t : A → Bool) (xs : List A) (i : ℕ) (y : A) → t y ≡ true → list_all t xs ≡ true → list_all t (slice_set xs i y) ≡ true
all_set t xs i y q p = tests_true t (slice_set xs i y) (Every-slice_set (λ x. t x ≡ true) xs i y q (each_true t xs p))

all_put : (t : Chunk → Bool) (cs : List Chunk) (c : Chunk) → t c ≡ true → list_all t cs ≡ true → list_all t (put cs c) ≡ true
all_put t cs c q p = tests_true t (put cs c) (Every-put (λ x. t x ≡ true) cs c q (each_true t cs p))

all_put_all : (t : Chunk → Bool) (cs ds : List Chunk) → list_all t ds ≡ true → list_all t cs ≡ true → list_all t (put_all cs ds) ≡ true
all_put_all t cs ds q p = tests_true t (put_all cs ds) (Every-put_all (λ x. t x ≡ true) cs ds (each_true t ds q) (each_true t cs p))

at_place : {A : Type 0} (t : A → Bool) (xs : List A) (i : ℕ) (x : A) → slice_get xs i ≡ Some x → list_all t xs ≡ true → t x ≡ true
at_place t [] i x e h = absurd (none-some x e)
at_place t (y ∷ xs) zero x e h = subst (λ z. t z ≡ true) (same_Some y x e) (and_parts (t y) (list_all t xs) h).0
at_place t (y ∷ xs) (suc i) x e h = at_place t xs i x e (and_parts (t y) (list_all t xs) h).1

-- ---- an unfolding

int_terms : (xs : List Arg) → list_all (arg_fits is_int is_set_var) xs ≡ true → (t : Term) → Among t (int_args xs) → term_fits is_int t ≡ true
int_terms [] h t k = absurd k
int_terms (IntArg x ∷ xs) h t (inl e) = subst (λ (y : Term). term_fits is_int y ≡ true) (sym e) (and_parts (term_fits is_int x) (list_all (arg_fits is_int is_set_var) xs) h).0
int_terms (IntArg x ∷ xs) h t (inr k) = int_terms xs (and_parts (term_fits is_int x) (list_all (arg_fits is_int is_set_var) xs) h).1 t k
int_terms (SetArg x ∷ xs) h t k = int_terms xs (and_parts (set_fits is_int is_set_var x) (list_all (arg_fits is_int is_set_var) xs) h).1 t k

set_terms : (xs : List Arg) → list_all (arg_fits is_int is_set_var) xs ≡ true → (t : SetTerm) → Among t (set_args xs) → set_fits is_int is_set_var t ≡ true
set_terms [] h t k = absurd k
set_terms (SetArg x ∷ xs) h t (inl e) = subst (λ (y : SetTerm). set_fits is_int is_set_var y ≡ true) (sym e) (and_parts (set_fits is_int is_set_var x) (list_all (arg_fits is_int is_set_var) xs) h).0
set_terms (SetArg x ∷ xs) h t (inr k) = set_terms xs (and_parts (set_fits is_int is_set_var x) (list_all (arg_fits is_int is_set_var) xs) h).1 t k
set_terms (IntArg x ∷ xs) h t k = set_terms xs (and_parts (term_fits is_int x) (list_all (arg_fits is_int is_set_var) xs) h).1 t k

new_int_terms : (a m : ℕ) → list_all (term_fits is_int) (map var_term (new_ints a m)) ≡ true
new_int_terms a zero = refl
new_int_terms a (suc m) = new_int_terms (suc a) m

new_set_terms : (a m : ℕ) → list_all (set_fits is_int is_set_var) (map set_var (new_sets a m)) ≡ true
new_set_terms a zero = refl
new_set_terms a (suc m) = new_set_terms (suc a) m

clause_fit : (args : List Arg) (c : Clause) (next : Next) → list_all (arg_fits is_int is_set_var) args ≡ true → ImagesFit is_int is_set_var (clause_subst args c next)
clause_fit args c next h = record {
  ints = λ v to p e.
      let m : List Term = map var_term (new_ints next.ints (own_ints args c)) in
      ⊎_elim (int_terms args h to) (λ k. each_at (term_fits is_int) to m (new_int_terms next.ints (own_ints args c)) k) (Among-cases to (int_args args) m (int_image_among 0 (int_args args ++ m) v to e));
  sets = λ v to p e.
      let m : List SetTerm = map set_var (new_sets next.sets (own_sets args c)) in
      ⊎_elim (set_terms args h to) (λ k. each_at (set_fits is_int is_set_var) to m (new_set_terms next.sets (own_sets args c)) k) (Among-cases to (set_args args) m (set_image_among 0 (set_args args ++ m) v to e));
}

-- what an unfolding brings
record PlainEntry (u : Unfolded) : Type 0 where
  lits : list_all lit_plain (u.guard ∷ u.lits) ≡ true
  chunks : list_all chunk_plain u.heap.chunks ≡ true
  small : list_all is_small u.heap.chunks ≡ true

fit_chunk : (c : Chunk) → chunk_fits is_int is_set_var c ≡ true → chunk_plain c ≡ true
fit_chunk (Inst i) h = (and_parts (list_all (arg_fits is_int is_set_var) i.args) (list_all is_int (card_vars i.card)) h).0
fit_chunk (Block k) h = h
fit_chunk (Cell k) h = h

tags_plain : (o : Option Var) (tag k : ℕ) (cs : List Chunk) → list_all chunk_plain cs ≡ true → list_all chunk_plain (with_tags o tag k cs) ≡ true
tags_plain o tag k [] h = refl
tags_plain o tag k (Inst i ∷ cs) h = let both = and_parts (chunk_plain (Inst i)) (list_all chunk_plain cs) h in and_from (chunk_plain (Inst i)) (list_all chunk_plain (with_tags o tag (suc k) cs)) both.0 (tags_plain o tag (suc k) cs both.1)
tags_plain o tag k (Block b ∷ cs) h = let both = and_parts (chunk_plain (Block b)) (list_all chunk_plain cs) h in and_from (chunk_plain (Block b)) (list_all chunk_plain (with_tags o tag k cs)) both.0 (tags_plain o tag k cs both.1)
tags_plain o tag k (Cell b ∷ cs) h = let both = and_parts (chunk_plain (Cell b)) (list_all chunk_plain cs) h in and_from (chunk_plain (Cell b)) (list_all chunk_plain (with_tags o tag k cs)) both.0 (tags_plain o tag k cs both.1)

tags_small : (o : Option Var) (tag k : ℕ) (cs : List Chunk) → list_all is_small cs ≡ true → list_all is_small (with_tags o tag k cs) ≡ true
tags_small o tag k [] h = refl
tags_small o tag k (Inst i ∷ cs) h = tags_small o tag (suc k) cs h
tags_small o tag k (Block b ∷ cs) h = let both = and_parts (is_small (Block b)) (list_all is_small cs) h in and_from (is_small (Block b)) (list_all is_small (with_tags o tag k cs)) both.0 (tags_small o tag k cs both.1)
tags_small o tag k (Cell b ∷ cs) h = tags_small o tag k cs h

applied_small : (by : Subst) (c : Chunk) → is_small c ≡ true → is_small (apply_chunk by c) ≡ true
applied_small by (Inst i) h = refl
applied_small by (Block b) h = h
applied_small by (Cell c) h = refl

-- cardinalities below another
below_plain : (o : Option Var) → list_all is_card (card_vars o) ≡ true → (ns : List ℕ) → list_all lit_plain (below_card o ns) ≡ true
below_plain None h ns = refl
below_plain (Some a) h [] = refl
below_plain (Some a) h (n ∷ ns) =
    and_from (lit_plain (Lt (var_term (card_var n)) (var_term a))) (list_all lit_plain (below_card (Some a) ns))
    (or_right (lit_fits is_int is_set_var (Lt (var_term (card_var n)) (var_term a))) (term_fits is_card (var_term (card_var n)) && term_fits is_card (var_term a)) h) (below_plain (Some a) h ns)

entry_plain : (j : InstOf) (next : Next) (c : Clause) → list_all (arg_fits is_int is_set_var) j.args ≡ true → list_all is_card (card_vars j.card) ≡ true → ClauseRight c → list_all is_small c.heap.chunks ≡ true
    → PlainEntry (unfold_clause j next c)
entry_plain j next c args card right small =
    let by : Subst = clause_subst j.args c next in
    let fit : ImagesFit is_int is_set_var by = clause_fit j.args c next args in
    let here : ClauseFits is_int is_set_var c = closed_fits is_int is_set_var c right.plain right.closed (λ v e. (and_parts (sort_eq v.sort Int) (nat_lt v.number c.ints) e).0) (λ v e. (and_parts (sort_eq v.sort Set) (nat_lt v.number c.sets) e).0) in
    let chunks : List Chunk = map (apply_chunk by) c.heap.chunks in
    let one : (l : Lit) → lit_fits is_int is_set_var l ≡ true → lit_plain (apply_lit by l) ≡ true = λ l h. fits_plain (apply_lit by l) (lit_fits-apply is_int is_set_var by fit l h) in
    record {
      lits = and_from (lit_plain (apply_lit by c.guard)) _ (one c.guard here.guard)
          (all_append lit_plain (map (apply_lit by) c.lits) (below_card j.card (count_from next.cards (length (insts chunks)))) (all_map (lit_fits is_int is_set_var) lit_plain (apply_lit by) one c.lits here.lits)
          (below_plain j.card card (count_from next.cards (length (insts chunks)))));
      chunks = tags_plain j.card (suc j.tag) next.cards chunks
          (all_map (chunk_fits is_int is_set_var) chunk_plain (apply_chunk by) (λ d h. fit_chunk (apply_chunk by d) (chunk_fits-apply is_int is_set_var by fit d h)) c.heap.chunks here.chunks);
      small = tags_small j.card (suc j.tag) next.cards chunks (all_map is_small is_small (apply_chunk by) (applied_small by) c.heap.chunks small);
    }

small_clauses : (preds : Preds) (k : ℕ) → are_small preds ≡ true → list_all (λ (c : Clause). list_all is_small c.heap.chunks) (clauses_of (slice_get preds.list k)) ≡ true
small_clauses preds k h = of_pred (slice_get preds.list k) refl
  where
    of_pred : (o : Option Pred) → slice_get preds.list k ≡ o → list_all (λ (c : Clause). list_all is_small c.heap.chunks) (clauses_of o) ≡ true
    of_pred None e = refl
    of_pred (Some q) e = at_place (λ (q : Pred). list_all (λ (c : Clause). list_all is_small c.heap.chunks) q.clauses) preds.list k q e h

each_entry : (j : InstOf) (next : Next) (cs : List Clause) → list_all (arg_fits is_int is_set_var) j.args ≡ true → list_all is_card (card_vars j.card) ≡ true → AllByRecursion ClauseRight cs
    → list_all (λ (c : Clause). list_all is_small c.heap.chunks) cs ≡ true → AllByRecursion PlainEntry (map (unfold_clause j next) cs)
each_entry j next [] args card right small = tt
each_entry j next (c ∷ cs) args card right small =
    let both = and_parts (list_all is_small c.heap.chunks) (list_all (λ (c : Clause). list_all is_small c.heap.chunks) cs) small in
    (entry_plain j next c args card right.0 both.0, each_entry j next cs args card right.1 both.1)

entries_plain : (preds : Preds) → IsFormedPreds preds → are_small preds ≡ true → (j : InstOf) (next : Next) → list_all (arg_fits is_int is_set_var) j.args ≡ true → list_all is_card (card_vars j.card) ≡ true
    → AllByRecursion PlainEntry (unfold_inst preds j next)
entries_plain preds formed small j next args card = each_entry j next (clauses_of (slice_get preds.list j.pred)) args card (clauses_right preds formed j.pred) (small_clauses preds j.pred small)

ints_no : (a m : ℕ) → list_all (λ v. not (is_card v)) (new_ints a m) ≡ true
ints_no a zero = refl
ints_no a (suc m) = ints_no (suc a) m

sets_no : (a m : ℕ) → list_all (λ v. not (is_card v)) (new_sets a m) ≡ true
sets_no a zero = refl
sets_no a (suc m) = sets_no (suc a) m

-- ---- rules

module _ (n : Node) (formed : IsFormedPreds n.preds) (w : IsSteadyNode n) (plain : IsPlain n) where
  abbrev parts : (list_all lit_plain n.goal.pure_pre ≡ true) × (list_all chunk_plain n.goal.pre.chunks ≡ true) × (list_all lit_plain n.goal.pure_post ≡ true) × (list_all chunk_plain n.goal.post.chunks ≡ true)
      × (list_all (λ v. not (is_card v)) n.goal.exist ≡ true)
  parts = goal_parts n.goal plain.goal

  -- one premise with the same companions
  same_links : (g : Goal) → list_all lit_plain g.pure_pre ≡ true → list_all chunk_plain g.pre.chunks ≡ true → list_all lit_plain g.pure_post ≡ true → list_all chunk_plain g.post.chunks ≡ true
      → list_all (λ v. not (is_card v)) g.exist ≡ true → list_all is_small g.post.chunks ≡ true → ArePlain (Some (record n { goal = g } ∷ []))
  same_links g a b c d e f = (record { goal = goal_from g a b c d e; links = plain.links; short = plain.short; post_small = f; preds_small = plain.preds_small }, tt)

  pre_and : (ls : List Lit) → list_all lit_plain ls ≡ true → list_all lit_plain (n.goal.pure_pre ++ ls) ≡ true
  pre_and ls h = all_append lit_plain n.goal.pure_pre ls parts.0 h

  post_and : (ls : List Lit) → list_all lit_plain ls ≡ true → list_all lit_plain (n.goal.pure_post ++ ls) ≡ true
  post_and ls h = all_append lit_plain n.goal.pure_post ls parts.2 h

  pub read_plain : (i : ℕ) (o : Option Chunk) → slice_get (pre_of n) i ≡ o → ArePlain (raw_read n i o)
  read_plain i (Some (Cell c)) at =
      let here = and_parts (term_fits is_int c.at) (term_fits is_int c.content) (at_place chunk_plain (pre_of n) i (Cell c) at parts.1) in
      by_test (is_program_expr n.goal c.at && not (is_program_expr n.goal c.content) && occurs_elsewhere n.goal c.content)
      (λ e. rw e
      (same_links _ (pre_and _ (and_from (term_fits is_int c.content) true here.1 refl)) (all_set chunk_plain (pre_of n) i (Cell (record { at = c.at; content = var_term (new_int n) })) (and_from (term_fits is_int c.at) true here.0 refl) parts.1) parts.2 parts.3 parts.4
      plain.post_small))
      (λ e. rw e tt)
  read_plain i None at = tt
  read_plain i (Some (Inst j)) at = tt
  read_plain i (Some (Block b)) at = tt

  -- ---- a frame

  args_equal : (xs ys : List Arg) → list_all (arg_fits is_int is_set_var) xs ≡ true → list_all (arg_fits is_int is_set_var) ys ≡ true → list_all lit_plain (arg_equalities xs ys) ≡ true
  args_equal [] ys a b = refl
  args_equal (x ∷ xs) [] a b = refl
  args_equal (x ∷ xs) (y ∷ ys) a b =
      let p = and_parts (arg_fits is_int is_set_var x) (list_all (arg_fits is_int is_set_var) xs) a in
      let q = and_parts (arg_fits is_int is_set_var y) (list_all (arg_fits is_int is_set_var) ys) b in
      all_append lit_plain (arg_equality x y) (arg_equalities xs ys) (each_equal x y p.0 q.0) (args_equal xs ys p.1 q.1)
    where
      each_equal : (x y : Arg) → arg_fits is_int is_set_var x ≡ true → arg_fits is_int is_set_var y ≡ true → list_all lit_plain (arg_equality x y) ≡ true
      each_equal (IntArg t) (IntArg r) h k = and_from (term_fits is_int t && term_fits is_int r) true (and_from (term_fits is_int t) (term_fits is_int r) h k) refl
      each_equal (SetArg u) (SetArg r) h k = and_from (set_fits is_int is_set_var u && set_fits is_int is_set_var r) true (and_from (set_fits is_int is_set_var u) (set_fits is_int is_set_var r) h k) refl
      each_equal (IntArg t) (SetArg r) h k = refl
      each_equal (SetArg u) (IntArg r) h k = refl

  frame_equal : (f c : Chunk) → chunk_plain f ≡ true → chunk_plain c ≡ true → list_all lit_plain (frame_lits f c) ≡ true
  frame_equal (Inst i) (Inst j) a b = args_equal i.args j.args a b
  frame_equal (Block x) (Block y) a b = and_from (term_fits is_int x.at && term_fits is_int y.at) true (and_from (term_fits is_int x.at) (term_fits is_int y.at) a b) refl
  frame_equal (Cell x) (Cell y) a b =
      let p = and_parts (term_fits is_int x.at) (term_fits is_int x.content) a in
      let q = and_parts (term_fits is_int y.at) (term_fits is_int y.content) b in
      and_from (term_fits is_int x.at && term_fits is_int y.at) _ (and_from (term_fits is_int x.at) (term_fits is_int y.at) p.0 q.0)
      (and_from (term_fits is_int x.content && term_fits is_int y.content) true (and_from (term_fits is_int x.content) (term_fits is_int y.content) p.1 q.1) refl)
  frame_equal (Inst i) (Block y) a b = refl
  frame_equal (Inst i) (Cell y) a b = refl
  frame_equal (Block x) (Inst j) a b = refl
  frame_equal (Block x) (Cell y) a b = refl
  frame_equal (Cell x) (Inst j) a b = refl
  frame_equal (Cell x) (Block y) a b = refl

  frame_plain : (i : ℕ) → ArePlain (raw_frame n i)
  frame_plain i =
      by_option (pair_at i (frame_pairs n.goal)) (λ e. rw (e, raw_frame) tt)
      (λ p e. rw (e, raw_frame)
      (by_test (list_all (λ l. is_open n.goal l || shown n.goal (l ∷ [])) p.lits)
      (λ d. rw d
      (same_links _ (pre_and [] refl) (all_without chunk_plain (pre_of n) i parts.1) (post_and p.lits (paired p e)) (all_without chunk_plain (post_of n) 0 parts.3) parts.4
      (all_without is_small (post_of n) 0 plain.post_small)))
      (λ d. rw d tt)))
    where
      paired : (p : Pair) → pair_at i (frame_pairs n.goal) ≡ Some p → list_all lit_plain p.lits ≡ true
      paired p e =
          let q = pair_of_focus (focus n.goal) (pre_of n) i p e in
          subst (λ (ls : List Lit). list_all lit_plain ls ≡ true) (sym q.5) (frame_equal q.0 q.1 (at_place chunk_plain (post_of n) 0 q.0 q.2 parts.3) (at_place chunk_plain (pre_of n) i q.1 q.3 parts.1))

  write_plain : (i : ℕ) (o p : Option Chunk) → focus n.goal ≡ o → slice_get (pre_of n) i ≡ p → ArePlain (raw_write n i o p)
  write_plain i (Some (Cell f)) (Some (Cell c)) h k =
      let a = and_parts (term_fits is_int f.at) (term_fits is_int f.content) (at_place chunk_plain (post_of n) 0 (Cell f) h parts.3) in
      let b = and_parts (term_fits is_int c.at) (term_fits is_int c.content) (at_place chunk_plain (pre_of n) i (Cell c) k parts.1) in
      by_test (not (has_exist n.goal f.at) && is_program_expr n.goal c.at && is_program_expr n.goal f.content)
      (λ e. rw (e, raw_write)
      (by_test (is_place i (first_place (is_cell_at n.goal f.at) 0 (pre_of n)))
      (λ d. rw d
      (by_test (shown n.goal (Eq f.content c.content ∷ []))
      (λ x. rw x tt)
      (λ x. rw x
      (same_links _
      (pre_and [] refl) (all_set chunk_plain (pre_of n) i (Cell (record { at = c.at; content = f.content })) (and_from (term_fits is_int c.at) (term_fits is_int f.content) b.0 a.1) parts.1) parts.2 parts.3 parts.4
      plain.post_small))))
      (λ d. rw d tt)))
      (λ e. rw (e, raw_write) tt)
  write_plain i None p h k = tt
  write_plain i (Some (Inst j)) p h k = tt
  write_plain i (Some (Block b)) p h k = tt
  write_plain i (Some (Cell f)) None h k = tt
  write_plain i (Some (Cell f)) (Some (Inst j)) h k = tt
  write_plain i (Some (Cell f)) (Some (Block b)) h k = tt

  free_plain : (i : ℕ) (o : Option Chunk) → ArePlain (raw_free n i o)
  free_plain i (Some (Block b)) =
      by_test (length (post_of n) == 0 && is_program_expr n.goal b.at)
      (λ e. rw (e, raw_free)
      (by_option (without_cells (block_cells b.at b.size) (without (pre_of n) i)) (λ d. rw d tt)
      (λ cs d. rw d (same_links _ (pre_and [] refl) (left_cells (block_cells b.at b.size) (without (pre_of n) i) cs d (all_without chunk_plain (pre_of n) i parts.1)) parts.2 parts.3 parts.4 plain.post_small))))
      (λ e. rw (e, raw_free) tt)
    where
      left_cells : (ts : List Term) (cs ds : List Chunk) → without_cells ts cs ≡ Some ds → list_all chunk_plain cs ≡ true → list_all chunk_plain ds ≡ true
      left_cells ts cs ds e h =
          tests_true chunk_plain ds (subst (λ (o : Option (List Chunk)). IfSome o (AllByRecursion (λ x. chunk_plain x ≡ true))) e (cells_kept (λ x. chunk_plain x ≡ true) ts cs (each_true chunk_plain cs h)))
  free_plain i None = tt
  free_plain i (Some (Inst j)) = tt
  free_plain i (Some (Cell c)) = tt

  cells_plain : (t : Term) (j : ℕ) (vs : List Term) → term_fits is_int t ≡ true → list_all (term_fits is_int) vs ≡ true → list_all chunk_plain (new_cells t j vs) ≡ true
  cells_plain t j [] h k = refl
  cells_plain t j (v ∷ vs) h k =
      let both = and_parts (term_fits is_int v) (list_all (term_fits is_int) vs) k in
      and_from (term_fits is_int t && term_fits is_int v) (list_all chunk_plain (new_cells t (suc j) vs)) (and_from (term_fits is_int t) (term_fits is_int v) h both.0) (cells_plain t (suc j) vs h both.1)

  pub alloc_plain : (o : Option Chunk) → focus n.goal ≡ o → ArePlain (raw_alloc n o)
  alloc_plain (Some (Block f)) at =
      let z : Var = new_int n in
      let block : Chunk = Block (record { at = var_term z; size = f.size }) in
      let here = at_place chunk_plain (post_of n) 0 (Block f) at parts.3 in
      by_test (is_bare_open n.goal f.at)
      (λ e. rw e
      (same_links _
      (pre_and [] refl)
      (all_put_all chunk_plain (put (pre_of n) block) (new_cells (var_term z) 0 (map var_term (new_ints (suc z.number) f.size))) (cells_plain (var_term z) 0 (map var_term (new_ints (suc z.number) f.size)) refl (new_int_terms (suc z.number) f.size))
      (all_put chunk_plain (pre_of n) block refl parts.1))
      (post_and (Eq f.at (var_term z) ∷ []) (and_from (term_fits is_int f.at && true) true (and_from (term_fits is_int f.at) true here refl) refl)) parts.3 parts.4
      plain.post_small))
      (λ e. rw e tt)
  alloc_plain None at = tt
  alloc_plain (Some (Inst j)) at = tt
  alloc_plain (Some (Cell c)) at = tt

  -- ---- an existential taken to be a variable

  equal_plain : (v u : Var) → is_card v ≡ false → sort_eq u.sort v.sort ≡ true → lit_plain (equal_vars v u) ≡ true
  equal_plain v u no_card e =
      let same : u.sort ≡ v.sort = (Decides-sort_eq u.sort v.sort).0 e in
      by_sort v.sort refl same
    where
      by_sort : (o : Sort) → v.sort ≡ o → u.sort ≡ v.sort → lit_plain (equal_vars v u) ≡ true
      by_sort Int p q = let a : is_set_var v ≡ false = ap (λ (s : Sort). sort_eq s Set) p in rw (a, p, q ∙ p) refl
      by_sort Set p q = let a : is_set_var v ≡ true = ap (λ (s : Sort). sort_eq s Set) p in rw (a, p, q ∙ p) refl
      by_sort Card p q = absurd (both_ways (is_card v) no_card (ap (λ (s : Sort). sort_eq s Card) p))

  pick_plain : (u : Var) → ArePlain (raw_pick n u)
  pick_plain u =
      by_option (first_exist n.goal) (λ e. rw (e, raw_pick) tt)
      (λ v e. rw (e, raw_pick)
      (by_test (length (insts (post_of n)) == 0 && is_universal n.goal v.sort u)
      (λ d.
      let same = and_parts (sort_eq u.sort v.sort) (not (sort_eq v.sort Card)) (and_parts _ _ (and_parts _ _ (and_parts (length (insts (post_of n)) == 0) _ d).1).0).0 in
      rw d
      (same_links _ parts.0 parts.1 (post_and (equal_vars v u ∷ []) (and_from (lit_plain (equal_vars v u)) true (equal_plain v u (not-true (is_card v) same.1) same.0) refl)) parts.3 parts.4
      plain.post_small))
      (λ d. rw d tt)))

  -- ---- Close

  own_no_card : (u : Unfolded) → list_all (λ v. not (is_card v)) (own_vars (next_of n) u) ≡ true
  own_no_card u =
      let next : Next = next_of n in
      all_append (λ v. not (is_card v)) (new_ints next.ints (u.next.ints - next.ints)) (new_sets next.sets (u.next.sets - next.sets)) (ints_no next.ints (u.next.ints - next.ints)) (sets_no next.sets (u.next.sets - next.sets))

  card_none : (o : Option Var) → is_none o ≡ true → list_all is_card (card_vars o) ≡ true
  card_none None h = refl
  card_none (Some v) h = absurd (false≢true h)

  card_some : (o : Option Var) → is_card_var o ≡ true → list_all is_card (card_vars o) ≡ true
  card_some None h = refl
  card_some (Some v) h = and_from (is_card v) true h refl

  close_plain : (c : ℕ) (o : Option Chunk) → focus n.goal ≡ o → ArePlain (raw_close n c o)
  close_plain c (Some (Inst j)) at =
      let next : Next = next_of n in
      let entries : List Unfolded = unfold_inst n.preds j next in
      let fits = post_chunk_fits n w.raw.steady 0 (Inst j) at in
      let all = entries_plain n.preds formed plain.preds_small j next (at_place chunk_plain (post_of n) 0 (Inst j) at parts.3) (card_none j.card fits.1) in
      by_test (nat_lt j.tag 255)
      (λ e. rw e
      (by_option (slice_get entries c) (λ d. rw d tt)
      (λ u d. rw d
      (let k : PlainEntry u = subst (λ (o : Option Unfolded). IfSome o PlainEntry) d (Every-slice_get PlainEntry entries c all) in
      same_links _ parts.0 parts.1 (post_and (u.guard ∷ u.lits) k.lits) (all_put_all chunk_plain (without (post_of n) 0) u.heap.chunks k.chunks (all_without chunk_plain (post_of n) 0 parts.3))
      (all_append (λ v. not (is_card v)) n.goal.exist (own_vars next u) parts.4 (own_no_card u)) (all_put_all is_small (without (post_of n) 0) u.heap.chunks k.small (all_without is_small (post_of n) 0 plain.post_small)))))
      )
      (λ e. rw e tt)
  close_plain c None at = tt
  close_plain c (Some (Block b)) at = tt
  close_plain c (Some (Cell b)) at = tt

  -- ---- Open

  map_ints : (vs : List Var) → list_all (λ v. not (is_set_var v)) vs ≡ true → list_all bind_plain (map (λ v. record { var = v; to = var_term v }) vs) ≡ true
  map_ints [] h = refl
  map_ints (v ∷ vs) h =
      let both = and_parts (not (is_set_var v)) (list_all (λ v. not (is_set_var v)) vs) h in
      and_from (bind_plain (record { var = v; to = var_term v })) (list_all bind_plain (map (λ v. record { var = v; to = var_term v }) vs)) (at v.sort refl both.0) (map_ints vs both.1)
    where
      at : (o : Sort) → v.sort ≡ o → not (is_set_var v) ≡ true → bind_plain (record { var = v; to = var_term v }) ≡ true
      at Int e k = rw e refl
      at Card e k = rw e refl
      at Set e k = absurd (both_ways (is_set_var v) (not-true (is_set_var v) k) (ap (λ (s : Sort). sort_eq s Set) e))

  map_sets : (vs : List Var) → list_all is_set_var vs ≡ true → list_all (λ (b : SetBind). set_fits is_int is_set_var b.to) (map (λ v. record { var = v; to = set_var v }) vs) ≡ true
  map_sets [] h = refl
  map_sets (v ∷ vs) h =
      let both = and_parts (is_set_var v) (list_all is_set_var vs) h in
      and_from (set_fits is_int is_set_var (set_var v)) (list_all (λ (b : SetBind). set_fits is_int is_set_var b.to) (map (λ v. record { var = v; to = set_var v }) vs))
      (and_from (list_all is_set_var (v ∷ [])) true (and_from (is_set_var v) true both.0 refl) refl) (map_sets vs both.1)

  link_opened : (i : ℕ) (j : InstOf) → slice_get (pre_of n) i ≡ Some (Inst j) → link_plain (open_link n i j) ≡ true
  link_opened i j at =
      let vs : List Var = filter (λ v. not (var_in v n.goal.exist)) (node_vars n) in
      let own = opened_bare n i j at w plain in
      link_from (open_link n i j) plain.goal own own (map_ints (filter (λ v. not (is_set_var v)) vs) (each_from (λ v. not (is_set_var v)) _ (λ v k. (filter_out (λ v. not (is_set_var v)) v vs k).1)))
      (map_sets (filter is_set_var vs) (each_from is_set_var _ (λ v k. (filter_out is_set_var v vs k).1)))

  short_push : (k e : ℕ) (es : List ℕ) → AreShort k es → last_end k es ≤ e → e ≤ last_end k es + 16 → AreShort k (es ++ e ∷ [])
  short_push k e [] h p q = (p, q, tt)
  short_push k e (d ∷ es) h p q = (h.0, h.1, short_push d e es h.2 p q)

  short_opened : (i : ℕ) (j : InstOf) → slice_get (pre_of n) i ≡ Some (Inst j) → AreShort 0 (ends_of (n.links ++ open_link n i j ∷ []))
  short_opened i j at =
      let s : Assignment = record { number = λ v. pos 0; members = λ v. [] } in
      let last : length (last_tuple n.links) ≡ last_end 0 (ends_of n.links) = sym (length-map (last_tuple n.links) (λ t. nat_of (value s t))) ∙ numbers_long s n.links in
      let long = length-append (last_tuple n.links ++ card_terms j.card) (cards_of (without (pre_of n) i)) in
      let first = length-append (last_tuple n.links) (card_terms j.card) in
      subst (AreShort 0) (sym (map-append (λ (k : Link). length k.tuple) n.links (open_link n i j ∷ [])))
      (short_push 0 (length (open_link n i j).tuple) (ends_of n.links) plain.short
      (more (length (open_link n i j).tuple) (length (last_tuple n.links ++ card_terms j.card)) (length (cards_of (without (pre_of n) i))) (length (last_tuple n.links)) (length (card_terms j.card)) (last_end 0 (ends_of n.links)) long first last)
      (few (length (open_link n i j).tuple) (length (last_tuple n.links ++ card_terms j.card)) (length (cards_of (without (pre_of n) i))) (length (last_tuple n.links)) (length (card_terms j.card)) (last_end 0 (ends_of n.links)) (length (without (pre_of n) i))
      (length (pre_of n)) long first last (card_short j.card) (cards_short (without (pre_of n) i)) (length-without (pre_of n) i (Inst j) at) (pre_short n w.node i j at)))
    where
      more : (t a b c d e : ℕ) → t ≡ a + b → a ≡ c + d → c ≡ e → e ≤ t
      more t a b c d e p q r = omega arith

      few : (t a b c d e x y : ℕ) → t ≡ a + b → a ≡ c + d → c ≡ e → d ≤ 1 → b ≤ x → suc x ≡ y → y ≤ 16 → t ≤ e + 16
      few t a b c d e x y p q r k l m o = omega arith

  open_plain : (i : ℕ) (o : Option Chunk) → slice_get (pre_of n) i ≡ o → ArePlain (raw_open n i o)
  open_plain i (Some (Inst j)) at =
      let next : Next = next_of n in
      let entries : List Unfolded = unfold_inst n.preds j next in
      let fits = pre_chunk_fits n w.raw.steady i (Inst j) at in
      let all = entries_plain n.preds formed plain.preds_small j next (at_place chunk_plain (pre_of n) i (Inst j) at parts.1) (card_some j.card fits.1) in
      by_test (nat_lt (length n.links) 4 && nat_lt j.tag 255 && list_all (λ (u : Unfolded). is_testable n.goal u.guard) entries)
      (λ e. rw e
      (Every-map IsPlain PlainEntry (open_premise n i (open_link n i j))
      (λ u k. record {
        goal = goal_from (open_premise n i (open_link n i j) u).goal (pre_and (u.guard ∷ u.lits) k.lits) (all_put_all chunk_plain (without (pre_of n) i) u.heap.chunks k.chunks (all_without chunk_plain (pre_of n) i parts.1)) parts.2 parts.3 parts.4;
        links = all_append link_plain n.links (open_link n i j ∷ []) plain.links (and_from (link_plain (open_link n i j)) true (link_opened i j at) refl);
        short = short_opened i j at;
        post_small = plain.post_small;
        preds_small = plain.preds_small;
      })
      entries all))
      (λ e. rw e tt)
  open_plain i None at = tt
  open_plain i (Some (Block b)) at = tt
  open_plain i (Some (Cell c)) at = tt

  -- ---- Call

  exist_plain : (next : Next) (vs : List Var) (by : Subst) → list_all (λ v. not (is_card v)) vs ≡ true → PlainBinds by → PlainBinds (with_exist next vs by)
  exist_plain next [] by h k = k
  exist_plain next (v ∷ vs) by h k =
      let both = and_parts (not (is_card v)) (list_all (λ v. not (is_card v)) vs) h in
      by_sort (is_set_var v)
      (exist_plain (record next { ints = suc next.ints }) vs (add_int by v (var_term (record { sort = Int; number = next.ints }))) both.1
      (add_plain by v (var_term (record { sort = Int; number = next.ints })) k (λ c. absurd (both_ways (is_card v) (not-true (is_card v) both.0) c)) (λ c. refl)))
      (exist_plain (record next { sets = suc next.sets }) vs (add_set by v (set_var (record { sort = Set; number = next.sets }))) both.1 (add_set_plain by v (set_var (record { sort = Set; number = next.sets })) k (λ c. refl)))
    where
      by_sort : (b : Bool) → PlainBinds (with_exist (record next { ints = suc next.ints }) vs (add_int by v (var_term (record { sort = Int; number = next.ints }))))
          → PlainBinds (with_exist (record next { sets = suc next.sets }) vs (add_set by v (set_var (record { sort = Set; number = next.sets }))))
          → PlainBinds (elim b [
            | false ↦ with_exist (record next { ints = suc next.ints }) vs (record by { ints = by.ints ++ record { var = v; to = var_term (record { sort = Int; number = next.ints }) } ∷ [] })
            | true ↦ with_exist (record next { sets = suc next.sets }) vs (record by { sets = by.sets ++ record { var = v; to = set_var (record { sort = Set; number = next.sets }) } ∷ [] })
          ])
      by_sort false a b = a
      by_sort true a b = b

  cards_plain : (tag k : ℕ) (cs : List Chunk) → list_all chunk_plain cs ≡ true → list_all chunk_plain (with_new_cards tag k cs) ≡ true
  cards_plain tag k [] h = refl
  cards_plain tag k (Inst i ∷ cs) h = let both = and_parts (chunk_plain (Inst i)) (list_all chunk_plain cs) h in and_from (chunk_plain (Inst i)) (list_all chunk_plain (with_new_cards tag (suc k) cs)) both.0 (cards_plain tag (suc k) cs both.1)
  cards_plain tag k (Block b ∷ cs) h = let both = and_parts (chunk_plain (Block b)) (list_all chunk_plain cs) h in and_from (chunk_plain (Block b)) (list_all chunk_plain (with_new_cards tag k cs)) both.0 (cards_plain tag k cs both.1)
  cards_plain tag k (Cell c ∷ cs) h = let both = and_parts (chunk_plain (Cell c)) (list_all chunk_plain cs) h in and_from (chunk_plain (Cell c)) (list_all chunk_plain (with_new_cards tag k cs)) both.0 (cards_plain tag k cs both.1)

  beside_plain : (j : ℕ) (ks : List ℕ) (cs : List Chunk) → list_all chunk_plain cs ≡ true → list_all chunk_plain (chunks_beside j ks cs) ≡ true
  beside_plain j ks cs h = each_from chunk_plain (chunks_beside j ks cs) (λ c k. each_at chunk_plain c cs h (beside_among j ks cs c k))

  call_plain : (ks : List ℕ) (i : ℕ) (o : Option Link) → slice_get n.links i ≡ o → ArePlain (raw_call n ks o)
  call_plain ks i None at = tt
  call_plain ks i (Some l) at =
      let link = at_place link_plain n.links i l at plain.links in
      let inner = goal_parts l.goal (link_parts l link).0 in
      let fits = at_place (λ (k : Link). insts_fit n.preds k.goal) n.links i l at w.node.raw.linked.goals_fit in
      by_option (match_at n l ks) (λ e. rw (e, raw_call) tt)
      (λ f e. rw (e, raw_call)
      (by_test (is_callable n l f)
      (λ d. rw d
      (let next : Next = next_of n in
      let by : Subst = with_exist next l.goal.exist f.by in
      let tag : ℕ = next_tag (insts (chunks_at (pre_of n) f.pairs)) in
      let k : PlainBinds by = exist_plain next l.goal.exist f.by inner.4 (match_plain n l ks f e plain.goal w.raw.steady.fits link fits) in
      same_links _ (pre_and (map (apply_lit by) l.goal.pure_post) (all_map lit_plain lit_plain (apply_lit by) (lit_kept by k) l.goal.pure_post inner.2))
      (all_put_all chunk_plain (chunks_beside 0 f.pairs (pre_of n)) (with_new_cards tag next.cards (map (apply_chunk by) l.goal.post.chunks))
      (cards_plain tag next.cards (map (apply_chunk by) l.goal.post.chunks) (all_map chunk_plain chunk_plain (apply_chunk by) (chunk_kept by k) l.goal.post.chunks inner.3)) (beside_plain 0 f.pairs (pre_of n) parts.1))
      parts.2 parts.3 parts.4 plain.post_small))
      (λ d. rw d tt)))

  -- ---- all

  raws_plain : (r : Rule) → ArePlain (raws n r)
  raws_plain ByInconsistent = by_test (satisfiable (facts n.goal)) (λ e. rw (e, raws) tt) (λ e. rw (e, raws) tt)
  raws_plain ByEmp =
      by_test (length (pre_of n) == 0 && length (post_of n) == 0 && length n.goal.exist == 0)
      (λ e. rw (e, raws) (by_test (shown n.goal n.goal.pure_post) (λ d. rw d tt) (λ d. rw d tt)))
      (λ e. rw (e, raws) tt)
  raws_plain (ByRead i) = read_plain i (slice_get (pre_of n) i) refl
  raws_plain (ByFrame i) = frame_plain i
  raws_plain (ByWrite i) = write_plain i (focus n.goal) (slice_get (pre_of n) i) refl refl
  raws_plain (ByFree i) = free_plain i (slice_get (pre_of n) i)
  raws_plain ByAlloc = alloc_plain (focus n.goal) refl
  raws_plain (ByCall c) = call_plain c.pairs c.link (slice_get n.links c.link) refl
  raws_plain (ByOpen i) = open_plain i (slice_get (pre_of n) i) refl
  raws_plain (ByClose c) = close_plain c (focus n.goal) refl
  raws_plain (ByPick u) = pick_plain u

-- ---- premises

each_normal : (ms : List Node) (rs : List Renaming) → AllByRecursion IsPlain ms → all_normal ms ≡ Some rs → AllByRecursion IsPlain (nodes_of rs)
each_normal [] rs h e = subst (λ (xs : List Renaming). AllByRecursion IsPlain (nodes_of xs)) (same_Some [] rs e) tt
each_normal (m ∷ ms) rs h e =
    let d : Split m ms rs = split m ms rs e in
    subst (λ (xs : List Renaming). AllByRecursion IsPlain (nodes_of xs)) (sym d.both) (normal_plain m d.first h.0 d.first_is, each_normal ms d.others h.1 d.others_are)

pub premises_plain : (n : Node) (r : Rule) (ms : List Node) → IsFormedPreds n.preds → IsSteadyNode n → IsPlain n → premises n r ≡ Some ms → All IsPlain ms
premises_plain n r ms formed w plain e =
    let a = mapped_some nodes_of (renamed_premises n r) ms e in
    option_and_then_some all_normal (raws n r) a.0 a.1 (λ xs is d.
    All-from_recursion IsPlain ms (subst (AllByRecursion IsPlain) a.2 (each_normal xs a.0 (subst ArePlain is (raws_plain n formed w plain r)) d)))
