-- The normal form of a node has what was asked of the node.
use Rattle.std.proofs.Common.{◌≡◌, refl, sym, ap, ◌∙◌, inl, inr, Bool, true, false, not, ◌&&◌, List, [], ◌∷◌, ◌++◌, map, filter, flat_map, IfSome, Option, Some, None, is_none, subst, ⊎_elim}
use Rattle.std.specs.List.{list_all}
use Rattle.std.proofs.lemmas.Bool.{and_from, and_parts, both_ways, cases_Bool, cond_both, not-true}
use Rattle.std.proofs.lemmas.Option.{none-some, same_Some}
use Rattle.cyp_goal.proofs.EachVar.{Each, EachPart, each_part}
use Rattle.cyp_goal.proofs.Fits.{ImagesFit, chunk_fits-apply, link_fits-apply, lits_fit-apply}
use Rattle.cyp_goal.proofs.LinksCards.{KeepsCards}
use Rattle.cyp_goal.proofs.LinksNormal.{IsKept, IsKeptWithin, normal_kept}
use Rattle.cyp_goal.proofs.Live.{among_in, in_among}
use Rattle.cyp_goal.proofs.NormalKeeps.{HasSorts, Kept, has_sorts, prune_keeps, solve_keeps, tidy_keeps}
use Rattle.cyp_goal.proofs.PruneLeaves.{filter_all}
use Rattle.cyp_goal.proofs.Renumber.{no_set}
use Rattle.cyp_goal.proofs.SolveLeaves.{apart}
use Rattle.cyp_goal.proofs.TidyLeaves.{address_lit_fits, addresses_fit, pre_each}
use Rattle.cyp_goal.specs.Normal.{Renaming, normal, tidy_node}
use Rattle.cyp_goal.specs.Numbering.{new_name, numbering, renumber}
use Rattle.cyp_goal.specs.Pruning.{is_kept, live_vars, prune}
use Rattle.cyp_goal.specs.Raw.{chunk_fits, is_sorted, link_fits, lit_fits, set_fits, term_fits}
use Rattle.cyp_goal.specs.Tidying.{address}
use Rattle.cyp_heap.specs.Chunks.{apply_card, apply_chunk, chunks_vars, insts}
use Rattle.cyp_heap.specs.Formed.{is_card_var}
use Rattle.cyp_heap.specs.Goals.{apply_link, node_vars}
use Rattle.cyp_heap.specs.declared.chunk.Chunk.{Chunk}
use Rattle.cyp_heap.specs.declared.chunk.Chunk.TheVariants.{Block, Cell, Inst}
use Rattle.cyp_heap.specs.declared.chunk.Heap.{Heap}
use Rattle.cyp_heap.specs.declared.chunk.InstOf.{InstOf}
use Rattle.cyp_heap.specs.declared.goal.Goal.{Goal}
use Rattle.cyp_heap.specs.declared.goal.Node.{Node}
use Rattle.cyp_kernel.proofs.AppliedVars.{Brings, chunks_each, image_base, joined, lits_each}
use Rattle.cyp_kernel.proofs.NormalMeaning.{Made, made, ready_apart, ready_sorts, used_left}
use Rattle.cyp_kernel.proofs.NumberMeaning.{int_new, new_beside, set_new}
use Rattle.cyp_kernel.proofs.PassedVars.{chunks_at, lits_at}
use Rattle.cyp_kernel.proofs.SolveMeaning.{IsApart, Solved, solve_meaning}
use Rattle.cyp_kernel.proofs.TidyMeaning.{out_filter}
use Rattle.cyp_kernel.specs.Meaning.{NormalIsReady, OldAreProgram}
use Rattle.cyp_term.proofs.Lists.{Among, each_at, each_from, filter_out, map_from}
use Rattle.cyp_term.specs.Terms.{apply_var, image_or_self, int_image, is_set_var, lits_vars, set_image, set_var, set_vars, var_at, var_in, var_eq, var_term}
use Rattle.cyp_term.specs.declared.lit.SetTerm.{SetTerm}
use Rattle.cyp_term.specs.declared.subst.Subst.{Subst}
use Rattle.cyp_term.specs.declared.term.Term.{Term}
use Rattle.cyp_term.specs.declared.term.Var.{Var}

-- ---- cardinalities

pub record CardsRight (n : Node) : Type 0 where
  pub pre : list_all (λ (i : InstOf). is_card_var i.card) (insts n.goal.pre.chunks) ≡ true
  pub post : list_all (λ (i : InstOf). is_none i.card) (insts n.goal.post.chunks) ≡ true

module _ (by : Subst) (test : Option Var → Bool) (kept : (o : Option Var) → test o ≡ true → test (apply_card by o) ≡ true) where
  cards_kept : (cs : List Chunk) → list_all (λ (i : InstOf). test i.card) (insts cs) ≡ true → list_all (λ (i : InstOf). test i.card) (insts (map (apply_chunk by) cs)) ≡ true
  cards_kept [] h = refl
  cards_kept (Inst i ∷ cs) h =
      let both = and_parts (test i.card) (list_all (λ (j : InstOf). test j.card) (insts cs)) h in
      and_from (test (apply_card by i.card)) (list_all (λ (j : InstOf). test j.card) (insts (map (apply_chunk by) cs))) (kept i.card both.0) (cards_kept cs both.1)
  cards_kept (Block b ∷ cs) h = cards_kept cs h
  cards_kept (Cell c ∷ cs) h = cards_kept cs h

one_kept : (by : Subst) → KeepsCards by → (o : Option Var) → is_card_var o ≡ true → is_card_var (apply_card by o) ≡ true
one_kept by k None h = h
one_kept by k (Some v) h = k v h

none_kept : (by : Subst) (o : Option Var) → is_none o ≡ true → is_none (apply_card by o) ≡ true
none_kept by None h = h
none_kept by (Some v) h = h

cards_right_kept : IsKept CardsRight
cards_right_kept = record {
  applied = λ by k n c. record {
    pre = cards_kept by is_card_var (one_kept by k) n.goal.pre.chunks c.pre;
    post = cards_kept by is_none (none_kept by) n.goal.post.chunks c.post;
  };
  beside = λ n g e f c. record {
    pre = subst (λ (x : Heap). list_all (λ (i : InstOf). is_card_var i.card) (insts x.chunks) ≡ true) (sym e) c.pre;
    post = subst (λ (x : Heap). list_all (λ (i : InstOf). is_none i.card) (insts x.chunks) ≡ true) (sym f) c.post;
  };
  maps = λ n to c. record { pre = c.pre; post = c.post };
}

normal_cards : (n : Node) (r : Renaming) → CardsRight n → normal n ≡ Some r → CardsRight r.node
normal_cards n r c e =
    let k : IsKeptWithin CardsRight r = subst (λ (o : Option Renaming). IfSome o (IsKeptWithin CardsRight)) e (normal_kept CardsRight cards_right_kept n c) in
    k.fact

-- ---- before the numbers

-- no existential stands in the precondition
pub record OutOf (n : Node) : Type 0 where
  pub lits : Each (λ v. var_in v n.goal.exist ≡ false) (lits_vars n.goal.pure_pre)
  pub chunks : Each (λ v. var_in v n.goal.exist ≡ false) (chunks_vars n.goal.pre.chunks)

pub out_left : (m : Node) → IsApart m → OutOf (prune (tidy_node m))
out_left m is =
    let a : Var → Bool = apart m.goal.exist in
    let ts : List Term = flat_map address m.goal.pre.chunks in
    let tidied = pre_each a a (lit_fits a a) m.goal.pure_pre ts (λ l k _. each_at (lit_fits a a) l m.goal.pure_pre is.lits k)
    (λ l k. address_lit_fits a a ts l (addresses_fit a a m.goal.pre.chunks is.chunks) k) in
    let kept = filter_all (lit_fits a a) (is_kept (live_vars (tidy_node m))) (tidy_node m).goal.pure_pre tidied in
    record {
      lits = λ v k. out_filter v _ m.goal.exist (not-true (var_in v m.goal.exist) (lits_at a (prune (tidy_node m)).goal.pure_pre kept v k));
      chunks = λ v k. out_filter v _ m.goal.exist (not-true (var_in v m.goal.exist) (chunks_at a m.goal.pre.chunks is.chunks v k));
    }

-- ---- new numbers

-- the images of new numbers are of the sort of their place
module _ (vs : List Var) where
  ints_fit : (us : List Var) (v : Var) (to : Term) → list_all no_set us ≡ true → int_image (map (λ w. record { var = w; to = var_term (new_name vs w) }) us) v ≡ Some to → term_fits no_set to ≡ true
  ints_fit [] v to h e = absurd (none-some to e)
  ints_fit (u ∷ us) v to h i =
      let both = and_parts (no_set u) (list_all no_set us) h in
      cond_both (var_eq u v) (Some (var_term (new_name vs u))) (int_image (map (λ w. record { var = w; to = var_term (new_name vs w) }) us) v) (λ o. o ≡ Some to → term_fits no_set to ≡ true)
      (λ _ e. subst (λ (t : Term). term_fits no_set t ≡ true) (same_Some (var_term (new_name vs u)) to e) (and_from (no_set u) true both.0 refl))
      (λ _ e. ints_fit us v to both.1 e) i

  sets_fit : (us : List Var) (v : Var) (to : SetTerm) → list_all is_set_var us ≡ true → set_image (map (λ w. record { var = w; to = set_var (new_name vs w) }) us) v ≡ Some to → set_fits no_set is_set_var to ≡ true
  sets_fit [] v to h e = absurd (none-some to e)
  sets_fit (u ∷ us) v to h i =
      let both = and_parts (is_set_var u) (list_all is_set_var us) h in
      cond_both (var_eq u v) (Some (set_var (new_name vs u))) (set_image (map (λ w. record { var = w; to = set_var (new_name vs w) }) us) v) (λ o. o ≡ Some to → set_fits no_set is_set_var to ≡ true)
      (λ _ e. subst (λ (t : SetTerm). set_fits no_set is_set_var t ≡ true) (same_Some (set_var (new_name vs u)) to e)
      (and_from (is_set_var u && true) true (and_from (is_set_var u) true both.0 refl) refl))
      (λ _ e. sets_fit us v to both.1 e) i

  filtered : (test : Var → Bool) → list_all test (filter test vs) ≡ true
  filtered test = each_from test (filter test vs) (λ v k. (filter_out test v vs k).1)

  numbers_fit : ImagesFit no_set is_set_var (numbering vs)
  numbers_fit = record {
    ints = λ v to _ e. ints_fit (filter no_set vs) v to (filtered no_set) e;
    sets = λ v to _ e. sets_fit (filter is_set_var vs) v to (filtered is_set_var) e;
  }

module _ (x : Node) (f : HasSorts no_set is_set_var x) (used : Each (λ v. Among v (node_vars x)) x.goal.exist) (out : OutOf x) where
  abbrev vs : List Var
  vs = node_vars x

  abbrev by : Subst
  by = numbering vs

  abbrev pub Known : Var → Type 0
  Known v = Among v vs × (var_in v x.goal.exist ≡ false)

  abbrev pub Out : Var → Type 0
  Out v = var_in v (map (new_name vs) x.goal.exist) ≡ false

  one_out : (v : Var) → Known v → Each Out (new_name vs v ∷ [])
  one_out v k w (inl e) = subst Out (sym e) (new_beside vs x.goal.exist used v k.0 k.1)
  one_out v k w (inr m) = absurd m

  pub brings : Brings by no_set is_set_var Known Out
  brings = record {
    ints = λ v h k. subst (λ (o : Option Term). Each Out (image_base v o)) (sym (int_new vs v h k.0)) (one_out v k);
    sets = λ v h k. subst (λ (o : Option SetTerm). Each Out (set_vars (image_or_self v o))) (sym (set_new vs v h k.0)) (one_out v k);
  }

  brings_vars : (v : Var) → no_set v ≡ true → Known v → Out (apply_var by v)
  brings_vars v h k = subst (λ (o : Option Term). Out (var_at v o)) (sym (int_new vs v h k.0)) (new_beside vs x.goal.exist used v k.0 k.1)

  pub lits_out : Each Out (lits_vars (renumber x).goal.pure_pre)
  lits_out =
      let parts : EachPart (λ v. Among v vs) x = each_part (λ v. Among v vs) x (λ v i. i) in
      lits_each by no_set is_set_var Known Out brings x.goal.pure_pre f.pure_pre (λ v k. (parts.pure_pre v k, out.lits v k))

  pub chunks_out : Each Out (chunks_vars (renumber x).goal.pre.chunks)
  chunks_out =
      let parts : EachPart (λ v. Among v vs) x = each_part (λ v. Among v vs) x (λ v i. i) in
      chunks_each by no_set is_set_var Known Out brings brings_vars x.goal.pre.chunks f.pre (λ v k. (parts.pre v k, out.chunks v k))

  -- no existential is in a list whose variables are none
  pub all_apart : (us : List Var) → Each Out us → list_all (λ v. not (var_in v us)) (renumber x).goal.exist ≡ true
  all_apart us h =
      each_from (λ v. not (var_in v us)) (renumber x).goal.exist (λ v k.
      ⊎_elim (λ e. absurd (both_ways (var_in v (renumber x).goal.exist) (h v (in_among v us e)) (among_in v (renumber x).goal.exist k))) (λ e. ap not e) (cases_Bool (var_in v us)))

  -- a test that each element passes after the change
  pub mapped : {A : Type 0} (test : A → Bool) (g : A → A) → ((y : A) → test y ≡ true → test (g y) ≡ true) → (ys : List A) → list_all test ys ≡ true → list_all test (map g ys) ≡ true
  mapped test g one ys h = each_from test (map g ys) (λ z k. let y = map_from g z ys k in rw y.2 (one y.0 (each_at test y.0 ys h y.1)))

  pub numbers_sorted : is_sorted (renumber x) ≡ true
  numbers_sorted =
      let p : Var → Bool = no_set in
      let q : Var → Bool = is_set_var in
      let fit : ImagesFit p q by = numbers_fit vs in
      let g : Goal = (renumber x).goal in
      let a = lits_fit-apply p q by fit x.goal.pure_pre f.pure_pre in
      let b = mapped (chunk_fits p q) (apply_chunk by) (chunk_fits-apply p q by fit) x.goal.pre.chunks f.pre in
      let c = lits_fit-apply p q by fit x.goal.pure_post f.pure_post in
      let d = mapped (chunk_fits p q) (apply_chunk by) (chunk_fits-apply p q by fit) x.goal.post.chunks f.post in
      let l = mapped (link_fits p q) (apply_link by) (link_fits-apply p q by fit) x.links f.links in
      and_from _ _ (and_from _ _ (and_from _ _ (and_from _ _ a b) c) d) l

pub normal_is_ready : NormalIsReady
normal_is_ready n r ready e =
    let d : Made n r = made n r e in
    let m : Node = d.solved in
    let x : Node = prune (tidy_node m) in
    let kept : Kept no_set is_set_var n m = solve_keeps no_set is_set_var n m (ready_sorts n ready) d.done in
    let sorts : HasSorts no_set is_set_var x = prune_keeps no_set is_set_var (tidy_node m) (tidy_keeps no_set is_set_var m kept.fits) in
    let solved : Solved n m = solve_meaning n m (ready_apart n ready) (ready_sorts n ready).pure_pre d.done in
    let used = used_left (tidy_node m) in
    let out : OutOf x = out_left m solved.is in
    let cards : CardsRight r.node = normal_cards n r (record { pre = ready.pre_cards; post = ready.post_cards }) e in
    let is = ap (λ (y : Renaming). y.node) d.is in
    record {
      sorted = subst (λ (y : Node). is_sorted y ≡ true) is (numbers_sorted x sorts used out);
      exist_apart = subst (λ (y : Node). list_all (λ v. not (var_in v (lits_vars y.goal.pure_pre ++ chunks_vars y.goal.pre.chunks))) y.goal.exist ≡ true) is (all_apart x sorts used out _ (joined _ (lits_vars (renumber x).goal.pure_pre) (chunks_vars (renumber x).goal.pre.chunks) (lits_out x sorts used out) (chunks_out x sorts used out)));
      pre_cards = cards.pre;
      post_cards = cards.post;
    }

pub old_are_program : OldAreProgram
old_are_program n r sorted e v k =
    let d : Made n r = made n r e in
    let m : Node = d.solved in
    let kept : Kept no_set is_set_var n m = solve_keeps no_set is_set_var n m (has_sorts no_set is_set_var n sorted) d.done in
    let left : Among v (prune (tidy_node m)).goal.program = in_among v (prune (tidy_node m)).goal.program (subst (λ (y : Renaming). var_in v y.old ≡ true) (sym d.is) k) in
    ap (var_in v) (sym kept.program) ∙ among_in v m.goal.program (filter_out _ v m.goal.program left).0
