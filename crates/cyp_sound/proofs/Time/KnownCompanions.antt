-- The companions of what a rule leaves, and what is known of them, which stays through the normal form.
use Rattle.cyp_goal.proofs.LinksNormal.{IsKept, IsKeptWithin, normal_kept}
use Rattle.cyp_goal.specs.Facts.{facts}
use Rattle.cyp_goal.specs.Normal.{Renaming, normal}
use Rattle.cyp_goal.specs.Pruning.{only_vars}
use Rattle.cyp_heap.specs.Chunks.{insts, without}
use Rattle.cyp_heap.specs.Goals.{apply_link}
use Rattle.cyp_heap.specs.declared.chunk.Chunk.{Chunk}
use Rattle.cyp_heap.specs.declared.chunk.Chunk.TheVariants.{Block, Cell, Inst}
use Rattle.cyp_heap.specs.declared.chunk.InstOf.{InstOf}
use Rattle.cyp_heap.specs.declared.goal.Link.{Link}
use Rattle.cyp_heap.specs.declared.goal.Node.{Node}
use Rattle.cyp_kernel.proofs.NormalEach.{Split, split}
use Rattle.cyp_pred.specs.Unfold.{unfold_inst}
use Rattle.cyp_pred.specs.declared.unfolded.Unfolded.{Unfolded}
use Rattle.cyp_sound.proofs.Time.Measures.{Companion, companions_from, companions_of, ends_of}
use Rattle.cyp_step.proofs.RawNodes.{by_option, by_test}
use Rattle.cyp_step.specs.Calling.{chunk_or_none, is_callable, raw_call}
use Rattle.cyp_step.specs.Changes.{Raws, next_of, post_of, pre_of}
use Rattle.cyp_step.specs.FlatRules.{block_cells, first_exist, first_place, has_exist, is_bare_open, is_cell_at, is_place, is_universal, occurs_elsewhere, pair_at, raw_alloc, raw_frame, raw_free, raw_pick, raw_read, raw_write, without_cells}
use Rattle.cyp_step.specs.Shown.{is_open, is_program_expr, shown}
use Rattle.cyp_step.specs.Step.{all_normal, raws, renamed_premises}
use Rattle.cyp_step.specs.Unfolding.{is_testable, open_link, open_premise, raw_close, raw_open}
use Rattle.cyp_step.specs.declared.rule.Rule.{Rule}
use Rattle.cyp_step.specs.declared.rule.Rule.TheVariants.{ByAlloc, ByCall, ByClose, ByEmp, ByFrame, ByFree, ByInconsistent, ByOpen, ByPick, ByRead, ByWrite}
use Rattle.cyp_term.specs.Entailment.{satisfiable}
use Rattle.cyp_term.specs.declared.lit.Lit.TheVariants.{Eq}
use Rattle.cyp_term.specs.declared.term.Var.{Var}
use Rattle.cyp_unify.specs.Frames.{focus, frame_pairs}
use Rattle.cyp_unify.specs.Matches.{match_at}
use Rattle.std.proofs.Common.{◌≡◌, refl, sym, ap, ◌∙◌, ℕ, not, ◌&&◌, ◌||◌, ◌==◌, length, List, [], ◌∷◌, ◌++◌, map, Option, Some, None, subst}
use Rattle.std.proofs.lemmas.List.{append-nil, append_assoc, length-map}
use Rattle.std.proofs.lemmas.List.Elements.{All-from_recursion}
use Rattle.std.proofs.lemmas.Option.{option_and_then_some, same_Some}
use Rattle.std.specs.List.{AllByRecursion, list_all, All}
use Rattle.std.specs.Prelude.{IfSome, nat_lt, slice_get}

-- the companion that Open adds; none where no instance stands at the place
abbrev pub link_of : Node → ℕ → List Chunk → List Link
link_of n i (Inst j ∷ cs) = open_link n i j ∷ []
link_of n i _ = []

-- the chunk at the place alone
abbrev pub chunk_at : List Chunk → ℕ → List Chunk
chunk_at cs i = chunk_or_none (slice_get cs i)

-- the companions of a rule's premises before the normal form
abbrev pub links_after : Node → Rule → List Link
links_after n (ByOpen i) = n.links ++ link_of n i (chunk_at (pre_of n) i)
links_after n r = n.links

-- what those below know of this companion, behind those of the node
abbrev pub companion_by : Node → List Link → Companion
companion_by n [] = record { goal = n.goal; own = []; ends = ends_of n.links }
companion_by n (l ∷ ls) = record { goal = l.goal; own = l.own; ends = ends_of n.links ++ length l.tuple ∷ [] }

-- what those below know of the node where it is opened
abbrev pub own_companion : Node → Rule → Companion
own_companion n (ByOpen i) = companion_by n (link_of n i (chunk_at (pre_of n) i))
own_companion n r = companion_by n []

-- ---- what each rule leaves

abbrev HaveLinks : List Link → Raws → Type 0
HaveLinks ls None = Unit {0}
HaveLinks ls (Some ms) = AllByRecursion (λ (m : Node). m.links ≡ ls) ms

module _ (n : Node) where
  read_links : (i : ℕ) (o : Option Chunk) → HaveLinks n.links (raw_read n i o)
  read_links i (Some (Cell c)) =
      by_test (is_program_expr n.goal c.at && not (is_program_expr n.goal c.content) && occurs_elsewhere n.goal c.content) (λ e. rw e (refl, tt)) (λ e. rw e tt)
  read_links i _ = tt

  frame_links : (i : ℕ) → HaveLinks n.links (raw_frame n i)
  frame_links i =
      by_option (pair_at i (frame_pairs n.goal)) (λ e. rw (e, raw_frame) tt)
      (λ p e. rw (e, raw_frame) (by_test (list_all (λ l. is_open n.goal l || shown n.goal (l ∷ [])) p.lits) (λ d. rw d (refl, tt)) (λ d. rw d tt)))

  write_links : (i : ℕ) (o p : Option Chunk) → HaveLinks n.links (raw_write n i o p)
  write_links i (Some (Cell f)) (Some (Cell c)) =
      by_test (not (has_exist n.goal f.at) && is_program_expr n.goal c.at && is_program_expr n.goal f.content)
      (λ e. rw (e, raw_write)
      (by_test (is_place i (first_place (is_cell_at n.goal f.at) 0 (pre_of n)))
      (λ d. rw d (by_test (shown n.goal (Eq f.content c.content ∷ [])) (λ b. rw b tt) (λ b. rw b (refl, tt))))
      (λ d. rw d tt)))
      (λ e. rw (e, raw_write) tt)
  write_links i _ _ = tt

  free_links : (i : ℕ) (o : Option Chunk) → HaveLinks n.links (raw_free n i o)
  free_links i (Some (Block b)) =
      by_test (length (post_of n) == 0 && is_program_expr n.goal b.at)
      (λ e. rw (e, raw_free) (by_option (without_cells (block_cells b.at b.size) (without (pre_of n) i)) (λ d. rw d tt) (λ cs d. rw d (refl, tt))))
      (λ e. rw (e, raw_free) tt)
  free_links i _ = tt

  alloc_links : (o : Option Chunk) → HaveLinks n.links (raw_alloc n o)
  alloc_links (Some (Block f)) = by_test (is_bare_open n.goal f.at) (λ e. rw e (refl, tt)) (λ e. rw e tt)
  alloc_links _ = tt

  pick_links : (u : Var) → HaveLinks n.links (raw_pick n u)
  pick_links u =
      by_option (first_exist n.goal) (λ e. rw (e, raw_pick) tt)
      (λ v e. rw (e, raw_pick) (by_test (length (insts (post_of n)) == 0 && is_universal n.goal v.sort u) (λ d. rw d (refl, tt)) (λ d. rw d tt)))

  call_links : (ks : List ℕ) (o : Option Link) → HaveLinks n.links (raw_call n ks o)
  call_links ks None = tt
  call_links ks (Some l) =
      by_option (match_at n l ks) (λ e. rw (e, raw_call) tt) (λ f e. rw (e, raw_call) (by_test (is_callable n l f) (λ d. rw d (refl, tt)) (λ d. rw d tt)))

  opened_links : (i : ℕ) (j : InstOf) (us : List Unfolded) → AllByRecursion (λ (m : Node). m.links ≡ n.links ++ open_link n i j ∷ []) (map (open_premise n i (open_link n i j)) us)
  opened_links i j [] = tt
  opened_links i j (u ∷ us) = (refl, opened_links i j us)

  open_links : (i : ℕ) (o : Option Chunk) → HaveLinks (n.links ++ link_of n i (chunk_or_none o)) (raw_open n i o)
  open_links i (Some (Inst j)) =
      by_test (nat_lt (length n.links) 4 && nat_lt j.tag 255 && list_all (λ (u : Unfolded). is_testable n.goal u.guard) (unfold_inst n.preds j (next_of n)))
      (λ e. rw e (opened_links i j (unfold_inst n.preds j (next_of n))))
      (λ e. rw e tt)
  open_links i _ = tt

  close_links : (c : ℕ) (o : Option Chunk) → HaveLinks n.links (raw_close n c o)
  close_links c (Some (Inst j)) =
      by_test (nat_lt j.tag 255) (λ e. rw e (by_option (slice_get (unfold_inst n.preds j (next_of n)) c) (λ d. rw d tt) (λ u d. rw d (refl, tt)))) (λ e. rw e tt)
  close_links c _ = tt

  all_links : (r : Rule) → HaveLinks (links_after n r) (raws n r)
  all_links ByInconsistent = by_test (satisfiable (facts n.goal)) (λ e. rw (e, raws) tt) (λ e. rw (e, raws) tt)
  all_links ByEmp =
      by_test (length (pre_of n) == 0 && length (post_of n) == 0 && length n.goal.exist == 0)
      (λ e. rw (e, raws) (by_test (shown n.goal n.goal.pure_post) (λ d. rw d tt) (λ d. rw d tt)))
      (λ e. rw (e, raws) tt)
  all_links (ByRead i) = read_links i (slice_get (pre_of n) i)
  all_links (ByFrame i) = frame_links i
  all_links (ByWrite i) = write_links i (focus n.goal) (slice_get (pre_of n) i)
  all_links (ByFree i) = free_links i (slice_get (pre_of n) i)
  all_links ByAlloc = alloc_links (focus n.goal)
  all_links (ByCall c) = call_links c.pairs (slice_get n.links c.link)
  all_links (ByOpen i) = open_links i (slice_get (pre_of n) i)
  all_links (ByClose c) = close_links c (focus n.goal)
  all_links (ByPick u) = pick_links u

pub links_are : (n : Node) (r : Rule) (ms : List Node) → raws n r ≡ Some ms → AllByRecursion (λ (m : Node). m.links ≡ links_after n r) ms
links_are n r ms e = subst (HaveLinks (links_after n r)) e (all_links n r)

pub raws_have_links : (n : Node) (r : Rule) (ms : List Node) → raws n r ≡ Some ms → All (λ (m : Node). m.links ≡ links_after n r) ms
raws_have_links n r ms e = All-from_recursion (λ (m : Node). m.links ≡ links_after n r) ms (links_are n r ms e)

-- ---- through the normal form

same_companions : (f : Link → Link) → ((l : Link) → (f l).goal ≡ l.goal) → ((l : Link) → (f l).own ≡ l.own) → ((l : Link) → length (f l).tuple ≡ length l.tuple) → (ends : List ℕ) (ls : List Link)
    → companions_from ends (map f ls) ≡ companions_from ends ls
same_companions f a b c ends [] = refl
same_companions f a b c ends (l ∷ ls) =
    (λ i. record { goal = a l i; own = b l i; ends = ends ++ c l i ∷ [] } ∷ companions_from (ends ++ c l i ∷ []) (map f ls))
    ∙ (λ i. record { goal = l.goal; own = l.own; ends = ends ++ length l.tuple ∷ [] } ∷ same_companions f a b c (ends ++ length l.tuple ∷ []) ls i)

module _ (cs : List Companion) where
  abbrev KnowsThem : Node → Type 0
  KnowsThem n = companions_of n.links ≡ cs

  knows_kept : IsKept KnowsThem
  knows_kept = record {
    applied = λ by k n h. same_companions (apply_link by) (λ l. refl) (λ l. refl) (λ l. length-map l.tuple _) [] n.links ∙ h;
    beside = λ n g e f h. h;
    maps = λ n vs h. same_companions (λ (k : Link). record k { map = only_vars vs k.map }) (λ l. refl) (λ l. refl) (λ l. refl) [] n.links ∙ h;
  }

normal_companions : (n : Node) (r : Renaming) → normal n ≡ Some r → companions_of r.node.links ≡ companions_of n.links
normal_companions n r e =
    let cs : List Companion = companions_of n.links in
    let k : IsKeptWithin (KnowsThem cs) r = subst (λ (o : Option Renaming). IfSome o (IsKeptWithin (KnowsThem cs))) e (normal_kept (KnowsThem cs) (knows_kept cs) n refl) in
    k.fact

each_knows : (ls : List Link) (xs : List Node) (rs : List Renaming) → AllByRecursion (λ (m : Node). m.links ≡ ls) xs → all_normal xs ≡ Some rs
    → AllByRecursion (λ (s : Renaming). companions_of s.node.links ≡ companions_of ls) rs
each_knows ls [] rs h e = subst (AllByRecursion (λ (s : Renaming). companions_of s.node.links ≡ companions_of ls)) (same_Some [] rs e) tt
each_knows ls (x ∷ xs) rs h e =
    let d : Split x xs rs = split x xs rs e in
    subst (AllByRecursion (λ (s : Renaming). companions_of s.node.links ≡ companions_of ls)) (sym d.both)
    (normal_companions x d.first d.first_is ∙ ap companions_of h.0, each_knows ls xs d.others h.1 d.others_are)

pub premises_know_companions : (n : Node) (r : Rule) (rs : List Renaming) → renamed_premises n r ≡ Some rs → All (λ (s : Renaming). companions_of s.node.links ≡ companions_of (links_after n r)) rs
premises_know_companions n r rs e =
    All-from_recursion (λ (s : Renaming). companions_of s.node.links ≡ companions_of (links_after n r)) rs
    (option_and_then_some all_normal (raws n r) rs e (λ xs is d. each_knows (links_after n r) xs rs (links_are n r xs is) d))

-- ---- one companion more

pub companions_push : (ends : List ℕ) (ls : List Link) (l : Link)
    → companions_from ends (ls ++ l ∷ []) ≡ companions_from ends ls ++ record { goal = l.goal; own = l.own; ends = ends ++ ends_of ls ++ length l.tuple ∷ [] } ∷ []
companions_push ends [] l = ap (λ (es : List ℕ). record { goal = l.goal; own = l.own; ends = es ++ length l.tuple ∷ [] } ∷ []) (sym (append-nil ends))
companions_push ends (k ∷ ls) l =
    let more : List ℕ = ends ++ length k.tuple ∷ [] in
    ap (λ (cs : List Companion). record { goal = k.goal; own = k.own; ends = more } ∷ cs)
    (companions_push more ls l
    ∙ ap (λ (es : List ℕ). companions_from more ls ++ record { goal = l.goal; own = l.own; ends = es ++ length l.tuple ∷ [] } ∷ [])
    (append_assoc ends (length k.tuple ∷ []) (ends_of ls)))
