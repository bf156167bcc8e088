-- What the normal form keeps for the bound: cardinalities that are small, and the measure.
use Rattle.cyp_goal.proofs.EachVar.{Each, EachPart, each_part, link_vars}
use Rattle.cyp_goal.proofs.NormalKeeps.{HasSorts, Kept, prune_keeps, solve_keeps, tidy_keeps}
use Rattle.cyp_goal.proofs.Renumber.{no_set}
use Rattle.cyp_goal.specs.Normal.{Renaming, normal, tidy_node}
use Rattle.cyp_goal.specs.Numbering.{numbering, renumber}
use Rattle.cyp_goal.specs.Pruning.{prune}
use Rattle.cyp_heap.proofs.Agreement.{side_agrees}
use Rattle.cyp_heap.specs.Goals.{apply_link, image_vars, node_vars}
use Rattle.cyp_heap.specs.Stores.{Store}
use Rattle.cyp_heap.specs.declared.goal.Link.{Link}
use Rattle.cyp_heap.specs.declared.goal.Node.{Node}
use Rattle.cyp_kernel.proofs.AppliedSides.{side_applied}
use Rattle.cyp_kernel.proofs.NormalBody.{renamed}
use Rattle.cyp_kernel.proofs.NormalMeaning.{Made, made, ready_sorts, solving_keeps}
use Rattle.cyp_kernel.proofs.NormalReady.{old_are_program}
use Rattle.cyp_kernel.proofs.NumberMeaning.{In, for_new, int_new, members_new, new, new_members, new_number, new_program, number_new, old_in, stands}
use Rattle.cyp_kernel.proofs.SidesAgree.{agree_on}
use Rattle.cyp_kernel.proofs.SolveMeaning.{keeps_then}
use Rattle.cyp_kernel.proofs.TidyMeaning.{pruning_keeps, tidying_keeps}
use Rattle.cyp_kernel.specs.Compile.{renamed_names}
use Rattle.cyp_kernel.specs.Meaning.{IsReady, KeepsMeaning, MeetsPre}
use Rattle.cyp_kernel.specs.Naming.{Names}
use Rattle.cyp_prog.specs.Programs.{Body, Procedure}
use Rattle.cyp_sound.proofs.Time.KeepsTime.{BodyKeepsTime, CardsWithin}
use Rattle.cyp_sound.proofs.Time.Measures.{LexAtMost, ends_of, levels_of, measure_at, nat_of, numbers_of}
use Rattle.cyp_sound.proofs.Time.Plain.{is_bare_card, is_card, is_card_base}
use Rattle.cyp_sound.proofs.Time.SolvedTuples.{ends_applied, last_mapped, pruned_same, solved_same}
use Rattle.cyp_step.specs.Unfolding.{last_tuple}
use Rattle.cyp_term.proofs.Equality.{Decides-sort_eq, Decides-var_eq}
use Rattle.cyp_term.proofs.Lists.{Among-left, Among-right}
use Rattle.cyp_term.specs.Meaning.{Assignment, under, value}
use Rattle.cyp_term.specs.Terms.{apply_term, is_set_var, sort_eq, term_at, term_base, term_vars, var_eq}
use Rattle.cyp_term.specs.declared.subst.Subst.{Subst}
use Rattle.cyp_term.specs.declared.term.Sort.{Sort}
use Rattle.cyp_term.specs.declared.term.Sort.TheVariants.{Card, Set}
use Rattle.cyp_term.specs.declared.term.Term.{Term}
use Rattle.cyp_term.specs.declared.term.Var.{Var}
use Rattle.std.proofs.Common.{◌≡◌, refl, sym, ap, ◌∙◌, ℕ, true, List, [], ◌∷◌, ◌++◌, map, flat_map, Option, Some, None, inl, ℤ, pos, ◌+ℤ◌, not, arith, subst}
use Rattle.std.proofs.lemmas.Bool.{and_parts, cond_both}
use Rattle.std.proofs.lemmas.Int.{ints}
use Rattle.std.specs.List.{list_all}
use Rattle.std.specs.Ordering.{int_eq}
use Rattle.std.specs.Prelude.{IfSome}

-- ---- new numbers

module _ (vs : List Var) where
  -- the old variable has the sort of the new one
  old_sort : (us : List Var) (w : Var) → (old_in vs us w).sort ≡ w.sort
  old_sort [] w = refl
  old_sort (v ∷ us) w =
      cond_both (var_eq (new vs v) w) v (old_in vs us w) (λ (x : Var). x.sort ≡ w.sort) (λ e. ap (λ (x : Var). x.sort) ((Decides-var_eq (new vs v) w).0 e)) (λ e. old_sort us w)

  new_within : (z : ℕ) (s : Assignment) → CardsWithin z s → CardsWithin z (for_new vs s)
  new_within z s h w e = h (old_in vs vs w) (ap (λ (o : Sort). sort_eq o Card) (old_sort vs w) ∙ e)

  card_no_set : (v : Var) → is_card v ≡ true → no_set v ≡ true
  card_no_set v e = ap (λ (o : Sort). not (sort_eq o Set)) ((Decides-sort_eq v.sort Card).0 e)

  bare_number : (s : Assignment) (b : Option Var) (o : ℤ) → is_card_base b ≡ true → Each (In vs) (term_vars (record { base = b; offset = o }))
      → value (for_new vs s) (term_base (numbering vs) (record { base = b; offset = o }) b) ≡ value s (record { base = b; offset = o })
  bare_number s None o h k = refl
  bare_number s (Some v) o h k =
      let here : In vs v = k v (inl refl) in
      ap (λ (x : Option Term). value (for_new vs s) (term_at (record { base = Some v; offset = o }) x)) (int_new vs v (card_no_set v h) here)
      ∙ ap (λ (x : ℤ). x +ℤ (pos 0 +ℤ o)) (new_number vs s v here)
      ∙ ap (λ (x : ℤ). s.number v +ℤ x) (zero_plus o)
    where
      zero_plus : (x : ℤ) → pos 0 +ℤ x ≡ x
      zero_plus x = omega (arith, ints)

  bare_numbers : (s : Assignment) (ts : List Term) → list_all is_bare_card ts ≡ true → Each (In vs) (flat_map term_vars ts) → numbers_of (for_new vs s) (map (apply_term (numbering vs)) ts) ≡ numbers_of s ts
  bare_numbers s [] h k = refl
  bare_numbers s (t ∷ ts) h k =
      let both = and_parts (is_bare_card t) (list_all is_bare_card ts) h in
      let here = bare_number s t.base t.offset (and_parts (int_eq t.offset (pos 0)) (is_card_base t.base) both.0).1 (λ v i. k v (Among-left v (term_vars t) (flat_map term_vars ts) i)) in
      let rest = bare_numbers s ts both.1 (λ v i. k v (Among-right v (term_vars t) (flat_map term_vars ts) i)) in
      λ i. nat_of (here i) ∷ rest i

-- the variables of the last tuple are the node's
pub last_vars : (P : Var → Type 0) (ls : List Link) → Each P (flat_map link_vars ls) → Each P (flat_map term_vars (last_tuple ls))
last_vars P [] e v k = absurd k
last_vars P (l ∷ []) e v k =
    e v (Among-left v (flat_map term_vars l.tuple ++ image_vars l.map) [] (Among-left v (flat_map term_vars l.tuple) (image_vars l.map) k))
last_vars P (l ∷ m ∷ ls) e v k = last_vars P (m ∷ ls) (λ w i. e w (Among-right w (link_vars l) (flat_map link_vars (m ∷ ls)) i)) v k

-- the precondition under the new names
numbered_pre : (n : Node) → HasSorts no_set is_set_var n → (s : Assignment) (h : Store) (ns : List ℕ) → MeetsPre n s h ns → MeetsPre (renumber n) (for_new (node_vars n) s) h ns
numbered_pre n f s h ns k =
    let vs : List Var = node_vars n in
    let by : Subst = numbering vs in
    let u : Assignment = for_new vs s in
    let parts : EachPart (In vs) n = each_part (In vs) n (λ v i. i) in
    (side_applied by u n.preds n.goal.pure_pre n.goal.pre.chunks h ns (stands vs u n.goal.pre.chunks f.pre parts.pre)).0
    (side_agrees n.preds s (under by u) n.goal.pure_pre n.goal.pre.chunks h ns
    (agree_on s (under by u) no_set is_set_var (In vs) (λ v i m. sym (number_new vs u v i m ∙ new_number vs s v m))
    (λ v i m z. sym (members_new vs u v i m z ∙ new_members vs s v m z)) n.goal.pure_pre n.goal.pre.chunks f.pure_pre f.pre parts.pure_pre parts.pre) k)

-- ---- the normal form

-- an assignment for the normal form, with small cardinalities and the same measure
pub record NormalAt (n : Node) (r : Renaming) (s : Assignment) (h : Store) (ns : List ℕ) : Type 0 where
  pub values : Assignment
  pub holds : MeetsPre r.node values h ns
  pub program : map values.number r.node.goal.program ≡ map s.number r.old
  pub cards : (z : ℕ) → CardsWithin z s → CardsWithin z values
  pub measure : measure_at values r.node.links ≡ measure_at s n.links

pub normal_at : (n : Node) (r : Renaming) → IsReady n → list_all is_bare_card (last_tuple n.links) ≡ true → normal n ≡ Some r → (s : Assignment) (h : Store) (ns : List ℕ) → MeetsPre n s h ns → NormalAt n r s h ns
normal_at n r ready bare e s h ns pre =
    let d : Made n r = made n r e in
    let m : Node = d.solved in
    let x : Node = prune (tidy_node m) in
    let vs : List Var = node_vars x in
    let kept : Kept no_set is_set_var n m = solve_keeps no_set is_set_var n m (ready_sorts n ready) d.done in
    let sorts : HasSorts no_set is_set_var x = prune_keeps no_set is_set_var (tidy_node m) (tidy_keeps no_set is_set_var m kept.fits) in
    let before : KeepsMeaning n x = keeps_then n m x (solving_keeps n m ready d.done) (keeps_then m (tidy_node m) x (tidying_keeps m) (pruning_keeps (tidy_node m))) in
    let tuple : List Term = last_tuple n.links in
    let ends : List ℕ = ends_of n.links in
    let solved = subst (λ (o : Option Node). IfSome o (λ (y : Node). (last_tuple y.links ≡ tuple) × (ends_of y.links ≡ ends))) d.done (solved_same tuple ends bare n (refl, refl)) in
    let same = pruned_same tuple ends bare m solved in
    let parts : EachPart (In vs) x = each_part (In vs) x (λ v i. i) in
    let here_bare : list_all is_bare_card (last_tuple x.links) ≡ true = ap (list_all is_bare_card) same.0 ∙ bare in
    let numbers : numbers_of (for_new vs s) (last_tuple (renumber x).links) ≡ numbers_of s tuple =
    ap (numbers_of (for_new vs s)) (last_mapped (apply_link (numbering vs)) (map (apply_term (numbering vs))) refl (λ l. refl) x.links)
    ∙ bare_numbers vs s (last_tuple x.links) here_bare (last_vars (In vs) x.links parts.links) ∙ ap (numbers_of s) same.0 in
    let lengths : ends_of (renumber x).links ≡ ends = ends_applied tuple ends bare (numbering vs) x.links ∙ same.1 in
    subst (λ (y : Renaming). NormalAt n y s h ns) d.is
    (record {
      values = for_new vs s;
      holds = numbered_pre x sorts s h ns (before s h ns pre).0;
      program = new_program vs s x.goal.program parts.program;
      cards = λ z c. new_within vs z s c;
      measure = λ i. levels_of (lengths i) (numbers i);
    })

-- a body that keeps to its time at the normal form does so at the node
pub normal_in_time : (ps : List Procedure) (n : Node) (r : Renaming) (names : Names) (k : ℕ) (start : List ℕ) (b : Body) → IsReady n → list_all is_bare_card (last_tuple n.links) ≡ true → normal n ≡ Some r
    → BodyKeepsTime ps r.node (renamed_names names r) k start b → BodyKeepsTime ps n names k start b
normal_in_time ps n r names k start b ready bare e timed s h ns vs z pre named place =
    let a : NormalAt n r s h ns = normal_at n r ready bare e s h ns pre in
    timed a.values h ns vs z a.holds (renamed names vs s a.values r.node.goal.program r.old a.program (λ v i. named v (old_are_program n r ready.sorted e v i)))
    (record { cells = place.cells; cards = a.cards z place.cards; below = subst (λ (m : List ℕ). LexAtMost m start) (sym a.measure) place.below; long = place.long })
