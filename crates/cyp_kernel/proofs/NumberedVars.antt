-- The new name of each variable stands where the variable stood, so each existential of a normal form stands in it.
use Rattle.std.proofs.Common.{◌≡◌, refl, sym, ap, ◌∙◌, ◌&&◌, Bool, List, [], ◌∷◌, ◌++◌, map, flat_map, Option, Some, None, true, inl, inr, subst, ⊎_elim}
use Rattle.std.specs.List.{list_all}
use Rattle.std.proofs.lemmas.Bool.{and_parts}
use Rattle.cyp_goal.proofs.EachVar.{Each, EachPart, each_part, first, second}
use Rattle.cyp_goal.proofs.Fits.{set_parts}
use Rattle.cyp_goal.proofs.Live.{among_in, in_among}
use Rattle.cyp_goal.proofs.NormalKeeps.{HasSorts, Kept, prune_keeps, solve_keeps, tidy_keeps}
use Rattle.cyp_goal.proofs.Renumber.{no_set}
use Rattle.cyp_goal.specs.Normal.{Renaming, tidy_node}
use Rattle.cyp_goal.specs.Numbering.{new_name, numbering, renumber}
use Rattle.cyp_goal.specs.Pruning.{prune}
use Rattle.cyp_goal.specs.Raw.{arg_fits, chunk_fits, lit_fits, set_fits, term_fits}
use Rattle.cyp_heap.specs.Chunks.{apply_arg, apply_card, apply_chunk, arg_vars, card_vars, chunk_vars, chunks_vars}
use Rattle.cyp_heap.specs.Goals.{node_vars}
use Rattle.cyp_heap.specs.declared.chunk.Arg.{Arg}
use Rattle.cyp_heap.specs.declared.chunk.Arg.TheVariants.{Int as IntArg, Set as SetArg}
use Rattle.cyp_heap.specs.declared.chunk.Chunk.{Chunk}
use Rattle.cyp_heap.specs.declared.chunk.Chunk.TheVariants.{Block, Cell, Inst}
use Rattle.cyp_heap.specs.declared.goal.Node.{Node}
use Rattle.cyp_kernel.proofs.NormalMeaning.{Made, made, ready_sorts}
use Rattle.cyp_kernel.proofs.NormalSteady.{steady_is_ready}
use Rattle.cyp_kernel.proofs.NumberMeaning.{int_new, set_new}
use Rattle.cyp_kernel.specs.SteadyLaws.{NormalExistStand}
use Rattle.cyp_term.proofs.Equality.{Decides-term_eq, Decides-var_eq}
use Rattle.cyp_term.proofs.Lists.{Among, Among-cases, Among-left, Among-map, Among-right, each_at, each_from, filter_out, flat_in, flat_out, map_from}
use Rattle.cyp_term.proofs.Repeats.{without_repeats_in}
use Rattle.cyp_term.specs.Terms.{apply_lit, apply_set, apply_term, base_vars, image_or_self, is_set_var, lit_vars, lits_vars, set_image, set_vars, term_at, term_base, term_eq, term_vars, var_at, var_eq, var_in}
use Rattle.cyp_term.specs.declared.lit.Lit.{Lit}
use Rattle.cyp_term.specs.declared.lit.Lit.TheVariants.{Eq, Le, Lt, Member, Ne, NotMember, NotSame, NotSub, Same, Sub}
use Rattle.cyp_term.specs.declared.lit.SetTerm.{SetTerm}
use Rattle.cyp_term.specs.declared.subst.Subst.{Subst}
use Rattle.cyp_term.specs.declared.term.Term.{Term}
use Rattle.cyp_term.specs.declared.term.Var.{Var}

module _ (vs : List Var) where
  abbrev by : Subst
  by = numbering vs

  abbrev new : Var → Var
  new = new_name vs

  abbrev In : Var → Type 0
  In v = Among v vs

  -- the new names of the first variables are among the second
  abbrev Go : List Var → List Var → Type 0
  Go us ws = (v : Var) → Among v us → Among (new v) ws

  go_both : (a b : Bool) (us ws us' ws' : List Var) → (a ≡ true → Each In us → Go us us') → (b ≡ true → Each In ws → Go ws ws') → (a && b) ≡ true → Each In (us ++ ws) → Go (us ++ ws) (us' ++ ws')
  go_both a b us ws us' ws' f g h k v m =
      let both = and_parts a b h in
      ⊎_elim (λ i. Among-left (new v) us' ws' (f both.0 (first In us ws k) v i)) (λ i. Among-right (new v) us' ws' (g both.1 (second In us ws k) v i)) (Among-cases v us ws m)

  go_list : {A : Type 0} (test : A → Bool) (vars : A → List Var) (f : A → A) → ((x : A) → test x ≡ true → Each In (vars x) → Go (vars x) (vars (f x)))
      → (xs : List A) → list_all test xs ≡ true → Each In (flat_map vars xs) → Go (flat_map vars xs) (flat_map vars (map f xs))
  go_list test vars f one [] h k v m = absurd m
  go_list test vars f one (x ∷ xs) h k v m = go_both (test x) (list_all test xs) (vars x) (flat_map vars xs) (vars (f x)) (flat_map vars (map f xs)) (one x) (go_list test vars f one xs) h k v m

  at_base : (t : Term) (b : Option Var) → t.base ≡ b → list_all no_set (base_vars b) ≡ true → Each In (base_vars b) → Go (base_vars b) (term_vars (term_base by t b))
  at_base t None e h k v m = absurd m
  at_base t (Some u) e h k v (inl i) =
      subst (λ (o : Option Term). Among (new v) (term_vars (term_at t o))) (sym (int_new vs u (and_parts (no_set u) true h).0 (k u (inl refl)))) (inl (ap new i))
  at_base t (Some u) e h k v (inr i) = absurd i

  term_goes : (t : Term) → term_fits no_set t ≡ true → Each In (term_vars t) → Go (term_vars t) (term_vars (apply_term by t))
  term_goes t h k = at_base t t.base refl h k

  set_goes : (u : SetTerm) → set_fits no_set is_set_var u ≡ true → Each In (set_vars u) → Go (set_vars u) (set_vars (apply_set by u))
  set_goes u h k v m =
      let f = set_parts no_set is_set_var u h in
      let image : Var → SetTerm = λ w. image_or_self w (set_image by.sets w) in
      let us : List SetTerm = map image u.vars in
      let flat : List Var = flat_map term_vars u.elems in
      ⊎_elim
      (λ i.
      let is = set_new vs v (each_at is_set_var v u.vars f.vars i) (k v (Among-left v u.vars flat i)) in
      let there : Among (new v) (image v).vars = subst (λ (o : Option SetTerm). Among (new v) (image_or_self v o).vars) (sym is) (inl refl) in
      Among-left (new v) (apply_set by u).vars (flat_map term_vars (apply_set by u).elems)
      (without_repeats_in var_eq Decides-var_eq (new v) (flat_map (λ (x : SetTerm). x.vars) us) (flat_in (λ (x : SetTerm). x.vars) (new v) (image v) us (Among-map image v u.vars i) there)))
      (λ i.
      let t = flat_out term_vars v u.elems i in
      let es : List Term = flat_map (λ (x : SetTerm). x.elems) us ++ map (apply_term by) u.elems in
      Among-right (new v) (apply_set by u).vars (flat_map term_vars (apply_set by u).elems)
      (flat_in term_vars (new v) (apply_term by t.0) (apply_set by u).elems
      (without_repeats_in term_eq Decides-term_eq (apply_term by t.0) es
      (Among-right (apply_term by t.0) (flat_map (λ (x : SetTerm). x.elems) us) (map (apply_term by) u.elems) (Among-map (apply_term by) t.0 u.elems t.1)))
      (term_goes t.0 (each_at (term_fits no_set) t.0 u.elems f.elems t.1) (λ w j. k w (Among-right w u.vars flat (flat_in term_vars w t.0 u.elems t.1 j))) v t.2)))
      (Among-cases v u.vars flat m)

  two_terms : (a b : Term) → (term_fits no_set a && term_fits no_set b) ≡ true → Each In (term_vars a ++ term_vars b) → Go (term_vars a ++ term_vars b) (term_vars (apply_term by a) ++ term_vars (apply_term by b))
  two_terms a b = go_both (term_fits no_set a) (term_fits no_set b) (term_vars a) (term_vars b) (term_vars (apply_term by a)) (term_vars (apply_term by b)) (term_goes a) (term_goes b)

  two_sets : (a b : SetTerm) → (set_fits no_set is_set_var a && set_fits no_set is_set_var b) ≡ true → Each In (set_vars a ++ set_vars b) → Go (set_vars a ++ set_vars b) (set_vars (apply_set by a) ++ set_vars (apply_set by b))
  two_sets a b = go_both (set_fits no_set is_set_var a) (set_fits no_set is_set_var b) (set_vars a) (set_vars b) (set_vars (apply_set by a)) (set_vars (apply_set by b)) (set_goes a) (set_goes b)

  term_and_set : (a : Term) (b : SetTerm) → (term_fits no_set a && set_fits no_set is_set_var b) ≡ true → Each In (term_vars a ++ set_vars b) → Go (term_vars a ++ set_vars b) (term_vars (apply_term by a) ++ set_vars (apply_set by b))
  term_and_set a b = go_both (term_fits no_set a) (set_fits no_set is_set_var b) (term_vars a) (set_vars b) (term_vars (apply_term by a)) (set_vars (apply_set by b)) (term_goes a) (set_goes b)

  lit_goes : (l : Lit) → lit_fits no_set is_set_var l ≡ true → Each In (lit_vars l) → Go (lit_vars l) (lit_vars (apply_lit by l))
  lit_goes (Eq a b) = two_terms a b
  lit_goes (Ne a b) = two_terms a b
  lit_goes (Le a b) = two_terms a b
  lit_goes (Lt a b) = two_terms a b
  lit_goes (Same a b) = two_sets a b
  lit_goes (NotSame a b) = two_sets a b
  lit_goes (Member a b) = term_and_set a b
  lit_goes (NotMember a b) = term_and_set a b
  lit_goes (Sub a b) = two_sets a b
  lit_goes (NotSub a b) = two_sets a b

  arg_goes : (a : Arg) → arg_fits no_set is_set_var a ≡ true → Each In (arg_vars a) → Go (arg_vars a) (arg_vars (apply_arg by a))
  arg_goes (IntArg t) = term_goes t
  arg_goes (SetArg u) = set_goes u

  card_goes : (c : Option Var) → list_all no_set (card_vars c) ≡ true → Each In (card_vars c) → Go (card_vars c) (card_vars (apply_card by c))
  card_goes None h k v m = absurd m
  card_goes (Some c) h k v (inl e) =
      inl (ap new e ∙ sym (ap (var_at c) (int_new vs c (and_parts (no_set c) true h).0 (k c (inl refl)))))
  card_goes (Some c) h k v (inr m) = absurd m

  chunk_goes : (c : Chunk) → chunk_fits no_set is_set_var c ≡ true → Each In (chunk_vars c) → Go (chunk_vars c) (chunk_vars (apply_chunk by c))
  chunk_goes (Inst i) =
      go_both (list_all (arg_fits no_set is_set_var) i.args) (list_all no_set (card_vars i.card)) (flat_map arg_vars i.args) (card_vars i.card) (flat_map arg_vars (map (apply_arg by) i.args)) (card_vars (apply_card by i.card))
      (go_list (arg_fits no_set is_set_var) arg_vars (apply_arg by) arg_goes i.args) (card_goes i.card)
  chunk_goes (Block b) = term_goes b.at
  chunk_goes (Cell c) = two_terms c.at c.content

pub normal_exist_stand : NormalExistStand
normal_exist_stand n r steady e =
    let d : Made n r = made n r e in
    let t : Node = tidy_node d.solved in
    let x : Node = prune t in
    let kept : Kept no_set is_set_var n d.solved = solve_keeps no_set is_set_var n d.solved (ready_sorts n (steady_is_ready n steady)) d.done in
    let f : HasSorts no_set is_set_var x = prune_keeps no_set is_set_var t (tidy_keeps no_set is_set_var d.solved kept.fits) in
    subst (λ (y : Node). list_all (λ v. var_in v (node_vars y)) y.goal.exist ≡ true) (ap (λ (y : Renaming). y.node) d.is) (stands t f)
  where
    stands : (t : Node) → HasSorts no_set is_set_var (prune t) → list_all (λ v. var_in v (node_vars (renumber (prune t)))) (renumber (prune t)).goal.exist ≡ true
    stands t f =
        let x : Node = prune t in
        let vs : List Var = node_vars x in
        let m : Node = renumber x in
        let before : EachPart (λ v. Among v vs) x = each_part (λ v. Among v vs) x (λ v i. i) in
        let after : EachPart (λ v. Among v (node_vars m)) m = each_part (λ v. Among v (node_vars m)) m (λ v i. i) in
        let chunks : List Var = chunks_vars t.goal.post.chunks in
        let lits : List Var = lits_vars t.goal.pure_post in
        each_from (λ v. var_in v (node_vars m)) m.goal.exist (λ v k.
        let w = map_from (new_name vs) v x.goal.exist k in
        let later = in_among w.0 (chunks ++ lits) (filter_out (λ u. var_in u (chunks ++ lits)) w.0 t.goal.exist w.1).1 in
        among_in v (node_vars m)
        (subst (λ (u : Var). Among u (node_vars m)) (sym w.2)
        (⊎_elim
        (λ i. after.post (new_name vs w.0) (go_list vs (chunk_fits no_set is_set_var) chunk_vars (apply_chunk (numbering vs)) (chunk_goes vs) x.goal.post.chunks f.post before.post w.0 i))
        (λ i. after.pure_post (new_name vs w.0) (go_list vs (lit_fits no_set is_set_var) lit_vars (apply_lit (numbering vs)) (lit_goes vs) x.goal.pure_post f.pure_post before.pure_post w.0 i))
        (Among-cases w.0 chunks lits later))))
