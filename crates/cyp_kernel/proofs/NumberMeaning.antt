-- New numbers of variables keep the meaning of a node: an assignment for the new names, and back.
use Rattle.std.proofs.Common.{◌≡◌, refl, sym, ap, ◌∙◌, inl, inr, Bool, true, false, cond, List, [], ◌∷◌, map, filter, flat_map, ℤ, pos, ◌+ℤ◌, Option, Some, arith, subst, ⊎_elim}
use Rattle.std.specs.List.{list_all}
use Rattle.std.proofs.lemmas.Int.{ints}
use Rattle.std.proofs.lemmas.Bool.{and_parts, both_ways, cases_Bool, cond-false, cond-true, cond_both, false_from_ne_true}
use Rattle.cyp_goal.proofs.EachVar.{Each, EachPart, each_part, first, second}
use Rattle.cyp_goal.proofs.Live.{among_in, in_among}
use Rattle.cyp_goal.proofs.NormalKeeps.{HasSorts, has_sorts}
use Rattle.cyp_goal.proofs.Ranks.{IsRenaming-name_in, name_in, name_in-new}
use Rattle.cyp_goal.proofs.Rename.{IsRenaming}
use Rattle.cyp_goal.proofs.Renumber.{int_image_at, no_set, set_image_at}
use Rattle.cyp_goal.specs.Numbering.{new_name, numbering, renumber}
use Rattle.cyp_goal.specs.Raw.{arg_fits, chunk_fits}
use Rattle.cyp_heap.proofs.Agreement.{cards_of, side_agrees}
use Rattle.cyp_heap.specs.Chunks.{arg_vars, card_vars, chunk_vars, chunks_vars}
use Rattle.cyp_heap.specs.Goals.{node_vars}
use Rattle.cyp_heap.specs.declared.chunk.Chunk.{Chunk}
use Rattle.cyp_heap.specs.declared.chunk.Chunk.TheVariants.{Block, Cell, Inst}
use Rattle.cyp_heap.specs.declared.goal.Node.{Node}
use Rattle.cyp_kernel.proofs.AppliedSides.{Stands, side_applied}
use Rattle.cyp_kernel.proofs.BySort.{agree_from, same_members, same_number}
use Rattle.cyp_kernel.proofs.SidesAgree.{agree_on}
use Rattle.cyp_kernel.proofs.SolvedTruth.{alone}
use Rattle.cyp_kernel.specs.Correct.{AgreeBeside, AgreeBy}
use Rattle.cyp_kernel.specs.Meaning.{KeepsRenamed, NumberingKeeps}
use Rattle.cyp_term.proofs.Equality.{Decides-var_eq}
use Rattle.cyp_term.proofs.Lists.{Among, Among-cases, each_at, filter_in, map_from}
use Rattle.cyp_term.specs.Meaning.{Assignment, SameMembers, image_members, image_value, int_in, under}
use Rattle.cyp_term.specs.Terms.{int_image, is_set_var, set_image, set_var, var_at, var_eq, var_in, var_term}
use Rattle.cyp_term.specs.declared.lit.SetTerm.{SetTerm}
use Rattle.cyp_term.specs.declared.subst.Subst.{Subst}
use Rattle.cyp_term.specs.declared.term.Term.{Term}
use Rattle.cyp_term.specs.declared.term.Var.{Var}

-- the cardinalities among the variables of chunks that fit
cards_fit : (p q : Var → Bool) (K : Var → Type 0) (cs : List Chunk) → list_all (chunk_fits p q) cs ≡ true → Each K (chunks_vars cs) → (c : Var) → Among c (cards_of cs) → (p c ≡ true) × K c
cards_fit p q K [] h e c k = absurd k
cards_fit p q K (Inst i ∷ cs) h e c k =
    let both = and_parts (chunk_fits p q (Inst i)) (list_all (chunk_fits p q) cs) h in
    ⊎_elim
    (λ m. (
      each_at p c (card_vars i.card) (and_parts (list_all (arg_fits p q) i.args) (list_all p (card_vars i.card)) both.0).1 m,
      second K (flat_map arg_vars i.args) (card_vars i.card) (first K (chunk_vars (Inst i)) (chunks_vars cs) e) c m,
    ))
    (cards_fit p q K cs both.1 (second K (chunk_vars (Inst i)) (chunks_vars cs) e) c)
    (Among-cases c (card_vars i.card) (cards_of cs) k)
cards_fit p q K (Block b ∷ cs) h e c k = cards_fit p q K cs (and_parts (chunk_fits p q (Block b)) (list_all (chunk_fits p q) cs) h).1 (second K (chunk_vars (Block b)) (chunks_vars cs) e) c k
cards_fit p q K (Cell d ∷ cs) h e c k = cards_fit p q K cs (and_parts (chunk_fits p q (Cell d)) (list_all (chunk_fits p q) cs) h).1 (second K (chunk_vars (Cell d)) (chunks_vars cs) e) c k

plus_zero : (x : ℤ) → x +ℤ pos 0 ≡ x
plus_zero x = omega (arith, ints)

module _ (vs : List Var) where
  abbrev pub new : Var → Var
  new v = new_name vs v

  abbrev pub by : Subst
  by = numbering vs

  -- the variable is one of those that are numbered
  abbrev pub In : Var → Type 0
  In v = Among v vs

  new_apart : (v w : Var) → In v → In w → new v ≡ new w → v ≡ w
  new_apart v w i j e =
      let is : IsRenaming (name_in vs) = IsRenaming-name_in vs in
      (Decides-var_eq v w).0 (sym (is.apart v w) ∙ (Decides-var_eq (name_in vs v) (name_in vs w)).1 (sym (name_in-new vs v i) ∙ e ∙ name_in-new vs w j))

  -- ---- what was numbered

  -- the variable of the list that got this name
  abbrev pub old_in : List Var → Var → Var
  old_in [] w = w
  old_in (v ∷ us) w = cond (var_eq (new v) w) v (old_in us w)

  old_of_new : (us : List Var) → ((v : Var) → Among v us → In v) → (v : Var) → Among v us → old_in us (new v) ≡ v
  old_of_new [] h v k = absurd k
  old_of_new (u ∷ us) h v k =
      cond_both (var_eq (new u) (new v)) u (old_in us (new v)) (λ x. x ≡ v)
      (λ e. new_apart u v (h u (inl refl)) (h v k) ((Decides-var_eq (new u) (new v)).0 e))
      (λ e. old_of_new us (λ w m. h w (inr m)) v (rest e k))
    where
      rest : var_eq (new u) (new v) ≡ false → Among v (u ∷ us) → Among v us
      rest e (inl i) = absurd (both_ways (var_eq (new u) (new v)) e ((Decides-var_eq (new u) (new v)).1 (ap new (sym i))))
      rest e (inr m) = m

  old_new : (v : Var) → In v → old_in vs (new v) ≡ v
  old_new v k = old_of_new vs (λ w m. m) v k

  -- ---- images

  pub int_new : (v : Var) → no_set v ≡ true → In v → int_image by.ints v ≡ Some (var_term (new v))
  int_new v h k = int_image_at (λ w. var_term (new w)) (filter no_set vs) v (filter_in no_set v vs k h)

  pub set_new : (v : Var) → is_set_var v ≡ true → In v → set_image by.sets v ≡ Some (set_var (new v))
  set_new v h k = set_image_at (λ w. set_var (new w)) (filter is_set_var vs) v (filter_in is_set_var v vs k h)

  module _ (x : Assignment) where
    pub number_new : (v : Var) → no_set v ≡ true → In v → (under by x).number v ≡ x.number (new v)
    number_new v h k = ap (image_value x v) (int_new v h k) ∙ plus_zero (x.number (new v))

    pub members_new : (v : Var) → is_set_var v ≡ true → In v → SameMembers ((under by x).members v) (x.members (new v))
    members_new v h k z = ap (λ (o : Option SetTerm). int_in z (image_members x v o)) (set_new v h k) ∙ alone x (set_var (new v)) (new v) refl refl z

    pub stands : (cs : List Chunk) → list_all (chunk_fits no_set is_set_var) cs ≡ true → Each In (chunks_vars cs) → Stands by x (cards_of cs)
    stands cs h e c k =
        let f = cards_fit no_set is_set_var In cs h e c k in
        number_new c f.0 f.1 ∙ sym (ap (λ (o : Option Term). x.number (var_at c o)) (int_new c f.0 f.1))

  -- ---- the assignment for the new names

  abbrev pub for_new : Assignment → Assignment
  for_new s = record { number = λ w. s.number (old_in vs w); members = λ w. s.members (old_in vs w) }

  pub new_number : (s : Assignment) (v : Var) → In v → (for_new s).number (new v) ≡ s.number v
  new_number s v k = ap s.number (old_new v k)

  pub new_members : (s : Assignment) (v : Var) → In v → SameMembers ((for_new s).members (new v)) (s.members v)
  new_members s v k z = ap (λ (w : Var). int_in z (s.members w)) (old_new v k)

  pub new_program : (s : Assignment) (us : List Var) → Each In us → map (for_new s).number (map new us) ≡ map s.number us
  new_program s [] e = refl
  new_program s (u ∷ us) e =
      let here = new_number s u (e u (inl refl)) in
      let rest = new_program s us (second In (u ∷ []) us e) in
      λ i. here i ∷ rest i

  -- ---- and back: by the new names, and as before where a variable has none

  abbrev pub for_old : Assignment → Assignment → Assignment
  for_old s t = record {
    number = λ v. cond (var_in v vs) (t.number (new v)) (s.number v);
    members = λ v. cond (var_in v vs) (t.members (new v)) (s.members v);
  }

  old_number : (s t : Assignment) (v : Var) → In v → (for_old s t).number v ≡ t.number (new v)
  old_number s t v k = cond-true (var_in v vs) (t.number (new v)) (s.number v) (among_in v vs k)

  old_members : (s t : Assignment) (v : Var) → In v → (for_old s t).members v ≡ t.members (new v)
  old_members s t v k = cond-true (var_in v vs) (t.members (new v)) (s.members v) (among_in v vs k)

  module _ (exist : List Var) (used : Each In exist) where
    pub new_beside : (v : Var) → In v → var_in v exist ≡ false → var_in (new v) (map new exist) ≡ false
    new_beside v k out = false_from_ne_true (var_in (new v) (map new exist)) (λ e.
        let m = map_from new (new v) exist (in_among (new v) (map new exist) e) in
        both_ways (var_in v exist) out (among_in v exist (subst (λ (w : Var). Among w exist) (sym (new_apart v m.0 k (used m.0 m.1) m.2)) m.1)))

  module _ (exist : List Var) (used : Each In exist) (s t : Assignment) (beside : AgreeBeside (map new exist) (for_new s) t) where
    back_beside : AgreeBeside exist s (for_old s t)
    back_beside v out = ⊎_elim named unnamed (cases_Bool (var_in v vs))
      where
        named : var_in v vs ≡ true → AgreeBy v.sort s (for_old s t) v
        named e =
            let k : In v = in_among v vs e in
            let a = beside (new v) (new_beside exist used v k out) in
            agree_from v.sort s (for_old s t) v
            (λ h. sym (new_number s v k) ∙ same_number (for_new s) t (new v) h a ∙ sym (old_number s t v k))
            (λ h z. sym (new_members s v k z) ∙ same_members (for_new s) t (new v) h a z ∙ ap (int_in z) (sym (old_members s t v k)))

        unnamed : var_in v vs ≡ false → AgreeBy v.sort s (for_old s t) v
        unnamed e =
            agree_from v.sort s (for_old s t) v
            (λ h. sym (cond-false (var_in v vs) (t.number (new v)) (s.number v) e))
            (λ h z. ap (int_in z) (sym (cond-false (var_in v vs) (t.members (new v)) (s.members v) e)))

pub number_meaning : (n : Node) → HasSorts no_set is_set_var n → Each (λ v. Among v (node_vars n)) n.goal.exist → KeepsRenamed n (record { node = renumber n; old = n.goal.program })
number_meaning n f used s h ns k =
    let vs : List Var = node_vars n in
    let by : Subst = numbering vs in
    let In : Var → Type 0 = λ v. Among v vs in
    let u : Assignment = for_new vs s in
    let parts : EachPart In n = each_part In n (λ v i. i) in (
      u,
      (side_applied by u n.preds n.goal.pure_pre n.goal.pre.chunks h ns (stands vs u n.goal.pre.chunks f.pre parts.pre)).0
          (side_agrees n.preds s (under by u) n.goal.pure_pre n.goal.pre.chunks h ns
          (agree_on s (under by u) no_set is_set_var In (λ v i m. sym (number_new vs u v i m ∙ new_number vs s v m))
          (λ v i m z. sym (members_new vs u v i m z ∙ new_members vs s v m z)) n.goal.pure_pre n.goal.pre.chunks f.pure_pre f.pre parts.pure_pre parts.pre) k),
      new_program vs s n.goal.program parts.program,
      λ x p.
          let t : Assignment = p.0 in
          let b : Assignment = for_old vs s t in (
            b,
            p.1,
            back_beside vs n.goal.exist used s t p.2,
            side_agrees n.preds (under by t) b n.goal.pure_post n.goal.post.chunks x p.1
                (agree_on (under by t) b no_set is_set_var In (λ v i m. number_new vs t v i m ∙ sym (old_number vs s t v m))
                (λ v i m z. members_new vs t v i m z ∙ ap (int_in z) (sym (old_members vs s t v m))) n.goal.pure_post n.goal.post.chunks f.pure_post f.post parts.pure_post parts.post)
                ((side_applied by t n.preds n.goal.pure_post n.goal.post.chunks x p.1 (stands vs t n.goal.post.chunks f.post parts.post)).1 p.3),
          ),
    )

pub numbering_keeps : NumberingKeeps
numbering_keeps n sorted used =
    number_meaning n (has_sorts no_set is_set_var n sorted) (λ v k. in_among v (node_vars n) (each_at (λ w. var_in w (node_vars n)) v n.goal.exist used k))
