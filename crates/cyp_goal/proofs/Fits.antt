-- Tests of the variables in places of integers and of sets: what they tell of each variable, and that a substitution keeps them.
use Rattle.std.proofs.Common.{◌≡◌, [], ◌∷◌, ◌++◌, List, Option, Some, None, Bool, true, ◌&&◌, map, flat_map, refl, ⊎_elim}
use Rattle.std.specs.List.{list_all}
use Rattle.std.proofs.lemmas.Bool.{and_from, and_parts}
use Rattle.cyp_goal.proofs.AllNew.{all_new-without_repeats}
use Rattle.cyp_goal.specs.Raw.{lit_once, set_once, all_new, arg_fits, chunk_fits, goal_fits, images_fit, link_fits, lit_fits, node_fits, set_fits, term_fits}
use Rattle.cyp_heap.specs.Chunks.{apply_arg, apply_card, apply_chunk, card_vars}
use Rattle.cyp_heap.specs.Goals.{apply_bind, apply_link, apply_node, apply_set_bind}
use Rattle.cyp_heap.specs.declared.chunk.Arg.{Arg}
use Rattle.cyp_heap.specs.declared.chunk.Arg.TheVariants.{Int as IntArg, Set as SetArg}
use Rattle.cyp_heap.specs.declared.chunk.Chunk.{Chunk}
use Rattle.cyp_heap.specs.declared.chunk.Chunk.TheVariants.{Block, Cell, Inst}
use Rattle.cyp_heap.specs.declared.goal.Goal.{Goal}
use Rattle.cyp_heap.specs.declared.goal.Link.{Link}
use Rattle.cyp_heap.specs.declared.goal.Node.{Node}
use Rattle.cyp_term.proofs.Equality.{Decides-term_eq, Decides-var_eq}
use Rattle.cyp_term.proofs.Lists.{Among, Among-cases, Among-left, Among-right, each_at, each_from, flat_in, flat_out, map_from}
use Rattle.cyp_term.proofs.Repeats.{without_repeats_out}
use Rattle.cyp_term.specs.Terms.{apply_lit, apply_set, apply_term, base_or, base_vars, image_or_self, int_image, lit_vars, set_image, set_vars, term_at, term_base, term_eq, term_vars, var_at, var_eq, without_repeats}
use Rattle.cyp_term.specs.declared.lit.Lit.{Lit}
use Rattle.cyp_term.specs.declared.lit.Lit.TheVariants.{Eq, Le, Lt, Member, Ne, NotMember, NotSame, NotSub, Same, Sub}
use Rattle.cyp_term.specs.declared.lit.SetTerm.{SetTerm}
use Rattle.cyp_term.specs.declared.subst.IntBind.{IntBind}
use Rattle.cyp_term.specs.declared.subst.SetBind.{SetBind}
use Rattle.cyp_term.specs.declared.subst.Subst.{Subst}
use Rattle.cyp_term.specs.declared.term.Term.{Term}
use Rattle.cyp_term.specs.declared.term.Var.{Var}

-- ---- the two facts of a set term
module _ (p q : Var → Bool) (u : SetTerm) where
  pub record FitSet : Type 0 where
    pub vars : list_all q u.vars ≡ true
    pub elems : list_all (term_fits p) u.elems ≡ true

  pub set_parts : set_fits p q u ≡ true → FitSet
  set_parts h = let a = and_parts (list_all q u.vars) (list_all (term_fits p) u.elems) h in record { vars = a.0; elems = a.1 }

  pub set_from : FitSet → set_fits p q u ≡ true
  set_from f = and_from (list_all q u.vars) (list_all (term_fits p) u.elems) f.vars f.elems

-- ---- each variable
module _ (p : Var → Bool) where
  set_at : (u : SetTerm) → set_fits p p u ≡ true → (v : Var) → Among v (set_vars u) → p v ≡ true
  set_at u h v k =
      let f = set_parts p p u h in
      ⊎_elim (each_at p v u.vars f.vars)
      (λ m. let t = flat_out (λ t. term_vars t) v u.elems m in each_at p v (term_vars t.0) (each_at (term_fits p) t.0 u.elems f.elems t.1) t.2)
      (Among-cases v u.vars (flat_map (λ t. term_vars t) u.elems) k)

  both_at : (a b : Bool) (v : Var) (xs ys : List Var) → (a ≡ true → Among v xs → p v ≡ true) → (b ≡ true → Among v ys → p v ≡ true) → (a && b) ≡ true
      → Among v (xs ++ ys) → p v ≡ true
  both_at a b v xs ys f g h k = let both = and_parts a b h in ⊎_elim (f both.0) (g both.1) (Among-cases v xs ys k)

  two_terms_at : (a b : Term) → (term_fits p a && term_fits p b) ≡ true → (v : Var) → Among v (term_vars a ++ term_vars b) → p v ≡ true
  two_terms_at a b h v k = both_at (term_fits p a) (term_fits p b) v (term_vars a) (term_vars b) (each_at p v (term_vars a)) (each_at p v (term_vars b)) h k

  two_sets_at : (a b : SetTerm) → (set_fits p p a && set_fits p p b) ≡ true → (v : Var) → Among v (set_vars a ++ set_vars b) → p v ≡ true
  two_sets_at a b h v k = both_at (set_fits p p a) (set_fits p p b) v (set_vars a) (set_vars b) (λ e. set_at a e v) (λ e. set_at b e v) h k

  term_and_set_at : (a : Term) (b : SetTerm) → (term_fits p a && set_fits p p b) ≡ true → (v : Var) → Among v (term_vars a ++ set_vars b) → p v ≡ true
  term_and_set_at a b h v k = both_at (term_fits p a) (set_fits p p b) v (term_vars a) (set_vars b) (each_at p v (term_vars a)) (λ e. set_at b e v) h k

  pub lit_fits-at : (l : Lit) → lit_fits p p l ≡ true → (v : Var) → Among v (lit_vars l) → p v ≡ true
  lit_fits-at (Eq a b) = two_terms_at a b
  lit_fits-at (Ne a b) = two_terms_at a b
  lit_fits-at (Le a b) = two_terms_at a b
  lit_fits-at (Lt a b) = two_terms_at a b
  lit_fits-at (Same a b) = two_sets_at a b
  lit_fits-at (NotSame a b) = two_sets_at a b
  lit_fits-at (Member a b) = term_and_set_at a b
  lit_fits-at (NotMember a b) = term_and_set_at a b
  lit_fits-at (Sub a b) = two_sets_at a b
  lit_fits-at (NotSub a b) = two_sets_at a b

-- ---- other tests that each variable passes
module _ (p q p' : Var → Bool) where
  term_other : (t : Term) → ((v : Var) → Among v (term_vars t) → p' v ≡ true) → term_fits p' t ≡ true
  term_other t h = each_from p' (term_vars t) h

  set_other : (u : SetTerm) → set_fits p q u ≡ true → ((v : Var) → Among v (set_vars u) → p' v ≡ true) → set_fits p' p' u ≡ true
  set_other u f h =
      set_from p' p' u (record {
        vars = each_from p' u.vars (λ v k. h v (Among-left v u.vars (flat_map (λ t. term_vars t) u.elems) k));
        elems = each_from (term_fits p') u.elems (λ t k. term_other t (λ v m.
            h v (Among-right v u.vars (flat_map (λ t. term_vars t) u.elems) (flat_in (λ t. term_vars t) v t u.elems k m))));
      })

  two_terms_other : (a b : Term) → (term_fits p a && term_fits p b) ≡ true → ((v : Var) → Among v (term_vars a ++ term_vars b) → p' v ≡ true) → (term_fits p' a && term_fits p' b) ≡ true
  two_terms_other a b f h =
      and_from (term_fits p' a) (term_fits p' b) (term_other a (λ v k. h v (Among-left v (term_vars a) (term_vars b) k)))
      (term_other b (λ v k. h v (Among-right v (term_vars a) (term_vars b) k)))

  two_sets_other : (a b : SetTerm) → (set_fits p q a && set_fits p q b) ≡ true → ((v : Var) → Among v (set_vars a ++ set_vars b) → p' v ≡ true) → (set_fits p' p' a && set_fits p' p' b) ≡ true
  two_sets_other a b f h =
      let both = and_parts (set_fits p q a) (set_fits p q b) f in
      and_from (set_fits p' p' a) (set_fits p' p' b) (set_other a both.0 (λ v k. h v (Among-left v (set_vars a) (set_vars b) k)))
      (set_other b both.1 (λ v k. h v (Among-right v (set_vars a) (set_vars b) k)))

  term_and_set_other : (a : Term) (b : SetTerm) → (term_fits p a && set_fits p q b) ≡ true → ((v : Var) → Among v (term_vars a ++ set_vars b) → p' v ≡ true) → (term_fits p' a && set_fits p' p' b) ≡ true
  term_and_set_other a b f h =
      let both = and_parts (term_fits p a) (set_fits p q b) f in
      and_from (term_fits p' a) (set_fits p' p' b) (term_other a (λ v k. h v (Among-left v (term_vars a) (set_vars b) k)))
      (set_other b both.1 (λ v k. h v (Among-right v (term_vars a) (set_vars b) k)))

  pub lit_fits-other : (l : Lit) → lit_fits p q l ≡ true → ((v : Var) → Among v (lit_vars l) → p' v ≡ true) → lit_fits p' p' l ≡ true
  lit_fits-other (Eq a b) = two_terms_other a b
  lit_fits-other (Ne a b) = two_terms_other a b
  lit_fits-other (Le a b) = two_terms_other a b
  lit_fits-other (Lt a b) = two_terms_other a b
  lit_fits-other (Same a b) = two_sets_other a b
  lit_fits-other (NotSame a b) = two_sets_other a b
  lit_fits-other (Member a b) = term_and_set_other a b
  lit_fits-other (NotMember a b) = term_and_set_other a b
  lit_fits-other (Sub a b) = two_sets_other a b
  lit_fits-other (NotSub a b) = two_sets_other a b

-- ---- substitution

-- the image of a variable that passes a test fits
pub record ImagesFit (p q : Var → Bool) (by : Subst) : Type 0 where
  pub ints : (v : Var) (to : Term) → p v ≡ true → int_image by.ints v ≡ Some to → term_fits p to ≡ true
  pub sets : (v : Var) (u : SetTerm) → q v ≡ true → set_image by.sets v ≡ Some u → set_fits p q u ≡ true

module _ (p q : Var → Bool) (by : Subst) (fit : ImagesFit p q by) where
  at_image : (t : Term) (v : Var) (o : Option Term) → int_image by.ints v ≡ o → p v ≡ true → term_fits p t ≡ true → term_fits p (term_at t o) ≡ true
  at_image t v None e h k = k
  at_image t v (Some to) e h k = fit.ints v to h e

  at_base : (t : Term) (b : Option Var) → list_all p (base_vars b) ≡ true → term_fits p t ≡ true → term_fits p (term_base by t b) ≡ true
  at_base t None h k = k
  at_base t (Some v) h k = at_image t v (int_image by.ints v) refl (and_parts (p v) true h).0 k

  pub term_fits-apply : (t : Term) → term_fits p t ≡ true → term_fits p (apply_term by t) ≡ true
  term_fits-apply t h = at_base t t.base h h

  image_fits : (v : Var) (o : Option SetTerm) → set_image by.sets v ≡ o → q v ≡ true
      → (list_all q (image_or_self v o).vars ≡ true) × (list_all (term_fits p) (image_or_self v o).elems ≡ true)
  image_fits v None e h = (and_from (q v) true h refl, refl)
  image_fits v (Some u) e h = let f = set_parts p q u (fit.sets v u h e) in (f.vars, f.elems)

  abbrev image : Var → SetTerm
  image v = image_or_self v (set_image by.sets v)

  vars_fit : (u : SetTerm) → FitSet p q u → (w : Var) → Among w (without_repeats var_eq (flat_map (λ (i : SetTerm). i.vars) (map image u.vars))) → q w ≡ true
  vars_fit u f w k =
      let i = flat_out (λ (i : SetTerm). i.vars) w (map image u.vars) (without_repeats_out var_eq Decides-var_eq w (flat_map (λ (i : SetTerm). i.vars) (map image u.vars)) k) in
      let v = map_from image i.0 u.vars i.1 in
      each_at q w (image v.0).vars (image_fits v.0 (set_image by.sets v.0) refl (each_at q v.0 u.vars f.vars v.1)).0 (rw (← v.2) i.2)

  elems_fit : (u : SetTerm) → FitSet p q u → (t : Term)
      → Among t (without_repeats term_eq (flat_map (λ (i : SetTerm). i.elems) (map image u.vars) ++ map (apply_term by) u.elems)) → term_fits p t ≡ true
  elems_fit u f t k =
      ⊎_elim
      (λ m.
      let i = flat_out (λ (i : SetTerm). i.elems) t (map image u.vars) m in
      let v = map_from image i.0 u.vars i.1 in
      each_at (term_fits p) t (image v.0).elems (image_fits v.0 (set_image by.sets v.0) refl (each_at q v.0 u.vars f.vars v.1)).1 (rw (← v.2) i.2))
      (λ m.
      let s = map_from (apply_term by) t u.elems m in
      rw s.2 (term_fits-apply s.0 (each_at (term_fits p) s.0 u.elems f.elems s.1)))
      (Among-cases t (flat_map (λ (i : SetTerm). i.elems) (map image u.vars)) (map (apply_term by) u.elems)
      (without_repeats_out term_eq Decides-term_eq t (flat_map (λ (i : SetTerm). i.elems) (map image u.vars) ++ map (apply_term by) u.elems) k))

  pub set_fits-apply : (u : SetTerm) → set_fits p q u ≡ true → set_fits p q (apply_set by u) ≡ true
  set_fits-apply u h =
      let f = set_parts p q u h in
      set_from p q (apply_set by u) (record {
        vars = each_from q (apply_set by u).vars (vars_fit u f);
        elems = each_from (term_fits p) (apply_set by u).elems (elems_fit u f);
      })

  both_fit : (a b a' b' : Bool) → (a ≡ true → a' ≡ true) → (b ≡ true → b' ≡ true) → (a && b) ≡ true → (a' && b') ≡ true
  both_fit a b a' b' f g h = let both = and_parts a b h in and_from a' b' (f both.0) (g both.1)

  all_fit : {A B : Type 0} (test : A → Bool) (test' : B → Bool) (f : A → B) → ((x : A) → test x ≡ true → test' (f x) ≡ true) → (xs : List A)
      → list_all test xs ≡ true → list_all test' (map f xs) ≡ true
  all_fit test test' f e [] h = refl
  all_fit test test' f e (x ∷ xs) h =
      both_fit (test x) (list_all test xs) (test' (f x)) (list_all test' (map f xs)) (e x) (all_fit test test' f e xs) h

  two_terms_fit : (a b : Term) → (term_fits p a && term_fits p b) ≡ true → (term_fits p (apply_term by a) && term_fits p (apply_term by b)) ≡ true
  two_terms_fit a b h = both_fit (term_fits p a) (term_fits p b) _ _ (term_fits-apply a) (term_fits-apply b) h

  two_sets_fit : (a b : SetTerm) → (set_fits p q a && set_fits p q b) ≡ true → (set_fits p q (apply_set by a) && set_fits p q (apply_set by b)) ≡ true
  two_sets_fit a b h = both_fit (set_fits p q a) (set_fits p q b) _ _ (set_fits-apply a) (set_fits-apply b) h

  term_and_set_fit : (a : Term) (b : SetTerm) → (term_fits p a && set_fits p q b) ≡ true → (term_fits p (apply_term by a) && set_fits p q (apply_set by b)) ≡ true
  term_and_set_fit a b h = both_fit (term_fits p a) (set_fits p q b) _ _ (term_fits-apply a) (set_fits-apply b) h

  pub lit_fits-apply : (l : Lit) → lit_fits p q l ≡ true → lit_fits p q (apply_lit by l) ≡ true
  lit_fits-apply (Eq a b) = two_terms_fit a b
  lit_fits-apply (Ne a b) = two_terms_fit a b
  lit_fits-apply (Le a b) = two_terms_fit a b
  lit_fits-apply (Lt a b) = two_terms_fit a b
  lit_fits-apply (Same a b) = two_sets_fit a b
  lit_fits-apply (NotSame a b) = two_sets_fit a b
  lit_fits-apply (Member a b) = term_and_set_fit a b
  lit_fits-apply (NotMember a b) = term_and_set_fit a b
  lit_fits-apply (Sub a b) = two_sets_fit a b
  lit_fits-apply (NotSub a b) = two_sets_fit a b

  pub lits_fit-apply : (ls : List Lit) → list_all (lit_fits p q) ls ≡ true → list_all (lit_fits p q) (map (apply_lit by) ls) ≡ true
  lits_fit-apply ls h = all_fit (lit_fits p q) (lit_fits p q) (apply_lit by) lit_fits-apply ls h

  arg_fits-apply : (a : Arg) → arg_fits p q a ≡ true → arg_fits p q (apply_arg by a) ≡ true
  arg_fits-apply (IntArg t) h = term_fits-apply t h
  arg_fits-apply (SetArg u) h = set_fits-apply u h

  base_fits : (v : Var) (b : Option Var) → p v ≡ true → list_all p (base_vars b) ≡ true → list_all p (base_or v b ∷ []) ≡ true
  base_fits v None h k = and_from (p v) true h refl
  base_fits v (Some w) h k = k

  var_fits : (v : Var) (o : Option Term) → int_image by.ints v ≡ o → p v ≡ true → list_all p (var_at v o ∷ []) ≡ true
  var_fits v None e h = and_from (p v) true h refl
  var_fits v (Some to) e h = base_fits v to.base h (fit.ints v to h e)

  card_fits : (c : Option Var) → list_all p (card_vars c) ≡ true → list_all p (card_vars (apply_card by c)) ≡ true
  card_fits None h = refl
  card_fits (Some v) h = var_fits v (int_image by.ints v) refl (and_parts (p v) true h).0

  pub chunk_fits-apply : (c : Chunk) → chunk_fits p q c ≡ true → chunk_fits p q (apply_chunk by c) ≡ true
  chunk_fits-apply (Inst i) h =
      both_fit (list_all (arg_fits p q) i.args) (list_all p (card_vars i.card)) _ _ (all_fit (arg_fits p q) (arg_fits p q) (apply_arg by) arg_fits-apply i.args) (card_fits i.card) h
  chunk_fits-apply (Block k) h = term_fits-apply k.at h
  chunk_fits-apply (Cell k) h = two_terms_fit k.at k.content h

  pub link_fits-apply : (k : Link) → link_fits p q k ≡ true → link_fits p q (apply_link by k) ≡ true
  link_fits-apply k h =
      both_fit (list_all (term_fits p) k.tuple) (images_fit p q k.map) _ _ (all_fit (term_fits p) (term_fits p) (apply_term by) term_fits-apply k.tuple)
      (both_fit (list_all (λ (b : IntBind). term_fits p b.to) k.map.ints) (list_all (λ (b : SetBind). set_fits p q b.to) k.map.sets) _ _
      (all_fit (λ (b : IntBind). term_fits p b.to) (λ (b : IntBind). term_fits p b.to) (apply_bind by) (λ b. term_fits-apply b.to) k.map.ints)
      (all_fit (λ (b : SetBind). set_fits p q b.to) (λ (b : SetBind). set_fits p q b.to) (apply_set_bind by) (λ b. set_fits-apply b.to) k.map.sets)) h

-- ---- a substitution leaves no repeats
set_once-apply : (by : Subst) (u : SetTerm) → set_once (apply_set by u) ≡ true
set_once-apply by u =
    let images : List SetTerm = map (λ v. image_or_self v (set_image by.sets v)) u.vars in
    and_from (all_new var_eq [] (apply_set by u).vars) (all_new term_eq [] (apply_set by u).elems)
    (all_new-without_repeats var_eq (flat_map (λ (i : SetTerm). i.vars) images))
    (all_new-without_repeats term_eq (flat_map (λ (i : SetTerm). i.elems) images ++ map (apply_term by) u.elems))

two_once : (by : Subst) (a b : SetTerm) → (set_once (apply_set by a) && set_once (apply_set by b)) ≡ true
two_once by a b = and_from (set_once (apply_set by a)) (set_once (apply_set by b)) (set_once-apply by a) (set_once-apply by b)

lit_once-apply : (by : Subst) (l : Lit) → lit_once (apply_lit by l) ≡ true
lit_once-apply by (Same a b) = two_once by a b
lit_once-apply by (NotSame a b) = two_once by a b
lit_once-apply by (Member t b) = set_once-apply by b
lit_once-apply by (NotMember t b) = set_once-apply by b
lit_once-apply by (Sub a b) = two_once by a b
lit_once-apply by (NotSub a b) = two_once by a b
lit_once-apply by _ = refl

lits_once-apply : (by : Subst) (ls : List Lit) → list_all lit_once (map (apply_lit by) ls) ≡ true
lits_once-apply by [] = refl
lits_once-apply by (l ∷ ls) = and_from (lit_once (apply_lit by l)) (list_all lit_once (map (apply_lit by) ls)) (lit_once-apply by l) (lits_once-apply by ls)

-- ---- the parts of a node
module _ (p q : Var → Bool) where
  pub record FitNode (n : Node) : Type 0 where
    pub pure_pre : list_all (lit_fits p q) n.goal.pure_pre ≡ true
    pub pre : list_all (chunk_fits p q) n.goal.pre.chunks ≡ true
    pub pure_post : list_all (lit_fits p q) n.goal.pure_post ≡ true
    pub post : list_all (chunk_fits p q) n.goal.post.chunks ≡ true
    pub links : list_all (link_fits p q) n.links ≡ true
    pub pre_once : list_all lit_once n.goal.pure_pre ≡ true
    pub post_once : list_all lit_once n.goal.pure_post ≡ true

  pub node_parts : (n : Node) → node_fits p q n ≡ true → list_all lit_once n.goal.pure_pre ≡ true → list_all lit_once n.goal.pure_post ≡ true → FitNode n
  node_parts n h pre_once post_once =
      let g : Goal = n.goal in
      let d = and_parts (goal_fits p q g) (list_all (link_fits p q) n.links) h in
      let c = and_parts (list_all (lit_fits p q) g.pure_pre && list_all (chunk_fits p q) g.pre.chunks && list_all (lit_fits p q) g.pure_post) (list_all (chunk_fits p q) g.post.chunks) d.0 in
      let b = and_parts (list_all (lit_fits p q) g.pure_pre && list_all (chunk_fits p q) g.pre.chunks) (list_all (lit_fits p q) g.pure_post) c.0 in
      let a = and_parts (list_all (lit_fits p q) g.pure_pre) (list_all (chunk_fits p q) g.pre.chunks) b.0 in
      record { pure_pre = a.0; pre = a.1; pure_post = b.1; post = c.1; links = d.1; pre_once = pre_once; post_once = post_once }

  pub node_fits-apply : (by : Subst) → ImagesFit p q by → (n : Node) → FitNode n → FitNode (apply_node by n)
  node_fits-apply by fit n f = record {
    pure_pre = lits_fit-apply p q by fit n.goal.pure_pre f.pure_pre;
    pre = all_fit p q by fit (chunk_fits p q) (chunk_fits p q) (apply_chunk by) (chunk_fits-apply p q by fit) n.goal.pre.chunks f.pre;
    pure_post = lits_fit-apply p q by fit n.goal.pure_post f.pure_post;
    post = all_fit p q by fit (chunk_fits p q) (chunk_fits p q) (apply_chunk by) (chunk_fits-apply p q by fit) n.goal.post.chunks f.post;
    links = all_fit p q by fit (link_fits p q) (link_fits p q) (apply_link by) (link_fits-apply p q by fit) n.links f.links;
    pre_once = lits_once-apply by n.goal.pure_pre;
    post_once = lits_once-apply by n.goal.pure_post;
  }
