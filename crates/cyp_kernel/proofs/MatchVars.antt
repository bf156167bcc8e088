-- A match binds each variable that it must, to parts of the node.
use Rattle.std.proofs.Common.{◌≡◌, refl, sym, ap, ℕ, Bool, true, false, cond, not, ◌&&◌, ◌||◌, ◌==◌, List, [], ◌∷◌, ◌++◌, IfSome, Option, Some, None, inl, inr, flat_map, neg_ℤ, slice_get, subst}
use Rattle.std.specs.List.{AllByRecursion, list_all, list_any}
use Rattle.std.specs.Option.{option_and_then}
use Rattle.std.specs.Prelude.{is_some}
use Rattle.std.proofs.lemmas.Bool.{and_parts, cond_both, false≢true}
use Rattle.std.proofs.lemmas.Option.{none-some, option_and_then_some, same_Some}
use Rattle.cyp_goal.proofs.EachVar.{Each, first, second}
use Rattle.cyp_goal.specs.Raw.{arg_fits, term_fits}
use Rattle.cyp_heap.specs.Chunks.{arg_vars, card_vars}
use Rattle.cyp_heap.specs.declared.chunk.Arg.{Arg}
use Rattle.cyp_heap.specs.declared.chunk.Arg.TheVariants.{Int as IntArg, Set as SetArg}
use Rattle.cyp_heap.specs.declared.chunk.Chunk.{Chunk}
use Rattle.cyp_heap.specs.declared.chunk.Chunk.TheVariants.{Block, Cell, Inst}
use Rattle.cyp_heap.specs.declared.goal.Link.{Link}
use Rattle.cyp_heap.specs.declared.goal.Node.{Node}
use Rattle.cyp_kernel.proofs.AgreeVars.{is_number_var}
use Rattle.cyp_kernel.proofs.SteadyNodes.{each_both}
use Rattle.cyp_kernel.proofs.UnfoldVars.{ArgHas, ChunkHas, SetHas, TermHas}
use Rattle.cyp_step.proofs.ChunkLists.{Every-slice_get, IfSome-map}
use Rattle.cyp_step.proofs.RawNodes.{by_option, by_test}
use Rattle.cyp_term.proofs.Equality.{Decides-var_eq}
use Rattle.cyp_term.proofs.Lists.{Among, Every-append}
use Rattle.cyp_term.specs.Terms.{int_image, is_set_var, plus, set_image, term_vars, var_eq, var_in}
use Rattle.cyp_term.specs.declared.lit.SetTerm.{SetTerm}
use Rattle.cyp_term.specs.declared.subst.IntBind.{IntBind}
use Rattle.cyp_term.specs.declared.subst.SetBind.{SetBind}
use Rattle.cyp_term.specs.declared.subst.Subst.{Subst}
use Rattle.cyp_term.specs.declared.term.Term.{Term}
use Rattle.cyp_term.specs.declared.term.Var.{Var}
use Rattle.cyp_unify.specs.Frames.{alike}
use Rattle.cyp_unify.specs.Matches.{Content, OfSet, Plain, Position, Walk, add_int, add_set, all_bound, arg_position, arg_positions, binds, bound_by_map, card_position, finish_match, lone_var, match_at, no_walk, pair_positions, positions, set_step, to_bind, waits, walk, walk_step}
use Rattle.cyp_unify.specs.declared.found.Match.{Match}

-- ---- images

-- the variable has an image of its kind
abbrev pub HasImage : Bool → Subst → Var → Type 0
HasImage false by v = (t : Term) × (int_image by.ints v ≡ Some t)
HasImage true by v = (u : SetTerm) × (set_image by.sets v ≡ Some u)

abbrev pub Covers : Subst → Var → Type 0
Covers by v = HasImage (is_set_var v) by v

pub int_image_kept : (bs cs : List IntBind) (v : Var) (t : Term) → int_image bs v ≡ Some t → int_image (bs ++ cs) v ≡ Some t
int_image_kept [] cs v t e = absurd (none-some t e)
int_image_kept (b ∷ bs) cs v t e = at (var_eq b.var v) (int_image_kept bs cs v t) e
  where
    at : (x : Bool) → (int_image bs v ≡ Some t → int_image (bs ++ cs) v ≡ Some t) → cond x (Some b.to) (int_image bs v) ≡ Some t → cond x (Some b.to) (int_image (bs ++ cs) v) ≡ Some t
    at true more e = e
    at false more e = more e

pub set_image_kept : (bs cs : List SetBind) (v : Var) (t : SetTerm) → set_image bs v ≡ Some t → set_image (bs ++ cs) v ≡ Some t
set_image_kept [] cs v t e = absurd (none-some t e)
set_image_kept (b ∷ bs) cs v t e = at (var_eq b.var v) (set_image_kept bs cs v t) e
  where
    at : (x : Bool) → (set_image bs v ≡ Some t → set_image (bs ++ cs) v ≡ Some t) → cond x (Some b.to) (set_image bs v) ≡ Some t → cond x (Some b.to) (set_image (bs ++ cs) v) ≡ Some t
    at true more e = e
    at false more e = more e

pub int_image_last : (bs : List IntBind) (v : Var) (t : Term) → (r : Term) × (int_image (bs ++ record { var = v; to = t } ∷ []) v ≡ Some r)
int_image_last [] v t = (t, ap (λ (x : Bool). cond x (Some t) None) ((Decides-var_eq v v).1 refl))
int_image_last (b ∷ bs) v t = at (var_eq b.var v) (int_image_last bs v t)
  where
    at : (x : Bool) → (r : Term) × (int_image (bs ++ record { var = v; to = t } ∷ []) v ≡ Some r) → (r : Term) × (cond x (Some b.to) (int_image (bs ++ record { var = v; to = t } ∷ []) v) ≡ Some r)
    at true more = (b.to, refl)
    at false more = more

pub set_image_last : (bs : List SetBind) (v : Var) (t : SetTerm) → (r : SetTerm) × (set_image (bs ++ record { var = v; to = t } ∷ []) v ≡ Some r)
set_image_last [] v t = (t, ap (λ (x : Bool). cond x (Some t) None) ((Decides-var_eq v v).1 refl))
set_image_last (b ∷ bs) v t = at (var_eq b.var v) (set_image_last bs v t)
  where
    at : (x : Bool) → (r : SetTerm) × (set_image (bs ++ record { var = v; to = t } ∷ []) v ≡ Some r) → (r : SetTerm) × (cond x (Some b.to) (set_image (bs ++ record { var = v; to = t } ∷ []) v) ≡ Some r)
    at true more = (b.to, refl)
    at false more = more

some_is : {A : Type 0} (o : Option A) → is_some o ≡ true → (x : A) × (o ≡ Some x)
some_is None e = absurd (false≢true e)
some_is (Some x) e = (x, refl)

-- more bindings behind keep each image
pub record Extends (by more : Subst) : Type 0 where
  pub covers : (v : Var) → Covers by v → Covers more v

pub int_more : (by : Subst) (v : Var) (t : Term) → Extends by (add_int by v t)
int_more by v t = record { covers = λ u h. of_kind (is_set_var u) u h }
  where
    of_kind : (b : Bool) (u : Var) → HasImage b by u → HasImage b (add_int by v t) u
    of_kind true u h = h
    of_kind false u h = (h.0, int_image_kept by.ints (record { var = v; to = t } ∷ []) u h.0 h.1)

pub set_more : (by : Subst) (v : Var) (t : SetTerm) → Extends by (add_set by v t)
set_more by v t = record { covers = λ u h. of_kind (is_set_var u) u h }
  where
    of_kind : (b : Bool) (u : Var) → HasImage b by u → HasImage b (add_set by v t) u
    of_kind true u h = (h.0, set_image_kept by.sets (record { var = v; to = t } ∷ []) u h.0 h.1)
    of_kind false u h = h

module _ (K : Var → Type 0) where
  -- each image has the sort of its place, and the fact holds of its variables
  pub record ImagesHave (by : Subst) : Type 0 where
    pub ints : AllByRecursion (λ (b : IntBind). TermHas K b.to) by.ints
    pub sets : AllByRecursion (λ (b : SetBind). SetHas K b.to) by.sets

  pub int_has : (bs : List IntBind) (v : Var) → AllByRecursion (λ (b : IntBind). TermHas K b.to) bs → IfSome (int_image bs v) (TermHas K)
  int_has [] v h = tt
  int_has (b ∷ bs) v h = cond_both (var_eq b.var v) (Some b.to) (int_image bs v) (λ o. IfSome o (TermHas K)) (λ e. h.0) (λ e. int_has bs v h.1)

  pub set_has : (bs : List SetBind) (v : Var) → AllByRecursion (λ (b : SetBind). SetHas K b.to) bs → IfSome (set_image bs v) (SetHas K)
  set_has [] v h = tt
  set_has (b ∷ bs) v h = cond_both (var_eq b.var v) (Some b.to) (set_image bs v) (λ o. IfSome o (SetHas K)) (λ e. h.0) (λ e. set_has bs v h.1)

  pub add_int_has : (by : Subst) (v : Var) (t : Term) → ImagesHave by → TermHas K t → ImagesHave (add_int by v t)
  add_int_has by v t h k = record { ints = Every-append (λ (b : IntBind). TermHas K b.to) by.ints (record { var = v; to = t } ∷ []) h.ints (k, tt); sets = h.sets }

  pub add_set_has : (by : Subst) (v : Var) (u : SetTerm) → ImagesHave by → SetHas K u → ImagesHave (add_set by v u)
  add_set_has by v u h k = record { ints = h.ints; sets = Every-append (λ (b : SetBind). SetHas K b.to) by.sets (record { var = v; to = u } ∷ []) h.sets (k, tt) }

  -- ---- the walk

  abbrev PositionHas : Position → Type 0
  PositionHas (Plain t r) = TermHas K r
  PositionHas (Content k t r) = TermHas K r
  PositionHas (OfSet u r) = SetHas K r

  set_step_has : (w : Walk) (u r : SetTerm) (b : Bool) → ImagesHave w.by → ImagesHave (set_step w u r b).by
  set_step_has w u r true h = h
  set_step_has w u r false h = h

  step_has : (exist : List Var) (w : Walk) (p : Position) → ImagesHave w.by → PositionHas p → ImagesHave (walk_step exist w p).by
  step_has exist w (Plain t r) h k =
      by_option (binds exist w.by t) (λ e. rw (e, walk_step) h) (λ v e. rw (e, walk_step) (add_int_has w.by v (plus r (neg_ℤ t.offset)) h k))
  step_has exist w (Content c t r) h k =
      by_option (binds exist w.by t) (λ e. rw (e, walk_step) h) (λ v e. rw (e, walk_step) (add_int_has w.by v (plus r (neg_ℤ t.offset)) h k))
  step_has exist w (OfSet u r) h k =
      by_option (lone_var u) (λ e. rw (e, walk_step) (set_step_has w u r (waits u) h))
      (λ v e. rw (e, walk_step)
      (by_test (var_in v exist || is_some (set_image w.by.sets v)) (λ d. rw d (set_step_has w u r false h)) (λ d. rw d (add_set_has w.by v r h k))))

  walk_has : (exist : List Var) (w : Walk) (ps : List Position) → ImagesHave w.by → AllByRecursion PositionHas ps → ImagesHave (walk exist w ps).by
  walk_has exist w [] h k = h
  walk_has exist w (p ∷ ps) h k = walk_has exist (walk_step exist w p) ps (step_has exist w p h k.0) k.1

  -- ---- positions

  args_positions : (xs ys : List Arg) → AllByRecursion (ArgHas K) ys → AllByRecursion PositionHas (arg_positions xs ys)
  args_positions [] ys h = tt
  args_positions (x ∷ xs) [] h = tt
  args_positions (x ∷ xs) (y ∷ ys) h = Every-append PositionHas (arg_position x y) (arg_positions xs ys) (one x y h.0) (args_positions xs ys h.1)
    where
      one : (x y : Arg) → ArgHas K y → AllByRecursion PositionHas (arg_position x y)
      one (IntArg t) (IntArg r) h = (h, tt)
      one (SetArg u) (SetArg r) h = (h, tt)
      one _ _ h = tt

  card_positions : (c d : Option Var) → list_all is_number_var (card_vars d) ≡ true → Each K (card_vars d) → AllByRecursion PositionHas (card_position c d)
  card_positions (Some c) (Some d) h k = ((h, k), tt)
  card_positions _ _ h k = tt

  positions_have : (c : Chunk) (k : ℕ) (d : Chunk) → ChunkHas K d → AllByRecursion PositionHas (positions c k d)
  positions_have (Inst i) k (Inst j) h =
      let both = and_parts (list_all (arg_fits is_number_var is_set_var) j.args) (list_all is_number_var (card_vars j.card)) h.0 in
      let args : List Var = flat_map arg_vars j.args in
      Every-append PositionHas (arg_positions i.args j.args) (card_position i.card j.card)
      (args_positions i.args j.args (each_both (arg_fits is_number_var is_set_var) arg_vars K j.args both.0 (first K args (card_vars j.card) h.1)))
      (card_positions i.card j.card both.1 (second K args (card_vars j.card) h.1))
  positions_have (Block b) k (Block c) h = (h, tt)
  positions_have (Cell b) k (Cell c) h =
      let both = and_parts (term_fits is_number_var c.at) (term_fits is_number_var c.content) h.0 in
      ((both.0, first K (term_vars c.at) (term_vars c.content) h.1), ((both.1, second K (term_vars c.at) (term_vars c.content) h.1), tt))
  positions_have _ k _ h = tt

  pairs_have : (present cs : List Chunk) (ks : List ℕ) → AllByRecursion (ChunkHas K) present → IfSome (pair_positions present cs ks) (AllByRecursion PositionHas)
  pairs_have present [] [] h = tt
  pairs_have present [] (k ∷ ks) h = tt
  pairs_have present (c ∷ cs) [] h = tt
  pairs_have present (c ∷ cs) (k ∷ ks) h =
      by_option (slice_get present k) (λ e. rw (e, pair_positions) tt)
      (λ d e. rw (e, pair_positions)
      (by_test (alike c d && not (list_any (λ j. j == k) ks))
      (λ b. rw b
      (IfSome-map (AllByRecursion PositionHas) (AllByRecursion PositionHas) (λ (ps : List Position). positions c k d ++ ps)
      (λ ps q. Every-append PositionHas (positions c k d) ps (positions_have c k d (subst (λ (o : Option Chunk). IfSome o (ChunkHas K)) e (Every-slice_get (ChunkHas K) present k h))) q)
      (pair_positions present cs ks) (pairs_have present cs ks h)))
      (λ b. rw b tt)))

  -- ---- what the companion's map binds

  pub record BoundOf (by : Subst) (vs : List Var) (to : Subst) : Type 0 where
    pub has : ImagesHave to
    pub extends : Extends by to
    pub covers : (v : Var) → Among v vs → Covers to v

  pub bound_same : (by : Subst) → ImagesHave by → BoundOf by [] by
  bound_same by h = record { has = h; extends = record { covers = λ u c. c }; covers = λ v i. absurd i }

  pub bound_then : (by b to : Subst) (v : Var) (vs : List Var) → BoundOf by (v ∷ []) b → BoundOf b vs to → BoundOf by (v ∷ vs) to
  bound_then by b to v vs q r = record { has = r.has; extends = record { covers = λ u c. r.extends.covers u (q.extends.covers u c) }; covers = each }
    where
      each : (u : Var) → Among u (v ∷ vs) → Covers to u
      each u (inl e) = r.extends.covers u (q.covers u (inl e))
      each u (inr i) = r.covers u i

  covers_one : (b : Bool) (to : Subst) (v : Var) → is_set_var v ≡ b → HasImage b to v → (u : Var) → Among u (v ∷ []) → Covers to u
  covers_one b to v e h u (inl p) = subst (Covers to) (sym p) (subst (λ (x : Bool). HasImage x to v) (sym e) h)
  covers_one b to v e h u (inr m) = absurd m

  pub bound_int : (by : Subst) (v : Var) (t : Term) → is_set_var v ≡ false → ImagesHave by → TermHas K t → BoundOf by (v ∷ []) (add_int by v t)
  bound_int by v t e h k = record { has = add_int_has by v t h k; extends = int_more by v t; covers = covers_one false (add_int by v t) v e (int_image_last by.ints v t) }

  pub bound_set : (by : Subst) (v : Var) (u : SetTerm) → is_set_var v ≡ true → ImagesHave by → SetHas K u → BoundOf by (v ∷ []) (add_set by v u)
  bound_set by v u e h k = record { has = add_set_has by v u h k; extends = set_more by v u; covers = covers_one true (add_set by v u) v e (set_image_last by.sets v u) }

  bound_by_map_has : (m by : Subst) (v : Var) → ImagesHave m → ImagesHave by → IfSome (bound_by_map m by v) (BoundOf by (v ∷ []))
  bound_by_map_has m by v h k =
      by_test (is_set_var v)
      (λ e. rw (e, bound_by_map)
      (by_test (is_some (set_image by.sets v)) (λ d. rw d (record { has = k; extends = record { covers = λ u c. c }; covers = covers_one true by v e (some_is (set_image by.sets v) d) }))
      (λ d. rw d (IfSome-map (SetHas K) (BoundOf by (v ∷ [])) (add_set by v) (λ u q. bound_set by v u e k q) (set_image m.sets v) (set_has m.sets v h.sets)))))
      (λ e. rw (e, bound_by_map)
      (by_test (is_some (int_image by.ints v)) (λ d. rw d (record { has = k; extends = record { covers = λ u c. c }; covers = covers_one false by v e (some_is (int_image by.ints v) d) }))
      (λ d. rw d (IfSome-map (TermHas K) (BoundOf by (v ∷ [])) (add_int by v) (λ t q. bound_int by v t e k q) (int_image m.ints v) (int_has m.ints v h.ints)))))

  all_bound_has : (m by : Subst) (vs : List Var) → ImagesHave m → ImagesHave by → IfSome (all_bound m by vs) (BoundOf by vs)
  all_bound_has m by [] h k = bound_same by k
  all_bound_has m by (v ∷ vs) h k = next (λ b q. all_bound_has m b vs h q) (bound_by_map m by v) (bound_by_map_has m by v h k)
    where
      last : (b : Subst) → BoundOf by (v ∷ []) b → (o : Option Subst) → IfSome o (BoundOf b vs) → IfSome o (BoundOf by (v ∷ vs))
      last b q None r = tt
      last b q (Some to) r = bound_then by b to v vs q r

      next : ((b : Subst) → ImagesHave b → IfSome (all_bound m b vs) (BoundOf b vs)) → (o : Option Subst) → IfSome o (BoundOf by (v ∷ []))
          → IfSome (option_and_then (λ (b : Subst). all_bound m b vs) o) (BoundOf by (v ∷ vs))
      next more None q = tt
      next more (Some b) q = last b q (all_bound m b vs) (more b q.has)

  -- ---- the match

  no_walk_has : ImagesHave no_walk.by
  no_walk_has = record { ints = tt; sets = tt }

  pub match_has : (n : Node) (l : Link) (ks : List ℕ) (f : Match) → AllByRecursion (ChunkHas K) n.goal.pre.chunks → ImagesHave l.map → match_at n l ks ≡ Some f
      → ImagesHave f.by × ((v : Var) → Among v (to_bind l) → Covers f.by v)
  match_has n l ks f present maps e =
      option_and_then_some (λ ps. finish_match l ks (walk l.goal.exist no_walk ps)) (pair_positions n.goal.pre.chunks l.goal.pre.chunks ks) f e (λ ps paired d.
      let w : Walk = walk l.goal.exist no_walk ps in
      let positions_have = subst (λ (o : Option (List Position)). IfSome o (AllByRecursion PositionHas)) paired (pairs_have n.goal.pre.chunks l.goal.pre.chunks ks present) in
      let walked : ImagesHave w.by = walk_has l.goal.exist no_walk ps no_walk_has positions_have in
      option_and_then_some _ (all_bound l.map w.by (to_bind l)) f d (λ by bound g.
      let q : BoundOf w.by (to_bind l) by = subst (λ (o : Option Subst). IfSome o (BoundOf w.by (to_bind l))) bound (all_bound_has l.map w.by (to_bind l) maps walked) in
      let same : by ≡ f.by = ap (λ (x : Match). x.by) (kept _ _ f g) in
      (subst ImagesHave same q.has, λ v i. subst (λ (b : Subst). Covers b v) same (q.covers v i))))
    where
      kept : (b : Bool) (x r : Match) → cond b None (Some x) ≡ Some r → x ≡ r
      kept true x r e = absurd (none-some r e)
      kept false x r e = same_Some x r e
