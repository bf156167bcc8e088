-- Numbering anew is a renaming, and leaves set terms without repeats.
use Rattle.std.proofs.Common.{◌≡◌, ◌∙◌, [], ◌∷◌, ◌++◌, List, Option, Some, None, Bool, true, ◌&&◌, not, map, filter, flat_map, refl, ap, ap₂, inl, inr}
use Rattle.std.specs.List.{list_all}
use Rattle.std.proofs.lemmas.Bool.{and_parts, cond_both}
use Rattle.cyp_goal.proofs.Fits.{FitNode, FitSet, set_parts}
use Rattle.cyp_goal.proofs.Maps.{without_repeats-map}
use Rattle.cyp_goal.proofs.Ranks.{among_rest}
use Rattle.cyp_goal.proofs.Rename.{IsRenaming, rename_arg, rename_base, rename_chunk, rename_images, rename_link, rename_lit, rename_node, rename_set, rename_term, term_eq-rename}
use Rattle.cyp_goal.proofs.Shrink.{shrink_arg, shrink_bind, shrink_chunk, shrink_images, shrink_link, shrink_node, shrink_once, shrink_set}
use Rattle.cyp_goal.proofs.RenameVars.{link_vars, rename_int_bind, rename_set_bind}
use Rattle.cyp_goal.specs.Numbering.{new_name, numbering, renumber}
use Rattle.cyp_goal.specs.Raw.{lit_once, set_once, arg_fits, chunk_fits, images_fit, link_fits, lit_fits, set_fits, term_fits}
use Rattle.cyp_heap.specs.Chunks.{apply_arg, apply_card, apply_chunk, arg_vars, card_vars, chunk_vars, chunks_vars}
use Rattle.cyp_heap.specs.Goals.{apply_bind, apply_link, apply_set_bind, goal_vars, image_vars, node_vars}
use Rattle.cyp_heap.specs.declared.chunk.Arg.{Arg}
use Rattle.cyp_heap.specs.declared.chunk.Arg.TheVariants.{Int as IntArg, Set as SetArg}
use Rattle.cyp_heap.specs.declared.chunk.Chunk.{Chunk}
use Rattle.cyp_heap.specs.declared.chunk.Chunk.TheVariants.{Block, Cell, Inst}
use Rattle.cyp_heap.specs.declared.goal.Goal.{Goal}
use Rattle.cyp_heap.specs.declared.goal.Link.{Link}
use Rattle.cyp_heap.specs.declared.goal.Node.{Node}
use Rattle.cyp_term.proofs.Equality.{Decides-var_eq}
use Rattle.cyp_term.proofs.Lists.{Among, Among-left, Among-right, each_at, filter_in, flat_in}
use Rattle.cyp_term.proofs.Numbers.{zero-plus}
use Rattle.cyp_term.proofs.Repeats.{without_repeats_in}
use Rattle.cyp_term.specs.Terms.{apply_lit, apply_set, apply_term, base_vars, image_or_self, int_image, is_set_var, lit_vars, lits_vars, set_image, set_var, set_vars, term_at, term_base, term_eq, term_vars, var_at, var_eq, var_term, without_repeats}
use Rattle.cyp_term.specs.declared.lit.Lit.{Lit}
use Rattle.cyp_term.specs.declared.lit.Lit.TheVariants.{Eq, Le, Lt, Member, Ne, NotMember, NotSame, NotSub, Same, Sub}
use Rattle.cyp_term.specs.declared.lit.SetTerm.{SetTerm}
use Rattle.cyp_term.specs.declared.subst.IntBind.{IntBind}
use Rattle.cyp_term.specs.declared.subst.SetBind.{SetBind}
use Rattle.cyp_term.specs.declared.subst.Subst.{Subst}
use Rattle.cyp_term.specs.declared.term.Term.{Term}
use Rattle.cyp_term.specs.declared.term.Var.{Var}

-- ---- images of a map that binds each variable of a list

pub int_image_at : (f : Var → Term) (us : List Var) (v : Var) → Among v us → int_image (map (λ w. record { var = w; to = f w }) us) v ≡ Some (f v)
int_image_at f [] v k = absurd k
int_image_at f (u ∷ us) v k =
    cond_both (var_eq u v) (Some (f u)) (int_image (map (λ w. record { var = w; to = f w }) us) v) (λ o. o ≡ Some (f v))
    (λ e. ap (λ w. Some (f w)) ((Decides-var_eq u v).0 e)) (λ e. int_image_at f us v (among_rest u us v e k))

pub set_image_at : (f : Var → SetTerm) (us : List Var) (v : Var) → Among v us → set_image (map (λ w. record { var = w; to = f w }) us) v ≡ Some (f v)
set_image_at f [] v k = absurd k
set_image_at f (u ∷ us) v k =
    cond_both (var_eq u v) (Some (f u)) (set_image (map (λ w. record { var = w; to = f w }) us) v) (λ o. o ≡ Some (f v))
    (λ e. ap (λ w. Some (f w)) ((Decides-var_eq u v).0 e)) (λ e. set_image_at f us v (among_rest u us v e k))

pub map_where_twice : {A B : Type 0} (f : A → B) (g : A → B) (h : A → A) (xs : List A) → ((x : A) → Among x xs → f x ≡ g (h x)) → map f xs ≡ map g (map h xs)
map_where_twice f g h [] e = refl
map_where_twice f g h (x ∷ xs) e =
    let first = e x (inl refl) in
    let rest = map_where_twice f g h xs (λ y k. e y (inr k)) in
    λ i. first i ∷ rest i

pub map_where : {A B : Type 0} (f g : A → B) (xs : List A) → ((x : A) → Among x xs → f x ≡ g x) → map f xs ≡ map g xs
map_where f g [] h = refl
map_where f g (x ∷ xs) h =
    let first = h x (inl refl) in
    let rest = map_where f g xs (λ y k. h y (inr k)) in
    λ i. first i ∷ rest i

abbrev pub no_set : Var → Bool
no_set v = not (is_set_var v)

-- a renaming that gives each variable of the list its new name
module _ (vs : List Var) (r : Var → Var) (is : IsRenaming r) (new : (v : Var) → Among v vs → new_name vs v ≡ r v) where
  abbrev by : Subst
  by = numbering vs

  -- each of these is in the list
  abbrev In : List Var → Type 0
  In us = (v : Var) → Among v us → Among v vs

  int_named : (v : Var) → no_set v ≡ true → Among v vs → int_image by.ints v ≡ Some (var_term (r v))
  int_named v h k =
      int_image_at (λ w. var_term (new_name vs w)) (filter no_set vs) v (filter_in no_set v vs k h) ∙ ap (λ w. Some (var_term w)) (new v k)

  set_named : (v : Var) → is_set_var v ≡ true → Among v vs → set_image by.sets v ≡ Some (set_var (r v))
  set_named v h k =
      set_image_at (λ w. set_var (new_name vs w)) (filter is_set_var vs) v (filter_in is_set_var v vs k h) ∙ ap (λ w. Some (set_var w)) (new v k)

  base_named : (t : Term) (b : Option Var) → t.base ≡ b → list_all no_set (base_vars b) ≡ true → In (base_vars b) → term_base by t b ≡ record { base = rename_base r b; offset = t.offset }
  base_named t None e h k = λ i. record { base = e i; offset = t.offset }
  base_named t (Some v) e h k =
      ap (term_at t) (int_named v (and_parts (no_set v) true h).0 (k v (inl refl))) ∙ ap (λ z. record { base = Some (r v); offset = z }) (zero-plus t.offset)

  pub term_named : (t : Term) → term_fits no_set t ≡ true → In (term_vars t) → apply_term by t ≡ rename_term r t
  term_named t h k = base_named t t.base refl h k

  terms_named : (ts : List Term) → list_all (term_fits no_set) ts ≡ true → In (flat_map term_vars ts) → map (apply_term by) ts ≡ map (rename_term r) ts
  terms_named ts h k = map_where (apply_term by) (rename_term r) ts (λ t i. term_named t (each_at (term_fits no_set) t ts h i) (λ v m. k v (flat_in term_vars v t ts i m)))

  abbrev image : Var → SetTerm
  image v = image_or_self v (set_image by.sets v)

  images_vars : (us : List Var) → ((v : Var) → Among v us → image v ≡ set_var (r v)) → flat_map (λ (i : SetTerm). i.vars) (map image us) ≡ map r us
  images_vars [] h = refl
  images_vars (u ∷ us) h = ap₂ (λ (i : SetTerm) ws. i.vars ++ ws) (h u (inl refl)) (images_vars us (λ v k. h v (inr k)))

  images_elems : (us : List Var) → ((v : Var) → Among v us → image v ≡ set_var (r v)) → flat_map (λ (i : SetTerm). i.elems) (map image us) ≡ []
  images_elems [] h = refl
  images_elems (u ∷ us) h = ap₂ (λ (i : SetTerm) ws. i.elems ++ ws) (h u (inl refl)) (images_elems us (λ v k. h v (inr k)))

  set_named_by : (u : SetTerm) → FitSet no_set is_set_var u → In (set_vars u) → apply_set by u ≡ rename_set r (shrink_set u)
  set_named_by u f k =
      let one : (v : Var) → Among v u.vars → image v ≡ set_var (r v) =
      λ v i. ap (image_or_self v) (set_named v (each_at is_set_var v u.vars f.vars i) (k v (Among-left v u.vars (flat_map term_vars u.elems) i))) in
      let vars = ap (without_repeats var_eq) (images_vars u.vars one) ∙ without_repeats-map r var_eq var_eq is.apart u.vars in
      let elems = ap₂ (λ xs ys. without_repeats term_eq (xs ++ ys)) (images_elems u.vars one)
      (terms_named u.elems f.elems (λ v i. k v (Among-right v u.vars (flat_map term_vars u.elems) i)))
      ∙ without_repeats-map (rename_term r) term_eq term_eq (term_eq-rename r is) u.elems in
      λ i. record { vars = vars i; elems = elems i }

  pub set_term_named : (u : SetTerm) → set_fits no_set is_set_var u ≡ true → In (set_vars u) → apply_set by u ≡ rename_set r (shrink_set u)
  set_term_named u h k = set_named_by u (set_parts no_set is_set_var u h) k

  once_named : (u : SetTerm) → set_fits no_set is_set_var u ≡ true → set_once u ≡ true → In (set_vars u) → apply_set by u ≡ rename_set r u
  once_named u h o k = set_term_named u h k ∙ ap (rename_set r) (shrink_once u o)

  pub two_named : {A B C : Type 0} (f : A → B → C) (a a' : A) (b b' : B) (x y : Bool) (us ws : List Var) → (x ≡ true → In us → a ≡ a') → (y ≡ true → In ws → b ≡ b') → (x && y) ≡ true → In (us ++ ws) → f a b ≡ f a' b'
  two_named f a a' b b' x y us ws g h e k =
      let both = and_parts x y e in
      ap₂ f (g both.0 (λ v i. k v (Among-left v us ws i))) (h both.1 (λ v i. k v (Among-right v us ws i)))

  two_terms : (f : Term → Term → Lit) (a b : Term) → (term_fits no_set a && term_fits no_set b) ≡ true → In (term_vars a ++ term_vars b) → f (apply_term by a) (apply_term by b) ≡ f (rename_term r a) (rename_term r b)
  two_terms f a b h k = two_named f _ _ _ _ (term_fits no_set a) (term_fits no_set b) (term_vars a) (term_vars b) (term_named a) (term_named b) h k

  two_sets : (f : SetTerm → SetTerm → Lit) (a b : SetTerm) → (set_fits no_set is_set_var a && set_fits no_set is_set_var b) ≡ true → (set_once a && set_once b) ≡ true
      → In (set_vars a ++ set_vars b) → f (apply_set by a) (apply_set by b) ≡ f (rename_set r a) (rename_set r b)
  two_sets f a b h o k =
      let once = and_parts (set_once a) (set_once b) o in
      two_named f _ _ _ _ (set_fits no_set is_set_var a) (set_fits no_set is_set_var b) (set_vars a) (set_vars b) (λ e. once_named a e once.0) (λ e. once_named b e once.1) h k

  term_and_set : (f : Term → SetTerm → Lit) (a : Term) (b : SetTerm) → (term_fits no_set a && set_fits no_set is_set_var b) ≡ true → set_once b ≡ true
      → In (term_vars a ++ set_vars b) → f (apply_term by a) (apply_set by b) ≡ f (rename_term r a) (rename_set r b)
  term_and_set f a b h o k =
      two_named f _ _ _ _ (term_fits no_set a) (set_fits no_set is_set_var b) (term_vars a) (set_vars b) (term_named a) (λ e. once_named b e o) h k

  lit_named : (l : Lit) → lit_fits no_set is_set_var l ≡ true → lit_once l ≡ true → In (lit_vars l) → apply_lit by l ≡ rename_lit r l
  lit_named (Eq a b) h o k = two_terms Eq a b h k
  lit_named (Ne a b) h o k = two_terms Ne a b h k
  lit_named (Le a b) h o k = two_terms Le a b h k
  lit_named (Lt a b) h o k = two_terms Lt a b h k
  lit_named (Same a b) h o k = two_sets Same a b h o k
  lit_named (NotSame a b) h o k = two_sets NotSame a b h o k
  lit_named (Member a b) h o k = term_and_set Member a b h o k
  lit_named (NotMember a b) h o k = term_and_set NotMember a b h o k
  lit_named (Sub a b) h o k = two_sets Sub a b h o k
  lit_named (NotSub a b) h o k = two_sets NotSub a b h o k

  lits_named : (ls : List Lit) → list_all (lit_fits no_set is_set_var) ls ≡ true → list_all lit_once ls ≡ true → In (lits_vars ls) → map (apply_lit by) ls ≡ map (rename_lit r) ls
  lits_named ls h o k =
      map_where (apply_lit by) (rename_lit r) ls (λ l i. lit_named l (each_at (lit_fits no_set is_set_var) l ls h i) (each_at lit_once l ls o i) (λ v m. k v (flat_in lit_vars v l ls i m)))

  arg_named : (a : Arg) → arg_fits no_set is_set_var a ≡ true → In (arg_vars a) → apply_arg by a ≡ rename_arg r (shrink_arg a)
  arg_named (IntArg t) h k = ap IntArg (term_named t h k)
  arg_named (SetArg u) h k = ap SetArg (set_term_named u h k)

  args_named : (xs : List Arg) → list_all (arg_fits no_set is_set_var) xs ≡ true → In (flat_map arg_vars xs) → map (apply_arg by) xs ≡ map (rename_arg r) (map shrink_arg xs)
  args_named xs h k = map_where_twice (apply_arg by) (rename_arg r) shrink_arg xs (λ a i. arg_named a (each_at (arg_fits no_set is_set_var) a xs h i) (λ v m. k v (flat_in arg_vars v a xs i m)))

  card_named : (c : Option Var) → list_all no_set (card_vars c) ≡ true → In (card_vars c) → apply_card by c ≡ rename_base r c
  card_named None h k = refl
  card_named (Some v) h k = ap (λ o. Some (var_at v o)) (int_named v (and_parts (no_set v) true h).0 (k v (inl refl)))

  chunk_named : (c : Chunk) → chunk_fits no_set is_set_var c ≡ true → In (chunk_vars c) → apply_chunk by c ≡ rename_chunk r (shrink_chunk c)
  chunk_named (Inst i) h k =
      two_named (λ xs d. Inst (record { pred = i.pred; args = xs; card = d; tag = i.tag })) _ _ _ _ (list_all (arg_fits no_set is_set_var) i.args) (list_all no_set (card_vars i.card))
      (flat_map arg_vars i.args) (card_vars i.card) (args_named i.args) (card_named i.card) h k
  chunk_named (Block b) h k = ap (λ t. Block (record { at = t; size = b.size })) (term_named b.at h k)
  chunk_named (Cell c) h k =
      two_named (λ s t. Cell (record { at = s; content = t })) _ _ _ _ (term_fits no_set c.at) (term_fits no_set c.content) (term_vars c.at) (term_vars c.content)
      (term_named c.at) (term_named c.content) h k

  pub chunks_named : (cs : List Chunk) → list_all (chunk_fits no_set is_set_var) cs ≡ true → In (chunks_vars cs) → map (apply_chunk by) cs ≡ map (rename_chunk r) (map shrink_chunk cs)
  chunks_named cs h k = map_where_twice (apply_chunk by) (rename_chunk r) shrink_chunk cs (λ c i. chunk_named c (each_at (chunk_fits no_set is_set_var) c cs h i) (λ v m. k v (flat_in chunk_vars v c cs i m)))

  ints_named : (bs : List IntBind) → list_all (λ (b : IntBind). term_fits no_set b.to) bs ≡ true → In (flat_map (λ (b : IntBind). term_vars b.to) bs) → map (apply_bind by) bs ≡ map (rename_int_bind r) bs
  ints_named bs h k =
      map_where (apply_bind by) (rename_int_bind r) bs (λ b i. ap (λ t. record { var = b.var; to = t })
      (term_named b.to (each_at (λ (c : IntBind). term_fits no_set c.to) b bs h i) (λ v m. k v (flat_in (λ (c : IntBind). term_vars c.to) v b bs i m))))

  sets_named : (bs : List SetBind) → list_all (λ (b : SetBind). set_fits no_set is_set_var b.to) bs ≡ true → In (flat_map (λ (b : SetBind). set_vars b.to) bs) → map (apply_set_bind by) bs ≡ map (rename_set_bind r) (map shrink_bind bs)
  sets_named bs h k =
      map_where_twice (apply_set_bind by) (rename_set_bind r) shrink_bind bs (λ b i. ap (λ u. record { var = b.var; to = u })
      (set_term_named b.to (each_at (λ (c : SetBind). set_fits no_set is_set_var c.to) b bs h i) (λ v m. k v (flat_in (λ (c : SetBind). set_vars c.to) v b bs i m))))

  images_named : (m : Subst) → images_fit no_set is_set_var m ≡ true → In (image_vars m)
      → (◌≡◌ {A = Subst} (record { ints = map (apply_bind by) m.ints; sets = map (apply_set_bind by) m.sets }) (rename_images r (shrink_images m)))
  images_named m h k =
      two_named (λ xs ys. record { ints = xs; sets = ys }) _ _ _ _ (list_all (λ (b : IntBind). term_fits no_set b.to) m.ints) (list_all (λ (b : SetBind). set_fits no_set is_set_var b.to) m.sets)
      (flat_map (λ (b : IntBind). term_vars b.to) m.ints) (flat_map (λ (b : SetBind). set_vars b.to) m.sets) (ints_named m.ints) (sets_named m.sets) h k

  pub link_named : (k : Link) → link_fits no_set is_set_var k ≡ true → In (link_vars r k) → apply_link by k ≡ rename_link r (shrink_link k)
  link_named k h i =
      two_named (λ t m. record { goal = k.goal; own = k.own; map = m; tuple = t }) _ _ _ _ (list_all (term_fits no_set) k.tuple) (images_fit no_set is_set_var k.map)
      (flat_map term_vars k.tuple) (image_vars k.map) (terms_named k.tuple) (images_named k.map) h i

-- what stands in a part of a node stands in the node
module _ (n : Node) where
  abbrev later : List Var
  later = flat_map (λ (k : Link). flat_map term_vars k.tuple ++ image_vars k.map) n.links

  of_goal : (v : Var) → Among v (goal_vars n.goal) → Among v (node_vars n)
  of_goal v k = without_repeats_in var_eq Decides-var_eq v (goal_vars n.goal ++ later) (Among-left v (goal_vars n.goal) later k)

  pub of_program : (v : Var) → Among v n.goal.program → Among v (node_vars n)
  of_program v k =
      let g : Goal = n.goal in
      of_goal v
      (Among-left v (g.program ++ chunks_vars g.pre.chunks ++ chunks_vars g.post.chunks ++ lits_vars g.pure_pre) (lits_vars g.pure_post)
      (Among-left v (g.program ++ chunks_vars g.pre.chunks ++ chunks_vars g.post.chunks) (lits_vars g.pure_pre)
      (Among-left v (g.program ++ chunks_vars g.pre.chunks) (chunks_vars g.post.chunks) (Among-left v g.program (chunks_vars g.pre.chunks) k))))

  pub of_pre : (v : Var) → Among v (chunks_vars n.goal.pre.chunks) → Among v (node_vars n)
  of_pre v k =
      let g : Goal = n.goal in
      of_goal v
      (Among-left v (g.program ++ chunks_vars g.pre.chunks ++ chunks_vars g.post.chunks ++ lits_vars g.pure_pre) (lits_vars g.pure_post)
      (Among-left v (g.program ++ chunks_vars g.pre.chunks ++ chunks_vars g.post.chunks) (lits_vars g.pure_pre)
      (Among-left v (g.program ++ chunks_vars g.pre.chunks) (chunks_vars g.post.chunks) (Among-right v g.program (chunks_vars g.pre.chunks) k))))

  pub of_post : (v : Var) → Among v (chunks_vars n.goal.post.chunks) → Among v (node_vars n)
  of_post v k =
      let g : Goal = n.goal in
      of_goal v
      (Among-left v (g.program ++ chunks_vars g.pre.chunks ++ chunks_vars g.post.chunks ++ lits_vars g.pure_pre) (lits_vars g.pure_post)
      (Among-left v (g.program ++ chunks_vars g.pre.chunks ++ chunks_vars g.post.chunks) (lits_vars g.pure_pre)
      (Among-right v (g.program ++ chunks_vars g.pre.chunks) (chunks_vars g.post.chunks) k)))

  pub of_pure_pre : (v : Var) → Among v (lits_vars n.goal.pure_pre) → Among v (node_vars n)
  of_pure_pre v k =
      let g : Goal = n.goal in
      of_goal v
      (Among-left v (g.program ++ chunks_vars g.pre.chunks ++ chunks_vars g.post.chunks ++ lits_vars g.pure_pre) (lits_vars g.pure_post)
      (Among-right v (g.program ++ chunks_vars g.pre.chunks ++ chunks_vars g.post.chunks) (lits_vars g.pure_pre) k))

  pub of_pure_post : (v : Var) → Among v (lits_vars n.goal.pure_post) → Among v (node_vars n)
  of_pure_post v k =
      let g : Goal = n.goal in
      of_goal v (Among-right v (g.program ++ chunks_vars g.pre.chunks ++ chunks_vars g.post.chunks ++ lits_vars g.pure_pre) (lits_vars g.pure_post) k)

  pub of_links : (v : Var) → Among v later → Among v (node_vars n)
  of_links v k = without_repeats_in var_eq Decides-var_eq v (goal_vars n.goal ++ later) (Among-right v (goal_vars n.goal) later k)

  -- numbering is a renaming, where each variable has the sort of its place and each existential stands somewhere
  pub renumber-renames : (r : Var → Var) → IsRenaming r → ((v : Var) → Among v (node_vars n) → new_name (node_vars n) v ≡ r v) → FitNode no_set is_set_var n
      → ((v : Var) → Among v n.goal.exist → Among v (node_vars n)) → renumber n ≡ rename_node r (shrink_node n)
  renumber-renames r is new f used =
      let vs : List Var = node_vars n in
      let g : Goal = n.goal in
      let program = map_where (new_name vs) r g.program (λ v k. new v (of_program v k)) in
      let exist = map_where (new_name vs) r g.exist (λ v k. new v (used v k)) in
      let pure_pre = lits_named vs r is new g.pure_pre f.pure_pre f.pre_once of_pure_pre in
      let pre = chunks_named vs r is new g.pre.chunks f.pre of_pre in
      let pure_post = lits_named vs r is new g.pure_post f.pure_post f.post_once of_pure_post in
      let post = chunks_named vs r is new g.post.chunks f.post of_post in
      let links = map_where_twice (apply_link (numbering vs)) (rename_link r) shrink_link n.links (λ k i. link_named vs r is new k (each_at (link_fits no_set is_set_var) k n.links f.links i)
      (λ v m. of_links v (flat_in (λ (l : Link). flat_map term_vars l.tuple ++ image_vars l.map) v k n.links i m))) in
      λ i. record {
        preds = n.preds;
        goal = record { program = program i; exist = exist i; pure_pre = pure_pre i; pre = record { chunks = pre i }; pure_post = pure_post i; post = record { chunks = post i } };
        links = links i;
      }
