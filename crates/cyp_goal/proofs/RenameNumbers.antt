-- A node under new names has the numbers that it had.
use Rattle.std.proofs.Common.{◌≡◌, ◌∙◌, [], ◌∷◌, ◌++◌, List, Option, Some, None, Bool, true, ◌&&◌, not, map, filter, flat_map, ℤ, refl, ap, sym, inl, inr}
use Rattle.std.specs.List.{list_all}
use Rattle.std.proofs.lemmas.Bool.{and_parts}
use Rattle.cyp_goal.proofs.EachVar.{Each, EachPart, each, each_part, first, link_vars, second, two}
use Rattle.cyp_goal.proofs.Fits.{set_parts}
use Rattle.cyp_goal.proofs.Maps.{map_after}
use Rattle.cyp_goal.proofs.NormalKeeps.{HasSorts}
use Rattle.cyp_goal.proofs.Ranks.{rank_in-rename}
use Rattle.cyp_goal.proofs.Rename.{IsRenaming, rename_arg, rename_base, rename_chunk, rename_images, rename_link, rename_lit, rename_node, rename_set, rename_term}
use Rattle.cyp_goal.proofs.RenameVars.{node_vars-rename, rename_int_bind, rename_set_bind}
use Rattle.cyp_goal.proofs.Renumber.{int_image_at, no_set, set_image_at}
use Rattle.cyp_goal.specs.Numbering.{new_name, numbering, renumber}
use Rattle.cyp_goal.specs.Raw.{arg_fits, chunk_fits, images_fit, link_fits, lit_fits, set_fits, term_fits}
use Rattle.cyp_heap.specs.Chunks.{apply_arg, apply_card, apply_chunk, arg_vars, card_vars, chunk_vars, chunks_vars}
use Rattle.cyp_heap.specs.Goals.{apply_bind, apply_link, apply_node, apply_set_bind, image_vars, node_vars}
use Rattle.cyp_heap.specs.declared.chunk.Arg.{Arg}
use Rattle.cyp_heap.specs.declared.chunk.Arg.TheVariants.{Int as IntArg, Set as SetArg}
use Rattle.cyp_heap.specs.declared.chunk.Chunk.{Chunk}
use Rattle.cyp_heap.specs.declared.chunk.Chunk.TheVariants.{Block, Cell, Inst}
use Rattle.cyp_heap.specs.declared.goal.Goal.{Goal}
use Rattle.cyp_heap.specs.declared.goal.Link.{Link}
use Rattle.cyp_heap.specs.declared.goal.Node.{Node}
use Rattle.cyp_term.proofs.Lists.{Among, Among-map, each_at, filter_in}
use Rattle.cyp_term.specs.Terms.{apply_lit, apply_set, apply_term, base_vars, image_or_self, int_image, is_set_var, lit_vars, lits_vars, set_image, set_var, set_vars, sort_eq, term_at, term_eq, term_vars, var_at, var_eq, var_term, without_repeats}
use Rattle.cyp_term.specs.declared.lit.Lit.{Lit}
use Rattle.cyp_term.specs.declared.lit.Lit.TheVariants.{Eq, Le, Lt, Member, Ne, NotMember, NotSame, NotSub, Same, Sub}
use Rattle.cyp_term.specs.declared.lit.SetTerm.{SetTerm}
use Rattle.cyp_term.specs.declared.subst.IntBind.{IntBind}
use Rattle.cyp_term.specs.declared.subst.SetBind.{SetBind}
use Rattle.cyp_term.specs.declared.subst.Subst.{Subst}
use Rattle.cyp_term.specs.declared.term.Sort.TheVariants.{Set}
use Rattle.cyp_term.specs.declared.term.Term.{Term}
use Rattle.cyp_term.specs.declared.term.Var.{Var}

module _ (r : Var → Var) (is : IsRenaming r) (vs : List Var) where
  -- the numbers of the variables, and those of their new names
  abbrev before : Subst
  before = numbering vs

  abbrev behind : Subst
  behind = numbering (map r vs)

  -- it is in the list
  abbrev Known : Var → Type 0
  Known v = Among v vs

  abbrev In : List Var → Type 0
  In us = Each Known us

  -- ---- images

  -- the place of a variable under its new name is the place that it had
  new_name-rename : (v : Var) → new_name (map r vs) (r v) ≡ new_name vs v
  new_name-rename v = λ i. record { sort = is.sort v i; number = rank_in-rename r is vs v i }

  int_before : (v : Var) → no_set v ≡ true → Among v vs → int_image before.ints v ≡ Some (var_term (new_name vs v))
  int_before v h k = int_image_at (λ w. var_term (new_name vs w)) (filter no_set vs) v (filter_in no_set v vs k h)

  int_behind : (v : Var) → no_set v ≡ true → Among v vs → int_image behind.ints (r v) ≡ Some (var_term (new_name vs v))
  int_behind v h k =
      int_image_at (λ w. var_term (new_name (map r vs) w)) (filter no_set (map r vs)) (r v)
      (filter_in no_set (r v) (map r vs) (Among-map r v vs k) (ap (λ s. not (sort_eq s Set)) (is.sort v) ∙ h))
      ∙ ap (λ w. Some (var_term w)) (new_name-rename v)

  set_before : (v : Var) → is_set_var v ≡ true → Among v vs → set_image before.sets v ≡ Some (set_var (new_name vs v))
  set_before v h k = set_image_at (λ w. set_var (new_name vs w)) (filter is_set_var vs) v (filter_in is_set_var v vs k h)

  set_behind : (v : Var) → is_set_var v ≡ true → Among v vs → set_image behind.sets (r v) ≡ Some (set_var (new_name vs v))
  set_behind v h k =
      set_image_at (λ w. set_var (new_name (map r vs) w)) (filter is_set_var (map r vs)) (r v)
      (filter_in is_set_var (r v) (map r vs) (Among-map r v vs k) (ap (λ s. sort_eq s Set) (is.sort v) ∙ h))
      ∙ ap (λ w. Some (set_var w)) (new_name-rename v)

  -- ---- lists and pairs of parts that pass a test

  all_numbers : {A B C : Type 0} (f : A → B) (g : A → C) (k : B → C) (test : A → Bool) (vars : A → List Var) → ((x : A) → test x ≡ true → In (vars x) → k (f x) ≡ g x)
      → (xs : List A) → list_all test xs ≡ true → In (flat_map vars xs) → map k (map f xs) ≡ map g xs
  all_numbers f g k test vars p xs h e = each Known f g k vars xs (λ x i. p x (each_at test x xs h i)) e

  both_numbers : {A B C : Type 0} (f : A → B → C) (a a' : A) (b b' : B) (x y : Bool) (us ws : List Var) → (x ≡ true → In us → a ≡ a') → (y ≡ true → In ws → b ≡ b')
      → (x && y) ≡ true → In (us ++ ws) → f a b ≡ f a' b'
  both_numbers f a a' b b' x y us ws p q h e = let both = and_parts x y h in two Known f a a' b b' us ws (p both.0) (q both.1) e

  -- ---- terms

  base_numbers : (b : Option Var) (z : ℤ) → list_all no_set (base_vars b) ≡ true → In (base_vars b)
      → apply_term behind (record { base = rename_base r b; offset = z }) ≡ apply_term before (record { base = b; offset = z })
  base_numbers None z h e = refl
  base_numbers (Some v) z h e =
      let fits = (and_parts (no_set v) true h).0 in
      ap (term_at (record { base = Some (r v); offset = z })) (int_behind v fits (e v (inl refl)))
      ∙ sym (ap (term_at (record { base = Some v; offset = z })) (int_before v fits (e v (inl refl))))

  term_numbers : (t : Term) → term_fits no_set t ≡ true → In (term_vars t) → apply_term behind (rename_term r t) ≡ apply_term before t
  term_numbers t h e = base_numbers t.base t.offset h e

  terms_numbers : (ts : List Term) → list_all (term_fits no_set) ts ≡ true → In (flat_map term_vars ts) → map (apply_term behind) (map (rename_term r) ts) ≡ map (apply_term before) ts
  terms_numbers ts h e = all_numbers (rename_term r) (apply_term before) (apply_term behind) (term_fits no_set) term_vars term_numbers ts h e

  abbrev image : Subst → Var → SetTerm
  image by v = image_or_self v (set_image by.sets v)

  images_numbers : (us : List Var) → list_all is_set_var us ≡ true → In us → map (image behind) (map r us) ≡ map (image before) us
  images_numbers [] h e = refl
  images_numbers (u ∷ us) h e =
      let both = and_parts (is_set_var u) (list_all is_set_var us) h in
      let here = ap (image_or_self (r u)) (set_behind u both.0 (e u (inl refl))) ∙ sym (ap (image_or_self u) (set_before u both.0 (e u (inl refl)))) in
      let rest = images_numbers us both.1 (λ v k. e v (inr k)) in
      λ i. here i ∷ rest i

  set_numbers : (u : SetTerm) → set_fits no_set is_set_var u ≡ true → In (set_vars u) → apply_set behind (rename_set r u) ≡ apply_set before u
  set_numbers u h e =
      let f = set_parts no_set is_set_var u h in
      let images = images_numbers u.vars f.vars (first Known u.vars (flat_map term_vars u.elems) e) in
      let elems = terms_numbers u.elems f.elems (second Known u.vars (flat_map term_vars u.elems) e) in
      λ i. record {
        vars = without_repeats var_eq (flat_map (λ (p : SetTerm). p.vars) (images i));
        elems = without_repeats term_eq (flat_map (λ (p : SetTerm). p.elems) (images i) ++ elems i);
      }

  -- ---- literals and chunks

  two_terms : (f : Term → Term → Lit) (a b : Term) → (term_fits no_set a && term_fits no_set b) ≡ true → In (term_vars a ++ term_vars b)
      → f (apply_term behind (rename_term r a)) (apply_term behind (rename_term r b)) ≡ f (apply_term before a) (apply_term before b)
  two_terms f a b h e = both_numbers f _ _ _ _ (term_fits no_set a) (term_fits no_set b) (term_vars a) (term_vars b) (term_numbers a) (term_numbers b) h e

  two_sets : (f : SetTerm → SetTerm → Lit) (a b : SetTerm) → (set_fits no_set is_set_var a && set_fits no_set is_set_var b) ≡ true → In (set_vars a ++ set_vars b)
      → f (apply_set behind (rename_set r a)) (apply_set behind (rename_set r b)) ≡ f (apply_set before a) (apply_set before b)
  two_sets f a b h e = both_numbers f _ _ _ _ (set_fits no_set is_set_var a) (set_fits no_set is_set_var b) (set_vars a) (set_vars b) (set_numbers a) (set_numbers b) h e

  term_and_set : (f : Term → SetTerm → Lit) (a : Term) (b : SetTerm) → (term_fits no_set a && set_fits no_set is_set_var b) ≡ true → In (term_vars a ++ set_vars b)
      → f (apply_term behind (rename_term r a)) (apply_set behind (rename_set r b)) ≡ f (apply_term before a) (apply_set before b)
  term_and_set f a b h e = both_numbers f _ _ _ _ (term_fits no_set a) (set_fits no_set is_set_var b) (term_vars a) (set_vars b) (term_numbers a) (set_numbers b) h e

  lit_numbers : (l : Lit) → lit_fits no_set is_set_var l ≡ true → In (lit_vars l) → apply_lit behind (rename_lit r l) ≡ apply_lit before l
  lit_numbers (Eq a b) = two_terms Eq a b
  lit_numbers (Ne a b) = two_terms Ne a b
  lit_numbers (Le a b) = two_terms Le a b
  lit_numbers (Lt a b) = two_terms Lt a b
  lit_numbers (Same a b) = two_sets Same a b
  lit_numbers (NotSame a b) = two_sets NotSame a b
  lit_numbers (Member a b) = term_and_set Member a b
  lit_numbers (NotMember a b) = term_and_set NotMember a b
  lit_numbers (Sub a b) = two_sets Sub a b
  lit_numbers (NotSub a b) = two_sets NotSub a b

  lits_numbers : (ls : List Lit) → list_all (lit_fits no_set is_set_var) ls ≡ true → In (lits_vars ls) → map (apply_lit behind) (map (rename_lit r) ls) ≡ map (apply_lit before) ls
  lits_numbers ls h e = all_numbers (rename_lit r) (apply_lit before) (apply_lit behind) (lit_fits no_set is_set_var) lit_vars lit_numbers ls h e

  arg_numbers : (a : Arg) → arg_fits no_set is_set_var a ≡ true → In (arg_vars a) → apply_arg behind (rename_arg r a) ≡ apply_arg before a
  arg_numbers (IntArg t) h e = ap IntArg (term_numbers t h e)
  arg_numbers (SetArg u) h e = ap SetArg (set_numbers u h e)

  card_numbers : (c : Option Var) → list_all no_set (card_vars c) ≡ true → In (card_vars c) → apply_card behind (rename_base r c) ≡ apply_card before c
  card_numbers None h e = refl
  card_numbers (Some v) h e =
      let fits = (and_parts (no_set v) true h).0 in
      ap (λ o. Some (var_at (r v) o)) (int_behind v fits (e v (inl refl))) ∙ sym (ap (λ o. Some (var_at v o)) (int_before v fits (e v (inl refl))))

  chunk_numbers : (c : Chunk) → chunk_fits no_set is_set_var c ≡ true → In (chunk_vars c) → apply_chunk behind (rename_chunk r c) ≡ apply_chunk before c
  chunk_numbers (Inst k) h e =
      both_numbers (λ xs c. Inst (record { pred = k.pred; args = xs; card = c; tag = k.tag })) _ _ _ _ (list_all (arg_fits no_set is_set_var) k.args) (list_all no_set (card_vars k.card))
      (flat_map arg_vars k.args) (card_vars k.card)
      (all_numbers (rename_arg r) (apply_arg before) (apply_arg behind) (arg_fits no_set is_set_var) arg_vars arg_numbers k.args) (card_numbers k.card) h e
  chunk_numbers (Block k) h e = ap (λ t. Block (record { at = t; size = k.size })) (term_numbers k.at h e)
  chunk_numbers (Cell k) h e =
      both_numbers (λ t u. Cell (record { at = t; content = u })) _ _ _ _ (term_fits no_set k.at) (term_fits no_set k.content) (term_vars k.at) (term_vars k.content)
      (term_numbers k.at) (term_numbers k.content) h e

  chunks_numbers : (cs : List Chunk) → list_all (chunk_fits no_set is_set_var) cs ≡ true → In (chunks_vars cs) → map (apply_chunk behind) (map (rename_chunk r) cs) ≡ map (apply_chunk before) cs
  chunks_numbers cs h e = all_numbers (rename_chunk r) (apply_chunk before) (apply_chunk behind) (chunk_fits no_set is_set_var) chunk_vars chunk_numbers cs h e

  -- ---- links

  abbrev int_fits : IntBind → Bool
  int_fits b = term_fits no_set b.to

  abbrev set_bind_fits : SetBind → Bool
  set_bind_fits b = set_fits no_set is_set_var b.to

  abbrev apply_images : Subst → Subst → Subst
  apply_images by m = record { ints = map (apply_bind by) m.ints; sets = map (apply_set_bind by) m.sets }

  map_numbers : (m : Subst) → images_fit no_set is_set_var m ≡ true → In (image_vars m) → apply_images behind (rename_images r m) ≡ apply_images before m
  map_numbers m h e =
      both_numbers {C = Subst} (λ xs us. record { ints = xs; sets = us }) _ _ _ _ (list_all int_fits m.ints) (list_all set_bind_fits m.sets)
      (flat_map (λ (b : IntBind). term_vars b.to) m.ints) (flat_map (λ (b : SetBind). set_vars b.to) m.sets)
      (all_numbers (rename_int_bind r) (apply_bind before) (apply_bind behind) int_fits (λ (b : IntBind). term_vars b.to) (λ b p k. ap (λ t. record { var = b.var; to = t }) (term_numbers b.to p k)) m.ints)
      (all_numbers (rename_set_bind r) (apply_set_bind before) (apply_set_bind behind) set_bind_fits (λ (b : SetBind). set_vars b.to) (λ b p k. ap (λ u. record { var = b.var; to = u }) (set_numbers b.to p k)) m.sets) h e

  link_numbers : (k : Link) → link_fits no_set is_set_var k ≡ true → In (link_vars k) → apply_link behind (rename_link r k) ≡ apply_link before k
  link_numbers k h e =
      both_numbers {C = Link} (λ ts m. record { goal = k.goal; own = k.own; map = m; tuple = ts }) _ _ _ _ (list_all (term_fits no_set) k.tuple) (images_fit no_set is_set_var k.map)
      (flat_map term_vars k.tuple) (image_vars k.map) (terms_numbers k.tuple) (map_numbers k.map) h e

  -- ---- nodes

  -- the node with these numbers
  abbrev numbered : List Var → Node → Node
  numbered ws n =
      let m : Node = apply_node (numbering ws) n in
      record m { goal = record m.goal { program = map (new_name ws) n.goal.program; exist = map (new_name ws) n.goal.exist } }

  node_numbers : (n : Node) → HasSorts no_set is_set_var n → In (node_vars n) → numbered (map r vs) (rename_node r n) ≡ numbered vs n
  node_numbers n f e =
      let g : Goal = n.goal in
      let parts : EachPart Known n = each_part Known n e in
      let program = map_after r (new_name vs) (new_name (map r vs)) new_name-rename g.program in
      let exist = map_after r (new_name vs) (new_name (map r vs)) new_name-rename g.exist in
      let pure_pre = lits_numbers g.pure_pre f.pure_pre parts.pure_pre in
      let pre = chunks_numbers g.pre.chunks f.pre parts.pre in
      let pure_post = lits_numbers g.pure_post f.pure_post parts.pure_post in
      let post = chunks_numbers g.post.chunks f.post parts.post in
      let links = all_numbers (rename_link r) (apply_link before) (apply_link behind) (link_fits no_set is_set_var) link_vars link_numbers n.links f.links parts.links in
      λ i. record {
        preds = n.preds;
        goal = record { program = program i; exist = exist i; pure_pre = pure_pre i; pre = record { chunks = pre i }; pure_post = pure_post i; post = record { chunks = post i } };
        links = links i;
      }

-- where each variable has the sort of its place a node under new names has the numbers that it had
pub renumber-rename : (r : Var → Var) → IsRenaming r → (n : Node) → HasSorts no_set is_set_var n → renumber (rename_node r n) ≡ renumber n
renumber-rename r is n f =
    ap (λ ws. numbered r is ws ws (rename_node r n)) (node_vars-rename r is n) ∙ node_numbers r is (node_vars n) n f (λ v k. k)
