-- Substituting and renaming may change places, where the substitution is renamed too.
use Rattle.std.proofs.Common.{◌≡◌, ◌∙◌, [], ◌∷◌, ◌++◌, List, Option, Some, None, cond, ◌||◌, map, flat_map, option_map, refl, ap, ap₂}
use Rattle.std.specs.List.{list_any}
use Rattle.cyp_goal.proofs.Maps.{at_cond, flat_map-map, joined, list_any-map, map_both, without_repeats-map}
use Rattle.cyp_goal.proofs.Rename.{IsRenaming, rename_arg, rename_base, rename_chunk, rename_link, rename_lit, rename_node, rename_set, rename_term, term_eq-rename}
use Rattle.cyp_goal.proofs.RenameVars.{rename_int_bind, rename_set_bind}
use Rattle.cyp_term.specs.Terms.{apply_lit, apply_set, apply_term, base_or, image_or_self, int_image, set_image, term_at, term_base, term_eq, var_at, var_eq, wide_lit, wide_set, wide_subst, wide_term, without_repeats}
use Rattle.cyp_heap.specs.Chunks.{apply_arg, apply_card, apply_chunk, wide_arg, wide_chunk}
use Rattle.cyp_heap.specs.Goals.{apply_bind, apply_link, apply_node, apply_set_bind, wide_link, wide_node}
use Rattle.cyp_heap.specs.declared.chunk.Arg.{Arg}
use Rattle.cyp_heap.specs.declared.chunk.Arg.TheVariants.{Int as IntArg, Set as SetArg}
use Rattle.cyp_heap.specs.declared.chunk.Chunk.{Chunk}
use Rattle.cyp_heap.specs.declared.chunk.Chunk.TheVariants.{Block, Cell, Inst}
use Rattle.cyp_heap.specs.declared.goal.Goal.{Goal}
use Rattle.cyp_heap.specs.declared.goal.Link.{Link}
use Rattle.cyp_heap.specs.declared.goal.Node.{Node}
use Rattle.cyp_term.specs.declared.lit.Lit.{Lit}
use Rattle.cyp_term.specs.declared.lit.Lit.TheVariants.{Eq, Le, Lt, Member, Ne, NotMember, NotSame, NotSub, Same, Sub}
use Rattle.cyp_term.specs.declared.lit.SetTerm.{SetTerm}
use Rattle.cyp_term.specs.declared.subst.IntBind.{IntBind}
use Rattle.cyp_term.specs.declared.subst.SetBind.{SetBind}
use Rattle.cyp_term.specs.declared.subst.Subst.{Subst}
use Rattle.cyp_term.specs.declared.term.Term.{Term}
use Rattle.cyp_term.specs.declared.term.Var.{Var}

module _ (r : Var → Var) where
  -- the variable that is bound and its image renamed
  abbrev int_entry : IntBind → IntBind
  int_entry b = record { var = r b.var; to = rename_term r b.to }

  abbrev set_entry : SetBind → SetBind
  set_entry b = record { var = r b.var; to = rename_set r b.to }

  -- a substitution renamed, on both sides
  abbrev pub rename_by : Subst → Subst
  rename_by by = record { ints = map int_entry by.ints; sets = map set_entry by.sets }

-- ---- offsets stay
module _ (r : Var → Var) where
  wide_set-rename : (u : SetTerm) → wide_set (rename_set r u) ≡ wide_set u
  wide_set-rename u = list_any-map (rename_term r) wide_term wide_term (λ t. refl) u.elems

  wide_lit-rename : (l : Lit) → wide_lit (rename_lit r l) ≡ wide_lit l
  wide_lit-rename (Eq a b) = refl
  wide_lit-rename (Ne a b) = refl
  wide_lit-rename (Le a b) = refl
  wide_lit-rename (Lt a b) = refl
  wide_lit-rename (Same a b) = ap₂ (λ x y. x || y) (wide_set-rename a) (wide_set-rename b)
  wide_lit-rename (NotSame a b) = ap₂ (λ x y. x || y) (wide_set-rename a) (wide_set-rename b)
  wide_lit-rename (Member a b) = ap (λ y. wide_term a || y) (wide_set-rename b)
  wide_lit-rename (NotMember a b) = ap (λ y. wide_term a || y) (wide_set-rename b)
  wide_lit-rename (Sub a b) = ap₂ (λ x y. x || y) (wide_set-rename a) (wide_set-rename b)
  wide_lit-rename (NotSub a b) = ap₂ (λ x y. x || y) (wide_set-rename a) (wide_set-rename b)

  wide_arg-rename : (a : Arg) → wide_arg (rename_arg r a) ≡ wide_arg a
  wide_arg-rename (IntArg t) = refl
  wide_arg-rename (SetArg u) = wide_set-rename u

  wide_chunk-rename : (c : Chunk) → wide_chunk (rename_chunk r c) ≡ wide_chunk c
  wide_chunk-rename (Inst i) = list_any-map (rename_arg r) wide_arg wide_arg wide_arg-rename i.args
  wide_chunk-rename (Block k) = refl
  wide_chunk-rename (Cell k) = refl

  wide_lits-rename : (ls : List Lit) → list_any wide_lit (map (rename_lit r) ls) ≡ list_any wide_lit ls
  wide_lits-rename ls = list_any-map (rename_lit r) wide_lit wide_lit wide_lit-rename ls

  wide_chunks-rename : (cs : List Chunk) → list_any wide_chunk (map (rename_chunk r) cs) ≡ list_any wide_chunk cs
  wide_chunks-rename cs = list_any-map (rename_chunk r) wide_chunk wide_chunk wide_chunk-rename cs

  wide_link-rename : (k : Link) → wide_link (rename_link r k) ≡ wide_link k
  wide_link-rename k =
      let tuple = list_any-map (rename_term r) wide_term wide_term (λ t. refl) k.tuple in
      let ints = list_any-map (rename_int_bind r) (λ (b : IntBind). wide_term b.to) (λ (b : IntBind). wide_term b.to) (λ b. refl) k.map.ints in
      let sets = list_any-map (rename_set_bind r) (λ (b : SetBind). wide_set b.to) (λ (b : SetBind). wide_set b.to) (λ b. wide_set-rename b.to) k.map.sets in
      λ i. tuple i || ints i || sets i

  wide_node-rename : (n : Node) → wide_node (rename_node r n) ≡ wide_node n
  wide_node-rename n =
      let pure_pre = wide_lits-rename n.goal.pure_pre in
      let pre = wide_chunks-rename n.goal.pre.chunks in
      let pure_post = wide_lits-rename n.goal.pure_post in
      let post = wide_chunks-rename n.goal.post.chunks in
      let links = list_any-map (rename_link r) wide_link wide_link wide_link-rename n.links in
      λ i. (pure_pre i || pre i || pure_post i || post i) || links i

  wide_subst-rename : (by : Subst) → wide_subst (rename_by r by) ≡ wide_subst by
  wide_subst-rename by =
      let ints = list_any-map (int_entry r) (λ (b : IntBind). wide_term b.to) (λ (b : IntBind). wide_term b.to) (λ b. refl) by.ints in
      let sets = list_any-map (set_entry r) (λ (b : SetBind). wide_set b.to) (λ (b : SetBind). wide_set b.to) (λ b. wide_set-rename b.to) by.sets in
      λ i. ints i || sets i

-- ---- images
module _ (r : Var → Var) (is : IsRenaming r) (by : Subst) where
  int_image-rename : (bs : List IntBind) (v : Var) → int_image (map (int_entry r) bs) (r v) ≡ option_map (rename_term r) (int_image bs v)
  int_image-rename [] v = refl
  int_image-rename (b ∷ bs) v =
      ap₂ (λ c o. cond c (Some (rename_term r b.to)) o) (is.apart b.var v) (int_image-rename bs v)
      ∙ at_cond (option_map (rename_term r)) (var_eq b.var v) (Some b.to) (int_image bs v)

  set_image-rename : (bs : List SetBind) (v : Var) → set_image (map (set_entry r) bs) (r v) ≡ option_map (rename_set r) (set_image bs v)
  set_image-rename [] v = refl
  set_image-rename (b ∷ bs) v =
      ap₂ (λ c o. cond c (Some (rename_set r b.to)) o) (is.apart b.var v) (set_image-rename bs v)
      ∙ at_cond (option_map (rename_set r)) (var_eq b.var v) (Some b.to) (set_image bs v)

  term_at-rename : (t : Term) (o : Option Term) → term_at (rename_term r t) (option_map (rename_term r) o) ≡ rename_term r (term_at t o)
  term_at-rename t None = refl
  term_at-rename t (Some to) = refl

  term_base-rename : (t : Term) (b : Option Var) → term_base (rename_by r by) (rename_term r t) (rename_base r b) ≡ rename_term r (term_base by t b)
  term_base-rename t None = refl
  term_base-rename t (Some v) = ap (term_at (rename_term r t)) (int_image-rename by.ints v) ∙ term_at-rename t (int_image by.ints v)

  apply_term-rename : (t : Term) → apply_term (rename_by r by) (rename_term r t) ≡ rename_term r (apply_term by t)
  apply_term-rename t = term_base-rename t t.base

  image_or_self-rename : (v : Var) (o : Option SetTerm) → image_or_self (r v) (option_map (rename_set r) o) ≡ rename_set r (image_or_self v o)
  image_or_self-rename v None = refl
  image_or_self-rename v (Some u) = refl

  abbrev image : Subst → Var → SetTerm
  image s v = image_or_self v (set_image s.sets v)

  image-rename : (v : Var) → image (rename_by r by) (r v) ≡ rename_set r (image by v)
  image-rename v = ap (image_or_self (r v)) (set_image-rename by.sets v) ∙ image_or_self-rename v (set_image by.sets v)

  apply_set-rename : (u : SetTerm) → apply_set (rename_by r by) (rename_set r u) ≡ rename_set r (apply_set by u)
  apply_set-rename u =
      let images = map_both r (image (rename_by r by)) (image by) (rename_set r) image-rename u.vars in
      let parts : List SetTerm = map (image by) u.vars in
      let all : List Term = flat_map (λ (i : SetTerm). i.elems) parts ++ map (apply_term by) u.elems in
      let vars = ap (λ (is : List SetTerm). without_repeats var_eq (flat_map (λ (i : SetTerm). i.vars) is)) images
      ∙ ap (without_repeats var_eq) (flat_map-map (rename_set r) (λ (i : SetTerm). i.vars) (λ (i : SetTerm). i.vars) r (λ i. refl) parts)
      ∙ without_repeats-map r var_eq var_eq is.apart (flat_map (λ (i : SetTerm). i.vars) parts) in
      let elems = ap (without_repeats term_eq)
      (joined (rename_term r) (flat_map (λ (i : SetTerm). i.elems) parts) (map (apply_term by) u.elems) _ _
      (ap (flat_map (λ (i : SetTerm). i.elems)) images ∙ flat_map-map (rename_set r) (λ (i : SetTerm). i.elems) (λ (i : SetTerm). i.elems) (rename_term r) (λ i. refl) parts)
      (map_both (rename_term r) (apply_term (rename_by r by)) (apply_term by) (rename_term r) apply_term-rename u.elems))
      ∙ without_repeats-map (rename_term r) term_eq term_eq (term_eq-rename r is) all in
      λ i. record { vars = vars i; elems = elems i }

  -- ---- literals and chunks
  apply_lit-rename : (l : Lit) → apply_lit (rename_by r by) (rename_lit r l) ≡ rename_lit r (apply_lit by l)
  apply_lit-rename (Eq a b) = ap₂ Eq (apply_term-rename a) (apply_term-rename b)
  apply_lit-rename (Ne a b) = ap₂ Ne (apply_term-rename a) (apply_term-rename b)
  apply_lit-rename (Le a b) = ap₂ Le (apply_term-rename a) (apply_term-rename b)
  apply_lit-rename (Lt a b) = ap₂ Lt (apply_term-rename a) (apply_term-rename b)
  apply_lit-rename (Same a b) = ap₂ Same (apply_set-rename a) (apply_set-rename b)
  apply_lit-rename (NotSame a b) = ap₂ NotSame (apply_set-rename a) (apply_set-rename b)
  apply_lit-rename (Member a b) = ap₂ Member (apply_term-rename a) (apply_set-rename b)
  apply_lit-rename (NotMember a b) = ap₂ NotMember (apply_term-rename a) (apply_set-rename b)
  apply_lit-rename (Sub a b) = ap₂ Sub (apply_set-rename a) (apply_set-rename b)
  apply_lit-rename (NotSub a b) = ap₂ NotSub (apply_set-rename a) (apply_set-rename b)

  apply_arg-rename : (a : Arg) → apply_arg (rename_by r by) (rename_arg r a) ≡ rename_arg r (apply_arg by a)
  apply_arg-rename (IntArg t) = ap IntArg (apply_term-rename t)
  apply_arg-rename (SetArg u) = ap SetArg (apply_set-rename u)

  base_or-rename : (v : Var) (b : Option Var) → base_or (r v) (rename_base r b) ≡ r (base_or v b)
  base_or-rename v None = refl
  base_or-rename v (Some w) = refl

  var_at-rename : (v : Var) (o : Option Term) → var_at (r v) (option_map (rename_term r) o) ≡ r (var_at v o)
  var_at-rename v None = refl
  var_at-rename v (Some to) = base_or-rename v to.base

  apply_card-rename : (c : Option Var) → apply_card (rename_by r by) (rename_base r c) ≡ rename_base r (apply_card by c)
  apply_card-rename None = refl
  apply_card-rename (Some v) = ap Some (ap (var_at (r v)) (int_image-rename by.ints v) ∙ var_at-rename v (int_image by.ints v))

  apply_chunk-rename : (c : Chunk) → apply_chunk (rename_by r by) (rename_chunk r c) ≡ rename_chunk r (apply_chunk by c)
  apply_chunk-rename (Inst k) =
      let args = map_both (rename_arg r) (apply_arg (rename_by r by)) (apply_arg by) (rename_arg r) apply_arg-rename k.args in
      λ i. Inst (record { pred = k.pred; args = args i; card = apply_card-rename k.card i; tag = k.tag })
  apply_chunk-rename (Block k) = λ i. Block (record { at = apply_term-rename k.at i; size = k.size })
  apply_chunk-rename (Cell k) = λ i. Cell (record { at = apply_term-rename k.at i; content = apply_term-rename k.content i })

  -- ---- links and nodes
  apply_link-rename : (k : Link) → apply_link (rename_by r by) (rename_link r k) ≡ rename_link r (apply_link by k)
  apply_link-rename k =
      let ints = map_both (rename_int_bind r) (apply_bind (rename_by r by)) (apply_bind by) (rename_int_bind r)
      (λ (b : IntBind). λ i. record { var = b.var; to = apply_term-rename b.to i }) k.map.ints in
      let sets = map_both (rename_set_bind r) (apply_set_bind (rename_by r by)) (apply_set_bind by) (rename_set_bind r)
      (λ (b : SetBind). λ i. record { var = b.var; to = apply_set-rename b.to i }) k.map.sets in
      let tuple = map_both (rename_term r) (apply_term (rename_by r by)) (apply_term by) (rename_term r) apply_term-rename k.tuple in
      λ i. record { goal = k.goal; own = k.own; map = record { ints = ints i; sets = sets i }; tuple = tuple i }

  lits-rename : (ls : List Lit) → map (apply_lit (rename_by r by)) (map (rename_lit r) ls) ≡ map (rename_lit r) (map (apply_lit by) ls)
  lits-rename ls = map_both (rename_lit r) (apply_lit (rename_by r by)) (apply_lit by) (rename_lit r) apply_lit-rename ls

  chunks-rename : (cs : List Chunk) → map (apply_chunk (rename_by r by)) (map (rename_chunk r) cs) ≡ map (rename_chunk r) (map (apply_chunk by) cs)
  chunks-rename cs = map_both (rename_chunk r) (apply_chunk (rename_by r by)) (apply_chunk by) (rename_chunk r) apply_chunk-rename cs

  pub apply_node-rename : (n : Node) → apply_node (rename_by r by) (rename_node r n) ≡ rename_node r (apply_node by n)
  apply_node-rename n =
      let g : Goal = n.goal in
      let links = map_both (rename_link r) (apply_link (rename_by r by)) (apply_link by) (rename_link r) apply_link-rename n.links in
      λ i. record {
        preds = n.preds;
        goal = record {
          program = map r g.program;
          exist = map r g.exist;
          pure_pre = lits-rename g.pure_pre i;
          pre = record { chunks = chunks-rename g.pre.chunks i };
          pure_post = lits-rename g.pure_post i;
          post = record { chunks = chunks-rename g.post.chunks i };
        };
        links = links i;
      }

  -- what is too wide stays so
  pub wide-rename : (n : Node) → (wide_subst (rename_by r by) || wide_node (rename_node r n)) ≡ (wide_subst by || wide_node n)
  wide-rename n = ap₂ (λ x y. x || y) (wide_subst-rename r by) (wide_node-rename r n)
