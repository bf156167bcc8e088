-- The present sides of a match's positions, and the images of a companion's map, are of old variables.
use Rattle.std.proofs.Common.{◌≡◌, refl, sym, ℕ, Bool, true, false, cond, ◌&&◌, List, [], ◌∷◌, flat_map, Option, Some, None, inl, inr, subst}
use Rattle.std.specs.Prelude.{is_none, slice_get}
use Rattle.std.specs.List.{AllByRecursion, list_all}
use Rattle.std.proofs.lemmas.Bool.{and_parts, false_from_ne_true, false≢true}
use Rattle.std.proofs.lemmas.Option.{none-some, same_Some}
use Rattle.cyp_goal.proofs.EachVar.{Each, first, link_vars, second}
use Rattle.cyp_goal.specs.Raw.{arg_fits, goal_fits, images_fit, link_fits, set_fits, term_fits}
use Rattle.cyp_heap.specs.Chunks.{arg_vars, card_vars, chunk_vars, chunks_vars}
use Rattle.cyp_heap.specs.Goals.{image_vars}
use Rattle.cyp_heap.specs.declared.chunk.Arg.{Arg}
use Rattle.cyp_heap.specs.declared.chunk.Arg.TheVariants.{Int as IntArg, Set as SetArg}
use Rattle.cyp_heap.specs.declared.chunk.Chunk.{Chunk}
use Rattle.cyp_heap.specs.declared.chunk.Chunk.TheVariants.{Block, Cell, Inst}
use Rattle.cyp_heap.specs.declared.goal.Link.{Link}
use Rattle.cyp_heap.specs.declared.goal.Node.{Node}
use Rattle.cyp_kernel.proofs.AgreeVars.{chunk_sorted, is_number_var}
use Rattle.cyp_kernel.proofs.BoundImages.{GoodBinds, GoodRight}
use Rattle.cyp_kernel.proofs.ForgetVars.{among_from_in}
use Rattle.cyp_kernel.proofs.PairedChunks.{ArePaired}
use Rattle.cyp_kernel.proofs.SteadyParts.{chunk_sorted_at, chunk_vars_among, slice_get-among}
use Rattle.cyp_kernel.specs.Steady.{IsSteady}
use Rattle.cyp_term.proofs.Lists.{Among, Among-left, Among-right, Every-append, each_at, flat_in}
use Rattle.cyp_term.specs.Terms.{int_image, is_set_var, set_image, set_vars, term_vars, var_eq, var_in}
use Rattle.cyp_term.specs.declared.lit.SetTerm.{SetTerm}
use Rattle.cyp_term.specs.declared.subst.IntBind.{IntBind}
use Rattle.cyp_term.specs.declared.subst.SetBind.{SetBind}
use Rattle.cyp_term.specs.declared.subst.Subst.{Subst}
use Rattle.cyp_term.specs.declared.term.Term.{Term}
use Rattle.cyp_term.specs.declared.term.Var.{Var}
use Rattle.cyp_unify.specs.Matches.{Position, arg_positions, card_position, positions}

-- ---- images of a map

int_image_by : (c : Bool) (r t : Term) (o : Option Term) (Q : Type 0) → (r ≡ t → Q) → (o ≡ Some t → Q) → cond c (Some r) o ≡ Some t → Q
int_image_by true r t o Q f g e = f (same_Some r t e)
int_image_by false r t o Q f g e = g e

set_image_by : (c : Bool) (r t : SetTerm) (o : Option SetTerm) (Q : Type 0) → (r ≡ t → Q) → (o ≡ Some t → Q) → cond c (Some r) o ≡ Some t → Q
set_image_by true r t o Q f g e = f (same_Some r t e)
set_image_by false r t o Q f g e = g e

int_image_at : (bs : List IntBind) (v : Var) (t : Term) → int_image bs v ≡ Some t → (b : IntBind) × Among b bs × (b.to ≡ t)
int_image_at [] v t e = absurd (none-some t e)
int_image_at (b ∷ bs) v t e =
    int_image_by (var_eq b.var v) b.to t (int_image bs v) ((a : IntBind) × Among a (b ∷ bs) × (a.to ≡ t)) (λ p. (b, inl refl, p)) (λ p. let r = int_image_at bs v t p in (r.0, inr r.1, r.2)) e

pub set_image_at : (bs : List SetBind) (v : Var) (t : SetTerm) → set_image bs v ≡ Some t → (b : SetBind) × Among b bs × (b.to ≡ t)
set_image_at [] v t e = absurd (none-some t e)
set_image_at (b ∷ bs) v t e =
    set_image_by (var_eq b.var v) b.to t (set_image bs v) ((a : SetBind) × Among a (b ∷ bs) × (a.to ≡ t)) (λ p. (b, inl refl, p)) (λ p. let r = set_image_at bs v t p in (r.0, inr r.1, r.2)) e

-- no existential has an image in the map
abbrev pub ExistFree : Subst → List Var → Bool
ExistFree m exist = list_all (λ v. is_none (int_image m.ints v) && is_none (set_image m.sets v)) exist

no_image : {A : Type 0} (o : Option A) (x : A) → is_none o ≡ true → o ≡ Some x → ⊥
no_image None x n e = none-some x e
no_image (Some y) x n e = false≢true n

module _ (P : Var → Type 0) where
  map_is_good : (exist : List Var) (m : Subst) → ExistFree m exist ≡ true → images_fit is_number_var is_set_var m ≡ true → Each P (image_vars m) → GoodBinds P exist m
  map_is_good exist m free f e =
      let both = and_parts (list_all (λ (b : IntBind). term_fits is_number_var b.to) m.ints) (list_all (λ (b : SetBind). set_fits is_number_var is_set_var b.to) m.sets) f in
      let ints : List Var = flat_map (λ (b : IntBind). term_vars b.to) m.ints in
      let sets : List Var = flat_map (λ (b : SetBind). set_vars b.to) m.sets in
      record {
        ints = λ v t i.
            let b = int_image_at m.ints v t i in (
              (
                subst (λ (x : Term). term_fits is_number_var x ≡ true) b.2 (each_at (λ (b : IntBind). term_fits is_number_var b.to) b.0 m.ints both.0 b.1),
                (λ x k. e x (Among-left x ints sets (flat_in (λ (b : IntBind). term_vars b.to) x b.0 m.ints b.1 (subst (λ (y : Term). Among x (term_vars y)) (sym b.2) k)))),
              ),
              false_from_ne_true (var_in v exist) (λ q. no_image (int_image m.ints v) t (and_parts (is_none (int_image m.ints v)) (is_none (set_image m.sets v)) (at_exist v q)).0 i),
            );
        sets = λ v u i.
            let b = set_image_at m.sets v u i in (
              (
                subst (λ (x : SetTerm). set_fits is_number_var is_set_var x ≡ true) b.2 (each_at (λ (b : SetBind). set_fits is_number_var is_set_var b.to) b.0 m.sets both.1 b.1),
                (λ x k. e x (Among-right x ints sets (flat_in (λ (b : SetBind). set_vars b.to) x b.0 m.sets b.1 (subst (λ (y : SetTerm). Among x (set_vars y)) (sym b.2) k)))),
              ),
              false_from_ne_true (var_in v exist) (λ q. no_image (set_image m.sets v) u (and_parts (is_none (int_image m.ints v)) (is_none (set_image m.sets v)) (at_exist v q)).1 i),
            );
      }
    where
      at_exist : (v : Var) → var_in v exist ≡ true → (is_none (int_image m.ints v) && is_none (set_image m.sets v)) ≡ true
      at_exist v q = each_at (λ v. is_none (int_image m.ints v) && is_none (set_image m.sets v)) v exist free (among_from_in v exist q)

  -- a companion's map
  pub link_map_good : (n : Node) → IsSteady n → Each P (flat_map link_vars n.links) → (i : ℕ) (l : Link) → slice_get n.links i ≡ Some l → ExistFree l.map l.goal.exist ≡ true → GoodBinds P l.goal.exist l.map
  link_map_good n steady e i l at free =
      let fits = (and_parts (goal_fits is_number_var is_set_var n.goal) (list_all (link_fits is_number_var is_set_var) n.links) steady.sorted).1 in
      let here = each_at (link_fits is_number_var is_set_var) l n.links fits (slice_get-among n.links i l at) in
      let tuple : List Var = flat_map (λ t. term_vars t) l.tuple in
      map_is_good l.goal.exist l.map free (and_parts (list_all (term_fits is_number_var) l.tuple) (images_fit is_number_var is_set_var l.map) here).1
      (λ v k. e v (flat_in link_vars v l n.links (slice_get-among n.links i l at) (Among-right v tuple (image_vars l.map) k)))

  -- ---- present sides

  args_right : (xs ys : List Arg) → list_all (arg_fits is_number_var is_set_var) ys ≡ true → Each P (flat_map arg_vars ys) → AllByRecursion (GoodRight P) (arg_positions xs ys)
  args_right [] ys f e = tt
  args_right (x ∷ xs) [] f e = tt
  args_right (IntArg x ∷ xs) (IntArg y ∷ ys) f e =
      let both = and_parts (term_fits is_number_var y) (list_all (arg_fits is_number_var is_set_var) ys) f in
      ((both.0, first P (term_vars y) (flat_map arg_vars ys) e), args_right xs ys both.1 (second P (term_vars y) (flat_map arg_vars ys) e))
  args_right (SetArg x ∷ xs) (SetArg y ∷ ys) f e =
      let both = and_parts (set_fits is_number_var is_set_var y) (list_all (arg_fits is_number_var is_set_var) ys) f in
      ((both.0, first P (set_vars y) (flat_map arg_vars ys) e), args_right xs ys both.1 (second P (set_vars y) (flat_map arg_vars ys) e))
  args_right (IntArg x ∷ xs) (SetArg y ∷ ys) f e =
      args_right xs ys (and_parts (set_fits is_number_var is_set_var y) (list_all (arg_fits is_number_var is_set_var) ys) f).1 (second P (set_vars y) (flat_map arg_vars ys) e)
  args_right (SetArg x ∷ xs) (IntArg y ∷ ys) f e =
      args_right xs ys (and_parts (term_fits is_number_var y) (list_all (arg_fits is_number_var is_set_var) ys) f).1 (second P (term_vars y) (flat_map arg_vars ys) e)

  card_right : (c d : Option Var) → list_all is_number_var (card_vars d) ≡ true → Each P (card_vars d) → AllByRecursion (GoodRight P) (card_position c d)
  card_right None d f e = tt
  card_right (Some c) None f e = tt
  card_right (Some c) (Some d) f e = ((f, e), tt)

  chunk_right : (c d : Chunk) (k : ℕ) → chunk_sorted d ≡ true → Each P (chunk_vars d) → AllByRecursion (GoodRight P) (positions c k d)
  chunk_right (Inst i) (Inst j) k f e =
      let both = and_parts (list_all (arg_fits is_number_var is_set_var) j.args) (list_all is_number_var (card_vars j.card)) f in
      Every-append (GoodRight P) (arg_positions i.args j.args) (card_position i.card j.card)
      (args_right i.args j.args both.0 (first P (flat_map arg_vars j.args) (card_vars j.card) e)) (card_right i.card j.card both.1 (second P (flat_map arg_vars j.args) (card_vars j.card) e))
  chunk_right (Block b) (Block c) k f e = ((f, e), tt)
  chunk_right (Cell b) (Cell c) k f e =
      let both = and_parts (term_fits is_number_var c.at) (term_fits is_number_var c.content) f in
      ((both.0, first P (term_vars c.at) (term_vars c.content) e), ((both.1, second P (term_vars c.at) (term_vars c.content) e), tt))
  chunk_right (Inst i) (Block c) k f e = tt
  chunk_right (Inst i) (Cell c) k f e = tt
  chunk_right (Block b) (Inst j) k f e = tt
  chunk_right (Block b) (Cell c) k f e = tt
  chunk_right (Cell b) (Inst j) k f e = tt
  chunk_right (Cell b) (Block c) k f e = tt

  pub rights_good : (present cs : List Chunk) (ks : List ℕ) (ps : List Position) → ArePaired present cs ks ps → list_all chunk_sorted present ≡ true → Each P (chunks_vars present)
      → AllByRecursion (GoodRight P) ps
  rights_good present [] [] ps a f e = subst (λ (xs : List Position). AllByRecursion (GoodRight P) xs) (sym a) tt
  rights_good present [] (k ∷ ks) ps a f e = absurd a
  rights_good present (c ∷ cs) [] ps a f e = absurd a
  rights_good present (c ∷ cs) (k ∷ ks) ps a f e =
      subst (λ (xs : List Position). AllByRecursion (GoodRight P) xs) (sym a.5)
      (Every-append (GoodRight P) (positions c k a.0) a.1 (chunk_right c a.0 k (chunk_sorted_at present k a.0 a.2 f) (λ v x. e v (chunk_vars_among present k a.0 a.2 v x)))
      (rights_good present cs ks a.1 a.6 f e))
