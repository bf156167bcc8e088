-- A test of each variable and the same test of the places where variables stand.
use Rattle.std.proofs.Common.{◌≡◌, Bool, true, ◌&&◌, List, ◌++◌, flat_map, ⊎_elim}
use Rattle.std.specs.List.{list_all}
use Rattle.std.proofs.lemmas.Bool.{and_from, and_parts}
use Rattle.cyp_goal.proofs.EachVar.{Each}
use Rattle.cyp_goal.proofs.Fits.{lit_fits-at}
use Rattle.cyp_goal.specs.Raw.{arg_fits, chunk_fits, images_fit, lit_fits, set_fits, term_fits}
use Rattle.cyp_heap.specs.Chunks.{arg_vars, card_vars, chunk_vars, chunks_vars}
use Rattle.cyp_heap.specs.Goals.{image_vars}
use Rattle.cyp_heap.specs.declared.chunk.Arg.{Arg}
use Rattle.cyp_heap.specs.declared.chunk.Arg.TheVariants.{Int as IntArg, Set as SetArg}
use Rattle.cyp_heap.specs.declared.chunk.Chunk.{Chunk}
use Rattle.cyp_heap.specs.declared.chunk.Chunk.TheVariants.{Block, Cell, Inst}
use Rattle.cyp_term.proofs.Lists.{Among, Among-cases, Among-left, Among-right, each_at, each_from, flat_in, flat_out}
use Rattle.cyp_term.specs.Terms.{lit_vars, lits_vars, set_vars, term_vars}
use Rattle.cyp_term.specs.declared.lit.Lit.{Lit}
use Rattle.cyp_term.specs.declared.lit.Lit.TheVariants.{Same}
use Rattle.cyp_term.specs.declared.lit.SetTerm.{SetTerm}
use Rattle.cyp_term.specs.declared.subst.IntBind.{IntBind}
use Rattle.cyp_term.specs.declared.subst.SetBind.{SetBind}
use Rattle.cyp_term.specs.declared.subst.Subst.{Subst}
use Rattle.cyp_term.specs.declared.term.Term.{Term}
use Rattle.cyp_term.specs.declared.term.Var.{Var}

module _ (p : Var → Bool) where
  -- ---- to the places

  set_passes : (u : SetTerm) → ((v : Var) → Among v (set_vars u) → p v ≡ true) → set_fits p p u ≡ true
  set_passes u h =
      and_from (list_all p u.vars) (list_all (term_fits p) u.elems) (each_from p u.vars (λ v k. h v (Among-left v u.vars (flat_map term_vars u.elems) k)))
      (each_from (term_fits p) u.elems (λ t k. each_from p (term_vars t) (λ v m. h v (Among-right v u.vars (flat_map term_vars u.elems) (flat_in term_vars v t u.elems k m)))))

  arg_passes : (a : Arg) → ((v : Var) → Among v (arg_vars a) → p v ≡ true) → arg_fits p p a ≡ true
  arg_passes (IntArg t) h = each_from p (term_vars t) h
  arg_passes (SetArg u) h = set_passes u h

  pub chunk_passes : (c : Chunk) → ((v : Var) → Among v (chunk_vars c) → p v ≡ true) → chunk_fits p p c ≡ true
  chunk_passes (Inst i) h =
      and_from (list_all (arg_fits p p) i.args) (list_all p (card_vars i.card))
      (each_from (arg_fits p p) i.args (λ a k. arg_passes a (λ v m. h v (Among-left v (flat_map arg_vars i.args) (card_vars i.card) (flat_in arg_vars v a i.args k m)))))
      (each_from p (card_vars i.card) (λ v m. h v (Among-right v (flat_map arg_vars i.args) (card_vars i.card) m)))
  chunk_passes (Block b) h = each_from p (term_vars b.at) h
  chunk_passes (Cell c) h =
      and_from (term_fits p c.at) (term_fits p c.content) (each_from p (term_vars c.at) (λ v k. h v (Among-left v (term_vars c.at) (term_vars c.content) k)))
      (each_from p (term_vars c.content) (λ v k. h v (Among-right v (term_vars c.at) (term_vars c.content) k)))

  pub images_pass : (m : Subst) → ((v : Var) → Among v (image_vars m) → p v ≡ true) → images_fit p p m ≡ true
  images_pass m h =
      let ints : List Var = flat_map (λ (b : IntBind). term_vars b.to) m.ints in
      let sets : List Var = flat_map (λ (b : SetBind). set_vars b.to) m.sets in
      and_from (list_all (λ (b : IntBind). term_fits p b.to) m.ints) (list_all (λ (b : SetBind). set_fits p p b.to) m.sets)
      (each_from (λ (b : IntBind). term_fits p b.to) m.ints (λ b k. each_from p (term_vars b.to) (λ v i. h v (Among-left v ints sets (flat_in (λ (c : IntBind). term_vars c.to) v b m.ints k i)))))
      (each_from (λ (b : SetBind). set_fits p p b.to) m.sets (λ b k. set_passes b.to (λ v i. h v (Among-right v ints sets (flat_in (λ (c : SetBind). set_vars c.to) v b m.sets k i)))))

  -- ---- and back

  abbrev Passes : Var → Type 0
  Passes v = p v ≡ true

  -- of the elements of a list
  all_at : {A : Type 0} (test : A → Bool) (vars : A → List Var) → ((x : A) → test x ≡ true → Each Passes (vars x)) → (xs : List A) → list_all test xs ≡ true → Each Passes (flat_map vars xs)
  all_at test vars one xs h v k = let x = flat_out vars v xs k in one x.0 (each_at test x.0 xs h x.1) v x.2

  pub lits_at : (ls : List Lit) → list_all (lit_fits p p) ls ≡ true → Each Passes (lits_vars ls)
  lits_at = all_at (lit_fits p p) lit_vars (λ l h v k. lit_fits-at p l h v k)

  set_at : (u : SetTerm) → set_fits p p u ≡ true → Each Passes (set_vars u)
  set_at u h v k = lit_fits-at p (Same u u) (and_from (set_fits p p u) (set_fits p p u) h h) v (Among-left v (set_vars u) (set_vars u) k)

  term_at : (t : Term) → term_fits p t ≡ true → Each Passes (term_vars t)
  term_at t h v k = each_at p v (term_vars t) h k

  arg_at : (a : Arg) → arg_fits p p a ≡ true → Each Passes (arg_vars a)
  arg_at (IntArg t) h = term_at t h
  arg_at (SetArg u) h = set_at u h

  both_at : (a b : Bool) (us ws : List Var) → (a ≡ true → Each Passes us) → (b ≡ true → Each Passes ws) → (a && b) ≡ true → Each Passes (us ++ ws)
  both_at a b us ws f g h v k = let both = and_parts a b h in ⊎_elim (f both.0 v) (g both.1 v) (Among-cases v us ws k)

  chunk_at : (c : Chunk) → chunk_fits p p c ≡ true → Each Passes (chunk_vars c)
  chunk_at (Inst i) =
      both_at (list_all (arg_fits p p) i.args) (list_all p (card_vars i.card)) (flat_map arg_vars i.args) (card_vars i.card) (all_at (arg_fits p p) arg_vars arg_at i.args)
      (λ h v k. each_at p v (card_vars i.card) h k)
  chunk_at (Block b) = term_at b.at
  chunk_at (Cell c) = both_at (term_fits p c.at) (term_fits p c.content) (term_vars c.at) (term_vars c.content) (term_at c.at) (term_at c.content)

  pub chunks_at : (cs : List Chunk) → list_all (chunk_fits p p) cs ≡ true → Each Passes (chunks_vars cs)
  chunks_at = all_at (chunk_fits p p) chunk_vars chunk_at

  pub images_at : (m : Subst) → images_fit p p m ≡ true → Each Passes (image_vars m)
  images_at m =
      both_at (list_all (λ (b : IntBind). term_fits p b.to) m.ints) (list_all (λ (b : SetBind). set_fits p p b.to) m.sets)
      (flat_map (λ (b : IntBind). term_vars b.to) m.ints) (flat_map (λ (b : SetBind). set_vars b.to) m.sets)
      (all_at (λ (b : IntBind). term_fits p b.to) (λ (b : IntBind). term_vars b.to) (λ b. term_at b.to) m.ints)
      (all_at (λ (b : SetBind). set_fits p p b.to) (λ (b : SetBind). set_vars b.to) (λ b. set_at b.to) m.sets)
