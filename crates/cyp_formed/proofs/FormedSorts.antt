-- Each goal that is read is regular, and its variables have the sorts of their places.
use Rattle.std.proofs.Common.{List, [], ap, false, flat_map, inl, inr, not, refl, subst, suc, sym, true, ℕ, ◌&&◌, ◌++◌, ◌∙◌, ◌∷◌, ◌≡◌}
use Rattle.std.specs.Prelude.{Bool}
use Rattle.std.specs.List.{list_all}
use Rattle.std.proofs.lemmas.Bool.{and_from, and_parts, not-true, not_from_false, or_parts}
use Rattle.std.proofs.lemmas.List.Folds.{list_any-append}
use Rattle.cyp_goal.proofs.Renumber.{no_set}
use Rattle.cyp_goal.specs.Raw.{IsRegular, arg_fits, chunk_fits, is_sorted, lit_fits, set_fits, term_fits}
use Rattle.cyp_heap.specs.Chunks.{card_vars, chunks_vars}
use Rattle.cyp_heap.specs.PredsFormed.{arg_set_vars, arg_terms, chunk_set_vars, chunk_terms, lit_terms}
use Rattle.cyp_heap.specs.declared.chunk.Arg.{Arg}
use Rattle.cyp_heap.specs.declared.chunk.Arg.TheVariants.{Int as IntArg, Set as SetArg}
use Rattle.cyp_heap.specs.declared.chunk.Chunk.{Chunk}
use Rattle.cyp_heap.specs.declared.chunk.Chunk.TheVariants.{Block, Cell, Inst}
use Rattle.cyp_heap.specs.declared.goal.Goal.{Goal}
use Rattle.cyp_term.specs.Regions.{lit_set_vars}
use Rattle.cyp_term.specs.Terms.{is_set_var, lits_vars, sort_eq, term_vars, var_eq, var_in}
use Rattle.cyp_term.specs.declared.lit.Lit.{Lit}
use Rattle.cyp_term.specs.declared.lit.Lit.TheVariants.{Eq, Le, Lt, Member, Ne, NotMember, NotSame, NotSub, Same, Sub}
use Rattle.cyp_term.specs.declared.lit.SetTerm.{SetTerm}
use Rattle.cyp_term.specs.declared.term.Sort.{Sort}
use Rattle.cyp_term.specs.declared.term.Sort.TheVariants.{Int, Set}
use Rattle.cyp_term.specs.declared.term.Term.{Term}
use Rattle.cyp_term.specs.declared.term.Var.{Var}
use Rattle.cyp_term.proofs.Lists.{Among, Among-cases, Among-left, Among-right, each_at, each_from, flat_in, map_from}
use Rattle.cyp_names.specs.Bodies.{body_uses, in_kinds, kept_body}
use Rattle.cyp_formed.specs.LimitFaults.{root_of}
use Rattle.cyp_names.specs.NameFaults.{name_faults}
use Rattle.cyp_names.specs.ReadTerms.{Scope, read_args, read_chunk, read_chunks, read_lits, sort_in}
use Rattle.cyp_names.specs.Specifications.{goal_scope, read_goal, read_tree, with_cards}
use Rattle.cyp_text.specs.declared.tree.BodyTree.{BodyTree}
use Rattle.cyp_text.specs.declared.tree.ChunkTree.{ChunkTree}
use Rattle.cyp_text.specs.declared.tree.ChunkTree.TheVariants.{BlockOf, InstanceOf, NamedCell, TermCell}
use Rattle.cyp_text.specs.declared.tree.PredTree.{PredTree}
use Rattle.cyp_text.specs.declared.tree.TextTree.{TextTree}
use Rattle.cyp_names.specs.Uses.{Use, arg_sorts, param_uses, use_of}
use Rattle.cyp_formed.proofs.ClauseTerms.{SetVarIs, TermIs, Within, body_set_vars_are, body_terms_are, set_var_more, term_more}
use Rattle.cyp_formed.proofs.FirstNames.{new_append}
use Rattle.cyp_formed.proofs.FormedClauses.{int_sorts}
use Rattle.cyp_formed.proofs.FormedGoals.{formed, params_none, sorts_none}
use Rattle.cyp_formed.proofs.FormedOnce.{lits_once}
use Rattle.cyp_formed.proofs.FormedScope.{distinct_params}
use Rattle.cyp_names.proofs.GoalScopes.{first_uses}
use Rattle.cyp_formed.proofs.KnownSorts.{Agree, distinct_agree, scope_agrees, uses_agree}
use Rattle.cyp_formed.proofs.Names.{int_comes}
use Rattle.cyp_formed.proofs.TextOrder.{body_in}

-- ---- where each term and each set variable fits

module _ (p q : Var → Bool) where
  -- each of these terms fits
  abbrev TermsFit : List Term → Type 0
  TermsFit ts = (t : Term) → Among t ts → term_fits p t ≡ true

  -- each of these set variables fits
  abbrev SetVarsFit : List Var → Type 0
  SetVarsFit vs = (v : Var) → Among v vs → q v ≡ true

  set_from : (u : SetTerm) → TermsFit u.elems → SetVarsFit u.vars → set_fits p q u ≡ true
  set_from u f g = and_from _ _ (each_from q u.vars g) (each_from (term_fits p) u.elems f)

  two_terms : (a b : Term) → TermsFit (a ∷ b ∷ []) → (term_fits p a && term_fits p b) ≡ true
  two_terms a b f = and_from _ _ (f a (inl refl)) (f b (inr (inl refl)))

  two_sets : (a b : SetTerm) → TermsFit (a.elems ++ b.elems) → SetVarsFit (a.vars ++ b.vars) → (set_fits p q a && set_fits p q b) ≡ true
  two_sets a b f g =
      and_from _ _ (set_from a (λ t m. f t (Among-left t a.elems b.elems m)) (λ v m. g v (Among-left v a.vars b.vars m)))
      (set_from b (λ t m. f t (Among-right t a.elems b.elems m)) (λ v m. g v (Among-right v a.vars b.vars m)))

  term_and_set : (a : Term) (b : SetTerm) → TermsFit (a ∷ b.elems) → SetVarsFit b.vars → (term_fits p a && set_fits p q b) ≡ true
  term_and_set a b f g = and_from _ _ (f a (inl refl)) (set_from b (λ t m. f t (inr m)) g)

  lit_from : (l : Lit) → TermsFit (lit_terms l) → SetVarsFit (lit_set_vars l) → lit_fits p q l ≡ true
  lit_from (Eq a b) f g = two_terms a b f
  lit_from (Ne a b) f g = two_terms a b f
  lit_from (Le a b) f g = two_terms a b f
  lit_from (Lt a b) f g = two_terms a b f
  lit_from (Same a b) f g = two_sets a b f g
  lit_from (NotSame a b) f g = two_sets a b f g
  lit_from (Member a b) f g = term_and_set a b f g
  lit_from (NotMember a b) f g = term_and_set a b f g
  lit_from (Sub a b) f g = two_sets a b f g
  lit_from (NotSub a b) f g = two_sets a b f g

  arg_from : (a : Arg) → TermsFit (arg_terms a) → SetVarsFit (arg_set_vars a) → arg_fits p q a ≡ true
  arg_from (IntArg t) f g = f t (inl refl)
  arg_from (SetArg u) f g = set_from u f g

  args_from : (xs : List Arg) → TermsFit (flat_map arg_terms xs) → SetVarsFit (flat_map arg_set_vars xs) → list_all (arg_fits p q) xs ≡ true
  args_from xs f g =
      each_from (arg_fits p q) xs (λ a m. arg_from a (λ t k. f t (flat_in arg_terms t a xs m k)) (λ v k. g v (flat_in arg_set_vars v a xs m k)))

  -- a chunk as it is read, whose instances have no cardinality
  chunk_from : (qs : List PredTree) (sc : Scope) (c : ChunkTree) → TermsFit (chunk_terms (read_chunk qs sc c)) → SetVarsFit (chunk_set_vars (read_chunk qs sc c)) → chunk_fits p q (read_chunk qs sc c) ≡ true
  chunk_from qs sc (NamedCell i x) f g = two_terms _ _ f
  chunk_from qs sc (TermCell a x) f g = two_terms _ _ f
  chunk_from qs sc (BlockOf a s n) f g = f _ (inl refl)
  chunk_from qs sc (InstanceOf i xs) f g = and_from _ _ (args_from (read_args sc (arg_sorts qs i xs) xs) f g) refl

-- ---- the goal

-- cardinalities are no set variables
with_cards_fit : (k : ℕ) (cs : List Chunk) → list_all (chunk_fits no_set is_set_var) cs ≡ true → list_all (chunk_fits no_set is_set_var) (with_cards k cs) ≡ true
with_cards_fit k [] h = refl
with_cards_fit k (Inst i ∷ cs) h =
    let both = and_parts (chunk_fits no_set is_set_var (Inst i)) (list_all (chunk_fits no_set is_set_var) cs) h in
    let args : list_all (arg_fits no_set is_set_var) i.args ≡ true = (and_parts (list_all (arg_fits no_set is_set_var) i.args) (list_all no_set (card_vars i.card)) both.0).0 in
    and_from _ _ (and_from _ _ args refl) (with_cards_fit (suc k) cs both.1)
with_cards_fit k (Block b ∷ cs) h =
    let both = and_parts (chunk_fits no_set is_set_var (Block b)) (list_all (chunk_fits no_set is_set_var) cs) h in
    and_from _ _ both.0 (with_cards_fit k cs both.1)
with_cards_fit k (Cell c ∷ cs) h =
    let both = and_parts (chunk_fits no_set is_set_var (Cell c)) (list_all (chunk_fits no_set is_set_var) cs) h in
    and_from _ _ both.0 (with_cards_fit k cs both.1)

module _ (t : TextTree) (none : name_faults t ≡ []) where
  abbrev sc : Scope
  sc = goal_scope t

  abbrev pars : List Use
  pars = param_uses t.params

  abbrev pre_uses : List Use
  pre_uses = kept_body t.preds t.pre

  abbrev post_uses : List Use
  post_uses = kept_body t.preds t.post

  -- the names of the goal, each as often as it is kept
  abbrev kept : List Use
  kept = pars ++ pre_uses ++ post_uses

  abbrev written_pre : List Use
  written_pre = body_uses t.preds t.pre

  abbrev written_post : List Use
  written_post = body_uses t.preds t.post

  all_agree : Agree (pars ++ (written_pre ++ written_post)) kept
  all_agree u m = elim (Among-cases u (pars ++ pre_uses) post_uses m) [
    | inr b ↦ uses_agree pars (written_pre ++ written_post) (sorts_none t none) u (Among-right u written_pre written_post (body_in u t.preds t.post b))
    | inl a ↦ elim (Among-cases u pars pre_uses a) [
      | inl k ↦ distinct_agree pars (written_pre ++ written_post) (distinct_params [] t.params (params_none t none).0) u k
      | inr b ↦ uses_agree pars (written_pre ++ written_post) (sorts_none t none) u (Among-left u written_pre written_post (body_in u t.preds t.pre b))
    ]
  ]

  -- each name of the goal has the sort of its uses
  pub name_sort : (u : Use) → Among u kept → sort_in sc u.name.text ≡ u.sort
  name_sort u m =
      ap (λ (us : Scope). sort_in us u.name.text) (sym (new_append [] (first_uses t) post_uses))
      ∙ scope_agrees (pars ++ (written_pre ++ written_post)) kept all_agree u m

  term_sorted : (x : Term) → TermIs sc kept x → term_fits no_set x ≡ true
  term_sorted x i = each_from no_set (term_vars x) by_var
    where
      by_var : (v : Var) → Among v (term_vars x) → no_set v ≡ true
      by_var v m =
          let f = int_comes sc v i.0 (subst (λ (r : Term). Among v (term_vars r)) i.2 m) in
          let is_int : v.sort ≡ Int = ap (λ (w : Var). w.sort) f.2 ∙ name_sort f.0 (i.1 f.0 f.1) ∙ int_sorts i.0 f.0 f.1 in
          ap (λ (s : Sort). not (sort_eq s Set)) is_int

  set_var_sorted : (v : Var) → SetVarIs sc kept v → is_set_var v ≡ true
  set_var_sorted v i = ap (λ (s : Sort). sort_eq s Set) (ap (λ (w : Var). w.sort) i.2 ∙ name_sort (use_of Set i.0) i.1)

  -- ---- bodies

  module _ (b : BodyTree) (within : Within (kept_body t.preds b) kept) where
    lits_sorted : list_all (lit_fits no_set is_set_var) (read_lits sc b) ≡ true
    lits_sorted = each_from (lit_fits no_set is_set_var) (read_lits sc b) (λ l m.
        lit_from no_set is_set_var l
        (λ x k. term_sorted x (term_more sc (kept_body t.preds b) kept within x (body_terms_are sc t.preds b x (inl (flat_in lit_terms x l (read_lits sc b) m k)))))
        (λ v k. set_var_sorted v (set_var_more sc (kept_body t.preds b) kept within v (body_set_vars_are sc t.preds b v (inl (flat_in lit_set_vars v l (read_lits sc b) m k))))))

    chunk_sorted : (c : Chunk) → Among c (read_chunks t.preds sc b) → (d : ChunkTree) → c ≡ read_chunk t.preds sc d → chunk_fits no_set is_set_var c ≡ true
    chunk_sorted c m d e = rw e (chunk_from no_set is_set_var t.preds sc d
        (λ x k. term_sorted x (term_more sc (kept_body t.preds b) kept within x (body_terms_are sc t.preds b x (inr (flat_in chunk_terms x c (read_chunks t.preds sc b) m (rw e k))))))
        (λ v k. set_var_sorted v (set_var_more sc (kept_body t.preds b) kept within v (body_set_vars_are sc t.preds b v (inr (flat_in chunk_set_vars v c (read_chunks t.preds sc b) m (rw e k)))))))

    chunks_sorted : list_all (chunk_fits no_set is_set_var) (read_chunks t.preds sc b) ≡ true
    chunks_sorted = each_from (chunk_fits no_set is_set_var) (read_chunks t.preds sc b) (λ c m.
        let f = map_from (read_chunk t.preds sc) c (in_kinds b.chunks) m in chunk_sorted c m f.0 f.2)

  pre_within : Within pre_uses kept
  pre_within u m = Among-left u (pars ++ pre_uses) post_uses (Among-right u pars pre_uses m)

  post_within : Within post_uses kept
  post_within u m = Among-right u (pars ++ pre_uses) post_uses m

  sorted : is_sorted (root_of (read_tree t)) ≡ true
  sorted =
      and_from _ _
      (and_from _ _ (and_from _ _ (and_from _ _ (lits_sorted t.pre pre_within) (with_cards_fit 0 (read_chunks t.preds sc t.pre) (chunks_sorted t.pre pre_within))) (lits_sorted t.post post_within))
      (chunks_sorted t.post post_within))
      refl

  -- ---- the goal is regular

  abbrev goal : Goal
  goal = read_goal t

  apart_in_pure : (v : Var) → not (var_in v (goal.program ++ lits_vars goal.pure_pre ++ chunks_vars goal.pre.chunks)) ≡ true → not (var_in v (lits_vars goal.pure_pre)) ≡ true
  apart_in_pure v h =
      let all : var_in v (goal.program ++ lits_vars goal.pure_pre ++ chunks_vars goal.pre.chunks) ≡ false = not-true _ h in
      let front : var_in v (goal.program ++ lits_vars goal.pure_pre) ≡ false = (or_parts _ _ (sym (list_any-append (var_eq v) (goal.program ++ lits_vars goal.pure_pre) (chunks_vars goal.pre.chunks)) ∙ all)).0 in
      not_from_false _ (or_parts _ _ (sym (list_any-append (var_eq v) goal.program (lits_vars goal.pure_pre)) ∙ front)).1

  pub regular : IsRegular (root_of (read_tree t))
  regular = record {
    sorted = sorted;
    pre_once = lits_once sc t.pre;
    post_once = lits_once sc t.post;
    exist_apart = each_from (λ v. not (var_in v (lits_vars goal.pure_pre))) goal.exist (λ v m.
        apart_in_pure v (each_at (λ w. not (var_in w (goal.program ++ lits_vars goal.pure_pre ++ chunks_vars goal.pre.chunks))) v goal.exist (formed t none).exist_apart m));
  }
