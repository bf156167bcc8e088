-- The root of a formed goal is plain.
use Rattle.cyp_sound.specs.Kept.{is_small, are_small}
use Rattle.cyp_goal.proofs.EachVar.{Each, first, second}
use Rattle.cyp_goal.proofs.FirstSolved.{Found, first_found}
use Rattle.cyp_goal.proofs.Fits.{lits_fit-apply}
use Rattle.cyp_goal.proofs.Live.{among_in, in_among}
use Rattle.cyp_goal.proofs.PruneLeaves.{filter_all, live}
use Rattle.cyp_goal.proofs.RenameSolve.{turn}
use Rattle.cyp_goal.proofs.SolveLeaves.{cond_other}
use Rattle.cyp_goal.proofs.SolvedLits.{solved_any-by, solved_eq-by}
use Rattle.cyp_goal.proofs.TidyLeaves.{address_lit_fits, post_each, pre_each}
use Rattle.cyp_goal.specs.Normal.{Renaming, normal, solve, tidy_node}
use Rattle.cyp_goal.specs.Numbering.{numbering, renumber}
use Rattle.cyp_goal.specs.Pruning.{is_kept, prune}
use Rattle.cyp_goal.specs.Raw.{arg_fits, chunk_fits, is_sorted, lit_fits, set_fits, term_fits}
use Rattle.cyp_goal.specs.Solving.{first_solved, is_logical, solve_post, solve_pre, solved_any, solved_eq, substitute, with_post, with_pre}
use Rattle.cyp_goal.specs.Tidying.{address}
use Rattle.cyp_heap.specs.Chunks.{apply_chunk, arg_vars, card_vars, chunk_vars, chunks_vars, insts}
use Rattle.cyp_heap.specs.Formed.{IsFormed, term_part_vars}
use Rattle.cyp_heap.specs.Goals.{apply_node, goal_vars, node_vars, wide_node}
use Rattle.cyp_heap.specs.declared.chunk.Arg.{Arg}
use Rattle.cyp_heap.specs.declared.chunk.Arg.TheVariants.{Int as IntArg, Set as SetArg}
use Rattle.cyp_heap.specs.declared.chunk.Chunk.{Chunk}
use Rattle.cyp_heap.specs.declared.chunk.Chunk.TheVariants.{Block, Cell, Inst}
use Rattle.cyp_heap.specs.declared.chunk.InstOf.{InstOf}
use Rattle.cyp_heap.specs.declared.goal.Goal.{Goal}
use Rattle.cyp_heap.specs.declared.goal.Node.{Node}
use Rattle.cyp_heap.specs.declared.pred.Preds.{Preds}
use Rattle.cyp_kernel.proofs.NormalMeaning.{Made, made}
use Rattle.cyp_kernel.proofs.NormalSteady.{formed_is_steady}
use Rattle.cyp_kernel.proofs.SteadyParts.{sorted_goal}
use Rattle.cyp_kernel.proofs.SteadyRules.{root_is_steady}
use Rattle.cyp_kernel.specs.Correct.{unlinked}
use Rattle.cyp_kernel.specs.SteadyLaws.{IsSteadyNode}
use Rattle.cyp_sound.proofs.Time.Plain.{CardsAlone, IsPlain, chunk_plain, is_card, is_int, lit_plain}
use Rattle.cyp_sound.proofs.Time.PlainMatches.{PlainBinds, goal_from, goal_parts, int_no_card}
use Rattle.cyp_sound.proofs.Time.PlainNormalForm.{address_fits, normal_plain, numbers_plain, one_spares, plain_from}
use Rattle.cyp_sound.proofs.Time.PlainSubstitutions.{all_map, chunk_kept, fit, fits_plain}
use Rattle.cyp_sound.proofs.Time.SolvedTuples.{any_spares, eq_spares}
use Rattle.cyp_step.specs.Nodes.{IsOver}
use Rattle.cyp_term.proofs.Equality.{Decides-sort_eq}
use Rattle.cyp_term.proofs.Lists.{Among, Among-cases, Among-left, Among-right, each_at, each_from, filter_in, flat_in, flat_out}
use Rattle.cyp_term.specs.Terms.{is_set_var, lit_vars, lits_vars, set_vars, sort_eq, term_vars, var_in, wide_subst}
use Rattle.cyp_term.specs.declared.lit.Lit.{Lit}
use Rattle.cyp_term.specs.declared.lit.Lit.TheVariants.{Eq, Le, Lt, Member, Ne, NotMember, NotSame, NotSub, Same, Sub}
use Rattle.cyp_term.specs.declared.lit.SetTerm.{SetTerm}
use Rattle.cyp_term.specs.declared.subst.Subst.{Subst}
use Rattle.cyp_term.specs.declared.term.Sort.{Sort}
use Rattle.cyp_term.specs.declared.term.Sort.TheVariants.{Card, Int, Set}
use Rattle.cyp_term.specs.declared.term.Term.{Term}
use Rattle.cyp_term.specs.declared.term.Var.{Var}
use Rattle.std.proofs.Common.{◌≡◌, refl, ap, ◌∙◌, ◌&&◌, ◌||◌, ◌⊎◌, ⊎_elim, ℕ, zero, suc, Bool, true, false, length, List, [], ◌∷◌, ◌++◌, flat_map, filter, Option, Some, None, inl, inr, not, is_none, subst}
use Rattle.std.proofs.lemmas.Bool.{and_from, and_parts, both_ways, false_from_ne_true, false≢true, not-true}
use Rattle.std.proofs.lemmas.Option.{option_and_then_some, same_Some}
use Rattle.std.specs.List.{list_all}
use Rattle.std.specs.Prelude.{IsTrue}

-- ---- what has no cardinalities, told from either side

abbrev NoCard : Var → Type 0
NoCard v = is_card v ≡ false

int_var_is : (v : Var) → not (is_set_var v) ≡ true → is_card v ≡ false → is_int v ≡ true
int_var_is v a b = at v.sort refl
  where
    at : (o : Sort) → v.sort ≡ o → is_int v ≡ true
    at Int e = ap (λ (s : Sort). sort_eq s Int) e
    at Card e = absurd (both_ways (is_card v) b (ap (λ (s : Sort). sort_eq s Card) e))
    at Set e = absurd (both_ways (is_set_var v) (not-true (is_set_var v) a) (ap (λ (s : Sort). sort_eq s Set) e))

int_is_no_card : (v : Var) → is_int v ≡ true → NoCard v
int_is_no_card v a = false_from_ne_true (is_card v) (λ c. int_no_card v a c)

set_is_no_card : (v : Var) → is_set_var v ≡ true → NoCard v
set_is_no_card v a = false_from_ne_true (is_card v) (λ c. apart v.sort ((Decides-sort_eq v.sort Set).0 a) ((Decides-sort_eq v.sort Card).0 c))
  where
    apart : (o : Sort) → o ≡ Set → o ≡ Card → ⊥
    apart o p q = cc

term_to : (t : Term) → term_fits (λ v. not (is_set_var v)) t ≡ true → Each NoCard (term_vars t) → term_fits is_int t ≡ true
term_to t h k = each_from is_int (term_vars t) (λ v m. int_var_is v (each_at (λ v. not (is_set_var v)) v (term_vars t) h m) (k v m))

set_to : (u : SetTerm) → set_fits (λ v. not (is_set_var v)) is_set_var u ≡ true → Each NoCard (set_vars u) → set_fits is_int is_set_var u ≡ true
set_to u h k =
    let both = and_parts (list_all is_set_var u.vars) (list_all (term_fits (λ v. not (is_set_var v))) u.elems) h in
    and_from (list_all is_set_var u.vars) (list_all (term_fits is_int) u.elems) both.0
    (each_from (term_fits is_int) u.elems (λ t m. term_to t (each_at (term_fits (λ v. not (is_set_var v))) t u.elems both.1 m) (λ v i. k v (Among-right v u.vars (flat_map (λ e. term_vars e) u.elems) (flat_in (λ e. term_vars e) v t u.elems m i)))))

term_from : (t : Term) → term_fits is_int t ≡ true → Each NoCard (term_vars t)
term_from t h v k = int_is_no_card v (each_at is_int v (term_vars t) h k)

set_from : (u : SetTerm) → set_fits is_int is_set_var u ≡ true → Each NoCard (set_vars u)
set_from u h v k =
    let both = and_parts (list_all is_set_var u.vars) (list_all (term_fits is_int) u.elems) h in
    ⊎_elim (λ a. set_is_no_card v (each_at is_set_var v u.vars both.0 a))
    (λ a. let t = flat_out (λ e. term_vars e) v u.elems a in term_from t.0 (each_at (term_fits is_int) t.0 u.elems both.1 t.1) v t.2)
    (Among-cases v u.vars (flat_map (λ e. term_vars e) u.elems) k)

module _ {A B : Type 0} (a : A) (b : B) (av : List Var) (bv : List Var) where
  two_to : (p q x y : Bool) → (p ≡ true → Each NoCard av → x ≡ true) → (q ≡ true → Each NoCard bv → y ≡ true) → (p && q) ≡ true → Each NoCard (av ++ bv) → (x && y) ≡ true
  two_to p q x y f g h k = let both = and_parts p q h in and_from x y (f both.0 (first NoCard av bv k)) (g both.1 (second NoCard av bv k))

  two_from : (x y : Bool) → (x ≡ true → Each NoCard av) → (y ≡ true → Each NoCard bv) → (x && y) ≡ true → Each NoCard (av ++ bv)
  two_from x y f g h v k = let both = and_parts x y h in ⊎_elim (λ m. f both.0 v m) (λ m. g both.1 v m) (Among-cases v av bv k)

terms_to : (a b : Term) → (term_fits (λ v. not (is_set_var v)) a && term_fits (λ v. not (is_set_var v)) b) ≡ true → Each NoCard (term_vars a ++ term_vars b) → (term_fits is_int a && term_fits is_int b) ≡ true
terms_to a b = two_to a b (term_vars a) (term_vars b) (term_fits (λ v. not (is_set_var v)) a) (term_fits (λ v. not (is_set_var v)) b) (term_fits is_int a) (term_fits is_int b) (term_to a) (term_to b)

sets_to : (a b : SetTerm) → (set_fits (λ v. not (is_set_var v)) is_set_var a && set_fits (λ v. not (is_set_var v)) is_set_var b) ≡ true → Each NoCard (set_vars a ++ set_vars b)
    → (set_fits is_int is_set_var a && set_fits is_int is_set_var b) ≡ true
sets_to a b =
    two_to a b (set_vars a) (set_vars b) (set_fits (λ v. not (is_set_var v)) is_set_var a) (set_fits (λ v. not (is_set_var v)) is_set_var b) (set_fits is_int is_set_var a) (set_fits is_int is_set_var b) (set_to a) (set_to b)

member_to : (a : Term) (b : SetTerm) → (term_fits (λ v. not (is_set_var v)) a && set_fits (λ v. not (is_set_var v)) is_set_var b) ≡ true → Each NoCard (term_vars a ++ set_vars b)
    → (term_fits is_int a && set_fits is_int is_set_var b) ≡ true
member_to a b = two_to a b (term_vars a) (set_vars b) (term_fits (λ v. not (is_set_var v)) a) (set_fits (λ v. not (is_set_var v)) is_set_var b) (term_fits is_int a) (set_fits is_int is_set_var b) (term_to a) (set_to b)

lit_to : (l : Lit) → lit_fits (λ v. not (is_set_var v)) is_set_var l ≡ true → Each NoCard (lit_vars l) → lit_fits is_int is_set_var l ≡ true
lit_to (Eq a b) = terms_to a b
lit_to (Ne a b) = terms_to a b
lit_to (Le a b) = terms_to a b
lit_to (Lt a b) = terms_to a b
lit_to (Same a b) = sets_to a b
lit_to (NotSame a b) = sets_to a b
lit_to (Sub a b) = sets_to a b
lit_to (NotSub a b) = sets_to a b
lit_to (Member a b) = member_to a b
lit_to (NotMember a b) = member_to a b

terms_from : (a b : Term) → (term_fits is_int a && term_fits is_int b) ≡ true → Each NoCard (term_vars a ++ term_vars b)
terms_from a b = two_from a b (term_vars a) (term_vars b) (term_fits is_int a) (term_fits is_int b) (term_from a) (term_from b)

sets_from : (a b : SetTerm) → (set_fits is_int is_set_var a && set_fits is_int is_set_var b) ≡ true → Each NoCard (set_vars a ++ set_vars b)
sets_from a b = two_from a b (set_vars a) (set_vars b) (set_fits is_int is_set_var a) (set_fits is_int is_set_var b) (set_from a) (set_from b)

member_from : (a : Term) (b : SetTerm) → (term_fits is_int a && set_fits is_int is_set_var b) ≡ true → Each NoCard (term_vars a ++ set_vars b)
member_from a b = two_from a b (term_vars a) (set_vars b) (term_fits is_int a) (set_fits is_int is_set_var b) (term_from a) (set_from b)

lit_from : (l : Lit) → lit_fits is_int is_set_var l ≡ true → Each NoCard (lit_vars l)
lit_from (Eq a b) = terms_from a b
lit_from (Ne a b) = terms_from a b
lit_from (Le a b) = terms_from a b
lit_from (Lt a b) = terms_from a b
lit_from (Same a b) = sets_from a b
lit_from (NotSame a b) = sets_from a b
lit_from (Sub a b) = sets_from a b
lit_from (NotSub a b) = sets_from a b
lit_from (Member a b) = member_from a b
lit_from (NotMember a b) = member_from a b

arg_to : (x : Arg) → arg_fits (λ v. not (is_set_var v)) is_set_var x ≡ true → Each NoCard (arg_vars x) → arg_fits is_int is_set_var x ≡ true
arg_to (IntArg t) = term_to t
arg_to (SetArg u) = set_to u

arg_from : (x : Arg) → arg_fits is_int is_set_var x ≡ true → Each NoCard (arg_vars x)
arg_from (IntArg t) = term_from t
arg_from (SetArg u) = set_from u

chunk_to : (c : Chunk) → chunk_fits (λ v. not (is_set_var v)) is_set_var c ≡ true → Each NoCard (term_part_vars c) → chunk_plain c ≡ true
chunk_to (Inst i) h k =
    let both = and_parts (list_all (arg_fits (λ v. not (is_set_var v)) is_set_var) i.args) (list_all (λ v. not (is_set_var v)) (card_vars i.card)) h in
    each_from (arg_fits is_int is_set_var) i.args (λ a m. arg_to a (each_at (arg_fits (λ v. not (is_set_var v)) is_set_var) a i.args both.0 m) (λ v j. k v (flat_in arg_vars v a i.args m j)))
chunk_to (Block b) h k = term_to b.at h k
chunk_to (Cell c) h k = terms_to c.at c.content h k

chunk_from : (c : Chunk) → chunk_plain c ≡ true → Each NoCard (term_part_vars c)
chunk_from (Inst i) h v k = let a = flat_out arg_vars v i.args k in arg_from a.0 (each_at (arg_fits is_int is_set_var) a.0 i.args h a.1) v a.2
chunk_from (Block b) h v k = term_from b.at h v k
chunk_from (Cell c) h v k = terms_from c.at c.content h v k

-- ---- literals without cardinalities, through the normal form

record FitCore (n : Node) : Type 0 where
  pre : list_all (lit_fits is_int is_set_var) n.goal.pure_pre ≡ true
  post : list_all (lit_fits is_int is_set_var) n.goal.pure_post ≡ true
  chunks : list_all chunk_plain n.goal.pre.chunks ≡ true

fit_applied : (by : Subst) → PlainBinds by → (n : Node) → FitCore n → FitCore (apply_node by n)
fit_applied by plain n h = record {
  pre = lits_fit-apply is_int is_set_var by (fit by plain) n.goal.pure_pre h.pre;
  post = lits_fit-apply is_int is_set_var by (fit by plain) n.goal.pure_post h.post;
  chunks = all_map chunk_plain chunk_plain (apply_chunk by) (chunk_kept by plain) n.goal.pre.chunks h.chunks;
}

fit_itself : (n m : Node) → FitCore n → Some n ≡ Some m → FitCore m
fit_itself n m h e = subst FitCore (same_Some n m e) h

module _ (again : Node → Option Node) (later : (n m : Node) → FitCore n → again n ≡ Some m → FitCore m)
    (f : Lit → Option Subst) (solves : (l : Lit) (by : Subst) → lit_fits is_int is_set_var l ≡ true → f l ≡ Some by → PlainBinds by)
    (put : Node → List Lit → Node) (put_fit : (n : Node) (ls : List Lit) → FitCore n → list_all (lit_fits is_int is_set_var) ls ≡ true → FitCore (put n ls)) where
  turn_fit : (n m : Node) (ls : List Lit) (o : Option (Subst × List Lit)) → first_solved f ls ≡ o → list_all (lit_fits is_int is_set_var) ls ≡ true → FitCore n → turn again put n o ≡ Some m → FitCore m
  turn_fit n m ls None found lits h e = fit_itself n m h e
  turn_fit n m ls (Some s) found lits h e =
      option_and_then_some again (substitute s.0 (put n s.1)) m e (λ x before k.
      let y : Node = apply_node s.0 (put n s.1) in
      let is : y ≡ x = cond_other (wide_subst s.0 || wide_node y) y x before in
      let d : Found f ls s = first_found f ls s found in
      let left = each_from (lit_fits is_int is_set_var) s.1 (λ l k. each_at (lit_fits is_int is_set_var) l ls lits (d.among l k)) in
      let by_plain = solves d.lit s.0 (each_at (lit_fits is_int is_set_var) d.lit ls lits d.there) d.answer in
      later y m (fit_applied s.0 by_plain (put n s.1) (put_fit n s.1 h left)) (ap again is ∙ k))

pre_fit : (k : ℕ) (n m : Node) → FitCore n → solve_pre k n ≡ Some m → FitCore m
pre_fit zero n m h e = fit_itself n m h e
pre_fit (suc k) n m h e =
    let test : Var → Bool = is_logical n.goal in
    turn_fit (solve_pre k) (pre_fit k) (solved_eq test) (λ l by p a. plain_from by (solved_eq-by test is_int is_set_var l by p a).fit (one_spares (solved_eq test) l by (eq_spares test l) a))
    with_pre (λ n ls h k. record { pre = k; post = h.post; chunks = h.chunks }) n m n.goal.pure_pre (first_solved (solved_eq test) n.goal.pure_pre) refl h.pre h e

post_fit : (k : ℕ) (n m : Node) → FitCore n → solve_post k n ≡ Some m → FitCore m
post_fit zero n m h e = fit_itself n m h e
post_fit (suc k) n m h e =
    let test : Var → Bool = λ v. var_in v n.goal.exist in
    turn_fit (solve_post k) (post_fit k) (solved_any test) (λ l by p a. plain_from by (solved_any-by test is_int is_set_var l by p a).fit (one_spares (solved_any test) l by (any_spares test l) a))
    with_post (λ n ls h k. record { pre = h.pre; post = k; chunks = h.chunks }) n m n.goal.pure_post (first_solved (solved_any test) n.goal.pure_post) refl h.post h e

solve_fit : (n m : Node) → FitCore n → solve n ≡ Some m → FitCore m
solve_fit n m h e =
    option_and_then_some (λ (x : Node). solve_post (length x.goal.pure_post) x) (solve_pre (length n.goal.pure_pre) n) m e (λ x before k.
    post_fit (length x.goal.pure_post) x m (pre_fit (length n.goal.pure_pre) n x h before) k)

tidy_fit : (n : Node) → FitCore n → FitCore (tidy_node n)
tidy_fit n h =
    let g : Goal = n.goal in
    let ts : List Term = flat_map address g.pre.chunks in
    let fits : list_all (term_fits is_int) ts ≡ true =
    each_from (term_fits is_int) ts (λ t k. let r = flat_out address t g.pre.chunks k in address_fits r.0 t (each_at chunk_plain r.0 g.pre.chunks h.chunks r.1) r.2) in
    record {
      pre = pre_each is_int is_set_var (lit_fits is_int is_set_var) g.pure_pre ts (λ l k q. each_at (lit_fits is_int is_set_var) l g.pure_pre h.pre k) (λ l k. address_lit_fits is_int is_set_var ts l fits k);
      post = post_each is_int is_set_var (lit_fits is_int is_set_var) g.pure_post (λ l k q. each_at (lit_fits is_int is_set_var) l g.pure_post h.post k);
      chunks = h.chunks;
    }

prune_fit : (n : Node) → FitCore n → FitCore (prune n)
prune_fit n h = record { pre = filter_all (lit_fits is_int is_set_var) (is_kept (live n)) n.goal.pure_pre h.pre; post = h.post; chunks = h.chunks }

renumber_fit : (n : Node) → FitCore n → FitCore (renumber n)
renumber_fit n h = let k = fit_applied (numbering (node_vars n)) (numbers_plain (node_vars n)) n h in record { pre = k.pre; post = k.post; chunks = k.chunks }

normal_fit : (n : Node) (r : Renaming) → FitCore n → normal n ≡ Some r → FitCore r.node
normal_fit n r h e =
    let d : Made n r = made n r e in
    subst (λ (y : Renaming). FitCore y.node) d.is (renumber_fit (prune (tidy_node d.solved)) (prune_fit (tidy_node d.solved) (tidy_fit d.solved (solve_fit n d.solved h d.done))))

-- ---- the root

no_stray : (p : Var → Bool) (xs : List Var) → filter p xs ≡ [] → (v : Var) → Among v xs → p v ≡ false
no_stray p xs e v k = false_from_ne_true (p v) (λ h. subst (Among v) e (filter_in p v xs k h))

in_insts : (cs : List Chunk) (i : InstOf) → Among (Inst i) cs → Among i (insts cs)
in_insts [] i m = absurd m
in_insts (Inst j ∷ cs) i (inl e) = inl (cc)
in_insts (Inst j ∷ cs) i (inr m) = inr (in_insts cs i m)
in_insts (Block b ∷ cs) i (inl e) = cc
in_insts (Block b ∷ cs) i (inr m) = in_insts cs i m
in_insts (Cell b ∷ cs) i (inl e) = cc
in_insts (Cell b ∷ cs) i (inr m) = in_insts cs i m

-- the cardinalities of a goal whose literals and chunks have none besides
cards_alone : (n : Node) → IsSteadyNode n → FitCore n → list_all chunk_plain n.goal.post.chunks ≡ true → CardsAlone n.goal
cards_alone n w h post v k c =
    let g : Goal = n.goal in
    let cards : List Var = flat_map (λ (i : InstOf). card_vars i.card) (insts g.pre.chunks) in
    ⊎_elim
    (λ a.
    ⊎_elim
    (λ b.
    ⊎_elim
    (λ d.
    ⊎_elim (λ x. absurd (int_no_card v (each_at is_int v g.program w.raw.steady.program_int x) c)) (λ x. in_pre g.pre.chunks h.chunks x)
    (Among-cases v g.program (chunks_vars g.pre.chunks) d))
    (λ d. absurd (in_post g.post.chunks post (and_parts _ _ w.raw.steady.fits).1 d))
    (Among-cases v (g.program ++ chunks_vars g.pre.chunks) (chunks_vars g.post.chunks) b))
    (λ b. absurd (in_lits g.pure_pre h.pre b))
    (Among-cases v (g.program ++ chunks_vars g.pre.chunks ++ chunks_vars g.post.chunks) (lits_vars g.pure_pre) a))
    (λ a. absurd (in_lits g.pure_post h.post a))
    (Among-cases v (g.program ++ chunks_vars g.pre.chunks ++ chunks_vars g.post.chunks ++ lits_vars g.pure_pre) (lits_vars g.pure_post) (in_among v (goal_vars g) k))
  where
    in_lits : (ls : List Lit) → list_all (lit_fits is_int is_set_var) ls ≡ true → Among v (lits_vars ls) → ⊥
    in_lits ls f m = let l = flat_out lit_vars v ls m in both_ways (is_card v) (lit_from l.0 (each_at (lit_fits is_int is_set_var) l.0 ls f l.1) v l.2) c

    part_or_card : (d : Chunk) → Among v (chunk_vars d) → Among v (term_part_vars d) ⊎ ((i : InstOf) × (d ≡ Inst i) × Among v (card_vars i.card))
    part_or_card (Inst i) m = ⊎_elim (λ a. inl a) (λ a. inr (i, refl, a)) (Among-cases v (flat_map arg_vars i.args) (card_vars i.card) m)
    part_or_card (Block b) m = inl m
    part_or_card (Cell b) m = inl m

    in_pre : (cs : List Chunk) → list_all chunk_plain cs ≡ true → Among v (chunks_vars cs) → var_in v (flat_map (λ (i : InstOf). card_vars i.card) (insts cs)) ≡ true
    in_pre cs f m =
        let d = flat_out chunk_vars v cs m in
        ⊎_elim (λ a. absurd (both_ways (is_card v) (chunk_from d.0 (each_at chunk_plain d.0 cs f d.1) v a) c))
        (λ a. among_in v (flat_map (λ (i : InstOf). card_vars i.card) (insts cs)) (flat_in (λ (i : InstOf). card_vars i.card) v a.0 (insts cs) (in_insts cs a.0 (subst (λ (x : Chunk). Among x cs) a.1 d.1)) a.2))
        (part_or_card d.0 d.2)

    no_card : (o : Option Var) → is_none o ≡ true → Among v (card_vars o) → ⊥
    no_card None e m = m
    no_card (Some x) e m = false≢true e

    in_post : (cs : List Chunk) → list_all chunk_plain cs ≡ true → list_all (λ (i : InstOf). is_none i.card) (insts cs) ≡ true → Among v (chunks_vars cs) → ⊥
    in_post cs f e m =
        let d = flat_out chunk_vars v cs m in
        ⊎_elim (λ a. both_ways (is_card v) (chunk_from d.0 (each_at chunk_plain d.0 cs f d.1) v a) c)
        (λ a. no_card a.0.card (each_at (λ (i : InstOf). is_none i.card) a.0 (insts cs) e (in_insts cs a.0 (subst (λ (x : Chunk). Among x cs) a.1 d.1))) a.2)
        (part_or_card d.0 d.2)

pub root_plain : (preds : Preds) (g : Goal) (r : Renaming) → IsFormed preds g → IsTrue (is_sorted (unlinked preds g)) → IsTrue (list_all is_small g.post.chunks) → IsTrue (are_small preds)
    → normal (unlinked preds g) ≡ Some r → IsPlain r.node × CardsAlone r.node.goal
root_plain preds g r formed sorted post small e =
    let n : Node = unlinked preds g in
    let steady = formed_is_steady preds g formed sorted in
    let sorts = sorted_goal n steady in
    let stray : (v : Var) → Among v (g.program ++ g.exist ++ lits_vars g.pure_pre ++ lits_vars g.pure_post ++ flat_map term_part_vars (g.pre.chunks ++ g.post.chunks)) → NoCard v =
    λ v k. no_stray is_card (g.program ++ g.exist ++ lits_vars g.pure_pre ++ lits_vars g.pure_post ++ flat_map term_part_vars (g.pre.chunks ++ g.post.chunks)) formed.cards_alone v k in
    let a : List Var = g.program ++ g.exist in
    let b : List Var = a ++ lits_vars g.pure_pre in
    let c : List Var = b ++ lits_vars g.pure_post in
    let d : List Var = flat_map term_part_vars (g.pre.chunks ++ g.post.chunks) in
    let pre_lits = each_from (lit_fits is_int is_set_var) g.pure_pre (λ l k.
    lit_to l (each_at (lit_fits (λ v. not (is_set_var v)) is_set_var) l g.pure_pre sorts.pure_pre k)
    (λ v m. stray v (Among-left v c d (Among-left v b (lits_vars g.pure_post) (Among-right v a (lits_vars g.pure_pre) (flat_in lit_vars v l g.pure_pre k m)))))) in
    let post_lits = each_from (lit_fits is_int is_set_var) g.pure_post (λ l k.
    lit_to l (each_at (lit_fits (λ v. not (is_set_var v)) is_set_var) l g.pure_post sorts.pure_post k)
    (λ v m. stray v (Among-left v c d (Among-right v b (lits_vars g.pure_post) (flat_in lit_vars v l g.pure_post k m))))) in
    let both : List Chunk = g.pre.chunks ++ g.post.chunks in
    let pre_chunks = each_from chunk_plain g.pre.chunks (λ x k.
    chunk_to x (each_at (chunk_fits (λ v. not (is_set_var v)) is_set_var) x g.pre.chunks sorts.pre k)
    (λ v m. stray v (Among-right v c d (flat_in term_part_vars v x both (Among-left x g.pre.chunks g.post.chunks k) m)))) in
    let post_chunks = each_from chunk_plain g.post.chunks (λ x k.
    chunk_to x (each_at (chunk_fits (λ v. not (is_set_var v)) is_set_var) x g.post.chunks sorts.post k)
    (λ v m. stray v (Among-right v c d (flat_in term_part_vars v x both (Among-right x g.pre.chunks g.post.chunks k) m)))) in
    let exist = each_from (λ v. not (is_card v)) g.exist (λ v k.
    ap not (stray v (Among-left v c d (Among-left v b (lits_vars g.pure_post) (Among-left v a (lits_vars g.pure_pre) (Among-right v g.program g.exist k)))))) in
    let plain : IsPlain n = record {
      goal = goal_from g (each_from lit_plain g.pure_pre (λ l k. fits_plain l (each_at (lit_fits is_int is_set_var) l g.pure_pre pre_lits k))) pre_chunks
          (each_from lit_plain g.pure_post (λ l k. fits_plain l (each_at (lit_fits is_int is_set_var) l g.pure_post post_lits k))) post_chunks exist;
      links = refl;
      short = tt;
      post_small = post;
      preds_small = small;
    } in
    let after : IsPlain r.node = normal_plain n r plain e in
    let root : IsOver preds IsSteadyNode r.node = root_is_steady preds g r formed sorted e in
    (after, cards_alone r.node root.fact (normal_fit n r (record { pre = pre_lits; post = post_lits; chunks = pre_chunks }) e) (goal_parts r.node.goal after.goal).3)
