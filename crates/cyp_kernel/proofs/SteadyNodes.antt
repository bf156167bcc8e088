-- What the rules ask of a node as facts of each literal, chunk and companion, so that they pass through plain changes.
use Rattle.std.proofs.Common.{[], refl, true, ◌≡◌, ap, ℕ, ◌<◌, ◌≤◌, arith, flat_map, Bool, true, false, not, List, ◌++◌, IsTrue, ⊎_elim}
use Rattle.std.specs.List.{AllByRecursion, list_all}
use Rattle.std.proofs.lemmas.Bool.{and_from, and_parts, both_ways, cases_Bool, false_from_ne_true, not-true}
use Rattle.cyp_goal.proofs.EachVar.{Each}
use Rattle.cyp_goal.proofs.Live.{among_in, in_among}
use Rattle.cyp_goal.specs.Raw.{goal_fits, link_fits}
use Rattle.cyp_heap.specs.Chunks.{chunk_vars, chunks_vars}
use Rattle.cyp_heap.specs.Formed.{all_differ, insts_fit}
use Rattle.cyp_heap.specs.Goals.{image_vars}
use Rattle.cyp_heap.specs.declared.chunk.Chunk.{Chunk}
use Rattle.cyp_heap.specs.declared.goal.Link.{Link}
use Rattle.cyp_heap.specs.declared.goal.Node.{Node}
use Rattle.cyp_heap.specs.declared.pred.Preds.{Preds}
use Rattle.cyp_kernel.proofs.AgreeVars.{chunk_sorted, is_number_var, lit_sorted}
use Rattle.cyp_kernel.proofs.AppliedVars.{joined}
use Rattle.cyp_kernel.proofs.NewNumber.{first_new, int_var}
use Rattle.cyp_kernel.proofs.NormalSteady.{among_at}
use Rattle.cyp_kernel.proofs.OldVars.{IsOld, next_at, old_exist}
use Rattle.cyp_kernel.proofs.SteadyParts.{slice_get-among, sorted_goal}
use Rattle.cyp_kernel.specs.Correct.{unlinked}
use Rattle.cyp_kernel.specs.Steady.{IsSteady}
use Rattle.cyp_kernel.specs.SteadyLaws.{IsSteadyNode, IsSteadyRaw}
use Rattle.cyp_step.specs.Changes.{next_of}
use Rattle.cyp_term.proofs.Lists.{Among-left, Among-right, Every-among, Every-from_among, each_at, each_from, flat_in, flat_out}
use Rattle.cyp_term.specs.Terms.{is_set_var, lit_vars, lits_vars, sort_eq, var_in}
use Rattle.cyp_term.specs.declared.lit.Lit.{Lit}
use Rattle.cyp_term.specs.declared.term.Sort.TheVariants.{Int}
use Rattle.cyp_term.specs.declared.term.Var.{Var}

module _ (exist : List Var) where
  -- the variable is no existential
  abbrev pub Clear : Var → Type 0
  Clear v = var_in v exist ≡ false

  -- a literal, a chunk of the precondition and a companion: sorted, and without existentials
  abbrev pub LitClear : Lit → Type 0
  LitClear l = (lit_sorted l ≡ true) × Each Clear (lit_vars l)

  abbrev pub ChunkClear : Chunk → Type 0
  ChunkClear c = (chunk_sorted c ≡ true) × Each Clear (chunk_vars c)

  abbrev pub LinkClear : Link → Type 0
  LinkClear k = (link_fits is_number_var is_set_var k ≡ true) × Each Clear (image_vars k.map)

-- a literal and a chunk of the postcondition
abbrev pub LitSorted : Lit → Type 0
LitSorted l = lit_sorted l ≡ true

abbrev pub ChunkSorted : Chunk → Type 0
ChunkSorted c = chunk_sorted c ≡ true

abbrev pub CompanionSteady : Preds → Link → Type 0
CompanionSteady preds k = IsSteady (unlinked preds k.goal)

-- what the rules ask of a node, but for its instances
pub record IsSettled (n : Node) : Type 0 where
  pub program_int : list_all (λ (v : Var). sort_eq v.sort Int) n.goal.program ≡ true
  pub program_differs : all_differ n.goal.program ≡ true
  pub exist_differs : all_differ n.goal.exist ≡ true
  pub program : Each (Clear n.goal.exist) n.goal.program
  pub pure_pre : AllByRecursion (LitClear n.goal.exist) n.goal.pure_pre
  pub pre : AllByRecursion (ChunkClear n.goal.exist) n.goal.pre.chunks
  pub pure_post : AllByRecursion LitSorted n.goal.pure_post
  pub post : AllByRecursion ChunkSorted n.goal.post.chunks
  pub links : AllByRecursion (LinkClear n.goal.exist) n.links
  pub companions : AllByRecursion (CompanionSteady n.preds) n.links

-- ---- between the two

-- a fact of each element and of each variable of each element
module _ {A : Type 0} (test : A → Bool) (vars : A → List Var) (P : Var → Type 0) where
  abbrev Both : A → Type 0
  Both x = (test x ≡ true) × Each P (vars x)

  pub each_both : (xs : List A) → list_all test xs ≡ true → Each P (flat_map vars xs) → AllByRecursion Both xs
  each_both xs h e = Every-from_among Both xs (λ x k. (each_at test x xs h k, λ v m. e v (flat_in vars v x xs k m)))

  pub both_tests : (xs : List A) → AllByRecursion Both xs → list_all test xs ≡ true
  both_tests xs h = each_from test xs (λ x k. (Every-among Both x xs h k).0)

  pub both_vars : (xs : List A) → AllByRecursion Both xs → Each P (flat_map vars xs)
  both_vars xs h v k = let x = flat_out vars v xs k in (Every-among Both x.0 xs h x.1).1 v x.2

pub each_true : {A : Type 0} (test : A → Bool) (xs : List A) → list_all test xs ≡ true → AllByRecursion (λ x. test x ≡ true) xs
each_true test xs h = Every-from_among (λ x. test x ≡ true) xs (λ x k. each_at test x xs h k)

pub tests_true : {A : Type 0} (test : A → Bool) (xs : List A) → AllByRecursion (λ x. test x ≡ true) xs → list_all test xs ≡ true
tests_true test xs h = each_from test xs (λ x k. Every-among (λ x. test x ≡ true) x xs h k)

-- no element of one list is in the other, told from either side
pub clear_of : (exist vs : List Var) → list_all (λ v. not (var_in v vs)) exist ≡ true → Each (Clear exist) vs
clear_of exist vs h v k =
    false_from_ne_true (var_in v exist) (λ e.
    both_ways (var_in v vs) (not-true (var_in v vs) (each_at (λ w. not (var_in w vs)) v exist h (in_among v exist e))) (among_in v vs k))

pub apart_of : (exist vs : List Var) → Each (Clear exist) vs → list_all (λ v. not (var_in v vs)) exist ≡ true
apart_of exist vs e =
    each_from (λ v. not (var_in v vs)) exist (λ v k.
    ⊎_elim (λ i. absurd (both_ways (var_in v exist) (e v (in_among v vs i)) (among_in v exist k))) (λ i. ap not i) (cases_Bool (var_in v vs)))

pub settled : (n : Node) → IsSteadyRaw n → IsSettled n
settled n raw =
    let s : IsSteady n = raw.steady in
    let exist = n.goal.exist in
    let lits = lits_vars n.goal.pure_pre in
    let chunks = chunks_vars n.goal.pre.chunks in
    let sorted = sorted_goal n s in
    let clear = clear_of exist (n.goal.program ++ lits ++ chunks) s.exist_apart in
    record {
      program_int = s.program_int;
      program_differs = s.program_differs;
      exist_differs = s.exist_differs;
      program = λ v k. clear v (Among-left v (n.goal.program ++ lits) chunks (Among-left v n.goal.program lits k));
      pure_pre = each_both lit_sorted lit_vars (Clear exist) n.goal.pure_pre sorted.pure_pre (λ v k. clear v (Among-left v (n.goal.program ++ lits) chunks (Among-right v n.goal.program lits k)));
      pre = each_both chunk_sorted chunk_vars (Clear exist) n.goal.pre.chunks sorted.pre (λ v k. clear v (Among-right v (n.goal.program ++ lits) chunks k));
      pure_post = each_true lit_sorted n.goal.pure_post sorted.pure_post;
      post = each_true chunk_sorted n.goal.post.chunks sorted.post;
      links = Every-from_among (LinkClear exist) n.links (λ k i.
          let at = among_at k n.links i in (
            each_at (link_fits is_number_var is_set_var) k n.links (and_parts _ (list_all (link_fits is_number_var is_set_var) n.links) s.sorted).1 i,
            λ v j. s.exist_images k at.0 v at.1 (among_in v (image_vars k.map) j),
          ));
      companions = raw.companions;
    }

pub steady_from : (n : Node) → IsTrue (insts_fit n.preds n.goal) → IsSettled n → IsSteadyRaw n
steady_from n fits s =
    let exist = n.goal.exist in
    let C : Var → Type 0 = Clear exist in
    let lits = lits_vars n.goal.pure_pre in
    let chunks = chunks_vars n.goal.pre.chunks in
    let steady : IsSteady n = record {
      sorted = and_from _ _ (and_from _ _ (and_from _ _ (and_from _ _
          (both_tests lit_sorted lit_vars C n.goal.pure_pre s.pure_pre) (both_tests chunk_sorted chunk_vars C n.goal.pre.chunks s.pre))
          (tests_true lit_sorted n.goal.pure_post s.pure_post)) (tests_true chunk_sorted n.goal.post.chunks s.post))
          (both_tests (link_fits is_number_var is_set_var) (λ (k : Link). image_vars k.map) C n.links s.links);
      fits = fits;
      program_int = s.program_int;
      program_differs = s.program_differs;
      exist_differs = s.exist_differs;
      exist_apart = apart_of exist (n.goal.program ++ lits ++ chunks)
          (joined C (n.goal.program ++ lits) chunks (joined C n.goal.program lits s.program (both_vars lit_sorted lit_vars C n.goal.pure_pre s.pure_pre))
          (both_vars chunk_sorted chunk_vars C n.goal.pre.chunks s.pre));
      exist_images = λ k i v at h.
          (Every-among (LinkClear exist) k n.links s.links (slice_get-among n.links i k at)).1 v (in_among v (image_vars k.map) h);
    } in
    record { steady = steady; companions = s.companions }

-- the goal alone is as the rules ask
pub alone_steady : (n : Node) → IsSteady n → IsSteady (unlinked n.preds n.goal)
alone_steady n s = record {
  sorted = and_from (goal_fits is_number_var is_set_var n.goal) true (and_parts (goal_fits is_number_var is_set_var n.goal) (list_all (link_fits is_number_var is_set_var) n.links) s.sorted).0 refl;
  fits = s.fits;
  program_int = s.program_int;
  program_differs = s.program_differs;
  exist_differs = s.exist_differs;
  exist_apart = s.exist_apart;
  exist_images = λ k i v e h. absurd (slice_get-among {A = Link} [] i k e);
}

-- ---- old and new variables

module _ (n : Node) (w : IsSteadyNode n) where
  pub settled_node : IsSettled n
  settled_node = settled n w.raw

  pub exist_old : Each (IsOld (next_of n)) n.goal.exist
  exist_old v k = old_exist n v k

  -- no new variable is an existential
  pub fresh_clear : (v : Var) → next_at (next_of n) v.sort ≤ v.number → Clear n.goal.exist v
  fresh_clear v l = false_from_ne_true (var_in v n.goal.exist) (λ e. not_below (next_at (next_of n) v.sort) v.number (exist_old v (in_among v n.goal.exist e)) l)
    where
      not_below : (m k : ℕ) → k < m → m ≤ k → ⊥
      not_below m k h l = omega arith

  pub new_clear : (k : ℕ) → first_new n ≤ k → Clear n.goal.exist (int_var k)
  new_clear k l = fresh_clear (int_var k) l
