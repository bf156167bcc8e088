-- The steps before the last keep that variables have the sorts of their places, and the program variables in their order.
use Rattle.std.proofs.Common.{◌≡◌, ◌∙◌, ◌&&◌, ◌||◌, List, Option, Some, None, Bool, true, map, flat_map, length, ℕ, zero, suc, refl, ap, subst}
use Rattle.std.specs.List.{list_all}
use Rattle.std.proofs.lemmas.Bool.{and_parts}
use Rattle.std.proofs.lemmas.Option.{option_and_then_some, same_Some}
use Rattle.cyp_goal.proofs.FirstSolved.{Found, first_found}
use Rattle.cyp_goal.proofs.Fits.{ImagesFit, chunk_fits-apply, link_fits-apply, lits_fit-apply}
use Rattle.cyp_goal.proofs.PruneLeaves.{alive, filter_all, links_kept, live}
use Rattle.cyp_goal.proofs.RenameSolve.{turn}
use Rattle.cyp_goal.proofs.SolveLeaves.{cond_other}
use Rattle.cyp_goal.proofs.SolvedLits.{solved_any-by, solved_eq-by}
use Rattle.cyp_goal.proofs.TidyLeaves.{address_lit_fits, addresses_fit, post_each, pre_each}
use Rattle.cyp_goal.specs.Normal.{solve, tidy_node}
use Rattle.cyp_goal.specs.Pruning.{is_kept, prune}
use Rattle.cyp_goal.specs.Solving.{first_solved, is_logical, solve_post, solve_pre, solved_any, solved_eq, substitute, with_post, with_pre}
use Rattle.cyp_term.specs.Terms.{var_in, wide_subst}
use Rattle.cyp_goal.specs.Raw.{chunk_fits, goal_fits, link_fits, lit_fits, node_fits}
use Rattle.cyp_goal.specs.Tidying.{address}
use Rattle.cyp_heap.specs.Chunks.{apply_chunk}
use Rattle.cyp_heap.specs.Goals.{apply_link, apply_node, wide_node}
use Rattle.cyp_heap.specs.declared.goal.Goal.{Goal}
use Rattle.cyp_heap.specs.declared.goal.Node.{Node}
use Rattle.cyp_term.proofs.Lists.{each_at, each_from, map_from}
use Rattle.cyp_term.specs.declared.lit.Lit.{Lit}
use Rattle.cyp_term.specs.declared.subst.Subst.{Subst}
use Rattle.cyp_term.specs.declared.term.Term.{Term}
use Rattle.cyp_term.specs.declared.term.Var.{Var}

-- what the variables in places of integers and of sets pass
pub record HasSorts (p q : Var → Bool) (n : Node) : Type 0 where
  pub pure_pre : list_all (lit_fits p q) n.goal.pure_pre ≡ true
  pub pre : list_all (chunk_fits p q) n.goal.pre.chunks ≡ true
  pub pure_post : list_all (lit_fits p q) n.goal.pure_post ≡ true
  pub post : list_all (chunk_fits p q) n.goal.post.chunks ≡ true
  pub links : list_all (link_fits p q) n.links ≡ true

all_map : {A : Type 0} (test : A → Bool) (f : A → A) → ((x : A) → test x ≡ true → test (f x) ≡ true) → (xs : List A) → list_all test xs ≡ true → list_all test (map f xs) ≡ true
all_map test f e xs h = each_from test (map f xs) (λ y k. let x = map_from f y xs k in rw x.2 (e x.0 (each_at test x.0 xs h x.1)))

module _ (p q : Var → Bool) where
  pub has_sorts : (n : Node) → node_fits p q n ≡ true → HasSorts p q n
  has_sorts n h =
      let g : Goal = n.goal in
      let d = and_parts (goal_fits p q g) (list_all (link_fits p q) n.links) h in
      let c = and_parts (list_all (lit_fits p q) g.pure_pre && list_all (chunk_fits p q) g.pre.chunks && list_all (lit_fits p q) g.pure_post) (list_all (chunk_fits p q) g.post.chunks) d.0 in
      let b = and_parts (list_all (lit_fits p q) g.pure_pre && list_all (chunk_fits p q) g.pre.chunks) (list_all (lit_fits p q) g.pure_post) c.0 in
      let a = and_parts (list_all (lit_fits p q) g.pure_pre) (list_all (chunk_fits p q) g.pre.chunks) b.0 in
      record { pure_pre = a.0; pre = a.1; pure_post = b.1; post = c.1; links = d.1 }

  -- ---- solving

  apply_keeps : (by : Subst) → ImagesFit p q by → (n : Node) → HasSorts p q n → HasSorts p q (apply_node by n)
  apply_keeps by fit n f = record {
    pure_pre = lits_fit-apply p q by fit n.goal.pure_pre f.pure_pre;
    pre = all_map (chunk_fits p q) (apply_chunk by) (chunk_fits-apply p q by fit) n.goal.pre.chunks f.pre;
    pure_post = lits_fit-apply p q by fit n.goal.pure_post f.pure_post;
    post = all_map (chunk_fits p q) (apply_chunk by) (chunk_fits-apply p q by fit) n.goal.post.chunks f.post;
    links = all_map (link_fits p q) (apply_link by) (link_fits-apply p q by fit) n.links f.links;
  }

  -- the second node has sorts, and the program variables of the first
  pub record Kept (n m : Node) : Type 0 where
    pub fits : HasSorts p q m
    pub program : m.goal.program ≡ n.goal.program

  kept_itself : (n m : Node) → HasSorts p q n → Some n ≡ Some m → Kept n m
  kept_itself n m fits e = subst (Kept n) (same_Some n m e) (record { fits = fits; program = refl })

  -- one turn keeps it, where the later ones do
  module _ (again : Node → Option Node) (later : (n m : Node) → HasSorts p q n → again n ≡ Some m → Kept n m)
      (f : Lit → Option Subst) (fit : (l : Lit) (by : Subst) → lit_fits p q l ≡ true → f l ≡ Some by → ImagesFit p q by)
      (put : Node → List Lit → Node) (put_fits : (n : Node) (ls : List Lit) → HasSorts p q n → list_all (lit_fits p q) ls ≡ true → HasSorts p q (put n ls))
      (put_program : (n : Node) (ls : List Lit) → (put n ls).goal.program ≡ n.goal.program) where
    turn_keeps : (n m : Node) (ls : List Lit) (o : Option (Subst × List Lit)) → first_solved f ls ≡ o → list_all (lit_fits p q) ls ≡ true → HasSorts p q n
        → turn again put n o ≡ Some m → Kept n m
    turn_keeps n m ls None found lits fits e = kept_itself n m fits e
    turn_keeps n m ls (Some s) found lits fits e =
        option_and_then_some again (substitute s.0 (put n s.1)) m e (λ x first h.
        let y : Node = apply_node s.0 (put n s.1) in
        let is : y ≡ x = cond_other (wide_subst s.0 || wide_node y) y x first in
        let d : Found f ls s = first_found f ls s found in
        let left = each_from (lit_fits p q) s.1 (λ l k. each_at (lit_fits p q) l ls lits (d.among l k)) in
        let images = fit d.lit s.0 (each_at (lit_fits p q) d.lit ls lits d.there) d.answer in
        let kept : Kept y m = later y m (apply_keeps s.0 images (put n s.1) (put_fits n s.1 fits left)) (ap again is ∙ h) in
        record { fits = kept.fits; program = kept.program ∙ put_program n s.1 })

  pre_put : (n : Node) (ls : List Lit) → HasSorts p q n → list_all (lit_fits p q) ls ≡ true → HasSorts p q (with_pre n ls)
  pre_put n ls f h = record { pure_pre = h; pre = f.pre; pure_post = f.pure_post; post = f.post; links = f.links }

  post_put : (n : Node) (ls : List Lit) → HasSorts p q n → list_all (lit_fits p q) ls ≡ true → HasSorts p q (with_post n ls)
  post_put n ls f h = record { pure_pre = f.pure_pre; pre = f.pre; pure_post = h; post = f.post; links = f.links }

  pre_keeps : (k : ℕ) (n m : Node) → HasSorts p q n → solve_pre k n ≡ Some m → Kept n m
  pre_keeps zero n m f e = kept_itself n m f e
  pre_keeps (suc k) n m f e =
      turn_keeps (solve_pre k) (pre_keeps k) (solved_eq (is_logical n.goal)) (λ l by h a. (solved_eq-by (is_logical n.goal) p q l by h a).fit)
      with_pre pre_put (λ x ls. refl) n m n.goal.pure_pre (first_solved (solved_eq (is_logical n.goal)) n.goal.pure_pre) refl f.pure_pre f e

  post_keeps : (k : ℕ) (n m : Node) → HasSorts p q n → solve_post k n ≡ Some m → Kept n m
  post_keeps zero n m f e = kept_itself n m f e
  post_keeps (suc k) n m f e =
      let test : Var → Bool = λ v. var_in v n.goal.exist in
      turn_keeps (solve_post k) (post_keeps k) (solved_any test) (λ l by h a. (solved_any-by test p q l by h a).fit)
      with_post post_put (λ x ls. refl) n m n.goal.pure_post (first_solved (solved_any test) n.goal.pure_post) refl f.pure_post f e

  pub solve_keeps : (n m : Node) → HasSorts p q n → solve n ≡ Some m → Kept n m
  solve_keeps n m f e =
      option_and_then_some (λ (x : Node). solve_post (length x.goal.pure_post) x) (solve_pre (length n.goal.pure_pre) n) m e (λ x first h.
      let a : Kept n x = pre_keeps (length n.goal.pure_pre) n x f first in
      let b : Kept x m = post_keeps (length x.goal.pure_post) x m a.fits h in
      record { fits = b.fits; program = b.program ∙ a.program })

  -- ---- tidying and pruning
  pub tidy_keeps : (m : Node) → HasSorts p q m → HasSorts p q (tidy_node m)
  tidy_keeps m f =
      let g : Goal = m.goal in
      let ts : List Term = flat_map address g.pre.chunks in
      record {
        pure_pre = pre_each p q (lit_fits p q) g.pure_pre ts (λ l k _. each_at (lit_fits p q) l g.pure_pre f.pure_pre k)
            (λ l k. address_lit_fits p q ts l (addresses_fit p q g.pre.chunks f.pre) k);
        pre = f.pre;
        pure_post = post_each p q (lit_fits p q) g.pure_post (λ l k _. each_at (lit_fits p q) l g.pure_post f.pure_post k);
        post = f.post;
        links = f.links;
      }

  pub prune_keeps : (n : Node) → HasSorts p q n → HasSorts p q (prune n)
  prune_keeps n f = record {
    pure_pre = filter_all (lit_fits p q) (is_kept (live n)) n.goal.pure_pre f.pure_pre;
    pre = f.pre;
    pure_post = f.pure_post;
    post = f.post;
    links = links_kept p q (alive n) n.links f.links;
  }
