-- What solving leaves: no equation that can be solved.
use Rattle.std.proofs.Common.{◌≡◌, ◌∙◌, [], ◌∷◌, List, Option, Some, None, Bool, true, false, cond, ◌||◌, not, map, length, ℕ, zero, suc, option_and_then, refl, ap, ap₂, sym, subst, arith}
use Rattle.std.specs.List.{list_all}
use Rattle.std.specs.Option.{is_none}
use Rattle.std.proofs.lemmas.Bool.{and_from, and_parts, not-true}
use Rattle.std.proofs.lemmas.List.{length-map, nil_from_length}
use Rattle.std.proofs.lemmas.Option.{none-some, option_and_then_some, same_Some}
use Rattle.cyp_goal.proofs.FirstSolved.{Found, all_none, first_found}
use Rattle.cyp_goal.proofs.Fits.{FitNode, ImagesFit, lit_fits-at, lits_fit-apply, node_fits-apply}
use Rattle.cyp_goal.proofs.SolvedLits.{SolvesFor, solved_any-by, solved_eq-by, solved_eq-less}
use Rattle.cyp_goal.specs.Normal.{solve}
use Rattle.cyp_goal.specs.Solving.{first_solved, is_logical, solve_post, solve_pre, solved_any, solved_eq, substitute, with_post, with_pre}
use Rattle.cyp_term.specs.Terms.{apply_lit, base_vars, term_at, term_base, var_in, wide_subst}
use Rattle.cyp_goal.specs.Raw.{lit_once, lit_fits, term_fits}
use Rattle.cyp_heap.specs.Goals.{apply_node, wide_node}
use Rattle.cyp_heap.specs.declared.goal.Node.{Node}
use Rattle.cyp_term.proofs.Lists.{each_at, each_from}
use Rattle.cyp_term.specs.declared.lit.Lit.{Lit}
use Rattle.cyp_term.specs.declared.lit.Lit.TheVariants.{Eq}
use Rattle.cyp_term.specs.declared.subst.Subst.{Subst}
use Rattle.cyp_term.specs.declared.term.Term.{Term}
use Rattle.cyp_term.specs.declared.term.Var.{Var}

pub cond_other : {A : Type 0} (b : Bool) (x y : A) → cond b None (Some x) ≡ Some y → x ≡ y
cond_other true x y e = absurd (none-some y e)
cond_other false x y e = same_Some x y e

-- the variable isn't one of these
abbrev pub apart : List Var → Var → Bool
apart vs v = not (var_in v vs)

-- the turns that are left, by what is found
abbrev pub pre_at : ℕ → Node → Option (Subst × List Lit) → Option Node
pre_at k n o = elim o [
  | None ↦ Some n
  | Some p ↦ option_and_then (solve_pre k) (substitute p.0 (with_pre n p.1))
]

abbrev pub post_at : ℕ → Node → Option (Subst × List Lit) → Option Node
post_at k n o = elim o [
  | None ↦ Some n
  | Some p ↦ option_and_then (solve_post k) (substitute p.0 (with_post n p.1))
]

module _ (p q : Var → Bool) where
  -- ---- the precondition
  pub record PreSolved (n m : Node) : Type 0 where
    pub program : m.goal.program ≡ n.goal.program
    pub exist : m.goal.exist ≡ n.goal.exist
    pub fits : FitNode p q m
    pub avoids : list_all (lit_fits (apart n.goal.exist) (apart n.goal.exist)) m.goal.pure_pre ≡ true
    pub none : list_all (λ l. is_none (solved_eq (is_logical n.goal) l)) m.goal.pure_pre ≡ true

  fewer_lits : (test : Lit → Bool) (ls : List Lit) (f : Lit → Option Subst) (s : Subst × List Lit) → Found f ls s → list_all test ls ≡ true → list_all test s.1 ≡ true
  fewer_lits test ls f s d h = each_from test s.1 (λ x k. each_at test x ls h (d.among x k))

  pre_turn : (k : ℕ) (n m x : Node) (s : Subst × List Lit) → first_solved (solved_eq (is_logical n.goal)) n.goal.pure_pre ≡ Some s → length n.goal.pure_pre ≡ suc k
      → FitNode p q n → list_all (lit_fits (apart n.goal.exist) (apart n.goal.exist)) n.goal.pure_pre ≡ true
      → ((n' : Node) → length n'.goal.pure_pre ≡ k → FitNode p q n' → list_all (lit_fits (apart n'.goal.exist) (apart n'.goal.exist)) n'.goal.pure_pre ≡ true
      → solve_pre k n' ≡ Some m → PreSolved n' m)
      → substitute s.0 (with_pre n s.1) ≡ Some x → solve_pre k x ≡ Some m → PreSolved n m
  pre_turn k n m x s found many fits avoids ih e h =
      let f : Lit → Option Subst = solved_eq (is_logical n.goal) in
      let a : Var → Bool = apart n.goal.exist in
      let d : Found f n.goal.pure_pre s = first_found f n.goal.pure_pre s found in
      let is : apply_node s.0 (with_pre n s.1) ≡ x = cond_other (wide_subst s.0 || wide_node (apply_node s.0 (with_pre n s.1))) (apply_node s.0 (with_pre n s.1)) x e in
      let sorted = solved_eq-by (is_logical n.goal) p q d.lit s.0 (each_at (lit_fits p q) d.lit n.goal.pure_pre fits.pure_pre d.there) d.answer in
      let closed = solved_eq-by (is_logical n.goal) a a d.lit s.0 (each_at (lit_fits a a) d.lit n.goal.pure_pre avoids d.there) d.answer in
      let left : FitNode p q (with_pre n s.1) = record {
        pure_pre = fewer_lits (lit_fits p q) n.goal.pure_pre f s d fits.pure_pre;
        pre = fits.pre;
        pure_post = fits.pure_post;
        post = fits.post;
        links = fits.links;
        pre_once = fewer_lits lit_once n.goal.pure_pre f s d fits.pre_once;
        post_once = fits.post_once;
      } in
      let later = ih (apply_node s.0 (with_pre n s.1))
      (length-map s.1 (apply_lit s.0) ∙ shorter (length s.1) k (d.fewer ∙ many))
      (node_fits-apply p q s.0 sorted.fit (with_pre n s.1) left)
      (lits_fit-apply a a s.0 closed.fit s.1 (fewer_lits (lit_fits a a) n.goal.pure_pre f s d avoids))
      (ap (solve_pre k) is ∙ h) in
      record { program = later.program; exist = later.exist; fits = later.fits; avoids = later.avoids; none = later.none }
    where
      shorter : (a b : ℕ) → suc a ≡ suc b → a ≡ b
      shorter a b e = omega arith

  pre_step : (k : ℕ) (n m : Node) (o : Option (Subst × List Lit)) → first_solved (solved_eq (is_logical n.goal)) n.goal.pure_pre ≡ o → length n.goal.pure_pre ≡ suc k
      → FitNode p q n → list_all (lit_fits (apart n.goal.exist) (apart n.goal.exist)) n.goal.pure_pre ≡ true
      → ((n' : Node) → length n'.goal.pure_pre ≡ k → FitNode p q n' → list_all (lit_fits (apart n'.goal.exist) (apart n'.goal.exist)) n'.goal.pure_pre ≡ true
      → solve_pre k n' ≡ Some m → PreSolved n' m)
      → pre_at k n o ≡ Some m → PreSolved n m
  pre_step k n m None found many fits avoids ih e =
      subst (PreSolved n) (same_Some n m e)
      (record { program = refl; exist = refl; fits = fits; avoids = avoids; none = all_none (solved_eq (is_logical n.goal)) n.goal.pure_pre found })
  pre_step k n m (Some s) found many fits avoids ih e =
      option_and_then_some (solve_pre k) (substitute s.0 (with_pre n s.1)) m e (λ x is h. pre_turn k n m x s found many fits avoids ih is h)

  pub solve_pre_leaves : (k : ℕ) (n m : Node) → length n.goal.pure_pre ≡ k → FitNode p q n → list_all (lit_fits (apart n.goal.exist) (apart n.goal.exist)) n.goal.pure_pre ≡ true
      → solve_pre k n ≡ Some m → PreSolved n m
  solve_pre_leaves zero n m many fits avoids e =
      subst (PreSolved n) (same_Some n m e) (record {
        program = refl;
        exist = refl;
        fits = fits;
        avoids = avoids;
        none = ap (list_all (λ l. is_none (solved_eq (is_logical n.goal) l))) (nil_from_length n.goal.pure_pre many);
      })
  solve_pre_leaves (suc k) n m many fits avoids e =
      pre_step k n m (first_solved (solved_eq (is_logical n.goal)) n.goal.pure_pre) refl many fits avoids (λ n' a b c d. solve_pre_leaves k n' m a b c d) e

  -- ---- the postcondition
  pub record PostSolved (n m : Node) : Type 0 where
    pub program : m.goal.program ≡ n.goal.program
    pub exist : m.goal.exist ≡ n.goal.exist
    pub fits : FitNode p q m
    pub none_pre : list_all (λ l. is_none (solved_eq (apart n.goal.program) l)) m.goal.pure_pre ≡ true
    pub none_post : list_all (λ l. is_none (solved_any (λ v. var_in v n.goal.exist) l)) m.goal.pure_post ≡ true

  -- a substitution that binds existentials alone leaves the terms of the precondition
  module _ (exist : List Var) (by : Subst) (solves : SolvesFor (λ v. var_in v exist) p q by) where
    no_images : ImagesFit (apart exist) (apart exist) by
    no_images = record {
      ints = λ v to h e. absurd (none-some to (sym (solves.ints v (not-true (var_in v exist) h)) ∙ e));
      sets = λ v u h e. absurd (none-some u (sym (solves.sets v (not-true (var_in v exist) h)) ∙ e));
    }

    base_stays : (t : Term) (b : Option Var) → list_all (apart exist) (base_vars b) ≡ true → term_base by t b ≡ t
    base_stays t None h = refl
    base_stays t (Some v) h = ap (term_at t) (solves.ints v (not-true (var_in v exist) (and_parts (apart exist v) true h).0))

    none_stays : (test : Var → Bool) (l : Lit) → lit_fits (apart exist) (apart exist) l ≡ true → is_none (solved_eq test l) ≡ true → is_none (solved_eq test (apply_lit by l)) ≡ true
    none_stays test (Eq a b) h e =
        let both = and_parts (term_fits (apart exist) a) (term_fits (apart exist) b) h in
        ap₂ (λ x y. is_none (solved_eq test (Eq x y))) (base_stays a a.base both.0) (base_stays b b.base both.1) ∙ e
    none_stays test _ h e = refl

    nones_stay : (test : Var → Bool) (ls : List Lit) → list_all (lit_fits (apart exist) (apart exist)) ls ≡ true → list_all (λ l. is_none (solved_eq test l)) ls ≡ true
        → list_all (λ l. is_none (solved_eq test l)) (map (apply_lit by) ls) ≡ true
    nones_stay test [] h e = refl
    nones_stay test (l ∷ ls) h e =
        let fit = and_parts (lit_fits (apart exist) (apart exist) l) (list_all (lit_fits (apart exist) (apart exist)) ls) h in
        let none = and_parts (is_none (solved_eq test l)) (list_all (λ l. is_none (solved_eq test l)) ls) e in
        and_from (is_none (solved_eq test (apply_lit by l))) (list_all (λ l. is_none (solved_eq test l)) (map (apply_lit by) ls))
        (none_stays test l fit.0 none.0) (nones_stay test ls fit.1 none.1)

  -- what is known of the precondition while the postcondition is solved
  pub record PreDone (n : Node) : Type 0 where
    pub fits : FitNode p q n
    pub avoids : list_all (lit_fits (apart n.goal.exist) (apart n.goal.exist)) n.goal.pure_pre ≡ true
    pub none : list_all (λ l. is_none (solved_eq (apart n.goal.program) l)) n.goal.pure_pre ≡ true

  post_turn : (k : ℕ) (n m x : Node) (s : Subst × List Lit) → first_solved (solved_any (λ v. var_in v n.goal.exist)) n.goal.pure_post ≡ Some s → length n.goal.pure_post ≡ suc k
      → PreDone n → ((n' : Node) → length n'.goal.pure_post ≡ k → PreDone n' → solve_post k n' ≡ Some m → PostSolved n' m)
      → substitute s.0 (with_post n s.1) ≡ Some x → solve_post k x ≡ Some m → PostSolved n m
  post_turn k n m x s found many done ih e h =
      let f : Lit → Option Subst = solved_any (λ v. var_in v n.goal.exist) in
      let a : Var → Bool = apart n.goal.exist in
      let d : Found f n.goal.pure_post s = first_found f n.goal.pure_post s found in
      let is : apply_node s.0 (with_post n s.1) ≡ x = cond_other (wide_subst s.0 || wide_node (apply_node s.0 (with_post n s.1))) (apply_node s.0 (with_post n s.1)) x e in
      let sorted = solved_any-by (λ v. var_in v n.goal.exist) p q d.lit s.0 (each_at (lit_fits p q) d.lit n.goal.pure_post done.fits.pure_post d.there) d.answer in
      let left : FitNode p q (with_post n s.1) = record {
        pure_pre = done.fits.pure_pre;
        pre = done.fits.pre;
        pure_post = fewer_lits (lit_fits p q) n.goal.pure_post f s d done.fits.pure_post;
        post = done.fits.post;
        links = done.fits.links;
        pre_once = done.fits.pre_once;
        post_once = fewer_lits lit_once n.goal.pure_post f s d done.fits.post_once;
      } in
      let later = ih (apply_node s.0 (with_post n s.1))
      (length-map s.1 (apply_lit s.0) ∙ shorter (length s.1) k (d.fewer ∙ many))
      (record {
        fits = node_fits-apply p q s.0 sorted.fit (with_post n s.1) left;
        avoids = lits_fit-apply a a s.0 (no_images n.goal.exist s.0 sorted) n.goal.pure_pre done.avoids;
        none = nones_stay n.goal.exist s.0 sorted (apart n.goal.program) n.goal.pure_pre done.avoids done.none;
      })
      (ap (solve_post k) is ∙ h) in
      record { program = later.program; exist = later.exist; fits = later.fits; none_pre = later.none_pre; none_post = later.none_post }
    where
      shorter : (a b : ℕ) → suc a ≡ suc b → a ≡ b
      shorter a b e = omega arith

  post_step : (k : ℕ) (n m : Node) (o : Option (Subst × List Lit)) → first_solved (solved_any (λ v. var_in v n.goal.exist)) n.goal.pure_post ≡ o → length n.goal.pure_post ≡ suc k
      → PreDone n → ((n' : Node) → length n'.goal.pure_post ≡ k → PreDone n' → solve_post k n' ≡ Some m → PostSolved n' m)
      → post_at k n o ≡ Some m → PostSolved n m
  post_step k n m None found many done ih e =
      subst (PostSolved n) (same_Some n m e) (record {
        program = refl;
        exist = refl;
        fits = done.fits;
        none_pre = done.none;
        none_post = all_none (solved_any (λ v. var_in v n.goal.exist)) n.goal.pure_post found;
      })
  post_step k n m (Some s) found many done ih e =
      option_and_then_some (solve_post k) (substitute s.0 (with_post n s.1)) m e (λ x is h. post_turn k n m x s found many done ih is h)

  pub solve_post_leaves : (k : ℕ) (n m : Node) → length n.goal.pure_post ≡ k → PreDone n → solve_post k n ≡ Some m → PostSolved n m
  solve_post_leaves zero n m many done e =
      subst (PostSolved n) (same_Some n m e) (record {
        program = refl;
        exist = refl;
        fits = done.fits;
        none_pre = done.none;
        none_post = ap (list_all (λ l. is_none (solved_any (λ v. var_in v n.goal.exist) l))) (nil_from_length n.goal.pure_post many);
      })
  solve_post_leaves (suc k) n m many done e =
      post_step k n m (first_solved (solved_any (λ v. var_in v n.goal.exist)) n.goal.pure_post) refl many done (λ n' a b c. solve_post_leaves k n' m a b c) e

  -- ---- both

  -- what solving leaves: it speaks of the lists of the node itself
  pub record IsSolved (m : Node) : Type 0 where
    pub fits : FitNode p q m
    pub none_pre : list_all (λ l. is_none (solved_eq (apart m.goal.program) l)) m.goal.pure_pre ≡ true
    pub none_post : list_all (λ l. is_none (solved_any (λ v. var_in v m.goal.exist) l)) m.goal.pure_post ≡ true

  -- no variable of a precondition that has no existential is solved for, unless it is a program variable
  beside_program : (n m : Node) → PreSolved n m → PreDone m
  beside_program n m s = record {
    fits = s.fits;
    avoids = ap (λ vs. list_all (lit_fits (apart vs) (apart vs)) m.goal.pure_pre) s.exist ∙ s.avoids;
    none =
        ap (λ vs. list_all (λ l. is_none (solved_eq (apart vs) l)) m.goal.pure_pre) s.program
        ∙ each_from (λ l. is_none (solved_eq (apart n.goal.program) l)) m.goal.pure_pre (λ l k.
        solved_eq-less (is_logical n.goal) (apart n.goal.program) l
        (λ v i e. and_from (apart n.goal.program v) (apart n.goal.exist v) e
        (lit_fits-at (apart n.goal.exist) l (each_at (lit_fits (apart n.goal.exist) (apart n.goal.exist)) l m.goal.pure_pre s.avoids k) v i))
        (each_at (λ l. is_none (solved_eq (is_logical n.goal) l)) l m.goal.pure_pre s.none k));
  }

  pub solve_leaves : (n m : Node) → FitNode p q n → list_all (lit_fits (apart n.goal.exist) (apart n.goal.exist)) n.goal.pure_pre ≡ true → solve n ≡ Some m → IsSolved m
  solve_leaves n m fits avoids e =
      option_and_then_some (λ (x : Node). solve_post (length x.goal.pure_post) x) (solve_pre (length n.goal.pure_pre) n) m e (λ x first h.
      let s : PostSolved x m = solve_post_leaves (length x.goal.pure_post) x m refl (beside_program n x (solve_pre_leaves (length n.goal.pure_pre) n x refl fits avoids first)) h in
      record {
        fits = s.fits;
        none_pre = ap (λ vs. list_all (λ l. is_none (solved_eq (apart vs) l)) m.goal.pure_pre) s.program ∙ s.none_pre;
        none_post = ap (λ vs. list_all (λ l. is_none (solved_any (λ v. var_in v vs) l)) m.goal.pure_post) s.exist ∙ s.none_post;
      })
