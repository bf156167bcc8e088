-- Solving and renaming may change places.
use Rattle.std.proofs.Common.{◌≡◌, ◌∙◌, [], ◌∷◌, List, Option, Some, None, Bool, cond, ◌&&◌, ◌||◌, not, map, length, neg_ℤ, ℕ, zero, suc, option_and_then, option_map, refl, ap, ap₂}
use Rattle.std.proofs.lemmas.List.{length-map}
use Rattle.cyp_goal.proofs.FirstSolved.{first_at}
use Rattle.cyp_goal.proofs.Maps.{at_cond}
use Rattle.cyp_goal.proofs.Rename.{IsRenaming, base_eq-rename, rename_base, rename_goal, rename_lit, rename_node, rename_set, rename_term}
use Rattle.cyp_goal.proofs.RenameApply.{apply_node-rename, rename_by, wide-rename}
use Rattle.cyp_goal.proofs.RenameVars.{var_in-rename}
use Rattle.cyp_goal.specs.Normal.{solve}
use Rattle.cyp_goal.specs.Solving.{bind_int, bind_set, first_solved, first_some, is_logical, solve_post, solve_pre, solved_any, solved_base, solved_eq, solved_parts, solved_set, solved_side, substitute, with_post, with_pre}
use Rattle.cyp_term.specs.Terms.{base_eq, plus, sort_eq, var_in, wide_subst}
use Rattle.cyp_heap.specs.Goals.{apply_node, wide_node}
use Rattle.cyp_heap.specs.declared.goal.Goal.{Goal}
use Rattle.cyp_heap.specs.declared.goal.Node.{Node}
use Rattle.cyp_term.specs.declared.lit.Lit.{Lit}
use Rattle.cyp_term.specs.declared.lit.Lit.TheVariants.{Eq, Same}
use Rattle.cyp_term.specs.declared.lit.SetTerm.{SetTerm}
use Rattle.cyp_term.specs.declared.subst.Subst.{Subst}
use Rattle.cyp_term.specs.declared.term.Sort.TheVariants.{Int}
use Rattle.cyp_term.specs.declared.term.Term.{Term}
use Rattle.cyp_term.specs.declared.term.Var.{Var}

-- ---- one literal
module _ (r : Var → Var) (is : IsRenaming r) (test test' : Var → Bool) (same : (v : Var) → test' (r v) ≡ test v) where
  abbrev renamed : Option Subst → Option Subst
  renamed o = option_map (rename_by r) o

  base_renamed : (b : Option Var) (s t : Term) → solved_base test' (rename_base r b) (rename_term r s) (rename_term r t) ≡ renamed (solved_base test b s t)
  base_renamed None s t = refl
  base_renamed (Some v) s t =
      (λ i. cond (sort_eq (is.sort v i) Int && same v i && not (base_eq-rename r is (Some v) t.base i)) (Some (bind_int (r v) (plus (rename_term r t) (neg_ℤ s.offset)))) None)
      ∙ at_cond renamed (sort_eq v.sort Int && test v && not (base_eq (Some v) t.base)) (Some (bind_int v (plus t (neg_ℤ s.offset)))) None

  parts_renamed : (vs : List Var) (es : List Term) (t : SetTerm) → solved_parts test' (map r vs) (map (rename_term r) es) (rename_set r t) ≡ renamed (solved_parts test vs es t)
  parts_renamed (v ∷ []) [] t =
      (λ i. cond (same v i && not (var_in-rename r is v t.vars i)) (Some (bind_set (r v) (rename_set r t))) None)
      ∙ at_cond renamed (test v && not (var_in v t.vars)) (Some (bind_set v t)) None
  parts_renamed [] es t = refl
  parts_renamed (v ∷ []) (e ∷ es) t = refl
  parts_renamed (v ∷ w ∷ vs) es t = refl

  first_renamed : (a b : Option Subst) → first_some (renamed a) (renamed b) ≡ renamed (first_some a b)
  first_renamed None b = refl
  first_renamed (Some x) b = refl

  eq_renamed : (s t : Term) → first_some (solved_side test' (rename_term r s) (rename_term r t)) (solved_side test' (rename_term r t) (rename_term r s))
      ≡ renamed (first_some (solved_side test s t) (solved_side test t s))
  eq_renamed s t = ap₂ first_some (base_renamed s.base s t) (base_renamed t.base t s) ∙ first_renamed (solved_side test s t) (solved_side test t s)

  set_renamed : (s t : SetTerm) → first_some (solved_set test' (rename_set r s) (rename_set r t)) (solved_set test' (rename_set r t) (rename_set r s))
      ≡ renamed (first_some (solved_set test s t) (solved_set test t s))
  set_renamed s t = ap₂ first_some (parts_renamed s.vars s.elems t) (parts_renamed t.vars t.elems s) ∙ first_renamed (solved_set test s t) (solved_set test t s)

  solved_eq-renamed : (l : Lit) → solved_eq test' (rename_lit r l) ≡ renamed (solved_eq test l)
  solved_eq-renamed (Eq s t) = eq_renamed s t
  solved_eq-renamed _ = refl

  solved_any-renamed : (l : Lit) → solved_any test' (rename_lit r l) ≡ renamed (solved_any test l)
  solved_any-renamed (Eq s t) = eq_renamed s t
  solved_any-renamed (Same s t) = set_renamed s t
  solved_any-renamed _ = refl

-- ---- the first literal with an answer
module _ (r : Var → Var) where
  abbrev answer : Subst × List Lit → Subst × List Lit
  answer p = (rename_by r p.0, map (rename_lit r) p.1)

  first_step : (o : Option Subst) (l : Lit) (ls : List Lit) (later : Option (Subst × List Lit))
      → first_at (option_map (rename_by r) o) (rename_lit r l) (map (rename_lit r) ls) (option_map answer later) ≡ option_map answer (first_at o l ls later)
  first_step (Some by) l ls later = refl
  first_step None l ls None = refl
  first_step None l ls (Some p) = refl

  first_solved-rename : (f f' : Lit → Option Subst) → ((l : Lit) → f' (rename_lit r l) ≡ option_map (rename_by r) (f l)) → (ls : List Lit)
      → first_solved f' (map (rename_lit r) ls) ≡ option_map answer (first_solved f ls)
  first_solved-rename f f' e [] = refl
  first_solved-rename f f' e (l ∷ ls) =
      ap₂ (λ o later. first_at o (rename_lit r l) (map (rename_lit r) ls) later) (e l) (first_solved-rename f f' e ls)
      ∙ first_step (f l) l ls (first_solved f ls)

-- ---- one turn

-- what is done with the first literal that has an answer
abbrev pub turn : (Node → Option Node) → (Node → List Lit → Node) → Node → Option (Subst × List Lit) → Option Node
turn again put n o = elim o [
  | None ↦ Some n
  | Some p ↦ option_and_then again (substitute p.0 (put n p.1))
]

module _ (r : Var → Var) (is : IsRenaming r) where
  substitute-rename : (by : Subst) (n : Node) → substitute (rename_by r by) (rename_node r n) ≡ option_map (rename_node r) (substitute by n)
  substitute-rename by n =
      ap₂ (λ b m. cond (wide_subst (rename_by r by) || b) None (Some m)) (ap wide_node (apply_node-rename r is by n)) (apply_node-rename r is by n)
      ∙ ap (λ b. cond b None (Some (rename_node r (apply_node by n)))) (wide-rename r is by (apply_node by n))
      ∙ at_cond (option_map (rename_node r)) (wide_subst by || wide_node (apply_node by n)) None (Some (apply_node by n))

  module _ (again : Node → Option Node) (later : (m : Node) → again (rename_node r m) ≡ option_map (rename_node r) (again m)) where
    and_then-rename : (o : Option Node) → option_and_then again (option_map (rename_node r) o) ≡ option_map (rename_node r) (option_and_then again o)
    and_then-rename None = refl
    and_then-rename (Some m) = later m

    turn-rename : (put : Node → List Lit → Node) → ((m : Node) (ls : List Lit) → put (rename_node r m) (map (rename_lit r) ls) ≡ rename_node r (put m ls))
        → (n : Node) (o : Option (Subst × List Lit)) → turn again put (rename_node r n) (option_map (answer r) o) ≡ option_map (rename_node r) (turn again put n o)
    turn-rename put puts n None = refl
    turn-rename put puts n (Some p) =
        ap (option_and_then again) (ap (substitute (rename_by r p.0)) (puts n p.1) ∙ substitute-rename p.0 (put n p.1))
        ∙ and_then-rename (substitute p.0 (put n p.1))

  -- ---- all turns
  is_logical-rename : (g : Goal) (v : Var) → is_logical (rename_goal r g) (r v) ≡ is_logical g v
  is_logical-rename g v = ap₂ (λ a b. not a && not b) (var_in-rename r is v g.program) (var_in-rename r is v g.exist)

  solve_pre-rename : (k : ℕ) (n : Node) → solve_pre k (rename_node r n) ≡ option_map (rename_node r) (solve_pre k n)
  solve_pre-rename zero n = refl
  solve_pre-rename (suc k) n =
      let g : Goal = n.goal in
      ap (turn (solve_pre k) with_pre (rename_node r n))
      (first_solved-rename r (solved_eq (is_logical g)) (solved_eq (is_logical (rename_goal r g)))
      (solved_eq-renamed r is (is_logical g) (is_logical (rename_goal r g)) (is_logical-rename g)) g.pure_pre)
      ∙ turn-rename (solve_pre k) (solve_pre-rename k) with_pre (λ m ls. refl) n (first_solved (solved_eq (is_logical g)) g.pure_pre)

  solve_post-rename : (k : ℕ) (n : Node) → solve_post k (rename_node r n) ≡ option_map (rename_node r) (solve_post k n)
  solve_post-rename zero n = refl
  solve_post-rename (suc k) n =
      let g : Goal = n.goal in
      ap (turn (solve_post k) with_post (rename_node r n))
      (first_solved-rename r (solved_any (λ v. var_in v g.exist)) (solved_any (λ v. var_in v (map r g.exist)))
      (solved_any-renamed r is (λ v. var_in v g.exist) (λ v. var_in v (map r g.exist)) (λ v. var_in-rename r is v g.exist)) g.pure_post)
      ∙ turn-rename (solve_post k) (solve_post-rename k) with_post (λ m ls. refl) n (first_solved (solved_any (λ v. var_in v g.exist)) g.pure_post)

  abbrev whole_post : Node → Option Node
  whole_post m = solve_post (length m.goal.pure_post) m

  whole_post-rename : (m : Node) → whole_post (rename_node r m) ≡ option_map (rename_node r) (whole_post m)
  whole_post-rename m =
      ap (λ k. solve_post k (rename_node r m)) (length-map m.goal.pure_post (rename_lit r)) ∙ solve_post-rename (length m.goal.pure_post) m

  pub solve-rename : (n : Node) → solve (rename_node r n) ≡ option_map (rename_node r) (solve n)
  solve-rename n =
      ap (option_and_then whole_post) (ap (λ k. solve_pre k (rename_node r n)) (length-map n.goal.pure_pre (rename_lit r)) ∙ solve_pre-rename (length n.goal.pure_pre) n)
      ∙ and_then-rename whole_post whole_post-rename (solve_pre (length n.goal.pure_pre) n)
