-- A postcondition that is met from other values of variables that don't stand in it is met from these.
use Rattle.std.proofs.Common.{◌≡◌, refl, sym, ap, ◌∙◌, inl, inr, Bool, true, false, cond, List, ◌++◌}
use Rattle.std.specs.List.{list_all}
use Rattle.cyp_goal.proofs.EachVar.{Each, first, second}
use Rattle.cyp_heap.specs.Chunks.{chunks_vars}
use Rattle.cyp_heap.specs.Stores.{Store}
use Rattle.cyp_heap.specs.declared.goal.Goal.{Goal}
use Rattle.cyp_heap.specs.declared.pred.Preds.{Preds}
use Rattle.cyp_kernel.proofs.AgreeVars.{AgreeAt, chunk_sorted, lit_sorted, side_by_vars}
use Rattle.cyp_kernel.specs.Correct.{AgreeBy, MeetsPost}
use Rattle.cyp_term.proofs.Equality.{Decides-var_eq}
use Rattle.cyp_term.proofs.Lists.{Among, Among-cases, some_from, some_out}
use Rattle.cyp_term.specs.Meaning.{Assignment, int_in}
use Rattle.cyp_term.specs.Terms.{lits_vars, var_eq, var_in}
use Rattle.cyp_term.specs.declared.term.Sort.{Sort}
use Rattle.cyp_term.specs.declared.term.Sort.TheVariants.{Card, Int, Set}
use Rattle.cyp_term.specs.declared.term.Var.{Var}

pub among_from_in : (v : Var) (vs : List Var) → var_in v vs ≡ true → Among v vs
among_from_in v vs h = let w = some_out (var_eq v) vs h in rw ((Decides-var_eq v w.0).0 w.2) w.1

pub in_from_among : (v : Var) (vs : List Var) → Among v vs → var_in v vs ≡ true
in_from_among v vs h = some_from (var_eq v) v vs h ((Decides-var_eq v v).1 refl)

pub agree_sym : (k : Sort) (s t : Assignment) (v : Var) → AgreeBy k s t v → AgreeBy k t s v
agree_sym Int s t v a = sym a
agree_sym Card s t v a = sym a
agree_sym Set s t v a = λ z. sym (a z)

pub agree_trans : (k : Sort) (s t u : Assignment) (v : Var) → AgreeBy k s t v → AgreeBy k t u v → AgreeBy k s u v
agree_trans Int s t u v a b = a ∙ b
agree_trans Card s t u v a b = a ∙ b
agree_trans Set s t u v a b = λ z. a z ∙ b z

pub agree_self : (k : Sort) (s : Assignment) (v : Var) → AgreeBy k s s v
agree_self Int s v = refl
agree_self Card s v = refl
agree_self Set s v = λ z. refl

-- the second assignment at these variables, and the first at all others
abbrev pub mixed : List Var → Assignment → Assignment → Assignment
mixed vs s t = record { number = λ v. cond (var_in v vs) (t.number v) (s.number v); members = λ v. cond (var_in v vs) (t.members v) (s.members v) }

module _ (vs : List Var) (s t : Assignment) where
  pub mixed_in : (k : Sort) (v : Var) → var_in v vs ≡ true → AgreeBy k t (mixed vs s t) v
  mixed_in Int v e = sym (ap (λ (b : Bool). cond b (t.number v) (s.number v)) e)
  mixed_in Card v e = sym (ap (λ (b : Bool). cond b (t.number v) (s.number v)) e)
  mixed_in Set v e = λ z. sym (ap (λ (b : Bool). int_in z (cond b (t.members v) (s.members v))) e)

  pub mixed_out : (k : Sort) (v : Var) → var_in v vs ≡ false → AgreeBy k s (mixed vs s t) v
  mixed_out Int v e = sym (ap (λ (b : Bool). cond b (t.number v) (s.number v)) e)
  mixed_out Card v e = sym (ap (λ (b : Bool). cond b (t.number v) (s.number v)) e)
  mixed_out Set v e = λ z. sym (ap (λ (b : Bool). int_in z (cond b (t.members v) (s.members v))) e)

  mixed_by : (v : Var) (b : Bool) → var_in v vs ≡ b → (b ≡ true → AgreeBy v.sort s t v) → AgreeBy v.sort s (mixed vs s t) v
  mixed_by v true e a = agree_trans v.sort s t (mixed vs s t) v (a refl) (mixed_in v.sort v e)
  mixed_by v false e a = mixed_out v.sort v e

  pub mixed_at : Each (AgreeAt t (mixed vs s t)) vs
  mixed_at v h = mixed_in v.sort v (in_from_among v vs h)

module _ (preds : Preds) (g : Goal) (s u : Assignment) (h : Store) where
  -- the variables of the postcondition
  abbrev pub post_vars : List Var
  post_vars = lits_vars g.pure_post ++ chunks_vars g.post.chunks

  pub met_by_others : list_all lit_sorted g.pure_post ≡ true → list_all chunk_sorted g.post.chunks ≡ true → Each (AgreeAt s u) (lits_vars g.pure_post)
      → Each (AgreeAt s u) (chunks_vars g.post.chunks) → MeetsPost preds g u h → MeetsPost preds g s h
  met_by_others lits chunks a b p =
      let t : Assignment = mixed post_vars s p.0 in
      let at : Each (AgreeAt p.0 t) post_vars = mixed_at post_vars s p.0 in (
        t,
        p.1,
        (λ v out. mixed_by post_vars s p.0 v (var_in v post_vars) refl (λ e. agree_trans v.sort s u p.0 v (of_post v (among_from_in v post_vars e)) (p.2 v out))),
        side_by_vars p.0 t preds g.pure_post g.post.chunks h p.1 lits chunks (first (AgreeAt p.0 t) (lits_vars g.pure_post) (chunks_vars g.post.chunks) at)
            (second (AgreeAt p.0 t) (lits_vars g.pure_post) (chunks_vars g.post.chunks) at) p.3,
      )
    where
      of_post : (v : Var) → Among v post_vars → AgreeBy v.sort s u v
      of_post v k = elim (Among-cases v (lits_vars g.pure_post) (chunks_vars g.post.chunks) k) [ inl m ↦ a v m | inr m ↦ b v m ]
