-- What the normal form puts in for variables keeps each cardinality a variable of sort Card.
use Rattle.std.proofs.Common.{◌≡◌, ◌∙◌, ◌&&◌, Bool, List, [], ◌∷◌, Option, Some, None, IfSome, IsTrue, filter, map, not, option_map, ap, sym, subst}
use Rattle.std.proofs.lemmas.Bool.{and_parts, cond_both}
use Rattle.cyp_goal.specs.Numbering.{new_name, numbering}
use Rattle.cyp_goal.specs.Solving.{bind_int, bind_set, first_solved, first_some, solved_any, solved_base, solved_eq, solved_parts, solved_set, solved_side}
use Rattle.cyp_term.specs.Terms.{apply_var, base_eq, int_image, is_set_var, sort_eq, var_at, var_eq, var_in, var_term}
use Rattle.cyp_term.specs.declared.lit.Lit.{Lit}
use Rattle.cyp_term.specs.declared.lit.Lit.TheVariants.{Eq, Same}
use Rattle.cyp_term.specs.declared.lit.SetTerm.{SetTerm}
use Rattle.cyp_term.specs.declared.subst.IntBind.{IntBind}
use Rattle.cyp_term.specs.declared.subst.Subst.{Subst}
use Rattle.cyp_term.specs.declared.term.Sort.TheVariants.{Card, Int}
use Rattle.cyp_term.specs.declared.term.Term.{Term}
use Rattle.cyp_term.specs.declared.term.Var.{Var}
use Rattle.cyp_term.proofs.Equality.{Decides-sort_eq, Decides-var_eq}

abbrev pub IsCard : Var → Type 0
IsCard v = IsTrue (sort_eq v.sort Card)

-- a variable of sort Card stands for one of sort Card
abbrev pub KeepsCards : Subst → Type 0
KeepsCards by = (v : Var) → IsCard v → IsCard (apply_var by v)

-- ---- one variable put in

Int≢Card : Int ≡ Card → ⊥
Int≢Card e = cc

bind_int_keeps : (v : Var) (t : Term) → IsTrue (sort_eq v.sort Int) → KeepsCards (bind_int v t)
bind_int_keeps v t int w card =
    cond_both (var_eq v w) (Some t) None (λ o. IsCard (var_at w o))
    (λ e. absurd (Int≢Card (sym ((Decides-sort_eq v.sort Int).0 int) ∙ ap (λ (u : Var). u.sort) ((Decides-var_eq v w).0 e) ∙ (Decides-sort_eq w.sort Card).0 card)))
    (λ e. card)

bind_set_keeps : (v : Var) (u : SetTerm) → KeepsCards (bind_set v u)
bind_set_keeps v u w card = card

-- ---- equations that are solved

abbrev MayKeep : Option Subst → Type 0
MayKeep o = IfSome o KeepsCards

solved_base_keeps : (test : Var → Bool) (b : Option Var) (s t : Term) → MayKeep (solved_base test b s t)
solved_base_keeps test None s t = tt
solved_base_keeps test (Some v) s t =
    cond_both (sort_eq v.sort Int && test v && not (base_eq (Some v) t.base)) _ None MayKeep
    (λ e. bind_int_keeps v _ (and_parts (sort_eq v.sort Int) (test v) (and_parts (sort_eq v.sort Int && test v) (not (base_eq (Some v) t.base)) e).0).0)
    (λ e. tt)

solved_parts_keeps : (test : Var → Bool) (vs : List Var) (es : List Term) (t : SetTerm) → MayKeep (solved_parts test vs es t)
solved_parts_keeps test (v ∷ []) [] t = cond_both (test v && not (var_in v t.vars)) (Some (bind_set v t)) None MayKeep (λ e. bind_set_keeps v t) (λ e. tt)
solved_parts_keeps test _ _ t = tt

first_some_keeps : (a b : Option Subst) → MayKeep a → MayKeep b → MayKeep (first_some a b)
first_some_keeps None b h k = k
first_some_keeps (Some by) b h k = h

sides_keep : (test : Var → Bool) (s t : Term) → MayKeep (first_some (solved_side test s t) (solved_side test t s))
sides_keep test s t = first_some_keeps (solved_side test s t) (solved_side test t s) (solved_base_keeps test s.base s t) (solved_base_keeps test t.base t s)

solved_eq_keeps : (test : Var → Bool) (l : Lit) → MayKeep (solved_eq test l)
solved_eq_keeps test (Eq s t) = sides_keep test s t
solved_eq_keeps test _ = tt

solved_any_keeps : (test : Var → Bool) (l : Lit) → MayKeep (solved_any test l)
solved_any_keeps test (Eq s t) = sides_keep test s t
solved_any_keeps test (Same s t) =
    first_some_keeps (solved_set test s t) (solved_set test t s) (solved_parts_keeps test s.vars s.elems t) (solved_parts_keeps test t.vars t.elems s)
solved_any_keeps test _ = tt

-- what the first literal with an answer gives keeps cardinalities
abbrev pub PairKeeps : Option (Subst × List Lit) → Type 0
PairKeeps o = IfSome o (λ (p : Subst × List Lit). KeepsCards p.0)

module _ (f : Lit → Option Subst) (h : (l : Lit) → MayKeep (f l)) where
  first_solved_keeps : (ls : List Lit) → PairKeeps (first_solved f ls)
  first_solved_keeps [] = tt
  first_solved_keeps (l ∷ ls) =
      elim (f l) as (λ (o : Option Subst).
      MayKeep o → PairKeeps (elim o [ Some by ↦ Some (by, ls) | None ↦ option_map (λ (p : Subst × List Lit). (p.0, l ∷ p.1)) (first_solved f ls) ])) [
        | Some by ↦ (λ k. k)
        | None ↦ (λ k. behind (first_solved f ls) (first_solved_keeps ls))
      ]
      (h l)
    where
      behind : (o : Option (Subst × List Lit)) → PairKeeps o → PairKeeps (option_map (λ (p : Subst × List Lit). (p.0, l ∷ p.1)) o)
      behind None k = tt
      behind (Some p) k = k

pub first_eq_keeps : (test : Var → Bool) (ls : List Lit) → PairKeeps (first_solved (solved_eq test) ls)
first_eq_keeps test = first_solved_keeps (solved_eq test) (solved_eq_keeps test)

pub first_any_keeps : (test : Var → Bool) (ls : List Lit) → PairKeeps (first_solved (solved_any test) ls)
first_any_keeps test = first_solved_keeps (solved_any test) (solved_any_keeps test)

-- ---- new numbers

module _ (vs : List Var) where
  abbrev renamed : Var → IntBind
  renamed v = record { var = v; to = var_term (new_name vs v) }

  renamed_keeps : (ws : List Var) (v : Var) → IsCard v → IsCard (var_at v (int_image (map renamed ws) v))
  renamed_keeps [] v card = card
  renamed_keeps (w ∷ ws) v card =
      cond_both (var_eq w v) (Some (var_term (new_name vs w))) (int_image (map renamed ws) v) (λ o. IsCard (var_at v o))
      (λ e. subst IsCard (sym ((Decides-var_eq w v).0 e)) card)
      (λ e. renamed_keeps ws v card)

  pub numbering_keeps : KeepsCards (numbering vs)
  numbering_keeps v card = renamed_keeps (filter (λ v. not (is_set_var v)) vs) v card
