-- The values of a body's variables: those of program expressions, and after a new variable is bound.
use Rattle.std.proofs.Common.{◌≡◌, refl, sym, ap, ◌∙◌, ℕ, ◌<◌, ◌==◌, inl, inr, Bool, true, false, cond, List, [], ◌∷◌, ◌++◌, map, ℤ, ◌+ℤ◌, Option, Some, None, arith, subst}
use Rattle.std.proofs.lemmas.Bool.{both_ways, cond-true, eq-eqb, false_from_ne_true, false≢true, ne_eqb, or_cases, or_parts}
use Rattle.std.proofs.lemmas.List.Folds.{list_any-append}
use Rattle.cyp_heap.specs.declared.goal.Goal.{Goal}
use Rattle.cyp_kernel.specs.Meets.{AreNamed, IsNaming}
use Rattle.cyp_kernel.specs.Naming.{Names, expr_of, name_of}
use Rattle.cyp_machine.specs.Values.{Values, expr_value, lookup}
use Rattle.cyp_step.specs.Shown.{is_program_expr}
use Rattle.cyp_term.proofs.Equality.{Decides-var_eq}
use Rattle.cyp_term.specs.Meaning.{Assignment, value}
use Rattle.cyp_term.specs.Terms.{var_eq, var_in}
use Rattle.cyp_term.specs.declared.term.Term.{Term}
use Rattle.cyp_term.specs.declared.term.Var.{Var}

expr_base : (names : Names) (vs : Values) (s : Assignment) (g : Goal) (b : Option Var) (z : ℤ) → AreNamed names vs s g.program
    → is_program_expr g (record { base = b; offset = z }) ≡ true → expr_value vs (expr_of names (record { base = b; offset = z })) ≡ value s (record { base = b; offset = z })
expr_base names vs s g None z named p = refl
expr_base names vs s g (Some v) z named p = ap (λ (x : ℤ). x +ℤ z) (named v p)

-- a program expression has its term's value
pub expr_is : (names : Names) (vs : Values) (s : Assignment) (g : Goal) (t : Term) → AreNamed names vs s g.program → is_program_expr g t ≡ true
    → expr_value vs (expr_of names t) ≡ value s t
expr_is names vs s g t named p = expr_base names vs s g t.base t.offset named p

-- ---- names

abbrev pub keys_of : Names → List Var
keys_of names = map (λ (p : Var × ℕ). p.0) names

var_flip : (v w : Var) → var_eq v w ≡ true → var_eq w v ≡ true
var_flip v w e = (Decides-var_eq w v).1 (sym ((Decides-var_eq v w).0 e))

name_left : (names more : Names) (v : Var) → var_in v (keys_of names) ≡ true → name_of (names ++ more) v ≡ name_of names v
name_left [] more v h = absurd (false≢true h)
name_left (p ∷ ps) more v h = elim (or_cases (var_eq v p.0) (var_in v (keys_of ps)) h) [
  | inl e ↦
      cond-true (var_eq p.0 v) p.1 (name_of (ps ++ more) v) (var_flip v p.0 e) ∙ sym (cond-true (var_eq p.0 v) p.1 (name_of ps v) (var_flip v p.0 e))
  | inr k ↦ ap (λ (m : ℕ). cond (var_eq p.0 v) p.1 m) (name_left ps more v k)
]

name_new : (names : Names) (y : Var) (new : ℕ) → var_in y (keys_of names) ≡ false → name_of (names ++ (y, new) ∷ []) y ≡ new
name_new [] y new h = cond-true (var_eq y y) new 0 ((Decides-var_eq y y).1 refl)
name_new (p ∷ ps) y new h =
    let parts = or_parts (var_eq y p.0) (var_in y (keys_of ps)) h in
    let other : var_eq p.0 y ≡ false = false_from_ne_true (var_eq p.0 y) (λ e. both_ways (var_eq y p.0) parts.0 (var_flip p.0 y e)) in
    ap (λ (b : Bool). cond b p.1 (name_of (ps ++ (y, new) ∷ []) y)) other ∙ name_new ps y new parts.1

-- the program variables and a new one, where the assignment gives the old ones the same values
module _ (names : Names) (vs : Values) (s u : Assignment) (program : List Var) (y : Var) (new : ℕ) (naming : IsNaming names program new) (out : var_in y program ≡ false) (named : AreNamed names vs s program)
    (same : (v : Var) → var_in v program ≡ true → s.number v ≡ u.number v) where
  key : (v : Var) → var_in v program ≡ true → var_in v (keys_of names) ≡ true
  key v e = subst (λ (vs : List Var). var_in v vs ≡ true) (sym naming.keys) e

  not_new : (a b : ℕ) → a < b → (b == a) ≡ false
  not_new a b l = ne_eqb b a (λ e. omega arith)

  old : (v : Var) → var_in v program ≡ true → lookup ((new, u.number y) ∷ vs) (name_of (names ++ (y, new) ∷ []) v) ≡ u.number v
  old v e =
      ap (λ (m : ℕ). lookup ((new, u.number y) ∷ vs) m) (name_left names ((y, new) ∷ []) v (key v e))
      ∙ ap (λ (b : Bool). cond b (u.number y) (lookup vs (name_of names v))) (not_new (name_of names v) new (naming.below v e))
      ∙ named v e
      ∙ same v e

  at_new : (v : Var) → v ≡ y → lookup ((new, u.number y) ∷ vs) (name_of (names ++ (y, new) ∷ []) v) ≡ u.number v
  at_new v p =
      subst (λ (w : Var). lookup ((new, u.number y) ∷ vs) (name_of (names ++ (y, new) ∷ []) w) ≡ u.number w) (sym p)
      (ap (λ (m : ℕ). lookup ((new, u.number y) ∷ vs) m) (name_new names y new (subst (λ (ws : List Var). var_in y ws ≡ false) (sym naming.keys) out))
      ∙ ap (λ (b : Bool). cond b (u.number y) (lookup vs new)) (eq-eqb new new refl))

  in_last : (v : Var) → var_in v (y ∷ []) ≡ true → v ≡ y
  in_last v h = elim (or_cases (var_eq v y) false h) [ inl e ↦ (Decides-var_eq v y).0 e | inr e ↦ absurd (false≢true e) ]

  pub named_with_new : AreNamed (names ++ (y, new) ∷ []) ((new, u.number y) ∷ vs) u (program ++ y ∷ [])
  named_with_new v h = elim (or_cases (var_in v program) (var_in v (y ∷ [])) (sym (list_any-append (var_eq v) program (y ∷ [])) ∙ h)) [
    | inl e ↦ old v e
    | inr e ↦ at_new v (in_last v e)
  ]
