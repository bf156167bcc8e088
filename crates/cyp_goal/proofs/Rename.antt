-- A node under a renaming of its variables.
use Rattle.std.proofs.Common.{◌≡◌, Option, Some, None, ◌&&◌, refl, ap, ap₂}
use Rattle.std.specs.Ordering.{int_eq}
use Rattle.cyp_term.specs.Terms.{base_eq, lit_eq, set_eq, term_eq, var_eq}
use Rattle.cyp_term.specs.declared.lit.Lit.{Lit}
use Rattle.cyp_term.specs.declared.lit.Lit.TheVariants.{Eq, Le, Lt, Member, Ne, NotMember, NotSame, NotSub, Same, Sub}
use Rattle.cyp_term.specs.declared.lit.SetTerm.{SetTerm}
use Rattle.cyp_term.specs.declared.term.Term.{Term}
use Rattle.cyp_term.specs.declared.term.Var.{Var}
use Rattle.cyp_goal.proofs.Maps.{lists_eq-map}
pub use Rattle.cyp_goal.specs.Renamed.{rename_arg, rename_base, rename_chunk, rename_goal, rename_images, rename_link, rename_lit, rename_node, rename_set, rename_term}

-- sorts stay, and different variables stay different
pub record IsRenaming (r : Var → Var) : Type 0 where
  pub apart : (v w : Var) → var_eq (r v) (r w) ≡ var_eq v w
  pub sort : (v : Var) → (r v).sort ≡ v.sort

-- ---- what is equal stays equal, and what differs stays different
module _ (r : Var → Var) (is : IsRenaming r) where
  pub base_eq-rename : (a b : Option Var) → base_eq (rename_base r a) (rename_base r b) ≡ base_eq a b
  base_eq-rename None None = refl
  base_eq-rename None (Some w) = refl
  base_eq-rename (Some v) None = refl
  base_eq-rename (Some v) (Some w) = is.apart v w

  pub term_eq-rename : (a b : Term) → term_eq (rename_term r a) (rename_term r b) ≡ term_eq a b
  term_eq-rename a b = ap (λ e. e && int_eq a.offset b.offset) (base_eq-rename a.base b.base)

  pub set_eq-rename : (a b : SetTerm) → set_eq (rename_set r a) (rename_set r b) ≡ set_eq a b
  set_eq-rename a b =
      ap₂ (λ x y. x && y) (lists_eq-map r var_eq var_eq is.apart a.vars b.vars) (lists_eq-map (rename_term r) term_eq term_eq term_eq-rename a.elems b.elems)

  pub lit_eq-rename : (l m : Lit) → lit_eq (rename_lit r l) (rename_lit r m) ≡ lit_eq l m
  lit_eq-rename (Eq a b) (Eq c d) = ap₂ (λ x y. x && y) (term_eq-rename a c) (term_eq-rename b d)
  lit_eq-rename (Ne a b) (Ne c d) = ap₂ (λ x y. x && y) (term_eq-rename a c) (term_eq-rename b d)
  lit_eq-rename (Le a b) (Le c d) = ap₂ (λ x y. x && y) (term_eq-rename a c) (term_eq-rename b d)
  lit_eq-rename (Lt a b) (Lt c d) = ap₂ (λ x y. x && y) (term_eq-rename a c) (term_eq-rename b d)
  lit_eq-rename (Same a b) (Same c d) = ap₂ (λ x y. x && y) (set_eq-rename a c) (set_eq-rename b d)
  lit_eq-rename (NotSame a b) (NotSame c d) = ap₂ (λ x y. x && y) (set_eq-rename a c) (set_eq-rename b d)
  lit_eq-rename (Member a b) (Member c d) = ap₂ (λ x y. x && y) (term_eq-rename a c) (set_eq-rename b d)
  lit_eq-rename (NotMember a b) (NotMember c d) = ap₂ (λ x y. x && y) (term_eq-rename a c) (set_eq-rename b d)
  lit_eq-rename (Sub a b) (Sub c d) = ap₂ (λ x y. x && y) (set_eq-rename a c) (set_eq-rename b d)
  lit_eq-rename (NotSub a b) (NotSub c d) = ap₂ (λ x y. x && y) (set_eq-rename a c) (set_eq-rename b d)
  lit_eq-rename _ _ = refl
