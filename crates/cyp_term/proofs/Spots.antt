-- What the tests of a literal at a spot tell of an integer that the spot describes.
use Rattle.std.proofs.Common.{◌≡◌, ◌↔◌, ℕ, ℤ, List, [], ◌∷◌, ◌++◌, map, not, ◌&&◌, Decides, refl, inl, inr}
use Rattle.std.specs.Bool.{beq}
use Rattle.std.specs.List.{flat_map, list_any}
use Rattle.std.proofs.lemmas.Bool.{false≢true}
use Rattle.std.proofs.lemmas.Bool.Decides.{Decides-or, Decides-and, Decides-not, Decides-like}
use Rattle.cyp_term.specs.declared.term.Var.{Var}
use Rattle.cyp_term.specs.declared.term.Term.{Term}
use Rattle.cyp_term.specs.declared.lit.SetTerm.{SetTerm}
use Rattle.cyp_term.specs.declared.lit.Lit.{Lit}
use Rattle.cyp_term.specs.declared.lit.Lit.TheVariants.{Same, NotSame, Member, NotMember, Sub, NotSub}
use Rattle.cyp_term.specs.Terms.{var_eq, term_eq, var_in}
use Rattle.cyp_term.specs.Regions.{elem_terms, lit_set_vars, all_terms, all_set_vars, Spot, has_class, in_spot, allows}
use Rattle.cyp_term.proofs.Deciding.{Decides-beq, Decides-implies}
use Rattle.cyp_term.proofs.Equality.{Decides-var_eq, Decides-term_eq}
use Rattle.cyp_term.proofs.Lists.{Among, Among-left, Among-right, Among-cases, flat_in}
use Rattle.cyp_term.proofs.Repeats.{without_repeats_in}
use Rattle.cyp_term.proofs.Literals.{members_at}

-- the spot is that of the integer z
pub record IsSpotOf (class : Term → ℕ) (val : Term → ℤ) (sets : Var → List ℤ) (terms : List Term) (vars : List Var) (x : Spot) (z : ℤ) : Type 0 where
  pub region : (v : Var) → Among v vars → Decides (var_in v x.region) (Among z (sets v))
  pub classes : (e : Term) → Among e terms → Decides (has_class x.class (class e)) (z ≡ val e)

-- the terms and variables of a set are among those given
abbrev pub IsOf : List Term → List Var → SetTerm → Type 0
IsOf terms vars s = ((v : Var) → Among v s.vars → Among v vars) × ((e : Term) → Among e s.elems → Among e terms)

-- what the literal says of the integer z alone
abbrev pub AllowsAt : (Term → ℤ) → (Var → List ℤ) → ℤ → Lit → Type 0
AllowsAt val sets z (Same s t) = Among z (members_at val sets s) ↔ Among z (members_at val sets t)
AllowsAt val sets z (Member e s) = z ≡ val e → Among z (members_at val sets s)
AllowsAt val sets z (NotMember e s) = z ≡ val e → ¬ Among z (members_at val sets s)
AllowsAt val sets z (Sub s t) = Among z (members_at val sets s) → Among z (members_at val sets t)
AllowsAt val sets z _ = Unit {0}

abbrev pub IsLitOf : List Term → List Var → Lit → Type 0
IsLitOf terms vars (Same s t) = IsOf terms vars s × IsOf terms vars t
IsLitOf terms vars (NotSame s t) = IsOf terms vars s × IsOf terms vars t
IsLitOf terms vars (Member e s) = Among e terms × IsOf terms vars s
IsLitOf terms vars (NotMember e s) = Among e terms × IsOf terms vars s
IsLitOf terms vars (Sub s t) = IsOf terms vars s × IsOf terms vars t
IsLitOf terms vars (NotSub s t) = IsOf terms vars s × IsOf terms vars t
IsLitOf terms vars _ = Unit {0}

module _ (class : Term → ℕ) (val : Term → ℤ) (sets : Var → List ℤ) (terms : List Term) (vars : List Var) (x : Spot) (z : ℤ) (is : IsSpotOf class val sets terms vars x z) where
  in_vars : (vs : List Var) → ((v : Var) → Among v vs → Among v vars) → Decides (list_any (λ v. var_in v x.region) vs) (Among z (flat_map sets vs))
  in_vars [] h = (λ e. absurd (false≢true e), λ k. absurd k)
  in_vars (v ∷ vs) h =
      Decides-like _ (λ k. elim k [ inl i ↦ Among-left _ _ _ i | inr i ↦ Among-right _ _ _ i ]) (λ k. Among-cases z (sets v) (flat_map sets vs) k)
      (Decides-or _ _ (is.region v (h v (inl refl))) (in_vars vs (λ w i. h w (inr i))))

  in_elems : (es : List Term) → ((e : Term) → Among e es → Among e terms) → Decides (list_any (λ e. has_class x.class (class e)) es) (Among z (map val es))
  in_elems [] h = (λ e. absurd (false≢true e), λ k. absurd k)
  in_elems (e ∷ es) h = Decides-or _ _ (is.classes e (h e (inl refl))) (in_elems es (λ w i. h w (inr i)))

  pub Decides-in_spot : (s : SetTerm) → IsOf terms vars s → Decides (in_spot class x s) (Among z (members_at val sets s))
  Decides-in_spot s h =
      Decides-like _ (λ k. elim k [ inl i ↦ Among-left _ _ _ i | inr i ↦ Among-right _ _ _ i ])
      (λ k. Among-cases z (flat_map sets s.vars) (map val s.elems) k)
      (Decides-or _ _ (in_vars s.vars h.0) (in_elems s.elems h.1))

  pub Decides-allows : (l : Lit) → IsLitOf terms vars l → Decides (allows class x l) (AllowsAt val sets z l)
  Decides-allows (Same s t) h = Decides-beq _ _ (Decides-in_spot s h.0) (Decides-in_spot t h.1)
  Decides-allows (Member e s) h = Decides-implies _ _ (is.classes e h.0) (Decides-in_spot s h.1)
  Decides-allows (NotMember e s) h = Decides-implies _ _ (is.classes e h.0) (Decides-not _ (Decides-in_spot s h.1))
  Decides-allows (Sub s t) h = Decides-implies _ _ (Decides-in_spot s h.0) (Decides-in_spot t h.1)
  Decides-allows _ h = (λ e. tt, λ k. refl)

  pub Decides-shows_same : (s t : SetTerm) → IsOf terms vars s → IsOf terms vars t → Decides (not (beq (in_spot class x s) (in_spot class x t))) (¬ (Among z (members_at val sets s) ↔ Among z (members_at val sets t)))
  Decides-shows_same s t h k = Decides-not _ (Decides-beq _ _ (Decides-in_spot s h) (Decides-in_spot t k))

  pub Decides-shows_sub : (s t : SetTerm) → IsOf terms vars s → IsOf terms vars t → Decides (in_spot class x s && not (in_spot class x t)) (Among z (members_at val sets s) × ¬ Among z (members_at val sets t))
  Decides-shows_sub s t h k = Decides-and _ _ (Decides-in_spot s h) (Decides-not _ (Decides-in_spot t k))

-- ---- each literal of a list is of the list's terms and variables
pair_of : (terms : List Term) (vars : List Var) (s t : SetTerm) → ((e : Term) → Among e (s.elems ++ t.elems) → Among e terms) → ((v : Var) → Among v (s.vars ++ t.vars) → Among v vars) → IsOf terms vars s × IsOf terms vars t
pair_of terms vars s t h k = (
  (λ v i. k v (Among-left v s.vars t.vars i), λ e i. h e (Among-left e s.elems t.elems i)),
  (λ v i. k v (Among-right v s.vars t.vars i), λ e i. h e (Among-right e s.elems t.elems i)),
)

lit_of : (terms : List Term) (vars : List Var) (l : Lit) → ((e : Term) → Among e (elem_terms l) → Among e terms) → ((v : Var) → Among v (lit_set_vars l) → Among v vars) → IsLitOf terms vars l
lit_of terms vars (Same s t) h k = pair_of terms vars s t h k
lit_of terms vars (NotSame s t) h k = pair_of terms vars s t h k
lit_of terms vars (Member e s) h k = (h e (inl refl), (k, λ w i. h w (inr i)))
lit_of terms vars (NotMember e s) h k = (h e (inl refl), (k, λ w i. h w (inr i)))
lit_of terms vars (Sub s t) h k = pair_of terms vars s t h k
lit_of terms vars (NotSub s t) h k = pair_of terms vars s t h k
lit_of terms vars _ h k = tt

pub IsLitOf-among : (l : Lit) (ls : List Lit) → Among l ls → IsLitOf (all_terms ls) (all_set_vars ls) l
unfolding all_terms all_set_vars
IsLitOf-among l ls h =
    lit_of (all_terms ls) (all_set_vars ls) l (λ e i. without_repeats_in term_eq Decides-term_eq e (flat_map elem_terms ls) (flat_in elem_terms e l ls h i))
    (λ v i. without_repeats_in var_eq Decides-var_eq v (flat_map lit_set_vars ls) (flat_in lit_set_vars v l ls h i))
