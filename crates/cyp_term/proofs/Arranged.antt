-- Terms whose values are equal exactly where their classes are, and which integers are values of terms.
use Rattle.std.proofs.Common.{◌≡◌, ◌≢◌, ◌⊎◌, ◌↔◌, ℕ, ℤ, List, [], ◌∷◌, Decides, refl, ap, ◌∙◌, inl, inr}
use Rattle.std.specs.Ordering.{int_eq}
use Rattle.std.proofs.lemmas.Bool.{cases_Bool}
use Rattle.std.proofs.lemmas.Bool.Decides.{Decides-int_eq, not_from_Decides}
use Rattle.cyp_term.specs.declared.term.Term.{Term}
use Rattle.cyp_term.specs.Terms.{term_eq}
use Rattle.cyp_term.specs.Regions.{term_in, IsArranged}
use Rattle.cyp_term.proofs.Equality.{Decides-term_eq}
use Rattle.cyp_term.proofs.Lists.{Among, Decides-some}

pub Decides-term_in : (t : Term) (ts : List Term) → Decides (term_in t ts) (Among t ts)
Decides-term_in t ts = Decides-some (λ y. t ≡ y) (term_eq t) (Decides-term_eq t) ts

abbrev pub Arranged : (Term → ℕ) → List Term → (Term → ℤ) → Type 0
Arranged class terms val = (s t : Term) → Among s terms → Among t terms → (val s ≡ val t) ↔ (class s ≡ class t)

pub arranged_among : (class : Term → ℕ) (terms : List Term) (val : Term → ℤ) → IsArranged class terms val → Arranged class terms val
arranged_among class terms val h s t i j = h s t ((Decides-term_in s terms).1 i) ((Decides-term_in t terms).1 j)

-- whether an integer is the value of a term
abbrev pub IsValue : (Term → ℤ) → List Term → ℤ → Type 0
IsValue val es z = (e : Term) × Among e es × (z ≡ val e)

pub value_or_not : (val : Term → ℤ) (es : List Term) (z : ℤ) → IsValue val es z ⊎ ((e : Term) → Among e es → z ≢ val e)
value_or_not val [] z = inr (λ e i. absurd i)
value_or_not val (w ∷ es) z =
    elim (cases_Bool (int_eq z (val w))) [
      | inl p ↦ inl (w, inl refl, (Decides-int_eq z (val w)).0 p)
      | inr p ↦ elim (value_or_not val es z) [
        | inl h ↦ inl (h.0, inr h.1, h.2)
        | inr h ↦ inr (λ e i q. elim i [ inl j ↦ not_from_Decides _ (Decides-int_eq z (val w)) p (q ∙ ap val j) | inr j ↦ h e j q ])
      ]
    ]
