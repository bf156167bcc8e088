-- The tests of equality decide it.
use Rattle.std.proofs.Common.{◌≡◌, Option, Some, None, Decides, refl, ap}
use Rattle.std.proofs.lemmas.Bool.Decides.{Decides-eqb, Decides-int_eq, Decides-and, Decides-like}
use Rattle.cyp_term.specs.declared.term.Sort.{Sort}
use Rattle.cyp_term.specs.declared.term.Sort.TheVariants.{Int, Card, Set}
use Rattle.cyp_term.specs.declared.term.Var.{Var}
use Rattle.cyp_term.specs.declared.term.Term.{Term}
use Rattle.cyp_term.specs.Terms.{sort_eq, var_eq, base_eq, term_eq}
use Rattle.cyp_term.proofs.Deciding.{Decides-yes, Decides-no}

pub Decides-sort_eq : (a b : Sort) → Decides (sort_eq a b) (a ≡ b)
Decides-sort_eq Int Int = Decides-yes refl
Decides-sort_eq Card Card = Decides-yes refl
Decides-sort_eq Set Set = Decides-yes refl
Decides-sort_eq Int Card = Decides-no (λ e. cc)
Decides-sort_eq Int Set = Decides-no (λ e. cc)
Decides-sort_eq Card Int = Decides-no (λ e. cc)
Decides-sort_eq Card Set = Decides-no (λ e. cc)
Decides-sort_eq Set Int = Decides-no (λ e. cc)
Decides-sort_eq Set Card = Decides-no (λ e. cc)

pub Decides-var_eq : (v w : Var) → Decides (var_eq v w) (v ≡ w)
Decides-var_eq v w =
    Decides-like _ (λ h. λ i. record { sort = h.0 i; number = h.1 i }) (λ e. (ap (λ x. x.sort) e, ap (λ x. x.number) e))
    (Decides-and _ _ (Decides-sort_eq v.sort w.sort) (Decides-eqb v.number w.number))

pub Decides-base_eq : (v w : Option Var) → Decides (base_eq v w) (v ≡ w)
Decides-base_eq None None = Decides-yes refl
Decides-base_eq (Some v) (Some w) = Decides-like _ (λ e. ap Some e) (λ e. cc) (Decides-var_eq v w)
Decides-base_eq None (Some w) = Decides-no (λ e. cc)
Decides-base_eq (Some v) None = Decides-no (λ e. cc)

pub Decides-term_eq : (s t : Term) → Decides (term_eq s t) (s ≡ t)
Decides-term_eq s t =
    Decides-like _ (λ h. λ i. record { base = h.0 i; offset = h.1 i }) (λ e. (ap (λ x. x.base) e, ap (λ x. x.offset) e))
    (Decides-and _ _ (Decides-base_eq s.base t.base) (Decides-int_eq s.offset t.offset))
