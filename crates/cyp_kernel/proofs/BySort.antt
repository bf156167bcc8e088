-- Assignments that agree at a variable, by its sort.
use Rattle.std.proofs.Common.{◌≡◌, refl, ◌∙◌, not, true}
use Rattle.std.proofs.lemmas.Bool.{false≢true}
use Rattle.cyp_goal.proofs.Renumber.{no_set}
use Rattle.cyp_kernel.specs.Correct.{AgreeBy}
use Rattle.cyp_term.specs.Meaning.{Assignment, SameMembers}
use Rattle.cyp_term.specs.Terms.{is_set_var, sort_eq}
use Rattle.cyp_term.specs.declared.term.Sort.{Sort}
use Rattle.cyp_term.specs.declared.term.Sort.TheVariants.{Card, Int, Set}
use Rattle.cyp_term.specs.declared.term.Var.{Var}

-- at the number or at the members, as the sort says
pub agree_from : (k : Sort) (s t : Assignment) (v : Var) → (not (sort_eq k Set) ≡ true → s.number v ≡ t.number v) → (sort_eq k Set ≡ true → SameMembers (s.members v) (t.members v)) → AgreeBy k s t v
agree_from Int s t v f g = f refl
agree_from Card s t v f g = f refl
agree_from Set s t v f g = g refl

pub number_at : (k : Sort) (s t : Assignment) (v : Var) → not (sort_eq k Set) ≡ true → AgreeBy k s t v → s.number v ≡ t.number v
number_at Int s t v h a = a
number_at Card s t v h a = a
number_at Set s t v h a = absurd (false≢true h)

members_at : (k : Sort) (s t : Assignment) (v : Var) → sort_eq k Set ≡ true → AgreeBy k s t v → SameMembers (s.members v) (t.members v)
members_at Int s t v h a = absurd (false≢true h)
members_at Card s t v h a = absurd (false≢true h)
members_at Set s t v h a = a

-- a variable that is no set has the same number, a set the same members
pub same_number : (s t : Assignment) (v : Var) → no_set v ≡ true → AgreeBy v.sort s t v → s.number v ≡ t.number v
same_number s t v h a = number_at v.sort s t v h a

pub same_members : (s t : Assignment) (v : Var) → is_set_var v ≡ true → AgreeBy v.sort s t v → SameMembers (s.members v) (t.members v)
same_members s t v h a = members_at v.sort s t v h a

-- and so with a third
pub agree_then : (s t u : Assignment) (v : Var) → AgreeBy v.sort s t v → t.number v ≡ u.number v → SameMembers (t.members v) (u.members v) → AgreeBy v.sort s u v
agree_then s t u v a p q = agree_from v.sort s u v (λ h. same_number s t v h a ∙ p) (λ h z. same_members s t v h a z ∙ q z)
