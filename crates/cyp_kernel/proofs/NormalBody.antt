-- A body that meets the goal of a normal form meets the goal of the node.
use Rattle.std.proofs.Common.{◌≡◌, refl, sym, ap, ◌∙◌, Bool, true, false, cond, List, [], ◌∷◌, map, ℤ, inl, inr}
use Rattle.std.specs.Prelude.{zip}
use Rattle.std.proofs.lemmas.Bool.{both_ways, false≢true, or_cases, or_left, or_right}
use Rattle.cyp_kernel.proofs.NormalMeaning.{normal_keeps}
use Rattle.cyp_kernel.proofs.NormalReady.{old_are_program}
use Rattle.cyp_kernel.specs.Naming.{Names, name_of}
use Rattle.cyp_kernel.specs.NormalSteady.{NormalBodies}
use Rattle.cyp_machine.specs.Values.{Values, lookup}
use Rattle.cyp_term.proofs.Equality.{Decides-var_eq}
use Rattle.cyp_term.specs.Meaning.{Assignment}
use Rattle.cyp_term.specs.Terms.{var_eq, var_in}
use Rattle.cyp_term.specs.declared.term.Var.{Var}

heads : (a b : ℤ) (xs ys : List ℤ) → a ∷ xs ≡ b ∷ ys → a ≡ b
heads a b xs ys e = cc

tails : (a b : ℤ) (xs ys : List ℤ) → a ∷ xs ≡ b ∷ ys → xs ≡ ys
tails a b xs ys e = cc

no_tail : (a : ℤ) (xs : List ℤ) → a ∷ xs ≡ [] → ⊥
no_tail a xs e = cc

-- the names of the old variables in order, at the new ones
pub renamed : (names : Names) (vs : Values) (s u : Assignment) (new old : List Var) → map u.number new ≡ map s.number old
    → ((v : Var) → var_in v old ≡ true → lookup vs (name_of names v) ≡ s.number v)
    → (v : Var) → var_in v new ≡ true → lookup vs (name_of (zip new (map (name_of names) old)) v) ≡ u.number v
renamed names vs s u [] old e named v h = absurd (false≢true h)
renamed names vs s u (p ∷ new) [] e named v h = absurd (no_tail (u.number p) (map u.number new) e)
renamed names vs s u (p ∷ new) (o ∷ old) e named v h =
    at (var_eq p v) refl
    (renamed names vs s u new old (tails (u.number p) (s.number o) (map u.number new) (map s.number old) e)
    (λ w k. named w (or_right (var_eq w o) (var_in w old) k)) v)
  where
    at : (b : Bool) → var_eq p v ≡ b → (var_in v new ≡ true → lookup vs (name_of (zip new (map (name_of names) old)) v) ≡ u.number v)
        → lookup vs (cond b (name_of names o) (name_of (zip new (map (name_of names) old)) v)) ≡ u.number v
    at true q more =
        named o (or_left (var_eq o o) (var_in o old) ((Decides-var_eq o o).1 refl))
        ∙ sym (heads (u.number p) (s.number o) (map u.number new) (map s.number old) e) ∙ ap u.number ((Decides-var_eq p v).0 q)
    at false q more =
        more (elim (or_cases (var_eq v p) (var_in v new) h) [
          | inl x ↦ absurd (both_ways (var_eq p v) q ((Decides-var_eq p v).1 (sym ((Decides-var_eq v p).0 x))))
          | inr x ↦ x
        ])

pub normal_bodies : NormalBodies
normal_bodies n r ready e ps names k b meets s h ns vs pre named j t l run =
    let kept = normal_keeps n r ready e s h ns pre in
    let met = meets kept.0 h ns vs kept.1
    (renamed names vs s kept.0 r.node.goal.program r.old kept.2 (λ v i. named v (old_are_program n r ready.sorted e v i))) j t l run in
    record { no_fault = met.no_fault; meets_post = λ i. kept.3 t.store (met.meets_post i) }
