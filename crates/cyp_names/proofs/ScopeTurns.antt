-- Turns of the loops over a scope.
use Rattle.std.proofs.Common.{Bool, ◌∷◌, List, ap, arith, cond, drop, false, get_or, length, refl, subst, sym, true, ℕ, ◌+◌, ◌<◌, ◌∙◌, ◌≡◌}
use Rattle.std.specs.Str.{bytes_eq}
use Rattle.cyp_term.specs.Terms.{sort_eq}
use Rattle.cyp_term.specs.declared.term.Sort.{Sort}
use Rattle.cyp_term.proofs.Turns.{drop_here}
use Rattle.cyp_names.specs.ReadTerms.{Scope, rank_of, sort_in}
use Rattle.cyp_names.specs.Uses.{Use}

module _ (us : Scope) (i : ℕ) (u : Use) (name : List ℕ) (within : i < length us) (at : u ≡ get_or us i u) where
  here : {A : Type 0} (f : Scope → A) → f (drop i us) ≡ f (u ∷ drop (i + 1) us)
  here f = ap f (drop_here us i u within) ∙ ap (λ (w : Use). f (w ∷ drop (i + 1) us)) (sym at)

  -- another name
  pub sort_turn : bytes_eq u.name.text name ≡ false → (s : Sort) → sort_in (drop i us) name ≡ s → sort_in (drop (i + 1) us) name ≡ s
  sort_turn e s h = sym (ap (λ (b : Bool). cond b u.sort (sort_in (drop (i + 1) us) name)) e) ∙ sym (here (λ (ws : Scope). sort_in ws name)) ∙ h

  -- the name
  pub sort_found : bytes_eq u.name.text name ≡ true → (s : Sort) → sort_in (drop i us) name ≡ s → u.sort ≡ s
  sort_found e s h = sym (ap (λ (b : Bool). cond b u.sort (sort_in (drop (i + 1) us) name)) e) ∙ sym (here (λ (ws : Scope). sort_in ws name)) ∙ h

  rank_by : (s : Sort) (n whole : ℕ) → n + rank_of s (drop i us) name ≡ whole → (found same : Bool) → bytes_eq u.name.text name ≡ found → sort_eq u.sort s ≡ same
      → n + cond found 0 (cond same 1 0 + rank_of s (drop (i + 1) us) name) ≡ whole
  rank_by s n whole h found same e k =
      let all : n + cond (bytes_eq u.name.text name) 0 (cond (sort_eq u.sort s) 1 0 + rank_of s (drop (i + 1) us) name) ≡ whole = ap (λ (m : ℕ). n + m) (sym (here (λ (ws : Scope). rank_of s ws name))) ∙ h in
      subst (λ (b : Bool). n + cond found 0 (cond b 1 0 + rank_of s (drop (i + 1) us) name) ≡ whole) k
      (subst (λ (b : Bool). n + cond b 0 (cond (sort_eq u.sort s) 1 0 + rank_of s (drop (i + 1) us) name) ≡ whole) e all)

  -- another name of the sort, and one of another sort
  pub rank_counted : bytes_eq u.name.text name ≡ false → (s : Sort) (n whole : ℕ) → sort_eq u.sort s ≡ true → n + rank_of s (drop i us) name ≡ whole → n + 1 + rank_of s (drop (i + 1) us) name ≡ whole
  rank_counted e s n whole k h = omega (arith, rank_by s n whole h false true e k)

  pub rank_passed : bytes_eq u.name.text name ≡ false → (s : Sort) (n whole : ℕ) → sort_eq u.sort s ≡ false → n + rank_of s (drop i us) name ≡ whole → n + rank_of s (drop (i + 1) us) name ≡ whole
  rank_passed e s n whole k h = omega (arith, rank_by s n whole h false false e k)

  -- the name
  pub rank_found : bytes_eq u.name.text name ≡ true → (s : Sort) (n whole : ℕ) → n + rank_of s (drop i us) name ≡ whole → n ≡ whole
  rank_found e s n whole h = omega (arith, rank_by s n whole h true (sort_eq u.sort s) e refl)
