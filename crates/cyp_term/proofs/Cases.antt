-- When some case of a list of cases holds, each case a list of facts that all hold.
use Rattle.std.proofs.Common.{◌↔◌, List, [], ◌∷◌, ◌++◌, map, inl, inr}
use Rattle.std.specs.List.{AllByRecursion}
use Rattle.cyp_term.specs.Integers.{both}
use Rattle.cyp_term.proofs.Lists.{SomeOf, Every-append, Every-left, Every-right, SomeOf-left, SomeOf-right, SomeOf-cases}

module _ {X : Type 0} (P : X → Type 0) where
  row_in : (c : List X) (ds : List (List X)) → AllByRecursion P c → SomeOf (AllByRecursion P) ds → SomeOf (AllByRecursion P) (map (λ d. c ++ d) ds)
  row_in c [] h k = absurd k
  row_in c (d ∷ ds) h (inl k) = inl (Every-append P c d h k)
  row_in c (d ∷ ds) h (inr k) = inr (row_in c ds h k)

  row_out : (c : List X) (ds : List (List X)) → SomeOf (AllByRecursion P) (map (λ d. c ++ d) ds) → AllByRecursion P c × SomeOf (AllByRecursion P) ds
  row_out c [] h = absurd h
  row_out c (d ∷ ds) (inl k) = (Every-left P c d k, inl (Every-right P c d k))
  row_out c (d ∷ ds) (inr k) = let r = row_out c ds k in (r.0, inr r.1)

  both_in : (cs ds : List (List X)) → SomeOf (AllByRecursion P) cs → SomeOf (AllByRecursion P) ds → SomeOf (AllByRecursion P) (both cs ds)
  unfolding both
  both_in [] ds h k = absurd h
  both_in (c ∷ cs) ds (inl h) k = SomeOf-left (AllByRecursion P) (map (λ d. c ++ d) ds) (both cs ds) (row_in c ds h k)
  both_in (c ∷ cs) ds (inr h) k = SomeOf-right (AllByRecursion P) (map (λ d. c ++ d) ds) (both cs ds) (both_in cs ds h k)

  both_out : (cs ds : List (List X)) → SomeOf (AllByRecursion P) (both cs ds) → SomeOf (AllByRecursion P) cs × SomeOf (AllByRecursion P) ds
  unfolding both
  both_out [] ds h = absurd h
  both_out (c ∷ cs) ds h =
      elim (SomeOf-cases (AllByRecursion P) (map (λ d. c ++ d) ds) (both cs ds) h)
      [ inl k ↦ (let r = row_out c ds k in (inl r.0, r.1)) | inr k ↦ (let r = both_out cs ds k in (inr r.0, r.1)) ]

  pub both-iff : (cs ds : List (List X)) → SomeOf (AllByRecursion P) (both cs ds) ↔ (SomeOf (AllByRecursion P) cs × SomeOf (AllByRecursion P) ds)
  both-iff cs ds = (both_out cs ds, λ h. both_in cs ds h.0 h.1)
