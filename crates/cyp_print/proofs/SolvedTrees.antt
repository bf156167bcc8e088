-- One level of a solved tree, as a derivation.
use Rattle.std.proofs.Common.{◌≡◌, ◌∙◌, List, [], ◌∷◌, sym, ap}
use Rattle.cyp_space.specs.declared.solved.Solved.{Solved}
use Rattle.cyp_space.specs.declared.solved.Solved.TheViews.{out-Solved}
use Rattle.cyp_space.specs.declared.solved.Solved.TheFolds.{fold_out-Solved}
use Rattle.cyp_tree.specs.Derivations.{Derivation, Derived, More, NoMore, plain_derivation, plain_derivations, plain_step}
use Rattle.cyp_tree.specs.Follows.{root}

module _ {R N : Type 0} (s : Solved R N) where
  pub derived : plain_derivation s ≡ Derived (out-Solved R N s).node (out-Solved R N s).rule (plain_derivations (out-Solved R N s).parts)
  derived = fold_out-Solved R N (Derivation R N) plain_step s

  pub solved_root : root (plain_derivation s) ≡ (out-Solved R N s).node
  solved_root = ap root derived

  -- with a first part
  pub solved_further : (n : N) (part : Solved R N) (rest : List (Solved R N)) → n ≡ (out-Solved R N s).node → (out-Solved R N s).parts ≡ part ∷ rest
      → plain_derivation s ≡ Derived n (out-Solved R N s).rule (More (plain_derivation part) (plain_derivations rest))
  solved_further n part rest ne pe = derived ∙ (λ k. Derived (sym ne k) (out-Solved R N s).rule (plain_derivations (pe k)))

  -- with no part
  pub solved_last : (n : N) → n ≡ (out-Solved R N s).node → (out-Solved R N s).parts ≡ [] → plain_derivation s ≡ Derived n (out-Solved R N s).rule NoMore
  solved_last n ne pe = derived ∙ (λ k. Derived (sym ne k) (out-Solved R N s).rule (plain_derivations (pe k)))
