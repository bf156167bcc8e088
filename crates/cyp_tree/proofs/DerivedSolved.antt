-- A tree that has a derivation is solved.
use Rattle.std.proofs.Common.{◌≡◌, refl, ◌∙◌, ap, ◌↔◌, true, false, Option, Some, None, IsSome}
use Rattle.std.specs.Prelude.{is_some}
use Rattle.std.specs.Option.{option_map}
use Rattle.cyp_space.specs.declared.solved.Solved.{Solved as SolvedBy}
use Rattle.cyp_tree.specs.declared.mark.Mark.{Mark}
use Rattle.cyp_tree.specs.declared.mark.Mark.TheVariants.{Undecided, Solved, Failed}
use Rattle.cyp_tree.specs.Trees.{Tree, Leaf, Grown, Alts, NoAlt, AltThen, Parts, NoPart, PartThen}
use Rattle.cyp_tree.specs.Statuses.{either, both, status, alts_status, parts_status}
use Rattle.cyp_tree.specs.Derivations.{Derivation, Derivations, one_more, derived_or, chosen_derivation, chosen_alt, chosen_parts, plain_derivation}
use Rattle.cyp_tree.proofs.HasDerivation.{has_derivation}

either_right : (p : Mark) → either p Solved ≡ Solved
either_right Undecided = refl
either_right Solved = refl
either_right Failed = refl

alt_solved : {R N : Type 0} (n : N) (r : R) (p a : Mark) (ds : Option (Derivations R N)) (later : Option (Derivation R N)) → IsSome (derived_or n r ds later)
    → (IsSome ds → p ≡ Solved) → (IsSome later → a ≡ Solved) → either p a ≡ Solved
alt_solved n r p a (Some ds) later e f g = ap (λ (s : Mark). either s a) (f refl)
alt_solved n r p a None later e f g = ap (either p) (g e) ∙ either_right p

parts_solved : {R N : Type 0} (s p : Mark) (d : Option (Derivation R N)) (ds : Option (Derivations R N)) → IsSome (one_more d ds)
    → (IsSome d → s ≡ Solved) → (IsSome ds → p ≡ Solved) → both s p ≡ Solved
parts_solved s p (Some d) (Some ds) e f g = (λ i. both (f refl i) (g refl i))
parts_solved s p (Some d) None e f g = let bad : false ≡ true = e in cc
parts_solved s p None ds e f g = let bad : false ≡ true = e in cc

mutual
  pub derived_solved : {R N : Type 0} (t : Tree R N) → IsSome (chosen_derivation t) → status t ≡ Solved
  derived_solved (Leaf k n) e = let bad : false ≡ true = e in cc
  derived_solved (Grown k n as') e = derived_alts n as' e

  derived_alts : {R N : Type 0} (n : N) (as' : Alts R N) → IsSome (chosen_alt n as') → alts_status as' ≡ Solved
  derived_alts n NoAlt e = let bad : false ≡ true = e in cc
  derived_alts n (AltThen r c ps as') e =
      alt_solved n r (parts_status ps) (alts_status as') (chosen_parts ps) (chosen_alt n as') e (λ q. derived_parts ps q) (λ q. derived_alts n as' q)

  pub derived_parts : {R N : Type 0} (ps : Parts R N) → IsSome (chosen_parts ps) → parts_status ps ≡ Solved
  derived_parts NoPart e = refl
  derived_parts (PartThen t ps) e =
      parts_solved (status t) (parts_status ps) (chosen_derivation t) (chosen_parts ps) e (λ q. derived_solved t q) (λ q. derived_parts ps q)

some_by : {R N : Type 0} (o : Option (SolvedBy R N)) (d : Option (Derivation R N)) → option_map plain_derivation o ≡ d → (IsSome o → IsSome d) × (IsSome d → IsSome o)
some_by None None e = (λ h. h, λ h. h)
some_by None (Some d) e = cc
some_by (Some s) None e = cc
some_by (Some s) (Some d) e = (λ h. refl, λ h. refl)

-- what is chosen is there exactly where the tree is solved
pub some_where_solved : {R N : Type 0} (t : Tree R N) (o : Option (SolvedBy R N)) → option_map plain_derivation o ≡ chosen_derivation t → IsSome o ↔ (status t ≡ Solved)
some_where_solved t o e =
    let both_ways : (IsSome o → IsSome (chosen_derivation t)) × (IsSome (chosen_derivation t) → IsSome o) = some_by o (chosen_derivation t) e in
    (λ h. derived_solved t (both_ways.0 h), λ h. both_ways.1 (has_derivation t h))

none_by : {R N : Type 0} (t : Tree R N) (o : Option (Derivation R N)) → chosen_derivation t ≡ o → (status t ≡ Solved → ⊥) → None ≡ o
none_by t None e h = refl
none_by t (Some d) e h = absurd (h (derived_solved t (ap is_some e)))

-- a tree that isn't solved has no derivation
pub none_unsolved : {R N : Type 0} (t : Tree R N) → (status t ≡ Solved → ⊥) → None ≡ chosen_derivation t
none_unsolved t h = none_by t (chosen_derivation t) refl h
