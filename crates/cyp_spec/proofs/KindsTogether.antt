-- Chunks by their kinds have what the chunks have, where blocks and cells have nothing.
use Rattle.std.proofs.Common.{◌≡◌, ◌∙◌, [], ◌∷◌, ◌++◌, List, Bool, true, false, cond, filter, flat_map, refl, ap, ap₂, append-nil, sym}
use Rattle.std.proofs.lemmas.Grind.{flat_map-append}
use Rattle.cyp_names.specs.Bodies.{in_kinds, is_block, is_cell, is_instance}
use Rattle.cyp_text.specs.declared.tree.ChunkTree.{ChunkTree}
use Rattle.cyp_text.specs.declared.tree.ChunkTree.TheVariants.{BlockOf, InstanceOf, NamedCell, TermCell}

module _ {A : Type 0} (f : ChunkTree → List A) where
  -- blocks and cells have none
  pub record InstancesAlone : Type 0 where
    pub blocks : (c : ChunkTree) → is_block c ≡ true → f c ≡ []
    pub cells : (c : ChunkTree) → is_cell c ≡ true → f c ≡ []

  none_of : (test : ChunkTree → Bool) → ((c : ChunkTree) → test c ≡ true → f c ≡ []) → (cs : List ChunkTree) → flat_map f (filter test cs) ≡ []
  none_of test h [] = refl
  none_of test h (c ∷ cs) = by_test (test c) (h c) (none_of test h cs)
    where
      by_test : (b : Bool) → (b ≡ true → f c ≡ []) → flat_map f (filter test cs) ≡ [] → flat_map f (cond b (c ∷ filter test cs) (filter test cs)) ≡ []
      by_test false k rest = rest
      by_test true k rest = ap₂ ◌++◌ (k refl) rest

  module _ (alone : InstancesAlone) where
    instances_are_all : (cs : List ChunkTree) → flat_map f (filter is_instance cs) ≡ flat_map f cs
    instances_are_all [] = refl
    instances_are_all (InstanceOf i xs ∷ cs) = ap (λ (us : List A). f (InstanceOf i xs) ++ us) (instances_are_all cs)
    instances_are_all (BlockOf a p n ∷ cs) = instances_are_all cs ∙ ap (λ (us : List A). us ++ flat_map f cs) (sym (alone.blocks (BlockOf a p n) refl))
    instances_are_all (NamedCell i t ∷ cs) = instances_are_all cs ∙ ap (λ (us : List A). us ++ flat_map f cs) (sym (alone.cells (NamedCell i t) refl))
    instances_are_all (TermCell a t ∷ cs) = instances_are_all cs ∙ ap (λ (us : List A). us ++ flat_map f cs) (sym (alone.cells (TermCell a t) refl))

    pub flat_map-in_kinds : (cs : List ChunkTree) → flat_map f (in_kinds cs) ≡ flat_map f cs
    flat_map-in_kinds cs =
        flat_map-append f (filter is_instance cs ++ filter is_block cs) (filter is_cell cs)
        ∙ ap₂ ◌++◌ (flat_map-append f (filter is_instance cs) (filter is_block cs)) (none_of is_cell alone.cells cs)
        ∙ append-nil (flat_map f (filter is_instance cs) ++ flat_map f (filter is_block cs))
        ∙ ap (λ (us : List A). flat_map f (filter is_instance cs) ++ us) (none_of is_block alone.blocks cs)
        ∙ append-nil (flat_map f (filter is_instance cs))
        ∙ instances_are_all cs
