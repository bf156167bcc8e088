-- The variables and elements of unions that are read.
use Rattle.std.proofs.Common.{Bool, List, [], refl, ◌+◌, flat_map, length, map, sym, ℕ, ◌++◌, ◌<◌, ◌∷◌, ◌≡◌, ◌∙◌, get_or, drop, ap}
use Rattle.std.specs.List.{All}
use Rattle.std.proofs.lemmas.List.Elements.{All-head, All-tail}
use Rattle.cyp_reading.specs.Readable.{PartReadable}
use Rattle.cyp_term.specs.SetTermValue.{AllSets}
use Rattle.cyp_term.specs.Terms.{term_eq, var_eq, with_all_new, with_new, without_repeats}
use Rattle.cyp_term.specs.declared.term.Term.{Term}
use Rattle.cyp_term.specs.declared.term.Var.{Var}
use Rattle.cyp_term.proofs.Images.{AllSets_with_all_new}
use Rattle.cyp_term.proofs.Repeats.{with_all_new_append}
use Rattle.cyp_term.proofs.Turns.{added_turn}
use Rattle.cyp_names.specs.ReadTerms.{Scope, part_elems, part_vars, read_int}
use Rattle.cyp_text.specs.declared.tree.IntTree.{IntTree}
use Rattle.cyp_text.specs.declared.tree.PartTree.{PartTree}
use Rattle.cyp_text.specs.declared.tree.PartTree.TheVariants.{Braces, PartName}

-- ---- sorts

module _ (sc : Scope) where
  parts_sets : (us : List PartTree) → All (PartReadable sc) us → AllSets (flat_map (part_vars sc) us)
  parts_sets [] h = tt
  parts_sets (PartName i ∷ us) h = (All-head (PartReadable sc) (PartName i) us h, parts_sets us (All-tail (PartReadable sc) (PartName i) us h))
  parts_sets (Braces p ts ∷ us) h = parts_sets us (All-tail (PartReadable sc) (Braces p ts) us h)

  -- the variables of a union are sets
  pub union_sets : (us : List PartTree) → All (PartReadable sc) us → AllSets (without_repeats var_eq (flat_map (part_vars sc) us))
  union_sets us h = AllSets_with_all_new [] (flat_map (part_vars sc) us) tt (parts_sets us h)

  -- ---- turns of loops

  pub vars_turn : (us : List PartTree) (i : ℕ) (d : PartTree) (old new whole : List Var) → i < length us → d ≡ get_or us i d → new ≡ with_all_new var_eq old (part_vars sc d)
      → with_all_new var_eq old (flat_map (part_vars sc) (drop i us)) ≡ whole → with_all_new var_eq new (flat_map (part_vars sc) (drop (i + 1) us)) ≡ whole
  vars_turn us i d old new whole l at added h =
      added_turn (part_vars sc) (flat_map (part_vars sc)) (λ v vs. refl) var_eq us i d old new whole l (added ∙ ap (λ (u : PartTree). with_all_new var_eq old (part_vars sc u)) at) h

  pub elems_turn : (us : List PartTree) (i : ℕ) (d : PartTree) (old new whole : List Term) → i < length us → d ≡ get_or us i d → new ≡ with_all_new term_eq old (part_elems sc d)
      → with_all_new term_eq old (flat_map (part_elems sc) (drop i us)) ≡ whole → with_all_new term_eq new (flat_map (part_elems sc) (drop (i + 1) us)) ≡ whole
  elems_turn us i d old new whole l at added h =
      added_turn (part_elems sc) (flat_map (part_elems sc)) (λ v vs. refl) term_eq us i d old new whole l (added ∙ ap (λ (u : PartTree). with_all_new term_eq old (part_elems sc u)) at) h

  pub terms_turn : (ts : List IntTree) (i : ℕ) (d : IntTree) (old new whole : List Term) → i < length ts → d ≡ get_or ts i d → new ≡ with_new term_eq old (read_int sc d)
      → with_all_new term_eq old (map (read_int sc) (drop i ts)) ≡ whole → with_all_new term_eq new (map (read_int sc) (drop (i + 1) ts)) ≡ whole
  terms_turn ts i d old new whole l at added h =
      added_turn (λ (t : IntTree). read_int sc t ∷ []) (map (read_int sc)) (λ v vs. refl) term_eq ts i d old new whole l (added ∙ ap (λ (t : IntTree). with_new term_eq old (read_int sc t)) at) h

-- ---- joining what was added

-- what the first part adds and what the others add
pub two_added : {X : Type 0} (eq : X → X → Bool) (start first all xs ys : List X) → start ≡ [] → first ≡ with_all_new eq start xs → all ≡ with_all_new eq first ys → all ≡ without_repeats eq (xs ++ ys)
two_added {X} eq start first all xs ys a b c =
    c ∙ ap (λ (zs : List X). with_all_new eq zs ys) (b ∙ ap (λ (zs : List X). with_all_new eq zs xs) a) ∙ sym (with_all_new_append eq [] xs ys)

-- and a third
pub three_added : {X : Type 0} (eq : X → X → Bool) (start first second all xs ys zs : List X) → start ≡ [] → first ≡ with_all_new eq start xs → second ≡ with_all_new eq first ys → all ≡ with_all_new eq second zs
    → all ≡ without_repeats eq (xs ++ (ys ++ zs))
three_added {X} eq start first second all xs ys zs a b c d =
    two_added eq start first all xs (ys ++ zs) a b (d ∙ ap (λ (ws : List X). with_all_new eq ws zs) c ∙ sym (with_all_new_append eq first ys zs))
