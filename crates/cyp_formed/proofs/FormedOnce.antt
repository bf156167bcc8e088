-- No part of a set term stands twice in a literal that is read.
use Rattle.std.proofs.Common.{List, flat_map, refl, true, ◌&&◌, ◌∙◌, ◌≡◌}
use Rattle.std.specs.List.{list_all}
use Rattle.std.proofs.lemmas.Bool.{and_from}
use Rattle.cyp_goal.proofs.AllNew.{all_new-without_repeats}
use Rattle.cyp_goal.specs.Raw.{lit_once, set_once}
use Rattle.cyp_term.specs.Terms.{negated, term_eq, var_eq}
use Rattle.cyp_term.specs.declared.lit.Lit.{Lit}
use Rattle.cyp_term.specs.declared.lit.Lit.TheVariants.{Eq, Le, Lt, Member, Ne, NotMember, NotSame, NotSub, Same, Sub}
use Rattle.cyp_term.specs.declared.term.Term.{Term}
use Rattle.cyp_term.proofs.Lists.{each_from, map_from}
use Rattle.cyp_names.specs.Bodies.{body_lits}
use Rattle.cyp_names.specs.ReadTerms.{Scope, compared, part_elems, part_vars, read_int, read_lit, read_lits, read_set, read_union}
use Rattle.cyp_text.specs.LitTrees.{Comparing, Inside, LitTree, Negation, SameSets, SubSets}
use Rattle.cyp_text.specs.declared.tree.BodyTree.{BodyTree}
use Rattle.cyp_text.specs.declared.tree.Comparison.{Comparison}
use Rattle.cyp_text.specs.declared.tree.Comparison.TheVariants.{IsAbove, IsAtLeast, IsAtMost, IsBelow, IsEqual, IsUnequal}
use Rattle.cyp_text.specs.declared.tree.PartTree.{PartTree}
use Rattle.cyp_text.specs.declared.tree.SetTree.{SetTree}
use Rattle.cyp_names.specs.Uses.{set_parts}

compared_once : (c : Comparison) (a b : Term) → lit_once (compared c a b) ≡ true
compared_once IsEqual a b = refl
compared_once IsUnequal a b = refl
compared_once IsAtMost a b = refl
compared_once IsBelow a b = refl
compared_once IsAtLeast a b = refl
compared_once IsAbove a b = refl

once_negated : (l : Lit) → lit_once (negated l) ≡ lit_once l
once_negated (Eq a b) = refl
once_negated (Ne a b) = refl
once_negated (Le a b) = refl
once_negated (Lt a b) = refl
once_negated (Same a b) = refl
once_negated (NotSame a b) = refl
once_negated (Member a b) = refl
once_negated (NotMember a b) = refl
once_negated (Sub a b) = refl
once_negated (NotSub a b) = refl

module _ (sc : Scope) where
  union_once : (us : List PartTree) → set_once (read_union sc us) ≡ true
  union_once us = and_from _ _ (all_new-without_repeats var_eq (flat_map (part_vars sc) us)) (all_new-without_repeats term_eq (flat_map (part_elems sc) us))

  two_once : (a b : SetTree) → (set_once (read_set sc a) && set_once (read_set sc b)) ≡ true
  two_once a b = and_from _ _ (union_once (set_parts a)) (union_once (set_parts b))

  once : (l : LitTree) → lit_once (read_lit sc l) ≡ true
  once (Comparing a c b) = compared_once c (read_int sc a) (read_int sc b)
  once (SameSets a b) = two_once a b
  once (SubSets a b) = two_once a b
  once (Inside a b) = union_once (set_parts b)
  once (Negation p l) = once_negated (read_lit sc l) ∙ once l

  pub lits_once : (b : BodyTree) → list_all lit_once (read_lits sc b) ≡ true
  lits_once b = each_from lit_once (read_lits sc b) (λ l m. let f = map_from (read_lit sc) l (body_lits b) m in rw f.2 (once f.0))
