-- The predicate of an instance without faults, and the sorts of its parameters.
use Rattle.std.proofs.Common.{List, None, Option, Some, [], ap, cond, false, length, map, refl, subst, sym, true, ◌∙◌, ◌≡◌, ◌≢◌, ℕ}
use Rattle.std.specs.Prelude.{Bool, ◌==◌}
use Rattle.std.proofs.lemmas.Bool.{eqb-true, eq-eqb}
use Rattle.cyp_lex.specs.declared.ident.Ident.{Ident}
use Rattle.cyp_heap.specs.Formed.{fits_pred, sorts_fit}
use Rattle.cyp_heap.specs.declared.pred.Pred.{Pred}
use Rattle.cyp_lex.specs.declared.fault.FaultKind.TheVariants.{WrongArity}
use Rattle.cyp_term.specs.declared.term.Sort.{Sort}
use Rattle.cyp_term.specs.declared.term.Sort.TheVariants.{Card}
use Rattle.cyp_term.proofs.Lists.{Among, map_from}
use Rattle.cyp_names.specs.NameFaults.{arg_faults, fault_at, instance_fault}
use Rattle.cyp_names.specs.ReadTerms.{Scope, read_args}
use Rattle.cyp_text.specs.declared.tree.ArgTree.{ArgTree}
use Rattle.cyp_text.specs.declared.tree.ParamTree.{ParamTree}
use Rattle.cyp_text.specs.declared.tree.PredTree.{PredTree}
use Rattle.cyp_names.specs.Uses.{arg_sorts, param_sort, pred_named, pred_place, sorts_of}
use Rattle.cyp_formed.proofs.FormedInstances.{fits_named, found}
use Rattle.cyp_formed.proofs.PlainSorts.{param_plain}
use Rattle.cyp_formed.proofs.Maps.{length_mapped}

pub param_sorts_plain : (ps : List ParamTree) (s : Sort) → Among s (map param_sort ps) → s ≢ Card
param_sorts_plain ps s m = let f = map_from param_sort s ps m in λ c. param_plain f.0 (sym f.2 ∙ c)

-- the predicate of an instance, and that the arguments fit
pub record OfPred (qs : List PredTree) (i : Ident) (xs : List ArgTree) : Type 0 where
  pub pred : PredTree
  pub named : pred_named i.text qs ≡ Some pred
  pub arity : length pred.params ≡ length xs
  pub right : arg_faults (map param_sort pred.params) xs ≡ []

pub of_pred : (qs : List PredTree) (i : Ident) (xs : List ArgTree) → instance_fault i xs (pred_named i.text qs) ≡ [] → OfPred qs i xs
of_pred qs i xs e = by_pred (pred_named i.text qs) refl e
  where
    by_length : (q : PredTree) → pred_named i.text qs ≡ Some q → (t : Bool) → (length q.params == length xs) ≡ t → cond t (arg_faults (map param_sort q.params) xs) (fault_at WrongArity i.place) ≡ [] → OfPred qs i xs
    by_length q n true l k = record { pred = q; named = n; arity = eqb-true (length q.params) (length xs) l; right = k }
    by_length q n false l k = absurd cc

    by_pred : (q : Option PredTree) → pred_named i.text qs ≡ q → instance_fault i xs q ≡ [] → OfPred qs i xs
    by_pred None n k = absurd cc
    by_pred (Some q) n k = by_length q n (length q.params == length xs) refl k

pub same_lengths : (m n : ℕ) → m ≡ n → (m == n) ≡ true
same_lengths m n e = eq-eqb m n e

module _ (qs : List PredTree) (i : Ident) (xs : List ArgTree) (of : OfPred qs i xs) where
  -- the sorts of the parameters
  abbrev pub sorts : List Sort
  sorts = map param_sort of.pred.params

  pub sorts_plain : (s : Sort) → Among s sorts → s ≢ Card
  sorts_plain = param_sorts_plain of.pred.params

  pub as_many : length sorts ≡ length xs
  as_many = length_mapped param_sort of.pred.params ∙ of.arity

  pub sorts_are : arg_sorts qs i xs ≡ sorts
  sorts_are = ap (λ (q : Option PredTree). sorts_of (length xs) q) of.named ∙ ap (λ (t : Bool). cond t sorts []) (same_lengths (length of.pred.params) (length xs) of.arity)

  pub fit : (sc : Scope) → sorts_fit (read_args sc sorts xs) sorts ≡ true
  fit sc = subst (λ (ss : List Sort). sorts_fit (read_args sc ss xs) sorts ≡ true) by_length (subst (λ (q : Option Pred). fits_pred (record { pred = pred_place i.text qs; args = read_args sc (sorts_of (length xs) (Some of.pred)) xs; card = None; tag = 0 }) q ≡ true) (found i.text qs qs of.pred of.named) (fits_named qs sc i xs (Some of.pred) of.named no_fault))
    where
      by_length : sorts_of (length xs) (Some of.pred) ≡ sorts
      by_length = ap (λ (t : Bool). cond t sorts []) (same_lengths (length of.pred.params) (length xs) of.arity)

      no_fault : instance_fault i xs (Some of.pred) ≡ []
      no_fault = ap (λ (t : Bool). cond t (arg_faults sorts xs) (fault_at WrongArity i.place)) (same_lengths (length of.pred.params) (length xs) of.arity) ∙ of.right
