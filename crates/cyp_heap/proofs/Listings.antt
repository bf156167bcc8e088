-- What an instance means doesn't depend on the listing of its set arguments.
use Rattle.std.proofs.Common.{sym, ◌∙◌, ℕ, suc, List, [], ◌∷◌}
use Rattle.cyp_heap.specs.Instances.{ArgValue, Members, Number, ParamsAre, InstanceHolds}
use Rattle.cyp_heap.specs.Laws.{ListingLaw, SameArgValue, SameArgValues}
use Rattle.cyp_heap.specs.Stores.{Store}
use Rattle.cyp_heap.specs.declared.pred.Preds.{Preds}
use Rattle.cyp_term.specs.Meaning.{Assignment}
use Rattle.cyp_term.specs.declared.term.Sort.{Sort}
use Rattle.cyp_term.specs.declared.term.Sort.TheVariants.{Int, Set}

pub same_value_sym : (x y : ArgValue) → SameArgValue x y → SameArgValue y x
same_value_sym (Number x) (Number y) e = sym e
same_value_sym (Members xs) (Members ys) e = λ z. sym (e z)
same_value_sym (Number x) (Members ys) e = absurd e
same_value_sym (Members xs) (Number y) e = absurd e

pub same_values_sym : (xs ys : List ArgValue) → SameArgValues xs ys → SameArgValues ys xs
same_values_sym [] [] e = tt
same_values_sym (x ∷ xs) (y ∷ ys) e = (same_value_sym x y e.0, same_values_sym xs ys e.1)
same_values_sym [] (y ∷ ys) e = absurd e
same_values_sym (x ∷ xs) [] e = absurd e

-- parameters that have values have those that are the same
pub params_same : (s : Assignment) (i k : ℕ) (ps : List Sort) (xs ys : List ArgValue) → SameArgValues xs ys → ParamsAre s i k ps xs → ParamsAre s i k ps ys
params_same s i k ps [] [] e h = h
params_same s i k ps [] (y ∷ ys) e h = absurd e
params_same s i k ps (x ∷ xs) [] e h = absurd e
params_same s i k ps (Number x ∷ xs) (Members y ∷ ys) e h = absurd e.0
params_same s i k ps (Members x ∷ xs) (Number y ∷ ys) e h = absurd e.0
params_same s i k (Int ∷ ps) (Number x ∷ xs) (Number y ∷ ys) e h = (h.0 ∙ e.0, params_same s (suc i) k ps xs ys e.1 h.1)
params_same s i k (Set ∷ ps) (Members x ∷ xs) (Members y ∷ ys) e h = (λ z. h.0 z ∙ e.0 z, params_same s i (suc k) ps xs ys e.1 h.1)
params_same s i k ps xs ys e h = absurd h

pub by_values : (preds : Preds) (p : ℕ) (xs ys : List ArgValue) (h : Store) (n : ℕ) → SameArgValues xs ys → InstanceHolds preds p xs h n → InstanceHolds preds p ys h n
by_values preds p xs ys h n e k =
    (k.0, k.1, (k.2.0, k.2.1, k.2.2, k.2.3, k.2.4, params_same k.2.2 0 0 k.0.params xs ys e k.2.5, k.2.6, k.2.7, k.2.8, k.2.9))

pub listing_law : ListingLaw
listing_law preds p xs ys h n e = (by_values preds p xs ys h n e, by_values preds p ys xs h n (same_values_sym xs ys e))
