-- The least of the addresses with one base, one more address.
use Rattle.std.proofs.Common.{◌≡◌, ◌∙◌, [], ◌∷◌, ◌++◌, Bool, IsTrue, List, None, Option, Some, ℕ, ◌+◌, ◌<◌, false, true, cond, get_or, length, int_le, int_lt, map, not, option_map, take, ℤ, pos, inl, inr, refl, ap, sym, append-nil}
use Rattle.std.specs.List.{filter, flat_map}
use Rattle.std.proofs.lemmas.Bool.{cond-false, cond-true}
use Rattle.std.proofs.lemmas.List.{map-append, take_more}
use Rattle.std.proofs.lemmas.List.Elements.{filter-append}
use Rattle.cyp_goal.proofs.IntOrders.{int_lt-not_le}
use Rattle.cyp_goal.proofs.Live.{in_among}
use Rattle.cyp_goal.specs.Least.{least_number, least_term, lesser, lower}
use Rattle.cyp_goal.specs.Tidying.{least, least_of, offsets_at}
use Rattle.cyp_term.proofs.Equality.{Decides-base_eq}
use Rattle.cyp_term.proofs.Lists.{Among, Among-map, filter_in, flat_out}
use Rattle.cyp_term.specs.Terms.{base_eq, term_vars, var_in}
use Rattle.cyp_term.specs.declared.term.Term.{Term}
use Rattle.cyp_term.specs.declared.term.Var.{Var}

least_push : (z : ℤ) (zs : List ℤ) (y : ℤ) → least z (zs ++ y ∷ []) ≡ cond (int_lt y (least z zs)) y (least z zs)
least_push z [] y = refl
least_push z (x ∷ xs) y = least_push (cond (int_lt x z) x z) xs y

-- the order the other way round
turned : (b : Bool) (x y : ℤ) → cond (not b) x y ≡ cond b y x
turned true x y = refl
turned false x y = refl

module _ (v : Var) where
  abbrev at : ℤ → Term
  at z = record { base = Some v; offset = z }

  pushed_lower : (zs : List ℤ) (t : Term) → t ≡ at t.offset → option_map at (least_number (zs ++ t.offset ∷ [])) ≡ lower (option_map at (least_number zs)) t
  pushed_lower [] t e = ap Some (sym e)
  pushed_lower (z ∷ zs) t e =
      ap (λ y. Some (at y)) (least_push z zs t.offset ∙ ap (λ b. cond b t.offset (least z zs)) (int_lt-not_le (least z zs) t.offset) ∙ turned (int_le (least z zs) t.offset) t.offset (least z zs)) ∙ chosen (int_le (least z zs) t.offset)
    where
      chosen : (b : Bool) → Some (at (cond b (least z zs) t.offset)) ≡ cond b (Some (at (least z zs))) (Some t)
      chosen true = refl
      chosen false = ap Some (sym e)

  abbrev has_base : Term → Bool
  has_base t = base_eq (Some v) t.base

  abbrev offset_of : Term → ℤ
  offset_of t = t.offset

  offsets_push : (ts : List Term) (t : Term) (b : Bool) → has_base t ≡ b → offsets_at v (ts ++ t ∷ []) ≡ offsets_at v ts ++ cond b (t.offset ∷ []) []
  offsets_push ts t true e =
      ap (map offset_of) (filter-append has_base ts (t ∷ []) ∙ ap (λ xs. filter has_base ts ++ xs) (cond-true (has_base t) (t ∷ []) [] e)) ∙ map-append offset_of (filter has_base ts) (t ∷ [])
  offsets_push ts t false e =
      ap (map offset_of) (filter-append has_base ts (t ∷ []) ∙ ap (λ xs. filter has_base ts ++ xs) (cond-false (has_base t) (t ∷ []) [] e)) ∙ map-append offset_of (filter has_base ts) []

  by_base : (ts : List Term) (t : Term) (b : Bool) → has_base t ≡ b → least_term v (ts ++ t ∷ []) ≡ cond b (lower (least_term v ts) t) (least_term v ts)
  by_base ts t true e =
      let base : Some v ≡ t.base = (Decides-base_eq (Some v) t.base).0 e in
      ap (λ zs. option_map at (least_number zs)) (offsets_push ts t true e) ∙ pushed_lower (offsets_at v ts) t (λ i. record { base = sym base i; offset = t.offset })
  by_base ts t false e = ap (λ zs. option_map at (least_number zs)) (offsets_push ts t false e ∙ append-nil (offsets_at v ts))

  pub least_more : (ts : List Term) (i : ℕ) (t : Term) (best new : Option Term) → best ≡ least_term v (take i ts) → i < length ts → t ≡ get_or ts i t → new ≡ lesser v best t → new ≡ least_term v (take (i + 1) ts)
  least_more ts i t best new h lt is e =
      e ∙ ap (λ o. lesser v o t) h ∙ sym (ap (least_term v) (take_more ts i t lt ∙ ap (λ u. take i ts ++ u ∷ []) (sym is)) ∙ by_base (take i ts) t (has_base t) refl)

  -- ---- a base that occurs
  some_number : (z : ℤ) (zs : List ℤ) → Among z zs → least_number zs ≡ Some (least_of zs)
  some_number z [] k = absurd k
  some_number z (y ∷ ys) k = refl

  base_of : (o : Option Var) → Among v (term_vars (record { base = o; offset = pos 0 })) → Some v ≡ o
  base_of None k = absurd k
  base_of (Some w) (inl e) = ap Some e
  base_of (Some w) (inr k) = absurd k

  pub least_there : (ts : List Term) → IsTrue (var_in v (flat_map term_vars ts)) → least_term v ts ≡ Some (at (least_of (offsets_at v ts)))
  least_there ts h =
      let t = flat_out term_vars v ts (in_among v (flat_map term_vars ts) h) in
      let k = filter_in has_base t.0 ts t.1 ((Decides-base_eq (Some v) t.0.base).1 (base_of t.0.base t.2)) in
      ap (option_map at) (some_number t.0.offset (offsets_at v ts) (Among-map offset_of t.0 (filter has_base ts) k))
