-- Cardinalities are small behind an opened instance or a call: old ones as before, new ones as the heights.
use Rattle.std.proofs.Common.{◌≡◌, refl, sym, ℕ, zero, suc, ◌-◌, ◌≤◌, max, Bool, true, false, cond, List, [], ◌∷◌, get_or, pos, arith, subst}
use Rattle.std.specs.Prelude.{nat_lt}
use Rattle.cyp_heap.specs.Instances.{greatest, height_above}
use Rattle.cyp_kernel.proofs.Opened.{opened, opened_number}
use Rattle.cyp_pred.specs.declared.unfolded.Next.{Next}
use Rattle.cyp_term.proofs.Equality.{Decides-sort_eq}
use Rattle.cyp_term.specs.Meaning.{Assignment}
use Rattle.cyp_term.specs.Terms.{sort_eq}
use Rattle.cyp_term.specs.declared.term.Sort.{Sort}
use Rattle.cyp_term.specs.declared.term.Sort.TheVariants.{Card}
use Rattle.cyp_term.specs.declared.term.Var.{Var}

-- each cardinality is a natural number of at most z
abbrev pub SmallCards : ℕ → Assignment → Type 0
SmallCards z s = (v : Var) → sort_eq v.sort Card ≡ true → (k : ℕ) × (s.number v ≡ pos k) × (k ≤ z)

pub get_small : (hs : List ℕ) (d : ℕ) → get_or hs d 0 ≤ height_above hs
get_small [] d = none d
  where
    none : (d : ℕ) → get_or {A = ℕ} [] d 0 ≤ 0
    none zero = omega arith
    none (suc d) = omega arith
get_small (h ∷ hs) d = most (get_or (h ∷ hs) d 0) (greatest (h ∷ hs)) (each (h ∷ hs) d)
  where
    most : (a b : ℕ) → a ≤ b → a ≤ suc b
    most a b l = omega arith

    each : (hs : List ℕ) (d : ℕ) → get_or hs d 0 ≤ greatest hs
    each [] zero = omega arith
    each [] (suc d) = omega arith
    each (h ∷ hs) zero = left h (greatest hs)
      where
        left : (a b : ℕ) → a ≤ max a b
        left a b = omega arith
    each (h ∷ hs) (suc d) = right (get_or hs d 0) h (greatest hs) (each hs d)
      where
        right : (a b c : ℕ) → a ≤ c → a ≤ max b c
        right a b c l = omega arith

pub opened_small : (x : Next) (ints sets : ℕ) (ns : List ℕ) (s w : Assignment) (z : ℕ) → SmallCards z s → ((d : ℕ) → get_or ns d 0 ≤ z) → SmallCards z (opened x ints sets ns s w)
opened_small x ints sets ns s w z old new v e =
    subst (λ (o : Sort). (k : ℕ) × (opened_number x ints sets ns s w o v ≡ pos k) × (k ≤ z)) (sym ((Decides-sort_eq v.sort Card).0 e)) (at (nat_lt v.number x.cards))
  where
    at : (b : Bool) → (k : ℕ) × (cond b (s.number v) (pos (get_or ns (v.number - x.cards) 0)) ≡ pos k) × (k ≤ z)
    at true = old v e
    at false = (get_or ns (v.number - x.cards) 0, refl, new (v.number - x.cards))
