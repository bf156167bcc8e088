-- What an allowed rule tells: each of its tests passed, and the premises are these.
use Rattle.std.proofs.Common.{◌≡◌, refl, Bool, true, false, List, [], ◌∷◌, length, ◌==◌, Option, Some, None, option_map, suc, ℕ}
use Rattle.std.proofs.lemmas.Bool.{eqb-true}
use Rattle.std.proofs.lemmas.Option.{none-some, same_Some}
use Rattle.cyp_heap.specs.declared.goal.Node.{Node}
use Rattle.cyp_step.specs.Changes.{Raws, where_true}

pub taken_true : {A : Type 0} (b : Bool) (x : Option A) (r : A) → elim b [ true ↦ x | false ↦ None ] ≡ Some r → (b ≡ true) × (x ≡ Some r)
taken_true true x r e = (refl, e)
taken_true false x r e = absurd (none-some r e)

pub taken_false : {A : Type 0} (b : Bool) (x : Option A) (r : A) → elim b [ true ↦ None | false ↦ x ] ≡ Some r → (b ≡ false) × (x ≡ Some r)
taken_false true x r e = absurd (none-some r e)
taken_false false x r e = (refl, e)

pub taken_some : {A B : Type 0} (o : Option A) (f : A → Option B) (r : B) → elim o [ None ↦ None | Some x ↦ f x ] ≡ Some r → (x : A) × (o ≡ Some x) × (f x ≡ Some r)
taken_some None f r e = absurd (none-some r e)
taken_some (Some x) f r e = (x, refl, e)

pub where_true_parts : (b : Bool) (r : Raws) (ms : List Node) → where_true b r ≡ Some ms → (b ≡ true) × (r ≡ Some ms)
where_true_parts true r ms e = (refl, e)
where_true_parts false r ms e = absurd (none-some ms e)

pub empty_list : {A : Type 0} (xs : List A) → (length xs == 0) ≡ true → xs ≡ []
empty_list [] e = refl
empty_list (x ∷ xs) e = absurd (no_length (length xs) (eqb-true (length (x ∷ xs)) 0 e))
  where
    no_length : (n : ℕ) → suc n ≡ 0 → ⊥
    no_length n p = cc

pub mapped_some : {A B : Type 0} (f : A → B) (o : Option A) (r : B) → option_map f o ≡ Some r → (x : A) × (o ≡ Some x) × (f x ≡ r)
mapped_some f None r e = absurd (none-some r e)
mapped_some f (Some x) r e = (x, refl, same_Some (f x) r e)
