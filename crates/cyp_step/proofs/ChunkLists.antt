-- A fact of each element of a list, under the changes that rules make.
use Rattle.std.proofs.Common.{ℕ, zero, suc, List, [], ◌∷◌, Option, Some, None, IfSome, IsTrue, Bool, map, nat_lt, slice_get, slice_set, option_map}
use Rattle.std.specs.List.{AllByRecursion, list_all}
use Rattle.std.proofs.lemmas.Bool.{and_parts, cond_both}
use Rattle.std.proofs.lemmas.List.Elements.{All-from_recursion, All-set, recursion_from_All}
use Rattle.cyp_heap.specs.Chunks.{kind_rank, put, put_all, without}
use Rattle.cyp_heap.specs.declared.chunk.Chunk.{Chunk}

module _ {X : Type 0} (P : X → Type 0) where
  pub Every-slice_get : (xs : List X) (i : ℕ) → AllByRecursion P xs → IfSome (slice_get xs i) P
  Every-slice_get [] i h = tt
  Every-slice_get (x ∷ xs) zero h = h.0
  Every-slice_get (x ∷ xs) (suc i) h = Every-slice_get xs i h.1

  pub Every-slice_set : (xs : List X) (i : ℕ) (y : X) → P y → AllByRecursion P xs → AllByRecursion P (slice_set xs i y)
  Every-slice_set xs i y p h = recursion_from_All P (slice_set xs i y) (All-set P xs i y p (All-from_recursion P xs h))

  pub Every-without : (xs : List X) (i : ℕ) → AllByRecursion P xs → AllByRecursion P (without xs i)
  Every-without [] i h = tt
  Every-without (x ∷ xs) zero h = h.1
  Every-without (x ∷ xs) (suc i) h = (h.0, Every-without xs i h.1)

  pub Every-map : {Y : Type 0} (Q : Y → Type 0) (f : Y → X) → ((y : Y) → Q y → P (f y)) → (ys : List Y) → AllByRecursion Q ys → AllByRecursion P (map f ys)
  Every-map Q f h [] k = tt
  Every-map Q f h (y ∷ ys) k = (h y k.0, Every-map Q f h ys k.1)

module _ (P : Chunk → Type 0) where
  pub Every-put : (cs : List Chunk) (c : Chunk) → P c → AllByRecursion P cs → AllByRecursion P (put cs c)
  Every-put [] c p h = (p, tt)
  Every-put (d ∷ ds) c p h =
      cond_both (nat_lt (kind_rank c) (kind_rank d)) (c ∷ d ∷ ds) (d ∷ put ds c) (AllByRecursion P) (λ e. (p, h)) (λ e. (h.0, Every-put ds c p h.1))

  pub Every-put_all : (cs ds : List Chunk) → AllByRecursion P ds → AllByRecursion P cs → AllByRecursion P (put_all cs ds)
  Every-put_all cs [] k h = h
  Every-put_all cs (d ∷ ds) k h = Every-put_all (put cs d) ds k.1 (Every-put cs d k.0 h)

-- an element passes a test that each one passes
pub list_all-slice_get : {X : Type 0} (p : X → Bool) (xs : List X) (i : ℕ) → IsTrue (list_all p xs) → IfSome (slice_get xs i) (λ x. IsTrue (p x))
list_all-slice_get p [] i h = tt
list_all-slice_get p (x ∷ xs) zero h = (and_parts (p x) (list_all p xs) h).0
list_all-slice_get p (x ∷ xs) (suc i) h = list_all-slice_get p xs i (and_parts (p x) (list_all p xs) h).1

pub IfSome-map : {A B : Type 0} (P : A → Type 0) (Q : B → Type 0) (f : A → B) → ((x : A) → P x → Q (f x)) → (o : Option A) → IfSome o P → IfSome (option_map f o) Q
IfSome-map P Q f h None k = tt
IfSome-map P Q f h (Some x) k = h x k
