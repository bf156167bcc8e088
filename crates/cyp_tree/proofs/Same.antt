-- Arenas with the same items, and lists with the same numbers.
use Rattle.std.proofs.Common.{◌≡◌, refl, sym, ◌∙◌, ap, subst, ℕ, ◌+◌, Bool, true, false, List, [], ◌∷◌, length, arith}
use Rattle.std.specs.Prelude.{slice_index_or}
use Rattle.std.specs.List.{sum_by}
use Rattle.std.specs.List.Sorted.{IsPermutation}
use Rattle.std.proofs.lemmas.List.Sorted.{sum_by-IsPermutation}
use Rattle.std.proofs.lemmas.List.Sums.{sum_by-cons}
use Rattle.cyp_space.specs.Alts.{AltOf}
use Rattle.cyp_tree.specs.declared.mark.Mark.{Mark}
use Rattle.cyp_tree.specs.declared.mark.Mark.TheVariants.{Undecided}
use Rattle.cyp_tree.specs.declared.places.Place.{Place}
use Rattle.cyp_tree.specs.declared.places.Way.{Way}
use Rattle.cyp_tree.specs.declared.marks.Marks.{Marks}
use Rattle.cyp_tree.specs.Numbers.{one_where}
use Rattle.cyp_tree.specs.Told.{IsTold, AreCounted, AreReached}
use Rattle.cyp_tree.specs.Marked.{status_at, reached_at, unsolved_at, unfailed_at}
use Rattle.cyp_tree.specs.Dying.{times}
use Rattle.cyp_tree.specs.Enlarged.{AreSame}
use Rattle.cyp_tree.specs.Arenas.{IsArena, HasGrafted}

module _ (m n : Marks) (same : AreSame m n) where
  status_same : status_at n ≡ status_at m
  status_same = λ i k. slice_index_or (same.statuses i) k Undecided

  reached_same : reached_at n ≡ reached_at m
  reached_same = λ i k. slice_index_or (same.reached i) k false

  unsolved_same : unsolved_at n ≡ unsolved_at m
  unsolved_same = λ i k. slice_index_or (same.unsolved i) k 0

  unfailed_same : unfailed_at n ≡ unfailed_at m
  unfailed_same = λ i k. slice_index_or (same.unfailed i) k 0

  pub reached_as : (k : ℕ) (b : Bool) → reached_at m k ≡ b → reached_at n k ≡ b
  reached_as k b e = ap (λ (f : ℕ → Bool). f k) reached_same ∙ e

  module _ {R N : Type 0} (ps : List (Place N)) (ws : List (Way R)) where
    same_arena : IsArena ps ws m → IsArena ps ws n
    same_arena a = record {
      linked = a.linked;
      paths = a.paths;
      sized = record {
        statuses = ap length same.statuses ∙ a.sized.statuses;
        reached = ap length same.reached ∙ a.sized.reached;
        unfailed = ap length same.unfailed ∙ a.sized.unfailed;
        unsolved = ap length same.unsolved ∙ a.sized.unsolved;
      };
      told = subst (λ (s : ℕ → Mark). IsTold s ps ws) (sym status_same) a.told;
      counted =
          subst (λ (s : ℕ → Mark). AreCounted s (unsolved_at n) (unfailed_at n) ps ws) (sym status_same)
          (subst (λ (u : ℕ → ℕ). AreCounted (status_at m) u (unfailed_at n) ps ws) (sym unsolved_same)
          (subst (λ (u : ℕ → ℕ). AreCounted (status_at m) (unsolved_at m) u ps ws) (sym unfailed_same) a.counted));
      reached =
          subst (λ (s : ℕ → Mark). AreReached s (reached_at n) ps ws) (sym status_same) (subst (λ (r : ℕ → Bool). AreReached (status_at m) r ps ws) (sym reached_same) a.reached);
      few = a.few;
      few_ways = a.few_ways;
    }

    pub arena_as : (ps' : List (Place N)) (ws' : List (Way R)) → ps' ≡ ps → ws' ≡ ws → IsArena ps ws m → IsArena ps' ws' n
    arena_as ps' ws' e f a =
        subst (λ (x : List (Place N)). IsArena x ws' n) (sym e) (subst (λ (x : List (Way R)). IsArena ps x n) (sym f) (same_arena a))

    module _ (leaf : ℕ) (as' : List (AltOf R N)) (qs : List (Place N)) (zs : List (Way R)) (o : Marks) (killed : List ℕ) where
      same_grafted : HasGrafted leaf as' ps ws n qs zs o killed → HasGrafted leaf as' ps ws m qs zs o killed
      same_grafted h = record {
        places = h.places;
        ways = h.ways;
        arena = h.arena;
        from = λ k l. (sym (ap (λ (f : ℕ → Bool). f k) reached_same) ∙ (h.from k l).0, (h.from k l).1, (h.from k l).2);
        all = λ k r g p. h.all k (reached_as k true r) g p;
        once = h.once;
      }

      pub grafted_as : (ps' : List (Place N)) (ws' : List (Way R)) → ps' ≡ ps → ws' ≡ ws → HasGrafted leaf as' ps' ws' n qs zs o killed → HasGrafted leaf as' ps ws m qs zs o killed
      grafted_as ps' ws' e f h =
          same_grafted (subst (λ (x : List (Place N)). HasGrafted leaf as' x ws n qs zs o killed) e (subst (λ (x : List (Way R)). HasGrafted leaf as' ps' x n qs zs o killed) f h))

times_sum : (k : ℕ) (xs : List ℕ) → times k xs ≡ sum_by (λ x. one_where x k) xs
times_sum k [] = refl
times_sum k (x ∷ xs) = ap (λ (n : ℕ). one_where x k + n) (times_sum k xs) ∙ sym (sum_by-cons (λ y. one_where y k) x xs)

-- another order lists each number as often
pub times_permutation : (k : ℕ) (xs ys : List ℕ) → IsPermutation xs ys → times k ys ≡ times k xs
times_permutation k xs ys h = times_sum k ys ∙ sum_by-IsPermutation (λ x. one_where x k) xs ys h ∙ sym (times_sum k xs)

pub grafted_sorted : {R N : Type 0} (leaf : ℕ) (as' : List (AltOf R N)) (ps : List (Place N)) (ws : List (Way R)) (m : Marks) (qs : List (Place N)) (zs : List (Way R)) (o : Marks) (killed sorted : List ℕ)
    → IsPermutation killed sorted → HasGrafted leaf as' ps ws m qs zs o killed → HasGrafted leaf as' ps ws m qs zs o sorted
grafted_sorted leaf as' ps ws m qs zs o killed sorted p h = record {
  places = h.places;
  ways = h.ways;
  arena = h.arena;
  from = λ k l. h.from k (omega (arith, times_permutation k killed sorted p));
  all = λ k r g l. omega (arith, times_permutation k killed sorted p, h.all k r g l);
  once = λ k. omega (arith, times_permutation k killed sorted p, h.once k);
}
