-- The names of a program's procedures differ.
use Rattle.cyp_kernel.specs.Companions.{Proof, Proofs, called_count, called_counts, is_called}
use Rattle.cyp_kernel.specs.Compile.{auxiliary_name, main_name, procedures, procedures_in, program_of, with_proc}
use Rattle.cyp_pred.specs.Unfold.{count_from}
use Rattle.cyp_prog.specs.Programs.{Procedure}
use Rattle.cyp_prog.specs.Rules.{names_of}
use Rattle.cyp_sound.proofs.Safety.Rounds.{length-procedures_in}
use Rattle.cyp_tree.specs.Derivations.{Derived, More, NoMore}
use Rattle.std.proofs.Common.{◌≡◌, refl, sym, ap, ◌∙◌, ℕ, zero, suc, ◌+◌, ◌<◌, ◌≤◌, ◌^◌, Bool, true, false, cond, length, List, [], ◌∷◌, ◌++◌, map, arith, subst}
use Rattle.std.proofs.lemmas.Fmt.{decimal_injective}
use Rattle.std.proofs.lemmas.List.{append-nil, append_cancel_left, map-append}
use Rattle.std.proofs.lemmas.Map.Keys.{IsDistinct-cons}
use Rattle.std.proofs.lemmas.Slice.Eq.{bytes_eq-Decides}
use Rattle.std.specs.List.{AllByRecursion, IsDistinct}
use Rattle.std.specs.Prelude.{decimal}
use Rattle.std.specs.Str.{bytes_eq}

-- ---- two names

differ : (xs ys : List ℕ) → (xs ≡ ys → ⊥) → bytes_eq xs ys ≡ false
differ xs ys apart = at (bytes_eq xs ys) refl
  where
    at : (c : Bool) → bytes_eq xs ys ≡ c → c ≡ false
    at true e = absurd (apart ((bytes_eq-Decides xs ys).0 e))
    at false e = refl

no_end : (x : ℕ) (xs : List ℕ) → [] ≡ x ∷ xs → ⊥
no_end x xs e = cc

same_end : (x : ℕ) (xs ys : List ℕ) → x ∷ xs ≡ x ∷ ys → xs ≡ ys
same_end x xs ys e = cc

not_below : (a : ℕ) → a < a → ⊥
not_below a l = omega arith

-- the main name is no auxiliary one
main_differs : (main : List ℕ) (k : ℕ) → bytes_eq main (auxiliary_name main k) ≡ false
main_differs main k = differ main (auxiliary_name main k) (λ e. no_end 95 (decimal k) (append_cancel_left main [] (95 ∷ decimal k) (append-nil main ∙ e)))

auxiliary_differs : (main : List ℕ) (a b : ℕ) → a < b → b ≤ 65535 → bytes_eq (auxiliary_name main a) (auxiliary_name main b) ≡ false
auxiliary_differs main a b l few =
    differ (auxiliary_name main a) (auxiliary_name main b)
    (λ e.
    let same : a ≡ b = decimal_injective a b (lower a b l few) (low b few) (same_end 95 (decimal a) (decimal b) (append_cancel_left main (95 ∷ decimal a) (95 ∷ decimal b) e)) in
    not_below b (subst (λ (k : ℕ). k < b) same l))
  where
    low : (b : ℕ) → b ≤ 65535 → b < 2 ^ 64
    low b l = omega arith

    lower : (a b : ℕ) → a < b → b ≤ 65535 → a < 2 ^ 64
    lower a b k l = omega arith

-- ---- names with consecutive numbers

no_names : IsDistinct bytes_eq []
unfolding IsDistinct
no_names = tt

module _ (main : List ℕ) where
  abbrev numbered : ℕ → ℕ → List (List ℕ)
  numbered a k = map (auxiliary_name main) (count_from a k)

  main_apart : (a k : ℕ) → AllByRecursion (λ y. bytes_eq main y ≡ false) (numbered a k)
  main_apart a zero = tt
  main_apart a (suc k) = (main_differs main a, main_apart (suc a) k)

  later_apart : (a b k : ℕ) → a < b → b + k ≤ 65536 → AllByRecursion (λ y. bytes_eq (auxiliary_name main a) y ≡ false) (numbered b k)
  later_apart a b zero l few = tt
  later_apart a b (suc k) l few = (auxiliary_differs main a b l (here b k few), later_apart a (suc b) k (more a b l) (rest b k few))
    where
      here : (b k : ℕ) → b + suc k ≤ 65536 → b ≤ 65535
      here b k l = omega arith

      more : (a b : ℕ) → a < b → a < suc b
      more a b l = omega arith

      rest : (b k : ℕ) → b + suc k ≤ 65536 → suc b + k ≤ 65536
      rest b k l = omega arith

  all_apart : (a k : ℕ) → a + k ≤ 65536 → IsDistinct bytes_eq (numbered a k)
  all_apart a zero few = no_names
  all_apart a (suc k) few =
      IsDistinct-cons bytes_eq (auxiliary_name main a) (numbered (suc a) k) (later_apart a (suc a) k (next a) (rest a k few)) (all_apart (suc a) k (rest a k few))
    where
      next : (a : ℕ) → a < suc a
      next a = omega arith

      rest : (b k : ℕ) → b + suc k ≤ 65536 → suc b + k ≤ 65536
      rest b k l = omega arith

  -- ---- the names of procedures

  count-sum : (a x y : ℕ) → count_from a (x + y) ≡ count_from a x ++ count_from (a + x) y
  count-sum a zero y = λ i. count_from (none a i) (nothing y i)
    where
      none : (a : ℕ) → a ≡ a + 0
      none a = omega arith

      nothing : (y : ℕ) → 0 + y ≡ y
      nothing y = omega arith
  count-sum a (suc x) y =
      ap (count_from a) (one x y) ∙ ap (λ (ks : List ℕ). a ∷ ks) (count-sum (suc a) x y ∙ ap (λ (k : ℕ). count_from (suc a) x ++ count_from k y) (sum a x))
    where
      one : (x y : ℕ) → suc x + y ≡ suc (x + y)
      one x y = omega arith

      sum : (a x : ℕ) → suc a + x ≡ a + suc x
      sum a x = omega arith

  either_numbered : (t : Bool) (a b : List Procedure) (next c : ℕ) → names_of a ≡ numbered next (suc c) → names_of b ≡ numbered next c
      → names_of (elim t [ true ↦ a | false ↦ b ]) ≡ numbered next (cond t (suc c) c)
  either_numbered true a b next c p q = p
  either_numbered false a b next c p q = q

  mutual
    names_numbered : (d : Proof) (next : ℕ) (procs : List ℕ) → names_of (procedures main next procs d) ≡ numbered next (called_count d)
    names_numbered (Derived n r ds) next procs =
        either_numbered (is_called n r ds) _ (procedures_in main next (with_proc r 0 procs) ds) next (called_counts ds)
        (ap (λ (ks : List (List ℕ)). auxiliary_name main next ∷ ks) (all_numbered ds (suc next) (with_proc r next procs))) (all_numbered ds next (with_proc r 0 procs))

    all_numbered : (ds : Proofs) (next : ℕ) (procs : List ℕ) → names_of (procedures_in main next procs ds) ≡ numbered next (called_counts ds)
    all_numbered NoMore next procs = refl
    all_numbered (More d ds) next procs =
        map-append (λ (p : Procedure). p.name) (procedures main next procs d) (procedures_in main (next + called_count d) procs ds)
        ∙ (λ i. names_numbered d next procs i ++ all_numbered ds (next + called_count d) procs i)
        ∙ sym (map-append (auxiliary_name main) (count_from next (called_count d)) (count_from (next + called_count d) (called_counts ds)))
        ∙ ap (map (auxiliary_name main)) (sym (count-sum next (called_count d) (called_counts ds)))

pub names_differ : (name : List ℕ) (d : Proof) → length (program_of name d) ≤ 65535 → IsDistinct bytes_eq (names_of (program_of name d))
names_differ name (Derived n r ds) few =
    let main : List ℕ = main_name name in
    subst (λ (ks : List (List ℕ)). IsDistinct bytes_eq (main ∷ ks)) (sym (all_numbered main ds 1 (with_proc r 0 [])))
    (IsDistinct-cons bytes_eq main (numbered main 1 (called_counts ds)) (main_apart main 1 (called_counts ds))
    (all_apart main 1 (called_counts ds) (low (length (procedures_in main 1 (with_proc r 0 []) ds)) (called_counts ds) (length-procedures_in ds main 1 (with_proc r 0 [])) few)))
  where
    low : (l c : ℕ) → l ≡ c → suc l ≤ 65535 → 1 + c ≤ 65536
    low l c e few = omega arith
