-- The number of a variable, looked up from a place on.
use Rattle.std.proofs.Common.{◌≡◌, ◌∙◌, ◌+◌, ◌<◌, ◌≤◌, ℕ, List, [], ◌∷◌, false, cond, drop, get_or, length, refl, sym, ap}
use Rattle.std.specs.Prelude.{zip}
use Rattle.std.proofs.lemmas.List.{drop_all, drop_more}
use Rattle.cyp_kernel.specs.Naming.{Names, name_of}
use Rattle.cyp_print.specs.Lines.{number_or}
use Rattle.cyp_term.specs.Terms.{var_eq}
use Rattle.cyp_term.specs.declared.term.Var.{Var}

-- without a name it is 0
pub named_or_zero : (names : Names) (v : Var) → number_or names 0 v ≡ name_of names v
named_or_zero [] v = refl
named_or_zero (p ∷ ps) v = ap (cond (var_eq p.0 v) p.1) (named_or_zero ps v)

-- from a place on
abbrev pub looked_from : List Var → List ℕ → ℕ → ℕ → Var → ℕ
looked_from vars numbers i k v = number_or (zip (drop i vars) (drop i numbers)) k v

unnamed : (vars : List Var) (k : ℕ) (v : Var) → number_or (zip vars []) k v ≡ k
unnamed [] k v = refl
unnamed (w ∷ ws) k v = refl

-- past the last number
pub looked-past_numbers : (vars : List Var) (numbers : List ℕ) (i k : ℕ) (v : Var) → length numbers ≤ i → looked_from vars numbers i k v ≡ k
looked-past_numbers vars numbers i k v h = ap (λ ns. number_or (zip (drop i vars) ns) k v) (drop_all i numbers h) ∙ unnamed (drop i vars) k v

-- past the last variable
pub looked-past_vars : (vars : List Var) (numbers : List ℕ) (i k : ℕ) (v : Var) → length vars ≤ i → looked_from vars numbers i k v ≡ k
looked-past_vars vars numbers i k v h = ap (λ ws. number_or (zip ws (drop i numbers)) k v) (drop_all i vars h)

drop-here : {A : Type 0} (xs : List A) (i : ℕ) (x : A) → i < length xs → x ≡ get_or xs i x → drop i xs ≡ x ∷ drop (i + 1) xs
drop-here xs i x lt is = drop_more xs i x lt ∙ ap (λ y. y ∷ drop (i + 1) xs) (sym is)

-- at another variable
pub looked-behind : (vars : List Var) (numbers : List ℕ) (i k : ℕ) (v w : Var) → i < length vars → w ≡ get_or vars i w → i < length numbers → var_eq w v ≡ false
    → looked_from vars numbers i k v ≡ looked_from vars numbers (i + 1) k v
looked-behind vars numbers i k v w h is g ne =
    (λ j. number_or (zip (drop-here vars i w h is j) (drop_more numbers i 0 g j)) k v)
    ∙ ap (λ b. cond b (get_or numbers i 0) (looked_from vars numbers (i + 1) k v)) ne
