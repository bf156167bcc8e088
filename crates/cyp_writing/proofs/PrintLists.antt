-- Lists that are printed item by item.
use Rattle.std.proofs.Common.{List, [], ap, append_assoc, arith, drop, get_or, length, map, refl, sym, take, ℕ, ◌+◌, ◌++◌, ◌-◌, ◌<◌, ◌≤◌, ◌∙◌, ◌∷◌, ◌≡◌}
use Rattle.std.proofs.lemmas.List.{append-nil, take_all, take_more}
use Rattle.cyp_lex.specs.Lexemes.{Said}
use Rattle.cyp_lex.specs.Spelling.{Any, Mark, all_spelling, more_spelling, separated}
use Rattle.cyp_writing.specs.PrintMarks.{Printed, with_marks, with_said}
use Rattle.cyp_writing.proofs.PrintSteps.{both, with_marks_append}

-- ---- one list behind another

pub more_append : {A : Type 0} (k : Said) (spell : A → List Mark) (xs ys : List A) → more_spelling k spell (xs ++ ys) ≡ more_spelling k spell xs ++ more_spelling k spell ys
more_append k spell [] ys = refl
more_append k spell (x ∷ xs) ys =
    ap (λ (ms : List Mark). Any k ∷ (spell x ++ ms)) (more_append k spell xs ys)
    ∙ ap (λ (ms : List Mark). Any k ∷ ms) (sym (append_assoc (spell x) (more_spelling k spell xs) (more_spelling k spell ys)))

pub all_append : {A : Type 0} (spell : A → List Mark) (xs ys : List A) → all_spelling spell (xs ++ ys) ≡ all_spelling spell xs ++ all_spelling spell ys
all_append spell [] ys = refl
all_append spell (x ∷ xs) ys =
    ap (λ (ms : List Mark). spell x ++ ms) (all_append spell xs ys) ∙ sym (append_assoc (spell x) (all_spelling spell xs) (all_spelling spell ys))

-- ---- what is spelled through other trees

pub more_map : {A B : Type 0} (k : Said) (f : A → B) (spell : B → List Mark) (xs : List A) → more_spelling k spell (map f xs) ≡ more_spelling k (λ x. spell (f x)) xs
more_map k f spell [] = refl
more_map k f spell (x ∷ xs) = ap (λ (ms : List Mark). Any k ∷ (spell (f x) ++ ms)) (more_map k f spell xs)

pub separated_map : {A B : Type 0} (k : Said) (f : A → B) (spell : B → List Mark) (xs : List A) → separated k spell (map f xs) ≡ separated k (λ x. spell (f x)) xs
separated_map k f spell [] = refl
separated_map k f spell (x ∷ xs) = ap (λ (ms : List Mark). spell (f x) ++ ms) (more_map k f spell xs)

pub all_map : {A B : Type 0} (f : A → B) (spell : B → List Mark) (xs : List A) → all_spelling spell (map f xs) ≡ all_spelling (λ x. spell (f x)) xs
all_map f spell [] = refl
all_map f spell (x ∷ xs) = ap (λ (ms : List Mark). spell (f x) ++ ms) (all_map f spell xs)

-- ---- the steps of loops

-- one more item, behind its separator
pub more_step : {A : Type 0} (k : Said) (spell : A → List Mark) (xs : List A) (i : ℕ) (x : A) (start p q r : Printed)
    → i < length xs → x ≡ get_or xs i x → p ≡ with_marks start (more_spelling k spell (take i xs)) → q ≡ with_said p k → r ≡ with_marks q (spell x)
    → r ≡ with_marks start (more_spelling k spell (take (i + 1) xs))
more_step k spell xs i x start p q r below is before mark item =
    item
    ∙ ap (λ (s : Printed). with_marks s (spell x)) (mark ∙ ap (λ (s : Printed). with_said s k) before)
    ∙ ap (λ (ms : List Mark). with_marks (with_marks start (more_spelling k spell (take i xs))) (Any k ∷ ms)) (sym (append-nil (spell x)))
    ∙ sym (with_marks_append start (more_spelling k spell (take i xs)) (more_spelling k spell (x ∷ [])))
    ∙ ap (λ (ms : List Mark). with_marks start ms) (sym (more_append k spell (take i xs) (x ∷ [])) ∙ ap (more_spelling k spell) grown)
  where
    grown : take i xs ++ x ∷ [] ≡ take (i + 1) xs
    grown = ap (λ y. take i xs ++ y ∷ []) is ∙ sym (take_more xs i x below)

-- one more item
pub all_step : {A : Type 0} (spell : A → List Mark) (xs : List A) (i : ℕ) (x : A) (start p r : Printed)
    → i < length xs → x ≡ get_or xs i x → p ≡ with_marks start (all_spelling spell (take i xs)) → r ≡ with_marks p (spell x)
    → r ≡ with_marks start (all_spelling spell (take (i + 1) xs))
all_step spell xs i x start p r below is before item =
    item
    ∙ ap (λ (s : Printed). with_marks s (spell x)) before
    ∙ sym (with_marks_append start (all_spelling spell (take i xs)) (spell x))
    ∙ ap (λ (ms : List Mark). with_marks start (all_spelling spell (take i xs) ++ ms)) (sym (append-nil (spell x)))
    ∙ ap (λ (ms : List Mark). with_marks start ms) (sym (all_append spell (take i xs) (x ∷ [])) ∙ ap (all_spelling spell) grown)
  where
    grown : take i xs ++ x ∷ [] ≡ take (i + 1) xs
    grown = ap (λ y. take i xs ++ y ∷ []) is ∙ sym (take_more xs i x below)

-- ---- the ends

-- what stands behind the first item
pub behind_first : {A : Type 0} (xs : List A) → take (length xs - 1) (drop 1 xs) ≡ drop 1 xs
behind_first [] = refl
behind_first (x ∷ xs) = take_all (length (x ∷ xs) - 1) xs (omega arith)

-- the first item, and then the others
pub apart_ends : {A : Type 0} (k : Said) (spell : A → List Mark) (xs : List A) (x : A) (start p r : Printed)
    → 1 ≤ length xs → x ≡ get_or xs 0 x → p ≡ with_marks start (spell x) → r ≡ with_marks p (more_spelling k spell (take (length xs - 1) (drop 1 xs))) → r ≡ with_marks start (separated k spell xs)
apart_ends k spell [] x start p r some is first rest = absurd (omega arith)
apart_ends k spell (y ∷ ys) x start p r some is first rest =
    both (spell y) (more_spelling k spell ys) start p r
    (first ∙ ap (λ z. with_marks start (spell z)) is)
    (rest ∙ ap (λ zs. with_marks p (more_spelling k spell zs)) (behind_first (y ∷ ys)))
