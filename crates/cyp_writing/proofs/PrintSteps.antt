-- Marks that are printed one after another.
use Rattle.std.proofs.Common.{◌≡◌, ◌++◌, ◌∙◌, ◌∷◌, [], List, ap, refl, sym}
use Rattle.cyp_lex.specs.Spelling.{Mark}
use Rattle.cyp_writing.specs.PrintMarks.{Printed, with_marks, with_said}
use Rattle.cyp_writing.specs.Printing.{mark_said}

pub with_marks_append : (p : Printed) (xs ys : List Mark) → with_marks p (xs ++ ys) ≡ with_marks (with_marks p xs) ys
with_marks_append p [] ys = refl
with_marks_append p (m ∷ xs) ys = with_marks_append (with_said p (mark_said m)) xs ys

-- first these marks, then those
pub both : (xs ys : List Mark) (start p r : Printed) → p ≡ with_marks start xs → r ≡ with_marks p ys → r ≡ with_marks start (xs ++ ys)
both xs ys start p r e f = f ∙ ap (λ (s : Printed). with_marks s ys) e ∙ sym (with_marks_append start xs ys)

-- one mark at the end
pub then_one : (xs : List Mark) (m : Mark) (start p r : Printed) → p ≡ with_marks start xs → r ≡ with_said p (mark_said m) → r ≡ with_marks start (xs ++ m ∷ [])
then_one xs m start p r e f = both xs (m ∷ []) start p r e f

-- marks between two others
pub enclosed : (a b : Mark) (xs : List Mark) (start p q r : Printed) → p ≡ with_said start (mark_said a) → q ≡ with_marks p xs → r ≡ with_said q (mark_said b) → r ≡ with_marks start (a ∷ (xs ++ b ∷ []))
enclosed a b xs start p q r first inner last = then_one xs b p q r inner last ∙ ap (λ (s : Printed). with_marks s (xs ++ b ∷ [])) first

-- marks behind two others
pub headed : (a b : Mark) (xs : List Mark) (start p q r : Printed) → p ≡ with_said start (mark_said a) → q ≡ with_said p (mark_said b) → r ≡ with_marks q xs → r ≡ with_marks start (a ∷ b ∷ xs)
headed a b xs start p q r first second rest = rest ∙ ap (λ (s : Printed). with_marks s xs) (second ∙ ap (λ (s : Printed). with_said s (mark_said b)) first)

-- marks with one between them
pub between : (xs ys : List Mark) (m : Mark) (start p q r : Printed) → p ≡ with_marks start xs → q ≡ with_said p (mark_said m) → r ≡ with_marks q ys → r ≡ with_marks start (xs ++ (m ∷ ys))
between xs ys m start p q r first mid rest = both xs (m ∷ ys) start p r first (rest ∙ ap (λ (s : Printed). with_marks s ys) mid)
