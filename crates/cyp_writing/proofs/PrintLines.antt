-- The bytes of a line of marks.
use Rattle.std.proofs.Common.{Bool, List, [], ap, append_assoc, cond, false, get_or, length, map, refl, sym, take, true, ℕ, ◌+◌, ◌++◌, ◌<◌, ◌≤◌, ◌∙◌, ◌∷◌, ◌≡◌}
use Rattle.std.specs.Prelude.{codes, flat_map, not, ◌||◌}
use Rattle.std.proofs.lemmas.Grind.{flat_map-append}
use Rattle.std.proofs.lemmas.List.{append-nil, take_all, take_more}
use Rattle.cyp_lex.specs.Lexemes.{Name, Number, Reserved, Said, Symbol, Variable}
use Rattle.cyp_lex.specs.Spelling.{Mark}
use Rattle.cyp_heap.specs.declared.goal.Goal.{Goal}
use Rattle.cyp_heap.specs.declared.pred.Pred.{Pred}
use Rattle.cyp_heap.specs.declared.pred.Preds.{Preds}
use Rattle.cyp_lex.specs.declared.token.Sign.TheVariants.{LeftBracket, LeftParen}
use Rattle.cyp_writing.specs.PrintMarks.{Printed, blank_if, edge_of, takes_blank, with_lines, with_marks, with_said}
use Rattle.cyp_writing.specs.declared.printer.Edge.{Edge}
use Rattle.cyp_writing.specs.declared.printer.Edge.TheVariants.{LineStart}
use Rattle.cyp_writing.specs.Printing.{is_closing, is_paren, is_tight, line_of, mark_said, pred_line, proc_line, said_text, spaced, spaced_behind, specification_text}
use Rattle.cyp_names.specs.Specifications.{Specification}

turned : (b : Bool) → blank_if (not b) ≡ cond b [] (codes " ")
turned true = refl
turned false = refl

or_false : (b : Bool) → b || false ≡ b
or_false true = refl
or_false false = refl

plain : (k : Said) → blank_if (not (is_closing k)) ≡ cond (is_closing k || false) [] (codes " ")
plain k = turned (is_closing k) ∙ ap (λ b. cond b [] (codes " ")) (sym (or_false (is_closing k)))

-- what stands before decides on the blank
blank_is : (j k : Said) → blank_if (takes_blank (edge_of j) k) ≡ cond (is_tight j k) [] (codes " ")
blank_is (Name text) k = turned (is_closing k || is_paren k)
blank_is (Symbol LeftParen) k = refl
blank_is (Symbol LeftBracket) k = refl
blank_is (Variable n) k = plain k
blank_is (Number n) k = plain k
blank_is (Reserved w) k = plain k
blank_is (Symbol _) k = plain k

-- a token's bytes
said_bytes : (p : Printed) (k : Said) → (with_said p k).bytes ≡ p.bytes ++ (blank_if (takes_blank p.edge k) ++ said_text k)
unfolding with_said
said_bytes p k = append_assoc p.bytes (blank_if (takes_blank p.edge k)) (said_text k)

said_edge : (p : Printed) (k : Said) → (with_said p k).edge ≡ edge_of k
unfolding with_said
said_edge p k = refl

behind : (p : Printed) (j : Said) → p.edge ≡ edge_of j → (ms : List Mark) → (with_marks p ms).bytes ≡ p.bytes ++ spaced_behind j (map mark_said ms)
behind p j e [] = sym (append-nil p.bytes)
behind p j e (m ∷ ms) =
    behind (with_said p (mark_said m)) (mark_said m) (said_edge p (mark_said m)) ms
    ∙ ap (λ (bs : List ℕ). bs ++ spaced_behind (mark_said m) (map mark_said ms))
    (said_bytes p (mark_said m) ∙ ap (λ (bs : List ℕ). p.bytes ++ (bs ++ said_text (mark_said m))) (ap (λ (edge : Edge). blank_if (takes_blank edge (mark_said m))) e ∙ blank_is j (mark_said m)))
    ∙ append_assoc p.bytes (cond (is_tight j (mark_said m)) [] (codes " ") ++ said_text (mark_said m)) (spaced_behind (mark_said m) (map mark_said ms))

at_start : (p : Printed) → p.edge ≡ LineStart → (ms : List Mark) → (with_marks p ms).bytes ≡ p.bytes ++ spaced (map mark_said ms)
at_start p e [] = sym (append-nil p.bytes)
at_start p e (m ∷ ms) =
    behind (with_said p (mark_said m)) (mark_said m) (said_edge p (mark_said m)) ms
    ∙ ap (λ (bs : List ℕ). bs ++ spaced_behind (mark_said m) (map mark_said ms))
    (said_bytes p (mark_said m) ∙ ap (λ (edge : Edge). p.bytes ++ (blank_if (takes_blank edge (mark_said m)) ++ said_text (mark_said m))) e)
    ∙ append_assoc p.bytes (said_text (mark_said m)) (spaced_behind (mark_said m) (map mark_said ms))

-- a line, and its end
pub line_written : (p q r : Printed) (ms : List Mark) → p.edge ≡ LineStart → q ≡ with_marks p ms → r ≡ record { bytes = q.bytes ++ codes "\n"; edge = LineStart } → r ≡ with_lines p.bytes (line_of ms)
line_written p q r ms e is ended =
    ended
    ∙ ap (λ (bs : List ℕ). let s : Printed = record { bytes = bs; edge = LineStart } in s)
    (ap (λ (s : Printed). s.bytes ++ codes "\n") is ∙ ap (λ (bs : List ℕ). bs ++ codes "\n") (at_start p e ms) ∙ append_assoc p.bytes (spaced (map mark_said ms)) (codes "\n"))

-- ---- the lines of a text

-- one more line
pub lines_step : {A : Type 0} (line : A → List ℕ) (xs : List A) (i : ℕ) (x : A) (p r : Printed)
    → i < length xs → x ≡ get_or xs i x → p ≡ with_lines [] (flat_map line (take i xs)) → r ≡ with_lines p.bytes (line x) → r ≡ with_lines [] (flat_map line (take (i + 1) xs))
lines_step line xs i x p r below is before written =
    written
    ∙ ap (λ (s : Printed). with_lines s.bytes (line x)) before
    ∙ ap (λ (bs : List ℕ). with_lines [] (flat_map line (take i xs) ++ bs)) (sym (append-nil (line x)))
    ∙ ap (λ (bs : List ℕ). with_lines [] bs) (sym (flat_map-append line (take i xs) (x ∷ [])))
    ∙ ap (λ ys. with_lines [] (flat_map line ys)) (ap (λ y. take i xs ++ y ∷ []) is ∙ sym (take_more xs i x below))

pub line_begins : (p : Printed) (bs : List ℕ) → p ≡ with_lines [] bs → p.edge ≡ LineStart
line_begins p bs e = ap (λ (s : Printed). s.edge) e

-- all lines, and the last
pub text_written : (s : Specification) (list : List Pred) (i : ℕ) (p q : Printed) (t : List ℕ) → list ≡ s.preds.list → length list ≤ i
    → p ≡ with_lines [] (flat_map (pred_line s.preds) (take i list)) → q ≡ with_lines p.bytes (proc_line s) → t ≡ q.bytes → t ≡ specification_text s
text_written s list i p q t same_list ends before last out =
    out
    ∙ ap (λ (r : Printed). r.bytes) last
    ∙ ap (λ (r : Printed). r.bytes ++ proc_line s) before
    ∙ ap (λ (ls : List Pred). flat_map (pred_line s.preds) ls ++ proc_line s) (take_all i list ends ∙ same_list)
