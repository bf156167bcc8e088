-- Lexemes spell one input of a run, or they are refused somewhere.
use Rattle.std.proofs.Common.{◌≡◌, ◌++◌, ◌∙◌, ◌⊎◌, Bool, Err, List, Ok, [], ◌∷◌, ap, append-nil, append_assoc, arith, false, inl, inr, length, refl, subst, suc, sym, true, ℕ}
use Rattle.std.specs.Prelude.{codes}
use Rattle.std.specs.Str.{bytes_eq}
use Rattle.std.specs.Bool.{Decides}
use Rattle.std.proofs.lemmas.Slice.Eq.{bytes_eq-Decides}
use Rattle.cyp_lex.proofs.Lists.{made}
use Rattle.cyp_lex.proofs.Readings.{Avoids, Bars, SameHead, Sound, Stuck, Took}
use Rattle.cyp_lex.proofs.Spellings.{then_join, then_put, then_split}
use Rattle.cyp_lex.proofs.Wholes.{whole_reads}
use Rattle.cyp_lex.specs.Beginnings.{Refused}
use Rattle.cyp_lex.specs.Lexemes.{Lexeme, Name, Said}
use Rattle.cyp_lex.specs.Readers.{Read, Stop, is_word, whole_of}
use Rattle.cyp_lex.specs.declared.want.Want.{Want}
use Rattle.cyp_lex.specs.declared.want.Want.TheVariants.{AName, NoName}
use Rattle.cyp_lex.specs.Spelling.{IsEnd, Mark, Match, Then}
use Rattle.cyp_lex.specs.declared.token.Word.TheVariants.{Void}
use Rattle.cyp_machine.proofs.LineLaws.{line_reads}
use Rattle.cyp_machine.specs.RunInput.{InputTree, StartTree, input_spelling, line_spelling, start_spelling}
use Rattle.cyp_machine.proofs.RunInputReaders.{line_at}
use Rattle.cyp_prog.proofs.Decided.{Decision, Stopped, decided}
use Rattle.cyp_prog.proofs.Exact.{end_avoids, reads_exact}
use Rattle.cyp_prog.proofs.ProgramLaws.{program_reads}
use Rattle.cyp_prog.specs.Grammar.{program_spelling}
use Rattle.cyp_prog.specs.StmtReaders.{program_at}
use Rattle.cyp_prog.specs.Trees.{ProgramTree}

input_is : (x y : InputTree) → x.program ≡ y.program → x.start ≡ y.start → x ≡ y
input_is x y e f =
    let input : ProgramTree → StartTree → InputTree = λ p s. record { program = p; start = s } in
    ap (λ p. input p x.start) e ∙ ap (λ s. input y.program s) f

-- no start line begins like a procedure
start_avoids : (t : StartTree) (K : List Lexeme → Type 0) → Avoids (is_word Void) (Then (start_spelling t) K)
start_avoids t K l ls h = ap (is_word Void) h.0

start_same : (s t : StartTree) (ls : List Lexeme) → Match (start_spelling s) ls → Match (start_spelling t) ls → s ≡ t
start_same s t [] h i = absurd h
start_same s t (l ∷ ls) h i = (reads_exact line_reads s t IsEnd IsEnd (end_avoids _) (end_avoids _) ls h.1 i.1).0

-- lexemes spell one input at most
pub one_input : (x y : InputTree) (ls : List Lexeme) → Match (input_spelling x) ls → Match (input_spelling y) ls → x ≡ y
one_input x y ls h i =
    let program = reads_exact program_reads x.program y.program (Match (start_spelling x.start)) (Match (start_spelling y.start)) (start_avoids x.start IsEnd) (start_avoids y.start IsEnd) ls
    (then_split (program_spelling x.program) (start_spelling x.start) IsEnd ls h) (then_split (program_spelling y.program) (start_spelling y.start) IsEnd ls i) in
    input_is x y program.0 (start_same x.start y.start program.1.0 program.1.1 program.1.2)

-- ---- what is refused

refuse_by : {A : Type 0} (spell : A → List Mark) (before rest : List Lexeme) → ((w : List Lexeme) → SameHead rest w → (t : A) → Match (spell t) (before ++ w) → ⊥) → Refused spell before rest
refuse_by spell before [] never = λ t m. never [] tt t (subst (λ (ls : List Lexeme). Match (spell t) ls) (sym (append-nil before)) m)
refuse_by spell before (l ∷ us) never = λ b. never (l ∷ b.1) refl b.0 (subst (λ (ls : List Lexeme). Match (spell b.0) ls) (append_assoc before (l ∷ []) b.1) b.2)

refused_there : {A : Type 0} (spell : A → List Mark) (before rest : List Lexeme) → Refused spell before rest → (w : List Lexeme) → SameHead rest w → (t : A) → Match (spell t) (before ++ w) → ⊥
refused_there spell before [] r [] s t m = r t (subst (λ (ls : List Lexeme). Match (spell t) ls) (append-nil before) m)
refused_there spell before [] r (k ∷ w) s t m = s
refused_there spell before (l ∷ us) r [] s t m = s
refused_there spell before (l ∷ us) r (k ∷ w) s t m =
    let there : Match (spell t) (before ++ (l ∷ w)) = subst (λ (x : Lexeme). Match (spell t) (before ++ (x ∷ w))) (sym s) m in
    r (t, w, subst (λ (ls : List Lexeme). Match (spell t) ls) (sym (append_assoc before (l ∷ []) w)) there)

-- ---- a program before a start line

-- the lexemes are a start line
abbrev Starts : List Lexeme → Type 0
Starts ls = (t : StartTree) × Match (start_spelling t) ls

starts_avoid : Avoids (is_word Void) Starts
starts_avoid l ls h = ap (is_word Void) h.1.0

some_start : StartTree
some_start = (line_reads 0).some

some_lexemes : List Lexeme
some_lexemes = made (Name (codes "start")) ∷ (line_reads 0).shown

is_start : Match (start_spelling some_start) some_lexemes
unfolding some_start some_lexemes
is_start = (refl, (line_reads 0).is_some)

then_starts : (ms : List Mark) (t : StartTree) (ls : List Lexeme) → Then ms (Match (start_spelling t)) ls → Then ms Starts ls
then_starts [] t ls h = (t, h)
then_starts (m ∷ ms) t [] h = h
then_starts (m ∷ ms) t (l ∷ ls) h = (h.0, then_starts ms t ls h.1)

from_starts : (ms : List Mark) (ls : List Lexeme) → Then ms Starts ls → (t : StartTree) × Then ms (Match (start_spelling t)) ls
from_starts [] ls h = h
from_starts (m ∷ ms) [] h = absurd h
from_starts (m ∷ ms) (l ∷ ls) h =
    let rest = from_starts ms ls h.1 in
    (rest.0, (h.0, rest.1))

split : (x : InputTree) (ls : List Lexeme) → Match (input_spelling x) ls → Then (program_spelling x.program) Starts ls
split x ls h = then_starts (program_spelling x.program) x.start ls (then_split (program_spelling x.program) (start_spelling x.start) IsEnd ls h)

joined : (p : ProgramTree) (t : StartTree) (front w : List Lexeme) → Match (program_spelling p) front → Match (start_spelling t) w → Match (input_spelling (record { program = p; start = t })) (front ++ w)
joined p t front w h i = then_join (program_spelling p) (start_spelling t) IsEnd (front ++ w) (then_put (program_spelling p) (Match (start_spelling t)) front w h i)

-- ---- decisions

abbrev Stops : List Lexeme → Type 0
Stops ls = Stopped InputTree input_spelling ls

bars_by : (want : Want) (rest w : List Lexeme) → SameHead rest w → Bars want rest w
bars_by AName rest w same = same
bars_by NoName rest w same = inl same

-- the program doesn't end
no_program : (ls : List Lexeme) (s : Stop) → Stuck ProgramTree program_spelling (is_word Void) (is_word Void) ls s → Stops ls
no_program ls s h =
    let v = h.viable Starts some_lexemes (some_start, is_start) [] tt in
    let there = from_starts (program_spelling v.1) (h.before ++ v.0) v.2 in
    record {
      before = h.before;
      rest = h.rest;
      parts = h.parts;
      begins = (record { program = v.1; start = there.0 }, v.0, then_join (program_spelling v.1) (start_spelling there.0) IsEnd (h.before ++ v.0) there.1);
      refused = refuse_by input_spelling h.before h.rest (λ w same x m. h.none Starts starts_avoid w (bars_by s.want h.rest w same) x.program (split x (h.before ++ w) m));
    }

-- behind the program stands no `start`
no_start : (ls : List Lexeme) (p : ProgramTree) (rest : List Lexeme) → Took ProgramTree program_spelling (is_word Void) ls p rest → ((w : List Lexeme) → SameHead rest w → Starts w → ⊥) → Stops ls
no_start ls p rest h never = record {
  before = h.front;
  rest = rest;
  parts = h.parts;
  begins = (record { program = p; start = some_start }, some_lexemes, joined p some_start h.front some_lexemes h.matched is_start);
  refused = refuse_by input_spelling h.front rest (λ w same x m. never w same (h.only Starts starts_avoid w (inl same) x.program (split x (h.front ++ w) m)).1);
}

line_by : (ls : List Lexeme) (p : ProgramTree) (l : Lexeme) (us : List Lexeme) → Took ProgramTree program_spelling (is_word Void) ls p (l ∷ us) → l.said ≡ Name (codes "start") → Decision StartTree line_spelling us
    → Decision InputTree input_spelling ls
line_by ls p l us h e (inl t) =
    inl (record { program = p; start = t.0 }, subst (λ (w : List Lexeme). Match (input_spelling (record { program = p; start = t.0 })) w) (sym h.parts) (joined p t.0 h.front (l ∷ us) h.matched (e, t.1)))
line_by ls p l us h e (inr g) =
    let line = g.begins in
    inr (record {
      before = h.front ++ (l ∷ g.before);
      rest = g.rest;
      parts = h.parts ∙ ap (λ (w : List Lexeme). h.front ++ (l ∷ w)) g.parts ∙ sym (append_assoc h.front (l ∷ g.before) g.rest);
      begins = (
        record { program = p; start = line.0 },
        line.1,
        subst (λ (w : List Lexeme). Match (input_spelling (record { program = p; start = line.0 })) w) (sym (append_assoc h.front (l ∷ g.before) line.1)) (joined p line.0 h.front (l ∷ (g.before ++ line.1)) h.matched (e, line.2)),
      );
      refused = refuse_by input_spelling (h.front ++ (l ∷ g.before)) g.rest (λ w same x m. never w same x (subst (λ (v : List Lexeme). Match (input_spelling x) v) (append_assoc h.front (l ∷ g.before) w) m));
    })
  where
    never : (w : List Lexeme) → SameHead g.rest w → (x : InputTree) → Match (input_spelling x) (h.front ++ (l ∷ (g.before ++ w))) → ⊥
    never w same x m =
        let start : Starts (l ∷ (g.before ++ w)) = (h.only Starts starts_avoid (l ∷ (g.before ++ w)) (inl refl) x.program (split x (h.front ++ (l ∷ (g.before ++ w))) m)).1 in
        refused_there line_spelling g.before g.rest g.refused w same start.0 start.1.1

-- ---- the word `start`

abbrev IsOrNot : Type 0 → Type 0
IsOrNot P = P ⊎ (P → ⊥)

name_by : (x : List ℕ) (b : Bool) → Decides b (x ≡ codes "start") → IsOrNot (Name x ≡ Name (codes "start"))
name_by x true d = inl (ap (λ (y : List ℕ). Name y) (d.0 refl))
name_by x false d = inr (λ e. let same : x ≡ codes "start" = cc in cc (d.1 same))

start_or_not : (k : Said) → IsOrNot (k ≡ Name (codes "start"))
start_or_not (Name x) = name_by x (bytes_eq x (codes "start")) (bytes_eq-Decides x (codes "start"))
start_or_not k = inr (λ e. cc)

no_lexeme : (w : List Lexeme) → SameHead [] w → Starts w → ⊥
no_lexeme [] same h = h.1
no_lexeme (k ∷ w) same h = same

other_lexeme : (l : Lexeme) (us w : List Lexeme) → (l.said ≡ Name (codes "start") → ⊥) → SameHead (l ∷ us) w → Starts w → ⊥
other_lexeme l us [] other same h = h.1
other_lexeme l us (k ∷ w) other same h = other (ap (λ (x : Lexeme). x.said) same ∙ h.1.0)

start_by : (ls : List Lexeme) (p : ProgramTree) (l : Lexeme) (us : List Lexeme) → Took ProgramTree program_spelling (is_word Void) ls p (l ∷ us) → IsOrNot (l.said ≡ Name (codes "start")) → Decision InputTree input_spelling ls
start_by ls p l us h (inl e) = line_by ls p l us h e (decided line_spelling us (whole_of line_at us) (whole_reads line_reads us))
start_by ls p l us h (inr other) = inr (no_start ls p (l ∷ us) h (λ w same k. other_lexeme l us w other same k))

behind_program : (ls : List Lexeme) (p : ProgramTree) (rest : List Lexeme) → Took ProgramTree program_spelling (is_word Void) ls p rest → Decision InputTree input_spelling ls
behind_program ls p [] h = inr (no_start ls p [] h no_lexeme)
behind_program ls p (l ∷ us) h = start_by ls p l us h (start_or_not l.said)

program_by : (ls : List Lexeme) (r : Read ProgramTree) → Sound ProgramTree program_spelling (is_word Void) (is_word Void) ls r → Decision InputTree input_spelling ls
program_by ls (Ok x) h = behind_program ls x.0 x.1 h
program_by ls (Err s) h = inr (no_program ls s h)

-- lexemes spell an input, or they are refused somewhere
pub input_decided : (ls : List Lexeme) → Decision InputTree input_spelling ls
input_decided ls = program_by ls (program_at ls) ((program_reads (suc (length ls))).sound ls (omega arith))
