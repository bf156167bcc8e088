-- Worked outputs.
use Rattle.std.proofs.Common.{[], Err, List, Option, Some, ap, arith, false, inl, inr, int_cmp, is_some, length, pos, refl, subst, sym, true, ℕ, ℤ, ◌++◌, ◌<◌, ◌∙◌, ◌∷◌, ◌≡◌}
use Rattle.std.proofs.lemmas.Bool.{lt-leb}
use Rattle.std.proofs.lemmas.Cmp.{int_cmp_total}
use Rattle.std.proofs.lemmas.List.{nil_from_length}
use Rattle.std.specs.FinMap.{empty, entries, entries-insert, from_entries, get-empty, len-empty, len-entries}
use Rattle.std.specs.FinMap.Entries.{put}
use Rattle.std.specs.Fmt.{digits}
use Rattle.std.specs.Prelude.{codes, flat_map, neg_ℤ}
use Rattle.cyp_heap.specs.Stores.{Store, no_store}
use Rattle.cyp_heap.specs.declared.goal.Node.{Node}
use Rattle.cyp_lex.specs.declared.fault.Fault.{Fault}
use Rattle.cyp_lex.specs.declared.fault.FaultKind.TheVariants.{GuardsOverlap, TooLong}
use Rattle.cyp_machine.specs.Faults.{unless_there}
use Rattle.cyp_machine.specs.RunInput.{RunInput}
use Rattle.cyp_machine.specs.States.{State}
use Rattle.cyp_machine.specs.declared.cause.Cause.TheVariants.{ReadMissing}
use Rattle.cyp_prog.specs.Programs.{Body, End, Invoking, Loading, Then}
use Rattle.cyp_prog.specs.declared.stmt.Expr.{Expr}
use Rattle.cyp_search.specs.Reports.{NoneFound, PlainReport}
use Rattle.cyp_search.specs.Reports.{Spent as BudgetSpent}
use Rattle.cyp_formed.specs.Reading.{IsReading, IsReadingOf}
use Rattle.cyp_step.specs.declared.rule.Rule.{Rule}
use Rattle.cyp_top.specs.Chain.{chain_lines}
use Rattle.cyp_top.specs.Lines.{output, words_refused}
use Rattle.cyp_top.specs.RunOutput.{IsRunOutput, IsRunOutputOf, block_line, cell_line, first_state, store_lines}
use Rattle.cyp_top.specs.Synthesis.{report_output}
use Rattle.cyp_top.specs.WholeOutput.{IsWholeOutput}
use Rattle.cyp_top.specs.declared.status.Status.TheVariants.{NoProgram, Program, Refused, Spent, Usage}
use Rattle.cyp_words.specs.Words.{Search}

-- ---- words

unknown_word : (bytes : List ℕ) → IsWholeOutput (codes "synth" ∷ codes "--" ∷ []) bytes (output (codes "words refused\n") Usage)
unknown_word bytes = refl

no_words : (bytes : List ℕ) → IsWholeOutput [] bytes words_refused
no_words bytes = refl

-- ---- texts that are refused

guards_overlap : (bytes : List ℕ) → IsReading bytes (Err (record { kind = GuardsOverlap; place = 43 }))
    → IsWholeOutput (codes "synth" ∷ []) bytes (output (codes "refused: GuardsOverlap at 43\n") Refused)
unfolding digits
guards_overlap bytes h = (Err (record { kind = GuardsOverlap; place = 43 }), h, refl)

long_text : (bytes : List ℕ) → 65536 < length bytes → IsWholeOutput (codes "synth" ∷ []) bytes (output (codes "refused: TooLong at 65536\n") Refused)
unfolding digits
long_text bytes l =
    let f : Fault = record { kind = TooLong; place = 65536 } in
    (Err f, subst (λ b. IsReadingOf b bytes (Err f)) (sym (lt-leb (length bytes) 65536 l)) refl, refl)

long_input : (bytes : List ℕ) → 65536 < length bytes → IsWholeOutput (codes "run" ∷ []) bytes (output (codes "refused: TooLong at 65536\n") Refused)
unfolding digits
long_input bytes l = subst (λ b. IsRunOutputOf b 100000 bytes (output (codes "refused: TooLong at 65536\n") Refused)) (sym (lt-leb (length bytes) 65536 l)) refl

-- ---- reports

abbrev no_program : PlainReport Rule Node
no_program = record { verdict = NoneFound; expansions = 8; nodes = 12; depth = 3 }

abbrev with_lines : Search
with_lines = record { budget = 20000; unfoldings = 2; workers = 4; stats = true }

abbrev without_lines : Search
without_lines = record { budget = 20000; unfoldings = 2; workers = 4; stats = false }

lines_printed : report_output with_lines (codes "f") no_program ≡ output (codes "no program\n// expansions 8\n// nodes 12\n// depth 3\n") NoProgram
unfolding digits
lines_printed = refl

no_lines_printed : report_output without_lines (codes "f") no_program ≡ output (codes "no program\n") NoProgram
unfolding digits
no_lines_printed = refl

chain_printed : chain_lines 3 no_program ≡ output (codes "gen 3\nanswer no program\nexpansions 8\nnodes 12\ndepth 3\n") NoProgram
unfolding digits
chain_printed = refl

chain_spent : chain_lines 16 (record { verdict = BudgetSpent; expansions = 100000; nodes = 100000; depth = 16 })
    ≡ output (codes "gen 16\nanswer budget spent\nexpansions 100000\nnodes 100000\ndepth 16\n") Spent
unfolding digits
chain_spent = refl

-- ---- stores

-- the entries in the order of their keys
abbrev puts : {X : Type 0} → List (ℤ × X) → List (ℤ × X)
puts [] = []
puts (e ∷ es) = put int_cmp e.0 e.1 (puts es)

no_entries : (X : Type 0) → entries (empty {X = X} {R = int_cmp}) ≡ []
no_entries X = nil_from_length (entries (empty {X = X} {R = int_cmp})) (sym (len-entries empty) ∙ len-empty int_cmp X)

entries_put : {X : Type 0} (es : List (ℤ × X)) → entries (from_entries {R = int_cmp} es) ≡ puts es
entries_put {X} [] = no_entries X
entries_put (e ∷ es) = entries-insert int_cmp_total (from_entries es) e.0 e.1 ∙ ap (put int_cmp e.0 e.1) (entries_put es)

store_put : (bs : List (ℤ × ℕ)) (cs : List (ℤ × ℤ))
    → store_lines (record { cells = from_entries cs; blocks = from_entries bs }) ≡ flat_map block_line (puts bs) ++ flat_map cell_line (puts cs)
store_put bs cs = λ i. flat_map block_line (entries_put bs i) ++ flat_map cell_line (entries_put cs i)

-- 10 comes behind 9
abbrev two_cells : Store
two_cells = record { cells = from_entries ((pos 10, pos 7) ∷ (pos 9, neg_ℤ (pos 3)) ∷ []); blocks = from_entries ((pos 9, 2) ∷ []) }

two_cells_printed : store_lines two_cells ≡ codes "[9, 2]\n9 :-> -3\n10 :-> 7\n"
unfolding digits
two_cells_printed = store_put ((pos 9, 2) ∷ []) ((pos 10, pos 7) ∷ (pos 9, neg_ℤ (pos 3)) ∷ [])

-- ---- runs

abbrev v1 : Expr
v1 = record { var = Some 1; offset = pos 0 }

-- a procedure with this body is called at 5
abbrev input : Body → Store → RunInput
input b h = record { program = record { name = codes "f"; params = 1; body = b } ∷ []; entry = 0; args = pos 5 ∷ []; store = h }

at_once : IsRunOutput (input End two_cells) 1 (output (codes "ended after 0 steps\n[9, 2]\n9 :-> -3\n10 :-> 7\n") Program)
unfolding digits
at_once = inl (record {
  steps = 0;
  state = first_state (input End two_cells);
  within = omega arith;
  run = refl;
  ended = refl;
  said = ap (λ (t : List ℕ). output (codes "ended after 0 steps\n" ++ t) Program) (sym two_cells_printed);
})

no_cell : IsRunOutput (input (Then (Loading 2 v1) End) no_store) 1 (output (codes "faulted: ReadMissing at step 1\n") NoProgram)
unfolding digits
no_cell = inr (inl (record {
  steps = 0;
  state = first_state (input (Then (Loading 2 v1) End) no_store);
  cause = ReadMissing;
  within = omega arith;
  run = refl;
  faulted = ap (λ (o : Option ℤ). unless_there (is_some o) ReadMissing) (get-empty int_cmp (pos 5));
  said = refl;
}))

-- the procedure calls itself
abbrev call_again : Body
call_again = Then (Invoking 0 (v1 ∷ [])) End

abbrev called : State
called = record {
  store = no_store;
  frames = record { values = (1, pos 5) ∷ []; rest = call_again } ∷ record { values = (1, pos 5) ∷ []; rest = End } ∷ [];
}

endless : IsRunOutput (input call_again no_store) 1 (output (codes "spent\n") Spent)
endless = inr (inr (record {
  state = called;
  run = (called, (record { name = codes "f"; params = 1; body = call_again }, refl, refl), refl);
  going = refl;
  said = refl;
}))
