-- Down the chain of a derivation: what is written, and what is still to be.
use Rattle.std.proofs.Common.{◌≡◌, ◌∙◌, ◌++◌, ◌+◌, ◌≤◌, ℕ, suc, List, [], ◌∷◌, IsTrue, false, length, refl, sym, ap, arith, append-nil, append_assoc, length-append}
use Rattle.cyp_goal.specs.Normal.{Renaming}
use Rattle.cyp_heap.specs.Keeps.{KeepsNode}
use Rattle.cyp_heap.specs.declared.goal.Node.{Node}
use Rattle.cyp_kernel.specs.Companions.{Proof, Proofs, called_count}
use Rattle.cyp_kernel.specs.Compile.{bodies, body, bound_count, head_names, renamings, tail_renamings, with_new_name}
use Rattle.cyp_kernel.specs.Naming.{Names, expr_of}
use Rattle.cyp_kernel.specs.Statements.{focus_content, focus_size, pre_cell_at, rule_body}
use Rattle.cyp_pred.specs.Unfold.{count_from}
use Rattle.cyp_prog.specs.ProgramText.{Bytes, body_text, statement_text}
use Rattle.cyp_prog.specs.Programs.{Body, Failing, Giving, Loading, Storing, Taking}
use Rattle.cyp_step.proofs.GoalOfNode.{goal_of_node}
use Rattle.cyp_step.specs.RuleKinds.{IsFlatRule}
use Rattle.cyp_step.specs.Step.{renamed_premises}
use Rattle.cyp_step.specs.declared.rule.Rule.{Rule}
use Rattle.cyp_step.specs.declared.rule.Rule.TheVariants.{ByAlloc, ByEmp, ByFrame, ByFree, ByInconsistent, ByPick, ByRead, ByWrite}
use Rattle.cyp_tree.specs.Derivations.{Derived, More, NoMore}
use Rattle.cyp_tree.specs.Follows.{root}
use Rattle.cyp_print.specs.Found.{IsFound}
use Rattle.cyp_print.specs.Lines.{lines_from, main_lines, names_at, next_numbers, own_lines}
use Rattle.cyp_print.proofs.ChainOf.{GoesOn, HasFlatRules, IsGoing, goes_on, going_is, opened, rules_of}
use Rattle.cyp_print.proofs.NamesKept.{names_next, numbers_next}
use Rattle.cyp_print.proofs.Numbering.{length-count_from}

-- at a derivation: what is written, and the numbers of the root's program variables
pub record IsAt (whole : Bytes) (start : ℕ) (text : Bytes) (numbers : List ℕ) (count : ℕ) (d : Proof) : Type 0 where
  pub written : text ++ lines_from numbers count d ≡ whole
  pub named : length numbers ≡ length (root d).goal.program
  pub counted : count + start ≤ 12 + length text
  pub found : IsFound d

-- ---- one rule

-- a rule's own lines stand before those of its premise
rule_text : (n : Node) (r : Rule) (names : Names) (new : ℕ) (b : Body) (bs : List Body) → IsGoing r
    → body_text [] 1 (rule_body n names [] new r (b ∷ bs)) ≡ own_lines names new n r ++ body_text [] 1 b
rule_text n (ByRead i) names new b bs g = refl
rule_text n (ByFrame i) names new b bs g = refl
rule_text n (ByWrite i) names new b bs g = refl
rule_text n (ByFree i) names new b bs g = refl
rule_text n ByAlloc names new b bs g = refl
rule_text n (ByPick u) names new b bs g = refl
rule_text n r names new b bs g = absurd g

-- and are all that a rule without premises writes
end_text : (n : Node) (r : Rule) (names : Names) (new : ℕ) → IsFlatRule r → body_text [] 1 (rule_body n names [] new r []) ≡ own_lines names new n r
end_text n ByInconsistent names new g = append-nil (statement_text [] 1 Failing)
end_text n ByEmp names new g = refl
end_text n (ByRead i) names new g = append-nil (statement_text [] 1 (Loading new (expr_of names (pre_cell_at n i))))
end_text n (ByFrame i) names new g = refl
end_text n (ByWrite i) names new g = append-nil (statement_text [] 1 (Storing (expr_of names (pre_cell_at n i)) (expr_of names (focus_content n))))
end_text n (ByFree i) names new g = append-nil (statement_text [] 1 (Giving (expr_of names (pre_cell_at n i))))
end_text n ByAlloc names new g = append-nil (statement_text [] 1 (Taking new (focus_size n)))
end_text n (ByPick u) names new g = refl
end_text n r names new g = absurd g

-- a new variable takes a byte at least
bound_count-le : (n : Node) (r : Rule) (names : Names) (count new : ℕ) → IsGoing r → bound_count r count ≤ count + length (own_lines names new n r)
bound_count-le n (ByRead i) names count new g = omega arith
bound_count-le n (ByFrame i) names count new g = omega arith
bound_count-le n (ByWrite i) names count new g = omega arith
bound_count-le n (ByFree i) names count new g = omega arith
bound_count-le n ByAlloc names count new g = omega arith
bound_count-le n (ByPick u) names count new g = omega arith
bound_count-le n r names count new g = absurd g

-- ---- one step

lines_on : (n : Node) (r : Rule) (d : Proof) (ds : Proofs) (numbers : List ℕ) (count : ℕ) → GoesOn n r d
    → lines_from numbers count (Derived n r (More d ds))
    ≡ own_lines (names_at n numbers) (suc count) n r ++ lines_from (next_numbers n r numbers (suc count)) (bound_count r count) d
lines_on n r d ds numbers count on =
    let names : Names = names_at n numbers in
    let inner : Names = with_new_name n r (suc count) names in
    let rs : List Renaming = renamings (renamed_premises n r) in
    ap (body_text [] 1) (opened n r (More d ds) false 0 1 names count [] (going_is r on.going))
    ∙ rule_text n r names (suc count) (body false 0 1 (head_names inner rs) (bound_count r count) [] d)
    (bodies (1 + called_count d) inner (tail_renamings rs) (bound_count r count) [] ds) on.going
    ∙ ap (λ ns. own_lines names (suc count) n r ++ body_text [] 1 (body false 0 1 ns (bound_count r count) [] d)) (names_next n r d numbers (suc count) on)

pub step_keeps : (n : Node) (r : Rule) (d : Proof) (ds : Proofs) (whole : Bytes) (start : ℕ) (text text' : Bytes) (numbers numbers' : List ℕ) (count count' : ℕ)
    → IsAt whole start text numbers count (Derived n r (More d ds))
    → text' ≡ text ++ own_lines (names_at n numbers) (suc count) n r → numbers' ≡ next_numbers n r numbers (suc count) → count' ≡ bound_count r count
    → IsAt whole start text' numbers' count' d
step_keeps n r d ds whole start text text' numbers numbers' count count' at te ne ce =
    let on : GoesOn n r d = goes_on at.found.0 n r d ds at.found.1 in
    let own : Bytes = own_lines (names_at n numbers) (suc count) n r in
    let grown : length text' ≡ length text + length own = ap length te ∙ length-append text own in
    let bound : bound_count r count ≤ count + length own = bound_count-le n r (names_at n numbers) count (suc count) on.going in
    record {
      written =
          (λ k. te k ++ lines_from (ne k) (ce k) d)
          ∙ append_assoc text own (lines_from (next_numbers n r numbers (suc count)) (bound_count r count) d)
          ∙ ap (λ t. text ++ t) (sym (lines_on n r d ds numbers count on))
          ∙ at.written;
      named = ap length ne ∙ numbers_next n r d numbers (suc count) on;
      counted = let was : count + start ≤ 12 + length text = at.counted in omega arith;
      found = (at.found.0, at.found.1.1.0);
    }

-- ---- the ends

-- before the first rule, parameters have the first numbers
pub starts : (n : Node) (d : Proof) (text : Bytes) (numbers : List ℕ) (count : ℕ) → root d ≡ n → IsFound d → numbers ≡ count_from 1 (length n.goal.program) → count ≡ length n.goal.program
    → count ≤ 12 → IsAt (text ++ main_lines d) (length text) text numbers count d
starts n d text numbers count e w ne ce few =
    let many : length (root d).goal.program ≡ length n.goal.program = ap (λ (m : Node). length m.goal.program) e in
    record {
      written = (λ k. text ++ lines_from ((ne ∙ ap (count_from 1) (sym many)) k) ((ce ∙ sym many) k) d);
      named = ap length ne ∙ length-count_from 1 (length n.goal.program) ∙ sym many;
      counted = omega (arith, few);
      found = w;
    }

-- behind the last rule, whose own lines are the last
pub ends : (n : Node) (r : Rule) (whole : Bytes) (start : ℕ) (text text' : Bytes) (numbers : List ℕ) (count : ℕ) → IsAt whole start text numbers count (Derived n r NoMore)
    → text' ≡ text ++ own_lines (names_at n numbers) (suc count) n r → text' ≡ whole
ends n r whole start text text' numbers count at te =
    let rules : HasFlatRules (Derived n r NoMore) = rules_of at.found.0 (Derived n r NoMore) at.found.1 in
    te
    ∙ ap (λ t. text ++ t) (sym (
    ap (body_text [] 1) (opened n r NoMore false 0 1 (names_at n numbers) count [] rules.0)
    ∙ end_text n r (names_at n numbers) (suc count) rules.0))
    ∙ at.written

-- the rule at a derivation
pub flat_at : (whole : Bytes) (start : ℕ) (text : Bytes) (numbers : List ℕ) (count : ℕ) (n : Node) (r : Rule) (ds : Proofs) → IsAt whole start text numbers count (Derived n r ds)
    → IsFlatRule r
flat_at whole start text numbers count n r ds at = (rules_of at.found.0 (Derived n r ds) at.found.1).0

-- a node has few program variables
pub few_parameters : (n : Node) → KeepsNode n → length n.goal.program ≤ 12
few_parameters n keeps = (goal_of_node n keeps.within).program
