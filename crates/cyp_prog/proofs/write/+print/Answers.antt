use Rattle.std.proofs.Common.{◌≡◌, ◌∙◌, ◌+◌, ◌++◌, List, ap, append-nil, drop, map, suc, sym, ℕ}
use Rattle.std.specs.Prelude.{codes}
use Rattle.std.proofs.lemmas.Result.{on_ok_weaker}
use Rattle.std.proofs.lemmas.List.{drop_all}
use Rattle.cyp_prog.specs.ProgramText.{Bytes, body_text, line, statement_text, test_text}
use Rattle.cyp_prog.specs.Programs.{Body, Choosing, Statement, body_of, plain_proc, plain_stmt}
use Rattle.cyp_prog.specs.Rules.{names_of}
use Rattle.cyp_prog.specs.declared.stmt.Stmt.{Stmt}
use Rattle.cyp_prog.proofs.Appending.{five_parts, gone_over}
use Rattle.cyp_prog.proofs.Conditionals.{plain_if}
use Rattle.cyp_prog.proofs.Items.{drop_item}
use Rattle.cyp_prog.proofs.write.+print.Goals as goal

pub add_stmts-loop-stmt-preserved : goal.add_stmts-loop-stmt-preserved
add_stmts-loop-stmt-preserved t c =
    let names : List Bytes = names_of (map plain_proc c.args.procs.now) in
    let k = c.args.level in
    let i = c.loop-stmt.stmt-index in
    let ss = c.args.stmts.now in
    let left = drop_item ss i c.stmt-item.result c.loop-stmt-test.true c.stmt-item.is in
    gone_over c.loop-stmt.text.items c.add_stmt.new.text.items (statement_text names k (plain_stmt c.stmt-item.result))
    (body_text names k (body_of (map plain_stmt (drop i ss)))) (body_text names k (body_of (map plain_stmt (drop (i + 1) ss))))
    (c.args.text.now.items ++ body_text names k (body_of (map plain_stmt ss)))
    c.in_ok-add_stmt.ensures (ap (λ (xs : List Stmt). body_text names k (body_of (map plain_stmt xs))) left) c.loop-stmt.invariant

pub add_stmts-returns : goal.add_stmts-returns
add_stmts-returns t c =
    let names : List Bytes = names_of (map plain_proc c.args.procs.now) in
    let k = c.args.level in
    sym (append-nil c.loop-stmt.text.items)
    ∙ ap (λ (xs : List Stmt). c.loop-stmt.text.items ++ body_text names k (body_of (map plain_stmt xs))) (sym (drop_all c.loop-stmt.stmt-index c.args.stmts.now c.loop-stmt-test.false))
    ∙ c.loop-stmt.invariant

pub add_stmt-returns-in_ok-add_stmts-in-If-2 : goal.add_stmt-returns-in_ok-add_stmts-in-If-2
add_stmt-returns-in_ok-add_stmts-in-If-2 t c =
    let names : List Bytes = names_of (map plain_proc c.args.procs.now) in
    let k = c.args.level in
    let a : Body = body_of (map plain_stmt c.in-If.then_part) in
    let b : Body = body_of (map plain_stmt c.in-If.else_part) in
    let first : body_text names c.in_ok-deeper-in-If.deeper (body_of (map plain_stmt c.as_slice-in-If.result.now)) ≡ body_text names (suc k) a =
    ap (λ (j : ℕ). body_text names j (body_of (map plain_stmt c.as_slice-in-If.result.now))) c.in_ok-deeper-in-If.ensures ∙ ap (λ (xs : List Stmt). body_text names (suc k) (body_of (map plain_stmt xs))) c.as_slice-in-If.ensures
    in
    let second : body_text names c.in_ok-deeper-in-If.deeper (body_of (map plain_stmt c.as_slice-in-If-2.result.now)) ≡ body_text names (suc k) b =
    ap (λ (j : ℕ). body_text names j (body_of (map plain_stmt c.as_slice-in-If-2.result.now))) c.in_ok-deeper-in-If.ensures ∙ ap (λ (xs : List Stmt). body_text names (suc k) (body_of (map plain_stmt xs))) c.as_slice-in-If-2.ensures
    in
    let plain : plain_stmt c.args.stmt.now ≡ Choosing c.in-If.test a b = ap plain_stmt c.in-If.is ∙ plain_if c.in-If.test c.in-If.then_part c.in-If.else_part in
    on_ok_weaker c.add_line-in-If.result
    (λ e. five_parts c.args.text.now.items c.add_if.new.text.items c.add_stmts.new.text.items c.add_line.new.text.items c.add_stmts-in-If.new.text.items c.add_line-in-If.new.text.items
    (line k (codes "if (" ++ test_text c.in-If.test ++ codes ") {")) (body_text names (suc k) a) (line k (codes "} else {")) (body_text names (suc k) b) (line k (codes "}"))
    c.in_ok-add_if-in-If.ensures (c.in_ok-add_stmts-in-If.ensures ∙ ap (λ (x : Bytes). c.add_if.new.text.items ++ x) first) c.in_ok-add_line-in-If.ensures
    (c.in_ok-add_stmts-in-If-2.ensures ∙ ap (λ (x : Bytes). c.add_line.new.text.items ++ x) second) e
    ∙ ap (λ (s : Statement). c.args.text.now.items ++ statement_text names k s) (sym plain))
    c.add_line-in-If.ensures
