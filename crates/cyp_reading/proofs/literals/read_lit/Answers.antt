use Rattle.std.proofs.Common.{ap, length, sym, ℕ, ◌%◌, ◌∙◌, ◌≡◌, ◌≢◌}
use Rattle.cyp_reading.proofs.NotsRead.{even_read, odd_read}
use Rattle.cyp_term.specs.Terms.{negated}
use Rattle.cyp_term.specs.declared.lit.Lit.{Lit}
use Rattle.cyp_text.specs.LitTrees.{lit_nots, plain_lit}
use Rattle.cyp_names.specs.ReadTerms.{read_lit}
use Rattle.cyp_text.specs.declared.lit_tree.BaseTree.{BaseTree}
use Rattle.cyp_reading.proofs.literals.read_lit.Goals.{After-len}
use Rattle.cyp_reading.proofs.literals.read_lit.Goals as goal

count : (c : After-len) → c.len.result ≡ length (lit_nots c.args.tree.now)
count c = c.len.ensures ∙ ap length c.nots.ensures

pub returns-then-len-eq1 : goal.returns-then-len-eq1
returns-then-len-eq1 c =
    let sc = c.args.scope.now in
    let odd : length (lit_nots c.args.tree.now) % 2 ≡ 1 = ap (λ (n : ℕ). n % 2) (sym (count (goal.at.returns-then-len-eq1 c).After-len)) ∙ c.if-len-eq1.true in
    c.negated.ensures.gives ∙ ap (λ (l : Lit). negated l) (c.in_ok-base.ensures ∙ ap (λ (b : BaseTree). read_lit sc (plain_lit b)) c.base.ensures)
    ∙ sym (odd_read sc c.args.tree.now odd)

pub returns : goal.returns
returns c =
    let sc = c.args.scope.now in
    let even : length (lit_nots c.args.tree.now) % 2 ≢ 1 = λ e. c.if-len-eq1.false (ap (λ (n : ℕ). n % 2) (count (goal.at.returns c).After-len) ∙ e) in
    c.in_ok-base.ensures ∙ ap (λ (b : BaseTree). read_lit sc (plain_lit b)) c.base.ensures ∙ sym (even_read sc c.args.tree.now even)
