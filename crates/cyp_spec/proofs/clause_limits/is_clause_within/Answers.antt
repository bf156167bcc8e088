use Rattle.std.proofs.Common.{◌++◌, ◌∙◌, List, ap, arith, flat_map, length, nat_le}
use Rattle.cyp_spec.proofs.ClauseSteps.{args_at, elements_decide_at, few_at, many_lits_at, many_names_at, pure_at}
use Rattle.cyp_spec.proofs.ClauseTests.{many_chunks}
use Rattle.cyp_spec.specs.Elements.{tree_elements}
use Rattle.cyp_term.specs.Terms.{lit_elements, term_eq, without_repeats}
use Rattle.cyp_term.specs.declared.lit.Lit.{Lit}
use Rattle.cyp_term.specs.declared.term.Term.{Term}
use Rattle.cyp_spec.proofs.clause_limits.is_clause_within.Goals as goal

pub returns-then-chunks-gt-MOST_CHUNKS : goal.returns-then-chunks-gt-MOST_CHUNKS
returns-then-chunks-gt-MOST_CHUNKS c =
    many_chunks c.args.preds.now c.args.params.now c.args.clause.now (omega (arith, c.if-chunks-gt-MOST_CHUNKS.true, ap length c.as_slice-chunks.ensures))

pub returns-then-not-are_names_few : goal.returns-then-not-are_names_few
returns-then-not-are_names_few c =
    many_names_at c.args.preds.now c.args.params.now c.args.clause.now c.in_ok-scope.scope c.in_ok-scope.ensures c.if-not-are_names_few.ensures

pub read_lits-requires : goal.read_lits-requires
read_lits-requires c =
    let r = c.requires in
    record {
      few = few_at c.args.preds.now c.args.params.now c.args.clause.now c.in_ok-scope.scope c.in_ok-scope.ensures r.once r.right c.if-not-are_names_few.ensures;
      readable = pure_at c.args.preds.now c.args.params.now c.args.clause.now c.in_ok-scope.scope c.in_ok-scope.ensures r.once r.right r.small;
    }

pub returns-then-len-gt-MOST_LITS : goal.returns-then-len-gt-MOST_LITS
returns-then-len-gt-MOST_LITS c =
    many_lits_at c.args.preds.now c.args.params.now c.args.clause.now c.in_ok-scope.scope c.in_ok-scope.ensures c.in_ok-lits.lits c.in_ok-lits.ensures
    (omega (arith, c.if-len-gt-MOST_LITS.true, c.len.ensures))

pub elements_of-requires : goal.elements_of-requires
elements_of-requires c =
    let r = c.requires in
    record {
      few = few_at c.args.preds.now c.args.params.now c.args.clause.now c.in_ok-scope.scope c.in_ok-scope.ensures r.once r.right c.if-not-are_names_few.ensures;
      readable = args_at c.args.preds.now c.args.params.now c.args.clause.now c.in_ok-scope.scope c.in_ok-scope.ensures r.once r.right r.small c.as_slice-chunks.result.now c.as_slice-chunks.ensures;
    }

pub returns : goal.returns
returns c =
    let qs = c.args.preds.now in
    let sc = c.in_ok-scope.scope in
    let ds = c.as_slice-chunks.result.now in
    elements_decide_at qs c.args.params.now c.args.clause.now sc c.in_ok-scope.ensures c.in_ok-lits.lits c.in_ok-lits.ensures ds c.as_slice-chunks.ensures
    c.if-chunks-gt-MOST_CHUNKS.false (omega (arith, c.if-len-gt-MOST_LITS.false, c.len.ensures)) c.if-not-are_names_few.ensures c.in_ok-terms.terms.items
    (c.in_ok-terms.ensures ∙ ap (λ (ls : List Lit). flat_map lit_elements ls ++ flat_map (tree_elements qs sc) ds) c.as_slice.ensures)
    c.in_ok-few.few (c.in_ok-few.ensures ∙ ap (λ (ts : List Term). nat_le (length (without_repeats term_eq ts)) 32) c.as_slice-2.ensures.value)
