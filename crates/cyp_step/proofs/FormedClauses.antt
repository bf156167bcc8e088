-- The instances in the clauses of formed predicates fit.
use Rattle.std.proofs.Common.{◌≡◌, ◌&&◌, ◌==◌, is_none, true}
use Rattle.std.specs.List.{list_all}
use Rattle.std.proofs.lemmas.Bool.{and_parts}
use Rattle.cyp_heap.specs.Chunks.{insts}
use Rattle.cyp_heap.specs.Formed.{inst_fits}
use Rattle.cyp_heap.specs.PredsFormed.{IsFormedPreds, insts_plain}
use Rattle.cyp_heap.specs.declared.chunk.InstOf.{InstOf}
use Rattle.cyp_heap.specs.declared.pred.Clause.{Clause}
use Rattle.cyp_heap.specs.declared.pred.Pred.{Pred}
use Rattle.cyp_heap.specs.declared.pred.Preds.{Preds}
use Rattle.cyp_step.specs.Nodes.{clause_fits, clauses_fit, pred_fits}
use Rattle.cyp_term.proofs.Lists.{each_at, each_from}

pub formed_clauses_fit : (preds : Preds) → IsFormedPreds preds → clauses_fit preds ≡ true
formed_clauses_fit preds f =
    each_from (pred_fits preds) preds.list (λ q k.
    let plain = each_at (λ (q : Pred). list_all (λ (c : Clause). insts_plain preds c) q.clauses) q preds.list f.instances_plain k in
    each_from (clause_fits preds) q.clauses (λ c l.
    let plain_insts = each_at (λ (c : Clause). insts_plain preds c) c q.clauses plain l in
    each_from (inst_fits preds) (insts c.heap.chunks) (λ i m.
    (and_parts (inst_fits preds i) (is_none i.card)
    (and_parts (inst_fits preds i && is_none i.card) (i.tag == 0)
    (each_at (λ (i : InstOf). inst_fits preds i && is_none i.card && (i.tag == 0)) i (insts c.heap.chunks) plain_insts m)).0).0)))
