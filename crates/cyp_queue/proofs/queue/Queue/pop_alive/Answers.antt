use Rattle.std.proofs.Common.{◌≡◌, refl, sym, ◌∙◌, ap, subst, true, false, inl, inr, List, Some, None, length, arith}
use Rattle.cyp_tree.specs.Places.{IsLive}
use Rattle.cyp_queue.specs.declared.entry.Entry.{Entry}
use Rattle.cyp_queue.specs.Entries.{PopsAlive}
use Rattle.cyp_queue.proofs.queue.Queue.pop_alive.Goals as goal

pub returns-then-alive-clause-popped : goal.returns-then-alive-clause-popped
returns-then-alive-clause-popped g c =
    c.loop-entry.invariant.rest (Some c.in-Some.entry) c.pop_first.new.self.entries
    (subst (λ (es : List Entry). PopsAlive (IsLive c.args.tree.now) es (Some c.in-Some.entry) c.pop_first.new.self.entries) (sym c.in-Some.ensures.entries)
    (inl (c.alive.ensures.0 c.if-alive.true, refl, refl)))

pub loop-entry-preserved : goal.loop-entry-preserved
loop-entry-preserved g c = record {
  rest = λ taken after h.
      c.loop-entry.invariant.rest taken after
      (subst (λ (es : List Entry). PopsAlive (IsLive c.args.tree.now) es taken after) (sym c.in-Some.ensures.entries)
      (inr ((λ l. let bad : true ≡ false = sym (c.alive.ensures.1 l) ∙ c.if-alive.false in cc), h)));
  spare = c.pop_first.ensures.spare ∙ c.loop-entry.invariant.spare;
}

pub loop-entry-smaller : goal.loop-entry-smaller
loop-entry-smaller g c = omega (arith, ap length c.in-Some.ensures.entries)

pub returns-clause-popped : goal.returns-clause-popped
returns-clause-popped g c =
    c.loop-entry.invariant.rest None c.pop_first.new.self.entries
    (subst (λ (es : List Entry). PopsAlive (IsLive c.args.tree.now) es None c.pop_first.new.self.entries) (sym c.in_default.ensures.entries.0) (refl, c.in_default.ensures.entries.1))
