use Rattle.std.proofs.Common.{arith, rules, subst, sym, w64, ℤ, ◌≤ℤ◌}
use Rattle.std.proofs.lemmas.Int.{ints, to_z-of_z}
use Rattle.cyp_heap.specs.Stores.{Store}
use Rattle.cyp_machine.proofs.LowBases.{low_below, low_raised}
use Rattle.cyp_machine.specs.LowBases.{IsLow}
use Rattle.cyp_machine.specs.Steps.{IsFree}
use Rattle.cyp_machine.proofs.heap.Heap.free_base.Goals as goal

pub invariant_of-self : goal.invariant_of-self
invariant_of-self c =
    subst (λ (z : ℤ). IsLow c.self.inside.store z) (sym (to_z-of_z w64 c.least_free-self-inside.result (search rules)))
    (low_raised c.self.inside.store c.self.inside.low c.least_free-self-inside.result c.self.invariant (omega (arith, ints)) (omega (arith, ints))
    (λ a l f. c.least_free-self-inside.ensures.least a (omega (arith, ints)) f))

pub returns-clause-least : goal.returns-clause-least
returns-clause-least c = λ a f.
    let raised : IsLow c.self.inside.store c.least_free-self-inside.result =
    low_raised c.self.inside.store c.self.inside.low c.least_free-self-inside.result c.self.invariant (omega (arith, ints)) (omega (arith, ints))
    (λ b l g. c.least_free-self-inside.ensures.least b (omega (arith, ints)) g) in
    let free : IsFree c.self.inside.store a c.args.size = subst (λ (h : Store). IsFree h a c.args.size) (sym c.self.view_is) f in
    let low : c.least_free-self-inside.result ≤ℤ a = low_below c.self.inside.store c.least_free-self-inside.result a c.args.size raised c.requires.size free in
    let e : c.least_free.result ≤ℤ a = c.least_free.ensures.least a (omega (arith, ints)) free in
    omega (arith, ints)
