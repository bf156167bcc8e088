use Rattle.std.proofs.Common.{◌≡◌, refl, sym, ◌∙◌, subst, ◌+◌, ◌≤◌, length, Some, None, arith}
use Rattle.std.proofs.lemmas.Option.{slice_get_read}
use Rattle.cyp_tree.specs.declared.places.Run.{Run}
use Rattle.cyp_tree.specs.Standing.{IsIn}
use Rattle.cyp_tree.proofs.TakenWays.{HasSolved, has_solved}
use Rattle.cyp_tree.proofs.Settling.{grown_le}
use Rattle.cyp_tree.proofs.arena.Arena.taken_way.Goals as goal

pub solved_way-requires-clause-inside : goal.solved_way-requires-clause-inside
solved_way-requires-clause-inside g c =
    let here = slice_get_read c.args.self.now.places.items _ c.args.at c.index.result.now refl c.requires.below c.index.ensures in
    let runs : c.in-Some.run'.first + c.in-Some.run'.count ≤ length c.args.self.now.ways.items = c.requires.arena.linked.runs c.args.at c.index.result.now c.in-Some.run' here c.in-Some.is in
    omega (arith, c.requires.arena.sized.unsolved)

pub solved_way-requires-clause-few : goal.solved_way-requires-clause-few
solved_way-requires-clause-few g c =
    omega (arith, c.requires.arena.sized.unsolved, c.requires.arena.few_ways, c.requires.arena.few, grown_le c.args.self.now.places.items)

pub solved_way-requires-clause-some : goal.solved_way-requires-clause-some
solved_way-requires-clause-some g c =
    let here = slice_get_read c.args.self.now.places.items _ c.args.at c.index.result.now refl c.requires.below c.index.ensures in
    let h : HasSolved c.args.self.now.root c.args.self.now.places.items c.args.self.now.ways.items c.args.self.now.marks c.requires.arena c.args.at c.index.result.now =
    has_solved c.args.self.now.root c.args.self.now.places.items c.args.self.now.ways.items c.args.self.now.marks c.requires.arena c.args.at c.index.result.now here c.requires.solved
    in
    let same : h.run ≡ c.in-Some.run' = (let eq : Some h.run ≡ Some c.in-Some.run' = sym h.ways ∙ c.in-Some.is in cc) in
    (h.way, subst (λ (r : Run). IsIn h.way r) same h.here, h.solved)

pub unreachable-requires : goal.unreachable-requires
unreachable-requires g c =
    let here = slice_get_read c.args.self.now.places.items _ c.args.at c.index.result.now refl c.requires.below c.index.ensures in
    let h : HasSolved c.args.self.now.root c.args.self.now.places.items c.args.self.now.ways.items c.args.self.now.marks c.requires.arena c.args.at c.index.result.now =
    has_solved c.args.self.now.root c.args.self.now.places.items c.args.self.now.ways.items c.args.self.now.marks c.requires.arena c.args.at c.index.result.now here c.requires.solved
    in
    let bad : Some h.run ≡ None = sym h.ways ∙ c.in-None.is in
    cc

pub returns : goal.returns
returns g c = record {
  place = c.index.result.now;
  run = c.in-Some.run';
  found = slice_get_read c.args.self.now.places.items _ c.args.at c.index.result.now refl c.requires.below c.index.ensures;
  ways = c.in-Some.is;
  first = c.solved_way.ensures;
}
