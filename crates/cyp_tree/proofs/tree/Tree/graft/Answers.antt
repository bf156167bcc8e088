use Rattle.std.proofs.Common.{◌≤◌, ◌∙◌, sym, subst, List, ℕ, arith}
use Rattle.cyp_space.specs.Alts.{AltOf}
use Rattle.cyp_tree.specs.Trees.{Tree}
use Rattle.cyp_tree.specs.Sizes.{size, depth}
use Rattle.cyp_tree.specs.Growing.{graft, new_alts}
use Rattle.std.proofs.lemmas.List.{get_or_default}
use Rattle.cyp_tree.specs.declared.mark.Mark.TheVariants.{Undecided}
use Rattle.cyp_tree.specs.Standing.{standing}
use Rattle.cyp_tree.specs.Wholes.{AreKilled}
use Rattle.cyp_tree.specs.Places.{IsLive}
use Rattle.cyp_tree.proofs.WholeTrees.{live_here, few_places, is_grafted, whole_grown, are_killed, status_is, whole_as}
use Rattle.cyp_tree.proofs.Deepest.{deepest_grown}
use Rattle.cyp_tree.proofs.tree.Tree.graft.Goals as goal

pub graft-requires-clause-live : goal.graft-requires-clause-live
graft-requires-clause-live g c =
    (live_here c.self.inside.arena.root c.self.inside.arena.places.items c.self.inside.arena.ways.items c.self.inside.arena.marks c.self.invariant.whole.arena c.args.leaf
    (subst (λ (x : Tree _ _). IsLive x c.args.leaf) (sym c.self.view_is) c.requires.live)).0

pub level_below-below-requires-clause-leaf : goal.level_below-below-requires-clause-leaf
level_below-below-requires-clause-leaf g c =
    (live_here c.self.inside.arena.root c.self.inside.arena.places.items c.self.inside.arena.ways.items c.self.inside.arena.marks c.self.invariant.whole.arena c.args.leaf
    (subst (λ (x : Tree _ _). IsLive x c.args.leaf) (sym c.self.view_is) c.requires.live)).1

pub graft-requires-clause-leaf : goal.graft-requires-clause-leaf
graft-requires-clause-leaf g c =
    (live_here c.self.inside.arena.root c.self.inside.arena.places.items c.self.inside.arena.ways.items c.self.inside.arena.marks c.self.invariant.whole.arena c.args.leaf
    (subst (λ (x : Tree _ _). IsLive x c.args.leaf) (sym c.self.view_is) c.requires.live)).1

pub graft-requires-clause-few : goal.graft-requires-clause-few
graft-requires-clause-few g c =
    few_places c.self.inside.arena.root c.self.inside.arena.places.items c.self.inside.arena.ways.items c.self.inside.arena.marks c.self.invariant.whole c.args.leaf c.alts-alts.result.now
    (subst (λ (x : Tree _ _). IsLive x c.args.leaf) (sym c.self.view_is) c.requires.live)
    (subst (λ (x : Tree _ _). size (graft c.args.leaf (new_alts (size x) c.alts-alts.result.now) x) ≤ 1000000) (sym c.self.view_is)
    (subst (λ (as' : List (AltOf _ _)). size (graft c.args.leaf (new_alts (size c.args.self.now) as') c.args.self.now) ≤ 1000000) (sym c.alts-alts.ensures.value) c.requires.few))

pub invariant_of-self : goal.invariant_of-self
invariant_of-self g c = record {
  whole =
      whole_as c.self.inside.arena.root c.self.inside.arena.places.items c.self.inside.arena.ways.items c.self.inside.arena.marks c.graft.new.self.root c.graft.new.self.places.items c.graft.new.self.ways.items c.graft.new.self.marks c.graft.ensures.root c.in_err-killed.ensures.places c.in_err-killed.ensures.ways
      c.in_err-killed.ensures.marks c.self.invariant.whole;
  deep = c.self.invariant.deep ∙ (λ i. depth (standing (sym c.graft.ensures.root i) (sym c.in_err-killed.ensures.places i) (sym c.in_err-killed.ensures.ways i)));
}

pub invariant_of-self-2 : goal.invariant_of-self-2
invariant_of-self-2 g c = record {
  whole = whole_grown c.self.inside.arena.root c.self.inside.arena.places.items c.self.inside.arena.ways.items c.self.inside.arena.marks c.self.invariant.whole c.args.leaf c.alts-alts.result.now (subst (λ (x : Tree _ _). IsLive x c.args.leaf) (sym c.self.view_is) c.requires.live) c.graft.new.self.root c.graft.new.self.places.items c.graft.new.self.ways.items c.graft.new.self.marks c.in_ok-killed.killed.items c.in_ok-killed.ensures.grafted;
  deep = omega (arith, deepest_grown c.self.inside.arena.root c.self.inside.arena.places.items c.self.inside.arena.ways.items c.self.inside.arena.marks c.self.invariant.whole c.args.leaf c.alts-alts.result.now (subst (λ (x : Tree _ _). IsLive x c.args.leaf) (sym c.self.view_is) c.requires.live) c.graft.new.self.root c.graft.new.self.places.items c.graft.new.self.ways.items c.graft.new.self.marks c.in_ok-killed.killed.items c.in_ok-killed.ensures.grafted c.self.inside.deepest c.level_below-below.result c.self.invariant.deep c.level_below-below.ensures);
}

pub returns-clause-grown : goal.returns-clause-grown
returns-clause-grown g c =
    is_grafted c.self.inside.arena.root c.self.inside.arena.places.items c.self.inside.arena.ways.items c.self.inside.arena.marks c.self.invariant.whole c.args.leaf c.alts-alts.result.now (subst (λ (x : Tree _ _). IsLive x c.args.leaf) (sym c.self.view_is) c.requires.live) c.graft.new.self.root c.graft.new.self.places.items c.graft.new.self.ways.items c.graft.new.self.marks c.in_ok-killed.killed.items c.in_ok-killed.ensures.grafted
    ∙ (λ i. graft c.args.leaf (new_alts (size (c.self.view_is i)) (c.alts-alts.ensures.value i)) (c.self.view_is i))

pub returns-clause-killed : goal.returns-clause-killed
returns-clause-killed g c =
    subst (λ (x : Tree _ _). AreKilled c.args.leaf x (standing c.graft.new.self.root c.graft.new.self.places.items c.graft.new.self.ways.items) c.from_vec.result) c.self.view_is
    (subst (λ (x : Tree _ _). AreKilled c.args.leaf (standing c.self.inside.arena.root c.self.inside.arena.places.items c.self.inside.arena.ways.items) x c.from_vec.result) (sym (is_grafted c.self.inside.arena.root c.self.inside.arena.places.items c.self.inside.arena.ways.items c.self.inside.arena.marks c.self.invariant.whole c.args.leaf c.alts-alts.result.now (subst (λ (x : Tree _ _). IsLive x c.args.leaf) (sym c.self.view_is) c.requires.live) c.graft.new.self.root c.graft.new.self.places.items c.graft.new.self.ways.items c.graft.new.self.marks c.in_ok-killed.killed.items c.in_ok-killed.ensures.grafted))
    (subst (λ (x : List ℕ). AreKilled c.args.leaf (standing c.self.inside.arena.root c.self.inside.arena.places.items c.self.inside.arena.ways.items) (graft c.args.leaf (new_alts (size (standing c.self.inside.arena.root c.self.inside.arena.places.items c.self.inside.arena.ways.items)) c.alts-alts.result.now) (standing c.self.inside.arena.root c.self.inside.arena.places.items c.self.inside.arena.ways.items)) x) (sym c.from_vec.ensures)
    (are_killed c.self.inside.arena.root c.self.inside.arena.places.items c.self.inside.arena.ways.items c.self.inside.arena.marks c.self.invariant.whole c.args.leaf c.alts-alts.result.now (subst (λ (x : Tree _ _). IsLive x c.args.leaf) (sym c.self.view_is) c.requires.live) c.graft.new.self.root c.graft.new.self.places.items c.graft.new.self.ways.items c.graft.new.self.marks c.in_ok-killed.killed.items c.in_ok-killed.ensures.grafted c.in_ok-killed.ensures.rise)))

pub returns-clause-mark : goal.returns-clause-mark
returns-clause-mark g c =
    (c.index-mark.ensures
    ∙ get_or_default c.graft.new.self.marks.statuses.items 0 c.index-mark.result.now Undecided (omega (arith, c.in_ok-killed.ensures.grafted.arena.sized.statuses, c.in_ok-killed.ensures.grafted.arena.linked.some))
    ∙ sym (status_is c.graft.new.self.root c.graft.new.self.places.items c.graft.new.self.ways.items c.graft.new.self.marks c.in_ok-killed.ensures.grafted.arena))
