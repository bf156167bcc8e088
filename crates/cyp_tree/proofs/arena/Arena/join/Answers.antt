use Rattle.std.proofs.Common.{◌≡◌, refl, ◌∙◌, ap, ◌-◌, length, Some, arith}
use Rattle.std.specs.List.{slice_get}
use Rattle.std.proofs.lemmas.Option.{slice_get_read}
use Rattle.cyp_space.specs.declared.solved.Solved.TheFolds.{fold-roll-Solved}
use Rattle.cyp_tree.specs.Derivations.{Derivation, plain_step, plain_derivations}
use Rattle.cyp_tree.proofs.Runs.{there_below}
use Rattle.cyp_tree.proofs.Rebuilding.{join_made, derived_same}
use Rattle.cyp_tree.proofs.arena.Arena.join.Goals as goal

pub index-requires : goal.index-requires
index-requires g c =
    let way : slice_get c.args.self.now.ways.items c.args.way ≡ Some c.index-way.result.now = slice_get_read _ _ _ _ refl c.requires.below c.index-way.ensures in
    let above = c.requires.linked.in_run c.args.way c.index-way.result.now way in
    omega (arith, there_below c.args.self.now.places.items c.index-way.result.now.above above.0 above.2, c.args.self.now.places.ok.0)

pub returns : goal.returns
returns g c =
    let way : slice_get c.args.self.now.ways.items c.args.way ≡ Some c.index-way.result.now = slice_get_read _ _ _ _ refl c.requires.below c.index-way.ensures in
    let above = c.requires.linked.in_run c.args.way c.index-way.result.now way in
    record {
      y = c.index-way.result.now;
      p = c.index.result.now;
      way = way;
      place = slice_get_read _ _ _ _ refl (there_below c.args.self.now.places.items c.index-way.result.now.above above.0 above.2) c.index.ensures;
      joined =
          join_made c.args.made.now.items c.split_off.new.self.items c.in_ok-parts.parts.items c.push.new.self.items _ (c.len.result - c.index-way.result.now.parts.count)
          (length c.args.made.now.items - c.index-way.result.now.parts.count) c.index.result.now.node c.index-way.result.now.rule c.in_ok-parts.ensures.items c.in_ok-parts.ensures.tail
          (omega (arith, c.len.ensures, c.args.made.now.ok.0)) c.in_ok-push.ensures.items
          (fold-roll-Solved g.row.R.Denot g.row.N.Denot (Derivation g.row.R.Denot g.row.N.Denot) plain_step
          record { node = c.in_ok-copy.field-0; rule = c.in_ok-copy-2.field-0; parts = c.from_vec.result }
          ∙ derived_same c.in_ok-copy.ensures c.in_ok-copy-2.ensures (ap plain_derivations c.from_vec.ensures));
    }
