use Rattle.std.proofs.Common.{◌≡◌, ◌++◌, drop, map, take, true}
use Rattle.std.specs.List.{list_all}
use Rattle.cyp_goal.proofs.numbering.renamed_items.Given as goal

abbrev pub invariant-loop-item : goal.invariant-loop-item
invariant-loop-item g l = record {
  same : l.renamed.items ++ map (g.T.Rename.numbered l.names) (drop l.item-index l.items) ≡ map (g.T.Rename.numbered l.names) l.items;
  sorted : list_all g.T.Rename.fits (take l.item-index l.items) ≡ true;
}
