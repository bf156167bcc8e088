use Rattle.std.proofs.Common.{◌≡◌, ◌++◌, drop, length, map, take, true}
use Rattle.std.specs.List.{list_all}
use Rattle.cyp_goal.proofs.numbering.rename_all.Given as goal

abbrev pub invariant-loop-place : goal.invariant-loop-place
invariant-loop-place g l = record {
  same : take l.place l.items ++ map (g.T.Rename.numbered l.names) (drop l.place l.items) ≡ map (g.T.Rename.numbered l.names) l.fn.items;
  rest : drop l.place l.items ≡ drop l.place l.fn.items;
  sorted : list_all g.T.Rename.fits (take l.place l.fn.items) ≡ true;
  long : length l.items ≡ length l.fn.items;
}
