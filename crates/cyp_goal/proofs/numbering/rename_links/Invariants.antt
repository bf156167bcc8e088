use Rattle.std.proofs.Common.{◌≡◌, ◌++◌, map}
use Rattle.std.specs.List.{list_all}
use Rattle.std.specs.Vec.Iter.{into_iter_items}
use Rattle.cyp_goal.specs.Named.{no_set}
use Rattle.cyp_goal.specs.Numbering.{numbering}
use Rattle.cyp_goal.specs.Raw.{link_fits}
use Rattle.cyp_heap.specs.Goals.{apply_link}
use Rattle.cyp_term.specs.Terms.{is_set_var}
use Rattle.cyp_goal.proofs.numbering.rename_links.Given as goal

abbrev pub invariant-loop-link : goal.invariant-loop-link
invariant-loop-link l = record {
  same : l.renamed.items ++ map (apply_link (numbering l.names)) (into_iter_items l.link-iterator) ≡ map (apply_link (numbering l.names)) l.fn.links;
  sorted : list_all (link_fits no_set is_set_var) l.fn.links ≡ list_all (link_fits no_set is_set_var) (into_iter_items l.link-iterator);
}
