use Rattle.std.proofs.Common.{◌∙◌, None}
use Rattle.std.specs.Map.{lookup}
use Rattle.indexmap.proofs.CallerLemmas.{insert_entry-new}
use Rattle.cyp_memo.proofs.Held.{none_from}
use Rattle.cyp_memo.proofs.memo.add_place.Goals as goal

pub returns-clause-placed : goal.returns-clause-placed
returns-clause-placed g c =
    c.in_ok-insert.ensures.entries
    ∙ insert_entry-new g.N.PartialEq.eq c.args.places.now c.args.node None (none_from (lookup (g.N.PartialEq.eq c.args.node) c.args.places.now.entries) c.requires)
