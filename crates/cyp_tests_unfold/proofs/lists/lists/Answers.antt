use Rattle.cyp_tests_unfold.proofs.Formed.{lists_formed}
use Rattle.cyp_tests_unfold.proofs.lists.lists.Goals as goal

pub new-requires : goal.new-requires
new-requires c =
    rw (c.in_ok-list.ensures, c.in_ok-push.ensures.ok, c.in_ok-push-2.ensures.ok, c.in_ok-clauses.ensures, c.in_ok-params.ensures, c.in_ok-empty_clause.ensures, c.in_ok-node_clause.ensures, c.none.ensures) lists_formed
