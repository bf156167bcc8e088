-- A draft that is numbered part by part by a table of its variables is numbered anew.
use Rattle.std.proofs.Common.{◌≡◌, ◌∙◌, IsTrue, List, map, true, ap}
use Rattle.std.specs.List.{list_all}
use Rattle.std.proofs.lemmas.Bool.{cond-true}
use Rattle.cyp_goal.proofs.Live.{among_in}
use Rattle.cyp_goal.proofs.Renumber.{map_where, of_program}
use Rattle.cyp_goal.specs.Named.{named, named_goal}
use Rattle.cyp_goal.specs.Numbering.{new_name, numbering, renumber}
use Rattle.cyp_heap.specs.Goals.{apply_goal, apply_link, node_vars}
use Rattle.cyp_heap.specs.declared.goal.Node.{Node}
use Rattle.cyp_term.proofs.Lists.{Among, each_at}
use Rattle.cyp_term.specs.Terms.{var_in}
use Rattle.cyp_term.specs.declared.term.Var.{Var}

-- where the table has them the variables get new names
names_there : (vs us : List Var) → ((v : Var) → Among v us → var_in v vs ≡ true) → map (named vs) us ≡ map (new_name vs) us
names_there vs us h = map_where (named vs) (new_name vs) us (λ v k. cond-true (var_in v vs) (new_name vs v) v (h v k))

pub renumbered : (n : Node) (vs : List Var) → vs ≡ node_vars n → IsTrue (list_all (λ v. var_in v vs) n.goal.exist)
    → record { preds = n.preds; goal = named_goal vs n.goal; links = map (apply_link (numbering vs)) n.links } ≡ renumber n
renumbered n vs e h =
    let program = names_there vs n.goal.program (λ v k. ap (var_in v) e ∙ among_in v (node_vars n) (of_program n v k)) in
    let exist = names_there vs n.goal.exist (λ v k. each_at (λ w. var_in w vs) v n.goal.exist h k) in
    (λ i. record {
      preds = n.preds;
      goal = record (apply_goal (numbering vs) n.goal) { program = program i; exist = exist i };
      links = map (apply_link (numbering vs)) n.links;
    })
    ∙ (λ i. record {
      preds = n.preds;
      goal = record (apply_goal (numbering (e i)) n.goal) { program = map (new_name (e i)) n.goal.program; exist = map (new_name (e i)) n.goal.exist };
      links = map (apply_link (numbering (e i))) n.links;
    })
