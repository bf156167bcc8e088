use Rattle.std.proofs.Common.{length, map}
use Rattle.cyp_lex.specs.Lexemes.{lexeme_of}
use Rattle.cyp_spec.proofs.PlacesInOrder.{tree_in_order}
use Rattle.cyp_spec.proofs.SmallMarks.{text_small}
use Rattle.cyp_spec.proofs.Judged.{tree_said}
use Rattle.cyp_spec.proofs.read.said.Goals as goal
use Rattle.cyp_spec.proofs.TokenMarks.{marks_of_tokens}

pub judged-requires-clause-small : goal.judged-requires-clause-small
judged-requires-clause-small c = text_small c.in_ok-tree.tree (marks_of_tokens c.args.text.now c.args.tokens c.in_ok-tree.tree c.requires.exact c.in_ok-tree.ensures)

pub judged-requires-clause-order : goal.judged-requires-clause-order
judged-requires-clause-order c = tree_in_order c.args.text.now (length c.args.text.now) c.args.tokens c.in_ok-tree.tree c.requires.in_order c.in_ok-tree.ensures

pub returns : goal.returns
returns c =
    let tree = c.in_ok-tree.tree in
    tree_said (length c.args.text.now) (map (lexeme_of c.args.text.now) c.args.tokens) tree c.judged.result c.in_ok-tree.ensures c.judged.ensures
