use Rattle.std.proofs.Common.{List, [], ap, map, sym, take, length, ◌-◌, ◌∙◌}
use Rattle.cyp_lex.specs.Lexemes.{Said, lexeme_of, said_by}
use Rattle.cyp_text.specs.GrammarFaults.{backwards, spoils}
use Rattle.cyp_text.proofs.KindsRead.{few_spoil}
use Rattle.cyp_text.proofs.TokensParted.{last_two}
use Rattle.cyp_text.proofs.whole_text.spoils_last.Goals as goal

pub returns-in_default : goal.returns-in_default
returns-in_default c = λ text d. few_spoil text c.args.before.now (said_by c.args.next d) c.in_default.len_below

pub returns-in-len2-up : goal.returns-in-len2-up
returns-in-len2-up c = λ text d.
    c.spoils_two.ensures _ _ d (backwards [] (map (lexeme_of text) (take (length c.args.before.now - 2) c.args.before.now)))
    ∙ ap (λ (back : List Said). spoils back (said_by c.args.next d)) (sym (last_two text c.args.before.now c.in-len2-up.len_at_least))
