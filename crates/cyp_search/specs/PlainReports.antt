-- What a report of the program stands for.
use Rattle.cyp_space.specs.declared.report.Report.{Report}
use Rattle.cyp_space.specs.declared.report.Verdict.{Verdict}
use Rattle.cyp_space.specs.declared.report.Verdict.TheVariants.{Found as was_found, None as none_found, Spent as was_spent}
use Rattle.cyp_tree.specs.Derivations.{plain_derivation}
use Rattle.cyp_search.specs.Reports.{PlainVerdict, Found, NoneFound, Spent, PlainReport}

-- the verdict that a verdict of the program stands for, with the plain derivation where one is found
abbrev pub plain_verdict : {R N : Type 0} → Verdict R N → PlainVerdict R N
plain_verdict (was_found d) = Found (plain_derivation d)
plain_verdict none_found = NoneFound
plain_verdict was_spent = Spent

-- the report that a report of the program stands for, with the same counts
abbrev pub plain_report : {R N : Type 0} → Report R N → PlainReport R N
plain_report r = record { verdict = plain_verdict r.verdict; expansions = r.expansions; nodes = r.nodes; depth = r.depth }
