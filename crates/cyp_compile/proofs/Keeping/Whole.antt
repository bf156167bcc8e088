-- The program of a derivation keeps the rules, where each of its procedures is small.
use Rattle.cyp_compile.proofs.Keeping.NamesDiffer.{names_differ}
use Rattle.cyp_compile.proofs.Keeping.ProceduresFit.{ProcedureBodyFits, whole_fits}
use Rattle.cyp_compile.specs.Rules.{IsSmall, ProgramsKeepRules}
use Rattle.cyp_kernel.specs.Compile.{program_of}
use Rattle.cyp_prog.specs.Programs.{Procedure}
use Rattle.cyp_prog.specs.Rules.{ProceduresFit}
use Rattle.cyp_tree.specs.Derivations.{Derived}
use Rattle.std.proofs.Common.{ℕ, suc, ◌<◌, List, [], ◌∷◌, arith}
use Rattle.std.proofs.lemmas.List.Elements.{recursion_from_All}
use Rattle.std.specs.List.{AllByRecursion}

-- what is seen of each procedure by itself, and what is known of its body
joined : (ps qs : List Procedure) → AllByRecursion (ProcedureBodyFits ps) qs → AllByRecursion IsSmall qs → ProceduresFit ps qs
joined ps [] h s = tt
joined ps (q ∷ qs) h s = (record { params = s.0.params; body = h.0 s.0.sizes; numbers = s.0.numbers; shallow = s.0.shallow }, joined ps qs h.1 s.1)

pub programs_keep_rules : ProgramsKeepRules
programs_keep_rules name (Derived n r ds) ready few small = record {
  some = positive _;
  few = few;
  names = names_differ name (Derived n r ds) few;
  each = joined (program_of name (Derived n r ds)) (program_of name (Derived n r ds)) (whole_fits name n r ds ready.steps ready.alone)
      (recursion_from_All IsSmall (program_of name (Derived n r ds)) small);
}
  where
    positive : (k : ℕ) → 0 < suc k
    positive k = omega arith
