use Rattle.std.proofs.Common.{◌≡◌, ◌++◌, ◌-◌, ℕ, List, length, take, drop, refl, sym, ap, subst, ◌∙◌, arith}
use Rattle.std.proofs.lemmas.List.{take-append-drop, take_all, length-drop}
use Rattle.cyp_term.specs.declared.lit.Lit.{Lit}
use Rattle.cyp_diff.specs.Solving.{AreInts, variables}
use Rattle.cyp_tests_pure.proofs.diff.answer_with.Goals as goal

joined : (ls : List Lit) (n : ℕ) → take n ls ++ take (length ls - n) (drop n ls) ≡ ls
joined ls n = ap (λ zs. take n ls ++ zs) (take_all (length ls - n) (drop n ls) (omega (arith, length-drop n ls))) ∙ take-append-drop n ls

pub solve_with-requires-clause-ints : goal.solve_with-requires-clause-ints
solve_with-requires-clause-ints c = subst AreInts (sym (joined c.args.lits.now c.args.place)) (c.if-not-are_ints.ensures.0 refl)

pub solve_with-requires-clause-few : goal.solve_with-requires-clause-few
solve_with-requires-clause-few c = omega (arith, ap (λ ls. length (variables ls)) (joined c.args.lits.now c.args.place), ap length c.in_ok-variables_of.ensures)
