use Rattle.std.proofs.Common.{◌≡◌, sym, ◌∙◌, ap, true, None, ℕ, arith}
use Rattle.std.specs.Prelude.{nat_eq}
use Rattle.std.proofs.lemmas.Bool.Decides.{nat_tests}
use Rattle.cyp_memo.specs.Places.{Places, has_place, moves_at, with_place}
use Rattle.cyp_tests_search.proofs.Placing.{has-with_place, moves_at-with_place}
use Rattle.cyp_tests_search.proofs.memo.put.Goals as goal

same_number : (n : ℕ) → nat_eq n n ≡ true
same_number n = grind (arith, nat_tests)

pub insert-requires-clause-place : goal.insert-requires-clause-place
insert-requires-clause-place c =
    ap (λ (es : Places ℕ ℕ). has_place nat_eq es c.args.node.now) (c.in_ok-place.ensures.placed ∙ ap (with_place nat_eq c.args.memo.now) c.in_ok-copy.ensures)
    ∙ has-with_place nat_eq c.args.node.now c.args.memo.now (same_number c.args.node.now)

pub insert-requires-clause-fresh : goal.insert-requires-clause-fresh
insert-requires-clause-fresh c =
    ap (λ (es : Places ℕ ℕ). moves_at nat_eq es c.args.node.now) c.in_ok-place.ensures.placed ∙ moves_at-with_place nat_eq c.in_ok-copy.field-0 c.args.node.now c.args.memo.now ∙ c.requires
