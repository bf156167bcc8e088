use Rattle.std.proofs.Common.{◌++◌, []}
use Rattle.std.specs.Prelude.{◌↔◌, ◌≡◌, IsTrue}
use Rattle.cyp_term.specs.Entailment.{satisfiable}
use Rattle.cyp_term.specs.Meaning.{Satisfiable}
use Rattle.cyp_pure.specs.Questions.{CanBeTrue}
use Rattle.cyp_pure.proofs.Alls.{ok_with}
use Rattle.cyp_pure.proofs.Covering.{none_asked}
use Rattle.cyp_pure.proofs.Entailing.{parts_can, satisfiable_from}
use Rattle.cyp_pure.proofs.entail.satisfiable.Goals as goal

pub can_be_true-requires : goal.can_be_true-requires
can_be_true-requires c =
    let p = c.in_ok-parted.ensures in
    none_asked c.args.a.now c.in_ok-parted.parted.ints c.in_ok-parted.parted.sets c.requires p.sorts p.ints p.sets

pub returns-clause-exact : goal.returns-clause-exact
returns-clause-exact c =
    let p = c.in_ok-parted.ensures in
    let can = parts_can c.args.a.now [] c.in_ok-parted.parted.ints c.in_ok-parted.parted.sets p.ints p.sets in
    ok_with c.can_be_true.result (λ b. IsTrue b ↔ CanBeTrue (c.in_ok-parted.parted.ints ++ []) (c.in_ok-parted.parted.sets ++ [])) (λ b. IsTrue b ↔ Satisfiable c.args.a.now)
    (λ b h. (λ e. can.0 (h.0 e), λ s. h.1 (can.1 s))) c.can_be_true.ensures

pub returns-clause-test : goal.returns-clause-test
returns-clause-test c =
    ok_with c.can_be_true.result (λ b. IsTrue b ↔ Satisfiable c.args.a.now) (λ b. b ≡ satisfiable c.args.a.now) (satisfiable_from c.args.a.now) (returns-clause-exact c)
