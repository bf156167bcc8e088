use Rattle.std.proofs.Common.{◌≡◌, ◌∙◌, ap, Bool, true, None, arith}
use Rattle.std.specs.Prelude.{is_some}
use Rattle.std.specs.Map.{lookup}
use Rattle.cyp_space.specs.Alts.{premises_in}
use Rattle.cyp_memo.specs.Places.{Places, moves_there, held_in}
use Rattle.cyp_memo.proofs.Held.{held-moves}
use Rattle.cyp_memo.proofs.memo.Memo.insert.Goals as goal

pub invariant_of-self : goal.invariant_of-self
invariant_of-self g c =
    let test : g.row.N.Denot → Bool = g.N.PartialEq.eq c.args.node.now in
    let place : is_some (lookup test c.self.inside.places.entries) ≡ true = ap (λ (es : Places _ _). is_some (lookup test es)) c.self.view_is ∙ c.requires.place in
    let fresh : moves_there (lookup test c.self.inside.places.entries) ≡ None = ap (λ (es : Places _ _). moves_there (lookup test es)) c.self.view_is ∙ c.requires.fresh in
    omega (
      arith,
      c.self.invariant,
      ap held_in c.set_moves.ensures,
      held-moves test c.args.moves c.self.inside.places.entries place fresh,
      c.count_of_premises.ensures.value ∙ ap premises_in c.alts.ensures.value,
      c.from-premises.ensures,
      c.saturating_add-self-inside.ensures,
    )
