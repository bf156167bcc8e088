use Rattle.std.proofs.Common.{◌≡◌, ◌≤ℤ◌, ◌<ℤ◌, ◌+ℤ◌, ◌<◌, ◌++◌, length, take, drop, rules, pos, to_z, of_z, w64, FitsSigned, refl, sym, ap, ◌∙◌, subst, subst₂, arith}
use Rattle.std.specs.List.{All}
use Rattle.cyp_lanes.specs.Rows.{IsModest}
use Rattle.cyp_diff.specs.Relaxing.{HasRoom, IsThrough}
use Rattle.cyp_diff.specs.Adding.{AddMeans}
use Rattle.cyp_diff.specs.Closed.{AreBounds}
use Rattle.cyp_diff.specs.Distances.{none, distance, IsRefused}
use Rattle.cyp_diff.specs.declared.bounds.Adding.TheVariants.{Added}
use Rattle.cyp_diff.proofs.Coming.{adding_means, bounds_still, closer_rows}
use Rattle.cyp_diff.proofs.Reading.{nothing_new, refused, not_refused, room, modest, through, written, passed, at_most}
use Rattle.cyp_diff.proofs.bounds.Bounds.add.Goals as goal

pub returns-then-distance-c-clause-means : goal.returns-then-distance-c-clause-means
returns-then-distance-c-clause-means c =
    let fits : FitsSigned w64 c.distance.result = search rules in
    let first : c.args.i < length c.self.inside.rows.items = omega (arith, ap length c.self.view_is) in
    let second : c.args.j < length c.self.inside.rows.items = omega (arith, ap length c.self.view_is) in
    let value : c.distance.result ≡ distance c.self.inside.rows.items c.args.i c.args.j = c.distance.ensures.value ∙ ap (λ rows. distance rows c.args.i c.args.j) (sym c.self.view_is) in
    let le : distance c.self.inside.rows.items c.args.i c.args.j ≤ℤ c.args.c = subst (λ z. z ≤ℤ c.args.c) value (at_most c.distance.result c.args.c fits c.requires.small c.if-distance-c.true) in
    subst (λ rows. AddMeans c.args.i c.args.j c.args.c rows rows Added) c.self.view_is (nothing_new c.self.inside.rows.items c.args.i c.args.j c.args.c c.self.invariant first second c.requires.small le)

pub returns-then-refuses-clause-means : goal.returns-then-refuses-clause-means
returns-then-refuses-clause-means c =
    let no : IsRefused c.args.self.now c.args.i c.args.j c.args.c = subst (λ z. IsRefused c.args.self.now c.args.i c.args.j z) (passed c.args.c c.requires.small) (c.if-refuses.ensures.0 refl) in
    refused c.args.self.now c.args.i c.args.j c.args.c c.requires.first c.requires.second no

pub close-requires-clause-room : goal.close-requires-clause-room
close-requires-clause-room c =
    let first : c.args.i < length c.self.inside.rows.items = omega (arith, ap length c.self.view_is) in
    subst (λ rows. All (HasRoom c.args.i) rows) (sym c.deref_mut.ensures.value) (room c.self.inside.rows.items c.args.i c.self.invariant first)

pub close-requires-clause-modest : goal.close-requires-clause-modest
close-requires-clause-modest c =
    let second : c.args.j < length c.self.inside.rows.items = omega (arith, ap length c.self.view_is) in
    subst (λ row. All IsModest row) (sym c.lift-from.ensures) (modest c.self.inside.rows.items c.index.result.now c.args.j c.self.invariant second c.index.ensures)

pub close-requires-clause-through : goal.close-requires-clause-through
close-requires-clause-through c =
    let first : c.args.i < length c.self.inside.rows.items = omega (arith, ap length c.self.view_is) in
    let second : c.args.j < length c.self.inside.rows.items = omega (arith, ap length c.self.view_is) in
    subst (λ rows. All (IsThrough c.args.i c.args.j (to_z w64 (of_z w64 c.args.c)) c.lift-from.result) rows) (sym c.deref_mut.ensures.value)
    (subst₂ (λ z from. All (IsThrough c.args.i c.args.j z from) c.self.inside.rows.items) (sym (passed c.args.c c.requires.small)) (sym c.lift-from.ensures)
    (through c.self.inside.rows.items c.index.result.now c.args.i c.args.j c.args.c c.self.invariant first second c.requires.small c.index.ensures))

no_cycle : (c : goal.After-self-1) → distance c.self.inside.rows.items c.args.j c.args.i <ℤ none → pos 0 ≤ℤ (distance c.self.inside.rows.items c.args.j c.args.i +ℤ c.args.c)
no_cycle c =
    let no : IsRefused c.args.self.now c.args.i c.args.j c.args.c → ⊥ = λ h. cc (c.if-refuses.ensures.1 (subst (λ z. IsRefused c.args.self.now c.args.i c.args.j z) (sym (passed c.args.c c.requires.small)) h)) in
    not_refused c.self.inside.rows.items c.args.i c.args.j c.args.c (subst (λ rows. IsRefused rows c.args.i c.args.j c.args.c → ⊥) (sym c.self.view_is) no)

written_is : (c : goal.After-self-1) → take c.self.inside.rows.len (c.close.new.rows ++ drop (length c.close.new.rows) c.self.inside.rows.items) ≡ closer_rows c.self.inside.rows.items c.args.i c.args.j c.args.c
written_is c =
    written c.self.inside.rows.items c.close.new.rows c.deref_mut.result.now c.index.result.now c.lift-from.result c.args.i c.args.j c.self.inside.rows.len c.args.c c.self.invariant
    (omega (arith, ap length c.self.view_is)) c.requires.small c.index.ensures c.lift-from.ensures c.deref_mut.ensures.value c.deref_mut.ensures.len c.close.ensures

pub invariant_of-self : goal.invariant_of-self
invariant_of-self c =
    subst AreBounds (sym (written_is c))
    (bounds_still c.self.inside.rows.items c.args.i c.args.j c.args.c c.self.invariant (omega (arith, ap length c.self.view_is)) (omega (arith, ap length c.self.view_is)) c.requires.small (no_cycle c))

pub returns-clause-means : goal.returns-clause-means
returns-clause-means c =
    subst₂ (λ old new. AddMeans c.args.i c.args.j c.args.c old new Added) c.self.view_is (sym (written_is c))
    (adding_means c.self.inside.rows.items c.args.i c.args.j c.args.c c.self.invariant (omega (arith, ap length c.self.view_is)) (omega (arith, ap length c.self.view_is)) c.requires.small (no_cycle c))
