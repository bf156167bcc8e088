use Rattle.std.proofs.Common.{◌≤◌, ◌<◌, ◌∷◌, [], arith, map, string_bytes, unwrap_or}
use Rattle.cyp_words.specs.declared.choice.Choice.TheVariants.{Budget, Stats, Unfold}
use Rattle.cyp_words.proofs.Parses.{told_bounds}
use Rattle.cyp_words.proofs.read.synth.Goals as goal

pub overflow_cast-unwrap_or : goal.overflow_cast-unwrap_or
overflow_cast-unwrap_or c =
    let most : unwrap_or c.in_ok-options.options.unfoldings 2 ≤ 3 =
    (told_bounds (Budget ∷ Unfold ∷ Stats ∷ []) (map string_bytes c.args.words.now) c.in_ok-options.options c.in_ok-options.ensures).most_unfold in
    let small : c.unwrap_or-2.result < 256 = rw c.unwrap_or-2.ensures (omega (arith, most)) in record { fits = omega (arith, small) }

pub new-settings-requires : goal.new-settings-requires
new-settings-requires c =
    rw (c.unwrap_or.ensures, c.unwrap_or-2.ensures, c.unwrap_or-3.ensures)
    (told_bounds (Budget ∷ Unfold ∷ Stats ∷ []) (map string_bytes c.args.words.now) c.in_ok-options.options c.in_ok-options.ensures)
