-- The command that the code reads off the words is the one that they are.
use Rattle.std.proofs.Common.{None, Option, Some, false, refl, subst, sym, ◌∙◌, ◌≡◌}
use Rattle.std.proofs.lemmas.Option.{none-some, same_Some}
use Rattle.std.specs.Prelude.{option_map}
use Rattle.cyp_top.specs.Asked.{IsLimited, asked}
use Rattle.cyp_top.specs.Output.{is_search}
use Rattle.cyp_words.specs.Commands.{command_value}
use Rattle.cyp_words.specs.Words.{Command, Gen, RunOn, Search, Synth}
use Rattle.cyp_words.specs.declared.command.Command.{Command as CommandValue}
use Rattle.std.proofs.Common.{ap}

-- a command is the one that its value asks for
back : (c : Command) → c ≡ asked (command_value c)
back (Synth s) = refl
back (RunOn n) = refl
back (Gen n) = refl

limited : (c : Command) → IsLimited (command_value c)
limited (Synth s) = refl
limited (RunOn n) = tt
limited (Gen n) = tt

pub asked_by : (c : Option Command) (w : CommandValue) → option_map command_value c ≡ Some w → (c ≡ Some (asked w)) × IsLimited w
asked_by None w e = absurd (none-some w e)
asked_by (Some c) w e =
    let same = same_Some (command_value c) w e in
    (ap Some (back c ∙ ap asked same), subst IsLimited same (limited c))

-- words that are no command ask for no search
pub none_is_no_search : (c : Option Command) → option_map command_value c ≡ None → is_search c ≡ false
none_is_no_search None e = refl
none_is_no_search (Some c) e = absurd (none-some (command_value c) (sym e))
