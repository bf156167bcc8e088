-- What `clap` is told of the options.
use Rattle.std.specs.Prelude.{List, Some, [], codes, cond, map, true}
use Rattle.clap.specs.Simple.{App, new_rule, new_shape}
use Rattle.clap.specs.Walk.{Rule}
use Rattle.clap.specs.declared.builder.action.ArgAction.TheVariants.{Set, SetTrue}
use Rattle.cyp_words.specs.Options.{choice_name, is_flag}
use Rattle.cyp_words.specs.declared.choice.Choice.{Choice}

-- an option has its name as id and as long name, and a text, but for a flag
abbrev pub rule : Choice → Rule
rule c = record (new_rule (choice_name c)) {
  long = Some (choice_name c);
  action = Some (cond (is_flag c) SetTrue Set);
}

-- a command line of these options alone
abbrev pub app : List Choice → App
app cs = record {
  top = record (new_shape (codes "cypress")) {
    rules = map rule cs;
    no_binary_name = true;
    disable_help_flag = true;
  };
  subs = [];
}
