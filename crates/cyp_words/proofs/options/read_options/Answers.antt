use Rattle.std.proofs.Common.{map, refl, rules, string_bytes, codes, ◌∙◌}
use Rattle.clap.specs.Matches.{found_of, one_text}
use Rattle.cyp_words.specs.Words.{options_in, written_as}
use Rattle.cyp_words.specs.declared.choice.Choice.TheVariants.{Budget, Fuel, Stats, Unfold, Workers}
use Rattle.cyp_words.specs.declared.options.Options.{Options}
use Rattle.cyp_words.proofs.Once.{flag_read, options_told}
use Rattle.cyp_words.proofs.Parses.{handed_on, number_err, said_by}
use Rattle.cyp_words.proofs.options.read_options.Goals as goal

pub returns-in_err-budget : goal.returns-in_err-budget
returns-in_err-budget c =
    handed_on (options_in c.args.choices.now (map string_bytes c.args.words.now)) c.from_residual-in_err-budget.result c.in_err-budget.field-0.0 (search rules)
    (number_err c.args.choices.now (map string_bytes c.args.words.now) c.in_ok-matches.matches c.in_ok-matches.ensures Budget c.in_err-budget.field-0.0 refl c.in_err-budget.ensures)

pub returns-in_err-unfoldings : goal.returns-in_err-unfoldings
returns-in_err-unfoldings c =
    handed_on (options_in c.args.choices.now (map string_bytes c.args.words.now)) c.from_residual-in_err-unfoldings.result c.in_err-unfoldings.field-0.0 (search rules)
    (number_err c.args.choices.now (map string_bytes c.args.words.now) c.in_ok-matches.matches c.in_ok-matches.ensures Unfold c.in_err-unfoldings.field-0.0 refl c.in_err-unfoldings.ensures)

pub returns-in_err-workers : goal.returns-in_err-workers
returns-in_err-workers c =
    handed_on (options_in c.args.choices.now (map string_bytes c.args.words.now)) c.from_residual-in_err-workers.result c.in_err-workers.field-0.0 (search rules)
    (number_err c.args.choices.now (map string_bytes c.args.words.now) c.in_ok-matches.matches c.in_ok-matches.ensures Workers c.in_err-workers.field-0.0 refl c.in_err-workers.ensures)

pub returns-in_err-fuel : goal.returns-in_err-fuel
returns-in_err-fuel c =
    handed_on (options_in c.args.choices.now (map string_bytes c.args.words.now)) c.from_residual-in_err-fuel.result c.in_err-fuel.field-0.0 (search rules)
    (number_err c.args.choices.now (map string_bytes c.args.words.now) c.in_ok-matches.matches c.in_ok-matches.ensures Fuel c.in_err-fuel.field-0.0 refl c.in_err-fuel.ensures)

pub returns : goal.returns
returns c =
    let o : Options = record {
      budget = c.in_ok-budget.budget;
      unfoldings = c.in_ok-unfoldings.unfoldings;
      workers = c.in_ok-workers.workers;
      fuel = c.in_ok-fuel.fuel;
      stats = c.get_flag.result;
    } in
    options_told c.args.choices.now (map string_bytes c.args.words.now) c.in_ok-matches.ensures.os o c.in_ok-matches.ensures.all c.in_ok-matches.ensures.once
    (said_by c.args.choices.now (map string_bytes c.args.words.now) c.in_ok-matches.matches c.in_ok-matches.ensures Budget refl ∙ c.in_ok-budget.ensures)
    (said_by c.args.choices.now (map string_bytes c.args.words.now) c.in_ok-matches.matches c.in_ok-matches.ensures Unfold refl ∙ c.in_ok-unfoldings.ensures)
    (said_by c.args.choices.now (map string_bytes c.args.words.now) c.in_ok-matches.matches c.in_ok-matches.ensures Workers refl ∙ c.in_ok-workers.ensures)
    (said_by c.args.choices.now (map string_bytes c.args.words.now) c.in_ok-matches.matches c.in_ok-matches.ensures Fuel refl ∙ c.in_ok-fuel.ensures)
    (flag_read (written_as Stats c.in_ok-matches.ensures.os) (one_text (found_of c.in_ok-matches.matches) (codes "stats")) c.get_flag.result c.in_ok-matches.ensures.flag
    c.get_flag.ensures.none c.get_flag.ensures.value c.get_flag.ensures.other)
