use Rattle.std.proofs.Common.{◌∙◌, ◌++◌, ap, sym}
use Rattle.std.specs.List.{flat_map}
use Rattle.cyp_goal.proofs.AddressLits.{both_added}
use Rattle.cyp_goal.proofs.Occurring.{all_occur}
use Rattle.cyp_goal.specs.Tidying.{address_lits}
use Rattle.cyp_term.specs.Terms.{term_vars, var_eq, without_repeats}
use Rattle.cyp_goal.proofs.addresses.add_addresses.Goals as goal

pub add_bases-requires : goal.add_bases-requires
add_bases-requires c =
    all_occur c.as_slice-2.result.now (flat_map term_vars c.as_slice-3.result.now)
    (c.as_slice-2.ensures.value ∙ c.in_ok-bases.ensures ∙ ap (λ ts. without_repeats var_eq (flat_map term_vars ts)) (c.as_slice.ensures.value ∙ sym c.as_slice-3.ensures.value))

pub returns : goal.returns
returns c =
    both_added c.args.lits.now.items c.add_bases.new.lits.items c.add_numbers.new.lits.items c.as_slice-2.result.now c.in_ok-terms.terms.items c.as_slice.result.now c.as_slice-3.result.now
    c.as_slice-4.result.now (c.as_slice-2.ensures.value ∙ c.in_ok-bases.ensures) c.as_slice.ensures.value c.as_slice-3.ensures.value c.as_slice-4.ensures.value c.in_ok-add_bases.ensures
    c.in_ok-add_numbers.ensures
    ∙ ap (λ ts. c.args.lits.now.items ++ address_lits ts) c.in_ok-terms.ensures
