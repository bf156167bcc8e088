use Rattle.cyp_term.specs.Regions.{all_terms, class_by}
use Rattle.cyp_term.proofs.Regions.{Decides-regions, Decides-regions_by_class}
use Rattle.cyp_term.proofs.laws.decides_regions.Goals as goal

pub returns : goal.returns
returns c = record { at_any_values = Decides-regions; by_class = Decides-regions_by_class; by_list = λ classes ls. Decides-regions_by_class (class_by (all_terms ls) classes) ls }
