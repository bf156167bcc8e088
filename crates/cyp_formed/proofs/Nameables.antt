-- Scopes with few names, none of which is a cardinality.
use Rattle.std.proofs.Common.{List, ◌≤◌}
use Rattle.cyp_term.specs.declared.term.Sort.TheVariants.{Int, Set}
use Rattle.cyp_term.proofs.Lists.{Among}
use Rattle.cyp_names.specs.ReadTerms.{Scope}
use Rattle.cyp_names.specs.Specifications.{count_sort}
use Rattle.cyp_names.specs.Uses.{Use}
use Rattle.cyp_formed.proofs.PlainSorts.{ArePlain}
use Rattle.cyp_names.proofs.ScopeNames.{Has}

-- no cardinality among the names, and few of each sort
pub record Nameable (sc : Scope) : Type 0 where
  pub plain : ArePlain sc
  pub few_ints : count_sort Int sc ≤ 64
  pub few_sets : count_sort Set sc ≤ 64

-- each of these names is one of the scope
abbrev pub HasAll : Scope → List Use → Type 0
HasAll sc us = (u : Use) → Among u us → Has sc u.name.text
