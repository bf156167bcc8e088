-- Questions about literals of integers and of sets together.
use Rattle.std.specs.Prelude.{◌≡◌, ◌≤◌, ◌++◌, List, length}
use Rattle.std.specs.List.{flat_map}
use Rattle.cyp_term.specs.declared.lit.Lit.{Lit}
use Rattle.cyp_term.specs.declared.term.Var.{Var}
use Rattle.cyp_term.specs.Meaning.{AllTrue, Assignment}
use Rattle.cyp_term.specs.Regions.{all_set_vars, all_terms}
use Rattle.cyp_term.specs.Terms.{lits_vars, term_vars, var_eq, without_repeats}
use Rattle.cyp_diff.specs.Solving.{AreInts}
use Rattle.cyp_sets.specs.Asking.{AreSets}
use Rattle.cyp_pure.specs.declared.dealing.Question.{Question}

-- some integers and finite sets make all the literals of both lists true
abbrev pub CanBeTrue : List Lit → List Lit → Type 0
CanBeTrue ints sets = (s : Assignment) × AllTrue s ints × AllTrue s sets

-- the variables of the literals of integers and of the element terms
abbrev pub number_vars : List Lit → List Lit → List Var
number_vars ints sets = without_repeats var_eq (lits_vars ints ++ flat_map term_vars (all_terms sets))

-- literals of integers and of sets, few enough for the decision
pub record CanBeAsked (ints sets : List Lit) : Type 0 where
  pub ints_only : AreInts ints
  pub sets_only : AreSets sets
  pub few_numbers : length (number_vars ints sets) ≤ 32
  pub few_sets : length (all_set_vars sets) ≤ 12
  pub few_terms : length (all_terms sets) ≤ 6

-- the question's literals of integers
abbrev pub int_side : Question → List Lit
int_side q = q.ints.now ++ q.more.now

-- the question's literals of sets
abbrev pub set_side : Question → List Lit
set_side q = q.sets.now ++ q.more_sets.now

-- the question can be asked, and has the element terms of its literals
pub record IsAsked (q : Question) : Type 0 where
  pub lits : CanBeAsked (int_side q) (set_side q)
  pub terms : q.terms.now ≡ all_terms (set_side q)
