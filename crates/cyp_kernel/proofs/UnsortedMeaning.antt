-- A formed goal in which a set variable stands in the place of an integer: what is solved means another thing.
use Rattle.std.proofs.Common.{◌≡◌, refl, true, not, [], ◌∷◌, ℤ, pos, ◌+ℤ◌, arith}
use Rattle.std.proofs.lemmas.Bool.{false≢true}
use Rattle.std.proofs.lemmas.Int.{ints}
use Rattle.cyp_heap.specs.Formed.{IsFormed}
use Rattle.cyp_heap.specs.Stores.{no_store}
use Rattle.cyp_heap.specs.declared.goal.Goal.{Goal}
use Rattle.cyp_heap.specs.declared.goal.Node.{Node}
use Rattle.cyp_heap.specs.declared.pred.Preds.{Preds}
use Rattle.cyp_kernel.proofs.BySort.{agree_from}
use Rattle.cyp_kernel.specs.Correct.{AgreeBeside, MeetsPost, unlinked}
use Rattle.cyp_kernel.specs.Meaning.{KeepsMeaning, SortsAreNeeded}
use Rattle.cyp_term.specs.Meaning.{Assignment}
use Rattle.cyp_term.specs.Terms.{number_term, sort_eq, var_term}
use Rattle.cyp_term.specs.declared.lit.Lit.TheVariants.{Eq}
use Rattle.cyp_term.specs.declared.term.Sort.{Sort}
use Rattle.cyp_term.specs.declared.term.Sort.TheVariants.{Card, Int, Set}
use Rattle.cyp_term.specs.declared.term.Term.{Term}
use Rattle.cyp_term.specs.declared.term.Var.{Var}

abbrev no_preds : Preds
no_preds = record { list = [] }

abbrev x : Var
x = record { sort = Int; number = 0 }

abbrev a_set : Var
a_set = record { sort = Set; number = 0 }

abbrev zero_term : Term
zero_term = number_term (pos 0)

-- {x == S; emp} {x == 0; emp}, S being a set variable
abbrev goal : Goal
goal = record {
  program = [];
  exist = [];
  pure_pre = Eq (var_term x) (var_term a_set) ∷ [];
  pre = record { chunks = [] };
  pure_post = Eq (var_term x) zero_term ∷ [];
  post = record { chunks = [] };
}

-- {emp} {S == 0; emp}
abbrev solved : Node
solved = record {
  preds = no_preds;
  goal = record {
    program = [];
    exist = [];
    pure_pre = [];
    pre = record { chunks = [] };
    pure_post = Eq (var_term a_set) zero_term ∷ [];
    post = record { chunks = [] };
  };
  links = [];
}

formed : IsFormed no_preds goal
formed = record {
  instances_fit = refl;
  program_int = refl;
  program_differs = refl;
  exist_differs = refl;
  exist_apart = refl;
  pre_cards = refl;
  post_cards = refl;
  cards_differ = refl;
  cards_alone = refl;
}

abbrev ones : Assignment
ones = record { number = λ v. pos 1; members = λ v. [] }

abbrev by_sort : Sort → ℤ
by_sort Int = pos 1
by_sort Card = pos 1
by_sort Set = pos 0

-- the numbers of set variables are 0, and nothing else is changed
abbrev zeros : Assignment
zeros = record { number = λ v. by_sort v.sort; members = λ v. [] }

one_by_sort : (k : Sort) → not (sort_eq k Set) ≡ true → pos 1 ≡ by_sort k
one_by_sort Int h = refl
one_by_sort Card h = refl
one_by_sort Set h = absurd (false≢true h)

beside : AgreeBeside [] ones zeros
beside v out = agree_from v.sort ones zeros v (one_by_sort v.sort) (λ h z. refl)

not_both : (z : ℤ) → pos 1 ≡ z → z +ℤ pos 0 ≡ pos 0 +ℤ pos 0 → ⊥
not_both z e h = omega (arith, ints)

lost : KeepsMeaning (unlinked no_preds goal) solved → ⊥
lost f =
    let kept = f ones no_store [] ((refl, tt), (refl, refl), tt) in
    let p : MeetsPost no_preds goal ones no_store = kept.1 no_store (zeros, [], beside, ((refl, tt), (refl, refl), tt)) in
    not_both (p.0.number x) (p.2 x refl) p.3.0.0

pub sorts_are_needed : SortsAreNeeded
sorts_are_needed = (no_preds, goal, solved, formed, refl, lost)
