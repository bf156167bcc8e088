-- Element terms that are dealt to classes, one after another.
use Rattle.std.specs.Prelude.{◌≡◌, ◌↔◌, ◌≤◌, ◌<◌, ◌++◌, ◌==◌, ℕ, ℤ, List, [], if◌then◌else◌, length, map, IsTrue}
use Rattle.std.specs.List.{All, AllByRecursion, flat_map, zip}
use Rattle.cyp_term.specs.declared.lit.Lit.{Lit}
use Rattle.cyp_term.specs.declared.lit.Lit.TheVariants.{Eq, Ne}
use Rattle.cyp_term.specs.declared.term.Term.{Term}
use Rattle.cyp_term.specs.declared.term.Var.{Var}
use Rattle.cyp_term.specs.Meaning.{AllTrue, Assignment, value}
use Rattle.cyp_term.specs.Terms.{lits_vars, term_vars, var_in}
use Rattle.cyp_diff.specs.Solving.{AreInts}
use Rattle.cyp_pure.specs.declared.dealing.Dealing.{Dealing}
use Rattle.cyp_pure.specs.declared.dealing.Question.{Question}
use Rattle.cyp_pure.specs.Questions.{int_side, set_side}

-- the values of the terms are equal exactly where their classes are
pub record Agrees (val : Term → ℤ) (dealt : List (Term × ℕ)) : Type 0 where
  pub alike : AllByRecursion (λ p. AllByRecursion (λ q. (val p.0 ≡ val q.0) ↔ (p.1 ≡ q.1)) dealt) dealt

-- what the classes of two terms say of them
abbrev pub tie : Term → ℕ → Term × ℕ → Lit
tie t k p = if p.1 == k then Eq p.0 t else Ne p.0 t

-- what the class of one more term says of it and each of the others
abbrev pub ties : Term → ℕ → List (Term × ℕ) → List Lit
ties t k dealt = map (tie t k) dealt

-- the question's literals of integers, and what the classes say, as literals
pub record SaysClasses (q : Question) (d : Dealing) : Type 0 where
  pub ints_only : AreInts d.facts
  pub vars : (v : Var) → IsTrue (var_in v (lits_vars d.facts)) → IsTrue (var_in v (lits_vars q.more.now ++ flat_map term_vars q.terms.now))
  pub means : (s : Assignment) → AllTrue s d.facts ↔ (AllTrue s q.more.now × Agrees (value s) (zip q.terms.now d.classes))

-- the first of the question's terms have classes, each below the number of classes
pub record IsDealt (q : Question) (d : Dealing) : Type 0 where
  pub few : length d.classes ≤ length q.terms.now
  pub count : d.count ≤ length d.classes
  pub below : All (λ k. k < d.count) d.classes
  pub facts : SaysClasses q d

-- no term has a class yet, and the facts are these literals
pub record IsStart (ls : List Lit) (d : Dealing) : Type 0 where
  pub classes : d.classes ≡ []
  pub count : d.count ≡ 0
  pub facts : d.facts ≡ ls

-- integers and sets make all the question's literals true, and give the first terms values of these classes
abbrev pub CanDeal : Question → List ℕ → Type 0
CanDeal q classes = (s : Assignment) × AllTrue s (int_side q) × AllTrue s (set_side q) × Agrees (value s) (zip q.terms.now classes)
