-- What the solver says of the literals of a dealing.
use Rattle.std.proofs.Common.{◌≡◌, ◌==◌, ℕ, suc, List, [], ◌∷◌, ◌++◌, length, refl, subst₂, arith, Option, Some, None, true, false, subst, sym}
use Rattle.std.specs.List.{zip}
use Rattle.std.specs.Option.{is_some}
use Rattle.std.proofs.lemmas.Bool.{false≢true}
use Rattle.std.proofs.lemmas.Bool.Decides.{Decides-eqb}
use Rattle.cyp_term.specs.declared.lit.Lit.{Lit}
use Rattle.cyp_term.specs.Meaning.{AllTrue, Satisfiable, value}
use Rattle.cyp_diff.specs.declared.solver.Value.{Value}
use Rattle.cyp_diff.specs.Solving.{SolveMeans, given}
use Rattle.cyp_pure.specs.declared.dealing.Dealing.{Dealing}
use Rattle.cyp_pure.specs.declared.dealing.Question.{Question}
use Rattle.cyp_pure.specs.Dealing.{Agrees, CanDeal, SaysClasses}
use Rattle.cyp_pure.specs.Questions.{CanBeTrue}
use Rattle.cyp_pure.proofs.Alls.{true_both, true_left, true_right}

-- integers were found
pub solved : (xs ys zs : List Lit) (o : Option (List Value)) (bs : List Value) → SolveMeans (xs ++ ys) o → o ≡ Some bs → ys ≡ zs → Satisfiable (xs ++ zs)
solved xs ys zs o bs h e f = (given bs, subst (λ ls. AllTrue (given bs) (xs ++ ls)) f (subst (SolveMeans (xs ++ ys)) e h).1)

-- there are none
pub unsolved : (xs ys zs : List Lit) (o : Option (List Value)) → SolveMeans (xs ++ ys) o → o ≡ None → ys ≡ zs → Satisfiable (xs ++ zs) → ⊥
unsolved xs ys zs o h e f s = let no : Satisfiable (xs ++ ys) → ⊥ = subst (SolveMeans (xs ++ ys)) e h in no (subst (λ ls. Satisfiable (xs ++ ls)) (sym f) s)

-- integers that make all true, with these classes, make the literals of the dealing true
pub ints_of : (q : Question) (d : Dealing) (ks : List ℕ) → SaysClasses q d → d.classes ≡ ks → CanDeal q ks → Satisfiable (q.ints.now ++ d.facts)
ints_of q d ks said e h = (
  h.0,
  true_both h.0 q.ints.now d.facts (true_left h.0 q.ints.now q.more.now h.1)
      ((said.means h.0).1 (true_right h.0 q.ints.now q.more.now h.1, subst (λ js. Agrees (value h.0) (zip q.terms.now js)) (sym e) h.3)),
)

pub solved_some : (ls : List Lit) (o : Option (List Value)) → is_some o ≡ true → SolveMeans ls o → Satisfiable ls
solved_some ls None e h = absurd (false≢true e)
solved_some ls (Some bs) e h = (given bs, h.1)

pub solved_none : (ls : List Lit) (o : Option (List Value)) → is_some o ≡ false → SolveMeans ls o → Satisfiable ls → ⊥
solved_none ls None e h = h
solved_none ls (Some bs) e h = absurd (false≢true (sym e))

nil_from : {X : Type 0} (xs : List X) → (length xs == 0) ≡ true → xs ≡ []
nil_from [] e = refl
nil_from (x ∷ xs) e = absurd (let none : suc (length xs) ≡ 0 = (Decides-eqb (suc (length xs)) 0).0 e in omega arith)

-- without literals of sets
pub no_sets : (ints sets more : List Lit) → Satisfiable ints → (length sets == 0) ≡ true → (length more == 0) ≡ true → CanBeTrue ints (sets ++ more)
no_sets ints sets more h e f = (h.0, h.1, subst₂ (λ xs ys. AllTrue h.0 (xs ++ ys)) (sym (nil_from sets e)) (sym (nil_from more f)) tt)
