use Rattle.std.specs.Prelude.{◌≡◌, true}
use Rattle.std.proofs.Common.{arith, rules}
use Rattle.cyp_term.specs.Exactly.{exact_lists}
use Rattle.cyp_term.specs.TermValue.{TermValue}
use Rattle.cyp_term.specs.SetTermValue.{SetTermValue}
use Rattle.cyp_term.specs.declared.term.Var.{Var}
use Rattle.cyp_term.specs.declared.lit.Lit.{Lit}
use Rattle.cyp_term.specs.declared.lit.Lit.TheVariants.{Eq, Ne, Le, Lt, Same, NotSame, Member, NotMember, Sub, NotSub}
use Rattle.cyp_term.specs.contracts.term.VarPartialEq.TheImpl.{ghosts as var_ghosts}
use Rattle.cyp_term.specs.contracts.term.TermPartialEq.TheImpl.{ghosts as term_ghosts}
use Rattle.cyp_term.specs.contracts.lit.SetTermPartialEq.TheImpl.{ghosts as set_ghosts}
use Rattle.cyp_term.specs.contracts.lit.LitPartialEq.TheImpl.{ghosts as lit_ghosts}

-- variables that are equal by `==` are the same
pub exact_var : (x y : Var) → (var_ghosts).eq x y ≡ true → x ≡ y
exact_var x y e = search rules

-- terms that are equal by `==` have the same base and the same offset, so are the same
pub exact_term : (x y : TermValue) → (term_ghosts).eq x y ≡ true → x ≡ y
exact_term x y e = search rules

-- set terms that are equal by `==` have the same variables and elements in the same order
pub exact_set_term : (x y : SetTermValue) → (set_ghosts).eq x y ≡ true → x ≡ y
exact_set_term x y e = grind (arith, exact_lists exact_var x.vars y.vars, exact_lists exact_term x.elems y.elems)

-- literals that are equal by `==` are of one kind and have the same sides
pub exact_lit : (x y : Lit) → (lit_ghosts).eq x y ≡ true → x ≡ y
exact_lit (Eq a b) (Eq c d) e = grind (arith, exact_term a c, exact_term b d)
exact_lit (Ne a b) (Ne c d) e = grind (arith, exact_term a c, exact_term b d)
exact_lit (Le a b) (Le c d) e = grind (arith, exact_term a c, exact_term b d)
exact_lit (Lt a b) (Lt c d) e = grind (arith, exact_term a c, exact_term b d)
exact_lit (Same a b) (Same c d) e = grind (arith, exact_set_term a c, exact_set_term b d)
exact_lit (NotSame a b) (NotSame c d) e = grind (arith, exact_set_term a c, exact_set_term b d)
exact_lit (Sub a b) (Sub c d) e = grind (arith, exact_set_term a c, exact_set_term b d)
exact_lit (NotSub a b) (NotSub c d) e = grind (arith, exact_set_term a c, exact_set_term b d)
exact_lit (Member a b) (Member c d) e = grind (arith, exact_term a c, exact_set_term b d)
exact_lit (NotMember a b) (NotMember c d) e = grind (arith, exact_term a c, exact_set_term b d)
exact_lit x y e = cc
