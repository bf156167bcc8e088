-- The sorts of a literal's variables, which the types of its terms keep.
use Rattle.std.specs.List.{All}
use Rattle.cyp_term.specs.declared.lit.Lit.{Lit}
use Rattle.cyp_term.specs.declared.lit.Lit.TheVariants.{Eq, Ne, Le, Lt, Same, NotSame, Member, NotMember, Sub, NotSub}
use Rattle.cyp_term.specs.declared.lit.SetTerm.{SetTerm}
use Rattle.cyp_term.specs.declared.term.Term.{Term}
use Rattle.cyp_term.specs.SetTermValue.{AllSets}
use Rattle.cyp_term.specs.TermValue.{IsBase}

-- the term's variable, if it has one, isn't a set
pub record IsNumberTerm (t : Term) : Type 0 where
  pub base : IsBase t.base

-- the variables of the union are sets, and those of its elements aren't
pub record IsSetTerm (u : SetTerm) : Type 0 where
  pub vars : AllSets u.vars
  pub elems : All IsNumberTerm u.elems

-- each variable of the literal is of the sort that its place asks for
abbrev pub HasSorts : Lit → Type 0
HasSorts (Eq a b) = IsNumberTerm a × IsNumberTerm b
HasSorts (Ne a b) = IsNumberTerm a × IsNumberTerm b
HasSorts (Le a b) = IsNumberTerm a × IsNumberTerm b
HasSorts (Lt a b) = IsNumberTerm a × IsNumberTerm b
HasSorts (Same a b) = IsSetTerm a × IsSetTerm b
HasSorts (NotSame a b) = IsSetTerm a × IsSetTerm b
HasSorts (Member t a) = IsNumberTerm t × IsSetTerm a
HasSorts (NotMember t a) = IsNumberTerm t × IsSetTerm a
HasSorts (Sub a b) = IsSetTerm a × IsSetTerm b
HasSorts (NotSub a b) = IsSetTerm a × IsSetTerm b
