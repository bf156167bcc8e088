-- Short forms for worked examples, and the goals that they are about.
use Rattle.std.proofs.Common.{ℕ, pos, List, [], ◌∷◌, Option, Some, None}
use Rattle.cyp_heap.specs.declared.chunk.Arg.TheVariants.{Int as IntArg, Set as SetArg}
use Rattle.cyp_heap.specs.declared.chunk.Chunk.{Chunk}
use Rattle.cyp_heap.specs.declared.chunk.Chunk.TheVariants.{Block, Cell, Inst}
use Rattle.cyp_heap.specs.declared.goal.Node.{Node}
use Rattle.cyp_heap.specs.declared.pred.Clause.{Clause}
use Rattle.cyp_heap.specs.declared.pred.Pred.{Pred}
use Rattle.cyp_heap.specs.declared.pred.Preds.{Preds}
use Rattle.cyp_term.specs.declared.lit.Lit.{Lit}
use Rattle.cyp_term.specs.declared.lit.Lit.TheVariants.{Eq, Ne, Same}
use Rattle.cyp_term.specs.declared.lit.SetTerm.{SetTerm}
use Rattle.cyp_term.specs.declared.term.Sort.TheVariants.{Card, Int, Set}
use Rattle.cyp_term.specs.declared.term.Term.{Term}
use Rattle.cyp_term.specs.declared.term.Var.{Var}

-- ---- variables and terms

-- variables of integers, cardinalities and sets
abbrev pub x : ℕ → Var
x n = record { sort = Int; number = n }

abbrev pub k : ℕ → Var
k n = record { sort = Card; number = n }

abbrev pub s : ℕ → Var
s n = record { sort = Set; number = n }

-- the variables as terms
abbrev pub X : ℕ → Term
X n = record { base = Some (x n); offset = pos 0 }

abbrev pub K : ℕ → Term
K n = record { base = Some (k n); offset = pos 0 }

abbrev pub S : ℕ → SetTerm
S n = record { vars = s n ∷ []; elems = [] }

-- with an offset
abbrev pub X+ : ℕ → ℕ → Term
X+ n c = record { base = Some (x n); offset = pos c }

abbrev pub num : ℕ → Term
num c = record { base = None; offset = pos c }

abbrev pub no_members : SetTerm
no_members = record { vars = []; elems = [] }

-- the term and the members of a set variable
abbrev pub with_elem : Term → ℕ → SetTerm
with_elem t n = record { vars = s n ∷ []; elems = t ∷ [] }

-- ---- chunks

abbrev pub cell : Term → Term → Chunk
cell a v = Cell (record { at = a; content = v })

abbrev pub block : Term → ℕ → Chunk
block a n = Block (record { at = a; size = n })

-- an instance of the first predicate, unfolded this often, at this address and with these members
abbrev pub list_tagged : ℕ → Term → SetTerm → Option Var → Chunk
list_tagged t a u c = Inst (record { pred = 0; args = IntArg a ∷ SetArg u ∷ []; card = c; tag = t })

abbrev pub list_at : Term → SetTerm → Option Var → Chunk
list_at a u c = list_tagged 0 a u c

-- ---- lists with their sets of contents

-- x == 0 => { s =i {} ; emp }
abbrev pub nil : Clause
nil = record { guard = Eq (X 0) (num 0); lits = Same (S 0) no_members ∷ []; heap = record { chunks = [] }; ints = 1; sets = 1 }

-- not (x == 0) => { s =i {v} ++ t ; [x, 2] ** x :-> v ** (x + 1) :-> n ** sll(n, t) }
abbrev pub cons : Clause
cons = record {
  guard = Ne (X 0) (num 0);
  lits = Same (S 0) (with_elem (X 1) 1) ∷ [];
  heap = record { chunks = list_at (X 2) (S 1) None ∷ block (X 0) 2 ∷ cell (X 0) (X 1) ∷ cell (X+ 0 1) (X 2) ∷ [] };
  ints = 3;
  sets = 2;
}

abbrev pub sll : Pred
sll = record { name = 115 ∷ 108 ∷ 108 ∷ []; params = Int ∷ Set ∷ []; clauses = nil ∷ cons ∷ [] }

abbrev pub lists : Preds
lists = record { list = sll ∷ [] }

abbrev pub no_preds : Preds
no_preds = record { list = [] }

-- ---- nodes

-- without companions
abbrev pub node : Preds → List Var → List Var → List Lit → List Chunk → List Lit → List Chunk → Node
node preds program exist pure_pre pre pure_post post = record {
  preds = preds;
  goal = record { program = program; exist = exist; pure_pre = pure_pre; pre = record { chunks = pre }; pure_post = pure_post; post = record { chunks = post } };
  links = [];
}

-- void f(loc x) { x :-> a } { x :-> 5 }
abbrev pub write_five : Node
write_five = node no_preds (x 0 ∷ []) [] [] (cell (X 0) (X 1) ∷ []) [] (cell (X 0) (num 5) ∷ [])

-- void swap(loc x, loc y) { x :-> a ** y :-> b } { x :-> b ** y :-> a }
abbrev pub swap : Node
swap = node no_preds (x 0 ∷ x 1 ∷ []) [] [] (cell (X 0) (X 2) ∷ cell (X 1) (X 3) ∷ []) [] (cell (X 0) (X 3) ∷ cell (X 1) (X 2) ∷ [])

-- void f(loc x) { emp } { x :-> 1 }
abbrev pub from_nothing : Node
from_nothing = node no_preds (x 0 ∷ []) [] [] [] [] (cell (X 0) (num 1) ∷ [])

-- void f(loc x) { x :-> 1 ** x :-> 2 } { emp }
abbrev pub two_at_one : Node
two_at_one = node no_preds (x 0 ∷ []) [] [] (cell (X 0) (num 1) ∷ cell (X 0) (num 2) ∷ []) [] []

-- void dispose(loc x) { sll(x, s) } { emp }
abbrev pub dispose : Node
dispose = node lists (x 0 ∷ []) [] [] (list_at (X 0) (S 0) (Some (k 0)) ∷ []) [] []

-- void f(loc x) { sll(x, s) } { sll(x, s) }
abbrev pub left_as_is : Node
left_as_is = node lists (x 0 ∷ []) [] [] (list_at (X 0) (S 0) (Some (k 0)) ∷ []) [] (list_at (X 0) (S 0) None ∷ [])

-- void clear(loc r) { r :-> x ** sll(x, s) } { r :-> 0 }
abbrev pub clear : Node
clear = node lists (x 0 ∷ []) [] [] (list_at (X 1) (S 0) (Some (k 0)) ∷ cell (X 0) (X 1) ∷ []) [] (cell (X 0) (num 0) ∷ [])

-- void f() { sll(x, s) } { emp }
abbrev pub out_of_reach : Node
out_of_reach = node lists [] [] [] (list_at (X 0) (S 0) (Some (k 0)) ∷ []) [] []
