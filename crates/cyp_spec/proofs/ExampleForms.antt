-- Short forms for worked examples.
use Rattle.std.specs.Prelude.{Err, List, None, Ok, Option, Result, Some, [], codes, map, pos, ℕ, ◌∷◌}
use Rattle.cyp_lex.specs.Lexemes.{Lexeme, lexeme_of}
use Rattle.cyp_heap.specs.declared.chunk.Arg.{Arg}
use Rattle.cyp_heap.specs.declared.chunk.Arg.TheVariants.{Int as IntArg, Set as SetArg}
use Rattle.cyp_heap.specs.declared.chunk.Chunk.{Chunk}
use Rattle.cyp_heap.specs.declared.chunk.Chunk.TheVariants.{Block, Cell, Inst}
use Rattle.cyp_heap.specs.declared.goal.Goal.{Goal}
use Rattle.cyp_heap.specs.declared.pred.Preds.{Preds}
use Rattle.cyp_lex.specs.Lexing.{tokens_of}
use Rattle.cyp_lex.specs.declared.fault.Fault.{Fault}
use Rattle.cyp_lex.specs.declared.fault.FaultKind.{FaultKind}
use Rattle.cyp_lex.specs.declared.token.Token.{Token}
use Rattle.cyp_term.specs.declared.lit.Lit.TheVariants.{Eq, Ne, Same}
use Rattle.cyp_term.specs.declared.lit.SetTerm.{SetTerm}
use Rattle.cyp_term.specs.declared.term.Sort.TheVariants.{Card, Int, Set}
use Rattle.cyp_term.specs.declared.term.Term.{Term}
use Rattle.cyp_term.specs.declared.term.Var.{Var}
use Rattle.cyp_names.specs.Specifications.{Specification}
use Rattle.cyp_text.specs.declared.tree.PureTree.TheVariants.{NoItems}
use Rattle.cyp_text.specs.declared.tree.TextTree.{TextTree}
use Rattle.cyp_spec.proofs.PlainReader.{parsed}

-- ---- texts

-- the lexemes of a text whose tokens are right
abbrev pub lexemes_by : List ℕ → Result (List Token) Fault → List Lexeme
lexemes_by bytes (Ok ts) = map (lexeme_of bytes) ts
lexemes_by bytes (Err f) = []

abbrev pub lexemes : List ℕ → List Lexeme
lexemes bytes = lexemes_by bytes (tokens_of bytes)

-- the tree, or the least one
abbrev pub tree_or : Option TextTree → TextTree
tree_or (Some t) = t
tree_or None = record {
  preds = [];
  name = record { text = []; place = 0 };
  params = [];
  pre = record { pure = NoItems; chunks = [] };
  post = record { pure = NoItems; chunks = [] };
}

-- the tree that the text's lexemes spell
abbrev pub tree_of : List ℕ → TextTree
tree_of bytes = tree_or (parsed (lexemes bytes))

abbrev pub refused : FaultKind → ℕ → Result Specification Fault
refused k p = Err (record { kind = k; place = p })

-- ---- variables and terms

abbrev pub x : ℕ → Var
x n = record { sort = Int; number = n }

abbrev pub s : ℕ → Var
s n = record { sort = Set; number = n }

abbrev pub k : ℕ → Var
k n = record { sort = Card; number = n }

abbrev pub X : ℕ → Term
X n = record { base = Some (x n); offset = pos 0 }

-- a variable plus a number
abbrev pub plus : ℕ → ℕ → Term
plus n c = record { base = Some (x n); offset = pos c }

abbrev pub num : ℕ → Term
num c = record { base = None; offset = pos c }

abbrev pub S : ℕ → SetTerm
S n = record { vars = s n ∷ []; elems = [] }

-- ---- chunks and goals

abbrev pub cell : Term → Term → Chunk
cell a v = Cell (record { at = a; content = v })

abbrev pub block : Term → ℕ → Chunk
block a n = Block (record { at = a; size = n })

abbrev pub inst : List Arg → Option Var → Chunk
inst args c = Inst (record { pred = 0; args = args; card = c; tag = 0 })

-- a goal without literals
abbrev pub goal : List Var → List Var → List Chunk → List Chunk → Goal
goal program exist pre post = record {
  program = program;
  exist = exist;
  pure_pre = [];
  pre = record { chunks = pre };
  pure_post = [];
  post = record { chunks = post };
}

abbrev pub no_preds : Preds
no_preds = record { list = [] }

-- singly linked lists with the set of their payloads
abbrev pub sll_text : List ℕ
sll_text = codes "predicate sll(loc x, set s) {\n| x == 0 => { s =i {} ; emp }\n| not (x == 0) => { s =i {v} ++ t ; [x, 2] ** x :-> v ** (x + 1) :-> n ** sll(n, t) }\n}\n"

-- the variables of the second clause are v, n and t, since a union has its variables before its elements
abbrev pub sll_preds : Preds
sll_preds = record {
  list = record {
    name = codes "sll";
    params = Int ∷ Set ∷ [];
    clauses =
        record { guard = Eq (X 0) (num 0); lits = Same (S 0) (record { vars = []; elems = [] }) ∷ []; heap = record { chunks = [] }; ints = 1; sets = 1 }
        ∷ record {
          guard = Ne (X 0) (num 0);
          lits = Same (S 0) (record { vars = s 1 ∷ []; elems = X 1 ∷ [] }) ∷ [];
          heap = record { chunks = inst (IntArg (X 2) ∷ SetArg (S 1) ∷ []) None ∷ block (X 0) 2 ∷ cell (X 0) (X 1) ∷ cell (plus 0 1) (X 2) ∷ [] };
          ints = 3;
          sets = 2;
        }
        ∷ [];
  } ∷ [];
}
