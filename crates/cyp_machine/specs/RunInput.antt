-- The input of a run: a program, and a start line with the called procedure, its arguments and the heap.
--
--     input  = program "start" NAME "(" [ num { "," num } ] ")" "{" store "}"
--     store  = "emp" | piece { "**" piece }
--     piece  = "[" NUMBER "," NUMBER "]" | NUMBER ":->" num
--     num    = NUMBER | "-" NUMBER
use Rattle.std.specs.FinMap.{from_entries}
use Rattle.std.specs.List.{list_any}
use Rattle.std.specs.Prelude.{[], ◌++◌, ◌==◌, Bool, List, Result, codes, cond, flat_map, length, map, nat_le, neg_ℤ, not, pos, ℕ, ℤ, ◌∷◌}
use Rattle.cyp_lex.specs.Lexemes.{Name, Number, Symbol}
use Rattle.cyp_lex.specs.Spelling.{Any, At, Mark, ident, list_spelling, separated, sign, word}
use Rattle.cyp_lex.specs.declared.ident.Ident.{Ident}
use Rattle.cyp_heap.specs.Stores.{Store}
use Rattle.cyp_lex.specs.declared.token.Sign.TheVariants.{Comma, LeftBrace, LeftBracket, LeftParen, Minus, PointsTo, RightBrace, RightBracket, RightParen, TwoStars}
use Rattle.cyp_lex.specs.declared.token.Word.TheVariants.{Emp}
use Rattle.cyp_prog.specs.Bindings.{call_faults, program_faults, size_faults}
use Rattle.cyp_prog.specs.Faults.{unless}
use Rattle.cyp_prog.specs.Grammar.{program_spelling}
use Rattle.cyp_prog.specs.Passes.{IsReading, Syntax}
use Rattle.cyp_prog.specs.Programs.{Procedure}
use Rattle.cyp_prog.specs.TreePrograms.{proc_place, program_of_tree}
use Rattle.cyp_prog.specs.Trees.{ProcTree, ProgramTree, procs_of}
use Rattle.cyp_prog.specs.declared.fault.ProgFault.{ProgFault}
use Rattle.cyp_prog.specs.declared.fault.ProgKind.TheVariants.{DuplicateName, NumberRange}

-- ---- trees

-- a number with its place, behind a minus or not
pub record NumTree : Type 0 where
  pub minus : Bool
  pub place : ℕ
  pub n : ℕ

-- a block with the places of its base and its size, or a cell with the place of its address
pub data PieceTree : Type 0 where
  BlockPiece : (place base size_place size : ℕ) → PieceTree
  CellPiece : (place address : ℕ) → NumTree → PieceTree

-- the start line: the called procedure, the arguments, and the pieces of the heap
pub record StartTree : Type 0 where
  pub name : Ident
  pub args : List NumTree
  pub pieces : List PieceTree

-- a program and its start line
pub record InputTree : Type 0 where
  pub program : ProgramTree
  pub start : StartTree

-- ---- spelling

-- a number at its place, behind a minus where there is one
abbrev pub num_spelling : NumTree → List Mark
num_spelling t = cond t.minus (sign Minus ∷ At (Number t.n) t.place ∷ []) (At (Number t.n) t.place ∷ [])

-- a block in brackets, or a cell with its content
abbrev pub piece_spelling : PieceTree → List Mark
piece_spelling (BlockPiece p b q n) = sign LeftBracket ∷ At (Number b) p ∷ sign Comma ∷ At (Number n) q ∷ sign RightBracket ∷ []
piece_spelling (CellPiece p a t) = At (Number a) p ∷ sign PointsTo ∷ num_spelling t

-- `emp` stands for no piece
abbrev pub pieces_spelling : List PieceTree → List Mark
pieces_spelling [] = word Emp ∷ []
pieces_spelling (p ∷ ps) = list_spelling (Symbol TwoStars) piece_spelling p ps

-- the arguments with a comma between each two
abbrev pub args_spelling : List NumTree → List Mark
args_spelling ts = separated (Symbol Comma) num_spelling ts

-- the start line behind its first word
abbrev pub line_spelling : StartTree → List Mark
line_spelling t =
    ident t.name ∷ sign LeftParen ∷ (args_spelling t.args ++ (sign RightParen ∷ sign LeftBrace ∷ (pieces_spelling t.pieces ++ sign RightBrace ∷ [])))

-- the word `start` is a name elsewhere
abbrev pub start_spelling : StartTree → List Mark
start_spelling t = Any (Name (codes "start")) ∷ line_spelling t

-- a program, and then the start line
abbrev pub input_spelling : InputTree → List Mark
input_spelling t = program_spelling t.program ++ start_spelling t.start

-- ---- faults of the third pass

-- numbers of the start line are at most 2 ^ 31
abbrev pub range_faults : (place n : ℕ) → List ProgFault
range_faults p n = unless (nat_le n 2147483648) NumberRange p

-- a base or an address isn't 0, and not among the earlier ones
abbrev pub key_faults : List ℕ → (place key : ℕ) → List ProgFault
key_faults earlier p a =
    range_faults p a ++ unless (nat_le 1 a) NumberRange p ++ unless (not (list_any (λ b. b == a) earlier)) DuplicateName p

-- with these bases and addresses before them
abbrev pub piece_faults : (bases addresses : List ℕ) → List PieceTree → List ProgFault
piece_faults bases addresses [] = []
piece_faults bases addresses (BlockPiece p b q n ∷ ps) =
    key_faults bases p b ++ range_faults q n ++ size_faults q n ++ piece_faults (b ∷ bases) addresses ps
piece_faults bases addresses (CellPiece p a t ∷ ps) =
    key_faults addresses p a ++ range_faults t.place t.n ++ piece_faults bases (a ∷ addresses) ps

-- the called procedure is to be one of these
abbrev pub start_faults : List ProcTree → StartTree → List ProgFault
start_faults qs t =
    call_faults qs t.name (length t.args) ++ flat_map (λ (a : NumTree). range_faults a.place a.n) t.args ++ piece_faults [] [] t.pieces

-- those of the program, and those of the start line
abbrev pub input_faults : InputTree → List ProgFault
input_faults t = program_faults t.program ++ start_faults (procs_of t.program) t.start

-- ---- what an input says

-- the integer that a number says, negative behind a minus
abbrev pub num_of : NumTree → ℤ
num_of t = cond t.minus (neg_ℤ (pos t.n)) (pos t.n)

-- the cells with their contents
abbrev pub cells_of : List PieceTree → List (ℤ × ℤ)
cells_of [] = []
cells_of (BlockPiece p b q n ∷ ps) = cells_of ps
cells_of (CellPiece p a t ∷ ps) = (pos a, num_of t) ∷ cells_of ps

-- the blocks with their sizes
abbrev pub blocks_of : List PieceTree → List (ℤ × ℕ)
blocks_of [] = []
blocks_of (BlockPiece p b q n ∷ ps) = (pos b, n) ∷ blocks_of ps
blocks_of (CellPiece p a t ∷ ps) = blocks_of ps

-- the heap of these pieces
abbrev pub store_of : List PieceTree → Store
store_of ps = record { cells = from_entries (cells_of ps); blocks = from_entries (blocks_of ps) }

-- a program, the place of the called procedure, its arguments and the heap
pub record RunInput : Type 0 where
  pub program : List Procedure
  pub entry : ℕ
  pub args : List ℤ
  pub store : Store

-- the input that a tree says
abbrev pub input_of : InputTree → RunInput
input_of t = record {
  program = program_of_tree t.program;
  entry = proc_place t.start.name.text (procs_of t.program);
  args = map num_of t.start.args;
  store = store_of t.start.pieces;
}

-- ---- readings

-- inputs of runs as texts
abbrev pub input_syntax : Syntax InputTree RunInput
input_syntax = record { spelling = input_spelling; faults = input_faults; said = input_of }

-- the input that the text spells, or the fault for which it is refused
abbrev pub IsInputReading : List ℕ → Result RunInput ProgFault → Type 0
IsInputReading bytes result = IsReading input_syntax bytes result
