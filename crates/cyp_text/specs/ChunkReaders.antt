-- How arguments, chunks and heaps are read.
use Rattle.std.specs.Prelude.{false, true, Bool, List, None, Ok, Option, Some, [], ◌∷◌, ◌⊎◌, ℕ}
use Rattle.std.proofs.Common.{inl, inr}
use Rattle.cyp_lex.specs.declared.token.Sign.TheVariants.{Comma, LeftBrace, LeftBracket, LeftParen, Minus, PointsTo, RightBracket, RightParen, TwoPluses, TwoStars}
use Rattle.cyp_lex.specs.declared.token.Word.TheVariants.{Emp}
use Rattle.cyp_lex.specs.Lexemes.{Lexeme, Said}
use Rattle.cyp_lex.specs.declared.ident.Ident.{Ident}
use Rattle.cyp_lex.specs.Readers.{Read, both, enclosed, first_tells, heads, ident_token, is_name, is_number, is_sign, is_word, listing, mapped, number_token, one_of, option_after, placed_number, sign_token, word_token, ◌>>=◌}
use Rattle.cyp_lex.specs.declared.want.Want.TheVariants.{AName, NoName}
use Rattle.cyp_text.specs.declared.tree.ArgTree.{ArgTree}
use Rattle.cyp_text.specs.declared.tree.ArgTree.TheVariants.{BracesArg, TermArg, UnionArg}
use Rattle.cyp_text.specs.declared.tree.ChunkTree.{ChunkTree}
use Rattle.cyp_text.specs.declared.tree.ChunkTree.TheVariants.{BlockOf, InstanceOf, NamedCell, TermCell}
use Rattle.cyp_text.specs.declared.tree.IntTree.{IntTree}
use Rattle.cyp_text.specs.declared.tree.IntTree.TheVariants.{MinusNum, Named}
use Rattle.cyp_text.specs.declared.tree.PartTree.{PartTree}
use Rattle.cyp_text.specs.TermReaders.{Inner, MinusTerm, NumberTerm, begins_int, begins_other, braced_terms, braces_at, inner_terms, int_at, is_sum, minus_term, number_term, number_tree, parts_at, sum_sign, sum_tree}

-- a part that may be left out, where the test knows its first lexeme
abbrev pub maybe_by : {A : Type 0} → (List Lexeme → Read A) → List Lexeme → Bool → Read (Option A)
maybe_by p ts false = Ok (None, ts)
maybe_by p ts true = p ts >>= λ x. Ok (Some x.0, x.1)

-- a part that may be left out
abbrev pub maybe : {A : Type 0} → (Said → Bool) → (List Lexeme → Read A) → List Lexeme → Read (Option A)
maybe test p ts = maybe_by p ts (heads test ts)

-- the parts of a union behind its first
abbrev pub MoreParts : Type 0
MoreParts = Unit {0} × (PartTree × List PartTree)

-- `++` and one part or more
abbrev pub more_parts : List Lexeme → Read MoreParts
more_parts ts = both (sign_token TwoPluses) parts_at ts

-- terms in braces, and maybe other parts
abbrev pub BracesUnion : Type 0
BracesUnion = (ℕ × Inner) × Option MoreParts

-- terms in braces, and maybe other parts behind `++`
abbrev pub braces_union : List Lexeme → Read BracesUnion
braces_union ts = option_after (is_sign TwoPluses) braces_at more_parts ts

-- what is behind a name that begins an argument
abbrev pub ArgTail : Type 0
ArgTail = (Bool × ℕ) ⊎ MoreParts

-- what may go on behind such a name
abbrev pub is_arg_tail : Said → Bool
is_arg_tail = one_of is_sum (is_sign TwoPluses)

-- a sign and a number, or `++` and other parts
abbrev pub arg_tail : List Lexeme → Read ArgTail
arg_tail ts = first_tells NoName is_sum (is_sign TwoPluses) (both sum_sign number_token) more_parts ts

-- a name, and maybe what goes on
abbrev pub NameArg : Type 0
NameArg = Ident × Option ArgTail

-- a name, and maybe what goes on
abbrev pub name_arg : List Lexeme → Read NameArg
name_arg ts = option_after is_arg_tail ident_token arg_tail ts

-- an argument that begins with a minus or a name
abbrev pub OtherArg : Type 0
OtherArg = MinusTerm ⊎ NameArg

-- an argument that begins with a minus or a name
abbrev pub other_arg : List Lexeme → Read OtherArg
other_arg ts = first_tells AName (is_sign Minus) is_name minus_term name_arg ts

-- an argument that does not begin with a brace
abbrev pub TermOrName : Type 0
TermOrName = NumberTerm ⊎ OtherArg

-- an argument that does not begin with a brace
abbrev pub term_or_name : List Lexeme → Read TermOrName
term_or_name ts = first_tells AName is_number begins_other number_term other_arg ts

-- the parts behind the first, if there are any
abbrev pub parts_of : Option MoreParts → List PartTree
parts_of None = []
parts_of (Some y) = y.1.0 ∷ y.1.1

-- the parts of a union behind its first, if it has any
abbrev pub union_rest : List Lexeme → Read (List PartTree)
union_rest ts = mapped parts_of (maybe (is_sign TwoPluses) more_parts) ts

-- an argument that begins with a brace
abbrev pub braces_arg : List Lexeme → Read ArgTree
braces_arg ts = braced_terms ts >>= λ x. union_rest x.1 >>= λ y. Ok (BracesArg x.0.0 x.0.1 y.0, y.1)

-- the argument that begins with a name
abbrev pub name_arg_tree : Ident → Option ArgTail → ArgTree
name_arg_tree i None = TermArg (Named i)
name_arg_tree i (Some (inl y)) = TermArg (sum_tree i y.0 y.1)
name_arg_tree i (Some (inr y)) = UnionArg i y.1.0 y.1.1

-- an argument that begins with a name
abbrev pub named_arg : List Lexeme → Read ArgTree
named_arg ts = mapped (λ (x : NameArg). name_arg_tree x.0 x.1) name_arg ts

-- the beginnings of an argument
abbrev pub AnyArg : Type 0
AnyArg = BracesUnion ⊎ TermOrName

-- the argument
abbrev pub arg_tree : AnyArg → ArgTree
arg_tree (inl x) = BracesArg x.0.0 (inner_terms x.0.1) (parts_of x.1)
arg_tree (inr (inl x)) = TermArg (number_tree x.0 x.1)
arg_tree (inr (inr (inl x))) = TermArg (MinusNum x.0 x.1)
arg_tree (inr (inr (inr x))) = name_arg_tree x.0 x.1

-- the lexemes that begin an argument
abbrev pub begins_arg : Said → Bool
begins_arg = one_of (is_sign LeftBrace) begins_int

-- an argument
abbrev pub arg_at : List Lexeme → Read ArgTree
arg_at ts = mapped arg_tree (first_tells AName (is_sign LeftBrace) begins_int braces_union term_or_name) ts

-- what is behind a name that begins a chunk
abbrev pub ChunkTail : Type 0
ChunkTail = (Unit {0} × IntTree) ⊎ (Unit {0} × List ArgTree)

-- what stands behind such a name
abbrev pub is_chunk_tail : Said → Bool
is_chunk_tail = one_of (is_sign PointsTo) (is_sign LeftParen)

-- arguments between commas, and the closing parenthesis
abbrev pub args_at : List Lexeme → Read (List ArgTree)
args_at ts = enclosed AName RightParen begins_arg arg_at ts

-- `:->` and a term, or arguments in parentheses
abbrev pub chunk_tail : List Lexeme → Read ChunkTail
chunk_tail ts = first_tells NoName (is_sign PointsTo) (is_sign LeftParen) (both (sign_token PointsTo) int_at) (both (sign_token LeftParen) args_at) ts

-- the chunk that begins with a name
abbrev pub name_chunk_tree : Ident → ChunkTail → ChunkTree
name_chunk_tree i (inl x) = NamedCell i x.1
name_chunk_tree i (inr x) = InstanceOf i x.1

-- a chunk that begins with a name
abbrev pub named_chunk : List Lexeme → Read ChunkTree
named_chunk ts = both ident_token chunk_tail ts >>= λ x. Ok (name_chunk_tree x.0.0 x.0.1, x.1)

-- a term in parentheses, `:->` and a term
abbrev pub TermChunk : Type 0
TermChunk = Unit {0} × (IntTree × (Unit {0} × (Unit {0} × IntTree)))

-- a term in parentheses, `:->` and a term
abbrev pub term_chunk : List Lexeme → Read TermChunk
term_chunk ts = both (sign_token LeftParen) (both int_at (both (sign_token RightParen) (both (sign_token PointsTo) int_at))) ts

-- a term and a number in brackets
abbrev pub BlockChunk : Type 0
BlockChunk = Unit {0} × (IntTree × (Unit {0} × ((ℕ × ℕ) × Unit {0})))

-- a term and a number in brackets
abbrev pub block_chunk : List Lexeme → Read BlockChunk
block_chunk ts = both (sign_token LeftBracket) (both int_at (both (sign_token Comma) (both placed_number (sign_token RightBracket)))) ts

-- a cell at a term
abbrev pub term_cell : List Lexeme → Read ChunkTree
term_cell ts = mapped (λ (x : TermChunk). TermCell x.1.0 x.1.1.1.1) term_chunk ts

-- a block
abbrev pub block : List Lexeme → Read ChunkTree
block ts = mapped (λ (x : BlockChunk). BlockOf x.1.0 x.1.1.1.0.0 x.1.1.1.0.1) block_chunk ts

-- the beginnings of a chunk
abbrev pub AnyChunk : Type 0
AnyChunk = (Ident × ChunkTail) ⊎ (TermChunk ⊎ BlockChunk)

-- the chunk
abbrev pub chunk_tree : AnyChunk → ChunkTree
chunk_tree (inl x) = name_chunk_tree x.0 x.1
chunk_tree (inr (inl x)) = TermCell x.1.0 x.1.1.1.1
chunk_tree (inr (inr x)) = BlockOf x.1.0 x.1.1.1.0.0 x.1.1.1.0.1

-- the lexemes that begin a chunk without a name
abbrev pub begins_shape : Said → Bool
begins_shape = one_of (is_sign LeftParen) (is_sign LeftBracket)

-- the lexemes that begin a chunk
abbrev pub begins_chunk : Said → Bool
begins_chunk = one_of is_name begins_shape

-- a chunk that begins with a parenthesis or a bracket
abbrev pub shape_chunk : List Lexeme → Read (TermChunk ⊎ BlockChunk)
shape_chunk ts = first_tells NoName (is_sign LeftParen) (is_sign LeftBracket) term_chunk block_chunk ts

-- a chunk
abbrev pub chunk_at : List Lexeme → Read ChunkTree
chunk_at ts = mapped chunk_tree (first_tells AName is_name begins_shape (both ident_token chunk_tail) shape_chunk) ts

-- the lexemes that begin a heap
abbrev pub begins_heap : Said → Bool
begins_heap = one_of (is_word Emp) begins_chunk

-- one chunk or more, with `**` between each two
abbrev pub chunks_at : List Lexeme → Read (ChunkTree × List ChunkTree)
chunks_at = listing (is_sign TwoStars) (sign_token TwoStars) chunk_at

-- the chunks, none for `emp`
abbrev pub heap_tree : Unit {0} ⊎ (ChunkTree × List ChunkTree) → List ChunkTree
heap_tree (inl u) = []
heap_tree (inr x) = x.0 ∷ x.1

-- a heap
abbrev pub heap_at : List Lexeme → Read (List ChunkTree)
heap_at ts = mapped heap_tree (first_tells AName (is_word Emp) begins_chunk (word_token Emp) chunks_at) ts
