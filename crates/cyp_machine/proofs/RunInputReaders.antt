-- How the start line of a run is read.
use Rattle.std.specs.Prelude.{Bool, List, [], false, true, ◌∷◌, ◌⊎◌, ℕ}
use Rattle.std.proofs.Common.{inl, inr}
use Rattle.cyp_lex.specs.Lexemes.{Lexeme, Said}
use Rattle.cyp_lex.specs.Readers.{Read, both, enclosed, first_tells, ident_token, is_number, is_sign, is_word, listing, mapped, one_of, placed_number, sign_token, word_token}
use Rattle.cyp_lex.specs.declared.want.Want.TheVariants.{NoName}
use Rattle.cyp_lex.specs.declared.ident.Ident.{Ident}
use Rattle.cyp_lex.specs.declared.token.Sign.TheVariants.{Comma, LeftBrace, LeftBracket, LeftParen, Minus, PointsTo, RightBrace, RightBracket, RightParen, TwoStars}
use Rattle.cyp_lex.specs.declared.token.Word.TheVariants.{Emp}
use Rattle.cyp_machine.specs.RunInput.{BlockPiece, CellPiece, NumTree, PieceTree, StartTree}

abbrev pub AnyNum : Type 0
AnyNum = (ℕ × ℕ) ⊎ (Unit {0} × (ℕ × ℕ))

abbrev pub num_tree : AnyNum → NumTree
num_tree (inl x) = record { minus = false; place = x.0; n = x.1 }
num_tree (inr x) = record { minus = true; place = x.1.0; n = x.1.1 }

abbrev pub begins_num : Said → Bool
begins_num = one_of is_number (is_sign Minus)

abbrev pub num_at : List Lexeme → Read NumTree
num_at ts = mapped num_tree (first_tells NoName is_number (is_sign Minus) placed_number (both (sign_token Minus) placed_number)) ts

abbrev pub SomeBlock : Type 0
SomeBlock = Unit {0} × ((ℕ × ℕ) × (Unit {0} × ((ℕ × ℕ) × Unit {0})))

abbrev pub block_at : List Lexeme → Read SomeBlock
block_at ts = both (sign_token LeftBracket) (both placed_number (both (sign_token Comma) (both placed_number (sign_token RightBracket)))) ts

abbrev pub SomeCell : Type 0
SomeCell = (ℕ × ℕ) × (Unit {0} × NumTree)

abbrev pub cell_at : List Lexeme → Read SomeCell
cell_at ts = both placed_number (both (sign_token PointsTo) num_at) ts

abbrev pub piece_tree : SomeBlock ⊎ SomeCell → PieceTree
piece_tree (inl x) = BlockPiece x.1.0.0 x.1.0.1 x.1.1.1.0.0 x.1.1.1.0.1
piece_tree (inr x) = CellPiece x.0.0 x.0.1 x.1.1

abbrev pub begins_piece : Said → Bool
begins_piece = one_of (is_sign LeftBracket) is_number

abbrev pub piece_at : List Lexeme → Read PieceTree
piece_at ts = mapped piece_tree (first_tells NoName (is_sign LeftBracket) is_number block_at cell_at) ts

abbrev pub some_pieces : List Lexeme → Read (PieceTree × List PieceTree)
some_pieces ts = listing (is_sign TwoStars) (sign_token TwoStars) piece_at ts

abbrev pub pieces_tree : Unit {0} ⊎ (PieceTree × List PieceTree) → List PieceTree
pieces_tree (inl u) = []
pieces_tree (inr x) = x.0 ∷ x.1

abbrev pub pieces_at : List Lexeme → Read (List PieceTree)
pieces_at ts = mapped pieces_tree (first_tells NoName (is_word Emp) begins_piece (word_token Emp) some_pieces) ts

abbrev pub args_at : List Lexeme → Read (List NumTree)
args_at ts = enclosed NoName RightParen begins_num num_at ts

abbrev pub SomeLine : Type 0
SomeLine = Ident × (Unit {0} × (List NumTree × (Unit {0} × (List PieceTree × Unit {0}))))

abbrev pub line_tree : SomeLine → StartTree
line_tree x = record { name = x.0; args = x.1.1.0; pieces = x.1.1.1.1.0 }

-- the start line behind its first word
abbrev pub line_at : List Lexeme → Read StartTree
line_at ts = mapped line_tree (both ident_token (both (sign_token LeftParen) (both args_at (both (sign_token LeftBrace) (both pieces_at (sign_token RightBrace)))))) ts
