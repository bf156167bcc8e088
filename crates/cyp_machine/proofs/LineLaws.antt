-- The start line of a run is read as it is spelled.
use Rattle.std.proofs.Common.{◌≡◌, ◌++◌, Bool, List, [], ◌∷◌, ◌⊎◌, ap, append_assoc, false, inl, inr, refl, sym, true, ℕ}
use Rattle.cyp_lex.proofs.Choices.{spell_either}
use Rattle.cyp_lex.proofs.Enclosures.{enclosed_reads, enclosed_spelling}
use Rattle.cyp_lex.proofs.Firsts.{first_reads}
use Rattle.cyp_lex.proofs.Lists.{listed_spelling}
use Rattle.cyp_lex.proofs.Mapped.{mapped_reads}
use Rattle.cyp_lex.proofs.Readings.{Apart, Reads, apart_none, none, nowhere, within_self}
use Rattle.cyp_lex.proofs.Sequences.{both_reads, spell_both}
use Rattle.cyp_lex.proofs.Singles.{one}
use Rattle.cyp_lex.proofs.Tellers.{ident_reads, placed_mark, placed_number_reads, sign_listing_reads, sign_mark, sign_reads, word_mark, word_reads}
use Rattle.cyp_lex.specs.Lexemes.{Number, Reserved, Symbol}
use Rattle.cyp_lex.specs.Readers.{is_name, is_number, is_sign, is_word, one_of}
use Rattle.cyp_lex.specs.declared.want.Want.TheVariants.{NoName}
use Rattle.cyp_lex.specs.Spelling.{Mark, ident, sign}
use Rattle.cyp_lex.specs.declared.token.Sign.TheVariants.{Comma, LeftBrace, LeftBracket, LeftParen, Minus, PointsTo, RightBrace, RightBracket, RightParen, TwoStars}
use Rattle.cyp_lex.specs.declared.token.Word.TheVariants.{Emp}
use Rattle.cyp_machine.specs.RunInput.{BlockPiece, CellPiece, NumTree, PieceTree, StartTree, args_spelling, line_spelling, num_spelling, piece_spelling, pieces_spelling}
use Rattle.cyp_machine.proofs.RunInputReaders.{AnyNum, SomeBlock, SomeCell, SomeLine, args_at, begins_num, begins_piece, block_at, cell_at, line_at, line_tree, num_at, num_tree, piece_at, piece_tree, pieces_at, pieces_tree, some_pieces}

-- ---- numbers

abbrev any_num_spelling : AnyNum → List Mark
any_num_spelling = spell_either (one placed_mark) (spell_both (one (sign_mark Minus)) (one placed_mark))

abbrev num_parts : NumTree → AnyNum
num_parts t = of t.minus (t.place, t.n)
  where
    of : Bool → ℕ × ℕ → AnyNum
    of false x = inl x
    of true x = inr (tt, x)

num_there : (x : AnyNum) → num_parts (num_tree x) ≡ x
num_there (inl x) = refl
num_there (inr x) = refl

num_again : (b : Bool) (p n : ℕ) → num_tree (num_parts (record { minus = b; place = p; n = n })) ≡ record { minus = b; place = p; n = n }
num_again true p n = refl
num_again false p n = refl

num_same : (b : Bool) (p n : ℕ) → num_spelling (record { minus = b; place = p; n = n }) ≡ any_num_spelling (num_parts (record { minus = b; place = p; n = n }))
num_same true p n = refl
num_same false p n = refl

number_minus : Apart is_number (is_sign Minus)
number_minus (Number n) e = refl
number_minus k e = absurd cc

num_reads : (n : ℕ) → Reads n NumTree num_spelling begins_num none num_at
num_reads n = mapped_reads num_tree num_parts num_there (λ t. num_again t.minus t.place t.n) (λ t. num_same t.minus t.place t.n)
    (first_reads {fA = none} {fB = none} {want = NoName} placed_number_reads (both_reads {fA = none} (sign_reads Minus) placed_number_reads (apart_none _)) number_minus (λ x. refl) (nowhere _) (nowhere _))

-- ---- pieces

abbrev block_spelling : SomeBlock → List Mark
block_spelling = spell_both (one (sign_mark LeftBracket)) (spell_both (one placed_mark) (spell_both (one (sign_mark Comma)) (spell_both (one placed_mark) (one (sign_mark RightBracket)))))

block_reads : (n : ℕ) → Reads n SomeBlock block_spelling (is_sign LeftBracket) none block_at
block_reads n = both_reads {fA = none} (sign_reads LeftBracket) (both_reads {fA = none} placed_number_reads (both_reads {fA = none} (sign_reads Comma)
    (both_reads {fA = none} {fB = none} placed_number_reads (sign_reads RightBracket) (apart_none _)) (apart_none _)) (apart_none _)) (apart_none _)

abbrev cell_spelling : SomeCell → List Mark
cell_spelling = spell_both (one placed_mark) (spell_both (one (sign_mark PointsTo)) num_spelling)

cell_reads : (n : ℕ) → Reads n SomeCell cell_spelling is_number none cell_at
cell_reads n = both_reads {fA = none} placed_number_reads (both_reads {fA = none} (sign_reads PointsTo) (num_reads n) (apart_none _)) (apart_none _)

bracket_number : Apart (is_sign LeftBracket) is_number
bracket_number (Symbol s) e = refl
bracket_number k e = absurd cc

abbrev piece_parts : PieceTree → SomeBlock ⊎ SomeCell
piece_parts (BlockPiece p b q n) = inl (tt, ((p, b), (tt, ((q, n), tt))))
piece_parts (CellPiece p a t) = inr ((p, a), (tt, t))

piece_there : (x : SomeBlock ⊎ SomeCell) → piece_parts (piece_tree x) ≡ x
piece_there (inl x) = refl
piece_there (inr x) = refl

piece_again : (y : PieceTree) → piece_tree (piece_parts y) ≡ y
piece_again (BlockPiece p b q n) = refl
piece_again (CellPiece p a t) = refl

piece_same : (y : PieceTree) → piece_spelling y ≡ spell_either block_spelling cell_spelling (piece_parts y)
piece_same (BlockPiece p b q n) = refl
piece_same (CellPiece p a t) = refl

piece_reads : (n : ℕ) → Reads n PieceTree piece_spelling begins_piece none piece_at
piece_reads n = mapped_reads piece_tree piece_parts piece_there piece_again piece_same
    (first_reads {want = NoName} (block_reads n) (cell_reads n) bracket_number (λ x. refl) (within_self _) (within_self _))

piece_stars : Apart begins_piece (is_sign TwoStars)
piece_stars (Symbol TwoStars) e = absurd cc
piece_stars k e = refl

abbrev some_pieces_spelling : PieceTree × List PieceTree → List Mark
some_pieces_spelling = listed_spelling (Symbol TwoStars) piece_spelling

some_pieces_reads : (n : ℕ) → Reads n (PieceTree × List PieceTree) some_pieces_spelling begins_piece (is_sign TwoStars) some_pieces
some_pieces_reads n = sign_listing_reads TwoStars (apart_none _) (nowhere _) (within_self _) piece_stars piece_reads n

emp_piece : Apart (is_word Emp) begins_piece
emp_piece (Reserved Emp) e = refl
emp_piece k e = absurd cc

abbrev pieces_parts : List PieceTree → Unit {0} ⊎ (PieceTree × List PieceTree)
pieces_parts [] = inl tt
pieces_parts (p ∷ ps) = inr (p, ps)

pieces_there : (x : Unit {0} ⊎ (PieceTree × List PieceTree)) → pieces_parts (pieces_tree x) ≡ x
pieces_there (inl u) = refl
pieces_there (inr x) = refl

pieces_again : (ps : List PieceTree) → pieces_tree (pieces_parts ps) ≡ ps
pieces_again [] = refl
pieces_again (p ∷ ps) = refl

pieces_same : (ps : List PieceTree) → pieces_spelling ps ≡ spell_either (one (word_mark Emp)) some_pieces_spelling (pieces_parts ps)
pieces_same [] = refl
pieces_same (p ∷ ps) = refl

pieces_reads : (n : ℕ) → Reads n (List PieceTree) pieces_spelling (one_of (is_word Emp) begins_piece) (is_sign TwoStars) pieces_at
pieces_reads n = mapped_reads pieces_tree pieces_parts pieces_there pieces_again pieces_same
    (first_reads {fA = none} {want = NoName} (word_reads Emp) (some_pieces_reads n) emp_piece (λ x. refl) (nowhere _) (within_self _))

-- ---- the line

num_comma : Apart begins_num (is_sign Comma)
num_comma (Symbol Comma) e = absurd cc
num_comma k e = refl

close_comma : Apart (is_sign RightParen) (is_sign Comma)
close_comma (Symbol RightParen) e = refl
close_comma k e = absurd cc

close_num : Apart (is_sign RightParen) begins_num
close_num (Symbol RightParen) e = refl
close_num k e = absurd cc

abbrev enclosed_args : List NumTree → List Mark
enclosed_args = enclosed_spelling RightParen num_spelling

args_reads : (n : ℕ) → Reads n (List NumTree) enclosed_args (one_of (is_sign RightParen) begins_num) none args_at
args_reads n = enclosed_reads (is_sign Comma) NoName RightParen (apart_none _) (nowhere _) (within_self _) num_comma close_comma close_num (λ x. refl) num_reads n

brace_stars : Apart (is_sign RightBrace) (is_sign TwoStars)
brace_stars (Symbol RightBrace) e = refl
brace_stars k e = absurd cc

abbrev some_line_spelling : SomeLine → List Mark
some_line_spelling =
    spell_both (one ident) (spell_both (one (sign_mark LeftParen)) (spell_both enclosed_args (spell_both (one (sign_mark LeftBrace)) (spell_both pieces_spelling (one (sign_mark RightBrace))))))

line_same : (t : StartTree) → line_spelling t ≡ some_line_spelling (t.name, (tt, (t.args, (tt, (t.pieces, tt)))))
line_same t =
    ap (λ (m : List Mark). ident t.name ∷ sign LeftParen ∷ m) (sym (append_assoc (args_spelling t.args) (sign RightParen ∷ []) (sign LeftBrace ∷ (pieces_spelling t.pieces ++ sign RightBrace ∷ []))))

pub line_reads : (n : ℕ) → Reads n StartTree line_spelling is_name none line_at
line_reads n = mapped_reads {spA = some_line_spelling} line_tree (λ t. (t.name, (tt, (t.args, (tt, (t.pieces, tt)))))) (λ x. refl) (λ t. refl) line_same
    (both_reads {fA = none} ident_reads (both_reads {fA = none} (sign_reads LeftParen) (both_reads (args_reads n) (both_reads {fA = none} (sign_reads LeftBrace)
    (both_reads {fB = none} (pieces_reads n) (sign_reads RightBrace) brace_stars) (apart_none _)) (apart_none _)) (apart_none _)) (apart_none _))
