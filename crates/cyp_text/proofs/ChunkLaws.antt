-- Chunks and heaps are read as they are spelled.
use Rattle.std.proofs.Common.{◌≡◌, ℕ, Bool, true, List, [], ◌∷◌, ◌⊎◌, inl, inr, refl}
use Rattle.cyp_lex.specs.declared.token.Sign.TheVariants.{Comma, LeftBracket, LeftParen, PointsTo, RightBracket, RightParen, TwoStars}
use Rattle.cyp_lex.specs.declared.token.Word.TheVariants.{Emp}
use Rattle.cyp_lex.specs.Lexemes.{Name, Reserved, Said, Symbol}
use Rattle.cyp_lex.specs.Spelling.{Mark, ident}
use Rattle.cyp_lex.specs.declared.ident.Ident.{Ident}
use Rattle.cyp_lex.specs.Readers.{is_name, is_sign, is_word, one_of}
use Rattle.cyp_lex.specs.declared.want.Want.TheVariants.{AName, NoName}
use Rattle.cyp_lex.proofs.Readings.{Apart, Reads, Within, apart_none, none, nowhere, within_self}
use Rattle.cyp_lex.proofs.Singles.{one}
use Rattle.cyp_lex.proofs.Sequences.{both_reads, spell_both}
use Rattle.cyp_lex.proofs.Mapped.{mapped_reads}
use Rattle.cyp_lex.proofs.Choices.{spell_either}
use Rattle.cyp_lex.proofs.Lists.{listed_spelling}
use Rattle.cyp_lex.proofs.Tellers.{ident_reads, placed_mark, placed_number_reads, sign_listing_reads, sign_mark, sign_reads, word_mark, word_reads}
use Rattle.cyp_lex.proofs.Firsts.{NameBegins, first_reads, name_both, name_ident, name_left, name_listed, name_mapped, name_right}
use Rattle.cyp_lex.proofs.Enclosures.{enclosed_reads, enclosed_spelling, name_enclosed}
use Rattle.cyp_lex.proofs.Behinds.{NameLeads, leads_either, leads_listed, leads_mapped, leads_name, leads_no_name}
use Rattle.cyp_text.specs.declared.tree.ArgTree.{ArgTree}
use Rattle.cyp_text.specs.declared.tree.ChunkTree.{ChunkTree}
use Rattle.cyp_text.specs.declared.tree.ChunkTree.TheVariants.{BlockOf, InstanceOf, NamedCell, TermCell}
use Rattle.cyp_text.specs.declared.tree.IntTree.{IntTree}
use Rattle.cyp_text.specs.Grammar.{arg_spelling, chunk_spelling, heap_spelling, int_spelling}
use Rattle.cyp_text.specs.ChunkReaders.{AnyChunk, BlockChunk, ChunkTail, TermChunk, args_at, begins_arg, begins_chunk, begins_heap, begins_shape, block_chunk, chunk_at, chunk_tail, chunk_tree, chunks_at, heap_at, heap_tree, is_chunk_tail, shape_chunk, term_chunk}
use Rattle.cyp_text.proofs.IntLaws.{int_ends, int_reads}
use Rattle.cyp_text.proofs.LitLaws.{lit_ends}
use Rattle.cyp_text.proofs.ArgLaws.{arg_reads, name_arg_begins}

-- what would make a list of arguments longer
abbrev args_ends : Said → Bool
args_ends (Symbol Comma) = true
args_ends k = lit_ends k

comma_lit : Apart (is_sign Comma) lit_ends
comma_lit (Symbol Comma) e = refl
comma_lit k e = absurd cc

lit_in : Within lit_ends args_ends
lit_in (Symbol Comma) e = absurd cc
lit_in k e = e

comma_in : Within (is_sign Comma) args_ends
comma_in (Symbol Comma) e = refl
comma_in k e = absurd cc

arg_comma : Apart begins_arg (is_sign Comma)
arg_comma (Symbol Comma) e = absurd cc
arg_comma k e = refl

close_args : Apart (is_sign RightParen) args_ends
close_args (Symbol RightParen) e = refl
close_args k e = absurd cc

close_arg : Apart (is_sign RightParen) begins_arg
close_arg (Symbol RightParen) e = refl
close_arg k e = absurd cc

abbrev args_spelling : List ArgTree → List Mark
args_spelling = enclosed_spelling RightParen arg_spelling

abbrev begins_args : Said → Bool
begins_args = one_of (is_sign RightParen) begins_arg

args_reads : (n : ℕ) → Reads n (List ArgTree) args_spelling begins_args none args_at
args_reads n = enclosed_reads args_ends AName RightParen comma_lit lit_in comma_in arg_comma close_args close_arg (name_enclosed RightParen name_arg_begins).shows arg_reads n

abbrev points_spelling : Unit {0} × IntTree → List Mark
points_spelling = spell_both (one (sign_mark PointsTo)) int_spelling

abbrev instance_spelling : Unit {0} × List ArgTree → List Mark
instance_spelling = spell_both (one (sign_mark LeftParen)) args_spelling

abbrev tail_spelling : ChunkTail → List Mark
tail_spelling = spell_either points_spelling instance_spelling

points_left : Apart (is_sign PointsTo) (is_sign LeftParen)
points_left (Symbol PointsTo) e = refl
points_left k e = absurd cc

tail_reads : (n : ℕ) → Reads n ChunkTail tail_spelling is_chunk_tail int_ends chunk_tail
tail_reads n = first_reads {want = NoName} (both_reads {fA = none} (sign_reads PointsTo) (int_reads n) (apart_none _)) (both_reads {fA = none} (sign_reads LeftParen) (args_reads n) (apart_none _)) points_left (λ x. refl) (within_self _) (nowhere _)

abbrev named_spelling : Ident × ChunkTail → List Mark
named_spelling = spell_both (one ident) tail_spelling

right_int : Apart (is_sign RightParen) int_ends
right_int (Symbol RightParen) e = refl
right_int k e = absurd cc

comma_int : Apart (is_sign Comma) int_ends
comma_int (Symbol Comma) e = refl
comma_int k e = absurd cc

abbrev term_spelling : TermChunk → List Mark
term_spelling = spell_both (one (sign_mark LeftParen)) (spell_both int_spelling (spell_both (one (sign_mark RightParen)) points_spelling))

term_reads : (n : ℕ) → Reads n TermChunk term_spelling (is_sign LeftParen) int_ends term_chunk
term_reads n = both_reads {fA = none} (sign_reads LeftParen)
    (both_reads (int_reads n) (both_reads {fA = none} (sign_reads RightParen) (both_reads {fA = none} (sign_reads PointsTo) (int_reads n) (apart_none _)) (apart_none _)) right_int) (apart_none _)

abbrev block_spelling : BlockChunk → List Mark
block_spelling = spell_both (one (sign_mark LeftBracket)) (spell_both int_spelling (spell_both (one (sign_mark Comma)) (spell_both (one placed_mark) (one (sign_mark RightBracket)))))

block_reads : (n : ℕ) → Reads n BlockChunk block_spelling (is_sign LeftBracket) none block_chunk
block_reads n = both_reads {fA = none} (sign_reads LeftBracket)
    (both_reads (int_reads n) (both_reads {fA = none} (sign_reads Comma) (both_reads {fA = none} placed_number_reads (sign_reads RightBracket) (apart_none _)) (apart_none _)) comma_int) (apart_none _)

paren_bracket : Apart (is_sign LeftParen) (is_sign LeftBracket)
paren_bracket (Symbol LeftParen) e = refl
paren_bracket k e = absurd cc

name_shape : Apart is_name begins_shape
name_shape (Name x) e = refl
name_shape k e = absurd cc

abbrev any_spelling : AnyChunk → List Mark
any_spelling = spell_either named_spelling (spell_either term_spelling block_spelling)

shape_reads : (n : ℕ) → Reads n (TermChunk ⊎ BlockChunk) (spell_either term_spelling block_spelling) begins_shape int_ends shape_chunk
shape_reads n = first_reads {want = NoName} (term_reads n) (block_reads n) paren_bracket (λ x. refl) (within_self _) (nowhere _)

name_any : NameBegins AnyChunk any_spelling
name_any = name_left (name_both name_ident (tail_reads 0))

abbrev chunk_parts : ChunkTree → AnyChunk
chunk_parts (NamedCell i t) = inl (i, inl (tt, t))
chunk_parts (InstanceOf i xs) = inl (i, inr (tt, xs))
chunk_parts (TermCell a t) = inr (inl (tt, (a, (tt, (tt, t)))))
chunk_parts (BlockOf a p n) = inr (inr (tt, (a, (tt, ((p, n), tt)))))

there : (x : AnyChunk) → chunk_parts (chunk_tree x) ≡ x
there (inl x) = of x.0 x.1
  where
    of : (i : Ident) (y : ChunkTail) → chunk_parts (chunk_tree (inl (i, y))) ≡ inl (i, y)
    of i (inl y) = refl
    of i (inr y) = refl
there (inr (inl x)) = refl
there (inr (inr x)) = refl

again : (y : ChunkTree) → chunk_tree (chunk_parts y) ≡ y
again (NamedCell i t) = refl
again (InstanceOf i xs) = refl
again (TermCell a t) = refl
again (BlockOf a p n) = refl

same : (y : ChunkTree) → chunk_spelling y ≡ any_spelling (chunk_parts y)
same (NamedCell i t) = refl
same (InstanceOf i xs) = refl
same (TermCell a t) = refl
same (BlockOf a p n) = refl

pub chunk_reads : (n : ℕ) → Reads n ChunkTree chunk_spelling begins_chunk int_ends chunk_at
chunk_reads n = mapped_reads chunk_tree chunk_parts there again same (first_reads (both_reads {fA = none} ident_reads (tail_reads n) (apart_none _)) (shape_reads n) name_shape name_any.shows (within_self _) (within_self _))

pub name_chunk_begins : NameBegins ChunkTree chunk_spelling
name_chunk_begins = name_mapped chunk_tree chunk_parts there same name_any

shape_leads : NameLeads (TermChunk ⊎ BlockChunk) (spell_either term_spelling block_spelling) is_chunk_tail
shape_leads = leads_no_name is_chunk_tail (shape_reads 0) (λ x. refl)

-- behind a name that begins a chunk stands `:->` or a parenthesis
chunk_leads : NameLeads ChunkTree chunk_spelling is_chunk_tail
chunk_leads = leads_mapped chunk_parts same (leads_either (leads_name (tail_reads 0)) shape_leads)

-- ---- heaps

-- what would make a heap longer
abbrev pub heap_ends : Said → Bool
heap_ends (Symbol TwoStars) = true
heap_ends k = int_ends k

stars_int : Apart (is_sign TwoStars) int_ends
stars_int (Symbol TwoStars) e = refl
stars_int k e = absurd cc

int_in : Within int_ends heap_ends
int_in (Symbol TwoStars) e = absurd cc
int_in k e = e

stars_in : Within (is_sign TwoStars) heap_ends
stars_in (Symbol TwoStars) e = refl
stars_in k e = absurd cc

chunk_stars : Apart begins_chunk (is_sign TwoStars)
chunk_stars (Symbol TwoStars) e = absurd cc
chunk_stars k e = refl

emp_chunk : Apart (is_word Emp) begins_chunk
emp_chunk (Reserved Emp) e = refl
emp_chunk k e = absurd cc

abbrev chunks_spelling : ChunkTree × List ChunkTree → List Mark
chunks_spelling = listed_spelling (Symbol TwoStars) chunk_spelling

chunks_reads : (n : ℕ) → Reads n (ChunkTree × List ChunkTree) chunks_spelling begins_chunk heap_ends chunks_at
chunks_reads n = sign_listing_reads TwoStars stars_int int_in stars_in chunk_stars chunk_reads n

abbrev heap_parts : List ChunkTree → Unit {0} ⊎ (ChunkTree × List ChunkTree)
heap_parts [] = inl tt
heap_parts (c ∷ cs) = inr (c, cs)

abbrev either_spelling : Unit {0} ⊎ (ChunkTree × List ChunkTree) → List Mark
either_spelling = spell_either (one (word_mark Emp)) chunks_spelling

heap_there : (x : Unit {0} ⊎ (ChunkTree × List ChunkTree)) → heap_parts (heap_tree x) ≡ x
heap_there (inl u) = refl
heap_there (inr x) = refl

heap_again : (cs : List ChunkTree) → heap_tree (heap_parts cs) ≡ cs
heap_again [] = refl
heap_again (c ∷ cs) = refl

heap_same : (cs : List ChunkTree) → heap_spelling cs ≡ either_spelling (heap_parts cs)
heap_same [] = refl
heap_same (c ∷ cs) = refl

name_either : NameBegins (Unit {0} ⊎ (ChunkTree × List ChunkTree)) either_spelling
name_either = name_right (name_listed (Symbol TwoStars) name_chunk_begins)

pub heap_reads : (n : ℕ) → Reads n (List ChunkTree) heap_spelling begins_heap heap_ends heap_at
heap_reads n = mapped_reads heap_tree heap_parts heap_there heap_again heap_same (first_reads {fA = none} (word_reads Emp) (chunks_reads n) emp_chunk name_either.shows (nowhere _) (within_self _))

pub name_heap : NameBegins (List ChunkTree) heap_spelling
name_heap = name_mapped heap_tree heap_parts heap_there heap_same name_either

emp_leads : NameLeads (Unit {0}) (one (word_mark Emp)) is_chunk_tail
emp_leads = leads_no_name is_chunk_tail (word_reads {ends = none} {n = 0} Emp) (λ x. refl)

pub heap_leads : NameLeads (List ChunkTree) heap_spelling is_chunk_tail
heap_leads = leads_mapped heap_parts heap_same (leads_either emp_leads (leads_listed (Symbol TwoStars) chunk_leads))
