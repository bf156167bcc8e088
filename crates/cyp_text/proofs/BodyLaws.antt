-- Bodies are read as they are spelled.
use Rattle.std.proofs.Common.{◌≡◌, ℕ, List, inl, inr, refl}
use Rattle.cyp_lex.specs.declared.token.Sign.TheVariants.{LeftBrace, LeftBracket, LeftParen, PointsTo, RightBrace}
use Rattle.cyp_lex.specs.declared.token.Word.TheVariants.{Emp}
use Rattle.cyp_lex.specs.Lexemes.{Name, Reserved, Symbol}
use Rattle.cyp_lex.specs.Spelling.{Mark}
use Rattle.cyp_lex.specs.Readers.{both, is_sign}
use Rattle.cyp_lex.proofs.Readings.{Apart, Reads, apart_none, none, within_self}
use Rattle.cyp_lex.proofs.Singles.{one}
use Rattle.cyp_lex.proofs.Sequences.{both_reads, spell_both}
use Rattle.cyp_lex.proofs.Mapped.{mapped_reads}
use Rattle.cyp_lex.proofs.Choices.{spell_either}
use Rattle.cyp_lex.proofs.Tellers.{sign_mark, sign_reads}
use Rattle.cyp_lex.proofs.Firsts.{NameBegins, name_right}
use Rattle.cyp_lex.proofs.Seconds.{ApartButNames, second_reads}
use Rattle.cyp_lex.proofs.Behinds.{NameLeads, leads_both}
use Rattle.cyp_text.specs.declared.tree.BodyTree.{BodyTree}
use Rattle.cyp_text.specs.declared.tree.ChunkTree.{ChunkTree}
use Rattle.cyp_text.specs.declared.tree.PureTree.{PureTree}
use Rattle.cyp_text.specs.declared.tree.PureTree.TheVariants.{Items, NoItems}
use Rattle.cyp_text.specs.Grammar.{body_spelling, heap_spelling, in_braces}
use Rattle.cyp_text.specs.ChunkReaders.{begins_heap, heap_at, is_chunk_tail}
use Rattle.cyp_text.specs.BodyReaders.{AnyBody, SomeItems, begins_body, begins_item, body_at, body_tree, items_at}
use Rattle.cyp_text.specs.TextReaders.{InBraces, braced_at, braced_tree}
use Rattle.cyp_text.proofs.LitLaws.{is_lit_tail}
use Rattle.cyp_text.proofs.ChunkLaws.{heap_leads, heap_ends, heap_reads, name_heap}
use Rattle.cyp_text.proofs.ItemLaws.{items_leads, items_reads, items_spelling}

abbrev full_spelling : SomeItems × List ChunkTree → List Mark
full_spelling = spell_both items_spelling heap_spelling

full_reads : (n : ℕ) → Reads n (SomeItems × List ChunkTree) full_spelling begins_item heap_ends (both items_at heap_at)
full_reads n = both_reads (items_reads n) (heap_reads n) (apart_none _)

abbrev any_spelling : AnyBody → List Mark
any_spelling = spell_either full_spelling heap_spelling

name_any : NameBegins AnyBody any_spelling
name_any = name_right name_heap

full_leads : NameLeads (SomeItems × List ChunkTree) full_spelling is_lit_tail
full_leads = leads_both heap_spelling items_leads

item_heap : ApartButNames begins_item begins_heap
item_heap (Name x) f e = absurd cc
item_heap (Reserved Emp) f e = absurd cc
item_heap (Symbol LeftParen) f e = absurd cc
item_heap (Symbol LeftBracket) f e = absurd cc
item_heap k f e = refl

tails_apart : Apart is_lit_tail is_chunk_tail
tails_apart (Symbol PointsTo) e = absurd cc
tails_apart (Symbol LeftParen) e = absurd cc
tails_apart k e = refl

abbrev body_parts : BodyTree → AnyBody
body_parts b = of b.pure b.chunks
  where
    of : PureTree → List ChunkTree → AnyBody
    of NoItems cs = inr cs
    of (Items i is) cs = inl ((i, (is, tt)), cs)

there : (x : AnyBody) → body_parts (body_tree x) ≡ x
there (inl x) = refl
there (inr cs) = refl

again : (p : PureTree) (cs : List ChunkTree) → body_tree (body_parts (record { pure = p; chunks = cs })) ≡ record { pure = p; chunks = cs }
again NoItems cs = refl
again (Items i is) cs = refl

same : (p : PureTree) (cs : List ChunkTree) → body_spelling (record { pure = p; chunks = cs }) ≡ any_spelling (body_parts (record { pure = p; chunks = cs }))
same NoItems cs = refl
same (Items i is) cs = refl

body_reads : (n : ℕ) → Reads n BodyTree body_spelling begins_body heap_ends body_at
body_reads n = mapped_reads body_tree body_parts there (λ b. again b.pure b.chunks) (λ b. same b.pure b.chunks)
    (second_reads is_lit_tail is_chunk_tail (full_reads n) (heap_reads n) item_heap full_leads.behind heap_leads.behind tails_apart
    (λ x. refl) (λ x. refl) (λ x. refl) (λ x. refl) name_any.shows (within_self _) (within_self _))

close_body : Apart (is_sign RightBrace) heap_ends
close_body (Symbol RightBrace) e = refl
close_body k e = absurd cc

abbrev braced_spelling : InBraces → List Mark
braced_spelling = spell_both (one (sign_mark LeftBrace)) (spell_both body_spelling (one (sign_mark RightBrace)))

pub braced_reads : (n : ℕ) → Reads n BodyTree in_braces (is_sign LeftBrace) none braced_at
braced_reads n = mapped_reads {spA = braced_spelling} braced_tree (λ b. (tt, (b, tt))) (λ x. refl) (λ b. refl) (λ b. refl)
    (both_reads {fA = none} (sign_reads LeftBrace) (both_reads {fB = none} (body_reads n) (sign_reads RightBrace) close_body) (apart_none _))
