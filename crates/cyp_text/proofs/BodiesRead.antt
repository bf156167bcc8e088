-- How the code reads items and bodies.
use Rattle.std.proofs.Common.{Err, List, Ok, ap, false, refl, true, ◌∙◌, ◌≡◌, ◌⊎◌}
use Rattle.cyp_lex.specs.Lexemes.{Lexeme}
use Rattle.cyp_lex.specs.Readers.{Read, both, heads, is_word, left_by_second, word_token, ◌>>=◌}
use Rattle.cyp_lex.specs.declared.want.Want.TheVariants.{AName}
use Rattle.cyp_lex.specs.declared.token.Word.TheVariants.{Emp, Not, True}
use Rattle.cyp_text.specs.BodyReaders.{AnyBody, SomeItems, begins_item, body_at, body_tree, full_body, item_at, item_tree, items_at, items_body}
use Rattle.cyp_text.specs.ChunkReaders.{begins_chunk, begins_heap, chunks_at, heap_at, heap_tree, is_chunk_tail}
use Rattle.cyp_text.specs.ListReaders.{Refuses}
use Rattle.cyp_text.specs.LitReaders.{begins_base, begins_lit, lit_at}
use Rattle.cyp_text.specs.LitTrees.{LitTree}
use Rattle.cyp_text.specs.declared.tree.BodyTree.{BodyTree}
use Rattle.cyp_text.specs.declared.tree.ChunkTree.{ChunkTree}
use Rattle.cyp_text.specs.declared.tree.ItemTree.{ItemTree}
use Rattle.cyp_text.specs.declared.tree.ItemTree.TheVariants.{LitItem}
use Rattle.cyp_text.specs.declared.tree.PureTree.{PureTree}
use Rattle.cyp_text.specs.declared.tree.PureTree.TheVariants.{Items, NoItems}
use Rattle.cyp_text.proofs.ChoicesRead.{first_refuses, mapped_refuses, one_left, one_right, second_left, second_right}
use Rattle.cyp_text.proofs.ListsRead.{first_right, pair_of, to_left, to_right}
use Rattle.cyp_text.proofs.NestedLits.{base_refuses}
use Rattle.cyp_text.proofs.PartsRead.{both_refuses}

-- ---- items

lit_refuses : Refuses AName begins_lit lit_at
lit_refuses ls e =
    let no_not : heads (is_word Not) ls ≡ false = one_left (is_word Not) begins_base ls e in
    rw (no_not, base_refuses ls (one_right (is_word Not) begins_base ls e)) refl

abbrev item_end : (Unit {0} ⊎ LitTree) × List Lexeme → Read ItemTree
item_end z = Ok (item_tree z.0, z.1)

abbrev lit_item_end : LitTree × List Lexeme → Read ItemTree
lit_item_end z = Ok (LitItem z.0, z.1)

lit_then : (r : Read LitTree) → ((r >>= to_right {A = Unit {0}}) >>= item_end) ≡ (r >>= lit_item_end)
lit_then (Ok y) = refl
lit_then (Err e) = refl

pub lit_item_is : (ls : List Lexeme) → heads (is_word True) ls ≡ false → item_at ls ≡ (lit_at ls >>= lit_item_end)
lit_item_is ls e =
    ap (λ (r : Read (Unit {0} ⊎ LitTree)). r >>= item_end) (first_right AName (is_word True) begins_lit (word_token True) lit_at lit_refuses ls e) ∙ lit_then (lit_at ls)

-- ---- bodies

abbrev body_end : AnyBody × List Lexeme → Read BodyTree
body_end z = Ok (body_tree z.0, z.1)

abbrev items_end : SomeItems × List Lexeme → Read PureTree
items_end z = Ok (Items z.0.0 z.0.1.0, z.1)

abbrev full_end : (PureTree × List ChunkTree) × List Lexeme → Read BodyTree
full_end z = Ok (full_body z.0, z.1)

abbrev heap_body_end : List ChunkTree × List Lexeme → Read BodyTree
heap_body_end z = Ok (record { pure = NoItems; chunks = z.0 }, z.1)

heap_full : (x : SomeItems) (r : Read (List ChunkTree)) → (((r >>= pair_of x) >>= to_left {B = List ChunkTree}) >>= body_end) ≡ ((r >>= pair_of (Items x.0 x.1.0)) >>= full_end)
heap_full x (Ok y) = refl
heap_full x (Err e) = refl

full_then : (r : Read SomeItems) → (((r >>= λ x. heap_at x.1 >>= pair_of x.0) >>= to_left {B = List ChunkTree}) >>= body_end) ≡ (((r >>= items_end) >>= λ x. heap_at x.1 >>= pair_of x.0) >>= full_end)
full_then (Ok x) = heap_full x.0 (heap_at x.1)
full_then (Err e) = refl

heap_then : (r : Read (List ChunkTree)) → ((r >>= to_right {A = SomeItems × List ChunkTree}) >>= body_end) ≡ (r >>= heap_body_end)
heap_then (Ok y) = refl
heap_then (Err e) = refl

item_refuses : Refuses AName begins_item item_at
item_refuses = mapped_refuses AName begins_item item_tree _ (first_refuses AName (is_word True) begins_lit (word_token True) lit_at)

heap_refuses : Refuses AName begins_heap heap_at
heap_refuses = mapped_refuses AName begins_heap heap_tree _ (first_refuses AName (is_word Emp) begins_chunk (word_token Emp) chunks_at)

pub items_body_is : (ls : List Lexeme) → left_by_second begins_item is_chunk_tail ls ≡ true → body_at ls ≡ items_body ls
items_body_is ls e =
    ap (λ (r : Read AnyBody). r >>= body_end)
    (second_left AName begins_item begins_heap is_chunk_tail (both items_at heap_at) heap_at
    (both_refuses AName begins_item items_at heap_at (both_refuses AName begins_item item_at _ item_refuses)) ls e)
    ∙ full_then (items_at ls)

pub heap_body_is : (ls : List Lexeme) → left_by_second begins_item is_chunk_tail ls ≡ false → body_at ls ≡ (heap_at ls >>= heap_body_end)
heap_body_is ls e =
    ap (λ (r : Read AnyBody). r >>= body_end)
    (second_right AName begins_item begins_heap is_chunk_tail (both items_at heap_at) heap_at heap_refuses ls e)
    ∙ heap_then (heap_at ls)
