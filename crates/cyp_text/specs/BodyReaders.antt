-- How items, pure parts and bodies are read.
use Rattle.std.specs.Prelude.{Bool, List, None, Option, Some, ◌⊎◌}
use Rattle.std.proofs.Common.{inl, inr}
use Rattle.cyp_lex.specs.declared.token.Sign.TheVariants.{AndAnd, Semicolon, SlashAnd}
use Rattle.cyp_lex.specs.declared.token.Word.TheVariants.{True}
use Rattle.cyp_lex.specs.Lexemes.{Lexeme, Said, Symbol}
use Rattle.cyp_lex.specs.Readers.{Read, both, first_tells, is_word, mapped, one_of, plainly, second_tells, sign_token, single, telling, word_token}
use Rattle.cyp_lex.specs.declared.want.Want.TheVariants.{AName, NoName}
use Rattle.cyp_text.specs.LitTrees.{LitTree}
use Rattle.cyp_text.specs.declared.tree.BodyTree.{BodyTree}
use Rattle.cyp_text.specs.declared.tree.ChunkTree.{ChunkTree}
use Rattle.cyp_text.specs.declared.tree.Conjunction.{Conjunction}
use Rattle.cyp_text.specs.declared.tree.Conjunction.TheVariants.{Ampersands, Slashes}
use Rattle.cyp_text.specs.declared.tree.ItemTree.{ItemTree}
use Rattle.cyp_text.specs.declared.tree.ItemTree.TheVariants.{LitItem, TrueItem}
use Rattle.cyp_text.specs.declared.tree.PureTree.TheVariants.{Items, NoItems}
use Rattle.cyp_text.specs.ListReaders.{many}
use Rattle.cyp_text.specs.declared.tree.PureTree.{PureTree}
use Rattle.cyp_text.specs.LitReaders.{begins_lit, lit_at}
use Rattle.cyp_text.specs.ChunkReaders.{begins_heap, heap_at, is_chunk_tail}

-- the item
abbrev pub item_tree : Unit {0} ⊎ LitTree → ItemTree
item_tree (inl u) = TrueItem
item_tree (inr l) = LitItem l

-- the lexemes that begin an item
abbrev pub begins_item : Said → Bool
begins_item = one_of (is_word True) begins_lit

-- an item
abbrev pub item_at : List Lexeme → Read ItemTree
item_at ts = mapped item_tree (first_tells AName (is_word True) begins_lit (word_token True) lit_at) ts

-- the conjunction that a symbol stands for
abbrev pub conjunction_of : Said → Option Conjunction
conjunction_of (Symbol SlashAnd) = Some Slashes
conjunction_of (Symbol AndAnd) = Some Ampersands
conjunction_of k = None

-- the symbols of conjunctions
abbrev pub is_conjunction : Said → Bool
is_conjunction = telling conjunction_of

-- a conjunction
abbrev pub conjunction_at : List Lexeme → Read Conjunction
conjunction_at ts = single (plainly conjunction_of) NoName ts

-- a conjunction and an item
abbrev pub later_item_at : List Lexeme → Read (Conjunction × ItemTree)
later_item_at ts = both conjunction_at item_at ts

-- items up to their semicolon
abbrev pub SomeItems : Type 0
SomeItems = ItemTree × (List (Conjunction × ItemTree) × Unit {0})

-- an item, later items, and their semicolon
abbrev pub items_at : List Lexeme → Read SomeItems
items_at ts = both item_at (both (many is_conjunction later_item_at) (sign_token Semicolon)) ts

-- the items of a pure part, up to their semicolon
abbrev pub item_list : List Lexeme → Read PureTree
item_list ts = mapped (λ (x : SomeItems). Items x.0 x.1.0) items_at ts

-- a body of these parts
abbrev pub full_body : PureTree × List ChunkTree → BodyTree
full_body x = record { pure = x.0; chunks = x.1 }

-- a pure part, and a heap
abbrev pub items_body : List Lexeme → Read BodyTree
items_body ts = mapped full_body (both item_list heap_at) ts

-- a body with a pure part, or without
abbrev pub AnyBody : Type 0
AnyBody = (SomeItems × List ChunkTree) ⊎ List ChunkTree

-- the body
abbrev pub body_tree : AnyBody → BodyTree
body_tree (inl x) = record { pure = Items x.0.0 x.0.1.0; chunks = x.1 }
body_tree (inr cs) = record { pure = NoItems; chunks = cs }

-- the lexemes that begin a body
abbrev pub begins_body : Said → Bool
begins_body = one_of begins_item begins_heap

-- a body
abbrev pub body_at : List Lexeme → Read BodyTree
body_at ts = mapped body_tree (second_tells AName begins_item begins_heap is_chunk_tail (both items_at heap_at) heap_at) ts
