-- Each part of a list stops at once where none of its first lexemes stands.
use Rattle.std.specs.Prelude.{[], Bool, List, None, Option, Some, false, refl, true, ◌∷◌, ◌≡◌}
use Rattle.std.proofs.Common.{ap, subst}
use Rattle.cyp_lex.specs.Readers.{both, closed, either_by, heads, ident_token, is_name, is_number, is_sign, is_there, mapped, placed_by, stop, token_or}
use Rattle.cyp_lex.specs.Lexemes.{Lexeme}
use Rattle.cyp_text.specs.TextReaders.{is_sort, param_at, param_tree, sort_of}
use Rattle.cyp_text.specs.declared.tree.SortTree.{SortTree}
use Rattle.cyp_lex.specs.declared.want.Want.TheVariants.{AName, NoName}
use Rattle.cyp_lex.specs.declared.token.Sign.TheVariants.{LeftBrace}
use Rattle.cyp_text.specs.ChunkReaders.{arg_at, arg_tree, begins_arg, begins_chunk, braces_union, chunk_at, chunk_tail, chunk_tree, shape_chunk, term_or_name}
use Rattle.cyp_text.specs.ListReaders.{Refuses}
use Rattle.cyp_text.specs.TermReaders.{begins_int, begins_set, braces_at, int_at, int_tree, is_sum, number_term, other_term, part_at, part_tree}

-- a term stops at once where none begins
pub int_refuses : Refuses AName begins_int int_at
int_refuses [] e = refl
int_refuses (t ∷ ts) e = ap (λ (b : Bool). closed is_sum (mapped int_tree (λ ls. either_by AName (heads is_number) number_term other_term ls b)) (t ∷ ts)) e

-- a part of a union stops at once where none begins
pub part_refuses : Refuses AName begins_set part_at
part_refuses [] e = refl
part_refuses (t ∷ ts) e = ap (λ (b : Bool). mapped part_tree (λ ls. either_by AName (heads (is_sign LeftBrace)) braces_at ident_token ls b) (t ∷ ts)) e

-- an argument stops at once where none begins
pub arg_refuses : Refuses AName begins_arg arg_at
arg_refuses [] e = refl
arg_refuses (t ∷ ts) e = ap (λ (b : Bool). mapped arg_tree (λ ls. either_by AName (heads (is_sign LeftBrace)) braces_union term_or_name ls b) (t ∷ ts)) e

-- a chunk stops at once where none begins
pub chunk_refuses : Refuses AName begins_chunk chunk_at
chunk_refuses [] e = refl
chunk_refuses (t ∷ ts) e = ap (λ (b : Bool). mapped chunk_tree (λ ls. either_by AName (heads is_name) (both ident_token chunk_tail) shape_chunk ls b) (t ∷ ts)) e

-- nothing stands where the truth value is false
abbrev OnlyTrue : Bool → Type 0
OnlyTrue true = Unit {0}
OnlyTrue false = ⊥

-- a parameter whose sort is told so, or not
sort_refuses : (o : Option SortTree) (t : Lexeme) (ts : List Lexeme) → is_there o ≡ false
    → mapped param_tree (both (λ ls. token_or (placed_by t.place o) NoName t ts) ident_token) (t ∷ ts) ≡ stop NoName (t ∷ ts)
sort_refuses None t ts e = refl
sort_refuses (Some s) t ts e = absurd (subst OnlyTrue e tt)

-- a parameter stops at once where no word of a sort stands
pub param_refuses : Refuses NoName is_sort param_at
param_refuses [] e = refl
param_refuses (t ∷ ts) e = sort_refuses (sort_of t.said) t ts e
