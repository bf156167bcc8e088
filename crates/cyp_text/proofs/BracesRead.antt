-- A part of a union that begins with a brace.
use Rattle.std.proofs.Common.{Err, List, Ok, ap, refl, true, ℕ, ◌∙◌, ◌≡◌, ◌⊎◌}
use Rattle.cyp_lex.specs.Lexemes.{Lexeme}
use Rattle.cyp_lex.specs.Readers.{Read, enclosed, heads, ident_token, is_name, is_sign, sign_place, ◌>>=◌}
use Rattle.cyp_lex.specs.declared.ident.Ident.{Ident}
use Rattle.cyp_lex.specs.declared.want.Want.TheVariants.{AName}
use Rattle.cyp_lex.specs.declared.token.Sign.TheVariants.{LeftBrace, RightBrace}
use Rattle.cyp_text.specs.TermReaders.{Inner, begins_int, braced_terms, braces_at, inner, int_at, part_at, part_tree}
use Rattle.cyp_text.specs.declared.tree.IntTree.{IntTree}
use Rattle.cyp_text.specs.declared.tree.PartTree.{PartTree}
use Rattle.cyp_text.specs.declared.tree.PartTree.TheVariants.{Braces}
use Rattle.cyp_text.proofs.ListsRead.{first_left, pair_of, to_left}
use Rattle.cyp_text.proofs.PartsRead.{enclosed_end}

abbrev part_end : ((ℕ × Inner) ⊎ Ident) × List Lexeme → Read PartTree
part_end z = Ok (part_tree z.0, z.1)

abbrev braces_end : (ℕ × List IntTree) × List Lexeme → Read PartTree
braces_end z = Ok (Braces z.0.0 z.0.1, z.1)

inner_then : (p : ℕ) (r : Read Inner) → (((r >>= pair_of p) >>= to_left {B = Ident}) >>= part_end) ≡ (((r >>= enclosed_end) >>= pair_of p) >>= braces_end)
inner_then p (Ok x) = refl
inner_then p (Err e) = refl

braces_then : (r : Read ℕ) → (((r >>= λ x. inner x.1 >>= pair_of x.0) >>= to_left {B = Ident}) >>= part_end)
    ≡ ((r >>= λ x. enclosed AName RightBrace begins_int int_at x.1 >>= pair_of x.0) >>= braces_end)
braces_then (Ok x) = inner_then x.0 (inner x.1)
braces_then (Err e) = refl

pub part_is : (ls : List Lexeme) → heads (is_sign LeftBrace) ls ≡ true → part_at ls ≡ (braced_terms ls >>= braces_end)
part_is ls e = ap (λ (r : Read ((ℕ × Inner) ⊎ Ident)). r >>= part_end) (first_left AName (is_sign LeftBrace) is_name braces_at ident_token ls e) ∙ braces_then (sign_place LeftBrace ls)
