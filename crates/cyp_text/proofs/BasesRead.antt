-- How the code reads literals without `not`.
use Rattle.std.proofs.Common.{Err, List, None, Ok, Option, Some, [], ap, false, refl, true, ◌∙◌, ◌∷◌, ◌≡◌}
use Rattle.cyp_lex.specs.Lexemes.{Lexeme, Number, Name, Reserved, Said, Symbol, Variable}
use Rattle.cyp_lex.specs.Readers.{Read, both, heads, is_there, is_word, left_by_second, stop, word_token, ◌>>=◌}
use Rattle.cyp_lex.specs.declared.want.Want.TheVariants.{AName, NoName}
use Rattle.cyp_lex.specs.declared.token.Word.TheVariants.{In}
use Rattle.cyp_text.specs.ListReaders.{Refuses}
use Rattle.cyp_text.specs.LitReaders.{Base, IntLit, Related, SetLit, base_tree, comparison, comparison_of, int_base, int_lit, int_lit_base, is_comparison, is_set_tail, plain_base, related, set_base_at, set_lit, set_lit_base, set_sign}
use Rattle.cyp_text.specs.PartLaws.{int_refuses, part_refuses}
use Rattle.cyp_text.specs.TermReaders.{begins_int, begins_set, int_at, set_at, set_tree}
use Rattle.cyp_text.specs.declared.lit_tree.BaseTree.{BaseTree}
use Rattle.cyp_text.specs.declared.lit_tree.BaseTree.TheVariants.{Comparing, Inside}
use Rattle.cyp_text.specs.declared.tree.Comparison.{Comparison}
use Rattle.cyp_text.specs.declared.tree.IntTree.{IntTree}
use Rattle.cyp_text.specs.declared.tree.SetTree.{SetTree}
use Rattle.cyp_text.proofs.ChoicesRead.{first_else, mapped_refuses, second_left, second_right}
use Rattle.cyp_text.proofs.ListsRead.{first_right, pair_of, to_left, to_right}
use Rattle.cyp_text.proofs.PartsRead.{both_refuses, listing_refuses}

in_refuses : Refuses NoName (is_word In) (both (word_token In) set_at)
in_refuses [] e = refl
in_refuses (t ∷ ts) e = rw e refl

no_comparison : (k : Said) → is_word In k ≡ true → is_comparison k ≡ false
no_comparison (Reserved w) e = refl
no_comparison (Name x) e = absurd cc
no_comparison (Variable x) e = absurd cc
no_comparison (Number x) e = absurd cc
no_comparison (Symbol x) e = absurd cc

in_first : (ls : List Lexeme) → heads (is_word In) ls ≡ true → heads is_comparison ls ≡ false
in_first [] e = refl
in_first (t ∷ ts) e = no_comparison t.said e

comparison_refuses : Refuses NoName is_comparison (both comparison int_at)
comparison_refuses [] e = refl
comparison_refuses (t ∷ ts) e = by (comparison_of t.said) refl e
  where
    by : (o : Option Comparison) → comparison_of t.said ≡ o → is_there o ≡ false → both comparison int_at (t ∷ ts) ≡ stop NoName (t ∷ ts)
    by None f g = rw f refl
    by (Some c) f g = absurd cc

-- ---- a literal that begins with a term

abbrev lit_end : IntLit × List Lexeme → Read BaseTree
lit_end z = Ok (int_lit_base z.0, z.1)

abbrev pub inside_end : IntTree → SetTree × List Lexeme → Read BaseTree
inside_end a y = Ok (Inside a y.0, y.1)

abbrev pub comparing_end : IntTree → (Comparison × IntTree) × List Lexeme → Read BaseTree
comparing_end a y = Ok (Comparing a y.0.0 y.0.1, y.1)

in_then : (a : IntTree) (r : Read (Unit {0})) → ((((r >>= λ u. set_at u.1 >>= pair_of u.0) >>= to_right {A = Comparison × IntTree}) >>= pair_of a) >>= lit_end) ≡ (r >>= λ u. set_at u.1 >>= inside_end a)
in_then a (Ok u) = set_then (set_at u.1)
  where
    set_then : (r : Read SetTree) → ((((r >>= pair_of u.0) >>= to_right {A = Comparison × IntTree}) >>= pair_of a) >>= lit_end) ≡ (r >>= inside_end a)
    set_then (Ok y) = refl
    set_then (Err e) = refl
in_then a (Err e) = refl

comparison_then : (a : IntTree) (r : Read (Comparison × IntTree)) → (((r >>= to_left {B = Unit {0} × SetTree}) >>= pair_of a) >>= lit_end) ≡ (r >>= comparing_end a)
comparison_then a (Ok y) = refl
comparison_then a (Err e) = refl

pub inside_is : (ls mid : List Lexeme) (a : IntTree) → int_at ls ≡ Ok (a, mid) → heads (is_word In) mid ≡ true → int_base ls ≡ (word_token In mid >>= λ u. set_at u.1 >>= inside_end a)
inside_is ls mid a e t =
    rw e (ap (λ (r : Read Related). (r >>= pair_of a) >>= lit_end) (first_right NoName is_comparison (is_word In) (both comparison int_at) (both (word_token In) set_at) in_refuses mid (in_first mid t))
    ∙ in_then a (word_token In mid))

pub comparing_is : (ls mid : List Lexeme) (a : IntTree) → int_at ls ≡ Ok (a, mid) → heads (is_word In) mid ≡ false → int_base ls ≡ (both comparison int_at mid >>= comparing_end a)
comparing_is ls mid a e t =
    rw e (ap (λ (r : Read Related). (r >>= pair_of a) >>= lit_end) (first_else NoName is_comparison (is_word In) (both comparison int_at) (both (word_token In) set_at) comparison_refuses mid t)
    ∙ comparison_then a (both comparison int_at mid))

-- ---- both kinds

abbrev base_end : Base × List Lexeme → Read BaseTree
base_end z = Ok (base_tree z.0, z.1)

abbrev set_end : SetLit × List Lexeme → Read BaseTree
set_end z = Ok (set_lit_base z.0, z.1)

int_end : (r : Read IntLit) → ((r >>= to_left {B = SetLit}) >>= base_end) ≡ (r >>= lit_end)
int_end (Ok y) = refl
int_end (Err e) = refl

set_end_is : (r : Read SetLit) → ((r >>= to_right {A = IntLit}) >>= base_end) ≡ (r >>= set_end)
set_end_is (Ok y) = refl
set_end_is (Err e) = refl

set_refuses : Refuses AName begins_set set_at
set_refuses = mapped_refuses AName begins_set set_tree _ (listing_refuses AName begins_set _ _ _ part_refuses)

pub int_base_is : (ls : List Lexeme) → left_by_second begins_int is_set_tail ls ≡ true → plain_base ls ≡ int_base ls
int_base_is ls e =
    ap (λ (r : Read Base). r >>= base_end)
    (second_left AName begins_int begins_set is_set_tail int_lit set_lit (both_refuses AName begins_int int_at related int_refuses) ls e)
    ∙ int_end (int_lit ls)

pub set_base_is : (ls : List Lexeme) → left_by_second begins_int is_set_tail ls ≡ false → plain_base ls ≡ set_base_at ls
set_base_is ls e =
    ap (λ (r : Read Base). r >>= base_end)
    (second_right AName begins_int begins_set is_set_tail int_lit set_lit (both_refuses AName begins_set set_at (both set_sign set_at) set_refuses) ls e)
    ∙ set_end_is (set_lit ls)
