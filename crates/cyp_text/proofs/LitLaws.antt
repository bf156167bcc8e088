-- Literals without `not` are read as they are spelled.
use Rattle.std.proofs.Common.{◌≡◌, ℕ, Bool, true, false, List, [], ◌∷◌, Some, inl, inr, refl, ap, ◌∙◌}
use Rattle.cyp_lex.specs.declared.token.Sign.TheVariants.{AtLeast, AtMost, Equal, Greater, LeftBrace, Less, Minus, Plus, Same, Subset, TwoPluses, Unequal}
use Rattle.cyp_lex.specs.declared.token.Word.TheVariants.{In}
use Rattle.cyp_lex.specs.Lexemes.{Lexeme, Name, Reserved, Said, Symbol}
use Rattle.cyp_lex.specs.Spelling.{Any, Mark, Then}
use Rattle.cyp_lex.specs.Readers.{both, is_sign, is_word, one_of, word_token}
use Rattle.cyp_lex.specs.declared.want.Want.TheVariants.{NoName}
use Rattle.cyp_lex.proofs.Readings.{Apart, Reads, Within, apart_none, none, within_self}
use Rattle.cyp_lex.proofs.Singles.{one}
use Rattle.cyp_lex.proofs.Sequences.{both_reads, spell_both}
use Rattle.cyp_lex.proofs.Choices.{spell_either}
use Rattle.cyp_lex.proofs.Tellers.{Tells, plainly_reads, word_mark, word_reads}
use Rattle.cyp_lex.proofs.Firsts.{NameBegins, first_reads, name_both, name_left, or_left, or_right}
use Rattle.cyp_lex.proofs.Seconds.{ApartButNames, Behind, Leads, second_reads}
use Rattle.cyp_text.specs.declared.tree.Comparison.{Comparison}
use Rattle.cyp_text.specs.declared.tree.Comparison.TheVariants.{IsAbove, IsAtLeast, IsAtMost, IsBelow, IsEqual, IsUnequal}
use Rattle.cyp_text.specs.declared.tree.IntTree.{IntTree}
use Rattle.cyp_text.specs.declared.tree.IntTree.TheVariants.{MinusNum, NameMinus, NamePlus, Named, Num, NumPlus}
use Rattle.cyp_text.specs.declared.tree.PartTree.{PartTree}
use Rattle.cyp_text.specs.declared.tree.PartTree.TheVariants.{Braces, PartName}
use Rattle.cyp_text.specs.declared.tree.SetTree.{SetTree}
use Rattle.cyp_text.specs.Grammar.{comparison_sign, int_spelling, set_spelling}
use Rattle.cyp_text.specs.TermReaders.{begins_int, begins_set, int_at, set_at, set_tree}
use Rattle.cyp_text.specs.LitReaders.{Base, IntLit, Related, SetLit, base_at, begins_base, comparison, comparison_of, int_lit, is_comparison, is_relation, is_set_sign, is_set_tail, related, set_lit, set_sign, set_sign_of}
use Rattle.cyp_text.proofs.IntLaws.{int_ends, int_reads, name_int}
use Rattle.cyp_text.proofs.SetLaws.{set_reads}

abbrev pub comparison_said : Comparison → Said
comparison_said c = Symbol (comparison_sign c)

comparison_only : (k : Said) (c : Comparison) → comparison_of k ≡ Some c → k ≡ comparison_said c
comparison_only (Symbol Equal) c e = let is : IsEqual ≡ c = cc in ap comparison_said is
comparison_only (Symbol Unequal) c e = let is : IsUnequal ≡ c = cc in ap comparison_said is
comparison_only (Symbol AtMost) c e = let is : IsAtMost ≡ c = cc in ap comparison_said is
comparison_only (Symbol Less) c e = let is : IsBelow ≡ c = cc in ap comparison_said is
comparison_only (Symbol AtLeast) c e = let is : IsAtLeast ≡ c = cc in ap comparison_said is
comparison_only (Symbol Greater) c e = let is : IsAbove ≡ c = cc in ap comparison_said is
comparison_only k c e = absurd cc

comparison_back : (c : Comparison) → comparison_of (comparison_said c) ≡ Some c
comparison_back IsEqual = refl
comparison_back IsUnequal = refl
comparison_back IsAtMost = refl
comparison_back IsBelow = refl
comparison_back IsAtLeast = refl
comparison_back IsAbove = refl

comparison_tells : Tells Comparison comparison_of comparison_said
comparison_tells = record { only = comparison_only; back = comparison_back; value = IsEqual }

abbrev comparison_mark : Comparison → Mark
comparison_mark c = Any (comparison_said c)

comparison_reads : {ends : Said → Bool} {n : ℕ} → Reads n Comparison (one comparison_mark) is_comparison ends comparison
comparison_reads = plainly_reads {of = comparison_of} {said = comparison_said} {want = NoName} comparison_tells (λ x. refl)

abbrev set_sign_said : Bool → Said
set_sign_said true = Symbol Same
set_sign_said false = Symbol Subset

abbrev set_sign_mark : Bool → Mark
set_sign_mark b = Any (set_sign_said b)

set_sign_only : (k : Said) (b : Bool) → set_sign_of k ≡ Some b → k ≡ set_sign_said b
set_sign_only (Symbol Same) b e = let is : true ≡ b = cc in ap set_sign_said is
set_sign_only (Symbol Subset) b e = let is : false ≡ b = cc in ap set_sign_said is
set_sign_only k b e = absurd cc

set_sign_back : (b : Bool) → set_sign_of (set_sign_said b) ≡ Some b
set_sign_back true = refl
set_sign_back false = refl

set_sign_tells : Tells Bool set_sign_of set_sign_said
set_sign_tells = record { only = set_sign_only; back = set_sign_back; value = true }

set_sign_reads : {ends : Said → Bool} {n : ℕ} → Reads n Bool (one set_sign_mark) is_set_sign ends set_sign
set_sign_reads = plainly_reads {of = set_sign_of} {said = set_sign_said} {want = NoName} set_sign_tells (λ x. refl)

-- ---- the two kinds of literals

-- what would make a literal longer; and no name stands behind a literal
abbrev pub lit_ends : Said → Bool
lit_ends (Symbol Plus) = true
lit_ends (Symbol Minus) = true
lit_ends (Symbol TwoPluses) = true
lit_ends (Name x) = true
lit_ends k = false

pub int_ends_in : Within int_ends lit_ends
int_ends_in (Symbol Plus) e = refl
int_ends_in (Symbol Minus) e = refl
int_ends_in (Name x) e = refl
int_ends_in k e = absurd cc

pub pluses_in : Within (is_sign TwoPluses) lit_ends
pluses_in (Symbol TwoPluses) e = refl
pluses_in k e = absurd cc

abbrev compared_spelling : Comparison × IntTree → List Mark
compared_spelling = spell_both (one comparison_mark) int_spelling

abbrev member_spelling : Unit {0} × SetTree → List Mark
member_spelling = spell_both (one (word_mark In)) set_spelling

abbrev related_spelling : Related → List Mark
related_spelling = spell_either compared_spelling member_spelling

compared_reads : (n : ℕ) → Reads n (Comparison × IntTree) compared_spelling is_comparison int_ends (both comparison int_at)
compared_reads n = both_reads {fA = none} comparison_reads (int_reads n) (apart_none _)

member_reads : (n : ℕ) → Reads n (Unit {0} × SetTree) member_spelling (is_word In) (is_sign TwoPluses) (both (word_token In) set_at)
member_reads n = both_reads {fA = none} (word_reads In) (set_reads n) (apart_none _)

comparison_in : Apart is_comparison (is_word In)
comparison_in (Reserved In) e = absurd cc
comparison_in k e = refl

related_reads : (n : ℕ) → Reads n Related related_spelling is_relation lit_ends related
related_reads n = first_reads {want = NoName} (compared_reads n) (member_reads n) comparison_in (λ x. refl) int_ends_in pluses_in

relation_ends : Apart is_relation int_ends
relation_ends (Symbol Plus) e = absurd cc
relation_ends (Symbol Minus) e = absurd cc
relation_ends (Name x) e = absurd cc
relation_ends k e = refl

abbrev int_lit_spelling : IntLit → List Mark
int_lit_spelling = spell_both int_spelling related_spelling

int_lit_reads : (n : ℕ) → Reads n IntLit int_lit_spelling begins_int lit_ends int_lit
int_lit_reads n = both_reads (int_reads n) (related_reads n) relation_ends

sign_pluses : Apart is_set_sign (is_sign TwoPluses)
sign_pluses (Symbol TwoPluses) e = absurd cc
sign_pluses k e = refl

abbrev signed_spelling : Bool × SetTree → List Mark
signed_spelling = spell_both (one set_sign_mark) set_spelling

abbrev set_lit_spelling : SetLit → List Mark
set_lit_spelling = spell_both set_spelling signed_spelling

signed_reads : (n : ℕ) → Reads n (Bool × SetTree) signed_spelling is_set_sign (is_sign TwoPluses) (both set_sign set_at)
signed_reads n = both_reads {fA = none} set_sign_reads (set_reads n) (apart_none _)

set_lit_reads : (n : ℕ) → Reads n SetLit set_lit_spelling begins_set (is_sign TwoPluses) set_lit
set_lit_reads n = both_reads (set_reads n) (signed_reads n) sign_pluses

-- ---- which of the two: the lexeme behind a name tells

abbrev pub is_int_tail : Said → Bool
is_int_tail (Symbol Plus) = true
is_int_tail (Symbol Minus) = true
is_int_tail k = is_relation k

-- behind a union's name stands one of its lexemes
set_lit_behind : Behind set_lit_spelling is_set_tail
set_lit_behind t w y K name h = of y.0.first y.0.others y.1 w h
  where
    sign_tail : (b : Bool) → is_set_tail (set_sign_said b) ≡ true
    sign_tail true = refl
    sign_tail false = refl

    of : (p : PartTree) (ps : List PartTree) (s : Bool × SetTree) (w : List Lexeme) → Then (set_lit_spelling (set_tree (p, ps), s)) K (t ∷ w) → Leads is_set_tail w
    of (Braces q ts) ps s w h = absurd (cc (name.1, h.0.0))
    of (PartName i) [] s [] h = absurd h.1
    of (PartName i) [] s (v ∷ vs) h = record { head = v; tail = vs; is = refl; leads = ap is_set_tail h.1.0 ∙ sign_tail s.0 }
    of (PartName i) (p ∷ ps) s [] h = absurd h.1
    of (PartName i) (p ∷ ps) s (v ∷ vs) h = record { head = v; tail = vs; is = refl; leads = ap is_set_tail h.1.0 }

-- behind a term's name stands none of them
int_lit_behind : Behind int_lit_spelling is_int_tail
int_lit_behind t w y K name h = of y.0 y.1 w h
  where
    comparison_tail : (c : Comparison) → is_int_tail (comparison_said c) ≡ true
    comparison_tail IsEqual = refl
    comparison_tail IsUnequal = refl
    comparison_tail IsAtMost = refl
    comparison_tail IsBelow = refl
    comparison_tail IsAtLeast = refl
    comparison_tail IsAbove = refl

    of : (a : IntTree) (r : Related) (w : List Lexeme) → Then (int_lit_spelling (a, r)) K (t ∷ w) → Leads is_int_tail w
    of (Num p n) r w h = absurd (cc (name.1, h.0.0))
    of (NumPlus p n i) r w h = absurd (cc (name.1, h.0.0))
    of (MinusNum p n) r w h = absurd (cc (name.1, h.0.0))
    of (Named i) (inl c) [] h = absurd h.1
    of (Named i) (inr c) [] h = absurd h.1
    of (NamePlus i n) r [] h = absurd h.1
    of (NameMinus i n) r [] h = absurd h.1
    of (Named i) (inl c) (v ∷ vs) h = record { head = v; tail = vs; is = refl; leads = ap is_int_tail h.1.0 ∙ comparison_tail c.0 }
    of (Named i) (inr c) (v ∷ vs) h = record { head = v; tail = vs; is = refl; leads = ap is_int_tail h.1.0 }
    of (NamePlus i n) r (v ∷ vs) h = record { head = v; tail = vs; is = refl; leads = ap is_int_tail h.1.0 }
    of (NameMinus i n) r (v ∷ vs) h = record { head = v; tail = vs; is = refl; leads = ap is_int_tail h.1.0 }

int_set : ApartButNames begins_int begins_set
int_set (Name x) f e = absurd cc
int_set (Symbol LeftBrace) f e = absurd cc
int_set k f e = refl

tails_apart : Apart is_int_tail is_set_tail
tails_apart (Symbol TwoPluses) e = absurd cc
tails_apart (Symbol Same) e = absurd cc
tails_apart (Symbol Subset) e = absurd cc
tails_apart k e = refl

abbrev pub base_spelling : Base → List Mark
base_spelling = spell_either int_lit_spelling set_lit_spelling

pub name_base : NameBegins Base base_spelling
name_base = name_left (name_both name_int (related_reads 0))

pub base_reads : (n : ℕ) → Reads n Base base_spelling begins_base lit_ends base_at
base_reads n = second_reads is_int_tail is_set_tail (int_lit_reads n) (set_lit_reads n) int_set int_lit_behind set_lit_behind tails_apart
    (λ x. refl) (λ x. refl) (λ x. refl) (λ x. refl) name_base.shows (within_self _) pluses_in

-- what may stand behind a name that begins a literal
abbrev pub is_lit_tail : Said → Bool
is_lit_tail = one_of is_int_tail is_set_tail

pub base_behind : Behind base_spelling is_lit_tail
base_behind t w y K name h = of y h
  where
    of : (y : Base) → Then (base_spelling y) K (t ∷ w) → Leads is_lit_tail w
    of (inl a) h =
        let l = int_lit_behind t w a K name h in
        record { head = l.head; tail = l.tail; is = l.is; leads = or_left (is_int_tail l.head.said) (is_set_tail l.head.said) l.leads }
    of (inr b) h =
        let l = set_lit_behind t w b K name h in
        record { head = l.head; tail = l.tail; is = l.is; leads = or_right (is_int_tail l.head.said) (is_set_tail l.head.said) l.leads }
