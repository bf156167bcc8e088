-- Arguments are read as they are spelled.
use Rattle.std.proofs.Common.{◌≡◌, ℕ, Bool, true, false, List, [], ◌∷◌, Option, Some, None, inl, inr, refl}
use Rattle.cyp_lex.specs.declared.token.Sign.TheVariants.{LeftBrace, Minus, Plus, TwoPluses}
use Rattle.cyp_lex.specs.Lexemes.{Symbol}
use Rattle.cyp_lex.specs.Spelling.{Mark, ident}
use Rattle.cyp_lex.specs.declared.ident.Ident.{Ident}
use Rattle.cyp_lex.specs.Readers.{is_name, is_sign}
use Rattle.cyp_lex.specs.declared.want.Want.TheVariants.{NoName}
use Rattle.cyp_lex.proofs.Readings.{Apart, Reads, Within, apart_none, less_reads, none, nowhere, within_self}
use Rattle.cyp_lex.proofs.Singles.{one}
use Rattle.cyp_lex.proofs.Sequences.{both_reads, spell_both}
use Rattle.cyp_lex.proofs.Mapped.{mapped_reads}
use Rattle.cyp_lex.proofs.Options.{option_reads, spell_option}
use Rattle.cyp_lex.proofs.Choices.{spell_either}
use Rattle.cyp_lex.proofs.Tellers.{ident_reads, number_mark, number_token_reads, sign_mark, sign_reads}
use Rattle.cyp_lex.proofs.Firsts.{NameBegins, first_reads, name_ident, name_mapped, name_option, name_right}
use Rattle.cyp_text.specs.declared.tree.ArgTree.{ArgTree}
use Rattle.cyp_text.specs.declared.tree.ArgTree.TheVariants.{BracesArg, TermArg, UnionArg}
use Rattle.cyp_text.specs.declared.tree.IntTree.{IntTree}
use Rattle.cyp_text.specs.declared.tree.IntTree.TheVariants.{MinusNum, NameMinus, NamePlus, Named, Num, NumPlus}
use Rattle.cyp_text.specs.declared.tree.PartTree.{PartTree}
use Rattle.cyp_text.specs.Grammar.{arg_spelling}
use Rattle.cyp_text.specs.TermReaders.{Inner, begins_int, begins_other, is_sum}
use Rattle.cyp_text.specs.ChunkReaders.{AnyArg, ArgTail, BracesUnion, MoreParts, NameArg, OtherArg, TermOrName, arg_at, arg_tail, arg_tree, begins_arg, braces_union, is_arg_tail, more_parts, name_arg, other_arg, term_or_name}
use Rattle.cyp_text.proofs.IntLaws.{minus_name, minus_reads, minus_spelling, number_other, number_reads, number_spelling, sum_sign_mark, sum_sign_reads}
use Rattle.cyp_text.proofs.SetLaws.{braced_spelling, braces_reads, inner_of, parts_listed, parts_reads}
use Rattle.cyp_text.proofs.LitLaws.{int_ends_in, lit_ends, pluses_in}

abbrev more_spelling : MoreParts → List Mark
more_spelling = spell_both (one (sign_mark TwoPluses)) parts_listed

more_reads : (n : ℕ) → Reads n MoreParts more_spelling (is_sign TwoPluses) (is_sign TwoPluses) more_parts
more_reads n = both_reads {fA = none} (sign_reads TwoPluses) (parts_reads n) (apart_none _)

abbrev union_spelling : BracesUnion → List Mark
union_spelling = spell_option braced_spelling more_spelling

union_reads : (n : ℕ) → Reads n BracesUnion union_spelling (is_sign LeftBrace) (is_sign TwoPluses) braces_union
union_reads n = less_reads (option_reads (braces_reads _) (more_reads n) (apart_none _) (nowhere _) (within_self _) (within_self _) (λ x. refl))

abbrev tail_spelling : ArgTail → List Mark
tail_spelling = spell_either (spell_both (one sum_sign_mark) (one number_mark)) more_spelling

sum_pluses : Apart is_sum (is_sign TwoPluses)
sum_pluses (Symbol TwoPluses) e = absurd cc
sum_pluses k e = refl

tail_reads : (n : ℕ) → Reads n ArgTail tail_spelling is_arg_tail (is_sign TwoPluses) arg_tail
tail_reads n = first_reads {fA = none} {want = NoName} (both_reads {fA = none} sum_sign_reads number_token_reads (apart_none _)) (more_reads n) sum_pluses (λ x. refl) (nowhere _) (within_self _)

tail_ends : Within is_arg_tail lit_ends
tail_ends (Symbol Plus) e = refl
tail_ends (Symbol Minus) e = refl
tail_ends (Symbol TwoPluses) e = refl
tail_ends k e = absurd cc

abbrev name_spelling : NameArg → List Mark
name_spelling = spell_option (one ident) tail_spelling

name_reads : (n : ℕ) → Reads n NameArg name_spelling is_name lit_ends name_arg
name_reads n = less_reads (option_reads {fA = none} ident_reads (tail_reads n) (apart_none _) (nowhere _) pluses_in tail_ends (λ x. refl))

abbrev other_spelling : OtherArg → List Mark
other_spelling = spell_either minus_spelling name_spelling

name_other : NameBegins OtherArg other_spelling
name_other = name_right (name_option _ name_ident)

other_reads : (n : ℕ) → Reads n OtherArg other_spelling begins_other lit_ends other_arg
other_reads n = first_reads (minus_reads n) (name_reads n) minus_name name_other.shows (nowhere _) (within_self _)

abbrev term_or_name_spelling : TermOrName → List Mark
term_or_name_spelling = spell_either number_spelling other_spelling

name_term_or_name : NameBegins TermOrName term_or_name_spelling
name_term_or_name = name_right name_other

term_or_name_reads : (n : ℕ) → Reads n TermOrName term_or_name_spelling begins_int lit_ends term_or_name
term_or_name_reads n = first_reads (number_reads n) (other_reads n) number_other name_term_or_name.shows int_ends_in (within_self _)

abbrev any_spelling : AnyArg → List Mark
any_spelling = spell_either union_spelling term_or_name_spelling

name_any : NameBegins AnyArg any_spelling
name_any = name_right name_term_or_name

open_int : Apart (is_sign LeftBrace) begins_int
open_int (Symbol LeftBrace) e = refl
open_int k e = absurd cc

abbrev more_of : List PartTree → Option MoreParts
more_of [] = None
more_of (u ∷ us) = Some (tt, (u, us))

abbrev term_parts : IntTree → TermOrName
term_parts (Num p n) = inl ((p, n), None)
term_parts (NumPlus p n i) = inl ((p, n), Some (tt, i))
term_parts (MinusNum p n) = inr (inl (p, n))
term_parts (Named i) = inr (inr (i, None))
term_parts (NamePlus i n) = inr (inr (i, Some (inl (true, n))))
term_parts (NameMinus i n) = inr (inr (i, Some (inl (false, n))))

abbrev arg_parts : ArgTree → AnyArg
arg_parts (TermArg t) = inr (term_parts t)
arg_parts (BracesArg p ts us) = inl ((p, inner_of ts), more_of us)
arg_parts (UnionArg i u us) = inr (inr (inr (i, Some (inr (tt, (u, us))))))

there : (x : AnyArg) → arg_parts (arg_tree x) ≡ x
there (inl x) = of x.0.0 x.0.1 x.1
  where
    of : (p : ℕ) (y : Inner) (o : Option MoreParts) → arg_parts (arg_tree (inl ((p, y), o))) ≡ inl ((p, y), o)
    of p (inl u) None = refl
    of p (inl u) (Some z) = refl
    of p (inr y) None = refl
    of p (inr y) (Some z) = refl
there (inr (inl x)) = of x.0 x.1
  where
    of : (a : ℕ × ℕ) (o : Option (Unit {0} × Ident)) → arg_parts (arg_tree (inr (inl (a, o)))) ≡ inr (inl (a, o))
    of a None = refl
    of a (Some y) = refl
there (inr (inr (inl x))) = refl
there (inr (inr (inr x))) = of x.0 x.1
  where
    sign : (i : Ident) (b : Bool) (n : ℕ) → arg_parts (arg_tree (inr (inr (inr (i, Some (inl (b, n))))))) ≡ inr (inr (inr (i, Some (inl (b, n)))))
    sign i true n = refl
    sign i false n = refl

    of : (i : Ident) (o : Option ArgTail) → arg_parts (arg_tree (inr (inr (inr (i, o))))) ≡ inr (inr (inr (i, o)))
    of i None = refl
    of i (Some (inl y)) = sign i y.0 y.1
    of i (Some (inr y)) = refl

again : (y : ArgTree) → arg_tree (arg_parts y) ≡ y
again (TermArg (Num p n)) = refl
again (TermArg (NumPlus p n i)) = refl
again (TermArg (MinusNum p n)) = refl
again (TermArg (Named i)) = refl
again (TermArg (NamePlus i n)) = refl
again (TermArg (NameMinus i n)) = refl
again (BracesArg p [] []) = refl
again (BracesArg p [] (u ∷ us)) = refl
again (BracesArg p (t ∷ ts) []) = refl
again (BracesArg p (t ∷ ts) (u ∷ us)) = refl
again (UnionArg i u us) = refl

same : (y : ArgTree) → arg_spelling y ≡ any_spelling (arg_parts y)
same (TermArg (Num p n)) = refl
same (TermArg (NumPlus p n i)) = refl
same (TermArg (MinusNum p n)) = refl
same (TermArg (Named i)) = refl
same (TermArg (NamePlus i n)) = refl
same (TermArg (NameMinus i n)) = refl
same (BracesArg p [] []) = refl
same (BracesArg p [] (u ∷ us)) = refl
same (BracesArg p (t ∷ ts) []) = refl
same (BracesArg p (t ∷ ts) (u ∷ us)) = refl
same (UnionArg i u us) = refl

pub arg_reads : (n : ℕ) → Reads n ArgTree arg_spelling begins_arg lit_ends arg_at
arg_reads n = mapped_reads arg_tree arg_parts there again same (first_reads (union_reads n) (term_or_name_reads n) open_int name_any.shows pluses_in (within_self _))

-- an argument may begin with any name
pub name_arg_begins : NameBegins ArgTree arg_spelling
name_arg_begins = name_mapped arg_tree arg_parts there same name_any
