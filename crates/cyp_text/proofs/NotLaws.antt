-- Literals are read as they are spelled.
use Rattle.std.proofs.Common.{◌≡◌, ℕ, zero, suc, Bool, true, false, List, [], ◌∷◌, ◌⊎◌, inl, inr, refl, ap, subst, length, arith}
use Rattle.cyp_lex.specs.declared.token.Sign.TheVariants.{LeftParen, RightParen}
use Rattle.cyp_lex.specs.declared.token.Word.TheVariants.{Not}
use Rattle.cyp_lex.specs.Lexemes.{Lexeme, Name, Reserved, Symbol}
use Rattle.cyp_lex.specs.Spelling.{At, Mark, Then}
use Rattle.cyp_lex.specs.Readers.{Read, both, is_sign, is_word, sign_token, word_place}
use Rattle.cyp_lex.proofs.Readings.{Apart, Reads, Sound, apart_none, none, nowhere, within_self}
use Rattle.cyp_lex.proofs.Singles.{one}
use Rattle.cyp_lex.proofs.Sequences.{both_reads, spell_both, then_reads}
use Rattle.cyp_lex.proofs.Mapped.{mapped_reads}
use Rattle.cyp_lex.proofs.Choices.{spell_either}
use Rattle.cyp_lex.proofs.Tellers.{sign_mark, sign_reads, word_place_reads}
use Rattle.cyp_lex.proofs.Firsts.{NameBegins, first_reads, name_mapped, name_right, or_right}
use Rattle.cyp_lex.proofs.Behinds.{NameLeads, leads_either, leads_mapped}
use Rattle.cyp_text.specs.LitTrees.{Comparing, Inside, LitTree, Negation, SameSets, SubSets}
use Rattle.cyp_text.specs.declared.tree.IntTree.{IntTree}
use Rattle.cyp_text.specs.declared.tree.SetTree.{SetTree}
use Rattle.cyp_text.specs.Grammar.{lit_spelling}
use Rattle.cyp_text.specs.LitReaders.{Base, Related, begins_base, begins_lit, lit_at}
use Rattle.cyp_text.proofs.NestedLits.{Negated, lit_in, lit_tree, nested_is}
use Rattle.cyp_text.proofs.LitLaws.{base_behind, base_reads, base_spelling, is_lit_tail, lit_ends, name_base}

right_ends : Apart (is_sign RightParen) lit_ends
right_ends (Symbol RightParen) e = refl
right_ends k e = absurd cc

not_base : Apart (is_word Not) begins_base
not_base (Reserved Not) e = refl
not_base k e = absurd cc

abbrev inner_spelling : Unit {0} × (LitTree × Unit {0}) → List Mark
inner_spelling = spell_both (one (sign_mark LeftParen)) (spell_both lit_spelling (one (sign_mark RightParen)))

abbrev negated_spelling : Negated → List Mark
negated_spelling = spell_both (one (λ p. At (Reserved Not) p)) inner_spelling

abbrev negated : ℕ → List Lexeme → Read Negated
negated n = both (word_place Not) (both (sign_token LeftParen) (both (lit_in n) (sign_token RightParen)))

abbrev lit_parts : LitTree → Negated ⊎ Base
lit_parts (Comparing a c b) = inr (inl (a, inl (c, b)))
lit_parts (Inside a b) = inr (inl (a, inr (tt, b)))
lit_parts (SameSets a b) = inr (inr (a, (true, b)))
lit_parts (SubSets a b) = inr (inr (a, (false, b)))
lit_parts (Negation p l) = inl (p, (tt, (l, tt)))

there : (x : Negated ⊎ Base) → lit_parts (lit_tree x) ≡ x
there (inl x) = refl
there (inr (inl x)) = of x.0 x.1
  where
    of : (a : IntTree) (r : Related) → lit_parts (lit_tree (inr (inl (a, r)))) ≡ inr (inl (a, r))
    of a (inl y) = refl
    of a (inr y) = refl
there (inr (inr x)) = of x.0 x.1.0 x.1.1
  where
    of : (a : SetTree) (b : Bool) (c : SetTree) → lit_parts (lit_tree (inr (inr (a, (b, c))))) ≡ inr (inr (a, (b, c)))
    of a true c = refl
    of a false c = refl

again : (y : LitTree) → lit_tree (lit_parts y) ≡ y
again (Comparing a c b) = refl
again (Inside a b) = refl
again (SameSets a b) = refl
again (SubSets a b) = refl
again (Negation p l) = refl

abbrev split_spelling : Negated ⊎ Base → List Mark
split_spelling = spell_either negated_spelling base_spelling

same : (y : LitTree) → lit_spelling y ≡ split_spelling (lit_parts y)
same (Comparing a c b) = refl
same (Inside a b) = refl
same (SameSets a b) = refl
same (SubSets a b) = refl
same (Negation p l) = refl

name_split : NameBegins (Negated ⊎ Base) split_spelling
name_split = name_right name_base

-- a literal may begin with any name
pub name_lit : NameBegins LitTree lit_spelling
name_lit = name_mapped lit_tree lit_parts there same name_split

negated_leads : NameLeads Negated negated_spelling is_lit_tail
negated_leads = record { behind = λ t w y K name h. absurd (cc (name.1, h.0.0)) }

-- behind a name that begins a literal stands a sign of a sum or of a union, or a relation
pub lit_leads : NameLeads LitTree lit_spelling is_lit_tail
lit_leads = leads_mapped lit_parts same (leads_either negated_leads (record { behind = base_behind }))

lit_first : (y : LitTree) (K : List Lexeme → Type 0) (t : Lexeme) (w : List Lexeme) → Then (lit_spelling y) K (t ∷ w) → begins_lit t.said ≡ true
lit_first y K t w h = of (lit_parts y) (subst (λ (m : List Mark). Then m K (t ∷ w)) (same y) h)
  where
    of : (x : Negated ⊎ Base) → Then (split_spelling x) K (t ∷ w) → begins_lit t.said ≡ true
    of (inl n) h = ap begins_lit h.0.0
    of (inr b) h = or_right (is_word Not t.said) (begins_base t.said) ((base_reads 0).first b K t w h)

lit_full : (y : LitTree) (K : List Lexeme → Type 0) → Then (lit_spelling y) K [] → ⊥
lit_full y K h = of (lit_parts y) (subst (λ (m : List Mark). Then m K []) (same y) h)
  where
    of : (x : Negated ⊎ Base) → Then (split_spelling x) K [] → ⊥
    of (inl n) h = h
    of (inr b) h = (base_reads 0).full b K h

pub lit_in_reads : (n : ℕ) → Reads n LitTree lit_spelling begins_lit lit_ends (lit_in n)
lit_in_reads zero = record {
  sound = λ ts short. absurd (omega arith);
  first = lit_first;
  full = lit_full;
  some = (name_lit.shows named (([], refl))).0;
  shown = named ∷ (name_lit.shows named (([], refl))).1;
  is_some = (name_lit.shows named (([], refl))).2;
}
  where
    named : Lexeme
    named = record { said = Name []; place = 0 }
lit_in_reads (suc n) = mapped_reads lit_tree lit_parts there again same
    (first_reads {fA = none} (then_reads {fA = none} (word_place_reads Not) (both_reads {fA = none} (sign_reads LeftParen) (both_reads (lit_in_reads n) (sign_reads RightParen) right_ends) (apart_none _)) (apart_none _))
    (base_reads (suc n)) not_base name_split.shows (nowhere _) (within_self _))

-- the reader of literals gives the literal that is spelled, or stops at the first lexeme that nothing allows
pub lit_reads : (n : ℕ) → Reads n LitTree lit_spelling begins_lit lit_ends lit_at
lit_reads n = record {
  sound = λ ts short. subst (λ (r : Read LitTree). Sound LitTree lit_spelling begins_lit lit_ends ts r) (nested_is ts) ((lit_in_reads (suc (length ts))).sound ts (omega arith));
  first = lit_first;
  full = lit_full;
  some = (lit_in_reads 0).some;
  shown = (lit_in_reads 0).shown;
  is_some = (lit_in_reads 0).is_some;
}
