-- Items are read as they are spelled.
use Rattle.std.proofs.Common.{◌≡◌, ℕ, Bool, List, Some, ◌⊎◌, inl, inr, refl, ap}
use Rattle.cyp_lex.specs.declared.token.Sign.TheVariants.{AndAnd, Minus, Plus, Semicolon, SlashAnd, TwoPluses}
use Rattle.cyp_lex.specs.declared.token.Word.TheVariants.{True}
use Rattle.cyp_lex.specs.Lexemes.{Name, Reserved, Said, Symbol}
use Rattle.cyp_lex.specs.Spelling.{Any, Mark}
use Rattle.cyp_lex.specs.Readers.{sign_token, is_sign, is_word, one_of, plainly, single}
use Rattle.cyp_lex.specs.declared.want.Want.TheVariants.{NoName}
use Rattle.cyp_lex.proofs.Readings.{Apart, Reads, apart_none, none, nowhere, within_self}
use Rattle.cyp_lex.proofs.Singles.{one}
use Rattle.cyp_lex.proofs.Sequences.{both_reads, spell_both}
use Rattle.cyp_lex.proofs.Mapped.{mapped_reads}
use Rattle.cyp_lex.proofs.Choices.{spell_either}
use Rattle.cyp_lex.proofs.Tellers.{Tells, plainly_reads, sign_mark, sign_reads, word_mark, word_reads}
use Rattle.cyp_lex.proofs.Firsts.{NameBegins, first_reads, name_mapped, name_right}
use Rattle.cyp_lex.proofs.Repeats.{repeated_spelling, repeating_reads}
use Rattle.cyp_lex.proofs.Behinds.{NameLeads, leads_both, leads_either, leads_mapped, leads_no_name}
use Rattle.cyp_text.specs.LitTrees.{LitTree}
use Rattle.cyp_text.specs.declared.tree.Conjunction.{Conjunction}
use Rattle.cyp_text.specs.declared.tree.Conjunction.TheVariants.{Ampersands, Slashes}
use Rattle.cyp_text.specs.declared.tree.ItemTree.{ItemTree}
use Rattle.cyp_text.specs.declared.tree.ItemTree.TheVariants.{LitItem, TrueItem}
use Rattle.cyp_text.specs.Grammar.{conjunction_sign, item_spelling, later_item, lit_spelling}
use Rattle.cyp_text.specs.LitReaders.{begins_lit}
use Rattle.cyp_text.specs.BodyReaders.{SomeItems, begins_item, conjunction_of, is_conjunction, item_at, item_tree, items_at, later_item_at}
use Rattle.cyp_text.proofs.LitLaws.{is_lit_tail, lit_ends}
use Rattle.cyp_text.proofs.NotLaws.{lit_leads, lit_reads, name_lit}
use Rattle.cyp_text.proofs.Consumed.{consumes}
use Rattle.cyp_text.proofs.ListsRead.{repeating_is}
use Rattle.cyp_text.proofs.ManyReads.{same_reads, sign_refuses}

true_lit : Apart (is_word True) begins_lit
true_lit (Reserved True) e = refl
true_lit k e = absurd cc

abbrev item_parts : ItemTree → Unit {0} ⊎ LitTree
item_parts TrueItem = inl tt
item_parts (LitItem l) = inr l

abbrev split_spelling : Unit {0} ⊎ LitTree → List Mark
split_spelling = spell_either (one (word_mark True)) lit_spelling

there : (x : Unit {0} ⊎ LitTree) → item_parts (item_tree x) ≡ x
there (inl u) = refl
there (inr l) = refl

again : (y : ItemTree) → item_tree (item_parts y) ≡ y
again TrueItem = refl
again (LitItem l) = refl

same : (y : ItemTree) → item_spelling y ≡ split_spelling (item_parts y)
same TrueItem = refl
same (LitItem l) = refl

name_split : NameBegins (Unit {0} ⊎ LitTree) split_spelling
name_split = name_right name_lit

pub item_reads : (n : ℕ) → Reads n ItemTree item_spelling begins_item lit_ends item_at
item_reads n = mapped_reads item_tree item_parts there again same (first_reads {fA = none} (word_reads True) (lit_reads n) true_lit name_split.shows (nowhere _) (within_self _))

pub name_item : NameBegins ItemTree item_spelling
name_item = name_mapped item_tree item_parts there same name_split

abbrev conjunction_said : Conjunction → Said
conjunction_said c = Symbol (conjunction_sign c)

conjunction_only : (k : Said) (c : Conjunction) → conjunction_of k ≡ Some c → k ≡ conjunction_said c
conjunction_only (Symbol SlashAnd) c e = let is : Slashes ≡ c = cc in ap conjunction_said is
conjunction_only (Symbol AndAnd) c e = let is : Ampersands ≡ c = cc in ap conjunction_said is
conjunction_only k c e = absurd cc

conjunction_back : (c : Conjunction) → conjunction_of (conjunction_said c) ≡ Some c
conjunction_back Slashes = refl
conjunction_back Ampersands = refl

conjunction_tells : Tells Conjunction conjunction_of conjunction_said
conjunction_tells = record { only = conjunction_only; back = conjunction_back; value = Slashes }

abbrev conjunction_mark : Conjunction → Mark
conjunction_mark c = Any (conjunction_said c)

conjunction_reads : {ends : Said → Bool} {n : ℕ} → Reads n Conjunction (one conjunction_mark) is_conjunction ends (single (plainly conjunction_of) NoName)
conjunction_reads = plainly_reads {of = conjunction_of} {said = conjunction_said} {want = NoName} conjunction_tells (λ x. refl)

pub later_reads : (n : ℕ) → Reads n (Conjunction × ItemTree) later_item is_conjunction lit_ends later_item_at
later_reads n = both_reads {fA = none} conjunction_reads (item_reads n) (apart_none _)

conjunction_semicolon : Apart is_conjunction (is_sign Semicolon)
conjunction_semicolon (Symbol Semicolon) e = absurd cc
conjunction_semicolon k e = refl

item_ended : Apart (one_of is_conjunction (is_sign Semicolon)) lit_ends
item_ended (Symbol Plus) e = absurd cc
item_ended (Symbol Minus) e = absurd cc
item_ended (Symbol TwoPluses) e = absurd cc
item_ended (Name x) e = absurd cc
item_ended k e = refl

abbrev pub items_spelling : SomeItems → List Mark
items_spelling = spell_both item_spelling (repeated_spelling later_item (one (sign_mark Semicolon)))

pub items_reads : (n : ℕ) → Reads n SomeItems items_spelling begins_item none items_at
items_reads n = both_reads (item_reads n) (same_reads (repeating_is is_conjunction (is_sign Semicolon) later_item_at (sign_token Semicolon) (consumes later_reads) (sign_refuses Semicolon))
    (repeating_reads NoName conjunction_semicolon item_ended (λ x. refl) later_reads (λ m. sign_reads Semicolon) n)) item_ended

true_leads : NameLeads (Unit {0}) (one (word_mark True)) is_lit_tail
true_leads = leads_no_name is_lit_tail (word_reads {ends = none} {n = 0} True) (λ x. refl)

pub items_leads : NameLeads SomeItems items_spelling is_lit_tail
items_leads = leads_both (repeated_spelling later_item (one (sign_mark Semicolon))) (leads_mapped item_parts same (leads_either true_leads lit_leads))
