-- No name of a text stands for a cardinality.
use Rattle.std.proofs.Common.{List, None, Option, Some, [], ap, false, filter, flat_map, inl, inr, map, not, refl, sym, true, ◌++◌, ◌∙◌, ◌∷◌, ◌≡◌, ◌≢◌}
use Rattle.std.specs.Prelude.{Bool, cond, length, ◌==◌, ℕ}
use Rattle.std.specs.Str.{bytes_eq}
use Rattle.cyp_lex.specs.declared.ident.Ident.{Ident}
use Rattle.cyp_term.specs.declared.term.Sort.{Sort}
use Rattle.cyp_term.specs.declared.term.Sort.TheVariants.{Card, Int, Set}
use Rattle.cyp_term.proofs.Lists.{Among, Among-cases, flat_out, map_from}
use Rattle.cyp_names.specs.Bodies.{body_lits, in_kinds, is_name, is_turned, kept_body, kept_lit, kept_parts, kept_set}
use Rattle.cyp_names.specs.ReadTerms.{Scope, sort_in}
use Rattle.cyp_text.specs.LitTrees.{Comparing, Inside, LitTree, Negation, SameSets, SubSets}
use Rattle.cyp_text.specs.declared.tree.ArgTree.{ArgTree}
use Rattle.cyp_text.specs.declared.tree.ArgTree.TheVariants.{BracesArg, TermArg, UnionArg}
use Rattle.cyp_text.specs.declared.tree.BodyTree.{BodyTree}
use Rattle.cyp_text.specs.declared.tree.ChunkTree.{ChunkTree}
use Rattle.cyp_text.specs.declared.tree.ChunkTree.TheVariants.{BlockOf, InstanceOf, NamedCell, TermCell}
use Rattle.cyp_text.specs.declared.tree.IntTree.{IntTree}
use Rattle.cyp_text.specs.declared.tree.IntTree.TheVariants.{MinusNum, NameMinus, NamePlus, Named, Num, NumPlus}
use Rattle.cyp_text.specs.declared.tree.ParamTree.{ParamTree}
use Rattle.cyp_text.specs.declared.tree.PartTree.{PartTree}
use Rattle.cyp_text.specs.declared.tree.PartTree.TheVariants.{Braces, PartName}
use Rattle.cyp_text.specs.declared.tree.PredTree.{PredTree}
use Rattle.cyp_text.specs.declared.tree.SetTree.{SetTree}
use Rattle.cyp_text.specs.declared.tree.SortTree.{SortTree}
use Rattle.cyp_text.specs.declared.tree.SortTree.TheVariants.{IntSort, LocSort, SetSort}
use Rattle.cyp_names.specs.Uses.{Use, arg_sorts, arg_uses, args_uses, chunk_uses, int_uses, param_sort, param_uses, part_uses, pred_named, set_parts, sort_of, sorts_of, use_of}

-- the name stands for no cardinality
abbrev pub IsPlain : Use → Type 0
IsPlain u = u.sort ≢ Card

-- none of these does
abbrev pub ArePlain : List Use → Type 0
ArePlain us = (u : Use) → Among u us → IsPlain u

plain_one : (s : Sort) (i : Ident) → s ≢ Card → ArePlain (use_of s i ∷ [])
plain_one s i n u (inl e) = λ c. n (sym (ap (λ (w : Use). w.sort) e) ∙ c)
plain_one s i n u (inr m) = absurd m

pub plain_both : (us ws : List Use) → ArePlain us → ArePlain ws → ArePlain (us ++ ws)
plain_both us ws p q u m = elim (Among-cases u us ws m) [ inl a ↦ p u a | inr b ↦ q u b ]

plain_flat : {A : Type 0} (f : A → List Use) (xs : List A) → ((x : A) → ArePlain (f x)) → ArePlain (flat_map f xs)
plain_flat f xs p u m = let o = flat_out f u xs m in p o.0 u o.2

none_plain : ArePlain []
none_plain u m = absurd m

not_card_int : Int ≢ Card
not_card_int e = cc

not_card_set : Set ≢ Card
not_card_set e = cc

int_plain : (t : IntTree) → ArePlain (int_uses t)
int_plain (Num p n) = none_plain
int_plain (MinusNum p n) = none_plain
int_plain (Named i) = plain_one Int i not_card_int
int_plain (NamePlus i n) = plain_one Int i not_card_int
int_plain (NameMinus i n) = plain_one Int i not_card_int
int_plain (NumPlus p n i) = plain_one Int i not_card_int

part_plain : (w : PartTree) → ArePlain (part_uses w)
part_plain (PartName i) = plain_one Set i not_card_set
part_plain (Braces p ts) = plain_flat int_uses ts int_plain

parts_plain : (ws : List PartTree) → ArePlain (kept_parts ws)
parts_plain ws = plain_both _ _ (plain_flat part_uses (filter is_name ws) part_plain) (plain_flat part_uses (filter (λ w. not (is_name w)) ws) part_plain)

set_plain : (w : SetTree) → ArePlain (kept_set w)
set_plain w = parts_plain (set_parts w)

lit_plain : (n : Bool) (l : LitTree) → ArePlain (kept_lit n l)
lit_plain n (Comparing a c b) = by_turn (is_turned n c)
  where
    by_turn : (t : Bool) → ArePlain (cond t (int_uses b ++ int_uses a) (int_uses a ++ int_uses b))
    by_turn true = plain_both _ _ (int_plain b) (int_plain a)
    by_turn false = plain_both _ _ (int_plain a) (int_plain b)
lit_plain n (SameSets a b) = plain_both _ _ (set_plain a) (set_plain b)
lit_plain n (SubSets a b) = plain_both _ _ (set_plain a) (set_plain b)
lit_plain n (Inside a b) = plain_both _ _ (int_plain a) (set_plain b)
lit_plain n (Negation p l) = lit_plain (not n) l

-- ---- parameters and chunks

pub param_plain : (p : ParamTree) → param_sort p ≢ Card
param_plain p = by_sort p.sort
  where
    by_sort : (s : SortTree) → sort_of s ≢ Card
    by_sort LocSort = not_card_int
    by_sort IntSort = not_card_int
    by_sort SetSort = not_card_set

pub params_plain : (ps : List ParamTree) → ArePlain (param_uses ps)
params_plain ps u m =
    let f = map_from (λ (p : ParamTree). use_of (param_sort p) p.name) u ps m in
    λ c. param_plain f.0 (sym (ap (λ (w : Use). w.sort) f.2) ∙ c)

sorts_plain : (n : ℕ) (q : Option PredTree) (s : Sort) → Among s (sorts_of n q) → s ≢ Card
sorts_plain n None s m = absurd m
sorts_plain n (Some q) s m = by_length (length q.params == n) m
  where
    by_length : (t : Bool) → Among s (cond t (map param_sort q.params) []) → s ≢ Card
    by_length false k = absurd k
    by_length true k = let f = map_from param_sort s q.params k in λ c. param_plain f.0 (sym f.2 ∙ c)

pub arg_sorts_plain : (qs : List PredTree) (i : Ident) (xs : List ArgTree) (s : Sort) → Among s (arg_sorts qs i xs) → s ≢ Card
arg_sorts_plain qs i xs = sorts_plain (length xs) (pred_named i.text qs)

arg_plain : (s : Option Sort) → ((r : Sort) → s ≡ Some r → r ≢ Card) → (x : ArgTree) → ArePlain (arg_uses kept_parts s x)
arg_plain None n (TermArg (Named i)) = none_plain
arg_plain (Some s) n (TermArg (Named i)) = plain_one s i (n s refl)
arg_plain s n (TermArg t) = int_plain t
arg_plain s n (BracesArg p ts us) = parts_plain (Braces p ts ∷ us)
arg_plain s n (UnionArg i u us) = parts_plain (PartName i ∷ u ∷ us)

args_plain : (ss : List Sort) → ((s : Sort) → Among s ss → s ≢ Card) → (xs : List ArgTree) → ArePlain (args_uses kept_parts ss xs)
args_plain ss n [] = none_plain
args_plain [] n (x ∷ xs) = plain_both _ _ (arg_plain None (λ r e. absurd cc) x) (args_plain [] n xs)
args_plain (s ∷ ss) n (x ∷ xs) =
    plain_both (arg_uses kept_parts (Some s) x) (args_uses kept_parts ss xs) (arg_plain (Some s) (λ r e. n r (inl (sym (some_same e)))) x) (args_plain ss (λ r m. n r (inr m)) xs)
  where
    some_same : {a b : Sort} → Some a ≡ Some b → a ≡ b
    some_same e = cc

chunk_plain : (qs : List PredTree) (c : ChunkTree) → ArePlain (chunk_uses kept_parts qs c)
chunk_plain qs (NamedCell i t) = plain_both (use_of Int i ∷ []) (int_uses t) (plain_one Int i not_card_int) (int_plain t)
chunk_plain qs (TermCell a t) = plain_both _ _ (int_plain a) (int_plain t)
chunk_plain qs (BlockOf a p n) = int_plain a
chunk_plain qs (InstanceOf i xs) = args_plain (arg_sorts qs i xs) (arg_sorts_plain qs i xs) xs

pub body_plain : (qs : List PredTree) (b : BodyTree) → ArePlain (kept_body qs b)
body_plain qs b = plain_both _ _ (plain_flat (kept_lit false) (body_lits b) (lit_plain false)) (plain_flat (chunk_uses kept_parts qs) (in_kinds b.chunks) (chunk_plain qs))

-- no name of such a scope has sort Card
pub sort_plain : (sc : Scope) (a : List ℕ) → ArePlain sc → sort_in sc a ≢ Card
sort_plain [] a p = not_card_int
sort_plain (u ∷ us) a p = by_test (sort_plain us a (λ w m. p w (inr m))) (bytes_eq u.name.text a)
  where
    by_test : sort_in us a ≢ Card → (t : Bool) → cond t u.sort (sort_in us a) ≢ Card
    by_test more true = p u (inl refl)
    by_test more false = more
