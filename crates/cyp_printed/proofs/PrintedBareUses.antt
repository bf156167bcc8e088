-- The names of a tree without places.
use Rattle.std.proofs.Common.{List, None, Option, Some, [], ap, cond, false, filter, flat_map, length, map, not, refl, true, ◌++◌, ◌∙◌, ◌∷◌, ◌≡◌, ℕ, suc}
use Rattle.std.specs.Prelude.{Bool, ◌==◌}
use Rattle.std.specs.Str.{bytes_eq}
use Rattle.cyp_lex.specs.declared.ident.Ident.{Ident}
use Rattle.cyp_term.specs.declared.term.Sort.{Sort}
use Rattle.cyp_term.specs.declared.term.Sort.TheVariants.{Int}
use Rattle.cyp_names.specs.Bodies.{body_lits, body_uses, in_kinds, is_block, is_cell, is_instance, is_name, is_turned, item_lits, kept_body, kept_lit, kept_parts, kept_set, pure_lits}
use Rattle.cyp_text.specs.LitTrees.{Comparing, Inside, LitTree, Negation, SameSets, SubSets}
use Rattle.cyp_text.specs.declared.tree.ArgTree.{ArgTree}
use Rattle.cyp_text.specs.declared.tree.ArgTree.TheVariants.{BracesArg, TermArg, UnionArg}
use Rattle.cyp_text.specs.declared.tree.BodyTree.{BodyTree}
use Rattle.cyp_text.specs.declared.tree.ChunkTree.{ChunkTree}
use Rattle.cyp_text.specs.declared.tree.ChunkTree.TheVariants.{BlockOf, InstanceOf, NamedCell, TermCell}
use Rattle.cyp_text.specs.declared.tree.Conjunction.{Conjunction}
use Rattle.cyp_text.specs.declared.tree.IntTree.{IntTree}
use Rattle.cyp_text.specs.declared.tree.IntTree.TheVariants.{Named, Num}
use Rattle.cyp_text.specs.declared.tree.ItemTree.{ItemTree}
use Rattle.cyp_text.specs.declared.tree.ItemTree.TheVariants.{LitItem, TrueItem}
use Rattle.cyp_text.specs.declared.tree.ParamTree.{ParamTree}
use Rattle.cyp_text.specs.declared.tree.PartTree.{PartTree}
use Rattle.cyp_text.specs.declared.tree.PartTree.TheVariants.{Braces, PartName}
use Rattle.cyp_text.specs.declared.tree.PredTree.{PredTree}
use Rattle.cyp_text.specs.declared.tree.PureTree.{PureTree}
use Rattle.cyp_text.specs.declared.tree.PureTree.TheVariants.{Items, NoItems}
use Rattle.cyp_names.specs.Uses.{Use, arg_sorts, arg_uses, args_uses, chunk_uses, int_uses, lit_uses, param_sort, param_uses, part_uses, parts_uses, pred_named, pred_place, set_parts, set_uses, sorts_of, use_of}
use Rattle.cyp_printed.proofs.PrintedBare.{bare_arg, bare_body, bare_chunk, bare_ident, bare_int, bare_item, bare_later, bare_lit, bare_param, bare_part, bare_pred, bare_pure, bare_use}
use Rattle.cyp_formed.proofs.Maps.{both_mapped, filter_mapped, flat_mapped, length_mapped, map_then}

bare_int_uses : (t : IntTree) → int_uses (bare_int t) ≡ map bare_use (int_uses t)
bare_int_uses (Num p n) = refl
bare_int_uses _ = refl

bare_part_uses : (u : PartTree) → part_uses (bare_part u) ≡ map bare_use (part_uses u)
bare_part_uses (PartName i) = refl
bare_part_uses (Braces p ts) = flat_mapped bare_int int_uses int_uses bare_use bare_int_uses ts

bare_parts_uses : (us : List PartTree) → parts_uses (map bare_part us) ≡ map bare_use (parts_uses us)
bare_parts_uses us = flat_mapped bare_part part_uses part_uses bare_use bare_part_uses us

bare_is_name : (u : PartTree) → is_name (bare_part u) ≡ is_name u
bare_is_name (PartName i) = refl
bare_is_name (Braces p ts) = refl

bare_kept_parts : (us : List PartTree) → kept_parts (map bare_part us) ≡ map bare_use (kept_parts us)
bare_kept_parts us =
    both_mapped bare_use (flat_map part_uses (filter is_name us)) (flat_map part_uses (filter (λ u. not (is_name u)) us)) _ _
    (ap (λ (ws : List PartTree). flat_map part_uses ws) (filter_mapped bare_part is_name is_name bare_is_name us) ∙ bare_parts_uses (filter is_name us))
    (ap (λ (ws : List PartTree). flat_map part_uses ws) (filter_mapped bare_part (λ u. not (is_name u)) (λ u. not (is_name u)) (λ u. ap not (bare_is_name u)) us) ∙ bare_parts_uses (filter (λ u. not (is_name u)) us))

pub bare_lit_uses : (l : LitTree) → lit_uses (bare_lit l) ≡ map bare_use (lit_uses l)
bare_lit_uses (Comparing a c b) = both_mapped bare_use (int_uses a) (int_uses b) _ _ (bare_int_uses a) (bare_int_uses b)
bare_lit_uses (SameSets a b) = both_mapped bare_use (set_uses a) (set_uses b) _ _ (bare_parts_uses (set_parts a)) (bare_parts_uses (set_parts b))
bare_lit_uses (SubSets a b) = both_mapped bare_use (set_uses a) (set_uses b) _ _ (bare_parts_uses (set_parts a)) (bare_parts_uses (set_parts b))
bare_lit_uses (Inside a b) = both_mapped bare_use (int_uses a) (set_uses b) _ _ (bare_int_uses a) (bare_parts_uses (set_parts b))
bare_lit_uses (Negation p l) = bare_lit_uses l

turned : (t : Bool) (us ws : List Use) (us' ws' : List Use) → us' ≡ map bare_use us → ws' ≡ map bare_use ws → cond t (ws' ++ us') (us' ++ ws') ≡ map bare_use (cond t (ws ++ us) (us ++ ws))
turned true us ws us' ws' e f = both_mapped bare_use ws us ws' us' f e
turned false us ws us' ws' e f = both_mapped bare_use us ws us' ws' e f

pub bare_kept_lit : (n : Bool) (l : LitTree) → kept_lit n (bare_lit l) ≡ map bare_use (kept_lit n l)
bare_kept_lit n (Comparing a c b) = turned (is_turned n c) (int_uses a) (int_uses b) _ _ (bare_int_uses a) (bare_int_uses b)
bare_kept_lit n (SameSets a b) = both_mapped bare_use (kept_set a) (kept_set b) _ _ (bare_kept_parts (set_parts a)) (bare_kept_parts (set_parts b))
bare_kept_lit n (SubSets a b) = both_mapped bare_use (kept_set a) (kept_set b) _ _ (bare_kept_parts (set_parts a)) (bare_kept_parts (set_parts b))
bare_kept_lit n (Inside a b) = both_mapped bare_use (int_uses a) (kept_set b) _ _ (bare_int_uses a) (bare_kept_parts (set_parts b))
bare_kept_lit n (Negation p l) = bare_kept_lit (not n) l

-- ---- predicates

pub bare_param_uses : (ps : List ParamTree) → param_uses (map bare_param ps) ≡ map bare_use (param_uses ps)
bare_param_uses [] = refl
bare_param_uses (p ∷ ps) = ap (λ (us : List Use). record { name = bare_ident p.name; sort = param_sort p } ∷ us) (bare_param_uses ps)

-- the predicate without places, if there is one
abbrev pub bare_found : Option PredTree → Option PredTree
bare_found None = None
bare_found (Some q) = Some (bare_pred q)

pub bare_pred_named : (name : List ℕ) (qs : List PredTree) → pred_named name (map bare_pred qs) ≡ bare_found (pred_named name qs)
bare_pred_named name [] = refl
bare_pred_named name (q ∷ qs) = by_test (bytes_eq q.name.text name) (bare_pred_named name qs)
  where
    by_test : (t : Bool) → pred_named name (map bare_pred qs) ≡ bare_found (pred_named name qs) → cond t (Some (bare_pred q)) (pred_named name (map bare_pred qs)) ≡ bare_found (cond t (Some q) (pred_named name qs))
    by_test true h = refl
    by_test false h = h

pub bare_pred_place : (name : List ℕ) (qs : List PredTree) → pred_place name (map bare_pred qs) ≡ pred_place name qs
bare_pred_place name [] = refl
bare_pred_place name (q ∷ qs) = ap (λ (n : ℕ). cond (bytes_eq q.name.text name) 0 (suc n)) (bare_pred_place name qs)

pub bare_param_sorts : (ps : List ParamTree) → map param_sort (map bare_param ps) ≡ map param_sort ps
bare_param_sorts ps = map_then bare_param param_sort param_sort (λ p. refl) ps

bare_sorts_of : (n : ℕ) (q : Option PredTree) → sorts_of n (bare_found q) ≡ sorts_of n q
bare_sorts_of n None = refl
bare_sorts_of n (Some q) = ap (λ (k : ℕ). cond (k == n) (map param_sort (map bare_param q.params)) []) (length_mapped bare_param q.params) ∙ ap (λ (ss : List Sort). cond (length q.params == n) ss []) (bare_param_sorts q.params)

pub bare_arg_sorts : (qs : List PredTree) (i : Ident) (xs : List ArgTree) → arg_sorts (map bare_pred qs) (bare_ident i) (map bare_arg xs) ≡ arg_sorts qs i xs
bare_arg_sorts qs i xs =
    ap (λ (n : ℕ). sorts_of n (pred_named i.text (map bare_pred qs))) (length_mapped bare_arg xs)
    ∙ ap (λ (q : Option PredTree). sorts_of (length xs) q) (bare_pred_named i.text qs) ∙ bare_sorts_of (length xs) (pred_named i.text qs)

-- ---- chunks

module _ (parts : List PartTree → List Use) (bare_parts : (us : List PartTree) → parts (map bare_part us) ≡ map bare_use (parts us)) where
  bare_arg_uses : (s : Option Sort) (x : ArgTree) → arg_uses parts s (bare_arg x) ≡ map bare_use (arg_uses parts s x)
  bare_arg_uses None (TermArg (Named i)) = refl
  bare_arg_uses (Some s) (TermArg (Named i)) = refl
  bare_arg_uses s (TermArg t) = bare_int_uses t
  bare_arg_uses s (BracesArg p ts us) = bare_parts (Braces p ts ∷ us)
  bare_arg_uses s (UnionArg i u us) = bare_parts (PartName i ∷ u ∷ us)

  bare_args_uses : (ss : List Sort) (xs : List ArgTree) → args_uses parts ss (map bare_arg xs) ≡ map bare_use (args_uses parts ss xs)
  bare_args_uses ss [] = refl
  bare_args_uses [] (x ∷ xs) = both_mapped bare_use (arg_uses parts None x) (args_uses parts [] xs) _ _ (bare_arg_uses None x) (bare_args_uses [] xs)
  bare_args_uses (s ∷ ss) (x ∷ xs) = both_mapped bare_use (arg_uses parts (Some s) x) (args_uses parts ss xs) _ _ (bare_arg_uses (Some s) x) (bare_args_uses ss xs)

  bare_chunk_uses : (qs : List PredTree) (c : ChunkTree) → chunk_uses parts (map bare_pred qs) (bare_chunk c) ≡ map bare_use (chunk_uses parts qs c)
  bare_chunk_uses qs (NamedCell i t) = ap (λ (us : List Use). use_of Int (bare_ident i) ∷ us) (bare_int_uses t)
  bare_chunk_uses qs (TermCell a t) = both_mapped bare_use (int_uses a) (int_uses t) _ _ (bare_int_uses a) (bare_int_uses t)
  bare_chunk_uses qs (BlockOf a p n) = bare_int_uses a
  bare_chunk_uses qs (InstanceOf i xs) = ap (λ (ss : List Sort). args_uses parts ss (map bare_arg xs)) (bare_arg_sorts qs i xs) ∙ bare_args_uses (arg_sorts qs i xs) xs

pub bare_is_instance : (c : ChunkTree) → is_instance (bare_chunk c) ≡ is_instance c
bare_is_instance (NamedCell i t) = refl
bare_is_instance _ = refl

pub bare_is_block : (c : ChunkTree) → is_block (bare_chunk c) ≡ is_block c
bare_is_block (NamedCell i t) = refl
bare_is_block _ = refl

pub bare_is_cell : (c : ChunkTree) → is_cell (bare_chunk c) ≡ is_cell c
bare_is_cell (NamedCell i t) = refl
bare_is_cell _ = refl

pub bare_in_kinds : (cs : List ChunkTree) → in_kinds (map bare_chunk cs) ≡ map bare_chunk (in_kinds cs)
bare_in_kinds cs =
    both_mapped bare_chunk (filter is_instance cs ++ filter is_block cs) (filter is_cell cs) _ _
    (both_mapped bare_chunk (filter is_instance cs) (filter is_block cs) _ _ (filter_mapped bare_chunk is_instance is_instance bare_is_instance cs) (filter_mapped bare_chunk is_block is_block bare_is_block cs))
    (filter_mapped bare_chunk is_cell is_cell bare_is_cell cs)

-- ---- bodies

bare_item_lits : (i : ItemTree) → item_lits (bare_item i) ≡ map bare_lit (item_lits i)
bare_item_lits TrueItem = refl
bare_item_lits (LitItem l) = refl

bare_pure_lits : (p : PureTree) → pure_lits (bare_pure p) ≡ map bare_lit (pure_lits p)
bare_pure_lits NoItems = refl
bare_pure_lits (Items i is) =
    both_mapped bare_lit (item_lits i) (flat_map (λ (p : Conjunction × ItemTree). item_lits p.1) is) _ _ (bare_item_lits i)
    (flat_mapped bare_later (λ (p : Conjunction × ItemTree). item_lits p.1) (λ (p : Conjunction × ItemTree). item_lits p.1) bare_lit (λ p. bare_item_lits p.1) is)

pub bare_body_lits : (b : BodyTree) → body_lits (bare_body b) ≡ map bare_lit (body_lits b)
bare_body_lits b = bare_pure_lits b.pure

pub bare_body_uses : (qs : List PredTree) (b : BodyTree) → body_uses (map bare_pred qs) (bare_body b) ≡ map bare_use (body_uses qs b)
bare_body_uses qs b =
    both_mapped bare_use (flat_map lit_uses (body_lits b)) (flat_map (chunk_uses parts_uses qs) b.chunks) _ _
    (ap (λ (ls : List LitTree). flat_map lit_uses ls) (bare_body_lits b) ∙ flat_mapped bare_lit lit_uses lit_uses bare_use bare_lit_uses (body_lits b))
    (flat_mapped bare_chunk (chunk_uses parts_uses (map bare_pred qs)) (chunk_uses parts_uses qs) bare_use (bare_chunk_uses parts_uses bare_parts_uses qs) b.chunks)

pub bare_kept_body : (qs : List PredTree) (b : BodyTree) → kept_body (map bare_pred qs) (bare_body b) ≡ map bare_use (kept_body qs b)
bare_kept_body qs b =
    both_mapped bare_use (flat_map (kept_lit false) (body_lits b)) (flat_map (chunk_uses kept_parts qs) (in_kinds b.chunks)) _ _
    (ap (λ (ls : List LitTree). flat_map (kept_lit false) ls) (bare_body_lits b) ∙ flat_mapped bare_lit (kept_lit false) (kept_lit false) bare_use (bare_kept_lit false) (body_lits b))
    (ap (λ (cs : List ChunkTree). flat_map (chunk_uses kept_parts (map bare_pred qs)) cs) (bare_in_kinds b.chunks)
    ∙ flat_mapped bare_chunk (chunk_uses kept_parts (map bare_pred qs)) (chunk_uses kept_parts qs) bare_use (bare_chunk_uses kept_parts bare_kept_parts qs) (in_kinds b.chunks))
