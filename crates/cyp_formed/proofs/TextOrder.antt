-- What is kept has no other names than the text.
use Rattle.std.proofs.Common.{List, None, Option, Some, [], filter, flat_map, false, inl, inr, not, true, ◌++◌, ◌∷◌}
use Rattle.std.specs.Prelude.{Bool, cond}
use Rattle.cyp_term.specs.declared.term.Sort.{Sort}
use Rattle.cyp_term.proofs.Lists.{Among, Among-cases, Among-left, Among-right, filter_out, flat_in, flat_out}
use Rattle.cyp_names.specs.Bodies.{body_lits, body_uses, in_kinds, is_name, is_turned, kept_body, kept_lit, kept_parts, kept_set}
use Rattle.cyp_text.specs.LitTrees.{Comparing, Inside, LitTree, Negation, SameSets, SubSets}
use Rattle.cyp_text.specs.declared.tree.ArgTree.{ArgTree}
use Rattle.cyp_text.specs.declared.tree.ArgTree.TheVariants.{BracesArg, TermArg, UnionArg}
use Rattle.cyp_text.specs.declared.tree.BodyTree.{BodyTree}
use Rattle.cyp_text.specs.declared.tree.ChunkTree.{ChunkTree}
use Rattle.cyp_text.specs.declared.tree.ChunkTree.TheVariants.{BlockOf, InstanceOf, NamedCell, TermCell}
use Rattle.cyp_text.specs.declared.tree.IntTree.TheVariants.{Named}
use Rattle.cyp_text.specs.declared.tree.PartTree.{PartTree}
use Rattle.cyp_text.specs.declared.tree.PartTree.TheVariants.{Braces, PartName}
use Rattle.cyp_text.specs.declared.tree.PredTree.{PredTree}
use Rattle.cyp_text.specs.declared.tree.SetTree.{SetTree}
use Rattle.cyp_names.specs.Uses.{Use, arg_sorts, arg_uses, args_uses, chunk_uses, int_uses, lit_uses, part_uses, parts_uses, set_parts, set_uses}
use Rattle.cyp_formed.proofs.FormedInstances.{kinds_among}

module _ (u : Use) where
  both_in : (xs ys vs ws : List Use) → (Among u xs → Among u vs) → (Among u ys → Among u ws) → Among u (xs ++ ys) → Among u (vs ++ ws)
  both_in xs ys vs ws f g m = elim (Among-cases u xs ys m) [ inl a ↦ Among-left u vs ws (f a) | inr b ↦ Among-right u vs ws (g b) ]

  some_in : (us : List PartTree) (test : PartTree → Bool) → Among u (flat_map part_uses (filter test us)) → Among u (parts_uses us)
  some_in us test m =
      let o = flat_out part_uses u (filter test us) m in
      flat_in part_uses u o.0 us (filter_out test o.0 us o.1).0 o.2

  parts_in : (us : List PartTree) → Among u (kept_parts us) → Among u (parts_uses us)
  parts_in us m = elim (Among-cases u (flat_map part_uses (filter is_name us)) _ m) [ inl a ↦ some_in us is_name a | inr b ↦ some_in us (λ w. not (is_name w)) b ]

  set_in : (w : SetTree) → Among u (kept_set w) → Among u (set_uses w)
  set_in w m = parts_in (set_parts w) m

  either_in : (turned : Bool) (xs ys : List Use) → Among u (cond turned (ys ++ xs) (xs ++ ys)) → Among u (xs ++ ys)
  either_in false xs ys m = m
  either_in true xs ys m = elim (Among-cases u ys xs m) [ inl a ↦ Among-right u xs ys a | inr b ↦ Among-left u xs ys b ]

  pub lit_in : (n : Bool) (l : LitTree) → Among u (kept_lit n l) → Among u (lit_uses l)
  lit_in n (Comparing a c b) m = either_in (is_turned n c) (int_uses a) (int_uses b) m
  lit_in n (SameSets a b) m = both_in (kept_set a) (kept_set b) _ _ (set_in a) (set_in b) m
  lit_in n (SubSets a b) m = both_in (kept_set a) (kept_set b) _ _ (set_in a) (set_in b) m
  lit_in n (Inside a b) m = both_in (int_uses a) (kept_set b) _ _ (λ k. k) (set_in b) m
  lit_in n (Negation p l) m = lit_in (not n) l m

  arg_in : (s : Option Sort) (x : ArgTree) → Among u (arg_uses kept_parts s x) → Among u (arg_uses parts_uses s x)
  arg_in None (TermArg (Named i)) m = m
  arg_in (Some s) (TermArg (Named i)) m = m
  arg_in s (TermArg t) m = m
  arg_in s (BracesArg p ts us) m = parts_in (Braces p ts ∷ us) m
  arg_in s (UnionArg i w us) m = parts_in (PartName i ∷ w ∷ us) m

  args_in : (ss : List Sort) (xs : List ArgTree) → Among u (args_uses kept_parts ss xs) → Among u (args_uses parts_uses ss xs)
  args_in [] [] m = m
  args_in (s ∷ ss) [] m = m
  args_in [] (x ∷ xs) m = both_in (arg_uses kept_parts None x) (args_uses kept_parts [] xs) _ _ (arg_in None x) (args_in [] xs) m
  args_in (s ∷ ss) (x ∷ xs) m = both_in (arg_uses kept_parts (Some s) x) (args_uses kept_parts ss xs) _ _ (arg_in (Some s) x) (args_in ss xs) m

  chunk_in : (qs : List PredTree) (c : ChunkTree) → Among u (chunk_uses kept_parts qs c) → Among u (chunk_uses parts_uses qs c)
  chunk_in qs (NamedCell i t) m = m
  chunk_in qs (TermCell a t) m = m
  chunk_in qs (BlockOf a p n) m = m
  chunk_in qs (InstanceOf i xs) m = args_in (arg_sorts qs i xs) xs m

  pub body_in : (qs : List PredTree) (b : BodyTree) → Among u (kept_body qs b) → Among u (body_uses qs b)
  body_in qs b m = both_in (flat_map (kept_lit false) (body_lits b)) (flat_map (chunk_uses kept_parts qs) (in_kinds b.chunks)) _ _ lits chunks m
    where
      lits : Among u (flat_map (kept_lit false) (body_lits b)) → Among u (flat_map lit_uses (body_lits b))
      lits k = let o = flat_out (kept_lit false) u (body_lits b) k in flat_in lit_uses u o.0 (body_lits b) o.1 (lit_in false o.0 o.2)

      chunks : Among u (flat_map (chunk_uses kept_parts qs) (in_kinds b.chunks)) → Among u (flat_map (chunk_uses parts_uses qs) b.chunks)
      chunks k =
          let o = flat_out (chunk_uses kept_parts qs) u (in_kinds b.chunks) k in
          flat_in (chunk_uses parts_uses qs) u o.0 b.chunks (kinds_among b.chunks o.0 o.1) (chunk_in qs o.0 o.2)
