-- A clause without faults of names and sorts, whose numbers are small, can be read in its scope.
use Rattle.std.proofs.Common.{List, [], flat_map, length, subst, ◌++◌, ◌≤◌, ◌≡◌, arith, true, false}
use Rattle.std.specs.Prelude.{nat_le, ◌&&◌}
use Rattle.std.specs.List.{All}
use Rattle.std.proofs.lemmas.Bool.{and_parts, leb-true}
use Rattle.cyp_reading.proofs.Alls.{all_by}
use Rattle.cyp_spec.proofs.SortedRead.{Sorted, args_readable, lit_readable, pure_readable, sorted_flat, sorted_left, sorted_right}
use Rattle.cyp_spec.proofs.TextsReadable.{count_all, in_a_kind}
use Rattle.cyp_spec.specs.Elements.{ArgsOf}
use Rattle.cyp_reading.specs.Readable.{LitReadable, PureReadable}
use Rattle.cyp_spec.specs.Small.{ChunkSmall, ClauseSmall}
use Rattle.cyp_term.proofs.Lists.{Among, Among-left, Among-right}
use Rattle.cyp_term.specs.declared.term.Sort.TheVariants.{Int, Set}
use Rattle.cyp_formed.proofs.FormedClauses.{guard_within, kept, name_sort}
use Rattle.cyp_formed.proofs.PlainSorts.{ArePlain, arg_sorts_plain, body_plain, params_plain, plain_both}
use Rattle.cyp_names.proofs.ScopeNames.{grow}
use Rattle.cyp_names.specs.Bodies.{body_lits, in_kinds, kept_body, kept_lit, kept_parts}
use Rattle.cyp_text.specs.LitTrees.{LitTree}
use Rattle.cyp_names.specs.NameFaults.{clause_faults, param_names, repeats}
use Rattle.cyp_names.specs.ReadTerms.{Scope}
use Rattle.cyp_names.specs.Specifications.{clause_scope, count_sort}
use Rattle.cyp_names.specs.Uses.{Use, arg_sorts, chunk_uses, param_uses}
use Rattle.cyp_text.specs.declared.tree.BodyTree.{BodyTree}
use Rattle.cyp_text.specs.declared.tree.ChunkTree.{ChunkTree}
use Rattle.cyp_text.specs.declared.tree.ChunkTree.TheVariants.{BlockOf, InstanceOf, NamedCell, TermCell}
use Rattle.cyp_text.specs.declared.tree.ClauseTree.{ClauseTree}
use Rattle.cyp_text.specs.declared.tree.ItemTree.TheVariants.{LitItem}
use Rattle.cyp_text.specs.declared.tree.ParamTree.{ParamTree}
use Rattle.cyp_text.specs.declared.tree.PredTree.{PredTree}
use Rattle.cyp_text.specs.declared.tree.PureTree.TheVariants.{Items}

-- ---- few names

pub few_names : (sc : Scope) → ArePlain sc → (nat_le (count_sort Int sc) 64 && nat_le (count_sort Set sc) 32) ≡ true → length sc ≤ 255
few_names sc plain h =
    let parts = and_parts (nat_le (count_sort Int sc) 64) (nat_le (count_sort Set sc) 32) h in
    omega (arith, count_all sc plain, leb-true (count_sort Int sc) 64 parts.0, leb-true (count_sort Set sc) 32 parts.1)

-- ---- a body whose names have their sorts in a scope

module _ (qs : List PredTree) (sc : Scope) where
  args_of : (c : ChunkTree) → ChunkSmall c → Sorted sc (chunk_uses kept_parts qs c) → ArgsOf qs sc c
  args_of (InstanceOf i xs) k h = args_readable sc (arg_sorts qs i xs) (arg_sorts_plain qs i xs) xs k h
  args_of (BlockOf a p n) k h = tt
  args_of (NamedCell i t) k h = tt
  args_of (TermCell a t) k h = tt

  module _ (b : BodyTree) (sorted : Sorted sc (kept_body qs b)) where
    abbrev lit_part : List Use
    lit_part = flat_map (kept_lit false) (body_lits b)

    abbrev chunk_part : List Use
    chunk_part = flat_map (chunk_uses kept_parts qs) (in_kinds b.chunks)

    pub lits_sorted : (l : LitTree) → Among l (body_lits b) → Sorted sc (kept_lit false l)
    lits_sorted l m = sorted_flat sc (kept_lit false) l (body_lits b) m (sorted_left sc lit_part chunk_part sorted)

    pub chunks_args : All ChunkSmall b.chunks → All (ArgsOf qs sc) b.chunks
    chunks_args = all_by ChunkSmall (ArgsOf qs sc) b.chunks (λ c m k.
        args_of c k (sorted_flat sc (chunk_uses kept_parts qs) c (in_kinds b.chunks) (in_a_kind c b.chunks m) (sorted_right sc lit_part chunk_part sorted)))

-- ---- a clause

module _ (qs : List PredTree) (ps : List ParamTree) (c : ClauseTree) (once : repeats [] (param_names ps) ≡ []) (none : clause_faults qs ps c ≡ []) where
  body_sorted : Sorted (clause_scope qs ps c) (kept_body qs c.body)
  body_sorted u m = name_sort qs ps c once none u (Among-right u (param_uses ps ++ kept_lit false c.guard) (kept_body qs c.body) m)

  pub guard_ready : ClauseSmall c → LitReadable (clause_scope qs ps c) c.guard
  guard_ready small = lit_readable (clause_scope qs ps c) false c.guard small.guard (λ u m. name_sort qs ps c once none u (guard_within qs ps c once none u m))

  pub pure_ready : ClauseSmall c → PureReadable (clause_scope qs ps c) c.body.pure
  pure_ready small = pure_readable (clause_scope qs ps c) c.body.pure small.body.pure (lits_sorted qs (clause_scope qs ps c) c.body body_sorted)

  pub args_ready : ClauseSmall c → All (ArgsOf qs (clause_scope qs ps c)) c.body.chunks
  args_ready small = chunks_args qs (clause_scope qs ps c) c.body body_sorted small.body.chunks

  pub scope_plain : ArePlain (clause_scope qs ps c)
  scope_plain u m = kept_plain u ((grow [] (kept qs ps c once none)).only u (subst (λ (us : Scope). Among u us) (grow [] (kept qs ps c once none)).parts m))
    where
      guard_plain : ArePlain (kept_lit false c.guard)
      guard_plain w k = body_plain qs (record { pure = Items (LitItem c.guard) []; chunks = [] }) w (Among-left w (kept_lit false c.guard ++ []) [] (Among-left w (kept_lit false c.guard) [] k))

      kept_plain : ArePlain (param_uses ps ++ kept_lit false c.guard ++ kept_body qs c.body)
      kept_plain = plain_both (param_uses ps ++ kept_lit false c.guard) (kept_body qs c.body) (plain_both (param_uses ps) (kept_lit false c.guard) (params_plain ps) guard_plain) (body_plain qs c.body)
