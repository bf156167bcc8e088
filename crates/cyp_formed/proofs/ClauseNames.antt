-- The names of a clause that is read, where it has no faults of names and sorts and is within the limits: they are few, and the scope has each.
use Rattle.std.proofs.Common.{List, [], arith, false, flat_map, length, refl, subst, true, ◌++◌, ◌≤◌, ◌≡◌, ◌&&◌}
use Rattle.std.specs.Prelude.{Bool, nat_le}
use Rattle.std.proofs.lemmas.Bool.{leb-true}
use Rattle.cyp_heap.specs.PredsFormed.{is_clause_within}
use Rattle.cyp_heap.specs.declared.pred.Clause.{Clause}
use Rattle.cyp_term.specs.declared.term.Sort.TheVariants.{Int, Set}
use Rattle.cyp_term.proofs.Lists.{Among, Among-left, Among-right}
use Rattle.cyp_names.specs.Bodies.{body_uses, kept_body, kept_lit}
use Rattle.cyp_names.specs.NameFaults.{chunk_faults, clause_faults, guard_faults, param_names, repeats, sort_faults}
use Rattle.cyp_names.specs.ReadTerms.{Scope, sort_in}
use Rattle.cyp_names.specs.Specifications.{clause_scope, count_sort, read_clause}
use Rattle.cyp_text.specs.LitTrees.{LitTree}
use Rattle.cyp_text.specs.declared.tree.BodyTree.{BodyTree}
use Rattle.cyp_text.specs.declared.tree.ChunkTree.{ChunkTree}
use Rattle.cyp_text.specs.declared.tree.ClauseTree.{ClauseTree}
use Rattle.cyp_text.specs.declared.tree.ItemTree.TheVariants.{LitItem}
use Rattle.cyp_text.specs.declared.tree.ParamTree.{ParamTree}
use Rattle.cyp_text.specs.declared.tree.PredTree.{PredTree}
use Rattle.cyp_text.specs.declared.tree.PureTree.TheVariants.{Items}
use Rattle.cyp_names.specs.Uses.{Use, lit_uses, param_uses}
use Rattle.cyp_formed.proofs.FormedClauses.{name_sort}
use Rattle.cyp_names.proofs.NoFaults.{none_both, none_each}
use Rattle.cyp_formed.proofs.PlainSorts.{ArePlain, body_plain, params_plain, plain_both}
use Rattle.cyp_formed.proofs.Nameables.{HasAll, Nameable}
use Rattle.cyp_names.proofs.ScopeNames.{grow}

-- a literal is read without repeats, and stands for no cardinality, as a body of it alone does
abbrev pub alone : LitTree → BodyTree
alone l = record { pure = Items (LitItem l) []; chunks = [] }

plain_alone : (qs : List PredTree) (l : LitTree) → ArePlain (kept_lit false l)
plain_alone qs l u m = body_plain qs (alone l) u (Among-left u (kept_lit false l ++ []) [] (Among-left u (kept_lit false l) [] m))

few_names : (chunks lits ints sets elements : Bool) → (chunks && lits && ints && sets && elements) ≡ true → (ints ≡ true) × (sets ≡ true)
few_names true true true true true e = (refl, refl)
few_names false _ _ _ _ e = absurd cc
few_names true false _ _ _ e = absurd cc
few_names true true false _ _ e = absurd cc
few_names true true true false _ e = absurd cc
few_names true true true true false e = absurd cc

few_within : (cl : Clause) → is_clause_within cl ≡ true → (cl.ints ≤ 64) × (cl.sets ≤ 64)
few_within cl e =
    let few : (nat_le cl.ints 64 ≡ true) × (nat_le cl.sets 32 ≡ true) = few_names (nat_le (length cl.heap.chunks) 8) (nat_le (length cl.lits) 8) (nat_le cl.ints 64) (nat_le cl.sets 32) _ e in
    let sets : cl.sets ≤ 32 = leb-true cl.sets 32 few.1 in
    (leb-true cl.ints 64 few.0, omega arith)

module _ (qs : List PredTree) (ps : List ParamTree) (c : ClauseTree) (once : repeats [] (param_names ps) ≡ []) (none : clause_faults qs ps c ≡ []) (within : is_clause_within (read_clause qs ps c) ≡ true) where
  abbrev sc : Scope
  sc = clause_scope qs ps c

  abbrev kept : List Use
  kept = param_uses ps ++ kept_lit false c.guard ++ kept_body qs c.body

  pub chunks_right : (d : ChunkTree) → Among d c.body.chunks → chunk_faults qs d ≡ []
  chunks_right =
      none_each (chunk_faults qs) c.body.chunks
      (none_both (guard_faults ps c.guard ++ sort_faults (param_uses ps) (lit_uses c.guard ++ body_uses qs c.body)) (flat_map (chunk_faults qs) c.body.chunks) none).1

  pub guard_none : guard_faults ps c.guard ≡ []
  guard_none = (none_both (guard_faults ps c.guard) (sort_faults (param_uses ps) (lit_uses c.guard ++ body_uses qs c.body))
      (none_both (guard_faults ps c.guard ++ sort_faults (param_uses ps) (lit_uses c.guard ++ body_uses qs c.body)) (flat_map (chunk_faults qs) c.body.chunks) none).0).0

  pub right : (u : Use) → Among u kept → sort_in sc u.name.text ≡ u.sort
  right u m = name_sort qs ps c once none u m

  pub has : HasAll sc kept
  has u m = (grow [] kept).new_there u m

  pub in_params : (u : Use) → Among u (param_uses ps) → Among u kept
  in_params u m = Among-left u (param_uses ps ++ kept_lit false c.guard) (kept_body qs c.body) (Among-left u (param_uses ps) (kept_lit false c.guard) m)

  pub in_guard : (u : Use) → Among u (kept_lit false c.guard) → Among u kept
  in_guard u m = Among-left u (param_uses ps ++ kept_lit false c.guard) (kept_body qs c.body) (Among-right u (param_uses ps) (kept_lit false c.guard) m)

  pub in_body : (u : Use) → Among u (kept_body qs c.body) → Among u kept
  in_body u m = Among-right u (param_uses ps ++ kept_lit false c.guard) (kept_body qs c.body) m

  few : (count_sort Int sc ≤ 64) × (count_sort Set sc ≤ 64)
  few = few_within (read_clause qs ps c) within

  kept_plain : ArePlain kept
  kept_plain = plain_both (param_uses ps ++ kept_lit false c.guard) (kept_body qs c.body) (plain_both (param_uses ps) (kept_lit false c.guard) (params_plain ps) (plain_alone qs c.guard)) (body_plain qs c.body)

  pub ok : Nameable sc
  ok = record {
    plain = λ u m. kept_plain u ((grow [] kept).only u (subst (λ (us : Scope). Among u us) (grow [] kept).parts m));
    few_ints = few.0;
    few_sets = few.1;
  }
