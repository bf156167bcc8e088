-- Instances of a text without faults of names and sorts fit their predicates.
use Rattle.std.proofs.Common.{List, None, Option, Some, [], ap, arith, false, filter, inl, inr, length, map, refl, suc, sym, true, ℕ, ◌++◌, ◌∙◌, ◌∷◌, ◌≡◌, ◌≢◌}
use Rattle.std.specs.Prelude.{Bool, cond, slice_get, ◌==◌}
use Rattle.std.specs.List.{list_all}
use Rattle.std.specs.Str.{bytes_eq}
use Rattle.std.proofs.lemmas.List.{length-map}
use Rattle.std.proofs.lemmas.Bool.{and_from, eqb-true}
use Rattle.cyp_lex.specs.declared.ident.Ident.{Ident}
use Rattle.cyp_heap.specs.Chunks.{insts}
use Rattle.cyp_heap.specs.Formed.{arg_sort, fits_pred, inst_fits, sorts_fit}
use Rattle.cyp_heap.specs.declared.chunk.InstOf.{InstOf}
use Rattle.cyp_lex.specs.declared.fault.FaultKind.TheVariants.{WrongArity}
use Rattle.cyp_term.specs.Terms.{sort_eq}
use Rattle.cyp_term.specs.declared.term.Sort.{Sort}
use Rattle.cyp_term.specs.declared.term.Sort.TheVariants.{Card, Int, Set}
use Rattle.cyp_term.proofs.Lists.{Among, Among-cases, filter_out, map_from}
use Rattle.cyp_names.specs.Bodies.{in_kinds, is_block, is_cell, is_instance}
use Rattle.cyp_names.specs.NameFaults.{arg_fault, arg_faults, chunk_faults, fault_at, instance_fault}
use Rattle.cyp_names.specs.ReadTerms.{Scope, read_arg, read_args, read_chunk}
use Rattle.cyp_names.specs.Specifications.{read_pred, read_preds}
use Rattle.cyp_text.specs.declared.tree.ArgTree.{ArgTree}
use Rattle.cyp_text.specs.declared.tree.ArgTree.TheVariants.{BracesArg, TermArg, UnionArg}
use Rattle.cyp_text.specs.declared.tree.ChunkTree.{ChunkTree}
use Rattle.cyp_text.specs.declared.tree.ChunkTree.TheVariants.{BlockOf, InstanceOf, NamedCell, TermCell}
use Rattle.cyp_text.specs.declared.tree.IntTree.TheVariants.{MinusNum, NameMinus, NamePlus, Named, Num, NumPlus}
use Rattle.cyp_text.specs.declared.tree.PredTree.{PredTree}
use Rattle.cyp_names.specs.Uses.{arg_sorts, param_sort, pred_named, pred_place, sorts_of}
use Rattle.cyp_formed.proofs.PlainSorts.{param_plain}
use Rattle.cyp_names.proofs.NoFaults.{none_both}

-- ---- arguments

fits_sort : (s : Sort) → s ≢ Card → (sc : Scope) (x : ArgTree) → arg_fault s x ≡ [] → sort_eq (arg_sort (read_arg sc s x)) s ≡ true
fits_sort Card n sc x e = absurd (n refl)
fits_sort Int n sc (TermArg t) e = refl
fits_sort Set n sc (TermArg (Named i)) e = refl
fits_sort Set n sc (TermArg (Num p k)) e = absurd cc
fits_sort Set n sc (TermArg (MinusNum p k)) e = absurd cc
fits_sort Set n sc (TermArg (NamePlus i k)) e = absurd cc
fits_sort Set n sc (TermArg (NameMinus i k)) e = absurd cc
fits_sort Set n sc (TermArg (NumPlus p k i)) e = absurd cc
fits_sort Set n sc (BracesArg p ts us) e = refl
fits_sort Set n sc (UnionArg i u us) e = refl
fits_sort Int n sc (BracesArg p ts us) e = absurd cc
fits_sort Int n sc (UnionArg i u us) e = absurd cc

fit_sorts : (ss : List Sort) → ((s : Sort) → Among s ss → s ≢ Card) → (sc : Scope) (xs : List ArgTree) → length ss ≡ length xs → arg_faults ss xs ≡ [] → sorts_fit (read_args sc ss xs) ss ≡ true
fit_sorts [] n sc [] l e = refl
fit_sorts [] n sc (x ∷ xs) l e = absurd cc
fit_sorts (s ∷ ss) n sc [] l e = absurd cc
fit_sorts (s ∷ ss) n sc (x ∷ xs) l e =
    let parts = none_both (arg_fault s x) (arg_faults ss xs) e in
    let lengths : length ss ≡ length xs = omega (arith, l) in
    and_from _ _ (fits_sort s (n s (inl refl)) sc x parts.0) (fit_sorts ss (λ r m. n r (inr m)) sc xs lengths parts.1)

-- ---- instances

-- the first predicate of a name stands at its place
pub found : (name : List ℕ) (all qs : List PredTree) (q : PredTree) → pred_named name qs ≡ Some q → slice_get (map (read_pred all) qs) (pred_place name qs) ≡ Some (read_pred all q)
found name all [] q e = absurd cc
found name all (p ∷ ps) q e = by_test (bytes_eq p.name.text name) e (found name all ps q)
  where
    by_test : (t : Bool) → cond t (Some p) (pred_named name ps) ≡ Some q → (pred_named name ps ≡ Some q → slice_get (map (read_pred all) ps) (pred_place name ps) ≡ Some (read_pred all q))
        → slice_get (read_pred all p ∷ map (read_pred all) ps) (cond t 0 (suc (pred_place name ps))) ≡ Some (read_pred all q)
    by_test true k ih = let same : p ≡ q = cc in ap (λ (w : PredTree). Some (read_pred all w)) same
    by_test false k ih = ih k

sorts_not_card : (q : PredTree) (s : Sort) → Among s (map param_sort q.params) → s ≢ Card
sorts_not_card q s m = let f = map_from param_sort s q.params m in λ c. param_plain f.0 (sym f.2 ∙ c)

inst_of : List PredTree → Scope → Ident → List ArgTree → InstOf
inst_of qs sc i xs = record { pred = pred_place i.text qs; args = read_args sc (arg_sorts qs i xs) xs; card = None; tag = 0 }

pub fits_named : (qs : List PredTree) (sc : Scope) (i : Ident) (xs : List ArgTree) (q : Option PredTree) → pred_named i.text qs ≡ q → instance_fault i xs q ≡ []
    → fits_pred (record { pred = pred_place i.text qs; args = read_args sc (sorts_of (length xs) q) xs; card = None; tag = 0 }) (slice_get (map (read_pred qs) qs) (pred_place i.text qs)) ≡ true
fits_named qs sc i xs None e n = absurd cc
fits_named qs sc i xs (Some q) e n = rw (found i.text qs qs q e) (by_length (length q.params == length xs) refl n)
  where
    ss : List Sort
    ss = map param_sort q.params

    by_length : (t : Bool) → (length q.params == length xs) ≡ t → cond t (arg_faults ss xs) (fault_at WrongArity i.place) ≡ [] → sorts_fit (read_args sc (cond t ss []) xs) ss ≡ true
    by_length true l k = fit_sorts ss (sorts_not_card q) sc xs (length-map q.params param_sort ∙ eqb-true (length q.params) (length xs) l) k
    by_length false l k = absurd cc

-- chunks without faults
pub chunks_fit : (qs : List PredTree) (sc : Scope) (cs : List ChunkTree) → ((c : ChunkTree) → Among c cs → chunk_faults qs c ≡ [])
    → list_all (inst_fits (read_preds qs)) (insts (map (read_chunk qs sc) cs)) ≡ true
chunks_fit qs sc [] h = refl
chunks_fit qs sc (NamedCell i t ∷ cs) h = chunks_fit qs sc cs (λ c m. h c (inr m))
chunks_fit qs sc (TermCell a t ∷ cs) h = chunks_fit qs sc cs (λ c m. h c (inr m))
chunks_fit qs sc (BlockOf a p n ∷ cs) h = chunks_fit qs sc cs (λ c m. h c (inr m))
chunks_fit qs sc (InstanceOf i xs ∷ cs) h =
    and_from _ _ (fits_named qs sc i xs (pred_named i.text qs) refl (h (InstanceOf i xs) (inl refl))) (chunks_fit qs sc cs (λ c m. h c (inr m)))

-- the chunks by their kinds are the chunks
pub kinds_among : (cs : List ChunkTree) (c : ChunkTree) → Among c (in_kinds cs) → Among c cs
kinds_among cs c m = elim (Among-cases c (filter is_instance cs ++ filter is_block cs) (filter is_cell cs) m) [
  | inl a ↦ elim (Among-cases c (filter is_instance cs) (filter is_block cs) a) [ inl b ↦ (filter_out is_instance c cs b).0 | inr b ↦ (filter_out is_block c cs b).0 ]
  | inr a ↦ (filter_out is_cell c cs a).0
]
