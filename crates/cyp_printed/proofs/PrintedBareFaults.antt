-- A tree has the faults of the tree without places, at their places.
use Rattle.std.proofs.Common.{List, None, Option, Some, [], ap, cond, false, flat_map, length, map, not, refl, sym, true, ◌++◌, ◌∙◌, ◌∷◌, ◌≡◌, ◌&&◌, ℕ, suc, zero}
use Rattle.std.specs.Prelude.{Bool, nat_le, slice_get, ◌==◌}
use Rattle.std.specs.List.{list_any}
use Rattle.std.specs.Str.{bytes_eq}
use Rattle.cyp_lex.specs.declared.ident.Ident.{Ident}
use Rattle.cyp_lex.specs.declared.fault.Fault.{Fault}
use Rattle.cyp_lex.specs.declared.fault.FaultKind.{FaultKind}
use Rattle.cyp_lex.specs.declared.fault.FaultKind.TheVariants.{DuplicateName, GuardsOverlap, TooLarge, UnboundVariable, Unproductive, WrongArity, WrongSort}
use Rattle.cyp_term.specs.Terms.{sort_eq}
use Rattle.cyp_term.specs.declared.lit.Lit.{Lit}
use Rattle.cyp_term.specs.declared.term.Sort.{Sort}
use Rattle.cyp_term.specs.declared.term.Sort.TheVariants.{Int, Set}
use Rattle.cyp_names.specs.Bodies.{body_uses, is_cell, is_instance}
use Rattle.cyp_formed.specs.LimitFaults.{is_root_within, limit_faults}
use Rattle.cyp_names.specs.PredFaults.{extra_pred_fault, guard_of, is_pred_within, overlap_faults, overlaps, pred_limit_faults, size_fault, size_faults, unproductive_fault}
use Rattle.cyp_names.specs.NameFaults.{arg_fault, arg_faults, chunk_faults, clause_faults, clauses, fault_at, guard_faults, instance_fault, int_place, is_set_literal, known_sort, lit_place, name_faults, param_names, pred_faults, proc_faults, repeats, set_param_fault, sort_fault, sort_faults, unbound_fault}
use Rattle.cyp_names.specs.Specifications.{read_pred, read_tree}
use Rattle.cyp_text.specs.LitTrees.{Comparing, Inside, LitTree, Negation, SameSets, SubSets}
use Rattle.cyp_text.specs.declared.tree.ArgTree.{ArgTree}
use Rattle.cyp_text.specs.declared.tree.ArgTree.TheVariants.{BracesArg, TermArg, UnionArg}
use Rattle.cyp_text.specs.declared.tree.BodyTree.{BodyTree}
use Rattle.cyp_text.specs.declared.tree.ChunkTree.{ChunkTree}
use Rattle.cyp_text.specs.declared.tree.ChunkTree.TheVariants.{BlockOf, InstanceOf, NamedCell, TermCell}
use Rattle.cyp_text.specs.declared.tree.ClauseTree.{ClauseTree}
use Rattle.cyp_text.specs.declared.tree.IntTree.{IntTree}
use Rattle.cyp_text.specs.declared.tree.IntTree.TheVariants.{Named, Num}
use Rattle.cyp_text.specs.declared.tree.ParamTree.{ParamTree}
use Rattle.cyp_text.specs.declared.tree.PartTree.{PartTree}
use Rattle.cyp_text.specs.declared.tree.PartTree.TheVariants.{Braces, PartName}
use Rattle.cyp_text.specs.declared.tree.PredTree.{PredTree}
use Rattle.cyp_text.specs.declared.tree.TextTree.{TextTree}
use Rattle.cyp_names.specs.Uses.{Use, lit_uses, param_sort, param_uses, pred_named}
use Rattle.cyp_printed.proofs.PrintedBare.{bare_arg, bare_body, bare_chunk, bare_clause, bare_fault, bare_ident, bare_int, bare_lit, bare_param, bare_part, bare_pred, bare_set, bare_text, bare_use}
use Rattle.cyp_printed.proofs.PrintedBareRead.{bare_read_clause, bare_read_pred, bare_read_tree}
use Rattle.cyp_printed.proofs.PrintedBareUses.{bare_body_uses, bare_found, bare_is_cell, bare_is_instance, bare_lit_uses, bare_param_sorts, bare_param_uses, bare_pred_named}
use Rattle.cyp_formed.proofs.Maps.{any_mapped, both_mapped, flat_mapped, length_mapped}

-- a fault or none
fault_or_none : (t : Bool) (k : FaultKind) (p q : ℕ) → cond t (record { kind = k; place = 0 } ∷ []) [] ≡ map bare_fault (cond t (fault_at k p) [])
fault_or_none true k p q = refl
fault_or_none false k p q = refl

none_or_fault : (t : Bool) (k : FaultKind) (p : ℕ) → cond t [] (record { kind = k; place = 0 } ∷ []) ≡ map bare_fault (cond t [] (fault_at k p))
none_or_fault true k p = refl
none_or_fault false k p = refl

place_none : (t : IntTree) → int_place (bare_int t) ≡ 0
place_none (Num p n) = refl
place_none _ = refl

lit_place_none : (l : LitTree) → lit_place (bare_lit l) ≡ 0
lit_place_none (Comparing a c b) = place_none a
lit_place_none (SameSets a b) = by_part a.first
  where
    by_part : (u : PartTree) → lit_place (SameSets (record { first = bare_part u; others = [] }) (bare_set b)) ≡ 0
    by_part (PartName i) = refl
    by_part (Braces p ts) = refl
lit_place_none (SubSets a b) = by_part a.first
  where
    by_part : (u : PartTree) → lit_place (SameSets (record { first = bare_part u; others = [] }) (bare_set b)) ≡ 0
    by_part (PartName i) = refl
    by_part (Braces p ts) = refl
lit_place_none (Inside a b) = place_none a
lit_place_none (Negation p l) = refl

-- ---- names and sorts

seen_more : {A B : Type 0} (f : A → B) (seen : List A) (x : A) → map f seen ++ f x ∷ [] ≡ map f (seen ++ x ∷ [])
seen_more f [] x = refl
seen_more f (y ∷ ys) x = ap (λ (zs : List _). f y ∷ zs) (seen_more f ys x)

pub bare_repeats : (seen is : List Ident) → repeats (map bare_ident seen) (map bare_ident is) ≡ map bare_fault (repeats seen is)
bare_repeats seen [] = refl
bare_repeats seen (i ∷ is) =
    both_mapped bare_fault (cond (list_any (λ (j : Ident). bytes_eq j.text i.text) seen) (fault_at DuplicateName i.place) []) (repeats (seen ++ i ∷ []) is) _ _
    (ap (λ (t : Bool). cond t (fault_at DuplicateName 0) []) (any_mapped bare_ident (λ (j : Ident). bytes_eq j.text i.text) (λ (j : Ident). bytes_eq j.text i.text) (λ j. refl) seen)
    ∙ fault_or_none (list_any (λ (j : Ident). bytes_eq j.text i.text) seen) DuplicateName i.place 0)
    (ap (λ (js : List Ident). repeats js (map bare_ident is)) (seen_more bare_ident seen i) ∙ bare_repeats (seen ++ i ∷ []) is)

bare_param_names : (ps : List ParamTree) → param_names (map bare_param ps) ≡ map bare_ident (param_names ps)
bare_param_names [] = refl
bare_param_names (p ∷ ps) = ap (λ (is : List Ident). bare_ident p.name ∷ is) (bare_param_names ps)

bare_known_sort : (us : List Use) (a : List ℕ) → known_sort (map bare_use us) a ≡ known_sort us a
bare_known_sort [] a = refl
bare_known_sort (u ∷ us) a = ap (λ (s : Option Sort). cond (bytes_eq u.name.text a) (Some u.sort) s) (bare_known_sort us a)

bare_sort_fault : (s : Option Sort) (u : Use) → sort_fault s (bare_use u) ≡ map bare_fault (sort_fault s u)
bare_sort_fault None u = refl
bare_sort_fault (Some s) u = none_or_fault (sort_eq s u.sort) WrongSort u.name.place

bare_sort_faults : (seen us : List Use) → sort_faults (map bare_use seen) (map bare_use us) ≡ map bare_fault (sort_faults seen us)
bare_sort_faults seen [] = refl
bare_sort_faults seen (u ∷ us) =
    both_mapped bare_fault (sort_fault (known_sort seen u.name.text) u) (sort_faults (seen ++ u ∷ []) us) _ _
    (ap (λ (s : Option Sort). sort_fault s (bare_use u)) (bare_known_sort seen u.name.text) ∙ bare_sort_fault (known_sort seen u.name.text) u)
    (ap (λ (ws : List Use). sort_faults ws (map bare_use us)) (seen_more bare_use seen u) ∙ bare_sort_faults (seen ++ u ∷ []) us)

-- ---- instances

bare_arg_fault : (s : Sort) (x : ArgTree) → arg_fault s (bare_arg x) ≡ map bare_fault (arg_fault s x)
bare_arg_fault s (TermArg (Named i)) = refl
bare_arg_fault s (TermArg t) = none_or_fault (sort_eq s Int) WrongSort (int_place t)
bare_arg_fault s (BracesArg p ts us) = none_or_fault (sort_eq s Set) WrongSort p
bare_arg_fault s (UnionArg i u us) = none_or_fault (sort_eq s Set) WrongSort i.place

bare_arg_faults : (ss : List Sort) (xs : List ArgTree) → arg_faults ss (map bare_arg xs) ≡ map bare_fault (arg_faults ss xs)
bare_arg_faults [] xs = refl
bare_arg_faults (s ∷ ss) [] = refl
bare_arg_faults (s ∷ ss) (x ∷ xs) = both_mapped bare_fault (arg_fault s x) (arg_faults ss xs) _ _ (bare_arg_fault s x) (bare_arg_faults ss xs)

bare_instance_fault : (i : Ident) (xs : List ArgTree) (q : Option PredTree) → instance_fault (bare_ident i) (map bare_arg xs) (bare_found q) ≡ map bare_fault (instance_fault i xs q)
bare_instance_fault i xs None = refl
bare_instance_fault i xs (Some q) =
    (λ n. cond (length_mapped bare_param q.params n == length_mapped bare_arg xs n) (arg_faults (bare_param_sorts q.params n) (map bare_arg xs)) (fault_at WrongArity 0))
    ∙ by_test (length q.params == length xs)
  where
    by_test : (t : Bool) → cond t (arg_faults (map param_sort q.params) (map bare_arg xs)) (fault_at WrongArity 0) ≡ map bare_fault (cond t (arg_faults (map param_sort q.params) xs) (fault_at WrongArity i.place))
    by_test true = bare_arg_faults (map param_sort q.params) xs
    by_test false = refl

bare_chunk_faults : (qs : List PredTree) (c : ChunkTree) → chunk_faults (map bare_pred qs) (bare_chunk c) ≡ map bare_fault (chunk_faults qs c)
bare_chunk_faults qs (NamedCell i t) = refl
bare_chunk_faults qs (TermCell a t) = refl
bare_chunk_faults qs (BlockOf a p n) = refl
bare_chunk_faults qs (InstanceOf i xs) = ap (λ (q : Option PredTree). instance_fault (bare_ident i) (map bare_arg xs) q) (bare_pred_named i.text qs) ∙ bare_instance_fault i xs (pred_named i.text qs)

-- ---- clauses and predicates

bare_set_literal : (l : LitTree) → is_set_literal (bare_lit l) ≡ is_set_literal l
bare_set_literal (Comparing a c b) = refl
bare_set_literal (SameSets a b) = refl
bare_set_literal (SubSets a b) = refl
bare_set_literal (Inside a b) = refl
bare_set_literal (Negation p l) = bare_set_literal l

bare_unbound : (ps : List ParamTree) (u : Use) → unbound_fault (map bare_param ps) (bare_use u) ≡ map bare_fault (unbound_fault ps u)
bare_unbound ps u =
    ap (λ (is : List Ident). cond (list_any (λ (i : Ident). bytes_eq i.text u.name.text) is) [] (fault_at UnboundVariable 0)) (bare_param_names ps)
    ∙ ap (λ (t : Bool). cond t [] (fault_at UnboundVariable 0)) (any_mapped bare_ident (λ (i : Ident). bytes_eq i.text u.name.text) (λ (i : Ident). bytes_eq i.text u.name.text) (λ i. refl) (param_names ps))
    ∙ none_or_fault (list_any (λ (i : Ident). bytes_eq i.text u.name.text) (param_names ps)) UnboundVariable u.name.place

bare_guard_faults : (ps : List ParamTree) (g : LitTree) → guard_faults (map bare_param ps) (bare_lit g) ≡ map bare_fault (guard_faults ps g)
bare_guard_faults ps g =
    both_mapped bare_fault (cond (is_set_literal g) (fault_at WrongSort (lit_place g)) []) (flat_map (unbound_fault ps) (lit_uses g)) _ _
    ((λ i. cond (bare_set_literal g i) (fault_at WrongSort (lit_place_none g i)) []) ∙ fault_or_none (is_set_literal g) WrongSort (lit_place g) 0)
    (ap (λ (us : List Use). flat_map (unbound_fault (map bare_param ps)) us) (bare_lit_uses g) ∙ flat_mapped bare_use (unbound_fault (map bare_param ps)) (unbound_fault ps) bare_fault (bare_unbound ps) (lit_uses g))

bare_clause_faults : (qs : List PredTree) (ps : List ParamTree) (c : ClauseTree) → clause_faults (map bare_pred qs) (map bare_param ps) (bare_clause c) ≡ map bare_fault (clause_faults qs ps c)
bare_clause_faults qs ps c =
    both_mapped bare_fault (guard_faults ps c.guard ++ sort_faults (param_uses ps) (lit_uses c.guard ++ body_uses qs c.body)) (flat_map (chunk_faults qs) c.body.chunks) _ _
    (both_mapped bare_fault (guard_faults ps c.guard) (sort_faults (param_uses ps) (lit_uses c.guard ++ body_uses qs c.body)) _ _ (bare_guard_faults ps c.guard)
    ((λ i. sort_faults (bare_param_uses ps i) (both_mapped bare_use (lit_uses c.guard) (body_uses qs c.body) _ _ (bare_lit_uses c.guard) (bare_body_uses qs c.body) i))
    ∙ bare_sort_faults (param_uses ps) (lit_uses c.guard ++ body_uses qs c.body)))
    (flat_mapped bare_chunk (chunk_faults (map bare_pred qs)) (chunk_faults qs) bare_fault (bare_chunk_faults qs) c.body.chunks)

bare_pred_faults : (qs : List PredTree) (q : PredTree) → pred_faults (map bare_pred qs) (bare_pred q) ≡ map bare_fault (pred_faults qs q)
bare_pred_faults qs q =
    both_mapped bare_fault (repeats [] (param_names q.params)) (flat_map (clause_faults qs q.params) (clauses q)) _ _
    (ap (λ (is : List Ident). repeats [] is) (bare_param_names q.params) ∙ bare_repeats [] (param_names q.params))
    (flat_mapped bare_clause (clause_faults (map bare_pred qs) (map bare_param q.params)) (clause_faults qs q.params) bare_fault (bare_clause_faults qs q.params) (clauses q))

bare_set_param : (p : ParamTree) → set_param_fault (bare_param p) ≡ map bare_fault (set_param_fault p)
bare_set_param p = fault_or_none (sort_eq (param_sort p) Set) WrongSort p.place 0

bare_proc_faults : (t : TextTree) → proc_faults (bare_text t) ≡ map bare_fault (proc_faults t)
bare_proc_faults t =
    both_mapped bare_fault (repeats [] (param_names t.params) ++ flat_map set_param_fault t.params ++ sort_faults (param_uses t.params) uses) (flat_map (chunk_faults t.preds) (t.pre.chunks ++ t.post.chunks)) _ _
    (both_mapped bare_fault (repeats [] (param_names t.params) ++ flat_map set_param_fault t.params) (sort_faults (param_uses t.params) uses) _ _
    (both_mapped bare_fault (repeats [] (param_names t.params)) (flat_map set_param_fault t.params) _ _
    (ap (λ (is : List Ident). repeats [] is) (bare_param_names t.params) ∙ bare_repeats [] (param_names t.params))
    (flat_mapped bare_param set_param_fault set_param_fault bare_fault bare_set_param t.params))
    ((λ i. sort_faults (bare_param_uses t.params i) (both_mapped bare_use (body_uses t.preds t.pre) (body_uses t.preds t.post) _ _ (bare_body_uses t.preds t.pre) (bare_body_uses t.preds t.post) i))
    ∙ bare_sort_faults (param_uses t.params) uses))
    (ap (λ (cs : List ChunkTree). flat_map (chunk_faults (map bare_pred t.preds)) cs) (both_mapped bare_chunk t.pre.chunks t.post.chunks _ _ refl refl)
    ∙ flat_mapped bare_chunk (chunk_faults (map bare_pred t.preds)) (chunk_faults t.preds) bare_fault (bare_chunk_faults t.preds) (t.pre.chunks ++ t.post.chunks))
  where
    uses : List Use
    uses = body_uses t.preds t.pre ++ body_uses t.preds t.post

-- the faults of names and sorts
pub bare_name_faults : (t : TextTree) → name_faults (bare_text t) ≡ map bare_fault (name_faults t)
bare_name_faults t =
    both_mapped bare_fault (repeats [] (map (λ (q : PredTree). q.name) t.preds) ++ flat_map (pred_faults t.preds) t.preds) (proc_faults t) _ _
    (both_mapped bare_fault (repeats [] (map (λ (q : PredTree). q.name) t.preds)) (flat_map (pred_faults t.preds) t.preds) _ _
    (ap (λ (is : List Ident). repeats [] is) (names t.preds) ∙ bare_repeats [] (map (λ (q : PredTree). q.name) t.preds))
    (flat_mapped bare_pred (pred_faults (map bare_pred t.preds)) (pred_faults t.preds) bare_fault (bare_pred_faults t.preds) t.preds))
    (bare_proc_faults t)
  where
    names : (qs : List PredTree) → map (λ (q : PredTree). q.name) (map bare_pred qs) ≡ map bare_ident (map (λ (q : PredTree). q.name) qs)
    names [] = refl
    names (q ∷ qs) = ap (λ (is : List Ident). bare_ident q.name ∷ is) (names qs)

-- ---- limits

bare_overlaps : (qs : List PredTree) (ps : List ParamTree) (seen : List Lit) (cs : List ClauseTree)
    → overlap_faults (guard_of (map bare_pred qs) (map bare_param ps)) seen (map bare_clause cs) ≡ map bare_fault (overlap_faults (guard_of qs ps) seen cs)
bare_overlaps qs ps seen [] = refl
bare_overlaps qs ps seen (c ∷ cs) =
    both_mapped bare_fault (cond (overlaps seen (guard_of qs ps c)) (fault_at GuardsOverlap (lit_place c.guard)) []) (overlap_faults (guard_of qs ps) (seen ++ guard_of qs ps c ∷ []) cs) _ _
    ((λ i. cond (overlaps seen (guards i)) (fault_at GuardsOverlap (lit_place_none c.guard i)) []) ∙ fault_or_none (overlaps seen (guard_of qs ps c)) GuardsOverlap (lit_place c.guard) 0)
    ((λ i. overlap_faults (guard_of (map bare_pred qs) (map bare_param ps)) (seen ++ guards i ∷ []) (map bare_clause cs)) ∙ bare_overlaps qs ps (seen ++ guard_of qs ps c ∷ []) cs)
  where
    guards : guard_of (map bare_pred qs) (map bare_param ps) (bare_clause c) ≡ guard_of qs ps c
    guards = λ i. (bare_read_clause qs ps c i).guard

bare_unproductive : (c : ClauseTree) → unproductive_fault (bare_clause c) ≡ map bare_fault (unproductive_fault c)
bare_unproductive c =
    (λ i. cond (any_mapped bare_chunk is_instance is_instance bare_is_instance c.body.chunks i && not (any_mapped bare_chunk is_cell is_cell bare_is_cell c.body.chunks i)) (fault_at Unproductive 0) [])
    ∙ fault_or_none (list_any is_instance c.body.chunks && not (list_any is_cell c.body.chunks)) Unproductive c.place 0

bare_size : (c : ChunkTree) → size_fault (bare_chunk c) ≡ map bare_fault (size_fault c)
bare_size (NamedCell i t) = refl
bare_size (TermCell a t) = refl
bare_size (InstanceOf i xs) = refl
bare_size (BlockOf a p n) = none_or_fault (nat_le 1 n && nat_le n 8) TooLarge p

bare_sizes : (b : BodyTree) → size_faults (bare_body b) ≡ map bare_fault (size_faults b)
bare_sizes b = flat_mapped bare_chunk size_fault size_fault bare_fault bare_size b.chunks

bare_pred_limits : (qs : List PredTree) (q : PredTree) → pred_limit_faults (map bare_pred qs) (bare_pred q) ≡ map bare_fault (pred_limit_faults qs q)
bare_pred_limits qs q =
    both_mapped bare_fault (overlap_part ++ flat_map unproductive_fault (clauses q) ++ flat_map (λ (c : ClauseTree). size_faults c.body) (clauses q)) (cond (is_pred_within (read_pred qs q)) [] (fault_at TooLarge q.name.place)) _ _
    (both_mapped bare_fault (overlap_part ++ flat_map unproductive_fault (clauses q)) (flat_map (λ (c : ClauseTree). size_faults c.body) (clauses q)) _ _
    (both_mapped bare_fault overlap_part (flat_map unproductive_fault (clauses q)) _ _ (bare_overlaps qs q.params [] (clauses q))
    (flat_mapped bare_clause unproductive_fault unproductive_fault bare_fault bare_unproductive (clauses q)))
    (flat_mapped bare_clause (λ (c : ClauseTree). size_faults c.body) (λ (c : ClauseTree). size_faults c.body) bare_fault (λ c. bare_sizes c.body) (clauses q)))
    ((λ i. cond (is_pred_within (bare_read_pred qs q i)) [] (fault_at TooLarge 0)) ∙ none_or_fault (is_pred_within (read_pred qs q)) TooLarge q.name.place)
  where
    overlap_part : List Fault
    overlap_part = overlap_faults (guard_of qs q.params) [] (clauses q)

bare_slice : (n : ℕ) (qs : List PredTree) → slice_get (map bare_pred qs) n ≡ bare_found (slice_get qs n)
bare_slice n [] = refl
bare_slice zero (q ∷ qs) = refl
bare_slice (suc n) (q ∷ qs) = bare_slice n qs

bare_extra : (q : Option PredTree) → extra_pred_fault (bare_found q) ≡ map bare_fault (extra_pred_fault q)
bare_extra None = refl
bare_extra (Some q) = refl

-- the faults of predicates and limits
pub bare_limit_faults : (t : TextTree) → limit_faults (bare_text t) ≡ map bare_fault (limit_faults t)
bare_limit_faults t =
    both_mapped bare_fault (flat_map (pred_limit_faults t.preds) t.preds ++ extra_pred_fault (slice_get t.preds 16) ++ size_faults t.pre ++ size_faults t.post) (cond (is_root_within (read_tree t)) [] (fault_at TooLarge t.name.place)) _ _
    (both_mapped bare_fault (flat_map (pred_limit_faults t.preds) t.preds ++ extra_pred_fault (slice_get t.preds 16) ++ size_faults t.pre) (size_faults t.post) _ _
    (both_mapped bare_fault (flat_map (pred_limit_faults t.preds) t.preds ++ extra_pred_fault (slice_get t.preds 16)) (size_faults t.pre) _ _
    (both_mapped bare_fault (flat_map (pred_limit_faults t.preds) t.preds) (extra_pred_fault (slice_get t.preds 16)) _ _
    (flat_mapped bare_pred (pred_limit_faults (map bare_pred t.preds)) (pred_limit_faults t.preds) bare_fault (bare_pred_limits t.preds) t.preds)
    (ap extra_pred_fault (bare_slice 16 t.preds) ∙ bare_extra (slice_get t.preds 16)))
    (bare_sizes t.pre))
    (bare_sizes t.post))
    ((λ i. cond (is_root_within (bare_read_tree t i)) [] (fault_at TooLarge 0)) ∙ none_or_fault (is_root_within (read_tree t)) TooLarge t.name.place)

-- ---- trees alike but for their places

none_mapped : {A B : Type 0} (f : A → B) (xs : List A) → map f xs ≡ [] → xs ≡ []
none_mapped f [] e = refl
none_mapped f (x ∷ xs) e = absurd cc

pub names_none : (t u : TextTree) → bare_text u ≡ bare_text t → name_faults t ≡ [] → name_faults u ≡ []
names_none t u e n =
    none_mapped bare_fault (name_faults u)
    (sym (bare_name_faults u) ∙ ap name_faults e ∙ bare_name_faults t ∙ ap (λ (fs : List Fault). map bare_fault fs) n)

pub limits_none : (t u : TextTree) → bare_text u ≡ bare_text t → limit_faults t ≡ [] → limit_faults u ≡ []
limits_none t u e n =
    none_mapped bare_fault (limit_faults u)
    (sym (bare_limit_faults u) ∙ ap limit_faults e ∙ bare_limit_faults t ∙ ap (λ (fs : List Fault). map bare_fault fs) n)

pub read_alike : (t u : TextTree) → bare_text u ≡ bare_text t → read_tree u ≡ read_tree t
read_alike t u e = sym (bare_read_tree u) ∙ ap read_tree e ∙ bare_read_tree t
