-- Chunks that are read and printed: their names, what they are read as, and that they have no faults.
use Rattle.std.proofs.Common.{List, None, Option, Some, [], ap, arith, cond, false, flat_map, inl, inr, length, map, refl, subst, sym, true, ◌++◌, ◌∙◌, ◌∷◌, ◌≡◌, ◌&&◌, ℕ, suc}
use Rattle.std.specs.Prelude.{Bool, nat_le, ◌==◌}
use Rattle.std.proofs.lemmas.Bool.{and_from, and_parts}
use Rattle.cyp_goal.proofs.AllNew.{all_new-without_repeats}
use Rattle.cyp_goal.specs.Raw.{set_once}
use Rattle.cyp_lex.specs.declared.ident.Ident.{Ident}
use Rattle.cyp_heap.specs.Chunks.{arg_vars}
use Rattle.cyp_heap.specs.Formed.{arg_sort, sorts_fit, term_part_vars}
use Rattle.cyp_heap.specs.declared.chunk.Arg.{Arg}
use Rattle.cyp_heap.specs.declared.chunk.Arg.TheVariants.{Int as IntArg, Set as SetArg}
use Rattle.cyp_heap.specs.declared.chunk.Chunk.{Chunk}
use Rattle.cyp_heap.specs.declared.chunk.Chunk.TheVariants.{Block, Cell, Inst}
use Rattle.cyp_lex.specs.declared.fault.FaultKind.TheVariants.{TooLarge, WrongArity}
use Rattle.cyp_term.specs.Terms.{sort_eq, term_eq, term_vars, var_eq, var_term}
use Rattle.cyp_term.specs.declared.lit.SetTerm.{SetTerm}
use Rattle.cyp_term.specs.declared.term.Sort.{Sort}
use Rattle.cyp_term.specs.declared.term.Sort.TheVariants.{Int, Set}
use Rattle.cyp_term.specs.declared.term.Term.{Term}
use Rattle.cyp_term.specs.declared.term.Var.{Var}
use Rattle.cyp_term.proofs.Equality.{Decides-sort_eq}
use Rattle.cyp_term.proofs.Lists.{Among, Among-left, Among-right}
use Rattle.cyp_names.specs.Bodies.{is_block, is_cell, is_instance, kept_parts}
use Rattle.cyp_names.specs.PredFaults.{size_fault}
use Rattle.cyp_names.specs.NameFaults.{arg_fault, arg_faults, chunk_faults, fault_at, instance_fault}
use Rattle.cyp_writing.specs.PrintedTrees.{arg_tree, cell_tree, chunk_tree, ident_of, parts_of, term_tree, union_arg, var_ident}
use Rattle.cyp_names.specs.ReadTerms.{Scope, part_elems, part_vars, read_arg, read_args, read_chunk, read_int, read_union, var_named}
use Rattle.cyp_names.specs.Specifications.{read_preds}
use Rattle.cyp_text.specs.declared.tree.ArgTree.{ArgTree}
use Rattle.cyp_text.specs.declared.tree.ArgTree.TheVariants.{BracesArg, TermArg, UnionArg}
use Rattle.cyp_text.specs.declared.tree.ChunkTree.{ChunkTree}
use Rattle.cyp_text.specs.declared.tree.ChunkTree.TheVariants.{BlockOf, InstanceOf, NamedCell, TermCell}
use Rattle.cyp_text.specs.declared.tree.IntTree.{IntTree}
use Rattle.cyp_text.specs.declared.tree.IntTree.TheVariants.{Named}
use Rattle.cyp_text.specs.declared.tree.PartTree.{PartTree}
use Rattle.cyp_text.specs.declared.tree.PartTree.TheVariants.{Braces, PartName}
use Rattle.cyp_text.specs.declared.tree.PredTree.{PredTree}
use Rattle.cyp_names.specs.Uses.{Use, arg_sorts, arg_uses, args_uses, chunk_uses, int_uses, param_sort, use_of}
use Rattle.cyp_formed.proofs.OfPreds.{OfPred, as_many, fit, of_pred, sorts, sorts_are, sorts_plain}
use Rattle.cyp_printed.proofs.PrintedAgain.{again_length, again_named, again_params, again_place, again_preds, again_sorts, name_back, printed_sorts}
use Rattle.cyp_printed.proofs.PrintedBack.{AreBack, arg_once, args_back, term_back}
use Rattle.cyp_printed.proofs.PrintedFirsts.{Firsts, firsts_mapped, firsts_same}
use Rattle.cyp_printed.proofs.PrintedKept.{args_kept, int_kept}
use Rattle.cyp_formed.proofs.Maps.{length_mapped}
use Rattle.cyp_printed.proofs.PrintedNames.{printed_use}
use Rattle.cyp_printed.proofs.PrintedUses.{printed_arg_uses, term_uses, told_arg, told_cell, union_uses}

-- the names in a printed chunk
abbrev pub printed_chunk_uses : Chunk → List Use
printed_chunk_uses (Inst i) = flat_map printed_arg_uses i.args
printed_chunk_uses (Block k) = term_uses k.at
printed_chunk_uses (Cell k) = term_uses k.at ++ term_uses k.content

-- ---- arguments

fit_length : (xs : List Arg) (ss : List Sort) → sorts_fit xs ss ≡ true → length xs ≡ length ss
fit_length [] [] f = refl
fit_length [] (s ∷ ss) f = absurd cc
fit_length (a ∷ xs) [] f = absurd cc
fit_length (a ∷ xs) (s ∷ ss) f = ap suc (fit_length xs ss (and_parts (sort_eq (arg_sort a) s) (sorts_fit xs ss) f).1)

told_args : (parts : List PartTree → List Use) → ((u : SetTerm) → parts (parts_of u) ≡ union_uses u) → (xs : List Arg) (ss : List Sort) → sorts_fit xs ss ≡ true
    → args_uses parts ss (map arg_tree xs) ≡ flat_map printed_arg_uses xs
told_args parts told [] ss f = refl
told_args parts told (a ∷ xs) [] f = absurd cc
told_args parts told (a ∷ xs) (s ∷ ss) f =
    let both = and_parts (sort_eq (arg_sort a) s) (sorts_fit xs ss) f in
    let first : arg_uses parts (Some s) (arg_tree a) ≡ printed_arg_uses a = ap (λ (r : Sort). arg_uses parts (Some r) (arg_tree a)) (sym ((Decides-sort_eq (arg_sort a) s).0 both.0)) ∙ told_arg parts told a in
    λ i. first i ++ told_args parts told xs ss both.1 i

term_no_fault : (x : IntTree) → arg_fault Int (TermArg x) ≡ []
term_no_fault (Named i) = refl
term_no_fault _ = refl

union_no_fault : (vs : List Var) (ts : List Term) → arg_fault Set (union_arg (parts_of (record { vars = vs; elems = ts }))) ≡ []
union_no_fault [] ts = refl
union_no_fault (v ∷ []) [] = refl
union_no_fault (v ∷ []) (t ∷ ts) = refl
union_no_fault (v ∷ w ∷ vs) [] = refl
union_no_fault (v ∷ w ∷ vs) (t ∷ ts) = refl

arg_no_fault : (a : Arg) → arg_fault (arg_sort a) (arg_tree a) ≡ []
arg_no_fault (IntArg t) = term_no_fault (term_tree t)
arg_no_fault (SetArg u) = union_no_fault u.vars u.elems

args_no_faults : (xs : List Arg) (ss : List Sort) → sorts_fit xs ss ≡ true → arg_faults ss (map arg_tree xs) ≡ []
args_no_faults [] [] f = refl
args_no_faults [] (s ∷ ss) f = refl
args_no_faults (a ∷ xs) [] f = refl
args_no_faults (a ∷ xs) (s ∷ ss) f =
    let both = and_parts (sort_eq (arg_sort a) s) (sorts_fit xs ss) f in
    let first : arg_fault s (arg_tree a) ≡ [] = ap (λ (r : Sort). arg_fault r (arg_tree a)) (sym ((Decides-sort_eq (arg_sort a) s).0 both.0)) ∙ arg_no_fault a in
    λ i. first i ++ args_no_faults xs ss both.1 i

-- ---- no part of an argument that is read stands twice in it

union_once : (sc : Scope) (us : List PartTree) → set_once (read_union sc us) ≡ true
union_once sc us = and_from _ _ (all_new-without_repeats var_eq (flat_map (part_vars sc) us)) (all_new-without_repeats term_eq (flat_map (part_elems sc) us))

read_arg_once : (sc : Scope) (s : Sort) (x : ArgTree) → arg_once (read_arg sc s x) ≡ true
read_arg_once sc Set (TermArg (Named i)) = refl
read_arg_once sc s (TermArg t) = refl
read_arg_once sc s (BracesArg p ts us) = union_once sc (Braces p ts ∷ us)
read_arg_once sc s (UnionArg i u us) = union_once sc (PartName i ∷ u ∷ us)

read_args_once : (sc : Scope) (ss : List Sort) (xs : List ArgTree) (a : Arg) → Among a (read_args sc ss xs) → arg_once a ≡ true
read_args_once sc [] xs a m = absurd m
read_args_once sc (s ∷ ss) [] a m = absurd m
read_args_once sc (s ∷ ss) (x ∷ xs) a (inl e) = ap arg_once e ∙ read_arg_once sc s x
read_args_once sc (s ∷ ss) (x ∷ xs) a (inr m) = read_args_once sc ss xs a m

-- ---- cells

cell_read : (qs : List PredTree) (sc : Scope) (a t : IntTree) → read_chunk qs sc (cell_tree a t) ≡ Cell (record { at = read_int sc a; content = read_int sc t })
cell_read qs sc (Named i) t = refl
cell_read qs sc _ t = refl

cell_no_fault : (qs : List PredTree) (a t : IntTree) → chunk_faults qs (cell_tree a t) ≡ []
cell_no_fault qs (Named i) t = refl
cell_no_fault qs _ t = refl

cell_kind : (a t : IntTree) → (is_instance (cell_tree a t) ≡ false) × (is_block (cell_tree a t) ≡ false) × (is_cell (cell_tree a t) ≡ true) × (size_fault (cell_tree a t) ≡ [])
cell_kind (Named i) t = (refl, refl, refl, refl)
cell_kind _ t = (refl, refl, refl, refl)

-- ---- kinds

module _ (qs : List PredTree) (sc : Scope) where
  -- a chunk as it is printed
  abbrev pub again_chunk : ChunkTree → ChunkTree
  again_chunk c = chunk_tree (read_preds qs) (read_chunk qs sc c)

  pub again_instance : (c : ChunkTree) → is_instance (again_chunk c) ≡ is_instance c
  again_instance (NamedCell i t) = refl
  again_instance (TermCell a t) = (cell_kind (term_tree (read_int sc a)) (term_tree (read_int sc t))).0
  again_instance (BlockOf a p n) = refl
  again_instance (InstanceOf i xs) = refl

  pub again_block : (c : ChunkTree) → is_block (again_chunk c) ≡ is_block c
  again_block (NamedCell i t) = refl
  again_block (TermCell a t) = (cell_kind (term_tree (read_int sc a)) (term_tree (read_int sc t))).1
  again_block (BlockOf a p n) = refl
  again_block (InstanceOf i xs) = refl

  pub again_cell : (c : ChunkTree) → is_cell (again_chunk c) ≡ is_cell c
  again_cell (NamedCell i t) = refl
  again_cell (TermCell a t) = (cell_kind (term_tree (read_int sc a)) (term_tree (read_int sc t))).2
  again_cell (BlockOf a p n) = refl
  again_cell (InstanceOf i xs) = refl

  pub again_size : (c : ChunkTree) → size_fault c ≡ [] → size_fault (again_chunk c) ≡ []
  again_size (NamedCell i t) e = refl
  again_size (TermCell a t) e = (cell_kind (term_tree (read_int sc a)) (term_tree (read_int sc t))).3
  again_size (InstanceOf i xs) e = refl
  again_size (BlockOf a p n) e = by_test (nat_le 1 n && nat_le n 8) e
    where
      by_test : (t : Bool) → cond t [] (fault_at TooLarge p) ≡ [] → cond t [] (fault_at TooLarge 0) ≡ []
      by_test true h = refl
      by_test false h = absurd cc

  -- ---- instances

  module _ (i : Ident) (xs : List ArgTree) (of : OfPred qs i xs) where
    abbrev args : List Arg
    args = read_args sc (sorts qs i xs of) xs

    args_are : read_args sc (arg_sorts qs i xs) xs ≡ args
    args_are = ap (λ (ss : List Sort). read_args sc ss xs) (sorts_are qs i xs of)

    -- the instance as it is printed
    inst_is : again_chunk (InstanceOf i xs) ≡ InstanceOf (ident_of i.text) (map arg_tree args)
    inst_is = λ n. InstanceOf (ident_of (name_back qs i xs of n)) (map arg_tree (args_are n))

    args_length : length (map arg_tree args) ≡ length xs
    args_length = length_mapped arg_tree args ∙ fit_length args (sorts qs i xs of) (fit qs i xs of sc) ∙ as_many qs i xs of

    sorts_again : arg_sorts (again_preds qs) (ident_of i.text) (map arg_tree args) ≡ sorts qs i xs of
    sorts_again = printed_sorts qs i xs of (map arg_tree args) args_length

    inst_told : (parts : List PartTree → List Use) → ((u : SetTerm) → parts (parts_of u) ≡ union_uses u) → chunk_uses parts (again_preds qs) (again_chunk (InstanceOf i xs)) ≡ printed_chunk_uses (read_chunk qs sc (InstanceOf i xs))
    inst_told parts told =
        ap (λ (c : ChunkTree). chunk_uses parts (again_preds qs) c) inst_is
        ∙ ap (λ (ss : List Sort). args_uses parts ss (map arg_tree args)) sorts_again
        ∙ told_args parts told args (sorts qs i xs of) (fit qs i xs of sc)
        ∙ ap (λ (ys : List Arg). flat_map printed_arg_uses ys) (sym args_are)

    inst_kept : Firsts (printed_chunk_uses (read_chunk qs sc (InstanceOf i xs))) (map (printed_use sc) (chunk_uses kept_parts qs (InstanceOf i xs)))
    inst_kept =
        subst (λ (ss : List Sort). Firsts (flat_map printed_arg_uses (read_args sc ss xs)) (map (printed_use sc) (args_uses kept_parts ss xs))) (sym (sorts_are qs i xs of))
        (args_kept sc (sorts qs i xs of) (sorts_plain qs i xs of) xs (as_many qs i xs of))

    inst_no_fault : chunk_faults (again_preds qs) (again_chunk (InstanceOf i xs)) ≡ []
    inst_no_fault =
        ap (λ (c : ChunkTree). chunk_faults (again_preds qs) c) inst_is
        ∙ ap (λ (q : Option PredTree). instance_fault (ident_of i.text) (map arg_tree args) q) (again_named qs qs i.text of.pred of.named)
        ∙ by_length (length (again_params of.pred.params) == length (map arg_tree args)) same
      where
        same : (length (again_params of.pred.params) == length (map arg_tree args)) ≡ true
        same = rw (again_length of.pred.params ∙ of.arity ∙ sym args_length) (itself (length (map arg_tree args)))
          where
            itself : (n : ℕ) → (n == n) ≡ true
            itself n = grind arith

        by_length : (t : Bool) → t ≡ true → cond t (arg_faults (map param_sort (again_params of.pred.params)) (map arg_tree args)) (fault_at WrongArity 0) ≡ []
        by_length true e = ap (λ (ss : List Sort). arg_faults ss (map arg_tree args)) (again_sorts of.pred.params) ∙ args_no_faults args (sorts qs i xs of) (fit qs i xs of sc)
        by_length false e = absurd cc

    inst_back : (sd : Scope) → AreBack sd (term_part_vars (read_chunk qs sc (InstanceOf i xs))) → read_chunk (again_preds qs) sd (again_chunk (InstanceOf i xs)) ≡ read_chunk qs sc (InstanceOf i xs)
    inst_back sd h =
        ap (λ (c : ChunkTree). read_chunk (again_preds qs) sd c) inst_is
        ∙ (λ n. Inst (record { pred = again_place qs qs i.text n; args = (args_again ∙ sym args_are) n; card = None; tag = 0 }))
      where
        back : AreBack sd (flat_map arg_vars args)
        back = subst (λ (ys : List Arg). AreBack sd (flat_map arg_vars ys)) args_are h

        args_again : read_args sd (arg_sorts (again_preds qs) (ident_of i.text) (map arg_tree args)) (map arg_tree args) ≡ args
        args_again =
            ap (λ (ss : List Sort). read_args sd ss (map arg_tree args)) sorts_again
            ∙ args_back sd args (sorts qs i xs of) (fit qs i xs of sc) back (read_args_once sc (sorts qs i xs of) xs)

  -- ---- each chunk without faults

  pub chunk_told : (parts : List PartTree → List Use) → ((u : SetTerm) → parts (parts_of u) ≡ union_uses u) → (c : ChunkTree) → chunk_faults qs c ≡ []
      → chunk_uses parts (again_preds qs) (again_chunk c) ≡ printed_chunk_uses (read_chunk qs sc c)
  chunk_told parts told (NamedCell i t) e = told_cell parts told (again_preds qs) (Named (var_ident (var_named sc i.text))) (term_tree (read_int sc t))
  chunk_told parts told (TermCell a t) e = told_cell parts told (again_preds qs) (term_tree (read_int sc a)) (term_tree (read_int sc t))
  chunk_told parts told (BlockOf a p n) e = refl
  chunk_told parts told (InstanceOf i xs) e = inst_told i xs (of_pred qs i xs e) parts told

  pub chunk_kept : (c : ChunkTree) → chunk_faults qs c ≡ [] → Firsts (printed_chunk_uses (read_chunk qs sc c)) (map (printed_use sc) (chunk_uses kept_parts qs c))
  chunk_kept (NamedCell i t) e =
      firsts_mapped (printed_use sc) (term_uses (read_int sc (Named i))) (term_uses (read_int sc t)) (use_of Int i ∷ []) (int_uses t) (firsts_same _ _ (int_kept sc (Named i))) (firsts_same _ _ (int_kept sc t))
  chunk_kept (TermCell a t) e = firsts_mapped (printed_use sc) (term_uses (read_int sc a)) (term_uses (read_int sc t)) (int_uses a) (int_uses t) (firsts_same _ _ (int_kept sc a)) (firsts_same _ _ (int_kept sc t))
  chunk_kept (BlockOf a p n) e = firsts_same _ _ (int_kept sc a)
  chunk_kept (InstanceOf i xs) e = inst_kept i xs (of_pred qs i xs e)

  pub chunk_no_fault : (c : ChunkTree) → chunk_faults qs c ≡ [] → chunk_faults (again_preds qs) (again_chunk c) ≡ []
  chunk_no_fault (NamedCell i t) e = refl
  chunk_no_fault (TermCell a t) e = cell_no_fault (again_preds qs) (term_tree (read_int sc a)) (term_tree (read_int sc t))
  chunk_no_fault (BlockOf a p n) e = refl
  chunk_no_fault (InstanceOf i xs) e = inst_no_fault i xs (of_pred qs i xs e)

  pub chunk_back : (sd : Scope) (c : ChunkTree) → chunk_faults qs c ≡ [] → AreBack sd (term_part_vars (read_chunk qs sc c)) → read_chunk (again_preds qs) sd (again_chunk c) ≡ read_chunk qs sc c
  chunk_back sd (NamedCell i t) e h =
      let a : Term = var_term (var_named sc i.text) in
      cell_read (again_preds qs) sd (term_tree a) (term_tree (read_int sc t))
      ∙ (λ n. Cell (record { at = term_back sd a (λ v m. h v (Among-left v (term_vars a) (term_vars (read_int sc t)) m)) n; content = term_back sd (read_int sc t) (λ v m. h v (Among-right v (term_vars a) (term_vars (read_int sc t)) m)) n }))
  chunk_back sd (TermCell a t) e h =
      cell_read (again_preds qs) sd (term_tree (read_int sc a)) (term_tree (read_int sc t))
      ∙ (λ n. Cell (record { at = term_back sd (read_int sc a) (λ v m. h v (Among-left v (term_vars (read_int sc a)) (term_vars (read_int sc t)) m)) n; content = term_back sd (read_int sc t) (λ v m. h v (Among-right v (term_vars (read_int sc a)) (term_vars (read_int sc t)) m)) n }))
  chunk_back sd (BlockOf a p k) e h = λ n. Block (record { at = term_back sd (read_int sc a) h n; size = k })
  chunk_back sd (InstanceOf i xs) e h = inst_back i xs (of_pred qs i xs e) sd h
