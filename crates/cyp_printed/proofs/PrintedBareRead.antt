-- What a tree says doesn't depend on its places.
use Rattle.std.proofs.Common.{List, None, [], ap, cond, drop, false, filter, length, map, refl, ◌+◌, ◌++◌, ◌∙◌, ◌∷◌, ◌≡◌, ℕ}
use Rattle.std.specs.Prelude.{neg_ℤ, pos}
use Rattle.std.specs.Str.{bytes_eq}
use Rattle.cyp_heap.specs.declared.chunk.Arg.TheVariants.{Int as IntArg, Set as SetArg}
use Rattle.cyp_heap.specs.declared.chunk.Chunk.TheVariants.{Block, Cell, Inst}
use Rattle.cyp_heap.specs.declared.goal.Goal.{Goal}
use Rattle.cyp_heap.specs.declared.pred.Clause.{Clause}
use Rattle.cyp_term.specs.Terms.{negated, plus, set_var, sort_eq, term_eq, var_eq, var_term, with_all_new, without_repeats}
use Rattle.cyp_term.specs.declared.lit.Lit.TheVariants.{Member, Same, Sub}
use Rattle.cyp_term.specs.declared.lit.SetTerm.{SetTerm}
use Rattle.cyp_term.specs.declared.term.Sort.{Sort}
use Rattle.cyp_term.specs.declared.term.Sort.TheVariants.{Int, Set}
use Rattle.cyp_term.specs.declared.term.Term.{Term}
use Rattle.cyp_term.specs.declared.term.Var.{Var}
use Rattle.cyp_names.specs.Bodies.{body_lits, in_kinds, kept_body, kept_lit}
use Rattle.cyp_names.specs.NameFaults.{clauses}
use Rattle.cyp_names.specs.ReadTerms.{Scope, compared, part_elems, part_vars, rank_of, read_arg, read_args, read_chunk, read_chunks, read_int, read_lit, read_lits, read_set, read_union, sort_in, use_var, var_named}
use Rattle.cyp_names.specs.Specifications.{clause_scope, count_sort, goal_scope, read_clause, read_goal, read_pred, read_preds, read_tree, universal_scope, with_cards}
use Rattle.cyp_text.specs.LitTrees.{Comparing, Inside, LitTree, Negation, SameSets, SubSets}
use Rattle.cyp_text.specs.declared.tree.ArgTree.{ArgTree}
use Rattle.cyp_text.specs.declared.tree.ArgTree.TheVariants.{BracesArg, TermArg, UnionArg}
use Rattle.cyp_text.specs.declared.tree.BodyTree.{BodyTree}
use Rattle.cyp_text.specs.declared.tree.ChunkTree.{ChunkTree}
use Rattle.cyp_text.specs.declared.tree.ChunkTree.TheVariants.{BlockOf, InstanceOf, NamedCell, TermCell}
use Rattle.cyp_text.specs.declared.tree.ClauseTree.{ClauseTree}
use Rattle.cyp_text.specs.declared.tree.IntTree.{IntTree}
use Rattle.cyp_text.specs.declared.tree.IntTree.TheVariants.{MinusNum, NameMinus, NamePlus, Named, Num, NumPlus}
use Rattle.cyp_text.specs.declared.tree.ParamTree.{ParamTree}
use Rattle.cyp_text.specs.declared.tree.PartTree.{PartTree}
use Rattle.cyp_text.specs.declared.tree.PartTree.TheVariants.{Braces, PartName}
use Rattle.cyp_text.specs.declared.tree.PredTree.{PredTree}
use Rattle.cyp_text.specs.declared.tree.SetTree.{SetTree}
use Rattle.cyp_text.specs.declared.tree.TextTree.{TextTree}
use Rattle.cyp_names.specs.Uses.{Use, arg_sorts, param_uses, same_name, set_parts}
use Rattle.cyp_printed.proofs.PrintedBare.{bare_arg, bare_body, bare_chunk, bare_clause, bare_ident, bare_int, bare_lit, bare_param, bare_part, bare_pred, bare_set, bare_text, bare_use}
use Rattle.cyp_printed.proofs.PrintedBareUses.{bare_arg_sorts, bare_body_lits, bare_in_kinds, bare_kept_body, bare_kept_lit, bare_param_sorts, bare_param_uses, bare_pred_place}
use Rattle.cyp_formed.proofs.Maps.{all_new_kept, both_mapped, drop_mapped, filter_mapped, flat_then, length_mapped, map_then}

-- ---- scopes

bare_sort_in : (sc : Scope) (a : List ℕ) → sort_in (map bare_use sc) a ≡ sort_in sc a
bare_sort_in [] a = refl
bare_sort_in (u ∷ us) a = ap (λ (s : Sort). cond (bytes_eq u.name.text a) u.sort s) (bare_sort_in us a)

bare_rank_of : (s : Sort) (sc : Scope) (a : List ℕ) → rank_of s (map bare_use sc) a ≡ rank_of s sc a
bare_rank_of s [] a = refl
bare_rank_of s (u ∷ us) a = ap (λ (n : ℕ). cond (bytes_eq u.name.text a) 0 (cond (sort_eq u.sort s) 1 0 + n)) (bare_rank_of s us a)

pub bare_var : (sc : Scope) (a : List ℕ) → var_named (map bare_use sc) a ≡ var_named sc a
bare_var sc a =
    ap (λ (s : Sort). record { sort = s; number = rank_of s (map bare_use sc) a }) (bare_sort_in sc a)
    ∙ ap (λ (n : ℕ). record { sort = sort_in sc a; number = n }) (bare_rank_of (sort_in sc a) sc a)

pub bare_all_new : (us ws : Scope) → with_all_new same_name (map bare_use us) (map bare_use ws) ≡ map bare_use (with_all_new same_name us ws)
bare_all_new us ws = all_new_kept same_name same_name bare_use (λ u. Unit {0}) (λ u w p q. refl) us ws (λ u m. tt) (λ u m. tt)

bare_count : (s : Sort) (sc : Scope) → count_sort s (map bare_use sc) ≡ count_sort s sc
bare_count s sc = ap length (filter_mapped bare_use (λ (u : Use). sort_eq u.sort s) (λ (u : Use). sort_eq u.sort s) (λ u. refl) sc) ∙ length_mapped bare_use (filter (λ (u : Use). sort_eq u.sort s) sc)

-- ---- terms, literals and chunks

module _ (sc' sc : Scope) (names : (a : List ℕ) → var_named sc' a ≡ var_named sc a) where
  bare_read_int : (t : IntTree) → read_int sc' (bare_int t) ≡ read_int sc t
  bare_read_int (Num p n) = refl
  bare_read_int (MinusNum p n) = refl
  bare_read_int (Named i) = ap (λ (v : Var). var_term v) (names i.text)
  bare_read_int (NamePlus i n) = ap (λ (v : Var). plus (var_term v) (pos n)) (names i.text)
  bare_read_int (NameMinus i n) = ap (λ (v : Var). plus (var_term v) (neg_ℤ (pos n))) (names i.text)
  bare_read_int (NumPlus p n i) = ap (λ (v : Var). plus (var_term v) (pos n)) (names i.text)

  bare_part_vars : (u : PartTree) → part_vars sc' (bare_part u) ≡ part_vars sc u
  bare_part_vars (PartName i) = ap (λ (v : Var). v ∷ []) (names i.text)
  bare_part_vars (Braces p ts) = refl

  bare_part_elems : (u : PartTree) → part_elems sc' (bare_part u) ≡ part_elems sc u
  bare_part_elems (PartName i) = refl
  bare_part_elems (Braces p ts) = map_then bare_int (read_int sc') (read_int sc) bare_read_int ts

  bare_read_union : (us : List PartTree) → read_union sc' (map bare_part us) ≡ read_union sc us
  bare_read_union us =
      let vars = flat_then bare_part (part_vars sc') (part_vars sc) bare_part_vars us in
      let elems = flat_then bare_part (part_elems sc') (part_elems sc) bare_part_elems us in
      λ i. record { vars = without_repeats var_eq (vars i); elems = without_repeats term_eq (elems i) }

  bare_read_set : (u : SetTree) → read_set sc' (bare_set u) ≡ read_set sc u
  bare_read_set u = bare_read_union (set_parts u)

  bare_read_lit : (l : LitTree) → read_lit sc' (bare_lit l) ≡ read_lit sc l
  bare_read_lit (Comparing a c b) = λ i. compared c (bare_read_int a i) (bare_read_int b i)
  bare_read_lit (SameSets a b) = λ i. Same (bare_read_set a i) (bare_read_set b i)
  bare_read_lit (SubSets a b) = λ i. Sub (bare_read_set a i) (bare_read_set b i)
  bare_read_lit (Inside a b) = λ i. Member (bare_read_int a i) (bare_read_set b i)
  bare_read_lit (Negation p l) = ap negated (bare_read_lit l)

  bare_read_lits : (b : BodyTree) → read_lits sc' (bare_body b) ≡ read_lits sc b
  bare_read_lits b = ap (λ (ls : List LitTree). map (read_lit sc') ls) (bare_body_lits b) ∙ map_then bare_lit (read_lit sc') (read_lit sc) bare_read_lit (body_lits b)

  bare_read_arg : (s : Sort) (x : ArgTree) → read_arg sc' s (bare_arg x) ≡ read_arg sc s x
  bare_read_arg Set (TermArg (Named i)) = ap (λ (v : Var). SetArg (set_var v)) (names i.text)
  bare_read_arg s (TermArg t) = ap (λ (x : Term). IntArg x) (bare_read_int t)
  bare_read_arg s (BracesArg p ts us) = ap (λ (u : SetTerm). SetArg u) (bare_read_union (Braces p ts ∷ us))
  bare_read_arg s (UnionArg i u us) = ap (λ (w : SetTerm). SetArg w) (bare_read_union (PartName i ∷ u ∷ us))

  bare_read_args : (ss : List Sort) (xs : List ArgTree) → read_args sc' ss (map bare_arg xs) ≡ read_args sc ss xs
  bare_read_args [] xs = refl
  bare_read_args (s ∷ ss) [] = refl
  bare_read_args (s ∷ ss) (x ∷ xs) = λ i. bare_read_arg s x i ∷ bare_read_args ss xs i

  bare_read_chunk : (qs : List PredTree) (c : ChunkTree) → read_chunk (map bare_pred qs) sc' (bare_chunk c) ≡ read_chunk qs sc c
  bare_read_chunk qs (NamedCell n t) = λ i. Cell (record { at = var_term (names n.text i); content = bare_read_int t i })
  bare_read_chunk qs (TermCell a t) = λ i. Cell (record { at = bare_read_int a i; content = bare_read_int t i })
  bare_read_chunk qs (BlockOf a p n) = λ i. Block (record { at = bare_read_int a i; size = n })
  bare_read_chunk qs (InstanceOf n xs) =
      let args : read_args sc' (arg_sorts (map bare_pred qs) (bare_ident n) (map bare_arg xs)) (map bare_arg xs) ≡ read_args sc (arg_sorts qs n xs) xs =
      ap (λ (ss : List Sort). read_args sc' ss (map bare_arg xs)) (bare_arg_sorts qs n xs) ∙ bare_read_args (arg_sorts qs n xs) xs in
      λ i. Inst (record { pred = bare_pred_place n.text qs i; args = args i; card = None; tag = 0 })

  bare_read_chunks : (qs : List PredTree) (b : BodyTree) → read_chunks (map bare_pred qs) sc' (bare_body b) ≡ read_chunks qs sc b
  bare_read_chunks qs b =
      ap (λ (cs : List ChunkTree). map (read_chunk (map bare_pred qs) sc') cs) (bare_in_kinds b.chunks)
      ∙ map_then bare_chunk (read_chunk (map bare_pred qs) sc') (read_chunk qs sc) (bare_read_chunk qs) (in_kinds b.chunks)

-- ---- predicates

pub bare_clause_scope : (qs : List PredTree) (ps : List ParamTree) (c : ClauseTree) → clause_scope (map bare_pred qs) (map bare_param ps) (bare_clause c) ≡ map bare_use (clause_scope qs ps c)
bare_clause_scope qs ps c =
    ap (λ (us : Scope). without_repeats same_name us)
    (both_mapped bare_use (param_uses ps ++ kept_lit false c.guard) (kept_body qs c.body) _ _
    (both_mapped bare_use (param_uses ps) (kept_lit false c.guard) _ _ (bare_param_uses ps) (bare_kept_lit false c.guard)) (bare_kept_body qs c.body))
    ∙ bare_all_new [] (param_uses ps ++ kept_lit false c.guard ++ kept_body qs c.body)

pub bare_read_clause : (qs : List PredTree) (ps : List ParamTree) (c : ClauseTree) → read_clause (map bare_pred qs) (map bare_param ps) (bare_clause c) ≡ read_clause qs ps c
bare_read_clause qs ps c = by_scope (clause_scope (map bare_pred qs) (map bare_param ps) (bare_clause c)) (bare_clause_scope qs ps c)
  where
    sc : Scope
    sc = clause_scope qs ps c

    said : Scope → Clause
    said sd = record {
      guard = read_lit sd (bare_lit c.guard);
      lits = read_lits sd (bare_body c.body);
      heap = record { chunks = read_chunks (map bare_pred qs) sd (bare_body c.body) };
      ints = count_sort Int sd;
      sets = count_sort Set sd;
    }

    by_scope : (sd : Scope) → sd ≡ map bare_use sc → said sd ≡ read_clause qs ps c
    by_scope sd e = ap said e ∙ (λ i. record {
      guard = bare_read_lit (map bare_use sc) sc (bare_var sc) c.guard i;
      lits = bare_read_lits (map bare_use sc) sc (bare_var sc) c.body i;
      heap = record { chunks = bare_read_chunks (map bare_use sc) sc (bare_var sc) qs c.body i };
      ints = bare_count Int sc i;
      sets = bare_count Set sc i;
    })

pub bare_read_pred : (qs : List PredTree) (q : PredTree) → read_pred (map bare_pred qs) (bare_pred q) ≡ read_pred qs q
bare_read_pred qs q =
    let clauses_are : map (read_clause (map bare_pred qs) (map bare_param q.params)) (map bare_clause (clauses q)) ≡ map (read_clause qs q.params) (clauses q) =
    map_then bare_clause (read_clause (map bare_pred qs) (map bare_param q.params)) (read_clause qs q.params) (bare_read_clause qs q.params) (clauses q) in
    λ i. record { name = q.name.text; params = bare_param_sorts q.params i; clauses = clauses_are i }

pub bare_read_preds : (qs : List PredTree) → read_preds (map bare_pred qs) ≡ read_preds qs
bare_read_preds qs = λ i. record { list = map_then bare_pred (read_pred (map bare_pred qs)) (read_pred qs) (bare_read_pred qs) qs i }

-- ---- the goal

pub bare_universal : (t : TextTree) → universal_scope (bare_text t) ≡ map bare_use (universal_scope t)
bare_universal t =
    ap (λ (us : Scope). without_repeats same_name us) (both_mapped bare_use (param_uses t.params) (kept_body t.preds t.pre) _ _ (bare_param_uses t.params) (bare_kept_body t.preds t.pre))
    ∙ bare_all_new [] (param_uses t.params ++ kept_body t.preds t.pre)

pub bare_goal_scope : (t : TextTree) → goal_scope (bare_text t) ≡ map bare_use (goal_scope t)
bare_goal_scope t =
    (λ i. with_all_new same_name (bare_universal t i) (bare_kept_body t.preds t.post i)) ∙ bare_all_new (universal_scope t) (kept_body t.preds t.post)

bare_read_goal : (t : TextTree) → read_goal (bare_text t) ≡ read_goal t
bare_read_goal t = by_scope (goal_scope (bare_text t)) (universal_scope (bare_text t)) (bare_goal_scope t) (bare_universal t)
  where
    sc : Scope
    sc = goal_scope t

    qs : List PredTree
    qs = map bare_pred t.preds

    said : Scope → Scope → Goal
    said sd us = record {
      program = map (use_var sd) (param_uses (map bare_param t.params));
      exist = map (use_var sd) (drop (length us) sd);
      pure_pre = read_lits sd (bare_body t.pre);
      pre = record { chunks = with_cards 0 (read_chunks qs sd (bare_body t.pre)) };
      pure_post = read_lits sd (bare_body t.post);
      post = record { chunks = read_chunks qs sd (bare_body t.post) };
    }

    mapped_vars : (us : List Use) → map (use_var (map bare_use sc)) (map bare_use us) ≡ map (use_var sc) us
    mapped_vars us = map_then bare_use (use_var (map bare_use sc)) (use_var sc) (λ u. bare_var sc u.name.text) us

    program_is : map (use_var (map bare_use sc)) (param_uses (map bare_param t.params)) ≡ map (use_var sc) (param_uses t.params)
    program_is = ap (λ (us : List Use). map (use_var (map bare_use sc)) us) (bare_param_uses t.params) ∙ mapped_vars (param_uses t.params)

    exist_is : map (use_var (map bare_use sc)) (drop (length (map bare_use (universal_scope t))) (map bare_use sc)) ≡ map (use_var sc) (drop (length (universal_scope t)) sc)
    exist_is =
        ap (λ (n : ℕ). map (use_var (map bare_use sc)) (drop n (map bare_use sc))) (length_mapped bare_use (universal_scope t))
        ∙ ap (λ (us : List Use). map (use_var (map bare_use sc)) us) (drop_mapped bare_use (length (universal_scope t)) sc) ∙ mapped_vars (drop (length (universal_scope t)) sc)

    by_scope : (sd us : Scope) → sd ≡ map bare_use sc → us ≡ map bare_use (universal_scope t) → said sd us ≡ read_goal t
    by_scope sd us e f = (λ i. said (e i) (f i)) ∙ (λ i. record {
      program = program_is i;
      exist = exist_is i;
      pure_pre = bare_read_lits (map bare_use sc) sc (bare_var sc) t.pre i;
      pre = record { chunks = with_cards 0 (bare_read_chunks (map bare_use sc) sc (bare_var sc) t.preds t.pre i) };
      pure_post = bare_read_lits (map bare_use sc) sc (bare_var sc) t.post i;
      post = record { chunks = bare_read_chunks (map bare_use sc) sc (bare_var sc) t.preds t.post i };
    })

-- the specification of a tree is that of the tree without places
pub bare_read_tree : (t : TextTree) → read_tree (bare_text t) ≡ read_tree t
bare_read_tree t = λ i. record { preds = bare_read_preds t.preds i; name = t.name.text; goal = bare_read_goal t i }
