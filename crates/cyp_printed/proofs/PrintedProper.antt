-- The marks of printed bodies, predicates and texts are tokens of specifications, where those of their tree are.
use Rattle.std.proofs.Common.{List, [], ap, arith, flat_map, inl, inr, map, refl, subst, sym, ◌++◌, ◌∙◌, ◌∷◌, ◌≡◌, ◌<◌, ◌^◌, ℕ}
use Rattle.std.specs.Prelude.{slice_get}
use Rattle.cyp_lex.specs.Lexemes.{Name, Number, Reserved, Symbol}
use Rattle.cyp_lex.specs.Spelling.{At, Mark, all_spelling, ident, separated, sign, word}
use Rattle.cyp_lex.specs.declared.ident.Ident.{Ident}
use Rattle.cyp_heap.specs.Chunks.{arg_vars}
use Rattle.cyp_heap.specs.Formed.{term_part_vars}
use Rattle.cyp_heap.specs.PredsFormed.{arg_terms, lit_terms}
use Rattle.cyp_heap.specs.declared.chunk.Arg.{Arg}
use Rattle.cyp_lex.specs.declared.token.Sign.TheVariants.{AndAnd, Comma, LeftBrace, LeftBracket, LeftParen, PointsTo, RightBrace, RightBracket, RightParen, Semicolon, TwoStars}
use Rattle.cyp_lex.specs.declared.token.Word.TheVariants.{Emp}
use Rattle.cyp_term.specs.Terms.{lit_vars, term_vars}
use Rattle.cyp_term.specs.declared.lit.Lit.{Lit}
use Rattle.cyp_term.specs.declared.term.Term.{Term}
use Rattle.cyp_term.specs.declared.term.Var.{Var}
use Rattle.cyp_term.proofs.Lists.{Among, Among-cases, Among-left, Among-map, Among-right, flat_in, map_from}
use Rattle.cyp_names.specs.Bodies.{body_lits, in_kinds, item_lits, kept_body, pure_lits}
use Rattle.cyp_text.specs.Grammar.{arg_spelling, body_spelling, chunk_spelling, conjunction_sign, heap_spelling, in_braces, int_spelling, item_spelling, later_item, lit_spelling, param_spelling, params_spelling, pure_spelling, sort_word}
use Rattle.cyp_names.specs.NameFaults.{chunk_faults}
use Rattle.cyp_writing.specs.PrintedTrees.{arg_tree, cell_tree, chunk_tree, ident_of, later_tree, lit_tree, param_tree, pred_name, pure_tree, sort_tree, term_tree}
use Rattle.cyp_names.specs.ReadTerms.{Scope, read_args, read_chunk, read_chunks, read_int, read_lit, read_lits, use_var}
use Rattle.cyp_names.specs.Specifications.{read_preds}
use Rattle.cyp_text.specs.LitTrees.{LitTree}
use Rattle.cyp_text.specs.declared.tree.ArgTree.{ArgTree}
use Rattle.cyp_text.specs.declared.tree.BodyTree.{BodyTree}
use Rattle.cyp_text.specs.declared.tree.ChunkTree.{ChunkTree}
use Rattle.cyp_text.specs.declared.tree.ChunkTree.TheVariants.{BlockOf, InstanceOf, NamedCell, TermCell}
use Rattle.cyp_text.specs.declared.tree.Conjunction.{Conjunction}
use Rattle.cyp_text.specs.declared.tree.IntTree.{IntTree}
use Rattle.cyp_text.specs.declared.tree.IntTree.TheVariants.{Named}
use Rattle.cyp_text.specs.declared.tree.ItemTree.{ItemTree}
use Rattle.cyp_text.specs.declared.tree.ItemTree.TheVariants.{LitItem, TrueItem}
use Rattle.cyp_text.specs.declared.tree.ParamTree.{ParamTree}
use Rattle.cyp_text.specs.declared.tree.PredTree.{PredTree}
use Rattle.cyp_text.specs.declared.tree.PureTree.{PureTree}
use Rattle.cyp_text.specs.declared.tree.PureTree.TheVariants.{Items, NoItems}
use Rattle.cyp_names.specs.Uses.{Use, arg_sorts, pred_place}
use Rattle.cyp_formed.proofs.FormedInstances.{kinds_among}
use Rattle.cyp_formed.proofs.Names.{Comes, chunks_come, lits_come}
use Rattle.cyp_formed.proofs.OfPreds.{OfPred, of_pred}
use Rattle.cyp_printed.proofs.PrintedAgain.{name_back}
use Rattle.cyp_printed.proofs.PrintedBodies.{again_body}
use Rattle.cyp_printed.proofs.PrintedChunks.{again_chunk}
use Rattle.cyp_printed.proofs.PrintedMarks.{AreShort, AreSmall, IsShort, arg_marks, lit_marks, proper_var, term_marks}
use Rattle.cyp_spec.proofs.TokenMarks.{Marks, each_list, marks_all, marks_both, marks_cons, marks_first, marks_left, marks_list, marks_none, marks_rest, marks_right, marks_separated, proper_number, proper_sign, proper_word, Proper, block_at}
use Rattle.cyp_formed.proofs.Nameables.{HasAll, Nameable}
use Rattle.cyp_printed.proofs.PrintedNames.{var_small}
use Rattle.cyp_printed.proofs.PrintedSmall.{chunk_small, lit_small}

-- ---- chunks

cell_marks : (a t : IntTree) → Marks (int_spelling a) → Marks (int_spelling t) → Marks (chunk_spelling (cell_tree a t))
cell_marks (Named i) t h k = marks_cons (ident i) (sign PointsTo ∷ int_spelling t) (h (ident i) (inl refl)) (marks_cons (sign PointsTo) (int_spelling t) (proper_sign PointsTo refl) k)
cell_marks a t h k = in_parens a t h k
  where
    in_parens : (a t : IntTree) → Marks (int_spelling a) → Marks (int_spelling t) → Marks (chunk_spelling (TermCell a t))
    in_parens a t h k =
        let behind : List Mark = sign RightParen ∷ sign PointsTo ∷ int_spelling t in
        marks_cons (sign LeftParen) (int_spelling a ++ behind) (proper_sign LeftParen refl)
        (marks_both (int_spelling a) behind h (marks_cons (sign RightParen) (sign PointsTo ∷ int_spelling t) (proper_sign RightParen refl) (marks_cons (sign PointsTo) (int_spelling t) (proper_sign PointsTo refl) k)))

two_terms : (a t : Term) → AreShort (term_vars a ++ term_vars t) → AreSmall (a ∷ t ∷ []) → Marks (chunk_spelling (cell_tree (term_tree a) (term_tree t)))
two_terms a t s h =
    cell_marks (term_tree a) (term_tree t) (term_marks a (λ v m. s v (Among-left v (term_vars a) (term_vars t) m)) (h a (inl refl)))
    (term_marks t (λ v m. s v (Among-right v (term_vars a) (term_vars t) m)) (h t (inr (inl refl))))

args_marks : (xs : List Arg) → AreShort (flat_map arg_vars xs) → AreSmall (flat_map arg_terms xs) → (x : ArgTree) → Among x (map arg_tree xs) → Marks (arg_spelling x)
args_marks xs s h x m =
    let f = map_from arg_tree x xs m in
    subst (λ (y : ArgTree). Marks (arg_spelling y)) (sym f.2)
    (arg_marks f.0 (λ v k. s v (flat_in arg_vars v f.0 xs f.1 k)) (λ t k. h t (flat_in arg_terms t f.0 xs f.1 k)))

module _ (qs : List PredTree) (sc : Scope) where
  inst_marks : (i : Ident) (xs : List ArgTree) → OfPred qs i xs → Marks (chunk_spelling (InstanceOf i xs)) → AreShort (term_part_vars (read_chunk qs sc (InstanceOf i xs))) → Marks (chunk_spelling (again_chunk qs sc (InstanceOf i xs)))
  inst_marks i xs of h s =
      let args : List Arg = read_args sc (arg_sorts qs i xs) xs in
      let spelled : List Mark = separated (Symbol Comma) arg_spelling (map arg_tree args) in
      let name : List ℕ = pred_name (slice_get (read_preds qs).list (pred_place i.text qs)) in
      marks_cons (ident (ident_of name)) (sign LeftParen ∷ (spelled ++ sign RightParen ∷ []))
      (subst (λ (a : List ℕ). Proper (Name a)) (sym (name_back qs i xs of)) (marks_first (ident i) (sign LeftParen ∷ (separated (Symbol Comma) arg_spelling xs ++ sign RightParen ∷ [])) h))
      (marks_cons (sign LeftParen) (spelled ++ sign RightParen ∷ []) (proper_sign LeftParen refl)
      (marks_both spelled (sign RightParen ∷ [])
      (marks_separated (Symbol Comma) (proper_sign Comma refl) arg_spelling (map arg_tree args) (args_marks args s (chunk_small sc qs (InstanceOf i xs) h)))
      (marks_cons (sign RightParen) [] (proper_sign RightParen refl) marks_none)))

  pub chunk_marks : (c : ChunkTree) → chunk_faults qs c ≡ [] → Marks (chunk_spelling c) → AreShort (term_part_vars (read_chunk qs sc c)) → Marks (chunk_spelling (again_chunk qs sc c))
  chunk_marks (NamedCell i t) e h s = two_terms _ (read_int sc t) s (chunk_small sc qs (NamedCell i t) h)
  chunk_marks (TermCell a t) e h s = two_terms (read_int sc a) (read_int sc t) s (chunk_small sc qs (TermCell a t) h)
  chunk_marks (BlockOf a p n) e h s =
      let behind : List Mark = sign Comma ∷ At (Number n) 0 ∷ sign RightBracket ∷ [] in
      let at : IntTree = term_tree (read_int sc a) in
      marks_cons (sign LeftBracket) (int_spelling at ++ behind) (proper_sign LeftBracket refl)
      (marks_both (int_spelling at) behind (term_marks (read_int sc a) s (chunk_small sc qs (BlockOf a p n) h (read_int sc a) (inl refl)))
      (marks_cons (sign Comma) (At (Number n) 0 ∷ sign RightBracket ∷ []) (proper_sign Comma refl)
      (marks_cons (At (Number n) 0) (sign RightBracket ∷ []) (proper_number n (block_at a p n h).1) (marks_cons (sign RightBracket) [] (proper_sign RightBracket refl) marks_none))))
  chunk_marks (InstanceOf i xs) e h s = inst_marks i xs (of_pred qs i xs e) h s

-- ---- the literals and chunks of a body

item_each : (i : ItemTree) → Marks (item_spelling i) → (l : LitTree) → Among l (item_lits i) → Marks (lit_spelling l)
item_each TrueItem h l m = absurd m
item_each (LitItem k) h l (inl e) = subst (λ (x : LitTree). Marks (lit_spelling x)) (sym e) h
item_each (LitItem k) h l (inr m) = absurd m

later_each : (is : List (Conjunction × ItemTree)) → Marks (all_spelling later_item is) → (l : LitTree) → Among l (flat_map (λ (p : Conjunction × ItemTree). item_lits p.1) is) → Marks (lit_spelling l)
later_each [] h l m = absurd m
later_each (p ∷ is) h l m = elim (Among-cases l (item_lits p.1) (flat_map (λ (q : Conjunction × ItemTree). item_lits q.1) is) m) [
  | inl a ↦ item_each p.1 (marks_rest (sign (conjunction_sign p.0)) (item_spelling p.1) (marks_left (later_item p) (all_spelling later_item is) h)) l a
  | inr b ↦ later_each is (marks_right (later_item p) (all_spelling later_item is) h) l b
]

pure_each : (p : PureTree) → Marks (pure_spelling p) → (l : LitTree) → Among l (pure_lits p) → Marks (lit_spelling l)
pure_each NoItems h l m = absurd m
pure_each (Items i is) h l m =
    let behind : List Mark = all_spelling later_item is ++ sign Semicolon ∷ [] in
    elim (Among-cases l (item_lits i) (flat_map (λ (q : Conjunction × ItemTree). item_lits q.1) is) m) [
      | inl a ↦ item_each i (marks_left (item_spelling i) behind h) l a
      | inr b ↦ later_each is (marks_left (all_spelling later_item is) (sign Semicolon ∷ []) (marks_right (item_spelling i) behind h)) l b
    ]

heap_each : (cs : List ChunkTree) → Marks (heap_spelling cs) → (c : ChunkTree) → Among c cs → Marks (chunk_spelling c)
heap_each [] h c m = absurd m
heap_each (d ∷ ds) h c m = each_list (Symbol TwoStars) chunk_spelling d ds h c m

-- ---- printed bodies

later_marks : (ls : List Lit) → ((l : Lit) → Among l ls → Marks (lit_spelling (lit_tree l))) → (p : Conjunction × ItemTree) → Among p (map later_tree ls) → Marks (later_item p)
later_marks ls h p m =
    let f = map_from later_tree p ls m in
    subst (λ (q : Conjunction × ItemTree). Marks (later_item q)) (sym f.2) (marks_cons (sign AndAnd) (lit_spelling (lit_tree f.0)) (proper_sign AndAnd refl) (h f.0 f.1))

pure_marks : (ls : List Lit) → ((l : Lit) → Among l ls → Marks (lit_spelling (lit_tree l))) → Marks (pure_spelling (pure_tree ls))
pure_marks [] h = marks_none
pure_marks (l ∷ ls) h =
    marks_both (lit_spelling (lit_tree l)) (all_spelling later_item (map later_tree ls) ++ sign Semicolon ∷ []) (h l (inl refl))
    (marks_both (all_spelling later_item (map later_tree ls)) (sign Semicolon ∷ []) (marks_all later_item (map later_tree ls) (later_marks ls (λ k m. h k (inr m)))) (marks_cons (sign Semicolon) [] (proper_sign Semicolon refl) marks_none))

heap_marks : (cs : List ChunkTree) → ((c : ChunkTree) → Among c cs → Marks (chunk_spelling c)) → Marks (heap_spelling cs)
heap_marks [] h = marks_cons (word Emp) [] (proper_word Emp) marks_none
heap_marks (c ∷ cs) h = marks_list (Symbol TwoStars) (proper_sign TwoStars refl) chunk_spelling c cs (h c (inl refl)) (λ d m. h d (inr m))

pub braced_marks : (b : BodyTree) → Marks (body_spelling b) → Marks (in_braces b)
braced_marks b h =
    marks_cons (sign LeftBrace) (body_spelling b ++ sign RightBrace ∷ []) (proper_sign LeftBrace refl)
    (marks_both (body_spelling b) (sign RightBrace ∷ []) h (marks_cons (sign RightBrace) [] (proper_sign RightBrace refl) marks_none))

pub braced_inner : (b : BodyTree) → Marks (in_braces b) → Marks (body_spelling b)
braced_inner b h = marks_left (body_spelling b) (sign RightBrace ∷ []) (marks_rest (sign LeftBrace) (body_spelling b ++ sign RightBrace ∷ []) h)

-- variables of names of the scope are short
pub come_short : (sc : Scope) → Nameable sc → (us : List Use) → HasAll sc us → (v : Var) → Comes sc us v → IsShort v
come_short sc ok us has v c = subst (λ (w : Var). IsShort w) (sym c.2) (wide (use_var sc c.0).number (var_small sc ok c.0.name.text (has c.0 c.1)))
  where
    wide : (n : ℕ) → n < 64 → n < 2 ^ 63
    wide n h = omega arith

module _ (qs : List PredTree) (sc : Scope) (ok : Nameable sc) (b : BodyTree) (has : HasAll sc (kept_body qs b)) (right : (c : ChunkTree) → Among c b.chunks → chunk_faults qs c ≡ []) (h : Marks (body_spelling b)) where
  pure_part : Marks (pure_spelling b.pure)
  pure_part = marks_left (pure_spelling b.pure) (heap_spelling b.chunks) h

  heap_part : Marks (heap_spelling b.chunks)
  heap_part = marks_right (pure_spelling b.pure) (heap_spelling b.chunks) h

  lit_right : (l : Lit) → Among l (read_lits sc b) → Marks (lit_spelling (lit_tree l))
  lit_right l m =
      let f = map_from (read_lit sc) l (body_lits b) m in
      lit_marks l (λ v k. come_short sc ok (kept_body qs b) has v (lits_come sc v qs b (flat_in lit_vars v l (read_lits sc b) m k)))
      (subst (λ (x : Lit). AreSmall (lit_terms x)) (sym f.2) (lit_small sc f.0 (pure_each b.pure pure_part f.0 f.1)))

  chunk_right : (d : ChunkTree) → Among d (map (chunk_tree (read_preds qs)) (read_chunks qs sc b)) → Marks (chunk_spelling d)
  chunk_right d m =
      let f = map_from (chunk_tree (read_preds qs)) d (read_chunks qs sc b) m in
      let g = map_from (read_chunk qs sc) f.0 (in_kinds b.chunks) f.1 in
      let here : Among g.0 b.chunks = kinds_among b.chunks g.0 g.1 in
      let short : AreShort (term_part_vars (read_chunk qs sc g.0)) =
      λ v k. come_short sc ok (kept_body qs b) has v (chunks_come sc v qs b (flat_in term_part_vars v (read_chunk qs sc g.0) (read_chunks qs sc b) (Among-map (read_chunk qs sc) g.0 (in_kinds b.chunks) g.1) k)) in
      subst (λ (x : ChunkTree). Marks (chunk_spelling x)) (sym (f.2 ∙ ap (chunk_tree (read_preds qs)) g.2)) (chunk_marks qs sc g.0 (right g.0 here) (heap_each b.chunks heap_part g.0 here) short)

  -- the printed body
  pub body_marks : Marks (body_spelling (again_body qs sc b))
  body_marks =
      marks_both (pure_spelling (pure_tree (read_lits sc b))) (heap_spelling (map (chunk_tree (read_preds qs)) (read_chunks qs sc b)))
      (pure_marks (read_lits sc b) lit_right) (heap_marks (map (chunk_tree (read_preds qs)) (read_chunks qs sc b)) chunk_right)

-- ---- parameters

param_marks : (v : Var) → IsShort v → Marks (param_spelling (param_tree v))
param_marks v s =
    marks_cons (At (Reserved (sort_word (sort_tree v.sort))) 0) (ident (param_tree v).name ∷ []) (proper_word (sort_word (sort_tree v.sort)))
    (marks_cons (ident (param_tree v).name) [] (proper_var v s) marks_none)

pub params_marks : (vs : List Var) → AreShort vs → Marks (params_spelling (map param_tree vs))
params_marks vs s =
    let spelled : List Mark = separated (Symbol Comma) param_spelling (map param_tree vs) in
    marks_cons (sign LeftParen) (spelled ++ sign RightParen ∷ []) (proper_sign LeftParen refl)
    (marks_both spelled (sign RightParen ∷ []) (marks_separated (Symbol Comma) (proper_sign Comma refl) param_spelling (map param_tree vs) each)
    (marks_cons (sign RightParen) [] (proper_sign RightParen refl) marks_none))
  where
    each : (p : ParamTree) → Among p (map param_tree vs) → Marks (param_spelling p)
    each p m = let f = map_from param_tree p vs m in subst (λ (x : ParamTree). Marks (param_spelling x)) (sym f.2) (param_marks f.0 (s f.0 f.1))
