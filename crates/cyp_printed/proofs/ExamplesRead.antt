-- Worked examples of specifications that are read.
use Rattle.std.specs.Prelude.{List, Ok, Some, [], codes, ℕ, ◌++◌, ◌∷◌, ◌≡◌}
use Rattle.std.proofs.Common.{refl, inl}
use Rattle.cyp_heap.specs.declared.chunk.Arg.TheVariants.{Int as IntArg, Set as SetArg}
use Rattle.cyp_heap.specs.declared.pred.Preds.{Preds}
use Rattle.cyp_lex.specs.Lexing.{lexed, name_kind, piece_at, sign_at, stands, tokens_of}
use Rattle.cyp_lex.specs.declared.token.Sign.TheVariants.{PointsTo}
use Rattle.cyp_lex.specs.declared.token.TokenKind.TheVariants as kinds
use Rattle.cyp_term.specs.Entailment.{arrangement_fits, arrangements, class_literals, satisfiable}
use Rattle.cyp_term.specs.Integers.{all_cases, both, eliminate, eliminate_all, feasible, ints_fit, joined}
use Rattle.cyp_term.specs.Regions.{all_set_vars, all_terms, regions_fit}
use Rattle.cyp_term.specs.declared.lit.Lit.TheVariants.{Eq, Lt, Same}
use Rattle.cyp_term.specs.declared.term.Sort.TheVariants.{Int}
use Rattle.cyp_formed.specs.Reading.{IsReading}
use Rattle.cyp_text.specs.declared.tree.ChunkTree.TheVariants.{NamedCell}
use Rattle.cyp_text.specs.declared.tree.IntTree.TheVariants.{Named, Num}
use Rattle.cyp_text.specs.declared.tree.PureTree.TheVariants.{NoItems}
use Rattle.cyp_text.specs.declared.tree.SortTree.TheVariants.{LocSort}
use Rattle.cyp_text.specs.declared.tree.TextTree.{TextTree}
use Rattle.cyp_spec.proofs.ExampleForms.{S, X, block, cell, goal, inst, k, no_preds, num, plus, s, sll_preds, sll_text, tree_of, x}

arrow_tokens : tokens_of (codes "x:->a") ≡ Ok (
    record { kind = kinds.Name; start = 0; end = 1 }
    ∷ record { kind = kinds.Sign PointsTo; start = 1; end = 4 }
    ∷ record { kind = kinds.Name; start = 4; end = 5 }
    ∷ [])
unfolding lexed piece_at sign_at stands name_kind
arrow_tokens = refl

-- ---- a cell

abbrev write : List ℕ
write = codes "void f(loc x) { x :-> a } { x :-> 5 }"

abbrev write_tree : TextTree
write_tree = record {
  preds = [];
  name = record { text = codes "f"; place = 5 };
  params = record { sort = LocSort; place = 7; name = record { text = codes "x"; place = 11 } } ∷ [];
  pre = record { pure = NoItems; chunks = NamedCell (record { text = codes "x"; place = 16 }) (Named (record { text = codes "a"; place = 22 })) ∷ [] };
  post = record { pure = NoItems; chunks = NamedCell (record { text = codes "x"; place = 28 }) (Num 34 5) ∷ [] };
}

write_reads : IsReading write (Ok (record { preds = no_preds; name = codes "f"; goal = goal (x 0 ∷ []) [] (cell (X 0) (X 1) ∷ []) (cell (X 0) (num 5) ∷ []) }))
unfolding lexed piece_at sign_at stands name_kind
write_reads = inl (write_tree, assumption refl, refl)

-- ---- lists

abbrev dispose : List ℕ
dispose = sll_text ++ codes "void dispose(loc x) { sll(x, s) } { emp }"

dispose_reads : IsReading dispose (Ok (record {
  preds = sll_preds;
  name = codes "dispose";
  goal = goal (x 0 ∷ []) [] (inst (IntArg (X 0) ∷ SetArg (S 0) ∷ []) (Some (k 0)) ∷ []) [];
}))
unfolding lexed piece_at sign_at stands name_kind satisfiable arrangements class_literals arrangement_fits ints_fit all_cases both joined eliminate eliminate_all feasible all_terms all_set_vars regions_fit
dispose_reads = inl (tree_of dispose, assumption refl, refl)

-- behind a cell
abbrev clear : List ℕ
clear = sll_text ++ codes "void clear(loc r) { r :-> x ** sll(x, s) } { r :-> 0 }"

clear_reads : IsReading clear (Ok (record {
  preds = sll_preds;
  name = codes "clear";
  goal = goal (x 0 ∷ []) [] (inst (IntArg (X 1) ∷ SetArg (S 0) ∷ []) (Some (k 0)) ∷ cell (X 0) (X 1) ∷ []) (cell (X 0) (num 0) ∷ []);
}))
unfolding lexed piece_at sign_at stands name_kind satisfiable arrangements class_literals arrangement_fits ints_fit all_cases both joined eliminate eliminate_all feasible all_terms all_set_vars regions_fit
clear_reads = inl (tree_of clear, assumption refl, refl)

-- ---- the order in which names are numbered

-- `b > a` is kept as `a < b`, and `not (c <= d)` as `d < c`
abbrev sides : List ℕ
sides = codes "void f() { b > a && not (c <= d) ; emp } { emp }"

sides_read : IsReading sides (Ok (record {
  preds = no_preds;
  name = codes "f";
  goal = record (goal [] [] [] []) { pure_pre = Lt (X 0) (X 1) ∷ Lt (X 2) (X 3) ∷ [] };
}))
unfolding lexed piece_at sign_at stands name_kind
sides_read = inl (tree_of sides, assumption refl, refl)

abbrev any_pred : Preds
any_pred = record {
  list = record {
    name = codes "p";
    params = Int ∷ [];
    clauses = record { guard = Eq (num 0) (num 0); lits = []; heap = record { chunks = [] }; ints = 1; sets = 0 } ∷ [];
  } ∷ [];
}

-- instances before blocks before cells
abbrev kinds_text : List ℕ
kinds_text = codes "predicate p(int a) { | 0 == 0 => { emp } } void f() { (x + 1) :-> b ** p(c) ** [d, 1] } { emp }"

kinds_read : IsReading kinds_text (Ok (record {
  preds = any_pred;
  name = codes "f";
  goal = goal [] [] (inst (IntArg (X 0) ∷ []) (Some (k 0)) ∷ block (X 1) 1 ∷ cell (plus 2 1) (X 3) ∷ []) [];
}))
unfolding lexed piece_at sign_at stands name_kind
kinds_read = inl (tree_of kinds_text, assumption refl, refl)

-- existentials in the order of their first occurrence, where a union has its variables before its elements
abbrev mixed : List ℕ
mixed = codes "void f(int x) { emp } { {v, x} ++ t =i s /\\ true ; emp }"

mixed_read : IsReading mixed (Ok (record {
  preds = no_preds;
  name = codes "f";
  goal = record (goal (x 0 ∷ []) (s 0 ∷ x 1 ∷ s 1 ∷ []) [] []) { pure_post = Same (record { vars = s 0 ∷ []; elems = X 1 ∷ X 0 ∷ [] }) (S 1) ∷ [] };
}))
unfolding lexed piece_at sign_at stands name_kind
mixed_read = inl (tree_of mixed, assumption refl, refl)

-- the greatest number
abbrev great : List ℕ
great = codes "void f(int n, int m) { n == m + 2147483648 ; emp } { emp }"

great_read : IsReading great (Ok (record {
  preds = no_preds;
  name = codes "f";
  goal = record (goal (x 0 ∷ x 1 ∷ []) [] [] []) { pure_pre = Eq (X 0) (plus 1 2147483648) ∷ [] };
}))
unfolding lexed piece_at sign_at stands name_kind
great_read = inl (tree_of great, assumption refl, refl)
