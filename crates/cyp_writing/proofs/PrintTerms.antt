-- How terms and unions are spelled, by their parts.
use Rattle.std.proofs.Common.{List, [], ap, arith, drop, false, get_or, length, map, refl, sym, ◌≤◌, ◌++◌, ◌∙◌, ◌∷◌, ◌≡◌}
use Rattle.std.specs.Prelude.{◌==◌}
use Rattle.std.proofs.lemmas.List.{append-nil}
use Rattle.cyp_lex.specs.Lexemes.{Symbol}
use Rattle.cyp_lex.specs.Spelling.{Any, At, Mark, more_spelling, separated, sign}
use Rattle.cyp_heap.specs.declared.pred.Preds.{Preds}
use Rattle.cyp_lex.specs.declared.token.Sign.TheVariants.{Comma, LeftBrace, RightBrace, TwoPluses}
use Rattle.cyp_writing.specs.PrintParts.{elem_marks, set_marks, term_marks, var_marks}
use Rattle.cyp_writing.proofs.PrintLists.{more_append, more_map, separated_map}
use Rattle.cyp_term.specs.declared.lit.SetTerm.{SetTerm}
use Rattle.cyp_term.specs.declared.term.Term.{Term}
use Rattle.cyp_term.specs.declared.term.Var.{Var}
use Rattle.cyp_text.specs.Grammar.{arg_spelling, braces_spelling, int_spelling, part_spelling, set_spelling}
use Rattle.cyp_writing.specs.PrintedTrees.{braces_of, term_tree, union_arg, union_tree, var_ident}
use Rattle.cyp_text.specs.declared.tree.PartTree.{PartTree}
use Rattle.cyp_text.specs.declared.tree.PartTree.TheVariants.{Braces, PartName}

-- ---- unions

pub behind_vars : (v : Var) (vs : List Var) (ts : List Term) → more_spelling (Symbol TwoPluses) part_spelling (braces_of (v ∷ vs) ts) ≡ elem_marks ts
behind_vars v vs [] = refl
behind_vars v vs (t ∷ ts) = ap (λ (ms : List Mark). Any (Symbol TwoPluses) ∷ ms) (append-nil (braces_spelling 0 (map term_tree (t ∷ ts))))

pub set_without_vars : (ts : List Term) → set_spelling (union_tree (braces_of [] ts)) ≡ braces_spelling 0 (map term_tree ts)
set_without_vars [] = refl
set_without_vars (t ∷ ts) = append-nil (braces_spelling 0 (map term_tree (t ∷ ts)))

pub set_with_vars : (v : Var) (vs : List Var) (ts : List Term) → set_marks (record { vars = v ∷ vs; elems = ts }) ≡ var_marks v ++ (more_spelling (Symbol TwoPluses) var_marks vs ++ elem_marks ts)
set_with_vars v vs ts =
    ap (λ (ms : List Mark). var_marks v ++ ms)
    (more_append (Symbol TwoPluses) part_spelling (map (λ w. PartName (var_ident w)) vs) (braces_of (v ∷ vs) ts)
    ∙ ap (λ (ms : List Mark). ms ++ more_spelling (Symbol TwoPluses) part_spelling (braces_of (v ∷ vs) ts)) (more_map (Symbol TwoPluses) (λ w. PartName (var_ident w)) part_spelling vs)
    ∙ ap (λ (ms : List Mark). more_spelling (Symbol TwoPluses) var_marks vs ++ ms) (behind_vars v vs ts))

-- as an argument a union is spelled alike
pub union_argument : (us : List PartTree) → arg_spelling (union_arg us) ≡ set_spelling (union_tree us)
union_argument [] = refl
union_argument (Braces p ts ∷ us) = refl
union_argument (PartName i ∷ []) = refl
union_argument (PartName i ∷ u ∷ us) = refl

-- ---- unions by their lists

length_none : {A : Type 0} (xs : List A) → length xs ≡ 0 → xs ≡ []
length_none [] e = refl
length_none (x ∷ xs) e = absurd (omega arith)

pub no_vars : (u : SetTerm) (vs : List Var) (ts : List Term) → vs ≡ u.vars → ts ≡ u.elems → length vs ≡ 0 → set_marks u ≡ braces_spelling 0 (map term_tree ts)
no_vars u vs ts e f none =
    let empty : u.vars ≡ [] = sym e ∙ length_none vs none in
    ap (λ (ws : List Var). set_marks (record { vars = ws; elems = u.elems })) empty
    ∙ set_without_vars u.elems
    ∙ ap (λ (es : List Term). braces_spelling 0 (map term_tree es)) (sym f)

some_vars_by : (vs : List Var) (d : Var) (ts : List Term) → 1 ≤ length vs → set_marks (record { vars = vs; elems = ts }) ≡ var_marks (get_or vs 0 d) ++ (more_spelling (Symbol TwoPluses) var_marks (drop 1 vs) ++ elem_marks ts)
some_vars_by [] d ts some = absurd (omega arith)
some_vars_by (v ∷ vs) d ts some = set_with_vars v vs ts

pub some_vars : (u : SetTerm) (vs : List Var) (d : Var) (ts : List Term) → vs ≡ u.vars → ts ≡ u.elems → 1 ≤ length vs → set_marks u ≡ var_marks (get_or vs 0 d) ++ (more_spelling (Symbol TwoPluses) var_marks (drop 1 vs) ++ elem_marks ts)
some_vars u vs d ts e f some =
    ap (λ (ws : List Var). set_marks (record { vars = ws; elems = u.elems })) (sym e)
    ∙ ap (λ (es : List Term). set_marks (record { vars = vs; elems = es })) (sym f)
    ∙ some_vars_by vs d ts some

-- ---- braces

pub braces_spelled : (preds : Preds) (ts : List Term) → At (Symbol LeftBrace) 0 ∷ (separated (Symbol Comma) (term_marks preds) ts ++ sign RightBrace ∷ []) ≡ braces_spelling 0 (map term_tree ts)
braces_spelled preds ts = ap (λ (ms : List Mark). At (Symbol LeftBrace) 0 ∷ (ms ++ sign RightBrace ∷ [])) (sym (separated_map (Symbol Comma) term_tree int_spelling ts))

pub some_elems : (ts : List Term) → (length ts == 0) ≡ false → sign TwoPluses ∷ braces_spelling 0 (map term_tree ts) ≡ elem_marks ts
some_elems [] some = absurd cc
some_elems (t ∷ ts) some = refl
