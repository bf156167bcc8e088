-- How literals, chunks and bodies are spelled, by their parts.
use Rattle.std.proofs.Common.{List, [], add-one, ap, append_assoc, false, get_or, length, map, refl, suc, sym, take, ℕ, ◌+◌, ◌++◌, ◌<◌, ◌∙◌, ◌∷◌, ◌≡◌}
use Rattle.std.specs.Prelude.{filter, ◌==◌}
use Rattle.std.proofs.lemmas.List.{append-nil, map-append, take_more}
use Rattle.cyp_lex.specs.Lexemes.{Symbol}
use Rattle.cyp_lex.specs.Spelling.{Mark, all_spelling, more_spelling, separated, sign}
use Rattle.cyp_heap.specs.declared.chunk.Arg.{Arg}
use Rattle.cyp_heap.specs.declared.chunk.Chunk.{Chunk}
use Rattle.cyp_heap.specs.declared.pred.Preds.{Preds}
use Rattle.cyp_lex.specs.declared.token.Sign.TheVariants.{AndAnd, Comma, LeftParen, RightParen, Semicolon, TwoStars}
use Rattle.cyp_writing.specs.PrintMarks.{Printed, with_marks, with_said}
use Rattle.cyp_writing.specs.PrintParts.{arg_marks, chunk_marks, lit_marks, negated_marks, negation_marks, numbered_marks, param_marks, param_of}
use Rattle.cyp_writing.proofs.PrintLists.{more_map, separated_map}
use Rattle.cyp_writing.proofs.PrintSteps.{then_one}
use Rattle.cyp_writing.specs.declared.printed_params.Param.{Param}
use Rattle.cyp_term.specs.Terms.{sort_eq}
use Rattle.cyp_term.specs.declared.lit.Lit.{Lit}
use Rattle.cyp_term.specs.declared.term.Sort.{Sort}
use Rattle.cyp_term.specs.declared.term.Var.{Var}
use Rattle.cyp_text.specs.Grammar.{arg_spelling, chunk_spelling, heap_spelling, later_item, param_spelling, params_spelling, pure_spelling}
use Rattle.cyp_writing.specs.PrintedTrees.{arg_tree, chunk_tree, later_tree, param_tree, params_from, pure_tree}

-- ---- pure parts

later_items : (preds : Preds) (ls : List Lit) → all_spelling later_item (map later_tree ls) ≡ more_spelling (Symbol AndAnd) (lit_marks preds) ls
later_items preds [] = refl
later_items preds (l ∷ ls) = ap (λ (ms : List Mark). sign AndAnd ∷ (lit_marks preds l ++ ms)) (later_items preds ls)

pub pure_spelled : (preds : Preds) (l : Lit) (ls : List Lit) → pure_spelling (pure_tree (l ∷ ls)) ≡ separated (Symbol AndAnd) (lit_marks preds) (l ∷ ls) ++ sign Semicolon ∷ []
pure_spelled preds l ls =
    ap (λ (ms : List Mark). lit_marks preds l ++ (ms ++ sign Semicolon ∷ [])) (later_items preds ls)
    ∙ sym (append_assoc (lit_marks preds l) (more_spelling (Symbol AndAnd) (lit_marks preds) ls) (sign Semicolon ∷ []))

-- ---- heaps

pub heap_spelled : (preds : Preds) (c : Chunk) (cs : List Chunk) → heap_spelling (map (chunk_tree preds) (c ∷ cs)) ≡ separated (Symbol TwoStars) (chunk_marks preds) (c ∷ cs)
heap_spelled preds c cs = ap (λ (ms : List Mark). chunk_marks preds c ++ ms) (more_map (Symbol TwoStars) (chunk_tree preds) chunk_spelling cs)

-- ---- lists that aren't empty

pub pure_of : (preds : Preds) (ls : List Lit) → (length ls == 0) ≡ false → separated (Symbol AndAnd) (lit_marks preds) ls ++ sign Semicolon ∷ [] ≡ pure_spelling (pure_tree ls)
pure_of preds [] some = absurd cc
pure_of preds (l ∷ ls) some = sym (pure_spelled preds l ls)

pub heap_of : (preds : Preds) (cs : List Chunk) → (length cs == 0) ≡ false → separated (Symbol TwoStars) (chunk_marks preds) cs ≡ heap_spelling (map (chunk_tree preds) cs)
heap_of preds [] some = absurd cc
heap_of preds (c ∷ cs) some = sym (heap_spelled preds c cs)

-- ---- parameters

pub params_of : (preds : Preds) (vs : List Var) → sign LeftParen ∷ (separated (Symbol Comma) (param_marks preds) vs ++ sign RightParen ∷ []) ≡ params_spelling (map param_tree vs)
params_of preds vs = ap (λ (ms : List Mark). sign LeftParen ∷ (ms ++ sign RightParen ∷ [])) (sym (separated_map (Symbol Comma) param_tree param_spelling vs))

pub numbered_of : (vs : List Var) → sign LeftParen ∷ (separated (Symbol Comma) numbered_marks (map param_of vs) ++ sign RightParen ∷ []) ≡ params_spelling (map param_tree vs)
numbered_of vs =
    ap (λ (ms : List Mark). sign LeftParen ∷ (ms ++ sign RightParen ∷ []))
    (separated_map (Symbol Comma) param_of numbered_marks vs ∙ sym (separated_map (Symbol Comma) param_tree param_spelling vs))

-- the variable of a parameter behind others
abbrev numbered_var : Sort → List Sort → Var
numbered_var s seen = record { sort = s; number = length (filter (sort_eq s) seen) }

numbered_more : (seen xs : List Sort) (s : Sort) → params_from seen (xs ++ s ∷ []) ≡ params_from seen xs ++ numbered_var s (seen ++ xs) ∷ []
numbered_more seen [] s = ap (λ (ys : List Sort). numbered_var s ys ∷ []) (sym (append-nil seen))
numbered_more seen (x ∷ xs) s =
    ap (λ (vs : List Var). numbered_var x seen ∷ vs)
    (numbered_more (seen ++ x ∷ []) xs s ∙ ap (λ (ys : List Sort). params_from (seen ++ x ∷ []) xs ++ numbered_var s ys ∷ []) (append_assoc seen (x ∷ []) xs))

-- one more parameter
pub numbered_step : (sorts : List Sort) (i : ℕ) (s : Sort) (ps : List Param) (q : Param) (n : ℕ) → i < length sorts → s ≡ get_or sorts i s
    → ps ≡ map param_of (params_from [] (take i sorts)) → n ≡ length (filter (sort_eq s) (take i sorts)) → q ≡ record { sort = s; number = n + 1 }
    → ps ++ q ∷ [] ≡ map param_of (params_from [] (take (i + 1) sorts))
numbered_step sorts i s ps q n below is before count made =
    let same : q ≡ param_of (numbered_var s (take i sorts)) =
    made ∙ ap (λ (k : ℕ). let r : Param = record { sort = s; number = k } in r) (add-one n ∙ ap suc count) in
    ap (λ (rs : List Param). rs ++ q ∷ []) before
    ∙ ap (λ (r : Param). map param_of (params_from [] (take i sorts)) ++ r ∷ []) same
    ∙ sym (map-append param_of (params_from [] (take i sorts)) (numbered_var s (take i sorts) ∷ []))
    ∙ ap (λ (vs : List Var). map param_of vs) (sym (numbered_more [] (take i sorts) s))
    ∙ ap (λ (ys : List Sort). map param_of (params_from [] ys)) (ap (λ (t : Sort). take i sorts ++ t ∷ []) is ∙ sym (take_more sorts i s below))

-- ---- negations

pub negated : (inner : List Mark) (start p q r : Printed) → p ≡ with_marks start negation_marks → q ≡ with_marks p inner → r ≡ with_said q (Symbol RightParen) → r ≡ with_marks start (negated_marks inner)
negated inner start p q r first mid last = then_one inner (sign RightParen) p q r mid last ∙ ap (λ (s : Printed). with_marks s (inner ++ sign RightParen ∷ [])) first

-- ---- instances

pub instance_of : (preds : Preds) (xs : List Arg) → sign LeftParen ∷ (separated (Symbol Comma) (arg_marks preds) xs ++ sign RightParen ∷ []) ≡ sign LeftParen ∷ (separated (Symbol Comma) arg_spelling (map arg_tree xs) ++ sign RightParen ∷ [])
instance_of preds xs = ap (λ (ms : List Mark). sign LeftParen ∷ (ms ++ sign RightParen ∷ [])) (sym (separated_map (Symbol Comma) arg_tree arg_spelling xs))
