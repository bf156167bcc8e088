-- What is printed is read back.
use Rattle.std.proofs.Common.{Err, List, None, Ok, Option, Result, Some, [], ap, append_assoc, false, flat_map, inl, inr, length, map, refl, subst, sym, true, ◌++◌, ◌∙◌, ◌∷◌, ◌≡◌, ◌≤◌, ℕ}
use Rattle.std.specs.Prelude.{Bool, nat_le}
use Rattle.std.proofs.lemmas.Bool.{le-leb}
use Rattle.std.proofs.lemmas.List.{map-append}
use Rattle.cyp_lex.specs.Lexemes.{Lexeme, Said, lexeme_of}
use Rattle.cyp_lex.specs.Spelling.{Mark, all_spelling, ident, sign, word}
use Rattle.cyp_heap.specs.declared.pred.Pred.{Pred}
use Rattle.cyp_heap.specs.declared.pred.Preds.{Preds}
use Rattle.cyp_lex.specs.Lexing.{tokens_of}
use Rattle.cyp_lex.specs.declared.fault.Fault.{Fault}
use Rattle.cyp_lex.specs.declared.token.Sign.TheVariants.{LeftBrace, RightBrace}
use Rattle.cyp_lex.specs.declared.token.Token.{Token}
use Rattle.cyp_lex.specs.declared.token.Word.TheVariants.{Predicate, Void}
use Rattle.cyp_lex.proofs.TokensSay.{tokens_say}
use Rattle.cyp_term.proofs.Lists.{Among, map_from}
use Rattle.cyp_text.specs.Grammar.{clause_spelling, in_braces, params_spelling, pred_spelling, text_spelling}
use Rattle.cyp_formed.specs.LimitFaults.{limit_faults}
use Rattle.cyp_names.specs.NameFaults.{name_faults}
use Rattle.cyp_writing.specs.PrintedTrees.{body_tree, clause_tree, ident_of, param_tree, params_from}
use Rattle.cyp_writing.specs.Printing.{mark_said, specification_text}
use Rattle.cyp_formed.specs.Reading.{IsReadBy, IsReadFrom, IsReading, IsReadingOf, judge, unless_fault}
use Rattle.cyp_names.specs.FaultOrder.{least_fault}
use Rattle.cyp_printed.specs.PrintingLaws.{PrintedIsRead}
use Rattle.cyp_names.specs.Specifications.{Specification, read_clause, read_pred, read_preds, read_tree}
use Rattle.cyp_text.specs.declared.tree.ClauseTree.{ClauseTree}
use Rattle.cyp_text.specs.declared.tree.PredTree.{PredTree}
use Rattle.cyp_text.specs.declared.tree.TextTree.{TextTree}
use Rattle.cyp_printed.proofs.PrintedAgain.{again_clause, again_pred, again_preds, again_text}
use Rattle.cyp_printed.proofs.PrintedBare.{bare_text}
use Rattle.cyp_printed.proofs.PrintedBareFaults.{limits_none, names_none, read_alike}
use Rattle.cyp_printed.proofs.PrintedLines.{TextTokens, lines_read, saids}
use Rattle.cyp_printed.proofs.PrintedMarks.{marks_said}
use Rattle.cyp_spec.proofs.TokenMarks.{Marks, lexeme_proper, matched_marks, AllProper, Proper}
use Rattle.cyp_printed.proofs.PrintedPlacedTexts.{place_text}
use Rattle.cyp_printed.proofs.PrintedPlaces.{Placed, told}
use Rattle.cyp_formed.proofs.Maps.{map_then}
use Rattle.cyp_printed.proofs.PrintedTexts.{limits_again, names_again, preds_marks_again, printed_proc, tree_again}

-- ---- the tree that was read

-- the tree that was read, that it has no faults, and that its marks are tokens
record TextRead (s : Specification) : Type 0 where
  tree : TextTree
  names_right : name_faults tree ≡ []
  within : limit_faults tree ≡ []
  marks : Marks (text_spelling tree)
  says : read_tree tree ≡ s

no_least : (fs : List Fault) → least_fault fs ≡ None → fs ≡ []
no_least [] e = refl
no_least (f ∷ fs) e = absurd cc

judged : (t : TextTree) (s : Specification) (a b : Option Fault) → least_fault (name_faults t) ≡ a → least_fault (limit_faults t) ≡ b → Marks (text_spelling t) → Ok s ≡ unless_fault a (unless_fault b (Ok (read_tree t))) → TextRead s
judged t s (Some f) b p q m e = absurd cc
judged t s None (Some f) p q m e = absurd cc
judged t s None None p q m e = record { tree = t; names_right = no_least (name_faults t) p; within = no_least (limit_faults t) q; marks = m; says = cc }

read_from : (size : ℕ) (ls : List Lexeme) (s : Specification) → ((l : Lexeme) → Among l ls → Proper l.said) → IsReadFrom size ls (Ok s) → TextRead s
read_from size ls s p (inl a) = judged a.0 s (least_fault (name_faults a.0)) (least_fault (limit_faults a.0)) refl refl (matched_marks (text_spelling a.0) ls a.1 p) a.2
read_from size ls s p (inr a) = absurd (differ a.2)
  where
    differ : {f : Fault} → Ok s ≡ Err f → ⊥
    differ e = cc

read_by : (bytes : List ℕ) (ts : Result (List Token) Fault) (s : Specification) → tokens_of bytes ≡ ts → IsReadBy bytes ts (Ok s) → TextRead s
read_by bytes (Ok ts) s e a = read_from (length bytes) (map (lexeme_of bytes) ts) s (lexeme_proper bytes ts (tokens_say bytes ts e)) a
read_by bytes (Err f) s e a = absurd cc

reading_of : (short : Bool) (bytes : List ℕ) (s : Specification) → IsReadingOf short bytes (Ok s) → TextRead s
reading_of true bytes s a = read_by bytes (tokens_of bytes) s refl a
reading_of false bytes s a = absurd cc

text_was_read : (bytes : List ℕ) (s : Specification) → IsReading bytes (Ok s) → TextRead s
text_was_read bytes s a = reading_of (nat_le (length bytes) 65536) bytes s a

-- ---- the printed text spells the printed tree

-- the marks of a predicate's line
abbrev pred_marks : Preds → Pred → List Mark
pred_marks preds q =
    word Predicate ∷ ident (ident_of q.name)
    ∷ (params_spelling (map param_tree (params_from [] q.params))
    ++ (sign LeftBrace ∷ (all_spelling clause_spelling (map (clause_tree preds) q.clauses) ++ sign RightBrace ∷ [])))

-- the marks of the procedure's line
abbrev proc_marks : Specification → List Mark
proc_marks s =
    word Void ∷ ident (ident_of s.name)
    ∷ (params_spelling (map param_tree s.goal.program)
    ++ (in_braces (body_tree s.preds s.goal.pure_pre s.goal.pre.chunks) ++ in_braces (body_tree s.preds s.goal.pure_post s.goal.post.chunks)))

pred_line_spells : (qs : List PredTree) (q : PredTree) → pred_spelling (again_pred qs q) ≡ pred_marks (read_preds qs) (read_pred qs q)
pred_line_spells qs q =
    ap (λ (ms : List Mark). word Predicate ∷ ident (ident_of q.name.text) ∷ (params_spelling (again_pred qs q).params ++ (sign LeftBrace ∷ ms))) clauses_are
  where
    first : List Mark
    first = clause_spelling (again_clause qs q.params q.first)

    others_are : map (again_clause qs q.params) q.others ≡ map (clause_tree (read_preds qs)) (map (read_clause qs q.params) q.others)
    others_are = sym (map_then (read_clause qs q.params) (clause_tree (read_preds qs)) (again_clause qs q.params) (λ c. refl) q.others)

    clauses_are : first ++ (all_spelling clause_spelling (map (again_clause qs q.params) q.others) ++ sign RightBrace ∷ [])
        ≡ (first ++ all_spelling clause_spelling (map (clause_tree (read_preds qs)) (map (read_clause qs q.params) q.others))) ++ sign RightBrace ∷ []
    clauses_are =
        sym (append_assoc first (all_spelling clause_spelling (map (again_clause qs q.params) q.others)) (sign RightBrace ∷ []))
        ∙ ap (λ (cs : List ClauseTree). (first ++ all_spelling clause_spelling cs) ++ sign RightBrace ∷ []) others_are

preds_said : (all qs : List PredTree) → saids (all_spelling pred_spelling (map (again_pred all) qs)) ≡ flat_map (λ q. saids (pred_marks (read_preds all) q)) (map (read_pred all) qs)
preds_said all [] = refl
preds_said all (q ∷ qs) =
    map-append mark_said (pred_spelling (again_pred all q)) (all_spelling pred_spelling (map (again_pred all) qs))
    ∙ (λ i. saids (pred_line_spells all q i) ++ preds_said all qs i)

module _ (t : TextTree) (right : name_faults t ≡ []) (within : limit_faults t ≡ []) (h : Marks (text_spelling t)) where
  abbrev s : Specification
  s = read_tree t

  abbrev text : List ℕ
  text = specification_text s

  pred_proper : (q : Pred) → Among q s.preds.list → AllProper (saids (pred_marks s.preds q))
  pred_proper q m =
      let f = map_from (read_pred t.preds) q t.preds m in
      let printed : Marks (pred_marks s.preds (read_pred t.preds f.0)) = subst (λ (ms : List Mark). Marks ms) (pred_line_spells t.preds f.0) (preds_marks_again t right within h f.0 f.1) in
      marks_said (pred_marks s.preds q) (subst (λ (p : Pred). Marks (pred_marks s.preds p)) (sym f.2) printed)

  text_tokens : TextTokens text (flat_map (λ q. saids (pred_marks s.preds q)) s.preds.list ++ saids (proc_marks s))
  text_tokens = lines_read (pred_marks s.preds) s.preds.list (proc_marks s) pred_proper (marks_said (proc_marks s) (printed_proc t right within h))

  abbrev lexemes : List Lexeme
  lexemes = map (lexeme_of text) text_tokens.tokens

  spells : told lexemes ≡ saids (text_spelling (again_text t))
  spells =
      text_tokens.said ∙ ap (λ (ks : List Said). ks ++ saids (proc_marks s)) (sym (preds_said t.preds t.preds))
      ∙ sym (map-append mark_said (all_spelling pred_spelling (again_preds t.preds)) (proc_marks s))

  placed : Placed bare_text text_spelling (again_text t) lexemes
  placed = place_text (again_text t) lexemes spells

  no_faults : (u : TextTree) → name_faults u ≡ [] → limit_faults u ≡ [] → judge u ≡ Ok (read_tree u)
  no_faults u e f = λ i. unless_fault (least_fault (e i)) (unless_fault (least_fault (f i)) (Ok (read_tree u)))

  says : Ok s ≡ judge placed.tree
  says =
      sym (no_faults placed.tree (names_none (again_text t) placed.tree placed.same (names_again t right within)) (limits_none (again_text t) placed.tree placed.same (limits_again t right within))
      ∙ ap (λ (x : Specification). Ok x) (read_alike (again_text t) placed.tree placed.same ∙ tree_again t right within))

  read_again : length text ≤ 65536 → IsReading text (Ok s)
  read_again short =
      subst (λ (b : Bool). IsReadingOf b text (Ok s)) (sym (le-leb (length text) 65536 short))
      (subst (λ (ts : Result (List Token) Fault). IsReadBy text ts (Ok s)) (sym text_tokens.lexes) (inl (placed.tree, placed.match, says)))

pub printed_is_read : PrintedIsRead
printed_is_read bytes s a short =
    let r : TextRead s = text_was_read bytes s a in
    subst (λ (x : Specification). length (specification_text x) ≤ 65536 → IsReading (specification_text x) (Ok x)) r.says (read_again r.tree r.names_right r.within r.marks) short
