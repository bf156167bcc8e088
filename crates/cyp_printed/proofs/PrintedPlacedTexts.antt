-- Lexemes that say what the marks of a text say spell that text with other places.
use Rattle.std.proofs.Common.{List, [], ap, map, refl, ◌++◌, ◌∷◌, ◌≡◌}
use Rattle.cyp_lex.specs.Lexemes.{Lexeme, Name, Number, Reserved, Symbol}
use Rattle.cyp_lex.specs.Spelling.{At, Mark, Match, all_spelling, ident, more_spelling, separated, sign, word}
use Rattle.cyp_lex.specs.declared.ident.Ident.{Ident}
use Rattle.cyp_lex.specs.declared.token.Sign.TheVariants.{Bar, Comma, Implies, LeftBrace, LeftBracket, LeftParen, PointsTo, RightBrace, RightBracket, RightParen, TwoPluses, TwoStars}
use Rattle.cyp_lex.specs.declared.token.Word.TheVariants.{Emp, Predicate, Void}
use Rattle.cyp_text.specs.Grammar.{arg_spelling, body_spelling, braces_spelling, chunk_spelling, clause_spelling, heap_spelling, in_braces, int_spelling, lit_spelling, param_spelling, params_spelling, part_spelling, parts_spelling, pred_spelling, pure_spelling, sort_word, text_spelling}
use Rattle.cyp_writing.specs.PrintedTrees.{ident_of}
use Rattle.cyp_text.specs.declared.tree.ArgTree.{ArgTree}
use Rattle.cyp_text.specs.declared.tree.ArgTree.TheVariants.{BracesArg, TermArg, UnionArg}
use Rattle.cyp_text.specs.declared.tree.ChunkTree.TheVariants.{BlockOf, InstanceOf, NamedCell, TermCell}
use Rattle.cyp_text.specs.declared.tree.ClauseTree.{ClauseTree}
use Rattle.cyp_text.specs.declared.tree.IntTree.{IntTree}
use Rattle.cyp_text.specs.declared.tree.ParamTree.{ParamTree}
use Rattle.cyp_printed.proofs.PrintedBare.{bare_arg, bare_body, bare_chunk, bare_clause, bare_int, bare_lit, bare_param, bare_part, bare_pred, bare_pure, bare_text}
use Rattle.cyp_printed.proofs.PrintedLines.{saids}
use Rattle.cyp_printed.proofs.PrintedPlaces.{Head, Placed, Places, Split, match_any, match_at, match_end, match_split, place_all, place_list, place_more, place_separated, split, told, uncons}
use Rattle.cyp_printed.proofs.PrintedPlacedTerms.{PlacedBraces, place_braces, place_int, place_lit, place_part, place_pure}

-- ---- chunks

place_arg : Places bare_arg arg_spelling
place_arg (TermArg t) ls e =
    let x : Placed bare_int int_spelling t ls = place_int t ls e in
    record { tree = TermArg x.tree; same = ap (λ (r : IntTree). TermArg r) x.same; match = x.match }
place_arg (BracesArg p ts us) ls e =
    let s : Split ls (braces_spelling p ts) (more_spelling (Symbol TwoPluses) part_spelling us) = split (braces_spelling p ts) _ ls e in
    let b : PlacedBraces ts s.front = place_braces p ts s.front s.left in
    let y : Placed (map bare_part) (more_spelling (Symbol TwoPluses) part_spelling) us s.back = place_more bare_part part_spelling place_part (Symbol TwoPluses) us s.back s.right in
    record {
      tree = BracesArg b.place b.terms y.tree;
      same = cc (b.same, y.same);
      match = match_split _ _ (braces_spelling b.place b.terms) (more_spelling (Symbol TwoPluses) part_spelling y.tree) ls s b.match y.match;
    }
place_arg (UnionArg i u us) ls e =
    let h : Head ls (Name i.text) (saids (sign TwoPluses ∷ parts_spelling u us)) = uncons ls _ _ e in
    let k : Head h.more (Symbol TwoPluses) (saids (parts_spelling u us)) = uncons h.more _ _ h.others in
    let p = place_list bare_part part_spelling place_part (Symbol TwoPluses) u us k.more k.others in
    let named : Ident = record { text = i.text; place = h.first.place } in
    record {
      tree = UnionArg named p.first p.others;
      same = cc (p.same_first, p.same_others);
      match = match_at (Name i.text) (sign TwoPluses ∷ parts_spelling p.first p.others) ls _ h (match_any (Symbol TwoPluses) (parts_spelling p.first p.others) h.more _ k p.match);
    }

place_chunk : Places bare_chunk chunk_spelling
place_chunk (NamedCell i t) ls e =
    let h : Head ls (Name i.text) (saids (sign PointsTo ∷ int_spelling t)) = uncons ls _ _ e in
    let k : Head h.more (Symbol PointsTo) (saids (int_spelling t)) = uncons h.more _ _ h.others in
    let x : Placed bare_int int_spelling t k.more = place_int t k.more k.others in
    record {
      tree = NamedCell (record { text = i.text; place = h.first.place }) x.tree;
      same = ap (λ (r : IntTree). NamedCell (ident_of i.text) r) x.same;
      match = match_at (Name i.text) (sign PointsTo ∷ int_spelling x.tree) ls _ h (match_any (Symbol PointsTo) (int_spelling x.tree) h.more _ k x.match);
    }
place_chunk (TermCell a t) ls e =
    let behind : List Mark = sign RightParen ∷ sign PointsTo ∷ int_spelling t in
    let h : Head ls (Symbol LeftParen) (saids (int_spelling a ++ behind)) = uncons ls _ _ e in
    let s : Split h.more (int_spelling a) behind = split (int_spelling a) behind h.more h.others in
    let x : Placed bare_int int_spelling a s.front = place_int a s.front s.left in
    let k : Head s.back (Symbol RightParen) (saids (sign PointsTo ∷ int_spelling t)) = uncons s.back _ _ s.right in
    let m : Head k.more (Symbol PointsTo) (saids (int_spelling t)) = uncons k.more _ _ k.others in
    let y : Placed bare_int int_spelling t m.more = place_int t m.more m.others in
    record {
      tree = TermCell x.tree y.tree;
      same = cc (x.same, y.same);
      match = match_any (Symbol LeftParen) (int_spelling x.tree ++ (sign RightParen ∷ sign PointsTo ∷ int_spelling y.tree)) ls _ h
          (match_split (int_spelling a) behind (int_spelling x.tree) (sign RightParen ∷ sign PointsTo ∷ int_spelling y.tree) h.more s x.match
          (match_any (Symbol RightParen) (sign PointsTo ∷ int_spelling y.tree) s.back _ k (match_any (Symbol PointsTo) (int_spelling y.tree) k.more _ m y.match)));
    }
place_chunk (BlockOf a p n) ls e =
    let behind : List Mark = sign Comma ∷ At (Number n) p ∷ sign RightBracket ∷ [] in
    let h : Head ls (Symbol LeftBracket) (saids (int_spelling a ++ behind)) = uncons ls _ _ e in
    let s : Split h.more (int_spelling a) behind = split (int_spelling a) behind h.more h.others in
    let x : Placed bare_int int_spelling a s.front = place_int a s.front s.left in
    let k : Head s.back (Symbol Comma) (Number n ∷ Symbol RightBracket ∷ []) = uncons s.back _ _ s.right in
    let m : Head k.more (Number n) (Symbol RightBracket ∷ []) = uncons k.more _ _ k.others in
    let r : Head m.more (Symbol RightBracket) [] = uncons m.more _ _ m.others in
    record {
      tree = BlockOf x.tree m.first.place n;
      same = ap (λ (t : IntTree). BlockOf t 0 n) x.same;
      match = match_any (Symbol LeftBracket) (int_spelling x.tree ++ (sign Comma ∷ At (Number n) m.first.place ∷ sign RightBracket ∷ [])) ls _ h
          (match_split (int_spelling a) behind (int_spelling x.tree) (sign Comma ∷ At (Number n) m.first.place ∷ sign RightBracket ∷ []) h.more s x.match
          (match_any (Symbol Comma) (At (Number n) m.first.place ∷ sign RightBracket ∷ []) s.back _ k
          (match_at (Number n) (sign RightBracket ∷ []) k.more _ m (match_any (Symbol RightBracket) [] m.more [] r (match_end r.more r.others)))));
    }
place_chunk (InstanceOf i xs) ls e =
    let args : List ArgTree → List Mark = separated (Symbol Comma) arg_spelling in
    let h : Head ls (Name i.text) (saids (sign LeftParen ∷ (args xs ++ sign RightParen ∷ []))) = uncons ls _ _ e in
    let k : Head h.more (Symbol LeftParen) (saids (args xs ++ sign RightParen ∷ [])) = uncons h.more _ _ h.others in
    let s : Split k.more (args xs) (sign RightParen ∷ []) = split (args xs) (sign RightParen ∷ []) k.more k.others in
    let x : Placed (map bare_arg) args xs s.front = place_separated bare_arg arg_spelling place_arg (Symbol Comma) xs s.front s.left in
    let m : Head s.back (Symbol RightParen) [] = uncons s.back _ _ s.right in
    record {
      tree = InstanceOf (record { text = i.text; place = h.first.place }) x.tree;
      same = ap (λ (r : List ArgTree). InstanceOf (ident_of i.text) r) x.same;
      match = match_at (Name i.text) (sign LeftParen ∷ (args x.tree ++ sign RightParen ∷ [])) ls _ h (match_any (Symbol LeftParen) (args x.tree ++ sign RightParen ∷ []) h.more _ k
          (match_split (args xs) (sign RightParen ∷ []) (args x.tree) (sign RightParen ∷ []) k.more s x.match (match_any (Symbol RightParen) [] s.back [] m (match_end m.more m.others))));
    }

place_heap : Places (map bare_chunk) heap_spelling
place_heap [] ls e =
    let h : Head ls (Reserved Emp) [] = uncons ls _ _ e in
    record { tree = []; same = refl; match = match_any (Reserved Emp) [] ls [] h (match_end h.more h.others) }
place_heap (c ∷ cs) ls e =
    let p = place_list bare_chunk chunk_spelling place_chunk (Symbol TwoStars) c cs ls e in
    record { tree = p.first ∷ p.others; same = cc (p.same_first, p.same_others); match = p.match }

place_body : Places bare_body body_spelling
place_body b ls e =
    let s : Split ls (pure_spelling b.pure) (heap_spelling b.chunks) = split (pure_spelling b.pure) (heap_spelling b.chunks) ls e in
    let x : Placed bare_pure pure_spelling b.pure s.front = place_pure b.pure s.front s.left in
    let y : Placed (map bare_chunk) heap_spelling b.chunks s.back = place_heap b.chunks s.back s.right in
    record {
      tree = record { pure = x.tree; chunks = y.tree };
      same = λ i. record { pure = x.same i; chunks = y.same i };
      match = match_split _ _ (pure_spelling x.tree) (heap_spelling y.tree) ls s x.match y.match;
    }

place_in_braces : Places bare_body in_braces
place_in_braces b ls e =
    let h : Head ls (Symbol LeftBrace) (saids (body_spelling b ++ sign RightBrace ∷ [])) = uncons ls _ _ e in
    let s : Split h.more (body_spelling b) (sign RightBrace ∷ []) = split (body_spelling b) (sign RightBrace ∷ []) h.more h.others in
    let x : Placed bare_body body_spelling b s.front = place_body b s.front s.left in
    let k : Head s.back (Symbol RightBrace) [] = uncons s.back _ _ s.right in
    record {
      tree = x.tree;
      same = x.same;
      match = match_any (Symbol LeftBrace) (body_spelling x.tree ++ sign RightBrace ∷ []) ls _ h
          (match_split _ _ (body_spelling x.tree) (sign RightBrace ∷ []) h.more s x.match (match_any (Symbol RightBrace) [] s.back [] k (match_end k.more k.others)));
    }

-- ---- parameters, clauses, predicates

place_param : Places bare_param param_spelling
place_param p ls e =
    let h : Head ls (Reserved (sort_word p.sort)) (Name p.name.text ∷ []) = uncons ls _ _ e in
    let k : Head h.more (Name p.name.text) [] = uncons h.more _ _ h.others in
    let named : Ident = record { text = p.name.text; place = k.first.place } in
    record {
      tree = record { sort = p.sort; place = h.first.place; name = named };
      same = refl;
      match = match_at (Reserved (sort_word p.sort)) (ident named ∷ []) ls _ h (match_at (Name p.name.text) [] h.more [] k (match_end k.more k.others));
    }

place_params : Places (map bare_param) params_spelling
place_params ps ls e =
    let params : List ParamTree → List Mark = separated (Symbol Comma) param_spelling in
    let h : Head ls (Symbol LeftParen) (saids (params ps ++ sign RightParen ∷ [])) = uncons ls _ _ e in
    let s : Split h.more (params ps) (sign RightParen ∷ []) = split (params ps) (sign RightParen ∷ []) h.more h.others in
    let x : Placed (map bare_param) params ps s.front = place_separated bare_param param_spelling place_param (Symbol Comma) ps s.front s.left in
    let k : Head s.back (Symbol RightParen) [] = uncons s.back _ _ s.right in
    record {
      tree = x.tree;
      same = x.same;
      match = match_any (Symbol LeftParen) (params x.tree ++ sign RightParen ∷ []) ls _ h
          (match_split _ _ (params x.tree) (sign RightParen ∷ []) h.more s x.match (match_any (Symbol RightParen) [] s.back [] k (match_end k.more k.others)));
    }

place_clause : Places bare_clause clause_spelling
place_clause c ls e =
    let h : Head ls (Symbol Bar) (saids (lit_spelling c.guard ++ (sign Implies ∷ in_braces c.body))) = uncons ls _ _ e in
    let s : Split h.more (lit_spelling c.guard) (sign Implies ∷ in_braces c.body) = split (lit_spelling c.guard) (sign Implies ∷ in_braces c.body) h.more h.others in
    let x : Placed bare_lit lit_spelling c.guard s.front = place_lit c.guard s.front s.left in
    let k : Head s.back (Symbol Implies) (saids (in_braces c.body)) = uncons s.back _ _ s.right in
    let y : Placed bare_body in_braces c.body k.more = place_in_braces c.body k.more k.others in
    record {
      tree = record { place = h.first.place; guard = x.tree; body = y.tree };
      same = λ i. record { place = 0; guard = x.same i; body = y.same i };
      match = match_at (Symbol Bar) (lit_spelling x.tree ++ (sign Implies ∷ in_braces y.tree)) ls _ h
          (match_split (lit_spelling c.guard) (sign Implies ∷ in_braces c.body) (lit_spelling x.tree) (sign Implies ∷ in_braces y.tree) h.more s x.match (match_any (Symbol Implies) (in_braces y.tree) s.back _ k y.match));
    }

-- the clauses, and the brace behind them
place_clauses : (c : ClauseTree) (cs : List ClauseTree) (ls : List Lexeme) → told ls ≡ saids (clause_spelling c ++ (all_spelling clause_spelling cs ++ sign RightBrace ∷ []))
    → (d : ClauseTree) × (ds : List ClauseTree) × (bare_clause d ≡ bare_clause c) × (map bare_clause ds ≡ map bare_clause cs) × Match (clause_spelling d ++ (all_spelling clause_spelling ds ++ sign RightBrace ∷ [])) ls
place_clauses c cs ls e =
    let behind : List Mark = all_spelling clause_spelling cs ++ sign RightBrace ∷ [] in
    let s : Split ls (clause_spelling c) behind = split (clause_spelling c) behind ls e in
    let x : Placed bare_clause clause_spelling c s.front = place_clause c s.front s.left in
    let r : Split s.back (all_spelling clause_spelling cs) (sign RightBrace ∷ []) = split (all_spelling clause_spelling cs) (sign RightBrace ∷ []) s.back s.right in
    let y : Placed (map bare_clause) (all_spelling clause_spelling) cs r.front = place_all bare_clause clause_spelling place_clause cs r.front r.left in
    let k : Head r.back (Symbol RightBrace) [] = uncons r.back _ _ r.right in (
      x.tree,
      y.tree,
      x.same,
      y.same,
      match_split (clause_spelling c) behind (clause_spelling x.tree) (all_spelling clause_spelling y.tree ++ sign RightBrace ∷ []) ls s x.match
          (match_split (all_spelling clause_spelling cs) (sign RightBrace ∷ []) (all_spelling clause_spelling y.tree) (sign RightBrace ∷ []) s.back r y.match (match_any (Symbol RightBrace) [] r.back [] k (match_end k.more k.others))),
    )

place_pred : Places bare_pred pred_spelling
place_pred q ls e =
    let inner : List Mark = clause_spelling q.first ++ (all_spelling clause_spelling q.others ++ sign RightBrace ∷ []) in
    let h : Head ls (Reserved Predicate) (saids (ident q.name ∷ (params_spelling q.params ++ (sign LeftBrace ∷ inner)))) = uncons ls _ _ e in
    let k : Head h.more (Name q.name.text) (saids (params_spelling q.params ++ (sign LeftBrace ∷ inner))) = uncons h.more _ _ h.others in
    let s : Split k.more (params_spelling q.params) (sign LeftBrace ∷ inner) = split (params_spelling q.params) (sign LeftBrace ∷ inner) k.more k.others in
    let x : Placed (map bare_param) params_spelling q.params s.front = place_params q.params s.front s.left in
    let m : Head s.back (Symbol LeftBrace) (saids inner) = uncons s.back _ _ s.right in
    let c = place_clauses q.first q.others m.more m.others in
    let named : Ident = record { text = q.name.text; place = k.first.place } in
    let behind : List Mark = clause_spelling c.0 ++ (all_spelling clause_spelling c.1 ++ sign RightBrace ∷ []) in
    record {
      tree = record { name = named; params = x.tree; first = c.0; others = c.1 };
      same = λ i. record { name = ident_of q.name.text; params = x.same i; first = c.2 i; others = c.3 i };
      match = match_any (Reserved Predicate) (ident named ∷ (params_spelling x.tree ++ (sign LeftBrace ∷ behind))) ls _ h
          (match_at (Name q.name.text) (params_spelling x.tree ++ (sign LeftBrace ∷ behind)) h.more _ k
          (match_split (params_spelling q.params) (sign LeftBrace ∷ inner) (params_spelling x.tree) (sign LeftBrace ∷ behind) k.more s x.match (match_any (Symbol LeftBrace) behind s.back _ m c.4)));
    }

-- ---- the text

pub place_text : Places bare_text text_spelling
place_text t ls e =
    let bodies : List Mark = in_braces t.pre ++ in_braces t.post in
    let proc : List Mark = word Void ∷ ident t.name ∷ (params_spelling t.params ++ bodies) in
    let r : Split ls (all_spelling pred_spelling t.preds) proc = split (all_spelling pred_spelling t.preds) proc ls e in
    let qs : Placed (map bare_pred) (all_spelling pred_spelling) t.preds r.front = place_all bare_pred pred_spelling place_pred t.preds r.front r.left in
    let h : Head r.back (Reserved Void) (saids (ident t.name ∷ (params_spelling t.params ++ bodies))) = uncons r.back _ _ r.right in
    let k : Head h.more (Name t.name.text) (saids (params_spelling t.params ++ bodies)) = uncons h.more _ _ h.others in
    let s : Split k.more (params_spelling t.params) bodies = split (params_spelling t.params) bodies k.more k.others in
    let x : Placed (map bare_param) params_spelling t.params s.front = place_params t.params s.front s.left in
    let b : Split s.back (in_braces t.pre) (in_braces t.post) = split (in_braces t.pre) (in_braces t.post) s.back s.right in
    let y : Placed bare_body in_braces t.pre b.front = place_in_braces t.pre b.front b.left in
    let z : Placed bare_body in_braces t.post b.back = place_in_braces t.post b.back b.right in
    let named : Ident = record { text = t.name.text; place = k.first.place } in
    let placed : List Mark = in_braces y.tree ++ in_braces z.tree in
    record {
      tree = record { preds = qs.tree; name = named; params = x.tree; pre = y.tree; post = z.tree };
      same = λ i. record { preds = qs.same i; name = ident_of t.name.text; params = x.same i; pre = y.same i; post = z.same i };
      match = match_split (all_spelling pred_spelling t.preds) proc (all_spelling pred_spelling qs.tree) (word Void ∷ ident named ∷ (params_spelling x.tree ++ placed)) ls r qs.match
          (match_any (Reserved Void) (ident named ∷ (params_spelling x.tree ++ placed)) r.back _ h (match_at (Name t.name.text) (params_spelling x.tree ++ placed) h.more _ k
          (match_split (params_spelling t.params) bodies (params_spelling x.tree) placed k.more s x.match (match_split (in_braces t.pre) (in_braces t.post) (in_braces y.tree) (in_braces z.tree) s.back b y.match z.match))));
    }
