-- Terms, literals and pure parts are given the places of lexemes.
use Rattle.std.proofs.Common.{List, [], ap, map, refl, ◌++◌, ◌∷◌, ◌≡◌, ℕ}
use Rattle.cyp_lex.specs.Lexemes.{Lexeme, Name, Number, Reserved, Symbol}
use Rattle.cyp_lex.specs.Spelling.{Any, Mark, Match, all_spelling, ident, separated, sign, word}
use Rattle.cyp_lex.specs.declared.ident.Ident.{Ident}
use Rattle.cyp_lex.specs.declared.token.Sign.TheVariants.{Comma, LeftBrace, LeftParen, Minus, Plus, RightBrace, RightParen, Same, Semicolon, Subset, TwoPluses}
use Rattle.cyp_lex.specs.declared.token.Word.TheVariants.{In, Not, True}
use Rattle.cyp_text.specs.Grammar.{braces_spelling, comparison_sign, conjunction_sign, int_spelling, item_spelling, later_item, lit_spelling, part_spelling, pure_spelling, set_spelling}
use Rattle.cyp_text.specs.LitTrees.{Comparing, Inside, LitTree, Negation, SameSets, SubSets}
use Rattle.cyp_text.specs.declared.tree.IntTree.{IntTree}
use Rattle.cyp_text.specs.declared.tree.IntTree.TheVariants.{MinusNum, NameMinus, NamePlus, Named, Num, NumPlus}
use Rattle.cyp_text.specs.declared.tree.ItemTree.{ItemTree}
use Rattle.cyp_text.specs.declared.tree.ItemTree.TheVariants.{LitItem, TrueItem}
use Rattle.cyp_text.specs.declared.tree.PartTree.TheVariants.{Braces, PartName}
use Rattle.cyp_text.specs.declared.tree.PureTree.TheVariants.{Items, NoItems}
use Rattle.cyp_printed.proofs.PrintedBare.{bare_int, bare_item, bare_later, bare_lit, bare_part, bare_pure, bare_set}
use Rattle.cyp_printed.proofs.PrintedLines.{saids}
use Rattle.cyp_printed.proofs.PrintedPlaces.{Head, Placed, Places, Split, match_any, match_at, match_end, match_split, place_all, place_list, place_separated, split, told, uncons}

-- ---- terms

pub place_int : Places bare_int int_spelling
place_int (Num p n) ls e =
    let h : Head ls (Number n) [] = uncons ls _ _ e in
    record { tree = Num h.first.place n; same = refl; match = match_at (Number n) [] ls [] h (match_end h.more h.others) }
place_int (MinusNum p n) ls e =
    let h : Head ls (Symbol Minus) (Number n ∷ []) = uncons ls _ _ e in
    let k : Head h.more (Number n) [] = uncons h.more _ _ h.others in
    record { tree = MinusNum h.first.place n; same = refl; match = match_at (Symbol Minus) (Any (Number n) ∷ []) ls _ h (match_any (Number n) [] h.more [] k (match_end k.more k.others)) }
place_int (Named i) ls e =
    let h : Head ls (Name i.text) [] = uncons ls _ _ e in
    record { tree = Named (record { text = i.text; place = h.first.place }); same = refl; match = match_at (Name i.text) [] ls [] h (match_end h.more h.others) }
place_int (NamePlus i n) ls e =
    let h : Head ls (Name i.text) (Symbol Plus ∷ Number n ∷ []) = uncons ls _ _ e in
    let k : Head h.more (Symbol Plus) (Number n ∷ []) = uncons h.more _ _ h.others in
    let m : Head k.more (Number n) [] = uncons k.more _ _ k.others in
    record {
      tree = NamePlus (record { text = i.text; place = h.first.place }) n;
      same = refl;
      match = match_at (Name i.text) (sign Plus ∷ Any (Number n) ∷ []) ls _ h (match_any (Symbol Plus) (Any (Number n) ∷ []) h.more _ k (match_any (Number n) [] k.more [] m (match_end m.more m.others)));
    }
place_int (NameMinus i n) ls e =
    let h : Head ls (Name i.text) (Symbol Minus ∷ Number n ∷ []) = uncons ls _ _ e in
    let k : Head h.more (Symbol Minus) (Number n ∷ []) = uncons h.more _ _ h.others in
    let m : Head k.more (Number n) [] = uncons k.more _ _ k.others in
    record {
      tree = NameMinus (record { text = i.text; place = h.first.place }) n;
      same = refl;
      match = match_at (Name i.text) (sign Minus ∷ Any (Number n) ∷ []) ls _ h (match_any (Symbol Minus) (Any (Number n) ∷ []) h.more _ k (match_any (Number n) [] k.more [] m (match_end m.more m.others)));
    }
place_int (NumPlus p n i) ls e =
    let h : Head ls (Number n) (Symbol Plus ∷ Name i.text ∷ []) = uncons ls _ _ e in
    let k : Head h.more (Symbol Plus) (Name i.text ∷ []) = uncons h.more _ _ h.others in
    let m : Head k.more (Name i.text) [] = uncons k.more _ _ k.others in
    let named : Ident = record { text = i.text; place = m.first.place } in
    record {
      tree = NumPlus h.first.place n named;
      same = refl;
      match = match_at (Number n) (sign Plus ∷ ident named ∷ []) ls _ h (match_any (Symbol Plus) (ident named ∷ []) h.more _ k (match_at (Name i.text) [] k.more [] m (match_end m.more m.others)));
    }

-- terms in braces
pub record PlacedBraces (ts : List IntTree) (ls : List Lexeme) : Type 0 where
  pub place : ℕ
  pub terms : List IntTree
  pub same : map bare_int terms ≡ map bare_int ts
  pub match : Match (braces_spelling place terms) ls

pub place_braces : (p : ℕ) (ts : List IntTree) (ls : List Lexeme) → told ls ≡ saids (braces_spelling p ts) → PlacedBraces ts ls
place_braces p ts ls e =
    let terms : List IntTree → List Mark = separated (Symbol Comma) int_spelling in
    let h : Head ls (Symbol LeftBrace) (saids (terms ts ++ sign RightBrace ∷ [])) = uncons ls _ _ e in
    let s : Split h.more (terms ts) (sign RightBrace ∷ []) = split (terms ts) (sign RightBrace ∷ []) h.more h.others in
    let x : Placed (map bare_int) terms ts s.front = place_separated bare_int int_spelling place_int (Symbol Comma) ts s.front s.left in
    let k : Head s.back (Symbol RightBrace) [] = uncons s.back _ _ s.right in
    record {
      place = h.first.place;
      terms = x.tree;
      same = x.same;
      match = match_at (Symbol LeftBrace) (terms x.tree ++ sign RightBrace ∷ []) ls _ h
          (match_split _ _ (terms x.tree) (sign RightBrace ∷ []) h.more s x.match (match_any (Symbol RightBrace) [] s.back [] k (match_end k.more k.others)));
    }

pub place_part : Places bare_part part_spelling
place_part (PartName i) ls e =
    let h : Head ls (Name i.text) [] = uncons ls _ _ e in
    record { tree = PartName (record { text = i.text; place = h.first.place }); same = refl; match = match_at (Name i.text) [] ls [] h (match_end h.more h.others) }
place_part (Braces p ts) ls e =
    let b : PlacedBraces ts ls = place_braces p ts ls e in
    record { tree = Braces b.place b.terms; same = ap (λ (us : List IntTree). Braces 0 us) b.same; match = b.match }

pub place_set : Places bare_set set_spelling
place_set u ls e =
    let p = place_list bare_part part_spelling place_part (Symbol TwoPluses) u.first u.others ls e in
    record { tree = record { first = p.first; others = p.others }; same = λ i. record { first = p.same_first i; others = p.same_others i }; match = p.match }

-- ---- literals

pub place_lit : Places bare_lit lit_spelling
place_lit (Comparing a c b) ls e =
    let s : Split ls (int_spelling a) (sign (comparison_sign c) ∷ int_spelling b) = split (int_spelling a) _ ls e in
    let x : Placed bare_int int_spelling a s.front = place_int a s.front s.left in
    let h : Head s.back (Symbol (comparison_sign c)) (saids (int_spelling b)) = uncons s.back _ _ s.right in
    let y : Placed bare_int int_spelling b h.more = place_int b h.more h.others in
    record {
      tree = Comparing x.tree c y.tree;
      same = cc (x.same, y.same);
      match = match_split _ _ (int_spelling x.tree) (sign (comparison_sign c) ∷ int_spelling y.tree) ls s x.match (match_any (Symbol (comparison_sign c)) (int_spelling y.tree) s.back _ h y.match);
    }
place_lit (SameSets a b) ls e =
    let s : Split ls (set_spelling a) (sign Same ∷ set_spelling b) = split (set_spelling a) _ ls e in
    let x : Placed bare_set set_spelling a s.front = place_set a s.front s.left in
    let h : Head s.back (Symbol Same) (saids (set_spelling b)) = uncons s.back _ _ s.right in
    let y : Placed bare_set set_spelling b h.more = place_set b h.more h.others in
    record {
      tree = SameSets x.tree y.tree;
      same = cc (x.same, y.same);
      match = match_split _ _ (set_spelling x.tree) (sign Same ∷ set_spelling y.tree) ls s x.match (match_any (Symbol Same) (set_spelling y.tree) s.back _ h y.match);
    }
place_lit (SubSets a b) ls e =
    let s : Split ls (set_spelling a) (sign Subset ∷ set_spelling b) = split (set_spelling a) _ ls e in
    let x : Placed bare_set set_spelling a s.front = place_set a s.front s.left in
    let h : Head s.back (Symbol Subset) (saids (set_spelling b)) = uncons s.back _ _ s.right in
    let y : Placed bare_set set_spelling b h.more = place_set b h.more h.others in
    record {
      tree = SubSets x.tree y.tree;
      same = cc (x.same, y.same);
      match = match_split _ _ (set_spelling x.tree) (sign Subset ∷ set_spelling y.tree) ls s x.match (match_any (Symbol Subset) (set_spelling y.tree) s.back _ h y.match);
    }
place_lit (Inside a b) ls e =
    let s : Split ls (int_spelling a) (word In ∷ set_spelling b) = split (int_spelling a) _ ls e in
    let x : Placed bare_int int_spelling a s.front = place_int a s.front s.left in
    let h : Head s.back (Reserved In) (saids (set_spelling b)) = uncons s.back _ _ s.right in
    let y : Placed bare_set set_spelling b h.more = place_set b h.more h.others in
    record {
      tree = Inside x.tree y.tree;
      same = cc (x.same, y.same);
      match = match_split _ _ (int_spelling x.tree) (word In ∷ set_spelling y.tree) ls s x.match (match_any (Reserved In) (set_spelling y.tree) s.back _ h y.match);
    }
place_lit (Negation p l) ls e =
    let h : Head ls (Reserved Not) (saids (sign LeftParen ∷ (lit_spelling l ++ sign RightParen ∷ []))) = uncons ls _ _ e in
    let k : Head h.more (Symbol LeftParen) (saids (lit_spelling l ++ sign RightParen ∷ [])) = uncons h.more _ _ h.others in
    let s : Split k.more (lit_spelling l) (sign RightParen ∷ []) = split (lit_spelling l) _ k.more k.others in
    let x : Placed bare_lit lit_spelling l s.front = place_lit l s.front s.left in
    let m : Head s.back (Symbol RightParen) [] = uncons s.back _ _ s.right in
    record {
      tree = Negation h.first.place x.tree;
      same = ap (λ (r : LitTree). Negation 0 r) x.same;
      match = match_at (Reserved Not) (sign LeftParen ∷ (lit_spelling x.tree ++ sign RightParen ∷ [])) ls _ h (match_any (Symbol LeftParen) (lit_spelling x.tree ++ sign RightParen ∷ []) h.more _ k
          (match_split _ _ (lit_spelling x.tree) (sign RightParen ∷ []) k.more s x.match (match_any (Symbol RightParen) [] s.back [] m (match_end m.more m.others))));
    }

-- ---- items

pub place_item : Places bare_item item_spelling
place_item TrueItem ls e =
    let h : Head ls (Reserved True) [] = uncons ls _ _ e in
    record { tree = TrueItem; same = refl; match = match_any (Reserved True) [] ls [] h (match_end h.more h.others) }
place_item (LitItem l) ls e =
    let x : Placed bare_lit lit_spelling l ls = place_lit l ls e in
    record { tree = LitItem x.tree; same = ap (λ (r : LitTree). LitItem r) x.same; match = x.match }

pub place_later : Places bare_later later_item
place_later p ls e =
    let h : Head ls (Symbol (conjunction_sign p.0)) (saids (item_spelling p.1)) = uncons ls _ _ e in
    let x : Placed bare_item item_spelling p.1 h.more = place_item p.1 h.more h.others in
    record {
      tree = (p.0, x.tree);
      same = ap (λ (i : ItemTree). (p.0, i)) x.same;
      match = match_any (Symbol (conjunction_sign p.0)) (item_spelling x.tree) ls _ h x.match;
    }

pub place_pure : Places bare_pure pure_spelling
place_pure NoItems ls e = record { tree = NoItems; same = refl; match = match_end ls e }
place_pure (Items i is) ls e =
    let behind : List Mark = all_spelling later_item is ++ sign Semicolon ∷ [] in
    let s : Split ls (item_spelling i) behind = split (item_spelling i) behind ls e in
    let x : Placed bare_item item_spelling i s.front = place_item i s.front s.left in
    let r : Split s.back (all_spelling later_item is) (sign Semicolon ∷ []) = split (all_spelling later_item is) (sign Semicolon ∷ []) s.back s.right in
    let y : Placed (map bare_later) (all_spelling later_item) is r.front = place_all bare_later later_item place_later is r.front r.left in
    let h : Head r.back (Symbol Semicolon) [] = uncons r.back _ _ r.right in
    record {
      tree = Items x.tree y.tree;
      same = cc (x.same, y.same);
      match = match_split (item_spelling i) behind (item_spelling x.tree) (all_spelling later_item y.tree ++ sign Semicolon ∷ []) ls s x.match
          (match_split (all_spelling later_item is) (sign Semicolon ∷ []) (all_spelling later_item y.tree) (sign Semicolon ∷ []) s.back r y.match (match_any (Symbol Semicolon) [] r.back [] h (match_end h.more h.others)));
    }
