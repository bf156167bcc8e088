-- Lexemes that say what the marks of a tree say, and lists of trees that are given their places.
use Rattle.std.proofs.Common.{List, [], ap, map, refl, subst, sym, ◌++◌, ◌∷◌, ◌≡◌}
use Rattle.cyp_lex.specs.Lexemes.{Lexeme, Said}
use Rattle.cyp_lex.specs.Spelling.{Any, At, Mark, Match, all_spelling, list_spelling, more_spelling, separated}
use Rattle.cyp_lex.proofs.Spellings.{match_join}
use Rattle.cyp_writing.specs.Printing.{mark_said}
use Rattle.cyp_printed.proofs.PrintedLines.{saids}

-- what lexemes say
abbrev pub told : List Lexeme → List Said
told ls = map (λ (l : Lexeme). l.said) ls

-- the first lexeme and the others
pub record Head (ls : List Lexeme) (k : Said) (ks : List Said) : Type 0 where
  pub first : Lexeme
  pub more : List Lexeme
  pub parts : ls ≡ first ∷ more
  pub says : first.said ≡ k
  pub others : told more ≡ ks

pub uncons : (ls : List Lexeme) (k : Said) (ks : List Said) → told ls ≡ k ∷ ks → Head ls k ks
uncons [] k ks e = absurd cc
uncons (l ∷ ls) k ks e = record { first = l; more = ls; parts = refl; says = cc; others = cc }

none_left : (ls : List Lexeme) → told ls ≡ [] → ls ≡ []
none_left [] e = refl
none_left (l ∷ ls) e = absurd cc

-- a front that says the first marks, and the others
pub record Split (ls : List Lexeme) (ms ns : List Mark) : Type 0 where
  pub front : List Lexeme
  pub back : List Lexeme
  pub parts : ls ≡ front ++ back
  pub left : told front ≡ saids ms
  pub right : told back ≡ saids ns

-- one more lexeme before the front
one_more : (l : Lexeme) (ls : List Lexeme) (m : Mark) (ms ns : List Mark) → l.said ≡ mark_said m → Split ls ms ns → Split (l ∷ ls) (m ∷ ms) ns
one_more l ls m ms ns e s = record {
  front = l ∷ s.front;
  back = s.back;
  parts = ap (λ (x : List Lexeme). l ∷ x) s.parts;
  left = λ i. e i ∷ s.left i;
  right = s.right;
}

pub split : (ms ns : List Mark) (ls : List Lexeme) → told ls ≡ saids (ms ++ ns) → Split ls ms ns
split [] ns ls e = record { front = []; back = ls; parts = refl; left = refl; right = e }
split (m ∷ ms) ns [] e = absurd cc
split (m ∷ ms) ns (l ∷ ls) e =
    let first : l.said ≡ mark_said m = cc in
    let others : told ls ≡ saids (ms ++ ns) = cc in
    one_more l ls m ms ns first (split ms ns ls others)

pub match_any : (k : Said) (ms : List Mark) (ls : List Lexeme) (ks : List Said) (h : Head ls k ks) → Match ms h.more → Match (Any k ∷ ms) ls
match_any k ms ls ks h m = subst (λ (x : List Lexeme). Match (Any k ∷ ms) x) (sym h.parts) (h.says, m)

pub match_at : (k : Said) (ms : List Mark) (ls : List Lexeme) (ks : List Said) (h : Head ls k ks) → Match ms h.more → Match (At k h.first.place ∷ ms) ls
match_at k ms ls ks h m = subst (λ (x : List Lexeme). Match (At k h.first.place ∷ ms) x) (sym h.parts) ((h.says, refl), m)

pub match_split : (as' bs ms ns : List Mark) (ls : List Lexeme) (s : Split ls as' bs) → Match ms s.front → Match ns s.back → Match (ms ++ ns) ls
match_split as' bs ms ns ls s m n = subst (λ (x : List Lexeme). Match (ms ++ ns) x) (sym s.parts) (match_join ms ns s.front s.back m n)

pub match_end : (ls : List Lexeme) → told ls ≡ [] → Match [] ls
match_end ls e = none_left ls e

-- ---- trees

-- a tree like this one with the places of the lexemes
pub record Placed {A : Type 0} (bare : A → A) (spell : A → List Mark) (x : A) (ls : List Lexeme) : Type 0 where
  pub tree : A
  pub same : bare tree ≡ bare x
  pub match : Match (spell tree) ls

-- each tree can be given the places of lexemes
abbrev pub Places : {A : Type 0} → (A → A) → (A → List Mark) → Type 0
Places {A} bare spell = (x : A) (ls : List Lexeme) → told ls ≡ saids (spell x) → Placed bare spell x ls

module _ {A : Type 0} (bare : A → A) (spell : A → List Mark) (place : Places bare spell) (separator : Said) where
  pub place_more : Places (map bare) (more_spelling separator spell)
  place_more [] ls e = record { tree = []; same = refl; match = match_end ls e }
  place_more (x ∷ xs) ls e =
      let h : Head ls separator (saids (spell x ++ more_spelling separator spell xs)) = uncons ls _ _ e in
      let s : Split h.more (spell x) (more_spelling separator spell xs) = split (spell x) (more_spelling separator spell xs) h.more h.others in
      let first : Placed bare spell x s.front = place x s.front s.left in
      let others : Placed (map bare) (more_spelling separator spell) xs s.back = place_more xs s.back s.right in
      record {
        tree = first.tree ∷ others.tree;
        same = cc (first.same, others.same);
        match = match_any separator _ ls _ h (match_split _ _ (spell first.tree) (more_spelling separator spell others.tree) h.more s first.match others.match);
      }

  -- one tree or more
  pub record PlacedList (x : A) (xs : List A) (ls : List Lexeme) : Type 0 where
    pub first : A
    pub others : List A
    pub same_first : bare first ≡ bare x
    pub same_others : map bare others ≡ map bare xs
    pub match : Match (list_spelling separator spell first others) ls

  pub place_list : (x : A) (xs : List A) (ls : List Lexeme) → told ls ≡ saids (list_spelling separator spell x xs) → PlacedList x xs ls
  place_list x xs ls e =
      let s : Split ls (spell x) (more_spelling separator spell xs) = split (spell x) (more_spelling separator spell xs) ls e in
      let first : Placed bare spell x s.front = place x s.front s.left in
      let others : Placed (map bare) (more_spelling separator spell) xs s.back = place_more xs s.back s.right in
      record {
        first = first.tree;
        others = others.tree;
        same_first = first.same;
        same_others = others.same;
        match = match_split _ _ (spell first.tree) (more_spelling separator spell others.tree) ls s first.match others.match;
      }

  pub place_separated : Places (map bare) (separated separator spell)
  place_separated [] ls e = record { tree = []; same = refl; match = match_end ls e }
  place_separated (x ∷ xs) ls e =
      let p : PlacedList x xs ls = place_list x xs ls e in
      record { tree = p.first ∷ p.others; same = cc (p.same_first, p.same_others); match = p.match }

module _ {A : Type 0} (bare : A → A) (spell : A → List Mark) (place : Places bare spell) where
  pub place_all : Places (map bare) (all_spelling spell)
  place_all [] ls e = record { tree = []; same = refl; match = match_end ls e }
  place_all (x ∷ xs) ls e =
      let s : Split ls (spell x) (all_spelling spell xs) = split (spell x) (all_spelling spell xs) ls e in
      let first : Placed bare spell x s.front = place x s.front s.left in
      let others : Placed (map bare) (all_spelling spell) xs s.back = place_all xs s.back s.right in
      record {
        tree = first.tree ∷ others.tree;
        same = cc (first.same, others.same);
        match = match_split _ _ (spell first.tree) (all_spelling spell others.tree) ls s first.match others.match;
      }
