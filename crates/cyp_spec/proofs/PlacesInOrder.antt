-- A tree that lexemes spell is in order where they are.
use Rattle.std.proofs.Common.{◌≡◌, ◌⊎◌, [], ◌∷◌, ◌++◌, List, true, flat_map, map, ℕ, suc, ◌≤◌, ◌<◌, refl, ap, subst, sym, inl, inr, arith}
use Rattle.std.specs.Prelude.{nat_lt}
use Rattle.std.proofs.lemmas.Bool.{lt-ltb}
use Rattle.cyp_lex.specs.Lexemes.{Lexeme, Said, Symbol, lexeme_of}
use Rattle.cyp_lex.specs.Spelling.{Any, At, IsEnd, Mark, Match, Then, all_spelling, more_spelling, sign}
use Rattle.cyp_lex.specs.Lexing.{LieInOrder}
use Rattle.cyp_lex.specs.declared.token.Token.{Token}
use Rattle.cyp_lex.specs.declared.token.Sign.TheVariants.{RightBrace, TwoStars}
use Rattle.cyp_spec.specs.InOrder.{IsInOrder, body_places, clause_places, inner_places, pred_places, size_place}
use Rattle.cyp_term.proofs.Lists.{Among, Among-cases, Among-left, Among-right, each_from, flat_out}
use Rattle.cyp_text.specs.Grammar.{body_spelling, chunk_spelling, clause_spelling, heap_spelling, in_braces, int_spelling, lit_spelling, params_spelling, part_spelling, pred_spelling, pure_spelling, set_spelling, text_spelling}
use Rattle.cyp_text.specs.LitTrees.{Comparing, Inside, LitTree, Negation, SameSets, SubSets}
use Rattle.cyp_names.specs.NameFaults.{clauses, int_place, lit_place, part_place, set_place}
use Rattle.cyp_text.specs.declared.tree.BodyTree.{BodyTree}
use Rattle.cyp_text.specs.declared.tree.ChunkTree.{ChunkTree}
use Rattle.cyp_text.specs.declared.tree.ChunkTree.TheVariants.{BlockOf, InstanceOf, NamedCell, TermCell}
use Rattle.cyp_text.specs.declared.tree.ClauseTree.{ClauseTree}
use Rattle.cyp_text.specs.declared.tree.IntTree.{IntTree}
use Rattle.cyp_text.specs.declared.tree.IntTree.TheVariants.{MinusNum, NameMinus, NamePlus, Named, Num, NumPlus}
use Rattle.cyp_text.specs.declared.tree.PartTree.{PartTree}
use Rattle.cyp_text.specs.declared.tree.PartTree.TheVariants.{Braces, PartName}
use Rattle.cyp_text.specs.declared.tree.PredTree.{PredTree}
use Rattle.cyp_text.specs.declared.tree.SetTree.{SetTree}
use Rattle.cyp_text.specs.declared.tree.TextTree.{TextTree}

-- ---- numbers that rise

-- each is greater than the one before it, and the first is at least p
abbrev Rises : ℕ → List ℕ → Type 0
Rises p [] = Unit {0}
Rises p (x ∷ xs) = (p ≤ x) × Rises (suc x) xs

rises_from : (p q : ℕ) (xs : List ℕ) → q ≤ p → Rises p xs → Rises q xs
rises_from p q [] le r = tt
rises_from p q (x ∷ xs) le r = (omega (arith, le, r.0), r.1)

at_least : (p y : ℕ) (xs : List ℕ) → Rises p xs → Among y xs → p ≤ y
at_least p y [] r k = absurd k
at_least p y (x ∷ xs) r (inl e) = omega (arith, e, r.0)
at_least p y (x ∷ xs) r (inr k) = let h : suc x ≤ y = at_least (suc x) y xs r.1 k in omega (arith, h, r.0)

rises_apart : (p x y : ℕ) (xs ys : List ℕ) → Rises p (xs ++ ys) → Among x xs → Among y ys → x < y
rises_apart p x y [] ys r k m = absurd k
rises_apart p x y (z ∷ zs) ys r (inl e) m = let h : suc z ≤ y = at_least (suc z) y (zs ++ ys) r.1 (Among-right y zs ys m) in omega (arith, e, h)
rises_apart p x y (z ∷ zs) ys r (inr k) m = rises_apart (suc z) x y zs ys r.1 k m

rises_left : (p : ℕ) (xs ys : List ℕ) → Rises p (xs ++ ys) → Rises p xs
rises_left p [] ys r = tt
rises_left p (x ∷ xs) ys r = (r.0, rises_left (suc x) xs ys r.1)

rises_right : (p : ℕ) (xs ys : List ℕ) → Rises p (xs ++ ys) → Rises p ys
rises_right p [] ys r = r
rises_right p (x ∷ xs) ys r = rises_from (suc x) p ys (omega (arith, r.0)) (rises_right (suc x) xs ys r.1)

-- ---- lexemes that rise

-- the places that marks tell
abbrev told : List Mark → List ℕ
told [] = []
told (Any k ∷ ms) = told ms
told (At k p ∷ ms) = p ∷ told ms

-- each lexeme stands behind the one before it, and the first at p or behind it
abbrev Follow : ℕ → List Lexeme → Type 0
Follow p [] = Unit {0}
Follow p (l ∷ ls) = (p ≤ l.place) × Follow (suc l.place) ls

tokens_follow : (text : List ℕ) (p q size : ℕ) (ts : List Token) → q ≤ p → LieInOrder p ts size → Follow q (map (lexeme_of text) ts)
tokens_follow text p q size [] le h = tt
tokens_follow text p q size (t ∷ ts) le h = (omega (arith, le, h.0), tokens_follow text t.end (suc t.start) size ts (omega (arith, h.1)) h.3)

told_rise : (p : ℕ) (ms : List Mark) (rest : List Lexeme → Type 0) (ls : List Lexeme) → Follow p ls → Then ms rest ls → Rises p (told ms)
told_rise p [] rest ls f m = tt
told_rise p (Any k ∷ ms) rest [] f m = absurd m
told_rise p (At k x ∷ ms) rest [] f m = absurd m
told_rise p (Any k ∷ ms) rest (l ∷ ls) f m = rises_from (suc l.place) p (told ms) (omega (arith, f.0)) (told_rise (suc l.place) ms rest ls f.1 m.1)
told_rise p (At k x ∷ ms) rest (l ∷ ls) f m =
    (omega (arith, f.0, m.0.1), subst (λ (n : ℕ). Rises (suc n) (told ms)) m.0.1 (told_rise (suc l.place) ms rest ls f.1 m.1))

told-append : (ms ns : List Mark) → told (ms ++ ns) ≡ told ms ++ told ns
told-append [] ns = refl
told-append (Any k ∷ ms) ns = told-append ms ns
told-append (At k p ∷ ms) ns = ap (λ (xs : List ℕ). p ∷ xs) (told-append ms ns)

-- ---- what is told

-- the place is told
abbrev Told : ℕ → List Mark → Type 0
Told x ms = Among x (told ms)

told_left : (x : ℕ) (ms ns : List Mark) → Told x ms → Told x (ms ++ ns)
told_left x ms ns k = subst (Among x) (sym (told-append ms ns)) (Among-left x (told ms) (told ns) k)

told_right : (x : ℕ) (ms ns : List Mark) → Told x ns → Told x (ms ++ ns)
told_right x ms ns k = subst (Among x) (sym (told-append ms ns)) (Among-right x (told ms) (told ns) k)

told_all : {A : Type 0} (spell : A → List Mark) (x : ℕ) (a : A) (others : List A) → Among a others → Told x (spell a) → Told x (all_spelling spell others)
told_all spell x a [] m k = absurd m
told_all spell x a (b ∷ bs) (inl e) k = told_left x (spell b) (all_spelling spell bs) (subst (λ (c : _). Told x (spell c)) e k)
told_all spell x a (b ∷ bs) (inr m) k = told_right x (spell b) (all_spelling spell bs) (told_all spell x a bs m k)

told_more : {A : Type 0} (separator : Said) (spell : A → List Mark) (x : ℕ) (a : A) (others : List A) → Among a others → Told x (spell a) → Told x (more_spelling separator spell others)
told_more separator spell x a [] m k = absurd m
told_more separator spell x a (b ∷ bs) (inl e) k = told_left x (spell b) (more_spelling separator spell bs) (subst (λ (c : _). Told x (spell c)) e k)
told_more separator spell x a (b ∷ bs) (inr m) k = told_right x (spell b) (more_spelling separator spell bs) (told_more separator spell x a bs m k)

int_told : (t : IntTree) → Told (int_place t) (int_spelling t)
int_told (Num p n) = inl refl
int_told (MinusNum p n) = inl refl
int_told (Named i) = inl refl
int_told (NamePlus i n) = inl refl
int_told (NameMinus i n) = inl refl
int_told (NumPlus p n i) = inl refl

part_told : (u : PartTree) → Told (part_place u) (part_spelling u)
part_told (PartName i) = inl refl
part_told (Braces p ts) = inl refl

set_told : (u : SetTree) → Told (set_place u) (set_spelling u)
set_told u = told_left (part_place u.first) (part_spelling u.first) (more_spelling _ part_spelling u.others) (part_told u.first)

lit_told : (l : LitTree) → Told (lit_place l) (lit_spelling l)
lit_told (Comparing a c b) = told_left (int_place a) (int_spelling a) _ (int_told a)
lit_told (SameSets a b) = told_left (set_place a) (set_spelling a) _ (set_told a)
lit_told (SubSets a b) = told_left (set_place a) (set_spelling a) _ (set_told a)
lit_told (Inside a b) = told_left (int_place a) (int_spelling a) _ (int_told a)
lit_told (Negation p l) = inl refl

size_told : (x : ℕ) (c : ChunkTree) → Among x (size_place c) → Told x (chunk_spelling c)
size_told x (BlockOf a p n) (inl e) = told_right x (int_spelling a) _ (inl e)
size_told x (BlockOf a p n) (inr k) = absurd k
size_told x (InstanceOf i xs) k = absurd k
size_told x (NamedCell i t) k = absurd k
size_told x (TermCell a t) k = absurd k

chunk_told : (x : ℕ) (c : ChunkTree) (cs : List ChunkTree) → Among c cs → Told x (chunk_spelling c) → Told x (heap_spelling cs)
chunk_told x c [] m k = absurd m
chunk_told x c (d ∷ ds) (inl e) k = told_left x (chunk_spelling d) (more_spelling (Symbol TwoStars) chunk_spelling ds) (subst (λ (b : ChunkTree). Told x (chunk_spelling b)) e k)
chunk_told x c (d ∷ ds) (inr m) k = told_right x (chunk_spelling d) (more_spelling (Symbol TwoStars) chunk_spelling ds) (told_more (Symbol TwoStars) chunk_spelling x c ds m k)

body_told : (x : ℕ) (b : BodyTree) → Among x (flat_map size_place b.chunks) → Told x (in_braces b)
body_told x b k =
    let o = flat_out size_place x b.chunks k in
    told_left x (body_spelling b) _ (told_right x (pure_spelling b.pure) (heap_spelling b.chunks) (chunk_told x o.0 b.chunks o.1 (size_told x o.0 o.2)))

clause_told : (x : ℕ) (c : ClauseTree) → Among x (clause_places c) → Told x (clause_spelling c)
clause_told x c (inl e) = inl e
clause_told x c (inr (inl e)) = inr (told_left x (lit_spelling c.guard) _ (subst (λ (p : ℕ). Told p (lit_spelling c.guard)) (sym e) (lit_told c.guard)))
clause_told x c (inr (inr k)) = inr (told_right x (lit_spelling c.guard) _ (body_told x c.body k))

-- what stands behind a predicate's name
abbrev behind_name : PredTree → List Mark
behind_name q = elim (pred_spelling q) [ [] ↦ [] | m ∷ ms ↦ elim ms [ [] ↦ [] | n ∷ ns ↦ ns ] ]

inner_told : (x : ℕ) (q : PredTree) → Among x (inner_places q) → Told x (behind_name q)
inner_told x q k =
    let o = flat_out clause_places x (clauses q) k in
    told_right x (params_spelling q.params) _ (by_place o.0 o.1 (clause_told x o.0 o.2))
  where
    rest : List Mark
    rest = all_spelling clause_spelling q.others ++ sign RightBrace ∷ []

    by_place : (c : ClauseTree) → Among c (clauses q) → Told x (clause_spelling c) → Told x (clause_spelling q.first ++ rest)
    by_place c (inl e) k = told_left x (clause_spelling q.first) rest (subst (λ (d : ClauseTree). Told x (clause_spelling d)) e k)
    by_place c (inr m) k = told_right x (clause_spelling q.first) rest (told_left x (all_spelling clause_spelling q.others) (sign RightBrace ∷ []) (told_all clause_spelling x c q.others m k))

pred_told : (x : ℕ) (q : PredTree) → Among x (pred_places q) → Told x (pred_spelling q)
pred_told x q (inl e) = inl e
pred_told x q (inr k) = inr (inner_told x q k)

-- ---- the whole text

each_rises : (p : ℕ) (q : PredTree) (qs : List PredTree) → Among q qs → Rises p (told (all_spelling pred_spelling qs)) → Rises p (told (pred_spelling q))
each_rises p q [] m r = absurd m
each_rises p q (d ∷ ds) (inl e) r =
    subst (λ (b : PredTree). Rises p (told (pred_spelling b))) (sym e)
    (rises_left p (told (pred_spelling d)) (told (all_spelling pred_spelling ds)) (subst (Rises p) (told-append (pred_spelling d) (all_spelling pred_spelling ds)) r))
each_rises p q (d ∷ ds) (inr m) r =
    each_rises p q ds m
    (rises_right p (told (pred_spelling d)) (told (all_spelling pred_spelling ds)) (subst (Rises p) (told-append (pred_spelling d) (all_spelling pred_spelling ds)) r))

module _ (t : TextTree) (r : Rises 0 (told (text_spelling t))) where
  abbrev procedure : List Mark
  procedure = elim (text_spelling (record t { preds = [] })) [ [] ↦ [] | m ∷ ms ↦ m ∷ ms ]

  both : Rises 0 (told (all_spelling pred_spelling t.preds) ++ told procedure)
  both = subst (Rises 0) (told-append (all_spelling pred_spelling t.preds) procedure) r

  name_first : (q : PredTree) → Among q t.preds → (x : ℕ) → Among x (inner_places q) → nat_lt q.name.place x ≡ true
  name_first q m x k =
      let whole : Rises 0 (told (pred_spelling q)) = each_rises 0 q t.preds m (rises_left 0 (told (all_spelling pred_spelling t.preds)) (told procedure) both) in
      let least : suc q.name.place ≤ x = at_least (suc q.name.place) x (told (behind_name q)) whole.1 (inner_told x q k) in
      lt-ltb q.name.place x (omega (arith, least))

  pred_first : (q : PredTree) → Among q t.preds → (x : ℕ) → Among x (pred_places q) → nat_lt x t.name.place ≡ true
  pred_first q m x k =
      lt-ltb x t.name.place (rises_apart 0 x t.name.place (told (all_spelling pred_spelling t.preds)) (told procedure) both
      (told_all pred_spelling x q t.preds m (pred_told x q k)) (inl refl))

  body_last : (x : ℕ) → Among x (body_places t) → nat_lt t.name.place x ≡ true
  body_last x k =
      let behind : List Mark = params_spelling t.params ++ (in_braces t.pre ++ in_braces t.post) in
      let rising : Rises 0 (told procedure) = rises_right 0 (told (all_spelling pred_spelling t.preds)) (told procedure) both in
      let there : Told x behind = told_right x (params_spelling t.params) (in_braces t.pre ++ in_braces t.post) (in_bodies (Among-cases x (flat_map size_place t.pre.chunks) (flat_map size_place t.post.chunks) k)) in
      let least : suc t.name.place ≤ x = at_least (suc t.name.place) x (told behind) rising.1 there in
      lt-ltb t.name.place x (omega (arith, least))
    where
      in_bodies : Among x (flat_map size_place t.pre.chunks) ⊎ Among x (flat_map size_place t.post.chunks) → Told x (in_braces t.pre ++ in_braces t.post)
      in_bodies (inl a) = told_left x (in_braces t.pre) (in_braces t.post) (body_told x t.pre a)
      in_bodies (inr b) = told_right x (in_braces t.pre) (in_braces t.post) (body_told x t.post b)

  in_order : IsInOrder t
  in_order = record {
    bodies_last = each_from _ (body_places t) body_last;
    names_first = each_from _ t.preds (λ q m. each_from (nat_lt q.name.place) (inner_places q) (name_first q m));
    preds_first = each_from _ t.preds (λ q m. each_from _ (pred_places q) (pred_first q m));
  }

-- the tree that the tokens of a text spell is in order
pub tree_in_order : (text : List ℕ) (size : ℕ) (ts : List Token) (t : TextTree) → LieInOrder 0 ts size → Match (text_spelling t) (map (lexeme_of text) ts) → IsInOrder t
tree_in_order text size ts t h m = in_order t (told_rise 0 (text_spelling t) IsEnd (map (lexeme_of text) ts) (tokens_follow text 0 0 size ts (omega arith) h) m)
