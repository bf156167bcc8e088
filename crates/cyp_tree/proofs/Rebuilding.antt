-- A derivation put together way by way.
use Rattle.std.proofs.Common.{◌≡◌, refl, sym, ◌∙◌, ap, subst, ℕ, zero, suc, ◌+◌, ◌-◌, ◌≤◌, ◌<◌, List, [], ◌∷◌, ◌++◌, map, take, drop, length, Option, Some, None, IsSome, false, true, arith}
use Rattle.std.specs.Prelude.{reverse}
use Rattle.std.specs.List.{slice_get}
use Rattle.std.specs.Option.{option_map, option_to_list}
use Rattle.std.proofs.lemmas.List.{reverse-append, map-append, length-append, length-map, drop-map}
use Rattle.cyp_space.specs.declared.solved.Solved.{Solved}
use Rattle.std.proofs.lemmas.List.Elements.{All-append, All-pop}
use Rattle.cyp_tree.specs.declared.mark.Mark.TheVariants.{Solved as is_solved}
use Rattle.cyp_tree.specs.declared.places.Place.{Place}
use Rattle.cyp_tree.specs.declared.places.Way.{Way}
use Rattle.cyp_tree.specs.declared.marks.Marks.{Marks}
use Rattle.cyp_tree.specs.Numbers.{run_from}
use Rattle.cyp_tree.specs.Derivations.{Derivation, Derivations, Derived, derivations_of, plain_derivation, plain_derivations}
use Rattle.cyp_tree.specs.Marked.{status_at, unsolved_at}
use Rattle.cyp_tree.specs.Arenas.{IsArena}
use Rattle.cyp_tree.specs.Choosing.{IsTaken, AreSolved, derived_at, Rebuilds, made_of, Joins}
use Rattle.cyp_tree.proofs.TakenWays.{Gives, gives, total, total-append, size_of}

-- ---- choosing: one more way, and its premises are pending in the place of its node

module _ {R N : Type 0} (root : N) (ps : List (Place N)) (ws : List (Way R)) (m : Marks) (arena : IsArena ps ws m) where
  abbrev derived : ℕ → Option (Derivation R N)
  derived k = derived_at root ps ws k

  pub takes_more : (whole : Option (Derivation R N)) (order pending : List ℕ) (at w : ℕ) (p : Place N) → slice_get ps at ≡ Some p → (g : Gives root ps ws m arena at w p)
      → Rebuilds ps ws whole (reverse order) (map derived (pending ++ at ∷ []))
      → Rebuilds ps ws whole (reverse (order ++ w ∷ [])) (map derived (pending ++ run_from g.y.parts.first g.y.parts.count))
  takes_more whole order pending at w p found g h =
      let one : map derived (pending ++ at ∷ []) ≡ map derived pending ++ Some (Derived p.node g.y.rule (derivations_of g.each)) ∷ [] =
      map-append derived pending (at ∷ []) ∙ ap (λ (o : Option (Derivation R N)). map derived pending ++ o ∷ []) g.derived
      in
      let many : map derived (pending ++ run_from g.y.parts.first g.y.parts.count) ≡ map derived pending ++ map (λ d. Some d) g.each =
      map-append derived pending (run_from g.y.parts.first g.y.parts.count) ∙ ap (λ (xs : List (Option (Derivation R N))). map derived pending ++ xs) g.are
      in
      let back : reverse (order ++ w ∷ []) ≡ w ∷ reverse order = reverse-append order (w ∷ []) in
      subst (λ (ways : List ℕ). Rebuilds ps ws whole ways (map derived (pending ++ run_from g.y.parts.first g.y.parts.count))) (sym back) (
        g.y,
        p,
        map derived pending,
        g.each,
        g.way,
        ap (slice_get ps) g.above ∙ found,
        g.long,
        many,
        subst (λ (xs : List (Option (Derivation R N))). Rebuilds ps ws whole (reverse order) xs) one h,
      )

  -- a turn of choosing: the last pending place takes its way
  pub record Turned (whole : Option (Derivation R N)) (order pending before : List ℕ) : Type 0 where
    pub solved : AreSolved (status_at m) (length ps) pending
    pub rebuilds : Rebuilds ps ws whole (reverse order) (map derived pending)
    pub smaller : total (size_of root ps ws m arena) pending < total (size_of root ps ws m arena) before

  turned_by : (whole : Option (Derivation R N)) (order rest : List ℕ) (at w : ℕ) → (t : IsTaken (unsolved_at m) ps at w) → Gives root ps ws m arena at w t.place
      → AreSolved (status_at m) (length ps) rest → Rebuilds ps ws whole (reverse order) (map derived (rest ++ at ∷ []))
      → (y : Way R) → slice_get ws w ≡ Some y → Turned whole (order ++ w ∷ []) (rest ++ run_from y.parts.first y.parts.count) (rest ++ at ∷ [])
  turned_by whole order rest at w t g h r y e =
      let same : g.y ≡ y = (let eq : Some g.y ≡ Some y = sym g.way ∙ e in cc) in
      let turned : Turned whole (order ++ w ∷ []) (rest ++ run_from g.y.parts.first g.y.parts.count) (rest ++ at ∷ []) = record {
        solved = All-append (λ k. (k < length ps) × (status_at m k ≡ is_solved)) rest (run_from g.y.parts.first g.y.parts.count) h g.solved;
        rebuilds = takes_more whole order rest at w t.place t.found g r;
        smaller = omega (arith, g.smaller, total-append (size_of root ps ws m arena) rest (run_from g.y.parts.first g.y.parts.count), total-append (size_of root ps ws m arena) rest (at ∷ []));
      } in
      subst (λ (z : Way R). Turned whole (order ++ w ∷ []) (rest ++ run_from z.parts.first z.parts.count) (rest ++ at ∷ [])) same turned

  pub last_solved : (pending rest : List ℕ) (at : ℕ) → pending ≡ rest ++ at ∷ [] → AreSolved (status_at m) (length ps) pending → (at < length ps) × (status_at m at ≡ is_solved)
  last_solved pending rest at e h = (All-pop (λ k. (k < length ps) × (status_at m k ≡ is_solved)) pending rest (Some at) e h).1

  pub turned : (whole : Option (Derivation R N)) (order pending rest order' pending' : List ℕ) (at w : ℕ) (y : Way R) → pending ≡ rest ++ at ∷ [] → AreSolved (status_at m) (length ps) pending
      → Rebuilds ps ws whole (reverse order) (map derived pending) → IsTaken (unsolved_at m) ps at w → slice_get ws w ≡ Some y → order' ≡ order ++ w ∷ []
      → pending' ≡ rest ++ run_from y.parts.first y.parts.count → Turned whole order' pending' pending
  turned whole order pending rest order' pending' at w y e h r t f a b =
      let below : at < length ps = (last_solved pending rest at e h).0 in
      let others : AreSolved (status_at m) (length ps) rest = (All-pop (λ k. (k < length ps) × (status_at m k ≡ is_solved)) pending rest (Some at) e h).0 in
      let done : Turned whole (order ++ w ∷ []) (rest ++ run_from y.parts.first y.parts.count) (rest ++ at ∷ []) =
      turned_by whole order rest at w t (gives root ps ws m arena at w below t) others (subst (λ (xs : List ℕ). Rebuilds ps ws whole (reverse order) (map derived xs)) e r) y f
      in
      subst (λ (xs : List ℕ). Turned whole order' pending' xs) (sym e)
      (subst (λ (xs : List ℕ). Turned whole order' xs (rest ++ at ∷ [])) (sym b)
      (subst (λ (xs : List ℕ). Turned whole xs (rest ++ run_from y.parts.first y.parts.count) (rest ++ at ∷ [])) (sym a) done))

  -- the way that is taken is there
  pub way_there : (at w : ℕ) → IsTaken (unsolved_at m) ps at w → w < length ws
  way_there at w t =
      let runs : t.run.first + t.run.count ≤ length ws = arena.linked.runs at t.place t.run t.found t.ways in
      let high : w < t.run.first + t.run.count = t.first.inside.high in
      omega arith

pub derived_same : {R N : Type 0} {n n' : N} {r r' : R} {ds ds' : Derivations R N} → n ≡ n' → r ≡ r' → ds ≡ ds' → Derived n r ds ≡ Derived n' r' ds'
derived_same e f g i = Derived (e i) (f i) (g i)

-- ---- runs of numbers, one after the other

pub push_front : (xs ys : List ℕ) (x : ℕ) → (xs ++ x ∷ []) ++ ys ≡ xs ++ x ∷ ys
push_front [] ys x = refl
push_front (z ∷ xs) ys x = ap (λ (l : List ℕ). z ∷ l) (push_front xs ys x)

run_by : (n e c : ℕ) → n < e → e - n ≡ c → run_from n c ≡ n ∷ run_from (n + 1) (e - (n + 1))
run_by n e zero l h = absurd (omega arith)
run_by n e (suc c) l h =
    let one : suc n ≡ n + 1 = omega arith in
    let left : c ≡ e - (n + 1) = omega arith in
    (λ i. n ∷ run_from (one i) (left i))

pub run_next : (n e : ℕ) → n < e → run_from n (e - n) ≡ n ∷ run_from (n + 1) (e - (n + 1))
run_next n e l = run_by n e (e - n) l refl

-- ---- putting together

take_front : {A : Type 0} (xs ys : List A) → take (length xs) (xs ++ ys) ≡ xs
take_front [] ys = refl
take_front (x ∷ xs) ys = ap (λ (l : List _). x ∷ l) (take_front xs ys)

drop_front : {A : Type 0} (xs ys : List A) → drop (length xs) (xs ++ ys) ≡ ys
drop_front [] ys = refl
drop_front (x ∷ xs) ys = drop_front xs ys

same_some : {R N : Type 0} (ss : List (Solved R N)) (ds : List (Derivation R N)) → made_of ss ≡ map (λ d. Some d) ds → map plain_derivation ss ≡ ds
same_some [] [] e = refl
same_some [] (d ∷ ds) e = cc
same_some (s ∷ ss) [] e = cc
same_some (s ∷ ss) (d ∷ ds) e =
    let first : plain_derivation s ≡ d = cc in
    let more : made_of ss ≡ map (λ d. Some d) ds = cc in
    (λ i. first i ∷ same_some ss ds more i)

all_some : {R N : Type 0} (ss : List (Solved R N)) (ds : List (Derivation R N)) → made_of ss ≡ map (λ d. Some d) ds → plain_derivations ss ≡ derivations_of ds
all_some ss ds e = ap derivations_of (same_some ss ds e)

made_take : {R N : Type 0} (k : ℕ) (ss : List (Solved R N)) → made_of (take k ss) ≡ take k (made_of ss)
made_take zero ss = refl
made_take (suc k) [] = refl
made_take (suc k) (s ∷ ss) = ap (λ (l : List (Option (Derivation _ _))). Some (plain_derivation s) ∷ l) (made_take k ss)

-- the last derivations became the parts of one
pub join_made : {R N : Type 0} (old front parts new : List (Solved R N)) (s : Solved R N) (k l : ℕ) (n : N) (r : R) → front ≡ take k old → parts ≡ drop k old → k ≡ l → new ≡ front ++ s ∷ []
    → plain_derivation s ≡ Derived n r (plain_derivations parts) → made_of new ≡ take l (made_of old) ++ Some (Derived n r (plain_derivations (drop l old))) ∷ []
join_made old front parts new s k l n r e f same g h =
    ap made_of g ∙ map-append (λ s. Some (plain_derivation s)) front (s ∷ [])
    ∙ (λ i. (ap made_of e ∙ made_take k old ∙ ap (λ (j : ℕ). take j (made_of old)) same) i ++ Some ((h ∙ ap (λ (xs : List (Solved _ _)). Derived n r (plain_derivations xs)) (f ∙ ap (λ (j : ℕ). drop j old) same)) i) ∷ [])

module _ {R N : Type 0} (ps : List (Place N)) (ws : List (Way R)) (whole : Option (Derivation R N)) where
  -- the next way is there, and has no more premises than derivations are made
  pub record NextWay (w : ℕ) (made : List (Solved R N)) : Type 0 where
    pub y : Way R
    pub way : slice_get ws w ≡ Some y
    pub enough : y.parts.count ≤ length made

  made_length : (made : List (Solved R N)) (rest : List (Option (Derivation R N))) (parts : List (Derivation R N)) → made_of made ≡ rest ++ map (λ d. Some d) parts → length made ≡ length rest + length parts
  made_length made rest parts e =
      sym (length-map made (λ s. Some (plain_derivation s))) ∙ ap length e ∙ length-append rest (map (λ d. Some d) parts) ∙ ap (λ (n : ℕ). length rest + n) (length-map parts (λ d. Some d))

  reversed_next : (order : List ℕ) (w : ℕ) (made : List (Option (Derivation R N))) → Rebuilds ps ws whole (reverse (order ++ w ∷ [])) made → Rebuilds ps ws whole (w ∷ reverse order) made
  reversed_next order w made h = subst (λ (ways : List ℕ). Rebuilds ps ws whole ways made) (reverse-append order (w ∷ [])) h

  next_of : (order : List ℕ) (w : ℕ) (made : List (Solved R N)) → Rebuilds ps ws whole (w ∷ reverse order) (made_of made) → NextWay w made
  next_of order w made (y, p, rest, parts, f, g, long, e, more) = record { y = y; way = f; enough = omega (arith, made_length made rest parts e) }

  pub next_way : (order : List ℕ) (w : ℕ) (made : List (Solved R N)) → Rebuilds ps ws whole (reverse (order ++ w ∷ [])) (made_of made) → NextWay w made
  next_way order w made h = next_of order w made (reversed_next order w (made_of made) h)

  joined_by : (order : List ℕ) (w : ℕ) (made new : List (Solved R N)) → Rebuilds ps ws whole (w ∷ reverse order) (made_of made) → Joins ps ws w made new → Rebuilds ps ws whole (reverse order) (made_of new)
  joined_by order w made new (y, p, rest, parts, f, g, long, e, more) j =
      let same : j.y ≡ y = (let eq : Some j.y ≡ Some y = sym j.way ∙ f in cc) in
      let also : j.p ≡ p = (let eq : Some j.p ≡ Some p = sym j.place ∙ ap (λ (z : Way R). slice_get ps z.above) same ∙ g in cc) in
      let count : j.y.parts.count ≡ y.parts.count = ap (λ (z : Way R). z.parts.count) same in
      let keep : length made - j.y.parts.count ≡ length rest = omega (arith, made_length made rest parts e) in
      let front : take (length made - j.y.parts.count) (made_of made) ≡ rest = (λ i. take (keep i) (e i)) ∙ take_front rest (map (λ d. Some d) parts) in
      let behind : made_of (drop (length made - j.y.parts.count) made) ≡ map (λ d. Some d) parts =
      sym (drop-map (λ s. Some (plain_derivation s)) (length made - j.y.parts.count) made) ∙ (λ i. drop (keep i) (e i)) ∙ drop_front rest (map (λ d. Some d) parts)
      in
      let one : Derived j.p.node j.y.rule (plain_derivations (drop (length made - j.y.parts.count) made)) ≡ Derived p.node y.rule (derivations_of parts) =
      (λ i. Derived (also i).node (same i).rule (all_some (drop (length made - j.y.parts.count) made) parts behind i))
      in
      subst (λ (xs : List (Option (Derivation R N))). Rebuilds ps ws whole (reverse order) xs) (sym (j.joined ∙ (λ i. front i ++ Some (one i) ∷ []))) more

  pub joined : (order : List ℕ) (w : ℕ) (made new : List (Solved R N)) → Rebuilds ps ws whole (reverse (order ++ w ∷ [])) (made_of made) → Joins ps ws w made new → Rebuilds ps ws whole (reverse order) (made_of new)
  joined order w made new h j = joined_by order w made new (reversed_next order w (made_of made) h) j

  -- the one that is left
  pub last_one : (made rest : List (Solved R N)) (r : Option (Solved R N)) → made_of made ≡ whole ∷ [] → made ≡ rest ++ option_to_list r → IsSome r → option_map plain_derivation r ≡ whole
  last_one made rest None e f h = let bad : false ≡ true = h in cc
  last_one made [] (Some s) e f h = let one : made_of (s ∷ []) ≡ whole ∷ [] = ap made_of (sym f) ∙ e in cc
  last_one made (x ∷ rest) (Some s) e f h = absurd (omega (arith, ap length e, length-map made (λ s. Some (plain_derivation s)), ap length f, length-append rest (s ∷ [])))
