-- Tables of variables: one more variable, and how many fit.
use Rattle.std.proofs.Common.{◌≡◌, ◌⊎◌, inl, inr, ◌∙◌, ◌||◌, ◌&&◌, [], ◌∷◌, ◌++◌, ◌+◌, ◌<◌, ◌≤◌, ◌==◌, Bool, List, true, false, cond, length, get_or, set, not, ℕ, suc, refl, ap, ap₂, sym, ⊎_elim, arith, length-set, get_or-set_same, get_or-set_other, replicate, add-one, add-zero, subst, take}
use Rattle.std.specs.List.{count_by, filter}
use Rattle.std.proofs.lemmas.Bool.{both_ways, cases_Bool, cases_eq, cond_both, cond-false, cond-true, false_from_ne_true}
use Rattle.std.proofs.lemmas.List.{get_or-replicate, length-replicate, take_more_set}
use Rattle.std.proofs.lemmas.List.Folds.{list_any-append, sum_by-replicate}
use Rattle.std.proofs.lemmas.List.Sums.{count_by-le-length, sum_by-append, sum_by-cons, sum_by-set}
use Rattle.cyp_goal.proofs.Ranks.{among_rest, rank_here, rank_next}
use Rattle.cyp_goal.proofs.Live.{among_in, in_among}
use Rattle.cyp_goal.specs.Numbering.{rank_from, rank_in}
use Rattle.cyp_goal.specs.VarTables.{IsPlaced, IsTable, number_of_sort, slot}
use Rattle.cyp_term.proofs.Equality.{Decides-sort_eq, Decides-var_eq}
use Rattle.cyp_term.specs.Terms.{is_set_var, sort_eq, var_eq, var_in, with_new}
use Rattle.cyp_term.specs.declared.term.Sort.{Sort}
use Rattle.cyp_term.specs.declared.term.Sort.TheVariants.{Card, Int, Set}
use Rattle.cyp_term.specs.declared.term.Var.{Var}

-- ---- ranks in longer lists

-- the test of two variables doesn't depend on which comes first
turned : (v w : Var) → var_eq v w ≡ false → var_eq w v ≡ false
turned v w e =
    ⊎_elim (λ h. absurd (both_ways (var_eq v w) e ((Decides-var_eq v w).1 (sym ((Decides-var_eq w v).0 h))))) (λ h. h) (cases_Bool (var_eq w v))

-- a variable that stands in the first list keeps its rank
rank_longer : (k : ℕ) (vs ys : List Var) (w : Var) → var_in w vs ≡ true → rank_from k (vs ++ ys) w ≡ rank_from k vs w
rank_longer k [] ys w h = cc
rank_longer k (u ∷ us) ys w h =
    ⊎_elim (λ e. rank_here k u (us ++ ys) w e ∙ sym (rank_here k u us w e))
    (λ e. rank_next k u (us ++ ys) w e
    ∙ rank_longer (cond (sort_eq u.sort w.sort) (suc k) k) us ys w (among_in w us (among_rest u us w e (in_among w (u ∷ us) h)))
    ∙ sym (rank_next k u us w e))
    (cases_Bool (var_eq u w))

number_cons : (u : Var) (us : List Var) (s : Sort) → number_of_sort (u ∷ us) s ≡ cond (sort_eq u.sort s) 1 0 + number_of_sort us s
number_cons u us s = sum_by-cons (λ (w : Var). cond (sort_eq w.sort s) 1 0) u us

one_more : (b : Bool) (k n m l : ℕ) → l ≡ cond b 1 0 + n → m ≡ cond b (suc k) k + n → m ≡ k + l
one_more true k n m l f e = omega arith
one_more false k n m l f e = omega arith

-- a variable that is new has as many before it as there are of its sort
rank_behind : (k : ℕ) (vs : List Var) (v : Var) → var_in v vs ≡ false → rank_from k (vs ++ v ∷ []) v ≡ k + number_of_sort vs v.sort
rank_behind k [] v h = rank_here k v [] v ((Decides-var_eq v v).1 refl) ∙ omega arith
rank_behind k (u ∷ us) v h =
    let none : var_eq u v ≡ false = turned v u (first (var_eq v u) (var_in v us) h) in
    one_more (sort_eq u.sort v.sort) k (number_of_sort us v.sort) (rank_from k (u ∷ us ++ v ∷ []) v) (number_of_sort (u ∷ us) v.sort) (number_cons u us v.sort)
    (rank_next k u (us ++ v ∷ []) v none ∙ rank_behind (cond (sort_eq u.sort v.sort) (suc k) k) us v (second (var_eq v u) (var_in v us) h))
  where
    first : (a b : Bool) → (a || b) ≡ false → a ≡ false
    first false b e = refl
    first true b e = e

    second : (a b : Bool) → (a || b) ≡ false → b ≡ false
    second false b e = e
    second true b e = absurd (both_ways true e refl)

-- a variable that is there has fewer before it than there are of its sort
rank_below : (k : ℕ) (vs : List Var) (v : Var) → var_in v vs ≡ true → rank_from k vs v < k + number_of_sort vs v.sort
rank_below k [] v h = cc
rank_below k (u ∷ us) v h =
    ⊎_elim (λ e. at_first (number_of_sort us v.sort) (rank_from k (u ∷ us) v) k (cond (sort_eq u.sort v.sort) 1 0) (number_of_sort (u ∷ us) v.sort) (number_cons u us v.sort)
    (cond-true (sort_eq u.sort v.sort) 1 0 ((Decides-sort_eq u.sort v.sort).1 (ap (λ (w : Var). w.sort) ((Decides-var_eq u v).0 e)))) (rank_here k u us v e))
    (λ e. let next : rank_from k (u ∷ us) v ≡ rank_from (cond (sort_eq u.sort v.sort) (suc k) k) us v = rank_next k u us v e in
    let less = rank_below (cond (sort_eq u.sort v.sort) (suc k) k) us v (among_in v us (among_rest u us v e (in_among v (u ∷ us) h))) in
    less_more (sort_eq u.sort v.sort) k (number_of_sort us v.sort) (rank_from k (u ∷ us) v) (rank_from (cond (sort_eq u.sort v.sort) (suc k) k) us v) (number_of_sort (u ∷ us) v.sort) (number_cons u us v.sort) next less)
    (cases_Bool (var_eq u v))
  where
    at_first : (n m k o l : ℕ) → l ≡ o + n → o ≡ 1 → m ≡ k → m < k + l
    at_first n m k o l f e h = omega arith

    less_more : (b : Bool) (k n m r l : ℕ) → l ≡ cond b 1 0 + n → m ≡ r → r < cond b (suc k) k + n → m < k + l
    less_more true k n m r l f e h = omega arith
    less_more false k n m r l f e h = omega arith

pub rank_in-below : (vs : List Var) (v : Var) → var_in v vs ≡ true → rank_in vs v < number_of_sort vs v.sort
rank_in-below vs v h = let b : rank_from 0 vs v < 0 + number_of_sort vs v.sort = rank_below 0 vs v h in omega arith

-- ---- slots of longer lists

slot_cases : (vs : List Var) (v w : Var) → var_in v vs ≡ false → (b c : Bool) → var_eq v w ≡ b → var_in w vs ≡ c
    → slot (vs ++ v ∷ []) w ≡ cond b (suc (number_of_sort vs v.sort)) (cond c (suc (rank_in vs w)) 0)
slot_cases vs v w new true c same is =
    let there : var_in w (vs ++ v ∷ []) ≡ true = list_any-append (var_eq w) vs (v ∷ []) ∙ last (var_in w vs) (var_eq w v) ((Decides-var_eq w v).1 (sym ((Decides-var_eq v w).0 same))) in
    let rank : rank_in (vs ++ v ∷ []) v ≡ number_of_sort vs v.sort = rank_behind 0 vs v new ∙ omega arith in
    cond-true (var_in w (vs ++ v ∷ [])) (suc (rank_in (vs ++ v ∷ []) w)) 0 there
    ∙ ap suc (ap (rank_in (vs ++ v ∷ [])) (sym ((Decides-var_eq v w).0 same)) ∙ rank)
  where
    last : (a b : Bool) → b ≡ true → (a || (b || false)) ≡ true
    last true b e = refl
    last false b e = rw e refl
slot_cases vs v w new false c apart is = behind c is
  where
    in_longer : var_in w (vs ++ v ∷ []) ≡ var_in w vs
    in_longer = list_any-append (var_eq w) vs (v ∷ []) ∙ same (var_in w vs) (var_eq w v) (turned v w apart)
      where
        same : (a b : Bool) → b ≡ false → (a || (b || false)) ≡ a
        same true b e = refl
        same false b e = rw e refl

    behind : (c : Bool) → var_in w vs ≡ c → slot (vs ++ v ∷ []) w ≡ cond c (suc (rank_in vs w)) 0
    behind true is = cond-true (var_in w (vs ++ v ∷ [])) (suc (rank_in (vs ++ v ∷ []) w)) 0 (in_longer ∙ is) ∙ ap suc (rank_longer 0 vs (v ∷ []) w is)
    behind false is = cond-false (var_in w (vs ++ v ∷ [])) (suc (rank_in (vs ++ v ∷ []) w)) 0 (in_longer ∙ is)

pub slot_push : (vs : List Var) (v w : Var) → var_in v vs ≡ false → slot (vs ++ v ∷ []) w ≡ cond (var_eq v w) (suc (number_of_sort vs v.sort)) (slot vs w)
slot_push vs v w new = slot_cases vs v w new (var_eq v w) (var_in w vs) refl refl

number_push : (vs : List Var) (v : Var) (s : Sort) → number_of_sort (vs ++ v ∷ []) s ≡ number_of_sort vs s + cond (sort_eq v.sort s) 1 0
number_push vs v s = let e = sum_by-append (λ (w : Var). cond (sort_eq w.sort s) 1 0) vs (v ∷ []) in e ∙ omega arith

-- ---- filled slots

abbrev is_filled : ℕ → Bool
is_filled k = not (k == 0)

abbrev is_one : ℕ → ℕ
is_one k = cond (is_filled k) 1 0

filled_one : (k : ℕ) → is_one (k + 1) ≡ 1
filled_one k = grind arith

-- one more is filled
filled_more : (slots : List ℕ) (n y : ℕ) → n < length slots → get_or slots n 0 ≡ 0 → count_by is_filled (set slots n (y + 1)) ≡ count_by is_filled slots + 1
filled_more slots n y lt none = joined (count_by is_filled (set slots n (y + 1))) (count_by is_filled slots) (is_one (get_or slots n 0)) (is_one (y + 1)) (sum_by-set is_one slots n (y + 1) 0 lt) (ap is_one none) (filled_one y)
  where
    joined : (a b c d : ℕ) → a + c ≡ b + d → c ≡ 0 → d ≡ 1 → a ≡ b + 1
    joined a b c d e f g = omega arith

-- where one isn't filled not all are
not_full : (slots : List ℕ) (n : ℕ) → n < length slots → get_or slots n 0 ≡ 0 → count_by is_filled slots < length slots
not_full slots n lt none =
    let more : count_by is_filled (set slots n 1) ≡ count_by is_filled slots + 1 = filled_more slots n 0 lt none in
    let most : count_by is_filled (set slots n 1) ≤ length (set slots n 1) = count_by-le-length is_filled (set slots n 1) in
    let long : length (set slots n 1) ≡ length slots = length-set slots n 1 in
    omega arith

module _ (vs : List Var) (s : Sort) (slots : List ℕ) (filled : ℕ) (is : IsPlaced vs s slots filled) where
  pub most_filled : filled ≤ 256
  most_filled =
      let most : count_by is_filled slots ≤ length slots = count_by-le-length is_filled slots in
      let long : length slots ≡ 256 = is.long in
      let taken : filled ≡ count_by is_filled slots = is.taken in
      omega arith

  abbrev var : ℕ → Var
  var n = record { sort = s; number = n }

  pub slot_most : (n : ℕ) → n < 256 → get_or slots n 0 ≤ 256
  slot_most n lt =
      subst (λ k. k ≤ 256) (sym (is.places n lt)) (cond_both (var_in (var n) vs) (suc (rank_in vs (var n))) 0 (λ k. k ≤ 256) (λ e. within_sort (rank_in vs (var n)) (number_of_sort vs s) filled (rank_in-below vs (var n) e) is.many most_filled) (λ e. omega arith))
    where
      within_sort : (r m f : ℕ) → r < m → f ≡ m → f ≤ 256 → suc r ≤ 256
      within_sort r m f a b c = omega arith

  module _ (v : Var) (low : v.number < 256) (new : var_in v vs ≡ false) where
    -- of its own sort
    module _ (same : v.sort ≡ s) where
      none : get_or slots v.number 0 ≡ 0
      none = is.places v.number low ∙ ap (λ z. slot vs (record { sort = z; number = v.number })) (sym same) ∙ cond-false (var_in v vs) (suc (rank_in vs v)) 0 new

      within : v.number < length slots
      within = let long : length slots ≡ 256 = is.long in omega arith

      pub room : filled < 256
      room =
          let less : count_by is_filled slots < length slots = not_full slots v.number within none in
          let long : length slots ≡ 256 = is.long in
          let taken : filled ≡ count_by is_filled slots = is.taken in
          omega arith

      pub placed_own : IsPlaced (vs ++ v ∷ []) s (set slots v.number (filled + 1)) (filled + 1)
      placed_own = record {
        long = length-set slots v.number (filled + 1) ∙ is.long;
        places = λ n lt. ⊎_elim (at n lt) (other n lt) (cases_eq n v.number);
        many = ap (λ k. k + 1) is.many ∙ sym (number_push vs v s ∙ ap (λ k. number_of_sort vs s + k) (cond-true (sort_eq v.sort s) 1 0 ((Decides-sort_eq v.sort s).1 same)));
        taken = ap (λ k. k + 1) is.taken ∙ sym (filled_more slots v.number filled within none);
      }
        where
          at : (n : ℕ) → n < 256 → n ≡ v.number → get_or (set slots v.number (filled + 1)) n 0 ≡ slot (vs ++ v ∷ []) (var n)
          at n lt e =
              ap (λ k. get_or (set slots v.number (filled + 1)) k 0) e ∙ get_or-set_same slots v.number (filled + 1) 0 within ∙ ap (λ k. k + 1) is.many ∙ add-one (number_of_sort vs s)
              ∙ ap (λ z. suc (number_of_sort vs z)) (sym same)
              ∙ sym (slot_push vs v (var n) new ∙ cond-true (var_eq v (var n)) (suc (number_of_sort vs v.sort)) (slot vs (var n)) ((Decides-var_eq v (var n)).1 (λ i. record { sort = same i; number = sym e i })))

          other : (n : ℕ) → n < 256 → (n ≡ v.number → ⊥) → get_or (set slots v.number (filled + 1)) n 0 ≡ slot (vs ++ v ∷ []) (var n)
          other n lt ne =
              get_or-set_other slots v.number n (filled + 1) 0 ne ∙ is.places n lt
              ∙ sym (slot_push vs v (var n) new ∙ cond-false (var_eq v (var n)) (suc (number_of_sort vs v.sort)) (slot vs (var n)) (false_from_ne_true (var_eq v (var n)) (λ e. ne (sym (ap (λ (w : Var). w.number) ((Decides-var_eq v (var n)).0 e))))))

    -- of another sort
    pub placed_other : sort_eq v.sort s ≡ false → IsPlaced (vs ++ v ∷ []) s slots filled
    placed_other e = record {
      long = is.long;
      places = λ n lt. is.places n lt ∙ sym (slot_push vs v (var n) new ∙ cond-false (var_eq v (var n)) (suc (number_of_sort vs v.sort)) (slot vs (var n)) (ap (λ b. b && (v.number == n)) e));
      many = is.many ∙ sym (number_push vs v s ∙ ap (λ k. number_of_sort vs s + k) (cond-false (sort_eq v.sort s) 1 0 e) ∙ add-zero (number_of_sort vs s));
      taken = is.taken;
    }

-- ---- an empty table
pub none_placed : (s : Sort) (slots : List ℕ) (n : ℕ) → slots ≡ replicate 256 0 → n ≡ 0 → IsPlaced [] s slots n
none_placed s slots n e f = record {
  long = ap length e ∙ length-replicate {A = ℕ} 256 0;
  places = λ k lt. ap (λ xs. get_or xs k 0) e ∙ get_or-replicate {A = ℕ} 256 k 0 0 lt;
  many = f;
  taken = f ∙ sym (ap (count_by is_filled) e ∙ sum_by-replicate is_one 256 0);
}

-- ---- whole tables
module _ (order : List Var) (len : ℕ) (ints : List ℕ) (i : ℕ) (cards : List ℕ) (c : ℕ) (sets : List ℕ) (s : ℕ) (is : IsTable order len ints i cards c sets s) where
  module _ (v : Var) (low : v.number < 256) (new : var_in v (take len order) ≡ false) where
    pub int_room : v.sort ≡ Int → i < 256
    int_room e = room (take len order) Int ints i is.int_places v low new e

    pub card_room : v.sort ≡ Card → c < 256
    card_room e = room (take len order) Card cards c is.card_places v low new e

    pub set_room : v.sort ≡ Set → s < 256
    set_room e = room (take len order) Set sets s is.set_places v low new e

    -- there is room for one more
    pub more_room : len < 768
    more_room = by_sort v.sort refl
      where
        ints_most : i ≤ 256
        ints_most = most_filled (take len order) Int ints i is.int_places

        cards_most : c ≤ 256
        cards_most = most_filled (take len order) Card cards c is.card_places

        sets_most : s ≤ 256
        sets_most = most_filled (take len order) Set sets s is.set_places

        by_sort : (z : Sort) → v.sort ≡ z → len < 768
        by_sort Int e = omega (arith, int_room e, ints_most, cards_most, sets_most, is.total)
        by_sort Card e = omega (arith, card_room e, ints_most, cards_most, sets_most, is.total)
        by_sort Set e = omega (arith, set_room e, ints_most, cards_most, sets_most, is.total)

    pushed : take (len + 1) (set order len v) ≡ take len order ++ v ∷ []
    pushed = take_more_set order len v (let lt : len < 768 = more_room in let long : length order ≡ 768 = is.long in omega arith)

    abbrev longer : List Var
    longer = set order len v

    placed_again : (z : Sort) (slots : List ℕ) (n : ℕ) → IsPlaced (take len order ++ v ∷ []) z slots n → IsPlaced (take (len + 1) longer) z slots n
    placed_again z slots n h = subst (λ vs. IsPlaced vs z slots n) (sym pushed) h

    other_again : (z : Sort) (slots : List ℕ) (n : ℕ) → IsPlaced (take len order) z slots n → sort_eq v.sort z ≡ false → IsPlaced (take (len + 1) longer) z slots n
    other_again z slots n h e = placed_again z slots n (placed_other (take len order) z slots n h v low new e)

    long_again : length longer ≡ 768
    long_again = length-set order len v ∙ is.long

    own_again : (z : Sort) (slots : List ℕ) (n : ℕ) (more : List ℕ) (m : ℕ) → IsPlaced (take len order) z slots n → v.sort ≡ z → more ≡ set slots v.number (n + 1) → m ≡ n + 1 → IsPlaced (take (len + 1) longer) z more m
    own_again z slots n more m h e f g =
        placed_again z more m (subst (λ (xs : List ℕ). IsPlaced (take len order ++ v ∷ []) z xs m) (sym f) (subst (λ (k : ℕ). IsPlaced (take len order ++ v ∷ []) z (set slots v.number (n + 1)) k) (sym g) (placed_own (take len order) z slots n h v low new e)))

    pub int_more : (more : List ℕ) (m : ℕ) → v.sort ≡ Int → more ≡ set ints v.number (i + 1) → m ≡ i + 1 → IsTable longer (len + 1) more m cards c sets s
    int_more more m e f g = record {
      int_places = own_again Int ints i more m is.int_places e f g;
      card_places = other_again Card cards c is.card_places (ap (λ z. sort_eq z Card) e);
      set_places = other_again Set sets s is.set_places (ap (λ z. sort_eq z Set) e);
      total = let t : len ≡ i + c + s = is.total in omega arith;
      long = long_again;
    }

    pub card_more : (more : List ℕ) (m : ℕ) → v.sort ≡ Card → more ≡ set cards v.number (c + 1) → m ≡ c + 1 → IsTable longer (len + 1) ints i more m sets s
    card_more more m e f g = record {
      int_places = other_again Int ints i is.int_places (ap (λ z. sort_eq z Int) e);
      card_places = own_again Card cards c more m is.card_places e f g;
      set_places = other_again Set sets s is.set_places (ap (λ z. sort_eq z Set) e);
      total = let t : len ≡ i + c + s = is.total in omega arith;
      long = long_again;
    }

    pub set_more : (more : List ℕ) (m : ℕ) → v.sort ≡ Set → more ≡ set sets v.number (s + 1) → m ≡ s + 1 → IsTable longer (len + 1) ints i cards c more m
    set_more more m e f g = record {
      int_places = other_again Int ints i is.int_places (ap (λ z. sort_eq z Int) e);
      card_places = other_again Card cards c is.card_places (ap (λ z. sort_eq z Card) e);
      set_places = own_again Set sets s more m is.set_places e f g;
      total = let t : len ≡ i + c + s = is.total in omega arith;
      long = long_again;
    }

    -- what callers see
    pub table_more : (now : List Var) → take len order ≡ now → take (len + 1) longer ≡ with_new var_eq now v
    table_more now e = pushed ∙ sym (cond-false (var_in v (take len order)) (take len order) (take len order ++ v ∷ []) new) ∙ ap (λ vs. with_new var_eq vs v) e

-- ---- how many there are of which kind
both_kinds : (z : Sort) (n i c : ℕ) → cond (sort_eq z Int) 1 0 + i + (cond (sort_eq z Card) 1 0 + c) ≡ cond (not (sort_eq z Set)) 1 0 + (i + c)
both_kinds Int n i c = omega arith
both_kinds Card n i c = omega arith
both_kinds Set n i c = omega arith

counted : {A : Type 0} (test : A → Bool) (x : A) (xs : List A) → length (filter test (x ∷ xs)) ≡ cond (test x) 1 0 + length (filter test xs)
counted test x xs = by_test (test x)
  where
    by_test : (b : Bool) → length (cond b (x ∷ filter test xs) (filter test xs)) ≡ cond b 1 0 + length (filter test xs)
    by_test true = omega arith
    by_test false = omega arith

ints_counted : (vs : List Var) → number_of_sort vs Int + number_of_sort vs Card ≡ length (filter (λ v. not (is_set_var v)) vs)
ints_counted [] = refl
ints_counted (v ∷ vs) =
    ap₂ ◌+◌ (number_cons v vs Int) (number_cons v vs Card) ∙ both_kinds v.sort 0 (number_of_sort vs Int) (number_of_sort vs Card)
    ∙ ap (λ k. cond (not (is_set_var v)) 1 0 + k) (ints_counted vs) ∙ sym (counted (λ w. not (is_set_var w)) v vs)

sets_counted : (vs : List Var) → number_of_sort vs Set ≡ length (filter is_set_var vs)
sets_counted [] = refl
sets_counted (v ∷ vs) = number_cons v vs Set ∙ ap (λ k. cond (is_set_var v) 1 0 + k) (sets_counted vs) ∙ sym (counted is_set_var v vs)

module _ (order : List Var) (len : ℕ) (ints : List ℕ) (i : ℕ) (cards : List ℕ) (c : ℕ) (sets : List ℕ) (s : ℕ) (is : IsTable order len ints i cards c sets s) (now : List Var) (view : take len order ≡ now) where
  pub ints_are : i + c ≡ length (filter (λ v. not (is_set_var v)) now)
  ints_are = ap₂ ◌+◌ is.int_places.many is.card_places.many ∙ ints_counted (take len order) ∙ ap (λ vs. length (filter (λ v. not (is_set_var v)) vs)) view

  pub sets_are : s ≡ length (filter is_set_var now)
  sets_are = is.set_places.many ∙ sets_counted (take len order) ∙ ap (λ vs. length (filter is_set_var vs)) view

-- a variable's place is below the number of variables of its kind
pub rank_kind : (vs : List Var) (v : Var) → var_in v vs ≡ true → (rank_in vs v < length (filter (λ w. not (is_set_var w)) vs)) ⊎ (rank_in vs v < length (filter is_set_var vs))
rank_kind vs v h = by_sort v.sort refl
  where
    below : rank_in vs v < number_of_sort vs v.sort
    below = rank_in-below vs v h

    by_sort : (z : Sort) → v.sort ≡ z → (rank_in vs v < length (filter (λ w. not (is_set_var w)) vs)) ⊎ (rank_in vs v < length (filter is_set_var vs))
    by_sort Int e =
        let own : rank_in vs v < number_of_sort vs Int = subst (λ z. rank_in vs v < number_of_sort vs z) e below in
        let both : number_of_sort vs Int + number_of_sort vs Card ≡ length (filter (λ w. not (is_set_var w)) vs) = ints_counted vs in
        inl (omega arith)
    by_sort Card e =
        let own : rank_in vs v < number_of_sort vs Card = subst (λ z. rank_in vs v < number_of_sort vs z) e below in
        let both : number_of_sort vs Int + number_of_sort vs Card ≡ length (filter (λ w. not (is_set_var w)) vs) = ints_counted vs in
        inl (omega arith)
    by_sort Set e = inr (subst (λ k. rank_in vs v < k) (sets_counted vs) (subst (λ z. rank_in vs v < number_of_sort vs z) e below))
