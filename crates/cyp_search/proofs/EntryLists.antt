-- Entries that are put among others, and the one that is taken out.
use Rattle.std.proofs.Common.{◌≡◌, refl, sym, subst, ℕ, zero, suc, ◌⊎◌, inl, inr, Bool, true, false, cond, List, [], ◌∷◌, map, Some, None, arith}
use Rattle.std.specs.List.{Contains}
use Rattle.std.proofs.lemmas.Bool.Decides.{nat_tests}
use Rattle.cyp_tree.proofs.Singles.{nothing_in}
use Rattle.cyp_queue.specs.declared.entry.Entry.{Entry}
use Rattle.cyp_queue.specs.Entries.{is_before, put_entry, NoneBefore, AreInOrder, PopsAlive}

-- ---- what is in a list

pub first_there : {A : Type 0} (x : A) (xs : List A) → Contains (x ∷ xs) x
first_there x xs = (0, omega arith, refl)

pub later_there : {A : Type 0} (x y : A) (xs : List A) → Contains xs y → Contains (x ∷ xs) y
later_there x y xs (i, h, e) = (suc i, omega arith, e)

pub first_or_later : {A : Type 0} (x y : A) (xs : List A) → Contains (x ∷ xs) y → (x ≡ y) ⊎ Contains xs y
first_or_later x y xs (zero, h, e) = inl e
first_or_later x y xs (suc i, h, e) = inr (i, omega arith, e)

-- what has this image
pub mapped_from : {A B : Type 0} (f : A → B) (xs : List A) (y : B) → Contains (map f xs) y → (x : A) × Contains xs x × (f x ≡ y)
mapped_from f [] y h = absurd (nothing_in y h)
mapped_from {A} f (x ∷ xs) y h = elim (first_or_later (f x) y (map f xs) h) [
  | inl s ↦ (x, first_there x xs, s)
  | inr l ↦ let m : (z : A) × Contains xs z × (f z ≡ y) = mapped_from f xs y l in (m.0, later_there x m.0 xs m.1, m.2)
]

pub mapped_there : {A B : Type 0} (f : A → B) (xs : List A) (x : A) → Contains xs x → Contains (map f xs) (f x)
mapped_there f [] x h = absurd (nothing_in x h)
mapped_there {A} {B} f (y ∷ ys) x h = elim (first_or_later y x ys h) [
  | inl s ↦ subst (λ (z : A). Contains (f z ∷ map f ys) (f x)) (sym s) (first_there (f x) (map f ys))
  | inr l ↦ later_there (f y) (f x) (map f ys) (mapped_there f ys x l)
]

-- ---- an entry that is put among others

put_there_by : (e x : Entry) (xs : List Entry) (b : Bool) → Contains (put_entry e xs) e → Contains (cond b (x ∷ put_entry e xs) (e ∷ x ∷ xs)) e
put_there_by e x xs true h = later_there x e (put_entry e xs) h
put_there_by e x xs false h = first_there e (x ∷ xs)

pub put_there : (e : Entry) (xs : List Entry) → Contains (put_entry e xs) e
put_there e [] = first_there e []
put_there e (x ∷ xs) = put_there_by e x xs (is_before x e) (put_there e xs)

put_keeps_by : (e x y : Entry) (ys : List Entry) (b : Bool) → Contains (y ∷ ys) x → (Contains ys x → Contains (put_entry e ys) x) → Contains (cond b (y ∷ put_entry e ys) (e ∷ y ∷ ys)) x
put_keeps_by e x y ys true h k = elim (first_or_later y x ys h) [
  | inl s ↦ subst (λ (z : Entry). Contains (z ∷ put_entry e ys) x) (sym s) (first_there x (put_entry e ys))
  | inr l ↦ later_there y x (put_entry e ys) (k l)
]
put_keeps_by e x y ys false h k = later_there e x (y ∷ ys) h

pub put_keeps : (e x : Entry) (xs : List Entry) → Contains xs x → Contains (put_entry e xs) x
put_keeps e x [] h = absurd (nothing_in x h)
put_keeps e x (y ∷ ys) h = put_keeps_by e x y ys (is_before y e) h (put_keeps e x ys)

put_only_by : (e x y : Entry) (ys : List Entry) (b : Bool) → (Contains (put_entry e ys) x → (e ≡ x) ⊎ Contains ys x) → Contains (cond b (y ∷ put_entry e ys) (e ∷ y ∷ ys)) x
    → (e ≡ x) ⊎ Contains (y ∷ ys) x
put_only_by e x y ys true k h = elim (first_or_later y x (put_entry e ys) h) [
  | inl s ↦ inr (subst (λ (z : Entry). Contains (z ∷ ys) x) (sym s) (first_there x ys))
  | inr l ↦ elim (k l) [ inl s ↦ inl s | inr m ↦ inr (later_there y x ys m) ]
]
put_only_by e x y ys false k h = first_or_later e x (y ∷ ys) h

pub put_only : (e x : Entry) (xs : List Entry) → Contains (put_entry e xs) x → (e ≡ x) ⊎ Contains xs x
put_only e x [] h = first_or_later e x [] h
put_only e x (y ∷ ys) h = put_only_by e x y ys (is_before y e) (put_only e x ys) h

-- ---- the first entry of a live leaf is taken out

pub not_before_itself : (e : Entry) → is_before e e ≡ false
not_before_itself e = grind (arith, nat_tests)

none_before_each : (e : Entry) (xs : List Entry) → NoneBefore e xs → (x : Entry) → Contains xs x → is_before x e ≡ false
none_before_each e [] h x c = absurd (nothing_in x c)
none_before_each e (y ∷ ys) (f, h) x c = elim (first_or_later y x ys c) [
  | inl s ↦ subst (λ (z : Entry). is_before z e ≡ false) s f
  | inr l ↦ none_before_each e ys h x l
]

-- it is of a live leaf, no entry of a live leaf comes before it, and all other entries of live leaves are left
pub record Popped (live : ℕ → Type 0) (es : List Entry) (e : Entry) (after : List Entry) : Type 0 where
  pub alive : live e.leaf
  pub there : Contains es e
  pub first : (x : Entry) → Contains es x → live x.leaf → is_before x e ≡ false
  pub ordered : AreInOrder after
  pub rest : (x : Entry) → Contains after x → Contains es x
  pub kept : (x : Entry) → Contains es x → live x.leaf → (e ≡ x) ⊎ Contains after x

module _ (live : ℕ → Type 0) where
  popped_first : (x : Entry) (xs : List Entry) → AreInOrder (x ∷ xs) → live x.leaf → Popped live (x ∷ xs) x xs
  popped_first x xs (f, o) l = record {
    alive = l;
    there = first_there x xs;
    first = λ y c m. elim (first_or_later x y xs c) [
      | inl s ↦ subst (λ (z : Entry). is_before z x ≡ false) s (not_before_itself x)
      | inr d ↦ none_before_each x xs f y d
    ];
    ordered = o;
    rest = λ y c. later_there x y xs c;
    kept = λ y c m. first_or_later x y xs c;
  }

  popped_later : (x : Entry) (xs : List Entry) (e : Entry) (after : List Entry) → (live x.leaf → ⊥) → Popped live xs e after → Popped live (x ∷ xs) e after
  popped_later x xs e after d p = record {
    alive = p.alive;
    there = later_there x e xs p.there;
    first = λ y c m. elim (first_or_later x y xs c) [
      | inl s ↦ absurd (d (subst (λ (z : Entry). live z.leaf) (sym s) m))
      | inr l ↦ p.first y l m
    ];
    ordered = p.ordered;
    rest = λ y c. later_there x y xs (p.rest y c);
    kept = λ y c m. elim (first_or_later x y xs c) [
      | inl s ↦ absurd (d (subst (λ (z : Entry). live z.leaf) (sym s) m))
      | inr l ↦ p.kept y l m
    ];
  }

  pub popped : (es : List Entry) (e : Entry) (after : List Entry) → AreInOrder es → PopsAlive live es (Some e) after → Popped live es e after
  popped [] e after o (h, k) = absurd (let bad : Some e ≡ None = h in cc)
  popped (x ∷ xs) e after o (inl (l, s, a)) =
      let same : x ≡ e = (let eq : Some x ≡ Some e = sym s in cc) in
      let z : Popped live (x ∷ xs) x after = subst (λ (ys : List Entry). Popped live (x ∷ xs) x ys) (sym a) (popped_first x xs o l) in
      subst (λ (y : Entry). Popped live (x ∷ xs) y after) same z
  popped (x ∷ xs) e after (f, o) (inr (d, h)) = popped_later x xs e after d (popped xs e after o h)

  -- where nothing is taken out, no entry is of a live leaf
  pub none_popped : (es after : List Entry) → PopsAlive live es None after → (x : Entry) → Contains es x → live x.leaf → ⊥
  none_popped [] after h x c l = nothing_in x c
  none_popped (y ∷ ys) after (inl (a, s, b)) x c l = let bad : None ≡ Some y = s in cc
  none_popped (y ∷ ys) after (inr (d, h)) x c l = elim (first_or_later y x ys c) [
    | inl s ↦ d (subst (λ (z : Entry). live z.leaf) (sym s) l)
    | inr m ↦ none_popped ys after h x m l
  ]
