-- Variables bound one by one: what a turn adds, and what is left.
use Rattle.std.proofs.Common.{◌≡◌, ◌∙◌, refl, ap, sym, arith, append_assoc, ℕ, suc, ◌+◌, ◌-◌, ◌<◌, List, [], ◌∷◌, ◌++◌, drop, get_or, length, map}
use Rattle.cyp_heap.specs.declared.chunk.Arg.{Arg}
use Rattle.cyp_heap.specs.declared.chunk.Arg.TheVariants.{Int as IntArg, Set as SetArg}
use Rattle.cyp_pred.specs.Unfold.{bind_ints, bind_sets, int_args, new_ints, new_sets, set_args}
use Rattle.cyp_term.proofs.Turns.{drop_here}
use Rattle.cyp_term.specs.Terms.{set_var, var_term}
use Rattle.cyp_term.specs.declared.lit.SetTerm.{SetTerm}
use Rattle.cyp_term.specs.declared.subst.IntBind.{IntBind}
use Rattle.cyp_term.specs.declared.subst.SetBind.{SetBind}
use Rattle.cyp_term.specs.declared.term.Sort.TheVariants.{Int, Set}
use Rattle.cyp_term.specs.declared.term.Term.{Term}

-- ---- items that are numbered twice

module _ {X : Type 0} (item : ℕ → ℕ → X) (left : ℕ → ℕ → ℕ → List X) (step : (a f m : ℕ) → left a f (suc m) ≡ item a f ∷ left (suc a) (suc f) m) where
  -- one is added, and one less is left
  pub counted_turn : (made new whole : List X) (a f k n : ℕ) → k < n → new ≡ made ++ item (a + k) (f + k) ∷ []
      → made ++ left (a + k) (f + k) (n - k) ≡ whole → new ++ left (a + (k + 1)) (f + (k + 1)) (n - (k + 1)) ≡ whole
  counted_turn made new whole a f k n lt is h =
      let rest : List X = left (suc (a + k)) (suc (f + k)) (n - (k + 1)) in
      let one : n - k ≡ suc (n - (k + 1)) = omega arith in
      let next_a : a + (k + 1) ≡ suc (a + k) = omega arith in
      let next_f : f + (k + 1) ≡ suc (f + k) = omega arith in
      ap (λ x. new ++ left x (f + (k + 1)) (n - (k + 1))) next_a
      ∙ ap (λ x. new ++ left (suc (a + k)) x (n - (k + 1))) next_f
      ∙ ap (λ (xs : List X). xs ++ rest) is
      ∙ append_assoc made (item (a + k) (f + k) ∷ []) rest
      ∙ sym (ap (λ (xs : List X). made ++ xs) (step (a + k) (f + k) (n - (k + 1))))
      ∙ sym (ap (λ x. made ++ left (a + k) (f + k) x) one) ∙ h

-- this many new variables, bound from a number on
abbrev pub new_int_binds : ℕ → ℕ → ℕ → List IntBind
new_int_binds a f n = bind_ints a (map var_term (new_ints f n))

abbrev pub new_set_binds : ℕ → ℕ → ℕ → List SetBind
new_set_binds a f n = bind_sets a (map set_var (new_sets f n))

pub new_int_turn : (made new whole : List IntBind) (a f k n : ℕ) → k < n
    → new ≡ made ++ record { var = record { sort = Int; number = a + k }; to = var_term (record { sort = Int; number = f + k }) } ∷ []
    → made ++ new_int_binds (a + k) (f + k) (n - k) ≡ whole → new ++ new_int_binds (a + (k + 1)) (f + (k + 1)) (n - (k + 1)) ≡ whole
new_int_turn = counted_turn (λ a f. record { var = record { sort = Int; number = a }; to = var_term (record { sort = Int; number = f }) }) new_int_binds (λ a f m. refl)

pub new_set_turn : (made new whole : List SetBind) (a f k n : ℕ) → k < n
    → new ≡ made ++ record { var = record { sort = Set; number = a + k }; to = set_var (record { sort = Set; number = f + k }) } ∷ []
    → made ++ new_set_binds (a + k) (f + k) (n - k) ≡ whole → new ++ new_set_binds (a + (k + 1)) (f + (k + 1)) (n - (k + 1)) ≡ whole
new_set_turn = counted_turn (λ a f. record { var = record { sort = Set; number = a }; to = set_var (record { sort = Set; number = f }) }) new_set_binds (λ a f m. refl)

-- ---- arguments

-- the items from a place are this one and those behind it
pub item_here : {V : Type 0} (vs : List V) (i : ℕ) (x : V) → i < length vs → x ≡ get_or vs i x → drop i vs ≡ x ∷ drop (i + 1) vs
item_here vs i x lt is = drop_here vs i x lt ∙ sym (ap (λ y. y ∷ drop (i + 1) vs) is)

int_head : (n : ℕ) (a : Arg) (rest : List Arg) → bind_ints n (int_args (a ∷ rest)) ≡ bind_ints n (int_args (a ∷ [])) ++ bind_ints (n + length (int_args (a ∷ []))) (int_args rest)
int_head n (IntArg t) rest = let e : n + 1 ≡ suc n = omega arith in rw e refl
int_head n (SetArg u) rest = let e : n + 0 ≡ n = omega arith in rw e refl

set_head : (n : ℕ) (a : Arg) (rest : List Arg) → bind_sets n (set_args (a ∷ rest)) ≡ bind_sets n (set_args (a ∷ [])) ++ bind_sets (n + length (set_args (a ∷ []))) (set_args rest)
set_head n (SetArg t) rest = let e : n + 1 ≡ suc n = omega arith in rw e refl
set_head n (IntArg u) rest = let e : n + 0 ≡ n = omega arith in rw e refl

module _ {V X : Type 0} (left : ℕ → List V → List X) (size : V → ℕ) (part : ℕ → V → List X)
    (head : (n : ℕ) (v : V) (vs : List V) → left n (v ∷ vs) ≡ part n v ++ left (n + size v) vs) where
  -- what the item brings is added, and what those behind it bring is left
  pub numbered_turn : (made new whole : List X) (n m : ℕ) (items : List V) (v : V) (rest : List V) → items ≡ v ∷ rest → new ≡ made ++ part n v → m ≡ n + size v
      → made ++ left n items ≡ whole → new ++ left m rest ≡ whole
  numbered_turn made new whole n m items v rest here is next h =
      ap (λ k. new ++ left k rest) next
      ∙ ap (λ (xs : List X). xs ++ left (n + size v) rest) is
      ∙ append_assoc made (part n v) (left (n + size v) rest)
      ∙ sym (ap (λ (xs : List X). made ++ xs) (head n v rest))
      ∙ sym (ap (λ (vs : List V). made ++ left n vs) here) ∙ h

pub int_turn : (made new whole : List IntBind) (n m : ℕ) (items : List Arg) (v : Arg) (rest : List Arg) → items ≡ v ∷ rest
    → new ≡ made ++ bind_ints n (int_args (v ∷ [])) → m ≡ n + length (int_args (v ∷ []))
    → made ++ bind_ints n (int_args items) ≡ whole → new ++ bind_ints m (int_args rest) ≡ whole
int_turn = numbered_turn (λ n vs. bind_ints n (int_args vs)) (λ v. length (int_args (v ∷ []))) (λ n v. bind_ints n (int_args (v ∷ []))) int_head

pub set_turn : (made new whole : List SetBind) (n m : ℕ) (items : List Arg) (v : Arg) (rest : List Arg) → items ≡ v ∷ rest
    → new ≡ made ++ bind_sets n (set_args (v ∷ [])) → m ≡ n + length (set_args (v ∷ []))
    → made ++ bind_sets n (set_args items) ≡ whole → new ++ bind_sets m (set_args rest) ≡ whole
set_turn = numbered_turn (λ n vs. bind_sets n (set_args vs)) (λ v. length (set_args (v ∷ []))) (λ n v. bind_sets n (set_args (v ∷ []))) set_head

-- ---- how many

pub count_int_head : (a : Arg) (rest : List Arg) → length (int_args (a ∷ rest)) ≡ length (int_args (a ∷ [])) + length (int_args rest)
count_int_head (IntArg t) rest = omega arith
count_int_head (SetArg u) rest = omega arith

pub count_set_head : (a : Arg) (rest : List Arg) → length (set_args (a ∷ rest)) ≡ length (set_args (a ∷ [])) + length (set_args rest)
count_set_head (IntArg t) rest = omega arith
count_set_head (SetArg u) rest = omega arith

-- ---- arguments, then new variables

-- bound one after another, they are bound as one list
pub bind_ints-append : (n : ℕ) (ts us : List Term) → bind_ints n ts ++ bind_ints (n + length ts) us ≡ bind_ints n (ts ++ us)
bind_ints-append n [] us = let e : n + 0 ≡ n = omega arith in rw e refl
bind_ints-append n (t ∷ ts) us =
    let e : n + suc (length ts) ≡ suc n + length ts = omega arith in
    ap (λ bs. record { var = record { sort = Int; number = n }; to = t } ∷ bs) (ap (λ k. bind_ints (suc n) ts ++ bind_ints k us) e ∙ bind_ints-append (suc n) ts us)

pub bind_sets-append : (n : ℕ) (ts us : List SetTerm) → bind_sets n ts ++ bind_sets (n + length ts) us ≡ bind_sets n (ts ++ us)
bind_sets-append n [] us = let e : n + 0 ≡ n = omega arith in rw e refl
bind_sets-append n (t ∷ ts) us =
    let e : n + suc (length ts) ≡ suc n + length ts = omega arith in
    ap (λ bs. record { var = record { sort = Set; number = n }; to = t } ∷ bs) (ap (λ k. bind_sets (suc n) ts ++ bind_sets k us) e ∙ bind_sets-append (suc n) ts us)

pub all_ints_are : (made new : List IntBind) (ts : List Term) (number own m f : ℕ) → made ≡ bind_ints 0 ts → number ≡ length ts → own ≡ m
    → new ≡ made ++ bind_ints number (map var_term (new_ints f own)) → new ≡ bind_ints 0 (ts ++ map var_term (new_ints f m))
all_ints_are made new ts number own m f is count same added =
    let from_zero : number ≡ 0 + length ts = omega (arith, count) in
    added
    ∙ ap (λ bs. bs ++ bind_ints number (map var_term (new_ints f own))) is
    ∙ ap (λ n. bind_ints 0 ts ++ bind_ints n (map var_term (new_ints f own))) from_zero
    ∙ ap (λ n. bind_ints 0 ts ++ bind_ints (0 + length ts) (map var_term (new_ints f n))) same
    ∙ bind_ints-append 0 ts (map var_term (new_ints f m))

pub all_sets_are : (made new : List SetBind) (ts : List SetTerm) (number own m f : ℕ) → made ≡ bind_sets 0 ts → number ≡ length ts → own ≡ m
    → new ≡ made ++ bind_sets number (map set_var (new_sets f own)) → new ≡ bind_sets 0 (ts ++ map set_var (new_sets f m))
all_sets_are made new ts number own m f is count same added =
    let from_zero : number ≡ 0 + length ts = omega (arith, count) in
    added
    ∙ ap (λ bs. bs ++ bind_sets number (map set_var (new_sets f own))) is
    ∙ ap (λ n. bind_sets 0 ts ++ bind_sets n (map set_var (new_sets f own))) from_zero
    ∙ ap (λ n. bind_sets 0 ts ++ bind_sets (0 + length ts) (map set_var (new_sets f n))) same
    ∙ bind_sets-append 0 ts (map set_var (new_sets f m))
