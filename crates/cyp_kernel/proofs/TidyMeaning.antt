-- Tidying and pruning keep the meaning of a node: plain truths and repeats, addresses, and what is dropped.
use Rattle.std.proofs.Common.{◌≡◌, refl, sym, ap, ◌∙◌, inl, inr, Bool, true, false, cond, not, ◌&&◌, ◌||◌, List, [], ◌∷◌, map, filter, flat_map, ℕ, ℤ, pos, ◌+ℤ◌, ◌≤ℤ◌, ◌<ℤ◌, int_le, int_lt, Option, Some, None, arith, subst, ⊎_elim}
use Rattle.std.specs.Ordering.{int_eq}
use Rattle.std.proofs.lemmas.Int.{ints}
use Rattle.std.proofs.lemmas.Bool.{false≢true, and_parts, both_ways, cases_Bool, cond_both, not-true, or_parts}
use Rattle.std.proofs.lemmas.Bool.Decides.{Decides-int_eq}
use Rattle.cyp_goal.proofs.Added.{added_out}
use Rattle.cyp_goal.proofs.LitEquality.{Decides-lit_eq, lit_same}
use Rattle.cyp_goal.specs.Pruning.{is_kept, live_vars}
use Rattle.cyp_goal.specs.Tidying.{above_zero, address, address_lits, is_plainly_true, least, least_of, offsets_at, tidy_lits}
use Rattle.cyp_heap.specs.Instances.{ChunksHold, InstanceHolds, Instances}
use Rattle.cyp_heap.specs.Stores.{Store}
use Rattle.cyp_heap.specs.declared.chunk.Chunk.{Chunk}
use Rattle.cyp_heap.specs.declared.chunk.Chunk.TheVariants.{Block, Cell, Inst}
use Rattle.cyp_kernel.specs.Meaning.{PruningKeeps, TidyingKeeps}
use Rattle.cyp_term.proofs.Equality.{Decides-base_eq, Decides-var_eq}
use Rattle.cyp_term.proofs.Lists.{Among, Among-cases, Among-map, Every-among, Every-from_among, filter_in, filter_out, flat_out, map_from}
use Rattle.cyp_term.proofs.Literals.{AllTrue-every}
use Rattle.cyp_term.proofs.Repeats.{without_repeats_in, without_repeats_out}
use Rattle.cyp_term.specs.Meaning.{AllTrue, Assignment, Truth, base_value, int_in, set_value, value}
use Rattle.cyp_term.specs.Terms.{base_eq, base_vars, lit_eq, number_term, set_eq, term_vars, var_eq, var_in, without_repeats}
use Rattle.cyp_term.specs.declared.lit.Lit.{Lit}
use Rattle.cyp_term.specs.declared.lit.Lit.TheVariants.{Eq, Le, Lt, Member, Ne, Same}
use Rattle.cyp_term.specs.declared.lit.SetTerm.{SetTerm}
use Rattle.cyp_term.specs.declared.term.Term.{Term}
use Rattle.cyp_term.specs.declared.term.Var.{Var}

-- ---- true literals
pub true_at : (s : Assignment) (l : Lit) (ls : List Lit) → AllTrue s ls → Among l ls → Truth s l
true_at s l ls h k = Every-among (Truth s) l ls ((AllTrue-every s ls).0 h) k

pub true_from : (s : Assignment) (ls : List Lit) → ((l : Lit) → Among l ls → Truth s l) → AllTrue s ls
true_from s ls h = (AllTrue-every s ls).1 (Every-from_among (Truth s) ls h)

-- ---- what is plainly true
same_base : (s : Assignment) (a b : Option Var) → base_eq a b ≡ true → base_value s a ≡ base_value s b
same_base s a b e = ap (base_value s) ((Decides-base_eq a b).0 e)

cancel : (x a b : ℤ) → x +ℤ a ≡ x +ℤ b → a ≡ b
cancel x a b h = omega (arith, ints)

le_plus : (x a b : ℤ) → int_le a b ≡ true → (x +ℤ a) ≤ℤ (x +ℤ b)
le_plus x a b h = omega (arith, ints)

lt_plus : (x a b : ℤ) → int_lt a b ≡ true → (x +ℤ a) <ℤ (x +ℤ b)
lt_plus x a b h = omega (arith, ints)

-- the set of a literal that something is its member
set_of : SetTerm → Lit → SetTerm
set_of d (Member t u) = u
set_of d _ = d

set_same : (a b : SetTerm) → set_eq a b ≡ true → a ≡ b
unfolding set_of
set_same a b e = ap (set_of a) (lit_same (Member (number_term (pos 0)) a) (Member (number_term (pos 0)) b) e)

plainly_true : (s : Assignment) (l : Lit) → is_plainly_true l ≡ true → Truth s l
plainly_true s (Eq a b) e =
    let both = and_parts (base_eq a.base b.base) (int_eq a.offset b.offset) e in
    let p = same_base s a.base b.base both.0 in
    let q = (Decides-int_eq a.offset b.offset).0 both.1 in
    λ i. p i +ℤ q i
plainly_true s (Ne a b) e =
    let both = and_parts (base_eq a.base b.base) (not (int_eq a.offset b.offset)) e in
    let p = same_base s a.base b.base both.0 in
    λ k. both_ways (int_eq a.offset b.offset) (not-true (int_eq a.offset b.offset) both.1)
    ((Decides-int_eq a.offset b.offset).1 (cancel (base_value s a.base) a.offset b.offset (k ∙ ap (λ (x : ℤ). x +ℤ b.offset) (sym p))))
plainly_true s (Le a b) e =
    let both = and_parts (base_eq a.base b.base) (int_le a.offset b.offset) e in
    subst (λ (x : ℤ). (base_value s a.base +ℤ a.offset) ≤ℤ (x +ℤ b.offset)) (same_base s a.base b.base both.0) (le_plus (base_value s a.base) a.offset b.offset both.1)
plainly_true s (Lt a b) e =
    let both = and_parts (base_eq a.base b.base) (int_lt a.offset b.offset) e in
    subst (λ (x : ℤ). (base_value s a.base +ℤ a.offset) <ℤ (x +ℤ b.offset)) (same_base s a.base b.base both.0) (lt_plus (base_value s a.base) a.offset b.offset both.1)
plainly_true s (Same a b) e = λ z. ap (λ (u : SetTerm). int_in z (set_value s u)) (set_same a b e)
plainly_true s l e = absurd (false≢true e)

abbrev tells : Lit → Bool
tells l = not (is_plainly_true l)

tidy_true : (s : Assignment) (ls : List Lit) → AllTrue s ls → (l : Lit) → Among l (tidy_lits ls) → Truth s l
tidy_true s ls h l k = true_at s l ls h (filter_out tells l ls (without_repeats_out lit_eq Decides-lit_eq l (filter tells ls) k)).0

tidy_back : (s : Assignment) (ls : List Lit) → AllTrue s (tidy_lits ls) → AllTrue s ls
tidy_back s ls h =
    true_from s ls (λ l k. ⊎_elim (plainly_true s l)
    (λ e. true_at s l (tidy_lits ls) h (without_repeats_in lit_eq Decides-lit_eq l (filter tells ls) (filter_in tells l ls k (ap not e))))
    (cases_Bool (is_plainly_true l)))

-- ---- addresses are positive
positive : (inst : Instances) (s : Assignment) (cs : List Chunk) (h : Store) (ns : List ℕ) → ChunksHold inst s cs h ns → (t : Term) → Among t (flat_map address cs) → pos 0 <ℤ value s t
positive inst s [] h ns k t m = absurd m
positive inst s (Inst i ∷ cs) h ns k t m = positive inst s cs k.1 k.3 k.7 t m
positive inst s (Block b ∷ cs) h ns k t (inl e) = rw e k.3.0
positive inst s (Block b ∷ cs) h ns k t (inr m) = positive inst s cs k.1 ns k.4 t m
positive inst s (Cell c ∷ cs) h ns k t (inl e) = rw e k.3.0
positive inst s (Cell c ∷ cs) h ns k t (inr m) = positive inst s cs k.1 ns k.4 t m

-- the least of some numbers is one of them
least_among : (z : ℤ) (zs : List ℤ) → Among (least z zs) (z ∷ zs)
least_among z [] = inl refl
least_among z (y ∷ ys) =
    cond_both (int_lt y z) y z (λ w. Among (least w ys) (w ∷ ys) → Among (least w ys) (z ∷ y ∷ ys)) (λ e k. inr k) (λ e k. past k) (least_among (cond (int_lt y z) y z) ys)
  where
    past : Among (least z ys) (z ∷ ys) → Among (least z ys) (z ∷ y ∷ ys)
    past (inl e) = inl e
    past (inr k) = inr (inr k)

least_of_among : (z : ℤ) (zs : List ℤ) → Among z zs → Among (least_of zs) zs
least_of_among z [] k = absurd k
least_of_among z (y ∷ ys) k = least_among y ys

base_of : (v : Var) (b : Option Var) → Among v (base_vars b) → Some v ≡ b
base_of v None k = absurd k
base_of v (Some w) (inl e) = ap Some e
base_of v (Some w) (inr k) = absurd k

zero_plus : (x : ℤ) → pos 0 <ℤ x → (pos 0 +ℤ pos 0) <ℤ x
zero_plus x h = omega (arith, ints)

module _ (s : Assignment) (ts : List Term) (above : (t : Term) → Among t ts → pos 0 <ℤ value s t) where
  abbrev has_base : Var → Term → Bool
  has_base v t = base_eq (Some v) t.base

  offset_above : (v : Var) (z : ℤ) → Among z (offsets_at v ts) → pos 0 <ℤ (s.number v +ℤ z)
  offset_above v z k =
      let m = map_from (λ (t : Term). t.offset) z (filter (has_base v) ts) k in
      let t = filter_out (has_base v) m.0 ts m.1 in
      subst (λ (y : ℤ). pos 0 <ℤ (s.number v +ℤ y)) (sym m.2)
      (subst (λ (b : Option Var). pos 0 <ℤ (base_value s b +ℤ m.0.offset)) (sym ((Decides-base_eq (Some v) m.0.base).0 t.1)) (above m.0 t.0))

  some_offset : (v : Var) → Among v (flat_map term_vars ts) → (z : ℤ) × Among z (offsets_at v ts)
  some_offset v k =
      let t = flat_out term_vars v ts k in
      let has : has_base v t.0 ≡ true = (Decides-base_eq (Some v) t.0.base).1 (base_of v t.0.base t.2) in
      (t.0.offset, Among-map (λ (x : Term). x.offset) t.0 (filter (has_base v) ts) (filter_in (has_base v) t.0 ts t.1 has))

  address_true : (l : Lit) → Among l (address_lits ts) → Truth s l
  address_true l k =
      let least_at : Var → Lit = λ v. above_zero (record { base = Some v; offset = least_of (offsets_at v ts) }) in
      let plain : Term → Bool = λ t. base_eq t.base None && int_le t.offset (pos 0) in
      ⊎_elim
      (λ m.
      let r = map_from least_at l (without_repeats var_eq (flat_map term_vars ts)) m in
      let some = some_offset r.0 (without_repeats_out var_eq Decides-var_eq r.0 (flat_map term_vars ts) r.1) in
      subst (Truth s) (sym r.2) (zero_plus (s.number r.0 +ℤ least_of (offsets_at r.0 ts)) (offset_above r.0 (least_of (offsets_at r.0 ts)) (least_of_among some.0 (offsets_at r.0 ts) some.1))))
      (λ m.
      let r = map_from above_zero l (filter plain ts) m in
      subst (Truth s) (sym r.2) (zero_plus (value s r.0) (above r.0 (filter_out plain r.0 ts r.1).0)))
      (Among-cases l (map least_at (without_repeats var_eq (flat_map term_vars ts))) (map above_zero (filter plain ts)) k)

pub tidying_keeps : TidyingKeeps
tidying_keeps n s h ns k =
    let ts : List Term = flat_map address n.goal.pre.chunks in (
      (
        true_from s _ (λ l m. ⊎_elim (tidy_true s n.goal.pure_pre k.0 l) (address_true s ts (positive (InstanceHolds n.preds) s n.goal.pre.chunks h ns k.1) l)
            (added_out lit_eq Decides-lit_eq l (tidy_lits n.goal.pure_pre) (address_lits ts) m)),
        k.1,
        k.2,
      ),
      λ x p. (p.0, p.1, p.2, (tidy_back p.0 n.goal.pure_post p.3.0, p.3.1, p.3.2)),
    )

-- ---- pruning

pub out_filter : (v : Var) (test : Var → Bool) (xs : List Var) → var_in v xs ≡ false → var_in v (filter test xs) ≡ false
out_filter v test [] h = refl
out_filter v test (x ∷ xs) h =
    let parts = or_parts (var_eq v x) (var_in v xs) h in
    cond_both (test x) (x ∷ filter test xs) (filter test xs) (λ ys. var_in v ys ≡ false) (λ e. ap (λ c. c || var_in v (filter test xs)) parts.0 ∙ out_filter v test xs parts.1)
    (λ e. out_filter v test xs parts.1)

pub pruning_keeps : PruningKeeps
pruning_keeps n s h ns k = (
  (true_from s _ (λ l m. true_at s l n.goal.pure_pre k.0 (filter_out (is_kept (live_vars n)) l n.goal.pure_pre m).0), k.1, k.2),
  λ x p. (p.0, p.1, (λ v out. p.2 v (out_filter v _ n.goal.exist out)), p.3),
)
