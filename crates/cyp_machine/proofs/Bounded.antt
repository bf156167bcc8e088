-- A step makes the numbers of a state larger by 2 ^ 32 at most.
use Rattle.std.proofs.Common.{[], Bool, List, None, Option, Some, ap, arith, cond, false, int_cmp, int_eq, is_none, leb-true, length, map, neg_ℤ, pos, refl, subst, suc, sym, true, zero, ℕ, ℤ, ◌&&◌, ◌+◌, ◌+ℤ◌, ◌<ℤ◌, ◌==◌, ◌∙◌, ◌∷◌, ◌≡◌, ◌≤◌, ◌≤ℤ◌}
use Rattle.std.proofs.lemmas.Bool.{and_from, and_parts}
use Rattle.std.proofs.lemmas.Bool.Decides.{Decides-int_eq}
use Rattle.std.proofs.lemmas.Cmp.{int_cmp_total}
use Rattle.std.proofs.lemmas.Int.{ints}
use Rattle.std.specs.FinMap.{FinMap, get, get-insert, get-remove, insert, remove}
use Rattle.std.specs.List.{list_all}
use Rattle.std.specs.Prelude.{int_le, nat_le, nat_lt}
use Rattle.cyp_heap.specs.Stores.{Store}
use Rattle.cyp_machine.specs.Bounds.{FramesBounded, IsBounded, IsWithin, StoreBounded, ValuesBounded}
use Rattle.cyp_machine.specs.InRange.{body_in_range, expr_in_range, frames_in_range, offset_in_range, statement_in_range}
use Rattle.cyp_machine.specs.States.{Frame, State}
use Rattle.cyp_machine.specs.Steps.{BodyStep, FramesStep, IsFree, StatementStep, StepBy, addresses, has_none, insert_all, least_pick, remove_all}
use Rattle.cyp_machine.specs.Values.{Values, expr_value, lookup, params_from, var_value}
use Rattle.cyp_prog.specs.Programs.{Body, Choosing, End, Failing, Giving, Invoking, Loading, Procedure, Statement, Storing, Taking, Then}
use Rattle.cyp_prog.specs.declared.stmt.Expr.{Expr}

-- ---- larger bounds

pub within_more : (b d : ℕ) (z : ℤ) → b ≤ d → IsWithin b z → IsWithin d z
within_more b d z l w = record { above = let p : neg_ℤ (pos b) ≤ℤ z = w.above in omega (arith, ints); below = let p : z ≤ℤ pos b = w.below in omega (arith, ints) }

pub values_more : (b d : ℕ) (vs : Values) → b ≤ d → ValuesBounded b vs → ValuesBounded d vs
values_more b d vs l w = λ v. within_more b d (lookup vs v) l (w v)

pub frames_more : (b d : ℕ) (fs : List Frame) → b ≤ d → FramesBounded b fs → FramesBounded d fs
frames_more b d [] l w = tt
frames_more b d (f ∷ fs) l w = (values_more b d f.values l w.0, frames_more b d fs l w.1)

pub store_more : (b d : ℕ) (h : Store) → b ≤ d → StoreBounded b h → StoreBounded d h
store_more b d h l w = record {
  addresses = λ a z e. within_more b d a l (w.addresses a z e);
  contents = λ a z e. within_more b d z l (w.contents a z e);
  bases = λ a n e. within_more b d a l (w.bases a n e);
}

pub state_more : (b d : ℕ) (s : State) → b ≤ d → IsBounded b s → IsBounded d s
state_more b d s l w = record { store = store_more b d s.store l w.store; frames = frames_more b d s.frames l w.frames }

-- ---- values

zero_within : (b : ℕ) → IsWithin b (pos 0)
zero_within b = record { above = omega (arith, ints); below = omega (arith, ints) }

var_within : (b : ℕ) (vs : Values) (v : Option ℕ) → ValuesBounded b vs → IsWithin b (var_value vs v)
var_within b vs None w = zero_within b
var_within b vs (Some v) w = w v

le_of : (a b : ℤ) → int_le a b ≡ true → a ≤ℤ b
le_of a b h = grind (arith, ints)

pub offset_within : (z : ℤ) → offset_in_range z ≡ true → IsWithin 4294967296 z
offset_within z h =
    let parts = and_parts (int_le (neg_ℤ (pos 4294967296)) z) (int_le z (pos 4294967296)) h in record {
      above = le_of (neg_ℤ (pos 4294967296)) z parts.0;
      below = le_of z (pos 4294967296) parts.1;
    }

sum_within : (b c : ℕ) (x y : ℤ) → IsWithin b x → IsWithin c y → IsWithin (b + c) (x +ℤ y)
sum_within b c x y v w =
    let p : neg_ℤ (pos b) ≤ℤ x = v.above in
    let q : x ≤ℤ pos b = v.below in
    let r : neg_ℤ (pos c) ≤ℤ y = w.above in
    let s : y ≤ℤ pos c = w.below in
    record { above = omega (arith, ints); below = omega (arith, ints) }

pub expr_within : (b : ℕ) (vs : Values) (e : Expr) → ValuesBounded b vs → expr_in_range e ≡ true → IsWithin (b + 4294967296) (expr_value vs e)
expr_within b vs e w r = sum_within b 4294967296 (var_value vs e.var) e.offset (var_within b vs e.var w) (offset_within e.offset r)

bound_within : (b : ℕ) (vs : Values) (v : ℕ) (z : ℤ) → ValuesBounded b vs → IsWithin b z → ValuesBounded b ((v, z) ∷ vs)
bound_within b vs v z w i u = chosen (v == u)
  where
    chosen : (t : Bool) → IsWithin b (cond t z (lookup vs u))
    chosen true = i
    chosen false = w u

-- ---- a called procedure's variables

abbrev AllWithin : ℕ → List ℤ → Type 0
AllWithin b [] = Unit {0}
AllWithin b (z ∷ zs) = IsWithin b z × AllWithin b zs

params_within : (b k : ℕ) (zs : List ℤ) → AllWithin b zs → ValuesBounded b (params_from k zs)
params_within b k [] w = λ v. zero_within b
params_within b k (z ∷ zs) w = bound_within b (params_from (suc k) zs) k z (params_within b (suc k) zs w.1) w.0

args_within : (b : ℕ) (vs : Values) (es : List Expr) → ValuesBounded b vs → list_all expr_in_range es ≡ true → AllWithin (b + 4294967296) (map (expr_value vs) es)
args_within b vs [] w r = tt
args_within b vs (e ∷ es) w r =
    let parts = and_parts (expr_in_range e) (list_all expr_in_range es) r in
    (expr_within b vs e w parts.0, args_within b vs es w parts.1)

-- ---- maps

module _ {X : Type 0} (P : ℤ → X → Type 0) where
  abbrev Each : FinMap int_cmp X → Type 0
  Each m = (q : ℤ) (x : X) → get m q ≡ Some x → P q x

  each_insert : (m : FinMap int_cmp X) (a : ℤ) (y : X) → Each m → P a y → Each (insert m a y)
  each_insert m a y all here q x e = of (int_eq q a) refl (sym (get-insert int_cmp_total m a y q) ∙ e)
    where
      of : (t : Bool) → int_eq q a ≡ t → cond t (Some y) (get m q) ≡ Some x → P q x
      of true s i =
          let same : q ≡ a = (Decides-int_eq q a).0 s in
          let value : y ≡ x = cc in
          subst (λ (z : X). P q z) value (subst (λ (z : ℤ). P z y) (sym same) here)
      of false s i = all q x i

  each_remove : (m : FinMap int_cmp X) (a : ℤ) → Each m → Each (remove m a)
  each_remove m a all q x e = of (int_eq q a) (sym (get-remove int_cmp_total m a q) ∙ e)
    where
      of : (t : Bool) → cond t None (get m q) ≡ Some x → P q x
      of true i = cc
      of false i = all q x i

each_removed : (P : ℤ → ℤ → Type 0) (m : FinMap int_cmp ℤ) (as' : List ℤ) → Each P m → Each P (remove_all m as')
each_removed P m [] all = all
each_removed P m (a ∷ as') all = each_remove P (remove_all m as') a (each_removed P m as' all)

each_inserted : (P : ℤ → ℤ → Type 0) (m : FinMap int_cmp ℤ) (a : ℤ) (zs : List ℤ) → Each P m → list_all (int_eq (pos 0)) zs ≡ true
    → ((q : ℤ) → a ≤ℤ q → q <ℤ (a +ℤ pos (length zs)) → P q (pos 0)) → Each P (insert_all m a zs)
each_inserted P m a [] all zeros here = all
each_inserted P m a (z ∷ zs) all zeros here =
    let parts = and_parts (int_eq (pos 0) z) (list_all (int_eq (pos 0)) zs) zeros in
    let zero_here : pos 0 ≡ z = (Decides-int_eq (pos 0) z).0 parts.0 in
    each_insert P (insert_all m (a +ℤ pos 1) zs) a z
    (each_inserted P m (a +ℤ pos 1) zs all parts.1 (λ q l u. here q (omega (arith, ints)) (omega (arith, ints))))
    (subst (λ (y : ℤ). P a y) zero_here (here a (omega (arith, ints)) (omega (arith, ints))))

-- ---- above all numbers, each base is free

above_none : (b : ℕ) (z : ℤ) → pos b <ℤ z → IsWithin b z → ⊥
above_none b z l w = let p : z ≤ℤ pos b = w.below in omega (arith, ints)

none_above : {X : Type 0} (b : ℕ) (m : FinMap int_cmp X) (z : ℤ) → ((q : ℤ) (x : X) → get m q ≡ Some x → IsWithin b q) → pos b <ℤ z → get m z ≡ None
none_above {X} b m z all l = of (get m z) refl
  where
    of : (o : Option X) → get m z ≡ o → o ≡ None
    of None e = refl
    of (Some x) e = absurd (above_none b z l (all z x e))

room_above : (b : ℕ) (m : FinMap int_cmp ℤ) (z : ℤ) (n : ℕ) → ((q x : ℤ) → get m q ≡ Some x → IsWithin b q) → pos b <ℤ z → has_none m (addresses z n) ≡ true
room_above b m z zero all l = refl
room_above b m z (suc n) all l =
    and_from (is_none (get m z)) (has_none m (addresses (z +ℤ pos 1) n)) (ap is_none (none_above b m z all l)) (room_above b m (z +ℤ pos 1) n all (omega (arith, ints)))

pub free_above : (b : ℕ) (h : Store) (z : ℤ) (n : ℕ) → StoreBounded b h → pos b <ℤ z → IsFree h z n
free_above b h z n w l = (omega (arith, ints), room_above b h.cells z n w.addresses l, none_above b h.blocks z w.bases l)

-- ---- steps

module _ (b : ℕ) where
  abbrev next : ℕ
  next = b + 4294967296

  grown : b ≤ next
  grown = omega arith

  became : (t : State) (h : Store) (vs : Values) (rest : Body) (below : List Frame) → t ≡ record { store = h; frames = record { values = vs; rest = rest } ∷ below }
      → StoreBounded next h → ValuesBounded next vs → FramesBounded next below → IsBounded next t
  became t h vs rest below e s v w = subst (λ (u : State). IsBounded next u) (sym e) (record { store = s; frames = (v, w) })

  taken : (h : Store) (a : ℤ) (n : ℕ) (zs : List ℤ) → StoreBounded b h → pos 0 <ℤ a → a ≤ℤ pos (suc b) → length zs ≡ n → n ≤ 8 → list_all (int_eq (pos 0)) zs ≡ true
      → StoreBounded next (record { cells = insert_all h.cells a zs; blocks = insert h.blocks a n })
  taken h a n zs w p u l k zeros =
      let more = store_more b next h grown w in record {
        addresses = each_inserted (λ q z. IsWithin next q) h.cells a zs more.addresses zeros
            (λ q i j. record { above = omega (arith, ints); below = omega (arith, ints) });
        contents = each_inserted (λ q z. IsWithin next z) h.cells a zs more.contents zeros (λ q i j. zero_within next);
        bases = each_insert (λ q (x : ℕ). IsWithin next q) h.blocks a n more.bases (record { above = omega (arith, ints); below = omega (arith, ints) });
      }

  module _ (ps : List Procedure) where
    statement_bounded : (s : Statement) (h : Store) (vs : Values) (rest : Body) (below : List Frame) (t : State) → StatementStep least_pick ps s h vs rest below t
        → statement_in_range (length ps) s ≡ true → StoreBounded b h → ValuesBounded b vs → FramesBounded b below → IsBounded next t
    statement_bounded (Loading v e) h vs rest below t st r s w f =
        became t h ((v, st.0) ∷ vs) rest below st.2 (store_more b next h grown s)
        (bound_within next vs v st.0 (values_more b next vs grown w) (within_more b next st.0 grown (s.contents (expr_value vs e) st.0 st.1)))
        (frames_more b next below grown f)
    statement_bounded (Storing a e) h vs rest below t st r s w f =
        let parts = and_parts (expr_in_range a) (expr_in_range e) r in
        let more = store_more b next h grown s in
        became t (record { cells = insert h.cells (expr_value vs a) (expr_value vs e); blocks = h.blocks }) vs rest below st.1
        (record {
          addresses = each_insert (λ q (z : ℤ). IsWithin next q) h.cells (expr_value vs a) (expr_value vs e) more.addresses (expr_within b vs a w parts.0);
          contents = each_insert (λ q (z : ℤ). IsWithin next z) h.cells (expr_value vs a) (expr_value vs e) more.contents (expr_within b vs e w parts.1);
          bases = more.bases;
        })
        (values_more b next vs grown w) (frames_more b next below grown f)
    statement_bounded (Taking v n) h vs rest below t st r s w f =
        let parts = and_parts (nat_le 1 n) (nat_le n 8) r in
        let small : n ≤ 8 = leb-true n 8 parts.1 in
        let first : st.0 ≤ℤ pos (suc b) = st.4.0 (pos (suc b)) (free_above b h (pos (suc b)) n s (omega (arith, ints))) in
        let positive : pos 0 <ℤ st.0 = st.3.0 in
        became t (record { cells = insert_all h.cells st.0 st.1; blocks = insert h.blocks st.0 n }) ((v, st.0) ∷ vs) rest below st.5
        (taken h st.0 n st.1 s positive first st.2 small st.4.1)
        (bound_within next vs v st.0 (values_more b next vs grown w) (record { above = omega (arith, ints); below = omega (arith, ints) }))
        (frames_more b next below grown f)
    statement_bounded (Giving e) h vs rest below t st r s w f =
        let more = store_more b next h grown s in
        became t (record { cells = remove_all h.cells (addresses (expr_value vs e) st.0); blocks = remove h.blocks (expr_value vs e) }) vs rest below st.3
        (record {
          addresses = each_removed (λ q z. IsWithin next q) h.cells (addresses (expr_value vs e) st.0) more.addresses;
          contents = each_removed (λ q z. IsWithin next z) h.cells (addresses (expr_value vs e) st.0) more.contents;
          bases = each_remove (λ q (x : ℕ). IsWithin next q) h.blocks (expr_value vs e) more.bases;
        })
        (values_more b next vs grown w) (frames_more b next below grown f)
    statement_bounded (Invoking p es) h vs rest below t st r s w f =
        let parts = and_parts (nat_lt p (length ps)) (nat_le (length es) 65535 && list_all expr_in_range es) r in
        let args = and_parts (nat_le (length es) 65535) (list_all expr_in_range es) parts.1 in
        became t h (params_from 1 (map (expr_value vs) es)) st.0.body (record { values = vs; rest = rest } ∷ below) st.2
        (store_more b next h grown s)
        (params_within next 1 (map (expr_value vs) es) (args_within b vs es w args.1))
        (values_more b next vs grown w, frames_more b next below grown f)
    statement_bounded (Choosing c x y) h vs rest below t st r s w f =
        became t h vs _ below st (store_more b next h grown s) (values_more b next vs grown w) (frames_more b next below grown f)
    statement_bounded Failing h vs rest below t st r s w f = absurd st

    body_bounded : (x : Body) (h : Store) (vs : Values) (below : List Frame) (t : State) → BodyStep least_pick ps h vs x below t
        → body_in_range (length ps) x ≡ true → StoreBounded b h → ValuesBounded b vs → FramesBounded b below → IsBounded next t
    body_bounded End h vs [] t st r s w f = absurd st
    body_bounded End h vs (g ∷ below) t st r s w f =
        subst (λ (u : State). IsBounded next u) (sym st) (record { store = store_more b next h grown s; frames = frames_more b next (g ∷ below) grown f })
    body_bounded (Then c x) h vs below t st r s w f =
        statement_bounded c h vs x below t st (and_parts (statement_in_range (length ps) c) (body_in_range (length ps) x) r).0 s w f

    frames_bounded : (fs : List Frame) (h : Store) (t : State) → FramesStep least_pick ps h fs t
        → frames_in_range (length ps) fs ≡ true → StoreBounded b h → FramesBounded b fs → IsBounded next t
    frames_bounded [] h t st r s f = absurd st
    frames_bounded (g ∷ fs) h t st r s f =
        body_bounded g.rest h g.values fs t st (and_parts (body_in_range (length ps) g.rest) (frames_in_range (length ps) fs) r).0 s f.0 f.1

    pub step_bounded : (s t : State) → StepBy least_pick ps s t → frames_in_range (length ps) s.frames ≡ true → IsBounded b s → IsBounded next t
    step_bounded s t st r w = frames_bounded s.frames s.store t st r w.store w.frames
