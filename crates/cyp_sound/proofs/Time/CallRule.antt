-- Call keeps to its time: the stores, the call at a lower measure, and what follows.
use Rattle.cyp_goal.proofs.EachVar.{EachPart}
use Rattle.cyp_goal.specs.Facts.{facts}
use Rattle.cyp_heap.proofs.CellCounts.{union_count}
use Rattle.cyp_heap.proofs.Heights.{side_heights_law}
use Rattle.cyp_heap.specs.Assertions.{SideHolds}
use Rattle.cyp_heap.specs.Chunks.{insts, put_all}
use Rattle.cyp_heap.specs.Formed.{is_prefix, tuples_grow}
use Rattle.cyp_heap.specs.Instances.{InstanceHolds, Instances}
use Rattle.cyp_heap.specs.PredsFormed.{IsFormedPreds}
use Rattle.cyp_heap.specs.Stores.{IsUnion, Store, cell_count}
use Rattle.cyp_heap.specs.declared.chunk.CellAt.{CellAt}
use Rattle.cyp_heap.specs.declared.chunk.Chunk.{Chunk}
use Rattle.cyp_heap.specs.declared.goal.Link.{Link}
use Rattle.cyp_heap.specs.declared.goal.Node.{Node}
use Rattle.cyp_kernel.proofs.CallEnd.{after_holds, left, program_kept, values}
use Rattle.cyp_kernel.proofs.CallStart.{Callable, args_passed, call_start, call_stores, callable, callee_values, stores_writable}
use Rattle.cyp_kernel.proofs.ChunkOrder.{AllHold}
use Rattle.cyp_kernel.proofs.FoundImages.{ExistFree}
use Rattle.cyp_kernel.proofs.FoundMatch.{found}
use Rattle.cyp_kernel.proofs.GoalFacts.{facts_true, shown_true}
use Rattle.cyp_kernel.proofs.HeapCells.{cards_set, write_cell, written}
use Rattle.cyp_kernel.proofs.NamedValues.{expr_is}
use Rattle.cyp_kernel.proofs.NewExist.{listed}
use Rattle.cyp_kernel.proofs.NewNumber.{old_parts}
use Rattle.cyp_kernel.proofs.NormalRules.{steady_links}
use Rattle.cyp_kernel.proofs.OldVars.{IsOld}
use Rattle.cyp_kernel.proofs.Opened.{number_old}
use Rattle.cyp_kernel.proofs.OpenedSmall.{opened_small}
use Rattle.cyp_kernel.proofs.RuleCall.{called}
use Rattle.cyp_kernel.proofs.SteadyParts.{slice_get-among}
use Rattle.cyp_kernel.proofs.StoreRuns.{addresses_kept, by_address, cell_with, mended, put_content, put_content-cell}
use Rattle.cyp_kernel.specs.Bound.{bound, longest}
use Rattle.cyp_kernel.specs.Correct.{MeetsPost, unlinked}
use Rattle.cyp_kernel.specs.Laws.{IsLower}
use Rattle.cyp_kernel.specs.Meets.{AreNamed, ProcedureMeets, body_state}
use Rattle.cyp_kernel.specs.Naming.{Names, expr_of}
use Rattle.cyp_kernel.specs.Statements.{stores, first_body, in_cell_order, kept_mends, linked_call, matched_call, chunk_address, pre_cell_at}
use Rattle.cyp_kernel.specs.Steady.{IsSteady}
use Rattle.cyp_kernel.specs.SteadyLaws.{IsSteadyNode}
use Rattle.cyp_machine.specs.Values.{Values, expr_value}
use Rattle.cyp_measure.specs.Decrease.{decreases}
use Rattle.cyp_prog.specs.Programs.{Body, Invoking, Procedure, Then, Storing}
use Rattle.cyp_prog.specs.declared.stmt.Expr.{Expr}
use Rattle.cyp_sound.proofs.Time.CallTime.{call_in_time}
use Rattle.cyp_sound.proofs.Time.Growth.{grown_call}
use Rattle.cyp_sound.proofs.Time.KeepsTime.{AtPlace, BodyKeepsTime, CardsWithin, KeepsTime, ProcedureKeepsTime, grown}
use Rattle.cyp_sound.proofs.Time.Levels.{below_is_lower, fall_law, levels_length, levels_within}
use Rattle.cyp_sound.proofs.Time.Measures.{Falls, IsWithin, companions_from, ends_of, last_end, nat_of, numbers_of, AreShort, LexAtMost, Companion, LexBelow, companions_of, levels_of, measure_at}
use Rattle.cyp_sound.proofs.Time.NormalForm.{last_vars}
use Rattle.cyp_sound.proofs.Time.OpenRule.{numbers_on}
use Rattle.cyp_sound.proofs.Time.OpenedMeasures.{bare_value, numbers_within}
use Rattle.cyp_sound.proofs.Time.Plain.{IsPlain, is_bare_card, link_plain}
use Rattle.cyp_sound.proofs.Time.PlainMatches.{PlainBinds, link_parts, match_plain}
use Rattle.cyp_sound.proofs.Time.RuleLaws.{AllKeepBefore, TimedRawLaw}
use Rattle.cyp_sound.proofs.Time.Statements.{one_keeps, step_in_time}
use Rattle.cyp_step.specs.Calling.{are_shown, is_callable, after_call, chunks_at, chunks_beside, next_tag}
use Rattle.cyp_step.specs.Changes.{pre_of, next_of}
use Rattle.cyp_step.specs.Mends.{writes_for, is_writable, address_of}
use Rattle.cyp_step.specs.Shown.{shown, is_program_expr}
use Rattle.cyp_step.specs.Unfolding.{last_tuple}
use Rattle.cyp_step.specs.declared.rule.CallBy.{CallBy}
use Rattle.cyp_step.specs.declared.rule.Rule.TheVariants.{ByCall}
use Rattle.cyp_term.proofs.Equality.{Decides-term_eq}
use Rattle.cyp_term.proofs.Lists.{Among, each_at}
use Rattle.cyp_term.proofs.Substitution.{value-apply_term}
use Rattle.cyp_term.specs.Meaning.{AllTrue, Assignment, value, under, image_value}
use Rattle.cyp_term.specs.Terms.{wide_term, term_eq, apply_term, var_term, apply_lit, int_image}
use Rattle.cyp_term.specs.declared.lit.Lit.{Lit}
use Rattle.cyp_term.specs.declared.lit.Lit.TheVariants.{Le, Lt}
use Rattle.cyp_term.specs.declared.subst.Subst.{Subst}
use Rattle.cyp_term.specs.declared.term.Term.{Term}
use Rattle.cyp_unify.specs.Matches.{match_at}
use Rattle.cyp_unify.specs.declared.found.Match.{Match}
use Rattle.cyp_unify.specs.declared.found.Mend.{Mend}
use Rattle.std.proofs.Common.{◌≡◌, refl, sym, ap, ◌∙◌, ℕ, zero, suc, ◌+◌, ◌<◌, ◌≤◌, Bool, true, length, List, [], ◌∷◌, ◌++◌, map, Some, inl, inr, ◌⊎◌, ℤ, pos, ◌<ℤ◌, ◌≤ℤ◌, arith, subst, ◌&&◌, ◌==◌, get_or, is_some, false, Option, None, slice_get}
use Rattle.std.proofs.lemmas.Bool.{and_from, and_parts, false≢true, or_cases, or_left, or_right, leb-true, eqb-true}
use Rattle.std.proofs.lemmas.Int.{ints}
use Rattle.std.proofs.lemmas.List.{length-map, append_assoc}
use Rattle.std.proofs.lemmas.Option.{none-some, same_Some}
use Rattle.std.specs.List.{list_any, list_all}
use Rattle.std.specs.Prelude.{slice_index}

-- ---- what is known of a companion

-- the companion at a place, with where its parts end, and those of later ones
record CompanionAt (e0 : List ℕ) (ls : List Link) (i : ℕ) (l : Link) : Type 0 where
  ends : List ℕ
  more : List ℕ
  known : slice_get (companions_from e0 ls) i ≡ Some (record { goal = l.goal; own = l.own; ends = e0 ++ ends })
  all : ends_of ls ≡ ends ++ more
  last : (k : ℕ) → last_end k ends ≡ length l.tuple
  few : length ends ≤ length ls

companion_at : (e0 : List ℕ) (ls : List Link) (i : ℕ) (l : Link) → slice_get ls i ≡ Some l → CompanionAt e0 ls i l
companion_at e0 [] i l e = absurd (none-some l e)
companion_at e0 (x ∷ ls) zero l e =
    subst (λ (y : Link). CompanionAt e0 (x ∷ ls) zero y) (same_Some x l e)
    (record { ends = length x.tuple ∷ []; more = ends_of ls; known = refl; all = refl; last = λ k. refl; few = one (length ls) })
  where
    one : (n : ℕ) → 1 ≤ suc n
    one n = omega arith
companion_at e0 (x ∷ ls) (suc i) l e =
    let w : CompanionAt (e0 ++ length x.tuple ∷ []) ls i l = companion_at (e0 ++ length x.tuple ∷ []) ls i l e in
    record {
      ends = length x.tuple ∷ w.ends;
      more = w.more;
      known = w.known ∙ ap (λ (es : List ℕ). Some (record { goal = l.goal; own = l.own; ends = es })) (append_assoc e0 (length x.tuple ∷ []) w.ends);
      all = ap (λ es. length x.tuple ∷ es) w.all;
      last = λ k. w.last (length x.tuple);
      few = more_few (length w.ends) (length ls) w.few;
    }
  where
    more_few : (a b : ℕ) → a ≤ b → suc a ≤ suc b
    more_few a b l = omega arith

-- where the parts of all are short, so are those of the first
short_left : (k : ℕ) (es more : List ℕ) → AreShort k (es ++ more) → AreShort k es
short_left k [] more h = tt
short_left k (e ∷ es) more h = (h.0, h.1, short_left e es more h.2)

-- ---- prefixes

-- what falls against the beginning of a list falls against the list
falls_prefix : (s : Assignment) (xs : List ℕ) (as' bs : List Term) → is_prefix as' bs ≡ true → Falls xs (numbers_of s as') → Falls xs (numbers_of s bs)
falls_prefix s [] [] bs p f = absurd f
falls_prefix s [] (a ∷ as') [] p f = absurd f
falls_prefix s [] (a ∷ as') (b ∷ bs) p f = absurd f
falls_prefix s (x ∷ xs) [] bs p f = absurd f
falls_prefix s (x ∷ xs) (a ∷ as') [] p f = absurd (false≢true p)
falls_prefix s (x ∷ xs) (a ∷ as') (b ∷ bs) p f =
    let both = and_parts (term_eq a b) (is_prefix as' bs) p in
    let same : nat_of (value s a) ≡ nat_of (value s b) = ap (λ (t : Term). nat_of (value s t)) ((Decides-term_eq a b).0 both.0) in
    at f (λ g. falls_prefix s xs as' bs both.1 g) same
  where
    at : (x < nat_of (value s a)) ⊎ ((x ≤ nat_of (value s a)) × Falls xs (numbers_of s as')) → (Falls xs (numbers_of s as') → Falls xs (numbers_of s bs)) → nat_of (value s a) ≡ nat_of (value s b)
        → (x < nat_of (value s b)) ⊎ ((x ≤ nat_of (value s b)) × Falls xs (numbers_of s bs))
    at (inl l) more e = inl (subst (λ (k : ℕ). x < k) e l)
    at (inr g) more e = inr (subst (λ (k : ℕ). x ≤ k) e g.0, more g.1)

prefix_self : (xs : List Term) → is_prefix xs xs ≡ true
prefix_self [] = refl
prefix_self (x ∷ xs) = and_from (term_eq x x) (is_prefix xs xs) ((Decides-term_eq x x).1 refl) (prefix_self xs)

prefix_trans : (xs ys zs : List Term) → is_prefix xs ys ≡ true → is_prefix ys zs ≡ true → is_prefix xs zs ≡ true
prefix_trans [] ys zs p q = refl
prefix_trans (x ∷ xs) [] zs p q = absurd (false≢true p)
prefix_trans (x ∷ xs) (y ∷ ys) [] p q = absurd (false≢true q)
prefix_trans (x ∷ xs) (y ∷ ys) (z ∷ zs) p q =
    let a = and_parts (term_eq x y) (is_prefix xs ys) p in
    let b = and_parts (term_eq y z) (is_prefix ys zs) q in
    and_from (term_eq x z) (is_prefix xs zs) ((Decides-term_eq x z).1 ((Decides-term_eq x y).0 a.0 ∙ (Decides-term_eq y z).0 b.0)) (prefix_trans xs ys zs a.1 b.1)

first_prefix : (k : Link) (ls : List Link) → tuples_grow (k ∷ ls) ≡ true → is_prefix k.tuple (last_tuple (k ∷ ls)) ≡ true
first_prefix k [] h = prefix_self k.tuple
first_prefix k (m ∷ ls) h =
    let both = and_parts (is_prefix k.tuple m.tuple) (tuples_grow (m ∷ ls)) h in
    prefix_trans k.tuple m.tuple (last_tuple (m ∷ ls)) both.0 (first_prefix m ls both.1)

tuple_prefix : (ls : List Link) (i : ℕ) (l : Link) → tuples_grow ls ≡ true → slice_get ls i ≡ Some l → is_prefix l.tuple (last_tuple ls) ≡ true
tuple_prefix [] i l h e = absurd (none-some l e)
tuple_prefix (k ∷ ls) zero l h e = subst (λ (x : Link). is_prefix x.tuple (last_tuple (k ∷ ls)) ≡ true) (same_Some k l e) (first_prefix k ls h)
tuple_prefix (k ∷ []) (suc i) l h e = absurd (none-some l e)
tuple_prefix (k ∷ m ∷ ls) (suc i) l h e = tuple_prefix (m ∷ ls) i l (and_parts (is_prefix k.tuple m.tuple) (tuples_grow (m ∷ ls)) h).1 e

-- ---- the measure falls

-- integers that are natural numbers
less_nat : (x y : ℤ) (z : ℕ) → IsWithin z x → IsWithin z y → x <ℤ y → nat_of x < nat_of y
less_nat x y z a b l =
    let p : nat_of x ≡ a.0 = ap nat_of a.1 in
    let q : nat_of y ≡ b.0 = ap nat_of b.1 in
    subst (λ (k : ℕ). k < nat_of y) (sym p) (subst (λ (k : ℕ). a.0 < k) (sym q) (plain a.0 b.0 (subst (λ (k : ℤ). k <ℤ pos b.0) a.1 (subst (λ (k : ℤ). x <ℤ k) b.1 l))))
  where
    plain : (i j : ℕ) → pos i <ℤ pos j → i < j
    plain i j l = omega (arith, ints)

most_nat : (x y : ℤ) (z : ℕ) → IsWithin z x → IsWithin z y → x ≤ℤ y → nat_of x ≤ nat_of y
most_nat x y z a b l =
    let p : nat_of x ≡ a.0 = ap nat_of a.1 in
    let q : nat_of y ≡ b.0 = ap nat_of b.1 in
    subst (λ (k : ℕ). k ≤ nat_of y) (sym p) (subst (λ (k : ℕ). a.0 ≤ k) (sym q) (plain a.0 b.0 (subst (λ (k : ℤ). k ≤ℤ pos b.0) a.1 (subst (λ (k : ℤ). x ≤ℤ k) b.1 l))))
  where
    plain : (i j : ℕ) → pos i ≤ℤ pos j → i ≤ j
    plain i j l = omega (arith, ints)

any_out : (p : List Lit → Bool) (xs : List (List Lit)) → list_any p xs ≡ true → (x : List Lit) × (p x ≡ true)
any_out p [] h = absurd (false≢true h)
any_out p (x ∷ xs) h = elim (or_cases (p x) (list_any p xs) h) [ inl e ↦ (x, e) | inr e ↦ any_out p xs e ]

-- a true entry of the decrease
some_entry : (p : List Lit → Bool) (x : Lit) (xss : List (List Lit)) → list_any p (map (λ (ls : List Lit). x ∷ ls) xss) ≡ true → list_any (λ (ls : List Lit). p (x ∷ ls)) xss ≡ true
some_entry p x [] h = h
some_entry p x (ls ∷ xss) h = elim (or_cases (p (x ∷ ls)) (list_any p (map (λ (ls : List Lit). x ∷ ls) xss)) h) [
  | inl a ↦ or_left (p (x ∷ ls)) (list_any (λ (ls : List Lit). p (x ∷ ls)) xss) a
  | inr a ↦ or_right (p (x ∷ ls)) (list_any (λ (ls : List Lit). p (x ∷ ls)) xss) (some_entry p x xss a)
]

module _ (s u : Assignment) (by : Subst) (z : ℕ) (same : (t : Term) → value s (apply_term by t) ≡ value u t) where
  -- where a test tells that literals are true, the numbers of the one tuple fall against those of the other
  pub falls_by : (os ns : List Term) → ((t : Term) → Among t os → IsWithin z (value s t)) → ((t : Term) → Among t ns → IsWithin z (value u t)) → (p : List Lit → Bool) → ((ls : List Lit) → p ls ≡ true → AllTrue s ls)
      → list_any p (decreases os (map (apply_term by) ns)) ≡ true → Falls (numbers_of u ns) (numbers_of s os)
  falls_by [] ns a b p t h = absurd (false≢true h)
  falls_by (o ∷ os) [] a b p t h = absurd (false≢true h)
  falls_by (o ∷ os) (n ∷ ns) a b p t h = elim (or_cases (p (Lt (apply_term by n) o ∷ [])) (list_any p (map (λ (ls : List Lit). Le (apply_term by n) o ∷ ls) (decreases os (map (apply_term by) ns)))) h) [
    | inl e ↦ inl (less_nat (value u n) (value s o) z (b n (inl refl)) (a o (inl refl)) (subst (λ (x : ℤ). x <ℤ value s o) (same n) (t (Lt (apply_term by n) o ∷ []) e).0))
    | inr e ↦
        let more = some_entry p (Le (apply_term by n) o) (decreases os (map (apply_term by) ns)) e in
        let first = any_out (λ (ls : List Lit). p (Le (apply_term by n) o ∷ ls)) (decreases os (map (apply_term by) ns)) more in
        inr (
          most_nat (value u n) (value s o) z (b n (inl refl)) (a o (inl refl)) (subst (λ (x : ℤ). x ≤ℤ value s o) (same n) (t (Le (apply_term by n) o ∷ first.0) first.1).0),
          falls_by os ns (λ x k. a x (inr k)) (λ x k. b x (inr k)) (λ ls. p (Le (apply_term by n) o ∷ ls)) (λ ls q. (t (Le (apply_term by n) o ∷ ls) q).1) more,
        )
  ]

-- ---- small values

-- the companion's cardinalities are small, too
under_within : (by : Subst) (s : Assignment) (z : ℕ) → PlainBinds by → CardsWithin z s → CardsWithin z (under by s)
under_within by s z plain cards v e = at (int_image by.ints v) refl
  where
    at : (o : Option Term) → int_image by.ints v ≡ o → IsWithin z (image_value s v o)
    at None i = cards v e
    at (Some t) i = bare_value s z cards t.base t.offset (plain.cards v t i e)

each_within : (s : Assignment) (z : ℕ) → CardsWithin z s → (ts : List Term) → list_all is_bare_card ts ≡ true → (t : Term) → Among t ts → IsWithin z (value s t)
each_within s z cards ts h t k = bare_value s z cards t.base t.offset (each_at is_bare_card t ts h k)

get_within : (ns : List ℕ) (b : ℕ) → ((k n : ℕ) → slice_get ns k ≡ Some n → n ≤ b) → (d : ℕ) → get_or ns d 0 ≤ b
get_within [] b h zero = least b
  where
    least : (b : ℕ) → 0 ≤ b
    least b = omega arith
get_within [] b h (suc d) = least b
  where
    least : (b : ℕ) → 0 ≤ b
    least b = omega arith
get_within (n ∷ ns) b h zero = h 0 n refl
get_within (n ∷ ns) b h (suc d) = get_within ns b (λ k m e. h (suc k) m e) d

-- ---- stores

module _ (inst : Instances) (ps : List Procedure) (n : Node) (names : Names) (s : Assignment) (vs : Values) (k : ℕ) (start : List ℕ) (b : Body) (z0 : ℕ) (named : AreNamed names vs s n.goal.program) where
  -- where what follows keeps to its time after the stores, the stores and it do
  stores_in_time : (ms : List Mend) → ((m : Mend) → Among m ms → is_writable n.goal m ≡ true) → (cs : List Chunk) (h : Store)
      → ((i : ℕ) → address_of (slice_get cs i) ≡ address_of (slice_get (pre_of n) i)) → AllHold inst s cs h → (z : ℕ) → z0 ≤ z → suc (cell_count h) ≤ z
      → ((large : Store) (y : ℕ) → z0 ≤ y → suc (cell_count large) ≤ y → AllHold inst s (mended cs ms) large → KeepsTime ps k large vs b y start) → KeepsTime ps k h vs (stores n names ms b) z start
  stores_in_time [] f cs h same a z from cells after = after h z from cells a
  stores_in_time (m ∷ ms) f cs h same a z from cells after =
      let w = by_address (address_of (slice_get (pre_of n) m.cell)) (λ x. is_program_expr n.goal x && is_program_expr n.goal m.value) (f m (inl refl)) in
      let exprs = and_parts (is_program_expr n.goal w.0) (is_program_expr n.goal m.value) w.2 in
      let first = cell_with (slice_get (pre_of n) m.cell) w.0 w.1 in
      let cell = cell_with (slice_get cs m.cell) w.0 (same m.cell ∙ w.1) in
      let c : CellAt = cell.0 in
      let at : expr_value vs (expr_of names (pre_cell_at n m.cell)) ≡ value s c.at =
      ap (λ (o : Option Chunk). expr_value vs (expr_of names (chunk_address o))) first.1 ∙ ap (λ (x : Term). expr_value vs (expr_of names x)) first.2
      ∙ expr_is names vs s n.goal w.0 named exprs.0 ∙ ap (value s) (sym cell.2) in
      let content = expr_is names vs s n.goal m.value named exprs.1 in
      let put = put_content-cell cs m.cell c m.value cell.1 in
      let next : AllHold inst s (put_content cs m.cell m.value) (written h (value s c.at) (value s m.value)) =
      subst (λ (xs : List Chunk). AllHold inst s xs (written h (value s c.at) (value s m.value))) put
      (a.0, write_cell inst s cs m.cell c m.value h a.0 cell.1 a.1, cards_set inst s cs m.cell c (record { at = c.at; content = m.value }) a.0 cell.1 a.2) in
      step_in_time ps k start h vs (Storing (expr_of names (pre_cell_at n m.cell)) (expr_of names m.value)) (stores n names ms b) z 0 refl (few tt) (one tt) cells
      (λ t st. record {
        heap = written h (value s c.at) (value s m.value);
        values = vs;
        state_is = st.1 ∙ (λ j. body_state (written h (at j) (content j)) vs (stores n names ms b));
        follows = λ room.
            stores_in_time ms (λ x y. f x (inr y)) (put_content cs m.cell m.value) (written h (value s c.at) (value s m.value)) (λ i. addresses_kept cs m.cell m.value i ∙ same i) next (suc z + 0)
            (later z0 z from) room after;
      })
    where
      few : Unit {0} → 0 ≤ 8
      few x = omega arith

      one : Unit {0} → 1 ≤ 1
      one x = omega arith

      later : (a b : ℕ) → a ≤ b → a ≤ suc b + 0
      later a b l = omega arith

-- the measure is shown to fall where the companion may be called
both_pass : (c : Bool) (x : Bool) → elim c [ false ↦ false | true ↦ x ] ≡ true → (c ≡ true) × (x ≡ true)
both_pass true x e = (refl, e)
both_pass false x e = absurd (false≢true e)

not_wide : (c : Bool) (x : Bool) → elim c [ true ↦ false | false ↦ x ] ≡ true → x ≡ true
not_wide true x e = absurd (false≢true e)
not_wide false x e = e

passed_all : (n : Node) (l : Link) (f : Match) → is_callable n l f ≡ true → list_any (shown n.goal) (decreases l.tuple (map (apply_term f.by) l.own)) ≡ true
passed_all n l f e =
    let a = both_pass (list_all (λ v. is_program_expr n.goal (apply_term f.by (var_term v))) l.goal.program) _ e in
    let b = both_pass (shown n.goal f.need) _ a.1 in
    let c = both_pass (are_shown n.goal (map (apply_lit f.by) l.goal.pure_pre)) _ b.1 in
    let d = both_pass (is_some (writes_for n.goal f)) _ c.1 in
    not_wide (list_any wide_term (map (apply_term f.by) l.own)) _ d.1

-- ---- the call

module _ (ps : List Procedure) (n : Node) (formed : IsFormedPreds n.preds) (node : IsSteadyNode n) (plain : IsPlain n) (i : ℕ) (l : Link) (at : slice_get n.links i ≡ Some l)
    (inner : IsSteady (unlinked n.preds l.goal)) (free : ExistFree l.map l.goal.exist ≡ true) (ks : List ℕ) (f : Match) (match : match_at n l ks ≡ Some f) (passes : is_callable n l f ≡ true)
    (names : Names) (p k : ℕ) (start : List ℕ) (works : ProcedureMeets ps n.preds l.goal p k) (timed : (x : Companion) → slice_get (companions_of n.links) i ≡ Some x → ProcedureKeepsTime ps n.preds x p k)
    (b : Body) (premise : BodyKeepsTime ps (after_call n l f) names k start b)
    (s : Assignment) (h : Store) (ns : List ℕ) (vs : Values) (z : ℕ) (pre : SideHolds n.preds s n.goal.pure_pre n.goal.pre.chunks h ns) (named : AreNamed names vs s n.goal.program)
    (place : AtPlace n.links s h z start) where
  abbrev steady : IsSteady n
  steady = node.raw.steady

  abbrev inst : Instances
  inst = InstanceHolds n.preds

  abbrev calls : Callable n l f
  calls = callable n l f passes

  abbrev u : Assignment
  u = callee_values n steady l inner ks f match calls s h ns pre

  abbrev made : List Mend
  made = call_stores n steady l inner ks f match calls s h ns pre

  abbrev args : List Expr
  args = map (λ v. expr_of names (apply_term f.by (var_term v))) l.goal.program

  wider : (z y x : ℕ) → z ≤ y → x ≤ z → x ≤ y
  wider z y x p q = omega arith

  cards_at : (y : ℕ) → z ≤ y → CardsWithin y s
  cards_at y from v e = let w = place.cards v e in (w.0, w.1, wider z y w.0 from w.2)

  link_is_plain : link_plain l ≡ true
  link_is_plain = each_at link_plain l n.links plain.links (slice_get-among n.links i l at)

  binds_plain : PlainBinds f.by
  binds_plain =
      match_plain n l ks f match plain.goal steady.fits link_is_plain inner.fits

  -- what follows the call keeps to its time
  follows : (rest : Store) → AllHold inst s (chunks_beside 0 ks (pre_of n)) rest → (g large : Store) (y : ℕ) → suc (cell_count large) ≤ y → z ≤ y → MeetsPost n.preds l.goal u g → IsUnion large g rest
      → KeepsTime ps k large vs b y start
  follows rest others g large y cells from post union =
      let ms : List ℕ = post.1 in
      let w : Assignment = values n steady i l at inner free ks f match s post.0 ms post.2 in
      let tag : ℕ = next_tag (insts (chunks_at (pre_of n) f.pairs)) in
      let side = after_holds n steady i l at inner free ks f match s post.0 ms post.2 tag g large rest post.3 others union pre.0 in
      let pairs : f.pairs ≡ ks = (found n l ks f match).pairs_are in
      let side' : SideHolds n.preds w (after_call n l f).goal.pure_pre (after_call n l f).goal.pre.chunks large side.0 =
      subst (λ (xs : List ℕ). SideHolds n.preds w (after_call n l f).goal.pure_pre (put_all (chunks_beside 0 xs (pre_of n)) (left n steady i l at inner free ks f match s post.0 ms post.2 tag)) large side.0) (sym pairs) side.1 in
      let old : EachPart (IsOld (next_of n)) n = old_parts n in
      let heights = side_heights_law n.preds formed post.0 l.goal.pure_post l.goal.post.chunks g ms post.3 in
      let small = get_within ms y (λ j m e. room (cell_count g) (cell_count rest) (cell_count large) y m (union_count large g rest union) cells (heights j m e)) in
      let numbers : numbers_of s (last_tuple n.links) ≡ numbers_of w (last_tuple n.links) =
      numbers_on s w (last_tuple n.links) (λ v x. number_old (next_of n) 0 0 ms s (listed post.0 l.goal.exist) v (last_vars (IsOld (next_of n)) n.links old.links v x)) in
      premise w large side.0 vs y side' (λ v e. named v e ∙ program_kept n steady i l at inner free ks f match s post.0 ms post.2 v e)
      (record {
        cells = cells;
        cards = opened_small (next_of n) 0 0 ms s (listed post.0 l.goal.exist) y (cards_at y from) small;
        below = subst (λ (xs : List ℕ). LexAtMost (levels_of (ends_of n.links) xs) start) numbers place.below;
        long = place.long;
      })
    where
      room : (a b c y m : ℕ) → c ≡ a + b → suc c ≤ y → m ≤ a → m ≤ y
      room a b c y m p l q = omega arith

  -- the call is at a lower measure
  lower : (y : ℕ) → z ≤ y → (x : CompanionAt [] n.links i l) → IsLower y (levels_of x.ends (numbers_of u l.own)) start
  lower y from x =
      let known : AllTrue s (facts n.goal) = facts_true n.preds n.goal s h ns pre in
      let cards = cards_at y from in
      let callee = under_within f.by s y binds_plain cards in
      let parts = link_parts l link_is_plain in
      let linked = node.node.raw.linked in
      let falls = passed_all n l f passes in
      let tuple : Falls (numbers_of u l.own) (numbers_of s l.tuple) =
      falls_by s u f.by y (value-apply_term f.by s) l.tuple l.own (each_within s y cards l.tuple parts.2) (each_within u y callee l.own parts.1) (shown n.goal)
      (λ ls e. shown_true n.goal ls e s known) falls in
      let last : Falls (numbers_of u l.own) (numbers_of s (last_tuple n.links)) = falls_prefix s (numbers_of u l.own) l.tuple (last_tuple n.links) (tuple_prefix n.links i l linked.grows at) tuple in
      let long : length (numbers_of u l.own) ≡ last_end 0 x.ends =
      length-map l.own _ ∙ eqb-true (length l.own) (length l.tuple) (each_at (λ (m : Link). length m.own == length m.tuple) l n.links linked.own_as_long (slice_get-among n.links i l at)) ∙ sym (x.last 0) in
      let short : AreShort 0 x.ends = short_left 0 x.ends x.more (subst (AreShort 0) x.all plain.short) in
      let below : LexBelow (levels_of x.ends (numbers_of u l.own)) (measure_at s n.links) =
      subst (λ (es : List ℕ). LexBelow (levels_of x.ends (numbers_of u l.own)) (levels_of es (numbers_of s (last_tuple n.links)))) (sym x.all)
      (fall_law x.ends x.more (numbers_of u l.own) (numbers_of s (last_tuple n.links)) (few (length x.ends) (length n.links) x.few (leb-true (length n.links) 4 linked.few)) short long last) in
      below_is_lower y (levels_of x.ends (numbers_of u l.own)) (measure_at s n.links) start (levels_length x.ends (numbers_of u l.own) ∙ sym place.long)
      (levels_within y x.ends (numbers_of u l.own) (one (cell_count h) z y place.cells from) (numbers_within u y callee l.own parts.1)) below place.below
    where
      few : (a b : ℕ) → a ≤ b → b ≤ 4 → a ≤ 4
      few a b p q = omega arith

      one : (a z y : ℕ) → suc a ≤ z → z ≤ y → 1 ≤ y
      one a z y p q = omega arith

  pub keeps_time : KeepsTime ps k h vs (stores n names made (Then (Invoking p args) b)) z start
  keeps_time =
      stores_in_time inst ps n names s vs k start (Then (Invoking p args) b) z named made (stores_writable n steady l inner ks f match calls s h ns pre) (pre_of n) h (λ j. refl) (ns, pre.1, pre.2) z (itself z) place.cells
      (λ large y from cells all.
      let st = call_start n steady l inner ks f match calls s h ns pre large all in
      let x : CompanionAt [] n.links i l = companion_at [] n.links i l at in
      call_in_time ps start p n.preds l.goal u large st.part st.rest st.union k y cells (works u st.part st.heights st.holds)
      (λ m e t le r.
      most (suc (suc y + m + e)) (bound (suc (longest ps)) (levels_of x.ends (numbers_of u l.own)) (suc y)) (grown ps start y)
      (timed (record { goal = l.goal; own = l.own; ends = x.ends }) x.known u st.part st.heights (suc y) st.holds (part_in (cell_count st.part) (cell_count st.rest) (cell_count large) y (union_count large st.part st.rest st.union) cells)
      (λ v k e. under_within f.by s (suc y) binds_plain (cards_at (suc y) (more z y from)) v e) m e t le r)
      (grown_call ps start (levels_of x.ends (numbers_of u l.own)) y (lower y from x)))
      vs args b (args_passed n steady l inner ks f match calls s h ns pre names vs named)
      (λ g large' y' c1 c2 c3 post union. follows st.rest st.others g large' y' c1 (wider y y' z c2 from) post union))
    where
      itself : (z : ℕ) → z ≤ z
      itself z = omega arith

      more : (z y : ℕ) → z ≤ y → z ≤ suc y
      more z y l = omega arith

      most : (a b c : ℕ) → a ≤ b → b ≤ c → a ≤ c
      most a b c p q = omega arith

      part_in : (a b c y : ℕ) → c ≡ a + b → suc c ≤ y → suc a ≤ suc y
      part_in a b c y p q = omega arith

pub call_rule_in_time : (c : CallBy) → TimedRawLaw (ByCall c)
call_rule_in_time c ps n ms bs names procs new k start formed steady plain naming is callee timed safe all s h ns vs z pre named place =
    let o = called n c.pairs (slice_get n.links c.link) ms is in
    let links = steady_links n steady in
    let l : Link = o.link in
    let f : Match = o.found_match in
    let b : Body = first_body bs in
    let calls = callable n l f o.passes in
    let premise = one_keeps ps names k start (after_call n l f) bs (subst (λ (xs : List Node). AllKeepBefore ps names k start xs bs) o.premises all) in
    let right = keeps_time ps n formed steady plain c.link l o.link_is (links.goals c.link l o.link_is) (links.exist_free c.link l o.link_is) c.pairs f o.match_is o.passes names (slice_index procs c.link) k start
    (callee l o.link_is) timed b premise s h ns vs z pre named place in
    subst (λ (x : Body). KeepsTime ps k h vs x z start)
    (sym (ap (linked_call n names procs c b) o.link_is ∙ ap (matched_call n names procs c b l) o.match_is
    ∙ ap (λ (x : Option (List Mend)). stores n names (in_cell_order (kept_mends x)) (Then (Invoking (slice_index procs c.link) (map (λ v. expr_of names (apply_term f.by (var_term v))) l.goal.program)) b)) calls.writes))
    right
