-- Live variables: so many rounds that nothing changes any more, and no more than what is tied to the first ones.
use Rattle.std.proofs.Common.{◌≡◌, ◌∙◌, [], ◌∷◌, List, Bool, true, false, cond, ◌&&◌, not, length, ℕ, zero, suc, ◌≤◌, ◌<◌, refl, ap, sym, inl, inr, subst, ⊎_elim, arith}
use Rattle.std.specs.List.{list_all, list_any}
use Rattle.std.proofs.lemmas.Bool.{and_from, and_parts, cond_both, both_ways, not_from_false, true_from_ne_false, not-true}
use Rattle.cyp_goal.proofs.Added.{added_new, added_old, added_out}
use Rattle.cyp_goal.proofs.AllNew.{with_all_new-there}
use Rattle.cyp_goal.specs.Pruning.{spread, spread_times, touches}
use Rattle.cyp_term.proofs.Equality.{Decides-var_eq}
use Rattle.cyp_term.proofs.Lists.{Among, Decides-some, each_at, each_from, some_from, some_out}
use Rattle.cyp_term.specs.Terms.{lit_vars, var_eq, var_in, with_all_new}
use Rattle.cyp_term.specs.declared.lit.Lit.{Lit}
use Rattle.cyp_term.specs.declared.term.Var.{Var}

pub in_among : (v : Var) (vs : List Var) → var_in v vs ≡ true → Among v vs
in_among v vs h = (Decides-some (λ w. v ≡ w) (var_eq v) (Decides-var_eq v) vs).0 h

pub among_in : (v : Var) (vs : List Var) → Among v vs → var_in v vs ≡ true
among_in v vs h = (Decides-some (λ w. v ≡ w) (var_eq v) (Decides-var_eq v) vs).1 h

-- a literal with a live variable
pub touched : (live : List Var) (l : Lit) (v : Var) → Among v (lit_vars l) → Among v live → touches live l ≡ true
touched live l v h k = some_from (λ w. var_in w live) v (lit_vars l) h (among_in v live k)

pub touched_by : (live : List Var) (l : Lit) → touches live l ≡ true → (v : Var) × Among v (lit_vars l) × Among v live
touched_by live l h = let r = some_out (λ w. var_in w live) (lit_vars l) h in (r.0, r.1, in_among r.0 live r.2)

-- ---- no more than what is tied to the first ones
module _ (S : Var → Type 0) where
  -- what holds of a variable of a literal holds of all of them
  abbrev pub Spreads : List Lit → Type 0
  Spreads ls = (l : Lit) → Among l ls → (v w : Var) → Among v (lit_vars l) → S v → Among w (lit_vars l) → S w

  spread_within : (ls : List Lit) (live : List Var) → Spreads ls → ((v : Var) → Among v live → S v) → (v : Var) → Among v (spread ls live) → S v
  spread_within [] live closed h v k = h v k
  spread_within (l ∷ ls) live closed h v k =
      spread_within ls (cond (touches live l) (with_all_new var_eq live (lit_vars l)) live) (λ m i. closed m (inr i)) (step (touches live l) refl) v k
    where
      step : (b : Bool) → touches live l ≡ b → (w : Var) → Among w (cond b (with_all_new var_eq live (lit_vars l)) live) → S w
      step true e w i =
          let t = touched_by live l e in
          ⊎_elim (h w) (λ m. closed l (inl refl) t.0 w t.1 (h t.0 t.2) m) (added_out var_eq Decides-var_eq w live (lit_vars l) i)
      step false e w i = h w i

  pub live_within : (k : ℕ) (ls : List Lit) (live : List Var) → Spreads ls → ((v : Var) → Among v live → S v) → (v : Var) → Among v (spread_times k ls live) → S v
  live_within zero ls live closed h v i = h v i
  live_within (suc k) ls live closed h v i = live_within k ls (spread ls live) closed (spread_within ls live closed h) v i

-- ---- what is live stays so
spread_old : (ls : List Lit) (live : List Var) (v : Var) → Among v live → Among v (spread ls live)
spread_old [] live v h = h
spread_old (l ∷ ls) live v h =
    spread_old ls (cond (touches live l) (with_all_new var_eq live (lit_vars l)) live) v
    (cond_both (touches live l) (with_all_new var_eq live (lit_vars l)) live (Among v) (λ e. added_old var_eq Decides-var_eq v live (lit_vars l) h) (λ e. h))

pub live_old : (k : ℕ) (ls : List Lit) (live : List Var) (v : Var) → Among v live → Among v (spread_times k ls live)
live_old zero ls live v h = h
live_old (suc k) ls live v h = live_old k ls (spread ls live) v (spread_old ls live v h)

-- ---- each round that changes anything has one literal less with variables that aren't live

abbrev is_done : List Var → Lit → Bool
is_done live l = list_all (λ v. var_in v live) (lit_vars l)

-- how many literals have a variable that isn't live
abbrev left : List Var → List Lit → ℕ
left live [] = 0
left live (l ∷ ls) = cond (is_done live l) (left live ls) (suc (left live ls))

left_most : (live : List Var) (ls : List Lit) → left live ls ≤ length ls
left_most live [] = omega arith
left_most live (l ∷ ls) =
    let ih : left live ls ≤ length ls = left_most live ls in
    cond_both (is_done live l) (left live ls) (suc (left live ls)) (λ n. n ≤ suc (length ls)) (λ e. omega arith) (λ e. omega arith)

done_more : (live more : List Var) → ((v : Var) → Among v live → Among v more) → (l : Lit) → is_done live l ≡ true → is_done more l ≡ true
done_more live more h l e =
    each_from (λ v. var_in v more) (lit_vars l) (λ v k. among_in v more (h v (in_among v live (each_at (λ w. var_in w live) v (lit_vars l) e k))))

left_step : (a b : Bool) (m n : ℕ) → (a ≡ true → b ≡ true) → m ≤ n → cond b m (suc m) ≤ cond a n (suc n)
left_step true true m n h e = e
left_step true false m n h e = absurd (both_ways false refl (h refl))
left_step false true m n h e = omega arith
left_step false false m n h e = omega arith

left_more : (live more : List Var) → ((v : Var) → Among v live → Among v more) → (ls : List Lit) → left more ls ≤ left live ls
left_more live more h [] = omega arith
left_more live more h (l ∷ ls) = left_step (is_done live l) (is_done more l) (left more ls) (left live ls) (done_more live more h l) (left_more live more h ls)

left_less_here : (a b : Bool) (m n : ℕ) → a ≡ false → b ≡ true → m ≤ n → cond b m (suc m) < cond a n (suc n)
left_less_here true b m n e f h = absurd (both_ways true e refl)
left_less_here false true m n e f h = omega arith
left_less_here false false m n e f h = absurd (both_ways false refl f)

left_less_later : (a b : Bool) (m n : ℕ) → (a ≡ true → b ≡ true) → m < n → cond b m (suc m) < cond a n (suc n)
left_less_later true true m n h e = e
left_less_later true false m n h e = absurd (both_ways false refl (h refl))
left_less_later false true m n h e = omega arith
left_less_later false false m n h e = omega arith

left_less : (live more : List Var) → ((v : Var) → Among v live → Among v more) → (ls : List Lit) (l : Lit) → Among l ls → is_done live l ≡ false → is_done more l ≡ true
    → left more ls < left live ls
left_less live more h [] l k e f = absurd k
left_less live more h (m ∷ ls) l (inl i) e f =
    left_less_here (is_done live m) (is_done more m) (left more ls) (left live ls) (rw (← i) e) (rw (← i) f) (left_more live more h ls)
left_less live more h (m ∷ ls) l (inr i) e f =
    left_less_later (is_done live m) (is_done more m) (left more ls) (left live ls) (done_more live more h m) (left_less live more h ls l i e f)

none_left_step : (b : Bool) (n : ℕ) → cond b n (suc n) ≤ 0 → (b ≡ true) × (n ≤ 0)
none_left_step true n h = (refl, h)
none_left_step false n h = absurd (no h)
  where
    no : suc n ≤ 0 → ⊥
    no e = omega arith

none_left : (live : List Var) (ls : List Lit) → left live ls ≤ 0 → (l : Lit) → Among l ls → is_done live l ≡ true
none_left live [] h l k = absurd k
none_left live (m ∷ ls) h l (inl e) = rw e (none_left_step (is_done live m) (left live ls) h).0
none_left live (m ∷ ls) h l (inr k) = none_left live ls (none_left_step (is_done live m) (left live ls) h).1 l k

-- a literal that is touched is done behind the round
spread_done : (ls : List Lit) (live : List Var) (l : Lit) → Among l ls → touches live l ≡ true → (w : Var) → Among w (lit_vars l) → Among w (spread ls live)
spread_done [] live l k e w i = absurd k
spread_done (m ∷ ls) live l (inl s) e w i =
    spread_old ls (cond (touches live m) (with_all_new var_eq live (lit_vars m)) live) w
    (subst (λ b. Among w (cond b (with_all_new var_eq live (lit_vars m)) live)) (sym (ap (touches live) (sym s) ∙ e))
    (added_new var_eq Decides-var_eq w live (lit_vars m) (rw (← s) i)))
spread_done (m ∷ ls) live l (inr k) e w i =
    let more : List Var = cond (touches live m) (with_all_new var_eq live (lit_vars m)) live in
    let t = touched_by live l e in
    spread_done ls more l k (touched more l t.0 t.1
    (cond_both (touches live m) (with_all_new var_eq live (lit_vars m)) live (Among t.0) (λ _. added_old var_eq Decides-var_eq t.0 live (lit_vars m) t.2) (λ _. t.2))) w i

-- where each literal that is touched is done nothing changes
spread_same : (ls : List Lit) (live : List Var) → ((l : Lit) → Among l ls → touches live l ≡ true → is_done live l ≡ true) → spread ls live ≡ live
spread_same [] live h = refl
spread_same (l ∷ ls) live h =
    ap (spread ls) (step (touches live l) refl) ∙ spread_same ls live (λ m k. h m (inr k))
  where
    step : (b : Bool) → touches live l ≡ b → cond b (with_all_new var_eq live (lit_vars l)) live ≡ live
    step true e = with_all_new-there var_eq live (lit_vars l) (h l (inl refl) e)
    step false e = refl

times_same : (k : ℕ) (ls : List Lit) (live : List Var) → spread ls live ≡ live → spread_times k ls live ≡ live
times_same zero ls live e = refl
times_same (suc k) ls live e = ap (spread_times k ls) e ∙ times_same k ls live e

-- the variables of a literal with a live one are live
abbrev pub IsClosed : List Lit → List Var → Type 0
IsClosed ls live = Spreads (λ v. Among v live) ls

closed_from : (ls : List Lit) (live : List Var) → ((l : Lit) → Among l ls → touches live l ≡ true → is_done live l ≡ true) → IsClosed ls live
closed_from ls live h l k v w i s j = in_among w live (each_at (λ x. var_in x live) w (lit_vars l) (h l k (touched live l v i s)) j)

closed_step : (k : ℕ) (ls : List Lit) (live : List Var) → left live ls ≤ suc k → ((more : List Var) → left more ls ≤ k → IsClosed ls (spread_times k ls more))
    → (b : Bool) → list_any (λ l. touches live l && not (is_done live l)) ls ≡ b → IsClosed ls (spread_times k ls (spread ls live))
closed_step k ls live few ih true e =
    let r = some_out (λ l. touches live l && not (is_done live l)) ls e in
    let both = and_parts (touches live r.0) (not (is_done live r.0)) r.2 in
    ih (spread ls live) (fewer (left (spread ls live) ls) (left live ls) k few
    (left_less live (spread ls live) (λ v. spread_old ls live v) ls r.0 r.1 (not-true (is_done live r.0) both.1)
    (each_from (λ v. var_in v (spread ls live)) (lit_vars r.0) (λ v i. among_in v (spread ls live) (spread_done ls live r.0 r.1 both.0 v i)))))
  where
    fewer : (a b k : ℕ) → b ≤ suc k → a < b → a ≤ k
    fewer a b k h e = omega arith
closed_step k ls live few ih false e =
    let done : (l : Lit) → Among l ls → touches live l ≡ true → is_done live l ≡ true = λ l i t. true_from_ne_false (is_done live l) (λ n.
    both_ways (list_any (λ m. touches live m && not (is_done live m)) ls) e
    (some_from (λ m. touches live m && not (is_done live m)) l ls i (and_from (touches live l) (not (is_done live l)) t (not_from_false (is_done live l) n)))) in
    subst (IsClosed ls) (sym (times_same (suc k) ls live (spread_same ls live done))) (closed_from ls live done)

closed_after : (k : ℕ) (ls : List Lit) (live : List Var) → left live ls ≤ k → IsClosed ls (spread_times k ls live)
closed_after zero ls live h = closed_from ls live (λ l i _. none_left live ls h l i)
closed_after (suc k) ls live h =
    closed_step k ls live h (closed_after k ls) (list_any (λ l. touches live l && not (is_done live l)) ls) refl

-- as many rounds as literals are enough
pub live_closed : (ls : List Lit) (live : List Var) → IsClosed ls (spread_times (length ls) ls live)
live_closed ls live = closed_after (length ls) ls live (left_most live ls)
