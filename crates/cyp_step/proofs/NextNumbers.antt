-- The least numbers above those of variables.
use Rattle.std.proofs.Common.{◌≡◌, ◌∙◌, ◌+◌, ◌<◌, ◌≤◌, ℕ, suc, List, [], ◌∷◌, ◌++◌, Bool, true, false, cond, IsTrue, drop, get_or, length, max, nat_lt, refl, sym, ap, arith, inl, inr, subst, ⊎_elim}
use Rattle.std.specs.List.{flat_map, list_all}
use Rattle.std.proofs.lemmas.Bool.{both_ways, cond_both, ltb-true}
use Rattle.cyp_goal.proofs.Loops.{rest_step}
use Rattle.cyp_goal.proofs.Occurring.{among_at}
use Rattle.cyp_heap.specs.Goals.{goal_vars, image_vars, node_vars}
use Rattle.cyp_heap.specs.Keeps.{KeepsNode}
use Rattle.cyp_heap.specs.declared.goal.Goal.{Goal}
use Rattle.cyp_heap.specs.declared.goal.Link.{Link}
use Rattle.cyp_heap.specs.declared.goal.Node.{Node}
use Rattle.cyp_step.specs.Changes.{above, next_of}
use Rattle.cyp_pred.specs.declared.unfolded.Next.{Next}
use Rattle.cyp_term.proofs.Equality.{Decides-var_eq}
use Rattle.cyp_term.proofs.Lists.{Among, Among-cases, Among-left, Among-right, each_at, each_from}
use Rattle.cyp_term.proofs.Repeats.{without_repeats_in, without_repeats_out}
use Rattle.cyp_term.specs.Terms.{sort_eq, term_vars, var_eq, without_repeats}
use Rattle.cyp_term.specs.declared.term.Sort.{Sort}
use Rattle.cyp_term.specs.declared.term.Sort.TheVariants.{Card, Int, Set}
use Rattle.cyp_term.specs.declared.term.Var.{Var}

-- what stands in the first list stands in the other
first_part : (us vs ws : List Var) (v : Var) → (Among v us → Among v vs) → Among v (us ++ ws) → Among v (vs ++ ws)
first_part us vs ws v h m = ⊎_elim (λ k. Among-left v vs ws (h k)) (Among-right v vs ws) (Among-cases v us ws m)

module _ (t : Sort) where
  above_at : (v : Var) (vs : List Var) → Among v vs → sort_eq v.sort t ≡ true → suc v.number ≤ above t vs
  above_at v [] m e = absurd m
  above_at v (w ∷ ws) (inl h) e =
      rw h
      (cond_both (sort_eq w.sort t) (max (suc w.number) (above t ws)) (above t ws) (λ n. suc w.number ≤ n) (λ d. omega arith)
      (λ d. absurd (both_ways (sort_eq w.sort t) d (rw h at e))))
  above_at v (w ∷ ws) (inr m) e =
      let rest = above_at v ws m e in
      cond_both (sort_eq w.sort t) (max (suc w.number) (above t ws)) (above t ws) (λ n. suc v.number ≤ n) (λ d. omega arith) (λ d. rest)

  above_fewer : (vs ws : List Var) → ((v : Var) → Among v vs → Among v ws) → above t vs ≤ above t ws
  above_fewer [] ws h = omega arith
  above_fewer (v ∷ vs) ws h =
      let rest = above_fewer vs ws (λ u m. h u (inr m)) in
      cond_both (sort_eq v.sort t) (max (suc v.number) (above t vs)) (above t vs) (λ n. n ≤ above t ws)
      (λ e. let here = above_at v ws (h v (inl refl)) e in omega arith) (λ e. rest)

  pub above-without_repeats : (vs ws : List Var) → above t (without_repeats var_eq vs ++ ws) ≡ above t (vs ++ ws)
  above-without_repeats vs ws =
      let one = above_fewer (without_repeats var_eq vs ++ ws) (vs ++ ws) (λ v m. first_part (without_repeats var_eq vs) vs ws v (without_repeats_out var_eq Decides-var_eq v vs) m) in
      let other = above_fewer (vs ++ ws) (without_repeats var_eq vs ++ ws) (λ v m. first_part vs (without_repeats var_eq vs) ws v (without_repeats_in var_eq Decides-var_eq v vs) m) in
      omega arith

  -- one more variable
  turn : (n k r : ℕ) (b : Bool) → max n (cond b (max (suc k) r) r) ≡ max (cond b (max n (suc k)) n) r
  turn n k r true = omega arith
  turn n k r false = refl

  pub above_turn : (vs : List Var) (i : ℕ) (v : Var) (old new r : ℕ) → max old (above t (drop i vs)) ≡ r → i < length vs → v ≡ get_or vs i v
      → new ≡ cond (sort_eq v.sort t) (max old (suc v.number)) old → max new (above t (drop (i + 1) vs)) ≡ r
  above_turn vs i v old new r h lt is e =
      rest_step (λ (n : ℕ) ws. max n (above t ws)) vs i r old new v h lt is (λ ws. turn old v.number (above t ws) (sort_eq v.sort t) ∙ ap (λ n. max n (above t ws)) (sym e))

-- ---- variables with low numbers

-- the variable's number is below 32
abbrev pub is_low : Var → Bool
is_low v = nat_lt v.number 32

pub low_at : (vs : List Var) (i : ℕ) (v : Var) → IsTrue (list_all is_low vs) → i < length vs → v ≡ get_or vs i v → v.number < 32
low_at vs i v h lt is = ltb-true v.number 32 (each_at is_low v vs h (subst (λ w. Among w vs) (sym is) (among_at vs i v lt)))

-- the variables of a node, with repeats
abbrev pub all_vars : Node → List Var
all_vars n = goal_vars n.goal ++ flat_map (λ (k : Link). flat_map term_vars k.tuple ++ image_vars k.map) n.links

-- those and the existentials
abbrev pub vars_and_exist : Node → List Var
vars_and_exist n = all_vars n ++ n.goal.exist

pub vars_low : (n : Node) (vs : List Var) → KeepsNode n → vs ≡ vars_and_exist n → IsTrue (list_all is_low vs)
vars_low n vs w e =
    rw e
    (each_from is_low (vars_and_exist n) (λ v m.
    each_at is_low v (node_vars n ++ n.goal.exist) w.low (first_part (all_vars n) (node_vars n) n.goal.exist v (without_repeats_in var_eq Decides-var_eq v (all_vars n)) m)))

pub vars_made : (n : Node) (g : Goal) (vs ws us es : List Var) (ks ls : List Link) → g ≡ n.goal → vs ≡ goal_vars g → ls ≡ n.links → ks ≡ ls
    → ws ≡ vs ++ flat_map (λ (k : Link). flat_map term_vars k.tuple ++ image_vars k.map) ks → es ≡ g.exist → us ≡ ws ++ es → us ≡ vars_and_exist n
vars_made n g vs ws us es ks ls d v l k w e u =
    u ∙ (λ i. (w ∙ (λ j. (v ∙ ap goal_vars d) j ++ flat_map (λ (k : Link). flat_map term_vars k.tuple ++ image_vars k.map) ((k ∙ l) j))) i ++ (e ∙ ap (λ (q : Goal). q.exist) d) i)

-- the numbers of each sort
abbrev pub the_next : ℕ → ℕ → ℕ → Next
the_next a b c = record { ints = a; cards = b; sets = c }

pub next_made : (n : Node) (vs : List Var) (a b c : ℕ) → vs ≡ vars_and_exist n → a ≡ above Int vs → b ≡ above Card vs → c ≡ above Set vs
    → the_next a b c ≡ next_of n
next_made n vs a b c e p q r =
    let same = λ (t : Sort). ap (above t) e ∙ sym (above-without_repeats t (all_vars n) n.goal.exist) in
    λ i. the_next ((p ∙ same Int) i) ((q ∙ same Card) i) ((r ∙ same Set) i)
