-- Solving, tidying and pruning leave a measure of cardinalities as it is written.
use Rattle.cyp_goal.proofs.LinksNormal.{IfSome-and_then}
use Rattle.cyp_goal.specs.Normal.{solve, tidy_node}
use Rattle.cyp_goal.specs.Pruning.{only_vars, prune}
use Rattle.cyp_goal.specs.Solving.{bind_set, first_solved, first_some, is_logical, solve_post, solve_pre, solved_any, solved_base, solved_eq, solved_parts, solved_set, solved_side, substitute, with_post, with_pre}
use Rattle.cyp_heap.specs.Goals.{apply_link, apply_node, wide_node}
use Rattle.cyp_heap.specs.declared.goal.Link.{Link}
use Rattle.cyp_heap.specs.declared.goal.Node.{Node}
use Rattle.cyp_kernel.proofs.PlainCards.{SparesCards, int_spares, set_spares}
use Rattle.cyp_sound.proofs.Time.Measures.{ends_of}
use Rattle.cyp_sound.proofs.Time.Plain.{is_bare_card, is_card_base}
use Rattle.cyp_step.specs.Unfolding.{last_tuple}
use Rattle.cyp_term.specs.Terms.{apply_term, base_eq, sort_eq, term_at, term_base, var_in, wide_subst}
use Rattle.cyp_term.specs.declared.lit.Lit.{Lit}
use Rattle.cyp_term.specs.declared.lit.Lit.TheVariants.{Eq, Same}
use Rattle.cyp_term.specs.declared.lit.SetTerm.{SetTerm}
use Rattle.cyp_term.specs.declared.subst.Subst.{Subst}
use Rattle.cyp_term.specs.declared.term.Sort.TheVariants.{Int}
use Rattle.cyp_term.specs.declared.term.Term.{Term}
use Rattle.cyp_term.specs.declared.term.Var.{Var}
use Rattle.std.proofs.Common.{◌≡◌, refl, sym, ap, ◌∙◌, ℕ, zero, suc, ◌&&◌, ◌||◌, Bool, true, length, List, [], ◌∷◌, map, Option, Some, None, pos, not}
use Rattle.std.proofs.lemmas.Bool.{and_parts, cond_both}
use Rattle.std.proofs.lemmas.List.{length-map}
use Rattle.std.specs.List.{list_all}
use Rattle.std.specs.Option.{option_and_then, option_map}
use Rattle.std.specs.Ordering.{int_eq}
use Rattle.std.specs.Prelude.{IfSome}

-- ---- substitutions that bind no cardinality

bare_base : (by : Subst) → SparesCards by → (t : Term) (b : Option Var) → is_card_base b ≡ true → term_base by t b ≡ t
bare_base by spares t None h = refl
bare_base by spares t (Some v) h = ap (term_at t) (spares v h)

bare_stays : (by : Subst) → SparesCards by → (t : Term) → is_bare_card t ≡ true → apply_term by t ≡ t
bare_stays by spares t h = bare_base by spares t t.base (and_parts (int_eq t.offset (pos 0)) (is_card_base t.base) h).1

bares_stay : (by : Subst) → SparesCards by → (ts : List Term) → list_all is_bare_card ts ≡ true → map (apply_term by) ts ≡ ts
bares_stay by spares [] h = refl
bares_stay by spares (t ∷ ts) h =
    let both = and_parts (is_bare_card t) (list_all is_bare_card ts) h in
    let here = bare_stays by spares t both.0 in
    let rest = bares_stay by spares ts both.1 in
    λ i. here i ∷ rest i

-- the last tuple of changed companions
pub last_mapped : (f : Link → Link) (g : List Term → List Term) → g [] ≡ [] → ((l : Link) → (f l).tuple ≡ g l.tuple) → (ls : List Link) → last_tuple (map f ls) ≡ g (last_tuple ls)
last_mapped f g none e [] = sym none
last_mapped f g none e (l ∷ []) = e l
last_mapped f g none e (l ∷ m ∷ ls) = last_mapped f g none e (m ∷ ls)

-- ---- the equations that are solved

abbrev MaySpare : Option Subst → Type 0
MaySpare o = IfSome o SparesCards

base_spares : (test : Var → Bool) (b : Option Var) (s t : Term) → MaySpare (solved_base test b s t)
base_spares test None s t = tt
base_spares test (Some v) s t =
    cond_both (sort_eq v.sort Int && test v && not (base_eq (Some v) t.base)) _ None MaySpare
    (λ e. int_spares v _ (and_parts (sort_eq v.sort Int) (test v) (and_parts (sort_eq v.sort Int && test v) (not (base_eq (Some v) t.base)) e).0).0)
    (λ e. tt)

parts_spare : (test : Var → Bool) (vs : List Var) (es : List Term) (t : SetTerm) → MaySpare (solved_parts test vs es t)
parts_spare test (v ∷ []) [] t = cond_both (test v && not (var_in v t.vars)) (Some (bind_set v t)) None MaySpare (λ e. set_spares v t) (λ e. tt)
parts_spare test _ _ t = tt

first_spares : (a b : Option Subst) → MaySpare a → MaySpare b → MaySpare (first_some a b)
first_spares None b h k = k
first_spares (Some by) b h k = h

sides_spare : (test : Var → Bool) (s t : Term) → MaySpare (first_some (solved_side test s t) (solved_side test t s))
sides_spare test s t = first_spares (solved_side test s t) (solved_side test t s) (base_spares test s.base s t) (base_spares test t.base t s)

pub eq_spares : (test : Var → Bool) (l : Lit) → MaySpare (solved_eq test l)
eq_spares test (Eq s t) = sides_spare test s t
eq_spares test _ = tt

pub any_spares : (test : Var → Bool) (l : Lit) → MaySpare (solved_any test l)
any_spares test (Eq s t) = sides_spare test s t
any_spares test (Same s t) = first_spares (solved_set test s t) (solved_set test t s) (parts_spare test s.vars s.elems t) (parts_spare test t.vars t.elems s)
any_spares test _ = tt

abbrev PairSpares : Option (Subst × List Lit) → Type 0
PairSpares o = IfSome o (λ (p : Subst × List Lit). SparesCards p.0)

module _ (f : Lit → Option Subst) (h : (l : Lit) → MaySpare (f l)) where
  behind : (l : Lit) (o : Option (Subst × List Lit)) → PairSpares o → PairSpares (option_map (λ (p : Subst × List Lit). (p.0, l ∷ p.1)) o)
  behind l None k = tt
  behind l (Some p) k = k

  pub found_spares : (ls : List Lit) → PairSpares (first_solved f ls)
  found_spares [] = tt
  found_spares (l ∷ ls) =
      elim (f l) as (λ (o : Option Subst).
      MaySpare o → PairSpares (elim o [ Some by ↦ Some (by, ls) | None ↦ option_map (λ (p : Subst × List Lit). (p.0, l ∷ p.1)) (first_solved f ls) ])) [
        | Some by ↦ (λ k. k)
        | None ↦ (λ k. behind l (first_solved f ls) (found_spares ls))
      ]
      (h l)

-- ---- the last tuple and the lengths of all

module _ (tuple : List Term) (ends : List ℕ) (bare : list_all is_bare_card tuple ≡ true) where
  abbrev AsBefore : Node → Type 0
  AsBefore n = (last_tuple n.links ≡ tuple) × (ends_of n.links ≡ ends)

  ends_mapped : (f : Link → Link) → ((l : Link) → length (f l).tuple ≡ length l.tuple) → (ls : List Link) → ends_of (map f ls) ≡ ends_of ls
  ends_mapped f e [] = refl
  ends_mapped f e (l ∷ ls) = λ i. e l i ∷ ends_mapped f e ls i

  pub ends_applied : (by : Subst) (ls : List Link) → ends_of (map (apply_link by) ls) ≡ ends_of ls
  ends_applied by ls = ends_mapped (apply_link by) (λ l. length-map l.tuple (apply_term by)) ls

  applied : (by : Subst) → SparesCards by → (n : Node) → AsBefore n → AsBefore (apply_node by n)
  applied by spares n h = (
    last_mapped (apply_link by) (map (apply_term by)) refl (λ l. refl) n.links ∙ ap (map (apply_term by)) h.0 ∙ bares_stay by spares tuple bare,
    ends_applied by n.links ∙ h.1,
  )

  substituted : (by : Subst) → SparesCards by → (n : Node) → AsBefore n → IfSome (substitute by n) AsBefore
  substituted by k n p = cond_both (wide_subst by || wide_node (apply_node by n)) None (Some (apply_node by n)) (λ o. IfSome o AsBefore) (λ e. tt) (λ e. applied by k n p)

  turn : (n : Node) (with_lits : List Lit → Node) (next : Node → Option Node) → AsBefore n → ((ls : List Lit) → AsBefore (with_lits ls)) → ((m : Node) → AsBefore m → IfSome (next m) AsBefore)
      → (o : Option (Subst × List Lit)) → PairSpares o
      → IfSome {T = Node} (elim o [ None ↦ Some n | Some p ↦ option_and_then next (substitute p.0 (with_lits p.1)) ]) AsBefore
  turn n with_lits next p q r None k = p
  turn n with_lits next p q r (Some f) k = IfSome-and_then AsBefore AsBefore next r (substitute f.0 (with_lits f.1)) (substituted f.0 k (with_lits f.1) (q f.1))

  pre_same : (k : ℕ) (n : Node) → AsBefore n → IfSome (solve_pre k n) AsBefore
  pre_same zero n p = p
  pre_same (suc k) n p =
      turn n (with_pre n) (solve_pre k) p (λ ls. p) (pre_same k) (first_solved (solved_eq (is_logical n.goal)) n.goal.pure_pre)
      (found_spares (solved_eq (is_logical n.goal)) (eq_spares (is_logical n.goal)) n.goal.pure_pre)

  post_same : (k : ℕ) (n : Node) → AsBefore n → IfSome (solve_post k n) AsBefore
  post_same zero n p = p
  post_same (suc k) n p =
      turn n (with_post n) (solve_post k) p (λ ls. p) (post_same k) (first_solved (solved_any (λ v. var_in v n.goal.exist)) n.goal.pure_post)
      (found_spares (solved_any (λ v. var_in v n.goal.exist)) (any_spares (λ v. var_in v n.goal.exist)) n.goal.pure_post)

  pub solved_same : (n : Node) → AsBefore n → IfSome (solve n) AsBefore
  solved_same n p =
      IfSome-and_then AsBefore AsBefore (λ (m : Node). solve_post (length m.goal.pure_post) m) (λ m q. post_same (length m.goal.pure_post) m q)
      (solve_pre (length n.goal.pure_pre) n) (pre_same (length n.goal.pure_pre) n p)

  -- the node before it is numbered
  pub pruned_same : (n : Node) → AsBefore n → AsBefore (prune (tidy_node n))
  pruned_same n p = (last_mapped (λ (k : Link). record k { map = only_vars _ k.map }) (λ ts. ts) refl (λ l. refl) n.links ∙ p.0, ends_mapped _ (λ l. refl) n.links ∙ p.1)
