-- A change of companions that keeps goals and own measures, and changes tuples term by term, keeps a node well linked.
use Rattle.std.proofs.Common.{◌≡◌, ◌+◌, ◌++◌, ◌==◌, ℕ, Bool, List, [], ◌∷◌, IsTrue, map, length, nat_le, refl, ap}
use Rattle.std.specs.List.{list_all}
use Rattle.std.proofs.lemmas.Bool.{and_from, and_parts, false≢true}
use Rattle.std.proofs.lemmas.List.{length-map}
use Rattle.cyp_heap.specs.Formed.{IsWellLinked, insts_fit, is_prefix, tuples_grow, tuples_short}
use Rattle.cyp_heap.specs.Goals.{apply_link}
use Rattle.cyp_heap.specs.Limits.{is_within_limits}
use Rattle.cyp_heap.specs.declared.goal.Goal.{Goal}
use Rattle.cyp_heap.specs.declared.goal.Link.{Link}
use Rattle.cyp_heap.specs.declared.goal.Node.{Node}
use Rattle.cyp_heap.specs.declared.pred.Preds.{Preds}
use Rattle.cyp_term.specs.Terms.{apply_term, term_eq}
use Rattle.cyp_term.specs.declared.subst.Subst.{Subst}
use Rattle.cyp_term.specs.declared.term.Term.{Term}
use Rattle.cyp_term.proofs.Equality.{Decides-term_eq}

-- ---- prefixes

pub is_prefix-append : (xs ys : List Term) → IsTrue (is_prefix xs (xs ++ ys))
is_prefix-append [] ys = refl
is_prefix-append (x ∷ xs) ys = and_from (term_eq x x) (is_prefix xs (xs ++ ys)) ((Decides-term_eq x x).1 refl) (is_prefix-append xs ys)

pub is_prefix-map : (f : Term → Term) (xs ys : List Term) → IsTrue (is_prefix xs ys) → IsTrue (is_prefix (map f xs) (map f ys))
is_prefix-map f [] ys h = refl
is_prefix-map f (x ∷ xs) [] h = absurd (false≢true h)
is_prefix-map f (x ∷ xs) (y ∷ ys) h =
    let both : IsTrue (term_eq x y) × IsTrue (is_prefix xs ys) = and_parts (term_eq x y) (is_prefix xs ys) h in
    and_from (term_eq (f x) (f y)) (is_prefix (map f xs) (map f ys))
    ((Decides-term_eq (f x) (f y)).1 (ap f ((Decides-term_eq x y).0 both.0)))
    (is_prefix-map f xs ys both.1)

-- ---- tests of each element

pub list_all-map_from : {A B : Type 0} (p : A → Bool) (q : B → Bool) (f : A → B) → ((x : A) → IsTrue (p x) → IsTrue (q (f x))) → (xs : List A) → IsTrue (list_all p xs)
    → IsTrue (list_all q (map f xs))
list_all-map_from p q f e [] h = refl
list_all-map_from p q f e (x ∷ xs) h =
    let both : IsTrue (p x) × IsTrue (list_all p xs) = and_parts (p x) (list_all p xs) h in
    and_from (q (f x)) (list_all q (map f xs)) (e x both.0) (list_all-map_from p q f e xs both.1)

-- ---- changes of companions

-- the goal and its own measure stay, and each term of the tuple becomes another
pub record KeepsLink (f : Link → Link) : Type 0 where
  pub goal : (k : Link) → (f k).goal ≡ k.goal
  pub own : (k : Link) → (f k).own ≡ k.own
  pub term : Term → Term
  pub tuple : (k : Link) → (f k).tuple ≡ map term k.tuple

pub apply_link_keeps : (by : Subst) → KeepsLink (apply_link by)
apply_link_keeps by = record { goal = λ k. refl; own = λ k. refl; term = apply_term by; tuple = λ k. refl }

module _ (f : Link → Link) (h : KeepsLink f) where
  length-tuple : (k : Link) → length (f k).tuple ≡ length k.tuple
  length-tuple k = rw (h.tuple k) (length-map k.tuple h.term)

  grows-map : (ks : List Link) → IsTrue (tuples_grow ks) → IsTrue (tuples_grow (map f ks))
  grows-map [] g = refl
  grows-map (k ∷ []) g = refl
  grows-map (k ∷ l ∷ ks) g =
      let both : IsTrue (is_prefix k.tuple l.tuple) × IsTrue (tuples_grow (l ∷ ks)) = and_parts (is_prefix k.tuple l.tuple) (tuples_grow (l ∷ ks)) g in
      and_from (is_prefix (f k).tuple (f l).tuple) (tuples_grow (f l ∷ map f ks))
      (rw (h.tuple k, h.tuple l) (is_prefix-map h.term k.tuple l.tuple both.0))
      (grows-map (l ∷ ks) both.1)

  short-map : (room : ℕ) (ks : List Link) → IsTrue (tuples_short room ks) → IsTrue (tuples_short room (map f ks))
  short-map room [] s = refl
  short-map room (k ∷ ks) s =
      let both : IsTrue (nat_le (length k.tuple) room) × IsTrue (tuples_short (room + 16) ks) = and_parts (nat_le (length k.tuple) room) (tuples_short (room + 16) ks) s in
      and_from (nat_le (length (f k).tuple) room) (tuples_short (room + 16) (map f ks)) (rw (length-tuple k) both.0) (short-map (room + 16) ks both.1)

  own_as_long : (k : Link) → IsTrue (length k.own == length k.tuple) → IsTrue (length (f k).own == length (f k).tuple)
  own_as_long k e = rw (h.own k, length-tuple k) e

  -- the test of the companion's goal has the same answer
  goal_test : (test : Goal → Bool) (k : Link) → IsTrue (test k.goal) → IsTrue (test (f k).goal)
  goal_test test k t = rw (h.goal k) t

  pub IsWellLinked-map : (n : Node) (g : Goal) → IsWellLinked n → IsWellLinked (record { preds = n.preds; goal = g; links = map f n.links })
  IsWellLinked-map n g w =
      let within : Goal → Bool = λ c. is_within_limits (record { preds = n.preds; goal = c; links = [] }) in
      record {
        few = rw (length-map n.links f) w.few;
        goals_within = list_all-map_from (λ k. within k.goal) (λ k. within k.goal) f (goal_test within) n.links w.goals_within;
        goals_fit = list_all-map_from (λ k. insts_fit n.preds k.goal) (λ k. insts_fit n.preds k.goal) f (goal_test (insts_fit n.preds)) n.links w.goals_fit;
        grows = grows-map n.links w.grows;
        short = short-map 16 n.links w.short;
        own_as_long = list_all-map_from (λ k. length k.own == length k.tuple) (λ k. length k.own == length k.tuple) f own_as_long n.links w.own_as_long;
      }

-- the goal is no part of it
pub IsWellLinked-goal : (n : Node) (g : Goal) → IsWellLinked n → IsWellLinked (record n { goal = g })
IsWellLinked-goal n g w = record { few = w.few; goals_within = w.goals_within; goals_fit = w.goals_fit; grows = w.grows; short = w.short; own_as_long = w.own_as_long }

-- a node without companions
pub IsWellLinked-none : (preds : Preds) (g : Goal) → IsWellLinked (record { preds = preds; goal = g; links = [] })
IsWellLinked-none preds g = record { few = refl; goals_within = refl; goals_fit = refl; grows = refl; short = refl; own_as_long = refl }
