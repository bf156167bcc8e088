-- The companion that Open adds: its measure goes on from the last tuple, and has at most 16 more terms.
use Rattle.std.proofs.Common.{◌≡◌, ◌*◌, ◌+◌, ◌++◌, ◌<◌, ◌==◌, ◌≤◌, ℕ, zero, suc, Bool, List, [], ◌∷◌, None, Option, Some, IsTrue, append_assoc, arith, eq-eqb, le-leb, leb-true, length, length-append, nat_le, refl, slice_get}
use Rattle.std.specs.List.{list_all}
use Rattle.std.proofs.lemmas.Bool.{and_from, and_parts}
use Rattle.std.proofs.lemmas.Option.{none-some}
use Rattle.cyp_heap.proofs.PrefixTuples.{is_prefix-append}
use Rattle.cyp_heap.specs.Chunks.{without}
use Rattle.cyp_heap.specs.Formed.{IsWellLinked, insts_fit, is_prefix, tuples_grow, tuples_short}
use Rattle.cyp_heap.specs.Limits.{is_within_limits}
use Rattle.cyp_heap.specs.declared.chunk.Chunk.{Chunk}
use Rattle.cyp_heap.specs.declared.chunk.Chunk.TheVariants.{Block, Cell, Inst}
use Rattle.cyp_heap.specs.declared.chunk.InstOf.{InstOf}
use Rattle.cyp_heap.specs.declared.goal.Goal.{Goal}
use Rattle.cyp_heap.specs.declared.goal.Link.{Link}
use Rattle.cyp_heap.specs.declared.goal.Node.{Node}
use Rattle.cyp_step.proofs.GoalWithin.{within_alone}
use Rattle.cyp_step.specs.Changes.{pre_of}
use Rattle.cyp_step.specs.Nodes.{IsNode}
use Rattle.cyp_step.specs.Unfolding.{card_terms, cards_of, last_tuple, open_link}
use Rattle.cyp_term.specs.declared.term.Var.{Var}

-- ---- one companion more

pub list_all_push : {A : Type 0} (p : A → Bool) (xs : List A) (x : A) → IsTrue (list_all p xs) → IsTrue (p x) → IsTrue (list_all p (xs ++ x ∷ []))
list_all_push p [] x h t = and_from (p x) _ t refl
list_all_push p (y ∷ ys) x h t =
    let both : IsTrue (p y) × IsTrue (list_all p ys) = and_parts (p y) (list_all p ys) h in
    and_from (p y) (list_all p (ys ++ x ∷ [])) both.0 (list_all_push p ys x both.1 t)

pub grows_push : (ks : List Link) (l : Link) → IsTrue (is_prefix (last_tuple ks) l.tuple) → IsTrue (tuples_grow ks) → IsTrue (tuples_grow (ks ++ l ∷ []))
grows_push [] l p g = refl
grows_push (k ∷ []) l p g = and_from (is_prefix k.tuple l.tuple) _ p refl
grows_push (k ∷ m ∷ ks) l p g =
    let both : IsTrue (is_prefix k.tuple m.tuple) × IsTrue (tuples_grow (m ∷ ks)) = and_parts (is_prefix k.tuple m.tuple) (tuples_grow (m ∷ ks)) g in
    and_from (is_prefix k.tuple m.tuple) (tuples_grow (m ∷ ks ++ l ∷ [])) both.0 (grows_push (m ∷ ks) l p both.1)

pub short_push : (room : ℕ) (ks : List Link) (l : Link) → length l.tuple ≤ room + 16 * length ks → IsTrue (tuples_short room ks) → IsTrue (tuples_short room (ks ++ l ∷ []))
short_push room [] l le s = and_from (nat_le (length l.tuple) room) _ (le-leb (length l.tuple) room (omega (arith, le))) refl
short_push room (k ∷ ks) l le s =
    let both : IsTrue (nat_le (length k.tuple) room) × IsTrue (tuples_short (room + 16) ks) = and_parts (nat_le (length k.tuple) room) (tuples_short (room + 16) ks) s in
    and_from (nat_le (length k.tuple) room) (tuples_short (room + 16) (ks ++ l ∷ [])) both.0 (short_push (room + 16) ks l (omega (arith, le)) both.1)

pub last_short : (room : ℕ) (ks : List Link) → 16 ≤ room → IsTrue (tuples_short room ks) → length (last_tuple ks) + 16 ≤ room + 16 * length ks
last_short room [] le s = omega (arith, le)
last_short room (k ∷ []) le s = omega (arith, leb-true (length k.tuple) room (and_parts (nat_le (length k.tuple) room) _ s).0)
last_short room (k ∷ m ∷ ks) le s =
    omega (arith, last_short (room + 16) (m ∷ ks) (omega (arith, le)) (and_parts (nat_le (length k.tuple) room) (tuples_short (room + 16) (m ∷ ks)) s).1)

-- ---- how long the measure is

pub length-without : {A : Type 0} (xs : List A) (i : ℕ) (x : A) → slice_get xs i ≡ Some x → suc (length (without xs i)) ≡ length xs
length-without [] i x e = absurd (none-some x e)
length-without (y ∷ ys) zero x e = refl
length-without (y ∷ ys) (suc i) x e = omega (arith, length-without ys i x e)

pub card_short : (c : Option Var) → length (card_terms c) ≤ 1
card_short None = omega arith
card_short (Some v) = omega arith

pub cards_short : (cs : List Chunk) → length (cards_of cs) ≤ length cs
cards_short [] = omega arith
cards_short (Inst i ∷ cs) = rw (length-append (card_terms i.card) (cards_of cs)) (omega (arith, card_short i.card, cards_short cs))
cards_short (Block b ∷ cs) = omega (arith, cards_short cs)
cards_short (Cell c ∷ cs) = omega (arith, cards_short cs)

module _ (n : Node) (w : IsNode n) (i : ℕ) (j : InstOf) (at : slice_get (pre_of n) i ≡ Some (Inst j)) where
  pub pre_short : length (pre_of n) ≤ 16
  pre_short =
      leb-true (length (pre_of n)) 16
      (and_parts _ _ (and_parts _ _ (and_parts _ _ (and_parts _ _ (and_parts _ _ (and_parts _ _ (and_parts _ _ (and_parts _ _ (and_parts _ _ w.within).0).0).0).0).0).0).0).0).0

  pub measure_short : length (open_link n i j).tuple ≤ 16 + 16 * length n.links
  measure_short =
      rw (length-append (last_tuple n.links ++ card_terms j.card) (cards_of (without (pre_of n) i)), length-append (last_tuple n.links) (card_terms j.card))
      (omega (
        arith,
        last_short 16 n.links (omega arith) w.raw.linked.short,
        card_short j.card,
        cards_short (without (pre_of n) i),
        length-without (pre_of n) i (Inst j) at,
        pre_short,
      ))

  pub measure_goes_on : IsTrue (is_prefix (last_tuple n.links) (open_link n i j).tuple)
  measure_goes_on =
      rw (append_assoc (last_tuple n.links) (card_terms j.card) (cards_of (without (pre_of n) i)))
      (is_prefix-append (last_tuple n.links) (card_terms j.card ++ cards_of (without (pre_of n) i)))

  pub opened_linked : length n.links < 4 → (g : Goal) → IsWellLinked (record { preds = n.preds; goal = g; links = n.links ++ open_link n i j ∷ [] })
  opened_linked room g =
      let l : Link = open_link n i j in
      record {
        few = le-leb _ 4 (rw (length-append n.links (l ∷ [])) (omega (arith, room)));
        goals_within = list_all_push (λ (k : Link). is_within_limits (record { preds = n.preds; goal = k.goal; links = [] })) n.links l w.raw.linked.goals_within (within_alone n w.within);
        goals_fit = list_all_push (λ (k : Link). insts_fit n.preds k.goal) n.links l w.raw.linked.goals_fit w.raw.fits;
        grows = grows_push n.links l measure_goes_on w.raw.linked.grows;
        short = short_push 16 n.links l measure_short w.raw.linked.short;
        own_as_long = list_all_push (λ (k : Link). length k.own == length k.tuple) n.links l w.raw.linked.own_as_long (eq-eqb (length l.own) (length l.tuple) refl);
      }
