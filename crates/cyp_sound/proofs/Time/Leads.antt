-- The measure of the root: the numbers of the precondition's instances, that of the lead first.
use Rattle.cyp_goal.proofs.LinksNormal.{IsKept, IsKeptWithin, normal_kept}
use Rattle.cyp_goal.specs.Normal.{Renaming, normal}
use Rattle.cyp_heap.specs.Assertions.{CardIs, CardsAre}
use Rattle.cyp_heap.specs.Chunks.{apply_chunk, card_vars, in_order, insts, kind_rank, without}
use Rattle.cyp_heap.specs.Formed.{is_card_var}
use Rattle.cyp_heap.specs.Instances.{ChunksHold, Instances}
use Rattle.cyp_heap.specs.Stores.{Store}
use Rattle.cyp_heap.specs.declared.chunk.Chunk.{Chunk}
use Rattle.cyp_heap.specs.declared.chunk.Chunk.TheVariants.{Block, Cell, Inst}
use Rattle.cyp_heap.specs.declared.chunk.Heap.{Heap}
use Rattle.cyp_heap.specs.declared.chunk.InstOf.{InstOf}
use Rattle.cyp_heap.specs.declared.goal.Node.{Node}
use Rattle.cyp_kernel.proofs.Offsets.{plus-zero}
use Rattle.cyp_kernel.specs.Bound.{led_by, put_first}
use Rattle.cyp_sound.proofs.Time.Measures.{IsWithin, nat_of, numbers_of}
use Rattle.cyp_step.specs.Unfolding.{card_terms, cards_of}
use Rattle.cyp_term.proofs.Equality.{Decides-var_eq}
use Rattle.cyp_term.specs.Meaning.{Assignment, value}
use Rattle.cyp_term.specs.Terms.{var_eq, var_in}
use Rattle.cyp_term.specs.declared.subst.Subst.{Subst}
use Rattle.cyp_term.specs.declared.term.Term.{Term}
use Rattle.cyp_term.specs.declared.term.Var.{Var}
use Rattle.std.proofs.Common.{◌≡◌, refl, sym, ap, ◌∙◌, ℕ, zero, suc, ◌≤◌, Bool, true, false, List, [], ◌∷◌, ◌++◌, map, Option, Some, None, inl, inr, ℤ, subst}
use Rattle.std.proofs.lemmas.Bool.{and_from, and_parts, false≢true, or_cases}
use Rattle.std.proofs.lemmas.Option.{none-some, same_Some}
use Rattle.std.specs.List.{flat_map, list_all}
use Rattle.std.specs.Prelude.{IfSome, nat_le, slice_get}

-- ---- the order of chunks through the normal form

same_rank : (by : Subst) (c : Chunk) → kind_rank (apply_chunk by c) ≡ kind_rank c
same_rank by (Inst i) = refl
same_rank by (Block b) = refl
same_rank by (Cell c) = refl

later_kept : (by : Subst) (k : ℕ) (cs : List Chunk) → list_all (λ d. nat_le k (kind_rank d)) cs ≡ true → list_all (λ d. nat_le k (kind_rank d)) (map (apply_chunk by) cs) ≡ true
later_kept by k [] h = refl
later_kept by k (c ∷ cs) h =
    let both = and_parts (nat_le k (kind_rank c)) (list_all (λ d. nat_le k (kind_rank d)) cs) h in
    and_from (nat_le k (kind_rank (apply_chunk by c))) (list_all (λ d. nat_le k (kind_rank d)) (map (apply_chunk by) cs)) (ap (nat_le k) (same_rank by c) ∙ both.0) (later_kept by k cs both.1)

order_kept : (by : Subst) (cs : List Chunk) → in_order cs ≡ true → in_order (map (apply_chunk by) cs) ≡ true
order_kept by [] h = refl
order_kept by (c ∷ cs) h =
    let both = and_parts (list_all (λ d. nat_le (kind_rank c) (kind_rank d)) cs) (in_order cs) h in
    and_from (list_all (λ d. nat_le (kind_rank (apply_chunk by c)) (kind_rank d)) (map (apply_chunk by) cs)) (in_order (map (apply_chunk by) cs))
    (subst (λ (k : ℕ). list_all (λ d. nat_le k (kind_rank d)) (map (apply_chunk by) cs) ≡ true) (sym (same_rank by c)) (later_kept by (kind_rank c) cs both.0)) (order_kept by cs both.1)

abbrev IsOrdered : Node → Type 0
IsOrdered n = in_order n.goal.pre.chunks ≡ true

ordered_kept : IsKept IsOrdered
ordered_kept = record {
  applied = λ by k n h. order_kept by n.goal.pre.chunks h;
  beside = λ n g e f h. subst (λ (x : Heap). in_order x.chunks ≡ true) (sym e) h;
  maps = λ n vs h. h;
}

pub normal_ordered : (n : Node) (r : Renaming) → in_order n.goal.pre.chunks ≡ true → normal n ≡ Some r → in_order r.node.goal.pre.chunks ≡ true
normal_ordered n r h e =
    let k : IsKeptWithin IsOrdered r = subst (λ (o : Option Renaming). IfSome o (IsKeptWithin IsOrdered)) e (normal_kept IsOrdered ordered_kept n h) in
    k.fact

-- ---- the numbers of the instances in order

abbrev Numbered : Assignment → List Chunk → List ℕ → Type 0
Numbered s [] ns = ns ≡ []
Numbered s (Inst i ∷ cs) ns = (n : ℕ) × (rest : List ℕ) × (ns ≡ n ∷ rest) × CardIs s i.card n × Numbered s cs rest
Numbered s (Block b ∷ cs) ns = Numbered s cs ns
Numbered s (Cell c ∷ cs) ns = Numbered s cs ns

pub numbered : (inst : Instances) (s : Assignment) (cs : List Chunk) (h : Store) (ns : List ℕ) → ChunksHold inst s cs h ns → CardsAre s cs ns → Numbered s cs ns
numbered inst s [] h ns k c = k.1
numbered inst s (Inst i ∷ cs) h ns k c =
    let d = subst (λ (xs : List ℕ). CardsAre s (Inst i ∷ cs) xs) k.4 c in
    (k.2, k.3, k.4, d.0, numbered inst s cs k.1 k.3 k.7 d.1)
numbered inst s (Block b ∷ cs) h ns k c = numbered inst s cs k.1 ns k.4 c
numbered inst s (Cell b ∷ cs) h ns k c = numbered inst s cs k.1 ns k.4 c

card_number : (s : Assignment) (c : Option Var) (n : ℕ) (more : List Term) → is_card_var c ≡ true → CardIs s c n → numbers_of s (card_terms c ++ more) ≡ n ∷ numbers_of s more
card_number s None n more h e = absurd (false≢true h)
card_number s (Some v) n more h e = ap (λ (x : ℤ). nat_of x ∷ numbers_of s more) (plus-zero (s.number v) ∙ e)

abbrev have_cards : List Chunk → Bool
have_cards cs = list_all (λ (i : InstOf). is_card_var i.card) (insts cs)

all_numbers : (s : Assignment) (cs : List Chunk) (ns : List ℕ) → have_cards cs ≡ true → Numbered s cs ns → numbers_of s (cards_of cs) ≡ ns
all_numbers s [] ns h k = sym k
all_numbers s (Inst i ∷ cs) ns h k =
    let both = and_parts (is_card_var i.card) (have_cards cs) h in
    card_number s i.card k.0 (cards_of cs) both.0 k.3 ∙ ap (λ xs. k.0 ∷ xs) (all_numbers s cs k.1 both.1 k.4) ∙ sym k.2
all_numbers s (Block b ∷ cs) ns h k = all_numbers s cs ns h k
all_numbers s (Cell c ∷ cs) ns h k = all_numbers s cs ns h k

-- behind a block or a cell there is no instance
no_inst : (k : ℕ) (cs : List Chunk) (i : ℕ) (j : InstOf) → nat_le k 0 ≡ false → list_all (λ d. nat_le k (kind_rank d)) cs ≡ true → slice_get cs i ≡ Some (Inst j) → ⊥
no_inst k [] i j not_first h e = none-some (Inst j) e
no_inst k (c ∷ cs) zero j not_first h e =
    let here : nat_le k (kind_rank c) ≡ true = (and_parts (nat_le k (kind_rank c)) (list_all (λ d. nat_le k (kind_rank d)) cs) h).0 in
    false≢true (sym not_first ∙ ap (λ (d : Chunk). nat_le k (kind_rank d)) (sym (same_Some c (Inst j) e)) ∙ here)
no_inst k (c ∷ cs) (suc i) j not_first h e = no_inst k cs i j not_first (and_parts (nat_le k (kind_rank c)) (list_all (λ d. nat_le k (kind_rank d)) cs) h).1 e

-- the number of the instance at a place, and those of the others
lead_at : (s : Assignment) (cs : List Chunk) (ns : List ℕ) (i : ℕ) (j : InstOf) → in_order cs ≡ true → have_cards cs ≡ true → Numbered s cs ns → slice_get cs i ≡ Some (Inst j)
    → (n : ℕ) × (slice_get ns i ≡ Some n) × (numbers_of s (card_terms j.card) ≡ n ∷ []) × (numbers_of s (cards_of (without cs i)) ≡ without ns i)
lead_at s [] ns i j order h k e = absurd (none-some (Inst j) e)
lead_at s (Inst x ∷ cs) ns zero j order h k e =
    let both = and_parts (is_card_var x.card) (have_cards cs) h in
    let same : x.card ≡ j.card = card_of e in (
      k.0,
      ap (λ (xs : List ℕ). slice_get xs 0) k.2,
      ap (λ (c : Option Var). numbers_of s (card_terms c)) (sym same) ∙ alone x.card k.0 both.0 k.3,
      all_numbers s cs k.1 both.1 k.4 ∙ ap (λ (xs : List ℕ). without xs 0) (sym k.2),
    )
  where
    card_of : Some (Inst x) ≡ Some (Inst j) → x.card ≡ j.card
    card_of e = cc

    alone : (c : Option Var) (n : ℕ) → is_card_var c ≡ true → CardIs s c n → numbers_of s (card_terms c) ≡ n ∷ []
    alone None n h e = absurd (false≢true h)
    alone (Some v) n h e = ap (λ (x : ℤ). nat_of x ∷ []) (plus-zero (s.number v) ∙ e)
lead_at s (Inst x ∷ cs) ns (suc i) j order h k e =
    let both = and_parts (is_card_var x.card) (have_cards cs) h in
    let later = lead_at s cs k.1 i j (and_parts (list_all (λ d. nat_le 0 (kind_rank d)) cs) (in_order cs) order).1 both.1 k.4 e in (
      later.0,
      ap (λ (xs : List ℕ). slice_get xs (suc i)) k.2 ∙ later.1,
      later.2,
      card_number s x.card k.0 (cards_of (without cs i)) both.0 k.3 ∙ ap (λ xs. k.0 ∷ xs) later.3 ∙ ap (λ (xs : List ℕ). without xs (suc i)) (sym k.2),
    )
lead_at s (Block b ∷ cs) ns zero j order h k e = cc
lead_at s (Block b ∷ cs) ns (suc i) j order h k e = absurd (no_inst 1 cs i j refl (and_parts (list_all (λ d. nat_le 1 (kind_rank d)) cs) (in_order cs) order).0 e)
lead_at s (Cell b ∷ cs) ns zero j order h k e = cc
lead_at s (Cell b ∷ cs) ns (suc i) j order h k e = absurd (no_inst 2 cs i j refl (and_parts (list_all (λ d. nat_le 2 (kind_rank d)) cs) (in_order cs) order).0 e)

numbers_append : (s : Assignment) (a b : List Term) → numbers_of s (a ++ b) ≡ numbers_of s a ++ numbers_of s b
numbers_append s [] b = refl
numbers_append s (t ∷ a) b = ap (λ xs. nat_of (value s t) ∷ xs) (numbers_append s a b)

pub lead_numbers : (s : Assignment) (cs : List Chunk) (ns : List ℕ) (i : ℕ) (j : InstOf) → in_order cs ≡ true → have_cards cs ≡ true → Numbered s cs ns → slice_get cs i ≡ Some (Inst j)
    → numbers_of s (card_terms j.card ++ cards_of (without cs i)) ≡ led_by i ns
lead_numbers s cs ns i j order h k e =
    let a = lead_at s cs ns i j order h k e in
    numbers_append s (card_terms j.card) (cards_of (without cs i))
    ∙ (λ x. a.2 x ++ a.3 x)
    ∙ ap (λ (o : Option ℕ). put_first o (without ns i)) (sym a.1)

-- ---- cardinalities are heights

pub cards_within : (s : Assignment) (b : ℕ) (cs : List Chunk) (ns : List ℕ) → Numbered s cs ns → ((k n : ℕ) → slice_get ns k ≡ Some n → n ≤ b) → (v : Var)
    → var_in v (flat_map (λ (i : InstOf). card_vars i.card) (insts cs)) ≡ true → IsWithin b (s.number v)
cards_within s b [] ns k most v h = absurd (false≢true h)
cards_within s b (Inst i ∷ cs) ns k most v h =
    at i.card k.3 h (λ l. cards_within s b cs k.1 k.4 (λ x n e. most (suc x) n (ap (λ (xs : List ℕ). slice_get xs (suc x)) k.2 ∙ e)) v l)
  where
    at : (c : Option Var) → CardIs s c k.0 → var_in v (card_vars c ++ flat_map (λ (i : InstOf). card_vars i.card) (insts cs)) ≡ true
        → (var_in v (flat_map (λ (i : InstOf). card_vars i.card) (insts cs)) ≡ true → IsWithin b (s.number v)) → IsWithin b (s.number v)
    at None e h later = later h
    at (Some w) e h later = elim (or_cases (var_eq v w) (var_in v (flat_map (λ (i : InstOf). card_vars i.card) (insts cs))) h) [
      | inl p ↦ (k.0, ap s.number ((Decides-var_eq v w).0 p) ∙ e, most 0 k.0 (ap (λ (xs : List ℕ). slice_get xs 0) k.2))
      | inr p ↦ later p
    ]
cards_within s b (Block d ∷ cs) ns k most v h = cards_within s b cs ns k most v h
cards_within s b (Cell d ∷ cs) ns k most v h = cards_within s b cs ns k most v h
