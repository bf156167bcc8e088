-- What is opened has a lower measure, of small numbers; and cardinalities that are cut off at z leave what speaks of smaller ones as it is.
use Rattle.cyp_goal.proofs.Live.{among_in, in_among}
use Rattle.cyp_heap.specs.Assertions.{SideHolds}
use Rattle.cyp_heap.specs.Chunks.{chunks_vars, insts, without}
use Rattle.cyp_heap.specs.Formed.{is_card_var}
use Rattle.cyp_heap.specs.Goals.{goal_vars}
use Rattle.cyp_heap.specs.Stores.{Store}
use Rattle.cyp_heap.specs.declared.chunk.Chunk.{Chunk}
use Rattle.cyp_heap.specs.declared.chunk.Chunk.TheVariants.{Block, Cell, Inst}
use Rattle.cyp_heap.specs.declared.chunk.InstOf.{InstOf}
use Rattle.cyp_heap.specs.declared.goal.Goal.{Goal}
use Rattle.cyp_heap.specs.declared.goal.Link.{Link}
use Rattle.cyp_heap.specs.declared.goal.Node.{Node}
use Rattle.cyp_kernel.proofs.Dependence.{side_depends_on_vars}
use Rattle.cyp_kernel.proofs.SteadyParts.{sorted_goal}
use Rattle.cyp_kernel.specs.Correct.{AgreeBy}
use Rattle.cyp_kernel.specs.SteadyLaws.{IsSteadyNode}
use Rattle.cyp_sound.proofs.Time.KeepsTime.{CardsWithin}
use Rattle.cyp_sound.proofs.Time.KnownCompanions.{companion_by}
use Rattle.cyp_sound.proofs.Time.Levels.{levels_within, open_law}
use Rattle.cyp_sound.proofs.Time.Measures.{AllWithin, IsWithin, LexBelow, call_measure, ends_of, last_end, levels_of, measure_at, nat_of, numbers_of}
use Rattle.cyp_sound.proofs.Time.Plain.{IsPlain, is_bare_card, is_card, is_card_base, link_plain}
use Rattle.cyp_step.specs.Changes.{pre_of}
use Rattle.cyp_step.specs.Unfolding.{card_terms, cards_of, last_tuple, open_link}
use Rattle.cyp_term.proofs.Equality.{Decides-sort_eq}
use Rattle.cyp_term.proofs.Lists.{Among, Among-cases, Among-left, Among-right}
use Rattle.cyp_term.specs.Meaning.{Assignment, value}
use Rattle.cyp_term.specs.Terms.{lits_vars, sort_eq, term_vars, var_in, var_term}
use Rattle.cyp_term.specs.declared.term.Sort.{Sort}
use Rattle.cyp_term.specs.declared.term.Sort.TheVariants.{Card, Int, Set}
use Rattle.cyp_term.specs.declared.term.Term.{Term}
use Rattle.cyp_term.specs.declared.term.Var.{Var}
use Rattle.std.proofs.Common.{◌≡◌, refl, sym, ap, ◌∙◌, ℕ, zero, suc, ◌<◌, ◌≤◌, ◌&&◌, min, Bool, true, false, cond, length, List, [], ◌∷◌, ◌++◌, map, Option, Some, None, inl, ⊎_elim, ℤ, pos, negsuc, ◌+ℤ◌, arith, subst}
use Rattle.std.proofs.lemmas.Bool.{and_from, and_parts, false≢true}
use Rattle.std.proofs.lemmas.Bool.Decides.{Decides-int_eq}
use Rattle.std.proofs.lemmas.Int.{ints}
use Rattle.std.proofs.lemmas.List.{append_assoc, map-append, length-map}
use Rattle.std.specs.List.{flat_map, list_all}
use Rattle.std.specs.Ordering.{int_eq}
use Rattle.std.specs.Prelude.{slice_get, IsTrue}

-- the cardinalities cut off at z
abbrev pub clamped : ℕ → Assignment → Assignment
clamped z u = record { number = λ v. cond (sort_eq v.sort Card) (pos (min z (nat_of (u.number v)))) (u.number v); members = u.members }

-- ---- the last tuple

pub last_push : (ls : List Link) (l : Link) → last_tuple (ls ++ l ∷ []) ≡ l.tuple
last_push [] l = refl
last_push (k ∷ []) l = refl
last_push (k ∷ m ∷ ls) l = last_push (m ∷ ls) l

last_long : (k : ℕ) (l : Link) (ls : List Link) → length (last_tuple (l ∷ ls)) ≡ last_end k (ends_of (l ∷ ls))
last_long k l [] = refl
last_long k l (m ∷ ls) = last_long (length l.tuple) m ls

-- as many numbers as the last part ends at
pub numbers_long : (s : Assignment) (ls : List Link) → length (numbers_of s (last_tuple ls)) ≡ last_end 0 (ends_of ls)
numbers_long s [] = refl
numbers_long s (l ∷ ls) = length-map (last_tuple (l ∷ ls)) _ ∙ last_long 0 l ls

pub ends_long : (ls : List Link) → length (ends_of ls) ≡ length ls
ends_long ls = length-map ls _

-- ---- what is opened

pub opened_measure : (n : Node) (i : ℕ) (j : InstOf) (s : Assignment) → measure_at s (n.links ++ open_link n i j ∷ []) ≡ call_measure s (companion_by n (open_link n i j ∷ []))
opened_measure n i j s =
    let l : Link = open_link n i j in
    let ends = map-append (λ (k : Link). length k.tuple) n.links (l ∷ []) in
    let last = last_push n.links l in
    λ x. levels_of (ends x) (numbers_of s (last x))

pub opened_is_lower : (n : Node) (i : ℕ) (j : InstOf) (s : Assignment) → length n.links < 4 → IsPlain n
    → LexBelow (call_measure s (companion_by n (open_link n i j ∷ []))) (measure_at s n.links)
opened_is_lower n i j s room plain =
    let l : Link = open_link n i j in
    let more : List Term = card_terms j.card ++ cards_of (without (pre_of n) i) in
    let numbers : numbers_of s l.own ≡ numbers_of s (last_tuple n.links) ++ numbers_of s more =
    ap (numbers_of s) (append_assoc (last_tuple n.links) (card_terms j.card) (cards_of (without (pre_of n) i))) ∙ map-append (λ t. nat_of (value s t)) (last_tuple n.links) more in
    subst (λ (xs : List ℕ). LexBelow (levels_of (ends_of n.links ++ length l.tuple ∷ []) xs) (measure_at s n.links)) (sym numbers)
    (open_law (ends_of n.links) (numbers_of s (last_tuple n.links)) (numbers_of s more) (length l.tuple) (few (length n.links) (length (ends_of n.links)) (ends_long n.links) room) plain.short
    (numbers_long s n.links))
  where
    few : (k e : ℕ) → e ≡ k → k < 4 → e ≤ 3
    few k e p l = omega arith

-- ---- small numbers

within_nat : (z : ℕ) (x : ℤ) → IsWithin z x → nat_of x ≤ z
within_nat z (pos k) w = subst (λ (a : ℕ). a ≤ z) (sym (same k w.0 w.1)) w.2
  where
    same : (a b : ℕ) → pos a ≡ pos b → a ≡ b
    same a b e = cc
within_nat z (negsuc k) w = absurd (no k w.0 w.1)
  where
    no : (a b : ℕ) → negsuc a ≡ pos b → ⊥
    no a b e = cc

plus_zero : (x y : ℤ) → y ≡ pos 0 → x +ℤ y ≡ x
plus_zero x y e = omega (arith, ints)

pub bare_value : (s : Assignment) (z : ℕ) → CardsWithin z s → (b : Option Var) (o : ℤ) → (int_eq o (pos 0) && is_card_base b) ≡ true → IsWithin z (value s (record { base = b; offset = o }))
bare_value s z cards None o h = absurd (false≢true (and_parts (int_eq o (pos 0)) false h).1)
bare_value s z cards (Some v) o h =
    let both = and_parts (int_eq o (pos 0)) (is_card v) h in
    let w = cards v both.1 in
    (w.0, plus_zero (s.number v) o ((Decides-int_eq o (pos 0)).0 both.0) ∙ w.1, w.2)

pub numbers_within : (s : Assignment) (z : ℕ) → CardsWithin z s → (ts : List Term) → list_all is_bare_card ts ≡ true → AllWithin z (numbers_of s ts)
numbers_within s z cards [] h = tt
numbers_within s z cards (t ∷ ts) h =
    let both = and_parts (is_bare_card t) (list_all is_bare_card ts) h in
    (within_nat z (value s t) (bare_value s z cards t.base t.offset both.0), numbers_within s z cards ts both.1)

bare_append : (a b : List Term) → list_all is_bare_card a ≡ true → list_all is_bare_card b ≡ true → list_all is_bare_card (a ++ b) ≡ true
bare_append [] b p q = q
bare_append (t ∷ a) b p q =
    let both = and_parts (is_bare_card t) (list_all is_bare_card a) p in
    and_from (is_bare_card t) (list_all is_bare_card (a ++ b)) both.0 (bare_append a b both.1 q)

pub bare_last : (ls : List Link) → list_all link_plain ls ≡ true → list_all is_bare_card (last_tuple ls) ≡ true
bare_last [] h = refl
bare_last (l ∷ []) h =
    let a = and_parts (link_plain l) true h in
    let b = and_parts _ _ a.0 in
    let c = and_parts _ _ b.0 in
    (and_parts _ (list_all is_bare_card l.tuple) c.0).1
bare_last (l ∷ m ∷ ls) h = bare_last (m ∷ ls) (and_parts (link_plain l) (list_all link_plain (m ∷ ls)) h).1

bare_card : (c : Option Var) → is_card_var c ≡ true → list_all is_bare_card (card_terms c) ≡ true
bare_card None h = refl
bare_card (Some v) h = and_from (is_bare_card (var_term v)) true h refl

bare_cards : (cs : List Chunk) → list_all (λ (k : InstOf). is_card_var k.card) (insts cs) ≡ true → list_all is_bare_card (cards_of cs) ≡ true
bare_cards [] h = refl
bare_cards (Inst k ∷ cs) h =
    let both = and_parts (is_card_var k.card) (list_all (λ (k : InstOf). is_card_var k.card) (insts cs)) h in
    bare_append (card_terms k.card) (cards_of cs) (bare_card k.card both.0) (bare_cards cs both.1)
bare_cards (Block b ∷ cs) h = bare_cards cs h
bare_cards (Cell c ∷ cs) h = bare_cards cs h

-- the instance at a place, and the others
card_at : (cs : List Chunk) (i : ℕ) (j : InstOf) → slice_get cs i ≡ Some (Inst j) → list_all (λ (k : InstOf). is_card_var k.card) (insts cs) ≡ true
    → (is_card_var j.card ≡ true) × (list_all (λ (k : InstOf). is_card_var k.card) (insts (without cs i)) ≡ true)
card_at [] i j e h = cc
card_at (Inst k ∷ cs) zero j e h =
    let both = and_parts (is_card_var k.card) (list_all (λ (k : InstOf). is_card_var k.card) (insts cs)) h in
    (subst (λ (o : Option Var). is_card_var o ≡ true) (same e) both.0, both.1)
  where
    same : {k j : InstOf} → Some (Inst k) ≡ Some (Inst j) → k.card ≡ j.card
    same e = cc
card_at (Block b ∷ cs) zero j e h = cc
card_at (Cell c ∷ cs) zero j e h = cc
card_at (Inst k ∷ cs) (suc i) j e h =
    let both = and_parts (is_card_var k.card) (list_all (λ (k : InstOf). is_card_var k.card) (insts cs)) h in
    let more = card_at cs i j e both.1 in
    (more.0, and_from (is_card_var k.card) (list_all (λ (k : InstOf). is_card_var k.card) (insts (without cs i))) both.0 more.1)
card_at (Block b ∷ cs) (suc i) j e h = card_at cs i j e h
card_at (Cell c ∷ cs) (suc i) j e h = card_at cs i j e h

-- the measure of what is opened is of cardinalities alone
pub opened_bare : (n : Node) (i : ℕ) (j : InstOf) → slice_get (pre_of n) i ≡ Some (Inst j) → IsSteadyNode n → IsPlain n → list_all is_bare_card (open_link n i j).own ≡ true
opened_bare n i j at steady plain =
    let fits = steady.node.raw.fits in
    let a = and_parts _ _ fits in
    let cards = and_parts _ _ a.0 in
    let here = card_at (pre_of n) i j at cards.1 in
    bare_append (last_tuple n.links ++ card_terms j.card) (cards_of (without (pre_of n) i))
    (bare_append (last_tuple n.links) (card_terms j.card) (bare_last n.links plain.links) (bare_card j.card here.0)) (bare_cards (without (pre_of n) i) here.1)

pub opened_within : (n : Node) (i : ℕ) (j : InstOf) (s : Assignment) (z : ℕ) → slice_get (pre_of n) i ≡ Some (Inst j) → IsSteadyNode n → IsPlain n → 1 ≤ z → CardsWithin z s
    → AllWithin z (call_measure s (companion_by n (open_link n i j ∷ [])))
opened_within n i j s z at steady plain one cards =
    let l : Link = open_link n i j in
    levels_within z (ends_of n.links ++ length l.tuple ∷ []) (numbers_of s l.own) one (numbers_within s z cards l.own (opened_bare n i j at steady plain))

-- ---- numbers that are cut off

clamp_same : (z : ℕ) (x : ℤ) → IsWithin z x → pos (min z (nat_of x)) ≡ x
clamp_same z (pos k) w = ap pos (least z k (subst (λ (a : ℕ). a ≤ z) (sym (same k w.0 w.1)) w.2))
  where
    same : (a b : ℕ) → pos a ≡ pos b → a ≡ b
    same a b e = cc

    least : (z k : ℕ) → k ≤ z → min z k ≡ k
    least z k l = omega arith
clamp_same z (negsuc k) w = absurd (no k w.0 w.1)
  where
    no : (a b : ℕ) → negsuc a ≡ pos b → ⊥
    no a b e = cc

module _ (z : ℕ) (u : Assignment) where
  abbrev c : Assignment
  c = clamped z u

  clamped_within : CardsWithin z c
  clamped_within v h = (min z (nat_of (u.number v)), ap (λ (b : Bool). cond b (pos (min z (nat_of (u.number v)))) (u.number v)) h, least z (nat_of (u.number v)))
    where
      least : (z k : ℕ) → min z k ≤ z
      least z k = omega arith

  -- a variable whose value is kept, where a cardinality is within z
  number_kept : (v : Var) → (is_card v ≡ true → IsWithin z (u.number v)) → u.number v ≡ c.number v
  number_kept v h = at (is_card v) refl
    where
      at : (b : Bool) → is_card v ≡ b → u.number v ≡ cond b (pos (min z (nat_of (u.number v)))) (u.number v)
      at true e = sym (clamp_same z (u.number v) (h e))
      at false e = refl

  agree_kept : (o : Sort) (v : Var) → u.number v ≡ c.number v → AgreeBy o u c v
  agree_kept Int v e = e
  agree_kept Card v e = e
  agree_kept Set v e = λ x. refl

  value_kept : (b : Option Var) (o : ℤ) → ((v : Var) → var_in v (term_vars (record { base = b; offset = o })) ≡ true → is_card v ≡ true → IsWithin z (u.number v))
      → value u (record { base = b; offset = o }) ≡ value c (record { base = b; offset = o })
  value_kept None o h = refl
  value_kept (Some v) o h = ap (λ (x : ℤ). x +ℤ o) (number_kept v (h v (in_first v)))
    where
      in_first : (v : Var) → var_in v (v ∷ []) ≡ true
      in_first v = among_in v (v ∷ []) (inl refl)

  numbers_kept : (ts : List Term) → ((v : Var) → Among v (flat_map term_vars ts) → is_card v ≡ true → IsWithin z (u.number v)) → numbers_of u ts ≡ numbers_of c ts
  numbers_kept [] h = refl
  numbers_kept (t ∷ ts) h =
      let here = value_kept t.base t.offset (λ v k e. h v (Among-left v (term_vars t) (flat_map term_vars ts) (in_among v (term_vars t) k)) e) in
      let rest = numbers_kept ts (λ v k e. h v (Among-right v (term_vars t) (flat_map term_vars ts) k) e) in
      λ i. nat_of (here i) ∷ rest i

  program_kept : (xs : List Var) → list_all (λ (v : Var). sort_eq v.sort Int) xs ≡ true → map u.number xs ≡ map c.number xs
  program_kept [] h = refl
  program_kept (x ∷ xs) h =
      let both = and_parts (sort_eq x.sort Int) (list_all (λ (v : Var). sort_eq v.sort Int) xs) h in
      let here = number_kept x (λ e. absurd (other x.sort ((Decides-sort_eq x.sort Int).0 both.0) ((Decides-sort_eq x.sort Card).0 e))) in
      let rest = program_kept xs both.1 in
      λ i. here i ∷ rest i
    where
      other : (o : Sort) → o ≡ Int → o ≡ Card → ⊥
      other o e d = cc

-- the precondition and the program variables, where the cardinalities in the goal are at most z
pub clamped_side : (n : Node) (u : Assignment) (h : Store) (ns : List ℕ) (z : ℕ) → IsSteadyNode n → ((v : Var) → Among v (goal_vars n.goal) → is_card v ≡ true → IsWithin z (u.number v))
    → SideHolds n.preds u n.goal.pure_pre n.goal.pre.chunks h ns
    → CardsWithin z (clamped z u) × SideHolds n.preds (clamped z u) n.goal.pure_pre n.goal.pre.chunks h ns × (map u.number n.goal.program ≡ map (clamped z u).number n.goal.program)
clamped_side n u h ns z steady known holds =
    let g : Goal = n.goal in
    let sorted = sorted_goal n steady.raw.steady in (
      clamped_within z u,
      side_depends_on_vars n.preds u (clamped z u) g.pure_pre g.pre.chunks h ns (record { lits = sorted.pure_pre; chunks = sorted.pre })
          (λ v k. agree_kept z u v.sort v (number_kept z u v (known v (of_pre v (in_among v (lits_vars g.pure_pre ++ chunks_vars g.pre.chunks) k))))) holds,
      program_kept z u g.program steady.raw.steady.program_int,
    )
  where
    of_pre : (v : Var) → Among v (lits_vars n.goal.pure_pre ++ chunks_vars n.goal.pre.chunks) → Among v (goal_vars n.goal)
    of_pre v k =
        let g : Goal = n.goal in
        let first : List Var = g.program ++ chunks_vars g.pre.chunks ++ chunks_vars g.post.chunks in
        ⊎_elim
        (λ a. Among-left v (first ++ lits_vars g.pure_pre) (lits_vars g.pure_post) (Among-right v first (lits_vars g.pure_pre) a))
        (λ a.
        Among-left v (first ++ lits_vars g.pure_pre) (lits_vars g.pure_post)
        (Among-left v first (lits_vars g.pure_pre) (Among-left v (g.program ++ chunks_vars g.pre.chunks) (chunks_vars g.post.chunks) (Among-right v g.program (chunks_vars g.pre.chunks) a))))
        (Among-cases v (lits_vars g.pure_pre) (chunks_vars g.pre.chunks) k)

pub clamped_holds : (n : Node) (i : ℕ) (j : InstOf) (u : Assignment) (h : Store) (ns : List ℕ) (z : ℕ) → IsSteadyNode n
    → ((v : Var) → IsTrue (var_in v (goal_vars n.goal ++ flat_map term_vars (open_link n i j).own)) → IsTrue (sort_eq v.sort Card) → IsWithin z (u.number v))
    → SideHolds n.preds u n.goal.pure_pre n.goal.pre.chunks h ns
    → CardsWithin z (clamped z u) × SideHolds n.preds (clamped z u) n.goal.pure_pre n.goal.pre.chunks h ns
    × (map u.number n.goal.program ≡ map (clamped z u).number n.goal.program)
    × (call_measure u (companion_by n (open_link n i j ∷ [])) ≡ call_measure (clamped z u) (companion_by n (open_link n i j ∷ [])))
clamped_holds n i j u h ns z steady within holds =
    let g : Goal = n.goal in
    let own : List Term = (open_link n i j).own in
    let known : (v : Var) → Among v (goal_vars g) → is_card v ≡ true → IsWithin z (u.number v) =
    λ v k e. within v (among_in v (goal_vars g ++ flat_map term_vars own) (Among-left v (goal_vars g) (flat_map term_vars own) k)) e in
    let side = clamped_side n u h ns z steady known holds in
    let numbers = numbers_kept z u own (λ v k e. within v (among_in v (goal_vars g ++ flat_map term_vars own) (Among-right v (goal_vars g) (flat_map term_vars own) k)) e) in (
      side.0,
      side.1,
      side.2,
      (λ x. levels_of (ends_of n.links ++ length (open_link n i j).tuple ∷ []) (numbers x)),
    )
