-- What tidying leaves: nothing that is plainly true, no repeats, and that addresses are positive.
use Rattle.std.proofs.Common.{◌≡◌, ◌∙◌, ◌⊎◌, [], List, Some, None, Bool, true, false, ◌&&◌, not, map, filter, flat_map, ℤ, pos, int_le, int_lt, refl, ap, inl, inr, ⊎_elim, arith}
use Rattle.std.specs.List.{list_all, list_any}
use Rattle.std.specs.Option.{is_none}
use Rattle.std.proofs.lemmas.Bool.{and_from, and_parts, false_from_ne_true}
use Rattle.std.proofs.lemmas.Int.{ints}
use Rattle.cyp_goal.proofs.Added.{added_new, added_out}
use Rattle.cyp_goal.proofs.AllNew.{all_new-with_all_new, all_new-without_repeats, filter-all, with_all_new-there, without_repeats-all_new}
use Rattle.cyp_goal.proofs.LitEquality.{Decides-lit_eq, lit_self}
use Rattle.cyp_goal.proofs.SolveLeaves.{IsSolved, apart}
use Rattle.cyp_goal.specs.Normal.{tidy_node}
use Rattle.cyp_goal.specs.Solving.{solved_any, solved_eq}
use Rattle.cyp_goal.specs.Raw.{lit_once, all_new, chunk_fits, lit_fits, term_fits}
use Rattle.cyp_goal.specs.Tidying.{above_zero, address, address_lits, is_plainly_true, least_of, offsets_at, tidy_lits}
use Rattle.cyp_heap.specs.declared.chunk.Chunk.{Chunk}
use Rattle.cyp_heap.specs.declared.chunk.Chunk.TheVariants.{Block, Cell, Inst}
use Rattle.cyp_heap.specs.declared.goal.Goal.{Goal}
use Rattle.cyp_heap.specs.declared.goal.Node.{Node}
use Rattle.cyp_term.proofs.Equality.{Decides-base_eq, Decides-var_eq}
use Rattle.cyp_term.proofs.Lists.{Among, Among-cases, each_at, each_from, filter_out, flat_out, map_from, some_from}
use Rattle.cyp_term.proofs.Repeats.{without_repeats_out}
use Rattle.cyp_term.specs.Terms.{base_eq, base_vars, lit_eq, term_vars, var_eq, var_in, with_all_new, without_repeats}
use Rattle.cyp_term.specs.declared.lit.Lit.{Lit}
use Rattle.cyp_term.specs.declared.term.Term.{Term}
use Rattle.cyp_term.specs.declared.term.Var.{Var}

-- ---- literals that addresses are positive

-- such a literal has the base of an address, or is about a number that isn't positive
abbrev pub AddressLit : List Term → Lit → Type 0
AddressLit ts l =
    ((t : Term) × (v : Var) × (l ≡ above_zero t) × Among v (flat_map term_vars ts) × (t.base ≡ Some v))
    ⊎ ((t : Term) × (l ≡ above_zero t) × (t.base ≡ None) × (int_le t.offset (pos 0) ≡ true))

pub address_lit : (ts : List Term) (l : Lit) → Among l (address_lits ts) → AddressLit ts l
address_lit ts l k =
    let least_at : Var → Lit = λ v. above_zero (record { base = Some v; offset = least_of (offsets_at v ts) }) in
    let plain : Term → Bool = λ t. base_eq t.base None && int_le t.offset (pos 0) in
    ⊎_elim
    (λ m.
    let r = map_from least_at l (without_repeats var_eq (flat_map term_vars ts)) m in
    inl (record { base = Some r.0; offset = least_of (offsets_at r.0 ts) }, r.0, r.2, without_repeats_out var_eq Decides-var_eq r.0 (flat_map term_vars ts) r.1, refl))
    (λ m.
    let r = map_from above_zero l (filter plain ts) m in
    let both = and_parts (base_eq r.0.base None) (int_le r.0.offset (pos 0)) (filter_out plain r.0 ts r.1).1 in
    inr (r.0, r.2, (Decides-base_eq r.0.base None).0 both.0, both.1))
    (Among-cases l (map least_at (without_repeats var_eq (flat_map term_vars ts))) (map above_zero (filter plain ts)) k)

not_above : (z : ℤ) → int_le z (pos 0) ≡ true → int_lt (pos 0) z ≡ false
not_above z h = false_from_ne_true (int_lt (pos 0) z) (λ e. omega (arith, ints))

-- it isn't plainly true
address_not_plain : (ts : List Term) (l : Lit) → AddressLit ts l → not (is_plainly_true l) ≡ true
address_not_plain ts l (inl h) =
    ap (λ m. not (is_plainly_true m)) h.2 ∙ ap (λ b. not (base_eq None b && int_lt (pos 0) h.0.offset)) h.4
address_not_plain ts l (inr h) =
    ap (λ m. not (is_plainly_true m)) h.1 ∙ ap (λ b. not (base_eq None b && int_lt (pos 0) h.0.offset)) h.2 ∙ ap not (not_above h.0.offset h.3)

-- nothing is solved for in it
address_none : (test : Var → Bool) (ts : List Term) (l : Lit) → AddressLit ts l → is_none (solved_eq test l) ≡ true
address_none test ts l (inl h) = ap (λ m. is_none (solved_eq test m)) h.2
address_none test ts l (inr h) = ap (λ m. is_none (solved_eq test m)) h.1

-- it has no set term
address_once : (ts : List Term) (l : Lit) → AddressLit ts l → lit_once l ≡ true
address_once ts l (inl h) = ap lit_once h.2
address_once ts l (inr h) = ap lit_once h.1

module _ (p q : Var → Bool) where
  pub address_lit_fits : (ts : List Term) (l : Lit) → list_all (term_fits p) ts ≡ true → AddressLit ts l → lit_fits p q l ≡ true
  address_lit_fits ts l f (inl h) =
      let t = flat_out term_vars h.1 ts h.3 in
      ap (lit_fits p q) h.2 ∙ ap (λ b. list_all p (base_vars b)) h.4
      ∙ and_from (p h.1) true (each_at p h.1 (term_vars t.0) (each_at (term_fits p) t.0 ts f t.1) t.2) refl
  address_lit_fits ts l f (inr h) = ap (lit_fits p q) h.1 ∙ ap (λ b. list_all p (base_vars b)) h.2

  address_at : (c : Chunk) (t : Term) → chunk_fits p q c ≡ true → Among t (address c) → term_fits p t ≡ true
  address_at (Inst i) t f k = absurd k
  address_at (Block b) t f (inl e) = ap (term_fits p) e ∙ f
  address_at (Block b) t f (inr k) = absurd k
  address_at (Cell c) t f (inl e) = ap (term_fits p) e ∙ (and_parts (term_fits p c.at) (term_fits p c.content) f).0
  address_at (Cell c) t f (inr k) = absurd k

  pub addresses_fit : (cs : List Chunk) → list_all (chunk_fits p q) cs ≡ true → list_all (term_fits p) (flat_map address cs) ≡ true
  addresses_fit cs f = each_from (term_fits p) (flat_map address cs) (λ t k. let r = flat_out address t cs k in address_at r.0 t (each_at (chunk_fits p q) r.0 cs f r.1) r.2)

  -- ---- what tidying leaves
  pub record IsTidy (m : Node) : Type 0 where
    pub solved : IsSolved p q m
    pub pre_tells : list_all (λ l. not (is_plainly_true l)) m.goal.pure_pre ≡ true
    pub post_tells : list_all (λ l. not (is_plainly_true l)) m.goal.pure_post ≡ true
    pub pre_once : all_new lit_eq [] m.goal.pure_pre ≡ true
    pub post_once : all_new lit_eq [] m.goal.pure_post ≡ true
    pub addresses : (l : Lit) → Among l (address_lits (flat_map address m.goal.pre.chunks)) → Among l m.goal.pure_pre

  tidy_among : (ls : List Lit) (l : Lit) → Among l (tidy_lits ls) → Among l ls × (not (is_plainly_true l) ≡ true)
  tidy_among ls l k = filter_out (λ m. not (is_plainly_true m)) l ls (without_repeats_out lit_eq Decides-lit_eq l (filter (λ m. not (is_plainly_true m)) ls) k)

  -- what holds of each literal and of those that addresses are positive holds of each that is left
  pub pre_each : (test : Lit → Bool) (ls : List Lit) (ts : List Term) → ((l : Lit) → Among l ls → not (is_plainly_true l) ≡ true → test l ≡ true) → ((l : Lit) → AddressLit ts l → test l ≡ true)
      → list_all test (with_all_new lit_eq (tidy_lits ls) (address_lits ts)) ≡ true
  pre_each test ls ts old new =
      each_from test (with_all_new lit_eq (tidy_lits ls) (address_lits ts)) (λ l k.
      ⊎_elim (λ m. let r = tidy_among ls l m in old l r.0 r.1) (λ m. new l (address_lit ts l m)) (added_out lit_eq Decides-lit_eq l (tidy_lits ls) (address_lits ts) k))

  pub post_each : (test : Lit → Bool) (ls : List Lit) → ((l : Lit) → Among l ls → not (is_plainly_true l) ≡ true → test l ≡ true) → list_all test (tidy_lits ls) ≡ true
  post_each test ls old = each_from test (tidy_lits ls) (λ l k. let r = tidy_among ls l k in old l r.0 r.1)

  pub tidy_leaves : (m : Node) → IsSolved p q m → IsTidy (tidy_node m)
  tidy_leaves m s =
      let g : Goal = m.goal in
      let ts : List Term = flat_map address g.pre.chunks in
      record {
        solved = record {
          fits = record {
            pure_pre = pre_each (lit_fits p q) g.pure_pre ts (λ l k _. each_at (lit_fits p q) l g.pure_pre s.fits.pure_pre k)
                (λ l k. address_lit_fits ts l (addresses_fit g.pre.chunks s.fits.pre) k);
            pre = s.fits.pre;
            pure_post = post_each (lit_fits p q) g.pure_post (λ l k _. each_at (lit_fits p q) l g.pure_post s.fits.pure_post k);
            post = s.fits.post;
            links = s.fits.links;
            pre_once = pre_each lit_once g.pure_pre ts (λ l k _. each_at lit_once l g.pure_pre s.fits.pre_once k) (address_once ts);
            post_once = post_each lit_once g.pure_post (λ l k _. each_at lit_once l g.pure_post s.fits.post_once k);
          };
          none_pre = pre_each (λ l. is_none (solved_eq (apart g.program) l)) g.pure_pre ts
              (λ l k _. each_at (λ x. is_none (solved_eq (apart g.program) x)) l g.pure_pre s.none_pre k) (address_none (apart g.program) ts);
          none_post = post_each (λ l. is_none (solved_any (λ v. var_in v g.exist) l)) g.pure_post
              (λ l k _. each_at (λ x. is_none (solved_any (λ v. var_in v g.exist) x)) l g.pure_post s.none_post k);
        };
        pre_tells = pre_each (λ l. not (is_plainly_true l)) g.pure_pre ts (λ l _ e. e) (address_not_plain ts);
        post_tells = post_each (λ l. not (is_plainly_true l)) g.pure_post (λ l _ e. e);
        pre_once = all_new-with_all_new lit_eq (tidy_lits g.pure_pre) (address_lits ts)
            (all_new-without_repeats lit_eq (filter (λ l. not (is_plainly_true l)) g.pure_pre));
        post_once = all_new-without_repeats lit_eq (filter (λ l. not (is_plainly_true l)) g.pure_post);
        addresses = λ l k. added_new lit_eq Decides-lit_eq l (tidy_lits g.pure_pre) (address_lits ts) k;
      }

  tidy_lits_same : (ls : List Lit) → list_all (λ l. not (is_plainly_true l)) ls ≡ true → all_new lit_eq [] ls ≡ true → tidy_lits ls ≡ ls
  tidy_lits_same ls tells once = ap (without_repeats lit_eq) (filter-all (λ l. not (is_plainly_true l)) ls tells) ∙ without_repeats-all_new lit_eq ls once

  -- a tidy node stays as it is
  pub tidy_same : (m : Node) → IsTidy m → tidy_node m ≡ m
  tidy_same m t =
      let g : Goal = m.goal in
      let al : List Lit = address_lits (flat_map address g.pre.chunks) in
      let pre : with_all_new lit_eq (tidy_lits g.pure_pre) al ≡ g.pure_pre =
      ap (λ ls. with_all_new lit_eq ls al) (tidy_lits_same g.pure_pre t.pre_tells t.pre_once)
      ∙ with_all_new-there lit_eq g.pure_pre al (each_from (λ l. list_any (lit_eq l) g.pure_pre) al (λ l k. some_from (lit_eq l) l g.pure_pre (t.addresses l k) (lit_self l))) in
      let post : tidy_lits g.pure_post ≡ g.pure_post = tidy_lits_same g.pure_post t.post_tells t.post_once in
      λ i. record {
        preds = m.preds;
        goal = record { program = g.program; exist = g.exist; pure_pre = pre i; pre = g.pre; pure_post = post i; post = g.post };
        links = m.links;
      }
