-- A node that is numbered anew and within limits keeps what each node keeps.
use Rattle.std.proofs.Common.{◌≡◌, ◌∙◌, [], ◌∷◌, ◌++◌, ◌<◌, ◌≤◌, List, Option, Some, None, Bool, IsTrue, true, filter, length, map, not, nat_le, nat_lt, refl, ap, subst, sym, arith, leb-true, ⊎_elim, is_none}
use Rattle.std.specs.List.{AllByRecursion, list_all}
use Rattle.std.proofs.lemmas.Bool.{and_from, and_parts, false≢true, lt-ltb}
use Rattle.std.proofs.lemmas.List.{length-map}
use Rattle.cyp_goal.proofs.LinksFit.{InstPasses, SidesFit, sides_fit}
use Rattle.cyp_goal.proofs.Live.{among_in, in_among}
use Rattle.cyp_goal.proofs.Maps.{filter-map}
use Rattle.cyp_goal.proofs.NormalKeeps.{HasSorts}
use Rattle.cyp_goal.proofs.Ranks.{IsRenaming-name_in, name_in, name_in-new}
use Rattle.cyp_goal.proofs.RenumberAll.{renumbered_vars}
use Rattle.cyp_goal.proofs.Renumber.{no_set}
use Rattle.cyp_goal.proofs.VarTables.{rank_kind}
use Rattle.cyp_goal.specs.Named.{PartsFit, parts_fit}
use Rattle.cyp_goal.specs.Numbering.{new_name, rank_in, renumber}
use Rattle.cyp_goal.specs.Raw.{arg_fits, chunk_fits}
use Rattle.cyp_heap.specs.Chunks.{card_vars}
use Rattle.cyp_heap.specs.Formed.{insts_fit, is_card_var}
use Rattle.cyp_heap.specs.Goals.{node_vars}
use Rattle.cyp_heap.specs.Limits.{is_within_limits}
use Rattle.cyp_heap.specs.declared.chunk.Chunk.{Chunk}
use Rattle.cyp_heap.specs.declared.chunk.Chunk.TheVariants.{Block, Cell, Inst}
use Rattle.cyp_heap.specs.declared.chunk.InstOf.{InstOf}
use Rattle.cyp_heap.specs.declared.goal.Node.{Node}
use Rattle.cyp_term.proofs.Lists.{Among, Among-cases, each_at, each_from, map_from}
use Rattle.cyp_term.specs.Terms.{is_set_var, sort_eq, var_in}
use Rattle.cyp_term.specs.declared.term.Sort.{Sort}
use Rattle.cyp_term.specs.declared.term.Sort.TheVariants.{Card, Int, Set}
use Rattle.cyp_term.specs.declared.term.Var.{Var}

-- ---- sorts, those of cardinalities among them

card_sort : (s : Sort) → sort_eq s Card ≡ true → not (sort_eq s Set) ≡ true
card_sort Int h = absurd (false≢true h)
card_sort Card h = refl
card_sort Set h = absurd (false≢true h)

card_fits : (c : Option Var) → IsTrue (is_card_var c) → list_all no_set (card_vars c) ≡ true
card_fits None h = refl
card_fits (Some v) h = and_from (no_set v) true (card_sort v.sort h) refl

none_fits : (c : Option Var) → IsTrue (is_none c) → list_all no_set (card_vars c) ≡ true
none_fits None h = refl
none_fits (Some v) h = absurd (false≢true h)

chunks_fit : (p q : InstOf → Bool) → ((i : InstOf) → IsTrue (q i) → list_all no_set (card_vars i.card) ≡ true) → (cs : List Chunk) → list_all parts_fit cs ≡ true
    → AllByRecursion (InstPasses p q) cs → list_all (chunk_fits no_set is_set_var) cs ≡ true
chunks_fit p q card [] h k = refl
chunks_fit p q card (Inst i ∷ cs) h k =
    let both = and_parts (parts_fit (Inst i)) (list_all parts_fit cs) h in
    and_from (chunk_fits no_set is_set_var (Inst i)) (list_all (chunk_fits no_set is_set_var) cs)
    (and_from (list_all (arg_fits no_set is_set_var) i.args) (list_all no_set (card_vars i.card)) both.0 (card i k.0.1))
    (chunks_fit p q card cs both.1 k.1)
chunks_fit p q card (Block b ∷ cs) h k =
    let both = and_parts (parts_fit (Block b)) (list_all parts_fit cs) h in
    and_from (chunk_fits no_set is_set_var (Block b)) (list_all (chunk_fits no_set is_set_var) cs) both.0 (chunks_fit p q card cs both.1 k.1)
chunks_fit p q card (Cell c ∷ cs) h k =
    let both = and_parts (parts_fit (Cell c)) (list_all parts_fit cs) h in
    and_from (chunk_fits no_set is_set_var (Cell c)) (list_all (chunk_fits no_set is_set_var) cs) both.0 (chunks_fit p q card cs both.1 k.1)

-- a node whose parts and instances fit has variables of the sorts of their places
pub sorts_from : (n : Node) → IsTrue (insts_fit n.preds n.goal) → PartsFit n → HasSorts no_set is_set_var n
sorts_from n insts parts =
    let sides : SidesFit n.preds n.goal = sides_fit n.preds n.goal insts in
    record {
      pure_pre = parts.goal.pure_pre;
      pre = chunks_fit _ (λ (i : InstOf). is_card_var i.card) (λ i h. card_fits i.card h) n.goal.pre.chunks parts.goal.pre sides.pre;
      pure_post = parts.goal.pure_post;
      post = chunks_fit _ (λ (i : InstOf). is_none i.card) (λ i h. none_fits i.card h) n.goal.post.chunks parts.goal.post sides.post;
      links = parts.links;
    }

-- ---- numbers

-- both kinds of variables are few
pub record AreFew (vs : List Var) : Type 0 where
  pub ints : length (filter no_set vs) ≤ 32
  pub sets : length (filter is_set_var vs) ≤ 12

rank_low : (vs : List Var) → AreFew vs → (v : Var) → Among v vs → rank_in vs v < 32
rank_low vs few v k =
    ⊎_elim (λ (less : rank_in vs v < length (filter no_set vs)). let most : length (filter no_set vs) ≤ 32 = few.ints in omega arith)
    (λ (less : rank_in vs v < length (filter is_set_var vs)). let most : length (filter is_set_var vs) ≤ 12 = few.sets in omega arith)
    (rank_kind vs v (among_in v vs k))

-- where a node is within limits its variables are few
few_within : (m : Node) → IsTrue (is_within_limits m) → AreFew (node_vars m)
few_within m w =
    let ints = length (filter no_set (node_vars m)) in
    let sets = length (filter is_set_var (node_vars m)) in
    let a = and_parts _ _ w in
    let b = and_parts _ _ a.0 in
    let c = and_parts _ _ b.0 in
    let d = and_parts _ (nat_le sets 12) c.0 in
    let e = and_parts _ (nat_le ints 32) d.0 in
    record { ints = leb-true ints 32 e.1; sets = leb-true sets 12 d.1 }

-- a test that new names keep passes for as many
pub as_many : (test : Var → Bool) (r : Var → Var) → ((v : Var) → test (r v) ≡ test v) → (vs us : List Var) → us ≡ map r vs → length (filter test us) ≡ length (filter test vs)
as_many test r keeps vs us e = ap (λ ws. length (filter test ws)) e ∙ ap length (filter-map r test test keeps vs) ∙ length-map (filter test vs) r

module _ (n : Node) (sorts : HasSorts no_set is_set_var n) (used : IsTrue (list_all (λ v. var_in v (node_vars n)) n.goal.exist)) where
  abbrev vs : List Var
  vs = node_vars n

  used_there : (v : Var) → Among v n.goal.exist → Among v vs
  used_there v k = in_among v vs (each_at (λ w. var_in w vs) v n.goal.exist used k)

  vars_are : node_vars (renumber n) ≡ map (name_in vs) vs
  vars_are = renumbered_vars n (name_in vs) (IsRenaming-name_in vs) (name_in-new vs) sorts used_there

  -- as many integers and cardinalities, and as many sets
  pub ints_stay : length (filter no_set (node_vars (renumber n))) ≡ length (filter no_set vs)
  ints_stay = as_many no_set (name_in vs) (λ v. refl) vs (node_vars (renumber n)) vars_are

  pub sets_stay : length (filter is_set_var (node_vars (renumber n))) ≡ length (filter is_set_var vs)
  sets_stay = as_many is_set_var (name_in vs) (λ v. refl) vs (node_vars (renumber n)) vars_are

  few_before : AreFew (node_vars (renumber n)) → AreFew vs
  few_before few = record { ints = subst (λ k. k ≤ 32) ints_stay few.ints; sets = subst (λ k. k ≤ 12) sets_stay few.sets }

  named_low : AreFew vs → (v w : Var) → Among w vs → v ≡ new_name vs w → nat_lt v.number 32 ≡ true
  named_low few v w k e = ap (λ (u : Var). nat_lt u.number 32) e ∙ lt-ltb (rank_in vs w) 32 (rank_low vs few w k)

  pub numbers_low : IsTrue (is_within_limits (renumber n)) → IsTrue (list_all (λ (v : Var). nat_lt v.number 32) (node_vars (renumber n) ++ (renumber n).goal.exist))
  numbers_low within =
      let m : Node = renumber n in
      let few : AreFew vs = few_before (few_within m within) in
      each_from (λ (v : Var). nat_lt v.number 32) (node_vars m ++ m.goal.exist) (λ v k.
      ⊎_elim (λ i. let w = map_from (name_in vs) v vs (subst (Among v) vars_are i) in named_low few v w.0 w.1 (w.2 ∙ sym (name_in-new vs w.0 w.1)))
      (λ i. let w = map_from (new_name vs) v n.goal.exist i in named_low few v w.0 (used_there w.0 w.1) w.2)
      (Among-cases v (node_vars m) m.goal.exist k))
