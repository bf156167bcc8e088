-- Tidying and renaming may change places.
use Rattle.std.proofs.Common.{◌≡◌, ◌∙◌, List, Some, None, ◌&&◌, not, map, filter, flat_map, pos, int_le, int_lt, refl, ap, ap₂}
use Rattle.std.specs.Ordering.{int_eq}
use Rattle.cyp_goal.specs.Normal.{tidy_node}
use Rattle.cyp_goal.specs.Tidying.{above_zero, address, address_lits, is_plainly_true, least_of, offsets_at, tidy_lits}
use Rattle.cyp_heap.specs.declared.chunk.Chunk.{Chunk}
use Rattle.cyp_heap.specs.declared.chunk.Chunk.TheVariants.{Block, Cell, Inst}
use Rattle.cyp_heap.specs.declared.goal.Goal.{Goal}
use Rattle.cyp_heap.specs.declared.goal.Node.{Node}
use Rattle.cyp_term.specs.Terms.{base_eq, lit_eq, term_vars, var_eq, with_all_new, without_repeats}
use Rattle.cyp_term.specs.declared.lit.Lit.{Lit}
use Rattle.cyp_term.specs.declared.lit.Lit.TheVariants.{Eq, Le, Lt, Ne, Same}
use Rattle.cyp_term.specs.declared.term.Term.{Term}
use Rattle.cyp_term.specs.declared.term.Var.{Var}
use Rattle.cyp_goal.proofs.Maps.{filter-map, flat_map-map, joined, map_after, map_both, with_all_new-map, without_repeats-map}
use Rattle.cyp_goal.proofs.Rename.{IsRenaming, base_eq-rename, lit_eq-rename, rename_chunk, rename_link, rename_lit, rename_node, rename_term, set_eq-rename}
use Rattle.cyp_goal.proofs.RenameVars.{terms_vars-rename}

module _ (r : Var → Var) (is : IsRenaming r) where
  is_plainly_true-rename : (l : Lit) → is_plainly_true (rename_lit r l) ≡ is_plainly_true l
  is_plainly_true-rename (Eq a b) = ap (λ e. e && int_eq a.offset b.offset) (base_eq-rename r is a.base b.base)
  is_plainly_true-rename (Ne a b) = ap (λ e. e && not (int_eq a.offset b.offset)) (base_eq-rename r is a.base b.base)
  is_plainly_true-rename (Le a b) = ap (λ e. e && int_le a.offset b.offset) (base_eq-rename r is a.base b.base)
  is_plainly_true-rename (Lt a b) = ap (λ e. e && int_lt a.offset b.offset) (base_eq-rename r is a.base b.base)
  is_plainly_true-rename (Same a b) = set_eq-rename r is a b
  is_plainly_true-rename _ = refl

  pub tidy_lits-rename : (ls : List Lit) → tidy_lits (map (rename_lit r) ls) ≡ map (rename_lit r) (tidy_lits ls)
  tidy_lits-rename ls =
      ap (without_repeats lit_eq)
      (filter-map (rename_lit r) (λ l. not (is_plainly_true l)) (λ l. not (is_plainly_true l)) (λ l. ap not (is_plainly_true-rename l)) ls)
      ∙ without_repeats-map (rename_lit r) lit_eq lit_eq (lit_eq-rename r is) (filter (λ l. not (is_plainly_true l)) ls)

  address-rename : (c : Chunk) → address (rename_chunk r c) ≡ map (rename_term r) (address c)
  address-rename (Inst i) = refl
  address-rename (Block k) = refl
  address-rename (Cell k) = refl

  abbrev at_base : Var → List Term → List Term
  at_base v ts = filter (λ (t : Term). base_eq (Some v) t.base) ts

  offsets_at-rename : (v : Var) (ts : List Term) → offsets_at (r v) (map (rename_term r) ts) ≡ offsets_at v ts
  offsets_at-rename v ts =
      ap (map (λ (t : Term). t.offset))
      (filter-map (rename_term r) (λ (t : Term). base_eq (Some v) t.base) (λ (t : Term). base_eq (Some (r v)) t.base) (λ t. base_eq-rename r is (Some v) t.base) ts)
      ∙ map_after (rename_term r) (λ (t : Term). t.offset) (λ (t : Term). t.offset) (λ t. refl) (at_base v ts)

  abbrev least_above_zero : List Term → Var → Lit
  least_above_zero ts v = above_zero (record { base = Some v; offset = least_of (offsets_at v ts) })

  pub address_lits-rename : (ts : List Term) → address_lits (map (rename_term r) ts) ≡ map (rename_lit r) (address_lits ts)
  address_lits-rename ts =
      let bases : List Var = without_repeats var_eq (flat_map term_vars ts) in
      let plain : List Term = filter (λ (t : Term). base_eq t.base None && int_le t.offset (pos 0)) ts in
      joined (rename_lit r) (map (least_above_zero ts) bases) (map above_zero plain) _ _
      (ap (map (least_above_zero (map (rename_term r) ts)))
      (ap (without_repeats var_eq) (terms_vars-rename r ts) ∙ without_repeats-map r var_eq var_eq is.apart (flat_map term_vars ts))
      ∙ map_both r (least_above_zero (map (rename_term r) ts)) (least_above_zero ts) (rename_lit r)
      (λ v. ap (λ z. above_zero (record { base = Some (r v); offset = least_of z })) (offsets_at-rename v ts)) bases)
      (ap (map above_zero)
      (filter-map (rename_term r) (λ (t : Term). base_eq t.base None && int_le t.offset (pos 0)) (λ (t : Term). base_eq t.base None && int_le t.offset (pos 0))
      (λ t. ap (λ e. e && int_le t.offset (pos 0)) (base_eq-rename r is t.base None)) ts)
      ∙ map_both (rename_term r) above_zero above_zero (rename_lit r) (λ t. refl) plain)

  addresses-rename : (cs : List Chunk) → flat_map address (map (rename_chunk r) cs) ≡ map (rename_term r) (flat_map address cs)
  addresses-rename cs = flat_map-map (rename_chunk r) address address (rename_term r) address-rename cs

  pub tidy_node-rename : (n : Node) → tidy_node (rename_node r n) ≡ rename_node r (tidy_node n)
  tidy_node-rename n =
      let g : Goal = n.goal in
      let pre : with_all_new lit_eq (tidy_lits (map (rename_lit r) g.pure_pre)) (address_lits (flat_map address (map (rename_chunk r) g.pre.chunks)))
      ≡ map (rename_lit r) (with_all_new lit_eq (tidy_lits g.pure_pre) (address_lits (flat_map address g.pre.chunks)))
      = ap₂ (with_all_new lit_eq) (tidy_lits-rename g.pure_pre) (ap address_lits (addresses-rename g.pre.chunks) ∙ address_lits-rename (flat_map address g.pre.chunks))
      ∙ with_all_new-map (rename_lit r) lit_eq lit_eq (lit_eq-rename r is) (tidy_lits g.pure_pre) (address_lits (flat_map address g.pre.chunks)) in
      λ i. record {
        preds = n.preds;
        goal = record {
          program = map r g.program;
          exist = map r g.exist;
          pure_pre = pre i;
          pre = record { chunks = map (rename_chunk r) g.pre.chunks };
          pure_post = tidy_lits-rename g.pure_post i;
          post = record { chunks = map (rename_chunk r) g.post.chunks };
        };
        links = map (rename_link r) n.links;
      }
