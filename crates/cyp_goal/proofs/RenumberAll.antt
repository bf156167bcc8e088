-- Numbering anew is a renaming of what has no repeats in any set term.
use Rattle.std.proofs.Common.{◌≡◌, ◌∙◌, [], ◌++◌, List, true, ◌&&◌, map, flat_map, ap}
use Rattle.std.specs.List.{list_all}
use Rattle.cyp_goal.proofs.NormalKeeps.{HasSorts}
use Rattle.cyp_goal.proofs.Rename.{IsRenaming, rename_link, rename_lit, rename_node, rename_set, rename_term}
use Rattle.cyp_goal.proofs.RenameVars.{node_vars-rename}
use Rattle.cyp_goal.proofs.Renumber.{chunks_named, link_named, map_where, map_where_twice, no_set, of_links, of_post, of_pre, of_program, of_pure_post, of_pure_pre, set_term_named, term_named, two_named}
use Rattle.cyp_goal.proofs.SameVars.{AddSame, same_append}
use Rattle.cyp_goal.proofs.Shrink.{node_vars-shrink, same_mapped, same_self, set_same, shrink_link, shrink_node, shrink_set}
use Rattle.cyp_goal.specs.Numbering.{new_name, numbering, renumber}
use Rattle.cyp_goal.specs.Raw.{link_fits, lit_fits, set_fits, term_fits}
use Rattle.cyp_heap.specs.Chunks.{chunks_vars}
use Rattle.cyp_heap.specs.Goals.{apply_link, goal_vars, image_vars, node_vars}
use Rattle.cyp_heap.specs.declared.goal.Goal.{Goal}
use Rattle.cyp_heap.specs.declared.goal.Link.{Link}
use Rattle.cyp_heap.specs.declared.goal.Node.{Node}
use Rattle.cyp_term.proofs.Lists.{Among, each_at, flat_in}
use Rattle.cyp_term.specs.Terms.{apply_lit, apply_set, apply_term, is_set_var, lit_vars, lits_vars, set_vars, term_vars}
use Rattle.cyp_term.specs.declared.lit.Lit.{Lit}
use Rattle.cyp_term.specs.declared.lit.Lit.TheVariants.{Eq, Le, Lt, Member, Ne, NotMember, NotSame, NotSub, Same, Sub}
use Rattle.cyp_term.specs.declared.lit.SetTerm.{SetTerm}
use Rattle.cyp_term.specs.declared.term.Term.{Term}
use Rattle.cyp_term.specs.declared.term.Var.{Var}

-- ---- literals whose set terms have no repeats

abbrev pub shrink_lit : Lit → Lit
shrink_lit (Same a b) = Same (shrink_set a) (shrink_set b)
shrink_lit (NotSame a b) = NotSame (shrink_set a) (shrink_set b)
shrink_lit (Member t b) = Member t (shrink_set b)
shrink_lit (NotMember t b) = NotMember t (shrink_set b)
shrink_lit (Sub a b) = Sub (shrink_set a) (shrink_set b)
shrink_lit (NotSub a b) = NotSub (shrink_set a) (shrink_set b)
shrink_lit l = l

abbrev pub shrink_lits : Node → Node
shrink_lits n = record n { goal = record n.goal { pure_pre = map shrink_lit n.goal.pure_pre; pure_post = map shrink_lit n.goal.pure_post } }

abbrev pub shrink_all : Node → Node
shrink_all n = shrink_node (shrink_lits n)

-- ---- the same variables

two_same : (a b : SetTerm) → AddSame (set_vars (shrink_set a) ++ set_vars (shrink_set b)) (set_vars a ++ set_vars b)
two_same a b = same_append (set_vars (shrink_set a)) (set_vars a) (set_vars (shrink_set b)) (set_vars b) (set_same a) (set_same b)

behind_same : (t : Term) (b : SetTerm) → AddSame (term_vars t ++ set_vars (shrink_set b)) (term_vars t ++ set_vars b)
behind_same t b = same_append (term_vars t) (term_vars t) (set_vars (shrink_set b)) (set_vars b) (same_self (term_vars t)) (set_same b)

lit_same : (l : Lit) → AddSame (lit_vars (shrink_lit l)) (lit_vars l)
lit_same (Eq a b) = same_self (term_vars a ++ term_vars b)
lit_same (Ne a b) = same_self (term_vars a ++ term_vars b)
lit_same (Le a b) = same_self (term_vars a ++ term_vars b)
lit_same (Lt a b) = same_self (term_vars a ++ term_vars b)
lit_same (Same a b) = two_same a b
lit_same (NotSame a b) = two_same a b
lit_same (Member t b) = behind_same t b
lit_same (NotMember t b) = behind_same t b
lit_same (Sub a b) = two_same a b
lit_same (NotSub a b) = two_same a b

lits_same : (ls : List Lit) → AddSame (lits_vars (map shrink_lit ls)) (lits_vars ls)
lits_same ls = same_mapped shrink_lit lit_vars lit_same ls

goal_same : (n : Node) → AddSame (goal_vars (shrink_lits n).goal) (goal_vars n.goal)
goal_same n =
    let g : Goal = n.goal in
    let a = g.program ++ chunks_vars g.pre.chunks ++ chunks_vars g.post.chunks in
    let d = lits_vars g.pure_pre in
    let d' = lits_vars (map shrink_lit g.pure_pre) in
    let e = lits_vars g.pure_post in
    let e' = lits_vars (map shrink_lit g.pure_post) in
    same_append (a ++ d') (a ++ d) e' e (same_append a a d' d (same_self a) (lits_same g.pure_pre)) (lits_same g.pure_post)

pub node_vars-shrink_all : (n : Node) → node_vars (shrink_all n) ≡ node_vars n
node_vars-shrink_all n =
    let later : List Var = flat_map (λ (k : Link). flat_map term_vars k.tuple ++ image_vars k.map) n.links in
    node_vars-shrink (shrink_lits n) ∙ same_append (goal_vars (shrink_lits n).goal) (goal_vars n.goal) later later (goal_same n) (same_self later) []

-- ---- literals under new names

module _ (vs : List Var) (r : Var → Var) (is : IsRenaming r) (new : (v : Var) → Among v vs → new_name vs v ≡ r v) where
  -- each of these is in the list
  abbrev In : List Var → Type 0
  In us = (v : Var) → Among v us → Among v vs

  two_terms : (f : Term → Term → Lit) (a b : Term) → (term_fits no_set a && term_fits no_set b) ≡ true → In (term_vars a ++ term_vars b)
      → f (apply_term (numbering vs) a) (apply_term (numbering vs) b) ≡ f (rename_term r a) (rename_term r b)
  two_terms f a b h k =
      two_named vs r is new f _ _ _ _ (term_fits no_set a) (term_fits no_set b) (term_vars a) (term_vars b) (term_named vs r is new a) (term_named vs r is new b) h k

  two_sets : (f : SetTerm → SetTerm → Lit) (a b : SetTerm) → (set_fits no_set is_set_var a && set_fits no_set is_set_var b) ≡ true → In (set_vars a ++ set_vars b)
      → f (apply_set (numbering vs) a) (apply_set (numbering vs) b) ≡ f (rename_set r (shrink_set a)) (rename_set r (shrink_set b))
  two_sets f a b h k =
      two_named vs r is new f _ _ _ _ (set_fits no_set is_set_var a) (set_fits no_set is_set_var b) (set_vars a) (set_vars b) (set_term_named vs r is new a) (set_term_named vs r is new b) h k

  term_and_set : (f : Term → SetTerm → Lit) (a : Term) (b : SetTerm) → (term_fits no_set a && set_fits no_set is_set_var b) ≡ true → In (term_vars a ++ set_vars b)
      → f (apply_term (numbering vs) a) (apply_set (numbering vs) b) ≡ f (rename_term r a) (rename_set r (shrink_set b))
  term_and_set f a b h k =
      two_named vs r is new f _ _ _ _ (term_fits no_set a) (set_fits no_set is_set_var b) (term_vars a) (set_vars b) (term_named vs r is new a) (set_term_named vs r is new b) h k

  lit_named : (l : Lit) → lit_fits no_set is_set_var l ≡ true → In (lit_vars l) → apply_lit (numbering vs) l ≡ rename_lit r (shrink_lit l)
  lit_named (Eq a b) = two_terms Eq a b
  lit_named (Ne a b) = two_terms Ne a b
  lit_named (Le a b) = two_terms Le a b
  lit_named (Lt a b) = two_terms Lt a b
  lit_named (Same a b) = two_sets Same a b
  lit_named (NotSame a b) = two_sets NotSame a b
  lit_named (Member t b) = term_and_set Member t b
  lit_named (NotMember t b) = term_and_set NotMember t b
  lit_named (Sub a b) = two_sets Sub a b
  lit_named (NotSub a b) = two_sets NotSub a b

  lits_named : (ls : List Lit) → list_all (lit_fits no_set is_set_var) ls ≡ true → In (lits_vars ls) → map (apply_lit (numbering vs)) ls ≡ map (rename_lit r) (map shrink_lit ls)
  lits_named ls h k =
      map_where_twice (apply_lit (numbering vs)) (rename_lit r) shrink_lit ls
      (λ l i. lit_named l (each_at (lit_fits no_set is_set_var) l ls h i) (λ v m. k v (flat_in lit_vars v l ls i m)))

-- ---- nodes

-- numbering is a renaming, where each variable has the sort of its place and each existential stands somewhere
renumber-names : (n : Node) (r : Var → Var) → IsRenaming r → ((v : Var) → Among v (node_vars n) → new_name (node_vars n) v ≡ r v) → HasSorts no_set is_set_var n
    → ((v : Var) → Among v n.goal.exist → Among v (node_vars n)) → renumber n ≡ rename_node r (shrink_all n)
renumber-names n r is new f used =
    let vs : List Var = node_vars n in
    let g : Goal = n.goal in
    let program = map_where (new_name vs) r g.program (λ v k. new v (of_program n v k)) in
    let exist = map_where (new_name vs) r g.exist (λ v k. new v (used v k)) in
    let pure_pre = lits_named vs r is new g.pure_pre f.pure_pre (of_pure_pre n) in
    let pre = chunks_named vs r is new g.pre.chunks f.pre (of_pre n) in
    let pure_post = lits_named vs r is new g.pure_post f.pure_post (of_pure_post n) in
    let post = chunks_named vs r is new g.post.chunks f.post (of_post n) in
    let links = map_where_twice (apply_link (numbering vs)) (rename_link r) shrink_link n.links (λ k i. link_named vs r is new k (each_at (link_fits no_set is_set_var) k n.links f.links i)
    (λ v m. of_links n v (flat_in (λ (l : Link). flat_map term_vars l.tuple ++ image_vars l.map) v k n.links i m))) in
    λ i. record {
      preds = n.preds;
      goal = record { program = program i; exist = exist i; pure_pre = pure_pre i; pre = record { chunks = pre i }; pure_post = pure_post i; post = record { chunks = post i } };
      links = links i;
    }

-- the variables of the numbered node are those of the node under their new names
pub renumbered_vars : (n : Node) (r : Var → Var) → IsRenaming r → ((v : Var) → Among v (node_vars n) → new_name (node_vars n) v ≡ r v) → HasSorts no_set is_set_var n
    → ((v : Var) → Among v n.goal.exist → Among v (node_vars n)) → node_vars (renumber n) ≡ map r (node_vars n)
renumbered_vars n r is new f used =
    ap node_vars (renumber-names n r is new f used) ∙ node_vars-rename r is (shrink_all n) ∙ ap (map r) (node_vars-shrink_all n)
