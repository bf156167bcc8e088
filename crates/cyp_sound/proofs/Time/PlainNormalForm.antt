-- The normal form of a plain node is plain.
use Rattle.cyp_goal.proofs.FirstSolved.{Found, first_found}
use Rattle.cyp_goal.proofs.Fits.{ImagesFit}
use Rattle.cyp_goal.proofs.LinksNormal.{IsKept, IsKeptWithin, normal_kept}
use Rattle.cyp_goal.proofs.PruneLeaves.{filter_all, live}
use Rattle.cyp_goal.proofs.RenameSolve.{turn}
use Rattle.cyp_goal.proofs.SolveLeaves.{cond_other}
use Rattle.cyp_goal.proofs.SolvedLits.{solved_any-by, solved_eq-by}
use Rattle.cyp_goal.proofs.TidyLeaves.{address_lit_fits, post_each, pre_each}
use Rattle.cyp_goal.specs.Normal.{Renaming, normal, solve, tidy_node}
use Rattle.cyp_goal.specs.Numbering.{new_name, numbering, renumber}
use Rattle.cyp_goal.specs.Pruning.{is_kept, only_vars, prune}
use Rattle.cyp_goal.specs.Raw.{lit_fits, set_fits, term_fits}
use Rattle.cyp_goal.specs.Solving.{first_solved, is_logical, solve_post, solve_pre, solved_any, solved_eq, substitute, with_post, with_pre}
use Rattle.cyp_goal.specs.Tidying.{address}
use Rattle.cyp_heap.specs.Chunks.{apply_chunk}
use Rattle.cyp_heap.specs.Goals.{apply_link, apply_node, node_vars, wide_node}
use Rattle.cyp_heap.specs.declared.chunk.Chunk.{Chunk}
use Rattle.cyp_heap.specs.declared.chunk.Chunk.TheVariants.{Block, Cell, Inst}
use Rattle.cyp_heap.specs.declared.chunk.Heap.{Heap}
use Rattle.cyp_heap.specs.declared.goal.Goal.{Goal}
use Rattle.cyp_heap.specs.declared.goal.Link.{Link}
use Rattle.cyp_heap.specs.declared.goal.Node.{Node}
use Rattle.cyp_heap.specs.declared.pred.Preds.{Preds}
use Rattle.cyp_kernel.proofs.NormalMeaning.{Made, made}
use Rattle.cyp_kernel.proofs.PlainCards.{SparesCards}
use Rattle.cyp_sound.proofs.Time.Measures.{AreShort, ends_of}
use Rattle.cyp_sound.proofs.Time.Plain.{IsPlain, bind_plain, chunk_plain, is_bare_card, is_card, is_int, link_plain, lit_plain}
use Rattle.cyp_sound.proofs.Time.PlainMatches.{PlainBinds, goal_from, goal_parts, link_from, link_parts}
use Rattle.cyp_sound.proofs.Time.PlainSubstitutions.{PlainCore, all_map, core_kept, fits_plain}
use Rattle.cyp_sound.proofs.Time.SolvedTuples.{any_spares, eq_spares}
use Rattle.cyp_sound.specs.Kept.{are_small, is_small}
use Rattle.cyp_term.proofs.Equality.{Decides-var_eq}
use Rattle.cyp_term.proofs.Lists.{Among, each_at, each_from, flat_out}
use Rattle.cyp_term.specs.Terms.{int_image, is_set_var, set_image, set_var, var_eq, var_in, var_term, wide_subst}
use Rattle.cyp_term.specs.declared.lit.Lit.{Lit}
use Rattle.cyp_term.specs.declared.lit.Lit.TheVariants.{Eq, Le, Lt, Member, Ne, NotMember, NotSame, NotSub, Same, Sub}
use Rattle.cyp_term.specs.declared.lit.SetTerm.{SetTerm}
use Rattle.cyp_term.specs.declared.subst.SetBind.{SetBind}
use Rattle.cyp_term.specs.declared.subst.Subst.{Subst}
use Rattle.cyp_term.specs.declared.term.Term.{Term}
use Rattle.cyp_term.specs.declared.term.Var.{Var}
use Rattle.std.proofs.Common.{◌≡◌, refl, sym, ap, ◌∙◌, ◌||◌, ℕ, zero, suc, Bool, true, false, cond, length, List, [], ◌∷◌, map, flat_map, filter, Option, Some, None, inl, inr, not, subst}
use Rattle.std.proofs.lemmas.Bool.{and_from, and_parts}
use Rattle.std.proofs.lemmas.List.{length-map}
use Rattle.std.proofs.lemmas.Option.{none-some, option_and_then_some, same_Some}
use Rattle.std.specs.List.{list_all}
use Rattle.std.specs.Prelude.{IfSome}

-- ---- what an equation is solved by

eq_fits : (test : Var → Bool) (l : Lit) (by : Subst) → lit_plain l ≡ true → solved_eq test l ≡ Some by → lit_fits is_int is_set_var l ≡ true
eq_fits test (Eq a b) by h e = h
eq_fits test (Lt a b) by h e = absurd (none-some by e)
eq_fits test (Ne a b) by h e = absurd (none-some by e)
eq_fits test (Le a b) by h e = absurd (none-some by e)
eq_fits test (Same a b) by h e = absurd (none-some by e)
eq_fits test (NotSame a b) by h e = absurd (none-some by e)
eq_fits test (Member a b) by h e = absurd (none-some by e)
eq_fits test (NotMember a b) by h e = absurd (none-some by e)
eq_fits test (Sub a b) by h e = absurd (none-some by e)
eq_fits test (NotSub a b) by h e = absurd (none-some by e)

any_fits : (test : Var → Bool) (l : Lit) (by : Subst) → lit_plain l ≡ true → solved_any test l ≡ Some by → lit_fits is_int is_set_var l ≡ true
any_fits test (Eq a b) by h e = h
any_fits test (Same a b) by h e = h
any_fits test (Lt a b) by h e = absurd (none-some by e)
any_fits test (Ne a b) by h e = absurd (none-some by e)
any_fits test (Le a b) by h e = absurd (none-some by e)
any_fits test (NotSame a b) by h e = absurd (none-some by e)
any_fits test (Member a b) by h e = absurd (none-some by e)
any_fits test (NotMember a b) by h e = absurd (none-some by e)
any_fits test (Sub a b) by h e = absurd (none-some by e)
any_fits test (NotSub a b) by h e = absurd (none-some by e)

-- a substitution that spares cardinalities and whose images fit
pub plain_from : (by : Subst) → ImagesFit is_int is_set_var by → SparesCards by → PlainBinds by
plain_from by fit spares = record {
  cards = λ v t e c. absurd (none-some t (sym (spares v c) ∙ e));
  ints = λ v t e p. fit.ints v t p e;
  sets = λ v u e q. fit.sets v u q e;
}

-- ---- solving

core_itself : (n m : Node) → PlainCore n → Some n ≡ Some m → PlainCore m
core_itself n m h e = subst PlainCore (same_Some n m e) h

module _ (again : Node → Option Node) (later : (n m : Node) → PlainCore n → again n ≡ Some m → PlainCore m)
    (f : Lit → Option Subst) (solves : (l : Lit) (by : Subst) → lit_plain l ≡ true → f l ≡ Some by → PlainBinds by)
    (put : Node → List Lit → Node) (put_core : (n : Node) (ls : List Lit) → PlainCore n → list_all lit_plain ls ≡ true → PlainCore (put n ls)) where
  turn_core : (n m : Node) (ls : List Lit) (o : Option (Subst × List Lit)) → first_solved f ls ≡ o → list_all lit_plain ls ≡ true → PlainCore n → turn again put n o ≡ Some m → PlainCore m
  turn_core n m ls None found lits h e = core_itself n m h e
  turn_core n m ls (Some s) found lits h e =
      option_and_then_some again (substitute s.0 (put n s.1)) m e (λ x first k.
      let y : Node = apply_node s.0 (put n s.1) in
      let is : y ≡ x = cond_other (wide_subst s.0 || wide_node y) y x first in
      let d : Found f ls s = first_found f ls s found in
      let left = each_from lit_plain s.1 (λ l k. each_at lit_plain l ls lits (d.among l k)) in
      let by_plain = solves d.lit s.0 (each_at lit_plain d.lit ls lits d.there) d.answer in
      later y m (core_kept s.0 by_plain (put n s.1) (put_core n s.1 h left)) (ap again is ∙ k))

pre_put : (n : Node) (ls : List Lit) → PlainCore n → list_all lit_plain ls ≡ true → PlainCore (with_pre n ls)
pre_put n ls h k = let p = goal_parts n.goal h.0 in (goal_from (with_pre n ls).goal k p.1 p.2 p.3 p.4, h.1)

post_put : (n : Node) (ls : List Lit) → PlainCore n → list_all lit_plain ls ≡ true → PlainCore (with_post n ls)
post_put n ls h k = let p = goal_parts n.goal h.0 in (goal_from (with_post n ls).goal p.0 p.1 k p.3 p.4, h.1)

pub one_spares : (f : Lit → Option Subst) (l : Lit) (by : Subst) → IfSome (f l) SparesCards → f l ≡ Some by → SparesCards by
one_spares f l by h e = subst (λ (o : Option Subst). IfSome o SparesCards) e h

pre_core : (k : ℕ) (n m : Node) → PlainCore n → solve_pre k n ≡ Some m → PlainCore m
pre_core zero n m h e = core_itself n m h e
pre_core (suc k) n m h e =
    let test : Var → Bool = is_logical n.goal in
    turn_core (solve_pre k) (pre_core k) (solved_eq test)
    (λ l by p a. plain_from by (solved_eq-by test is_int is_set_var l by (eq_fits test l by p a) a).fit (one_spares (solved_eq test) l by (eq_spares test l) a))
    with_pre pre_put n m n.goal.pure_pre (first_solved (solved_eq test) n.goal.pure_pre) refl (goal_parts n.goal h.0).0 h e

post_core : (k : ℕ) (n m : Node) → PlainCore n → solve_post k n ≡ Some m → PlainCore m
post_core zero n m h e = core_itself n m h e
post_core (suc k) n m h e =
    let test : Var → Bool = λ v. var_in v n.goal.exist in
    turn_core (solve_post k) (post_core k) (solved_any test)
    (λ l by p a. plain_from by (solved_any-by test is_int is_set_var l by (any_fits test l by p a) a).fit (one_spares (solved_any test) l by (any_spares test l) a))
    with_post post_put n m n.goal.pure_post (first_solved (solved_any test) n.goal.pure_post) refl (goal_parts n.goal h.0).2 h e

solve_core : (n m : Node) → PlainCore n → solve n ≡ Some m → PlainCore m
solve_core n m h e =
    option_and_then_some (λ (x : Node). solve_post (length x.goal.pure_post) x) (solve_pre (length n.goal.pure_pre) n) m e (λ x first k.
    post_core (length x.goal.pure_post) x m (pre_core (length n.goal.pure_pre) n x h first) k)

-- ---- tidying and pruning

-- addresses have no cardinalities
pub address_fits : (c : Chunk) (t : Term) → chunk_plain c ≡ true → Among t (address c) → term_fits is_int t ≡ true
address_fits (Inst i) t h k = absurd k
address_fits (Block b) t h (inl e) = subst (λ (x : Term). term_fits is_int x ≡ true) (sym e) h
address_fits (Block b) t h (inr k) = absurd k
address_fits (Cell c) t h (inl e) = subst (λ (x : Term). term_fits is_int x ≡ true) (sym e) (and_parts (term_fits is_int c.at) (term_fits is_int c.content) h).0
address_fits (Cell c) t h (inr k) = absurd k

tidy_core : (n : Node) → PlainCore n → PlainCore (tidy_node n)
tidy_core n h =
    let g : Goal = n.goal in
    let p = goal_parts g h.0 in
    let ts : List Term = flat_map address g.pre.chunks in
    let fits : list_all (term_fits is_int) ts ≡ true =
    each_from (term_fits is_int) ts (λ t k. let r = flat_out address t g.pre.chunks k in address_fits r.0 t (each_at chunk_plain r.0 g.pre.chunks p.1 r.1) r.2) in (
      goal_from (tidy_node n).goal
          (pre_each is_int is_set_var lit_plain g.pure_pre ts (λ l k q. each_at lit_plain l g.pure_pre p.0 k) (λ l k. fits_plain l (address_lit_fits is_int is_set_var ts l fits k)))
          p.1 (post_each is_int is_set_var lit_plain g.pure_post (λ l k q. each_at lit_plain l g.pure_post p.2 k)) p.3 p.4,
      h.1,
    )

link_left : (vs : List Var) (l : Link) → link_plain l ≡ true → link_plain (record l { map = only_vars vs l.map }) ≡ true
link_left vs l h =
    let p = link_parts l h in
    link_from (record l { map = only_vars vs l.map }) p.0 p.1 p.2 (filter_all bind_plain _ l.map.ints p.3) (filter_all (λ (b : SetBind). set_fits is_int is_set_var b.to) _ l.map.sets p.4)

prune_core : (n : Node) → PlainCore n → PlainCore (prune n)
prune_core n h =
    let p = goal_parts n.goal h.0 in (
      goal_from (prune n).goal (filter_all lit_plain (is_kept (live n)) n.goal.pure_pre p.0) p.1 p.2 p.3 (filter_all (λ v. not (is_card v)) _ n.goal.exist p.4),
      all_map link_plain link_plain (λ (k : Link). record k { map = only_vars _ k.map }) (λ l. link_left _ l) n.links h.1,
    )

-- ---- new numbers

module _ (vs : List Var) where
  int_entry : (us : List Var) (v : Var) (t : Term) → int_image (map (λ v. record { var = v; to = var_term (new_name vs v) }) us) v ≡ Some t → t ≡ var_term (new_name vs v)
  int_entry [] v t e = absurd (none-some t e)
  int_entry (u ∷ us) v t e = at (var_eq u v) refl e (λ f. int_entry us v t f)
    where
      at : (c : Bool) → var_eq u v ≡ c → cond c (Some (var_term (new_name vs u))) (int_image (map (λ v. record { var = v; to = var_term (new_name vs v) }) us) v) ≡ Some t
          → (int_image (map (λ v. record { var = v; to = var_term (new_name vs v) }) us) v ≡ Some t → t ≡ var_term (new_name vs v)) → t ≡ var_term (new_name vs v)
      at true p f later = sym (same_Some (var_term (new_name vs u)) t f) ∙ ap (λ (x : Var). var_term (new_name vs x)) ((Decides-var_eq u v).0 p)
      at false p f later = later f

  set_entry : (us : List Var) (v : Var) (t : SetTerm) → set_image (map (λ v. record { var = v; to = set_var (new_name vs v) }) us) v ≡ Some t → t ≡ set_var (new_name vs v)
  set_entry [] v t e = absurd (none-some t e)
  set_entry (u ∷ us) v t e = at (var_eq u v) refl e (λ f. set_entry us v t f)
    where
      at : (c : Bool) → var_eq u v ≡ c → cond c (Some (set_var (new_name vs u))) (set_image (map (λ v. record { var = v; to = set_var (new_name vs v) }) us) v) ≡ Some t
          → (set_image (map (λ v. record { var = v; to = set_var (new_name vs v) }) us) v ≡ Some t → t ≡ set_var (new_name vs v)) → t ≡ set_var (new_name vs v)
      at true p f later = sym (same_Some (set_var (new_name vs u)) t f) ∙ ap (λ (x : Var). set_var (new_name vs x)) ((Decides-var_eq u v).0 p)
      at false p f later = later f

  pub numbers_plain : PlainBinds (numbering vs)
  numbers_plain = record {
    cards = λ v t e c. subst (λ (x : Term). is_bare_card x ≡ true) (sym (int_entry (filter (λ v. not (is_set_var v)) vs) v t e)) c;
    ints = λ v t e p. subst (λ (x : Term). term_fits is_int x ≡ true) (sym (int_entry (filter (λ v. not (is_set_var v)) vs) v t e)) (and_from (is_int (new_name vs v)) true p refl);
    sets = λ v u e q.
        subst (λ (x : SetTerm). set_fits is_int is_set_var x ≡ true) (sym (set_entry (filter is_set_var vs) v u e))
        (and_from (list_all is_set_var (new_name vs v ∷ [])) true (and_from (is_set_var (new_name vs v)) true q refl) refl);
  }

renumber_core : (n : Node) → PlainCore n → PlainCore (renumber n)
renumber_core n h =
    let vs : List Var = node_vars n in
    let k = core_kept (numbering vs) (numbers_plain vs) n h in
    let p = goal_parts (apply_node (numbering vs) n).goal k.0 in
    (goal_from (renumber n).goal p.0 p.1 p.2 p.3 (all_map (λ v. not (is_card v)) (λ v. not (is_card v)) (new_name vs) (λ v e. e) n.goal.exist (goal_parts n.goal h.0).4), k.1)

normal_core : (n : Node) (r : Renaming) → PlainCore n → normal n ≡ Some r → PlainCore r.node
normal_core n r h e =
    let d : Made n r = made n r e in
    subst (λ (y : Renaming). PlainCore y.node) d.is (renumber_core (prune (tidy_node d.solved)) (prune_core (tidy_node d.solved) (tidy_core d.solved (solve_core n d.solved h d.done))))

-- ---- the rest

small_kept : (by : Subst) (c : Chunk) → is_small c ≡ true → is_small (apply_chunk by c) ≡ true
small_kept by (Inst i) h = refl
small_kept by (Block b) h = h
small_kept by (Cell c) h = refl

ends_mapped : (f : Link → Link) → ((l : Link) → length (f l).tuple ≡ length l.tuple) → (ls : List Link) → ends_of (map f ls) ≡ ends_of ls
ends_mapped f e [] = refl
ends_mapped f e (l ∷ ls) = λ i. e l i ∷ ends_mapped f e ls i

module _ (preds : Preds) (ends : List ℕ) where
  abbrev Rest : Node → Type 0
  Rest n = (list_all is_small n.goal.post.chunks ≡ true) × (n.preds ≡ preds) × (ends_of n.links ≡ ends)

  rest_kept : IsKept Rest
  rest_kept = record {
    applied = λ by k n h. (all_map is_small is_small (apply_chunk by) (small_kept by) n.goal.post.chunks h.0, h.1, ends_mapped (apply_link by) (λ l. length-map l.tuple _) n.links ∙ h.2);
    beside = λ n g e f h. (subst (λ (x : Heap). list_all is_small x.chunks ≡ true) (sym f) h.0, h.1, h.2);
    maps = λ n vs h. (h.0, h.1, ends_mapped (λ (k : Link). record k { map = only_vars vs k.map }) (λ l. refl) n.links ∙ h.2);
  }

pub normal_plain : (n : Node) (r : Renaming) → IsPlain n → normal n ≡ Some r → IsPlain r.node
normal_plain n r h e =
    let core = normal_core n r (h.goal, h.links) e in
    let ends : List ℕ = ends_of n.links in
    let k : IsKeptWithin (Rest n.preds ends) r =
    subst (λ (o : Option Renaming). IfSome o (IsKeptWithin (Rest n.preds ends))) e (normal_kept (Rest n.preds ends) (rest_kept n.preds ends) n (h.post_small, refl, refl)) in
    record {
      goal = core.0;
      links = core.1;
      short = subst (AreShort 0) (sym k.fact.2) h.short;
      post_small = k.fact.0;
      preds_small = ap are_small k.fact.1 ∙ h.preds_small;
    }
