-- To solve an equation for a variable and put the solution in its place keeps the meaning of a node.
use Rattle.std.proofs.Common.{◌≡◌, refl, sym, ap, ◌∙◌, ℕ, zero, suc, Bool, true, false, cond, not, ◌||◌, List, [], ◌∷◌, ◌++◌, map, flat_map, length, ℤ, ◌+ℤ◌, Option, Some, None, subst, ⊎_elim}
use Rattle.std.specs.List.{list_all}
use Rattle.std.proofs.lemmas.Bool.{and_parts, both_ways, false_from_ne_true, not-true}
use Rattle.std.proofs.lemmas.Option.{none-some, option_and_then_some, same_Some}
use Rattle.cyp_goal.proofs.Fits.{ImagesFit, chunk_fits-apply, link_fits-apply, lits_fit-apply}
use Rattle.cyp_goal.proofs.Renumber.{no_set}
use Rattle.cyp_goal.proofs.SolveLeaves.{apart, cond_other, post_at, pre_at}
use Rattle.cyp_goal.proofs.SolvedLits.{solved_eq-by}
use Rattle.cyp_goal.specs.Normal.{solve}
use Rattle.cyp_goal.specs.Raw.{chunk_fits, images_fit, lit_fits, term_fits}
use Rattle.cyp_goal.specs.Solving.{bind_int, bind_set, first_solved, is_logical, solve_post, solve_pre, solved_any, solved_eq, substitute, with_post, with_pre}
use Rattle.cyp_term.specs.Terms.{base_eq, is_set_var, sort_eq, term_vars, var_eq, var_in, wide_subst}
use Rattle.cyp_heap.proofs.Agreement.{side_agrees}
use Rattle.cyp_heap.specs.Chunks.{apply_chunk}
use Rattle.cyp_heap.specs.Goals.{apply_link, apply_node, wide_node}
use Rattle.cyp_heap.specs.declared.goal.Link.{Link}
use Rattle.cyp_heap.specs.declared.goal.Node.{Node}
use Rattle.cyp_kernel.proofs.AppliedSides.{side_applied}
use Rattle.cyp_kernel.proofs.BySort.{agree_then, same_members, same_number}
use Rattle.cyp_kernel.proofs.PlainCards.{PlainCards, SparesCards, int_spares, plain_stays, set_spares, stands}
use Rattle.cyp_kernel.proofs.SidesAgree.{agree_anywhere, agree_on, term_alike}
use Rattle.cyp_kernel.proofs.SolvedTruth.{First, SolvesInt, SolvesSet, first_of, solves_any, solves_eq}
use Rattle.cyp_kernel.specs.Correct.{AgreeBy}
use Rattle.cyp_kernel.specs.Meaning.{KeepsMeaning}
use Rattle.cyp_term.proofs.Equality.{Decides-sort_eq, Decides-var_eq}
use Rattle.cyp_term.proofs.Lists.{each_at, each_from, map_from}
use Rattle.cyp_term.specs.Meaning.{AllTrue, Assignment, SameMembers, Truth, base_value, image_members, image_value, int_in, set_value, under, value}
use Rattle.cyp_term.specs.declared.lit.Lit.{Lit}
use Rattle.cyp_term.specs.declared.lit.SetTerm.{SetTerm}
use Rattle.cyp_term.specs.declared.subst.Subst.{Subst}
use Rattle.cyp_term.specs.declared.term.Sort.TheVariants.{Int, Set}
use Rattle.cyp_term.specs.declared.term.Term.{Term}
use Rattle.cyp_term.specs.declared.term.Var.{Var}

-- ---- what a turn needs of a node and keeps

-- no existential stands in the precondition, and cardinalities are of sort Card
pub record IsApart (n : Node) : Type 0 where
  pub lits : list_all (lit_fits (apart n.goal.exist) (apart n.goal.exist)) n.goal.pure_pre ≡ true
  pub chunks : list_all (chunk_fits (apart n.goal.exist) (apart n.goal.exist)) n.goal.pre.chunks ≡ true
  pub pre_cards : PlainCards n.goal.pre.chunks
  pub post_cards : PlainCards n.goal.post.chunks

apart_after : (n : Node) (by : Subst) (pre post : List Lit) → IsApart n → ImagesFit (apart n.goal.exist) (apart n.goal.exist) by → SparesCards by
    → list_all (lit_fits (apart n.goal.exist) (apart n.goal.exist)) pre ≡ true → IsApart (apply_node by (record n { goal = record n.goal { pure_pre = pre; pure_post = post } }))
apart_after n by pre post is fit spares h =
    let a : Var → Bool = apart n.goal.exist in
    record {
      lits = lits_fit-apply a a by fit pre h;
      chunks = each_from (chunk_fits a a) (map (apply_chunk by) n.goal.pre.chunks) (λ c k.
          let d = map_from (apply_chunk by) c n.goal.pre.chunks k in
          rw d.2 (chunk_fits-apply a a by fit d.0 (each_at (chunk_fits a a) d.0 n.goal.pre.chunks is.chunks d.1)));
      pre_cards = plain_stays by spares n.goal.pre.chunks is.pre_cards;
      post_cards = plain_stays by spares n.goal.post.chunks is.post_cards;
    }

-- no existential stands in an image of the companion's map
abbrev pub images_apart : List Var → Link → Bool
images_apart exist k = images_fit (apart exist) (apart exist) k.map

images_after : (exist : List Var) (by : Subst) → ImagesFit (apart exist) (apart exist) by → (ks : List Link) → list_all (images_apart exist) ks ≡ true → list_all (images_apart exist) (map (apply_link by) ks) ≡ true
images_after exist by fit ks h =
    each_from (images_apart exist) (map (apply_link by) ks) (λ l i.
    let k = map_from (apply_link by) l ks i in
    rw k.2 (link_fits-apply (apart exist) (apart exist) by fit (record k.0 { tuple = [] }) (each_at (images_apart exist) k.0 ks h k.1)))

-- the existentials are the same, and where none stands in an image none does after
pub record SameExist (n m : Node) : Type 0 where
  pub exist : m.goal.exist ≡ n.goal.exist
  pub images : list_all (images_apart n.goal.exist) n.links ≡ true → list_all (images_apart n.goal.exist) m.links ≡ true

same_then : (n x m : Node) → SameExist n x → SameExist x m → SameExist n m
same_then n x m a b = record {
  exist = b.exist ∙ a.exist;
  images = λ h. subst (λ (es : List Var). list_all (images_apart es) m.links ≡ true) a.exist (b.images (subst (λ (es : List Var). list_all (images_apart es) x.links ≡ true) (sym a.exist) (a.images h)));
}

same_itself : (n : Node) → SameExist n n
same_itself n = record { exist = refl; images = λ h. h }

-- ---- the precondition

under_at : (s : Assignment) (v w : Var) (to : Term) (b : Bool) → var_eq v w ≡ b → s.number v ≡ value s to → s.number w ≡ image_value s w (cond b (Some to) None)
under_at s v w to true e h = ap s.number (sym ((Decides-var_eq v w).0 e)) ∙ h
under_at s v w to false e h = refl

-- where the variable has the value of the term the substitution changes nothing
nothing_new : (s : Assignment) (v : Var) (to : Term) → s.number v ≡ value s to → (w : Var) → s.number w ≡ (under (bind_int v to) s).number w
nothing_new s v to h w = under_at s v w to (var_eq v w) refl h

int_no_set : (v : Var) → sort_eq v.sort Int ≡ true → no_set v ≡ true
int_no_set v h = ap (λ k. not (sort_eq k Set)) ((Decides-sort_eq v.sort Int).0 h)

keep_pre : (n : Node) (rest : List Lit) (v : Var) (to : Term) → IsApart n → sort_eq v.sort Int ≡ true → var_in v n.goal.exist ≡ false
    → term_fits no_set to ≡ true → term_fits (apart n.goal.exist) to ≡ true
    → ((s : Assignment) → AllTrue s n.goal.pure_pre → (s.number v ≡ value s to) × AllTrue s rest)
    → KeepsMeaning n (apply_node (bind_int v to) (with_pre n rest))
keep_pre n rest v to is int out sorted out_to solved s h ns k =
    let by : Subst = bind_int v to in
    let known = solved s k.0 in
    let spares : SparesCards by = int_spares v to int in (
      (side_applied by s n.preds rest n.goal.pre.chunks h ns (stands by spares s n.goal.pre.chunks is.pre_cards)).0
          (side_agrees n.preds s (under by s) rest n.goal.pre.chunks h ns (agree_anywhere s (under by s) (nothing_new s v to known.0) (λ w z. refl) rest n.goal.pre.chunks)
          (known.1, k.1, k.2)),
      λ x p.
          let t : Assignment = p.0 in
          let same : value s to ≡ value t to = term_alike s t no_set is_set_var (λ w. AgreeBy w.sort s t w) (λ w i a. same_number s t w i a) (λ w i a. same_members s t w i a) to sorted
          (λ w m. p.2 w (not-true (var_in w n.goal.exist) (each_at (apart n.goal.exist) w (term_vars to) out_to m))) in
          let has : t.number v ≡ value t to = sym (same_number s t v (int_no_set v int) (p.2 v out)) ∙ known.0 ∙ same in (
            t,
            p.1,
            p.2,
            side_agrees n.preds (under by t) t n.goal.pure_post n.goal.post.chunks x p.1
                (agree_anywhere (under by t) t (λ w. sym (nothing_new t v to has w)) (λ w z. refl) n.goal.pure_post n.goal.post.chunks)
                ((side_applied by t n.preds n.goal.pure_post n.goal.post.chunks x p.1 (stands by spares t n.goal.post.chunks is.post_cards)).1 p.3),
          ),
    )

abbrev SortedPre : Node → Type 0
SortedPre n = list_all (lit_fits no_set is_set_var) n.goal.pure_pre ≡ true

-- what a turn comes to
record PreTurn (n m : Node) : Type 0 where
  keeps : KeepsMeaning n m
  same : SameExist n m
  is : IsApart m
  sorted : SortedPre m

pre_turn : (n m : Node) (by : Subst) (rest : List Lit) → IsApart n → SortedPre n → first_solved (solved_eq (is_logical n.goal)) n.goal.pure_pre ≡ Some (by, rest)
    → substitute by (with_pre n rest) ≡ Some m → PreTurn n m
pre_turn n m by rest is sorted found done =
    let f : Lit → Option Subst = solved_eq (is_logical n.goal) in
    let a : Var → Bool = apart n.goal.exist in
    let d : First f n.goal.pure_pre (by, rest) = first_of f n.goal.pure_pre (by, rest) found in
    let i : SolvesInt (is_logical n.goal) by d.lit = solves_eq (is_logical n.goal) d.lit by d.answer in
    let logical = and_parts (not (var_in i.var n.goal.program)) (not (var_in i.var n.goal.exist)) i.passes in
    let lit_sorted = each_at (lit_fits no_set is_set_var) d.lit n.goal.pure_pre sorted d.there in
    let lit_apart = each_at (lit_fits a a) d.lit n.goal.pure_pre is.lits d.there in
    let left_sorted = each_from (lit_fits no_set is_set_var) rest (λ l k. each_at (lit_fits no_set is_set_var) l n.goal.pure_pre sorted (d.among l k)) in
    let left_apart = each_from (lit_fits a a) rest (λ l k. each_at (lit_fits a a) l n.goal.pure_pre is.lits (d.among l k)) in
    let spares : SparesCards by = subst SparesCards (sym i.binds) (int_spares i.var i.to i.int) in
    let fit : ImagesFit a a by = (solved_eq-by (is_logical n.goal) a a d.lit by lit_apart d.answer).fit in
    let turn : PreTurn n (apply_node by (with_pre n rest)) = record {
      keeps = subst (λ (b : Subst). KeepsMeaning n (apply_node b (with_pre n rest))) (sym i.binds)
          (keep_pre n rest i.var i.to is i.int (not-true (var_in i.var n.goal.exist) logical.1) (i.fits no_set is_set_var lit_sorted) (i.fits a a lit_apart)
          (λ s k. let r = d.apart s k in (i.says s r.0, r.1)));
      same = record { exist = refl; images = images_after n.goal.exist by fit n.links };
      is = apart_after n by rest n.goal.pure_post is fit spares left_apart;
      sorted = lits_fit-apply no_set is_set_var by (solved_eq-by (is_logical n.goal) no_set is_set_var d.lit by lit_sorted d.answer).fit rest left_sorted;
    } in
    subst (PreTurn n) (cond_other (wide_subst by || wide_node (apply_node by (with_pre n rest))) (apply_node by (with_pre n rest)) m done) turn

-- ---- the postcondition

keep_post : (n : Node) (rest : List Lit) (v : Var) (by : Subst) → IsApart n → SparesCards by → var_in v n.goal.exist ≡ true
    → ((s : Assignment) (w : Var) → var_eq v w ≡ false → (s.number w ≡ (under by s).number w) × (s.members w ≡ (under by s).members w))
    → ((t : Assignment) → AllTrue (under by t) rest → AllTrue (under by t) n.goal.pure_post)
    → KeepsMeaning n (apply_node by (with_post n rest))
keep_post n rest v by is spares inside other restore s h ns k =
    let a : Var → Bool = apart n.goal.exist in
    let beside : (w : Var) → var_in w n.goal.exist ≡ false → var_eq v w ≡ false = λ w out. false_from_ne_true (var_eq v w)
    (λ e. both_ways (var_in w n.goal.exist) out (subst (λ (x : Var). var_in x n.goal.exist ≡ true) ((Decides-var_eq v w).0 e) inside)) in
    let untouched = λ (w : Var) (p : a w ≡ true). other s w (beside w (not-true (var_in w n.goal.exist) p)) in (
      (side_applied by s n.preds n.goal.pure_pre n.goal.pre.chunks h ns (stands by spares s n.goal.pre.chunks is.pre_cards)).0
          (side_agrees n.preds s (under by s) n.goal.pure_pre n.goal.pre.chunks h ns
          (agree_on s (under by s) a a (λ w. Unit {0}) (λ w p _. (untouched w p).0) (λ w p _ z. ap (int_in z) (untouched w p).1)
          n.goal.pure_pre n.goal.pre.chunks is.lits is.chunks (λ w _. tt) (λ w _. tt)) k),
      λ x p.
          let t : Assignment = p.0 in
          let back = (side_applied by t n.preds rest n.goal.post.chunks x p.1 (stands by spares t n.goal.post.chunks is.post_cards)).1 p.3 in (
            under by t,
            p.1,
            (λ w out. let o = other t w (beside w out) in agree_then s t (under by t) w (p.2 w out) o.0 (λ z. ap (int_in z) o.1)),
            (restore t back.0, back.1, back.2),
          ),
    )

int_other : (v : Var) (to : Term) (s : Assignment) (w : Var) → var_eq v w ≡ false → (s.number w ≡ (under (bind_int v to) s).number w) × (s.members w ≡ (under (bind_int v to) s).members w)
int_other v to s w e = (ap (λ (b : Bool). image_value s w (cond b (Some to) None)) (sym e), refl)

int_there : (v : Var) (to : Term) (t : Assignment) (b : Option Var) → base_eq (Some v) b ≡ false → base_value t b ≡ base_value (under (bind_int v to) t) b
int_there v to t None e = refl
int_there v to t (Some w) e = (int_other v to t w e).0

var_self : (v : Var) → var_eq v v ≡ true
var_self v = (Decides-var_eq v v).1 refl

-- under the substitution the variable has the value of the term
int_solved : (v : Var) (to : Term) (t : Assignment) → base_eq (Some v) to.base ≡ false → (under (bind_int v to) t).number v ≡ value (under (bind_int v to) t) to
int_solved v to t e =
    ap (λ (b : Bool). image_value t v (cond b (Some to) None)) (var_self v) ∙ ap (λ (z : ℤ). z +ℤ to.offset) (int_there v to t to.base e)

set_other : (v : Var) (u : SetTerm) (s : Assignment) (w : Var) → var_eq v w ≡ false → (s.number w ≡ (under (bind_set v u) s).number w) × (s.members w ≡ (under (bind_set v u) s).members w)
set_other v u s w e = (refl, ap (λ (b : Bool). image_members s w (cond b (Some u) None)) (sym e))

numbers_there : (v : Var) (u : SetTerm) (t : Assignment) (b : Option Var) → base_value t b ≡ base_value (under (bind_set v u) t) b
numbers_there v u t None = refl
numbers_there v u t (Some w) = refl

elems_there : (v : Var) (u : SetTerm) (t : Assignment) (es : List Term) → map (value t) es ≡ map (value (under (bind_set v u) t)) es
elems_there v u t [] = refl
elems_there v u t (x ∷ es) = λ i. (numbers_there v u t x.base i +ℤ x.offset) ∷ elems_there v u t es i

vars_there : (v : Var) (u : SetTerm) (t : Assignment) (vs : List Var) → var_in v vs ≡ false → flat_map t.members vs ≡ flat_map (under (bind_set v u) t).members vs
vars_there v u t [] out = refl
vars_there v u t (w ∷ vs) out =
    let here = (set_other v u t w (false_from_ne_true (var_eq v w) (λ e. both_ways (var_in v (w ∷ vs)) out (ap (λ (b : Bool). b || var_in v vs) e)))).1 in
    let rest = vars_there v u t vs (false_from_ne_true (var_in v vs) (λ e. both_ways (var_in v (w ∷ vs)) out (or_last (var_eq v w) (var_in v vs) e))) in
    λ i. here i ++ rest i
  where
    or_last : (b c : Bool) → c ≡ true → (b || c) ≡ true
    or_last true c e = refl
    or_last false c e = e

-- under the substitution the variable has the members of the set term
set_solved : (v : Var) (u : SetTerm) (t : Assignment) → var_in v u.vars ≡ false → SameMembers ((under (bind_set v u) t).members v) (set_value (under (bind_set v u) t) u)
set_solved v u t out z =
    ap (λ (b : Bool). int_in z (image_members t v (cond b (Some u) None))) (var_self v)
    ∙ (λ i. int_in z (vars_there v u t u.vars out i ++ elems_there v u t u.elems i))

-- what a turn comes to
record PostTurn (n m : Node) : Type 0 where
  keeps : KeepsMeaning n m
  same : SameExist n m
  is : IsApart m

module _ (n m : Node) (by : Subst) (rest : List Lit) (is : IsApart n) where
  abbrev test : Var → Bool
  test v = var_in v n.goal.exist

  abbrev after : Subst → Node
  after b = apply_node b (with_post n rest)

  unbound : {A : Type 0} (v : Var) → test v ≡ true → (w : Var) → apart n.goal.exist w ≡ true → (x y : A) → cond (var_eq v w) x y ≡ y
  unbound v k w p x y =
      ap (λ (c : Bool). cond c x y)
      (false_from_ne_true (var_eq v w) (λ e. both_ways (test w) (not-true (test w) p) (subst (λ (u : Var). test u ≡ true) ((Decides-var_eq v w).0 e) k)))

  int_turn : (l : Lit) → SolvesInt test by l → ((s : Assignment) → Truth s l → AllTrue s rest → AllTrue s n.goal.pure_post) → PostTurn n (after by)
  int_turn l i joined =
      let b : Subst = bind_int i.var i.to in
      let spares : SparesCards b = int_spares i.var i.to i.int in
      let fit : ImagesFit (apart n.goal.exist) (apart n.goal.exist) b = record {
        ints = λ w to p e. absurd (none-some to (sym (unbound i.var i.passes w p (Some i.to) None) ∙ e));
        sets = λ w to p e. absurd (none-some to e);
      } in
      let turn : PostTurn n (after b) = record {
        keeps = keep_post n rest i.var b is spares i.passes (int_other i.var i.to) (λ t k. joined (under b t) (i.back (under b t) (int_solved i.var i.to t i.other)) k);
        same = record { exist = refl; images = images_after n.goal.exist b fit n.links };
        is = apart_after n b n.goal.pure_pre rest is fit spares is.lits;
      } in
      subst (λ (x : Subst). PostTurn n (after x)) (sym i.binds) turn

  set_turn : (l : Lit) → SolvesSet test by l → ((s : Assignment) → Truth s l → AllTrue s rest → AllTrue s n.goal.pure_post) → PostTurn n (after by)
  set_turn l i joined =
      let b : Subst = bind_set i.var i.to in
      let spares : SparesCards b = set_spares i.var i.to in
      let fit : ImagesFit (apart n.goal.exist) (apart n.goal.exist) b = record {
        ints = λ w to p e. absurd (none-some to e);
        sets = λ w to p e. absurd (none-some to (sym (unbound i.var i.passes w p (Some i.to) None) ∙ e));
      } in
      let turn : PostTurn n (after b) = record {
        keeps = keep_post n rest i.var b is spares i.passes (set_other i.var i.to) (λ t k. joined (under b t) (i.back (under b t) (set_solved i.var i.to t i.other)) k);
        same = record { exist = refl; images = images_after n.goal.exist b fit n.links };
        is = apart_after n b n.goal.pure_pre rest is fit spares is.lits;
      } in
      subst (λ (x : Subst). PostTurn n (after x)) (sym i.binds) turn

  post_turn : first_solved (solved_any test) n.goal.pure_post ≡ Some (by, rest) → substitute by (with_post n rest) ≡ Some m → PostTurn n m
  post_turn found done =
      let d : First (solved_any test) n.goal.pure_post (by, rest) = first_of (solved_any test) n.goal.pure_post (by, rest) found in
      subst (PostTurn n) (cond_other (wide_subst by || wide_node (after by)) (after by) m done)
      (⊎_elim (λ i. int_turn d.lit i d.joined) (λ i. set_turn d.lit i d.joined) (solves_any test d.lit by d.answer))

-- ---- the loops

pub keeps_itself : (n : Node) → KeepsMeaning n n
keeps_itself n s h ns k = (k, λ x p. p)

pub keeps_then : (a b c : Node) → KeepsMeaning a b → KeepsMeaning b c → KeepsMeaning a c
keeps_then a b c f g s h ns k =
    let one = f s h ns k in
    let two = g s h ns one.0 in
    (two.0, λ x p. one.1 x (two.1 x p))

pub record Solved (n m : Node) : Type 0 where
  pub keeps : KeepsMeaning n m
  pub same : SameExist n m
  pub is : IsApart m

pre_step : (k : ℕ) (n m : Node) → IsApart n → SortedPre n → ((x : Node) → IsApart x → SortedPre x → solve_pre k x ≡ Some m → Solved x m)
    → (o : Option (Subst × List Lit)) → first_solved (solved_eq (is_logical n.goal)) n.goal.pure_pre ≡ o → pre_at k n o ≡ Some m → Solved n m
pre_step k n m is sorted ih None found e = subst (Solved n) (same_Some n m e) (record { keeps = keeps_itself n; same = same_itself n; is = is })
pre_step k n m is sorted ih (Some p) found e =
    option_and_then_some (solve_pre k) (substitute p.0 (with_pre n p.1)) m e (λ x done h.
    let turn : PreTurn n x = pre_turn n x p.0 p.1 is sorted found done in
    let rest : Solved x m = ih x turn.is turn.sorted h in
    record { keeps = keeps_then n x m turn.keeps rest.keeps; same = same_then n x m turn.same rest.same; is = rest.is })

pre_loop : (k : ℕ) (n m : Node) → IsApart n → SortedPre n → solve_pre k n ≡ Some m → Solved n m
pre_loop zero n m is sorted e = subst (Solved n) (same_Some n m e) (record { keeps = keeps_itself n; same = same_itself n; is = is })
pre_loop (suc k) n m is sorted e = pre_step k n m is sorted (λ x a b h. pre_loop k x m a b h) (first_solved (solved_eq (is_logical n.goal)) n.goal.pure_pre) refl e

post_step : (k : ℕ) (n m : Node) → IsApart n → ((x : Node) → IsApart x → solve_post k x ≡ Some m → Solved x m)
    → (o : Option (Subst × List Lit)) → first_solved (solved_any (λ v. var_in v n.goal.exist)) n.goal.pure_post ≡ o → post_at k n o ≡ Some m → Solved n m
post_step k n m is ih None found e = subst (Solved n) (same_Some n m e) (record { keeps = keeps_itself n; same = same_itself n; is = is })
post_step k n m is ih (Some p) found e =
    option_and_then_some (solve_post k) (substitute p.0 (with_post n p.1)) m e (λ x done h.
    let turn : PostTurn n x = post_turn n x p.0 p.1 is found done in
    let rest : Solved x m = ih x turn.is h in
    record { keeps = keeps_then n x m turn.keeps rest.keeps; same = same_then n x m turn.same rest.same; is = rest.is })

post_loop : (k : ℕ) (n m : Node) → IsApart n → solve_post k n ≡ Some m → Solved n m
post_loop zero n m is e = subst (Solved n) (same_Some n m e) (record { keeps = keeps_itself n; same = same_itself n; is = is })
post_loop (suc k) n m is e = post_step k n m is (λ x a h. post_loop k x m a h) (first_solved (solved_any (λ v. var_in v n.goal.exist)) n.goal.pure_post) refl e

pub solve_meaning : (n m : Node) → IsApart n → SortedPre n → solve n ≡ Some m → Solved n m
solve_meaning n m is sorted e =
    option_and_then_some (λ (x : Node). solve_post (length x.goal.pure_post) x) (solve_pre (length n.goal.pure_pre) n) m e (λ x done h.
    let one : Solved n x = pre_loop (length n.goal.pure_pre) n x is sorted done in
    let two : Solved x m = post_loop (length x.goal.pure_post) x m one.is h in
    record { keeps = keeps_then n x m one.keeps two.keeps; same = same_then n x m one.same two.same; is = two.is })
