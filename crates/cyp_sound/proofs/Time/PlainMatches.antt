-- A match binds cardinalities to cardinalities alone, and other variables to terms without any.
use Rattle.cyp_goal.specs.Raw.{arg_fits, set_fits, term_fits}
use Rattle.cyp_heap.specs.Chunks.{insts}
use Rattle.cyp_heap.specs.Formed.{is_card_var, insts_fit}
use Rattle.cyp_heap.specs.declared.chunk.Arg.{Arg}
use Rattle.cyp_heap.specs.declared.chunk.Arg.TheVariants.{Int as IntArg, Set as SetArg}
use Rattle.cyp_heap.specs.declared.chunk.Chunk.{Chunk}
use Rattle.cyp_heap.specs.declared.chunk.Chunk.TheVariants.{Block, Cell, Inst}
use Rattle.cyp_heap.specs.declared.chunk.InstOf.{InstOf}
use Rattle.cyp_heap.specs.declared.goal.Goal.{Goal}
use Rattle.cyp_heap.specs.declared.goal.Link.{Link}
use Rattle.cyp_heap.specs.declared.goal.Node.{Node}
use Rattle.cyp_kernel.proofs.Allowed.{mapped_some}
use Rattle.cyp_kernel.proofs.BoundImages.{int_back, set_back}
use Rattle.cyp_kernel.proofs.FoundImages.{set_image_at}
use Rattle.cyp_kernel.proofs.FoundMatch.{Found, and_then_some, found}
use Rattle.cyp_kernel.proofs.PairedChunks.{ArePaired}
use Rattle.cyp_kernel.proofs.SteadyParts.{slice_get-among}
use Rattle.cyp_kernel.proofs.WalkFinds.{binds_some}
use Rattle.cyp_sound.proofs.Time.Plain.{bind_plain, chunk_plain, goal_plain, is_bare_card, is_card, is_int, link_plain, lit_plain}
use Rattle.cyp_term.proofs.Equality.{Decides-sort_eq, Decides-var_eq}
use Rattle.cyp_term.proofs.Lists.{Among, Every-append, each_at}
use Rattle.cyp_term.specs.Terms.{var_term, base_vars, apply_term, int_image, is_set_var, plus, set_image, var_eq, var_in}
use Rattle.cyp_term.specs.declared.lit.Lit.TheVariants.{Eq}
use Rattle.cyp_term.specs.declared.lit.SetTerm.{SetTerm}
use Rattle.cyp_term.specs.declared.subst.IntBind.{IntBind}
use Rattle.cyp_term.specs.declared.subst.SetBind.{SetBind}
use Rattle.cyp_term.specs.declared.subst.Subst.{Subst}
use Rattle.cyp_term.specs.declared.term.Sort.{Sort}
use Rattle.cyp_term.specs.declared.term.Sort.TheVariants.{Card, Int}
use Rattle.cyp_term.specs.declared.term.Term.{Term}
use Rattle.cyp_term.specs.declared.term.Var.{Var}
use Rattle.cyp_unify.specs.Matches.{match_at, to_bind, arg_position, arg_positions, card_position, positions, Position, Content, OfSet, Plain, Walk, add_int, add_set, all_bound, binds, bound_by_map, lone_of_parts, no_walk, parts_wait, set_step, walk, walk_step}
use Rattle.cyp_unify.specs.declared.found.Match.{Match}
use Rattle.std.proofs.Common.{◌≡◌, ap, ◌∙◌, sym, refl, ℕ, ◌⊎◌, inl, inr, Bool, true, false, cond, ◌||◌, List, [], ◌∷◌, ◌++◌, Option, Some, None, is_some, subst, not}
use Rattle.std.proofs.lemmas.Bool.{and_from, and_parts, false≢true, false_from_ne_true}
use Rattle.std.proofs.lemmas.Option.{none-some, same_Some}
use Rattle.std.specs.List.{AllByRecursion, list_all}
use Rattle.std.specs.Prelude.{neg_ℤ, option_map}

-- each image is plain for its variable
pub record PlainBinds (by : Subst) : Type 0 where
  pub cards : (v : Var) (t : Term) → int_image by.ints v ≡ Some t → is_card v ≡ true → is_bare_card t ≡ true
  pub ints : (v : Var) (t : Term) → int_image by.ints v ≡ Some t → is_int v ≡ true → term_fits is_int t ≡ true
  pub sets : (v : Var) (u : SetTerm) → set_image by.sets v ≡ Some u → is_set_var v ≡ true → set_fits is_int is_set_var u ≡ true

-- what meets at a position: cardinalities, or what has none
abbrev pub PlainPosition : Position → Type 0
PlainPosition (Plain t r) =
    ((c : Var) × (d : Var) × (t ≡ var_term c) × (r ≡ var_term d) × (is_card c ≡ true) × (is_card d ≡ true)) ⊎ ((term_fits is_int t ≡ true) × (term_fits is_int r ≡ true))
PlainPosition (Content k t r) = (term_fits is_int t ≡ true) × (term_fits is_int r ≡ true)
PlainPosition (OfSet x r) = set_fits is_int is_set_var r ≡ true

pub int_no_card : (v : Var) → is_int v ≡ true → is_card v ≡ true → ⊥
int_no_card v a b = other v.sort ((Decides-sort_eq v.sort Int).0 a) ((Decides-sort_eq v.sort Card).0 b)
  where
    other : (o : Sort) → o ≡ Int → o ≡ Card → ⊥
    other o e d = cc

base_int : (t : Term) (v : Var) → t.base ≡ Some v → term_fits is_int t ≡ true → is_int v ≡ true
base_int t v e h = (and_parts (is_int v) true (subst (λ (b : Option Var). list_all is_int (base_vars b) ≡ true) e h)).0

pub add_plain : (by : Subst) (v : Var) (t : Term) → PlainBinds by → (is_card v ≡ true → is_bare_card t ≡ true) → (is_int v ≡ true → term_fits is_int t ≡ true) → PlainBinds (add_int by v t)
add_plain by v t g card int = record {
  cards = λ x y e c. elim (int_back by.ints v t x y e) [
    | inl i ↦ g.cards x y i c
    | inr i ↦ subst (λ (z : Term). is_bare_card z ≡ true) i.1 (card (ap is_card i.0 ∙ c))
  ];
  ints = λ x y e c. elim (int_back by.ints v t x y e) [
    | inl i ↦ g.ints x y i c
    | inr i ↦ subst (λ (z : Term). term_fits is_int z ≡ true) i.1 (int (ap is_int i.0 ∙ c))
  ];
  sets = g.sets;
}

pub add_set_plain : (by : Subst) (v : Var) (u : SetTerm) → PlainBinds by → (is_set_var v ≡ true → set_fits is_int is_set_var u ≡ true) → PlainBinds (add_set by v u)
add_set_plain by v u g h = record {
  cards = g.cards;
  ints = g.ints;
  sets = λ x y e c. elim (set_back by.sets v u x y e) [ inl i ↦ g.sets x y i c | inr i ↦ subst (λ (z : SetTerm). set_fits is_int is_set_var z ≡ true) i.1 (h (ap is_set_var i.0 ∙ c)) ];
}

-- ---- the walk

module _ (exist : List Var) where
  abbrev PlainWalk : Walk → Type 0
  PlainWalk more = PlainBinds more.by

  module _ (w : Walk) (good : PlainBinds w.by) where
    int_added : (t r : Term) (v : Var) → t.base ≡ Some v → term_fits is_int t ≡ true → term_fits is_int r ≡ true → PlainBinds (add_int w.by v (plus r (neg_ℤ t.offset)))
    int_added t r v e a b = add_plain w.by v (plus r (neg_ℤ t.offset)) good (λ c. absurd (int_no_card v (base_int t v e a) c)) (λ c. b)

    card_added : (t r : Term) (v c d : Var) → t.base ≡ Some v → t ≡ var_term c → r ≡ var_term d → is_card c ≡ true → is_card d ≡ true → PlainBinds (add_int w.by v (plus r (neg_ℤ t.offset)))
    card_added t r v c d e p q x y =
        let same : c ≡ v = same_Some c v (ap (λ (a : Term). a.base) (sym p) ∙ e) in
        add_plain w.by v (plus r (neg_ℤ t.offset)) good
        (λ z. subst (λ (a : Term). is_bare_card (plus a (neg_ℤ t.offset)) ≡ true) (sym q) (subst (λ (a : Term). is_bare_card (plus (var_term d) (neg_ℤ a.offset)) ≡ true) (sym p) y))
        (λ z. absurd (int_no_card v z (ap is_card (sym same) ∙ x)))

    plain_plain : (t r : Term) → PlainPosition (Plain t r) → (o : Option Var) → binds exist w.by t ≡ o
        → PlainWalk (elim o [ Some v ↦ record w { by = add_int w.by v (plus r (neg_ℤ t.offset)) } | None ↦ record w { need = w.need ++ Eq (apply_term w.by t) r ∷ [] } ])
    plain_plain t r (inl g) (Some v) e = card_added t r v g.0 g.1 (binds_some exist w.by t v e).0 g.2 g.3 g.4 g.5
    plain_plain t r (inr g) (Some v) e = int_added t r v (binds_some exist w.by t v e).0 g.0 g.1
    plain_plain t r g None e = good

    content_plain : (k : ℕ) (t r : Term) → PlainPosition (Content k t r) → (o : Option Var) → binds exist w.by t ≡ o
        → PlainWalk (elim o [ Some v ↦ record w { by = add_int w.by v (plus r (neg_ℤ t.offset)) } | None ↦ record w { mends = w.mends ++ record { cell = k; value = apply_term w.by t } ∷ [] } ])
    content_plain k t r g (Some v) e = int_added t r v (binds_some exist w.by t v e).0 g.0 g.1
    content_plain k t r g None e = good

    set_step_plain : (x r : SetTerm) (b : Bool) → PlainBinds (set_step w x r b).by
    set_step_plain x r true = good
    set_step_plain x r false = good

    lone_plain : (x r : SetTerm) (v : Var) → set_fits is_int is_set_var r ≡ true → (b : Bool) → PlainWalk (elim b [ true ↦ set_step w x r false | false ↦ record w { by = add_set w.by v r } ])
    lone_plain x r v g true = good
    lone_plain x r v g false = add_set_plain w.by v r good (λ q. g)

    set_plain : (x r : SetTerm) → set_fits is_int is_set_var r ≡ true → (o : Option Var)
        → PlainWalk (elim o [
          | None ↦ set_step w x r (parts_wait x.vars x.elems)
          | Some v ↦ elim (var_in v exist || is_some (set_image w.by.sets v)) [ true ↦ set_step w x r false | false ↦ record w { by = add_set w.by v r } ]
        ])
    set_plain x r g None = set_step_plain x r (parts_wait x.vars x.elems)
    set_plain x r g (Some v) = lone_plain x r v g (var_in v exist || is_some (set_image w.by.sets v))

    step_plain : (p : Position) → PlainPosition p → PlainBinds (walk_step exist w p).by
    step_plain (Plain t r) g = plain_plain t r g (binds exist w.by t) refl
    step_plain (Content k t r) g = content_plain k t r g (binds exist w.by t) refl
    step_plain (OfSet x r) g = set_plain x r g (lone_of_parts x.vars x.elems)

  walk_plain : (w : Walk) → PlainBinds w.by → (ps : List Position) → AllByRecursion PlainPosition ps → PlainBinds (walk exist w ps).by
  walk_plain w g [] k = g
  walk_plain w g (p ∷ ps) k = walk_plain (walk_step exist w p) (step_plain w g p k.0) ps k.1

-- ---- the map

module _ (m : Subst) (map_plain : PlainBinds m) where
  int_mapped : (by more : Subst) (v : Var) → PlainBinds by → (b : Bool) → elim b [ true ↦ Some by | false ↦ option_map (add_int by v) (int_image m.ints v) ] ≡ Some more → PlainBinds more
  int_mapped by more v g true e = subst (λ (x : Subst). PlainBinds x) (same_Some by more e) g
  int_mapped by more v g false e =
      let a = mapped_some (add_int by v) (int_image m.ints v) more e in
      subst (λ (x : Subst). PlainBinds x) a.2 (add_plain by v a.0 g (map_plain.cards v a.0 a.1) (map_plain.ints v a.0 a.1))

  set_mapped : (by more : Subst) (v : Var) → PlainBinds by → (b : Bool) → elim b [ true ↦ Some by | false ↦ option_map (add_set by v) (set_image m.sets v) ] ≡ Some more → PlainBinds more
  set_mapped by more v g true e = subst (λ (x : Subst). PlainBinds x) (same_Some by more e) g
  set_mapped by more v g false e =
      let a = mapped_some (add_set by v) (set_image m.sets v) more e in
      subst (λ (x : Subst). PlainBinds x) a.2 (add_set_plain by v a.0 g (λ q. map_plain.sets v a.0 a.1 q))

  one_mapped : (by more : Subst) (v : Var) → PlainBinds by → (b : Bool)
      → elim b [
        | false ↦ elim (is_some (int_image by.ints v)) [ true ↦ Some by | false ↦ option_map (add_int by v) (int_image m.ints v) ]
        | true ↦ elim (is_some (set_image by.sets v)) [ true ↦ Some by | false ↦ option_map (add_set by v) (set_image m.sets v) ]
      ] ≡ Some more → PlainBinds more
  one_mapped by more v g false e = int_mapped by more v g (is_some (int_image by.ints v)) e
  one_mapped by more v g true e = set_mapped by more v g (is_some (set_image by.sets v)) e

  all_plain : (by more : Subst) (vs : List Var) → PlainBinds by → all_bound m by vs ≡ Some more → PlainBinds more
  all_plain by more [] g e = subst (λ (x : Subst). PlainBinds x) (same_Some by more e) g
  all_plain by more (v ∷ vs) g e =
      let a = and_then_some (λ (b : Subst). all_bound m b vs) (bound_by_map m by v) more e in
      all_plain a.0 more vs (one_mapped by a.0 v g (is_set_var v) a.1) a.2

pub bind_card : (c : Bool) (a b : Bool) → c ≡ true → cond c a b ≡ true → a ≡ true
bind_card true a b e h = h
bind_card false a b e h = absurd (false≢true e)

pub bind_other : (c : Bool) (a b : Bool) → c ≡ false → cond c a b ≡ true → b ≡ true
bind_other true a b e h = absurd (false≢true (sym e))
bind_other false a b e h = h

-- an image is that of an entry for the very variable
entry_at : (bs : List IntBind) (v : Var) (t : Term) → int_image bs v ≡ Some t → (b : IntBind) × Among b bs × (b.to ≡ t) × (b.var ≡ v)
entry_at [] v t e = absurd (none-some t e)
entry_at (b ∷ bs) v t e = at (var_eq b.var v) refl e (λ f. let r = entry_at bs v t f in (r.0, inr r.1, r.2, r.3))
  where
    at : (c : Bool) → var_eq b.var v ≡ c → cond c (Some b.to) (int_image bs v) ≡ Some t → (int_image bs v ≡ Some t → (a : IntBind) × Among a (b ∷ bs) × (a.to ≡ t) × (a.var ≡ v))
        → (a : IntBind) × Among a (b ∷ bs) × (a.to ≡ t) × (a.var ≡ v)
    at true p f later = (b, inl refl, same_Some b.to t f, (Decides-var_eq b.var v).0 p)
    at false p f later = later f

pub map_is_plain : (m : Subst) → list_all bind_plain m.ints ≡ true → list_all (λ (b : SetBind). set_fits is_int is_set_var b.to) m.sets ≡ true → PlainBinds m
map_is_plain m ints sets = record {
  cards = λ v t e c.
      let b = entry_at m.ints v t e in
      subst (λ (x : Term). is_bare_card x ≡ true) b.2 (bind_card (is_card b.0.var) (is_bare_card b.0.to) (term_fits is_int b.0.to) (ap is_card b.3 ∙ c) (each_at bind_plain b.0 m.ints ints b.1));
  ints = λ v t e c.
      let b = entry_at m.ints v t e in
      subst (λ (x : Term). term_fits is_int x ≡ true) b.2 (bind_other (is_card b.0.var) (is_bare_card b.0.to) (term_fits is_int b.0.to) (ap is_card b.3 ∙ false_from_ne_true (is_card v) (λ k. int_no_card v c k)) (each_at bind_plain b.0 m.ints ints b.1));
  sets = λ v u e q.
      let b = set_image_at m.sets v u e in
      subst (λ (x : SetTerm). set_fits is_int is_set_var x ≡ true) b.2 (each_at (λ (b : SetBind). set_fits is_int is_set_var b.to) b.0 m.sets sets b.1);
}

-- ---- positions

args_plain : (xs ys : List Arg) → list_all (arg_fits is_int is_set_var) xs ≡ true → list_all (arg_fits is_int is_set_var) ys ≡ true → AllByRecursion PlainPosition (arg_positions xs ys)
args_plain [] ys f e = tt
args_plain (x ∷ xs) [] f e = tt
args_plain (x ∷ xs) (y ∷ ys) f e =
    let a = and_parts (arg_fits is_int is_set_var x) (list_all (arg_fits is_int is_set_var) xs) f in
    let b = and_parts (arg_fits is_int is_set_var y) (list_all (arg_fits is_int is_set_var) ys) e in
    Every-append PlainPosition (arg_position x y) (arg_positions xs ys) (one x y a.0 b.0) (args_plain xs ys a.1 b.1)
  where
    one : (x y : Arg) → arg_fits is_int is_set_var x ≡ true → arg_fits is_int is_set_var y ≡ true → AllByRecursion PlainPosition (arg_position x y)
    one (IntArg x) (IntArg y) p q = (inr (p, q), tt)
    one (SetArg x) (SetArg y) p q = (q, tt)
    one (IntArg x) (SetArg y) p q = tt
    one (SetArg x) (IntArg y) p q = tt

card_plain : (c d : Option Var) → is_card_var c ≡ true → is_card_var d ≡ true → AllByRecursion PlainPosition (card_position c d)
card_plain None d f e = tt
card_plain (Some c) None f e = tt
card_plain (Some c) (Some d) f e = (inl (c, d, refl, refl, f, e), tt)

-- the cardinality of an instance is one
abbrev has_card : Chunk → Bool
has_card (Inst i) = is_card_var i.card
has_card _ = true

positions_plain : (c d : Chunk) (k : ℕ) → chunk_plain c ≡ true → has_card c ≡ true → chunk_plain d ≡ true → has_card d ≡ true → AllByRecursion PlainPosition (positions c k d)
positions_plain (Inst i) (Inst j) k f a e b =
    Every-append PlainPosition (arg_positions i.args j.args) (card_position i.card j.card) (args_plain i.args j.args f e) (card_plain i.card j.card a b)
positions_plain (Block x) (Block y) k f a e b = (inr (f, e), tt)
positions_plain (Cell x) (Cell y) k f a e b =
    let p = and_parts (term_fits is_int x.at) (term_fits is_int x.content) f in
    let q = and_parts (term_fits is_int y.at) (term_fits is_int y.content) e in
    (inr (p.0, q.0), ((p.1, q.1), tt))
positions_plain (Inst i) (Block y) k f a e b = tt
positions_plain (Inst i) (Cell y) k f a e b = tt
positions_plain (Block x) (Inst j) k f a e b = tt
positions_plain (Block x) (Cell y) k f a e b = tt
positions_plain (Cell x) (Inst j) k f a e b = tt
positions_plain (Cell x) (Block y) k f a e b = tt

all_positions : (present cs : List Chunk) (ks : List ℕ) (ps : List Position) → ArePaired present cs ks ps → list_all chunk_plain present ≡ true → list_all has_card present ≡ true → list_all chunk_plain cs ≡ true
    → list_all has_card cs ≡ true → AllByRecursion PlainPosition ps
all_positions present [] [] ps a p q r t = subst (λ (xs : List Position). AllByRecursion PlainPosition xs) (sym a) tt
all_positions present [] (k ∷ ks) ps a p q r t = absurd a
all_positions present (c ∷ cs) [] ps a p q r t = absurd a
all_positions present (c ∷ cs) (k ∷ ks) ps a p q r t =
    let f = and_parts (chunk_plain c) (list_all chunk_plain cs) r in
    let g = and_parts (has_card c) (list_all has_card cs) t in
    let there = slice_get-among present k a.0 a.2 in
    subst (λ (xs : List Position). AllByRecursion PlainPosition xs) (sym a.5)
    (Every-append PlainPosition (positions c k a.0) a.1 (positions_plain c a.0 k f.0 g.0 (each_at chunk_plain a.0 present p there) (each_at has_card a.0 present q there))
    (all_positions present cs ks a.1 a.6 p q f.1 g.1))

have_card : (cs : List Chunk) → list_all (λ (i : InstOf). is_card_var i.card) (insts cs) ≡ true → list_all has_card cs ≡ true
have_card [] h = refl
have_card (Inst i ∷ cs) h =
    let both = and_parts (is_card_var i.card) (list_all (λ (i : InstOf). is_card_var i.card) (insts cs)) h in
    and_from (is_card_var i.card) (list_all has_card cs) both.0 (have_card cs both.1)
have_card (Block b ∷ cs) h = have_card cs h
have_card (Cell c ∷ cs) h = have_card cs h

-- ---- a match

pub goal_parts : (g : Goal) → goal_plain g ≡ true
    → (list_all lit_plain g.pure_pre ≡ true) × (list_all chunk_plain g.pre.chunks ≡ true) × (list_all lit_plain g.pure_post ≡ true) × (list_all chunk_plain g.post.chunks ≡ true)
    × (list_all (λ v. not (is_card v)) g.exist ≡ true)
goal_parts g h =
    let d = and_parts _ (list_all (λ v. not (is_card v)) g.exist) h in
    let a = and_parts _ (list_all chunk_plain g.post.chunks) d.0 in
    let b = and_parts _ (list_all lit_plain g.pure_post) a.0 in
    let c = and_parts (list_all lit_plain g.pure_pre) (list_all chunk_plain g.pre.chunks) b.0 in
    (c.0, c.1, b.1, a.1, d.1)

pub goal_from : (g : Goal) → list_all lit_plain g.pure_pre ≡ true → list_all chunk_plain g.pre.chunks ≡ true → list_all lit_plain g.pure_post ≡ true → list_all chunk_plain g.post.chunks ≡ true
    → list_all (λ v. not (is_card v)) g.exist ≡ true → goal_plain g ≡ true
goal_from g a b c d e = and_from _ _ (and_from _ _ (and_from _ _ (and_from _ _ a b) c) d) e

pub link_from : (l : Link) → goal_plain l.goal ≡ true → list_all is_bare_card l.own ≡ true → list_all is_bare_card l.tuple ≡ true → list_all bind_plain l.map.ints ≡ true
    → list_all (λ (b : SetBind). set_fits is_int is_set_var b.to) l.map.sets ≡ true → link_plain l ≡ true
link_from l a b c d e = and_from _ _ (and_from _ _ (and_from _ _ (and_from _ _ a b) c) d) e

pub link_parts : (l : Link) → link_plain l ≡ true
    → (goal_plain l.goal ≡ true) × (list_all is_bare_card l.own ≡ true) × (list_all is_bare_card l.tuple ≡ true) × (list_all bind_plain l.map.ints ≡ true)
    × (list_all (λ (b : SetBind). set_fits is_int is_set_var b.to) l.map.sets ≡ true)
link_parts l h =
    let a = and_parts _ (list_all (λ (b : SetBind). set_fits is_int is_set_var b.to) l.map.sets) h in
    let b = and_parts _ (list_all bind_plain l.map.ints) a.0 in
    let c = and_parts _ (list_all is_bare_card l.tuple) b.0 in
    let d = and_parts (goal_plain l.goal) (list_all is_bare_card l.own) c.0 in
    (d.0, d.1, c.1, b.1, a.1)

pub match_plain : (n : Node) (l : Link) (ks : List ℕ) (f : Match) → match_at n l ks ≡ Some f → goal_plain n.goal ≡ true → insts_fit n.preds n.goal ≡ true → link_plain l ≡ true → insts_fit n.preds l.goal ≡ true
    → PlainBinds f.by
match_plain n l ks f e plain fits link inner =
    let o : Found n l ks f = found n l ks f e in
    let p = goal_parts n.goal plain in
    let q = link_parts l link in
    let r = goal_parts l.goal q.0 in
    let a = and_parts _ _ (and_parts _ _ fits).0 in
    let b = and_parts _ _ (and_parts _ _ inner).0 in
    let steps = all_positions n.goal.pre.chunks l.goal.pre.chunks ks o.steps o.paired p.1 (have_card n.goal.pre.chunks a.1) r.1 (have_card l.goal.pre.chunks b.1) in
    all_plain l.map (map_is_plain l.map q.3 q.4) (walk l.goal.exist no_walk o.steps).by f.by (to_bind l)
    (walk_plain l.goal.exist no_walk (record { cards = λ v t i. absurd (none-some t i); ints = λ v t i. absurd (none-some t i); sets = λ v u i q. absurd (none-some u i) }) o.steps steps) o.bound
