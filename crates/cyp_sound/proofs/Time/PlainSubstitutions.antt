-- What is plain stays so under plain substitutions.
use Rattle.cyp_goal.proofs.Fits.{ImagesFit, chunk_fits-apply, lit_fits-apply, set_fits-apply, term_fits-apply}
use Rattle.cyp_goal.specs.Raw.{arg_fits, lit_fits, set_fits, term_fits}
use Rattle.cyp_heap.specs.Chunks.{apply_arg, apply_chunk}
use Rattle.cyp_heap.specs.Goals.{apply_bind, apply_goal, apply_link, apply_node, apply_set_bind}
use Rattle.cyp_heap.specs.declared.chunk.Chunk.{Chunk}
use Rattle.cyp_heap.specs.declared.chunk.Chunk.TheVariants.{Block, Cell, Inst}
use Rattle.cyp_heap.specs.declared.goal.Goal.{Goal}
use Rattle.cyp_heap.specs.declared.goal.Link.{Link}
use Rattle.cyp_heap.specs.declared.goal.Node.{Node}
use Rattle.cyp_sound.proofs.Time.Plain.{bind_plain, chunk_plain, goal_plain, is_bare_card, is_card, is_card_base, is_int, link_plain, lit_plain}
use Rattle.cyp_sound.proofs.Time.PlainMatches.{PlainBinds, bind_card, bind_other, goal_from, goal_parts, link_from, link_parts}
use Rattle.cyp_term.specs.Terms.{apply_lit, apply_term, base_vars, int_image, is_set_var, term_at, term_base}
use Rattle.cyp_term.specs.declared.lit.Lit.{Lit}
use Rattle.cyp_term.specs.declared.lit.Lit.TheVariants.{Eq, Le, Lt, Member, Ne, NotMember, NotSame, NotSub, Same, Sub}
use Rattle.cyp_term.specs.declared.subst.IntBind.{IntBind}
use Rattle.cyp_term.specs.declared.subst.SetBind.{SetBind}
use Rattle.cyp_term.specs.declared.subst.Subst.{Subst}
use Rattle.cyp_term.specs.declared.term.Term.{Term}
use Rattle.cyp_term.specs.declared.term.Var.{Var}
use Rattle.std.proofs.Common.{◌≡◌, refl, ◌&&◌, Bool, true, false, cond, List, [], ◌∷◌, map, Option, Some, None, inl, inr, ℤ, pos, ◌+ℤ◌, arith}
use Rattle.std.proofs.lemmas.Bool.{and_from, and_parts, false≢true, or_cases, or_left, or_right}
use Rattle.std.proofs.lemmas.Bool.Decides.{Decides-int_eq}
use Rattle.std.proofs.lemmas.Int.{ints}
use Rattle.std.specs.List.{list_all}
use Rattle.std.specs.Ordering.{int_eq}

pub all_map : {A B : Type 0} (p : A → Bool) (q : B → Bool) (f : A → B) → ((x : A) → p x ≡ true → q (f x) ≡ true) → (xs : List A) → list_all p xs ≡ true → list_all q (map f xs) ≡ true
all_map p q f h [] e = refl
all_map p q f h (x ∷ xs) e = let both = and_parts (p x) (list_all p xs) e in and_from (q (f x)) (list_all q (map f xs)) (h x both.0) (all_map p q f h xs both.1)

-- a literal without cardinalities is plain
pub fits_plain : (l : Lit) → lit_fits is_int is_set_var l ≡ true → lit_plain l ≡ true
fits_plain (Eq a b) h = h
fits_plain (Ne a b) h = h
fits_plain (Le a b) h = h
fits_plain (Lt a b) h = or_left (lit_fits is_int is_set_var (Lt a b)) (term_fits is_card a && term_fits is_card b) h
fits_plain (Same a b) h = h
fits_plain (NotSame a b) h = h
fits_plain (Member a b) h = h
fits_plain (NotMember a b) h = h
fits_plain (Sub a b) h = h
fits_plain (NotSub a b) h = h

module _ (by : Subst) (plain : PlainBinds by) where
  pub fit : ImagesFit is_int is_set_var by
  fit = record {
    ints = λ v to p e. plain.ints v to e p;
    sets = λ v u q e. plain.sets v u e q;
  }

  bare_base : (b : Option Var) (o : ℤ) → (int_eq o (pos 0) && is_card_base b) ≡ true → is_bare_card (term_base by (record { base = b; offset = o }) b) ≡ true
  bare_base None o h = absurd (false≢true (and_parts (int_eq o (pos 0)) false h).1)
  bare_base (Some v) o h = at (int_image by.ints v) refl
    where
      both : (int_eq o (pos 0) ≡ true) × (is_card v ≡ true)
      both = and_parts (int_eq o (pos 0)) (is_card v) h

      zero_sum : (x y : ℤ) → x ≡ pos 0 → y ≡ pos 0 → x +ℤ y ≡ pos 0
      zero_sum x y p q = omega (arith, ints)

      at : (x : Option Term) → int_image by.ints v ≡ x → is_bare_card (term_at (record { base = Some v; offset = o }) x) ≡ true
      at None e = h
      at (Some t) e =
          let image = and_parts (int_eq t.offset (pos 0)) (is_card_base t.base) (plain.cards v t e (and_parts (int_eq o (pos 0)) (is_card v) h).1) in
          and_from (int_eq (t.offset +ℤ o) (pos 0)) (is_card_base t.base)
          ((Decides-int_eq (t.offset +ℤ o) (pos 0)).1 (zero_sum t.offset o ((Decides-int_eq t.offset (pos 0)).0 image.0) ((Decides-int_eq o (pos 0)).0 (and_parts (int_eq o (pos 0)) (is_card v) h).0))) image.1

  pub bare_kept : (t : Term) → is_bare_card t ≡ true → is_bare_card (apply_term by t) ≡ true
  bare_kept t h = bare_base t.base t.offset h

  card_of_bare : (b : Option Var) → is_card_base b ≡ true → list_all is_card (base_vars b) ≡ true
  card_of_bare None h = refl
  card_of_bare (Some v) h = and_from (is_card v) true h refl

  card_base : (b : Option Var) (o : ℤ) → list_all is_card (base_vars b) ≡ true → term_fits is_card (term_base by (record { base = b; offset = o }) b) ≡ true
  card_base None o h = refl
  card_base (Some v) o h = at (int_image by.ints v) refl
    where
      at : (x : Option Term) → int_image by.ints v ≡ x → term_fits is_card (term_at (record { base = Some v; offset = o }) x) ≡ true
      at None e = h
      at (Some t) e = card_of_bare t.base (and_parts (int_eq t.offset (pos 0)) (is_card_base t.base) (plain.cards v t e (and_parts (is_card v) true h).0)).1

  pub lit_kept : (l : Lit) → lit_plain l ≡ true → lit_plain (apply_lit by l) ≡ true
  lit_kept (Lt a b) h = elim (or_cases (lit_fits is_int is_set_var (Lt a b)) (term_fits is_card a && term_fits is_card b) h) [
    | inl e ↦ fits_plain (Lt (apply_term by a) (apply_term by b)) (lit_fits-apply is_int is_set_var by fit (Lt a b) e)
    | inr e ↦
        let both = and_parts (term_fits is_card a) (term_fits is_card b) e in
        or_right (lit_fits is_int is_set_var (Lt (apply_term by a) (apply_term by b))) (term_fits is_card (apply_term by a) && term_fits is_card (apply_term by b))
        (and_from (term_fits is_card (apply_term by a)) (term_fits is_card (apply_term by b)) (card_base a.base a.offset both.0) (card_base b.base b.offset both.1))
  ]
  lit_kept (Eq a b) h = lit_fits-apply is_int is_set_var by fit (Eq a b) h
  lit_kept (Ne a b) h = lit_fits-apply is_int is_set_var by fit (Ne a b) h
  lit_kept (Le a b) h = lit_fits-apply is_int is_set_var by fit (Le a b) h
  lit_kept (Same a b) h = lit_fits-apply is_int is_set_var by fit (Same a b) h
  lit_kept (NotSame a b) h = lit_fits-apply is_int is_set_var by fit (NotSame a b) h
  lit_kept (Member a b) h = lit_fits-apply is_int is_set_var by fit (Member a b) h
  lit_kept (NotMember a b) h = lit_fits-apply is_int is_set_var by fit (NotMember a b) h
  lit_kept (Sub a b) h = lit_fits-apply is_int is_set_var by fit (Sub a b) h
  lit_kept (NotSub a b) h = lit_fits-apply is_int is_set_var by fit (NotSub a b) h

  pub chunk_kept : (c : Chunk) → chunk_plain c ≡ true → chunk_plain (apply_chunk by c) ≡ true
  chunk_kept (Inst i) h =
      (and_parts (list_all (arg_fits is_int is_set_var) (map (apply_arg by) i.args)) true
      (chunk_fits-apply is_int is_set_var by fit (Inst (record { pred = i.pred; args = i.args; card = None; tag = i.tag })) (and_from (list_all (arg_fits is_int is_set_var) i.args) true h refl))).0
  chunk_kept (Block k) h = chunk_fits-apply is_int is_set_var by fit (Block k) h
  chunk_kept (Cell k) h = chunk_fits-apply is_int is_set_var by fit (Cell k) h

  pub goal_kept : (g : Goal) → goal_plain g ≡ true → goal_plain (apply_goal by g) ≡ true
  goal_kept g h =
      let p = goal_parts g h in
      goal_from (apply_goal by g) (all_map lit_plain lit_plain (apply_lit by) lit_kept g.pure_pre p.0) (all_map chunk_plain chunk_plain (apply_chunk by) chunk_kept g.pre.chunks p.1)
      (all_map lit_plain lit_plain (apply_lit by) lit_kept g.pure_post p.2) (all_map chunk_plain chunk_plain (apply_chunk by) chunk_kept g.post.chunks p.3) p.4

  bind_kept : (b : IntBind) → bind_plain b ≡ true → bind_plain (apply_bind by b) ≡ true
  bind_kept b h = at (is_card b.var) refl
    where
      at : (c : Bool) → is_card b.var ≡ c → cond c (is_bare_card (apply_term by b.to)) (term_fits is_int (apply_term by b.to)) ≡ true
      at true e = bare_kept b.to (bind_card (is_card b.var) (is_bare_card b.to) (term_fits is_int b.to) e h)
      at false e = term_fits-apply is_int is_set_var by fit b.to (bind_other (is_card b.var) (is_bare_card b.to) (term_fits is_int b.to) e h)

  pub link_kept : (l : Link) → link_plain l ≡ true → link_plain (apply_link by l) ≡ true
  link_kept l h =
      let p = link_parts l h in
      link_from (apply_link by l) p.0 p.1 (all_map is_bare_card is_bare_card (apply_term by) bare_kept l.tuple p.2) (all_map bind_plain bind_plain (apply_bind by) bind_kept l.map.ints p.3)
      (all_map (λ (b : SetBind). set_fits is_int is_set_var b.to) (λ (b : SetBind). set_fits is_int is_set_var b.to) (apply_set_bind by) (λ b k. set_fits-apply is_int is_set_var by fit b.to k) l.map.sets p.4)

-- the goal and the companions of a node
abbrev pub PlainCore : Node → Type 0
PlainCore n = (goal_plain n.goal ≡ true) × (list_all link_plain n.links ≡ true)

pub core_kept : (by : Subst) → PlainBinds by → (n : Node) → PlainCore n → PlainCore (apply_node by n)
core_kept by plain n h = (goal_kept by plain n.goal h.0, all_map link_plain link_plain (apply_link by) (link_kept by plain) n.links h.1)
