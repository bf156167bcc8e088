-- Each store that a walk finds gives a cell the content of the companion's cell.
use Rattle.std.proofs.Common.{◌≡◌, refl, sym, ap, ◌∙◌, ℕ, ◌==◌, ◌⊎◌, inl, inr, Bool, true, false, ◌||◌, List, [], ◌∷◌, ◌++◌, Option, Some, None, is_some, subst}
use Rattle.std.specs.Prelude.{neg_ℤ}
use Rattle.std.specs.List.{AllByRecursion}
use Rattle.std.proofs.lemmas.Bool.{both_ways, eq-eqb, or_left, or_right}
use Rattle.cyp_goal.proofs.EachVar.{Each}
use Rattle.cyp_heap.specs.declared.chunk.Arg.{Arg}
use Rattle.cyp_heap.specs.declared.chunk.Arg.TheVariants.{Int as IntArg, Set as SetArg}
use Rattle.cyp_heap.specs.declared.chunk.Chunk.{Chunk}
use Rattle.cyp_heap.specs.declared.chunk.Chunk.TheVariants.{Block, Cell, Inst}
use Rattle.cyp_kernel.proofs.Bindings.{Extends, applied_early}
use Rattle.cyp_kernel.proofs.PairedChunks.{ArePaired}
use Rattle.cyp_kernel.proofs.PairsOut.{is_taken}
use Rattle.cyp_kernel.proofs.WalkFinds.{IsFreeOf, bound_base, walk_grows}
use Rattle.cyp_term.proofs.Lists.{Among, Among-cases}
use Rattle.cyp_term.specs.Meaning.{Assignment, under, value}
use Rattle.cyp_term.specs.Terms.{apply_term, plus, set_image, term_vars, var_in}
use Rattle.cyp_term.specs.declared.lit.Lit.TheVariants.{Eq}
use Rattle.cyp_term.specs.declared.lit.SetTerm.{SetTerm}
use Rattle.cyp_term.specs.declared.subst.Subst.{Subst}
use Rattle.cyp_term.specs.declared.term.Term.{Term}
use Rattle.cyp_term.specs.declared.term.Var.{Var}
use Rattle.cyp_unify.specs.Matches.{Content, OfSet, Plain, Position, Walk, add_int, add_set, arg_positions, binds, card_position, lone_of_parts, no_walk, parts_wait, positions, set_step, walk, walk_step}
use Rattle.cyp_unify.specs.declared.found.Mend.{Mend}

-- the store gives the cell of one of the positions of contents the companion's content
pub record IsOfContent (s u : Assignment) (ps : List Position) (m : Mend) : Type 0 where
  pub term : Term
  pub present : Term
  pub among : Among (Content m.cell term present) ps
  pub same : value u term ≡ value s m.value

-- ---- one position

module _ (w : Walk) (m : Mend) where
  -- the store was there before
  abbrev WasThere : Walk → Type 0
  WasThere more = Among m more.mends → Among m w.mends

  of_set_step : (x r : SetTerm) (b : Bool) → WasThere (set_step w x r b)
  of_set_step x r true a = a
  of_set_step x r false a = a

  of_test : (x r : SetTerm) (v : Var) (b : Bool) → WasThere (elim b [ true ↦ set_step w x r false | false ↦ record w { by = add_set w.by v r } ])
  of_test x r v true a = a
  of_test x r v false a = a

  of_set : (exist : List Var) (x r : SetTerm) (o : Option Var)
      → WasThere (elim o [
        | None ↦ set_step w x r (parts_wait x.vars x.elems)
        | Some v ↦ elim (var_in v exist || is_some (set_image w.by.sets v)) [ true ↦ set_step w x r false | false ↦ record w { by = add_set w.by v r } ]
      ])
  of_set exist x r None a = of_set_step x r (parts_wait x.vars x.elems) a
  of_set exist x r (Some v) a = of_test x r v (var_in v exist || is_some (set_image w.by.sets v)) a

  of_plain : (t r : Term) (o : Option Var)
      → WasThere (elim o [ Some v ↦ record w { by = add_int w.by v (plus r (neg_ℤ t.offset)) } | None ↦ record w { need = w.need ++ Eq (apply_term w.by t) r ∷ [] } ])
  of_plain t r (Some v) a = a
  of_plain t r None a = a

  -- the store was there before, or it is that of the position
  abbrev IsFrom : Assignment → Position → Walk → Type 0
  IsFrom s p more = (by : Subst) → Extends more.by by → Among m more.mends → Among m w.mends ⊎ IsOfContent s (under by s) (p ∷ []) m

  last_mend : (s u : Assignment) (k : ℕ) (t r x : Term) → value u t ≡ value s x → Among m (record { cell = k; value = x } ∷ []) → IsOfContent s u (Content k t r ∷ []) m
  last_mend s u k t r x q (inl p) = record {
    term = t;
    present = r;
    among = inl (ap (λ (y : Mend). Content y.cell t r) p);
    same = q ∙ sym (ap (λ (y : Mend). value s y.value) p);
  }
  last_mend s u k t r x q (inr p) = absurd p

  of_content : (exist : List Var) (k : ℕ) (t r : Term) → Each (λ v. var_in v exist ≡ false) (term_vars t) → (o : Option Var) → binds exist w.by t ≡ o → (s : Assignment)
      → IsFrom s (Content k t r) (elim o [ Some v ↦ record w { by = add_int w.by v (plus r (neg_ℤ t.offset)) } | None ↦ record w { mends = w.mends ++ record { cell = k; value = apply_term w.by t } ∷ [] } ])
  of_content exist k t r f (Some v) e s by x a = inl a
  of_content exist k t r f None e s by x a = elim (Among-cases m w.mends (record { cell = k; value = apply_term w.by t } ∷ []) a) [
    | inl b ↦ inl b
    | inr b ↦ inr (last_mend s (under by s) k t r (apply_term w.by t) (sym (applied_early s w.by by x t (bound_base exist w.by t.base e f))) b)
  ]

  of_step : (exist : List Var) (p : Position) → IsFreeOf exist p → (s : Assignment) → IsFrom s p (walk_step exist w p)
  of_step exist (Plain t r) f s by x a = inl (of_plain t r (binds exist w.by t) a)
  of_step exist (Content k t r) f s by x a = of_content exist k t r f (binds exist w.by t) refl s by x a
  of_step exist (OfSet u r) f s by x a = inl (of_set exist u r (lone_of_parts u.vars u.elems) a)

-- ---- all positions

first_of : (s u : Assignment) (p : Position) (ps : List Position) (m : Mend) → IsOfContent s u (p ∷ []) m → IsOfContent s u (p ∷ ps) m
first_of s u p ps m o = record { term = o.term; present = o.present; among = first o.among; same = o.same }
  where
    first : Among (Content m.cell o.term o.present) (p ∷ []) → Among (Content m.cell o.term o.present) (p ∷ ps)
    first (inl e) = inl e
    first (inr e) = absurd e

later_of : (s u : Assignment) (p : Position) (ps : List Position) (m : Mend) → IsOfContent s u ps m → IsOfContent s u (p ∷ ps) m
later_of s u p ps m o = record { term = o.term; present = o.present; among = inr o.among; same = o.same }

walk_mends : (exist : List Var) (w : Walk) (ps : List Position) → AllByRecursion (IsFreeOf exist) ps → (s : Assignment) (by : Subst) → Extends (walk exist w ps).by by
    → (m : Mend) → Among m (walk exist w ps).mends → Among m w.mends ⊎ IsOfContent s (under by s) ps m
walk_mends exist w [] f s by x m a = inl a
walk_mends exist w (p ∷ ps) f s by x m a =
    let next : Walk = walk_step exist w p in
    let grown : Extends next.by by = from_walk (walk_grows exist next ps f.1).by in
    elim (walk_mends exist next ps f.1 s by x m a) [
      | inl b ↦ here (of_step w m exist p f.0 s by grown b)
      | inr o ↦ inr (later_of s (under by s) p ps m o)
    ]
  where
    from_walk : Extends (walk_step exist w p).by (walk exist (walk_step exist w p) ps).by → Extends (walk_step exist w p).by by
    from_walk g = record { ints = λ v t e. x.ints v t (g.ints v t e); sets = λ v t e. x.sets v t (g.sets v t e) }

    here : Among m w.mends ⊎ IsOfContent s (under by s) (p ∷ []) m → Among m w.mends ⊎ IsOfContent s (under by s) (p ∷ ps) m
    here (inl b) = inl b
    here (inr o) = inr (first_of s (under by s) p ps m o)

pub mend_of_content : (exist : List Var) (ps : List Position) → AllByRecursion (IsFreeOf exist) ps → (s : Assignment) (by : Subst) → Extends (walk exist no_walk ps).by by
    → (m : Mend) → Among m (walk exist no_walk ps).mends → IsOfContent s (under by s) ps m
mend_of_content exist ps f s by x m a = elim (walk_mends exist no_walk ps f s by x m a) [ inl b ↦ absurd b | inr o ↦ o ]

-- ---- one content at each place

no_content_arg : (k : ℕ) (t r : Term) (xs ys : List Arg) → Among (Content k t r) (arg_positions xs ys) → ⊥
no_content_arg k t r [] ys a = absurd a
no_content_arg k t r (x ∷ xs) [] a = absurd a
no_content_arg k t r (IntArg x ∷ xs) (IntArg y ∷ ys) (inl e) = cc
no_content_arg k t r (IntArg x ∷ xs) (IntArg y ∷ ys) (inr a) = no_content_arg k t r xs ys a
no_content_arg k t r (SetArg x ∷ xs) (SetArg y ∷ ys) (inl e) = cc
no_content_arg k t r (SetArg x ∷ xs) (SetArg y ∷ ys) (inr a) = no_content_arg k t r xs ys a
no_content_arg k t r (IntArg x ∷ xs) (SetArg y ∷ ys) a = no_content_arg k t r xs ys a
no_content_arg k t r (SetArg x ∷ xs) (IntArg y ∷ ys) a = no_content_arg k t r xs ys a

no_content_card : (k : ℕ) (t r : Term) (c d : Option Var) → Among (Content k t r) (card_position c d) → ⊥
no_content_card k t r None d a = absurd a
no_content_card k t r (Some c) None a = absurd a
no_content_card k t r (Some c) (Some d) (inl e) = cc
no_content_card k t r (Some c) (Some d) (inr a) = absurd a

-- the term is the chunk's content
abbrev pub IsContentOf : Chunk → Term → Type 0
IsContentOf (Cell b) t = t ≡ b.content
IsContentOf _ t = ⊥

content_place : (c d : Chunk) (i k : ℕ) (t r : Term) → Among (Content i t r) (positions c k d) → (i ≡ k) × IsContentOf c t
content_place (Inst x) (Inst y) i k t r a = elim (Among-cases (Content i t r) (arg_positions x.args y.args) (card_position x.card y.card) a) [
  | inl b ↦ absurd (no_content_arg i t r x.args y.args b)
  | inr b ↦ absurd (no_content_card i t r x.card y.card b)
]
content_place (Block b) (Block c) i k t r (inl e) = cc
content_place (Block b) (Block c) i k t r (inr a) = absurd a
content_place (Cell b) (Cell c) i k t r (inl e) = cc
content_place (Cell b) (Cell c) i k t r (inr (inl e)) = (same_place e, same_content e)
  where
    same_place : Content i t r ≡ Content k b.content c.content → i ≡ k
    same_place e = cc

    same_content : Content i t r ≡ Content k b.content c.content → t ≡ b.content
    same_content e = cc
content_place (Cell b) (Cell c) i k t r (inr (inr a)) = absurd a
content_place (Inst x) (Block c) i k t r a = absurd a
content_place (Inst x) (Cell c) i k t r a = absurd a
content_place (Block b) (Inst y) i k t r a = absurd a
content_place (Block b) (Cell c) i k t r a = absurd a
content_place (Cell b) (Inst y) i k t r a = absurd a
content_place (Cell b) (Block c) i k t r a = absurd a

content_taken : (present cs : List Chunk) (ks : List ℕ) (ps : List Position) → ArePaired present cs ks ps → (i : ℕ) (t r : Term) → Among (Content i t r) ps → is_taken ks i ≡ true
content_taken present [] [] ps a i t r k = absurd (subst (λ (qs : List Position). Among (Content i t r) qs) a k)
content_taken present [] (k ∷ ks) ps a i t r x = absurd a
content_taken present (c ∷ cs) [] ps a i t r x = absurd a
content_taken present (c ∷ cs) (k ∷ ks) ps a i t r x =
    elim (Among-cases (Content i t r) (positions c k a.0) a.1 (subst (λ (qs : List Position). Among (Content i t r) qs) a.5 x)) [
      | inl y ↦ or_left (k == i) (is_taken ks i) (eq-eqb k i (sym (content_place c a.0 i k t r y).0))
      | inr y ↦ or_right (k == i) (is_taken ks i) (content_taken present cs ks a.1 a.6 i t r y)
    ]

-- a content that is met at the chunk's place is the chunk's
abbrev pub ContentsAt : List Position → List Chunk → List ℕ → Type 0
ContentsAt all [] ks = Unit {0}
ContentsAt all (c ∷ cs) [] = Unit {0}
ContentsAt all (c ∷ cs) (k ∷ ks) = ((t r : Term) → Among (Content k t r) all → IsContentOf c t) × ContentsAt all cs ks

contents_in : (present cs : List Chunk) (ks : List ℕ) (ps all : List Position) → ArePaired present cs ks ps
    → ((i : ℕ) (t r : Term) → is_taken ks i ≡ true → Among (Content i t r) all → Among (Content i t r) ps) → ContentsAt all cs ks
contents_in present [] ks ps all a f = tt
contents_in present (c ∷ cs) [] ps all a f = tt
contents_in present (c ∷ cs) (k ∷ ks) ps all a f = (
  λ t r x. here t r (Among-cases (Content k t r) (positions c k a.0) a.1 (subst (λ (qs : List Position). Among (Content k t r) qs) a.5 (f k t r (or_left (k == k) (is_taken ks k) (eq-eqb k k refl)) x))),
  contents_in present cs ks a.1 all a.6 (λ i t r y x. there i t r y (Among-cases (Content i t r) (positions c k a.0) a.1 (subst (λ (qs : List Position). Among (Content i t r) qs) a.5 (f i t r (or_right (k == i) (is_taken ks i) y) x)))),
)
  where
    here : (t r : Term) → Among (Content k t r) (positions c k a.0) ⊎ Among (Content k t r) a.1 → IsContentOf c t
    here t r (inl y) = (content_place c a.0 k k t r y).1
    here t r (inr y) = absurd (both_ways (is_taken ks k) a.4 (content_taken present cs ks a.1 a.6 k t r y))

    there : (i : ℕ) (t r : Term) → is_taken ks i ≡ true → Among (Content i t r) (positions c k a.0) ⊎ Among (Content i t r) a.1 → Among (Content i t r) a.1
    there i t r y (inl z) = absurd (both_ways (is_taken ks k) a.4 (subst (λ (j : ℕ). is_taken ks j ≡ true) (content_place c a.0 i k t r z).0 y))
    there i t r y (inr z) = z

pub contents_at : (present cs : List Chunk) (ks : List ℕ) (ps : List Position) → ArePaired present cs ks ps → ContentsAt ps cs ks
contents_at present cs ks ps a = contents_in present cs ks ps ps a (λ i t r y x. x)

-- each store found is at one of the places
pub mend_taken : (present cs : List Chunk) (ks : List ℕ) (ps : List Position) → ArePaired present cs ks ps → (s u : Assignment) (m : Mend) → IsOfContent s u ps m → is_taken ks m.cell ≡ true
mend_taken present cs ks ps a s u m o = content_taken present cs ks ps a m.cell o.term o.present o.among
