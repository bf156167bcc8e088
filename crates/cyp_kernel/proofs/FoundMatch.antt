-- What a match tells of the walk that found it.
use Rattle.std.proofs.Common.{◌≡◌, refl, sym, ◌∙◌, ℕ, Bool, true, false, cond, ◌||◌, List, [], ◌∷◌, ◌++◌, map, Option, Some, None, is_some, inl, inr, subst}
use Rattle.std.specs.Prelude.{option_map}
use Rattle.std.specs.List.{list_any}
use Rattle.std.specs.Option.{option_and_then}
use Rattle.std.proofs.lemmas.Option.{none-some, same_Some}
use Rattle.cyp_term.specs.Terms.{apply_set, int_image, is_set_var, set_image, wide_lit, wide_subst, wide_term}
use Rattle.cyp_heap.specs.declared.goal.Link.{Link}
use Rattle.cyp_heap.specs.declared.goal.Node.{Node}
use Rattle.cyp_kernel.proofs.Allowed.{mapped_some}
use Rattle.cyp_kernel.proofs.Bindings.{Extends, extends_self, extends_trans, int_behind, set_behind}
use Rattle.cyp_kernel.proofs.GoalFacts.{true_left, true_right}
use Rattle.cyp_kernel.proofs.PairedChunks.{ArePaired, are_paired}
use Rattle.cyp_kernel.proofs.WalkFinds.{WalkTrue}
use Rattle.cyp_term.proofs.Lists.{Among}
use Rattle.cyp_term.proofs.Substitution.{set_value-apply_set}
use Rattle.cyp_term.specs.Meaning.{AllTrue, Assignment, SameMembers, set_value, under}
use Rattle.cyp_term.specs.declared.lit.Lit.{Lit}
use Rattle.cyp_term.specs.declared.lit.Lit.TheVariants.{Same}
use Rattle.cyp_term.specs.declared.lit.SetTerm.{SetTerm}
use Rattle.cyp_term.specs.declared.subst.Subst.{Subst}
use Rattle.cyp_term.specs.declared.term.Var.{Var}
use Rattle.cyp_unify.specs.Matches.{Position, Walk, add_int, add_set, all_bound, bound_by_map, finish_match, match_at, no_walk, pair_positions, to_bind, walk}
use Rattle.cyp_unify.specs.declared.found.Match.{Match}
use Rattle.cyp_unify.specs.declared.found.Mend.{Mend}

-- ---- bindings by the map

int_bound : (m by more : Subst) (v : Var) (b : Bool) → elim b [ true ↦ Some by | false ↦ option_map (add_int by v) (int_image m.ints v) ] ≡ Some more → Extends by more
int_bound m by more v true e = subst (λ (x : Subst). Extends by x) (same_Some by more e) (extends_self by)
int_bound m by more v false e =
    let a = mapped_some (add_int by v) (int_image m.ints v) more e in
    subst (λ (x : Subst). Extends by x) a.2 (record { ints = λ w t i. int_behind by.ints (record { var = v; to = a.0 } ∷ []) w t i; sets = λ w u i. i })

set_bound : (m by more : Subst) (v : Var) (b : Bool) → elim b [ true ↦ Some by | false ↦ option_map (add_set by v) (set_image m.sets v) ] ≡ Some more → Extends by more
set_bound m by more v true e = subst (λ (x : Subst). Extends by x) (same_Some by more e) (extends_self by)
set_bound m by more v false e =
    let a = mapped_some (add_set by v) (set_image m.sets v) more e in
    subst (λ (x : Subst). Extends by x) a.2 (record { ints = λ w t i. i; sets = λ w u i. set_behind by.sets (record { var = v; to = a.0 } ∷ []) w u i })

one_bound : (m by more : Subst) (v : Var) (b : Bool)
    → elim b [
      | false ↦ elim (is_some (int_image by.ints v)) [ true ↦ Some by | false ↦ option_map (add_int by v) (int_image m.ints v) ]
      | true ↦ elim (is_some (set_image by.sets v)) [ true ↦ Some by | false ↦ option_map (add_set by v) (set_image m.sets v) ]
    ] ≡ Some more → Extends by more
one_bound m by more v false e = int_bound m by more v (is_some (int_image by.ints v)) e
one_bound m by more v true e = set_bound m by more v (is_some (set_image by.sets v)) e

pub and_then_some : {A B : Type 0} (f : A → Option B) (o : Option A) (r : B) → option_and_then f o ≡ Some r → (x : A) × (o ≡ Some x) × (f x ≡ Some r)
and_then_some f None r e = absurd (none-some r e)
and_then_some f (Some x) r e = (x, refl, e)

pub all_kept : (m by more : Subst) (vs : List Var) → all_bound m by vs ≡ Some more → Extends by more
all_kept m by more [] e = subst (λ (x : Subst). Extends by x) (same_Some by more e) (extends_self by)
all_kept m by more (v ∷ vs) e =
    let a = and_then_some (λ (b : Subst). all_bound m b vs) (bound_by_map m by v) more e in
    extends_trans by a.0 more (one_bound m by a.0 v (is_set_var v) a.1) (all_kept m a.0 more vs a.2)

-- ---- the match

narrow : (b : Bool) (x f : Match) → cond b None (Some x) ≡ Some f → x ≡ f
narrow true x f e = absurd (none-some f e)
narrow false x f e = same_Some x f e

abbrev pub late_lits : Subst → List (SetTerm × SetTerm) → List Lit
late_lits by late = map (λ (p : SetTerm × SetTerm). Same (apply_set by p.0) p.1) late

late_true : (s : Assignment) (by : Subst) (late : List (SetTerm × SetTerm)) → AllTrue s (late_lits by late)
    → (p : SetTerm × SetTerm) → Among p late → SameMembers (set_value (under by s) p.0) (set_value s p.1)
late_true s by [] a p k = absurd k
late_true s by (q ∷ qs) a p (inl e) =
    subst (λ (x : SetTerm × SetTerm). SameMembers (set_value (under by s) x.0) (set_value s x.1)) (sym e) (λ z. sym (set_value-apply_set by s q.0 z) ∙ a.0 z)
late_true s by (q ∷ qs) a p (inr k) = late_true s by qs a.1 p k

-- the pairing, the walk over its positions, and the match that this gives
pub record Found (n : Node) (l : Link) (ks : List ℕ) (f : Match) : Type 0 where
  pub steps : List Position
  pub paired : ArePaired n.goal.pre.chunks l.goal.pre.chunks ks steps
  pub pairs_are : f.pairs ≡ ks
  pub mends_are : f.mends ≡ (walk l.goal.exist no_walk steps).mends
  pub extends : Extends (walk l.goal.exist no_walk steps).by f.by
  pub bound : all_bound l.map (walk l.goal.exist no_walk steps).by (to_bind l) ≡ Some f.by
  pub true_walk : (s : Assignment) → AllTrue s f.need → WalkTrue s f.by (walk l.goal.exist no_walk steps)

module _ (n : Node) (l : Link) (ks : List ℕ) (ps : List Position) (paired : ArePaired n.goal.pre.chunks l.goal.pre.chunks ks ps) where
  abbrev pub over : Walk
  over = walk l.goal.exist no_walk ps

  abbrev pub whole : Subst → Match
  whole by = record { pairs = ks; by = by; need = over.need ++ late_lits by over.late; mends = over.mends }

  found_whole : (by : Subst) → all_bound l.map over.by (to_bind l) ≡ Some by → Found n l ks (whole by)
  found_whole by e = record {
    steps = ps;
    paired = paired;
    pairs_are = refl;
    mends_are = refl;
    extends = all_kept l.map over.by by (to_bind l) e;
    bound = e;
    true_walk = λ s a. record {
      need = true_left s over.need (late_lits by over.late) a;
      late = late_true s by over.late (true_right s over.need (late_lits by over.late) a);
    };
  }

pub found : (n : Node) (l : Link) (ks : List ℕ) (f : Match) → match_at n l ks ≡ Some f → Found n l ks f
found n l ks f e =
    let p = and_then_some (λ ps. finish_match l ks (walk l.goal.exist no_walk ps)) (pair_positions n.goal.pre.chunks l.goal.pre.chunks ks) f e in
    let paired = are_paired n.goal.pre.chunks l.goal.pre.chunks ks p.0 p.1 in
    let w : Walk = walk l.goal.exist no_walk p.0 in
    let b = and_then_some (finished w) (all_bound l.map w.by (to_bind l)) f p.2 in
    subst (λ (x : Match). Found n l ks x) (narrow (wide_subst b.0 || list_any wide_lit (w.need ++ late_lits b.0 w.late) || list_any (λ (m : Mend). wide_term m.value) w.mends) (whole n l ks p.0 paired b.0) f b.2)
    (found_whole n l ks p.0 paired b.0 b.1)
  where
    finished : Walk → Subst → Option Match
    finished w by =
        let need : List Lit = w.need ++ map (λ (p : SetTerm × SetTerm). Same (apply_set by p.0) p.1) w.late in
        cond (wide_subst by || list_any wide_lit need || list_any (λ (m : Mend). wide_term m.value) w.mends) None (Some (record { pairs = ks; by = by; need = need; mends = w.mends }))
