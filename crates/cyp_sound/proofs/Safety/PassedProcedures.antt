-- The procedures of the companions, from a node to its premises.
use Rattle.cyp_heap.specs.declared.goal.Goal.{Goal}
use Rattle.cyp_heap.specs.declared.goal.Link.{Link}
use Rattle.cyp_heap.specs.declared.goal.Node.{Node}
use Rattle.cyp_heap.specs.declared.pred.Preds.{Preds}
use Rattle.cyp_kernel.specs.Companions.{Proofs, calls, calls_in, is_called}
use Rattle.cyp_kernel.specs.Compile.{with_proc}
use Rattle.cyp_kernel.specs.Meets.{ProcedureMeets}
use Rattle.cyp_kernel.specs.RuleLaws.{CalleeMeets}
use Rattle.cyp_prog.specs.Programs.{Procedure}
use Rattle.cyp_sound.proofs.Safety.CompanionGoals.{link_goals}
use Rattle.cyp_sound.proofs.Safety.Procedures.{CompanionsMeet}
use Rattle.cyp_sound.proofs.Safety.RawPremises.{goals_after}
use Rattle.cyp_step.specs.declared.rule.Rule.{Rule}
use Rattle.cyp_step.specs.declared.rule.Rule.TheVariants.{ByAlloc, ByCall, ByClose, ByEmp, ByFrame, ByFree, ByInconsistent, ByOpen, ByPick, ByRead, ByWrite}
use Rattle.cyp_tree.specs.Derivations.{Derived}
use Rattle.std.proofs.Common.{◌≡◌, refl, sym, ap, ◌∙◌, ℕ, zero, suc, ◌+◌, ◌==◌, true, length, List, [], ◌∷◌, ◌++◌, Some, inl, inr, ◌⊎◌, subst}
use Rattle.std.proofs.lemmas.Bool.{eq-eqb, or_left, or_right}
use Rattle.std.proofs.lemmas.List.{length-append}
use Rattle.std.proofs.lemmas.Option.{none-some, same_Some}
use Rattle.std.specs.Prelude.{slice_get, slice_index}

no_suc : (k : ℕ) → 0 ≡ suc k → ⊥
no_suc k e = cc

suc_same : (j k : ℕ) → suc j ≡ suc k → j ≡ k
suc_same j k e = cc

-- ---- a called companion

pub goal_at : (ls : List Link) (i : ℕ) (l : Link) → slice_get ls i ≡ Some l → slice_get (link_goals ls) i ≡ Some l.goal
goal_at [] i l e = absurd (none-some l e)
goal_at (x ∷ xs) zero l e = ap (λ (y : Link). Some y.goal) (same_Some x l e)
goal_at (x ∷ xs) (suc i) l e = goal_at xs i l e

pub callee_meets : (ps : List Procedure) (n : Node) (procs : List ℕ) (k : ℕ) (r : Rule) (ds : Proofs) → CompanionsMeet ps n.preds k (link_goals n.links) procs (Derived n r ds) → CalleeMeets ps n procs k r
callee_meets ps n procs k (ByCall c) ds w = λ l e. w.meet c.link l.goal (goal_at n.links c.link l e) (or_left (c.link == c.link) (calls_in c.link ds) (eq-eqb c.link c.link refl))
callee_meets ps n procs k r ds w = tt

-- ---- one companion more

-- a place of the longer lists is one of the shorter ones, or the new one
abbrev pub IsPushed : {A : Type 0} → List A → List ℕ → A → ℕ → ℕ → A → Type 0
IsPushed xs procs y self i x =
    ((slice_get xs i ≡ Some x) × (slice_index (procs ++ self ∷ []) i ≡ slice_index procs i)) ⊎ ((i ≡ length xs) × (y ≡ x) × (slice_index (procs ++ self ∷ []) i ≡ self))

pub pushed : {A : Type 0} (xs : List A) (procs : List ℕ) (y : A) (self : ℕ) → length procs ≡ length xs → (i : ℕ) (x : A) → slice_get (xs ++ y ∷ []) i ≡ Some x → IsPushed xs procs y self i x
pushed [] [] y self e zero x at = inr (refl, same_Some y x at, refl)
pushed [] [] y self e (suc i) x at = absurd (none-some x at)
pushed [] (p ∷ procs) y self e i x at = absurd (no_suc (length procs) (sym e))
pushed (z ∷ xs) [] y self e i x at = absurd (no_suc (length xs) e)
pushed (z ∷ xs) (p ∷ procs) y self e zero x at = inl (at, refl)
pushed (z ∷ xs) (p ∷ procs) y self e (suc i) x at = later (pushed xs procs y self (suc_same (length procs) (length xs) e) i x at)
  where
    later : IsPushed xs procs y self i x → IsPushed (z ∷ xs) (p ∷ procs) y self (suc i) x
    later (inl h) = inl h
    later (inr h) = inr (ap suc h.0, h.1, h.2)

pub length-goals : (ls : List Link) → length (link_goals ls) ≡ length ls
length-goals [] = refl
length-goals (l ∷ ls) = ap suc (length-goals ls)

-- what is needed of the companions by the derivations of the premises
pub record PartsMeet (ps : List Procedure) (preds : Preds) (k : ℕ) (goals : List Goal) (procs : List ℕ) (ds : Proofs) : Type 0 where
  pub as_many : length procs ≡ length goals
  pub meet : (i : ℕ) (g : Goal) → slice_get goals i ≡ Some g → calls_in i ds ≡ true → ProcedureMeets ps preds g (slice_index procs i) k

module _ (ps : List Procedure) (n : Node) (k self : ℕ) (procs : List ℕ) (ds : Proofs) where
  plain_parts : (r : Rule) → ((i : ℕ) → calls_in i ds ≡ true → calls i (Derived n r ds) ≡ true) → CompanionsMeet ps n.preds k (link_goals n.links) procs (Derived n r ds)
      → PartsMeet ps n.preds k (link_goals n.links) procs ds
  plain_parts r f w = record { as_many = w.as_many; meet = λ i g e c. w.meet i g e (f i c) }

  pub parts_meet : (r : Rule) → CompanionsMeet ps n.preds k (link_goals n.links) procs (Derived n r ds) → (is_called n r ds ≡ true → ProcedureMeets ps n.preds n.goal self k)
      → PartsMeet ps n.preds k (goals_after n r) (with_proc r self procs) ds
  parts_meet (ByOpen j) w own = record {
    as_many = length-append procs (self ∷ []) ∙ ap (λ (a : ℕ). a + 1) w.as_many ∙ sym (length-append (link_goals n.links) (n.goal ∷ []));
    meet = λ i g e c. at i g c (pushed (link_goals n.links) procs n.goal self w.as_many i g e);
  }
    where
      at : (i : ℕ) (g : Goal) → calls_in i ds ≡ true → IsPushed (link_goals n.links) procs n.goal self i g → ProcedureMeets ps n.preds g (slice_index (procs ++ self ∷ []) i) k
      at i g c (inl h) = subst (λ (p : ℕ). ProcedureMeets ps n.preds g p k) (sym h.1) (w.meet i g h.0 c)
      at i g c (inr h) =
          subst (λ (p : ℕ). ProcedureMeets ps n.preds g p k) (sym h.2)
          (subst (λ (x : Goal). ProcedureMeets ps n.preds x self k) h.1
          (own (subst (λ (a : ℕ). calls_in a ds ≡ true) (h.0 ∙ length-goals n.links) c)))
  parts_meet (ByCall c) w own = plain_parts (ByCall c) (λ i e. or_right (c.link == i) (calls_in i ds) e) w
  parts_meet ByInconsistent w own = plain_parts ByInconsistent (λ i e. e) w
  parts_meet ByEmp w own = plain_parts ByEmp (λ i e. e) w
  parts_meet (ByRead i) w own = plain_parts (ByRead i) (λ i e. e) w
  parts_meet (ByFrame i) w own = plain_parts (ByFrame i) (λ i e. e) w
  parts_meet (ByWrite i) w own = plain_parts (ByWrite i) (λ i e. e) w
  parts_meet (ByFree i) w own = plain_parts (ByFree i) (λ i e. e) w
  parts_meet ByAlloc w own = plain_parts ByAlloc (λ i e. e) w
  parts_meet (ByClose i) w own = plain_parts (ByClose i) (λ i e. e) w
  parts_meet (ByPick u) w own = plain_parts (ByPick u) (λ i e. e) w
