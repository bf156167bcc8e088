-- The procedures of the companions have as many parameters as the companions' goals have program variables, from a node to its premises.
use Rattle.cyp_compile.proofs.Keeping.RuleFits.{CalleeTakes}
use Rattle.cyp_heap.specs.declared.goal.Goal.{Goal}
use Rattle.cyp_heap.specs.declared.goal.Node.{Node}
use Rattle.cyp_kernel.specs.Companions.{Proof, Proofs, calls, calls_in, is_called}
use Rattle.cyp_kernel.specs.Compile.{with_proc}
use Rattle.cyp_prog.specs.Programs.{Procedure}
use Rattle.cyp_prog.specs.Rules.{HasParams}
use Rattle.cyp_sound.proofs.Safety.CompanionGoals.{link_goals}
use Rattle.cyp_sound.proofs.Safety.PassedProcedures.{IsPushed, goal_at, length-goals, pushed}
use Rattle.cyp_sound.proofs.Safety.RawPremises.{goals_after}
use Rattle.cyp_step.specs.declared.rule.Rule.{Rule}
use Rattle.cyp_step.specs.declared.rule.Rule.TheVariants.{ByAlloc, ByCall, ByClose, ByEmp, ByFrame, ByFree, ByInconsistent, ByOpen, ByPick, ByRead, ByWrite}
use Rattle.cyp_tree.specs.Derivations.{Derived, More}
use Rattle.std.proofs.Common.{◌≡◌, refl, sym, ap, ◌∙◌, ℕ, ◌+◌, ◌==◌, true, length, List, [], ◌∷◌, ◌++◌, Some, inl, inr, subst}
use Rattle.std.proofs.lemmas.Bool.{eq-eqb, or_left, or_right}
use Rattle.std.proofs.lemmas.List.{length-append}
use Rattle.std.specs.Prelude.{slice_get, slice_index}

-- the procedure of this number is there, and has a parameter for each program variable of the goal
abbrev pub Takes : List Procedure → Goal → ℕ → Type 0
Takes ps g p = HasParams (length g.program) (slice_get ps p)

-- so it is with the procedure of each companion that the derivation calls
pub record CompanionsTake (ps : List Procedure) (goals : List Goal) (procs : List ℕ) (d : Proof) : Type 0 where
  pub as_many : length procs ≡ length goals
  pub takes : (i : ℕ) (g : Goal) → slice_get goals i ≡ Some g → calls i d ≡ true → Takes ps g (slice_index procs i)

-- and of each that one of these derivations calls
pub record PartsTake (ps : List Procedure) (goals : List Goal) (procs : List ℕ) (ds : Proofs) : Type 0 where
  pub as_many : length procs ≡ length goals
  pub takes : (i : ℕ) (g : Goal) → slice_get goals i ≡ Some g → calls_in i ds ≡ true → Takes ps g (slice_index procs i)

pub callee_takes : (ps : List Procedure) (n : Node) (procs : List ℕ) (r : Rule) (ds : Proofs) → CompanionsTake ps (link_goals n.links) procs (Derived n r ds) → CalleeTakes ps n procs r
callee_takes ps n procs (ByCall c) ds w = λ l e. w.takes c.link l.goal (goal_at n.links c.link l e) (or_left (c.link == c.link) (calls_in c.link ds) (eq-eqb c.link c.link refl))
callee_takes ps n procs r ds w = tt

-- the first of several derivations, and the others
module _ (ps : List Procedure) (goals : List Goal) (procs : List ℕ) (d : Proof) (ds : Proofs) (w : PartsTake ps goals procs (More d ds)) where
  pub first_part : CompanionsTake ps goals procs d
  first_part = record { as_many = w.as_many; takes = λ i g e c. w.takes i g e (or_left (calls i d) (calls_in i ds) c) }

  pub other_parts : PartsTake ps goals procs ds
  other_parts = record { as_many = w.as_many; takes = λ i g e c. w.takes i g e (or_right (calls i d) (calls_in i ds) c) }

module _ (ps : List Procedure) (n : Node) (self : ℕ) (procs : List ℕ) (ds : Proofs) where
  plain_parts : (r : Rule) → ((i : ℕ) → calls_in i ds ≡ true → calls i (Derived n r ds) ≡ true) → CompanionsTake ps (link_goals n.links) procs (Derived n r ds)
      → PartsTake ps (link_goals n.links) procs ds
  plain_parts r f w = record { as_many = w.as_many; takes = λ i g e c. w.takes i g e (f i c) }

  pub parts_take : (r : Rule) → CompanionsTake ps (link_goals n.links) procs (Derived n r ds) → (is_called n r ds ≡ true → Takes ps n.goal self)
      → PartsTake ps (goals_after n r) (with_proc r self procs) ds
  parts_take (ByOpen j) w own = record {
    as_many = length-append procs (self ∷ []) ∙ ap (λ (a : ℕ). a + 1) w.as_many ∙ sym (length-append (link_goals n.links) (n.goal ∷ []));
    takes = λ i g e c. at i g c (pushed (link_goals n.links) procs n.goal self w.as_many i g e);
  }
    where
      at : (i : ℕ) (g : Goal) → calls_in i ds ≡ true → IsPushed (link_goals n.links) procs n.goal self i g → Takes ps g (slice_index (procs ++ self ∷ []) i)
      at i g c (inl h) = subst (λ (p : ℕ). Takes ps g p) (sym h.1) (w.takes i g h.0 c)
      at i g c (inr h) =
          subst (λ (p : ℕ). Takes ps g p) (sym h.2)
          (subst (λ (x : Goal). Takes ps x self) h.1
          (own (subst (λ (a : ℕ). calls_in a ds ≡ true) (h.0 ∙ length-goals n.links) c)))
  parts_take (ByCall c) w own = plain_parts (ByCall c) (λ i e. or_right (c.link == i) (calls_in i ds) e) w
  parts_take ByInconsistent w own = plain_parts ByInconsistent (λ i e. e) w
  parts_take ByEmp w own = plain_parts ByEmp (λ i e. e) w
  parts_take (ByRead i) w own = plain_parts (ByRead i) (λ i e. e) w
  parts_take (ByFrame i) w own = plain_parts (ByFrame i) (λ i e. e) w
  parts_take (ByWrite i) w own = plain_parts (ByWrite i) (λ i e. e) w
  parts_take (ByFree i) w own = plain_parts (ByFree i) (λ i e. e) w
  parts_take ByAlloc w own = plain_parts ByAlloc (λ i e. e) w
  parts_take (ByClose i) w own = plain_parts (ByClose i) (λ i e. e) w
  parts_take (ByPick u) w own = plain_parts (ByPick u) (λ i e. e) w
