-- The procedures of the companions keep to their time, from a node to its premises.
use Rattle.cyp_heap.specs.declared.goal.Link.{Link}
use Rattle.cyp_heap.specs.declared.goal.Node.{Node}
use Rattle.cyp_heap.specs.declared.pred.Preds.{Preds}
use Rattle.cyp_kernel.specs.Companions.{Proof, Proofs, calls, calls_in, is_called}
use Rattle.cyp_kernel.specs.Compile.{with_proc}
use Rattle.cyp_prog.specs.Programs.{Procedure}
use Rattle.cyp_sound.proofs.Safety.PassedProcedures.{IsPushed, pushed}
use Rattle.cyp_sound.proofs.Time.KeepsTime.{ProcedureKeepsTime}
use Rattle.cyp_sound.proofs.Time.KnownCompanions.{companions_push, links_after, own_companion}
use Rattle.cyp_sound.proofs.Time.Measures.{Companion, companions_from, companions_of}
use Rattle.cyp_sound.proofs.Time.OpenedPlaces.{companion_is, links_are, opens}
use Rattle.cyp_sound.proofs.Time.Procedures.{CompanionsKeepTime}
use Rattle.cyp_sound.proofs.Time.RuleLaws.{CalleeKeepsTime}
use Rattle.cyp_step.specs.Step.{raws}
use Rattle.cyp_step.specs.Unfolding.{open_link}
use Rattle.cyp_step.specs.declared.rule.Rule.{Rule}
use Rattle.cyp_step.specs.declared.rule.Rule.TheVariants.{ByAlloc, ByCall, ByClose, ByEmp, ByFrame, ByFree, ByInconsistent, ByOpen, ByPick, ByRead, ByWrite}
use Rattle.cyp_tree.specs.Derivations.{Derived, More}
use Rattle.std.proofs.Common.{◌≡◌, refl, sym, ap, ◌∙◌, ℕ, suc, ◌+◌, ◌==◌, true, length, List, [], ◌∷◌, ◌++◌, Some, inl, inr, subst}
use Rattle.std.proofs.lemmas.Bool.{eq-eqb, or_left, or_right}
use Rattle.std.proofs.lemmas.List.{length-append}
use Rattle.std.specs.Prelude.{slice_get, slice_index}

pub callee_keeps_time : (ps : List Procedure) (n : Node) (procs : List ℕ) (k : ℕ) (r : Rule) (ds : Proofs) → CompanionsKeepTime ps n.preds k (companions_of n.links) procs (Derived n r ds)
    → CalleeKeepsTime ps n procs k r
callee_keeps_time ps n procs k (ByCall c) ds w = λ x e. w.keep c.link x e (or_left (c.link == c.link) (calls_in c.link ds) (eq-eqb c.link c.link refl))
callee_keeps_time ps n procs k r ds w = tt

pub length-companions : (ends : List ℕ) (ls : List Link) → length (companions_from ends ls) ≡ length ls
length-companions ends [] = refl
length-companions ends (l ∷ ls) = ap suc (length-companions (ends ++ length l.tuple ∷ []) ls)

-- what is needed of the companions by the derivations of the premises
pub record PartsKeepTime (ps : List Procedure) (preds : Preds) (k : ℕ) (cs : List Companion) (procs : List ℕ) (ds : Proofs) : Type 0 where
  pub as_many : length procs ≡ length cs
  pub keep : (i : ℕ) (c : Companion) → slice_get cs i ≡ Some c → calls_in i ds ≡ true → ProcedureKeepsTime ps preds c (slice_index procs i) k

module _ (ps : List Procedure) (preds : Preds) (k : ℕ) (cs : List Companion) (procs : List ℕ) (d : Proof) (ds : Proofs) (w : PartsKeepTime ps preds k cs procs (More d ds)) where
  pub first_keeps : CompanionsKeepTime ps preds k cs procs d
  first_keeps = record { as_many = w.as_many; keep = λ i c e q. w.keep i c e (or_left (calls i d) (calls_in i ds) q) }

  pub others_keep : PartsKeepTime ps preds k cs procs ds
  others_keep = record { as_many = w.as_many; keep = λ i c e q. w.keep i c e (or_right (calls i d) (calls_in i ds) q) }

module _ (ps : List Procedure) (n : Node) (k self : ℕ) (procs : List ℕ) (ds : Proofs) (xs : List Node) where
  plain_parts : (r : Rule) → ((i : ℕ) → calls_in i ds ≡ true → calls i (Derived n r ds) ≡ true) → CompanionsKeepTime ps n.preds k (companions_of n.links) procs (Derived n r ds)
      → PartsKeepTime ps n.preds k (companions_of n.links) procs ds
  plain_parts r f w = record { as_many = w.as_many; keep = λ i c e q. w.keep i c e (f i q) }

  -- the companions of a node and a further one
  opened_parts : (r : Rule) (c : Companion) → ((i : ℕ) → calls_in i ds ≡ true → calls i (Derived n r ds) ≡ true) → CompanionsKeepTime ps n.preds k (companions_of n.links) procs (Derived n r ds)
      → (calls_in (length n.links) ds ≡ true → ProcedureKeepsTime ps n.preds c self k) → PartsKeepTime ps n.preds k (companions_of n.links ++ c ∷ []) (procs ++ self ∷ []) ds
  opened_parts r c f w own = record {
    as_many = length-append procs (self ∷ []) ∙ ap (λ (a : ℕ). a + 1) w.as_many ∙ sym (length-append (companions_of n.links) (c ∷ []));
    keep = λ i x e q. at i x q (pushed (companions_of n.links) procs c self w.as_many i x e);
  }
    where
      at : (i : ℕ) (x : Companion) → calls_in i ds ≡ true → IsPushed (companions_of n.links) procs c self i x → ProcedureKeepsTime ps n.preds x (slice_index (procs ++ self ∷ []) i) k
      at i x q (inl h) = subst (λ (p : ℕ). ProcedureKeepsTime ps n.preds x p k) (sym h.1) (w.keep i x h.0 (f i q))
      at i x q (inr h) =
          subst (λ (p : ℕ). ProcedureKeepsTime ps n.preds x p k) (sym h.2)
          (subst (λ (y : Companion). ProcedureKeepsTime ps n.preds y self k) h.1 (own (subst (λ (a : ℕ). calls_in a ds ≡ true) (h.0 ∙ length-companions [] n.links) q)))

  pub parts_keep : (r : Rule) → raws n r ≡ Some xs → CompanionsKeepTime ps n.preds k (companions_of n.links) procs (Derived n r ds)
      → (is_called n r ds ≡ true → ProcedureKeepsTime ps n.preds (own_companion n r) self k) → PartsKeepTime ps n.preds k (companions_of (links_after n r)) (with_proc r self procs) ds
  parts_keep (ByOpen i) e w own =
      let o = opens n i xs e in
      let l : Link = open_link n i o.inst in
      let cs : companions_of (links_after n (ByOpen i)) ≡ companions_of n.links ++ own_companion n (ByOpen i) ∷ [] =
      ap companions_of (links_are n i o) ∙ companions_push [] n.links l ∙ ap (λ (c : Companion). companions_of n.links ++ c ∷ []) (sym (companion_is n i o)) in
      subst (λ (x : List Companion). PartsKeepTime ps n.preds k x (procs ++ self ∷ []) ds) (sym cs) (opened_parts (ByOpen i) (own_companion n (ByOpen i)) (λ j q. q) w own)
  parts_keep (ByCall c) e w own = plain_parts (ByCall c) (λ i q. or_right (c.link == i) (calls_in i ds) q) w
  parts_keep ByInconsistent e w own = plain_parts ByInconsistent (λ i q. q) w
  parts_keep ByEmp e w own = plain_parts ByEmp (λ i q. q) w
  parts_keep (ByRead i) e w own = plain_parts (ByRead i) (λ i q. q) w
  parts_keep (ByFrame i) e w own = plain_parts (ByFrame i) (λ i q. q) w
  parts_keep (ByWrite i) e w own = plain_parts (ByWrite i) (λ i q. q) w
  parts_keep (ByFree i) e w own = plain_parts (ByFree i) (λ i q. q) w
  parts_keep ByAlloc e w own = plain_parts ByAlloc (λ i q. q) w
  parts_keep (ByClose i) e w own = plain_parts (ByClose i) (λ i q. q) w
  parts_keep (ByPick u) e w own = plain_parts (ByPick u) (λ i q. q) w
