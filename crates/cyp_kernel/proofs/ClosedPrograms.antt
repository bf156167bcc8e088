-- The program of a derivation calls no procedure that isn't there.
use Rattle.std.proofs.Common.{[], ◌&&◌, ◌+◌, ◌++◌, ◌<◌, Bool, List, None, Option, Some, ap, arith, cond, false, length, length-append, lt-ltb, refl, slice_get, slice_index, suc, true, zero, ℕ, ◌∙◌, ◌∷◌, ◌≡◌, ◌≤◌}
use Rattle.std.specs.Prelude.{nat_lt}
use Rattle.std.proofs.lemmas.Bool.{and_from, and_parts}
use Rattle.std.proofs.lemmas.List.Folds.{list_all-append}
use Rattle.std.specs.List.{list_all}
use Rattle.cyp_goal.specs.Normal.{Renaming}
use Rattle.cyp_heap.specs.declared.goal.Link.{Link}
use Rattle.cyp_heap.specs.declared.goal.Node.{Node}
use Rattle.cyp_kernel.specs.Companions.{Proof, Proofs, called_count, called_counts, is_called}
use Rattle.cyp_kernel.specs.Compile.{auxiliary_name, bodies, body, bound_count, head_names, main_name, procedure, procedures, procedures_in, program_of, renamings, tail_renamings, with_new_name, with_proc}
use Rattle.cyp_kernel.specs.Laws.{ProgramIsClosed}
use Rattle.cyp_kernel.specs.Naming.{Names, param_names}
use Rattle.cyp_kernel.specs.Statements.{choose, first_body, guards, in_cell_order, kept_mends, linked_call, matched_call, rule_body, stores}
use Rattle.cyp_machine.specs.Closed.{calls_below}
use Rattle.cyp_prog.specs.Programs.{Body, Procedure}
use Rattle.cyp_step.specs.Changes.{pre_of}
use Rattle.cyp_step.specs.Mends.{writes_for}
use Rattle.cyp_step.specs.Step.{renamed_premises}
use Rattle.cyp_step.specs.declared.rule.CallBy.{CallBy}
use Rattle.cyp_step.specs.declared.rule.Rule.{Rule}
use Rattle.cyp_step.specs.declared.rule.Rule.TheVariants.{ByAlloc, ByCall, ByClose, ByEmp, ByFrame, ByFree, ByInconsistent, ByOpen, ByPick, ByRead, ByWrite}
use Rattle.cyp_term.specs.declared.lit.Lit.{Lit}
use Rattle.cyp_tree.specs.Derivations.{Derived, More, NoMore}
use Rattle.cyp_unify.specs.Matches.{match_at}
use Rattle.cyp_unify.specs.declared.found.Match.{Match}
use Rattle.cyp_unify.specs.declared.found.Mend.{Mend}

-- all that follows is of a program of this many procedures, of which there is one
module _ (total : ℕ) (some : 0 < total) where
  abbrev are_below : List ℕ → Bool
  are_below ks = list_all (λ k. nat_lt k total) ks

  abbrev all_closed : List Body → Bool
  all_closed bs = list_all (calls_below total) bs

  -- ---- the statements of a rule

  first-closed : (bs : List Body) → all_closed bs ≡ true → calls_below total (first_body bs) ≡ true
  first-closed [] h = refl
  first-closed (b ∷ bs) h = (and_parts (calls_below total b) (all_closed bs) h).0

  choose-closed : (names : Names) (gs : List Lit) (bs : List Body) → all_closed bs ≡ true → calls_below total (choose names gs bs) ≡ true
  choose-closed names [] bs h = first-closed bs h
  choose-closed names (g ∷ []) bs h = first-closed bs h
  choose-closed names (g ∷ k ∷ gs) [] h = refl
  choose-closed names (g ∷ k ∷ gs) (b ∷ bs) h =
      let parts = and_parts (calls_below total b) (all_closed bs) h in
      and_from (calls_below total b && calls_below total (choose names (k ∷ gs) bs)) true
      (and_from (calls_below total b) (calls_below total (choose names (k ∷ gs) bs)) parts.0 (choose-closed names (k ∷ gs) bs parts.1)) refl

  stores-closed : (n : Node) (names : Names) (ms : List Mend) (b : Body) → calls_below total b ≡ true → calls_below total (stores n names ms b) ≡ true
  stores-closed n names [] b h = h
  stores-closed n names (m ∷ ms) b h = stores-closed n names ms b h

  index-below : (procs : List ℕ) (i : ℕ) → are_below procs ≡ true → nat_lt (slice_index procs i) total ≡ true
  index-below [] i h = lt-ltb 0 total some
  index-below (p ∷ ps) zero h = (and_parts (nat_lt p total) (are_below ps) h).0
  index-below (p ∷ ps) (suc i) h = index-below ps i (and_parts (nat_lt p total) (are_below ps) h).1

  module _ (n : Node) (names : Names) (procs : List ℕ) (there : are_below procs ≡ true) where
    matched-closed : (c : CallBy) (b : Body) (l : Link) (f : Option Match) → calls_below total b ≡ true → calls_below total (matched_call n names procs c b l f) ≡ true
    matched-closed c b l None h = refl
    matched-closed c b l (Some f) h =
        stores-closed n names (in_cell_order (kept_mends (writes_for n.goal f))) _
        (and_from (nat_lt (slice_index procs c.link) total) (calls_below total b) (index-below procs c.link there) h)

    linked-closed : (c : CallBy) (b : Body) (l : Option Link) → calls_below total b ≡ true → calls_below total (linked_call n names procs c b l) ≡ true
    linked-closed c b None h = refl
    linked-closed c b (Some l) h = matched-closed c b l (match_at n l c.pairs) h

    rule-closed : (new : ℕ) (r : Rule) (bs : List Body) → all_closed bs ≡ true → calls_below total (rule_body n names procs new r bs) ≡ true
    rule-closed new ByInconsistent bs h = refl
    rule-closed new ByEmp bs h = refl
    rule-closed new (ByRead i) bs h = first-closed bs h
    rule-closed new (ByFrame i) bs h = first-closed bs h
    rule-closed new (ByWrite i) bs h = first-closed bs h
    rule-closed new (ByFree i) bs h = first-closed bs h
    rule-closed new ByAlloc bs h = first-closed bs h
    rule-closed new (ByCall c) bs h = linked-closed c (first_body bs) (slice_get n.links c.link) (first-closed bs h)
    rule-closed new (ByOpen i) bs h = choose-closed names (guards n (slice_get (pre_of n) i)) bs h
    rule-closed new (ByClose c) bs h = first-closed bs h
    rule-closed new (ByPick u) bs h = first-closed bs h

  -- ---- the bodies of a derivation

  below-append : (xs ys : List ℕ) → are_below xs ≡ true → are_below ys ≡ true → are_below (xs ++ ys) ≡ true
  below-append xs ys p q = list_all-append (λ k. nat_lt k total) xs ys ∙ and_from (are_below xs) (are_below ys) p q

  proc-below : (r : Rule) (self : ℕ) (procs : List ℕ) → self < total → are_below procs ≡ true → are_below (with_proc r self procs) ≡ true
  proc-below (ByOpen i) self procs l h = below-append procs (self ∷ []) h (and_from (nat_lt self total) true (lt-ltb self total l) refl)
  proc-below ByInconsistent self procs l h = h
  proc-below ByEmp self procs l h = h
  proc-below (ByRead i) self procs l h = h
  proc-below (ByFrame i) self procs l h = h
  proc-below (ByWrite i) self procs l h = h
  proc-below (ByFree i) self procs l h = h
  proc-below ByAlloc self procs l h = h
  proc-below (ByCall c) self procs l h = h
  proc-below (ByClose c) self procs l h = h
  proc-below (ByPick u) self procs l h = h

  -- a node's body is a call of its own procedure or the statements of its rule
  called-or : (t : Bool) (a b : Body) → (t ≡ true → calls_below total a ≡ true) → (t ≡ false → calls_below total b ≡ true)
      → calls_below total (elim t [ true ↦ a | false ↦ b ]) ≡ true
  called-or true a b p q = p refl
  called-or false a b p q = q refl

  count-fits : (t : Bool) (c next : ℕ) → t ≡ false → next + cond t (suc c) c ≤ total → next + c ≤ total
  count-fits true c next e l = cc
  count-fits false c next e l = l

  count-one : (t : Bool) (c next : ℕ) → t ≡ true → next + cond t (suc c) c ≤ total → next < total
  count-one true c next e l = omega arith
  count-one false c next e l = cc

  mutual
    body-closed : (d : Proof) (next : ℕ) (names : Names) (m : ℕ) (procs : List ℕ) → next + called_count d ≤ total → are_below procs ≡ true
        → calls_below total (body false 0 next names m procs d) ≡ true
    body-closed (Derived n r ds) next names m procs fits h =
        called-or (is_called n r ds) _ _
        (λ e. and_from (nat_lt next total) true (lt-ltb next total (count-one (is_called n r ds) (called_counts ds) next e fits)) refl)
        (λ e. rule-closed n names procs h (suc m) r _
        (bodies-closed ds next (with_new_name n r (suc m) names) (renamings (renamed_premises n r)) (bound_count r m) (with_proc r 0 procs)
        (count-fits (is_called n r ds) (called_counts ds) next e fits) (proc-below r 0 procs some h)))

    bodies-closed : (ds : Proofs) (next : ℕ) (names : Names) (rs : List Renaming) (m : ℕ) (procs : List ℕ) → next + called_counts ds ≤ total → are_below procs ≡ true
        → all_closed (bodies next names rs m procs ds) ≡ true
    bodies-closed NoMore next names rs m procs fits h = refl
    bodies-closed (More d ds) next names rs m procs fits h =
        and_from (calls_below total (body false 0 next (head_names names rs) m procs d)) (all_closed (bodies (next + called_count d) names (tail_renamings rs) m procs ds))
        (body-closed d next (head_names names rs) m procs (omega arith) h)
        (bodies-closed ds (next + called_count d) names (tail_renamings rs) m procs (omega arith) h)

  -- ---- its procedures

  abbrev are_closed : List Procedure → Bool
  are_closed ps = list_all (λ (p : Procedure). calls_below total p.body) ps

  closed-append : (ps qs : List Procedure) → are_closed ps ≡ true → are_closed qs ≡ true → are_closed (ps ++ qs) ≡ true
  closed-append ps qs p q = list_all-append (λ (r : Procedure). calls_below total r.body) ps qs ∙ and_from (are_closed ps) (are_closed qs) p q

  procedure-closed : (name : List ℕ) (self : ℕ) (procs : List ℕ) (n : Node) (r : Rule) (ds : Proofs) → suc self + called_counts ds ≤ total → are_below procs ≡ true
      → calls_below total (procedure name self procs (Derived n r ds)).body ≡ true
  procedure-closed name self procs n r ds fits h =
      rule-closed n (param_names n) procs h (suc (length n.goal.program)) r _
      (bodies-closed ds (suc self) (with_new_name n r (suc (length n.goal.program)) (param_names n)) (renamings (renamed_premises n r))
      (bound_count r (length n.goal.program)) (with_proc r self procs) fits (proc-below r self procs (omega arith) h))

  either-closed : (t : Bool) (ps qs : List Procedure) → (t ≡ true → are_closed ps ≡ true) → (t ≡ false → are_closed qs ≡ true)
      → are_closed (elim t [ true ↦ ps | false ↦ qs ]) ≡ true
  either-closed true ps qs p q = p refl
  either-closed false ps qs p q = q refl

  count-more : (t : Bool) (c next : ℕ) → t ≡ true → next + cond t (suc c) c ≤ total → suc next + c ≤ total
  count-more true c next e l = omega arith
  count-more false c next e l = cc

  mutual
    procedures-closed : (d : Proof) (main : List ℕ) (next : ℕ) (procs : List ℕ) → next + called_count d ≤ total → are_below procs ≡ true
        → are_closed (procedures main next procs d) ≡ true
    procedures-closed (Derived n r ds) main next procs fits h =
        either-closed (is_called n r ds) _ _
        (λ e. let more = count-more (is_called n r ds) (called_counts ds) next e fits in
        and_from (calls_below total (procedure (auxiliary_name main next) next procs (Derived n r ds)).body) (are_closed (procedures_in main (suc next) (with_proc r next procs) ds))
        (procedure-closed (auxiliary_name main next) next procs n r ds more h)
        (procedures_in-closed ds main (suc next) (with_proc r next procs) more (proc-below r next procs (omega arith) h)))
        (λ e. procedures_in-closed ds main next (with_proc r 0 procs) (count-fits (is_called n r ds) (called_counts ds) next e fits) (proc-below r 0 procs some h))

    procedures_in-closed : (ds : Proofs) (main : List ℕ) (next : ℕ) (procs : List ℕ) → next + called_counts ds ≤ total → are_below procs ≡ true
        → are_closed (procedures_in main next procs ds) ≡ true
    procedures_in-closed NoMore main next procs fits h = refl
    procedures_in-closed (More d ds) main next procs fits h =
        closed-append (procedures main next procs d) (procedures_in main (next + called_count d) procs ds)
        (procedures-closed d main next procs (omega arith) h)
        (procedures_in-closed ds main (next + called_count d) procs (omega arith) h)

-- ---- there are as many procedures as called companions, and the main one

either-length : (t : Bool) (ps qs : List Procedure) (c : ℕ) → length ps ≡ suc c → length qs ≡ c → length {A = Procedure} (elim t [ true ↦ ps | false ↦ qs ]) ≡ cond t (suc c) c
either-length true ps qs c p q = p
either-length false ps qs c p q = q

mutual
  length-procedures : (d : Proof) (main : List ℕ) (next : ℕ) (procs : List ℕ) → length (procedures main next procs d) ≡ called_count d
  length-procedures (Derived n r ds) main next procs =
      either-length (is_called n r ds) _ _ (called_counts ds) (ap suc (length-procedures_in ds main (suc next) (with_proc r next procs)))
      (length-procedures_in ds main next (with_proc r 0 procs))

  length-procedures_in : (ds : Proofs) (main : List ℕ) (next : ℕ) (procs : List ℕ) → length (procedures_in main next procs ds) ≡ called_counts ds
  length-procedures_in NoMore main next procs = refl
  length-procedures_in (More d ds) main next procs =
      let first = length-procedures d main next procs in
      let later = length-procedures_in ds main (next + called_count d) procs in
      omega (arith, length-append (procedures main next procs d) (procedures_in main (next + called_count d) procs ds))

pub program_closed : ProgramIsClosed
program_closed name (Derived n r ds) =
    let total : ℕ = length (program_of name (Derived n r ds)) in
    let counted = length-procedures_in ds (main_name name) 1 (with_proc r 0 []) in
    and_from _ _ (procedure-closed total (omega arith) (main_name name) 0 [] n r ds (omega arith) refl)
    (procedures_in-closed total (omega arith) ds (main_name name) 1 (with_proc r 0 []) (omega arith) (proc-below total (omega arith) r 0 [] (omega arith) refl))
