-- A derivation that follows the moves of nodes has rules alone that unfold and call nothing, and such rules have one premise at most.
use Rattle.std.proofs.Common.{◌≡◌, ◌∙◌, ◌++◌, ◌+◌, ℕ, suc, List, [], ◌∷◌, Option, Some, None, option_map, Bool, true, false, IsTrue, refl, sym, ap}
use Rattle.std.specs.Option.{option_and_then}
use Rattle.std.proofs.lemmas.Bool.{false≢true}
use Rattle.std.proofs.lemmas.Option.{none-some, same_Some}
use Rattle.cyp_goal.specs.Facts.{facts}
use Rattle.cyp_goal.specs.Normal.{Renaming}
use Rattle.cyp_heap.specs.declared.goal.Node.{Node}
use Rattle.cyp_kernel.specs.Companions.{Proof, Proofs, called_count}
use Rattle.cyp_kernel.specs.Compile.{bodies, body, bound_count, head_names, procedures, procedures_in, renamings, with_new_name}
use Rattle.cyp_kernel.specs.Naming.{Names, expr_of}
use Rattle.cyp_kernel.specs.Statements.{first_body, focus_content, focus_size, pre_cell_at, rule_body}
use Rattle.cyp_moves.specs.Moves.{is_built, moves}
use Rattle.cyp_prog.specs.ProgramText.{Bytes, body_text, statement_text}
use Rattle.cyp_prog.specs.Programs.{Body, Giving, Loading, Storing, Taking}
use Rattle.cyp_space.specs.Alts.{AltOf}
use Rattle.cyp_step.specs.Changes.{Raws}
use Rattle.cyp_step.specs.RuleKinds.{IsFlatRule}
use Rattle.cyp_step.specs.Step.{all_normal, nodes_of, premises, renamed_premises}
use Rattle.cyp_step.specs.declared.rule.Rule.{Rule}
use Rattle.cyp_step.specs.declared.rule.Rule.TheVariants.{ByAlloc, ByCall, ByClose, ByEmp, ByFrame, ByFree, ByInconsistent, ByOpen, ByPick, ByRead, ByWrite}
use Rattle.cyp_term.specs.Entailment.{satisfiable}
use Rattle.cyp_tree.specs.Derivations.{Derived, More, NoMore}
use Rattle.cyp_tree.specs.Follows.{Follows, FollowsAll, root, roots}
use Rattle.cyp_print.proofs.BuiltMoves.{IsMove, is_move}

-- ---- the rules

-- a rule that leaves one goal
abbrev pub IsGoing : Rule → Type 0
IsGoing (ByRead i) = Unit {0}
IsGoing (ByFrame i) = Unit {0}
IsGoing (ByWrite i) = Unit {0}
IsGoing (ByFree i) = Unit {0}
IsGoing ByAlloc = Unit {0}
IsGoing (ByPick u) = Unit {0}
IsGoing r = ⊥

pub built_is : (r : Rule) → is_built r ≡ true → IsFlatRule r
built_is ByInconsistent e = tt
built_is ByEmp e = tt
built_is (ByRead i) e = tt
built_is (ByFrame i) e = tt
built_is (ByWrite i) e = tt
built_is (ByFree i) e = tt
built_is ByAlloc e = tt
built_is (ByCall c) e = absurd (false≢true e)
built_is (ByOpen i) e = absurd (false≢true e)
built_is (ByClose c) e = absurd (false≢true e)
built_is (ByPick u) e = tt

pub going_is : (r : Rule) → IsGoing r → IsFlatRule r
going_is (ByRead i) g = tt
going_is (ByFrame i) g = tt
going_is (ByWrite i) g = tt
going_is (ByFree i) g = tt
going_is ByAlloc g = tt
going_is (ByPick u) g = tt
going_is r g = absurd g

abbrev mutual
  pub HasFlatRules : Proof → Type 0
  HasFlatRules (Derived n r ds) = IsFlatRule r × HaveFlatRules ds

  pub HaveFlatRules : Proofs → Type 0
  HaveFlatRules NoMore = Unit {0}
  HaveFlatRules (More d ds) = HasFlatRules d × HaveFlatRules ds

-- what a derivation by a move is
pub move_at : (limit : ℕ) (n : Node) (r : Rule) (ds : Proofs) → Follows (moves limit) (Derived n r ds) → IsMove n r (roots ds)
move_at limit n r ds w = let a : AltOf Rule Node = record { rule = r; cost = w.0.0; premises = roots ds } in is_move n limit a w.0.1

mutual
  pub rules_of : (limit : ℕ) (d : Proof) → Follows (moves limit) d → HasFlatRules d
  rules_of limit (Derived n r ds) w = (built_is r (move_at limit n r ds w).built, rules_in limit ds w.1)

  rules_in : (limit : ℕ) (ds : Proofs) → FollowsAll (moves limit) ds → HaveFlatRules ds
  rules_in limit NoMore w = tt
  rules_in limit (More d ds) w = (rules_of limit d w.0, rules_in limit ds w.1)

-- ---- the premise

-- a rule with a premise goes on to its first one
pub record GoesOn (n : Node) (r : Rule) (d : Proof) : Type 0 where
  pub renaming : Renaming
  pub rest : List Renaming
  pub going : IsGoing r
  pub leads : renamed_premises n r ≡ Some (renaming ∷ rest)
  pub below : root d ≡ renaming.node

-- nothing is left where a rule leaves nothing
abbrev nothing_if : Bool → Raws
nothing_if b = elim b [ true ↦ Some [] | false ↦ None ]

abbrev premises_by : Raws → Option (List Node)
premises_by o = option_map nodes_of (option_and_then all_normal o)

contradicted : (b : Bool) (m : Node) (ms : List Node) → premises_by (elim b [ true ↦ None | false ↦ Some [] ]) ≡ Some (m ∷ ms) → ⊥
contradicted true m ms e = absurd (none-some (m ∷ ms) e)
contradicted false m ms e = let none : ◌≡◌ {A = List Node} [] (m ∷ ms) = same_Some [] (m ∷ ms) e in cc

ended : (b c : Bool) (m : Node) (ms : List Node) → premises_by (elim b [ false ↦ None | true ↦ elim c [ true ↦ Some [] | false ↦ None ] ]) ≡ Some (m ∷ ms) → ⊥
ended true true m ms e = let none : ◌≡◌ {A = List Node} [] (m ∷ ms) = same_Some [] (m ∷ ms) e in cc
ended true false m ms e = absurd (none-some (m ∷ ms) e)
ended false c m ms e = absurd (none-some (m ∷ ms) e)

going_from : (n : Node) (r : Rule) (m : Node) (ms : List Node) → IsFlatRule r → premises n r ≡ Some (m ∷ ms) → IsGoing r
going_from n ByInconsistent m ms h e = absurd (contradicted (satisfiable (facts n.goal)) m ms e)
going_from n ByEmp m ms h e = absurd (ended _ _ m ms e)
going_from n (ByRead i) m ms h e = tt
going_from n (ByFrame i) m ms h e = tt
going_from n (ByWrite i) m ms h e = tt
going_from n (ByFree i) m ms h e = tt
going_from n ByAlloc m ms h e = tt
going_from n (ByPick u) m ms h e = tt
going_from n r m ms h e = absurd h

-- a list of premises with a first one
pub record FirstOf (o : Option (List Renaming)) (m : Node) : Type 0 where
  pub renaming : Renaming
  pub rest : List Renaming
  pub leads : o ≡ Some (renaming ∷ rest)
  pub same : m ≡ renaming.node

abbrev first_node : Node → List Node → Node
first_node n [] = n
first_node n (m ∷ ms) = m

first_of : (o : Option (List Renaming)) (m : Node) (ms : List Node) → option_map nodes_of o ≡ Some (m ∷ ms) → FirstOf o m
first_of None m ms e = absurd (none-some (m ∷ ms) e)
first_of (Some []) m ms e = let none : ◌≡◌ {A = List Node} [] (m ∷ ms) = same_Some [] (m ∷ ms) e in let bad : ⊥ = cc in absurd bad
first_of (Some (x ∷ xs)) m ms e = record { renaming = x; rest = xs; leads = refl; same = sym (ap (first_node m) (same_Some (nodes_of (x ∷ xs)) (m ∷ ms) e)) }

pub goes_on : (limit : ℕ) (n : Node) (r : Rule) (d : Proof) (ds : Proofs) → Follows (moves limit) (Derived n r (More d ds)) → GoesOn n r d
goes_on limit n r d ds w =
    let move : IsMove n r (root d ∷ roots ds) = move_at limit n r (More d ds) w in
    let f : FirstOf (renamed_premises n r) (root d) = first_of (renamed_premises n r) (root d) (roots ds) move.allowed in
    record {
      renaming = f.renaming;
      rest = f.rest;
      going = going_from n r (root d) (roots ds) (built_is r move.built) move.allowed;
      leads = f.leads;
      below = f.same;
    }

-- ---- what such rules don't write

mutual
  -- there is no procedure but the main one
  pub no_procedures : (d : Proof) (main : List ℕ) (next : ℕ) (procs : List ℕ) → HasFlatRules d → procedures main next procs d ≡ []
  no_procedures (Derived n ByInconsistent ds) main next procs h = no_procedures_in ds main next procs h.1
  no_procedures (Derived n ByEmp ds) main next procs h = no_procedures_in ds main next procs h.1
  no_procedures (Derived n (ByRead i) ds) main next procs h = no_procedures_in ds main next procs h.1
  no_procedures (Derived n (ByFrame i) ds) main next procs h = no_procedures_in ds main next procs h.1
  no_procedures (Derived n (ByWrite i) ds) main next procs h = no_procedures_in ds main next procs h.1
  no_procedures (Derived n (ByFree i) ds) main next procs h = no_procedures_in ds main next procs h.1
  no_procedures (Derived n ByAlloc ds) main next procs h = no_procedures_in ds main next procs h.1
  no_procedures (Derived n (ByPick u) ds) main next procs h = no_procedures_in ds main next procs h.1
  no_procedures (Derived n r ds) main next procs h = absurd h.0

  pub no_procedures_in : (ds : Proofs) (main : List ℕ) (next : ℕ) (procs : List ℕ) → HaveFlatRules ds → procedures_in main next procs ds ≡ []
  no_procedures_in NoMore main next procs h = refl
  no_procedures_in (More d ds) main next procs h =
      (λ k. no_procedures d main next procs h.0 k ++ no_procedures_in ds main (next + called_count d) procs h.1 k)

-- ---- the text of a body

-- the root opens to its rule
pub opened : (n : Node) (r : Rule) (ds : Proofs) (top : Bool) (self next : ℕ) (names : Names) (m : ℕ) (procs : List ℕ) → IsFlatRule r
    → body top self next names m procs (Derived n r ds)
    ≡ rule_body n names procs (suc m) r (bodies next (with_new_name n r (suc m) names) (renamings (renamed_premises n r)) (bound_count r m) procs ds)
opened n ByInconsistent ds true self next names m procs h = refl
opened n ByInconsistent ds false self next names m procs h = refl
opened n ByEmp ds true self next names m procs h = refl
opened n ByEmp ds false self next names m procs h = refl
opened n (ByRead i) ds true self next names m procs h = refl
opened n (ByRead i) ds false self next names m procs h = refl
opened n (ByFrame i) ds true self next names m procs h = refl
opened n (ByFrame i) ds false self next names m procs h = refl
opened n (ByWrite i) ds true self next names m procs h = refl
opened n (ByWrite i) ds false self next names m procs h = refl
opened n (ByFree i) ds true self next names m procs h = refl
opened n (ByFree i) ds false self next names m procs h = refl
opened n ByAlloc ds true self next names m procs h = refl
opened n ByAlloc ds false self next names m procs h = refl
opened n (ByPick u) ds true self next names m procs h = refl
opened n (ByPick u) ds false self next names m procs h = refl
opened n r ds top self next names m procs h = absurd h

-- a rule's text, by that of its premise
same_rule : (n : Node) (r : Rule) (ns : List Bytes) (names : Names) (procs : List ℕ) (new : ℕ) (bs cs : List Body) → IsFlatRule r
    → body_text ns 1 (first_body bs) ≡ body_text [] 1 (first_body cs) → body_text ns 1 (rule_body n names procs new r bs) ≡ body_text [] 1 (rule_body n names [] new r cs)
same_rule n ByInconsistent ns names procs new bs cs h e = refl
same_rule n ByEmp ns names procs new bs cs h e = refl
same_rule n (ByRead i) ns names procs new bs cs h e = ap (λ t. statement_text [] 1 (Loading new (expr_of names (pre_cell_at n i))) ++ t) e
same_rule n (ByFrame i) ns names procs new bs cs h e = e
same_rule n (ByWrite i) ns names procs new bs cs h e = ap (λ t. statement_text [] 1 (Storing (expr_of names (pre_cell_at n i)) (expr_of names (focus_content n))) ++ t) e
same_rule n (ByFree i) ns names procs new bs cs h e = ap (λ t. statement_text [] 1 (Giving (expr_of names (pre_cell_at n i))) ++ t) e
same_rule n ByAlloc ns names procs new bs cs h e = ap (λ t. statement_text [] 1 (Taking new (focus_size n)) ++ t) e
same_rule n (ByPick u) ns names procs new bs cs h e = e
same_rule n r ns names procs new bs cs h e = absurd h

mutual
  -- neither other procedures nor their names are told in the body
  pub same_text : (d : Proof) (ns : List Bytes) (top : Bool) (self next : ℕ) (names : Names) (m : ℕ) (procs : List ℕ) → HasFlatRules d
      → body_text ns 1 (body top self next names m procs d) ≡ body_text [] 1 (body false 0 1 names m [] d)
  same_text (Derived n r ds) ns top self next names m procs h =
      let inner : Names = with_new_name n r (suc m) names in
      let rs : List Renaming = renamings (renamed_premises n r) in
      ap (body_text ns 1) (opened n r ds top self next names m procs h.0)
      ∙ same_rule n r ns names procs (suc m) (bodies next inner rs (bound_count r m) procs ds) (bodies 1 inner rs (bound_count r m) [] ds) h.0 (same_first ds ns next inner rs (bound_count r m) procs h.1)
      ∙ ap (body_text [] 1) (sym (opened n r ds false 0 1 names m [] h.0))

  same_first : (ds : Proofs) (ns : List Bytes) (next : ℕ) (names : Names) (rs : List Renaming) (m : ℕ) (procs : List ℕ) → HaveFlatRules ds
      → body_text ns 1 (first_body (bodies next names rs m procs ds)) ≡ body_text [] 1 (first_body (bodies 1 names rs m [] ds))
  same_first NoMore ns next names rs m procs h = refl
  same_first (More d ds) ns next names rs m procs h = same_text d ns false 0 next (head_names names rs) m procs h.0
