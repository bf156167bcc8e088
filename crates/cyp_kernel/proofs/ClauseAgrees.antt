-- A clause says of the values of an opened instance what it says of those for which the instance holds.
use Rattle.std.proofs.Common.{◌≡◌, refl, sym, ap, ◌∙◌, ℕ, ◌+◌, ◌-◌, ◌<◌, ◌≤◌, ◌↔◌, inl, inr, true, List, [], ◌∷◌, ◌++◌, map, flat_map, length, ℤ, ◌+ℤ◌, Option, Some, None, arith, subst}
use Rattle.std.specs.Prelude.{nat_lt, slice_get}
use Rattle.std.specs.List.{list_all}
use Rattle.std.proofs.lemmas.Bool.{and_parts, cases_lt, false≢true, ltb-true}
use Rattle.cyp_heap.proofs.Agreement.{SameSets, SameValues, all_agree, chunks_agree}
use Rattle.cyp_heap.proofs.Heights.{clause_passes}
use Rattle.cyp_heap.proofs.SameChunks.{side_chunks_same}
use Rattle.cyp_heap.specs.Formed.{inst_fits}
use Rattle.cyp_heap.specs.Instances.{ChunksHold, InstanceHolds, ParamsAre, arg_value}
use Rattle.cyp_heap.specs.Laws.{SameArgValues}
use Rattle.cyp_heap.specs.PredsFormed.{IsFormedPreds, chunk_set_vars, chunk_terms, clause_set_vars, clause_terms, count_of, is_below, is_closed, is_guard, lit_terms}
use Rattle.cyp_heap.specs.Stores.{Store}
use Rattle.cyp_heap.specs.declared.chunk.InstOf.{InstOf}
use Rattle.cyp_heap.specs.declared.pred.Clause.{Clause}
use Rattle.cyp_heap.specs.declared.pred.Pred.{Pred}
use Rattle.cyp_heap.specs.declared.pred.Preds.{Preds}
use Rattle.cyp_kernel.proofs.Folded.{fitting_args}
use Rattle.cyp_kernel.proofs.NewNumber.{int_var}
use Rattle.cyp_kernel.proofs.Opened.{new_members, new_number, opened}
use Rattle.cyp_kernel.proofs.ParamsAgree.{ParamsSame, args_counted, ints_behind, own_numbers, own_sets_same, params_same, same_values_self, sets_behind}
use Rattle.cyp_kernel.proofs.UnfoldParams.{ints_bound, set_numbered, sets_bound}
use Rattle.cyp_pred.specs.Unfold.{clause_subst, int_args, new_ints, new_sets, own_ints, own_sets, set_args, unfold_clause}
use Rattle.cyp_pred.specs.declared.unfolded.Next.{Next}
use Rattle.cyp_term.proofs.Equality.{Decides-sort_eq}
use Rattle.cyp_term.proofs.Lists.{Among, Among-left, Among-right, each_at, flat_in}
use Rattle.cyp_term.proofs.Substitution.{apply_law}
use Rattle.cyp_term.specs.Integers.{is_int_lit}
use Rattle.cyp_term.specs.Meaning.{AllTrue, Assignment, SameMembers, Truth, base_value, int_in, under, value}
use Rattle.cyp_term.specs.Regions.{lit_set_vars}
use Rattle.cyp_term.specs.Terms.{base_vars, lit_vars, set_var, sort_eq, term_vars, var_term}
use Rattle.cyp_term.specs.declared.lit.Lit.{Lit}
use Rattle.cyp_term.specs.declared.lit.Lit.TheVariants.{Eq, Le, Lt, Member, Ne, NotMember, NotSame, NotSub, Same, Sub}
use Rattle.cyp_term.specs.declared.subst.Subst.{Subst}
use Rattle.cyp_term.specs.declared.term.Sort.{Sort}
use Rattle.cyp_term.specs.declared.term.Sort.TheVariants.{Int, Set}
use Rattle.cyp_term.specs.declared.term.Term.{Term}
use Rattle.cyp_term.specs.declared.term.Var.{Var}

-- a variable below a bound is one of the numbered ones
below_is : (o : Sort) (m : ℕ) (v : Var) → is_below o m v ≡ true → (v.sort ≡ o) × (v.number < m)
below_is o m v h =
    let both = and_parts (sort_eq v.sort o) (nat_lt v.number m) h in
    ((Decides-sort_eq v.sort o).0 both.0, ltb-true v.number m both.1)

module _ (u w : Assignment) where
  -- ---- agreement of numbered variables is agreement of terms

  base_same : (b : Option Var) → ((v : Var) → Among v (base_vars b) → u.number v ≡ w.number v) → base_value u b ≡ base_value w b
  base_same None h = refl
  base_same (Some v) h = h v (inl refl)

  term_same : (t : Term) → ((v : Var) → Among v (term_vars t) → u.number v ≡ w.number v) → value u t ≡ value w t
  term_same t h = ap (λ (z : ℤ). z +ℤ t.offset) (base_same t.base h)

  values_from : (ts : List Term) → ((t : Term) → Among t ts → value u t ≡ value w t) → SameValues u w ts
  values_from [] h = tt
  values_from (t ∷ ts) h = (h t (inl refl), values_from ts (λ r k. h r (inr k)))

  sets_from : (vs : List Var) → ((v : Var) → Among v vs → SameMembers (u.members v) (w.members v)) → SameSets u w vs
  sets_from [] h = tt
  sets_from (v ∷ vs) h = (h v (inl refl), sets_from vs (λ r k. h r (inr k)))

  number_below : (m : ℕ) → ((i : ℕ) → i < m → u.number (int_var i) ≡ w.number (int_var i)) → (v : Var) → is_below Int m v ≡ true → u.number v ≡ w.number v
  number_below m h v b =
      let k = below_is Int m v b in
      let back = sym k.0 in
      subst (λ (o : Sort). u.number (record { sort = o; number = v.number }) ≡ w.number (record { sort = o; number = v.number })) back (h v.number k.1)

  members_below : (m : ℕ) → ((i : ℕ) → i < m → SameMembers (u.members (set_numbered i)) (w.members (set_numbered i))) → (v : Var) → is_below Set m v ≡ true
      → SameMembers (u.members v) (w.members v)
  members_below m h v b =
      let k = below_is Set m v b in
      let back = sym k.0 in
      subst (λ (o : Sort). SameMembers (u.members (record { sort = o; number = v.number })) (w.members (record { sort = o; number = v.number }))) back (h v.number k.1)

  -- ---- literals of integers

  int_lit_agrees : (l : Lit) → is_int_lit l ≡ true → ((v : Var) → Among v (lit_vars l) → u.number v ≡ w.number v) → SameValues u w (lit_terms l ++ []) × SameSets u w (lit_set_vars l ++ [])
  int_lit_agrees (Eq a b) e h = ((term_same a (λ v k. h v (Among-left v (term_vars a) (term_vars b) k)), (term_same b (λ v k. h v (Among-right v (term_vars a) (term_vars b) k)), tt)), tt)
  int_lit_agrees (Ne a b) e h = ((term_same a (λ v k. h v (Among-left v (term_vars a) (term_vars b) k)), (term_same b (λ v k. h v (Among-right v (term_vars a) (term_vars b) k)), tt)), tt)
  int_lit_agrees (Le a b) e h = ((term_same a (λ v k. h v (Among-left v (term_vars a) (term_vars b) k)), (term_same b (λ v k. h v (Among-right v (term_vars a) (term_vars b) k)), tt)), tt)
  int_lit_agrees (Lt a b) e h = ((term_same a (λ v k. h v (Among-left v (term_vars a) (term_vars b) k)), (term_same b (λ v k. h v (Among-right v (term_vars a) (term_vars b) k)), tt)), tt)
  int_lit_agrees (Same a b) e h = absurd (false≢true e)
  int_lit_agrees (NotSame a b) e h = absurd (false≢true e)
  int_lit_agrees (Member a b) e h = absurd (false≢true e)
  int_lit_agrees (NotMember a b) e h = absurd (false≢true e)
  int_lit_agrees (Sub a b) e h = absurd (false≢true e)
  int_lit_agrees (NotSub a b) e h = absurd (false≢true e)

  int_truth : (l : Lit) → is_int_lit l ≡ true → ((v : Var) → Among v (lit_vars l) → u.number v ≡ w.number v) → Truth u l → Truth w l
  int_truth l e h k = let a = int_lit_agrees l e h in (all_agree u w (l ∷ []) a.0 a.1 (k, tt)).0

-- the instance, its predicate, and an assignment that gives the parameters the values of the arguments
module _ (preds : Preds) (formed : IsFormedPreds preds) (j : InstOf) (next : Next) (q : Pred) (at : slice_get preds.list j.pred ≡ Some q) (fits : inst_fits preds j ≡ true) (s w : Assignment)
    (params : ParamsAre w 0 0 q.params (map (arg_value s) j.args)) where
  abbrev params_of : Clause → Assignment → Type 0
  params_of c t = ParamsSame (under (clause_subst j.args c next) t) w 0 (length (int_args j.args)) 0 (length (set_args j.args))

  params_at : (c : Clause) (t : Assignment) → SameArgValues (map (arg_value s) j.args) (map (arg_value t) j.args) → params_of c t
  params_at c t e =
      params_same (clause_subst j.args c next) s t w 0 0 j.args q.params (fitting_args j (slice_get preds.list j.pred) q at fits)
      (ints_bound 0 (int_args j.args) (map var_term (new_ints next.ints (own_ints j.args c))))
      (sets_bound 0 (set_args j.args) (map set_var (new_sets next.sets (own_sets j.args c)))) params e

  least : (i m : ℕ) → i < m → i < 0 + m
  least i m h = omega arith

  guard_numbers : (k : ℕ) (c : Clause) → slice_get q.clauses k ≡ Some c → (v : Var) → Among v (lit_vars c.guard) → (under (clause_subst j.args c next) s).number v ≡ w.number v
  guard_numbers k c e v m =
      let guard = and_parts (is_int_lit c.guard) (list_all (is_below Int (count_of Int q.params)) (lit_vars c.guard))
      (clause_passes (λ q c. is_guard q c.guard) preds formed.guards_plain j.pred k q c at e) in
      let counted : length (int_args j.args) ≡ count_of Int q.params = (args_counted j.args q.params (fitting_args j (slice_get preds.list j.pred) q at fits)).0 in
      let same = params_at c s (same_values_self (map (arg_value s) j.args)) in
      number_below (under (clause_subst j.args c next) s) w (length (int_args j.args)) (λ i l. same.numbers i (omega arith) (least i (length (int_args j.args)) l)) v
      (subst (λ (n : ℕ). is_below Int n v ≡ true) (sym counted) (each_at (is_below Int (count_of Int q.params)) v (lit_vars c.guard) guard.1 m))

  guard_plain : (k : ℕ) (c : Clause) → slice_get q.clauses k ≡ Some c → is_int_lit c.guard ≡ true
  guard_plain k c e =
      (and_parts (is_int_lit c.guard) (list_all (is_below Int (count_of Int q.params)) (lit_vars c.guard)) (clause_passes (λ q c. is_guard q c.guard) preds formed.guards_plain j.pred k q c at e)).0

  -- the guard of a clause is true of the arguments exactly where it is true of the parameters
  pub guard_at : (k : ℕ) (c : Clause) → slice_get q.clauses k ≡ Some c → Truth s (unfold_clause j next c).guard ↔ Truth w c.guard
  guard_at k c e =
      let by : Subst = clause_subst j.args c next in (
        (λ h. int_truth (under by s) w c.guard (guard_plain k c e) (guard_numbers k c e) ((apply_law by s c.guard).0 h)),
        (λ h. (apply_law by s c.guard).1 (int_truth w (under by s) c.guard (guard_plain k c e) (λ v m. sym (guard_numbers k c e v m)) h)),
      )

  -- ---- the whole clause, where the own variables are opened

  module _ (k : ℕ) (c : Clause) (e : slice_get q.clauses k ≡ Some c) (ns : List ℕ) where
    abbrev pub values_of : Assignment
    values_of = opened next (length (int_args j.args)) (length (set_args j.args)) ns s w

    abbrev applied_to : Assignment
    applied_to = under (clause_subst j.args c next) values_of

    module _ (kept : SameArgValues (map (arg_value s) j.args) (map (arg_value values_of) j.args)) where
      own_below : (p m i : ℕ) → p ≤ i → i < m → i < p + (m - p)
      own_below p m i a b = omega arith

      back_again : (p i : ℕ) → p ≤ i → p + (i - p) ≡ i
      back_again p i a = omega arith

      clause_number : (i : ℕ) → i < c.ints → applied_to.number (int_var i) ≡ w.number (int_var i)
      clause_number i l =
          let p : ℕ = length (int_args j.args) in
          elim (cases_lt i p) [
            | inl h ↦ (params_at c values_of kept).numbers i (omega arith) (least i p h)
            | inr h ↦
                own_numbers (clause_subst j.args c next) values_of p next.ints (own_ints j.args c) (ints_behind (int_args j.args) (map var_term (new_ints next.ints (own_ints j.args c)))) i h
                (own_below p c.ints i h l)
                ∙ new_number next p (length (set_args j.args)) ns s w (i - p)
                ∙ ap (λ (y : ℕ). w.number (int_var y)) (back_again p i h)
          ]

      clause_members : (i : ℕ) → i < c.sets → SameMembers (applied_to.members (set_numbered i)) (w.members (set_numbered i))
      clause_members i l =
          let p : ℕ = length (set_args j.args) in
          elim (cases_lt i p) [
            | inl h ↦ (params_at c values_of kept).sets i (omega arith) (least i p h)
            | inr h ↦ λ z. ap (int_in z)
                (own_sets_same (clause_subst j.args c next) values_of p next.sets (own_sets j.args c) (sets_behind (set_args j.args) (map set_var (new_sets next.sets (own_sets j.args c)))) i h
                (own_below p c.sets i h l)
                ∙ new_members next (length (int_args j.args)) p ns s w (i - p)
                ∙ ap (λ (y : ℕ). w.members (set_numbered y)) (back_again p i h))
          ]

      closed : (list_all (is_below Int c.ints) (flat_map term_vars (clause_terms c)) ≡ true) × (list_all (is_below Set c.sets) (clause_set_vars c) ≡ true)
      closed =
          and_parts (list_all (is_below Int c.ints) (flat_map term_vars (clause_terms c))) (list_all (is_below Set c.sets) (clause_set_vars c))
          (clause_passes (λ q c. is_closed c) preds formed.closed j.pred k q c at e)

      clause_value : (t : Term) → Among t (clause_terms c) → value w t ≡ value applied_to t
      clause_value t m =
          sym (term_same applied_to w t (λ v i.
          number_below applied_to w c.ints clause_number v (each_at (is_below Int c.ints) v (flat_map term_vars (clause_terms c)) closed.0 (flat_in term_vars v t (clause_terms c) m i))))

      clause_set : (v : Var) → Among v (clause_set_vars c) → SameMembers (w.members v) (applied_to.members v)
      clause_set v m z = sym (members_below applied_to w c.sets clause_members v (each_at (is_below Set c.sets) v (clause_set_vars c) closed.1 m) z)

      -- the literals
      pub clause_lits : AllTrue w (c.guard ∷ c.lits) → AllTrue applied_to (c.guard ∷ c.lits)
      clause_lits h =
          let terms : List Term = lit_terms c.guard ++ flat_map lit_terms c.lits in
          let vars : List Var = lit_set_vars c.guard ++ flat_map lit_set_vars c.lits in
          all_agree w applied_to (c.guard ∷ c.lits) (values_from w applied_to terms (λ t m. clause_value t (Among-left t terms (flat_map chunk_terms c.heap.chunks) m)))
          (sets_from w applied_to vars (λ v m. clause_set v (Among-left v vars (flat_map chunk_set_vars c.heap.chunks) m))) h

      -- and the chunks
      pub clause_chunks : (h : Store) → ChunksHold (InstanceHolds preds) w c.heap.chunks h ns → ChunksHold (InstanceHolds preds) applied_to c.heap.chunks h ns
      clause_chunks h o =
          let terms : List Term = lit_terms c.guard ++ flat_map lit_terms c.lits in
          let vars : List Var = lit_set_vars c.guard ++ flat_map lit_set_vars c.lits in
          side_chunks_same preds w applied_to c.heap.chunks c.heap.chunks h ns
          (chunks_agree w applied_to c.heap.chunks (values_from w applied_to (flat_map chunk_terms c.heap.chunks) (λ t m. clause_value t (Among-right t terms (flat_map chunk_terms c.heap.chunks) m)))
          (sets_from w applied_to (flat_map chunk_set_vars c.heap.chunks) (λ v m. clause_set v (Among-right v vars (flat_map chunk_set_vars c.heap.chunks) m)))) o
