-- What the loop over the guards of a predicate knows at each step.
use Rattle.std.proofs.Common.{[], ◌≡◌, ◌∙◌, ◌∷◌, ◌++◌, List, Option, drop, get_or, length, ◌+◌, ◌<◌, ◌≤◌, ℕ, ap, subst, sym, arith}
use Rattle.std.specs.Prelude.{IsTrue}
use Rattle.std.specs.List.{All}
use Rattle.std.proofs.lemmas.List.{drop_all}
use Rattle.std.proofs.lemmas.List.Elements.{All-append, All-cons}
use Rattle.cyp_lex.specs.declared.fault.Fault.{Fault}
use Rattle.cyp_names.proofs.LesserFaults.{lesser_of-none}
use Rattle.cyp_spec.proofs.PredLeast.{guard_part, guards_turn}
use Rattle.cyp_names.specs.LeastFaults.{lesser_of}
use Rattle.cyp_term.specs.Integers.{is_int_lit}
use Rattle.cyp_term.specs.declared.lit.Lit.{Lit}
use Rattle.cyp_names.specs.PredFaults.{guard_of, overlap_faults}
use Rattle.cyp_names.specs.NameFaults.{clauses}
use Rattle.cyp_names.specs.FaultOrder.{least_fault}
use Rattle.cyp_text.specs.declared.tree.ClauseTree.{ClauseTree}
use Rattle.cyp_text.specs.declared.tree.ParamTree.{ParamTree}
use Rattle.cyp_text.specs.declared.tree.PredTree.{PredTree}

-- one guard more
pub ints_more : (seen after : List Lit) (g : Lit) → All (λ l. IsTrue (is_int_lit l)) seen → IsTrue (is_int_lit g) → after ≡ seen ++ g ∷ [] → All (λ l. IsTrue (is_int_lit l)) after
ints_more seen after g all one e =
    subst (λ (ls : List Lit). All (λ l. IsTrue (is_int_lit l)) ls) (sym e)
    (All-append (λ l. IsTrue (is_int_lit l)) seen (g ∷ []) all (All-cons (λ l. IsTrue (is_int_lit l)) g [] one (λ k d l. absurd (omega (arith, l)))))

pub ints_none : (start : List Lit) → start ≡ [] → All (λ l. IsTrue (is_int_lit l)) start
ints_none start e = subst (λ (ls : List Lit). All (λ l. IsTrue (is_int_lit l)) ls) (sym e) (λ k d l. absurd (omega (arith, l)))

module _ (qs : List PredTree) (q : PredTree) (ps : List ParamTree) (is : ps ≡ q.params) (cs : List ClauseTree) (are : cs ≡ q.others) where
  abbrev guard : ClauseTree → Lit
  guard = guard_of qs q.params

  -- the faults of guards from the clause at this place on
  abbrev pub left : List Lit → ℕ → Option Fault
  left seen i = least_fault (overlap_faults guard seen (drop i cs))

  guard_is : (d : ClauseTree) (g : Lit) → g ≡ guard_of qs ps d → g ≡ guard d
  guard_is d g e = e ∙ ap (λ (us : List ParamTree). guard_of qs us d) is

  pub begin_at : (start seen : List Lit) (g : Lit) → start ≡ [] → g ≡ guard_of qs ps q.first → seen ≡ start ++ g ∷ [] → left seen 0 ≡ least_fault (overlap_faults guard [] (clauses q))
  begin_at start seen g none e f =
      ap (λ (ls : List Lit). left ls 0) (f ∙ ap (λ (us : List Lit). us ++ g ∷ []) none ∙ ap (λ (l : Lit). l ∷ []) (guard_is q.first g e)) ∙ ap (λ (ds : List ClauseTree). least_fault (overlap_faults guard (guard q.first ∷ []) ds)) are

  pub turn_at : (i : ℕ) (d : ClauseTree) (seen shown after : List Lit) (g : Lit) (old new x whole : Option Fault) → i < length cs → d ≡ get_or cs i d → g ≡ guard_of qs ps d → shown ≡ seen
      → x ≡ least_fault (guard_part shown g d) → new ≡ lesser_of old x → after ≡ seen ++ g ∷ [] → lesser_of old (left seen i) ≡ whole → lesser_of new (left after (i + 1)) ≡ whole
  turn_at i d seen shown after g old new x whole l at e s told taken more h =
      ap (λ (ls : List Lit). lesser_of new (left ls (i + 1))) more
      ∙ guards_turn guard cs i d seen g old new whole l at (guard_is d g e) (taken ∙ ap (lesser_of old) (told ∙ ap (λ (ls : List Lit). least_fault (guard_part ls g d)) s)) h

  pub end_at : (i : ℕ) (seen : List Lit) (old whole : Option Fault) → length cs ≤ i → lesser_of old (left seen i) ≡ whole → old ≡ whole
  end_at i seen old whole l h = sym (lesser_of-none old) ∙ ap (λ (ds : List ClauseTree). lesser_of old (least_fault (overlap_faults guard seen ds))) (sym (drop_all i cs l)) ∙ h
