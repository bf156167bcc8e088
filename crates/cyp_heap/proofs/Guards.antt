-- Of the guards of one predicate at most one is true.
use Rattle.std.proofs.Common.{◌≡◌, refl, sym, ap, ◌∙◌, ℕ, zero, suc, Bool, true, not, List, [], ◌∷◌, map, Some}
use Rattle.std.specs.Prelude.{slice_get}
use Rattle.std.specs.List.{list_any}
use Rattle.std.proofs.lemmas.Bool.{false≢true, and_parts, or_left, or_right}
use Rattle.std.proofs.lemmas.Option.{none-some, same_Some}
use Rattle.cyp_heap.specs.Laws.{GuardsLaw}
use Rattle.cyp_heap.specs.PredsFormed.{clause_guards, none_overlap, overlap}
use Rattle.cyp_heap.specs.declared.pred.Clause.{Clause}
use Rattle.cyp_heap.specs.declared.pred.Pred.{Pred}
use Rattle.cyp_term.proofs.Entailment.{satisfiable_law}
use Rattle.cyp_term.specs.Meaning.{Assignment, Truth}
use Rattle.cyp_term.specs.declared.lit.Lit.{Lit}
use Rattle.cyp_heap.proofs.Heights.{passes_at}

module _ (s : Assignment) where
  both_true : (a b : Lit) → Truth s a → Truth s b → overlap a b ≡ true
  both_true a b p q = (satisfiable_law (a ∷ b ∷ [])).1 (s, (p, (q, tt)))

  some_overlaps : (g : Lit) (cs : List Clause) (j : ℕ) (d : Clause) → slice_get cs j ≡ Some d → Truth s g → Truth s d.guard
      → list_any (overlap g) (map (λ (c : Clause). c.guard) cs) ≡ true
  some_overlaps g [] j d e p q = absurd (none-some d e)
  some_overlaps g (c ∷ cs) zero d e p q = or_left (overlap g c.guard) (list_any (overlap g) (map (λ (x : Clause). x.guard) cs)) (ap (λ (x : Clause). overlap g x.guard) (same_Some c d e) ∙ both_true g d.guard p q)
  some_overlaps g (c ∷ cs) (suc j) d e p q = or_right (overlap g c.guard) (list_any (overlap g) (map (λ (x : Clause). x.guard) cs)) (some_overlaps g cs j d e p q)

  not_both : (b : Bool) → not b ≡ true → b ≡ true → ⊥
  not_both b p q = false≢true (ap not (sym q) ∙ p)

  same_place : (cs : List Clause) (i j : ℕ) (c d : Clause) → none_overlap (map (λ (x : Clause). x.guard) cs) ≡ true → slice_get cs i ≡ Some c → slice_get cs j ≡ Some d
      → Truth s c.guard → Truth s d.guard → i ≡ j
  same_place [] i j c d n e f p q = absurd (none-some c e)
  same_place (x ∷ cs) zero zero c d n e f p q = refl
  same_place (x ∷ cs) zero (suc j) c d n e f p q =
      absurd (not_both _ (and_parts _ _ n).0 (ap (λ (y : Clause). list_any (overlap y.guard) (map (λ (z : Clause). z.guard) cs)) (same_Some x c e) ∙ some_overlaps c.guard cs j d f p q))
  same_place (x ∷ cs) (suc i) zero c d n e f p q =
      absurd (not_both _ (and_parts _ _ n).0 (ap (λ (y : Clause). list_any (overlap y.guard) (map (λ (z : Clause). z.guard) cs)) (same_Some x d f) ∙ some_overlaps d.guard cs i c e q p))
  same_place (x ∷ cs) (suc i) (suc j) c d n e f p q = ap suc (same_place cs i j c d (and_parts _ _ n).1 e f p q)

pub guards_law : GuardsLaw
guards_law preds w p i j q c d s e f g a b = same_place s q.clauses i j c d (passes_at (λ (r : Pred). none_overlap (clause_guards r)) preds.list p q e w.guards_apart) f g a b
