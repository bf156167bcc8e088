-- The literals of a dealing, with the class of one term more.
use Rattle.std.proofs.Common.{◌≡◌, ◌⊎◌, ◌↔◌, ℕ, zero, suc, ◌+◌, ◌<◌, ◌≤◌, Bool, true, false, List, [], ◌∷◌, ◌++◌, ◌==◌, if◌then◌else◌, IsTrue, get_or, length, inl, inr, refl, sym, ap, ◌∙◌, subst, arith}
use Rattle.std.specs.List.{All, flat_map, zip}
use Rattle.std.proofs.lemmas.List.{length-append}
use Rattle.cyp_term.specs.declared.lit.Lit.{Lit}
use Rattle.cyp_term.specs.declared.lit.Lit.TheVariants.{Eq, Ne}
use Rattle.cyp_term.specs.declared.term.Term.{Term}
use Rattle.cyp_term.specs.declared.term.Var.{Var}
use Rattle.cyp_term.specs.Integers.{is_int_lit}
use Rattle.cyp_term.specs.Meaning.{AllTrue, Assignment, value}
use Rattle.cyp_term.specs.Terms.{lit_vars, lits_vars, term_vars, var_eq, var_in}
use Rattle.cyp_term.proofs.Equality.{Decides-var_eq}
use Rattle.cyp_term.proofs.Lists.{Among, Among-cases, Among-left, Among-right, flat_in, flat_out}
use Rattle.cyp_diff.specs.Solving.{AreInts}
use Rattle.cyp_pure.specs.declared.dealing.Dealing.{Dealing}
use Rattle.cyp_pure.specs.declared.dealing.Question.{Question}
use Rattle.cyp_pure.specs.Dealing.{Agrees, IsDealt, SaysClasses, tie, ties}
use Rattle.cyp_pure.proofs.Agreeing.{agrees_at, agrees_less, agrees_more, ties_in, ties_out, zip_left, zip_push}
use Rattle.cyp_pure.proofs.Alls.{all_among, all_from_among, true_both, true_left, true_right}
use Rattle.cyp_pure.proofs.Fewer.{Decides-among}

-- ---- they compare integers
tie_int : (t : Term) (k : ℕ) (p : Term × ℕ) → IsTrue (is_int_lit (tie t k p))
tie_int t k p = by_test (p.1 == k)
  where
    by_test : (b : Bool) → IsTrue (is_int_lit (if b then Eq p.0 t else Ne p.0 t))
    by_test true = refl
    by_test false = refl

ties_int : (t : Term) (k : ℕ) (ps : List (Term × ℕ)) (l : Lit) → Among l (ties t k ps) → IsTrue (is_int_lit l)
ties_int t k [] l m = absurd m
ties_int t k (p ∷ ps) l (inl e) = subst (λ x. IsTrue (is_int_lit x)) (sym e) (tie_int t k p)
ties_int t k (p ∷ ps) l (inr m) = ties_int t k ps l m

pub ints_both : (xs ys : List Lit) → AreInts xs → AreInts ys → AreInts (xs ++ ys)
ints_both xs ys h k = all_from_among (λ l. IsTrue (is_int_lit l)) (xs ++ ys) (λ l i. by_side l (Among-cases l xs ys i))
  where
    by_side : (l : Lit) → Among l xs ⊎ Among l ys → IsTrue (is_int_lit l)
    by_side l (inl i) = all_among (λ l. IsTrue (is_int_lit l)) xs l h i
    by_side l (inr i) = all_among (λ l. IsTrue (is_int_lit l)) ys l k i

-- ---- their variables are those of the terms
tie_vars : (t : Term) (k : ℕ) (p : Term × ℕ) → lit_vars (tie t k p) ≡ term_vars p.0 ++ term_vars t
tie_vars t k p = by_test (p.1 == k)
  where
    by_test : (b : Bool) → lit_vars (if b then Eq p.0 t else Ne p.0 t) ≡ term_vars p.0 ++ term_vars t
    by_test true = refl
    by_test false = refl

ties_vars : (ts : List Term) (t : Term) (k : ℕ) (ps : List (Term × ℕ)) → ((p : Term × ℕ) → Among p ps → Among p.0 ts) → Among t ts → (v : Var) → Among v (lits_vars (ties t k ps)) → Among v (flat_map term_vars ts)
ties_vars ts t k [] h i v m = absurd m
ties_vars ts t k (p ∷ ps) h i v m = by_part (ties_vars ts t k ps (λ q o. h q (inr o)) i v) (Among-cases v (lit_vars (tie t k p)) (lits_vars (ties t k ps)) m)
  where
    by_side : Among v (term_vars p.0) ⊎ Among v (term_vars t) → Among v (flat_map term_vars ts)
    by_side (inl j) = flat_in term_vars v p.0 ts (h p (inl refl)) j
    by_side (inr j) = flat_in term_vars v t ts i j

    by_part : (Among v (lits_vars (ties t k ps)) → Among v (flat_map term_vars ts)) → Among v (lit_vars (tie t k p)) ⊎ Among v (lits_vars (ties t k ps)) → Among v (flat_map term_vars ts)
    by_part rest (inl j) = by_side (Among-cases v (term_vars p.0) (term_vars t) (subst (λ vs. Among v vs) (tie_vars t k p) j))
    by_part rest (inr j) = rest j

pub var_among : (v : Var) (vs : List Var) → IsTrue (var_in v vs) → Among v vs
var_among v vs h = (Decides-among var_eq Decides-var_eq v vs).0 h

pub among_var : (v : Var) (vs : List Var) → Among v vs → IsTrue (var_in v vs)
among_var v vs h = (Decides-among var_eq Decides-var_eq v vs).1 h

pub lits_vars_left : (v : Var) (xs ys : List Lit) → Among v (lits_vars xs) → Among v (lits_vars (xs ++ ys))
lits_vars_left v xs ys m = let r = flat_out lit_vars v xs m in flat_in lit_vars v r.0 (xs ++ ys) (Among-left r.0 xs ys r.1) r.2

pub lits_vars_right : (v : Var) (xs ys : List Lit) → Among v (lits_vars ys) → Among v (lits_vars (xs ++ ys))
lits_vars_right v xs ys m = let r = flat_out lit_vars v ys m in flat_in lit_vars v r.0 (xs ++ ys) (Among-right r.0 xs ys r.1) r.2

pub lits_vars_cases : (v : Var) (xs ys : List Lit) → Among v (lits_vars (xs ++ ys)) → Among v (lits_vars xs) ⊎ Among v (lits_vars ys)
lits_vars_cases v xs ys m =
    let r = flat_out lit_vars v (xs ++ ys) m in
    elim (Among-cases r.0 xs ys r.1) [ inl i ↦ inl (flat_in lit_vars v r.0 xs i r.2) | inr i ↦ inr (flat_in lit_vars v r.0 ys i r.2) ]

-- ---- one term more
pub among_at : {X : Type 0} (xs : List X) (i : ℕ) (x : X) → i < length xs → x ≡ get_or xs i x → Among x xs
among_at [] i x h e = absurd (omega arith)
among_at (y ∷ xs) zero x h e = inl e
among_at (y ∷ xs) (suc i) x h e = inr (among_at xs i x (omega arith) e)

-- what stands at the place after the classes gets the class
pub record Follows (q : Question) (d : Dealing) (t : Term) (k : ℕ) (e : Dealing) : Type 0 where
  pub more : length d.classes < length q.terms.now
  pub term : t ≡ get_or q.terms.now (length d.classes) t
  pub classes : e.classes ≡ d.classes ++ k ∷ []
  pub facts : e.facts ≡ d.facts ++ ties t k (zip q.terms.now d.classes)

said_means : (q : Question) (d e : Dealing) (t : Term) (k : ℕ) → SaysClasses q d → Follows q d t k e → (s : Assignment) → AllTrue s e.facts ↔ (AllTrue s q.more.now × Agrees (value s) (zip q.terms.now e.classes))
said_means q d e t k h f s =
    let ps : List (Term × ℕ) = zip q.terms.now d.classes in
    let zipped : zip q.terms.now e.classes ≡ ps ++ (t, k) ∷ [] = ap (zip q.terms.now) f.classes ∙ zip_push q.terms.now d.classes t k f.more f.term in (
      λ i.
          let j : AllTrue s (d.facts ++ ties t k ps) = subst (AllTrue s) f.facts i in
          let old = (h.means s).0 (true_left s d.facts (ties t k ps) j) in
          (old.0, subst (Agrees (value s)) (sym zipped) (agrees_more (value s) ps (t, k) old.1 (ties_out s t k ps (true_right s d.facts (ties t k ps) j)))),
      λ i.
          let all : Agrees (value s) (ps ++ (t, k) ∷ []) = subst (Agrees (value s)) zipped i.1 in
          subst (AllTrue s) (sym f.facts)
          (true_both s d.facts (ties t k ps) ((h.means s).1 (i.0, agrees_less (value s) ps ((t, k) ∷ []) all))
          (ties_in s t k ps (λ p j. agrees_at (value s) (ps ++ (t, k) ∷ []) p (t, k) all (Among-left p ps ((t, k) ∷ []) j) (Among-right (t, k) ps ((t, k) ∷ []) (inl refl))))),
    )

said_vars : (q : Question) (d e : Dealing) (t : Term) (k : ℕ) → SaysClasses q d → Follows q d t k e → (v : Var) → IsTrue (var_in v (lits_vars e.facts)) → IsTrue (var_in v (lits_vars q.more.now ++ flat_map term_vars q.terms.now))
said_vars q d e t k h f v i =
    by_part (lits_vars_cases v d.facts (ties t k ps) (subst (λ ls. Among v (lits_vars ls)) f.facts (var_among v (lits_vars e.facts) i)))
  where
    ps : List (Term × ℕ)
    ps = zip q.terms.now d.classes

    by_part : Among v (lits_vars d.facts) ⊎ Among v (lits_vars (ties t k (zip q.terms.now d.classes))) → IsTrue (var_in v (lits_vars q.more.now ++ flat_map term_vars q.terms.now))
    by_part (inl j) = h.vars v (among_var v (lits_vars d.facts) j)
    by_part (inr j) =
        among_var v (lits_vars q.more.now ++ flat_map term_vars q.terms.now)
        (Among-right v (lits_vars q.more.now) (flat_map term_vars q.terms.now)
        (ties_vars q.terms.now t k (zip q.terms.now d.classes) (λ p m. zip_left q.terms.now d.classes p m) (among_at q.terms.now (length d.classes) t f.more f.term) v j))

pub said_more : (q : Question) (d e : Dealing) (t : Term) (k : ℕ) → SaysClasses q d → Follows q d t k e → SaysClasses q e
said_more q d e t k h f = record {
  ints_only = subst AreInts (sym f.facts) (ints_both d.facts (ties t k (zip q.terms.now d.classes)) h.ints_only (all_from_among (λ l. IsTrue (is_int_lit l)) (ties t k (zip q.terms.now d.classes)) (ties_int t k (zip q.terms.now d.classes))));
  vars = said_vars q d e t k h f;
  means = said_means q d e t k h f;
}

-- ---- the classes stay below their number
below_more : (ks js : List ℕ) (k m n : ℕ) → All (λ j. j < m) ks → js ≡ ks ++ k ∷ [] → m ≤ n → k < n → All (λ j. j < n) js
below_more ks js k m n h e l b = all_from_among (λ j. j < n) js (λ j i. by_side j (Among-cases j ks (k ∷ []) (subst (λ xs. Among j xs) e i)))
  where
    by_side : (j : ℕ) → Among j ks ⊎ Among j (k ∷ []) → j < n
    by_side j (inl i) = let c : j < m = all_among (λ j. j < m) ks j h i in omega arith
    by_side j (inr (inl i)) = omega arith
    by_side j (inr (inr i)) = absurd i

pub dealt_more : (q : Question) (d e : Dealing) (t : Term) (k : ℕ) → IsDealt q d → Follows q d t k e → d.count ≤ e.count → k < e.count → e.count ≤ d.count + 1 → IsDealt q e
dealt_more q d e t k h f le lt most =
    let len : length e.classes ≡ length d.classes + 1 = ap length f.classes ∙ length-append d.classes (k ∷ []) in
    let few = h.few in let count = h.count in let more = f.more in
    record {
      few = omega arith;
      count = omega arith;
      below = below_more d.classes e.classes k d.count e.count h.below f.classes le lt;
      facts = said_more q d e t k h.facts f;
    }
