-- The names that are passed on to premises, and those of parameters.
use Rattle.cyp_goal.specs.Normal.{Renaming, normal}
use Rattle.cyp_heap.specs.declared.goal.Node.{Node}
use Rattle.cyp_kernel.proofs.NormalEach.{Split, split}
use Rattle.cyp_kernel.proofs.NormalMeaning.{Made, made}
use Rattle.cyp_kernel.specs.Compile.{bound_count, is_binder, renamed_names, with_new_name}
use Rattle.cyp_kernel.specs.Meets.{IsNaming}
use Rattle.cyp_kernel.specs.Naming.{Names, name_of, param_names}
use Rattle.cyp_pred.specs.Unfold.{count_from}
use Rattle.cyp_sound.proofs.Safety.CompanionGoals.{normal_goals, link_goals}
use Rattle.cyp_sound.proofs.Safety.RawPremises.{raws_are_after, IsAfter, goals_after}
use Rattle.cyp_step.specs.Changes.{new_int}
use Rattle.cyp_step.specs.Step.{all_normal, raws, renamed_premises}
use Rattle.cyp_step.specs.declared.rule.Rule.{Rule}
use Rattle.cyp_term.proofs.Equality.{Decides-var_eq}
use Rattle.cyp_term.specs.Terms.{var_eq, var_in}
use Rattle.cyp_term.specs.declared.term.Var.{Var}
use Rattle.std.proofs.Common.{◌≡◌, refl, sym, ap, ◌∙◌, ℕ, zero, suc, ◌+◌, ◌<◌, ◌≤◌, Bool, true, false, cond, length, List, [], ◌∷◌, ◌++◌, map, ◌||◌, Some, arith, subst}
use Rattle.std.proofs.lemmas.Bool.{both_ways, false≢true, or_left}
use Rattle.std.proofs.lemmas.List.{length-map}
use Rattle.std.proofs.lemmas.List.Elements.{All-from_recursion, recursion_from_All}
use Rattle.std.proofs.lemmas.Option.{option_and_then_some, same_Some}
use Rattle.std.proofs.lemmas.Slice.Zip.{firsts-zip}
use Rattle.std.specs.List.{AllByRecursion, All}
use Rattle.std.specs.Prelude.{zip}

-- the renamings of the premises: their companions' goals, and names for their program variables below the next new one
pub record IsPassedOn (n : Node) (r : Rule) (names : Names) (m : ℕ) (s : Renaming) : Type 0 where
  pub goals : link_goals s.node.links ≡ goals_after n r
  pub naming : IsNaming (renamed_names (with_new_name n r (suc m) names) s) s.node.goal.program (suc (bound_count r m))

cond_below : (c : Bool) (a z b : ℕ) → a < b → z < b → cond c a z < b
cond_below true a z b p q = p
cond_below false a z b p q = q

-- ---- names below the next new one

abbrev keys_of : Names → List Var
keys_of names = map (λ (p : Var × ℕ). p.0) names

-- a variable that is no key has the name 0
no_name : (v : Var) (names : Names) → var_in v (keys_of names) ≡ false → name_of names v ≡ 0
no_name v [] e = refl
no_name v (p ∷ ps) e = at (var_eq p.0 v) refl (no_name v ps (rest (var_eq v p.0) e))
  where
    rest : (c : Bool) → (c || var_in v (keys_of ps)) ≡ false → var_in v (keys_of ps) ≡ false
    rest true x = absurd (false≢true (sym x))
    rest false x = x

    at : (c : Bool) → var_eq p.0 v ≡ c → name_of ps v ≡ 0 → cond c p.1 (name_of ps v) ≡ 0
    at true k later = absurd (both_ways (var_in v (keys_of (p ∷ ps))) e (or_left (var_eq v p.0) (var_in v (keys_of ps)) ((Decides-var_eq v p.0).1 (sym ((Decides-var_eq p.0 v).0 k)))))
    at false k later = later

-- a name is that of a key, or 0
any_below : (names : Names) (b : ℕ) → 0 < b → ((v : Var) → var_in v (keys_of names) ≡ true → name_of names v < b) → (v : Var) → name_of names v < b
any_below names b some below v = by_key (var_in v (keys_of names)) refl
  where
    by_key : (c : Bool) → var_in v (keys_of names) ≡ c → name_of names v < b
    by_key true e = below v e
    by_key false e = subst (λ (k : ℕ). k < b) (sym (no_name v names e)) some

-- one name more
more_below : (names : Names) (y : Var) (k b : ℕ) (v : Var) → name_of names v < b → k < b → name_of (names ++ (y, k) ∷ []) v < b
more_below [] y k b v l p = cond_below (var_eq y v) k 0 b p l
more_below (q ∷ qs) y k b v l p = at (var_eq q.0 v) (λ x. more_below qs y k b v x p) l
  where
    at : (c : Bool) → (name_of qs v < b → name_of (qs ++ (y, k) ∷ []) v < b) → cond c q.1 (name_of qs v) < b → cond c q.1 (name_of (qs ++ (y, k) ∷ []) v) < b
    at true later x = x
    at false later x = later x

-- names that are taken from others
zip_below : (f : Var → ℕ) (b : ℕ) → 0 < b → ((v : Var) → f v < b) → (xs os : List Var) (v : Var) → name_of (zip xs (map f os)) v < b
zip_below f b some below [] os v = some
zip_below f b some below (x ∷ xs) [] v = some
zip_below f b some below (x ∷ xs) (o ∷ os) v = cond_below (var_eq x v) (f o) (name_of (zip xs (map f os)) v) b (below o) (zip_below f b some below xs os v)

-- ---- the premises

old_as_many : (n : Node) (r : Renaming) → normal n ≡ Some r → length r.old ≡ length r.node.goal.program
old_as_many n r e =
    let d : Made n r = made n r e in
    subst (λ (y : Renaming). length y.old ≡ length y.node.goal.program) d.is (sym (length-map _ _))

passed_below : (n : Node) (r : Rule) (names : Names) (m : ℕ) → ((v : Var) → name_of names v < suc m) → (v : Var) → name_of (with_new_name n r (suc m) names) v < suc (bound_count r m)
passed_below n r names m below v = at (is_binder r)
  where
    at : (c : Bool) → name_of (cond c (names ++ (new_int n, suc m) ∷ []) names) v < suc (cond c (suc m) m)
    at true = more_below names (new_int n) (suc m) (suc (suc m)) v (next (name_of names v) m (below v)) (last m)
      where
        next : (a m : ℕ) → a < suc m → a < suc (suc m)
        next a m l = omega arith

        last : (m : ℕ) → suc m < suc (suc m)
        last m = omega arith
    at false = below v

positive : (m : ℕ) → 0 < suc m
positive m = omega arith

passed_on : (n : Node) (r : Rule) (names : Names) (m : ℕ) → IsNaming names n.goal.program (suc m) → (x : Node) (s : Renaming) → IsAfter n r x → normal x ≡ Some s → IsPassedOn n r names m s
passed_on n r names m naming x s after e =
    let f : Var → ℕ = name_of (with_new_name n r (suc m) names) in
    let all = any_below names (suc m) (positive m) (λ v k. naming.below v (subst (λ (vs : List Var). var_in v vs ≡ true) naming.keys k)) in
    record {
      goals = normal_goals x s e ∙ after.goals;
      naming = record {
        keys = firsts-zip s.node.goal.program (map f s.old) (length-map s.old f ∙ old_as_many x s e);
        below = λ v k. zip_below f (suc (bound_count r m)) (positive (bound_count r m)) (passed_below n r names m all) s.node.goal.program s.old v;
      };
    }

each_passed_on : (n : Node) (r : Rule) (names : Names) (m : ℕ) → IsNaming names n.goal.program (suc m) → (xs : List Node) (rs : List Renaming) → AllByRecursion (IsAfter n r) xs → all_normal xs ≡ Some rs
    → AllByRecursion (IsPassedOn n r names m) rs
each_passed_on n r names m naming [] rs after e = subst (AllByRecursion (IsPassedOn n r names m)) (same_Some [] rs e) tt
each_passed_on n r names m naming (x ∷ xs) rs after e =
    let d : Split x xs rs = split x xs rs e in
    subst (AllByRecursion (IsPassedOn n r names m)) (sym d.both)
    (passed_on n r names m naming x d.first after.0 d.first_is, each_passed_on n r names m naming xs d.others after.1 d.others_are)

pub premises_are_passed_on : (n : Node) (r : Rule) (names : Names) (m : ℕ) (rs : List Renaming) → IsNaming names n.goal.program (suc m) → renamed_premises n r ≡ Some rs
    → All (IsPassedOn n r names m) rs
premises_are_passed_on n r names m rs naming e =
    All-from_recursion (IsPassedOn n r names m) rs
    (option_and_then_some all_normal (raws n r) rs e (λ xs is d. each_passed_on n r names m naming xs rs (recursion_from_All (IsAfter n r) xs (raws_are_after n r xs is)) d))

-- ---- parameters

length-count : (a k : ℕ) → length (count_from a k) ≡ k
length-count a zero = refl
length-count a (suc k) = ap suc (length-count (suc a) k)

counted_below : (xs : List Var) (a b k : ℕ) → a + k ≤ b → 0 < b → (v : Var) → name_of (zip xs (count_from a k)) v < b
counted_below [] a b k l some v = some
counted_below (x ∷ xs) a b zero l some v = some
counted_below (x ∷ xs) a b (suc k) l some v =
    cond_below (var_eq x v) a (name_of (zip xs (count_from (suc a) k)) v) b (here a k b l) (counted_below xs (suc a) b k (there a k b l) some v)
  where
    here : (a k b : ℕ) → a + suc k ≤ b → a < b
    here a k b l = omega arith

    there : (a k b : ℕ) → a + suc k ≤ b → suc a + k ≤ b
    there a k b l = omega arith

pub params_are_named : (n : Node) → IsNaming (param_names n) n.goal.program (suc (length n.goal.program))
params_are_named n =
    let xs : List Var = n.goal.program in
    record {
      keys = firsts-zip xs (count_from 1 (length xs)) (length-count 1 (length xs));
      below = λ v k. counted_below xs 1 (suc (length xs)) (length xs) (one (length xs)) (positive (length xs)) v;
    }
  where
    one : (k : ℕ) → 1 + k ≤ suc k
    one k = omega arith
