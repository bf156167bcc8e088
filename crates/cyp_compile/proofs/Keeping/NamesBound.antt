-- The names of a node's program variables are those of parameters and binders on the path, and so are those of its premises.
use Rattle.cyp_goal.specs.Normal.{Renaming, normal}
use Rattle.cyp_heap.specs.declared.goal.Goal.{Goal}
use Rattle.cyp_heap.specs.declared.goal.Node.{Node}
use Rattle.cyp_kernel.proofs.ForgetVars.{in_from_among}
use Rattle.cyp_kernel.proofs.NormalEach.{Split, split}
use Rattle.cyp_kernel.specs.Compile.{bound_count, is_binder, renamed_names, with_new_name}
use Rattle.cyp_kernel.specs.Naming.{Names, name_of, param_names}
use Rattle.cyp_pred.specs.Unfold.{count_from}
use Rattle.cyp_prog.specs.Rules.{IsBound}
use Rattle.cyp_compile.proofs.Keeping.OldProgram.{old_among, old_length}
use Rattle.cyp_sound.proofs.Safety.CompanionGoals.{link_goals, normal_goals}
use Rattle.cyp_sound.proofs.Safety.RawPremises.{IsAfter, goals_after, program_after, raws_are_after}
use Rattle.cyp_step.specs.Changes.{new_int}
use Rattle.cyp_step.specs.Step.{all_normal, raws, renamed_premises}
use Rattle.cyp_step.specs.declared.rule.Rule.{Rule}
use Rattle.cyp_term.proofs.Equality.{Decides-var_eq}
use Rattle.cyp_term.proofs.Lists.{Among, Every-append, Every-from_among}
use Rattle.cyp_term.specs.Terms.{var_eq, var_in}
use Rattle.cyp_term.specs.declared.term.Var.{Var}
use Rattle.std.proofs.Common.{◌≡◌, refl, sym, ap, ◌∙◌, ℕ, zero, suc, ◌+◌, ◌≤◌, Bool, true, false, cond, length, List, [], ◌∷◌, ◌++◌, map, ◌||◌, Some, arith, subst}
use Rattle.std.proofs.lemmas.Bool.{both_ways, false≢true}
use Rattle.std.proofs.lemmas.List.{length-map, map-append}
use Rattle.std.proofs.lemmas.List.Elements.{recursion_from_All}
use Rattle.std.proofs.lemmas.Option.{option_and_then_some, same_Some}
use Rattle.std.proofs.lemmas.Slice.Zip.{firsts-zip}
use Rattle.std.specs.List.{AllByRecursion}
use Rattle.std.specs.Prelude.{zip}

-- the name is that of one of v1 to vm
abbrev pub IsEntry : ℕ → Var × ℕ → Type 0
IsEntry m p = IsBound m p.1

abbrev keys_of : Names → List Var
keys_of names = map (λ (p : Var × ℕ). p.0) names

-- the names are those of the program variables in order, and each is that of one of v1 to vm
pub record IsCalled (names : Names) (program : List Var) (m : ℕ) : Type 0 where
  pub keys : map (λ (p : Var × ℕ). p.0) names ≡ program
  pub each : AllByRecursion (IsEntry m) names

-- ---- one name

in_others : (v x : Var) (xs : List Var) → var_eq x v ≡ false → var_in v (x ∷ xs) ≡ true → var_in v xs ≡ true
in_others v x xs e h = at (var_eq v x) refl h
  where
    at : (c : Bool) → var_eq v x ≡ c → (c || var_in v xs) ≡ true → var_in v xs ≡ true
    at true k j = absurd (both_ways (var_eq x v) e ((Decides-var_eq x v).1 (sym ((Decides-var_eq v x).0 k))))
    at false k j = j

named : (m : ℕ) (names : Names) (v : Var) → AllByRecursion (IsEntry m) names → var_in v (keys_of names) ≡ true → IsBound m (name_of names v)
named m [] v each h = absurd (false≢true h)
named m (p ∷ ps) v each h = at (var_eq p.0 v) refl (λ k. named m ps v each.1 k)
  where
    at : (c : Bool) → var_eq p.0 v ≡ c → (var_in v (keys_of ps) ≡ true → IsBound m (name_of ps v)) → IsBound m (cond c p.1 (name_of ps v))
    at true e later = each.0
    at false e later = later (in_others v p.0 (keys_of ps) e h)

-- each program variable is bound
pub bound_name : (names : Names) (program : List Var) (m : ℕ) (v : Var) → IsCalled names program m → var_in v program ≡ true → IsBound m (name_of names v)
bound_name names program m v w h = named m names v w.each (subst (λ (vs : List Var). var_in v vs ≡ true) (sym w.keys) h)

-- ---- one binder more

one_more : (m k : ℕ) → IsBound m k → IsBound (suc m) k
one_more m k h = (h.0, more m k h.1)
  where
    more : (m k : ℕ) → k ≤ m → k ≤ suc m
    more m k l = omega arith

wider : (m : ℕ) (names : Names) → AllByRecursion (IsEntry m) names → AllByRecursion (IsEntry (suc m)) names
wider m [] h = tt
wider m (p ∷ ps) h = (one_more m p.1 h.0, wider m ps h.1)

last_bound : (m : ℕ) → IsBound (suc m) (suc m)
last_bound m = (positive m, same m)
  where
    positive : (m : ℕ) → 1 ≤ suc m
    positive m = omega arith

    same : (m : ℕ) → suc m ≤ suc m
    same m = omega arith

zipped : (m : ℕ) (f : Var → ℕ) (xs os : List Var) → AllByRecursion (λ (o : Var). IsBound m (f o)) os → AllByRecursion (IsEntry m) (zip xs (map f os))
zipped m f [] os h = tt
zipped m f (x ∷ xs) [] h = tt
zipped m f (x ∷ xs) (o ∷ os) h = (h.0, zipped m f xs os h.1)

-- ---- the premises

-- what is passed on to a premise, whose companions have these goals
pub record IsNamed (goals : List Goal) (names : Names) (m : ℕ) (s : Renaming) : Type 0 where
  pub goals_are : link_goals s.node.links ≡ goals
  pub naming : IsCalled (renamed_names names s) s.node.goal.program m

module _ (n : Node) (r : Rule) (names : Names) (m : ℕ) (w : IsCalled names n.goal.program m) where
  abbrev after : Names
  after = with_new_name n r (suc m) names

  names_after : IsCalled after (program_after n r) (bound_count r m)
  names_after = by (is_binder r)
    where
      by : (c : Bool) → IsCalled (cond c (names ++ (new_int n, suc m) ∷ []) names) (cond c (n.goal.program ++ new_int n ∷ []) n.goal.program) (cond c (suc m) m)
      by true = record {
        keys = map-append (λ (p : Var × ℕ). p.0) names ((new_int n, suc m) ∷ []) ∙ ap (λ (xs : List Var). xs ++ new_int n ∷ []) w.keys;
        each = Every-append (IsEntry (suc m)) names ((new_int n, suc m) ∷ []) (wider m names w.each) (last_bound m, tt);
      }
      by false = w

  passed_on : (x : Node) (s : Renaming) → IsAfter n r x → normal x ≡ Some s → IsNamed (goals_after n r) after (bound_count r m) s
  passed_on x s k e = record {
    goals_are = normal_goals x s e ∙ k.goals;
    naming = record {
      keys = firsts-zip s.node.goal.program (map (name_of after) s.old) (length-map s.old (name_of after) ∙ old_length x s e);
      each = zipped (bound_count r m) (name_of after) s.node.goal.program s.old
          (Every-from_among (λ (o : Var). IsBound (bound_count r m) (name_of after o)) s.old
          (λ v i. bound_name after (program_after n r) (bound_count r m) v names_after (in_from_among v (program_after n r) (subst (Among v) k.program (old_among x s e v i)))));
    };
  }

  each_passed_on : (xs : List Node) (rs : List Renaming) → AllByRecursion (IsAfter n r) xs → all_normal xs ≡ Some rs
      → AllByRecursion (IsNamed (goals_after n r) after (bound_count r m)) rs
  each_passed_on [] rs h e = subst (AllByRecursion (IsNamed (goals_after n r) after (bound_count r m))) (same_Some [] rs e) tt
  each_passed_on (x ∷ xs) rs h e =
      let d : Split x xs rs = split x xs rs e in
      subst (AllByRecursion (IsNamed (goals_after n r) after (bound_count r m))) (sym d.both)
      (passed_on x d.first h.0 d.first_is, each_passed_on xs d.others h.1 d.others_are)

  pub named_premises : (rs : List Renaming) → renamed_premises n r ≡ Some rs → AllByRecursion (IsNamed (goals_after n r) after (bound_count r m)) rs
  named_premises rs e = option_and_then_some all_normal (raws n r) rs e (λ xs is d. each_passed_on xs rs (recursion_from_All (IsAfter n r) xs (raws_are_after n r xs is)) d)

-- ---- parameters

length-count : (a k : ℕ) → length (count_from a k) ≡ k
length-count a zero = refl
length-count a (suc k) = ap suc (length-count (suc a) k)

counted : (xs : List Var) (a b k : ℕ) → 1 ≤ a → a + k ≤ suc b → AllByRecursion (IsEntry b) (zip xs (count_from a k))
counted [] a b k some l = tt
counted (x ∷ xs) a b zero some l = tt
counted (x ∷ xs) a b (suc k) some l = ((some, here a k b l), counted xs (suc a) b k (later a some) (there a k b l))
  where
    here : (a k b : ℕ) → a + suc k ≤ suc b → a ≤ b
    here a k b l = omega arith

    later : (a : ℕ) → 1 ≤ a → 1 ≤ suc a
    later a l = omega arith

    there : (a k b : ℕ) → a + suc k ≤ suc b → suc a + k ≤ suc b
    there a k b l = omega arith

pub params_called : (n : Node) → IsCalled (param_names n) n.goal.program (length n.goal.program)
params_called n =
    let xs : List Var = n.goal.program in
    record {
      keys = firsts-zip xs (count_from 1 (length xs)) (length-count 1 (length xs));
      each = counted xs 1 (length xs) (length xs) one (whole (length xs));
    }
  where
    one : 1 ≤ 1
    one = omega arith

    whole : (k : ℕ) → 1 + k ≤ suc k
    whole k = omega arith
