-- Live variables spread until nothing changes.
use Rattle.std.proofs.Common.{◌≡◌, ◌∙◌, [], ◌∷◌, ◌++◌, ℕ, zero, suc, ◌+◌, ◌-◌, ◌<◌, Bool, List, false, true, cond, length, refl, ap, sym, append-nil, append_assoc, length-append, arith}
use Rattle.std.specs.List.{flat_map, list_any}
use Rattle.std.proofs.lemmas.List.{nil_from_length}
use Rattle.cyp_goal.proofs.Occurring.{added_two, alone, flat_alone}
use Rattle.cyp_goal.specs.Pruning.{spread, spread_times, touches}
use Rattle.cyp_term.specs.Terms.{lit_vars, var_eq, with_all_new, with_new, without_repeats}
use Rattle.cyp_term.specs.declared.lit.Lit.{Lit}
use Rattle.cyp_term.specs.declared.term.Var.{Var}

-- the second list is the first with more at its end
abbrev Longer : List Var → List Var → Type 0
Longer xs ys = (zs : List Var) × (ys ≡ xs ++ zs)

longer_twice : (xs ys us : List Var) → Longer xs ys → Longer ys us → Longer xs us
longer_twice xs ys us a b = (a.0 ++ b.0, b.1 ∙ ap (λ zs. zs ++ b.0) a.1 ∙ append_assoc xs a.0 b.0)

longer_self : (xs : List Var) → Longer xs xs
longer_self xs = ([], sym (append-nil xs))

longer_cond : (b : Bool) (xs ys : List Var) → Longer xs ys → Longer xs (cond b ys xs)
longer_cond true xs ys h = h
longer_cond false xs ys h = longer_self xs

longer_new : (b : Bool) (xs : List Var) (y : Var) → Longer xs (cond b xs (xs ++ y ∷ []))
longer_new true xs y = longer_self xs
longer_new false xs y = (y ∷ [], refl)

longer_all : (xs ys : List Var) → Longer xs (with_all_new var_eq xs ys)
longer_all xs [] = longer_self xs
longer_all xs (y ∷ ys) =
    longer_twice xs (with_new var_eq xs y) (with_all_new var_eq (with_new var_eq xs y) ys) (longer_new (list_any (var_eq y) xs) xs y) (longer_all (with_new var_eq xs y) ys)

longer_spread : (ls : List Lit) (live : List Var) → Longer live (spread ls live)
longer_spread [] live = longer_self live
longer_spread (l ∷ ls) live =
    let next : List Var = cond (touches live l) (with_all_new var_eq live (lit_vars l)) live in
    longer_twice live next (spread ls next) (longer_cond (touches live l) live (with_all_new var_eq live (lit_vars l)) (longer_all live (lit_vars l))) (longer_spread ls next)

same_long : (xs ys : List Var) → Longer xs ys → length ys ≡ length xs → ys ≡ xs
same_long xs ys a e =
    let long : length (xs ++ a.0) ≡ length xs + length a.0 = length-append xs a.0 in
    let same : length ys ≡ length (xs ++ a.0) = ap length a.1 in
    let none : length a.0 ≡ 0 = omega arith in
    a.1 ∙ ap (λ zs. xs ++ zs) (nil_from_length a.0 none) ∙ append-nil xs

-- where nothing changes once it never does
still : (k : ℕ) (ls : List Lit) (live : List Var) → spread ls live ≡ live → spread_times k ls live ≡ live
still zero ls live e = refl
still (suc k) ls live e = ap (spread_times k ls) e ∙ still k ls live e

module _ (ls : List Lit) (live new r : List Var) (turns i : ℕ) (so_far : spread_times (turns - i) ls live ≡ r) (more : i < turns) (is : new ≡ spread ls live) where
  pub spread_on : spread_times (turns - (i + 1)) ls new ≡ r
  spread_on =
      let less : turns - i ≡ suc (turns - (i + 1)) = omega arith in
      ap (spread_times (turns - (i + 1)) ls) is ∙ sym (ap (λ k. spread_times k ls live) less) ∙ so_far

  pub spread_done : length new ≡ length live → new ≡ r
  spread_done e =
      let same : spread ls live ≡ live = same_long live (spread ls live) (longer_spread ls live) (sym (ap length is) ∙ e) in
      is ∙ same ∙ sym (still (turns - i) ls live same) ∙ so_far

-- ---- variables that are live at first
pub live_at_first : (start a b c d e : List Var) (ps : List Var) (us vs ws ts : List Var) → start ≡ [] → a ≡ with_all_new var_eq start (flat_map alone ps) → b ≡ with_all_new var_eq a us
    → c ≡ with_all_new var_eq b vs → d ≡ with_all_new var_eq c ws → e ≡ with_all_new var_eq d ts → e ≡ without_repeats var_eq (ps ++ us ++ vs ++ ws ++ ts)
live_at_first start a b c d e ps us vs ws ts none f g h k m =
    let first : a ≡ with_all_new var_eq [] ps = f ∙ (λ i. with_all_new var_eq (none i) (flat_alone ps i)) in
    let second : b ≡ with_all_new var_eq [] (ps ++ us) = added_two [] a b ps us first g in
    let third : c ≡ with_all_new var_eq [] (ps ++ us ++ vs) = added_two [] b c (ps ++ us) vs second h in
    let fourth : d ≡ with_all_new var_eq [] (ps ++ us ++ vs ++ ws) = added_two [] c d (ps ++ us ++ vs) ws third k in
    added_two [] d e (ps ++ us ++ vs ++ ws) ts fourth m

-- ---- variables of a node in order of first occurrence
pub node_in_parts : (start a b c d e f : List Var) (ps : List Var) (us vs ws ts ks : List Var) → start ≡ [] → a ≡ with_all_new var_eq start (flat_map alone ps) → b ≡ with_all_new var_eq a us
    → c ≡ with_all_new var_eq b vs → d ≡ with_all_new var_eq c ws → e ≡ with_all_new var_eq d ts → f ≡ with_all_new var_eq e ks → f ≡ without_repeats var_eq (ps ++ us ++ vs ++ ws ++ ts ++ ks)
node_in_parts start a b c d e f ps us vs ws ts ks none h i j k l m =
    added_two [] e f (ps ++ us ++ vs ++ ws ++ ts) ks (live_at_first start a b c d e ps us vs ws ts none h i j k l) m
