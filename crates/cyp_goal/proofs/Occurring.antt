-- Variables are added in several parts.
use Rattle.std.proofs.Common.{◌≡◌, ◌∙◌, ◌||◌, ◌&&◌, ◌==◌, [], ◌∷◌, ◌++◌, length-append, ℕ, ◌+◌, ◌<◌, Bool, List, length, drop, get_or, zero, suc, inl, inr, subst, IsTrue, arith, refl, sym, ap, ap₂}
use Rattle.std.specs.List.{All, flat_map, list_any}
use Rattle.std.proofs.lemmas.List.Folds.{list_any-append}
use Rattle.cyp_goal.proofs.Loops.{rest_step}
use Rattle.cyp_goal.proofs.Live.{among_in}
use Rattle.cyp_term.proofs.Equality.{Decides-var_eq}
use Rattle.cyp_term.proofs.Lists.{Among}
use Rattle.cyp_term.proofs.Repeats.{with_all_new_append, without_repeats_out}
use Rattle.cyp_term.specs.Terms.{set_vars, term_vars, var_eq, var_in, with_all_new, without_repeats}
use Rattle.cyp_term.specs.declared.lit.SetTerm.{SetTerm}
use Rattle.cyp_term.specs.declared.term.Term.{Term}
use Rattle.cyp_term.specs.declared.term.Var.{Var}

-- two parts
pub added_two : (old mid new xs ys : List Var) → mid ≡ with_all_new var_eq old xs → new ≡ with_all_new var_eq mid ys → new ≡ with_all_new var_eq old (xs ++ ys)
added_two old mid new xs ys e f = f ∙ ap (λ vs. with_all_new var_eq vs ys) e ∙ sym (with_all_new_append var_eq old xs ys)

pub met_two : (vs xs ys : List Var) (a b : Bool) → a ≡ list_any (λ v. var_in v vs) xs → b ≡ list_any (λ v. var_in v vs) ys → (a || b) ≡ list_any (λ v. var_in v vs) (xs ++ ys)
met_two vs xs ys a b e f = ap₂ (λ x y. x || y) e f ∙ sym (list_any-append (λ v. var_in v vs) xs ys)

-- one more item
pub added_item : {X : Type 0} (f : X → List Var) (xs : List X) (i : ℕ) (x : X) (old new r : List Var) → with_all_new var_eq old (flat_map f (drop i xs)) ≡ r → i < length xs → x ≡ get_or xs i x
    → new ≡ with_all_new var_eq old (f x) → with_all_new var_eq new (flat_map f (drop (i + 1) xs)) ≡ r
added_item f xs i x old new r h lt is e =
    rest_step (λ (s : List Var) ys. with_all_new var_eq s (flat_map f ys)) xs i r old new x h lt is
    (λ ys. with_all_new_append var_eq old (f x) (flat_map f ys) ∙ ap (λ vs. with_all_new var_eq vs (flat_map f ys)) (sym e))

-- each variable of a list is a list of one
abbrev pub alone : Var → List Var
alone v = v ∷ []

pub flat_alone : (vs : List Var) → flat_map alone vs ≡ vs
flat_alone [] = refl
flat_alone (v ∷ vs) = ap (λ ws. v ∷ ws) (flat_alone vs)

-- the variables of a set term are those of its union and those of its elements
pub set_parts_vars : (u : SetTerm) → flat_map alone u.vars ++ flat_map term_vars u.elems ≡ set_vars u
set_parts_vars u = ap (λ vs. vs ++ flat_map term_vars u.elems) (flat_alone u.vars)

pub set_met : (vs : List Var) (u : SetTerm) (ws : List Var) (ts : List Term) (a b : Bool) → ws ≡ u.vars → ts ≡ u.elems → a ≡ list_any (λ v. var_in v vs) (flat_map alone ws)
    → b ≡ list_any (λ v. var_in v vs) (flat_map term_vars ts) → (a || b) ≡ list_any (λ v. var_in v vs) (set_vars u)
set_met vs u ws ts a b d e f g =
    met_two vs (flat_map alone u.vars) (flat_map term_vars u.elems) a b (f ∙ ap (λ zs. list_any (λ v. var_in v vs) (flat_map alone zs)) d) (g ∙ ap (λ zs. list_any (λ v. var_in v vs) (flat_map term_vars zs)) e)
    ∙ ap (list_any (λ v. var_in v vs)) (set_parts_vars u)

-- ---- each of a list's elements is among them
pub among_at : {X : Type 0} (xs : List X) (k : ℕ) (d : X) → k < length xs → Among (get_or xs k d) xs
among_at [] k d lt = absurd (omega arith)
among_at (x ∷ xs) zero d lt = inl refl
among_at (x ∷ xs) (suc k) d lt = inr (among_at xs k d (omega arith))

-- each variable of a list without repeats is in the list
pub all_occur : (vs us : List Var) → vs ≡ without_repeats var_eq us → All (λ v. IsTrue (var_in v us)) vs
all_occur vs us e k d lt =
    among_in (get_or vs k d) us (without_repeats_out var_eq Decides-var_eq (get_or vs k d) us (subst (Among (get_or vs k d)) e (among_at vs k d lt)))

-- ---- where none occurs
none_of_two : (m n : ℕ) → ((m == 0) && (n == 0)) ≡ (m + n == 0)
none_of_two m n = grind arith

pub set_closed : (u : SetTerm) (ws : List Var) (ts : List Term) (a b : Bool) → ws ≡ u.vars → ts ≡ u.elems → a ≡ (length (flat_map alone ws) == 0) → b ≡ (length (flat_map term_vars ts) == 0)
    → (a && b) ≡ (length (set_vars u) == 0)
set_closed u ws ts a b d e f g =
    ap₂ (λ x y. x && y) (f ∙ ap (λ zs. length (flat_map alone zs) == 0) d) (g ∙ ap (λ zs. length (flat_map term_vars zs) == 0) e)
    ∙ none_of_two (length (flat_map alone u.vars)) (length (flat_map term_vars u.elems))
    ∙ ap (λ n. n == 0) (sym (length-append (flat_map alone u.vars) (flat_map term_vars u.elems)))
    ∙ ap (λ vs. length vs == 0) (set_parts_vars u)
