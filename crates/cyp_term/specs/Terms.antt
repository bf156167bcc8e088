-- Terms, set terms, literals and substitutions as they are written.
use Rattle.std.specs.Prelude.{[], ◌&&◌, ◌++◌, ◌+ℤ◌, ◌==◌, Bool, List, None, Option, Some, cond, false, flat_map, map, nat_abs, nat_le, not, pos, true, ◌||◌, ℤ, ◌∷◌}
use Rattle.std.specs.List.{list_any}
use Rattle.std.specs.Ordering.{int_eq}
use Rattle.cyp_term.specs.declared.lit.Lit.{Lit}
use Rattle.cyp_term.specs.declared.lit.Lit.TheVariants.{Eq, Le, Lt, Member, Ne, NotMember, NotSame, NotSub, Same, Sub}
use Rattle.cyp_term.specs.declared.lit.SetTerm.{SetTerm}
use Rattle.cyp_term.specs.declared.subst.IntBind.{IntBind}
use Rattle.cyp_term.specs.declared.subst.SetBind.{SetBind}
use Rattle.cyp_term.specs.declared.subst.Subst.{Subst}
use Rattle.cyp_term.specs.declared.term.Sort.{Sort}
use Rattle.cyp_term.specs.declared.term.Sort.TheVariants.{Card, Int, Set}
use Rattle.cyp_term.specs.declared.term.Term.{Term}
use Rattle.cyp_term.specs.declared.term.Var.{Var}

-- ---- equality of what is written

-- both are integers, both cardinalities or both sets
abbrev pub sort_eq : Sort → Sort → Bool
sort_eq Int Int = true
sort_eq Card Card = true
sort_eq Set Set = true
sort_eq _ _ = false

-- the variables have the same sort and the same number
abbrev pub var_eq : Var → Var → Bool
var_eq a b = sort_eq a.sort b.sort && (a.number == b.number)

-- both terms have no base, or both have the same variable as base
abbrev pub base_eq : Option Var → Option Var → Bool
base_eq None None = true
base_eq (Some a) (Some b) = var_eq a b
base_eq _ _ = false

-- the terms have the same base and the same offset
abbrev pub term_eq : Term → Term → Bool
term_eq a b = base_eq a.base b.base && int_eq a.offset b.offset

-- the lists have equal elements at equal places
abbrev pub lists_eq : {A : Type 0} → (A → A → Bool) → List A → List A → Bool
lists_eq eq [] [] = true
lists_eq eq (x ∷ xs) (y ∷ ys) = eq x y && lists_eq eq xs ys
lists_eq eq _ _ = false

-- the set terms have the same variables and the same elements, in the same order
abbrev pub set_eq : SetTerm → SetTerm → Bool
set_eq a b = lists_eq var_eq a.vars b.vars && lists_eq term_eq a.elems b.elems

-- the literals are of the same kind and have equal sides, left to left and right to right
abbrev pub lit_eq : Lit → Lit → Bool
lit_eq (Eq a b) (Eq c d) = term_eq a c && term_eq b d
lit_eq (Ne a b) (Ne c d) = term_eq a c && term_eq b d
lit_eq (Le a b) (Le c d) = term_eq a c && term_eq b d
lit_eq (Lt a b) (Lt c d) = term_eq a c && term_eq b d
lit_eq (Same a b) (Same c d) = set_eq a c && set_eq b d
lit_eq (NotSame a b) (NotSame c d) = set_eq a c && set_eq b d
lit_eq (Member a b) (Member c d) = term_eq a c && set_eq b d
lit_eq (NotMember a b) (NotMember c d) = term_eq a c && set_eq b d
lit_eq (Sub a b) (Sub c d) = set_eq a c && set_eq b d
lit_eq (NotSub a b) (NotSub c d) = set_eq a c && set_eq b d
lit_eq _ _ = false

-- ---- lists without repeats

-- the list with y at its end, unless it stands there
abbrev pub with_new : {A : Type 0} → (A → A → Bool) → List A → A → List A
with_new eq xs y = cond (list_any (eq y) xs) xs (xs ++ y ∷ [])

-- the list with each of the others at its end that doesn't stand there yet
abbrev pub with_all_new : {A : Type 0} → (A → A → Bool) → List A → List A → List A
with_all_new eq xs [] = xs
with_all_new eq xs (y ∷ ys) = with_all_new eq (with_new eq xs y) ys

-- the elements in order of first occurrence
abbrev pub without_repeats : {A : Type 0} → (A → A → Bool) → List A → List A
without_repeats eq xs = with_all_new eq [] xs

-- ---- short forms

-- the term that is the variable alone
abbrev pub var_term : Var → Term
var_term v = record { base = Some v; offset = pos 0 }

-- the term that is a constant
abbrev pub number_term : ℤ → Term
number_term n = record { base = None; offset = n }

-- the term plus a number
abbrev pub plus : Term → ℤ → Term
plus t n = record { base = t.base; offset = t.offset +ℤ n }

-- the set term that is the variable alone
abbrev pub set_var : Var → SetTerm
set_var v = record { vars = v ∷ []; elems = [] }

-- the base variable, if there is one, as a list
abbrev pub base_vars : Option Var → List Var
base_vars None = []
base_vars (Some v) = v ∷ []

-- the variables in the order in which they are written: of a set term its variables before its elements
abbrev pub term_vars : Term → List Var
term_vars t = base_vars t.base

-- the variables of a union, then those of its elements, with repeats
abbrev pub set_vars : SetTerm → List Var
set_vars u = u.vars ++ flat_map (λ t. term_vars t) u.elems

-- the variables of the left side, then those of the right side, with repeats
abbrev pub lit_vars : Lit → List Var
lit_vars (Eq a b) = term_vars a ++ term_vars b
lit_vars (Ne a b) = term_vars a ++ term_vars b
lit_vars (Le a b) = term_vars a ++ term_vars b
lit_vars (Lt a b) = term_vars a ++ term_vars b
lit_vars (Same a b) = set_vars a ++ set_vars b
lit_vars (NotSame a b) = set_vars a ++ set_vars b
lit_vars (Member a b) = term_vars a ++ set_vars b
lit_vars (NotMember a b) = term_vars a ++ set_vars b
lit_vars (Sub a b) = set_vars a ++ set_vars b
lit_vars (NotSub a b) = set_vars a ++ set_vars b

-- the variables of all the literals in their order, with repeats
abbrev pub lits_vars : List Lit → List Var
lits_vars ls = flat_map lit_vars ls

-- the element terms of a literal: those in braces and those left of `in`
abbrev pub lit_elements : Lit → List Term
lit_elements (Same a b) = a.elems ++ b.elems
lit_elements (NotSame a b) = a.elems ++ b.elems
lit_elements (Member t b) = t ∷ b.elems
lit_elements (NotMember t b) = t ∷ b.elems
lit_elements (Sub a b) = a.elems ++ b.elems
lit_elements (NotSub a b) = a.elems ++ b.elems
lit_elements _ = []

-- the variable stands for a set
abbrev pub is_set_var : Var → Bool
is_set_var v = sort_eq v.sort Set

-- the variable is one of these
abbrev pub var_in : Var → List Var → Bool
var_in v vs = list_any (var_eq v) vs

-- ---- negation

-- the literal that is true where this one is false; the negation of `a <= b` is `b < a`
abbrev pub negated : Lit → Lit
negated (Eq a b) = Ne a b
negated (Ne a b) = Eq a b
negated (Le a b) = Lt b a
negated (Lt a b) = Le b a
negated (Same a b) = NotSame a b
negated (NotSame a b) = Same a b
negated (Member a b) = NotMember a b
negated (NotMember a b) = Member a b
negated (Sub a b) = NotSub a b
negated (NotSub a b) = Sub a b

-- ---- substitution

-- the first image of the variable
abbrev pub int_image : List IntBind → Var → Option Term
int_image [] v = None
int_image (b ∷ bs) v = cond (var_eq b.var v) (Some b.to) (int_image bs v)

-- the first image of the set variable, and nothing where it is unbound
abbrev pub set_image : List SetBind → Var → Option SetTerm
set_image [] v = None
set_image (b ∷ bs) v = cond (var_eq b.var v) (Some b.to) (set_image bs v)

-- the term's image plus its offset; the term where its base is unbound
abbrev pub term_at : Term → Option Term → Term
term_at t None = t
term_at t (Some to) = plus to t.offset

-- the image of the term with this base; a term without a base is a constant and stays
abbrev pub term_base : Subst → Term → Option Var → Term
term_base by t None = t
term_base by t (Some v) = term_at t (int_image by.ints v)

-- the term with its base replaced by the base's image, and the offset added to that
abbrev pub apply_term : Subst → Term → Term
apply_term by t = term_base by t t.base

-- an unbound set variable is its own image
abbrev pub image_or_self : Var → Option SetTerm → SetTerm
image_or_self v None = set_var v
image_or_self v (Some u) = u

-- first what the images of the variables bring, then the images of the elements; each part once
abbrev pub apply_set : Subst → SetTerm → SetTerm
apply_set by u =
    let images : List SetTerm = map (λ v. image_or_self v (set_image by.sets v)) u.vars in
    record {
      vars = without_repeats var_eq (flat_map (λ (i : SetTerm). i.vars) images);
      elems = without_repeats term_eq (flat_map (λ (i : SetTerm). i.elems) images ++ map (apply_term by) u.elems);
    }

-- the literal with the substitution applied to both sides
abbrev pub apply_lit : Subst → Lit → Lit
apply_lit by (Eq a b) = Eq (apply_term by a) (apply_term by b)
apply_lit by (Ne a b) = Ne (apply_term by a) (apply_term by b)
apply_lit by (Le a b) = Le (apply_term by a) (apply_term by b)
apply_lit by (Lt a b) = Lt (apply_term by a) (apply_term by b)
apply_lit by (Same a b) = Same (apply_set by a) (apply_set by b)
apply_lit by (NotSame a b) = NotSame (apply_set by a) (apply_set by b)
apply_lit by (Member a b) = Member (apply_term by a) (apply_set by b)
apply_lit by (NotMember a b) = NotMember (apply_term by a) (apply_set by b)
apply_lit by (Sub a b) = Sub (apply_set by a) (apply_set by b)
apply_lit by (NotSub a b) = NotSub (apply_set by a) (apply_set by b)

-- the base where there is one, and else the variable
abbrev pub base_or : Var → Option Var → Var
base_or v None = v
base_or v (Some w) = w

-- the base of the image; the variable itself where it is unbound or the image is a constant
abbrev pub var_at : Var → Option Term → Var
var_at v None = v
var_at v (Some to) = base_or v to.base

-- the variable that stands for this one after the substitution
abbrev pub apply_var : Subst → Var → Var
apply_var by v = var_at v (int_image by.ints v)

-- ---- offsets past 2 ^ 32

-- the offset is more than 2 ^ 32 in size
abbrev pub wide_term : Term → Bool
wide_term t = not (nat_le (nat_abs t.offset) 4294967296)

-- some element has an offset of more than 2 ^ 32 in size
abbrev pub wide_set : SetTerm → Bool
wide_set u = list_any wide_term u.elems

-- an image of the substitution has an offset past 2 ^ 32
abbrev pub wide_subst : Subst → Bool
wide_subst by = list_any (λ (b : IntBind). wide_term b.to) by.ints || list_any (λ (b : SetBind). wide_set b.to) by.sets

-- some term of the literal has an offset of more than 2 ^ 32 in size
abbrev pub wide_lit : Lit → Bool
wide_lit (Eq a b) = wide_term a || wide_term b
wide_lit (Ne a b) = wide_term a || wide_term b
wide_lit (Le a b) = wide_term a || wide_term b
wide_lit (Lt a b) = wide_term a || wide_term b
wide_lit (Same a b) = wide_set a || wide_set b
wide_lit (NotSame a b) = wide_set a || wide_set b
wide_lit (Member a b) = wide_term a || wide_set b
wide_lit (NotMember a b) = wide_term a || wide_set b
wide_lit (Sub a b) = wide_set a || wide_set b
wide_lit (NotSub a b) = wide_set a || wide_set b
