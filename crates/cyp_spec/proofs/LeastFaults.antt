-- The least fault of two lists is the earlier one of their least faults.
use Rattle.std.proofs.Common.{◌≡◌, ◌∙◌, [], ◌∷◌, ◌++◌, List, Option, Some, None, Bool, true, false, cond, ◌||◌, ◌&&◌, ◌==◌, ◌+◌, ◌*◌, ◌<◌, ◌≤◌, ℕ, drop, flat_map, length, refl, ap, sym, subst, inl, inr, arith}
use Rattle.std.specs.Prelude.{nat_lt}
use Rattle.std.proofs.lemmas.Bool.{eqb-true, lt-ltb, ltb-true}
use Rattle.std.proofs.lemmas.List.{drop_all}
use Rattle.std.proofs.lemmas.Option.{none-some, same_Some}
use Rattle.cyp_lex.specs.FaultNumber.{fault_number}
use Rattle.cyp_lex.specs.declared.fault.Fault.{Fault}
use Rattle.cyp_lex.specs.declared.fault.FaultKind.{FaultKind}
use Rattle.cyp_lex.specs.declared.fault.FaultKind.TheVariants.{BadByte, DuplicateName, Expected, GuardsOverlap, MissingProcedure, NotDifference, NumberRange, ReservedName, TooLarge, TooLong, UnboundVariable, UnknownPredicate, Unproductive, WrongArity, WrongSort}
use Rattle.cyp_names.proofs.LesserFaults.{least_fault-append, lesser_of-none}
use Rattle.cyp_names.specs.LeastFaults.{lesser_of}
use Rattle.cyp_term.proofs.Lists.{Among}
use Rattle.cyp_names.specs.FaultOrder.{is_before, least_fault, lesser}

-- ---- the order as one of numbers

number_small : (k : FaultKind) → fault_number k < 16
number_small BadByte = omega arith
number_small Expected = omega arith
number_small NumberRange = omega arith
number_small DuplicateName = omega arith
number_small ReservedName = omega arith
number_small UnknownPredicate = omega arith
number_small WrongArity = omega arith
number_small WrongSort = omega arith
number_small NotDifference = omega arith
number_small UnboundVariable = omega arith
number_small GuardsOverlap = omega arith
number_small Unproductive = omega arith
number_small TooLarge = omega arith
number_small MissingProcedure = omega arith
number_small TooLong = omega arith

module _ (p m q n : ℕ) (small : m < 16) (few : n < 16) where
  above : (s t u : Bool) → nat_lt p q ≡ s → (p == q) ≡ t → nat_lt m n ≡ u → (s || (t && u)) ≡ true → 16 * p + m < 16 * q + n
  above true t u e f g h = let l : p < q = ltb-true p q e in omega (arith, l, small)
  above false true true e f g h = let l : p ≡ q = eqb-true p q f in let k : m < n = ltb-true m n g in omega (arith, l, k)
  above false true false e f g h = absurd cc
  above false false u e f g h = absurd cc

abbrev code : Fault → ℕ
code f = 16 * f.place + fault_number f.kind

before_true : (a b : Fault) → is_before a b ≡ true → code a < code b
before_true a b = above a.place (fault_number a.kind) b.place (fault_number b.kind) (number_small a.kind) (number_small b.kind) _ _ _ refl refl refl

-- ---- faults that stand first

-- the least fault is one of the list
pub least_among : (fs : List Fault) (f : Fault) → least_fault fs ≡ Some f → Among f fs
least_among [] f e = absurd (none-some f e)
least_among (a ∷ fs) f e = by_rest (least_fault fs) (λ b h. least_among fs b h) (same_Some (lesser a (least_fault fs)) f e)
  where
    by_test : (b : Fault) (t : Bool) → Among b fs → cond t b a ≡ f → Among f (a ∷ fs)
    by_test b true m k = inr (subst (λ (g : Fault). Among g fs) k m)
    by_test b false m k = inl (sym k)

    by_rest : (o : Option Fault) → ((b : Fault) → o ≡ Some b → Among b fs) → lesser a o ≡ f → Among f (a ∷ fs)
    by_rest None h k = inl (sym k)
    by_rest (Some b) h k = by_test b (is_before b a) (h b refl) k

-- a fault before all others of a list
pub first_of_all : (f : Fault) (fs : List Fault) → ((g : Fault) → Among g fs → f.place < g.place) → lesser f (least_fault fs) ≡ f
first_of_all f fs h = by_rest (least_fault fs) refl
  where
    later : (g : Fault) → f.place < g.place → (t : Bool) → is_before g f ≡ t → cond t g f ≡ f
    later g l false e = refl
    later g l true e = let k : code g < code f = before_true g f e in absurd (omega (arith, k, l, number_small f.kind))

    by_rest : (o : Option Fault) → least_fault fs ≡ o → lesser f o ≡ f
    by_rest None e = refl
    by_rest (Some g) e = later g (h g (least_among fs g e)) (is_before g f) refl

-- a fault behind others that stand behind it
pub last_stands_first : (fs : List Fault) (f : Fault) → ((g : Fault) → Among g fs → f.place < g.place) → least_fault (fs ++ f ∷ []) ≡ Some f
last_stands_first fs f h = least_fault-append fs (f ∷ []) ∙ by_rest (least_fault fs) refl
  where
    by_rest : (o : Option Fault) → least_fault fs ≡ o → lesser_of o (Some f) ≡ Some f
    by_rest None e = refl
    by_rest (Some g) e =
        let before : is_before f g ≡ true = ap (λ (b : Bool). b || ((f.place == g.place) && nat_lt (fault_number f.kind) (fault_number g.kind))) (lt-ltb f.place g.place (h g (least_among fs g e))) in
        ap (λ (b : Bool). Some (cond b f g)) before

-- there are no faults where there is no least one
pub none_least : (fs : List Fault) → least_fault fs ≡ None → fs ≡ []
none_least [] e = refl
none_least (a ∷ fs) e = absurd (none-some (lesser a (least_fault fs)) (sym e))

-- where all of the first list stand before all of the second, and there is one, the second doesn't matter
pub least_first : (xs ys : List Fault) (f : Fault) → least_fault xs ≡ Some f → ((x y : Fault) → Among x xs → Among y ys → x.place < y.place) → least_fault (xs ++ ys) ≡ Some f
least_first xs ys f e h =
    least_fault-append xs ys ∙ ap (λ (o : Option Fault). lesser_of o (least_fault ys)) e ∙ ap Some (first_of_all f ys (λ g m. h f g (least_among xs f e) m))

-- ---- loops

-- at the end of a loop that takes the least fault of what each item brings, it is that of all
pub least_end : {V : Type 0} (f : V → List Fault) (vs : List V) (i : ℕ) (old whole : Option Fault) → length vs ≤ i → lesser_of old (least_fault (flat_map f (drop i vs))) ≡ whole → old ≡ whole
least_end f vs i old whole l h = sym (lesser_of-none old) ∙ ap (λ (us : List _). lesser_of old (least_fault (flat_map f us))) (sym (drop_all i vs l)) ∙ h
