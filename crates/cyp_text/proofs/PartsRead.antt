-- What the code that reads lists gives.
use Rattle.std.proofs.Common.{Bool, Err, List, Ok, Option, Result, Some, [], ap, append-nil, arith, false, length, refl, subst, suc, sym, true, zero, ℕ, ◌++◌, ◌<◌, ◌≤◌, ◌∙◌, ◌∷◌, ◌≡◌}
use Rattle.std.specs.Result.{IsErr, IsErrAnd}
use Rattle.cyp_lex.specs.Lexemes.{Lexeme, Said}
use Rattle.cyp_lex.specs.Readers.{Enclosed, Read, Stop, both, cons_of, enclosed, enclosed_list, heads, is_sign, listed, listing, option_by, sign_token, stop, ◌>>=◌}
use Rattle.cyp_lex.specs.declared.want.Want.{Want}
use Rattle.cyp_lex.specs.declared.want.Want.TheVariants.{NoName}
use Rattle.cyp_lex.specs.declared.token.Sign.{Sign}
use Rattle.cyp_lex.specs.declared.token.Sign.TheVariants.{Comma}
use Rattle.cyp_term.specs.declared.fail.Fail.{Fail}
use Rattle.cyp_term.specs.declared.fail.Fail.TheVariants.{Named, NoMemory}
use Rattle.cyp_text.specs.ListReaders.{GivesMore, Refuses, behind, cons_rest, more_parts_in, others_by, parts_list, whole_list, with_front}
use Rattle.cyp_text.specs.Parsing.{Gives}
use Rattle.cyp_text.proofs.ListsRead.{first_right, pair_of, to_right}
use Rattle.cyp_text.proofs.Many.{done, regroup}

-- a reader that gives what another does
pub gives_same : {A : Type 0} (p q : List Lexeme → Read A) (ls ms : List Lexeme) → p ls ≡ q ms → (r : Result A (Fail Want)) (rest : List Lexeme) → Gives q ms r rest → Gives p ls r rest
gives_same p q ls ms e (Ok x) rest g = e ∙ g
gives_same p q ls ms e (Err (Named w)) rest g = e ∙ g
gives_same p q ls ms e (Err NoMemory) rest g = tt

abbrev pub whole_end : {A : Type 0} → (A × List A) × List Lexeme → Read (List A)
whole_end z = Ok (whole_list z.0, z.1)

abbrev stopped : {B : Type 0} → List Lexeme → Read B
stopped ls = stop NoName ls

abbrev with_some : {A B : Type 0} → A → B × List Lexeme → Read (A × Option B)
with_some a y = Ok ((a, Some y.0), y.1)

abbrev listed_end : {A : Type 0} → (A × Option (Unit {0} × (A × List A))) × List Lexeme → Read (A × List A)
listed_end z = Ok (cons_of z.0, z.1)

-- the others behind a part that was read
abbrev rest_of : {A : Type 0} → ℕ → Sign → (List Lexeme → Read A) → A × List Lexeme → Read (A × List A)
rest_of n s p x = others_by n s p x.1 (heads (is_sign s) x.1) >>= pair_of x.0

last_items : {A : Type 0} (a : A) (u : Unit {0}) (x : A) (r : Read (List A))
    → ((((r >>= pair_of x) >>= pair_of u) >>= with_some a) >>= listed_end) ≡ ((r >>= cons_rest x) >>= pair_of a)
last_items a u x (Ok y) = refl
last_items a u x (Err e) = refl

next_item : {A : Type 0} (n : ℕ) (s : Sign) (p : List Lexeme → Read A) (a : A) (u : Unit {0}) (r : Read A)
    → ((((r >>= rest_of n s p) >>= pair_of u) >>= with_some a) >>= listed_end) ≡ ((r >>= λ x. others_by n s p x.1 (heads (is_sign s) x.1) >>= cons_rest x.0) >>= pair_of a)
next_item n s p a u (Ok x) = last_items a u x.0 (others_by n s p x.1 (heads (is_sign s) x.1))
next_item n s p a u (Err e) = refl

no_fuel : {A : Type 0} (a : A) (r : Read (Unit {0}))
    → (((r >>= λ u. stopped {B = A × List A} u.1 >>= pair_of u.0) >>= with_some a) >>= listed_end) ≡ ((r >>= λ u. stopped {B = List A} u.1) >>= pair_of a)
no_fuel a (Ok u) = refl
no_fuel a (Err e) = refl

behind_sign : {A : Type 0} (n : ℕ) (s : Sign) (p : List Lexeme → Read A) (l : List Lexeme → Read (A × List A)) → ((us : List Lexeme) → l us ≡ (p us >>= rest_of n s p)) → (a : A) (r : Read (Unit {0}))
    → (((r >>= λ u. l u.1 >>= pair_of u.0) >>= with_some a) >>= listed_end)
    ≡ (((r >>= λ u. p u.1) >>= λ x. others_by n s p x.1 (heads (is_sign s) x.1) >>= cons_rest x.0) >>= pair_of a)
behind_sign {A} n s p l h a (Ok u) =
    ap (λ (r : Read (A × List A)). ((r >>= pair_of u.0) >>= with_some a) >>= listed_end) (h u.1) ∙ next_item n s p a u.0 (p u.1)
behind_sign n s p l h a (Err e) = refl

option_is : {A : Type 0} (n : ℕ) (s : Sign) (p : List Lexeme → Read A) → ((us : List Lexeme) → listed (suc n) (is_sign s) (sign_token s) p us ≡ (p us >>= rest_of n s p)) → (a : A) (rest : List Lexeme) (b : Bool)
    → (option_by a rest (both (sign_token s) (listed (suc n) (is_sign s) (sign_token s) p)) b >>= listed_end) ≡ (others_by (suc n) s p rest b >>= pair_of a)
option_is n s p h a rest false = refl
option_is n s p h a rest true = behind_sign n s p (listed (suc n) (is_sign s) (sign_token s) p) h a (sign_token s rest)

option_none : {A : Type 0} (s : Sign) (p : List Lexeme → Read A) (a : A) (rest : List Lexeme) (b : Bool)
    → (option_by a rest (both (sign_token s) (listed zero (is_sign s) (sign_token s) p)) b >>= listed_end) ≡ (others_by zero s p rest b >>= pair_of a)
option_none s p a rest false = refl
option_none s p a rest true = no_fuel a (sign_token s rest)

-- a part, and what is behind it
first_is : {A : Type 0} (n : ℕ) (s : Sign) (p : List Lexeme → Read A) (l : List Lexeme → Read (A × List A))
    → ((a : A) (rest : List Lexeme) (b : Bool) → (option_by a rest (both (sign_token s) l) b >>= listed_end) ≡ (others_by n s p rest b >>= pair_of a))
    → (r : Read A) → ((r >>= λ x. option_by x.0 x.1 (both (sign_token s) l) (heads (is_sign s) x.1)) >>= listed_end) ≡ (r >>= rest_of n s p)
first_is n s p l h (Ok x) = h x.0 x.1 (heads (is_sign s) x.1)
first_is n s p l h (Err e) = refl

listed_is : {A : Type 0} (n : ℕ) (s : Sign) (p : List Lexeme → Read A) (ts : List Lexeme) → listed (suc n) (is_sign s) (sign_token s) p ts ≡ (p ts >>= rest_of n s p)
listed_is zero s p ts = first_is zero s p (listed zero (is_sign s) (sign_token s) p) (option_none s p) (p ts)
listed_is (suc n) s p ts = first_is (suc n) s p (listed (suc n) (is_sign s) (sign_token s) p) (option_is n s p (listed_is n s p)) (p ts)

-- ---- the loop

-- what is left to read completes what was found
abbrev pub GoesOn : {A : Type 0} → Sign → (List Lexeme → Read A) → List A → List Lexeme → Read (List A) → Type 0
GoesOn s p found rest all = (n : ℕ) × (length rest ≤ n) × (all ≡ more_parts_in n found s p rest)

step_read : {A : Type 0} (n : ℕ) (s : Sign) (p : List Lexeme → Read A) (found : List A) (ls : List Lexeme) (x : A) (rest : List Lexeme) (b : Bool)
    → b ≡ true → behind s p ls ≡ Ok (x, rest) → with_front found (others_by (suc n) s p ls b) ≡ more_parts_in n (found ++ x ∷ []) s p rest
step_read n s p found ls x rest true t e = rw e (regroup found x (others_by n s p rest (heads (is_sign s) rest)))
step_read n s p found ls x rest false t e = absurd cc

pub parts_go_on : {A : Type 0} (s : Sign) (p : List Lexeme → Read A) (found : List A) (ls : List Lexeme) (x : A) (rest : List Lexeme) (all : Read (List A))
    → heads (is_sign s) ls ≡ true → behind s p ls ≡ Ok (x, rest) → length rest < length ls → GoesOn s p found ls all → GoesOn s p (found ++ x ∷ []) rest all
parts_go_on {A} s p found ls x rest all t e short h = by h.0 h.1 h.2
  where
    by : (n : ℕ) → length ls ≤ n → all ≡ more_parts_in n found s p ls → GoesOn s p (found ++ x ∷ []) rest all
    by zero l is = absurd (omega (arith, l, short))
    by (suc m) l is = (m, omega (arith, l, short), is ∙ step_read m s p found ls x rest (heads (is_sign s) ls) t e)

step_stops : {A : Type 0} (n : ℕ) (s : Sign) (p : List Lexeme → Read A) (found : List A) (ls : List Lexeme) (e : Stop) (b : Bool)
    → b ≡ true → behind s p ls ≡ Err e → with_front found (others_by (suc n) s p ls b) ≡ Err e
step_stops n s p found ls e true t is = rw is refl
step_stops n s p found ls e false t is = absurd cc

not_empty : (s : Sign) (ls : List Lexeme) → heads (is_sign s) ls ≡ true → length ls ≤ 0 → ⊥
not_empty s [] t l = cc
not_empty s (x ∷ ls) t l = omega (arith, l)

pub parts_stop : {A : Type 0} (s : Sign) (p : List Lexeme → Read A) (found : List A) (ls : List Lexeme) (e : Stop) (all : Read (List A))
    → heads (is_sign s) ls ≡ true → GoesOn s p found ls all → behind s p ls ≡ Err e → all ≡ Err e
parts_stop {A} s p found ls e all t h is = by h.0 h.1 h.2
  where
    by : (n : ℕ) → length ls ≤ n → all ≡ more_parts_in n found s p ls → all ≡ Err e
    by zero l q = absurd (not_empty s ls t l)
    by (suc m) l q = q ∙ step_stops m s p found ls e (heads (is_sign s) ls) t is

step_ends : {A : Type 0} (n : ℕ) (s : Sign) (p : List Lexeme → Read A) (found : List A) (ls : List Lexeme) (b : Bool)
    → b ≡ false → with_front found (others_by n s p ls b) ≡ done ls found
step_ends n s p found ls true t = absurd cc
step_ends n s p found ls false t = ap (done ls) (append-nil found)

pub parts_end : {A : Type 0} (s : Sign) (p : List Lexeme → Read A) (found : List A) (ls : List Lexeme) (all : Read (List A))
    → heads (is_sign s) ls ≡ false → GoesOn s p found ls all → all ≡ done ls found
parts_end s p found ls all t h = h.2 ∙ step_ends h.0 s p found ls (heads (is_sign s) ls) t

-- ---- the first part, and then the others

front_end : {A : Type 0} (x : A) (r : Read (List A)) → ((r >>= pair_of x) >>= whole_end) ≡ with_front (x ∷ []) r
front_end x (Ok y) = refl
front_end x (Err e) = refl

first_front : {A : Type 0} (n : ℕ) (s : Sign) (p : List Lexeme → Read A) (x : A) (rest : List Lexeme) (r : Read A) → r ≡ Ok (x, rest)
    → ((r >>= rest_of n s p) >>= whole_end) ≡ more_parts_in n (x ∷ []) s p rest
first_front n s p x rest r e = rw e (front_end x (others_by n s p rest (heads (is_sign s) rest)))

pub first_and_others : {A : Type 0} (s : Sign) (p : List Lexeme → Read A) (ls : List Lexeme) (x : A) (rest : List Lexeme) (found : List A)
    → p ls ≡ Ok (x, rest) → length rest < length ls → found ≡ x ∷ [] → (r : Result (List A) (Fail Want)) (end : List Lexeme) → GivesMore found s p rest r end → Gives (parts_list s p) ls r end
first_and_others {A} s p ls x rest found e short f r end g =
    gives_same (parts_list s p) (more_parts_in (length ls) found s p) ls rest
    (ap (λ (w : Read (A × List A)). w >>= whole_end) (listed_is (length ls) s p ls)
    ∙ first_front (length ls) s p x rest (p ls) e
    ∙ ap (λ (l : List A). more_parts_in (length ls) l s p rest) (sym f)) r end (g (length ls) (omega (arith, short)))

front_nothing : {A : Type 0} (r : Read (List A)) → r ≡ with_front [] r
front_nothing (Ok y) = refl
front_nothing (Err e) = refl

-- where the first part is read, the list is it and the others
pub apart_is : {A : Type 0} (s : Sign) (p : List Lexeme → Read A) (ls : List Lexeme) (x : A) (rest : List Lexeme)
    → p ls ≡ Ok (x, rest) → listing (is_sign s) (sign_token s) p ls ≡ (more_parts_in (length ls) [] s p rest >>= pair_of x)
apart_is {A} s p ls x rest e =
    listed_is (length ls) s p ls
    ∙ rw e (ap (λ (r : Read (List A)). r >>= pair_of x) (front_nothing (others_by (length ls) s p rest (heads (is_sign s) rest))))

-- ---- what closes a list

-- the error that a `?` hands on
pub residual_is : {A E : Type 0} (r : Result A E) (e : E) → IsErr r × IsErrAnd r (λ x. x ≡ e) → r ≡ Err e
residual_is (Ok x) e h = let none = h.0 in absurd cc
residual_is {A} {E} (Err y) e h = ap (as_error {A = A}) h.1
  where
    as_error : {A E : Type 0} → E → Result A E
    as_error x = Err x

-- where a part stops, the whole does
pub stops_with : {A B : Type 0} (p : List Lexeme → Read A) (q : List Lexeme → Read B) (ls mid end : List Lexeme) (e : Fail Want) (r : Result A (Fail Want)) → r ≡ Err e
    → Gives q mid (Err e) end → ((s : Stop) → q mid ≡ Err s → p ls ≡ Err s) → Gives p ls r end
stops_with {A} p q ls mid end (Named w) r is g h = subst (λ (x : Result A (Fail Want)). Gives p ls x end) (sym is) (h (record { want = w; left = length end }) g)
stops_with {A} p q ls mid end NoMemory r is g h = subst (λ (x : Result A (Fail Want)). Gives p ls x end) (sym is) tt

abbrev pub enclosed_end : {A : Type 0} → Enclosed A × List Lexeme → Read (List A)
enclosed_end z = Ok (enclosed_list z.0, z.1)

abbrev before_close : {A B : Type 0} → A → B × List Lexeme → Read A
before_close x u = Ok (x, u.1)

-- the parts, and then what closes them
abbrev pub closed_parts : {A : Type 0} → Sign → Read (List A) → Read (List A)
closed_parts close r = r >>= λ x. sign_token close x.1 >>= before_close x.0

close_last : {A : Type 0} (x : A × List A) (r : Read (Unit {0})) → (((r >>= pair_of x) >>= to_right {A = Unit {0}}) >>= enclosed_end) ≡ (r >>= before_close (whole_list x))
close_last x (Ok u) = refl
close_last x (Err e) = refl

close_parts : {A : Type 0} (close : Sign) (r : Read (A × List A)) → (((r >>= λ x. sign_token close x.1 >>= pair_of x.0) >>= to_right {A = Unit {0}}) >>= enclosed_end) ≡ closed_parts close (r >>= whole_end)
close_parts close (Ok x) = close_last x.0 (sign_token close x.1)
close_parts close (Err e) = refl

pub listing_refuses : {A : Type 0} (want : Want) (starts is : Said → Bool) (sep : List Lexeme → Read (Unit {0})) (p : List Lexeme → Read A) → Refuses want starts p → Refuses want starts (listing is sep p)
listing_refuses want starts is sep p h ls e = rw (h ls e) refl

pub both_refuses : {A B : Type 0} (want : Want) (starts : Said → Bool) (p : List Lexeme → Read A) (q : List Lexeme → Read B) → Refuses want starts p → Refuses want starts (both p q)
both_refuses want starts p q h ls e = rw (h ls e) refl

pub enclosed_is : {A : Type 0} (want : Want) (close : Sign) (starts : Said → Bool) (p : List Lexeme → Read A) → Refuses want starts p → (ls : List Lexeme)
    → heads (is_sign close) ls ≡ false → enclosed want close starts p ls ≡ closed_parts close (parts_list Comma p ls)
enclosed_is {A} want close starts p h ls e =
    ap (λ (r : Read (Enclosed A)). r >>= enclosed_end)
    (first_right want (is_sign close) starts (sign_token close) (both (listing (is_sign Comma) (sign_token Comma) p) (sign_token close))
    (both_refuses want starts (listing (is_sign Comma) (sign_token Comma) p) (sign_token close) (listing_refuses want starts (is_sign Comma) (sign_token Comma) p h)) ls e)
    ∙ close_parts close (listing (is_sign Comma) (sign_token Comma) p ls)
