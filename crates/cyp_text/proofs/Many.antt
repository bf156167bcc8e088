-- Lists of items are read as the readers of lists say.
use Rattle.std.proofs.Common.{Bool, Err, List, None, Ok, Option, Some, [], ap, append_assoc, append-nil, arith, false, length, refl, suc, sym, true, zero, ℕ, ◌++◌, ◌<◌, ◌∙◌, ◌∷◌, ◌≡◌}
use Rattle.cyp_lex.specs.Lexemes.{Lexeme, Said}
use Rattle.cyp_lex.specs.Readers.{Read, Stop, heads, single, token_or, ◌>>=◌}
use Rattle.cyp_lex.specs.declared.want.Want.{Want}
use Rattle.cyp_text.specs.ListReaders.{Consumes, cons_rest, many, many_in, more_by, with_front}

-- ---- one item and the others

step_by : {A : Type 0} (k l : List Lexeme → Read (List A)) (n : ℕ) (r : Read A) → ((x : A) (rest : List Lexeme) → r ≡ Ok (x, rest) → length rest < n) → ((rest : List Lexeme) → length rest < n → k rest ≡ l rest)
    → (r >>= λ x. k x.1 >>= cons_rest x.0) ≡ (r >>= λ x. l x.1 >>= cons_rest x.0)
step_by {A} k l n (Ok x) c h = ap (λ (r : Read (List A)). r >>= cons_rest x.0) (h x.1 (c x.0 x.1 refl))
step_by k l n (Err e) c h = refl

step_same : {A : Type 0} (k l : List Lexeme → Read (List A)) (p : List Lexeme → Read A) → Consumes p → (ls : List Lexeme) → ((rest : List Lexeme) → length rest < length ls → k rest ≡ l rest)
    → (b : Bool) → more_by k p ls b ≡ more_by l p ls b
step_same k l p c ls h false = refl
step_same k l p c ls h true = step_by k l (length ls) (p ls) (λ x rest e. c ls x rest e) h

-- a greater number does as well
many_same : {A : Type 0} (starts : Said → Bool) (p : List Lexeme → Read A) → Consumes p → (n m : ℕ) (ls : List Lexeme) → length ls < n → length ls < m → many_in n starts p ls ≡ many_in m starts p ls
many_same starts p c zero m ls a b = absurd (omega (arith, a))
many_same starts p c (suc n) zero ls a b = absurd (omega (arith, b))
many_same starts p c (suc n) (suc m) ls a b =
    step_same (many_in n starts p) (many_in m starts p) p c ls (λ rest short. many_same starts p c n m rest (omega (arith, short, a)) (omega (arith, short, b))) (heads starts ls)

pub many_is : {A : Type 0} (starts : Said → Bool) (p : List Lexeme → Read A) → Consumes p → (ls : List Lexeme) → many starts p ls ≡ more_by (many starts p) p ls (heads starts ls)
many_is starts p c ls =
    step_same (many_in (length ls) starts p) (many starts p) p c ls (λ rest short. many_same starts p c (length ls) (suc (length rest)) rest short (omega arith)) (heads starts ls)

-- ---- the loop

pub regroup : {A : Type 0} (xs : List A) (x : A) (r : Read (List A)) → with_front xs (r >>= cons_rest x) ≡ with_front (xs ++ x ∷ []) r
regroup {A} xs x (Ok y) = ap (λ (l : List A). done l y.1) (sym (append_assoc xs (x ∷ []) y.0))
  where
    done : List A → List Lexeme → Read (List A)
    done l rest = Ok (l, rest)
regroup xs x (Err e) = refl

-- what is left to read completes what was found
abbrev pub Continues : {A : Type 0} → (Said → Bool) → (List Lexeme → Read A) → List A → List Lexeme → Read (List A) → Type 0
Continues starts p found rest all = (n : ℕ) × (length rest < n) × (all ≡ with_front found (many_in n starts p rest))

front_none : {A : Type 0} (r : Read (List A)) → r ≡ with_front [] r
front_none (Ok y) = refl
front_none (Err e) = refl

pub loop_starts : {A : Type 0} (starts : Said → Bool) (p : List Lexeme → Read A) (ls : List Lexeme) → Continues starts p [] ls (many starts p ls)
loop_starts starts p ls = (suc (length ls), omega arith, front_none (many starts p ls))

step_read : {A : Type 0} (k : List Lexeme → Read (List A)) (p : List Lexeme → Read A) (found : List A) (ls : List Lexeme) (x : A) (rest : List Lexeme) (b : Bool)
    → b ≡ true → p ls ≡ Ok (x, rest) → with_front found (more_by k p ls b) ≡ with_front (found ++ x ∷ []) (k rest)
step_read k p found ls x rest true t e = rw e (regroup found x (k rest))
step_read k p found ls x rest false t e = absurd cc

pub loop_goes_on : {A : Type 0} (starts : Said → Bool) (p : List Lexeme → Read A) (found : List A) (ls : List Lexeme) (x : A) (rest : List Lexeme) (all : Read (List A))
    → heads starts ls ≡ true → p ls ≡ Ok (x, rest) → length rest < length ls → Continues starts p found ls all → Continues starts p (found ++ x ∷ []) rest all
loop_goes_on {A} starts p found ls x rest all t e short h = by h.0 h.1 h.2
  where
    by : (n : ℕ) → length ls < n → all ≡ with_front found (many_in n starts p ls) → Continues starts p (found ++ x ∷ []) rest all
    by zero l is = absurd (omega (arith, l))
    by (suc m) l is = (m, omega (arith, l, short), is ∙ step_read (many_in m starts p) p found ls x rest (heads starts ls) t e)

step_stops : {A : Type 0} (k : List Lexeme → Read (List A)) (p : List Lexeme → Read A) (found : List A) (ls : List Lexeme) (s : Stop) (b : Bool)
    → b ≡ true → p ls ≡ Err s → with_front found (more_by k p ls b) ≡ Err s
step_stops k p found ls s true t e = rw e refl
step_stops k p found ls s false t e = absurd cc

pub loop_stops : {A : Type 0} (starts : Said → Bool) (p : List Lexeme → Read A) (found : List A) (ls : List Lexeme) (s : Stop) (all : Read (List A))
    → heads starts ls ≡ true → Continues starts p found ls all → p ls ≡ Err s → all ≡ Err s
loop_stops {A} starts p found ls s all t h e = by h.0 h.1 h.2
  where
    by : (n : ℕ) → length ls < n → all ≡ with_front found (many_in n starts p ls) → all ≡ Err s
    by zero l is = absurd (omega (arith, l))
    by (suc m) l is = is ∙ step_stops (many_in m starts p) p found ls s (heads starts ls) t e

abbrev pub done : {A : Type 0} → List Lexeme → List A → Read (List A)
done rest l = Ok (l, rest)

step_ends : {A : Type 0} (k : List Lexeme → Read (List A)) (p : List Lexeme → Read A) (found : List A) (ls : List Lexeme) (b : Bool)
    → b ≡ false → with_front found (more_by k p ls b) ≡ done ls found
step_ends k p found ls true t = absurd cc
step_ends {A} k p found ls false t = ap (done ls) (append-nil found)

pub loop_ends : {A : Type 0} (starts : Said → Bool) (p : List Lexeme → Read A) (found : List A) (ls : List Lexeme) (all : Read (List A))
    → heads starts ls ≡ false → Continues starts p found ls all → all ≡ done ls found
loop_ends {A} starts p found ls all t h = by h.0 h.1 h.2
  where
    by : (n : ℕ) → length ls < n → all ≡ with_front found (many_in n starts p ls) → all ≡ done ls found
    by zero l is = absurd (omega (arith, l))
    by (suc m) l is = is ∙ step_ends (many_in m starts p) p found ls (heads starts ls) t

-- ---- what takes a lexeme

abbrev rest_of : {A : Type 0} → Read A → List Lexeme
rest_of (Ok x) = x.1
rest_of (Err e) = []

token_takes : {A : Type 0} (o : Option A) (w : Want) (t : Lexeme) (ts : List Lexeme) (x : A) (rest : List Lexeme) → token_or o w t ts ≡ Ok (x, rest) → length rest < length (t ∷ ts)
token_takes None w t ts x rest e = absurd cc
token_takes (Some a) w t ts x rest e =
    let same : ts ≡ rest = ap rest_of e in
    omega (arith, ap length same)

pub single_consumes : {A : Type 0} (tells : Lexeme → Option A) (w : Want) → Consumes (single tells w)
single_consumes tells w [] x rest e = absurd cc
single_consumes tells w (t ∷ ts) x rest e = token_takes (tells t) w t ts x rest e
