-- An assignment with other values of new integer variables.
use Rattle.std.proofs.Common.{◌≡◌, refl, sym, ap, ◌∙◌, ℕ, suc, ◌<◌, ◌≤◌, Bool, false, cond, List, [], ◌∷◌, ℤ, arith, subst}
use Rattle.std.proofs.lemmas.Bool.{cond-true, false_from_ne_true}
use Rattle.cyp_goal.proofs.EachVar.{Each, EachPart, each_part}
use Rattle.cyp_heap.specs.declared.goal.Node.{Node}
use Rattle.cyp_kernel.proofs.AgreeVars.{AgreeAt}
use Rattle.cyp_kernel.proofs.ForgetVars.{agree_self, agree_trans, among_from_in}
use Rattle.cyp_kernel.proofs.OldVars.{IsOld, old_vars}
use Rattle.cyp_kernel.specs.Correct.{AgreeBy}
use Rattle.cyp_step.specs.Changes.{next_of, new_int}
use Rattle.cyp_term.proofs.Equality.{Decides-var_eq}
use Rattle.cyp_term.specs.Meaning.{Assignment}
use Rattle.cyp_term.specs.Terms.{var_eq, var_in}
use Rattle.cyp_term.specs.declared.term.Sort.{Sort}
use Rattle.cyp_term.specs.declared.term.Sort.TheVariants.{Card, Int, Set}
use Rattle.cyp_term.specs.declared.term.Var.{Var}

-- the integer variable with this number
abbrev pub int_var : ℕ → Var
int_var k = record { sort = Int; number = k }

-- the assignment with this value of the variable
abbrev pub put_number : Assignment → Var → ℤ → Assignment
put_number s y z = record { number = λ v. cond (var_eq y v) z (s.number v); members = s.members }

-- the assignment with these values of the integer variables from k on
abbrev pub put_numbers : Assignment → ℕ → List ℤ → Assignment
put_numbers s k [] = s
put_numbers s k (z ∷ zs) = put_number (put_numbers s (suc k) zs) (int_var k) z

-- the integer variables from k on have these values
abbrev pub NumbersAre : Assignment → ℕ → List ℤ → Type 0
NumbersAre s k [] = Unit {0}
NumbersAre s k (z ∷ zs) = (s.number (int_var k) ≡ z) × NumbersAre s (suc k) zs

pub put_agree : (k : Sort) (s : Assignment) (y : Var) (z : ℤ) (v : Var) → var_eq y v ≡ false → AgreeBy k s (put_number s y z) v
put_agree Int s y z v e = sym (ap (λ (b : Bool). cond b z (s.number v)) e)
put_agree Card s y z v e = sym (ap (λ (b : Bool). cond b z (s.number v)) e)
put_agree Set s y z v e = λ x. refl

pub put_here : (s : Assignment) (y : Var) (z : ℤ) → (put_number s y z).number y ≡ z
put_here s y z = cond-true (var_eq y y) z (s.number y) ((Decides-var_eq y y).1 refl)

not_below : (m k : ℕ) → m < k → k ≤ m → ⊥
not_below m k h l = omega arith

same_number : (k m : ℕ) → int_var k ≡ int_var m → k ≡ m
same_number k m e = ap (λ (v : Var). v.number) e

other_number : (k m : ℕ) → k < m → var_eq (int_var k) (int_var m) ≡ false
other_number k m l = false_from_ne_true (var_eq (int_var k) (int_var m)) (λ e. apart k m l (same_number k m ((Decides-var_eq (int_var k) (int_var m)).0 e)))
  where
    apart : (k m : ℕ) → k < m → k ≡ m → ⊥
    apart k m l e = omega arith

-- an earlier variable put leaves the values
numbers_kept : (s : Assignment) (k m : ℕ) (z : ℤ) (zs : List ℤ) → k < m → NumbersAre s m zs → NumbersAre (put_number s (int_var k) z) m zs
numbers_kept s k m z [] l h = tt
numbers_kept s k m z (y ∷ zs) l h =
    (ap (λ (b : Bool). cond b z (s.number (int_var m))) (other_number k m l) ∙ h.0, numbers_kept s k (suc m) z zs (later k m l) h.1)
  where
    later : (k m : ℕ) → k < m → k < suc m
    later k m l = omega arith

pub numbers_are : (s : Assignment) (k : ℕ) (zs : List ℤ) → NumbersAre (put_numbers s k zs) k zs
numbers_are s k [] = tt
numbers_are s k (z ∷ zs) = (put_here (put_numbers s (suc k) zs) (int_var k) z, numbers_kept (put_numbers s (suc k) zs) k (suc k) z zs (next k) (numbers_are s (suc k) zs))
  where
    next : (k : ℕ) → k < suc k
    next k = omega arith

-- what is none of the variables from k on keeps its value
pub numbers_beside : (o : Sort) (s : Assignment) (k : ℕ) (zs : List ℤ) (v : Var) → ((m : ℕ) → k ≤ m → var_eq (int_var m) v ≡ false) → AgreeBy o s (put_numbers s k zs) v
numbers_beside o s k [] v e = agree_self o s v
numbers_beside o s k (z ∷ zs) v e =
    agree_trans o s (put_numbers s (suc k) zs) (put_numbers s k (z ∷ zs)) v (numbers_beside o s (suc k) zs v (λ m l. e m (less k m l)))
    (put_agree o (put_numbers s (suc k) zs) (int_var k) z v (e k (same k)))
  where
    less : (k m : ℕ) → suc k ≤ m → k ≤ m
    less k m l = omega arith

    same : (k : ℕ) → k ≤ k
    same k = omega arith

module _ (n : Node) where
  -- the number of the first new variable
  abbrev pub first_new : ℕ
  first_new = (next_of n).ints

  old_apart : (v : Var) → IsOld (next_of n) v → (m : ℕ) → first_new ≤ m → var_eq (int_var m) v ≡ false
  old_apart v h m l =
      false_from_ne_true (var_eq (int_var m) v) (λ e. not_below m first_new (subst (λ (w : Var). IsOld (next_of n) w) (sym ((Decides-var_eq (int_var m) v).0 e)) h) l)

  -- each old variable keeps its value
  pub put_kept : (o : Sort) (s : Assignment) (zs : List ℤ) (v : Var) → IsOld (next_of n) v → AgreeBy o s (put_numbers s first_new zs) v
  put_kept o s zs v h = numbers_beside o s first_new zs v (old_apart v h)

  -- and so does each variable of the node's parts
  pub put_new : (s : Assignment) (zs : List ℤ) → EachPart (AgreeAt s (put_numbers s first_new zs)) n
  put_new s zs = each_part (AgreeAt s (put_numbers s first_new zs)) n (λ v k. put_kept v.sort s zs v (old_vars n v k))

  -- the new variable isn't among variables that are there
  pub new_out : (vs : List Var) → Each (IsOld (next_of n)) vs → var_in (new_int n) vs ≡ false
  new_out vs e = false_from_ne_true (var_in (new_int n) vs) (λ h. same first_new (e (new_int n) (among_from_in (new_int n) vs h)))
    where
      same : (m : ℕ) → m < m → ⊥
      same m h = omega arith

  pub old_parts : EachPart (IsOld (next_of n)) n
  old_parts = each_part (IsOld (next_of n)) n (old_vars n)
