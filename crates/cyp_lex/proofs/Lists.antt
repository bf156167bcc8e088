-- Readers of single lexemes of one kind, and of lists with a separator between each two.
use Rattle.std.proofs.Common.{◌≡◌, ℕ, zero, suc, Bool, true, false, cond, List, [], ◌∷◌, Option, Some, None, refl, sym, ap, subst, length, arith}
use Rattle.cyp_lex.specs.Lexemes.{Lexeme, Name, Said}
use Rattle.cyp_lex.specs.Spelling.{Any, Mark, Match, Then, list_spelling, more_spelling}
use Rattle.cyp_lex.specs.Readers.{Read, cons_of, kind_tells, listed, listing, token}
use Rattle.cyp_lex.specs.declared.want.Want.TheVariants.{NoName}
use Rattle.cyp_lex.proofs.Spellings.{append_nil, then_split}
use Rattle.cyp_lex.proofs.Readings.{none, Apart, Reads, Within}
use Rattle.cyp_lex.proofs.Sequences.{both_reads, spell_both}
use Rattle.cyp_lex.proofs.Singles.{IsSingle, one, single_reads}
use Rattle.cyp_lex.proofs.Mapped.{mapped_reads}
use Rattle.cyp_lex.proofs.Options.{option_reads, spell_option}

abbrev pub kind_mark : Said → Unit {0} → Mark
kind_mark k u = Any k

abbrev pub made : Said → Lexeme
made k = record { said = k; place = 0 }

abbrev unit_if : Bool → Option (Unit {0})
unit_if b = cond b (Some tt) None

some_if : (b : Bool) (u : Unit {0}) → unit_if b ≡ Some u → b ≡ true
some_if true u e = refl
some_if false u e = absurd cc

none_if : (b : Bool) → b ≡ true → unit_if b ≡ None → ⊥
none_if true e h = cc
none_if false e h = cc

pub kind_single : (k : Said) (is : Said → Bool) → is k ≡ true → ((j : Said) → is j ≡ true → j ≡ k) → ((x : List ℕ) → is (Name x) ≡ false) → IsSingle (Unit {0}) (kind_tells is) (kind_mark k) is NoName
kind_single k is yes_k only name = record {
  fits = λ t a e. only t.said (some_if (is t.said) a e);
  only = λ t a e. rw (e, yes_k) refl;
  starts_true = λ t a e. some_if (is t.said) a e;
  starts_some = λ t st e. none_if (is t.said) st e;
  says = λ u a n e. cc (some_if (is u.said) a e, ap is n.1, name n.0);
  token = made k;
  value = tt;
  shows = rw yes_k refl;
}

pub token_reads : {k : Said} {is ends : Said → Bool} {n : ℕ} → is k ≡ true → ((j : Said) → is j ≡ true → j ≡ k) → ((x : List ℕ) → is (Name x) ≡ false) → Reads n (Unit {0}) (one (kind_mark k)) is ends (token is)
token_reads {k} {is} {ends} {n} yes_k only name = single_reads (kind_single k is yes_k only name)

-- one or more as a pair
abbrev pub listed_spelling : {A : Type 0} → Said → (A → List Mark) → A × List A → List Mark
listed_spelling separator spell x = list_spelling separator spell x.0 x.1

abbrev uncons : {A : Type 0} → A × List A → A × Option (Unit {0} × (A × List A))
uncons {A} x = from x.0 x.1
  where
    from : A → List A → A × Option (Unit {0} × (A × List A))
    from a [] = (a, None)
    from a (b ∷ bs) = (a, Some (tt, (b, bs)))

pub listed_reads : {A : Type 0} {sp : A → List Mark} {sA fA f : Said → Bool} {p : List Lexeme → Read A} {k : Said} {is : Said → Bool}
    → is k ≡ true → ((j : Said) → is j ≡ true → j ≡ k) → ((x : List ℕ) → is (Name x) ≡ false) → Apart is fA → Within fA f → Within is f → Apart sA is → (n : ℕ) → ((m : ℕ) → Reads m A sp sA fA p)
    → Reads n (A × List A) (listed_spelling k sp) sA f (listed n is (token is) p)
listed_reads {A} {sp} {sA} {fA} {f} {p} {k} {is} yes_k only name sep inA inS apart zero P = record {
  sound = λ ts short. absurd (omega arith);
  first = λ x K t w h. (P 0).first x.0 (Then (more_spelling k sp x.1) K) t w (split x K (t ∷ w) h);
  full = λ x K h. (P 0).full x.0 (Then (more_spelling k sp x.1) K) (split x K [] h);
  some = ((P 0).some, []);
  shown = (P 0).shown;
  is_some = subst (λ (m : List Mark). Match m (P 0).shown) (sym (append_nil (sp (P 0).some))) (P 0).is_some;
}
  where
    split : (x : A × List A) (K : List Lexeme → Type 0) (ts : List Lexeme) → Then (list_spelling k sp x.0 x.1) K ts → Then (sp x.0) (Then (more_spelling k sp x.1) K) ts
    split x K ts h = then_split (sp x.0) (more_spelling k sp x.1) K ts h
listed_reads {A} {sp} {sA} {fA} {f} {p} {k} {is} yes_k only name sep inA inS apart (suc n) P =
    mapped_reads cons_of uncons (λ x. there x.0 x.1) (λ x. again x.0 x.1) (λ x. same x.0 x.1)
    (option_reads (P (suc n)) (both_reads (token_reads {k = k} {is = is} {ends = none} yes_k only name) (listed_reads yes_k only name sep inA inS apart n P) (λ j e. refl)) sep inA (λ j e. e) inS name)
  where
    there : (a : A) (o : Option (Unit {0} × (A × List A))) → uncons (cons_of (a, o)) ≡ (a, o)
    there a None = refl
    there a (Some y) = refl

    again : (a : A) (xs : List A) → cons_of (uncons (a, xs)) ≡ (a, xs)
    again a [] = refl
    again a (b ∷ bs) = refl

    same : (a : A) (xs : List A) → list_spelling k sp a xs ≡ spell_option sp (spell_both (one (kind_mark k)) (listed_spelling k sp)) (uncons (a, xs))
    same a [] = refl
    same a (b ∷ bs) = refl

pub listing_reads : {A : Type 0} {sp : A → List Mark} {sA fA f : Said → Bool} {p : List Lexeme → Read A} {k : Said} {is : Said → Bool}
    → is k ≡ true → ((j : Said) → is j ≡ true → j ≡ k) → ((x : List ℕ) → is (Name x) ≡ false) → Apart is fA → Within fA f → Within is f → Apart sA is → ((m : ℕ) → Reads m A sp sA fA p) → (n : ℕ)
    → Reads n (A × List A) (listed_spelling k sp) sA f (listing is (token is) p)
listing_reads {A} {sp} {sA} {fA} {f} {p} {k} {is} is_so only name sep inA inS apart P n =
    let L = λ (m : ℕ). listed_reads {A = A} {sp = sp} {sA = sA} {fA = fA} {f = f} {p = p} {k = k} {is = is} is_so only name sep inA inS apart m P in
    record {
      sound = λ ts short. (L (suc (length ts))).sound ts (omega arith);
      first = (L 0).first;
      full = (L 0).full;
      some = (L 0).some;
      shown = (L 0).shown;
      is_some = (L 0).is_some;
    }
