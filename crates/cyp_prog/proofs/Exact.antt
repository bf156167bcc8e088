-- What is read as it is spelled is told by its spelling.
use Rattle.std.proofs.Common.{◌≡◌, ◌∙◌, Err, List, Ok, [], ◌∷◌, arith, inl, length, refl, subst, suc, sym, Bool, ℕ}
use Rattle.cyp_lex.proofs.Readings.{Avoids, Bars, Reads, SameHead, Sound}
use Rattle.cyp_lex.specs.Lexemes.{Lexeme, Said}
use Rattle.cyp_lex.specs.Readers.{Read}
use Rattle.cyp_lex.specs.declared.want.Want.{Want}
use Rattle.cyp_lex.specs.declared.want.Want.TheVariants.{AName, NoName}
use Rattle.cyp_lex.specs.Spelling.{IsEnd, Mark, Then}

-- the rest of the lexemes is allowed by both
abbrev pub Both : (List Lexeme → Type 0) → (List Lexeme → Type 0) → Type 0
Both K L = (rest : List Lexeme) × K rest × L rest

-- lexemes that begin with a spelling tell which one it is, unless a lexeme follows that goes on
abbrev pub IsExact : {A : Type 0} → (Said → Bool) → (A → List Mark) → Type 1
IsExact {A} ends spell =
    (x y : A) (K L : List Lexeme → Type 0) → Avoids ends K → Avoids ends L → (ls : List Lexeme) → Then (spell x) K ls → Then (spell y) L ls → (x ≡ y) × Both K L

pub same_head : (ls : List Lexeme) → SameHead ls ls
same_head [] = tt
same_head (l ∷ ls) = refl

pub bars_self : (want : Want) (ls : List Lexeme) → Bars want ls ls
bars_self AName ls = same_head ls
bars_self NoName ls = inl (same_head ls)

pub reads_exact : {A : Type 0} {spell : A → List Mark} {starts ends : Said → Bool} {p : List Lexeme → Read A} → ((n : ℕ) → Reads n A spell starts ends p) → IsExact ends spell
reads_exact {A} {spell} {starts} {ends} {p} P x y K L a b ls h i = of (p ls) ((P (suc (length ls))).sound ls (omega arith))
  where
    of : (r : Read A) → Sound A spell starts ends ls r → (x ≡ y) × Both K L
    of (Ok z) t =
        let u = t.only K a z.1 (inl (same_head z.1)) x (subst (λ (w : List Lexeme). Then (spell x) K w) t.parts h) in
        let v = t.only L b z.1 (inl (same_head z.1)) y (subst (λ (w : List Lexeme). Then (spell y) L w) t.parts i) in
        (u.0 ∙ sym v.0, (z.1, u.1, v.1))
    of (Err e) t = absurd (t.none K a t.rest (bars_self e.want t.rest) x (subst (λ (w : List Lexeme). Then (spell x) K w) t.parts h))

pub end_avoids : (ends : Said → Bool) → Avoids ends IsEnd
end_avoids ends l ls k = absurd cc
