-- A lexeme between two parts that tells where the second begins. It may be a name, so that nothing is said here of names where a reader stops.
use Rattle.std.proofs.Common.{◌≡◌, ℕ, suc, Bool, true, false, List, [], ◌∷◌, ◌++◌, ◌⊎◌, Result, Ok, Err, inl, inr, refl, sym, ap, subst, ◌∙◌, append_assoc, length, arith}
use Rattle.cyp_lex.specs.Beginnings.{Begins, Refused}
use Rattle.cyp_lex.specs.Lexemes.{Lexeme, Said}
use Rattle.cyp_lex.specs.Readers.{Read, Stop, whole_of}
use Rattle.cyp_lex.specs.declared.want.Want.TheVariants.{AName}
use Rattle.cyp_lex.specs.Spelling.{Any, IsEnd, Mark, Match, Then}
use Rattle.cyp_lex.proofs.Stops.{IsReading}
use Rattle.cyp_lex.proofs.Spellings.{head_is, then_join, then_put, then_split}
use Rattle.cyp_lex.proofs.Readings.{Next, Reads, SameHead, Sound, Stuck, Took}
use Rattle.cyp_lex.proofs.Lists.{made}
use Rattle.cyp_lex.proofs.Sequences.{pair_is}
use Rattle.cyp_lex.proofs.Wholes.{refused_at, whole_reads}

-- the lexemes go on as no tree's spelling does
pub record Refusal (A : Type 0) (spell : A → List Mark) (ts : List Lexeme) : Type 0 where
  pub before : List Lexeme
  pub rest : List Lexeme
  pub parts : ts ≡ before ++ rest
  pub begins : Begins spell before
  pub refused : Refused spell before rest

-- the one tree that the lexemes spell
pub record Spelled (A : Type 0) (spell : A → List Mark) (ts : List Lexeme) : Type 0 where
  pub tree : A
  pub matched : Match (spell tree) ts
  pub only : (y : A) → Match (spell y) ts → y ≡ tree

-- the lexemes spell one tree, or they are refused
abbrev pub Decision : (A : Type 0) → (A → List Mark) → List Lexeme → Type 0
Decision A spell ts = Spelled A spell ts ⊎ Refusal A spell ts

-- the first part, the lexeme, the second part
abbrev pub spell_between : {A B : Type 0} → Said → (A → List Mark) → (B → List Mark) → A × B → List Mark
spell_between k spA spB x = spA x.0 ++ (Any k ∷ spB x.1)

-- a test that knows this lexeme
pub record Knows (is : Said → Bool) (k : Said) : Type 0 where
  pub self : is k ≡ true
  pub only : (j : Said) → is j ≡ true → j ≡ k

-- behind a whole first part stands the lexeme, and then the second part
behind_first : {A B : Type 0} (spA : A → List Mark) (fA : Said → Bool) (spB : B → List Mark) (k : Said) → fA k ≡ false
    → (ts : List Lexeme) (x : A) (rest : List Lexeme) (h : Took A spA fA ts x rest) (w : List Lexeme) → Next rest w → (z : A × B) → Match (spell_between k spA spB z) (h.front ++ w)
    → (z.0 ≡ x) × Match (Any k ∷ spB z.1) w
behind_first {A} {B} spA fA spB k not_end ts x rest h w nx z m =
    h.only (Then (Any k ∷ spB z.1) IsEnd) (λ t us l. ap fA l.0 ∙ not_end) w nx z.0 (then_split (spA z.0) (Any k ∷ spB z.1) IsEnd (h.front ++ w) m)

between_stuck : {A B : Type 0} (spA : A → List Mark) (sA fA : Said → Bool) (spB : B → List Mark) (k : Said) → fA k ≡ false → (some : B) (shown : List Lexeme) → Match (spB some) shown
    → (ts : List Lexeme) (s : Stop) → Stuck A spA sA fA ts s → Refusal (A × B) (spell_between k spA spB) ts
between_stuck {A} {B} spA sA fA spB k not_end some shown is_some ts s h = record {
  before = h.before;
  rest = h.rest;
  parts = h.parts;
  begins =
      let v = h.viable (Match (Any k ∷ spB some)) (made k ∷ shown) (refl, is_some) [] tt in
      ((v.1, some), v.0, then_join (spA v.1) (Any k ∷ spB some) IsEnd (h.before ++ v.0) v.2);
  refused = refused_at (spell_between k spA spB) s.want h.before h.rest (λ w b z m.
      h.none (Match (Any k ∷ spB z.1)) (λ t us l. ap fA l.0 ∙ not_end) w b z.0 (then_split (spA z.0) (Any k ∷ spB z.1) IsEnd (h.before ++ w) m));
}

-- the first part is whole, and the lexeme isn't there
between_missing : {A B : Type 0} (spA : A → List Mark) (fA : Said → Bool) (spB : B → List Mark) (k : Said) → fA k ≡ false → (some : B) (shown : List Lexeme) → Match (spB some) shown
    → (ts : List Lexeme) (x : A) (rest : List Lexeme) → Took A spA fA ts x rest → ((l : Lexeme) (us : List Lexeme) → rest ≡ l ∷ us → l.said ≡ k → ⊥) → Refusal (A × B) (spell_between k spA spB) ts
between_missing {A} {B} spA fA spB k not_end some shown is_some ts x rest h missing = record {
  before = h.front;
  rest = rest;
  parts = h.parts;
  begins = ((x, some), made k ∷ shown, then_join (spA x) (Any k ∷ spB some) IsEnd (h.front ++ (made k ∷ shown)) (then_put (spA x) (Match (Any k ∷ spB some)) h.front (made k ∷ shown) h.matched (refl, is_some)));
  refused = refused_at (spell_between k spA spB) AName h.front rest (λ w b z m. absent rest missing w b z (behind_first spA fA spB k not_end ts x rest h w (inl b) z m).1);
}
  where
    absent : (rest : List Lexeme) → ((l : Lexeme) (us : List Lexeme) → rest ≡ l ∷ us → l.said ≡ k → ⊥) → (w : List Lexeme) → SameHead rest w → (z : A × B) → Match (Any k ∷ spB z.1) w → ⊥
    absent rest missing [] b z m = m
    absent [] missing (u ∷ w) b z m = b
    absent (l ∷ us) missing (u ∷ w) b z m = missing l us refl (ap (λ (v : Lexeme). v.said) b ∙ m.0)

-- the lexeme is there, and the second part is read behind it
between_found : {A B : Type 0} (spA : A → List Mark) (fA : Said → Bool) (spB : B → List Mark) (k : Said) → fA k ≡ false
    → (ts : List Lexeme) (x : A) (l : Lexeme) (us : List Lexeme) → Took A spA fA ts x (l ∷ us) → l.said ≡ k → (r : Result B Stop) → IsReading spB us r → Decision (A × B) (spell_between k spA spB) ts
between_found {A} {B} spA fA spB k not_end ts x l us h is (Ok y) g = inl (record {
  tree = (x, y);
  matched = subst (λ (v : List Lexeme). Match (spell_between k spA spB (x, y)) v) (sym h.parts)
      (then_join (spA x) (Any k ∷ spB y) IsEnd (h.front ++ (l ∷ us)) (then_put (spA x) (Match (Any k ∷ spB y)) h.front (l ∷ us) h.matched (is, g.0)));
  only = λ z m.
      let b = behind_first spA fA spB k not_end ts x (l ∷ us) h (l ∷ us) (inl refl) z (subst (λ (v : List Lexeme). Match (spell_between k spA spB z) v) h.parts m) in
      pair_is z x y b.0 (g.1 z.1 b.1.1);
})
between_found {A} {B} spA fA spB k not_end ts x l us h is (Err s) g = inr (record {
  before = h.front ++ (l ∷ g.before);
  rest = g.rest;
  parts = h.parts ∙ ap (λ (v : List Lexeme). h.front ++ (l ∷ v)) g.parts ∙ sym (append_assoc h.front (l ∷ g.before) g.rest);
  begins = (
    (x, g.begins.0),
    g.begins.1,
    subst (λ (v : List Lexeme). Match (spell_between k spA spB (x, g.begins.0)) v) (sym (append_assoc h.front (l ∷ g.before) g.begins.1))
        (then_join (spA x) (Any k ∷ spB g.begins.0) IsEnd (h.front ++ (l ∷ (g.before ++ g.begins.1)))
        (then_put (spA x) (Match (Any k ∷ spB g.begins.0)) h.front (l ∷ (g.before ++ g.begins.1)) h.matched (is, g.begins.2))),
  );
  refused = by g.rest g.refused;
})
  where
    second : (w : List Lexeme) (z : A × B) → Match (spell_between k spA spB z) (h.front ++ (l ∷ w)) → Match (spB z.1) w
    second w z m = (behind_first spA fA spB k not_end ts x (l ∷ us) h (l ∷ w) (inl refl) z m).1.1

    by : (rest : List Lexeme) → Refused spB g.before rest → Refused (spell_between k spA spB) (h.front ++ (l ∷ g.before)) rest
    by [] no_more = λ z m. no_more z.1 (second g.before z m)
    by (t ∷ more) no_more = λ b. no_more (
      b.0.1,
      b.1,
      second ((g.before ++ t ∷ []) ++ b.1) b.0 (subst (λ (v : List Lexeme). Match (spell_between k spA spB b.0) v)
          (ap (λ (v : List Lexeme). v ++ b.1) (append_assoc h.front (l ∷ g.before) (t ∷ [])) ∙ append_assoc h.front (l ∷ (g.before ++ t ∷ [])) b.1) b.2),
    )

pub between_decided : {A B : Type 0} {spA : A → List Mark} {sA fA : Said → Bool} {p : List Lexeme → Read A} {spB : B → List Mark} {sB fB : Said → Bool} {q : List Lexeme → Read B} (is : Said → Bool) (k : Said)
    → Knows is k → fA k ≡ false → ((n : ℕ) → Reads n A spA sA fA p) → ((n : ℕ) → Reads n B spB sB fB q) → (ts : List Lexeme) → Decision (A × B) (spell_between k spA spB) ts
between_decided {A} {B} {spA} {sA} {fA} {p} {spB} {sB} {fB} {q} is k K not_end P Q ts = by (p ts) ((P (suc (length ts))).sound ts (omega arith))
  where
    found : (x : A) (l : Lexeme) (us : List Lexeme) → Took A spA fA ts x (l ∷ us) → (b : Bool) → is l.said ≡ b → Decision (A × B) (spell_between k spA spB) ts
    found x l us h true e = between_found spA fA spB k not_end ts x l us h (K.only l.said e) (whole_of q us) (whole_reads Q us)
    found x l us h false e = inr (between_missing spA fA spB k not_end (Q 0).some (Q 0).shown (Q 0).is_some ts x (l ∷ us) h (λ m vs same s. other m vs same s))
      where
        other : (m : Lexeme) (vs : List Lexeme) → l ∷ us ≡ m ∷ vs → m.said ≡ k → ⊥
        other m vs same s = cc (K.self, e, ap is s, ap (λ (v : Lexeme). is v.said) (head_is l m us vs same))

    whole : (x : A) (rest : List Lexeme) → Took A spA fA ts x rest → Decision (A × B) (spell_between k spA spB) ts
    whole x [] h = inr (between_missing spA fA spB k not_end (Q 0).some (Q 0).shown (Q 0).is_some ts x [] h (λ m vs same s. nothing m vs same))
      where
        nothing : (m : Lexeme) (vs : List Lexeme) → [] ≡ m ∷ vs → ⊥
        nothing m vs same = cc
    whole x (l ∷ us) h = found x l us h (is l.said) refl

    by : (r : Read A) → Sound A spA sA fA ts r → Decision (A × B) (spell_between k spA spB) ts
    by (Ok x) h = whole x.0 x.1 h
    by (Err s) h = inr (between_stuck spA sA fA spB k not_end (Q 0).some (Q 0).shown (Q 0).is_some ts s h)
