-- A text has a reading, where the grammar tells for all lexemes whether they spell a tree and where they stop.
use Rattle.std.proofs.Common.{◌≡◌, ◌++◌, ◌∙◌, ◌⊎◌, Bool, Err, List, None, Ok, Option, Result, Some, [], ◌∷◌, ap, append-nil, append_assoc, arith, false, inl, inr, length, length-append, nat_le, refl, subst, sym, true, ℕ}
use Rattle.std.proofs.lemmas.Bool.{leb-false, leb-true}
use Rattle.cyp_lex.specs.Beginnings.{Begins, Refused}
use Rattle.cyp_lex.specs.Lexemes.{Lexeme, Reserved, Said}
use Rattle.cyp_lex.specs.Readers.{Stop}
use Rattle.cyp_lex.specs.Spelling.{Mark, Match}
use Rattle.cyp_lex.proofs.Stops.{IsReading}
use Rattle.cyp_lex.specs.Lexing.{program_tokens_of}
use Rattle.cyp_lex.specs.declared.fault.Fault.{Fault}
use Rattle.cyp_lex.specs.declared.token.Token.{Token}
use Rattle.cyp_lex.specs.declared.token.Word.TheVariants.{If}
use Rattle.cyp_prog.proofs.GrammarFaults.{Compared, begun, compare}
use Rattle.cyp_prog.specs.Faults.{Expected, ProgFault, TooLarge, least_fault}
use Rattle.cyp_prog.specs.Lexemes.{program_lexemes}
use Rattle.cyp_prog.specs.Nesting.{IsShallow, IsTooDeep, conditionals_round}
use Rattle.cyp_prog.specs.Passes as passes

-- ---- nesting is decided

-- the first lexeme that is nested too deep
pub record DeepAt (ls : List Lexeme) : Type 0 where
  pub before : List Lexeme
  pub at : Lexeme
  pub after : List Lexeme
  pub parts : ls ≡ before ++ at ∷ after
  pub shallow : IsShallow before
  pub deep : IsTooDeep before at

abbrev Decides : Type 0 → Type 0
Decides P = P ⊎ (P → ⊥)

is_if : (k : Said) → Decides (k ≡ Reserved If)
is_if (Reserved If) = inl refl
is_if k = inr (λ e. cc)

decide_by : (before : List Lexeme) (l : Lexeme) (b : Bool) → nat_le 128 (conditionals_round before) ≡ b → Decides (l.said ≡ Reserved If) → Decides (IsTooDeep before l)
decide_by before l true e (inl i) = inl (i, leb-true 128 (conditionals_round before) e)
decide_by before l false e (inl i) = inr (λ h. let less = leb-false 128 (conditionals_round before) e in omega (arith, h.1, less))
decide_by before l b e (inr not_so) = inr (λ h. not_so h.0)

deep_or_not : (before : List Lexeme) (l : Lexeme) → Decides (IsTooDeep before l)
deep_or_not before l = decide_by before l (nat_le 128 (conditionals_round before)) refl (is_if l.said)

no_deeper : (before b a : List Lexeme) (l k : Lexeme) → IsShallow before → (IsTooDeep before l → ⊥) → before ++ l ∷ [] ≡ b ++ k ∷ a → IsTooDeep b k → Compared before (l ∷ []) b (k ∷ a) → ⊥
no_deeper before b a l k s not_so e deep (inl same) =
    let heads : l ≡ k = cc (same.1) in
    not_so (subst (λ (x : Lexeme). IsTooDeep before x) (sym heads) (subst (λ (ls : List Lexeme). IsTooDeep ls k) (sym same.0) deep))
no_deeper before b a l k s not_so e deep (inr (inl on)) =
    omega (arith, length-append before (l ∷ []), length-append b (k ∷ a), length-append before (on.next ∷ on.more), ap (λ (ls : List Lexeme). length ls) e, ap (λ (ls : List Lexeme). length ls) on.is)
no_deeper before b a l k s not_so e deep (inr (inr on)) =
    let heads : k ≡ on.next = cc (on.begins) in
    s b on.more k (on.is ∙ ap (λ (x : Lexeme). b ++ x ∷ on.more) (sym heads)) deep

pub shallow_more : (before : List Lexeme) (l : Lexeme) → IsShallow before → (IsTooDeep before l → ⊥) → IsShallow (before ++ l ∷ [])
shallow_more before l s not_so b a k e deep = no_deeper before b a l k s not_so e deep (compare before (l ∷ []) b (k ∷ a) e)

-- behind the first lexeme, where it isn't too deep
shallow_by : (before rest : List Lexeme) (l : Lexeme) → IsShallow before → (IsShallow (before ++ l ∷ []) → IsShallow ((before ++ l ∷ []) ++ rest) ⊎ DeepAt ((before ++ l ∷ []) ++ rest)) → Decides (IsTooDeep before l)
    → IsShallow (before ++ l ∷ rest) ⊎ DeepAt (before ++ l ∷ rest)
shallow_by before rest l s more (inl deep) = inr (record { before = before; at = l; after = rest; parts = refl; shallow = s; deep = deep })
shallow_by before rest l s more (inr not_so) = subst (λ (ls : List Lexeme). IsShallow ls ⊎ DeepAt ls) (append_assoc before (l ∷ []) rest) (more (shallow_more before l s not_so))

shallow_from : (before rest : List Lexeme) → IsShallow before → IsShallow (before ++ rest) ⊎ DeepAt (before ++ rest)
shallow_from before [] s = inl (subst (λ (ls : List Lexeme). IsShallow ls) (sym (append-nil before)) s)
shallow_from before (l ∷ rest) s = shallow_by before rest l s (shallow_from (before ++ l ∷ []) rest) (deep_or_not before l)

pub none_shallow : IsShallow []
none_shallow [] after l e deep = cc
none_shallow (k ∷ before) after l e deep = cc

pub shallow_or_deep : (ls : List Lexeme) → IsShallow ls ⊎ DeepAt ls
shallow_or_deep ls = shallow_from [] ls none_shallow

-- ---- readings

-- the lexemes spell a tree, or they are refused behind a beginning
pub record Stopped (A : Type 0) (spell : A → List Mark) (ls : List Lexeme) : Type 0 where
  pub before : List Lexeme
  pub rest : List Lexeme
  pub parts : ls ≡ before ++ rest
  pub begins : Begins spell before
  pub refused : Refused spell before rest

abbrev pub Decision : (A : Type 0) → (A → List Mark) → List Lexeme → Type 0
Decision A spell ls = ((tree : A) × Match (spell tree) ls) ⊎ Stopped A spell ls

pub decided : {A : Type 0} (spell : A → List Mark) (ls : List Lexeme) (r : Result A Stop) → IsReading spell ls r → Decision A spell ls
decided spell ls (Ok t) h = inl (t, h.0)
decided spell ls (Err s) h = inr (record { before = h.before; rest = h.rest; parts = h.parts; begins = h.begins; refused = h.refused })

-- the text has a reading
abbrev pub IsRead : (A R : Type 0) → passes.Syntax A R → List ℕ → Type 0
IsRead A R x bytes = (result : Result R ProgFault) × passes.IsReading x bytes result

fault_too_deep : (A R : Type 0) (x : passes.Syntax A R) (bytes : List ℕ) (before rest : List Lexeme) → passes.Says bytes (before ++ rest) → Begins x.spelling before → DeepAt before → IsRead A R x bytes
fault_too_deep A R x bytes before rest says b d =
    let shown : before ++ rest ≡ d.before ++ (d.at ∷ (d.after ++ rest)) = ap (λ (ls : List Lexeme). ls ++ rest) d.parts ∙ append_assoc d.before (d.at ∷ d.after) rest in
    let there : Begins x.spelling ((d.before ++ d.at ∷ []) ++ d.after) = subst (λ (ls : List Lexeme). Begins x.spelling ls) (d.parts ∙ sym (append_assoc d.before (d.at ∷ []) d.after)) b in
    let at : Begins x.spelling (d.before ++ d.at ∷ []) = begun x.spelling (d.before ++ d.at ∷ []) d.after there in (
      Err (record { kind = TooLarge; place = d.at.place }),
      inr (inl (record {
        before = d.before;
        rest = d.at ∷ (d.after ++ rest);
        says = subst (λ (ls : List Lexeme). passes.Says bytes ls) shown says;
        begun = begun x.spelling d.before (d.at ∷ []) at;
        shallow = d.shallow;
        refused = (at, d.deep);
        place = refl;
      })),
    )

pub refused_is : {A : Type 0} (spell : A → List Mark) (before rest : List Lexeme) → Refused spell before rest → passes.IsRefused spell before rest Expected
refused_is spell before [] h = h
refused_is spell before (l ∷ ls) h = h

fault_expected : (A R : Type 0) (x : passes.Syntax A R) (bytes : List ℕ) (before rest : List Lexeme) → passes.Says bytes (before ++ rest) → Begins x.spelling before → Refused x.spelling before rest
    → IsShallow before ⊎ DeepAt before → IsRead A R x bytes
fault_expected A R x bytes before rest says b refused (inr d) = fault_too_deep A R x bytes before rest says b d
fault_expected A R x bytes before rest says b refused (inl s) = (
  Err (record { kind = Expected; place = passes.place_of_next (length bytes) rest }),
  inr (inl (record {
    before = before;
    rest = rest;
    says = says;
    begun = b;
    shallow = s;
    refused = refused_is x.spelling before rest refused;
    place = refl;
  })),
)

judged : (A R : Type 0) (x : passes.Syntax A R) (bytes : List ℕ) (t : A) → passes.HasTree A R x bytes t → (least : Option ProgFault) → least_fault (x.faults t) ≡ least → IsRead A R x bytes
judged A R x bytes t h None e = (Ok (x.said t), record { tree = t; parsed = h; faultless = e; said = refl })
judged A R x bytes t h (Some f) e = (Err f, inr (inr (record { tree = t; parsed = h; least = e })))

tree_read : (A R : Type 0) (x : passes.Syntax A R) (bytes : List ℕ) (ls : List Lexeme) (t : A) → passes.Says bytes ls → Match (x.spelling t) ls → IsShallow ls ⊎ DeepAt ls → IsRead A R x bytes
tree_read A R x bytes ls t says m (inl s) = judged A R x bytes t (record { lexemes = ls; says = says; spelled = m; shallow = s }) (least_fault (x.faults t)) refl
tree_read A R x bytes ls t says m (inr d) =
    let all : ls ≡ ls ++ [] = sym (append-nil ls) in
    fault_too_deep A R x bytes ls [] (subst (λ (l : List Lexeme). passes.Says bytes l) all says) (t, [], subst (λ (l : List Lexeme). Match (x.spelling t) l) all m) d

lexemes_read : (A R : Type 0) (x : passes.Syntax A R) (bytes : List ℕ) (ls : List Lexeme) → passes.Says bytes ls → Decision A x.spelling ls → IsRead A R x bytes
lexemes_read A R x bytes ls says (inl t) = tree_read A R x bytes ls t.0 says t.1 (shallow_or_deep ls)
lexemes_read A R x bytes ls says (inr h) =
    fault_expected A R x bytes h.before h.rest (subst (λ (l : List Lexeme). passes.Says bytes l) h.parts says) h.begins h.refused (shallow_or_deep h.before)

tokens_read : (A R : Type 0) (x : passes.Syntax A R) → ((ls : List Lexeme) → Decision A x.spelling ls) → (bytes : List ℕ) → (ts : Result (List Token) Fault) → program_tokens_of bytes ≡ ts → IsRead A R x bytes
tokens_read A R x decides bytes (Err f) e =
    (Err (record { kind = passes.token_kind f.kind; place = f.place }), inl (record { fault = f; lexed = e; kind = refl; place = refl }))
tokens_read A R x decides bytes (Ok ts) e =
    let ls : List Lexeme = program_lexemes bytes ts in
    lexemes_read A R x bytes ls (record { tokens = ts; lexed = e; said = refl }) (decides ls)

-- each text has a reading
pub has_reading : (A R : Type 0) (x : passes.Syntax A R) → ((ls : List Lexeme) → Decision A x.spelling ls) → (bytes : List ℕ) → IsRead A R x bytes
has_reading A R x decides bytes = tokens_read A R x decides bytes (program_tokens_of bytes) refl
