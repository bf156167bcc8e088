-- Laws of the definitions of tokens.
use Rattle.std.proofs.Common.{◌≡◌, ℕ, zero, suc, ◌+◌, ◌-◌, ◌*◌, ◌≤◌, ◌<◌, false, true, List, [], ◌∷◌, ◌++◌, length, get_or, take, drop, length-drop, Result, Ok, Err, Some, None, refl, sym, ap, subst, ◌∙◌, arith, append_assoc, add-zero, drop-cons}
use Rattle.std.proofs.lemmas.List.{drop_all, drop-drop, take_all}
use Rattle.std.specs.Prelude.{codes}
use Rattle.std.specs.List.{prefix_len}
use Rattle.std.proofs.lemmas.Bool.Decides.{nat_tests}
use Rattle.cyp_lex.specs.declared.token.Sign.{Sign}
use Rattle.cyp_lex.specs.declared.token.TokenKind.{TokenKind}
use Rattle.cyp_lex.specs.declared.token.TokenKind.TheVariants as kinds
use Rattle.cyp_lex.specs.declared.fault.FaultKind.{FaultKind}
use Rattle.cyp_lex.specs.declared.lexer.Piece.TheVariants.{Blank, Begun, Bad}
use Rattle.cyp_lex.specs.declared.fault.Fault.{Fault}
use Rattle.cyp_lex.specs.Spelled.{sign_text}
use Rattle.cyp_lex.specs.declared.token.Token.{Token}
use Rattle.cyp_lex.specs.Lexing.{Lexicon, decimal_value, number_result, lexed, with_token, piece_at, sign_at, is_blank, begins_with, is_name_start, is_digit}

pub decimal_grows : (n : ℕ) (cs : List ℕ) → n ≤ decimal_value n cs
decimal_grows n [] = omega arith
decimal_grows n (c ∷ cs) = omega (arith, decimal_grows (10 * n + (c - 48)) cs)

-- what was begun is passed over
pub passes : (x : Lexicon) (k p : ℕ) (bs : List ℕ) → lexed x k p bs ≡ lexed x 0 (p + k) (drop k bs)
unfolding lexed
passes x zero p bs = ap (λ (q : ℕ). lexed x 0 q bs) (sym (add-zero p))
passes x (suc k) p [] = refl
passes x (suc k) p (b ∷ bs) = passes x k (suc p) bs ∙ ap (λ (q : ℕ). lexed x 0 q (drop k bs)) (omega arith)

-- the tokens so far, and what is still read
abbrev pub with_front : List Token → Result (List Token) Fault → Result (List Token) Fault
with_front front (Ok ts) = Ok (front ++ ts)
with_front front (Err f) = Err f

pub regroup : (front : List Token) (t : Token) (r : Result (List Token) Fault) → with_front front (with_token t r) ≡ with_front (front ++ t ∷ []) r
regroup front t (Ok ts) = ap (λ (xs : List Token). Ok xs) (simp append_assoc)
regroup front t (Err f) = refl

over : (greatest m : ℕ) → greatest < m → number_result greatest m ≡ None
over greatest m h = grind (arith, nat_tests)

pub too_great : (greatest : ℕ) (digits : List ℕ) (n i : ℕ) → i < length digits → greatest < 10 * n + (get_or digits i 0 - 48) → decimal_value 0 digits ≡ decimal_value n (drop i digits) → None ≡ number_result greatest (decimal_value 0 digits)
too_great greatest digits n i lt h e =
    let parts = drop-cons digits i 0 lt in
    let all : decimal_value 0 digits ≡ decimal_value (10 * n + (get_or digits i 0 - 48)) (drop (suc i) digits) = e ∙ ap (λ (xs : List ℕ). decimal_value n xs) parts in
    let grown = decimal_grows (10 * n + (get_or digits i 0 - 48)) (drop (suc i) digits) in
    let big : greatest < decimal_value 0 digits = omega (arith, all, grown, h) in
    sym (over greatest (decimal_value 0 digits) big)

pub sign_begins : (x : Lexicon) (b : ℕ) (bs text : List ℕ) (s : Sign) → text ≡ b ∷ bs → is_blank b ≡ false → begins_with text (codes "//") ≡ false → is_name_start b ≡ false → is_digit b ≡ false → sign_at x.signs text ≡ Some s → piece_at x b bs ≡ Begun (kinds.Sign s) (length (sign_text s) - 1)
unfolding piece_at
sign_begins x b bs text s is blank comment start digit sign =
    let comment' : begins_with (b ∷ bs) (codes "//") ≡ false = subst (λ (t : List ℕ). begins_with t (codes "//") ≡ false) is comment in
    let sign' : sign_at x.signs (b ∷ bs) ≡ Some s = subst (λ (t : List ℕ). sign_at x.signs t ≡ Some s) is sign in
    rw (blank, comment', start, digit, sign') refl

pub number_begins : (x : Lexicon) (b : ℕ) (bs text : List ℕ) (n more : ℕ) → text ≡ b ∷ bs → more ≡ prefix_len is_digit bs → is_blank b ≡ false → begins_with text (codes "//") ≡ false → is_name_start b ≡ false → is_digit b ≡ true
    → number_result x.greatest (decimal_value 0 (take (more + 1) text)) ≡ Some n → piece_at x b bs ≡ Begun (kinds.Number n) more
unfolding piece_at
number_begins x b bs text n more is len blank comment start digit number =
    let comment' : begins_with (b ∷ bs) (codes "//") ≡ false = subst (λ (t : List ℕ). begins_with t (codes "//") ≡ false) is comment in
    let one : more + 1 ≡ suc more = omega arith in
    let front : take (more + 1) text ≡ b ∷ take (prefix_len is_digit bs) bs =
    ap (λ (t : List ℕ). take (more + 1) t) is ∙ ap (λ (k : ℕ). take k (b ∷ bs)) one ∙ ap (λ (k : ℕ). b ∷ take k bs) len
    in
    let number' : number_result x.greatest (decimal_value 0 (b ∷ take (prefix_len is_digit bs) bs)) ≡ Some n = subst (λ (t : List ℕ). number_result x.greatest (decimal_value 0 t) ≡ Some n) front number in
    rw (blank, comment', start, digit, number') (ap (λ (k : ℕ). Begun (kinds.Number n) k) (sym len))

none_left : (x : Lexicon) (p : ℕ) → lexed x 0 p [] ≡ Ok []
unfolding lexed
none_left x p = refl

blank_at : (x : Lexicon) (p b k : ℕ) (bs : List ℕ) → piece_at x b bs ≡ Blank k → lexed x 0 p (b ∷ bs) ≡ lexed x k (suc p) bs
unfolding lexed
blank_at x p b k bs e = rw (e, lexed) refl

begun_at : (x : Lexicon) (p b k : ℕ) (bs : List ℕ) (kind : TokenKind) → piece_at x b bs ≡ Begun kind k → lexed x 0 p (b ∷ bs) ≡ with_token (record { kind = kind; start = p; end = p + suc k }) (lexed x k (suc p) bs)
unfolding lexed
begun_at x p b k bs kind e = rw (e, lexed) refl

bad_at : (x : Lexicon) (p b : ℕ) (bs : List ℕ) (kind : FaultKind) → piece_at x b bs ≡ Bad kind → lexed x 0 p (b ∷ bs) ≡ Err (record { kind = kind; place = p })
unfolding lexed
bad_at x p b bs kind e = rw (e, lexed) refl

-- what is left behind a piece
behind : (x : Lexicon) (text : List ℕ) (at next k : ℕ) → next ≡ at + suc k → lexed x k (suc at) (drop (suc at) text) ≡ lexed x 0 next (drop next text)
behind x text at next k e =
    let sums : suc at + k ≡ next = omega arith in
    passes x k (suc at) (drop (suc at) text) ∙ ap (λ (t : List ℕ). lexed x 0 (suc at + k) t) (drop-drop k (suc at) text) ∙ ap (λ (n : ℕ). lexed x 0 n (drop n text)) sums

pub blank_step : (x : Lexicon) (text : List ℕ) (at next k : ℕ) → at < length text → next ≡ at + suc k → piece_at x (get_or text at 0) (drop (suc at) text) ≡ Blank k → lexed x 0 at (drop at text) ≡ lexed x 0 next (drop next text)
blank_step x text at next k lt n e =
    ap (λ (t : List ℕ). lexed x 0 at t) (drop-cons text at 0 lt) ∙ blank_at x at (get_or text at 0) k (drop (suc at) text) e ∙ behind x text at next k n

pub begun_step : (x : Lexicon) (text : List ℕ) (at next k : ℕ) (kind : TokenKind) → at < length text → next ≡ at + suc k → piece_at x (get_or text at 0) (drop (suc at) text) ≡ Begun kind k → lexed x 0 at (drop at text) ≡ with_token (record { kind = kind; start = at; end = next }) (lexed x 0 next (drop next text))
begun_step x text at next k kind lt n e =
    let token : ℕ → Token = λ (m : ℕ). record { kind = kind; start = at; end = m } in
    ap (λ (t : List ℕ). lexed x 0 at t) (drop-cons text at 0 lt) ∙ begun_at x at (get_or text at 0) k (drop (suc at) text) kind e
    ∙ ap (λ (m : ℕ). with_token (token m) (lexed x k (suc at) (drop (suc at) text))) (sym n)
    ∙ ap (λ (r : Result (List Token) Fault). with_token (token next) r) (behind x text at next k n)

pub bad_step : (x : Lexicon) (text : List ℕ) (at : ℕ) (kind : FaultKind) → at < length text → piece_at x (get_or text at 0) (drop (suc at) text) ≡ Bad kind → lexed x 0 at (drop at text) ≡ Err (record { kind = kind; place = at })
bad_step x text at kind lt e = ap (λ (t : List ℕ). lexed x 0 at t) (drop-cons text at 0 lt) ∙ bad_at x at (get_or text at 0) (drop (suc at) text) kind e

pub at_end : (x : Lexicon) (text : List ℕ) (at : ℕ) → length text ≤ at → lexed x 0 at (drop at text) ≡ Ok []
at_end x text at h = ap (λ (t : List ℕ). lexed x 0 at t) (drop_all at text h) ∙ none_left x at

pub rest_is : (text : List ℕ) (at : ℕ) → drop (suc at) text ≡ take (length text - (at + 1)) (drop (at + 1) text)
rest_is text at =
    let sums : suc at ≡ at + 1 = omega arith in
    let short : length (drop (suc at) text) ≤ length text - (at + 1) = omega (arith, length-drop (suc at) text) in
    sym (take_all (length text - (at + 1)) (drop (suc at) text) short) ∙ ap (λ (n : ℕ). take (length text - (at + 1)) (drop n text)) sums
