-- What the stop of the reader tells of a text, for worked examples.
use Rattle.std.proofs.Common.{Err, List, Result, [], ap, append-nil, arith, length, length-append, refl, subst, sym, ℕ, ◌++◌, ◌∙◌, ◌∷◌, ◌≡◌}
use Rattle.cyp_lex.specs.Beginnings.{Begins, IsRefusedAt, IsUnfinished, Refused}
use Rattle.cyp_lex.specs.Lexemes.{Lexeme, Number}
use Rattle.cyp_lex.specs.Readers.{Stop, whole_of}
use Rattle.cyp_lex.specs.declared.want.Want.TheVariants.{AName, NoName}
use Rattle.cyp_lex.proofs.Stops.{IsReading, IsStop}
use Rattle.cyp_text.specs.Grammar.{text_spelling}
use Rattle.cyp_text.specs.GrammarFaults.{AllowsName, EndsInFirstNumber, name_at}
use Rattle.cyp_text.specs.TextReaders.{text_at}
use Rattle.cyp_text.specs.declared.tree.TextTree.{TextTree}
use Rattle.cyp_text.proofs.Decided.{reading}
use Rattle.cyp_text.proofs.Parted.{one_last}

-- two ways to part a list with equally long ends are the same
same_parts : (b c x y : List Lexeme) → b ++ x ≡ c ++ y → length x ≡ length y → (b ≡ c) × (x ≡ y)
same_parts [] [] x y e l = (refl, e)
same_parts [] (n ∷ c) x y e l =
    let lengths : length x ≡ length ((n ∷ c) ++ y) = ap length e in
    absurd (omega (arith, lengths, length-append (n ∷ c) y, l))
same_parts (n ∷ b) [] x y e l =
    let lengths : length ((n ∷ b) ++ x) ≡ length y = ap length e in
    absurd (omega (arith, lengths, length-append (n ∷ b) x, l))
same_parts (m ∷ b) (n ∷ c) x y e l =
    let heads : m ≡ n = cc in
    let rests : b ++ x ≡ c ++ y = cc in
    let more = same_parts b c x y rests l in
    (cc (heads, more.0), more.1)

module _ (ls : List Lexeme) (s : Stop) (stops : whole_of text_at ls ≡ Err s) (before rest : List Lexeme) (parts : ls ≡ before ++ rest) (left : s.left ≡ length rest) where
  stop : IsStop TextTree text_spelling ls s
  stop = subst (λ (r : Result TextTree Stop). IsReading text_spelling ls r) stops (reading ls)

  same : (stop.before ≡ before) × (stop.rest ≡ rest)
  same = same_parts stop.before before stop.rest rest (sym stop.parts ∙ parts) (sym stop.left ∙ left)

  pub begins : Begins text_spelling before
  begins = subst (λ (bs : List Lexeme). Begins text_spelling bs) same.0 stop.begins

  no_more : Refused text_spelling before rest
  no_more = subst (λ (bs : List Lexeme). Refused text_spelling bs rest) same.0 (subst (λ (rs : List Lexeme). Refused text_spelling stop.before rs) same.1 stop.refused)

  pub no_name : s.want ≡ NoName → AllowsName before → ⊥
  no_name w all = stop.no_names w (name_at [] 0) ([], refl) (subst (λ (bs : List Lexeme). Begins text_spelling (bs ++ name_at [] 0 ∷ [])) (sym same.0) (all [] 0))

  pub any_name : s.want ≡ AName → AllowsName before
  any_name w text place = subst (λ (bs : List Lexeme). Begins text_spelling (bs ++ name_at text place ∷ [])) same.0 (stop.names w (name_at text place) (text, refl))

-- the lexeme at which the reader stops is refused
pub refused_at : (ls : List Lexeme) (s : Stop) → whole_of text_at ls ≡ Err s → (before : List Lexeme) (l : Lexeme) (after : List Lexeme) → ls ≡ before ++ l ∷ after → s.left ≡ length (l ∷ after)
    → IsRefusedAt text_spelling before l
refused_at ls s e before l after p n = (begins ls s e before (l ∷ after) p n, no_more ls s e before (l ∷ after) p n)

-- where the reader stops at the end, the text is unfinished
pub unfinished_at : (ls : List Lexeme) (s : Stop) → whole_of text_at ls ≡ Err s → s.left ≡ 0 → IsUnfinished text_spelling ls
unfinished_at ls s e n = (begins ls s e ls [] (sym (append-nil ls)) n, no_more ls s e ls [] (sym (append-nil ls)) n)

-- ---- the last lexeme

pub first_number_at : (front : List Lexeme) (l : Lexeme) → EndsInFirstNumber (front ++ l ∷ []) → (n : ℕ) × (l.said ≡ Number n) × AllowsName front
first_number_at front l x =
    let same_ends : (x.front ≡ front) × (x.last ≡ l) = one_last x.front front x.last l (sym x.parts) in
    (x.number, ap (λ (k : Lexeme). k.said) (sym same_ends.1) ∙ x.says, subst (λ (bs : List Lexeme). AllowsName bs) same_ends.0 x.begins_term)
