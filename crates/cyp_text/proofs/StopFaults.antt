-- What the place where the reader stops tells of the fault.
use Rattle.std.proofs.Common.{Err, List, Ok, Result, [], ap, append-nil, append_assoc, arith, inl, inr, length, length-append, refl, subst, suc, sym, ℕ, ◌++◌, ◌<◌, ◌≤◌, ◌∙◌, ◌∷◌, ◌≡◌}
use Rattle.cyp_lex.specs.Beginnings.{Begins, Refused}
use Rattle.cyp_lex.specs.Lexemes.{Lexeme}
use Rattle.cyp_lex.specs.Readers.{IsNamed, Read, Stop, end_by, is_word, one_of, whole_of, ◌>>=◌}
use Rattle.cyp_lex.specs.declared.token.Word.TheVariants.{Predicate, Void}
use Rattle.cyp_lex.specs.Spelling.{IsEnd, Match}
use Rattle.cyp_lex.specs.declared.want.Want.{Want}
use Rattle.cyp_lex.specs.declared.want.Want.TheVariants.{AName, NoName}
use Rattle.cyp_lex.proofs.Readings.{Sound, Took, none}
use Rattle.cyp_lex.proofs.Stops.{IsReading, IsStop}
use Rattle.cyp_text.specs.Grammar.{text_spelling}
use Rattle.cyp_text.specs.GrammarFaults.{AllowsName, GrammarFault, IsKind, end_kind, name_at}
use Rattle.cyp_lex.specs.declared.fault.FaultKind.{FaultKind}
use Rattle.cyp_term.specs.declared.fail.Fail.{Fail}
use Rattle.cyp_term.specs.declared.fail.Fail.TheVariants.{Named}
use Rattle.cyp_text.proofs.StopsAt.{any_name, begins, no_name, refused_at, unfinished_at}
use Rattle.cyp_text.specs.Stopping.{GivesWhole, StopsSo, TellsName}
use Rattle.cyp_text.specs.TextReaders.{text_at}
use Rattle.cyp_text.specs.declared.whole_text.Stopped.{Stopped}
use Rattle.cyp_text.specs.declared.tree.TextTree.{TextTree}
use Rattle.cyp_text.proofs.Decided.{reading}
use Rattle.cyp_text.proofs.Fronts.{begins_less}
use Rattle.cyp_text.proofs.TextLaws.{text_reads}

-- ---- all of the lexemes

pub whole_stops : (ls : List Lexeme) (s : Stop) → text_at ls ≡ Err s → whole_of text_at ls ≡ Err s
whole_stops ls s e = rw e refl

pub whole_reads_on : (ls rest : List Lexeme) (t : TextTree) → text_at ls ≡ Ok (t, rest) → 0 < length rest → whole_of text_at ls ≡ Err (record { want = NoName; left = length rest })
whole_reads_on ls [] t e l = absurd (omega (arith, l))
whole_reads_on ls (r ∷ rest) t e l = rw e refl

pub whole_ends : (ls rest : List Lexeme) (t : TextTree) → text_at ls ≡ Ok (t, rest) → length rest ≤ 0 → whole_of text_at ls ≡ Ok t
whole_ends ls [] t e l = rw e refl
whole_ends ls (r ∷ rest) t e l = absurd (omega (arith, l))

-- ---- where the reader stops

abbrev stop_of : Stopped → Stop
stop_of s = record { want = s.want; left = s.left }

pub stop_is : (ls : List Lexeme) (s : Stopped) → StopsSo ls s → IsStop TextTree text_spelling ls (stop_of s)
stop_is ls s e = subst (λ (r : Result TextTree Stop). IsReading text_spelling ls r) e (reading ls)

-- no more is left than there is
pub left_within : (ls : List Lexeme) (s : Stopped) → StopsSo ls s → s.left ≤ length ls
left_within ls s e =
    let i = stop_is ls s e in
    omega (arith, i.left, ap length i.parts, length-append i.before i.rest)

names_of : (before : List Lexeme) (w : Want) → (w ≡ AName → (i : Lexeme) → IsNamed i → Begins text_spelling (before ++ i ∷ [])) → (w ≡ NoName → (i : Lexeme) → IsNamed i → Begins text_spelling (before ++ i ∷ []) → ⊥)
    → TellsName w before
names_of before AName some bars = λ text place. some refl (name_at text place) (text, refl)
names_of before NoName some bars = λ all. bars refl (name_at [] 0) ([], refl) (all [] 0)

-- where the reader of lexemes that a text begins with stops at their end, it tells whether a name may follow
pub name_told : (front : List Lexeme) (s : Stopped) → Begins text_spelling front → StopsSo front s → TellsName s.want front
name_told front s b e = by i.rest i.parts i.refused
  where
    i : IsStop TextTree text_spelling front (stop_of s)
    i = stop_is front s e

    by : (rest : List Lexeme) → front ≡ i.before ++ rest → Refused text_spelling i.before rest → TellsName s.want front
    by [] p refused = subst (λ (ls : List Lexeme). TellsName s.want ls) (sym (p ∙ append-nil i.before)) (names_of i.before s.want i.names i.no_names)
    by (l ∷ more) p refused = absurd (refused (begins_less i.before l more (subst (λ (ls : List Lexeme). Begins text_spelling ls) p b)))

-- behind a whole text no name may stand
ended_by : (front : List Lexeme) (t : TextTree) (r : Read TextTree) → text_at front ≡ r → (r >>= λ x. end_by x.0 x.1) ≡ Ok t → AllowsName front → ⊥
ended_by front t (Ok (x, l ∷ us)) e w all = absurd cc
ended_by front t (Err s) e w all = absurd cc
ended_by front t (Ok (x, [])) e w all = never (took.only IsEnd (λ i u k. absurd cc) (name_at [] 0 ∷ b.1) (inr ([], refl)) b.0 there).1
  where
    took : Took TextTree text_spelling none front x []
    took = subst (λ (r : Read TextTree). Sound TextTree text_spelling (one_of (is_word Predicate) (is_word Void)) none front r) e ((text_reads (suc (length front))).sound front (omega arith))

    b : Begins text_spelling (front ++ name_at [] 0 ∷ [])
    b = all [] 0

    there : Match (text_spelling b.0) (took.front ++ (name_at [] 0 ∷ b.1))
    there =
        subst (λ (ls : List Lexeme). Match (text_spelling b.0) (ls ++ (name_at [] 0 ∷ b.1))) (took.parts ∙ append-nil took.front)
        (subst (λ (ls : List Lexeme). Match (text_spelling b.0) ls) (append_assoc front (name_at [] 0 ∷ []) b.1) b.2)

    never : IsEnd (name_at [] 0 ∷ b.1) → ⊥
    never k = cc

pub ended : (front : List Lexeme) (t : TextTree) → whole_of text_at front ≡ Ok t → AllowsName front → ⊥
ended front t w all = ended_by front t (text_at front) refl w all

-- ---- the fault

pub named_stop : (ls : List Lexeme) (e : Fail Stopped) (s : Stopped) → e ≡ Named s → GivesWhole ls (Err e) → StopsSo ls s
named_stop ls e s is h = subst (λ (x : Fail Stopped). GivesWhole ls (Err x)) is h

pub whole_is_spelled : (ls : List Lexeme) (t : TextTree) → whole_of text_at ls ≡ Ok t → Match (text_spelling t) ls
whole_is_spelled ls t e = (subst (λ (r : Result TextTree Stop). IsReading text_spelling ls r) e (reading ls)).0

module _ (ls before rest : List Lexeme) (s : Stopped) (e : StopsSo ls s) (parts : ls ≡ before ++ rest) (left : s.left ≡ length rest) where
  pub begins_before : Begins text_spelling before
  begins_before = begins ls (stop_of s) e before rest parts left

  pub names_before : TellsName s.want before
  names_before = by s.want refl
    where
      by : (w : Want) → s.want ≡ w → TellsName w before
      by AName i = any_name ls (stop_of s) e before rest parts left i
      by NoName i = no_name ls (stop_of s) e before rest parts left i

pub end_fault : (size : ℕ) (ls : List Lexeme) (s : Stopped) (k : FaultKind) → StopsSo ls s → s.left ≡ 0 → k ≡ end_kind ls → GrammarFault size ls (record { kind = k; place = size })
end_fault size ls s k e l is = inr (record { unfinished = unfinished_at ls (stop_of s) e l; kind = is; place = refl })

pub lexeme_fault : (size : ℕ) (ls before after : List Lexeme) (l : Lexeme) (s : Stopped) (k : FaultKind) → StopsSo ls s → ls ≡ before ++ l ∷ after → s.left ≡ length (l ∷ after) → IsKind before l.said k
    → GrammarFault size ls (record { kind = k; place = l.place })
lexeme_fault size ls before after l s k e p n is = inl (record {
  before = before;
  lexeme = l;
  after = after;
  parts = p;
  refused = refused_at ls (stop_of s) e before l after p n;
  kind = is;
  place = refl;
})
