-- A reader of the front of the lexemes makes one of all of them.
use Rattle.std.proofs.Common.{◌≡◌, ℕ, suc, Bool, List, [], ◌∷◌, ◌++◌, Result, Ok, Err, inl, inr, refl, sym, ap, subst, ◌∙◌, append_assoc, length, arith}
use Rattle.cyp_lex.specs.Lexemes.{Lexeme, Said}
use Rattle.cyp_lex.specs.Spelling.{IsEnd, Mark, Match}
use Rattle.cyp_lex.specs.Readers.{Read, Stop, end_by, whole_of, ◌>>=◌}
use Rattle.cyp_lex.specs.declared.want.Want.{Want}
use Rattle.cyp_lex.specs.declared.want.Want.TheVariants.{AName, NoName}
use Rattle.cyp_lex.proofs.Spellings.{append_nil}
use Rattle.cyp_lex.proofs.Readings.{Avoids, Bars, May, Next, Reads, Sound, Stuck, Took}
use Rattle.cyp_lex.specs.Beginnings.{Begins, Refused}
use Rattle.cyp_lex.proofs.Stops.{IsReading, IsStop}

end_avoids : (f : Said → Bool) → Avoids f IsEnd
end_avoids f t w k = absurd cc

stays : {A : Type 0} (sp : A → List Mark) (y : A) (a : List Lexeme) (t : Lexeme) (w : List Lexeme) → Match (sp y) ((a ++ t ∷ []) ++ w) → Match (sp y) (a ++ (t ∷ w))
stays sp y a t w h = subst (λ (v : List Lexeme). Match (sp y) v) (append_assoc a (t ∷ []) w) h

took_end : {A : Type 0} (sp : A → List Mark) (f : Said → Bool) (ts : List Lexeme) (x : A) (rest : List Lexeme) → Took A sp f ts x rest → IsReading sp ts (end_by x rest)
took_end {A} sp f ts x [] h = (whole, λ y m. (h.only IsEnd (end_avoids f) [] (inl tt) y (subst (λ (v : List Lexeme). Match (sp y) v) h.parts m)).0)
  where
    whole : Match (sp x) ts
    whole = subst (λ (v : List Lexeme). Match (sp x) v) (sym (h.parts ∙ append_nil h.front)) h.matched
took_end {A} sp f ts x (t ∷ us) h = record {
  before = h.front;
  rest = t ∷ us;
  parts = h.parts;
  left = refl;
  begins = (x, [], subst (λ (v : List Lexeme). Match (sp x) v) (sym (append_nil h.front)) h.matched);
  refused = λ b. not_then t (inl refl) b;
  names = λ e. absurd cc;
  no_names = λ e i n b. not_then i (inr n) b;
}
  where
    not_then : (i : Lexeme) → Next (t ∷ us) (i ∷ []) → Begins sp (h.front ++ i ∷ []) → ⊥
    not_then i nx b = never i b.1 (h.only IsEnd (end_avoids f) (i ∷ b.1) (further nx) b.0 (stays sp b.0 h.front i b.1 b.2)).1
      where
        never : (i : Lexeme) (w : List Lexeme) → IsEnd (i ∷ w) → ⊥
        never i w e = cc

        further : Next (t ∷ us) (i ∷ []) → Next (t ∷ us) (i ∷ b.1)
        further (inl e) = inl e
        further (inr e) = inr e

-- what is barred there is refused
pub refused_at : {A : Type 0} (sp : A → List Mark) (want : Want) (before rest : List Lexeme) → ((w : List Lexeme) → Bars want rest w → (y : A) → Match (sp y) (before ++ w) → ⊥) → Refused sp before rest
refused_at sp want before [] no_more = λ y m. no_more [] (bars_end want) y (subst (λ (v : List Lexeme). Match (sp y) v) (sym (append_nil before)) m)
  where
    bars_end : (x : Want) → Bars x [] []
    bars_end AName = tt
    bars_end NoName = inl tt
refused_at sp want before (t ∷ us) no_more = λ b. no_more (t ∷ b.1) (bars_same want t us b.1) b.0 (stays sp b.0 before t b.1 b.2)
  where
    bars_same : (x : Want) (t : Lexeme) (us w : List Lexeme) → Bars x (t ∷ us) (t ∷ w)
    bars_same AName t us w = refl
    bars_same NoName t us w = inl refl

stuck_end : {A : Type 0} (sp : A → List Mark) (s f : Said → Bool) (ts : List Lexeme) (e : Stop) → Stuck A sp s f ts e → IsStop A sp ts e
stuck_end {A} sp s f ts e h = record {
  before = h.before;
  rest = h.rest;
  parts = h.parts;
  left = h.left;
  begins =
      let v = h.viable IsEnd [] refl [] tt in
      (v.1, v.0, v.2);
  refused = refused_at sp e.want h.before h.rest (λ w b y m. h.none IsEnd (end_avoids f) w b y m);
  names = λ w i n. named i (subst (λ (x : Want). May x (i ∷ [])) (sym w) (n, refl));
  no_names = λ w i n b. h.none IsEnd (end_avoids f) (i ∷ b.1) (subst (λ (x : Want). Bars x h.rest (i ∷ b.1)) (sym w) (inr n)) b.0 (stays sp b.0 h.before i b.1 b.2);
}
  where
    named : (i : Lexeme) → May e.want (i ∷ []) → Begins sp (h.before ++ i ∷ [])
    named i m =
        let v = h.viable IsEnd [] refl (i ∷ []) m in
        (v.1, v.0, subst (λ (x : List Lexeme). Match (sp v.1) x) (sym (append_assoc h.before (i ∷ []) v.0)) v.2)

any_end : {A : Type 0} (sp : A → List Mark) (s f : Said → Bool) (ts : List Lexeme) (r : Read A) → Sound A sp s f ts r → IsReading sp ts (r >>= λ x. end_by x.0 x.1)
any_end sp s f ts (Ok x) h = took_end sp f ts x.0 x.1 h
any_end sp s f ts (Err e) h = stuck_end sp s f ts e h

pub whole_reads : {A : Type 0} {sp : A → List Mark} {s f : Said → Bool} {p : List Lexeme → Read A} → ((n : ℕ) → Reads n A sp s f p) → (ts : List Lexeme) → IsReading sp ts (whole_of p ts)
whole_reads {A} {sp} {s} {f} {p} P ts = any_end sp s f ts (p ts) ((P (suc (length ts))).sound ts (omega arith))

abbrev ok_of : {A : Type 0} → A → Result A Stop
ok_of x = Ok x

-- what is spelled is read: the tree is the one that the lexemes spell
pub spelled_is_read : {A : Type 0} (sp : A → List Mark) (ts : List Lexeme) (r : Result A Stop) → IsReading sp ts r → (y : A) → Match (sp y) ts → r ≡ ok_of y
spelled_is_read {A} sp ts (Ok x) h y m = ap (λ (z : A). ok_of z) (sym (h.1 y m))
spelled_is_read sp ts (Err s) h y m = absurd (refuses h.rest h.parts h.refused)
  where
    refuses : (rest : List Lexeme) → ts ≡ h.before ++ rest → Refused sp h.before rest → ⊥
    refuses [] e no_more = no_more y (subst (λ (v : List Lexeme). Match (sp y) v) (e ∙ append_nil h.before) m)
    refuses (t ∷ us) e no_more = no_more (y, us, subst (λ (v : List Lexeme). Match (sp y) v) (e ∙ sym (append_assoc h.before (t ∷ []) us)) m)

-- what is read is spelled by one tree at most
pub spelled_once : {A : Type 0} (sp : A → List Mark) (ts : List Lexeme) (r : Result A Stop) → IsReading sp ts r → (y z : A) → Match (sp y) ts → Match (sp z) ts → y ≡ z
spelled_once {A} sp ts (Ok x) h y z m n = h.1 y m ∙ sym (h.1 z n)
spelled_once {A} sp ts (Err s) h y z m n = absurd (differ (spelled_is_read sp ts (Err s) h y m))
  where
    differ : Err s ≡ ok_of y → ⊥
    differ e = cc
