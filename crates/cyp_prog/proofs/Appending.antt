-- What is written, with what is still to be written behind it.
use Rattle.std.proofs.Common.{◌≡◌, ◌∙◌, ◌++◌, List, sym, ap, append_assoc}

-- a part of the rest goes over
pub gone_over : {A : Type 0} (done more part rest later whole : List A) → more ≡ done ++ part → rest ≡ part ++ later → done ++ rest ≡ whole → more ++ later ≡ whole
gone_over done more part rest later whole e r h =
    ap (λ t. t ++ later) e ∙ append_assoc done part later ∙ ap (λ t. done ++ t) (sym r) ∙ h

-- five parts one after the other
pub five_parts : {A : Type 0} (t t1 t2 t3 t4 t5 a b c d e : List A) → t1 ≡ t ++ a → t2 ≡ t1 ++ b → t3 ≡ t2 ++ c → t4 ≡ t3 ++ d → t5 ≡ t4 ++ e → t5 ≡ t ++ (a ++ b ++ c ++ d ++ e)
five_parts t t1 t2 t3 t4 t5 a b c d e h1 h2 h3 h4 h5 =
    h5
    ∙ ap (λ x. x ++ e) (h4 ∙ ap (λ x. x ++ d) (h3 ∙ ap (λ x. x ++ c) (h2 ∙ ap (λ x. x ++ b) h1)))
    ∙ ap (λ x. x ++ e) (ap (λ x. x ++ d) (ap (λ x. x ++ c) (append_assoc t a b) ∙ append_assoc t (a ++ b) c) ∙ append_assoc t (a ++ b ++ c) d)
    ∙ append_assoc t (a ++ b ++ c ++ d) e

-- what stands in a line before its name, the name, and what stands behind it up to the end
pub named_line : {A : Type 0} (t t1 t2 t3 t4 t5 b n o a z l : List A) → t1 ≡ t ++ b → t2 ≡ t1 ++ n → t3 ≡ t2 ++ o → t4 ≡ t3 ++ a → t5 ≡ t4 ++ (z ++ l) → t5 ≡ t ++ (b ++ (n ++ o ++ a ++ z) ++ l)
named_line t t1 t2 t3 t4 t5 b n o a z l h1 h2 h3 h4 h5 = five_parts t t1 t2 t3 t4 t5 b n o a (z ++ l) h1 h2 h3 h4 h5 ∙ ap (λ x. t ++ x) (simp append_assoc)
