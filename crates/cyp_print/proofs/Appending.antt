-- What is written, with what is still to be written behind it.
use Rattle.std.proofs.Common.{◌≡◌, ◌∙◌, ◌++◌, List, sym, ap, append_assoc}

-- a part of the rest goes over
pub gone_over : {A : Type 0} (done more part rest later whole : List A) → more ≡ done ++ part → rest ≡ part ++ later → done ++ rest ≡ whole → more ++ later ≡ whole
gone_over done more part rest later whole e r h =
    ap (λ t. t ++ later) e ∙ append_assoc done part later ∙ ap (λ t. done ++ t) (sym r) ∙ h
