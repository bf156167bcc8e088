-- Tests that decide facts, joined.
use Rattle.std.proofs.Common.{◌↔◌, Bool, true, false, not, ◌||◌, Decides, refl}
use Rattle.std.specs.Bool.{beq}
use Rattle.std.proofs.lemmas.Bool.{false≢true}

pub Decides-no : {P : Type 0} → (P → ⊥) → Decides false P
Decides-no h = (λ e. absurd (false≢true e), λ p. absurd (h p))

pub Decides-yes : {P : Type 0} → P → Decides true P
Decides-yes p = (λ e. p, λ q. refl)

pub Decides-beq : {P Q : Type 0} (x y : Bool) → Decides x P → Decides y Q → Decides (beq x y) (P ↔ Q)
Decides-beq true true h k = Decides-yes (λ p. k.0 refl, λ q. h.0 refl)
Decides-beq false false h k = Decides-yes (λ p. absurd (false≢true (h.1 p)), λ q. absurd (false≢true (k.1 q)))
Decides-beq true false h k = Decides-no (λ e. false≢true (k.1 (e.0 (h.0 refl))))
Decides-beq false true h k = Decides-no (λ e. false≢true (h.1 (e.1 (k.0 refl))))

pub Decides-implies : {P Q : Type 0} (x y : Bool) → Decides x P → Decides y Q → Decides (not x || y) (P → Q)
Decides-implies true true h k = Decides-yes (λ p. k.0 refl)
Decides-implies true false h k = Decides-no (λ f. false≢true (k.1 (f (h.0 refl))))
Decides-implies false y h k = Decides-yes (λ p. absurd (false≢true (h.1 p)))

pub not_iff : {P Q : Type 0} → P ↔ Q → (¬ P) ↔ (¬ Q)
not_iff h = (λ k q. k (h.1 q), λ k p. k (h.0 p))
