-- Parameters with commas between them.
use Rattle.std.proofs.Common.{◌≡◌, ◌∙◌, ◌+◌, ◌-◌, ◌<◌, ℕ, zero, suc, [], ◌++◌, refl, sym, ap, arith, append_assoc, append-nil, add-one}
use Rattle.std.specs.Prelude.{codes}
use Rattle.cyp_prog.specs.ProgramText.{Bytes, join_with_comma, params_text, var_text}
use Rattle.cyp_print.specs.Lines.{parameter_text}

-- so many parameters from a place on
abbrev pub parameters_from : ℕ → ℕ → Bytes
parameters_from i zero = []
parameters_from i (suc n) = parameter_text i ++ parameters_from (i + 1) n

pub join_with_comma-params : (k n : ℕ) → join_with_comma (params_text (suc k) (suc n)) ≡ var_text (suc k) ++ parameters_from (k + 1) n
join_with_comma-params k zero = sym (append-nil (var_text (suc k)))
join_with_comma-params k (suc n) =
    append_assoc (var_text (suc k)) (codes ", ") (join_with_comma (params_text (suc (suc k)) (suc n)))
    ∙ ap (λ t. var_text (suc k) ++ (codes ", " ++ t)) (join_with_comma-params (suc k) n)
    ∙ ap (λ j. var_text (suc k) ++ (parameter_text j ++ parameters_from (j + 1) n)) (sym (add-one k))

pub parameters_from-turn : (i n : ℕ) → i < n → parameters_from i (n - i) ≡ parameter_text i ++ parameters_from (i + 1) (n - (i + 1))
parameters_from-turn i n h = let e : n - i ≡ suc (n - (i + 1)) = omega arith in ap (parameters_from i) e

pub join-parameters : (n : ℕ) → join_with_comma (params_text 1 n) ≡ parameters_from 0 n
join-parameters zero = refl
join-parameters (suc n) = join_with_comma-params 0 n
