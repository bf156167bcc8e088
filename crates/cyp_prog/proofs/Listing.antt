-- Lists with commas between their items, and blanks.
use Rattle.std.proofs.Common.{◌≡◌, ◌∙◌, ◌+◌, ◌-◌, ◌<◌, ℕ, zero, suc, List, [], ◌∷◌, ◌++◌, map, refl, sym, ap, arith, append_assoc, append-nil, add-one}
use Rattle.std.specs.Prelude.{codes}
use Rattle.cyp_prog.specs.PrintedLists.{arg_text, parameter_text}
use Rattle.cyp_prog.specs.ProgramText.{Bytes, blanks, expr_text, join_with_comma, params_text, var_text}
use Rattle.cyp_prog.specs.declared.stmt.Expr.{Expr}

-- so many parameters from a place on
abbrev pub parameters_from : ℕ → ℕ → Bytes
parameters_from i zero = []
parameters_from i (suc n) = parameter_text i ++ parameters_from (i + 1) n

pub join_with_comma-params : (k n : ℕ) → join_with_comma (params_text (suc k) (suc n)) ≡ var_text (suc k) ++ parameters_from (k + 1) n
join_with_comma-params k zero = sym (append-nil (var_text (suc k)))
join_with_comma-params k (suc n) =
    append_assoc (var_text (suc k)) (codes ", ") (join_with_comma (params_text (suc (suc k)) (suc n)))
    ∙ ap (λ t. var_text (suc k) ++ (codes ", " ++ t)) (join_with_comma-params (suc k) n)
    ∙ ap (λ j. var_text (suc k) ++ (parameter_text j ++ parameters_from (j + 1) n)) (sym (add-one k))

pub parameters_from-turn : (i n : ℕ) → i < n → parameters_from i (n - i) ≡ parameter_text i ++ parameters_from (i + 1) (n - (i + 1))
parameters_from-turn i n h = let e : n - i ≡ suc (n - (i + 1)) = omega arith in ap (parameters_from i) e

pub join-parameters : (n : ℕ) → join_with_comma (params_text 1 n) ≡ parameters_from 0 n
join-parameters zero = refl
join-parameters (suc n) = join_with_comma-params 0 n

-- these arguments from a place on
abbrev pub args_from : ℕ → List Expr → Bytes
args_from i [] = []
args_from i (e ∷ es) = arg_text i e ++ args_from (i + 1) es

pub join_with_comma-args : (k : ℕ) (e : Expr) (es : List Expr) → join_with_comma (map expr_text (e ∷ es)) ≡ expr_text e ++ args_from (k + 1) es
join_with_comma-args k e [] = sym (append-nil (expr_text e))
join_with_comma-args k e (f ∷ es) =
    append_assoc (expr_text e) (codes ", ") (join_with_comma (map expr_text (f ∷ es)))
    ∙ ap (λ t. expr_text e ++ (codes ", " ++ t)) (join_with_comma-args (suc k) f es)
    ∙ ap (λ t. expr_text e ++ t) (sym (append_assoc (codes ", ") (expr_text f) (args_from (suc k + 1) es)))
    ∙ ap (λ j. expr_text e ++ (arg_text j f ++ args_from (j + 1) es)) (sym (add-one k))

pub join-args : (es : List Expr) → join_with_comma (map expr_text es) ≡ args_from 0 es
join-args [] = refl
join-args (e ∷ es) = join_with_comma-args 0 e es

pub blanks-turn : (i n : ℕ) → i < n → blanks (n - i) ≡ codes "  " ++ blanks (n - (i + 1))
blanks-turn i n h = let e : n - i ≡ suc (n - (i + 1)) = omega arith in ap blanks e
