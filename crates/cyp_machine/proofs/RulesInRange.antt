-- A program that keeps the rules of programs is in the ranges of the machine.
use Rattle.std.proofs.Common.{[], List, None, Option, Some, arith, length, refl, slice_get, subst, suc, true, zero, ℕ, ℤ, neg_ℤ, pos, ◌≤◌, ◌<◌, ◌∷◌, ◌≡◌}
use Rattle.std.proofs.lemmas.Bool.{and_from}
use Rattle.std.proofs.lemmas.Option.{slice_get_within}
use Rattle.std.specs.List.{list_all}
use Rattle.std.specs.Prelude.{◌&&◌, int_le, nat_le, nat_lt}
use Rattle.cyp_machine.specs.InRange.{body_in_range, expr_in_range, offset_in_range, program_in_range, statement_in_range, test_in_range}
use Rattle.cyp_prog.specs.Programs.{Body, Choosing, End, Failing, Giving, Invoking, Loading, Procedure, Statement, Storing, Taking, Then}
use Rattle.cyp_prog.specs.Rules.{BodyFits, HasParams, IsOffset, KeepsRules, NumbersFit, OffsetsFit, ProceduresFit, StatementFits, StatementNumbersFit, bound_after}
use Rattle.cyp_prog.specs.declared.stmt.Expr.{Expr}
use Rattle.cyp_prog.specs.declared.stmt.Test.{Test}
use Rattle.cyp_term.proofs.Numbers.{Decides-int_le}

offset_fits : (z : ℤ) → IsOffset z → offset_in_range z ≡ true
offset_fits z h =
    and_from (int_le (neg_ℤ (pos 4294967296)) z) (int_le z (pos 4294967296)) ((Decides-int_le (neg_ℤ (pos 4294967296)) z).1 h.0) ((Decides-int_le z (pos 4294967296)).1 h.1)

test_fits : (t : Test) → IsOffset t.left.offset → IsOffset t.right.offset → test_in_range t ≡ true
test_fits t l r = and_from (expr_in_range t.left) (expr_in_range t.right) (offset_fits t.left.offset l) (offset_fits t.right.offset r)

exprs_fit : (es : List Expr) → OffsetsFit es → list_all expr_in_range es ≡ true
exprs_fit [] h = refl
exprs_fit (e ∷ es) h = and_from (expr_in_range e) (list_all expr_in_range es) (offset_fits e.offset h.0) (exprs_fit es h.1)

at_most : (a b : ℕ) → a ≤ b → nat_le a b ≡ true
at_most a b h = grind arith

below : (a b : ℕ) → a < b → nat_lt a b ≡ true
below a b h = grind arith

-- ---- calls

few_params : (ps qs : List Procedure) (p : ℕ) (q : Procedure) → ProceduresFit ps qs → slice_get qs p ≡ Some q → q.params ≤ 65535
few_params ps [] p q f e = cc
few_params ps (r ∷ qs) zero q f e =
    let same : r ≡ q = cc in
    subst (λ (a : Procedure). a.params ≤ 65535) same f.0.params
few_params ps (r ∷ qs) (suc p) q f e = few_params ps qs p q f.1 e

called_fits : (ps : List Procedure) (p args : ℕ) (o : Option Procedure) → ProceduresFit ps ps → slice_get ps p ≡ o → HasParams args o → (p < length ps) × (args ≤ 65535)
called_fits ps p args None f e h = absurd h
called_fits ps p args (Some q) f e h = (slice_get_within ps p q e, subst (λ (n : ℕ). n ≤ 65535) h (few_params ps ps p q f e))

-- ---- bodies

module _ (ps : List Procedure) (fit : ProceduresFit ps ps) where
  mutual
    statement_fits : (m : ℕ) (s : Statement) → StatementFits ps m s → StatementNumbersFit s → statement_in_range (length ps) s ≡ true
    statement_fits m (Loading v e) f n = offset_fits e.offset n
    statement_fits m (Storing a e) f n = and_from (expr_in_range a) (expr_in_range e) (offset_fits a.offset n.0) (offset_fits e.offset n.1)
    statement_fits m (Taking v k) f n = and_from (nat_le 1 k) (nat_le k 8) (at_most 1 k f.1) (at_most k 8 f.2)
    statement_fits m (Giving e) f n = offset_fits e.offset n
    statement_fits m (Invoking p es) f n =
        let there = called_fits ps p (length es) (slice_get ps p) fit refl f.0 in
        and_from (nat_lt p (length ps)) (nat_le (length es) 65535 && list_all expr_in_range es) (below p (length ps) there.0)
        (and_from (nat_le (length es) 65535) (list_all expr_in_range es) (at_most (length es) 65535 there.1) (exprs_fit es n))
    statement_fits m (Choosing t a b) f n =
        and_from (test_in_range t) (body_in_range (length ps) a && body_in_range (length ps) b) (test_fits t n.0 n.1)
        (and_from (body_in_range (length ps) a) (body_in_range (length ps) b) (body_fits m a f.2 n.2) (body_fits m b f.3 n.3))
    statement_fits m Failing f n = refl

    body_fits : (m : ℕ) (b : Body) → BodyFits ps m b → NumbersFit b → body_in_range (length ps) b ≡ true
    body_fits m End f n = refl
    body_fits m (Then s b) f n =
        and_from (statement_in_range (length ps) s) (body_in_range (length ps) b) (statement_fits m s f.0 n.0) (body_fits (bound_after m s) b f.1 n.1)

  bodies_fit : (qs : List Procedure) → ProceduresFit ps qs → list_all (λ (q : Procedure). body_in_range (length ps) q.body) qs ≡ true
  bodies_fit [] f = refl
  bodies_fit (q ∷ qs) f =
      and_from (body_in_range (length ps) q.body) (list_all (λ (r : Procedure). body_in_range (length ps) r.body) qs)
      (body_fits q.params q.body f.0.body f.0.numbers) (bodies_fit qs f.1)

pub rules_in_range : (ps : List Procedure) → KeepsRules ps → program_in_range ps ≡ true
rules_in_range ps k = bodies_fit ps k.each ps k.each
