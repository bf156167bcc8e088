use Rattle.std.proofs.Common.{◌≡◌, ◌∙◌, ◌++◌, List, Some, ap, false, map, subst, sym, true}
use Rattle.std.specs.Prelude.{Err}
use Rattle.std.specs.List.{list_any}
use Rattle.cyp_term.specs.Answers.{GivesUnless}
use Rattle.cyp_term.specs.Terms.{wide_lit}
use Rattle.cyp_term.specs.declared.fail.Fail.{Fail}
use Rattle.cyp_term.specs.declared.lit.Lit.{Lit}
use Rattle.cyp_term.specs.declared.lit.SetTerm.{SetTerm}
use Rattle.cyp_term.specs.declared.term.TooWide.{TooWide}
use Rattle.cyp_unify.specs.Matches.{Walk, all_bound, finish_match}
use Rattle.cyp_unify.specs.Meeting.{Binds, late_lit}
use Rattle.cyp_unify.proofs.Finishing.{finish_found, finish_unbound, finish_wide}
use Rattle.cyp_unify.proofs.walk.Walk.finish.Goals as goal

pub returns-then-not-branch : goal.returns-then-not-branch
returns-then-not-branch c =
    let l = c.args.link.now in
    let s = c.self.inside in
    let w : Walk = record { by = s.by; need = s.need; late = s.late; mends = s.mends } in
    let vs = c.as_slice.result.now in
    let none = subst (Binds (all_bound l.map s.by vs) c.bind_all.new.by) c.if-not-branch.true c.in_ok-bind_all.ensures in
    sym (finish_unbound l c.args.pairs.now w vs (c.as_slice.ensures.value ∙ c.in_ok-vars.ensures) none) ∙ ap (finish_match l c.args.pairs.now) c.self.view_is

pub returns-in-Ok : goal.returns-in-Ok
returns-in-Ok c =
    let l = c.args.link.now in
    let ks = c.args.pairs.now in
    let s = c.self.inside in
    let w : Walk = record { by = s.by; need = s.need; late = s.late; mends = s.mends } in
    let vs = c.as_slice.result.now in
    let by = c.bind_all.new.by in
    let bound = subst (Binds (all_bound l.map s.by vs) by) c.if-not-branch.false c.in_ok-bind_all.ensures in
    let P : List (SetTerm × SetTerm) → Type 0 = λ ps. list_any wide_lit (s.need ++ map (late_lit by) ps) ≡ false in
    let pairs = c.from_vec-pairs.ensures ∙ c.in_ok-from_slice.ensures.items in
    (λ i. Some (record { pairs = pairs i; by = by; need = c.in-Ok.need; mends = s.mends }))
    ∙ sym
    (finish_found l ks w vs (c.as_slice.ensures.value ∙ c.in_ok-vars.ensures) by bound.0 c.in-Ok.need bound.1 (c.in-Ok.ensures.1 ∙ ap (λ ps. s.need ++ map (late_lit by) ps) c.as_slice-2.ensures)
    (subst P c.as_slice-2.ensures c.in-Ok.ensures.0) c.self.invariant)
    ∙ ap (finish_match l ks) c.self.view_is

pub returns-in-Err-Named : goal.returns-in-Err-Named
returns-in-Err-Named c =
    let l = c.args.link.now in
    let ks = c.args.pairs.now in
    let s = c.self.inside in
    let w : Walk = record { by = s.by; need = s.need; late = s.late; mends = s.mends } in
    let vs = c.as_slice.result.now in
    let by = c.bind_all.new.by in
    let all : List Lit = s.need ++ map (late_lit by) c.as_slice-2.result.now in
    let bound = subst (Binds (all_bound l.map s.by vs) by) c.if-not-branch.false c.in_ok-bind_all.ensures in
    let refused : list_any wide_lit all ≡ true = subst (λ (e : Fail TooWide). GivesUnless (list_any wide_lit all) all (Err e)) c.in-Err-Named.field-0-is c.in-Err-Named.ensures in
    let P : List (SetTerm × SetTerm) → Type 0 = λ ps. list_any wide_lit (s.need ++ map (late_lit by) ps) ≡ true in
    sym (finish_wide l ks w vs (c.as_slice.ensures.value ∙ c.in_ok-vars.ensures) by bound.0 (subst P c.as_slice-2.ensures refused)) ∙ ap (finish_match l ks) c.self.view_is
