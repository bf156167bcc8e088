use Rattle.std.proofs.Common.{sym, subst, true}
use Rattle.cyp_diff.specs.Systems.{LitMeans}
use Rattle.cyp_diff.proofs.Levels.{lit_le, lit_lt, lit_eq, lit_ne}
use Rattle.cyp_diff.proofs.system.add_lit.Goals as goal

pub returns-in-Eq : goal.returns-in-Eq
returns-in-Eq c =
    subst (λ l. LitMeans c.args.vars.now l c.args.bounds.now c.args.gaps.now.items c.add_eq.new.bounds c.args.gaps.now.items c.add_eq.result) (sym c.in-Eq.is)
    (lit_eq c.args.vars.now c.in-Eq.a c.in-Eq.b c.args.bounds.now c.add_eq.new.bounds c.args.gaps.now.items c.add_eq.result c.add_eq.ensures.places c.requires.gaps c.add_eq.ensures.means)

pub returns-in-Le : goal.returns-in-Le
returns-in-Le c =
    subst (λ l. LitMeans c.args.vars.now l c.args.bounds.now c.args.gaps.now.items c.add_le.new.bounds c.args.gaps.now.items c.add_le.result) (sym c.in-Le.is)
    (lit_le c.args.vars.now c.in-Le.a c.in-Le.b c.args.bounds.now c.add_le.new.bounds c.args.gaps.now.items c.add_le.result c.add_le.ensures.places c.requires.gaps c.add_le.ensures.means)

pub returns-in-Lt : goal.returns-in-Lt
returns-in-Lt c =
    subst (λ l. LitMeans c.args.vars.now l c.args.bounds.now c.args.gaps.now.items c.add_le-in-Lt.new.bounds c.args.gaps.now.items c.add_le-in-Lt.result) (sym c.in-Lt.is)
    (lit_lt c.args.vars.now c.in-Lt.a c.in-Lt.b c.args.bounds.now c.add_le-in-Lt.new.bounds c.args.gaps.now.items c.add_le-in-Lt.result c.add_le-in-Lt.ensures.places c.requires.gaps c.add_le-in-Lt.ensures.means)

pub returns-in_ok-push-in-Ne : goal.returns-in_ok-push-in-Ne
returns-in_ok-push-in-Ne c =
    subst (λ l. LitMeans c.args.vars.now l c.args.bounds.now c.args.gaps.now.items c.args.bounds.now c.push.new.self.items true) (sym c.in-Ne.is)
    (lit_ne c.args.vars.now c.in-Ne.a c.in-Ne.b c.args.bounds.now c.args.gaps.now.items c.push.new.self.items c.gap_of.result c.requires.places c.requires.gaps c.gap_of.ensures.gap c.gap_of.ensures.means c.in_ok-push-in-Ne.ensures.items)
