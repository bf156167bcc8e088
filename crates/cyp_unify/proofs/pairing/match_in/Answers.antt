use Rattle.std.proofs.Common.{◌≡◌, ◌∙◌, IfOk, Option, ap, is_some, subst, sym, true}
use Rattle.std.specs.Prelude.{Err}
use Rattle.cyp_heap.specs.declared.goal.Goal.{Goal}
use Rattle.cyp_term.specs.declared.fail.Fail.{Fail}
use Rattle.cyp_term.specs.declared.term.TooWide.{TooWide}
use Rattle.cyp_unify.specs.Matches.{finish_match, no_walk, pair_positions, walk}
use Rattle.cyp_unify.specs.Meeting.{Walks, positions_of}
use Rattle.cyp_unify.specs.Walking.{wide_walk}
use Rattle.cyp_unify.specs.declared.found.Match.{Match}
use Rattle.cyp_unify.proofs.Growing.{no_match}
use Rattle.cyp_unify.proofs.PairedPlaces.{paired}
use Rattle.cyp_unify.proofs.pairing.match_in.Goals as goal

pub returns-in-Ok : goal.returns-in-Ok
returns-in-Ok c =
    let present = c.args.present.now in
    let l = c.args.link.now in
    let ks = c.args.places.now in
    let chunks = c.chunks-wanted.ensures.chunks ∙ ap (λ (g : Goal). g.pre.chunks) c.get-goal.ensures in
    let exist = c.as_slice.ensures ∙ ap (λ (g : Goal). g.exist) c.get-goal.ensures in
    let P : Option Match → Type 0 = λ n. IfOk c.finish.result (λ m. m ≡ n) in
    subst P
    (ap (finish_match l ks) (c.in-Ok.ensures ∙ (λ i. walk (exist i) no_walk (positions_of present (chunks i) ks)))
    ∙ sym (paired present l ks c.is_pairing.result (c.is_pairing.ensures ∙ ap (λ cs. is_some (pair_positions present cs ks)) chunks) c.if-not-is_pairing.false))
    c.finish.ensures

pub returns-in-Err-Named : goal.returns-in-Err-Named
returns-in-Err-Named c =
    let present = c.args.present.now in
    let l = c.args.link.now in
    let ks = c.args.places.now in
    let chunks = c.chunks-wanted.ensures.chunks ∙ ap (λ (g : Goal). g.pre.chunks) c.get-goal.ensures in
    let exist = c.as_slice.ensures ∙ ap (λ (g : Goal). g.exist) c.get-goal.ensures in
    let found = walk c.as_slice.result.now no_walk (positions_of present c.chunks-wanted.result.now ks) in
    let wide : wide_walk found ≡ true = subst (λ (e : Fail TooWide). Walks found (Err e)) c.in-Err-Named.field-0-is c.in-Err-Named.ensures in
    sym
    (paired present l ks c.is_pairing.result (c.is_pairing.ensures ∙ ap (λ cs. is_some (pair_positions present cs ks)) chunks) c.if-not-is_pairing.false
    ∙ no_match l ks (walk l.goal.exist no_walk (positions_of present l.goal.pre.chunks ks)) (ap wide_walk (sym (λ i. walk (exist i) no_walk (positions_of present (chunks i) ks))) ∙ wide))
