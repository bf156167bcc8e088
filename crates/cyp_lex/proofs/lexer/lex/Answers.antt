use Rattle.std.proofs.Common.{arith, ◌≡◌, ℕ, ◌+◌, ◌++◌, ◌∷◌, [], sym, ap, ◌∙◌, length, drop, get_or}
use Rattle.cyp_lex.specs.Lexing.{Lexicon, lexed, piece_at}
use Rattle.cyp_lex.specs.declared.token.Token.{Token}
use Rattle.std.proofs.lemmas.Grind.{common_steps}
use Rattle.cyp_lex.proofs.InOrder.{LieInOrder-le, LieInOrder-snoc}
use Rattle.cyp_lex.proofs.Laws.{with_front, blank_step, begun_step, bad_step, at_end, regroup, rest_is}
use Rattle.cyp_lex.proofs.lexer.lex.Goals as goal

pub loop-at-preserved-in-Blank : goal.loop-at-preserved-in-Blank
loop-at-preserved-in-Blank c =
    let x : Lexicon = record { signs = c.args.signs.now; greatest = c.args.greatest } in
    let at = c.loop-at.at in
    let k = c.in-Blank.more in
    let step = blank_step x c.args.text.now at (at + (k + 1)) k c.loop-at-test.true (omega arith) (ap (λ t. piece_at x (get_or c.args.text.now at 0) t) (rest_is c.args.text.now at) ∙ sym c.in-Blank.ensures.value) in
    record {
      within = omega (arith, c.in-Blank.ensures.within);
      in_order = LieInOrder-le 0 c.loop-at.out.items at (at + (k + 1)) (omega arith) c.loop-at.invariant.in_order;
      so_far = sym (ap (λ r. with_front c.loop-at.out.items r) step) ∙ c.loop-at.invariant.so_far;
    }

pub loop-at-preserved : goal.loop-at-preserved
loop-at-preserved c =
    let x : Lexicon = record { signs = c.args.signs.now; greatest = c.args.greatest } in
    let at = c.loop-at.at in
    let k = c.in-Begun.more in
    let next : ℕ = at + k + 1 in
    let t : Token = record { kind = c.in-Begun.kind; start = at; end = next } in
    let step = begun_step x c.args.text.now at next k c.in-Begun.kind c.loop-at-test.true (omega arith) (ap (λ t. piece_at x (get_or c.args.text.now at 0) t) (rest_is c.args.text.now at) ∙ sym c.in-Begun.ensures.value) in
    let items : c.push.new.self.items ≡ c.loop-at.out.items ++ t ∷ [] = c.in_ok-push-in-Begun.ensures.items in
    record {
      within = omega (arith, c.in-Begun.ensures.within);
      in_order = rw items (LieInOrder-snoc 0 c.loop-at.out.items t at (omega arith) (omega arith) (omega arith) c.loop-at.invariant.in_order);
      so_far = rw items (sym (ap (λ r. with_front c.loop-at.out.items r) step ∙ regroup c.loop-at.out.items t (lexed x 0 next (drop next c.args.text.now))) ∙ c.loop-at.invariant.so_far);
    }

pub returns-in-Bad : goal.returns-in-Bad
returns-in-Bad c =
    let x : Lexicon = record { signs = c.args.signs.now; greatest = c.args.greatest } in
    let at = c.loop-at.at in
    let step = bad_step x c.args.text.now at c.in-Bad.kind c.loop-at-test.true (ap (λ t. piece_at x (get_or c.args.text.now at 0) t) (rest_is c.args.text.now at) ∙ sym c.in-Bad.ensures.value) in
    record { exact = sym c.loop-at.invariant.so_far ∙ ap (λ r. with_front c.loop-at.out.items r) step; in_order = tt }

pub returns : goal.returns
returns c =
    let x : Lexicon = record { signs = c.args.signs.now; greatest = c.args.greatest } in
    let step = at_end x c.args.text.now c.loop-at.at (omega arith) in
    record {
      exact = sym c.loop-at.invariant.so_far ∙ (ap (λ r. with_front c.loop-at.out.items r) step ∙ grind (arith, common_steps));
      in_order = rw c.from_vec.ensures (LieInOrder-le 0 c.loop-at.out.items c.loop-at.at (length c.args.text.now) c.loop-at.invariant.within c.loop-at.invariant.in_order);
    }
