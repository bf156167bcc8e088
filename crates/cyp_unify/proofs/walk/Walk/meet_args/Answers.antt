use Rattle.std.proofs.Common.{length, refl}
use Rattle.std.proofs.lemmas.Result.{err_from_is_err_and}
use Rattle.std.proofs.lemmas.Slice.Zip.{zip_end, zip_turn}
use Rattle.cyp_unify.specs.Matches.{arg_position, arg_positions, walk}
use Rattle.cyp_unify.proofs.WalkResults.{no_args, refused_part}
use Rattle.cyp_unify.proofs.WalkTurns.{ended, turned_wide}
use Rattle.cyp_unify.proofs.walk.Walk.meet_args.Goals as goal

pub returns-in_err-meet_arg : goal.returns-in_err-meet_arg
returns-in_err-meet_arg c =
    let exist = c.args.exist.now in
    let xs = c.args.from.now in
    let ys = c.args.to.now in
    let a = c.in-Some.arg.now in
    let b = c.in-Some.other.now in
    let whole = walk exist c.args.self.now (arg_positions xs ys) in
    let t = zip_turn xs ys c.loop-arg.yielded c.into_iter-arg-iterator.result c.loop-arg.arg-iterator c.next.new.self c.next.result (cc) (cc) c.loop-arg.yielded_by (c.in-Some.arg, c.in-Some.other) c.in-Some.is c.next.ensures.steps in
    let p = err_from_is_err_and c.from_residual.result c.from_residual.ensures.1 in
    rw (p.1, p.2)
    (refused_part (walk exist c.loop-arg.self (arg_position a b)) whole c.meet_arg.new.self c.in_err-meet_arg.field-0.0
    (turned_wide exist arg_positions arg_position xs ys (length c.loop-arg.yielded) c.loop-arg.self whole c.loop-arg.invariant (λ x y us vs. refl) a b t.0 t.1 (t.2 a) (t.3 b))
    c.in_err-meet_arg.ensures)

pub returns : goal.returns
returns c =
    let xs = c.args.from.now in
    let ys = c.args.to.now in
    let e = zip_end xs ys c.loop-arg.yielded c.into_iter-arg-iterator.result c.loop-arg.arg-iterator c.next.new.self c.next.result (cc) (cc) c.loop-arg.yielded_by c.in-None.is c.next.ensures.steps in
    ended c.args.exist.now arg_positions arg_position xs ys (length c.loop-arg.yielded) c.loop-arg.self (walk c.args.exist.now c.args.self.now (arg_positions xs ys)) c.loop-arg.invariant (λ vs. refl) no_args e
