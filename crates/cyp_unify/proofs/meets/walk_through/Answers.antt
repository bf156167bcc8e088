use Rattle.std.proofs.Common.{◌≡◌, ◌∙◌, ℕ, ap, drop, length, refl, subst, sym}
use Rattle.std.proofs.lemmas.List.{length_push}
use Rattle.std.proofs.lemmas.Result.{err_from_is_err_and}
use Rattle.std.proofs.lemmas.Slice.Zip.{zip_end, zip_turn}
use Rattle.std.specs.Iterator.Adapters.{zip_first, zip_second}
use Rattle.std.specs.Slice.Iter.{iter_rest}
use Rattle.cyp_unify.specs.Matches.{no_walk, walk}
use Rattle.cyp_unify.specs.Meeting.{positions_at, positions_of}
use Rattle.cyp_unify.proofs.WalkResults.{no_places, refused_whole}
use Rattle.cyp_unify.proofs.WalkTurns.{ended, turned, turned_wide}
use Rattle.cyp_unify.proofs.meets.walk_through.Goals as goal

pub loop-chunk-preserved : goal.loop-chunk-preserved
loop-chunk-preserved c =
    let exist = c.args.exist.now in
    let present = c.args.present.now in
    let xs = c.args.wanted.now in
    let ys = c.args.places.now in
    let a = c.in-Some.chunk.now in
    let k = c.in-Some.place.now in
    let whole = walk exist no_walk (positions_of present xs ys) in
    let t = zip_turn xs ys c.loop-chunk.yielded c.into_iter-chunk-iterator.result c.loop-chunk.chunk-iterator c.next.new.self c.next.result (cc) (cc) c.loop-chunk.yielded_by (c.in-Some.chunk, c.in-Some.place) c.in-Some.is c.next.ensures.steps in
    let P : ℕ → Type 0 = λ n. walk exist c.meet_at.new.self (positions_of present (drop n xs) (drop n ys)) ≡ whole in
    subst P (sym (length_push c.loop-chunk.yielded (c.in-Some.chunk, c.in-Some.place)))
    (turned exist (positions_of present) (positions_at present) xs ys (length c.loop-chunk.yielded) c.loop-chunk.found whole c.loop-chunk.invariant (λ x y us vs. refl) a k t.0 t.1 (t.2 a) (t.3 k) c.meet_at.new.self
    c.in_ok-meet_at.ensures)

pub returns-in_err-meet_at : goal.returns-in_err-meet_at
returns-in_err-meet_at c =
    let exist = c.args.exist.now in
    let present = c.args.present.now in
    let xs = c.args.wanted.now in
    let ys = c.args.places.now in
    let a = c.in-Some.chunk.now in
    let k = c.in-Some.place.now in
    let whole = walk exist no_walk (positions_of present xs ys) in
    let first = ap (λ z. iter_rest (zip_first z)) c.into_iter-chunk-iterator.ensures.into_iter_gives ∙ ap iter_rest c.zip-chunk-items.ensures.first ∙ c.iter.ensures.rest in
    let second = ap (λ z. iter_rest (zip_second z)) c.into_iter-chunk-iterator.ensures.into_iter_gives ∙ c.zip-chunk-items.ensures.second.0 in
    let t = zip_turn xs ys c.loop-chunk.yielded c.into_iter-chunk-iterator.result c.loop-chunk.chunk-iterator c.next.new.self c.next.result first second c.loop-chunk.yielded_by (c.in-Some.chunk, c.in-Some.place) c.in-Some.is c.next.ensures.steps in
    let p = err_from_is_err_and c.from_residual.result c.from_residual.ensures.1 in
    rw (p.1, p.2)
    (refused_whole (walk exist c.loop-chunk.found (positions_at present a k)) whole c.meet_at.new.self c.in_err-meet_at.field-0.0
    (turned_wide exist (positions_of present) (positions_at present) xs ys (length c.loop-chunk.yielded) c.loop-chunk.found whole c.loop-chunk.invariant (λ x y us vs. refl) a k t.0 t.1 (t.2 a) (t.3 k))
    c.in_err-meet_at.ensures)

pub returns : goal.returns
returns c =
    let present = c.args.present.now in
    let xs = c.args.wanted.now in
    let ys = c.args.places.now in
    let e = zip_end xs ys c.loop-chunk.yielded c.into_iter-chunk-iterator.result c.loop-chunk.chunk-iterator c.next.new.self c.next.result (cc) (cc) c.loop-chunk.yielded_by c.in-None.is c.next.ensures.steps in
    ended c.args.exist.now (positions_of present) (positions_at present) xs ys (length c.loop-chunk.yielded) c.loop-chunk.found (walk c.args.exist.now no_walk (positions_of present xs ys)) c.loop-chunk.invariant (λ vs. refl) (no_places present) e
