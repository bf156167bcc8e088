use Rattle.std.proofs.Common.{List, ap, drop, map, ◌∙◌, ◌≡◌}
use Rattle.std.proofs.lemmas.List.{take_rest}
use Rattle.cyp_reading.specs.Mended.{mended_body}
use Rattle.cyp_names.specs.ReadTerms.{read_chunks, use_var}
use Rattle.cyp_names.specs.Specifications.{with_cards}
use Rattle.cyp_names.specs.Uses.{param_uses}
use Rattle.cyp_text.specs.declared.tree.ParamTree.{ParamTree}
use Rattle.cyp_text.specs.declared.tree.PredTree.{PredTree}
use Rattle.cyp_reading.proofs.goals.goal_in.Goals as goal

pub returns : goal.returns
returns c =
    let sc = c.args.scope.now in
    let t = c.args.tree.now in
    let program_is : c.in_ok-program.program ≡ map (use_var sc) (param_uses t.params) = c.in_ok-program.ensures ∙ ap (λ (ps : List ParamTree). map (use_var sc) (param_uses ps)) c.as_slice.ensures in
    let exist_is : c.in_ok-exist.exist ≡ map (use_var sc) (drop c.args.first sc) =
    c.in_ok-exist.ensures ∙ ap (map (use_var sc)) (take_rest c.uses.result.now c.args.first ∙ ap (drop c.args.first) c.uses.ensures) in
    let pre_is : c.in_ok-pre.pre.chunks ≡ with_cards 0 (read_chunks t.preds sc (mended_body t.pre)) =
    (λ i. (c.in_ok-pre.ensures i).chunks) ∙ ap (λ (qs : List PredTree). with_cards 0 (read_chunks qs sc (mended_body t.pre))) c.as_slice-preds.ensures in
    let post_is : c.in_ok-post.post.chunks ≡ read_chunks t.preds sc (mended_body t.post) =
    (λ i. (c.in_ok-post.ensures i).chunks) ∙ ap (λ (qs : List PredTree). read_chunks qs sc (mended_body t.post)) c.as_slice-preds.ensures in
    λ i. record {
      program = program_is i;
      exist = exist_is i;
      pure_pre = c.in_ok-pure_pre.ensures i;
      pre = record { chunks = pre_is i };
      pure_post = c.in_ok-pure_post.ensures i;
      post = record { chunks = post_is i };
    }
