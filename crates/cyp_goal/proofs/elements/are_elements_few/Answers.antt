use Rattle.std.proofs.Common.{◌∙◌, [], ◌++◌, List, ap, length, nat_le}
use Rattle.std.specs.List.{flat_map}
use Rattle.cyp_goal.proofs.FewTerms.{few_same, few_two}
use Rattle.cyp_goal.specs.Counting.{with_all_few}
use Rattle.cyp_heap.specs.Limits.{chunk_elements}
use Rattle.cyp_term.specs.Terms.{lit_elements}
use Rattle.cyp_term.specs.declared.term.Term.{Term}
use Rattle.cyp_goal.proofs.elements.are_elements_few.Goals as goal

pub returns : goal.returns
returns c =
    let g = c.args.goal.now in
    let first = c.add_all_elements.new.found.items in
    let second = c.add_all_elements-2.new.found.items in
    let third = c.add_all_elements-3.new.found.items in
    let fourth = c.add_all_elements-4.new.found.items in
    let pure_pre : List Term = flat_map lit_elements g.pure_pre in
    let pre : List Term = flat_map chunk_elements g.pre.chunks in
    let pure_post : List Term = flat_map lit_elements g.pure_post in
    let post : List Term = flat_map chunk_elements g.post.chunks in
    let one = c.in_ok-add_all_elements.ensures ∙ (λ i. with_all_few (c.new-found.ensures.items i) (flat_map lit_elements (c.as_slice.ensures i))) in
    let two = few_two [] first second pure_pre pre one (c.in_ok-add_all_elements-2.ensures ∙ ap (λ cs. with_all_few first (flat_map chunk_elements cs)) c.chunks.ensures.chunks) in
    let three = few_two [] second third (pure_pre ++ pre) pure_post two
    (c.in_ok-add_all_elements-3.ensures ∙ ap (λ ls. with_all_few second (flat_map lit_elements ls)) c.as_slice-2.ensures) in
    let all = few_two [] third fourth (pure_pre ++ pre ++ pure_post) post three
    (c.in_ok-add_all_elements-4.ensures ∙ ap (λ cs. with_all_few third (flat_map chunk_elements cs)) c.chunks-2.ensures.chunks) in
    ap (λ n. nat_le n 6) (ap length (c.as_slice-3.ensures.value ∙ all)) ∙ few_same [] (pure_pre ++ pre ++ pure_post ++ post)
