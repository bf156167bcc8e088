-- One argument more beside its parameter.
use Rattle.std.proofs.Common.{List, Option, add-one, ap, drop, drop-cons, get_or, length, map, suc, sym, ℕ, ◌+◌, ◌<◌, ◌∙◌, ◌∷◌, ◌≡◌}
use Rattle.cyp_lex.specs.declared.fault.Fault.{Fault}
use Rattle.cyp_names.specs.LeastFaults.{lesser_of}
use Rattle.cyp_names.proofs.LesserFaults.{least_parts}
use Rattle.cyp_term.specs.declared.term.Sort.{Sort}
use Rattle.cyp_names.specs.NameFaults.{arg_fault, arg_faults}
use Rattle.cyp_names.specs.FaultOrder.{least_fault}
use Rattle.cyp_names.specs.Uses.{param_sort}
use Rattle.cyp_text.specs.declared.tree.ArgTree.{ArgTree}
use Rattle.cyp_text.specs.declared.tree.ParamTree.{ParamTree}

pub args_more : (ps : List ParamTree) (xs : List ArgTree) (k : ℕ) (p : ParamTree) (x : ArgTree) (s : Sort) (found f found' whole : Option Fault)
    → k < length ps → k < length xs → p ≡ get_or ps k p → x ≡ get_or xs k x → s ≡ param_sort p → f ≡ least_fault (arg_fault s x) → found' ≡ lesser_of found f
    → lesser_of found (least_fault (arg_faults (map param_sort (drop k ps)) (drop k xs))) ≡ whole
    → lesser_of found' (least_fault (arg_faults (map param_sort (drop (k + 1) ps)) (drop (k + 1) xs))) ≡ whole
args_more ps xs k p x s found f found' whole in_ps in_xs p_is x_is sort e more w =
    let left : List ParamTree = drop (suc k) ps in
    let rest : List ArgTree = drop (suc k) xs in
    let params : drop k ps ≡ p ∷ left = drop-cons ps k p in_ps ∙ ap (λ (q : ParamTree). q ∷ left) (sym p_is) in
    let args : drop k xs ≡ x ∷ rest = drop-cons xs k x in_xs ∙ ap (λ (y : ArgTree). y ∷ rest) (sym x_is) in
    let first : f ≡ least_fault (arg_fault (param_sort p) x) = e ∙ ap (λ (r : Sort). least_fault (arg_fault r x)) sort in
    rw (add-one, more)
    (least_parts found f (arg_fault (param_sort p) x) (arg_faults (map param_sort left) rest) first
    ∙ (λ i. lesser_of found (least_fault (arg_faults (map param_sort (sym params i)) (sym args i))))
    ∙ w)
