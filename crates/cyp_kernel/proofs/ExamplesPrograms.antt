-- Programs of derivations, computed.
use Rattle.std.proofs.Common.{[], List, map, refl, replicate, true, ℕ, ◌∷◌, ◌≡◌}
use Rattle.std.specs.Fmt.{digits}
use Rattle.std.specs.Prelude.{codes}
use Rattle.cyp_heap.specs.declared.goal.Link.{Link}
use Rattle.cyp_heap.specs.declared.goal.Node.{Node}
use Rattle.cyp_pred.specs.Unfold.{count_from}
use Rattle.cyp_prog.specs.Programs.{Procedure}
use Rattle.cyp_kernel.specs.Companions.{Proof}
use Rattle.cyp_kernel.specs.Compile.{program_of}
use Rattle.cyp_kernel.specs.Narrow.{is_narrow}
use Rattle.cyp_prog.specs.ProgramText.{program_text}
use Rattle.cyp_step.specs.declared.rule.Rule.{Rule}
use Rattle.cyp_step.specs.declared.rule.Rule.TheVariants.{ByCall, ByEmp, ByFree, ByInconsistent, ByOpen, ByRead}
use Rattle.cyp_term.specs.Entailment.{arrangement_fits, arrangements, class_literals, entailed, satisfiable}
use Rattle.cyp_term.specs.Integers.{all_cases, both, eliminate, eliminate_all, feasible, ints_fit, joined}
use Rattle.cyp_term.specs.Regions.{all_set_vars, all_terms, regions_fit}
use Rattle.cyp_tree.specs.Derivations.{Derived, More, NoMore}
use Rattle.cyp_heap.proofs.Short.{dispose, no_preds, two_at_one, x}
use Rattle.cyp_step.proofs.ExamplesDispose.{call_rest, called, cons_node, freed, nil_node, read_once, read_twice}
use Rattle.cyp_step.proofs.ExamplesStores.{after_call, behind, call_by, nothing_behind, opened, read, read_behind}

-- the rule at the node, and what comes after it, with one premise
abbrev then : Node → Rule → Proof → Proof
then n r d = Derived n r (More d NoMore)

-- the rule at the node without premises
abbrev ended : Node → Rule → Proof
ended n r = Derived n r NoMore

-- ---- a contradiction

no_heap : program_text (program_of (codes "f") (ended two_at_one ByInconsistent)) ≡ codes "void f(v1) {\n  error;\n}\n"
unfolding digits joined eliminate eliminate_all feasible both all_cases ints_fit arrangements class_literals arrangement_fits satisfiable entailed regions_fit all_terms all_set_vars
no_heap = refl

-- a name that would read as a variable
variable_name : program_text (program_of (codes "v1") (ended two_at_one ByInconsistent)) ≡ codes "void v1_0(v1) {\n  error;\n}\n"
unfolding digits joined eliminate eliminate_all feasible both all_cases ints_fit arrangements class_literals arrangement_fits satisfiable entailed regions_fit all_terms all_set_vars
variable_name = refl

-- ---- a list freed

abbrev disposed : Proof
disposed =
    Derived dispose (ByOpen 0)
    (More (ended nil_node ByEmp)
    (More (then cons_node (ByRead 2) (then read_once (ByRead 3) (then read_twice (ByFree 1) (then freed (ByCall call_rest) (ended called ByEmp))))) NoMore))

-- the root is called, so its procedure is the main one
dispose_text : program_text (program_of (codes "dispose") disposed) ≡ codes "void dispose(v1) {\n  if (v1 == 0) {\n  } else {\n    let v2 = *v1;\n    let v3 = *(v1 + 1);\n    free(v1);\n    dispose(v3);\n  }\n}\n"
unfolding digits joined eliminate eliminate_all feasible both all_cases ints_fit arrangements class_literals arrangement_fits satisfiable entailed regions_fit all_terms all_set_vars
dispose_text = refl

dispose_narrow : is_narrow disposed ≡ true
dispose_narrow = refl

-- ---- a store before a call

-- a sketch, whose leaves are left as they are
abbrev stored : Proof
stored =
    Derived behind (ByOpen 0)
    (More (ended nothing_behind ByEmp)
    (More (then opened (ByRead 3) (then read (ByRead 4) (then read_behind (ByCall (call_by 2)) (ended after_call ByEmp)))) NoMore))

store_text : program_text (program_of (codes "f") stored) ≡ codes "void f(v1, v2) {\n  if (v2 == 0) {\n  } else {\n    let v3 = *v2;\n    let v4 = *(v2 + 1);\n    *v1 = v4;\n    f(v1, v4);\n  }\n}\n"
unfolding digits joined eliminate eliminate_all feasible both all_cases ints_fit arrangements class_literals arrangement_fits satisfiable entailed regions_fit all_terms all_set_vars
store_text = refl

-- ---- procedures

-- a companion that only its number tells
abbrev some_link : Link
some_link = record { goal = two_at_one.goal; own = []; map = record { ints = []; sets = [] }; tuple = [] }

-- a node with so many program variables and so many companions
abbrev sketch : ℕ → ℕ → Node
sketch variables links = record {
  preds = no_preds;
  goal = record { program = map x (count_from 0 variables); exist = []; pure_pre = []; pre = record { chunks = [] }; pure_post = []; post = record { chunks = [] } };
  links = replicate links some_link;
}

-- a call of the companion of this number
abbrev calling : ℕ → Proof
calling k = ended (sketch 1 2) (ByCall (record { link = k; pairs = [] }))

-- two companions that are called stand side by side, and a third inside the first
abbrev three_called : Proof
three_called =
    Derived (sketch 1 0) (ByOpen 0)
    (More (Derived (sketch 2 1) (ByOpen 0) (More (Derived (sketch 3 2) (ByOpen 0) (More (calling 2) (More (calling 1) NoMore))) NoMore))
    (More (Derived (sketch 4 1) (ByOpen 0) (More (calling 1) NoMore)) NoMore))

-- a procedure by its name and its number of parameters
abbrev head_of : Procedure → List ℕ × ℕ
head_of p = (p.name, p.params)

-- auxiliary procedures are numbered in preorder: what stands inside a companion comes before its neighbour
in_preorder : map head_of (program_of (codes "f") three_called) ≡ (codes "f", 1) ∷ (codes "f_1", 2) ∷ (codes "f_2", 3) ∷ (codes "f_3", 4) ∷ []
unfolding digits joined eliminate eliminate_all feasible both all_cases ints_fit arrangements class_literals arrangement_fits satisfiable entailed regions_fit all_terms all_set_vars
in_preorder = refl
