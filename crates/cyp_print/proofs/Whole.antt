-- The whole text of a program of one procedure.
use Rattle.std.proofs.Common.{◌≡◌, ◌∙◌, ◌++◌, ℕ, List, [], ◌∷◌, true, length, ap, append_assoc, append-nil}
use Rattle.std.specs.Prelude.{codes}
use Rattle.cyp_heap.specs.declared.goal.Node.{Node}
use Rattle.cyp_kernel.specs.Companions.{Proof, Proofs}
use Rattle.cyp_kernel.specs.Compile.{main_name, procedure, program_of, with_proc}
use Rattle.cyp_kernel.specs.Naming.{param_names}
use Rattle.cyp_prog.specs.ProgramText.{Bytes, join_with_comma, line, params_text, procedures_text, program_text}
use Rattle.cyp_step.specs.declared.rule.Rule.{Rule}
use Rattle.cyp_tree.specs.Derivations.{Derived}
use Rattle.cyp_tree.specs.Follows.{root}
use Rattle.cyp_print.specs.Found.{IsFound}
use Rattle.cyp_print.specs.Lines.{main_lines}
use Rattle.cyp_print.proofs.ChainOf.{HasFlatRules, no_procedures_in, rules_of, same_text}

-- a procedure's text, in the order in which it is written
abbrev pub written : Bytes → Bytes → Bytes → Bytes
written name params lines = [] ++ codes "void " ++ name ++ codes "(" ++ params ++ (codes ") {" ++ 10 ∷ []) ++ lines ++ (codes "}" ++ 10 ∷ [])

layout : (name params lines : Bytes)
    → (line 0 (codes "void " ++ name ++ codes "(" ++ params ++ codes ") {") ++ lines ++ line 0 (codes "}")) ++ [] ≡ written name params lines
layout name params lines =
    let front : Bytes = codes "void " ++ name ++ codes "(" ++ params in
    append-nil (line 0 (front ++ codes ") {") ++ lines ++ line 0 (codes "}"))
    ∙ ap (λ t. t ++ lines ++ (codes "}" ++ 10 ∷ [])) (append_assoc front (codes ") {") (10 ∷ []))

-- what is written part by part
pub put_together : (name params lines : Bytes) (t0 t1 t2 t3 t4 t5 t6 t7 : Bytes) → t0 ≡ [] → t1 ≡ t0 ++ codes "void " → t2 ≡ t1 ++ name → t3 ≡ t2 ++ codes "(" → t4 ≡ t3 ++ params
    → t5 ≡ t4 ++ (codes ") {" ++ 10 ∷ []) → t6 ≡ t5 ++ lines → t7 ≡ t6 ++ (codes "}" ++ 10 ∷ []) → t7 ≡ written name params lines
put_together name params lines t0 t1 t2 t3 t4 t5 t6 t7 e0 e1 e2 e3 e4 e5 e6 e7 = cc

one_procedure : (name : List ℕ) (n : Node) (r : Rule) (ds : Proofs) → HasFlatRules (Derived n r ds)
    → program_text (program_of name (Derived n r ds)) ≡ procedures_text (main_name name ∷ []) (procedure (main_name name) 0 [] (Derived n r ds) ∷ [])
one_procedure name n r ds h =
    ap (λ ps. program_text (procedure (main_name name) 0 [] (Derived n r ds) ∷ ps)) (no_procedures_in ds (main_name name) 1 (with_proc r 0 []) h.1)

main_text : (name : List ℕ) (n : Node) (r : Rule) (ds : Proofs) → HasFlatRules (Derived n r ds)
    → program_text (program_of name (Derived n r ds)) ≡ written (main_name name) (join_with_comma (params_text 1 (length n.goal.program))) (main_lines (Derived n r ds))
main_text name n r ds h =
    let main : Bytes = main_name name in
    let params : Bytes = join_with_comma (params_text 1 (length n.goal.program)) in
    one_procedure name n r ds h
    ∙ ap (λ t. (line 0 (codes "void " ++ main ++ codes "(" ++ params ++ codes ") {") ++ t ++ line 0 (codes "}")) ++ [])
    (same_text (Derived n r ds) (main ∷ []) true 0 1 (param_names n) (length n.goal.program) [] h)
    ∙ layout main params (main_lines (Derived n r ds))

whole_by : (name : List ℕ) (d : Proof) (n : Node) → root d ≡ n → HasFlatRules d
    → program_text (program_of name d) ≡ written (main_name name) (join_with_comma (params_text 1 (length n.goal.program))) (main_lines d)
whole_by name (Derived k r ds) n e h =
    main_text name k r ds h ∙ ap (λ (m : Node). written (main_name name) (join_with_comma (params_text 1 (length m.goal.program))) (main_lines (Derived k r ds))) e

-- the text of the program of a derivation with this root
pub whole_text : (name : List ℕ) (d : Proof) (n : Node) → root d ≡ n → IsFound d
    → program_text (program_of name d) ≡ written (main_name name) (join_with_comma (params_text 1 (length n.goal.program))) (main_lines d)
whole_text name d n e w = whole_by name d n e (rules_of w.0 d w.1)
