-- The step relation: which rule is allowed at a node, and what it leaves to do.
use Rattle.std.specs.Prelude.{[], ◌&&◌, ◌==◌, List, None, Option, Some, false, length, map, option_map, slice_get, true, ◌∷◌}
use Rattle.std.specs.Option.{option_and_then}
use Rattle.cyp_goal.specs.Facts.{facts}
use Rattle.cyp_goal.specs.Normal.{Renaming, normal}
use Rattle.cyp_heap.specs.Goals.{wide_node}
use Rattle.cyp_heap.specs.declared.goal.Node.{Node}
use Rattle.cyp_step.specs.Calling.{raw_call}
use Rattle.cyp_step.specs.Changes.{Raws, post_of, pre_of}
use Rattle.cyp_step.specs.FlatRules.{raw_alloc, raw_frame, raw_free, raw_pick, raw_read, raw_write}
use Rattle.cyp_step.specs.Shown.{shown}
use Rattle.cyp_step.specs.Unfolding.{raw_close, raw_open}
use Rattle.cyp_step.specs.declared.rule.Rule.{Rule}
use Rattle.cyp_step.specs.declared.rule.Rule.TheVariants.{ByAlloc, ByCall, ByClose, ByEmp, ByFrame, ByFree, ByInconsistent, ByOpen, ByPick, ByRead, ByWrite}
use Rattle.cyp_term.specs.Entailment.{satisfiable}
use Rattle.cyp_unify.specs.Frames.{focus}

-- what each rule leaves to do, before the normal form, or none where the rule isn't allowed
abbrev pub raws : Node → Rule → Raws
raws n ByInconsistent = elim (satisfiable (facts n.goal)) [ true ↦ None | false ↦ Some [] ]
raws n ByEmp =
    elim (length (pre_of n) == 0 && length (post_of n) == 0 && length n.goal.exist == 0) [
      | false ↦ None
      | true ↦ elim (shown n.goal n.goal.pure_post) [ true ↦ Some [] | false ↦ None ]
    ]
raws n (ByRead i) = raw_read n i (slice_get (pre_of n) i)
raws n (ByFrame i) = raw_frame n i
raws n (ByWrite i) = raw_write n i (focus n.goal) (slice_get (pre_of n) i)
raws n (ByFree i) = raw_free n i (slice_get (pre_of n) i)
raws n ByAlloc = raw_alloc n (focus n.goal)
raws n (ByCall c) = raw_call n c.pairs (slice_get n.links c.link)
raws n (ByOpen i) = raw_open n i (slice_get (pre_of n) i)
raws n (ByClose c) = raw_close n c (focus n.goal)
raws n (ByPick u) = raw_pick n u

-- ---- premises

-- the normal form of each, or none where a limit or an offset is passed
abbrev pub all_normal : List Node → Option (List Renaming)
all_normal [] = Some []
all_normal (n ∷ ns) = elim (wide_node n) [
  | true ↦ None
  | false ↦ elim (normal n) [
    | None ↦ None
    | Some r ↦ option_map (λ (rs : List Renaming). r ∷ rs) (all_normal ns)
  ]
]

-- the premises of a rule at a node with what their program variables were called, or none where the rule isn't allowed
abbrev pub renamed_premises : Node → Rule → Option (List Renaming)
renamed_premises n r = option_and_then all_normal (raws n r)

-- the premises themselves, without what their program variables were called
abbrev pub nodes_of : List Renaming → List Node
nodes_of rs = map (λ (r : Renaming). r.node) rs

-- the premises of a rule at a node
abbrev pub premises : Node → Rule → Option (List Node)
premises n r = option_map nodes_of (renamed_premises n r)
