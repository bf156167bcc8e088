-- What each rule leaves is as the rules ask, and so are the premises and the root.
use Rattle.std.proofs.Common.{◌≡◌, ◌∷◌, ◌&&◌, ◌==◌, refl, sym, List, [], IfSome, Option, Some, length, map, slice_get, subst}
use Rattle.std.specs.List.{AllByRecursion}
use Rattle.std.proofs.lemmas.List.Elements.{All-from_recursion, recursion_from_All}
use Rattle.std.proofs.lemmas.Option.{option_and_then_some, same_Some}
use Rattle.cyp_goal.proofs.LinksNormal.{IsKept, IsKeptWithin, normal_kept}
use Rattle.cyp_goal.specs.Facts.{facts}
use Rattle.cyp_goal.specs.Normal.{Renaming, normal}
use Rattle.cyp_goal.specs.Pruning.{only_vars}
use Rattle.cyp_heap.specs.Goals.{apply_link}
use Rattle.cyp_heap.specs.PredsFormed.{IsFormedPreds}
use Rattle.cyp_heap.specs.declared.goal.Goal.{Goal}
use Rattle.cyp_heap.specs.declared.goal.Link.{Link}
use Rattle.cyp_heap.specs.declared.goal.Node.{Node}
use Rattle.cyp_heap.specs.declared.pred.Pred.{Pred}
use Rattle.cyp_heap.specs.declared.pred.Preds.{Preds}
use Rattle.cyp_kernel.proofs.Allowed.{mapped_some}
use Rattle.cyp_kernel.proofs.LinksFree.{AreFree, raws_free}
use Rattle.cyp_kernel.proofs.NormalEach.{Split, split}
use Rattle.cyp_kernel.proofs.NormalLinks.{normal_free}
use Rattle.cyp_kernel.proofs.NormalSteady.{formed_is_steady, normal_is_steady}
use Rattle.cyp_kernel.proofs.NumberedVars.{normal_exist_stand}
use Rattle.cyp_kernel.proofs.SteadyCall.{CompanionRight, call_steady}
use Rattle.cyp_kernel.proofs.SteadyFlat.{AreSettled, alloc_steady, frame_steady, free_steady, pick_steady, read_steady, write_steady}
use Rattle.cyp_kernel.proofs.SteadyNodes.{ChunkClear, ChunkSorted, CompanionSteady, IsSettled, LinkClear, settled_node, steady_from}
use Rattle.cyp_kernel.proofs.SteadyUnfold.{close_steady, open_steady}
use Rattle.cyp_kernel.specs.Correct.{unlinked}
use Rattle.cyp_kernel.specs.Steady.{IsSteady}
use Rattle.cyp_kernel.specs.SteadyLaws.{CompanionsFree, CompanionsSteady, IsSteadyNode, IsSteadyRaw, LeavesSteady, PremisesSteady, RootIsSteady}
use Rattle.cyp_step.proofs.FormedClauses.{formed_clauses_fit}
use Rattle.cyp_step.proofs.ChunkLists.{Every-slice_get}
use Rattle.cyp_step.proofs.EachRule.{raws_left}
use Rattle.cyp_step.proofs.Premises.{premises_are_nodes}
use Rattle.cyp_step.proofs.RawNodes.{AreLeft, IsLeft, by_test}
use Rattle.cyp_step.proofs.Root.{fits_over, root_is_node}
use Rattle.cyp_step.specs.Changes.{post_of, pre_of}
use Rattle.cyp_step.specs.Nodes.{IsNode, IsOver, clauses_fit}
use Rattle.cyp_step.specs.Shown.{shown}
use Rattle.cyp_step.specs.Step.{all_normal, nodes_of, raws, renamed_premises}
use Rattle.cyp_step.specs.declared.rule.Rule.{Rule}
use Rattle.cyp_step.specs.declared.rule.Rule.TheVariants.{ByAlloc, ByCall, ByClose, ByEmp, ByFrame, ByFree, ByInconsistent, ByOpen, ByPick, ByRead, ByWrite}
use Rattle.cyp_term.proofs.Lists.{Every-among, Every-from_among}
use Rattle.cyp_term.specs.Entailment.{satisfiable}
use Rattle.cyp_unify.specs.Frames.{focus}

-- ---- before the normal form

steady_each : (n : Node) → IsFormedPreds n.preds → (ms : List Node) → AllByRecursion (IsLeft n) ms → AllByRecursion IsSettled ms → AllByRecursion (IsOver n.preds IsSteadyRaw) ms
steady_each n f [] a b = tt
steady_each n f (m ∷ ms) a b = (
  record {
    same = a.0.same;
    fact = steady_from m (fits_over n.preds m (record { same = a.0.same; sides = a.0.fits (formed_clauses_fit n.preds f) })) b.0;
  },
  steady_each n f ms a.1 b.1,
)

-- each companion of a steady node
companions_right : (n : Node) → IsSteadyNode n → AllByRecursion (CompanionRight n) n.links
companions_right n w =
    Every-from_among (CompanionRight n) n.links (λ l i. record {
      clear = Every-among (LinkClear n.goal.exist) l n.links (settled_node n w).links i;
      steady = Every-among (CompanionSteady n.preds) l n.links (settled_node n w).companions i;
    })

raws_settled : (n : Node) → IsFormedPreds n.preds → IsSteadyNode n → (r : Rule) → AreSettled (raws n r)
raws_settled n f w ByInconsistent = by_test (satisfiable (facts n.goal)) (λ e. rw (e, raws) tt) (λ e. rw (e, raws) tt)
raws_settled n f w ByEmp =
    by_test (length (pre_of n) == 0 && length (post_of n) == 0 && length n.goal.exist == 0)
    (λ e. rw (e, raws) (by_test (shown n.goal n.goal.pure_post) (λ d. rw d tt) (λ d. rw d tt)))
    (λ e. rw (e, raws) tt)
raws_settled n f w (ByRead i) = read_steady n w i (slice_get (pre_of n) i) (Every-slice_get (ChunkClear n.goal.exist) (pre_of n) i (settled_node n w).pre)
raws_settled n f w (ByFrame i) = frame_steady n w i
raws_settled n f w (ByWrite i) =
    write_steady n w i (focus n.goal) (slice_get (pre_of n) i) (Every-slice_get ChunkSorted (post_of n) 0 (settled_node n w).post)
    (Every-slice_get (ChunkClear n.goal.exist) (pre_of n) i (settled_node n w).pre)
raws_settled n f w (ByFree i) = free_steady n w i (slice_get (pre_of n) i)
raws_settled n f w ByAlloc = alloc_steady n w (focus n.goal) (Every-slice_get ChunkSorted (post_of n) 0 (settled_node n w).post)
raws_settled n f w (ByCall c) = call_steady n w c.pairs (slice_get n.links c.link) (Every-slice_get (CompanionRight n) n.links c.link (companions_right n w))
raws_settled n f w (ByOpen i) = open_steady n f w i (slice_get (pre_of n) i) (Every-slice_get (ChunkClear n.goal.exist) (pre_of n) i (settled_node n w).pre)
raws_settled n f w (ByClose c) = close_steady n f w c (focus n.goal) (Every-slice_get ChunkSorted (post_of n) 0 (settled_node n w).post)
raws_settled n f w (ByPick v) = pick_steady n w v

pub leaves_steady : LeavesSteady
leaves_steady n r ms f w e =
    All-from_recursion (IsOver n.preds IsSteadyRaw) ms
    (steady_each n f ms (subst (AreLeft n) e (raws_left n w.node r)) (subst AreSettled e (raws_settled n f w r)))

-- ---- the premises

-- the normal form leaves the companions' goals
companions_kept : IsKept CompanionsSteady
companions_kept = record {
  applied = λ by k n h. same_goals n.preds (apply_link by) (λ l. refl) n.links h;
  beside = λ n g e f h. h;
  maps = λ n vs h. same_goals n.preds (λ (k : Link). record k { map = only_vars vs k.map }) (λ l. refl) n.links h;
}
  where
    same_goals : (preds : Preds) (f : Link → Link) → ((l : Link) → (f l).goal ≡ l.goal) → (ls : List Link) → AllByRecursion (CompanionSteady preds) ls → AllByRecursion (CompanionSteady preds) (map f ls)
    same_goals preds f e [] h = tt
    same_goals preds f e (l ∷ ls) h = (subst (λ (g : Goal). IsSteady (unlinked preds g)) (sym (e l)) h.0, same_goals preds f e ls h.1)

normal_companions : (n : Node) (r : Renaming) → CompanionsSteady n → normal n ≡ Some r → CompanionsSteady r.node
normal_companions n r h e =
    let k : IsKeptWithin CompanionsSteady r = subst (λ (o : Option Renaming). IfSome o (IsKeptWithin CompanionsSteady)) e (normal_kept CompanionsSteady companions_kept n h) in
    k.fact

-- nor does it give a companion's existential an image
normal_companions_free : (n : Node) (r : Renaming) → CompanionsFree n → normal n ≡ Some r → CompanionsFree r.node
normal_companions_free n r h e =
    let k : IsKeptWithin CompanionsFree r = subst (λ (o : Option Renaming). IfSome o (IsKeptWithin CompanionsFree)) e (normal_free n h) in
    k.fact

premises_each : (preds : Preds) (ms : List Node) (rs : List Renaming) → AllByRecursion (IsOver preds IsSteadyRaw) ms → AllByRecursion CompanionsFree ms → all_normal ms ≡ Some rs
    → AllByRecursion (IsOver preds IsNode) (nodes_of rs) → AllByRecursion (IsOver preds IsSteadyNode) (nodes_of rs)
premises_each preds [] rs h free e k = subst (λ (xs : List Renaming). AllByRecursion (IsOver preds IsSteadyNode) (nodes_of xs)) (same_Some [] rs e) tt
premises_each preds (m ∷ ms) rs h free e k =
    let d : Split m ms rs = split m ms rs e in
    let nodes = subst (λ (xs : List Renaming). AllByRecursion (IsOver preds IsNode) (nodes_of xs)) d.both k in
    let steady = normal_is_steady m d.first h.0.fact.steady d.first_is in
    let stand = normal_exist_stand m d.first h.0.fact.steady d.first_is in
    subst (λ (xs : List Renaming). AllByRecursion (IsOver preds IsSteadyNode) (nodes_of xs)) (sym d.both)
    (record { same = nodes.0.same; fact = record { node = nodes.0.fact; raw = record { steady = steady; companions = normal_companions m d.first h.0.fact.companions d.first_is }; free = normal_companions_free m d.first free.0 d.first_is; exist_stand = stand } }, premises_each preds ms d.others h.1 free.1 d.others_are nodes.1)

pub premises_steady : PremisesSteady
premises_steady n r ms f w e =
    let a = mapped_some nodes_of (renamed_premises n r) ms e in
    let nodes = recursion_from_All (IsOver n.preds IsNode) ms (premises_are_nodes n r ms (formed_clauses_fit n.preds f) w.node e) in
    option_and_then_some all_normal (raws n r) a.0 a.1 (λ xs is d.
    All-from_recursion (IsOver n.preds IsSteadyNode) ms
    (subst (AllByRecursion (IsOver n.preds IsSteadyNode)) a.2
    (premises_each n.preds xs a.0 (recursion_from_All (IsOver n.preds IsSteadyRaw) xs (leaves_steady n r xs f w is)) (subst AreFree is (raws_free n w.free r)) d (subst (AllByRecursion (IsOver n.preds IsNode)) (sym a.2) nodes))))

pub root_is_steady : RootIsSteady
root_is_steady preds g r f sorted e =
    let m : Node = unlinked preds g in
    let before : IsSteady m = formed_is_steady preds g f sorted in
    let node : IsOver preds IsNode r.node = root_is_node preds g r before.fits e in
    record {
      same = node.same;
      fact = record {
        node = node.fact;
        raw = record { steady = normal_is_steady m r before e; companions = normal_companions m r tt e };
        free = normal_companions_free m r tt e;
        exist_stand = normal_exist_stand m r before e;
      };
    }
