-- Normal form: variables that matter, and what is dropped.
use Rattle.std.specs.Prelude.{[], ◌++◌, ◌==◌, Bool, List, cond, filter, length, map, not, suc, true, zero, ℕ, ◌∷◌}
use Rattle.std.specs.List.{list_all, list_any}
use Rattle.cyp_heap.specs.Chunks.{chunks_vars}
use Rattle.cyp_heap.specs.Goals.{tuple_vars}
use Rattle.cyp_heap.specs.declared.goal.Goal.{Goal}
use Rattle.cyp_heap.specs.declared.goal.Link.{Link}
use Rattle.cyp_heap.specs.declared.goal.Node.{Node}
use Rattle.cyp_term.specs.Terms.{lit_vars, lits_vars, set_vars, term_vars, var_eq, var_in, with_all_new, without_repeats}
use Rattle.cyp_term.specs.declared.lit.Lit.{Lit}
use Rattle.cyp_term.specs.declared.subst.IntBind.{IntBind}
use Rattle.cyp_term.specs.declared.subst.SetBind.{SetBind}
use Rattle.cyp_term.specs.declared.subst.Subst.{Subst}
use Rattle.cyp_term.specs.declared.term.Var.{Var}

-- the literal has a live variable
abbrev pub touches : List Var → Lit → Bool
touches live l = list_any (λ v. var_in v live) (lit_vars l)

-- the variables of each literal that has a live one become live
abbrev pub spread : List Lit → List Var → List Var
spread [] live = live
spread (l ∷ ls) live = spread ls (cond (touches live l) (with_all_new var_eq live (lit_vars l)) live)

-- so often that nothing changes any more
abbrev pub spread_times : ℕ → List Lit → List Var → List Var
spread_times zero ls live = live
spread_times (suc k) ls live = spread_times k ls (spread ls live)

-- the variables of program, chunks, pure post and measures, and those that the pure pre ties to them
abbrev pub live_vars : Node → List Var
live_vars n =
    let g : Goal = n.goal in
    spread_times (length g.pure_pre) g.pure_pre
    (without_repeats var_eq (g.program ++ chunks_vars g.pre.chunks ++ chunks_vars g.post.chunks ++ lits_vars g.pure_post ++ tuple_vars n.links))

-- a literal is kept where it has a live variable, or no variable at all
abbrev pub is_kept : List Var → Lit → Bool
is_kept live l = cond (touches live l) true (length (lit_vars l) == 0)

-- the images have these variables alone
abbrev pub only_vars : List Var → Subst → Subst
only_vars vs m = record {
  ints = filter (λ (b : IntBind). list_all (λ v. var_in v vs) (term_vars b.to)) m.ints;
  sets = filter (λ (b : SetBind). list_all (λ v. var_in v vs) (set_vars b.to)) m.sets;
}

-- drops literals without a live variable, then unused program variables and existentials, then entries of maps with a dead image
abbrev pub prune : Node → Node
prune n =
    let live : List Var = live_vars n in
    let g : Goal = n.goal in
    let pre : List Lit = filter (is_kept live) g.pure_pre in
    let used : List Var = chunks_vars g.pre.chunks ++ chunks_vars g.post.chunks ++ lits_vars pre ++ lits_vars g.pure_post ++ tuple_vars n.links in
    let program : List Var = filter (λ v. var_in v used) g.program in
    let exist : List Var = filter (λ v. var_in v (chunks_vars g.post.chunks ++ lits_vars g.pure_post)) g.exist in
    let dropped : List Var = filter (λ v. not (var_in v program)) g.program ++ filter (λ v. not (var_in v exist)) g.exist in
    let alive : List Var = filter (λ v. not (var_in v dropped)) (live ++ program) in
    record {
      preds = n.preds;
      goal = record { program = program; exist = exist; pure_pre = pre; pre = g.pre; pure_post = g.pure_post; post = g.post };
      links = map (λ (k : Link). record k { map = only_vars alive k.map }) n.links;
    }
