-- Variables whose images are kept, as tables tell them.
use Rattle.std.specs.Prelude.{◌&&◌, Bool, List, filter, not}
use Rattle.std.specs.List.{list_all}
use Rattle.cyp_heap.specs.declared.goal.Link.{Link}
use Rattle.cyp_term.specs.Terms.{set_vars, term_vars, var_in}
use Rattle.cyp_term.specs.declared.subst.IntBind.{IntBind}
use Rattle.cyp_term.specs.declared.subst.SetBind.{SetBind}
use Rattle.cyp_term.specs.declared.subst.Subst.{Subst}
use Rattle.cyp_term.specs.declared.term.Var.{Var}

-- the variable is live and isn't dropped
abbrev pub is_alive : List Var → List Var → Var → Bool
is_alive live dropped v = var_in v live && not (var_in v dropped)

-- the entries whose images have such variables alone
abbrev pub alive_images : List Var → List Var → Subst → Subst
alive_images live dropped m = record {
  ints = filter (λ (b : IntBind). list_all (is_alive live dropped) (term_vars b.to)) m.ints;
  sets = filter (λ (b : SetBind). list_all (is_alive live dropped) (set_vars b.to)) m.sets;
}

-- the companion with these entries alone
abbrev pub alive_link : List Var → List Var → Link → Link
alive_link live dropped k = record k { map = alive_images live dropped k.map }
