-- What a substitution brings in place of a union's variables.
use Rattle.std.specs.Prelude.{◌++◌, List, flat_map, map}
use Rattle.cyp_term.specs.declared.lit.SetTerm.{SetTerm}
use Rattle.cyp_term.specs.declared.subst.Subst.{Subst}
use Rattle.cyp_term.specs.declared.term.Term.{Term}
use Rattle.cyp_term.specs.declared.term.Var.{Var}
use Rattle.cyp_term.specs.Terms.{apply_term, image_or_self, set_image}

-- the image of the set variable, which is the variable itself where it is unbound
abbrev pub image_of : Subst → Var → SetTerm
image_of by v = image_or_self v (set_image by.sets v)

-- the variables of the images, in order and with repeats
abbrev pub image_vars : Subst → List Var → List Var
image_vars by vs = flat_map (λ (i : SetTerm). i.vars) (map (image_of by) vs)

-- the elements of the images, in order and with repeats
abbrev pub image_elems : Subst → List Var → List Term
image_elems by vs = flat_map (λ (i : SetTerm). i.elems) (map (image_of by) vs)

-- all that the substitution brings to the union's elements, with repeats
abbrev pub brought : Subst → SetTerm → List Term
brought by u = image_elems by u.vars ++ map (apply_term by) u.elems
