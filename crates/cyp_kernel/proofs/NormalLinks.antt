-- In a normal form too no existential of a companion has an image in its map.
use Rattle.std.proofs.Common.{◌≡◌, refl, Bool, true, false, cond, ◌&&◌, List, [], ◌∷◌, map, filter, Option, Some, IfSome}
use Rattle.std.specs.Prelude.{is_none}
use Rattle.std.specs.List.{AllByRecursion, list_all}
use Rattle.std.proofs.lemmas.Bool.{and_from, and_parts, false≢true}
use Rattle.cyp_goal.proofs.LinksNormal.{IsKept, IsKeptWithin, normal_kept}
use Rattle.cyp_goal.specs.Normal.{normal}
use Rattle.cyp_goal.specs.Pruning.{only_vars}
use Rattle.cyp_heap.specs.Goals.{apply_bind, apply_link, apply_set_bind}
use Rattle.cyp_heap.specs.declared.goal.Link.{Link}
use Rattle.cyp_heap.specs.declared.goal.Node.{Node}
use Rattle.cyp_kernel.proofs.FoundImages.{ExistFree}
use Rattle.cyp_kernel.proofs.LinksFree.{LinkFree, LinksFree}
use Rattle.cyp_term.proofs.Lists.{each_at, each_from}
use Rattle.cyp_term.specs.Terms.{int_image, set_image, set_vars, term_vars, var_eq, var_in}
use Rattle.cyp_term.specs.declared.subst.IntBind.{IntBind}
use Rattle.cyp_term.specs.declared.subst.SetBind.{SetBind}
use Rattle.cyp_term.specs.declared.subst.Subst.{Subst}
use Rattle.cyp_term.specs.declared.term.Var.{Var}

-- where the first has no image, the second has none
abbrev Fewer : Subst → Subst → Type 0
Fewer m k = ((v : Var) → is_none (int_image m.ints v) ≡ true → is_none (int_image k.ints v) ≡ true) × ((v : Var) → is_none (set_image m.sets v) ≡ true → is_none (set_image k.sets v) ≡ true)

none_both : {A B : Type 0} (c : Bool) (r : A) (o : Option A) (q : B) (p : Option B) → (is_none o ≡ true → is_none p ≡ true) → is_none (cond c (Some r) o) ≡ true → is_none (cond c (Some q) p) ≡ true
none_both true r o q p f h = h
none_both false r o q p f h = f h

none_without : {A : Type 0} (c : Bool) (r : A) (o : Option A) → is_none (cond c (Some r) o) ≡ true → is_none o ≡ true
none_without true r o h = absurd (false≢true h)
none_without false r o h = h

ints_applied : (by : Subst) (bs : List IntBind) (v : Var) → is_none (int_image bs v) ≡ true → is_none (int_image (map (apply_bind by) bs) v) ≡ true
ints_applied by [] v h = refl
ints_applied by (b ∷ bs) v h = none_both (var_eq b.var v) b.to (int_image bs v) (apply_bind by b).to (int_image (map (apply_bind by) bs) v) (ints_applied by bs v) h

sets_applied : (by : Subst) (bs : List SetBind) (v : Var) → is_none (set_image bs v) ≡ true → is_none (set_image (map (apply_set_bind by) bs) v) ≡ true
sets_applied by [] v h = refl
sets_applied by (b ∷ bs) v h = none_both (var_eq b.var v) b.to (set_image bs v) (apply_set_bind by b).to (set_image (map (apply_set_bind by) bs) v) (sets_applied by bs v) h

int_dropped : (c : Bool) (b : IntBind) (bs rest : List IntBind) (v : Var) → (is_none (int_image bs v) ≡ true → is_none (int_image rest v) ≡ true) → is_none (int_image (b ∷ bs) v) ≡ true
    → is_none (int_image (cond c (b ∷ rest) rest) v) ≡ true
int_dropped true b bs rest v more h = none_both (var_eq b.var v) b.to (int_image bs v) b.to (int_image rest v) more h
int_dropped false b bs rest v more h = more (none_without (var_eq b.var v) b.to (int_image bs v) h)

ints_left : (p : IntBind → Bool) (bs : List IntBind) (v : Var) → is_none (int_image bs v) ≡ true → is_none (int_image (filter p bs) v) ≡ true
ints_left p [] v h = refl
ints_left p (b ∷ bs) v h = int_dropped (p b) b bs (filter p bs) v (ints_left p bs v) h

set_dropped : (c : Bool) (b : SetBind) (bs rest : List SetBind) (v : Var) → (is_none (set_image bs v) ≡ true → is_none (set_image rest v) ≡ true) → is_none (set_image (b ∷ bs) v) ≡ true
    → is_none (set_image (cond c (b ∷ rest) rest) v) ≡ true
set_dropped true b bs rest v more h = none_both (var_eq b.var v) b.to (set_image bs v) b.to (set_image rest v) more h
set_dropped false b bs rest v more h = more (none_without (var_eq b.var v) b.to (set_image bs v) h)

sets_left : (p : SetBind → Bool) (bs : List SetBind) (v : Var) → is_none (set_image bs v) ≡ true → is_none (set_image (filter p bs) v) ≡ true
sets_left p [] v h = refl
sets_left p (b ∷ bs) v h = set_dropped (p b) b bs (filter p bs) v (sets_left p bs v) h

-- a test of a variable's images
abbrev NoImage : Subst → Var → Bool
NoImage m v = is_none (int_image m.ints v) && is_none (set_image m.sets v)

still_free : (m k : Subst) (exist : List Var) → Fewer m k → ExistFree m exist ≡ true → ExistFree k exist ≡ true
still_free m k exist f h =
    each_from (NoImage k) exist (λ v i.
    let both = and_parts (is_none (int_image m.ints v)) (is_none (set_image m.sets v)) (each_at (NoImage m) v exist h i) in
    and_from (is_none (int_image k.ints v)) (is_none (set_image k.sets v)) (f.0 v both.0) (f.1 v both.1))

links_applied : (by : Subst) (ls : List Link) → AllByRecursion LinkFree ls → AllByRecursion LinkFree (map (apply_link by) ls)
links_applied by [] h = tt
links_applied by (l ∷ ls) h = (still_free l.map (apply_link by l).map l.goal.exist (ints_applied by l.map.ints, sets_applied by l.map.sets) h.0, links_applied by ls h.1)

links_left : (vs : List Var) (ls : List Link) → AllByRecursion LinkFree ls → AllByRecursion LinkFree (map (λ (k : Link). record k { map = only_vars vs k.map }) ls)
links_left vs [] h = tt
links_left vs (l ∷ ls) h = (
  still_free l.map (only_vars vs l.map) l.goal.exist
      (ints_left (λ (b : IntBind). list_all (λ v. var_in v vs) (term_vars b.to)) l.map.ints, sets_left (λ (b : SetBind). list_all (λ v. var_in v vs) (set_vars b.to)) l.map.sets) h.0,
  links_left vs ls h.1,
)

links_free_kept : IsKept LinksFree
links_free_kept = record { applied = λ by k n h. links_applied by n.links h; beside = λ n g e f h. h; maps = λ n vs h. links_left vs n.links h }

pub normal_free : (n : Node) → LinksFree n → IfSome (normal n) (IsKeptWithin LinksFree)
normal_free = normal_kept LinksFree links_free_kept
