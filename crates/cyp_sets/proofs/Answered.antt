-- What is answered for literals and classes.
use Rattle.std.proofs.Common.{◌≡◌, ◌↔◌, ℕ, pos, ◌^◌, Bool, List, length, Decides, sym, ap, subst, subst₂, ◌∙◌, IsTrue}
use Rattle.std.proofs.lemmas.Bool.Decides.{Decides-at, same_from_decides}
use Rattle.std.specs.List.{All}
use Rattle.cyp_term.specs.declared.lit.Lit.{Lit}
use Rattle.cyp_term.specs.declared.lit.Lit.TheVariants.{Same, NotSame, Member, NotMember, Sub, NotSub}
use Rattle.cyp_term.specs.declared.lit.SetTerm.{SetTerm}
use Rattle.cyp_term.specs.declared.term.Term.{Term}
use Rattle.cyp_term.specs.Regions.{HasSets, all_set_vars, all_terms, class_by, regions_fit, term_in}
use Rattle.cyp_term.specs.Terms.{term_eq, var_eq, var_in}
use Rattle.cyp_term.proofs.Equality.{Decides-term_eq, Decides-var_eq}
use Rattle.cyp_term.proofs.Lists.{Among, Decides-some}
use Rattle.cyp_term.proofs.Regions.{Decides-regions_by_class}
use Rattle.cyp_term.proofs.Spots.{IsLitOf, IsLitOf-among, IsOf}
use Rattle.cyp_sets.specs.declared.masks.Rule.{Rule}
use Rattle.cyp_sets.specs.declared.masks.Want.{Want}
use Rattle.cyp_sets.specs.Dealing.{Fits}
use Rattle.cyp_sets.specs.Names.{HasPlaces, Named, names_of}
use Rattle.cyp_sets.specs.Saying.{LitHasPlaces, Says}
use Rattle.cyp_sets.proofs.Containing.{All-from_among}
use Rattle.cyp_sets.proofs.Deciding.{Decides-fits}

-- ---- the names of literals have places

module _ (n : Named) where
  has_places : (u : SetTerm) → IsOf n.terms n.vars u → HasPlaces n u
  has_places u h = (
    All-from_among (λ v. IsTrue (var_in v n.vars)) u.vars (λ v i. (Decides-some (λ w. v ≡ w) (var_eq v) (Decides-var_eq v) n.vars).1 (h.0 v i)),
    All-from_among (λ e. IsTrue (term_in e n.terms)) u.elems (λ e i. (Decides-some (λ t. e ≡ t) (term_eq e) (Decides-term_eq e) n.terms).1 (h.1 e i)),
  )

  term_place : (e : Term) → Among e n.terms → IsTrue (term_in e n.terms)
  term_place e i = (Decides-some (λ t. e ≡ t) (term_eq e) (Decides-term_eq e) n.terms).1 i

  lit_placed : (l : Lit) → IsLitOf n.terms n.vars l → LitHasPlaces n l
  lit_placed (Same a b) h = (has_places a h.0, has_places b h.1)
  lit_placed (NotSame a b) h = (has_places a h.0, has_places b h.1)
  lit_placed (Member e a) h = (term_place e h.0, has_places a h.1)
  lit_placed (NotMember e a) h = (term_place e h.0, has_places a h.1)
  lit_placed (Sub a b) h = (has_places a h.0, has_places b h.1)
  lit_placed (NotSub a b) h = (has_places a h.0, has_places b h.1)
  lit_placed _ h = tt

pub all_placed : (ls : List Lit) (cs : List ℕ) (n : Named) → n ≡ names_of ls cs → All (LitHasPlaces n) ls
all_placed ls cs n e =
    subst (λ m. All (LitHasPlaces m) ls) (sym e) (All-from_among (LitHasPlaces (names_of ls cs)) ls (λ l i. lit_placed (names_of ls cs) l (IsLitOf-among l ls i)))

-- ---- answers

pub answered : (ls : List Lit) (cs : List ℕ) (n : Named) (rules : List Rule) (wants : List Want) (count m : ℕ) (b : Bool) → length cs ≡ length (all_terms ls) → n ≡ names_of ls cs → Says n ls rules wants → count ≡ 2 ^ length n.vars → m ≡ length n.kinds → IsTrue b ↔ Fits rules wants count m → b ≡ regions_fit (class_by (all_terms ls) cs) ls
answered ls cs n rules wants count m b same en says ec em h =
    let says' : Says (names_of ls cs) ls rules wants = subst (λ k. Says k ls rules wants) en says in
    let ec' : count ≡ 2 ^ length (all_set_vars ls) = ec ∙ ap (λ k. 2 ^ length k.vars) en in
    let em' : m ≡ length (names_of ls cs).kinds = em ∙ ap (λ k. length k.kinds) en in
    let decides : Decides b (Fits rules wants (2 ^ length (all_set_vars ls)) (length (names_of ls cs).kinds)) =
    subst₂ (λ c k. Decides b (Fits rules wants c k)) ec' em' (h.0, h.1) in
    same_from_decides b (regions_fit (class_by (all_terms ls) cs) ls) decides (Decides-fits ls cs same rules wants says')

pub exactly : (ls : List Lit) (cs : List ℕ) (b : Bool) → b ≡ regions_fit (class_by (all_terms ls) cs) ls → IsTrue b ↔ HasSets (λ t. pos (class_by (all_terms ls) cs t)) ls
exactly ls cs b e =
    let d = Decides-at b (regions_fit (class_by (all_terms ls) cs) ls) e (Decides-regions_by_class (class_by (all_terms ls) cs) ls) in (d.0, d.1)
