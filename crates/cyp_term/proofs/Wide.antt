-- When a set term has an element past the range after a substitution.
use Rattle.std.proofs.Common.{◌≡◌, ◌∙◌, ◌<◌, ◌≤◌, ℕ, ◌+◌, List, ◌∷◌, ◌++◌, Bool, true, false, ◌||◌, ap, drop, get_or, length, map, sym}
use Rattle.std.specs.List.{list_any}
use Rattle.std.proofs.lemmas.List.{append-nil, at_drop_all}
use Rattle.std.proofs.lemmas.List.Folds.{list_any-append}
use Rattle.cyp_term.specs.declared.lit.SetTerm.{SetTerm}
use Rattle.cyp_term.specs.declared.subst.Subst.{Subst}
use Rattle.cyp_term.specs.declared.term.Term.{Term}
use Rattle.cyp_term.specs.Images.{brought, image_elems}
use Rattle.cyp_term.specs.Terms.{apply_set, apply_term, term_eq, wide_set, wide_term}
use Rattle.cyp_term.proofs.Equality.{Decides-term_eq}
use Rattle.cyp_term.proofs.Repeats.{any_without_repeats}
use Rattle.cyp_term.proofs.Turns.{drop_here}

module _ (by : Subst) (u : SetTerm) (own : List Term) where
  -- the images' elements are there, and the images of the set term's own are left
  pub own_left : (made : List Term) → made ≡ image_elems by u.vars → own ≡ u.elems → made ++ map (apply_term by) own ≡ brought by u
  own_left made e p = ap (λ (us : List Term). us ++ map (apply_term by) own) e ∙ ap (λ (es : List Term). image_elems by u.vars ++ map (apply_term by) es) p

  -- the images' elements are in range
  pub narrow_images : list_any wide_term (image_elems by u.vars) ≡ false → own ≡ u.elems → list_any wide_term (brought by u) ≡ list_any wide_term (map (apply_term by) own)
  narrow_images h p =
      let images : List Term = image_elems by u.vars in
      list_any-append wide_term images (map (apply_term by) u.elems) ∙ ap (λ (b : Bool). b || list_any wide_term (map (apply_term by) u.elems)) h
      ∙ sym (ap (λ (es : List Term). list_any wide_term (map (apply_term by) es)) p)

  wide_brought : wide_set (apply_set by u) ≡ list_any wide_term (brought by u)
  wide_brought = any_without_repeats term_eq Decides-term_eq wide_term (brought by u)

  -- the element's image is past the range
  pub wide_here : (i : ℕ) (e : Term) → i < length own → e ≡ get_or own i e → list_any wide_term (brought by u) ≡ list_any wide_term (map (apply_term by) (drop i own)) → wide_term (apply_term by e) ≡ true → wide_set (apply_set by u) ≡ true
  wide_here i e lt is h w =
      let rest : List Term = drop (i + 1) own in
      wide_brought ∙ h ∙ ap (λ (es : List Term). list_any wide_term (map (apply_term by) es)) (drop_here own i e lt)
      ∙ sym (ap (λ (t : Term). list_any wide_term (map (apply_term by) (t ∷ rest))) is) ∙ ap (λ (b : Bool). b || list_any wide_term (map (apply_term by) rest)) w

  -- no element's image is
  pub none_wide : (i : ℕ) → length own ≤ i → list_any wide_term (brought by u) ≡ list_any wide_term (map (apply_term by) (drop i own)) → wide_set (apply_set by u) ≡ false
  none_wide i le h = wide_brought ∙ h ∙ at_drop_all (λ (es : List Term). list_any wide_term (map (apply_term by) es)) own i le

  -- none is left to be added
  pub none_left : (i : ℕ) → length own ≤ i → (made whole : List Term) → made ++ map (apply_term by) (drop i own) ≡ whole → made ≡ whole
  none_left i le made whole h = sym (append-nil made) ∙ sym (at_drop_all (λ (es : List Term). made ++ map (apply_term by) es) own i le) ∙ h
