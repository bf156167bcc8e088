-- Names with some later repeats left out: their first occurrences stay.
use Rattle.std.proofs.Common.{Decides, List, [], ap, append_assoc, append-nil, cond, false, flat_map, inl, inr, map, refl, subst, sym, true, ◌++◌, ◌∙◌, ◌∷◌, ◌≡◌}
use Rattle.std.specs.Prelude.{Bool}
use Rattle.std.specs.List.{list_any}
use Rattle.std.proofs.lemmas.Grind.{flat_map-append}
use Rattle.std.proofs.lemmas.List.{map-append}
use Rattle.std.proofs.lemmas.Slice.Eq.{bytes_eq-Decides}
use Rattle.cyp_goal.proofs.AllNew.{with_all_new-there}
use Rattle.cyp_term.specs.Terms.{with_all_new, with_new, without_repeats}
use Rattle.cyp_term.proofs.Lists.{Among, Among-cases, Among-left, Among-right, each_from, flat_in, flat_out, some_from, some_out}
use Rattle.cyp_term.proofs.Repeats.{without_repeats_out}
use Rattle.cyp_names.specs.ReadTerms.{Scope}
use Rattle.cyp_names.specs.Uses.{Use, same_name}
use Rattle.cyp_formed.proofs.ClauseTerms.{Within}
use Rattle.cyp_formed.proofs.FirstNames.{new_append}
use Rattle.cyp_names.proofs.ScopeNames.{Has, grow}

-- the first occurrences of the names are those of the others, which have them all
pub record Firsts (ws us : List Use) : Type 0 where
  pub alike : (acc : Scope) → with_all_new same_name acc ws ≡ with_all_new same_name acc us
  pub within : Within ws us

pub firsts_same : (ws us : List Use) → ws ≡ us → Firsts ws us
firsts_same ws us e = record { alike = λ acc. ap (λ (xs : List Use). with_all_new same_name acc xs) e; within = λ u m. subst (λ (xs : List Use). Among u xs) e m }

pub firsts_then : (a b c : List Use) → Firsts a b → Firsts b c → Firsts a c
firsts_then a b c f g = record { alike = λ acc. f.alike acc ∙ g.alike acc; within = λ u m. g.within u (f.within u m) }

pub firsts_both : (a b c d : List Use) → Firsts a b → Firsts c d → Firsts (a ++ c) (b ++ d)
firsts_both a b c d f g = record {
  alike = λ acc. new_append acc a c ∙ ap (λ (xs : Scope). with_all_new same_name xs c) (f.alike acc) ∙ g.alike (with_all_new same_name acc b) ∙ sym (new_append acc b d);
  within = λ u m. elim (Among-cases u a c m) [ inl k ↦ Among-left u b d (f.within u k) | inr k ↦ Among-right u b d (g.within u k) ];
}

-- and where both are mapped
pub firsts_mapped : (k : Use → Use) (a b us ws : List Use) → Firsts a (map k us) → Firsts b (map k ws) → Firsts (a ++ b) (map k (us ++ ws))
firsts_mapped k a b us ws f g = firsts_then (a ++ b) (map k us ++ map k ws) (map k (us ++ ws)) (firsts_both a (map k us) b (map k ws) f g) (firsts_same _ _ (sym (map-append k us ws)))

pub firsts_each : {A : Type 0} (k : Use → Use) (f g : A → List Use) (xs : List A) → ((x : A) → Among x xs → Firsts (f x) (map k (g x))) → Firsts (flat_map f xs) (map k (flat_map g xs))
firsts_each k f g [] h = firsts_same [] [] refl
firsts_each k f g (x ∷ xs) h = firsts_mapped k (f x) (flat_map f xs) (g x) (flat_map g xs) (h x (inl refl)) (firsts_each k f g xs (λ y m. h y (inr m)))

-- ---- repeats left out

all_there : (acc ws us : List Use) → Within ws us → with_all_new same_name (with_all_new same_name acc us) ws ≡ with_all_new same_name acc us
all_there acc ws us w =
    with_all_new-there same_name (with_all_new same_name acc us) ws
    (each_from (λ y. list_any (same_name y) (with_all_new same_name acc us)) ws (λ y m. by_has y ((grow acc us).new_there y (w y m))))
  where
    by_has : (y : Use) → Has (with_all_new same_name acc us) y.name.text → list_any (same_name y) (with_all_new same_name acc us) ≡ true
    by_has y h = some_from (same_name y) h.0 (with_all_new same_name acc us) h.1 ((bytes_eq-Decides y.name.text h.0.name.text).1 (sym h.2))

module _ {A : Type 0} (eq : A → A → Bool) (decides : (x y : A) → Decides (eq x y) (x ≡ y)) (f : A → List Use) where
  -- an element that stands there already adds no names
  no_more : (seen : List A) (x : A) (rest acc : List Use) → Among x seen → with_all_new same_name acc (flat_map f seen ++ rest) ≡ with_all_new same_name acc (flat_map f seen ++ (f x ++ rest))
  no_more seen x rest acc m =
      new_append acc (flat_map f seen) rest
      ∙ ap (λ (us : Scope). with_all_new same_name us rest) (sym (all_there acc (f x) (flat_map f seen) (λ u n. flat_in f u x seen m n)))
      ∙ sym (new_append (with_all_new same_name acc (flat_map f seen)) (f x) rest) ∙ sym (new_append acc (flat_map f seen) (f x ++ rest))

  one_more : (seen : List A) (x : A) (rest : List Use) → flat_map f (seen ++ x ∷ []) ++ rest ≡ flat_map f seen ++ (f x ++ rest)
  one_more seen x rest =
      ap (λ (us : List Use). us ++ rest) (flat_map-append f seen (x ∷ []) ∙ ap (λ (us : List Use). flat_map f seen ++ us) (append-nil (f x))) ∙ append_assoc (flat_map f seen) (f x) rest

  news_alike : (seen xs : List A) (acc : Scope) → with_all_new same_name acc (flat_map f (with_all_new eq seen xs)) ≡ with_all_new same_name acc (flat_map f seen ++ flat_map f xs)
  news_alike seen [] acc = ap (λ (us : List Use). with_all_new same_name acc us) (sym (append-nil (flat_map f seen)))
  news_alike seen (x ∷ xs) acc = news_alike (with_new eq seen x) xs acc ∙ by_test (list_any (eq x) seen) refl
    where
      same_element : list_any (eq x) seen ≡ true → Among x seen
      same_element e = let o = some_out (eq x) seen e in subst (λ (y : A). Among y seen) (sym ((decides x o.0).0 o.2)) o.1

      by_test : (t : Bool) → list_any (eq x) seen ≡ t → with_all_new same_name acc (flat_map f (cond t seen (seen ++ x ∷ [])) ++ flat_map f xs) ≡ with_all_new same_name acc (flat_map f seen ++ (f x ++ flat_map f xs))
      by_test true e = no_more seen x (flat_map f xs) acc (same_element e)
      by_test false e = ap (λ (us : List Use). with_all_new same_name acc us) (one_more seen x (flat_map f xs))

  -- the elements without repeats have the first occurrences of all
  pub firsts_once : (xs : List A) → Firsts (flat_map f (without_repeats eq xs)) (flat_map f xs)
  firsts_once xs = record {
    alike = news_alike [] xs;
    within = λ u m. by_element u (flat_out f u (without_repeats eq xs) m);
  }
    where
      by_element : (u : Use) → (x : A) × Among x (without_repeats eq xs) × Among u (f x) → Among u (flat_map f xs)
      by_element u o = flat_in f u o.0 xs (without_repeats_out eq decides o.0 xs o.1) o.2
