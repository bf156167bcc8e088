-- Regions as lists of set variables and as numbers, and which integers have which masks.
use Rattle.std.proofs.Common.{◌≡◌, ℕ, ◌^◌, ◌<◌, ◌==◌, true, List, length, get_or, map, filter, flat_map, Some, None, refl, sym, ap, subst, ◌∙◌, IsTrue}
use Rattle.std.proofs.lemmas.Bool.Decides.{Decides-eqb}
use Rattle.std.specs.List.{list_all, range_with_len}
use Rattle.cyp_term.specs.declared.lit.Lit.{Lit}
use Rattle.cyp_term.specs.declared.term.Sort.TheVariants.{Set}
use Rattle.cyp_term.specs.declared.term.Term.{Term}
use Rattle.cyp_term.specs.declared.term.Var.{Var}
use Rattle.cyp_term.specs.Regions.{Spot, all_set_vars, all_terms, allowed, allows, classes_of, elem_terms, parts, term_in}
use Rattle.cyp_term.specs.Terms.{term_eq, var_eq, var_in, without_repeats}
use Rattle.cyp_term.proofs.Equality.{Decides-term_eq, Decides-var_eq}
use Rattle.cyp_term.proofs.Lists.{Among, Among-map, Decides-some, filter_in, filter_out, map_from}
use Rattle.cyp_term.proofs.Repeats.{without_repeats_in, without_repeats_out}
use Rattle.cyp_sets.specs.declared.masks.Rule.{Rule}
use Rattle.cyp_sets.specs.declared.masks.Want.{Want}
use Rattle.cyp_sets.specs.Dealing.{allowed_regions, integer}
use Rattle.cyp_sets.specs.Masks.{obeys, share}
use Rattle.cyp_sets.specs.Names.{IsMaskOf, Named, class_in, names_of, place}
use Rattle.cyp_sets.specs.Saying.{Says}
use Rattle.cyp_sets.proofs.Bits.{mask_by, mask_by-lt, share-mask_by, share-pow}
use Rattle.cyp_sets.proofs.Choices.{filter-parts}
use Rattle.cyp_sets.proofs.Containing.{Among-range, range_lt}
use Rattle.cyp_sets.proofs.Once.{Once, map-class_by, once-without_repeats, place-once}
use Rattle.cyp_sets.proofs.Places.{place-at}
use Rattle.cyp_sets.proofs.Sayings.{same_tests}

-- ---- regions

-- some variable, which is never looked at
abbrev no_var : Var
no_var = record { sort = Set; number = 0 }

module _ (vars : List Var) where
  abbrev bit_of : Var → ℕ
  bit_of v = 2 ^ place var_eq vars v

  -- the region has the variables whose bits the number has
  abbrev pub Agrees : List Var → ℕ → Type 0
  Agrees r m = (v : Var) → IsTrue (var_in v vars) → var_in v r ≡ share m (bit_of v)

  -- the variables whose bits the number has
  abbrev pub region_of : ℕ → List Var
  region_of m = filter (λ v. share m (bit_of v)) vars

  among : (v : Var) (r : List Var) → var_in v r ≡ true → Among v r
  among v r e = (Decides-some (λ w. v ≡ w) (var_eq v) (Decides-var_eq v) r).0 e

  within : (v : Var) (r : List Var) → Among v r → var_in v r ≡ true
  within v r i = (Decides-some (λ w. v ≡ w) (var_eq v) (Decides-var_eq v) r).1 i

  pub agrees-region_of : (m : ℕ) → Agrees (region_of m) m
  agrees-region_of m v h =
      same_tests (var_in v (region_of m)) (share m (bit_of v))
      (λ e. (filter_out (λ w. share m (bit_of w)) v vars (among v (region_of m) e)).1)
      (λ e. within v (region_of m) (filter_in (λ w. share m (bit_of w)) v vars (among v vars h) e))

  pub region_of-part : (m : ℕ) → Among (region_of m) (parts vars)
  region_of-part m = filter-parts (λ v. share m (bit_of v)) vars

  -- the number that has the bits of the region's variables
  abbrev pub number_of : List Var → ℕ
  number_of r = mask_by (λ k. var_in (get_or vars k no_var) r) (length vars)

  pub agrees-number_of : (r : List Var) → Agrees r (number_of r)
  agrees-number_of r v h =
      let at = place-at var_eq Decides-var_eq vars v no_var (among v vars h) in
      ap (λ w. var_in w r) (sym at.1) ∙ sym (share-mask_by (λ k. var_in (get_or vars k no_var) r) (length vars) (place var_eq vars v) at.0)

  pub number_of-lt : (r : List Var) → number_of r < 2 ^ length vars
  number_of-lt r = mask_by-lt (λ k. var_in (get_or vars k no_var) r) (length vars)

-- ---- classes

module _ (ls : List Lit) (cs : List ℕ) (same : length cs ≡ length (all_terms ls)) where
  abbrev pub names : Named
  names = names_of ls cs

  abbrev pub class : Term → ℕ
  class = class_in names

  abbrev pub kinds : List ℕ
  kinds = names.kinds

  terms_once : Once (all_terms ls)
  unfolding all_terms
  terms_once = once-without_repeats term_eq Decides-term_eq (flat_map elem_terms ls)

  pub kinds_once : Once kinds
  kinds_once = once-without_repeats ◌==◌ Decides-eqb cs

  pub classes_are : classes_of class ls ≡ kinds
  classes_are = ap (without_repeats ◌==◌) (map-class_by (all_terms ls) cs terms_once same)

  pub class_kind : (e : Term) → Among e (all_terms ls) → Among (class e) kinds
  class_kind e i = subst (λ ks. Among (class e) ks) classes_are (without_repeats_in ◌==◌ Decides-eqb (class e) (map class (all_terms ls)) (Among-map class e (all_terms ls) i))

  pub kind_class : (k : ℕ) → Among k kinds → (e : Term) × Among e (all_terms ls) × (k ≡ class e)
  kind_class k i =
      map_from class k (all_terms ls) (without_repeats_out ◌==◌ Decides-eqb k (map class (all_terms ls)) (subst (λ ks. Among k ks) (sym classes_are) i))

  pub kind_at : (k : ℕ) → Among k kinds → (place ◌==◌ kinds k < length kinds) × (get_or kinds (place ◌==◌ kinds k) 0 ≡ k)
  kind_at k i = place-at ◌==◌ Decides-eqb kinds k 0 i

  pub place_at : (i : ℕ) → i < length kinds → place ◌==◌ kinds (get_or kinds i 0) ≡ i
  place_at i lt = place-once ◌==◌ Decides-eqb kinds i 0 kinds_once lt

  same_kind : (j k : ℕ) → Among j kinds → Among k kinds → (j == k) ≡ (place ◌==◌ kinds j == place ◌==◌ kinds k)
  same_kind j k hj hk =
      same_tests (j == k) (place ◌==◌ kinds j == place ◌==◌ kinds k)
      (λ e. (Decides-eqb _ _).1 (ap (place ◌==◌ kinds) ((Decides-eqb j k).0 e)))
      (λ e. (Decides-eqb j k).1 (sym (kind_at j hj).1 ∙ ap (λ i. get_or kinds i 0) ((Decides-eqb _ _).0 e) ∙ (kind_at k hk).1))

  term_among : (e : Term) → IsTrue (term_in e (all_terms ls)) → Among e (all_terms ls)
  term_among e h = (Decides-some (λ t. e ≡ t) (term_eq e) (Decides-term_eq e) (all_terms ls)).0 h

  -- ---- masks of integers

  pub mask_in_class : (k : ℕ) (r : List Var) (m : ℕ) → Among k kinds → Agrees (all_set_vars ls) r m → IsMaskOf names (record { class = Some k; region = r }) (integer (2 ^ place ◌==◌ kinds k) m)
  mask_in_class k r m i h = record {
    region = h;
    class = λ e t. same_kind k (class e) i (class_kind e (term_among e t)) ∙ sym (share-pow (place ◌==◌ kinds k) (place ◌==◌ kinds (class e)));
  }

  pub mask_outside : (r : List Var) (m : ℕ) → Agrees (all_set_vars ls) r m → IsMaskOf names (record { class = None; region = r }) (integer 0 m)
  mask_outside r m h = record { region = h; class = λ e t. refl }

  -- ---- allowed regions

  module _ (rules : List Rule) (wants : List Want) (says : Says names ls rules wants) where
    pub allowed_number : (x : Spot) (classes m : ℕ) → IsMaskOf names x (integer classes m) → m < 2 ^ length (all_set_vars ls) → Among x.region (allowed class ls x.class) → Among m (allowed_regions rules (2 ^ length (all_set_vars ls)) classes)
    allowed_number x classes m is lt i =
        filter_in (λ r. list_all (obeys (integer classes r)) rules) m (range_with_len 0 (2 ^ length (all_set_vars ls))) (Among-range (2 ^ length (all_set_vars ls)) m lt)
        (sym (says.ruled x (integer classes m) is) ∙ (filter_out (λ r. list_all (allows class (record { class = x.class; region = r })) ls) x.region (parts (all_set_vars ls)) i).1)

    pub allowed_region : (x : Spot) (classes m : ℕ) → IsMaskOf names x (integer classes m) → Among x.region (parts (all_set_vars ls)) → Among m (allowed_regions rules (2 ^ length (all_set_vars ls)) classes) → Among x.region (allowed class ls x.class)
    allowed_region x classes m is part i =
        filter_in (λ r. list_all (allows class (record { class = x.class; region = r })) ls) x.region (parts (all_set_vars ls)) part
        (says.ruled x (integer classes m) is ∙ (filter_out (λ r. list_all (obeys (integer classes r)) rules) m (range_with_len 0 (2 ^ length (all_set_vars ls))) i).1)

    pub allowed_below : (classes m : ℕ) → Among m (allowed_regions rules (2 ^ length (all_set_vars ls)) classes) → m < 2 ^ length (all_set_vars ls)
    allowed_below classes m i = range_lt (2 ^ length (all_set_vars ls)) m (filter_out (λ r. list_all (obeys (integer classes r)) rules) m (range_with_len 0 (2 ^ length (all_set_vars ls))) i).0
