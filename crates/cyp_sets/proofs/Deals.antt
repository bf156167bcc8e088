-- What is wanted is dealt to classes, one want after the other.
use Rattle.std.proofs.Common.{◌≡◌, ◌≢◌, ℕ, zero, suc, ◌+◌, ◌*◌, ◌%◌, ◌^◌, ◌<◌, ◌≤◌, Bool, true, false, not, List, [], ◌∷◌, length, get_or, take, drop, filter, Some, refl, sym, ap, ap₂, subst, ◌∙◌, lit<, inl, inr, arith}
use Rattle.std.proofs.Math.ListN.{set, length-set}
use Rattle.std.proofs.Math.Nat.{one-mul}
use Rattle.std.proofs.Math.Pow.{shl_exact}
use Rattle.std.proofs.lemmas.Bool.{both_ways, cases_Bool, cases_eq, not_from_false}
use Rattle.std.proofs.lemmas.List.{get_or-set_same, get_or-set_other, get_or_read, set-get_or, set-set}
use Rattle.std.proofs.lemmas.List.Elements.{All-append, All-cons, All-drop, All-get_or, All-head, All-nil, All-tail, All-take, All-weaker}
use Rattle.std.proofs.lemmas.Option.{unwrap_or-slice_get}
use Rattle.std.specs.List.{All, Contains, range_with_len, remove, slice_get}
use Rattle.std.specs.Option.{unwrap_or}
use Rattle.cyp_term.proofs.Lists.{some_from}
use Rattle.cyp_sets.specs.declared.masks.Want.{Want}
use Rattle.cyp_sets.specs.Masks.{shows}
use Rattle.cyp_sets.specs.Dealing.{Deals, DealsFrom, ShownAt, integer, shown_in, ways_to_show}
use Rattle.cyp_sets.proofs.Containing.{Among-from_contains, Contains-filter_in, Contains-filter_out, Contains-range, none_filtered}

-- ---- nothing is wanted

-- the first of a list's numbers
abbrev first : List ℕ → ℕ
first [] = 0
first (x ∷ xs) = x

contains-first : (xs : List ℕ) → xs ≢ [] → Contains xs (first xs)
contains-first [] h = absurd (h refl)
contains-first (x ∷ xs) h = (0, omega arith, refl)

pub deals_nothing : (ws : List Want) (lists : List (List ℕ)) → ws ≡ [] → All (λ rs. rs ≢ []) lists → Deals ws lists
deals_nothing ws lists e h = record {
  region = λ i. first (get_or lists i []);
  listed = λ i lt. contains-first (get_or lists i []) (h i [] lt);
  shown = subst (All (ShownAt lists (λ i. first (get_or lists i [])))) (sym e) (All-nil _);
}

-- ---- one want is taken out

module _ {X : Type 0} (P : X → Type 0) where
  All-remove : (xs : List X) (k : ℕ) → All P xs → All P (remove xs k)
  All-remove xs k h = All-append P (take k xs) (drop (suc k) xs) (All-take P k xs h) (All-drop P (suc k) xs h)

  All-put : (xs : List X) (k : ℕ) (d : X) → k < length xs → P (get_or xs k d) → All P (remove xs k) → All P xs
  All-put [] k d lt h g = absurd (omega arith)
  All-put (x ∷ xs) zero d lt h g = All-cons P x xs h g
  All-put (x ∷ xs) (suc k) d lt h g = All-cons P x xs (All-head P x (remove xs k) g) (All-put xs k d (omega arith) h (All-tail P x (remove xs k) g))

pub deals_taken : (ws : List Want) (lists : List (List ℕ)) (k : ℕ) (d : Want) → k < length ws → Deals ws lists → DealsFrom 0 (get_or ws k d) (remove ws k) lists
deals_taken ws lists k d lt h = record {
  deals = record { region = h.region; listed = h.listed; shown = All-remove (ShownAt lists h.region) ws k h.shown };
  shows_at = All-get_or (ShownAt lists h.region) ws k d lt h.shown;
  from = omega arith;
}

pub deals_put : (ws : List Want) (lists : List (List ℕ)) (k : ℕ) (d : Want) → k < length ws → DealsFrom 0 (get_or ws k d) (remove ws k) lists → Deals ws lists
deals_put ws lists k d lt h =
    let e = h.deals in
    record { region = e.region; listed = e.listed; shown = All-put (ShownAt lists e.region) ws k d lt h.shows_at e.shown }

pub no_way : (ws : List Want) (lists : List (List ℕ)) (k : ℕ) (d : Want) → k < length ws → ways_to_show (get_or ws k d) lists ≡ 0 → Deals ws lists → ⊥
no_way ws lists k d lt none h =
    let w = get_or ws k d in
    let at : ShownAt lists h.region w = All-get_or (ShownAt lists h.region) ws k d lt h.shown in
    let rs = get_or lists at.0 [] in
    let shown : shown_in rs (2 ^ at.0) w ≡ true = some_from (λ r. shows (integer (2 ^ at.0) r) w) (h.region at.0) rs (Among-from_contains (h.region at.0) rs (h.listed at.0 at.1)) at.2 in
    none_filtered (λ i. shown_in (get_or lists i []) (2 ^ i) w) at.0 (range_with_len 0 (length lists)) (Contains-range (length lists) at.0 at.1) none shown

-- ---- fewer regions of one class

module _ (lists : List (List ℕ)) (i : ℕ) (xs : List ℕ) (lt : i < length lists) where
  abbrev Listed : List (List ℕ) → (ℕ → ℕ) → ℕ → Type 0
  Listed ls region j = Contains (get_or ls j []) (region j)

  same_length : length (set lists i xs) ≡ length lists
  same_length = length-set lists i xs

  pub listed_here : (region : ℕ → ℕ) → Listed (set lists i xs) region i → Contains xs (region i)
  listed_here region h = subst (λ ys. Contains ys (region i)) (get_or-set_same lists i xs [] lt) h

  listed_out : (region : ℕ → ℕ) → Contains (get_or lists i []) (region i) → (j : ℕ) → Listed (set lists i xs) region j → Listed lists region j
  listed_out region at j h =
      elim (cases_eq j i) [
        | inl e ↦ subst (Listed lists region) (sym e) at
        | inr n ↦ subst (λ ys. Contains ys (region j)) (get_or-set_other lists i j xs [] n) h
      ]

  listed_in : (region : ℕ → ℕ) → Contains xs (region i) → (j : ℕ) → Listed lists region j → Listed (set lists i xs) region j
  listed_in region at j h =
      elim (cases_eq j i) [
        | inl e ↦ subst (Listed (set lists i xs) region) (sym e) (subst (λ ys. Contains ys (region i)) (sym (get_or-set_same lists i xs [] lt)) at)
        | inr n ↦ subst (λ ys. Contains ys (region j)) (sym (get_or-set_other lists i j xs [] n)) h
      ]

  pub at_set : (ws : List Want) (d : Deals ws (set lists i xs)) → Contains xs (d.region i)
  at_set ws d = listed_here d.region (d.listed i (omega (arith, same_length)))

  pub deals_out : (ws : List Want) (d : Deals ws (set lists i xs)) → Contains (get_or lists i []) (d.region i) → Deals ws lists
  deals_out ws d at = record {
    region = d.region;
    listed = λ j l. listed_out d.region at j (d.listed j (omega (arith, same_length)));
    shown = All-weaker (ShownAt (set lists i xs) d.region) (ShownAt lists d.region) (λ w s. (s.0, omega (arith, s.1, same_length), s.2)) ws d.shown;
  }

  pub deals_in : (ws : List Want) (d : Deals ws lists) → Contains xs (d.region i) → Deals ws (set lists i xs)
  deals_in ws d at = record {
    region = d.region;
    listed = λ j l. listed_in d.region at j (d.listed j (omega (arith, same_length)));
    shown = All-weaker (ShownAt lists d.region) (ShownAt (set lists i xs) d.region) (λ w s. (s.0, omega (arith, s.1, same_length), s.2)) ws d.shown;
  }

  pub deals_none : (ws : List Want) → length xs ≡ 0 → Deals ws (set lists i xs) → ⊥
  deals_none ws e d = omega (arith, e, (at_set ws d).1)

-- ---- one want at one class

-- the regions of the class with which it shows the want, and the others
abbrev pub showing : ℕ → Want → List (List ℕ) → List ℕ
showing i w lists = filter (λ r. shows (integer (2 ^ i) r) w) (get_or lists i [])

abbrev pub hiding : ℕ → Want → List (List ℕ) → List ℕ
hiding i w lists = filter (λ r. not (shows (integer (2 ^ i) r) w)) (get_or lists i [])

module _ (i : ℕ) (w : Want) (ws : List Want) (lists : List (List ℕ)) (lt : i < length lists) where
  pub deals_here : Deals ws (set lists i (showing i w lists)) → DealsFrom i w ws lists
  unfolding deals_out
  deals_here d =
      let at = Contains-filter_out (λ r. shows (integer (2 ^ i) r) w) (d.region i) (get_or lists i []) (at_set lists i (showing i w lists) lt ws d) in
      record { deals = deals_out lists i (showing i w lists) lt ws d at.0; shows_at = (i, lt, at.1); from = omega arith }

  pub deals_there : DealsFrom (i + 1) w ws (set lists i (hiding i w lists)) → DealsFrom i w ws lists
  unfolding deals_out
  deals_there h =
      let d = h.deals in
      let s = h.shows_at in
      let at = Contains-filter_out (λ r. not (shows (integer (2 ^ i) r) w)) (d.region i) (get_or lists i []) (at_set lists i (hiding i w lists) lt ws d) in
      record {
        deals = deals_out lists i (hiding i w lists) lt ws d at.0;
        shows_at = (s.0, omega (arith, s.1, length-set lists i (hiding i w lists)), s.2);
        from = omega (arith, h.from);
      }

  not_here : (h : DealsFrom i w ws lists) → shows (integer (2 ^ i) (h.deals.region i)) w ≡ false → i + 1 ≤ h.shows_at.0
  not_here h e =
      let s = h.shows_at in
      elim (cases_eq i s.0) [
        | inl same ↦ absurd (both_ways _ e (subst (λ j. shows (integer (2 ^ j) (h.deals.region j)) w ≡ true) (sym same) s.2))
        | inr other ↦ omega (arith, h.from)
      ]

  pub deals_either : DealsFrom i w ws lists → (Deals ws (set lists i (showing i w lists)) → ⊥) → DealsFrom (i + 1) w ws (set lists i (hiding i w lists))
  unfolding deals_in
  deals_either h none =
      let d = h.deals in
      elim (cases_Bool (shows (integer (2 ^ i) (d.region i)) w)) [
        | inl e ↦ absurd (none (deals_in lists i (showing i w lists) lt ws d (Contains-filter_in (λ r. shows (integer (2 ^ i) r) w) (d.region i) (get_or lists i []) (d.listed i lt) e)))
        | inr e ↦ (let s = h.shows_at in record {
          deals = deals_in lists i (hiding i w lists) lt ws d (Contains-filter_in (λ r. not (shows (integer (2 ^ i) r) w)) (d.region i) (get_or lists i []) (d.listed i lt) (not_from_false _ e));
          shows_at = (s.0, omega (arith, s.1, length-set lists i (hiding i w lists)), s.2);
          from = not_here h e;
        })
      ]

-- ---- what the code reads

pub no_items : {X : Type 0} (xs : List X) → length xs ≡ 0 → xs ≡ []
no_items [] e = refl
no_items (x ∷ xs) e = absurd (omega arith)

-- the bit of the class at a place
pub class_is : (i n : ℕ) → i < n → n ≤ 6 → 1 * 2 ^ i % 2 ^ 8 ≡ 2 ^ i
class_is i n lt few = shl_exact 1 i 8 (lit< tt) (omega arith) ∙ one-mul (2 ^ i)

-- a class's regions with a test, as the code finds them
pub tested_is : (test : ℕ → ℕ → Bool) (i : ℕ) (lists seen : List (List ℕ)) (row rs xs : List ℕ) → i < length lists → length lists ≤ 6 → seen ≡ lists → row ≡ get_or seen i row → rs ≡ row → xs ≡ filter (test (1 * 2 ^ i % 2 ^ 8)) rs → xs ≡ filter (test (2 ^ i)) (get_or lists i [])
tested_is test i lists seen row rs xs lt few es er ers e =
    e ∙ ap₂ (λ (n : ℕ) (ys : List ℕ). filter (test n) ys) (class_is i (length lists) lt few) (ers ∙ get_or_read lists i row lt (er ∙ ap (λ ls. get_or ls i row) es) [])

pub put_back : (lists fewer again back : List (List ℕ)) (i : ℕ) (x y : List ℕ) → slice_get lists i ≡ Some x → fewer ≡ set lists i y → again ≡ fewer → back ≡ set again i x → back ≡ lists
put_back lists fewer again back i x y is e f g =
    let was : x ≡ get_or lists i [] = sym (ap (λ o. unwrap_or o []) is) ∙ unwrap_or-slice_get lists i [] in
    g ∙ ap₂ (λ ls z. set ls i z) (f ∙ e) was ∙ set-set lists i y (get_or lists i []) ∙ set-get_or lists i []

-- the want that is taken out, and the rest
pub taken_is : (ws items : List Want) (k : ℕ) (want : Want) → want ≡ get_or items k want → items ≡ ws → want ≡ get_or ws k want
taken_is ws items k want is e = is ∙ ap (λ vs. get_or vs k want) e

pub rest_is : (ws items new seen : List Want) (k : ℕ) → seen ≡ new → new ≡ remove items k → items ≡ ws → seen ≡ remove ws k
rest_is ws items new seen k es en e = es ∙ en ∙ ap (λ vs. remove vs k) e
