-- Of the uses seen so far the first of each name decide.
use Rattle.std.proofs.Common.{List, None, Option, Some, [], add-one, ap, cond, drop, drop-cons, false, length, map, refl, suc, sym, take, true, ℕ, ◌+◌, ◌++◌, ◌<◌, ◌∙◌, ◌∷◌, ◌≡◌}
use Rattle.std.specs.Prelude.{Bool, get_or}
use Rattle.std.specs.List.{list_any}
use Rattle.std.specs.Str.{bytes_eq}
use Rattle.std.proofs.lemmas.Slice.Eq.{bytes_eq-Decides}
use Rattle.std.proofs.Math.Seq.{take-suc}
use Rattle.std.proofs.lemmas.List.{map-append}
use Rattle.cyp_lex.specs.declared.ident.Ident.{Ident}
use Rattle.cyp_lex.specs.declared.fault.Fault.{Fault}
use Rattle.cyp_names.specs.LeastFaults.{lesser_of, noted, repeat_fault}
use Rattle.cyp_term.specs.declared.term.Sort.{Sort}
use Rattle.cyp_names.specs.NameFaults.{known_sort, repeats, sort_fault, sort_faults}
use Rattle.cyp_names.specs.FaultOrder.{least_fault}
use Rattle.cyp_names.specs.Uses.{Use}
use Rattle.cyp_names.proofs.LesserFaults.{least_parts}

-- the same sort is known of each name
abbrev pub Knows : List Use → List Use → Type 0
Knows xs ys = (a : List ℕ) → known_sort xs a ≡ known_sort ys a

-- the first, or else the second
abbrev either : Option Sort → Option Sort → Option Sort
either None r = r
either (Some s) r = Some s

either_first : (t : Bool) (s : Sort) (p q r : Option Sort) → p ≡ either q r → cond t (Some s) p ≡ either (cond t (Some s) q) r
either_first true s p q r e = refl
either_first false s p q r e = e

known_joined : (us zs : List Use) (a : List ℕ) → known_sort (us ++ zs) a ≡ either (known_sort us a) (known_sort zs a)
known_joined [] zs a = refl
known_joined (u ∷ us) zs a =
    either_first (bytes_eq u.name.text a) u.sort (known_sort (us ++ zs) a) (known_sort us a) (known_sort zs a) (known_joined us zs a)

knows_more : (xs ys zs : List Use) → Knows xs ys → Knows (xs ++ zs) (ys ++ zs)
knows_more xs ys zs h a = known_joined xs zs a ∙ ap (λ (s : Option Sort). either s (known_sort zs a)) (h a) ∙ sym (known_joined ys zs a)

either_none : (r : Option Sort) → either r None ≡ r
either_none None = refl
either_none (Some s) = refl

-- a use of a name that is known adds nothing
used_again : (seen : List Use) (u : Use) (s : Sort) → known_sort seen u.name.text ≡ Some s → Knows seen (seen ++ u ∷ [])
used_again seen u s e a = by_test (bytes_eq u.name.text a) refl ∙ sym (known_joined seen (u ∷ []) a)
  where
    by_test : (t : Bool) → bytes_eq u.name.text a ≡ t → known_sort seen a ≡ either (known_sort seen a) (cond t (Some u.sort) None)
    by_test false k = sym (either_none (known_sort seen a))
    by_test true k =
        let known : known_sort seen a ≡ Some s = ap (λ (b : List ℕ). known_sort seen b) (sym ((bytes_eq-Decides u.name.text a).0 k)) ∙ e in
        rw known refl

noted_knows : (seen : List Use) (u : Use) → Knows (noted (known_sort seen u.name.text) seen u) (seen ++ u ∷ [])
noted_knows seen u = by_known (known_sort seen u.name.text) refl
  where
    by_known : (k : Option Sort) → known_sort seen u.name.text ≡ k → Knows (noted k seen u) (seen ++ u ∷ [])
    by_known None e a = refl
    by_known (Some s) e a = used_again seen u s e a

sort_faults_known : (xs ys us : List Use) → Knows xs ys → sort_faults xs us ≡ sort_faults ys us
sort_faults_known xs ys [] h = refl
sort_faults_known xs ys (u ∷ us) h =
    rw (h u.name.text, sort_faults_known (xs ++ u ∷ []) (ys ++ u ∷ []) us (knows_more xs ys (u ∷ []) h)) refl

-- one use more
pub judged_more : (seen seen' us : List Use) (k : ℕ) (u : Use) (found f found' whole : Option Fault)
    → k < length us → u ≡ get_or us k u → seen' ≡ noted (known_sort seen u.name.text) seen u → f ≡ least_fault (sort_fault (known_sort seen u.name.text) u)
    → found' ≡ lesser_of found f
    → lesser_of found (least_fault (sort_faults seen (drop k us))) ≡ whole
    → lesser_of found' (least_fault (sort_faults seen' (drop (k + 1) us))) ≡ whole
judged_more seen seen' us k u found f found' whole below is new e more w =
    let left : List Use = drop (suc k) us in
    let parts : drop k us ≡ u ∷ left = drop-cons us k u below ∙ ap (λ (x : Use). x ∷ left) (sym is) in
    let rest : sort_faults seen' left ≡ sort_faults (seen ++ u ∷ []) left =
    rw new (sort_faults_known (noted (known_sort seen u.name.text) seen u) (seen ++ u ∷ []) left (noted_knows seen u)) in
    rw (add-one, rest, more)
    (least_parts found f (sort_fault (known_sort seen u.name.text) u) (sort_faults (seen ++ u ∷ []) left) e
    ∙ ap (λ (xs : List Use). lesser_of found (least_fault (sort_faults seen xs))) (sym parts)
    ∙ w)

-- ---- names that stand earlier

pub repeats_more : {A : Type 0} (name : A → Ident) (items : List A) (k : ℕ) (item : A) (found f found' whole : Option Fault)
    → k < length items → item ≡ get_or items k item → f ≡ least_fault (repeat_fault (map name (take k items)) (name item)) → found' ≡ lesser_of found f
    → lesser_of found (least_fault (repeats (map name (take k items)) (map name (drop k items)))) ≡ whole
    → lesser_of found' (least_fault (repeats (map name (take (k + 1) items)) (map name (drop (k + 1) items)))) ≡ whole
repeats_more {A} name items k item found f found' whole below is e more w =
    let left : List A = drop (suc k) items in
    let parts : drop k items ≡ item ∷ left = drop-cons items k item below ∙ ap (λ (x : A). x ∷ left) (sym is) in
    let seen : take (suc k) items ≡ take k items ++ item ∷ [] = take-suc items k item below ∙ ap (λ (x : A). take k items ++ x ∷ []) (sym is) in
    let before : List Ident = map name (take k items) in
    let names : map name (take (suc k) items) ≡ before ++ name item ∷ [] = ap (map name) seen ∙ map-append name (take k items) (item ∷ []) in
    rw (add-one, names, more)
    (least_parts found f (repeat_fault before (name item)) (repeats (before ++ name item ∷ []) (map name left)) e
    ∙ ap (λ (xs : List A). lesser_of found (least_fault (repeats before (map name xs)))) (sym parts)
    ∙ w)

pub known_here : (us : List Use) (k : ℕ) (u : Use) (name : List ℕ) (whole : Option Sort)
    → k < length us → u ≡ get_or us k u → bytes_eq u.name.text name ≡ true → known_sort (drop k us) name ≡ whole → Some u.sort ≡ whole
known_here us k u name whole below is same e =
    let parts : drop k us ≡ u ∷ drop (suc k) us = drop-cons us k u below ∙ ap (λ (x : Use). x ∷ drop (suc k) us) (sym is) in
    let here : known_sort (u ∷ drop (suc k) us) name ≡ Some u.sort = rw same refl in
    sym here ∙ ap (λ (xs : List Use). known_sort xs name) (sym parts) ∙ e

pub declared_here : {A : Type 0} (name : A → Ident) (test : Ident → Bool) (items : List A) (k : ℕ) (item : A) (whole : Bool)
    → k < length items → item ≡ get_or items k item → test (name item) ≡ true → list_any test (map name (drop k items)) ≡ whole → true ≡ whole
declared_here {A} name test items k item whole below is same e =
    let parts : drop k items ≡ item ∷ drop (suc k) items = drop-cons items k item below ∙ ap (λ (x : A). x ∷ drop (suc k) items) (sym is) in
    let here : list_any test (map name (item ∷ drop (suc k) items)) ≡ true = rw same refl in
    sym here ∙ ap (λ (xs : List A). list_any test (map name xs)) (sym parts) ∙ e
