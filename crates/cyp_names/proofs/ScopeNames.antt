-- Different names of a scope are different variables.
use Rattle.std.proofs.Common.{List, [], append_assoc, append-nil, ap, arith, cond, false, inl, inr, refl, subst, sym, true, ℕ, ◌+◌, ◌++◌, ◌∙◌, ◌∷◌, ◌≡◌, ◌≢◌}
use Rattle.std.specs.Prelude.{Bool}
use Rattle.std.specs.List.{list_any}
use Rattle.std.specs.Str.{bytes_eq}
use Rattle.std.proofs.lemmas.Slice.Eq.{bytes_eq-Decides}
use Rattle.cyp_term.specs.Terms.{sort_eq, with_all_new}
use Rattle.cyp_term.specs.declared.term.Sort.{Sort}
use Rattle.cyp_term.specs.declared.term.Var.{Var}
use Rattle.cyp_term.proofs.Equality.{Decides-sort_eq}
use Rattle.cyp_term.proofs.Lists.{Among, Among-left, Among-right, some_out}
use Rattle.cyp_names.specs.ReadTerms.{Scope, rank_of, sort_in, var_named}
use Rattle.cyp_names.specs.Uses.{Use, same_name}

-- the name is that of one of these
abbrev pub Has : List Use → List ℕ → Type 0
Has sc name = (u : Use) × Among u sc × (u.name.text ≡ name)

-- ---- names and their variables

same_names : (a b : List ℕ) → bytes_eq a b ≡ true → a ≡ b
same_names a b e = (bytes_eq-Decides a b).0 e

other_names : (a b : List ℕ) → bytes_eq a b ≡ false → a ≢ b
other_names a b e same = let yes : bytes_eq a b ≡ true = (bytes_eq-Decides a b).1 same in absurd cc

pub has_later : (u : Use) (us : Scope) (a : List ℕ) → bytes_eq u.name.text a ≡ false → Has (u ∷ us) a → Has us a
has_later u us a e (w, inl same, n) = absurd (other_names u.name.text a e (ap (λ (x : Use). x.name.text) (sym same) ∙ n))
has_later u us a e (w, inr more, n) = (w, more, n)

ranks_by : (s : Sort) (u : Use) (us : Scope) (a b : List ℕ) (x y : Bool) → bytes_eq u.name.text a ≡ x → bytes_eq u.name.text b ≡ y → a ≢ b
    → cond x u.sort (sort_in us a) ≡ s → cond y u.sort (sort_in us b) ≡ s
    → (x ≡ false → y ≡ false → rank_of s us a ≢ rank_of s us b)
    → cond x 0 (cond (sort_eq u.sort s) 1 0 + rank_of s us a) ≢ cond y 0 (cond (sort_eq u.sort s) 1 0 + rank_of s us b)
ranks_by s u us a b true true p q differ i j ih = λ e. differ (sym (same_names u.name.text a p) ∙ same_names u.name.text b q)
ranks_by s u us a b true false p q differ i j ih = λ e.
    let one : sort_eq u.sort s ≡ true = (Decides-sort_eq u.sort s).1 i in
    let sums : 0 ≡ cond (sort_eq u.sort s) 1 0 + rank_of s us b = e in
    absurd (omega (arith, rw one at sums))
ranks_by s u us a b false true p q differ i j ih = λ e.
    let one : sort_eq u.sort s ≡ true = (Decides-sort_eq u.sort s).1 j in
    let sums : cond (sort_eq u.sort s) 1 0 + rank_of s us a ≡ 0 = e in
    absurd (omega (arith, rw one at sums))
ranks_by s u us a b false false p q differ i j ih = λ e. ih refl refl (omega (arith, e))

-- different names of a sort have different numbers
ranks_differ : (s : Sort) (sc : Scope) (a b : List ℕ) → Has sc a → Has sc b → a ≢ b → sort_in sc a ≡ s → sort_in sc b ≡ s → rank_of s sc a ≢ rank_of s sc b
ranks_differ s [] a b h k differ i j = absurd h.1
ranks_differ s (u ∷ us) a b h k differ i j =
    ranks_by s u us a b (bytes_eq u.name.text a) (bytes_eq u.name.text b) refl refl differ i j
    (λ p q. ranks_differ s us a b (has_later u us a p h) (has_later u us b q k) differ (later a p i) (later b q j))
  where
    later : (c : List ℕ) → bytes_eq u.name.text c ≡ false → cond (bytes_eq u.name.text c) u.sort (sort_in us c) ≡ s → sort_in us c ≡ s
    later c e w = rw e at w

-- different names are different variables
pub vars_differ : (sc : Scope) (a b : List ℕ) → Has sc a → Has sc b → a ≢ b → var_named sc a ≢ var_named sc b
vars_differ sc a b h k differ e =
    let sorts : sort_in sc a ≡ sort_in sc b = ap (λ (v : Var). v.sort) e in
    let numbers : rank_of (sort_in sc a) sc a ≡ rank_of (sort_in sc b) sc b = ap (λ (v : Var). v.number) e in
    ranks_differ (sort_in sc b) sc a b h k differ sorts refl (subst (λ (s : Sort). rank_of s sc a ≡ rank_of (sort_in sc b) sc b) sorts numbers)

-- ---- growing scopes

has_left : (us ws : Scope) (a : List ℕ) → Has us a → Has (us ++ ws) a
has_left us ws a h = (h.0, Among-left h.0 us ws h.1, h.2)

-- the scope with the names of these behind it: nothing goes, each of them is there, and a name has its first sort
pub record Grows (xs ys zs : Scope) : Type 0 where
  pub more : Scope
  pub parts : zs ≡ xs ++ more
  pub new_there : (u : Use) → Among u ys → Has zs u.name.text
  pub sorts : (a : List ℕ) → sort_in zs a ≡ sort_in (xs ++ ys) a
  pub only : (u : Use) → Among u more → Among u ys

sort_cons : (u : Use) (us ws : Scope) (a : List ℕ) → sort_in us a ≡ sort_in ws a → sort_in (u ∷ us) a ≡ sort_in (u ∷ ws) a
sort_cons u us ws a e = ap (λ (s : Sort). cond (bytes_eq u.name.text a) u.sort s) e

-- a second use of a name doesn't change its sort
sort_again : (xs : Scope) (y : Use) (ys : Scope) (a : List ℕ) → list_any (same_name y) xs ≡ true → sort_in (xs ++ ys) a ≡ sort_in (xs ++ (y ∷ ys)) a
sort_again xs y ys a e = let f = some_out (same_name y) xs e in at_first xs f.0 f.1 (same_names y.name.text f.0.name.text f.2)
  where
    by_name : (x : Use) (zs : Scope) → y.name.text ≡ x.name.text → (t : Bool) → bytes_eq x.name.text a ≡ t → cond t x.sort (sort_in (zs ++ ys) a) ≡ cond t x.sort (sort_in (zs ++ (y ∷ ys)) a)
    by_name x zs n true q = refl
    by_name x [] n false q = rw (n, q) refl
    by_name x (z ∷ zs) n false q = by_name' z zs (bytes_eq z.name.text a) refl
      where
        by_name' : (z : Use) (zs : Scope) (t : Bool) → bytes_eq z.name.text a ≡ t → cond t z.sort (sort_in (zs ++ ys) a) ≡ cond t z.sort (sort_in (zs ++ (y ∷ ys)) a)
        by_name' z zs true r = refl
        by_name' z [] false r = rw (n, q) refl
        by_name' z (w ∷ ws) false r = by_name' w ws (bytes_eq w.name.text a) refl

    at_first : (zs : Scope) (x : Use) → Among x zs → y.name.text ≡ x.name.text → sort_in (zs ++ ys) a ≡ sort_in (zs ++ (y ∷ ys)) a
    at_first [] x m n = absurd m
    at_first (z ∷ zs) x (inl s) n = by_name z zs (n ∙ ap (λ (u : Use). u.name.text) s) (bytes_eq z.name.text a) refl
    at_first (z ∷ zs) x (inr m) n = sort_cons z _ _ a (at_first zs x m n)

pub has_grown : (xs ys zs : Scope) (more : Scope) → zs ≡ xs ++ more → (a : List ℕ) → Has xs a → Has zs a
has_grown xs ys zs more e a h = subst (λ (us : Scope). Has us a) (sym e) (has_left xs more a h)

grow_by : (xs : Scope) (y : Use) (ys : Scope) (t : Bool) → list_any (same_name y) xs ≡ t → Grows xs ys (with_all_new same_name xs ys) → Grows (xs ++ y ∷ []) ys (with_all_new same_name (xs ++ y ∷ []) ys)
    → Grows xs (y ∷ ys) (with_all_new same_name (cond t xs (xs ++ y ∷ [])) ys)
grow_by xs y ys true e g h = record {
  more = g.more;
  parts = g.parts;
  new_there = there;
  sorts = λ a. g.sorts a ∙ sort_again xs y ys a e;
  only = λ u m. inr (g.only u m);
}
  where
    there : (u : Use) → Among u (y ∷ ys) → Has (with_all_new same_name xs ys) u.name.text
    there u (inr m) = g.new_there u m
    there u (inl s) =
        let f = some_out (same_name y) xs e in
        let same : f.0.name.text ≡ u.name.text = sym (same_names y.name.text f.0.name.text f.2) ∙ ap (λ (w : Use). w.name.text) (sym s) in
        has_grown xs ys _ g.more g.parts u.name.text (f.0, f.1, same)
grow_by xs y ys false e h g = record {
  more = y ∷ g.more;
  parts = g.parts ∙ append_assoc xs (y ∷ []) g.more;
  new_there = there;
  sorts = λ a. g.sorts a ∙ ap (λ (zs : Scope). sort_in zs a) (append_assoc xs (y ∷ []) ys);
  only = whose;
}
  where
    there : (u : Use) → Among u (y ∷ ys) → Has (with_all_new same_name (xs ++ y ∷ []) ys) u.name.text
    there u (inr m) = g.new_there u m
    there u (inl s) = has_grown (xs ++ y ∷ []) ys _ g.more g.parts u.name.text (y, Among-right y xs (y ∷ []) (inl refl), ap (λ (w : Use). w.name.text) (sym s))

    whose : (u : Use) → Among u (y ∷ g.more) → Among u (y ∷ ys)
    whose u (inl s) = inl s
    whose u (inr m) = inr (g.only u m)

pub grow : (xs ys : Scope) → Grows xs ys (with_all_new same_name xs ys)
grow xs [] = record {
  more = [];
  parts = sym (append-nil xs);
  new_there = λ u m. absurd m;
  sorts = λ a. ap (λ (zs : Scope). sort_in zs a) (sym (append-nil xs));
  only = λ u m. m;
}
grow xs (y ∷ ys) = grow_by xs y ys (list_any (same_name y) xs) refl (grow xs ys) (grow (xs ++ y ∷ []) ys)
