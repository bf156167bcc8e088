-- The names by which variables are printed: different variables of a scope have different names, which are read back.
use Rattle.std.proofs.Common.{List, [], ap, arith, cond, decimal, false, inl, inr, map, refl, sym, true, ℕ, suc, ◌+◌, ◌++◌, ◌<◌, ◌∙◌, ◌∷◌, ◌≡◌, ◌≢◌, ◌^◌}
use Rattle.std.specs.Prelude.{Bool, ◌==◌}
use Rattle.std.specs.List.{list_all}
use Rattle.std.specs.Str.{bytes_eq}
use Rattle.std.proofs.lemmas.Bool.{and_parts, and_from}
use Rattle.std.proofs.lemmas.Bool.Decides.{nat_tests}
use Rattle.std.proofs.lemmas.Fmt.{decimal_injective}
use Rattle.std.proofs.lemmas.Slice.Eq.{bytes_eq-Decides}
use Rattle.cyp_lex.specs.Lexing.{is_digit, is_name_byte, name_kind, words}
use Rattle.cyp_lex.specs.declared.token.TokenKind.TheVariants as kinds
use Rattle.cyp_lex.proofs.TokenTexts.{IsText, a_name, decimal_digits}
use Rattle.cyp_term.specs.Terms.{sort_eq, with_all_new}
use Rattle.cyp_term.specs.declared.term.Sort.{Sort}
use Rattle.cyp_term.specs.declared.term.Sort.TheVariants.{Card, Int, Set}
use Rattle.cyp_term.specs.declared.term.Var.{Var}
use Rattle.cyp_writing.specs.PrintedTrees.{sort_letter, var_ident}
use Rattle.cyp_names.specs.ReadTerms.{Scope, rank_of, sort_in, use_var, var_named}
use Rattle.cyp_names.specs.Uses.{Use, same_name, use_of}
use Rattle.cyp_formed.proofs.FormedClauses.{rank_below}
use Rattle.cyp_formed.proofs.PlainSorts.{sort_plain}
use Rattle.cyp_formed.proofs.Maps.{all_new_kept}
use Rattle.cyp_names.proofs.ScopeNames.{Has, vars_differ}
use Rattle.cyp_formed.proofs.Nameables.{HasAll, Nameable}

-- ---- printed names

all_digits : (ds : List ℕ) → list_all is_digit ds ≡ true → list_all is_name_byte ds ≡ true
all_digits [] h = refl
all_digits (d ∷ ds) h =
    let parts = and_parts (is_digit d) (list_all is_digit ds) h in
    and_from (is_name_byte d) (list_all is_name_byte ds) (digit_byte d parts.0) (all_digits ds parts.1)
  where
    digit_byte : (d : ℕ) → is_digit d ≡ true → is_name_byte d ≡ true
    digit_byte d e = grind (arith, nat_tests)

no_word_x : (ds : List ℕ) → name_kind words (120 ∷ ds) ≡ kinds.Name
unfolding name_kind
no_word_x ds = refl

no_word_s : (ds : List ℕ) → list_all is_digit ds ≡ true → name_kind words (115 ∷ ds) ≡ kinds.Name
unfolding name_kind
no_word_s [] h = refl
no_word_s (d ∷ ds) h =
    let first : is_digit d ≡ true = (and_parts (is_digit d) (list_all is_digit ds) h).0 in
    rw (other d first) refl
  where
    other : (d : ℕ) → is_digit d ≡ true → (d == 101) ≡ false
    other d e = grind (arith, nat_tests)

-- a variable's name is no reserved word
pub var_name_text : (v : Var) → v.number < 2 ^ 63 → IsText kinds.Name (var_ident v).text
var_name_text v small = by_sort v.sort
  where
    ds : List ℕ
    ds = decimal (suc v.number)

    digits : list_all is_digit ds ≡ true
    digits = decimal_digits (suc v.number) (omega arith)

    by_sort : (s : Sort) → IsText kinds.Name (sort_letter s ++ ds)
    by_sort Set = a_name 115 ds refl (all_digits ds digits) (no_word_s ds digits)
    by_sort Int = a_name 120 ds refl (all_digits ds digits) (no_word_x ds)
    by_sort Card = a_name 120 ds refl (all_digits ds digits) (no_word_x ds)

same_letters : (s r : Sort) (xs ys : List ℕ) → s ≢ Card → r ≢ Card → sort_letter s ++ xs ≡ sort_letter r ++ ys → (s ≡ r) × (xs ≡ ys)
same_letters Card r xs ys n m e = absurd (n refl)
same_letters s Card xs ys n m e = absurd (m refl)
same_letters Int Int xs ys n m e = (refl, cc)
same_letters Set Set xs ys n m e = (refl, cc)
same_letters Int Set xs ys n m e = absurd (differ cc)
  where
    differ : ◌≡◌ {A = ℕ} 120 115 → ⊥
    differ k = omega arith
same_letters Set Int xs ys n m e = absurd (differ cc)
  where
    differ : ◌≡◌ {A = ℕ} 115 120 → ⊥
    differ k = omega arith

-- one name is one variable
one_var : (v w : Var) → v.sort ≢ Card → w.sort ≢ Card → v.number < 2 ^ 63 → w.number < 2 ^ 63 → (var_ident v).text ≡ (var_ident w).text → v ≡ w
one_var v w n m small short e =
    let both = same_letters v.sort w.sort (decimal (suc v.number)) (decimal (suc w.number)) n m e in
    let numbers : suc v.number ≡ suc w.number = decimal_injective (suc v.number) (suc w.number) (omega arith) (omega arith) both.1 in
    let same : v.number ≡ w.number = omega arith in
    λ i. record { sort = both.0 i; number = same i }

-- ---- the names of a scope

-- the use of the variable by the name by which it is printed
abbrev pub printed_use : Scope → Use → Use
printed_use sc u = use_of u.sort (var_ident (use_var sc u))

module _ (sc : Scope) (ok : Nameable sc) where
  pub var_plain : (a : List ℕ) → (var_named sc a).sort ≢ Card
  var_plain a = sort_plain sc a ok.plain

  pub var_small : (a : List ℕ) → Has sc a → (var_named sc a).number < 64
  var_small a h = by_sort (sort_in sc a) refl
    where
      by_sort : (s : Sort) → sort_in sc a ≡ s → rank_of (sort_in sc a) sc a < 64
      by_sort Card e = absurd (var_plain a e)
      by_sort Int e = rw e (omega (arith, rank_below Int sc a h e, ok.few_ints))
      by_sort Set e = rw e (omega (arith, rank_below Set sc a h e, ok.few_sets))

  -- two printed names are equal where the names are
  pub names_kept : (a b : List ℕ) → Has sc a → Has sc b → bytes_eq (var_ident (var_named sc a)).text (var_ident (var_named sc b)).text ≡ bytes_eq a b
  names_kept a b h k = by_test (bytes_eq a b) refl
    where
      v : Var
      v = var_named sc a

      w : Var
      w = var_named sc b

      wide : (n : ℕ) → n < 64 → n < 2 ^ 63
      wide n e = omega arith

      by_printed : (t : Bool) → bytes_eq (var_ident v).text (var_ident w).text ≡ t → bytes_eq a b ≡ false → bytes_eq (var_ident v).text (var_ident w).text ≡ false
      by_printed false p e = p
      by_printed true p e =
          let same : v ≡ w = one_var v w (var_plain a) (var_plain b) (wide v.number (var_small a h)) (wide w.number (var_small b k)) ((bytes_eq-Decides (var_ident v).text (var_ident w).text).0 p) in
          absurd (vars_differ sc a b h k (λ names. false_true ((bytes_eq-Decides a b).1 names)) same)
        where
          false_true : bytes_eq a b ≡ true → ⊥
          false_true q = let wrong : false ≡ true = sym e ∙ q in absurd cc

      by_test : (t : Bool) → bytes_eq a b ≡ t → bytes_eq (var_ident v).text (var_ident w).text ≡ t
      by_test true e = (bytes_eq-Decides (var_ident v).text (var_ident w).text).1 (ap (λ (x : List ℕ). (var_ident (var_named sc x)).text) ((bytes_eq-Decides a b).0 e))
      by_test false e = by_printed (bytes_eq (var_ident v).text (var_ident w).text) refl e

  pub printed_all_new : (us ws : Scope) → HasAll sc us → HasAll sc ws → with_all_new same_name (map (printed_use sc) us) (map (printed_use sc) ws) ≡ map (printed_use sc) (with_all_new same_name us ws)
  printed_all_new us ws h k =
      all_new_kept same_name same_name (printed_use sc) (λ u. Has sc u.name.text) (λ u w p q. names_kept u.name.text w.name.text p q) us ws h k

  sorts_kept : (us : Scope) → HasAll sc us → (a : List ℕ) → Has sc a → sort_in (map (printed_use sc) us) (var_ident (var_named sc a)).text ≡ sort_in us a
  sorts_kept [] m a h = refl
  sorts_kept (u ∷ us) m a h =
      (λ i. cond (names_kept u.name.text a (m u (inl refl)) h i) u.sort (sort_in (map (printed_use sc) us) (var_ident (var_named sc a)).text))
      ∙ ap (λ (s : Sort). cond (bytes_eq u.name.text a) u.sort s) (sorts_kept us (λ w k. m w (inr k)) a h)

  ranks_kept : (s : Sort) (us : Scope) → HasAll sc us → (a : List ℕ) → Has sc a → rank_of s (map (printed_use sc) us) (var_ident (var_named sc a)).text ≡ rank_of s us a
  ranks_kept s [] m a h = refl
  ranks_kept s (u ∷ us) m a h =
      (λ i. cond (names_kept u.name.text a (m u (inl refl)) h i) 0 (cond (sort_eq u.sort s) 1 0 + rank_of s (map (printed_use sc) us) (var_ident (var_named sc a)).text))
      ∙ ap (λ (n : ℕ). cond (bytes_eq u.name.text a) 0 (cond (sort_eq u.sort s) 1 0 + n)) (ranks_kept s us (λ w k. m w (inr k)) a h)

  -- a printed name is read as the variable that it was printed for
  pub read_back : (a : List ℕ) → Has sc a → var_named (map (printed_use sc) sc) (var_ident (var_named sc a)).text ≡ var_named sc a
  read_back a h =
      ap (λ (s : Sort). record { sort = s; number = rank_of s (map (printed_use sc) sc) (var_ident (var_named sc a)).text }) (sorts_kept sc (λ u m. (u, m, refl)) a h)
      ∙ ap (λ (n : ℕ). record { sort = sort_in sc a; number = n }) (ranks_kept (sort_in sc a) sc (λ u m. (u, m, refl)) a h)
