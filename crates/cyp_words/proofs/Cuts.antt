-- A text cut at its first `=`.
use Rattle.std.proofs.Common.{◌≡◌, ℕ, ◌==◌, ◌&&◌, ◌||◌, Bool, true, false, cond, [], ◌∷◌, ◌++◌, drop, length, Option, Some, None, refl, sym, ◌∙◌, bytes_eq, eqb, one-add, add-one, true≢false, arith}
use Rattle.std.specs.List.{list_any}
use Rattle.std.specs.Option.{option_map_or}
use Rattle.std.proofs.lemmas.Bool.Decides.{Decides-eqb, nat_tests, same_from_decides}
use Rattle.clap.specs.Lexer.{name_and_value}
use Rattle.cyp_lex.specs.Lexing.{begins_with}
use Rattle.cyp_words.specs.Options.{Text}

-- the text before the first `=`, and the text behind it, if there is one
abbrev pub cut : Text → Text × Option Text
cut [] = ([], None)
cut (x ∷ xs) = cond (x == 61) ([], Some xs) (x ∷ (cut xs).0, (cut xs).1)

pub name_and_value-cut : (t : Text) → name_and_value t ≡ cut t
name_and_value-cut [] = refl
name_and_value-cut (x ∷ xs) = go (x == 61) refl (name_and_value-cut xs)
  where
    go : (b : Bool) → (x == 61) ≡ b → name_and_value xs ≡ cut xs → name_and_value (x ∷ xs) ≡ cut (x ∷ xs)
    go true e rest = rw e
    go false e rest = let more = rw add-one at rest in rw (e, one-add, add-one) (λ i. (x ∷ (more i).0, (more i).1))

-- what an option's name in front of `=` or alone comes to
abbrev pub read_by : {M : Type 0} → Text → Text → M → (Text → M) → M → M
read_by name t alone with_text other = cond (bytes_eq t name) alone (cond (begins_with t (name ++ 61 ∷ [])) (with_text (drop (length (name ++ 61 ∷ [])) t)) other)

abbrev pub cut_by : {M : Type 0} → Text → Text × Option Text → M → (Text → M) → M → M
cut_by name p alone with_text other = cond (bytes_eq name p.0) (option_map_or with_text p.1 alone) other

pub eqb-flip : (a b : ℕ) → eqb a b ≡ eqb b a
eqb-flip a b = same_from_decides (eqb a b) (eqb b a) (Decides-eqb a b) (λ e. sym ((Decides-eqb b a).0 e), λ e. (Decides-eqb b a).1 (sym e))

differ : (x l : ℕ) → (x == 61) ≡ true → (l == 61) ≡ false → eqb x l ≡ false
differ x l e f = grind (arith, nat_tests)

pub or_parts : (a b : Bool) → (a || b) ≡ false → (a ≡ false) × (b ≡ false)
or_parts true b h = absurd (true≢false h)
or_parts false b h = (refl, h)

pub read_by-cut : {M : Type 0} (name t : Text) (alone : M) (with_text : Text → M) (other : M) → list_any (λ x. x == 61) name ≡ false
    → read_by name t alone with_text other ≡ cut_by name (cut t) alone with_text other
read_by-cut [] [] alone with_text other h = refl
read_by-cut [] (x ∷ xs) alone with_text other h = rw (eqb-flip 61 x) (go (x == 61))
  where
    go : (b : Bool) → cond (b && true) (with_text xs) other ≡ cut_by [] (cond b ([], Some xs) (x ∷ (cut xs).0, (cut xs).1)) alone with_text other
    go true = refl
    go false = refl
read_by-cut (l ∷ ls) [] alone with_text other h = refl
read_by-cut (l ∷ ls) (x ∷ xs) alone with_text other h =
    let parts : ((l == 61) ≡ false) × (list_any (λ y. y == 61) ls ≡ false) = or_parts (l == 61) (list_any (λ y. y == 61) ls) h in
    go (x == 61) (eqb x l) refl refl parts.0 (read_by-cut ls xs alone with_text other parts.1)
  where
    go : (b c : Bool) → (x == 61) ≡ b → eqb x l ≡ c → (l == 61) ≡ false → read_by ls xs alone with_text other ≡ cut_by ls (cut xs) alone with_text other
        → read_by (l ∷ ls) (x ∷ xs) alone with_text other ≡ cut_by (l ∷ ls) (cut (x ∷ xs)) alone with_text other
    go true true e f k rest = absurd (true≢false (sym f ∙ differ x l e k))
    go true false e f k rest = rw (e, eqb-flip l x, f)
    go false true e f k rest = rw (e, eqb-flip l x, f) rest
    go false false e f k rest = rw (e, eqb-flip l x, f)
