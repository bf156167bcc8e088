-- Marks one after another, and what may follow them.
use Rattle.std.proofs.Common.{◌≡◌, List, [], ◌∷◌, ◌++◌, refl, sym, ap, subst}
use Rattle.cyp_lex.specs.Lexemes.{Lexeme}
use Rattle.cyp_lex.specs.Spelling.{IsEnd, Mark, Match, Then}

pub then_split : (a b : List Mark) (K : List Lexeme → Type 0) (ts : List Lexeme) → Then (a ++ b) K ts → Then a (Then b K) ts
then_split [] b K ts h = h
then_split (m ∷ a) b K [] h = h
then_split (m ∷ a) b K (t ∷ ts) h = (h.0, then_split a b K ts h.1)

pub then_join : (a b : List Mark) (K : List Lexeme → Type 0) (ts : List Lexeme) → Then a (Then b K) ts → Then (a ++ b) K ts
then_join [] b K ts h = h
then_join (m ∷ a) b K [] h = h
then_join (m ∷ a) b K (t ∷ ts) h = (h.0, then_join a b K ts h.1)

pub then_put : (a : List Mark) (K : List Lexeme → Type 0) (front w : List Lexeme) → Match a front → K w → Then a K (front ++ w)
then_put [] K front w m k = subst (λ (f : List Lexeme). K (f ++ w)) (sym m) k
then_put (m ∷ a) K [] w h k = absurd h
then_put (m ∷ a) K (t ∷ f) w h k = (h.0, then_put a K f w h.1 k)

pub match_join : (a b : List Mark) (f g : List Lexeme) → Match a f → Match b g → Match (a ++ b) (f ++ g)
match_join a b f g p q = then_join a b IsEnd (f ++ g) (then_put a (Match b) f g p q)

pub nil_left : (a b : List Lexeme) → a ++ b ≡ [] → a ≡ []
nil_left [] b e = refl
nil_left (t ∷ a) b e = absurd cc

pub head_is : (a b : Lexeme) (x y : List Lexeme) → a ∷ x ≡ b ∷ y → a ≡ b
head_is a b x y e = cc

pub append_nil : {A : Type 0} (xs : List A) → xs ++ [] ≡ xs
append_nil [] = refl
append_nil (x ∷ xs) = ap (λ (ys : List _). x ∷ ys) (append_nil xs)
