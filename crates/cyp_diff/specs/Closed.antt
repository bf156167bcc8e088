-- Distances that are closed: shortest ways through bounds of at most 2^34 in size.
use Rattle.std.specs.Prelude.{◌≡◌, ℕ, ◌<◌, ◌≤◌, ℤ, pos, ◌+ℤ◌, ◌≤ℤ◌, ◌<ℤ◌, List, [], ◌∷◌, length}
use Rattle.std.specs.List.{All}
use Rattle.cyp_diff.specs.Distances.{none, distance, IsSmall}

-- a bound between two places
pub record Edge : Type 0 where
  pub start : ℕ
  pub finish : ℕ
  pub weight : ℤ

-- the sum of the weights
abbrev pub total : List Edge → ℤ
total [] = pos 0
total (e ∷ es) = e.weight +ℤ total es

-- the edges lead from the first place to the last, one behind the other
abbrev pub Leads : ℕ → List Edge → ℕ → Type 0
Leads a [] b = a ≡ b
Leads a (e ∷ es) b = (e.start ≡ a) × Leads e.finish es b

-- the distance keeps the bound of the edge, which is at most 2^34 in size
pub record IsEdge (n : ℕ) (d : ℕ → ℕ → ℤ) (e : Edge) : Type 0 where
  pub starts : e.start < n
  pub finishes : e.finish < n
  pub small : IsSmall e.weight
  pub bounded : d e.start e.finish <ℤ none
  pub kept : d e.start e.finish ≤ℤ e.weight

-- each is an edge
abbrev pub AreEdges : ℕ → (ℕ → ℕ → ℤ) → List Edge → Type 0
AreEdges n d [] = Unit {0}
AreEdges n d (e ∷ es) = IsEdge n d e × AreEdges n d es

-- a way from a to b of weight w
pub record Way (n : ℕ) (d : ℕ → ℕ → ℤ) (a b : ℕ) (w : ℤ) : Type 0 where
  pub edges : List Edge
  pub leads : Leads a edges b
  pub are : AreEdges n d edges
  pub weighs : total edges ≡ w

-- the distances between the places below n, with none beyond: no way is shorter than a distance, and each distance that bounds
-- is the weight of a way
pub record IsClosed (n : ℕ) (d : ℕ → ℕ → ℤ) : Type 0 where
  pub same : (a : ℕ) → a < n → d a a ≡ pos 0
  pub through : (a k b : ℕ) → a < n → k < n → b < n → d a k <ℤ none → d k b <ℤ none → (d a b <ℤ none) × (d a b ≤ℤ (d a k +ℤ d k b))
  pub way : (a b : ℕ) → a < n → b < n → d a b <ℤ none → Way n d a b (d a b)
  pub most : (a b : ℕ) → d a b ≤ℤ none
  pub beyond : (a b : ℕ) → n ≤ b → d a b ≡ none

-- rows of forty entries whose distances are closed
pub record AreBounds (rows : List (List ℤ)) : Type 0 where
  pub few : length rows ≤ 33
  pub wide : All (λ row. length row ≡ 40) rows
  pub closed : IsClosed (length rows) (distance rows)
