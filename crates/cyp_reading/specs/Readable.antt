-- What is asked of trees that are read: small numbers, and names that have in the scope the sorts of their places.
use Rattle.std.specs.Prelude.{List, ℕ, ◌<◌, ◌≤◌, ◌∷◌, ◌≡◌}
use Rattle.std.specs.List.{All}
use Rattle.cyp_lex.specs.declared.ident.Ident.{Ident}
use Rattle.cyp_term.specs.declared.term.Sort.{Sort}
use Rattle.cyp_term.specs.declared.term.Sort.TheVariants.{Int, Set}
use Rattle.cyp_text.specs.LitTrees.{LitTree, lit_base}
use Rattle.cyp_names.specs.ReadTerms.{Scope, sort_in}
use Rattle.cyp_names.specs.Uses.{arg_sorts, pred_place}
use Rattle.cyp_text.specs.declared.lit_tree.BaseTree.{BaseTree}
use Rattle.cyp_text.specs.declared.lit_tree.BaseTree.TheVariants.{Comparing, Inside, SameSets, SubSets}
use Rattle.cyp_text.specs.declared.tree.ArgTree.{ArgTree}
use Rattle.cyp_text.specs.declared.tree.ArgTree.TheVariants.{BracesArg, TermArg, UnionArg}
use Rattle.cyp_text.specs.declared.tree.BodyTree.{BodyTree}
use Rattle.cyp_text.specs.declared.tree.ChunkTree.{ChunkTree}
use Rattle.cyp_text.specs.declared.tree.ChunkTree.TheVariants.{BlockOf, InstanceOf, NamedCell, TermCell}
use Rattle.cyp_text.specs.declared.tree.Conjunction.{Conjunction}
use Rattle.cyp_text.specs.declared.tree.IntTree.{IntTree}
use Rattle.cyp_text.specs.declared.tree.IntTree.TheVariants.{MinusNum, NameMinus, NamePlus, Named, Num, NumPlus}
use Rattle.cyp_text.specs.declared.tree.ItemTree.{ItemTree}
use Rattle.cyp_text.specs.declared.tree.ItemTree.TheVariants.{LitItem, TrueItem}
use Rattle.cyp_text.specs.declared.tree.PartTree.{PartTree}
use Rattle.cyp_text.specs.declared.tree.PartTree.TheVariants.{Braces, PartName}
use Rattle.cyp_text.specs.declared.tree.PredTree.{PredTree}
use Rattle.cyp_text.specs.declared.tree.PureTree.{PureTree}
use Rattle.cyp_text.specs.declared.tree.PureTree.TheVariants.{Items, NoItems}
use Rattle.cyp_text.specs.declared.tree.SetTree.{SetTree}

-- a number of a token
abbrev pub IsSmall : ℕ → Type 0
IsSmall n = n ≤ 2147483648

-- the name has this sort in the scope
abbrev pub HasSort : Scope → Sort → Ident → Type 0
HasSort sc s i = sort_in sc i.text ≡ s

-- small numbers, and a name of an integer
abbrev pub IntReadable : Scope → IntTree → Type 0
IntReadable sc (Num p n) = IsSmall n
IntReadable sc (MinusNum p n) = IsSmall n
IntReadable sc (Named i) = HasSort sc Int i
IntReadable sc (NamePlus i n) = HasSort sc Int i × IsSmall n
IntReadable sc (NameMinus i n) = HasSort sc Int i × IsSmall n
IntReadable sc (NumPlus p n i) = HasSort sc Int i × IsSmall n

-- the name of a set, or terms in braces
abbrev pub PartReadable : Scope → PartTree → Type 0
PartReadable sc (PartName i) = HasSort sc Set i
PartReadable sc (Braces p ts) = All (IntReadable sc) ts

-- each part of the union
abbrev pub SetReadable : Scope → SetTree → Type 0
SetReadable sc u = PartReadable sc u.first × All (PartReadable sc) u.others

-- both sides
abbrev pub BaseReadable : Scope → BaseTree → Type 0
BaseReadable sc (Comparing a c b) = IntReadable sc a × IntReadable sc b
BaseReadable sc (SameSets a b) = SetReadable sc a × SetReadable sc b
BaseReadable sc (SubSets a b) = SetReadable sc a × SetReadable sc b
BaseReadable sc (Inside a b) = IntReadable sc a × SetReadable sc b

-- what is negated, if anything is
abbrev pub LitReadable : Scope → LitTree → Type 0
LitReadable sc l = BaseReadable sc (lit_base l)

-- a name alone has the sort of its parameter
abbrev pub ArgReadable : Scope → Sort → ArgTree → Type 0
ArgReadable sc Set (TermArg (Named i)) = HasSort sc Set i
ArgReadable sc s (TermArg t) = IntReadable sc t
ArgReadable sc s (BracesArg p ts us) = All (IntReadable sc) ts × All (PartReadable sc) us
ArgReadable sc s (UnionArg i u us) = HasSort sc Set i × PartReadable sc u × All (PartReadable sc) us

-- each argument beside the sort of its parameter
abbrev pub ArgsReadable : Scope → List Sort → List ArgTree → Type 0
ArgsReadable sc (s ∷ ss) (x ∷ xs) = ArgReadable sc s x × ArgsReadable sc ss xs
ArgsReadable sc _ _ = Unit {0}

-- the terms and arguments, and a predicate whose place is a byte
abbrev pub ChunkReadable : List PredTree → Scope → ChunkTree → Type 0
ChunkReadable qs sc (NamedCell i t) = HasSort sc Int i × IntReadable sc t
ChunkReadable qs sc (TermCell a t) = IntReadable sc a × IntReadable sc t
ChunkReadable qs sc (BlockOf a p n) = IntReadable sc a
ChunkReadable qs sc (InstanceOf i xs) = (pred_place i.text qs < 256) × ArgsReadable sc (arg_sorts qs i xs) xs

-- `true` says nothing
abbrev pub ItemReadable : Scope → ItemTree → Type 0
ItemReadable sc TrueItem = Unit {0}
ItemReadable sc (LitItem l) = LitReadable sc l

-- each item
abbrev pub PureReadable : Scope → PureTree → Type 0
PureReadable sc NoItems = Unit {0}
PureReadable sc (Items i is) = ItemReadable sc i × All (λ (p : Conjunction × ItemTree). ItemReadable sc p.1) is

-- each literal and each chunk
pub record BodyReadable (qs : List PredTree) (sc : Scope) (b : BodyTree) : Type 0 where
  pub pure : PureReadable sc b.pure
  pub chunks : All (ChunkReadable qs sc) b.chunks
