-- Trees whose numbers are those of tokens, 2147483648 at most.
use Rattle.std.specs.List.{All}
use Rattle.cyp_reading.specs.Readable.{IsSmall}
use Rattle.cyp_text.specs.LitTrees.{LitTree, lit_base}
use Rattle.cyp_text.specs.declared.lit_tree.BaseTree.{BaseTree}
use Rattle.cyp_text.specs.declared.lit_tree.BaseTree.TheVariants.{Comparing, Inside, SameSets, SubSets}
use Rattle.cyp_text.specs.declared.tree.ArgTree.{ArgTree}
use Rattle.cyp_text.specs.declared.tree.ArgTree.TheVariants.{BracesArg, TermArg, UnionArg}
use Rattle.cyp_text.specs.declared.tree.BodyTree.{BodyTree}
use Rattle.cyp_text.specs.declared.tree.ChunkTree.{ChunkTree}
use Rattle.cyp_text.specs.declared.tree.ChunkTree.TheVariants.{BlockOf, InstanceOf, NamedCell, TermCell}
use Rattle.cyp_text.specs.declared.tree.ClauseTree.{ClauseTree}
use Rattle.cyp_text.specs.declared.tree.Conjunction.{Conjunction}
use Rattle.cyp_text.specs.declared.tree.IntTree.{IntTree}
use Rattle.cyp_text.specs.declared.tree.IntTree.TheVariants.{MinusNum, NameMinus, NamePlus, Named, Num, NumPlus}
use Rattle.cyp_text.specs.declared.tree.ItemTree.{ItemTree}
use Rattle.cyp_text.specs.declared.tree.ItemTree.TheVariants.{LitItem, TrueItem}
use Rattle.cyp_text.specs.declared.tree.PartTree.{PartTree}
use Rattle.cyp_text.specs.declared.tree.PartTree.TheVariants.{Braces, PartName}
use Rattle.cyp_text.specs.declared.tree.PredTree.{PredTree}
use Rattle.cyp_text.specs.declared.tree.PureTree.{PureTree}
use Rattle.cyp_text.specs.declared.tree.PureTree.TheVariants.{Items, NoItems}
use Rattle.cyp_text.specs.declared.tree.SetTree.{SetTree}
use Rattle.cyp_text.specs.declared.tree.TextTree.{TextTree}

-- the number of a term
abbrev pub IntSmall : IntTree → Type 0
IntSmall (Num p n) = IsSmall n
IntSmall (MinusNum p n) = IsSmall n
IntSmall (Named i) = Unit {0}
IntSmall (NamePlus i n) = IsSmall n
IntSmall (NameMinus i n) = IsSmall n
IntSmall (NumPlus p n i) = IsSmall n

-- the terms in braces
abbrev pub PartSmall : PartTree → Type 0
PartSmall (PartName i) = Unit {0}
PartSmall (Braces p ts) = All IntSmall ts

-- each part of a union
abbrev pub SetSmall : SetTree → Type 0
SetSmall u = PartSmall u.first × All PartSmall u.others

-- both sides
abbrev pub BaseSmall : BaseTree → Type 0
BaseSmall (Comparing a c b) = IntSmall a × IntSmall b
BaseSmall (SameSets a b) = SetSmall a × SetSmall b
BaseSmall (SubSets a b) = SetSmall a × SetSmall b
BaseSmall (Inside a b) = IntSmall a × SetSmall b

-- what is negated, if anything is
abbrev pub LitSmall : LitTree → Type 0
LitSmall l = BaseSmall (lit_base l)

-- the term or the parts
abbrev pub ArgSmall : ArgTree → Type 0
ArgSmall (TermArg t) = IntSmall t
ArgSmall (BracesArg p ts us) = All IntSmall ts × All PartSmall us
ArgSmall (UnionArg i u us) = PartSmall u × All PartSmall us

-- the terms and arguments; a block's size is judged apart
abbrev pub ChunkSmall : ChunkTree → Type 0
ChunkSmall (NamedCell i t) = IntSmall t
ChunkSmall (TermCell a t) = IntSmall a × IntSmall t
ChunkSmall (BlockOf a p n) = IntSmall a
ChunkSmall (InstanceOf i xs) = All ArgSmall xs

-- `true` has no number
abbrev pub ItemSmall : ItemTree → Type 0
ItemSmall TrueItem = Unit {0}
ItemSmall (LitItem l) = LitSmall l

-- each item
abbrev pub PureSmall : PureTree → Type 0
PureSmall NoItems = Unit {0}
PureSmall (Items i is) = ItemSmall i × All (λ (p : Conjunction × ItemTree). ItemSmall p.1) is

-- the literals and chunks
pub record BodySmall (b : BodyTree) : Type 0 where
  pub pure : PureSmall b.pure
  pub chunks : All ChunkSmall b.chunks

-- the guard and the body
pub record ClauseSmall (c : ClauseTree) : Type 0 where
  pub guard : LitSmall c.guard
  pub body : BodySmall c.body

-- the first clause, and each of the others
abbrev pub PredSmall : PredTree → Type 0
PredSmall q = ClauseSmall q.first × All ClauseSmall q.others

-- the predicates and the two bodies of the procedure
pub record TextSmall (t : TextTree) : Type 0 where
  pub preds : All PredSmall t.preds
  pub pre : BodySmall t.pre
  pub post : BodySmall t.post
