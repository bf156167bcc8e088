-- Trees whose places are all 0.
use Rattle.std.proofs.Common.{map}
use Rattle.cyp_lex.specs.declared.ident.Ident.{Ident}
use Rattle.cyp_lex.specs.declared.fault.Fault.{Fault}
use Rattle.cyp_writing.specs.PrintedTrees.{ident_of}
use Rattle.cyp_text.specs.LitTrees.{Comparing, Inside, LitTree, Negation, SameSets, SubSets}
use Rattle.cyp_text.specs.declared.tree.ArgTree.{ArgTree}
use Rattle.cyp_text.specs.declared.tree.ArgTree.TheVariants.{BracesArg, TermArg, UnionArg}
use Rattle.cyp_text.specs.declared.tree.BodyTree.{BodyTree}
use Rattle.cyp_text.specs.declared.tree.ChunkTree.{ChunkTree}
use Rattle.cyp_text.specs.declared.tree.ChunkTree.TheVariants.{BlockOf, InstanceOf, NamedCell, TermCell}
use Rattle.cyp_text.specs.declared.tree.ClauseTree.{ClauseTree}
use Rattle.cyp_text.specs.declared.tree.Conjunction.{Conjunction}
use Rattle.cyp_text.specs.declared.tree.IntTree.{IntTree}
use Rattle.cyp_text.specs.declared.tree.IntTree.TheVariants.{MinusNum, NameMinus, NamePlus, Named, Num, NumPlus}
use Rattle.cyp_text.specs.declared.tree.ItemTree.{ItemTree}
use Rattle.cyp_text.specs.declared.tree.ItemTree.TheVariants.{LitItem, TrueItem}
use Rattle.cyp_text.specs.declared.tree.ParamTree.{ParamTree}
use Rattle.cyp_text.specs.declared.tree.PartTree.{PartTree}
use Rattle.cyp_text.specs.declared.tree.PartTree.TheVariants.{Braces, PartName}
use Rattle.cyp_text.specs.declared.tree.PredTree.{PredTree}
use Rattle.cyp_text.specs.declared.tree.PureTree.{PureTree}
use Rattle.cyp_text.specs.declared.tree.PureTree.TheVariants.{Items, NoItems}
use Rattle.cyp_text.specs.declared.tree.SetTree.{SetTree}
use Rattle.cyp_text.specs.declared.tree.TextTree.{TextTree}
use Rattle.cyp_names.specs.Uses.{Use}

-- a name at place 0
abbrev pub bare_ident : Ident → Ident
bare_ident i = ident_of i.text

-- an integer term at place 0
abbrev pub bare_int : IntTree → IntTree
bare_int (Num p n) = Num 0 n
bare_int (MinusNum p n) = MinusNum 0 n
bare_int (Named i) = Named (bare_ident i)
bare_int (NamePlus i n) = NamePlus (bare_ident i) n
bare_int (NameMinus i n) = NameMinus (bare_ident i) n
bare_int (NumPlus p n i) = NumPlus 0 n (bare_ident i)

-- a part of a union at place 0
abbrev pub bare_part : PartTree → PartTree
bare_part (PartName i) = PartName (bare_ident i)
bare_part (Braces p ts) = Braces 0 (map bare_int ts)

-- a union at place 0
abbrev pub bare_set : SetTree → SetTree
bare_set u = record { first = bare_part u.first; others = map bare_part u.others }

-- a literal at place 0
abbrev pub bare_lit : LitTree → LitTree
bare_lit (Comparing a c b) = Comparing (bare_int a) c (bare_int b)
bare_lit (SameSets a b) = SameSets (bare_set a) (bare_set b)
bare_lit (SubSets a b) = SubSets (bare_set a) (bare_set b)
bare_lit (Inside a b) = Inside (bare_int a) (bare_set b)
bare_lit (Negation p l) = Negation 0 (bare_lit l)

-- `true`, or a literal at place 0
abbrev pub bare_item : ItemTree → ItemTree
bare_item TrueItem = TrueItem
bare_item (LitItem l) = LitItem (bare_lit l)

-- an item with its conjunction at place 0
abbrev pub bare_later : Conjunction × ItemTree → Conjunction × ItemTree
bare_later p = (p.0, bare_item p.1)

-- a pure part at place 0
abbrev pub bare_pure : PureTree → PureTree
bare_pure NoItems = NoItems
bare_pure (Items i is) = Items (bare_item i) (map bare_later is)

-- an argument at place 0
abbrev pub bare_arg : ArgTree → ArgTree
bare_arg (TermArg t) = TermArg (bare_int t)
bare_arg (BracesArg p ts us) = BracesArg 0 (map bare_int ts) (map bare_part us)
bare_arg (UnionArg i u us) = UnionArg (bare_ident i) (bare_part u) (map bare_part us)

-- a chunk at place 0
abbrev pub bare_chunk : ChunkTree → ChunkTree
bare_chunk (NamedCell i t) = NamedCell (bare_ident i) (bare_int t)
bare_chunk (TermCell a t) = TermCell (bare_int a) (bare_int t)
bare_chunk (BlockOf a p n) = BlockOf (bare_int a) 0 n
bare_chunk (InstanceOf i xs) = InstanceOf (bare_ident i) (map bare_arg xs)

-- a body at place 0
abbrev pub bare_body : BodyTree → BodyTree
bare_body b = record { pure = bare_pure b.pure; chunks = map bare_chunk b.chunks }

-- a parameter at place 0
abbrev pub bare_param : ParamTree → ParamTree
bare_param p = record { sort = p.sort; place = 0; name = bare_ident p.name }

-- a clause at place 0
abbrev pub bare_clause : ClauseTree → ClauseTree
bare_clause c = record { place = 0; guard = bare_lit c.guard; body = bare_body c.body }

-- a predicate at place 0
abbrev pub bare_pred : PredTree → PredTree
bare_pred q = record { name = bare_ident q.name; params = map bare_param q.params; first = bare_clause q.first; others = map bare_clause q.others }

-- a specification at place 0
abbrev pub bare_text : TextTree → TextTree
bare_text t = record { preds = map bare_pred t.preds; name = bare_ident t.name; params = map bare_param t.params; pre = bare_body t.pre; post = bare_body t.post }

-- the use of a name at place 0
abbrev pub bare_use : Use → Use
bare_use u = record { name = bare_ident u.name; sort = u.sort }

-- a fault at place 0
abbrev pub bare_fault : Fault → Fault
bare_fault f = record { kind = f.kind; place = 0 }
