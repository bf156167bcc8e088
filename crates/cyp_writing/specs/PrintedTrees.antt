-- The tree by which a specification is printed. Its places say nothing.
use Rattle.std.specs.Prelude.{[], List, None, Option, Some, codes, decimal, filter, length, map, negsuc, pos, slice_get, suc, zero, ℕ, ℤ, ◌++◌, ◌∷◌}
use Rattle.cyp_lex.specs.declared.ident.Ident.{Ident}
use Rattle.cyp_heap.specs.declared.chunk.Arg.{Arg}
use Rattle.cyp_heap.specs.declared.chunk.Arg.TheVariants.{Int as IntArg, Set as SetArg}
use Rattle.cyp_heap.specs.declared.chunk.Chunk.{Chunk}
use Rattle.cyp_heap.specs.declared.chunk.Chunk.TheVariants.{Block, Cell, Inst}
use Rattle.cyp_heap.specs.declared.pred.Clause.{Clause}
use Rattle.cyp_heap.specs.declared.pred.Pred.{Pred}
use Rattle.cyp_heap.specs.declared.pred.Preds.{Preds}
use Rattle.cyp_term.specs.Terms.{sort_eq}
use Rattle.cyp_term.specs.declared.lit.Lit.{Lit}
use Rattle.cyp_term.specs.declared.lit.Lit.TheVariants.{Eq, Le, Lt, Member, Ne, NotMember, NotSame, NotSub, Same, Sub}
use Rattle.cyp_term.specs.declared.lit.SetTerm.{SetTerm}
use Rattle.cyp_term.specs.declared.term.Sort.{Sort}
use Rattle.cyp_term.specs.declared.term.Sort.TheVariants.{Set}
use Rattle.cyp_term.specs.declared.term.Term.{Term}
use Rattle.cyp_term.specs.declared.term.Var.{Var}
use Rattle.cyp_text.specs.LitTrees.{Comparing, Inside, LitTree, Negation, SameSets, SubSets}
use Rattle.cyp_text.specs.declared.tree.ArgTree.{ArgTree}
use Rattle.cyp_text.specs.declared.tree.ArgTree.TheVariants.{BracesArg, TermArg, UnionArg}
use Rattle.cyp_text.specs.declared.tree.BodyTree.{BodyTree}
use Rattle.cyp_text.specs.declared.tree.ChunkTree.{ChunkTree}
use Rattle.cyp_text.specs.declared.tree.ChunkTree.TheVariants.{BlockOf, InstanceOf, NamedCell, TermCell}
use Rattle.cyp_text.specs.declared.tree.ClauseTree.{ClauseTree}
use Rattle.cyp_text.specs.declared.tree.Comparison.TheVariants.{IsAtMost, IsBelow, IsEqual, IsUnequal}
use Rattle.cyp_text.specs.declared.tree.Conjunction.{Conjunction}
use Rattle.cyp_text.specs.declared.tree.Conjunction.TheVariants.{Ampersands}
use Rattle.cyp_text.specs.declared.tree.IntTree.{IntTree}
use Rattle.cyp_text.specs.declared.tree.IntTree.TheVariants.{MinusNum, NameMinus, NamePlus, Named, Num}
use Rattle.cyp_text.specs.declared.tree.ItemTree.{ItemTree}
use Rattle.cyp_text.specs.declared.tree.ItemTree.TheVariants.{LitItem}
use Rattle.cyp_text.specs.declared.tree.ParamTree.{ParamTree}
use Rattle.cyp_text.specs.declared.tree.PartTree.{PartTree}
use Rattle.cyp_text.specs.declared.tree.PartTree.TheVariants.{Braces, PartName}
use Rattle.cyp_text.specs.declared.tree.PureTree.{PureTree}
use Rattle.cyp_text.specs.declared.tree.PureTree.TheVariants.{Items, NoItems}
use Rattle.cyp_text.specs.declared.tree.SetTree.{SetTree}
use Rattle.cyp_text.specs.declared.tree.SortTree.{SortTree}
use Rattle.cyp_text.specs.declared.tree.SortTree.TheVariants.{IntSort, SetSort}

-- a name
abbrev pub ident_of : List ℕ → Ident
ident_of text = record { text = text; place = 0 }

-- ---- terms

-- the letter by which variables of a sort are printed
abbrev pub sort_letter : Sort → List ℕ
sort_letter Set = codes "s"
sort_letter _ = codes "x"

-- integer variables are `x1`, `x2` by number plus one, set variables `s1`, `s2`
abbrev pub var_ident : Var → Ident
var_ident v = ident_of (sort_letter v.sort ++ decimal (suc v.number))

-- a number with its sign, a variable, or a variable and `+` or `-` and a number
abbrev pub term_tree_by : Option Var → ℤ → IntTree
term_tree_by None (pos n) = Num 0 n
term_tree_by None (negsuc n) = MinusNum 0 (suc n)
term_tree_by (Some v) (pos zero) = Named (var_ident v)
term_tree_by (Some v) (pos (suc n)) = NamePlus (var_ident v) (suc n)
term_tree_by (Some v) (negsuc n) = NameMinus (var_ident v) (suc n)

-- an integer term
abbrev pub term_tree : Term → IntTree
term_tree t = term_tree_by t.base t.offset

-- the elements in one pair of braces, where there are elements or no variable
abbrev pub braces_of : List Var → List Term → List PartTree
braces_of (v ∷ vs) [] = []
braces_of _ ts = Braces 0 (map term_tree ts) ∷ []

-- the parts of a set term: its variables in order, and then its elements
abbrev pub parts_of : SetTerm → List PartTree
parts_of u = map (λ v. PartName (var_ident v)) u.vars ++ braces_of u.vars u.elems

-- a union of these parts
abbrev pub union_tree : List PartTree → SetTree
union_tree [] = record { first = Braces 0 []; others = [] }
union_tree (u ∷ us) = record { first = u; others = us }

-- a set term
abbrev pub set_tree : SetTerm → SetTree
set_tree u = union_tree (parts_of u)

-- ---- literals

-- a literal; a negated set literal is printed with `not`
abbrev pub lit_tree : Lit → LitTree
lit_tree (Eq a b) = Comparing (term_tree a) IsEqual (term_tree b)
lit_tree (Ne a b) = Comparing (term_tree a) IsUnequal (term_tree b)
lit_tree (Le a b) = Comparing (term_tree a) IsAtMost (term_tree b)
lit_tree (Lt a b) = Comparing (term_tree a) IsBelow (term_tree b)
lit_tree (Same a b) = SameSets (set_tree a) (set_tree b)
lit_tree (NotSame a b) = Negation 0 (SameSets (set_tree a) (set_tree b))
lit_tree (Member a b) = Inside (term_tree a) (set_tree b)
lit_tree (NotMember a b) = Negation 0 (Inside (term_tree a) (set_tree b))
lit_tree (Sub a b) = SubSets (set_tree a) (set_tree b)
lit_tree (NotSub a b) = Negation 0 (SubSets (set_tree a) (set_tree b))

-- a literal behind `&&`
abbrev pub later_tree : Lit → Conjunction × ItemTree
later_tree l = (Ampersands, LitItem (lit_tree l))

-- conjunction is `&&`, and an empty pure part is left out
abbrev pub pure_tree : List Lit → PureTree
pure_tree [] = NoItems
pure_tree (l ∷ ls) = Items (LitItem (lit_tree l)) (map later_tree ls)

-- ---- chunks

-- the parts of a union as an argument
abbrev pub union_arg : List PartTree → ArgTree
union_arg [] = BracesArg 0 [] []
union_arg (Braces p ts ∷ us) = BracesArg p ts us
union_arg (PartName i ∷ []) = TermArg (Named i)
union_arg (PartName i ∷ u ∷ us) = UnionArg i u us

-- an argument
abbrev pub arg_tree : Arg → ArgTree
arg_tree (IntArg t) = TermArg (term_tree t)
arg_tree (SetArg u) = union_arg (parts_of u)

-- an address is in parentheses unless it is a bare variable
abbrev pub cell_tree : IntTree → IntTree → ChunkTree
cell_tree (Named i) t = NamedCell i t
cell_tree a t = TermCell a t

-- a predicate's name
abbrev pub pred_name : Option Pred → List ℕ
pred_name None = []
pred_name (Some q) = q.name

-- a chunk; an instance is printed without its cardinality and tag
abbrev pub chunk_tree : Preds → Chunk → ChunkTree
chunk_tree preds (Inst i) = InstanceOf (ident_of (pred_name (slice_get preds.list i.pred))) (map arg_tree i.args)
chunk_tree preds (Block k) = BlockOf (term_tree k.at) 0 k.size
chunk_tree preds (Cell k) = cell_tree (term_tree k.at) (term_tree k.content)

-- literals and chunks
abbrev pub body_tree : Preds → List Lit → List Chunk → BodyTree
body_tree preds ls cs = record { pure = pure_tree ls; chunks = map (chunk_tree preds) cs }

-- ---- parameters and clauses

-- parameters print as `int` or `set`
abbrev pub sort_tree : Sort → SortTree
sort_tree Set = SetSort
sort_tree _ = IntSort

-- the parameter that this variable is
abbrev pub param_tree : Var → ParamTree
param_tree v = record { sort = sort_tree v.sort; place = 0; name = var_ident v }

-- the variables of parameters of these sorts, behind those of the sorts in `seen`
abbrev pub params_from : List Sort → List Sort → List Var
params_from seen [] = []
params_from seen (s ∷ ss) = record { sort = s; number = length (filter (sort_eq s) seen) } ∷ params_from (seen ++ s ∷ []) ss

-- a clause
abbrev pub clause_tree : Preds → Clause → ClauseTree
clause_tree preds c = record { place = 0; guard = lit_tree c.guard; body = body_tree preds c.lits c.heap.chunks }
