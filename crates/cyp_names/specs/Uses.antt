-- Where the names of a specification stand for variables, and of which sort.
use Rattle.std.specs.Prelude.{[], Bool, List, None, Option, Some, cond, flat_map, length, map, suc, ℕ, ◌++◌, ◌==◌, ◌∷◌}
use Rattle.std.specs.Str.{bytes_eq}
use Rattle.cyp_term.specs.declared.term.Sort.{Sort}
use Rattle.cyp_term.specs.declared.term.Sort.TheVariants.{Int, Set}
use Rattle.cyp_lex.specs.declared.ident.Ident.{Ident}
use Rattle.cyp_text.specs.LitTrees.{Comparing, Inside, LitTree, Negation, SameSets, SubSets}
use Rattle.cyp_text.specs.declared.tree.ArgTree.{ArgTree}
use Rattle.cyp_text.specs.declared.tree.ArgTree.TheVariants.{BracesArg, TermArg, UnionArg}
use Rattle.cyp_text.specs.declared.tree.ChunkTree.{ChunkTree}
use Rattle.cyp_text.specs.declared.tree.ChunkTree.TheVariants.{BlockOf, InstanceOf, NamedCell, TermCell}
use Rattle.cyp_text.specs.declared.tree.IntTree.{IntTree}
use Rattle.cyp_text.specs.declared.tree.IntTree.TheVariants.{MinusNum, NameMinus, NamePlus, Named, Num, NumPlus}
use Rattle.cyp_text.specs.declared.tree.ParamTree.{ParamTree}
use Rattle.cyp_text.specs.declared.tree.PartTree.{PartTree}
use Rattle.cyp_text.specs.declared.tree.PartTree.TheVariants.{Braces, PartName}
use Rattle.cyp_text.specs.declared.tree.PredTree.{PredTree}
use Rattle.cyp_text.specs.declared.tree.SetTree.{SetTree}
use Rattle.cyp_text.specs.declared.tree.SortTree.{SortTree}
use Rattle.cyp_text.specs.declared.tree.SortTree.TheVariants.{IntSort, LocSort, SetSort}

-- a name where it stands for a variable of this sort
pub record Use : Type 0 where
  pub name : Ident
  pub sort : Sort

-- the name stands for a variable of this sort
abbrev pub use_of : Sort → Ident → Use
use_of s i = record { name = i; sort = s }

-- both are of one name
abbrev pub same_name : Use → Use → Bool
same_name u v = bytes_eq u.name.text v.name.text

-- the names in an integer term
abbrev pub int_uses : IntTree → List Use
int_uses (Num p n) = []
int_uses (MinusNum p n) = []
int_uses (Named i) = use_of Int i ∷ []
int_uses (NamePlus i n) = use_of Int i ∷ []
int_uses (NameMinus i n) = use_of Int i ∷ []
int_uses (NumPlus p n i) = use_of Int i ∷ []

-- the names in a part of a union
abbrev pub part_uses : PartTree → List Use
part_uses (PartName i) = use_of Set i ∷ []
part_uses (Braces p ts) = flat_map int_uses ts

-- the names in the parts of a union, in the order of the text
abbrev pub parts_uses : List PartTree → List Use
parts_uses us = flat_map part_uses us

-- the parts of a union
abbrev pub set_parts : SetTree → List PartTree
set_parts u = u.first ∷ u.others

-- the names in a union, in the order of the text
abbrev pub set_uses : SetTree → List Use
set_uses u = parts_uses (set_parts u)

-- the names in a literal, in the order of the text
abbrev pub lit_uses : LitTree → List Use
lit_uses (Comparing a c b) = int_uses a ++ int_uses b
lit_uses (SameSets a b) = set_uses a ++ set_uses b
lit_uses (SubSets a b) = set_uses a ++ set_uses b
lit_uses (Inside a b) = int_uses a ++ set_uses b
lit_uses (Negation p l) = lit_uses l

-- ---- predicates and their parameters

-- `loc` and `int` name one sort
abbrev pub sort_of : SortTree → Sort
sort_of LocSort = Int
sort_of IntSort = Int
sort_of SetSort = Set

-- the sort that a parameter is declared with
abbrev pub param_sort : ParamTree → Sort
param_sort p = sort_of p.sort

-- the declaration of each parameter
abbrev pub param_uses : List ParamTree → List Use
param_uses ps = map (λ (p : ParamTree). use_of (param_sort p) p.name) ps

-- the first predicate of a name
abbrev pub pred_named : List ℕ → List PredTree → Option PredTree
pred_named name [] = None
pred_named name (q ∷ qs) = cond (bytes_eq q.name.text name) (Some q) (pred_named name qs)

-- the place in the list of the first predicate of a name
abbrev pub pred_place : List ℕ → List PredTree → ℕ
pred_place name [] = 0
pred_place name (q ∷ qs) = cond (bytes_eq q.name.text name) 0 (suc (pred_place name qs))

-- the sorts of the parameters, where there are so many
abbrev pub sorts_of : ℕ → Option PredTree → List Sort
sorts_of n None = []
sorts_of n (Some q) = cond (length q.params == n) (map param_sort q.params) []

-- the sorts of an instance's arguments, where its predicate is there and has as many parameters
abbrev pub arg_sorts : List PredTree → Ident → List ArgTree → List Sort
arg_sorts qs i xs = sorts_of (length xs) (pred_named i.text qs)

-- ---- chunks

-- the names in an argument, where those in the parts of a union are told. A name alone has the sort of its parameter, if that is known
abbrev pub arg_uses : (List PartTree → List Use) → Option Sort → ArgTree → List Use
arg_uses parts None (TermArg (Named i)) = []
arg_uses parts (Some s) (TermArg (Named i)) = use_of s i ∷ []
arg_uses parts s (TermArg t) = int_uses t
arg_uses parts s (BracesArg p ts us) = parts (Braces p ts ∷ us)
arg_uses parts s (UnionArg i u us) = parts (PartName i ∷ u ∷ us)

-- the names in the arguments of an instance whose parameters have these sorts, as far as they are known
abbrev pub args_uses : (List PartTree → List Use) → List Sort → List ArgTree → List Use
args_uses parts ss [] = []
args_uses parts [] (x ∷ xs) = arg_uses parts None x ++ args_uses parts [] xs
args_uses parts (s ∷ ss) (x ∷ xs) = arg_uses parts (Some s) x ++ args_uses parts ss xs

-- the names in a chunk
abbrev pub chunk_uses : (List PartTree → List Use) → List PredTree → ChunkTree → List Use
chunk_uses parts qs (NamedCell i t) = use_of Int i ∷ int_uses t
chunk_uses parts qs (TermCell a t) = int_uses a ++ int_uses t
chunk_uses parts qs (BlockOf a p n) = int_uses a
chunk_uses parts qs (InstanceOf i xs) = args_uses parts (arg_sorts qs i xs) xs
