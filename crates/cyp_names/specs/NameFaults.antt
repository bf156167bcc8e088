-- The faults of names and sorts in a specification.
use Rattle.std.specs.Prelude.{[], Bool, List, None, Option, Some, cond, false, flat_map, length, map, true, ℕ, ◌++◌, ◌==◌, ◌∷◌}
use Rattle.std.specs.List.{list_any}
use Rattle.std.specs.Str.{bytes_eq}
use Rattle.cyp_lex.specs.declared.fault.Fault.{Fault}
use Rattle.cyp_lex.specs.declared.fault.FaultKind.{FaultKind}
use Rattle.cyp_lex.specs.declared.fault.FaultKind.TheVariants.{DuplicateName, UnboundVariable, UnknownPredicate, WrongArity, WrongSort}
use Rattle.cyp_term.specs.Terms.{sort_eq}
use Rattle.cyp_term.specs.declared.term.Sort.{Sort}
use Rattle.cyp_term.specs.declared.term.Sort.TheVariants.{Int, Set}
use Rattle.cyp_lex.specs.declared.ident.Ident.{Ident}
use Rattle.cyp_names.specs.Bodies.{body_uses}
use Rattle.cyp_text.specs.LitTrees.{Comparing, Inside, LitTree, Negation, SameSets, SubSets}
use Rattle.cyp_text.specs.declared.tree.ArgTree.{ArgTree}
use Rattle.cyp_text.specs.declared.tree.ArgTree.TheVariants.{BracesArg, TermArg, UnionArg}
use Rattle.cyp_text.specs.declared.tree.ChunkTree.{ChunkTree}
use Rattle.cyp_text.specs.declared.tree.ChunkTree.TheVariants.{InstanceOf}
use Rattle.cyp_text.specs.declared.tree.ClauseTree.{ClauseTree}
use Rattle.cyp_text.specs.declared.tree.IntTree.{IntTree}
use Rattle.cyp_text.specs.declared.tree.IntTree.TheVariants.{MinusNum, NameMinus, NamePlus, Named, Num, NumPlus}
use Rattle.cyp_text.specs.declared.tree.ParamTree.{ParamTree}
use Rattle.cyp_text.specs.declared.tree.PartTree.{PartTree}
use Rattle.cyp_text.specs.declared.tree.PartTree.TheVariants.{Braces, PartName}
use Rattle.cyp_text.specs.declared.tree.PredTree.{PredTree}
use Rattle.cyp_text.specs.declared.tree.SetTree.{SetTree}
use Rattle.cyp_text.specs.declared.tree.TextTree.{TextTree}
use Rattle.cyp_names.specs.Uses.{Use, lit_uses, param_sort, param_uses, pred_named}

-- this fault alone
abbrev pub fault_at : FaultKind → ℕ → List Fault
fault_at k p = record { kind = k; place = p } ∷ []

-- ---- places

-- where an integer term begins
abbrev pub int_place : IntTree → ℕ
int_place (Num p n) = p
int_place (MinusNum p n) = p
int_place (Named i) = i.place
int_place (NamePlus i n) = i.place
int_place (NameMinus i n) = i.place
int_place (NumPlus p n i) = p

-- where a part of a union begins
abbrev pub part_place : PartTree → ℕ
part_place (PartName i) = i.place
part_place (Braces p ts) = p

-- where a union begins
abbrev pub set_place : SetTree → ℕ
set_place u = part_place u.first

-- where a literal begins
abbrev pub lit_place : LitTree → ℕ
lit_place (Comparing a c b) = int_place a
lit_place (SameSets a b) = set_place a
lit_place (SubSets a b) = set_place a
lit_place (Inside a b) = int_place a
lit_place (Negation p l) = p

-- ---- names and sorts

-- each name that stands earlier in the list, and so in `seen`
abbrev pub repeats : List Ident → List Ident → List Fault
repeats seen [] = []
repeats seen (i ∷ is) =
    cond (list_any (λ (j : Ident). bytes_eq j.text i.text) seen) (fault_at DuplicateName i.place) [] ++ repeats (seen ++ i ∷ []) is

-- the names of the parameters
abbrev pub param_names : List ParamTree → List Ident
param_names ps = map (λ (p : ParamTree). p.name) ps

-- the sort of the first of these uses of a name
abbrev pub known_sort : List Use → List ℕ → Option Sort
known_sort [] name = None
known_sort (u ∷ us) name = cond (bytes_eq u.name.text name) (Some u.sort) (known_sort us name)

-- the use has another sort than is known
abbrev pub sort_fault : Option Sort → Use → List Fault
sort_fault None u = []
sort_fault (Some s) u = cond (sort_eq s u.sort) [] (fault_at WrongSort u.name.place)

-- each use whose sort isn't that of the name's declaration or first use
abbrev pub sort_faults : List Use → List Use → List Fault
sort_faults seen [] = []
sort_faults seen (u ∷ us) = sort_fault (known_sort seen u.name.text) u ++ sort_faults (seen ++ u ∷ []) us

-- ---- instances

-- a term for a set or a union for an integer, at its first lexeme; a name alone is judged with the uses of its name
abbrev pub arg_fault : Sort → ArgTree → List Fault
arg_fault s (TermArg (Named i)) = []
arg_fault s (TermArg t) = cond (sort_eq s Int) [] (fault_at WrongSort (int_place t))
arg_fault s (BracesArg p ts us) = cond (sort_eq s Set) [] (fault_at WrongSort p)
arg_fault s (UnionArg i u us) = cond (sort_eq s Set) [] (fault_at WrongSort i.place)

-- each argument beside the sort of its parameter
abbrev pub arg_faults : List Sort → List ArgTree → List Fault
arg_faults (s ∷ ss) (x ∷ xs) = arg_fault s x ++ arg_faults ss xs
arg_faults _ _ = []

-- no predicate of this name, another number of arguments than parameters, or an argument of the other sort
abbrev pub instance_fault : Ident → List ArgTree → Option PredTree → List Fault
instance_fault i xs None = fault_at UnknownPredicate i.place
instance_fault i xs (Some q) = cond (length q.params == length xs) (arg_faults (map param_sort q.params) xs) (fault_at WrongArity i.place)

-- an instance is one of the first predicate of its name in the text
abbrev pub chunk_faults : List PredTree → ChunkTree → List Fault
chunk_faults qs (InstanceOf i xs) = instance_fault i xs (pred_named i.text qs)
chunk_faults qs _ = []

-- ---- clauses, predicates, the procedure

-- the literal is an equality, inclusion or membership of sets, or the negation of one
abbrev pub is_set_literal : LitTree → Bool
is_set_literal (Comparing a c b) = false
is_set_literal (Negation p l) = is_set_literal l
is_set_literal _ = true

-- the name is no parameter
abbrev pub unbound_fault : List ParamTree → Use → List Fault
unbound_fault ps u = cond (list_any (λ (i : Ident). bytes_eq i.text u.name.text) (param_names ps)) [] (fault_at UnboundVariable u.name.place)

-- a guard is no set literal, and its variables are parameters
abbrev pub guard_faults : List ParamTree → LitTree → List Fault
guard_faults ps g = cond (is_set_literal g) (fault_at WrongSort (lit_place g)) [] ++ flat_map (unbound_fault ps) (lit_uses g)

-- the faults of the guard, of sorts, and of the instances
abbrev pub clause_faults : List PredTree → List ParamTree → ClauseTree → List Fault
clause_faults qs ps c =
    guard_faults ps c.guard ++ sort_faults (param_uses ps) (lit_uses c.guard ++ body_uses qs c.body) ++ flat_map (chunk_faults qs) c.body.chunks

-- the clauses of a predicate
abbrev pub clauses : PredTree → List ClauseTree
clauses q = q.first ∷ q.others

-- a second parameter of a name, and the faults of each clause
abbrev pub pred_faults : List PredTree → PredTree → List Fault
pred_faults qs q = repeats [] (param_names q.params) ++ flat_map (clause_faults qs q.params) (clauses q)

-- the word `set` among the procedure's parameters
abbrev pub set_param_fault : ParamTree → List Fault
set_param_fault p = cond (sort_eq (param_sort p) Set) (fault_at WrongSort p.place) []

-- the faults of the procedure: its two bodies speak of the same variables
abbrev pub proc_faults : TextTree → List Fault
proc_faults t =
    repeats [] (param_names t.params)
    ++ flat_map set_param_fault t.params
    ++ sort_faults (param_uses t.params) (body_uses t.preds t.pre ++ body_uses t.preds t.post)
    ++ flat_map (chunk_faults t.preds) (t.pre.chunks ++ t.post.chunks)

-- all faults of names and sorts
abbrev pub name_faults : TextTree → List Fault
name_faults t = repeats [] (map (λ (q : PredTree). q.name) t.preds) ++ flat_map (pred_faults t.preds) t.preds ++ proc_faults t
