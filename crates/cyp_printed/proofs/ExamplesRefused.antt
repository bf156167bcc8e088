-- Worked examples of texts that are refused for their tokens, names, sorts or limits.
use Rattle.std.specs.Prelude.{List, codes, ℕ}
use Rattle.std.proofs.Common.{refl, inl}
use Rattle.cyp_lex.specs.Lexing.{lexed, name_kind, piece_at, sign_at, stands}
use Rattle.cyp_lex.specs.declared.fault.FaultKind.TheVariants.{BadByte, DuplicateName, GuardsOverlap, NumberRange, TooLarge, UnboundVariable, UnknownPredicate, Unproductive, WrongArity, WrongSort}
use Rattle.cyp_term.specs.Entailment.{arrangement_fits, arrangements, class_literals, satisfiable}
use Rattle.cyp_term.specs.Integers.{all_cases, both, eliminate, eliminate_all, feasible, ints_fit, joined}
use Rattle.cyp_term.specs.Regions.{all_set_vars, all_terms, regions_fit}
use Rattle.cyp_formed.specs.Reading.{IsReading}
use Rattle.cyp_spec.proofs.ExampleForms.{refused, tree_of}

-- ---- tokens

bad_byte : IsReading (codes "$") (refused BadByte 0)
unfolding lexed piece_at sign_at stands name_kind
bad_byte = refl

great_number : IsReading (codes "void f(int n, int m) { n == m + 2147483649 ; emp } { emp }") (refused NumberRange 32)
unfolding lexed piece_at sign_at stands name_kind
great_number = refl

-- ---- names and sorts

abbrev twice : List ℕ
twice = codes "void f(loc x, loc x) { emp } { emp }"

second_parameter : IsReading twice (refused DuplicateName 18)
unfolding lexed piece_at sign_at stands name_kind
second_parameter = inl (tree_of twice, assumption refl, refl)

abbrev unknown : List ℕ
unknown = codes "void f(loc x) { p(x) } { emp }"

unknown_predicate : IsReading unknown (refused UnknownPredicate 16)
unfolding lexed piece_at sign_at stands name_kind
unknown_predicate = inl (tree_of unknown, assumption refl, refl)

abbrev no_argument : List ℕ
no_argument = codes "predicate p(loc x) { | x == 0 => { emp } } void f(loc x) { p() } { emp }"

wrong_arity : IsReading no_argument (refused WrongArity 59)
unfolding lexed piece_at sign_at stands name_kind
wrong_arity = inl (tree_of no_argument, assumption refl, refl)

abbrev in_itself : List ℕ
in_itself = codes "void f(loc x) { x in x ; emp } { emp }"

not_a_set : IsReading in_itself (refused WrongSort 21)
unfolding lexed piece_at sign_at stands name_kind
not_a_set = inl (tree_of in_itself, assumption refl, refl)

-- the instance stands behind the cell, though it is kept before it
abbrev cell_then_set : List ℕ
cell_then_set = codes "predicate p(set a) { | 0 == 0 => { emp } } void f() { x :-> s ** p(s) } { emp }"

second_use : IsReading cell_then_set (refused WrongSort 67)
unfolding lexed piece_at sign_at stands name_kind
second_use = inl (tree_of cell_then_set, assumption refl, refl)

-- a name with a wrong number of arguments round it has no sort there
abbrev no_sort : List ℕ
no_sort = codes "predicate p(set a) { | 0 == 0 => { emp } } void f(set s) { p(x, x) ** x :-> 1 } { emp }"

set_parameter : IsReading no_sort (refused WrongSort 50)
unfolding lexed piece_at sign_at stands name_kind
set_parameter = inl (tree_of no_sort, assumption refl, refl)

abbrev other_name : List ℕ
other_name = codes "predicate p(loc x) { | x == y => { emp } } void f(loc x) { emp } { emp }"

unbound : IsReading other_name (refused UnboundVariable 28)
unfolding lexed piece_at sign_at stands name_kind
unbound = inl (tree_of other_name, assumption refl, refl)

abbrev set_guard : List ℕ
set_guard = codes "predicate p(loc x, set s) { | not (x in s) => { emp } } void f(loc x) { emp } { emp }"

no_set_guard : IsReading set_guard (refused WrongSort 30)
unfolding lexed piece_at sign_at stands name_kind
no_set_guard = inl (tree_of set_guard, assumption refl, refl)

-- ---- predicates and limits

abbrev zero_twice : List ℕ
zero_twice = codes "predicate p(loc x) { | x <= 0 => { emp } | x == 0 => { emp } } void f(loc x) { emp } { emp }"

overlap : IsReading zero_twice (refused GuardsOverlap 43)
unfolding lexed piece_at sign_at stands name_kind satisfiable arrangements class_literals arrangement_fits ints_fit all_cases both joined eliminate eliminate_all feasible all_terms all_set_vars regions_fit
overlap = inl (tree_of zero_twice, assumption refl, refl)

abbrev no_cell : List ℕ
no_cell = codes "predicate p(loc x) { | x == 0 => { emp } | x != 0 => { p(x) } } void f(loc x) { emp } { emp }"

unproductive : IsReading no_cell (refused Unproductive 41)
unfolding lexed piece_at sign_at stands name_kind satisfiable arrangements class_literals arrangement_fits ints_fit all_cases both joined eliminate eliminate_all feasible all_terms all_set_vars regions_fit
unproductive = inl (tree_of no_cell, assumption refl, refl)

abbrev nine_cells : List ℕ
nine_cells = codes "void f(loc x) { [x, 9] } { emp }"

block_size : IsReading nine_cells (refused TooLarge 20)
unfolding lexed piece_at sign_at stands name_kind
block_size = inl (tree_of nine_cells, assumption refl, refl)

-- thirteen parameters that nothing uses
abbrev many : List ℕ
many = codes "void f(int a, int b, int c, int d, int e, int f, int g, int h, int i, int j, int k, int l, int m) { emp } { emp }"

many_parameters : IsReading many (refused TooLarge 5)
unfolding lexed piece_at sign_at stands name_kind
many_parameters = inl (tree_of many, assumption refl, refl)

-- seven element terms are within the limits as they are written, but not in the normal form
abbrev seven : List ℕ
seven = codes "void f() { emp } { {1, 2, 3, 4, 5, 6, 7} <=i s ; emp }"

seven_elements : IsReading seven (refused TooLarge 5)
unfolding lexed piece_at sign_at stands name_kind
seven_elements = inl (tree_of seven, assumption refl, refl)

-- the wrong size is before the procedure's name of a goal that is too large
abbrev two_limits : List ℕ
two_limits = codes "predicate p(loc x) { | x == 0 => { [x, 0] } } void f() { emp } { {1, 2, 3, 4, 5, 6, 7} <=i s ; [y, 9] }"

least_limit : IsReading two_limits (refused TooLarge 39)
unfolding lexed piece_at sign_at stands name_kind
least_limit = inl (tree_of two_limits, assumption refl, refl)

-- ---- which fault counts

-- the first pass with a fault decides, wherever the faults of later passes stand
abbrev byte_behind_name : List ℕ
byte_behind_name = codes "void f(loc x, loc x) { x :-> $ } { emp }"

earlier_pass : IsReading byte_behind_name (refused BadByte 29)
unfolding lexed piece_at sign_at stands name_kind
earlier_pass = refl

abbrev name_behind_size : List ℕ
name_behind_size = codes "void f(loc x) { [x, 9] } { p(x) }"

names_before_limits : IsReading name_behind_size (refused UnknownPredicate 27)
unfolding lexed piece_at sign_at stands name_kind
names_before_limits = inl (tree_of name_behind_size, assumption refl, refl)
