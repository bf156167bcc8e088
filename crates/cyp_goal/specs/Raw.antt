-- What is asked of a node that is to be brought into normal form.
use Rattle.std.specs.Prelude.{[], ◌&&◌, ◌++◌, Bool, IsTrue, List, not, true, ◌∷◌}
use Rattle.std.specs.List.{list_all, list_any}
use Rattle.cyp_heap.specs.Chunks.{card_vars}
use Rattle.cyp_heap.specs.declared.chunk.Arg.{Arg}
use Rattle.cyp_heap.specs.declared.chunk.Arg.TheVariants.{Int as IntArg, Set as SetArg}
use Rattle.cyp_heap.specs.declared.chunk.Chunk.{Chunk}
use Rattle.cyp_heap.specs.declared.chunk.Chunk.TheVariants.{Block, Cell, Inst}
use Rattle.cyp_heap.specs.declared.goal.Goal.{Goal}
use Rattle.cyp_heap.specs.declared.goal.Link.{Link}
use Rattle.cyp_heap.specs.declared.goal.Node.{Node}
use Rattle.cyp_term.specs.Terms.{is_set_var, lits_vars, term_eq, term_vars, var_eq, var_in}
use Rattle.cyp_term.specs.declared.lit.Lit.{Lit}
use Rattle.cyp_term.specs.declared.lit.Lit.TheVariants.{Eq, Le, Lt, Member, Ne, NotMember, NotSame, NotSub, Same, Sub}
use Rattle.cyp_term.specs.declared.lit.SetTerm.{SetTerm}
use Rattle.cyp_term.specs.declared.subst.IntBind.{IntBind}
use Rattle.cyp_term.specs.declared.subst.SetBind.{SetBind}
use Rattle.cyp_term.specs.declared.subst.Subst.{Subst}
use Rattle.cyp_term.specs.declared.term.Term.{Term}
use Rattle.cyp_term.specs.declared.term.Var.{Var}

-- ---- tests of the variables in places of integers and in places of sets

-- the base, if there is one, passes the test
abbrev pub term_fits : (Var → Bool) → Term → Bool
term_fits p t = list_all p (term_vars t)

-- the variables pass the second test, the bases of the elements the first
abbrev pub set_fits : (Var → Bool) → (Var → Bool) → SetTerm → Bool
set_fits p q u = list_all q u.vars && list_all (term_fits p) u.elems

-- both sides fit
abbrev pub lit_fits : (Var → Bool) → (Var → Bool) → Lit → Bool
lit_fits p q (Eq a b) = term_fits p a && term_fits p b
lit_fits p q (Ne a b) = term_fits p a && term_fits p b
lit_fits p q (Le a b) = term_fits p a && term_fits p b
lit_fits p q (Lt a b) = term_fits p a && term_fits p b
lit_fits p q (Same a b) = set_fits p q a && set_fits p q b
lit_fits p q (NotSame a b) = set_fits p q a && set_fits p q b
lit_fits p q (Member a b) = term_fits p a && set_fits p q b
lit_fits p q (NotMember a b) = term_fits p a && set_fits p q b
lit_fits p q (Sub a b) = set_fits p q a && set_fits p q b
lit_fits p q (NotSub a b) = set_fits p q a && set_fits p q b

-- the term or the set term fits
abbrev pub arg_fits : (Var → Bool) → (Var → Bool) → Arg → Bool
arg_fits p q (IntArg t) = term_fits p t
arg_fits p q (SetArg u) = set_fits p q u

-- each argument fits and the cardinality passes the first test; address and content fit
abbrev pub chunk_fits : (Var → Bool) → (Var → Bool) → Chunk → Bool
chunk_fits p q (Inst i) = list_all (arg_fits p q) i.args && list_all p (card_vars i.card)
chunk_fits p q (Block k) = term_fits p k.at
chunk_fits p q (Cell k) = term_fits p k.at && term_fits p k.content

-- each image fits
abbrev pub images_fit : (Var → Bool) → (Var → Bool) → Subst → Bool
images_fit p q m = list_all (λ (b : IntBind). term_fits p b.to) m.ints && list_all (λ (b : SetBind). set_fits p q b.to) m.sets

-- each literal and each chunk of both sides fits
abbrev pub goal_fits : (Var → Bool) → (Var → Bool) → Goal → Bool
goal_fits p q g =
    list_all (lit_fits p q) g.pure_pre && list_all (chunk_fits p q) g.pre.chunks
    && list_all (lit_fits p q) g.pure_post && list_all (chunk_fits p q) g.post.chunks

-- the measure and the images of the map fit
abbrev pub link_fits : (Var → Bool) → (Var → Bool) → Link → Bool
link_fits p q k = list_all (term_fits p) k.tuple && images_fit p q k.map

-- the goal and each companion fit
abbrev pub node_fits : (Var → Bool) → (Var → Bool) → Node → Bool
node_fits p q n = goal_fits p q n.goal && list_all (link_fits p q) n.links

-- ---- set terms without repeats

-- no element is equal to one of the first list, or to one before it
abbrev pub all_new : {A : Type 0} → (A → A → Bool) → List A → List A → Bool
all_new eq seen [] = true
all_new eq seen (x ∷ xs) = not (list_any (eq x) seen) && all_new eq (seen ++ x ∷ []) xs

-- no variable and no element of the set term stands twice
abbrev pub set_once : SetTerm → Bool
set_once u = all_new var_eq [] u.vars && all_new term_eq [] u.elems

-- the set terms of the literal are without repeats
abbrev pub lit_once : Lit → Bool
lit_once (Same a b) = set_once a && set_once b
lit_once (NotSame a b) = set_once a && set_once b
lit_once (Member t b) = set_once b
lit_once (NotMember t b) = set_once b
lit_once (Sub a b) = set_once a && set_once b
lit_once (NotSub a b) = set_once a && set_once b
lit_once _ = true

-- ---- what is asked

-- no set variable stands in the place of an integer or a cardinality, and no other variable in that of a set
abbrev pub is_sorted : Node → Bool
is_sorted n = node_fits (λ v. not (is_set_var v)) is_set_var n

-- what the law of normal forms asks of a node that is brought into normal form
pub record IsRegular (n : Node) : Type 0 where
  pub sorted : IsTrue (is_sorted n)
  -- the set terms of its literals are without repeats
  pub pre_once : IsTrue (list_all lit_once n.goal.pure_pre)
  pub post_once : IsTrue (list_all lit_once n.goal.pure_post)
  -- no existential stands in the pure precondition
  pub exist_apart : IsTrue (list_all (λ v. not (var_in v (lits_vars n.goal.pure_pre))) n.goal.exist)
