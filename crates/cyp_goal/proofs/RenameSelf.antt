-- A renaming of each variable to itself changes nothing.
use Rattle.std.proofs.Common.{◌≡◌, [], ◌∷◌, List, Option, Some, None, map, refl, ap, ap₂}
use Rattle.cyp_goal.proofs.Rename.{rename_arg, rename_base, rename_chunk, rename_link, rename_lit, rename_node, rename_set, rename_term}
use Rattle.cyp_goal.proofs.RenameVars.{rename_int_bind, rename_set_bind}
use Rattle.cyp_heap.specs.declared.chunk.Arg.{Arg}
use Rattle.cyp_heap.specs.declared.chunk.Arg.TheVariants.{Int as IntArg, Set as SetArg}
use Rattle.cyp_heap.specs.declared.chunk.Chunk.{Chunk}
use Rattle.cyp_heap.specs.declared.chunk.Chunk.TheVariants.{Block, Cell, Inst}
use Rattle.cyp_heap.specs.declared.goal.Goal.{Goal}
use Rattle.cyp_heap.specs.declared.goal.Link.{Link}
use Rattle.cyp_heap.specs.declared.goal.Node.{Node}
use Rattle.cyp_term.specs.declared.lit.Lit.{Lit}
use Rattle.cyp_term.specs.declared.lit.Lit.TheVariants.{Eq, Le, Lt, Member, Ne, NotMember, NotSame, NotSub, Same, Sub}
use Rattle.cyp_term.specs.declared.lit.SetTerm.{SetTerm}
use Rattle.cyp_term.specs.declared.subst.IntBind.{IntBind}
use Rattle.cyp_term.specs.declared.subst.SetBind.{SetBind}
use Rattle.cyp_term.specs.declared.term.Term.{Term}
use Rattle.cyp_term.specs.declared.term.Var.{Var}

abbrev pub self : Var → Var
self v = v

pub map_self : {A : Type 0} (f : A → A) → ((x : A) → f x ≡ x) → (xs : List A) → map f xs ≡ xs
map_self f e [] = refl
map_self f e (x ∷ xs) = λ i. e x i ∷ map_self f e xs i

base_self : (b : Option Var) → rename_base self b ≡ b
base_self None = refl
base_self (Some v) = refl

term_self : (t : Term) → rename_term self t ≡ t
term_self t = λ i. record { base = base_self t.base i; offset = t.offset }

set_self : (u : SetTerm) → rename_set self u ≡ u
set_self u =
    let vars = map_self self (λ v. refl) u.vars in
    let elems = map_self (rename_term self) term_self u.elems in
    λ i. record { vars = vars i; elems = elems i }

lit_self : (l : Lit) → rename_lit self l ≡ l
lit_self (Eq a b) = ap₂ Eq (term_self a) (term_self b)
lit_self (Ne a b) = ap₂ Ne (term_self a) (term_self b)
lit_self (Le a b) = ap₂ Le (term_self a) (term_self b)
lit_self (Lt a b) = ap₂ Lt (term_self a) (term_self b)
lit_self (Same a b) = ap₂ Same (set_self a) (set_self b)
lit_self (NotSame a b) = ap₂ NotSame (set_self a) (set_self b)
lit_self (Member a b) = ap₂ Member (term_self a) (set_self b)
lit_self (NotMember a b) = ap₂ NotMember (term_self a) (set_self b)
lit_self (Sub a b) = ap₂ Sub (set_self a) (set_self b)
lit_self (NotSub a b) = ap₂ NotSub (set_self a) (set_self b)

arg_self : (a : Arg) → rename_arg self a ≡ a
arg_self (IntArg t) = ap IntArg (term_self t)
arg_self (SetArg u) = ap SetArg (set_self u)

chunk_self : (c : Chunk) → rename_chunk self c ≡ c
chunk_self (Inst i) =
    let args = map_self (rename_arg self) arg_self i.args in
    λ j. Inst (record { pred = i.pred; args = args j; card = base_self i.card j; tag = i.tag })
chunk_self (Block k) = λ j. Block (record { at = term_self k.at j; size = k.size })
chunk_self (Cell k) = λ j. Cell (record { at = term_self k.at j; content = term_self k.content j })

link_self : (k : Link) → rename_link self k ≡ k
link_self k =
    let ints = map_self (rename_int_bind self) (λ (b : IntBind). λ i. record { var = b.var; to = term_self b.to i }) k.map.ints in
    let sets = map_self (rename_set_bind self) (λ (b : SetBind). λ i. record { var = b.var; to = set_self b.to i }) k.map.sets in
    let tuple = map_self (rename_term self) term_self k.tuple in
    λ i. record { goal = k.goal; own = k.own; map = record { ints = ints i; sets = sets i }; tuple = tuple i }

pub node_self : (n : Node) → rename_node self n ≡ n
node_self n =
    let g : Goal = n.goal in
    let program = map_self self (λ v. refl) g.program in
    let exist = map_self self (λ v. refl) g.exist in
    let pure_pre = map_self (rename_lit self) lit_self g.pure_pre in
    let pre = map_self (rename_chunk self) chunk_self g.pre.chunks in
    let pure_post = map_self (rename_lit self) lit_self g.pure_post in
    let post = map_self (rename_chunk self) chunk_self g.post.chunks in
    let links = map_self (rename_link self) link_self n.links in
    λ i. record {
      preds = n.preds;
      goal = record { program = program i; exist = exist i; pure_pre = pure_pre i; pre = record { chunks = pre i }; pure_post = pure_post i; post = record { chunks = post i } };
      links = links i;
    }
