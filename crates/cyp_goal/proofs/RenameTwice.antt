-- Renaming twice is renaming once, by names that are the one behind the other for the variables that stand there.
use Rattle.std.proofs.Common.{◌≡◌, [], ◌∷◌, ◌++◌, List, Option, Some, None, map, flat_map, refl, ap, inl, inr}
use Rattle.cyp_goal.proofs.EachVar.{Each, EachPart, each, each_part, link_vars, two}
use Rattle.cyp_goal.proofs.Rename.{rename_arg, rename_base, rename_chunk, rename_images, rename_link, rename_lit, rename_node, rename_set, rename_term}
use Rattle.cyp_goal.proofs.RenameVars.{rename_int_bind, rename_set_bind}
use Rattle.cyp_heap.specs.Chunks.{arg_vars, card_vars, chunk_vars, chunks_vars}
use Rattle.cyp_heap.specs.Goals.{image_vars, node_vars}
use Rattle.cyp_heap.specs.declared.chunk.Arg.{Arg}
use Rattle.cyp_heap.specs.declared.chunk.Arg.TheVariants.{Int as IntArg, Set as SetArg}
use Rattle.cyp_heap.specs.declared.chunk.Chunk.{Chunk}
use Rattle.cyp_heap.specs.declared.chunk.Chunk.TheVariants.{Block, Cell, Inst}
use Rattle.cyp_heap.specs.declared.goal.Goal.{Goal}
use Rattle.cyp_heap.specs.declared.goal.Link.{Link}
use Rattle.cyp_heap.specs.declared.goal.Node.{Node}
use Rattle.cyp_term.specs.Terms.{base_vars, lit_vars, lits_vars, set_vars, term_vars}
use Rattle.cyp_term.specs.declared.lit.Lit.{Lit}
use Rattle.cyp_term.specs.declared.lit.Lit.TheVariants.{Eq, Le, Lt, Member, Ne, NotMember, NotSame, NotSub, Same, Sub}
use Rattle.cyp_term.specs.declared.lit.SetTerm.{SetTerm}
use Rattle.cyp_term.specs.declared.subst.IntBind.{IntBind}
use Rattle.cyp_term.specs.declared.subst.SetBind.{SetBind}
use Rattle.cyp_term.specs.declared.subst.Subst.{Subst}
use Rattle.cyp_term.specs.declared.term.Term.{Term}
use Rattle.cyp_term.specs.declared.term.Var.{Var}

module _ (r s h : Var → Var) where
  -- h is s behind r
  abbrev Agrees : Var → Type 0
  Agrees v = s (r v) ≡ h v

  abbrev pub Behind : List Var → Type 0
  Behind vs = Each Agrees vs

  base_twice : (b : Option Var) → Behind (base_vars b) → rename_base s (rename_base r b) ≡ rename_base h b
  base_twice None e = refl
  base_twice (Some v) e = ap Some (e v (inl refl))

  card_twice : (b : Option Var) → Behind (card_vars b) → rename_base s (rename_base r b) ≡ rename_base h b
  card_twice None e = refl
  card_twice (Some v) e = ap Some (e v (inl refl))

  term_twice : (t : Term) → Behind (term_vars t) → rename_term s (rename_term r t) ≡ rename_term h t
  term_twice t e = λ i. record { base = base_twice t.base e i; offset = t.offset }

  vars_twice : (vs : List Var) → Behind vs → map s (map r vs) ≡ map h vs
  vars_twice [] e = refl
  vars_twice (v ∷ vs) e =
      let here = e v (inl refl) in
      let rest = vars_twice vs (λ w k. e w (inr k)) in
      λ i. here i ∷ rest i

  terms_twice : (ts : List Term) → Behind (flat_map term_vars ts) → map (rename_term s) (map (rename_term r) ts) ≡ map (rename_term h) ts
  terms_twice ts e = each Agrees (rename_term r) (rename_term h) (rename_term s) term_vars ts (λ t _. term_twice t) e

  set_twice : (u : SetTerm) → Behind (set_vars u) → rename_set s (rename_set r u) ≡ rename_set h u
  set_twice u e = two Agrees {C = SetTerm} (λ vs ts. record { vars = vs; elems = ts }) _ _ _ _ u.vars (flat_map term_vars u.elems) (vars_twice u.vars) (terms_twice u.elems) e

  two_terms : (f : Term → Term → Lit) (a b : Term) → Behind (term_vars a ++ term_vars b)
      → f (rename_term s (rename_term r a)) (rename_term s (rename_term r b)) ≡ f (rename_term h a) (rename_term h b)
  two_terms f a b e = two Agrees f _ _ _ _ (term_vars a) (term_vars b) (term_twice a) (term_twice b) e

  two_sets : (f : SetTerm → SetTerm → Lit) (a b : SetTerm) → Behind (set_vars a ++ set_vars b)
      → f (rename_set s (rename_set r a)) (rename_set s (rename_set r b)) ≡ f (rename_set h a) (rename_set h b)
  two_sets f a b e = two Agrees f _ _ _ _ (set_vars a) (set_vars b) (set_twice a) (set_twice b) e

  term_and_set : (f : Term → SetTerm → Lit) (a : Term) (b : SetTerm) → Behind (term_vars a ++ set_vars b)
      → f (rename_term s (rename_term r a)) (rename_set s (rename_set r b)) ≡ f (rename_term h a) (rename_set h b)
  term_and_set f a b e = two Agrees f _ _ _ _ (term_vars a) (set_vars b) (term_twice a) (set_twice b) e

  lit_twice : (l : Lit) → Behind (lit_vars l) → rename_lit s (rename_lit r l) ≡ rename_lit h l
  lit_twice (Eq a b) = two_terms Eq a b
  lit_twice (Ne a b) = two_terms Ne a b
  lit_twice (Le a b) = two_terms Le a b
  lit_twice (Lt a b) = two_terms Lt a b
  lit_twice (Same a b) = two_sets Same a b
  lit_twice (NotSame a b) = two_sets NotSame a b
  lit_twice (Member a b) = term_and_set Member a b
  lit_twice (NotMember a b) = term_and_set NotMember a b
  lit_twice (Sub a b) = two_sets Sub a b
  lit_twice (NotSub a b) = two_sets NotSub a b

  lits_twice : (ls : List Lit) → Behind (lits_vars ls) → map (rename_lit s) (map (rename_lit r) ls) ≡ map (rename_lit h) ls
  lits_twice ls e = each Agrees (rename_lit r) (rename_lit h) (rename_lit s) lit_vars ls (λ l _. lit_twice l) e

  arg_twice : (a : Arg) → Behind (arg_vars a) → rename_arg s (rename_arg r a) ≡ rename_arg h a
  arg_twice (IntArg t) e = ap IntArg (term_twice t e)
  arg_twice (SetArg u) e = ap SetArg (set_twice u e)

  chunk_twice : (c : Chunk) → Behind (chunk_vars c) → rename_chunk s (rename_chunk r c) ≡ rename_chunk h c
  chunk_twice (Inst k) e =
      two Agrees (λ xs c. Inst (record { pred = k.pred; args = xs; card = c; tag = k.tag })) _ _ _ _ (flat_map arg_vars k.args) (card_vars k.card)
      (each Agrees (rename_arg r) (rename_arg h) (rename_arg s) arg_vars k.args (λ a _. arg_twice a)) (card_twice k.card) e
  chunk_twice (Block k) e = ap (λ t. Block (record { at = t; size = k.size })) (term_twice k.at e)
  chunk_twice (Cell k) e = two Agrees (λ t u. Cell (record { at = t; content = u })) _ _ _ _ (term_vars k.at) (term_vars k.content) (term_twice k.at) (term_twice k.content) e

  chunks_twice : (cs : List Chunk) → Behind (chunks_vars cs) → map (rename_chunk s) (map (rename_chunk r) cs) ≡ map (rename_chunk h) cs
  chunks_twice cs e = each Agrees (rename_chunk r) (rename_chunk h) (rename_chunk s) chunk_vars cs (λ c _. chunk_twice c) e

  images_twice : (m : Subst) → Behind (image_vars m) → rename_images s (rename_images r m) ≡ rename_images h m
  images_twice m e =
      two Agrees {C = Subst} (λ is us. record { ints = is; sets = us }) _ _ _ _ (flat_map (λ (b : IntBind). term_vars b.to) m.ints) (flat_map (λ (b : SetBind). set_vars b.to) m.sets)
      (each Agrees (rename_int_bind r) (rename_int_bind h) (rename_int_bind s) (λ (b : IntBind). term_vars b.to) m.ints
      (λ b _ k. ap (λ t. record { var = b.var; to = t }) (term_twice b.to k)))
      (each Agrees (rename_set_bind r) (rename_set_bind h) (rename_set_bind s) (λ (b : SetBind). set_vars b.to) m.sets
      (λ b _ k. ap (λ u. record { var = b.var; to = u }) (set_twice b.to k))) e

  link_twice : (k : Link) → Behind (link_vars k) → rename_link s (rename_link r k) ≡ rename_link h k
  link_twice k e =
      two Agrees {C = Link} (λ ts m. record { goal = k.goal; own = k.own; map = m; tuple = ts }) _ _ _ _ (flat_map term_vars k.tuple) (image_vars k.map) (terms_twice k.tuple) (images_twice k.map) e

  pub node_twice : (n : Node) → Behind (node_vars n) → Behind n.goal.exist → rename_node s (rename_node r n) ≡ rename_node h n
  node_twice n e of_exist =
      let g : Goal = n.goal in
      let parts : EachPart Agrees n = each_part Agrees n e in
      let program = vars_twice g.program parts.program in
      let exist = vars_twice g.exist of_exist in
      let pure_pre = lits_twice g.pure_pre parts.pure_pre in
      let pre = chunks_twice g.pre.chunks parts.pre in
      let pure_post = lits_twice g.pure_post parts.pure_post in
      let post = chunks_twice g.post.chunks parts.post in
      let links = each Agrees (rename_link r) (rename_link h) (rename_link s) link_vars n.links (λ k _. link_twice k) parts.links in
      λ i. record {
        preds = n.preds;
        goal = record { program = program i; exist = exist i; pure_pre = pure_pre i; pre = record { chunks = pre i }; pure_post = pure_post i; post = record { chunks = post i } };
        links = links i;
      }
