-- A renaming that keeps the tests of variables keeps what fits, and what is without repeats.
use Rattle.std.proofs.Common.{◌≡◌, ◌∙◌, [], Option, Some, None, Bool, true, ◌&&◌, refl, ap, ap₂}
use Rattle.std.specs.List.{list_all}
use Rattle.cyp_goal.proofs.Fits.{FitNode}
use Rattle.cyp_goal.proofs.Maps.{all_new-map, list_all-map}
use Rattle.cyp_goal.proofs.Rename.{IsRenaming, rename_arg, rename_base, rename_chunk, rename_images, rename_link, rename_lit, rename_node, rename_set, rename_term, term_eq-rename}
use Rattle.cyp_goal.proofs.RenameVars.{rename_int_bind, rename_set_bind}
use Rattle.cyp_goal.specs.Raw.{lit_once, set_once, arg_fits, chunk_fits, images_fit, link_fits, lit_fits, set_fits, term_fits}
use Rattle.cyp_heap.specs.Chunks.{card_vars}
use Rattle.cyp_heap.specs.declared.chunk.Arg.{Arg}
use Rattle.cyp_heap.specs.declared.chunk.Arg.TheVariants.{Int as IntArg, Set as SetArg}
use Rattle.cyp_heap.specs.declared.chunk.Chunk.{Chunk}
use Rattle.cyp_heap.specs.declared.chunk.Chunk.TheVariants.{Block, Cell, Inst}
use Rattle.cyp_heap.specs.declared.goal.Link.{Link}
use Rattle.cyp_heap.specs.declared.goal.Node.{Node}
use Rattle.cyp_term.specs.Terms.{base_vars, term_eq, var_eq}
use Rattle.cyp_term.specs.declared.lit.Lit.{Lit}
use Rattle.cyp_term.specs.declared.lit.Lit.TheVariants.{Eq, Le, Lt, Member, Ne, NotMember, NotSame, NotSub, Same, Sub}
use Rattle.cyp_term.specs.declared.lit.SetTerm.{SetTerm}
use Rattle.cyp_term.specs.declared.subst.IntBind.{IntBind}
use Rattle.cyp_term.specs.declared.subst.SetBind.{SetBind}
use Rattle.cyp_term.specs.declared.subst.Subst.{Subst}
use Rattle.cyp_term.specs.declared.term.Term.{Term}
use Rattle.cyp_term.specs.declared.term.Var.{Var}

module _ (r : Var → Var) (is : IsRenaming r) (p q : Var → Bool) (keeps : (v : Var) → p (r v) ≡ p v) (keeps_sets : (v : Var) → q (r v) ≡ q v) where
  base_fits-rename : (b : Option Var) → list_all p (base_vars (rename_base r b)) ≡ list_all p (base_vars b)
  base_fits-rename None = refl
  base_fits-rename (Some v) = ap (λ e. e && true) (keeps v)

  card_fits-rename : (b : Option Var) → list_all p (card_vars (rename_base r b)) ≡ list_all p (card_vars b)
  card_fits-rename None = refl
  card_fits-rename (Some v) = ap (λ e. e && true) (keeps v)

  term_fits-rename : (t : Term) → term_fits p (rename_term r t) ≡ term_fits p t
  term_fits-rename t = base_fits-rename t.base

  set_fits-rename : (u : SetTerm) → set_fits p q (rename_set r u) ≡ set_fits p q u
  set_fits-rename u =
      ap₂ (λ x y. x && y) (list_all-map r q q keeps_sets u.vars) (list_all-map (rename_term r) (term_fits p) (term_fits p) term_fits-rename u.elems)

  set_once-rename : (u : SetTerm) → set_once (rename_set r u) ≡ set_once u
  set_once-rename u =
      ap₂ (λ x y. x && y) (all_new-map r var_eq var_eq is.apart [] u.vars) (all_new-map (rename_term r) term_eq term_eq (term_eq-rename r is) [] u.elems)

  lit_once-rename : (l : Lit) → lit_once (rename_lit r l) ≡ lit_once l
  lit_once-rename (Same a b) = ap₂ (λ x y. x && y) (set_once-rename a) (set_once-rename b)
  lit_once-rename (NotSame a b) = ap₂ (λ x y. x && y) (set_once-rename a) (set_once-rename b)
  lit_once-rename (Member t b) = set_once-rename b
  lit_once-rename (NotMember t b) = set_once-rename b
  lit_once-rename (Sub a b) = ap₂ (λ x y. x && y) (set_once-rename a) (set_once-rename b)
  lit_once-rename (NotSub a b) = ap₂ (λ x y. x && y) (set_once-rename a) (set_once-rename b)
  lit_once-rename _ = refl

  both : (a b c d : Bool) → a ≡ b → c ≡ d → (a && c) ≡ (b && d)
  both a b c d e f = ap₂ (λ x y. x && y) e f

  lit_fits-rename : (l : Lit) → lit_fits p q (rename_lit r l) ≡ lit_fits p q l
  lit_fits-rename (Eq a b) = both _ _ _ _ (term_fits-rename a) (term_fits-rename b)
  lit_fits-rename (Ne a b) = both _ _ _ _ (term_fits-rename a) (term_fits-rename b)
  lit_fits-rename (Le a b) = both _ _ _ _ (term_fits-rename a) (term_fits-rename b)
  lit_fits-rename (Lt a b) = both _ _ _ _ (term_fits-rename a) (term_fits-rename b)
  lit_fits-rename (Same a b) = both _ _ _ _ (set_fits-rename a) (set_fits-rename b)
  lit_fits-rename (NotSame a b) = both _ _ _ _ (set_fits-rename a) (set_fits-rename b)
  lit_fits-rename (Member a b) = both _ _ _ _ (term_fits-rename a) (set_fits-rename b)
  lit_fits-rename (NotMember a b) = both _ _ _ _ (term_fits-rename a) (set_fits-rename b)
  lit_fits-rename (Sub a b) = both _ _ _ _ (set_fits-rename a) (set_fits-rename b)
  lit_fits-rename (NotSub a b) = both _ _ _ _ (set_fits-rename a) (set_fits-rename b)

  arg_fits-rename : (a : Arg) → arg_fits p q (rename_arg r a) ≡ arg_fits p q a
  arg_fits-rename (IntArg t) = term_fits-rename t
  arg_fits-rename (SetArg u) = set_fits-rename u

  chunk_fits-rename : (c : Chunk) → chunk_fits p q (rename_chunk r c) ≡ chunk_fits p q c
  chunk_fits-rename (Inst i) = both _ _ _ _ (list_all-map (rename_arg r) (arg_fits p q) (arg_fits p q) arg_fits-rename i.args) (card_fits-rename i.card)
  chunk_fits-rename (Block k) = term_fits-rename k.at
  chunk_fits-rename (Cell k) = both _ _ _ _ (term_fits-rename k.at) (term_fits-rename k.content)

  images_fit-rename : (m : Subst) → images_fit p q (rename_images r m) ≡ images_fit p q m
  images_fit-rename m =
      both _ _ _ _ (list_all-map (rename_int_bind r) (λ (b : IntBind). term_fits p b.to) (λ (b : IntBind). term_fits p b.to) (λ b. term_fits-rename b.to) m.ints)
      (list_all-map (rename_set_bind r) (λ (b : SetBind). set_fits p q b.to) (λ (b : SetBind). set_fits p q b.to) (λ b. set_fits-rename b.to) m.sets)

  link_fits-rename : (k : Link) → link_fits p q (rename_link r k) ≡ link_fits p q k
  link_fits-rename k = both _ _ _ _ (list_all-map (rename_term r) (term_fits p) (term_fits p) term_fits-rename k.tuple) (images_fit-rename k.map)

  pub fit_renamed : (n : Node) → FitNode p q n → FitNode p q (rename_node r n)
  fit_renamed n f = record {
    pure_pre = list_all-map (rename_lit r) (lit_fits p q) (lit_fits p q) lit_fits-rename n.goal.pure_pre ∙ f.pure_pre;
    pre = list_all-map (rename_chunk r) (chunk_fits p q) (chunk_fits p q) chunk_fits-rename n.goal.pre.chunks ∙ f.pre;
    pure_post = list_all-map (rename_lit r) (lit_fits p q) (lit_fits p q) lit_fits-rename n.goal.pure_post ∙ f.pure_post;
    post = list_all-map (rename_chunk r) (chunk_fits p q) (chunk_fits p q) chunk_fits-rename n.goal.post.chunks ∙ f.post;
    links = list_all-map (rename_link r) (link_fits p q) (link_fits p q) link_fits-rename n.links ∙ f.links;
    pre_once = list_all-map (rename_lit r) lit_once lit_once lit_once-rename n.goal.pure_pre ∙ f.pre_once;
    post_once = list_all-map (rename_lit r) lit_once lit_once lit_once-rename n.goal.pure_post ∙ f.post_once;
  }
