-- A node whose arguments and images have set terms without repeats.
use Rattle.std.proofs.Common.{◌≡◌, ◌∙◌, [], ◌∷◌, ◌++◌, List, Bool, true, not, map, filter, flat_map, length, refl, ap, ap₂}
use Rattle.std.specs.List.{list_all}
use Rattle.std.proofs.lemmas.Bool.{and_from, and_parts}
use Rattle.cyp_goal.proofs.AllNew.{all_new-without_repeats, without_repeats-all_new}
use Rattle.cyp_goal.proofs.Fits.{set_from, set_parts}
use Rattle.cyp_goal.proofs.Maps.{filter-map, map_both, without_repeats-map}
use Rattle.cyp_goal.proofs.Rename.{IsRenaming, rename_arg, rename_base, rename_chunk, rename_link, rename_node, rename_set, rename_term, term_eq-rename}
use Rattle.cyp_goal.proofs.RenameVars.{rename_int_bind, rename_set_bind}
use Rattle.cyp_goal.proofs.SameVars.{AddSame, filter_same, same_all, same_append, same_in, same_once, same_once_vars}
use Rattle.cyp_goal.proofs.TidyLeaves.{IsTidy}
use Rattle.cyp_goal.specs.Pruning.{is_kept, live_vars, only_vars, prune, spread_times}
use Rattle.cyp_goal.specs.Raw.{arg_fits, chunk_fits, images_fit, link_fits, set_fits, set_once, term_fits}
use Rattle.cyp_goal.specs.Tidying.{address}
use Rattle.cyp_heap.specs.Chunks.{arg_vars, card_vars, chunk_vars, chunks_vars}
use Rattle.cyp_heap.specs.Goals.{goal_vars, image_vars, node_vars, tuple_vars}
use Rattle.cyp_heap.specs.declared.chunk.Arg.{Arg}
use Rattle.cyp_heap.specs.declared.chunk.Arg.TheVariants.{Int as IntArg, Set as SetArg}
use Rattle.cyp_heap.specs.declared.chunk.Chunk.{Chunk}
use Rattle.cyp_heap.specs.declared.chunk.Chunk.TheVariants.{Block, Cell, Inst}
use Rattle.cyp_heap.specs.declared.goal.Goal.{Goal}
use Rattle.cyp_heap.specs.declared.goal.Link.{Link}
use Rattle.cyp_heap.specs.declared.goal.Node.{Node}
use Rattle.cyp_term.proofs.Equality.{Decides-term_eq, Decides-var_eq}
use Rattle.cyp_term.proofs.Lists.{each_at, each_from}
use Rattle.cyp_term.proofs.Repeats.{without_repeats_out}
use Rattle.cyp_term.specs.Terms.{lits_vars, set_vars, term_eq, term_vars, var_eq, var_in, without_repeats}
use Rattle.cyp_term.specs.declared.lit.Lit.{Lit}
use Rattle.cyp_term.specs.declared.lit.SetTerm.{SetTerm}
use Rattle.cyp_term.specs.declared.subst.IntBind.{IntBind}
use Rattle.cyp_term.specs.declared.subst.SetBind.{SetBind}
use Rattle.cyp_term.specs.declared.subst.Subst.{Subst}
use Rattle.cyp_term.specs.declared.term.Var.{Var}

abbrev pub shrink_set : SetTerm → SetTerm
shrink_set u = record { vars = without_repeats var_eq u.vars; elems = without_repeats term_eq u.elems }

abbrev pub shrink_arg : Arg → Arg
shrink_arg (IntArg t) = IntArg t
shrink_arg (SetArg u) = SetArg (shrink_set u)

abbrev pub shrink_chunk : Chunk → Chunk
shrink_chunk (Inst i) = Inst (record { pred = i.pred; args = map shrink_arg i.args; card = i.card; tag = i.tag })
shrink_chunk (Block k) = Block k
shrink_chunk (Cell k) = Cell k

abbrev pub shrink_bind : SetBind → SetBind
shrink_bind b = record { var = b.var; to = shrink_set b.to }

abbrev pub shrink_images : Subst → Subst
shrink_images m = record { ints = m.ints; sets = map shrink_bind m.sets }

abbrev pub shrink_link : Link → Link
shrink_link k = record { goal = k.goal; own = k.own; map = shrink_images k.map; tuple = k.tuple }

abbrev pub shrink_goal : Goal → Goal
shrink_goal g = record {
  program = g.program;
  exist = g.exist;
  pure_pre = g.pure_pre;
  pre = record { chunks = map shrink_chunk g.pre.chunks };
  pure_post = g.pure_post;
  post = record { chunks = map shrink_chunk g.post.chunks };
}

abbrev pub shrink_node : Node → Node
shrink_node n = record { preds = n.preds; goal = shrink_goal n.goal; links = map shrink_link n.links }

-- a set term without repeats stays
pub shrink_once : (u : SetTerm) → set_once u ≡ true → shrink_set u ≡ u
shrink_once u h =
    let both = and_parts _ _ h in
    let vars = without_repeats-all_new var_eq u.vars both.0 in
    let elems = without_repeats-all_new term_eq u.elems both.1 in
    λ i. record { vars = vars i; elems = elems i }

-- ---- the same variables

pub set_same : (u : SetTerm) → AddSame (set_vars (shrink_set u)) (set_vars u)
set_same u =
    same_append (without_repeats var_eq u.vars) u.vars (flat_map term_vars (without_repeats term_eq u.elems)) (flat_map term_vars u.elems)
    (same_once_vars u.vars) (same_once term_eq Decides-term_eq term_vars u.elems)

pub same_self : (xs : List Var) → AddSame xs xs
same_self xs seen = refl

-- the elements under a map
pub same_mapped : {A : Type 0} (f : A → A) (vars : A → List Var) → ((x : A) → AddSame (vars (f x)) (vars x)) → (xs : List A) → AddSame (flat_map vars (map f xs)) (flat_map vars xs)
same_mapped f vars h [] seen = refl
same_mapped f vars h (x ∷ xs) seen =
    same_append (vars (f x)) (vars x) (flat_map vars (map f xs)) (flat_map vars xs) (h x) (same_mapped f vars h xs) seen

arg_same : (a : Arg) → AddSame (arg_vars (shrink_arg a)) (arg_vars a)
arg_same (IntArg t) = same_self (term_vars t)
arg_same (SetArg u) = set_same u

chunk_same : (c : Chunk) → AddSame (chunk_vars (shrink_chunk c)) (chunk_vars c)
chunk_same (Inst i) =
    same_append (flat_map arg_vars (map shrink_arg i.args)) (flat_map arg_vars i.args) (card_vars i.card) (card_vars i.card) (same_mapped shrink_arg arg_vars arg_same i.args)
    (same_self (card_vars i.card))
chunk_same (Block k) = same_self (term_vars k.at)
chunk_same (Cell k) = same_self (term_vars k.at ++ term_vars k.content)

chunks_same : (cs : List Chunk) → AddSame (chunks_vars (map shrink_chunk cs)) (chunks_vars cs)
chunks_same cs = same_mapped shrink_chunk chunk_vars chunk_same cs

abbrev vars_of_link : Link → List Var
vars_of_link k = flat_map term_vars k.tuple ++ image_vars k.map

link_same : (k : Link) → AddSame (vars_of_link (shrink_link k)) (vars_of_link k)
link_same k =
    same_append (flat_map term_vars k.tuple) (flat_map term_vars k.tuple) (image_vars (shrink_images k.map)) (image_vars k.map) (same_self (flat_map term_vars k.tuple))
    (same_append (flat_map (λ (b : IntBind). term_vars b.to) k.map.ints) (flat_map (λ (b : IntBind). term_vars b.to) k.map.ints)
    (flat_map (λ (b : SetBind). set_vars b.to) (map shrink_bind k.map.sets)) (flat_map (λ (b : SetBind). set_vars b.to) k.map.sets)
    (same_self (flat_map (λ (b : IntBind). term_vars b.to) k.map.ints))
    (same_mapped shrink_bind (λ (b : SetBind). set_vars b.to) (λ b. set_same b.to) k.map.sets))

goal_same : (g : Goal) → AddSame (goal_vars (shrink_goal g)) (goal_vars g)
goal_same g =
    let a = g.program in
    let b = chunks_vars g.pre.chunks in
    let b' = chunks_vars (map shrink_chunk g.pre.chunks) in
    let c = chunks_vars g.post.chunks in
    let c' = chunks_vars (map shrink_chunk g.post.chunks) in
    let d = lits_vars g.pure_pre in
    let e = lits_vars g.pure_post in
    same_append (a ++ b' ++ c' ++ d) (a ++ b ++ c ++ d) e e
    (same_append (a ++ b' ++ c') (a ++ b ++ c) d d
    (same_append (a ++ b') (a ++ b) c' c (same_append a a b' b (same_self a) (chunks_same g.pre.chunks)) (chunks_same g.post.chunks)) (same_self d)) (same_self e)

pub node_vars-shrink : (n : Node) → node_vars (shrink_node n) ≡ node_vars n
node_vars-shrink n =
    same_append (goal_vars (shrink_goal n.goal)) (goal_vars n.goal) (flat_map vars_of_link (map shrink_link n.links)) (flat_map vars_of_link n.links) (goal_same n.goal)
    (same_mapped shrink_link vars_of_link link_same n.links) []

-- ---- pruning and shrinking may change places
tuples_shrink : (ks : List Link) → tuple_vars (map shrink_link ks) ≡ tuple_vars ks
tuples_shrink [] = refl
tuples_shrink (k ∷ ks) = ap (λ vs. flat_map term_vars k.tuple ++ vs) (tuples_shrink ks)

live_vars-shrink : (n : Node) → live_vars (shrink_node n) ≡ live_vars n
live_vars-shrink n =
    let g : Goal = n.goal in
    let a = g.program in
    let b = chunks_vars g.pre.chunks in
    let b' = chunks_vars (map shrink_chunk g.pre.chunks) in
    let c = chunks_vars g.post.chunks in
    let c' = chunks_vars (map shrink_chunk g.post.chunks) in
    let d = lits_vars g.pure_post in
    ap (spread_times (length g.pure_pre) g.pure_pre)
    (ap (λ ts. without_repeats var_eq (a ++ b' ++ c' ++ d ++ ts)) (tuples_shrink n.links)
    ∙ same_append (a ++ b' ++ c' ++ d) (a ++ b ++ c ++ d) (tuple_vars n.links) (tuple_vars n.links)
    (same_append (a ++ b' ++ c') (a ++ b ++ c) d d
    (same_append (a ++ b') (a ++ b) c' c (same_append a a b' b (same_self a) (chunks_same g.pre.chunks)) (chunks_same g.post.chunks)) (same_self d))
    (same_self (tuple_vars n.links)) [])

only_vars-shrink : (vs : List Var) (m : Subst) → only_vars vs (shrink_images m) ≡ shrink_images (only_vars vs m)
only_vars-shrink vs m =
    let sets = filter-map shrink_bind (λ (b : SetBind). list_all (λ v. var_in v vs) (set_vars b.to)) (λ (b : SetBind). list_all (λ v. var_in v vs) (set_vars b.to))
    (λ b. same_all (λ v. var_in v vs) (set_vars (shrink_set b.to)) (set_vars b.to) (set_same b.to)) m.sets in
    λ i. record { ints = (only_vars vs m).ints; sets = sets i }

pub prune-shrink : (n : Node) → prune (shrink_node n) ≡ shrink_node (prune n)
prune-shrink n =
    let g : Goal = n.goal in
    let live : List Var = live_vars n in
    let pre : List Lit = filter (is_kept live) g.pure_pre in
    let b = chunks_vars g.pre.chunks in
    let b' = chunks_vars (map shrink_chunk g.pre.chunks) in
    let c = chunks_vars g.post.chunks in
    let c' = chunks_vars (map shrink_chunk g.post.chunks) in
    let d = lits_vars pre in
    let e = lits_vars g.pure_post in
    let t = tuple_vars n.links in
    let used : List Var = b ++ c ++ d ++ e ++ t in
    let later : List Var = c ++ e in
    let program : List Var = filter (λ v. var_in v used) g.program in
    let exist : List Var = filter (λ v. var_in v later) g.exist in
    let dropped : List Var → List Var → List Var = λ ps es. filter (λ v. not (var_in v ps)) g.program ++ filter (λ v. not (var_in v es)) g.exist in
    let alive : List Var → List Var → List Var → List Var = λ ls ps es. filter (λ v. not (var_in v (dropped ps es))) (ls ++ ps) in
    let live' = live_vars-shrink n in
    let pre' = ap (λ (vs : List Var). filter (is_kept vs) g.pure_pre) live' in
    let used' : AddSame (b' ++ c' ++ d ++ e ++ t) used = same_append (b' ++ c' ++ d ++ e) (b ++ c ++ d ++ e) t t
    (same_append (b' ++ c' ++ d) (b ++ c ++ d) e e
    (same_append (b' ++ c') (b ++ c) d d (same_append b' b c' c (chunks_same g.pre.chunks) (chunks_same g.post.chunks)) (same_self d)) (same_self e)) (same_self t) in
    let program' = ap₂ (λ (ls : List Lit) (ts : List Var). filter (λ v. var_in v (b' ++ c' ++ lits_vars ls ++ e ++ ts)) g.program) pre' (tuples_shrink n.links)
    ∙ filter_same (λ v. var_in v (b' ++ c' ++ d ++ e ++ t)) (λ v. var_in v used) (same_in (b' ++ c' ++ d ++ e ++ t) used used') g.program in
    let exist' = filter_same (λ v. var_in v (c' ++ e)) (λ v. var_in v later) (same_in (c' ++ e) later (same_append c' c e e (chunks_same g.post.chunks) (same_self e))) g.exist in
    let links = (λ i. map (λ (k : Link). record k { map = only_vars (alive (live' i) (program' i) (exist' i)) k.map }) (map shrink_link n.links))
    ∙ map_both shrink_link (λ (k : Link). record k { map = only_vars (alive live program exist) k.map }) (λ (k : Link). record k { map = only_vars (alive live program exist) k.map }) shrink_link
    (λ k. ap (λ (m : Subst). record { goal = k.goal; own = k.own; map = m; tuple = k.tuple }) (only_vars-shrink (alive live program exist) k.map)) n.links in
    λ i. record {
      preds = n.preds;
      goal = record {
        program = program' i;
        exist = exist' i;
        pure_pre = pre' i;
        pre = record { chunks = map shrink_chunk g.pre.chunks };
        pure_post = g.pure_post;
        post = record { chunks = map shrink_chunk g.post.chunks };
      };
      links = links i;
    }

-- ---- what fits and is tidy stays so
module _ (p q : Var → Bool) where
  set_shrinks : (u : SetTerm) → set_fits p q u ≡ true → set_fits p q (shrink_set u) ≡ true
  set_shrinks u h =
      let f = set_parts p q u h in
      set_from p q (shrink_set u) (record {
        vars = each_from q (without_repeats var_eq u.vars) (λ v k. each_at q v u.vars f.vars (without_repeats_out var_eq Decides-var_eq v u.vars k));
        elems = each_from (term_fits p) (without_repeats term_eq u.elems) (λ t k. each_at (term_fits p) t u.elems f.elems (without_repeats_out term_eq Decides-term_eq t u.elems k));
      })

  all_shrink : {A : Type 0} (test : A → Bool) (f : A → A) → ((x : A) → test x ≡ true → test (f x) ≡ true) → (xs : List A) → list_all test xs ≡ true → list_all test (map f xs) ≡ true
  all_shrink test f e [] h = refl
  all_shrink test f e (x ∷ xs) h =
      let both = and_parts (test x) (list_all test xs) h in
      and_from (test (f x)) (list_all test (map f xs)) (e x both.0) (all_shrink test f e xs both.1)

  arg_shrinks : (a : Arg) → arg_fits p q a ≡ true → arg_fits p q (shrink_arg a) ≡ true
  arg_shrinks (IntArg t) h = h
  arg_shrinks (SetArg u) h = set_shrinks u h

  chunk_shrinks : (c : Chunk) → chunk_fits p q c ≡ true → chunk_fits p q (shrink_chunk c) ≡ true
  chunk_shrinks (Inst i) h =
      let both = and_parts (list_all (arg_fits p q) i.args) (list_all p (card_vars i.card)) h in
      and_from (list_all (arg_fits p q) (map shrink_arg i.args)) (list_all p (card_vars i.card)) (all_shrink (arg_fits p q) shrink_arg arg_shrinks i.args both.0) both.1
  chunk_shrinks (Block k) h = h
  chunk_shrinks (Cell k) h = h

  link_shrinks : (k : Link) → link_fits p q k ≡ true → link_fits p q (shrink_link k) ≡ true
  link_shrinks k h =
      let both = and_parts (list_all (term_fits p) k.tuple) (images_fit p q k.map) h in
      let images = and_parts (list_all (λ (b : IntBind). term_fits p b.to) k.map.ints) (list_all (λ (b : SetBind). set_fits p q b.to) k.map.sets) both.1 in
      and_from (list_all (term_fits p) k.tuple) (images_fit p q (shrink_images k.map)) both.0
      (and_from (list_all (λ (b : IntBind). term_fits p b.to) k.map.ints) (list_all (λ (b : SetBind). set_fits p q b.to) (map shrink_bind k.map.sets)) images.0
      (all_shrink (λ (b : SetBind). set_fits p q b.to) shrink_bind (λ b. set_shrinks b.to) k.map.sets images.1))

  address_shrink : (c : Chunk) → address (shrink_chunk c) ≡ address c
  address_shrink (Inst i) = refl
  address_shrink (Block k) = refl
  address_shrink (Cell k) = refl

  addresses_shrink : (cs : List Chunk) → flat_map address (map shrink_chunk cs) ≡ flat_map address cs
  addresses_shrink [] = refl
  addresses_shrink (c ∷ cs) = ap₂ ◌++◌ (address_shrink c) (addresses_shrink cs)

  pub tidy-shrink : (n : Node) → IsTidy p q n → IsTidy p q (shrink_node n)
  tidy-shrink n t =
      let fits = t.solved.fits in
      record {
        solved = record {
          fits = record {
            pure_pre = fits.pure_pre;
            pre = all_shrink (chunk_fits p q) shrink_chunk chunk_shrinks n.goal.pre.chunks fits.pre;
            pure_post = fits.pure_post;
            post = all_shrink (chunk_fits p q) shrink_chunk chunk_shrinks n.goal.post.chunks fits.post;
            links = all_shrink (link_fits p q) shrink_link link_shrinks n.links fits.links;
            pre_once = fits.pre_once;
            post_once = fits.post_once;
          };
          none_pre = t.solved.none_pre;
          none_post = t.solved.none_post;
        };
        pre_tells = t.pre_tells;
        post_tells = t.post_tells;
        pre_once = t.pre_once;
        post_once = t.post_once;
        addresses = λ l k. t.addresses l (rw (← addresses_shrink n.goal.pre.chunks) k);
      }

-- ---- what is shrunk and renamed can't shrink
module _ (r : Var → Var) (is : IsRenaming r) where
  set_again : (u : SetTerm) → shrink_set (rename_set r (shrink_set u)) ≡ rename_set r (shrink_set u)
  set_again u =
      let vars = without_repeats-map r var_eq var_eq is.apart (without_repeats var_eq u.vars)
      ∙ ap (map r) (without_repeats-all_new var_eq (without_repeats var_eq u.vars) (all_new-without_repeats var_eq u.vars)) in
      let elems = without_repeats-map (rename_term r) term_eq term_eq (term_eq-rename r is) (without_repeats term_eq u.elems)
      ∙ ap (map (rename_term r)) (without_repeats-all_new term_eq (without_repeats term_eq u.elems) (all_new-without_repeats term_eq u.elems)) in
      λ i. record { vars = vars i; elems = elems i }

  all_again : {A : Type 0} (shrink rename : A → A) → ((x : A) → shrink (rename (shrink x)) ≡ rename (shrink x)) → (xs : List A) → map shrink (map rename (map shrink xs)) ≡ map rename (map shrink xs)
  all_again shrink rename e [] = refl
  all_again shrink rename e (x ∷ xs) = λ i. e x i ∷ all_again shrink rename e xs i

  arg_again : (a : Arg) → shrink_arg (rename_arg r (shrink_arg a)) ≡ rename_arg r (shrink_arg a)
  arg_again (IntArg t) = refl
  arg_again (SetArg u) = ap SetArg (set_again u)

  chunk_again : (c : Chunk) → shrink_chunk (rename_chunk r (shrink_chunk c)) ≡ rename_chunk r (shrink_chunk c)
  chunk_again (Inst i) =
      ap (λ xs. Inst (record { pred = i.pred; args = xs; card = rename_base r i.card; tag = i.tag })) (all_again shrink_arg (rename_arg r) arg_again i.args)
  chunk_again (Block k) = refl
  chunk_again (Cell k) = refl

  link_again : (k : Link) → shrink_link (rename_link r (shrink_link k)) ≡ rename_link r (shrink_link k)
  link_again k =
      let sets = all_again shrink_bind (rename_set_bind r) (λ b. ap (λ u. record { var = b.var; to = u }) (set_again b.to)) k.map.sets in
      λ i. record { goal = k.goal; own = k.own; map = record { ints = map (rename_int_bind r) k.map.ints; sets = sets i }; tuple = map (rename_term r) k.tuple }

  pub shrink_again : (n : Node) → shrink_node (rename_node r (shrink_node n)) ≡ rename_node r (shrink_node n)
  shrink_again n =
      let m : Node = rename_node r (shrink_node n) in
      let pre = all_again shrink_chunk (rename_chunk r) chunk_again n.goal.pre.chunks in
      let post = all_again shrink_chunk (rename_chunk r) chunk_again n.goal.post.chunks in
      let links = all_again shrink_link (rename_link r) link_again n.links in
      λ i. record {
        preds = n.preds;
        goal = record {
          program = m.goal.program;
          exist = m.goal.exist;
          pure_pre = m.goal.pure_pre;
          pre = record { chunks = pre i };
          pure_post = m.goal.pure_post;
          post = record { chunks = post i };
        };
        links = links i;
      }
