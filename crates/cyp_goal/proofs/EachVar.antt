-- What holds of each variable of a node holds of each variable of its parts.
use Rattle.std.proofs.Common.{◌≡◌, [], ◌∷◌, ◌++◌, List, map, flat_map, refl, ap₂, inl, inr}
use Rattle.cyp_heap.specs.Chunks.{chunks_vars}
use Rattle.cyp_heap.specs.Goals.{goal_vars, image_vars, node_vars}
use Rattle.cyp_heap.specs.declared.goal.Goal.{Goal}
use Rattle.cyp_heap.specs.declared.goal.Link.{Link}
use Rattle.cyp_heap.specs.declared.goal.Node.{Node}
use Rattle.cyp_term.proofs.Equality.{Decides-var_eq}
use Rattle.cyp_term.proofs.Lists.{Among, Among-left, Among-right}
use Rattle.cyp_term.proofs.Repeats.{without_repeats_in}
use Rattle.cyp_term.specs.Terms.{lits_vars, term_vars, var_eq}
use Rattle.cyp_term.specs.declared.term.Var.{Var}

-- the variables of a companion's measure and map
abbrev pub link_vars : Link → List Var
link_vars k = flat_map term_vars k.tuple ++ image_vars k.map

module _ (P : Var → Type 0) where
  abbrev pub Each : List Var → Type 0
  Each vs = (v : Var) → Among v vs → P v

  pub first : (us ws : List Var) → Each (us ++ ws) → Each us
  first us ws e v k = e v (Among-left v us ws k)

  pub second : (us ws : List Var) → Each (us ++ ws) → Each ws
  second us ws e v k = e v (Among-right v us ws k)

  -- two parts that are equal where it holds of their variables
  pub two : {A B C : Type 0} (f : A → B → C) (a a' : A) (b b' : B) (us ws : List Var) → (Each us → a ≡ a') → (Each ws → b ≡ b') → Each (us ++ ws) → f a b ≡ f a' b'
  two f a a' b b' us ws p q e = ap₂ f (p (first us ws e)) (q (second us ws e))

  -- elements that are equal where it holds of their variables
  pub each : {A B C : Type 0} (f : A → B) (g : A → C) (k : B → C) (vars : A → List Var) (xs : List A) → ((x : A) → Among x xs → Each (vars x) → k (f x) ≡ g x)
      → Each (flat_map vars xs) → map k (map f xs) ≡ map g xs
  each f g k vars [] p e = refl
  each f g k vars (x ∷ xs) p e =
      let here = p x (inl refl) (first (vars x) (flat_map vars xs) e) in
      let rest = each f g k vars xs (λ y i. p y (inr i)) (second (vars x) (flat_map vars xs) e) in
      λ i. here i ∷ rest i

  pub record EachPart (n : Node) : Type 0 where
    pub program : Each n.goal.program
    pub pre : Each (chunks_vars n.goal.pre.chunks)
    pub post : Each (chunks_vars n.goal.post.chunks)
    pub pure_pre : Each (lits_vars n.goal.pure_pre)
    pub pure_post : Each (lits_vars n.goal.pure_post)
    pub links : Each (flat_map link_vars n.links)

  pub each_part : (n : Node) → Each (node_vars n) → EachPart n
  each_part n e =
      let g : Goal = n.goal in
      let later : List Var = flat_map link_vars n.links in
      let all : Each (goal_vars g ++ later) = λ v k. e v (without_repeats_in var_eq Decides-var_eq v (goal_vars g ++ later) k) in
      let c : List Var = g.program ++ chunks_vars g.pre.chunks in
      let b : List Var = c ++ chunks_vars g.post.chunks in
      let a : List Var = b ++ lits_vars g.pure_pre in
      let of_goal : Each (a ++ lits_vars g.pure_post) = first (goal_vars g) later all in
      let of_a : Each a = first a (lits_vars g.pure_post) of_goal in
      let of_b : Each b = first b (lits_vars g.pure_pre) of_a in
      let of_c : Each c = first c (chunks_vars g.post.chunks) of_b in
      record {
        program = first g.program (chunks_vars g.pre.chunks) of_c;
        pre = second g.program (chunks_vars g.pre.chunks) of_c;
        post = second c (chunks_vars g.post.chunks) of_b;
        pure_pre = second b (lits_vars g.pure_pre) of_a;
        pure_post = second a (lits_vars g.pure_post) of_goal;
        links = second (goal_vars g) later all;
      }
