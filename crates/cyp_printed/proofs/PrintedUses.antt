-- The names in printed trees: written and kept in one order.
use Rattle.std.proofs.Common.{List, None, Some, [], ap, append-nil, false, filter, flat_map, map, not, refl, ℤ, ◌++◌, ◌∙◌, ◌∷◌, ◌≡◌, suc, zero}
use Rattle.std.specs.Prelude.{negsuc, pos}
use Rattle.cyp_heap.specs.declared.chunk.Arg.{Arg}
use Rattle.cyp_heap.specs.declared.chunk.Arg.TheVariants.{Int as IntArg, Set as SetArg}
use Rattle.cyp_heap.specs.Formed.{arg_sort}
use Rattle.cyp_term.specs.declared.lit.Lit.{Lit}
use Rattle.cyp_term.specs.declared.lit.Lit.TheVariants.{Eq, Le, Lt, Member, Ne, NotMember, NotSame, NotSub, Same, Sub}
use Rattle.cyp_term.specs.declared.lit.SetTerm.{SetTerm}
use Rattle.cyp_term.specs.declared.term.Sort.TheVariants.{Int, Set}
use Rattle.cyp_term.specs.declared.term.Term.{Term}
use Rattle.cyp_term.specs.declared.term.Var.{Var}
use Rattle.cyp_names.specs.Bodies.{is_name, kept_lit, kept_parts, kept_set}
use Rattle.cyp_writing.specs.PrintedTrees.{arg_tree, braces_of, cell_tree, lit_tree, parts_of, set_tree, term_tree, term_tree_by, union_arg, union_tree, var_ident}
use Rattle.cyp_text.specs.declared.tree.ArgTree.TheVariants.{TermArg}
use Rattle.cyp_text.specs.declared.tree.IntTree.{IntTree}
use Rattle.cyp_text.specs.declared.tree.IntTree.TheVariants.{Named}
use Rattle.cyp_text.specs.declared.tree.PartTree.{PartTree}
use Rattle.cyp_text.specs.declared.tree.PartTree.TheVariants.{PartName}
use Rattle.cyp_text.specs.declared.tree.PredTree.{PredTree}
use Rattle.cyp_names.specs.Uses.{Use, arg_uses, chunk_uses, int_uses, lit_uses, part_uses, parts_uses, set_parts, set_uses, use_of}

-- ---- terms

-- the names in a printed term
abbrev pub term_uses : Term → List Use
term_uses t = int_uses (term_tree t)

-- a set variable's name
abbrev pub set_use : Var → Use
set_use v = use_of Set (var_ident v)

-- the names in a printed set term: of its variables, and then of its elements
abbrev pub union_uses : SetTerm → List Use
union_uses u = map set_use u.vars ++ flat_map term_uses u.elems

-- a term with this base has the name of the base
pub based_uses : (v : Var) (z : ℤ) → int_uses (term_tree_by (Some v) z) ≡ use_of Int (var_ident v) ∷ []
based_uses v (pos zero) = refl
based_uses v (pos (suc n)) = refl
based_uses v (negsuc n) = refl

pub number_uses : (z : ℤ) → int_uses (term_tree_by None z) ≡ []
number_uses (pos n) = refl
number_uses (negsuc n) = refl

-- ---- unions

names_first : (vs : List Var) (us : List PartTree) → filter is_name (map (λ v. PartName (var_ident v)) vs ++ us) ≡ map (λ v. PartName (var_ident v)) vs ++ filter is_name us
names_first [] us = refl
names_first (v ∷ vs) us = ap (λ (ws : List PartTree). PartName (var_ident v) ∷ ws) (names_first vs us)

others_last : (vs : List Var) (us : List PartTree) → filter (λ u. not (is_name u)) (map (λ v. PartName (var_ident v)) vs ++ us) ≡ filter (λ u. not (is_name u)) us
others_last [] us = refl
others_last (v ∷ vs) us = others_last vs us

braces_no_names : (vs : List Var) (ts : List Term) → filter is_name (braces_of vs ts) ≡ []
braces_no_names [] ts = refl
braces_no_names (v ∷ vs) [] = refl
braces_no_names (v ∷ vs) (t ∷ ts) = refl

braces_stay : (vs : List Var) (ts : List Term) → filter (λ u. not (is_name u)) (braces_of vs ts) ≡ braces_of vs ts
braces_stay [] ts = refl
braces_stay (v ∷ vs) [] = refl
braces_stay (v ∷ vs) (t ∷ ts) = refl

mapped_terms : (ts : List Term) → flat_map int_uses (map term_tree ts) ≡ flat_map term_uses ts
mapped_terms [] = refl
mapped_terms (t ∷ ts) = ap (λ (us : List Use). term_uses t ++ us) (mapped_terms ts)

braces_uses : (vs : List Var) (ts : List Term) → flat_map part_uses (braces_of vs ts) ≡ flat_map term_uses ts
braces_uses [] ts = append-nil (flat_map int_uses (map term_tree ts)) ∙ mapped_terms ts
braces_uses (v ∷ vs) [] = refl
braces_uses (v ∷ vs) (t ∷ ts) = append-nil (flat_map int_uses (map term_tree (t ∷ ts))) ∙ mapped_terms (t ∷ ts)

names_uses : (vs : List Var) (us : List PartTree) → flat_map part_uses (map (λ v. PartName (var_ident v)) vs ++ us) ≡ map set_use vs ++ flat_map part_uses us
names_uses [] us = refl
names_uses (v ∷ vs) us = ap (λ (ws : List Use). set_use v ∷ ws) (names_uses vs us)

pub written_parts : (u : SetTerm) → parts_uses (parts_of u) ≡ union_uses u
written_parts u = names_uses u.vars (braces_of u.vars u.elems) ∙ ap (λ (ws : List Use). map set_use u.vars ++ ws) (braces_uses u.vars u.elems)

pub kept_printed_parts : (u : SetTerm) → kept_parts (parts_of u) ≡ union_uses u
kept_printed_parts u = λ i. names_part i ++ others_part i
  where
    names_part : flat_map part_uses (filter is_name (parts_of u)) ≡ map set_use u.vars
    names_part =
        ap (λ (ws : List PartTree). flat_map part_uses ws) (names_first u.vars (braces_of u.vars u.elems) ∙ ap (λ (ws : List PartTree). map (λ v. PartName (var_ident v)) u.vars ++ ws) (braces_no_names u.vars u.elems))
        ∙ names_uses u.vars [] ∙ append-nil (map set_use u.vars)

    others_part : flat_map part_uses (filter (λ w. not (is_name w)) (parts_of u)) ≡ flat_map term_uses u.elems
    others_part = ap (λ (ws : List PartTree). flat_map part_uses ws) (others_last u.vars (braces_of u.vars u.elems) ∙ braces_stay u.vars u.elems) ∙ braces_uses u.vars u.elems

-- the parts of a printed set term are its parts
pub parts_back : (u : SetTerm) → set_parts (set_tree u) ≡ parts_of u
parts_back u = by_parts u.vars u.elems
  where
    by_parts : (vs : List Var) (ts : List Term) → set_parts (union_tree (map (λ v. PartName (var_ident v)) vs ++ braces_of vs ts)) ≡ map (λ v. PartName (var_ident v)) vs ++ braces_of vs ts
    by_parts [] ts = refl
    by_parts (v ∷ vs) [] = refl
    by_parts (v ∷ vs) (t ∷ ts) = refl

kept_printed_set : (u : SetTerm) → kept_set (set_tree u) ≡ union_uses u
kept_printed_set u = ap (λ (ws : List PartTree). kept_parts ws) (parts_back u) ∙ kept_printed_parts u

written_set : (u : SetTerm) → set_uses (set_tree u) ≡ union_uses u
written_set u = ap (λ (ws : List PartTree). parts_uses ws) (parts_back u) ∙ written_parts u

-- ---- literals

-- the names in a printed literal
abbrev pub printed_lit_uses : Lit → List Use
printed_lit_uses (Eq a b) = term_uses a ++ term_uses b
printed_lit_uses (Ne a b) = term_uses a ++ term_uses b
printed_lit_uses (Le a b) = term_uses a ++ term_uses b
printed_lit_uses (Lt a b) = term_uses a ++ term_uses b
printed_lit_uses (Same a b) = union_uses a ++ union_uses b
printed_lit_uses (NotSame a b) = union_uses a ++ union_uses b
printed_lit_uses (Member a b) = term_uses a ++ union_uses b
printed_lit_uses (NotMember a b) = term_uses a ++ union_uses b
printed_lit_uses (Sub a b) = union_uses a ++ union_uses b
printed_lit_uses (NotSub a b) = union_uses a ++ union_uses b

pub kept_printed_lit : (l : Lit) → kept_lit false (lit_tree l) ≡ printed_lit_uses l
kept_printed_lit (Eq a b) = refl
kept_printed_lit (Ne a b) = refl
kept_printed_lit (Le a b) = refl
kept_printed_lit (Lt a b) = refl
kept_printed_lit (Same a b) = λ i. kept_printed_set a i ++ kept_printed_set b i
kept_printed_lit (NotSame a b) = λ i. kept_printed_set a i ++ kept_printed_set b i
kept_printed_lit (Member a b) = λ i. term_uses a ++ kept_printed_set b i
kept_printed_lit (NotMember a b) = λ i. term_uses a ++ kept_printed_set b i
kept_printed_lit (Sub a b) = λ i. kept_printed_set a i ++ kept_printed_set b i
kept_printed_lit (NotSub a b) = λ i. kept_printed_set a i ++ kept_printed_set b i

pub written_lit : (l : Lit) → lit_uses (lit_tree l) ≡ printed_lit_uses l
written_lit (Eq a b) = refl
written_lit (Ne a b) = refl
written_lit (Le a b) = refl
written_lit (Lt a b) = refl
written_lit (Same a b) = λ i. written_set a i ++ written_set b i
written_lit (NotSame a b) = λ i. written_set a i ++ written_set b i
written_lit (Member a b) = λ i. term_uses a ++ written_set b i
written_lit (NotMember a b) = λ i. term_uses a ++ written_set b i
written_lit (Sub a b) = λ i. written_set a i ++ written_set b i
written_lit (NotSub a b) = λ i. written_set a i ++ written_set b i

-- ---- arguments and cells

-- the names in a printed argument
abbrev pub printed_arg_uses : Arg → List Use
printed_arg_uses (IntArg t) = term_uses t
printed_arg_uses (SetArg u) = union_uses u

module _ (parts : List PartTree → List Use) (told : (u : SetTerm) → parts (parts_of u) ≡ union_uses u) where
  int_arg_uses : (x : IntTree) → arg_uses parts (Some Int) (TermArg x) ≡ int_uses x
  int_arg_uses (Named i) = refl
  int_arg_uses _ = refl

  set_arg_uses : (u : SetTerm) → arg_uses parts (Some Set) (union_arg (parts_of u)) ≡ union_uses u
  set_arg_uses u = by_parts u.vars u.elems (told u)
    where
      by_parts : (vs : List Var) (ts : List Term) → parts (parts_of (record { vars = vs; elems = ts })) ≡ map set_use vs ++ flat_map term_uses ts
          → arg_uses parts (Some Set) (union_arg (map (λ v. PartName (var_ident v)) vs ++ braces_of vs ts)) ≡ map set_use vs ++ flat_map term_uses ts
      by_parts [] ts e = e
      by_parts (v ∷ []) [] e = refl
      by_parts (v ∷ []) (t ∷ ts) e = e
      by_parts (v ∷ w ∷ vs) [] e = e
      by_parts (v ∷ w ∷ vs) (t ∷ ts) e = e

  pub told_arg : (a : Arg) → arg_uses parts (Some (arg_sort a)) (arg_tree a) ≡ printed_arg_uses a
  told_arg (IntArg t) = int_arg_uses (term_tree t)
  told_arg (SetArg u) = set_arg_uses u

  -- a cell's address without parentheses has the name that it has with them
  pub told_cell : (qs : List PredTree) (a t : IntTree) → chunk_uses parts qs (cell_tree a t) ≡ int_uses a ++ int_uses t
  told_cell qs (Named i) t = refl
  told_cell qs _ t = refl
