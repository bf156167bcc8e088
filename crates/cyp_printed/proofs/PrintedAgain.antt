-- The tree by which the specification of a tree is printed, and its predicates.
use Rattle.std.proofs.Common.{List, Option, Some, [], ap, cond, false, inl, inr, length, map, refl, subst, sym, true, ◌++◌, ◌∙◌, ◌∷◌, ◌≡◌, ◌≢◌, ℕ, suc}
use Rattle.std.specs.Prelude.{Bool, slice_get}
use Rattle.std.specs.Str.{bytes_eq}
use Rattle.std.proofs.lemmas.Slice.Eq.{bytes_eq-Decides}
use Rattle.cyp_lex.specs.declared.ident.Ident.{Ident}
use Rattle.cyp_heap.specs.declared.goal.Goal.{Goal}
use Rattle.cyp_term.specs.declared.term.Sort.{Sort}
use Rattle.cyp_term.specs.declared.term.Sort.TheVariants.{Card, Int, Set}
use Rattle.cyp_term.proofs.Lists.{Among}
use Rattle.cyp_writing.specs.PrintedTrees.{body_tree, clause_tree, ident_of, param_tree, params_from, pred_name, sort_tree}
use Rattle.cyp_names.specs.Specifications.{read_clause, read_goal, read_preds}
use Rattle.cyp_text.specs.declared.tree.ArgTree.{ArgTree}
use Rattle.cyp_text.specs.declared.tree.ClauseTree.{ClauseTree}
use Rattle.cyp_text.specs.declared.tree.ParamTree.{ParamTree}
use Rattle.cyp_text.specs.declared.tree.PredTree.{PredTree}
use Rattle.cyp_text.specs.declared.tree.TextTree.{TextTree}
use Rattle.cyp_names.specs.Uses.{arg_sorts, param_sort, pred_named, pred_place, sort_of, sorts_of}
use Rattle.cyp_formed.proofs.Maps.{length_mapped}
use Rattle.cyp_formed.proofs.OfPreds.{OfPred, param_sorts_plain, same_lengths, sorts}
use Rattle.cyp_formed.proofs.FormedInstances.{found}

-- a clause as it is printed
abbrev pub again_clause : List PredTree → List ParamTree → ClauseTree → ClauseTree
again_clause qs ps c = clause_tree (read_preds qs) (read_clause qs ps c)

-- the parameters of a predicate as they are printed
abbrev pub again_params : List ParamTree → List ParamTree
again_params ps = map param_tree (params_from [] (map param_sort ps))

-- a predicate as it is printed
abbrev pub again_pred : List PredTree → PredTree → PredTree
again_pred qs q = record {
  name = ident_of q.name.text;
  params = again_params q.params;
  first = again_clause qs q.params q.first;
  others = map (again_clause qs q.params) q.others;
}

-- the predicates as they are printed
abbrev pub again_preds : List PredTree → List PredTree
again_preds qs = map (again_pred qs) qs

-- the tree by which its specification is printed
abbrev pub again_text : TextTree → TextTree
again_text t =
    let g : Goal = read_goal t in
    record {
      preds = again_preds t.preds;
      name = ident_of t.name.text;
      params = map param_tree g.program;
      pre = body_tree (read_preds t.preds) g.pure_pre g.pre.chunks;
      post = body_tree (read_preds t.preds) g.pure_post g.post.chunks;
    }

-- ---- sorts of parameters

pub sort_back : (s : Sort) → s ≢ Card → sort_of (sort_tree s) ≡ s
sort_back Int n = refl
sort_back Set n = refl
sort_back Card n = absurd (n refl)

sorts_back : (seen ss : List Sort) → ((s : Sort) → Among s ss → s ≢ Card) → map param_sort (map param_tree (params_from seen ss)) ≡ ss
sorts_back seen [] n = refl
sorts_back seen (s ∷ ss) n = λ i. sort_back s (n s (inl refl)) i ∷ sorts_back (seen ++ s ∷ []) ss (λ r m. n r (inr m)) i

pub again_sorts : (ps : List ParamTree) → map param_sort (again_params ps) ≡ map param_sort ps
again_sorts ps = sorts_back [] (map param_sort ps) (param_sorts_plain ps)

pub again_length : (ps : List ParamTree) → length (again_params ps) ≡ length ps
again_length ps = sym (length_mapped param_sort (again_params ps)) ∙ ap length (again_sorts ps) ∙ length_mapped param_sort ps

-- ---- predicates of a name

pub again_place : (all qs : List PredTree) (a : List ℕ) → pred_place a (map (again_pred all) qs) ≡ pred_place a qs
again_place all [] a = refl
again_place all (q ∷ qs) a = ap (λ (n : ℕ). cond (bytes_eq q.name.text a) 0 (suc n)) (again_place all qs a)

pub again_named : (all qs : List PredTree) (a : List ℕ) (q : PredTree) → pred_named a qs ≡ Some q → pred_named a (map (again_pred all) qs) ≡ Some (again_pred all q)
again_named all [] a q e = absurd cc
again_named all (p ∷ ps) a q e = by_test (bytes_eq p.name.text a) e (again_named all ps a q)
  where
    by_test : (t : Bool) → cond t (Some p) (pred_named a ps) ≡ Some q → (pred_named a ps ≡ Some q → pred_named a (map (again_pred all) ps) ≡ Some (again_pred all q))
        → cond t (Some (again_pred all p)) (pred_named a (map (again_pred all) ps)) ≡ Some (again_pred all q)
    by_test true k ih = let same : p ≡ q = cc in ap (λ (w : PredTree). Some (again_pred all w)) same
    by_test false k ih = ih k

name_is : (qs : List PredTree) (a : List ℕ) (q : PredTree) → pred_named a qs ≡ Some q → q.name.text ≡ a
name_is [] a q e = absurd cc
name_is (p ∷ ps) a q e = by_test (bytes_eq p.name.text a) refl e (name_is ps a q)
  where
    by_test : (t : Bool) → bytes_eq p.name.text a ≡ t → cond t (Some p) (pred_named a ps) ≡ Some q → (pred_named a ps ≡ Some q → q.name.text ≡ a) → q.name.text ≡ a
    by_test true f k ih = let same : p ≡ q = cc in subst (λ (w : PredTree). w.name.text ≡ a) same ((bytes_eq-Decides p.name.text a).0 f)
    by_test false f k ih = ih k

-- ---- instances without faults

module _ (qs : List PredTree) (i : Ident) (xs : List ArgTree) (of : OfPred qs i xs) where
  -- its predicate's name is printed as it was
  pub name_back : pred_name (slice_get (read_preds qs).list (pred_place i.text qs)) ≡ i.text
  name_back = ap pred_name (found i.text qs qs of.pred of.named) ∙ name_is qs i.text of.pred of.named

  -- as many arguments have the same sorts beside the printed predicates
  pub printed_sorts : (ys : List ArgTree) → length ys ≡ length xs → arg_sorts (again_preds qs) (ident_of i.text) ys ≡ sorts qs i xs of
  printed_sorts ys e =
      ap (λ (q : Option PredTree). sorts_of (length ys) q) (again_named qs qs i.text of.pred of.named)
      ∙ ap (λ (t : Bool). cond t (map param_sort (again_params of.pred.params)) []) (same_lengths (length (again_params of.pred.params)) (length ys) (again_length of.pred.params ∙ of.arity ∙ sym e))
      ∙ again_sorts of.pred.params
