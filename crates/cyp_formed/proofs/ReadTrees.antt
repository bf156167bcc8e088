-- A specification that is read is what a tree without faults says.
use Rattle.std.proofs.Common.{Err, List, None, Ok, Option, Result, Some, [], false, inl, inr, length, map, refl, subst, true, ℕ, ◌∷◌, ◌≡◌}
use Rattle.std.specs.Prelude.{Bool, IsTrue, cond, nat_le}
use Rattle.cyp_goal.specs.Raw.{IsRegular}
use Rattle.cyp_lex.specs.Lexemes.{Lexeme, lexeme_of}
use Rattle.cyp_heap.specs.Formed.{IsFormed}
use Rattle.cyp_heap.specs.PredsFormed.{IsFormedPreds}
use Rattle.cyp_lex.specs.Lexing.{tokens_of}
use Rattle.cyp_lex.specs.declared.fault.Fault.{Fault}
use Rattle.cyp_lex.specs.declared.fault.FaultKind.TheVariants.{TooLarge}
use Rattle.cyp_lex.specs.declared.token.Token.{Token}
use Rattle.cyp_formed.specs.LimitFaults.{is_root_within, limit_faults, root_of}
use Rattle.cyp_names.specs.NameFaults.{fault_at, name_faults}
use Rattle.cyp_formed.specs.Reading.{IsReadBy, IsReadFrom, IsReading, IsReadingOf, unless_fault}
use Rattle.cyp_names.specs.FaultOrder.{least_fault}
use Rattle.cyp_formed.specs.FormedLaws.{ReadIsFormed, ReadIsRegular, ReadIsSorted, ReadPredsAreFormed}
use Rattle.cyp_names.specs.Specifications.{Specification, read_tree}
use Rattle.cyp_text.specs.declared.tree.TextTree.{TextTree}
use Rattle.cyp_formed.proofs.FormedGoals.{formed}
use Rattle.cyp_formed.proofs.FormedPreds.{formed_preds}
use Rattle.cyp_names.proofs.NoFaults.{none_both, test_true}
use Rattle.cyp_formed.proofs.FormedSorts.{regular}

-- the tree that was read, and that it has no faults
pub record ReadTree (s : Specification) : Type 0 where
  pub tree : TextTree
  pub names_right : name_faults tree ≡ []
  pub within : limit_faults tree ≡ []
  pub says : read_tree tree ≡ s

no_least : (fs : List Fault) → least_fault fs ≡ None → fs ≡ []
no_least [] e = refl
no_least (f ∷ fs) e = absurd cc

judged : (t : TextTree) (s : Specification) (a b : Option Fault) → least_fault (name_faults t) ≡ a → least_fault (limit_faults t) ≡ b → Ok s ≡ unless_fault a (unless_fault b (Ok (read_tree t))) → ReadTree s
judged t s (Some f) b p q e = absurd cc
judged t s None (Some f) p q e = absurd cc
judged t s None None p q e = record { tree = t; names_right = no_least (name_faults t) p; within = no_least (limit_faults t) q; says = cc }

read_from : (size : ℕ) (ls : List Lexeme) (s : Specification) → IsReadFrom size ls (Ok s) → ReadTree s
read_from size ls s (inl a) = judged a.0 s (least_fault (name_faults a.0)) (least_fault (limit_faults a.0)) refl refl a.2
read_from size ls s (inr a) = absurd (differ a.2)
  where
    differ : {f : Fault} → Ok s ≡ Err f → ⊥
    differ e = cc

read_by : (bytes : List ℕ) (ts : Result (List Token) Fault) (s : Specification) → IsReadBy bytes ts (Ok s) → ReadTree s
read_by bytes (Ok ts) s a = read_from (length bytes) (map (lexeme_of bytes) ts) s a
read_by bytes (Err f) s a = absurd cc

reading_of : (short : Bool) (bytes : List ℕ) (s : Specification) → IsReadingOf short bytes (Ok s) → ReadTree s
reading_of true bytes s a = read_by bytes (tokens_of bytes) s a
reading_of false bytes s a = absurd cc

pub tree_read : (bytes : List ℕ) (s : Specification) → IsReading bytes (Ok s) → ReadTree s
tree_read bytes s a = reading_of (nat_le (length bytes) 65536) bytes s a

-- a tree without faults of limits says a goal that is within them
root_within : (t : TextTree) → limit_faults t ≡ [] → is_root_within (read_tree t) ≡ true
root_within t e = test_true (is_root_within (read_tree t)) _ [] (none_both _ (cond (is_root_within (read_tree t)) [] (fault_at TooLarge t.name.place)) e).1

pub read_is_formed : ReadIsFormed
read_is_formed bytes s a =
    let r : ReadTree s = tree_read bytes s a in
    subst (λ (x : Specification). IsFormed x.preds x.goal × IsTrue (is_root_within x)) r.says (formed r.tree r.names_right, root_within r.tree r.within)

pub read_is_regular : ReadIsRegular
read_is_regular bytes s a =
    let r : ReadTree s = tree_read bytes s a in
    subst (λ (x : Specification). IsRegular (root_of x)) r.says (regular r.tree r.names_right)

pub read_is_sorted : ReadIsSorted
read_is_sorted bytes s a = (read_is_regular bytes s a).sorted

pub read_preds_are_formed : ReadPredsAreFormed
read_preds_are_formed bytes s a =
    let r : ReadTree s = tree_read bytes s a in
    subst (λ (x : Specification). IsFormedPreds x.preds) r.says (formed_preds r.tree r.names_right r.within)
