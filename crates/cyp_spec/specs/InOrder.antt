-- The places of a tree that was read from a text: what is read first stands first.
use Rattle.std.specs.Prelude.{[], Bool, IsTrue, List, flat_map, nat_lt, ℕ, ◌++◌, ◌∷◌}
use Rattle.std.specs.List.{list_all}
use Rattle.cyp_names.specs.NameFaults.{clauses, lit_place}
use Rattle.cyp_text.specs.declared.tree.ChunkTree.{ChunkTree}
use Rattle.cyp_text.specs.declared.tree.ChunkTree.TheVariants.{BlockOf}
use Rattle.cyp_text.specs.declared.tree.ClauseTree.{ClauseTree}
use Rattle.cyp_text.specs.declared.tree.PredTree.{PredTree}
use Rattle.cyp_text.specs.declared.tree.TextTree.{TextTree}

-- where a block's size stands
abbrev pub size_place : ChunkTree → List ℕ
size_place (BlockOf a p n) = p ∷ []
size_place _ = []

-- where the bar, the guard and the sizes of blocks stand
abbrev pub clause_places : ClauseTree → List ℕ
clause_places c = c.place ∷ lit_place c.guard ∷ flat_map size_place c.body.chunks

-- those places of all clauses of a predicate
abbrev pub inner_places : PredTree → List ℕ
inner_places q = flat_map clause_places (clauses q)

-- the name, and those places
abbrev pub pred_places : PredTree → List ℕ
pred_places q = q.name.place ∷ inner_places q

-- a predicate's name stands before its clauses
abbrev pub is_name_first : PredTree → Bool
is_name_first q = list_all (nat_lt q.name.place) (inner_places q)

-- all of a predicate stands before a place
abbrev pub is_pred_before : ℕ → PredTree → Bool
is_pred_before p q = list_all (λ (k : ℕ). nat_lt k p) (pred_places q)

-- where the sizes of blocks of the procedure stand
abbrev pub body_places : TextTree → List ℕ
body_places t = flat_map size_place t.pre.chunks ++ flat_map size_place t.post.chunks

-- the name of each predicate stands before its clauses, all predicates before the procedure's name, and that before its bodies
pub record IsInOrder (t : TextTree) : Type 0 where
  pub names_first : IsTrue (list_all is_name_first t.preds)
  pub preds_first : IsTrue (list_all (is_pred_before t.name.place) t.preds)
  pub bodies_last : IsTrue (list_all (nat_lt t.name.place) (body_places t))
