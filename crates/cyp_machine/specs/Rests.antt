-- The first statement of a body and the rest, and the body that lists of statements stand for.
use Rattle.std.specs.Borrow.{Bor}
use Rattle.std.specs.Prelude.{[], Bool, false, true, List, None, Option, Some, map, ◌∷◌}
use Rattle.cyp_machine.specs.Steps.{followed_by}
use Rattle.cyp_prog.specs.Programs.{Body, End, Statement, Then, body_of, plain_stmt}
use Rattle.cyp_prog.specs.declared.stmt.Stmt.{Stmt}

-- the first statement, if there is one
abbrev pub first_of : Body → Option Statement
first_of End = None
first_of (Then s b) = Some s

-- what is left behind the first statement
abbrev pub rest_of : Body → Body
rest_of End = End
rest_of (Then s b) = b

-- the body of a list of statements
abbrev pub block : List Stmt → Body
block ss = body_of (map plain_stmt ss)

-- one list of statements after another
abbrev pub blocks : List (Bor (List Stmt)) → Body
blocks [] = End
blocks (ss ∷ more) = followed_by (block ss.now) (blocks more)

-- the first list isn't at its end, or there is no other
abbrev pub is_settled : List Stmt → List (Bor (List Stmt)) → Bool
is_settled (s ∷ ss) later = true
is_settled [] [] = true
is_settled [] (l ∷ later) = false
