-- What the loops of the climb and of the sweep keep.
use Rattle.std.proofs.Common.{◌≡◌, ℕ, ◌≤◌, List, length, Vec}
use Rattle.std.specs.declared.alloc.Global.{Global}
use Rattle.cyp_tree.specs.declared.mark.Mark.{Mark}
use Rattle.cyp_tree.specs.declared.places.Place.{Place}
use Rattle.cyp_tree.specs.declared.places.Way.{Way}
use Rattle.cyp_tree.specs.declared.marks.Marks.{Marks}
use Rattle.cyp_tree.specs.Told.{IsToldBut, AreCounted}
use Rattle.cyp_tree.specs.Marked.{status_at, reached_at, unsolved_at, unfailed_at, AreSized}
use Rattle.cyp_tree.specs.Dying.{Lists, Climbing, Sweeping}

pub record ClimbLoop {R N : Type 0} (to : Mark) (ps : List (Place N)) (ws : List (Way R)) (m0 m : Marks) (g0 g : Vec ℕ Global) (top : ℕ) : Type 0 where
  pub climbing : Climbing to (status_at m0) (reached_at m0) (status_at m) (reached_at m) g.items top ps ws
  pub lists : Lists m0 m g0 g
  pub sized : AreSized m (length ps) (length ws)
  pub told : IsToldBut top to (status_at m) ps ws
  pub counted : AreCounted (status_at m) (unsolved_at m) (unfailed_at m) ps ws

pub record SweepLoop {R N : Type 0} (ps : List (Place N)) (ws : List (Way R)) (m0 m : Marks) (g0 g : Vec ℕ Global) (next : ℕ) : Type 0 where
  pub sweeping : Sweeping (status_at m) (reached_at m) g.items next ps ws
  pub lists : Lists m0 m g0 g
  pub some : next ≤ length g.items
  pub statuses : m.statuses ≡ m0.statuses
  pub unfailed : m.unfailed ≡ m0.unfailed
  pub unsolved : m.unsolved ≡ m0.unsolved
