-- An offset past its range as a limit that is passed.
use Rattle.cyp_goal.specs.declared.draft.TooLarge.{TooLarge}
use Rattle.cyp_term.specs.declared.fail.Fail.{Fail}
use Rattle.cyp_term.specs.declared.fail.Fail.TheVariants.{Named, NoMemory}
use Rattle.cyp_term.specs.declared.term.TooWide.{TooWide}

-- the same want of memory, or a limit in place of an offset
abbrev pub Larger : Fail TooWide → Fail TooLarge → Type 0
Larger (Named e) (Named f) = Unit {0}
Larger NoMemory NoMemory = Unit {0}
Larger _ _ = ⊥
