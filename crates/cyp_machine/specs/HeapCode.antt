-- A heap as a value of the program.
use Rattle.std.specs.Coded.{Coded, code_by, coded×, coded_ℕ, coded_ℤ}
use Rattle.std.specs.FinMap.{FinMap, code}
use Rattle.std.specs.Ordering.{int_cmp}
use Rattle.std.specs.Prelude.{refl, ℕ, ℤ}
use Rattle.cyp_heap.specs.Stores.{Store}

-- a heap is stored as its cells and its blocks
abbrev pub heap_code : Coded Store
heap_code =
    code_by (FinMap int_cmp ℤ × FinMap int_cmp ℕ) (coded× (code coded_ℤ coded_ℤ) (code coded_ℤ coded_ℕ))
    (λ h. (h.cells, h.blocks)) (λ p. record { cells = p.0; blocks = p.1 }) (λ _. refl)
