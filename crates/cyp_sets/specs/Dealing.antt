-- Regions that rules allow, and regions of all classes that show what is wanted. A region is a number: the bits of the set
-- variables that an integer is in.
use Rattle.std.specs.Prelude.{◌≡◌, ◌≢◌, ℕ, ◌<◌, ◌≤◌, ◌^◌, Bool, List, [], ◌++◌, length, map, filter, slice_index_or, IsTrue, Option, Some, None}
use Rattle.std.specs.List.{All, Contains, list_all, list_any, range_with_len}
use Rattle.cyp_sets.specs.declared.masks.Mask.{Mask}
use Rattle.cyp_sets.specs.declared.masks.Rule.{Rule}
use Rattle.cyp_sets.specs.declared.masks.Want.{Want}
use Rattle.cyp_sets.specs.Masks.{obeys, shown_by, shows}

-- an integer with this region and these classes
abbrev pub integer : ℕ → ℕ → Mask
integer classes region = record { vars = region; classes = classes }

-- the regions below a number that all rules allow an integer of these classes
abbrev pub allowed_regions : List Rule → ℕ → ℕ → List ℕ
allowed_regions rules count classes = filter (λ r. list_all (obeys (integer classes r)) rules) (range_with_len 0 count)

-- the regions that the rules allow each of n classes, at the classes' places; each has some
pub record AreRegions (rules : List Rule) (count n : ℕ) (lists : List (List ℕ)) : Type 0 where
  pub long : length lists ≡ n
  pub each : (i : ℕ) → i < n → slice_index_or lists i [] ≡ allowed_regions rules count (2 ^ i)
  pub some : All (λ rs. rs ≢ []) lists

-- those lists, or none where some class has no region
abbrev pub ListsMean : List Rule → ℕ → ℕ → Option (List (List ℕ)) → Type 0
ListsMean rules count n None = (i : ℕ) × (i < n) × (allowed_regions rules count (2 ^ i) ≡ [])
ListsMean rules count n (Some lists) = AreRegions rules count n lists

-- some integer of these classes, with one of the regions, is what is wanted
abbrev pub shown_in : List ℕ → ℕ → Want → Bool
shown_in regions classes w = list_any (λ r. shows (integer classes r) w) regions

-- one integer of each of n classes, with its region, and the integers outside all classes that the rules allow
abbrev pub integers : List Rule → ℕ → ℕ → (ℕ → ℕ) → List Mask
integers rules count n region = map (λ i. integer (2 ^ i) (region i)) (range_with_len 0 n) ++ map (integer 0) (allowed_regions rules count 0)

-- each of n classes has a region that the rules allow it, and these with the integers outside all classes show all that is wanted
pub record Fits (rules : List Rule) (wants : List Want) (count n : ℕ) : Type 0 where
  pub region : ℕ → ℕ
  pub allowed : (i : ℕ) → i < n → Contains (allowed_regions rules count (2 ^ i)) (region i)
  pub shown : IsTrue (list_all (shown_by (integers rules count n region)) wants)

-- an integer of the class at the place, with its region, is what is wanted
abbrev pub ShownAt : List (List ℕ) → (ℕ → ℕ) → Want → Type 0
ShownAt lists region w = (i : ℕ) × (i < length lists) × IsTrue (shows (integer (2 ^ i) (region i)) w)

-- each class has one of the regions in its list, and these show all that is wanted
pub record Deals (wants : List Want) (lists : List (List ℕ)) : Type 0 where
  pub region : ℕ → ℕ
  pub listed : (i : ℕ) → i < length lists → Contains (slice_index_or lists i []) (region i)
  pub shown : All (ShownAt lists region) wants

-- in how many classes some region of the list shows what is wanted
abbrev pub ways_to_show : Want → List (List ℕ) → ℕ
ways_to_show w lists = length (filter (λ i. shown_in (slice_index_or lists i []) (2 ^ i) w) (range_with_len 0 (length lists)))

-- as `Deals`, where some class from the place on shows a further want
pub record DealsFrom (place : ℕ) (want : Want) (rest : List Want) (lists : List (List ℕ)) : Type 0 where
  pub deals : Deals rest lists
  pub shows_at : ShownAt lists deals.region want
  pub from : place ≤ shows_at.0
