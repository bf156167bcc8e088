use Rattle.std.specs.Prelude.{ℕ, ◌≤◌}

-- the limits of a search, of any size
pub record SettingsValue : Type 0 where
  pub budget : ℕ
  pub «unfold» : ℕ
  pub workers : ℕ
  pub nodes : ℕ

-- 1 to 100,000 expansions, at most 3 unfoldings, 1 to 32 workers, 1 to 1,000,000 nodes
pub record AreSettings (budget unfoldings workers nodes : ℕ) : Type 0 where
  pub some_budget : 1 ≤ budget
  pub most_budget : budget ≤ 100000
  pub most_unfold : unfoldings ≤ 3
  pub some_workers : 1 ≤ workers
  pub most_workers : workers ≤ 32
  pub some_nodes : 1 ≤ nodes
  pub most_nodes : nodes ≤ 1000000
