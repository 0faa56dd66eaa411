-- Inner: sections that stay at the two ends of those that are cut again, for private functions.
use Rattle.std.specs.Prelude.{◌≡◌, ℕ, ◌+◌, ◌-◌, ◌≤◌, ◌<◌, List, [], ◌++◌, length, take, drop}
use Rattle.std.specs.List.{slice_index_or}

-- Of the sections from one up to another, as many of the first ones as this are as the first parts, and the next one is not as the next part
pub record StayInFront (sections : List (List ℕ)) (from end : ℕ) (parts : List (List ℕ)) (count : ℕ) : Type 0 where
  pub few : from + count ≤ end
  pub some : count ≤ length parts
  pub same : take (from + count) sections ≡ take from sections ++ take count parts
  pub next : from + count < end → count < length parts → ¬ (slice_index_or parts count [] ≡ slice_index_or sections (from + count) [])

-- and as many of the last ones as this are as the last parts, and the one before is not as the part before
pub record StayBehind (sections : List (List ℕ)) (from end : ℕ) (parts : List (List ℕ)) (count : ℕ) : Type 0 where
  pub few : from + count ≤ end
  pub some : count ≤ length parts
  pub same : drop (end - count) sections ≡ drop (length parts - count) parts ++ drop end sections
  pub next : from + count < end → count < length parts → ¬ (slice_index_or parts (length parts - count - 1) [] ≡ slice_index_or sections (end - count - 1) [])

-- Of parts in the place of the sections from one up to another, the first is not the first of these, and the last is not the last
pub record AreTrimmed (sections : List (List ℕ)) (from end : ℕ) (parts : List (List ℕ)) : Type 0 where
  pub first : from < end → 0 < length parts → ¬ (slice_index_or parts 0 [] ≡ slice_index_or sections from [])
  pub last : from < end → 0 < length parts → ¬ (slice_index_or parts (length parts - 1) [] ≡ slice_index_or sections (end - 1) [])
