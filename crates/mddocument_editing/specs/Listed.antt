-- Inner: sections in a list, and what those of each block have together, for private functions.
use Rattle.std.specs.Prelude.{◌≡◌, ℕ, ◌+◌, ◌-◌, ◌*◌, ◌^◌, ◌≤◌, ◌<◌, Bool, cond, min, List, drop, get_or, length, take}
use Rattle.std.specs.List.{sum_by}
use Rattle.mddocument_editing.specs.declared.list.Sums.{Sums}
use Rattle.mddocument_editing.specs.declared.section.Section.{Section}

-- sections, as clauses see them
pub record Listed : Type 0 where
  pub items : List Section

-- the largest number of 64 bits stands for all that are larger
abbrev pub capped : ℕ → ℕ
capped n = min n (2 ^ 64 - 1)

-- Sections have this together
pub record AreSums (sections : List Section) (sums : Sums) : Type 0 where
  pub lines : sums.lines ≡ capped (sum_by (λ s. s.lines) sections)
  pub bytes : sums.bytes ≡ capped (sum_by (λ s. length s.part.bytes.items) sections)
  pub events : sums.events ≡ capped (sum_by (λ s. length s.events) sections)

-- a block: 256 sections, or those that are left
abbrev pub block : (number : ℕ) → List Section → List Section
block number sections = take 256 (drop (256 * number) sections)

-- Each block has its sums
pub record AreBlocks (sections : List Section) (blocks : List Sums) : Type 0 where
  pub all : length sections ≤ 256 * length blocks
  pub few : 256 * length blocks ≤ length sections + 255
  pub each : (number : ℕ) (d : Sums) → number < length blocks → AreSums (block number sections) (get_or blocks number d)

-- of sums and of a section, the lines or the bytes
abbrev pub part : (is_line : Bool) → Sums → ℕ
part is_line sums = cond is_line sums.lines sums.bytes

abbrev pub size_of : (is_line : Bool) → Section → ℕ
size_of is_line section = cond is_line section.lines (length section.part.bytes.items)
