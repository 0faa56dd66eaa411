-- Lists of events whose chains can be read.
use Rattle.std.specs.Prelude.{◌≡◌, ◌≢◌, ℕ, ◌+◌, ◌<◌, ◌≤◌, ◌⊎◌, true, false, List, Option, Some, None, option_map, unwrap_or, slice_get}
use Rattle.std.specs.List.{between}
use Rattle.markdown_base.specs.declared.event.Content.{Content}
use Rattle.markdown_base.specs.declared.event.Content.TheVariants.{Flow}
use Rattle.markdown_base.specs.declared.event.Event.{Event}
use Rattle.markdown_base.specs.declared.event.Point.{Point}
use Rattle.markdown_base.specs.Virtual.{point}
use Rattle.markdown_base.specs.Places.{stands_before, IsPointOf, IsShown}
use Rattle.markdown_base.specs.Events.{IsBalanced}
pub use Rattle.markdown_edits.specs.Links.{IsChunk}
use Rattle.markdown_edits.specs.Links.{next_of, AreMutual}
use Rattle.markdown_children.specs.Chains.{content_at, fits}

-- the place of the event at an index
abbrev pub place_at : List Event → ℕ → Point
place_at events i = unwrap_or (option_map (λ (e : Event). e.point) (slice_get events i)) (point 1 1 0 0)

-- a place of the document, and not between a CR and its LF
abbrev pub IsShownPlace : (t : ℕ) → List ℕ → Point → Type 0
IsShownPlace t bytes p = IsPointOf t bytes p × IsShown bytes p

-- the chunk has text of the document, which does not run backwards
pub record IsReadable (t : ℕ) (bytes : List ℕ) (events : List Event) (k : ℕ) : Type 0 where
  pub content : content_at events k ≢ Some Flow
  pub from : IsShownPlace t bytes (place_at events k)
  pub to : IsShownPlace t bytes (place_at events (k + 1))
  pub forward : stands_before (place_at events (k + 1)) (place_at events k) ≡ false

-- Between the chunk at k and the next one at d there is no text, or text from the beginning of a line on within that line;
-- and whole spans, none of them in a chain
pub record IsGap (events : List Event) (k d : ℕ) : Type 0 where
  pub forward : stands_before (place_at events d) (place_at events (k + 1)) ≡ false
  pub in_line : (place_at events (k + 1) ≡ place_at events d)
      ⊎ (((place_at events (k + 1)).column ≡ 1) × ((place_at events d).line ≡ (place_at events (k + 1)).line))
  pub balanced : IsBalanced (between (k + 2) d events)
  pub no_link : (m : ℕ) → k + 2 ≤ m → m < d → content_at events m ≡ None

-- The chains of a list that fit the filter can be read; there is a tab stop at every t columns
pub record IsReady (t : ℕ) (bytes : List ℕ) (wanted : Option Content) (events : List Event) : Type 0 where
  pub balanced : IsBalanced events
  pub chunks : (k : ℕ) (c : Content) → content_at events k ≡ Some c → IsChunk events k
  pub joined : AreMutual events
  pub forward : (k d : ℕ) → next_of events k ≡ Some d → k < d
  pub one_content : (k d : ℕ) → next_of events k ≡ Some d → content_at events k ≡ content_at events d
  pub readable : (k : ℕ) → fits wanted events k ≡ true → IsReadable t bytes events k
  pub gaps : (k d : ℕ) → fits wanted events k ≡ true → next_of events k ≡ Some d → IsGap events k d
