-- Inner: the tests of chunks that look up places of a document. No public contract cites this file.
use Rattle.std.specs.Prelude.{◌≡◌, ◌<◌, ℕ, ◌+◌, ◌/◌, Bool, List, length, Option}
use Rattle.markdown_base.specs.declared.event.Content.{Content}
use Rattle.markdown_base.specs.declared.event.Event.{Event}
use Rattle.markdown_base.specs.declared.event.Point.{Point}
use Rattle.markdown_base.specs.Virtual.{IsWithinLimit}
use Rattle.markdown_children.specs.declared.byte_starts.ByteStarts.{ByteStarts}
use Rattle.markdown_children.specs.ByteStarts.{eighth_starts, is_place}
use Rattle.markdown_children.specs.ReadyTests.{can_be_read_at}

-- what is kept are the starts of each eighth byte of a document that there can be
pub record AreStarts (starts : ByteStarts) : Type 0 where
  pub some : 0 < starts.tab_size
  pub limit : IsWithinLimit starts.tab_size starts.bytes.now
  pub kept : starts.kept.items ≡ eighth_starts starts.tab_size starts.bytes.now (length starts.bytes.now / 8 + 1)

-- the point is a place of the document whose bytes begin as listed
abbrev pub is_place_of : ByteStarts → Point → Bool
is_place_of starts p = is_place starts.tab_size starts.bytes.now p

-- the event at an index is in no chain that fits, or its chunk and the gap behind it can be read
abbrev pub can_be_read_from : ByteStarts → Option Content → List Event → ℕ → Bool
can_be_read_from starts wanted events i = can_be_read_at (is_place_of starts) wanted events i
