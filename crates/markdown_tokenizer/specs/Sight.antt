-- What a state sees of its place in the text. It may also look at the document, the events and what states share.
use Rattle.std.specs.Prelude.{ℕ, zero, suc, Option, None, Some, slice_get}
use Rattle.markdown_base.specs.declared.event.Point.{Point}
use Rattle.markdown_base.specs.Virtual.{Seat}
use Rattle.markdown_base.specs.Places.{shown}
use Rattle.markdown_tokenizer.specs.declared.waiting.Waits.{Waits}
use Rattle.markdown_tokenizer.specs.declared.waiting.Waits.TheVariants.{Nothing, Byte, End}
use Rattle.markdown_tokenizer.specs.Text.{Given, Text}
use Rattle.markdown_tokenizer.specs.Configuration.{Configuration, TokenizerValue}

-- The previous byte; the byte that waits; what `point` returns; the place of an enter; the place of an exit; and the place of both once the
-- byte that waits is consumed (if none waits, the place of an exit)
pub record Sight : Type 0 where
  pub previous : Option ℕ
  pub current : Option ℕ
  pub point : Point
  pub enter_place : Point
  pub exit_place : Point
  pub next : Point

-- the virtual byte before position p of the text
abbrev pub seat_before : Text → ℕ → Option Seat
seat_before text zero = None
seat_before text (suc q) = slice_get text.seats q

abbrev pub byte_of : Option Seat → Option ℕ
byte_of None = None
byte_of (Some s) = Some s.byte

abbrev pub end_or : Point → Option Seat → Point
end_or p None = p
end_or p (Some s) = s.end

abbrev pub point_or : Point → Option Seat → Point
point_or p None = p
point_or p (Some s) = s.point

-- the place after the byte before position p, or the start
abbrev pub end_place : Text → ℕ → Point
end_place text p = end_or text.start (seat_before text p)

-- the current place: at the byte that waits; at the text's end if that waits; else after the previous byte
abbrev pub point_of : Text → ℕ → Waits → Point
point_of text p Nothing = end_place text p
point_of text p Byte = point_or text.end (slice_get text.seats p)
point_of text p End = text.end

abbrev pub current_of : Text → ℕ → Waits → Option ℕ
current_of text p Nothing = None
current_of text p Byte = byte_of (slice_get text.seats p)
current_of text p End = None

abbrev pub next_place : Text → ℕ → Waits → Point
next_place text p Nothing = end_place text p
next_place text p Byte = end_or text.end (slice_get text.seats p)
next_place text p End = end_place text p

abbrev pub sight_in : Given → Text → ℕ → Waits → Sight
sight_in g text p waits = record {
  previous = byte_of (seat_before text p);
  current = current_of text p waits;
  point = point_of text p waits;
  enter_place = shown g.bytes (point_of text p waits);
  exit_place = shown g.bytes (end_place text p);
  next = shown g.bytes (next_place text p waits);
}

abbrev pub sight : {R D : Type 0} → Given → Text → Configuration R D → Sight
sight g text k = sight_in g text k.position k.waiting

-- what a state may look at in a tokenizer
abbrev pub sight_of : {M R D : Type 0} → TokenizerValue M R D → Sight
sight_of t = sight t.given t.text t.configuration
