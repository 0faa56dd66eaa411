-- The chunks of a document with strings over several lines, and the events of one, computed.
use Rattle.std.proofs.Common.{◌≡◌, refl}
use Rattle.mdblock_definitions.specs.Examples.{links_of_document, links_of_stretches, read_of, white_in_string, with_strings}

pub of-stretches : links_of_document with_strings ≡ links_of_stretches
of-stretches = refl

pub of-white : read_of white_in_string.document ≡ white_in_string
of-white = refl
