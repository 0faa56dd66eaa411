-- The message of the machines that refuse documents.
use Rattle.std.specs.Prelude.{Some, codes}
use Rattle.markdown_base.specs.declared.message.Message.{Message}
use Rattle.markdown_base.specs.declared.message.Place.TheVariants as place

-- the message `1:2: x (markdown:r)`
abbrev pub refusal : Message
refusal = record {
  place = Some (place.Point (record { line = 1; column = 2; offset = 1 }));
  reason = codes "x";
  rule_id = codes "r";
  source = codes "markdown";
}
