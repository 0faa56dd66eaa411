-- The laws of calls say nothing of a machine's promise, so they hold with any other one.
use Rattle.markdown_tokenizer.proofs.Prelude.{List, Event, Given, Text, Rules, OnlyAdds, EndsWhenRead, KeepsInvariant, CostPays}
use Rattle.markdown_tokenizer.specs.Promises.{promising}

module _ {R D : Type 0} (g : Given) (rules : Rules R D) (ends : Text → List Event → Type 0) where
  pub adds-still : OnlyAdds g rules → OnlyAdds g (promising rules ends)
  adds-still law = record { events = law.events; stack = law.stack; choices = law.choices }

  pub ends-still : EndsWhenRead g rules → EndsWhenRead g (promising rules ends)
  ends-still law = record { nok = law.nok; ok = law.ok }

  pub kept-still : KeepsInvariant g rules → KeepsInvariant g (promising rules ends)
  kept-still law = record {
    at_starts = law.at_starts;
    unfed = law.unfed;
    waits = law.waits;
    by_feeding = law.by_feeding;
    by_calls = law.by_calls;
    by_ok = law.by_ok;
    by_nok = law.by_nok;
    by_pieces = law.by_pieces;
  }

  pub pays-still : CostPays g rules → CostPays g (promising rules ends)
  pays-still law = record { for_calls = law.for_calls; for_feeding = law.for_feeding; for_ok = law.for_ok; for_nok = law.for_nok }
