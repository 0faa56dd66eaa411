use Rattle.markdown_tokenizer.proofs.Prelude.{refl, tab_of}
use Rattle.markdown_tokenizer.proofs.Inside.Fields.{wide_of}
use Rattle.markdown_tokenizer.proofs.Inside.Steps.{byte-is-there-at, point-byte-at, point-end-at}
use Rattle.markdown_tokenizer.proofs.tokenizer.Tokenizer.point.Goals as goal

pub returns-in-Some : goal.returns-in-Some
returns-in-Some g c = rw (← c.self.view_is) (point-byte-at c.self.inside c.self.invariant _ _ refl c.resumed-place.ensures c.in-Byte.is _ (c.in-Some.ensures (tab_of c.self.inside.parse_state.now) (wide_of c.self.inside c.self.invariant)).1)

pub returns-in-End : goal.returns-in-End
returns-in-End g c = rw (← c.self.view_is) (point-end-at c.self.inside c.self.invariant _ _ refl c.resumed.ensures c.in-End.is)

pub returns-in-None : goal.returns-in-None
returns-in-None g c = absurd (byte-is-there-at c.self.inside c.self.invariant _ _ refl c.resumed-place.ensures c.in-Byte.is (c.in-None.ensures (tab_of c.self.inside.parse_state.now) (wide_of c.self.inside c.self.invariant)))
