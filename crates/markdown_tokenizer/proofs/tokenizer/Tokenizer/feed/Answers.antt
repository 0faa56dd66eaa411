use Rattle.markdown_tokenizer.proofs.Prelude.{Plain}
use Rattle.markdown_tokenizer.proofs.Inside.Steps.{end-inside, quick-more, quick-seen, quick-sound}
use Rattle.markdown_tokenizer.proofs.tokenizer.Tokenizer.feed.Goals as goal

pub quick_byte-next-requires-clause-inside : goal.quick_byte-next-requires-clause-inside
quick_byte-next-requires-clause-inside g c =
    rw c.self.invariant.known.own_bytes (end-inside c.self.inside c.self.invariant)

pub invariant_of-self : goal.invariant_of-self
invariant_of-self g c = quick-sound c.self.inside c.self.invariant c.in-Some.byte Plain (rw c.in-Plain.is at c.in-Some.ensures)

pub invariant_of-self-in_default : goal.invariant_of-self-in_default
invariant_of-self-in_default g c = quick-sound c.self.inside c.self.invariant c.in-Some.byte c.in-Some.moves c.in-Some.ensures

pub returns-in-Plain-clause-fed : goal.returns-in-Plain-clause-fed
returns-in-Plain-clause-fed g c = rw (← c.self.view_is) (quick-seen c.self.inside c.self.invariant c.in-Some.byte c.in-Some.moves c.in-Some.ensures)

pub returns-in-Plain-clause-more : goal.returns-in-Plain-clause-more
returns-in-Plain-clause-more g c = rw (← c.self.view_is) (quick-more c.self.inside c.self.invariant c.in-Some.byte c.in-Some.moves c.in-Some.ensures)

pub returns-in_default-clause-fed : goal.returns-in_default-clause-fed
returns-in_default-clause-fed g c = rw (← c.self.view_is) (quick-seen c.self.inside c.self.invariant c.in-Some.byte c.in-Some.moves c.in-Some.ensures)

pub returns-in_default-clause-more : goal.returns-in_default-clause-more
returns-in_default-clause-more g c = rw (← c.self.view_is) (quick-more c.self.inside c.self.invariant c.in-Some.byte c.in-Some.moves c.in-Some.ensures)
