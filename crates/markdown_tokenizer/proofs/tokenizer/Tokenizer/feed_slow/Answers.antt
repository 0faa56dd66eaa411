use Rattle.markdown_tokenizer.proofs.Prelude.{refl, Some, None, Other, Byte, tab_of}
use Rattle.markdown_tokenizer.proofs.Inside.Known.{known-other}
use Rattle.markdown_tokenizer.proofs.Inside.Fields.{wide_of}
use Rattle.markdown_tokenizer.proofs.Inside.Steps.{within-at, byte-at, fed-more, fed-seen, fed-sound, fed-none}
use Rattle.markdown_tokenizer.proofs.tokenizer.Tokenizer.feed_slow.Goals as goal

pub next_byte_from-requires : goal.next_byte_from-requires
next_byte_from-requires g c = record { within = within-at c.self.inside c.self.invariant _ _ refl refl }

pub invariant_of-self : goal.invariant_of-self
invariant_of-self g c =
    let t = c.self.inside in let sound = c.self.invariant in
    let n = byte-at t sound _ _ (Some c.in-Some.byte) refl refl (c.in-Some.ensures (tab_of t.parse_state.now) (wide_of t sound)) in
    fed-sound t sound n.0 n.1 c.in-Some.byte n.2 n.3 Other
    (known-other t.skips t.after_previous t.end.0 t.bytes.now (tab_of t.parse_state.now) t.parse_state.now.bytes.now sound.known.own_bytes t.plain_until sound.known.is_plain_until Byte)

pub returns-in-None-clause-end : goal.returns-in-None-clause-end
returns-in-None-clause-end g c =
    let t = c.self.inside in let sound = c.self.invariant in
    rw (← c.self.view_is) (fed-none t sound (byte-at t sound _ _ None refl refl (c.in-None.ensures (tab_of t.parse_state.now) (wide_of t sound))))

pub returns-in-Some : goal.returns-in-Some
returns-in-Some g c =
    let t = c.self.inside in let sound = c.self.invariant in
    let n = byte-at t sound _ _ (Some c.in-Some.byte) refl refl (c.in-Some.ensures (tab_of t.parse_state.now) (wide_of t sound)) in
    rw (← c.self.view_is) (record { fed = fed-seen t sound n.0 n.1 c.in-Some.byte n.2; more = fed-more t sound n.0 n.1 n.2; same = tt; end = tt })
