use Rattle.markdown_base.proofs.Prelude.{refl, append_assoc}
use Rattle.markdown_base.proofs.util.slice.Slice.serialize.Goals as goal

pub returns : goal.returns
returns c =
    record { text = rw (c.in_ok-push_spaces-2.ensures.spaces, c.in_ok-push_str.ensures.bytes, c.as_str.ensures.bytes, c.in_ok-push_spaces.ensures.spaces, c.new-text.ensures.bytes, append_assoc) refl }
