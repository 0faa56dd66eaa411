-- Which events packed ones stand for.
use Rattle.std.specs.Prelude.{ℕ, ◌-◌, ◌^◌, ◌==◌, cond, Option, Some, None, option_map}
use Rattle.markdown_base.specs.declared.event.Content.{Content}
use Rattle.markdown_base.specs.declared.event.Content.TheVariants as content
use Rattle.markdown_base.specs.declared.event.Event.{Event}
use Rattle.markdown_base.specs.declared.event.Link.{Link}
use Rattle.mddocument_editing.specs.declared.packed.Chain.{Chain}
use Rattle.mddocument_editing.specs.declared.packed.Chain.TheVariants as chain
use Rattle.mddocument_editing.specs.declared.packed.PackedEvent.{PackedEvent}

abbrev pub content_of : Chain → Option Content
content_of chain.Unlinked = None
content_of chain.Flow = Some content.Flow
content_of chain.Content = Some content.Content
content_of chain.String = Some content.String
content_of chain.Text = Some content.Text

-- the last number of 32 bits stands for no end
abbrev pub end_of : ℕ → Option ℕ
end_of n = cond (n == 2 ^ 32 - 1) None (Some n)

abbrev pub link_of : Chain → (previous next : ℕ) → Option Link
link_of chain previous next = option_map (λ content. record { previous = end_of previous; next = end_of next; content = content }) (content_of chain)

abbrev pub unpacked : PackedEvent → Event
unpacked p = record {
  kind = p.kind;
  name = p.name;
  point = record { line = p.line; column = p.column; index = p.index; vs = p.vs };
  link = link_of p.chain p.previous p.next;
}
