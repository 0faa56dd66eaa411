use Rattle.markdown_tokenizer.proofs.tokenizer.Tokenizer.next_call.Goals as goal

pub returns-then-feed_next : goal.returns-then-feed_next
returns-then-feed_next g c = rw c.in-Next.is (c.if-feed_next.ensures c.in-Next.name)

pub returns-else-feed_next : goal.returns-else-feed_next
returns-else-feed_next g c = rw c.in-Next.is (c.if-feed_next.ensures c.in-Next.name)
