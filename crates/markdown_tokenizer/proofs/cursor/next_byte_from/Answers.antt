use Rattle.markdown_tokenizer.proofs.cursor.next_byte_from.Goals as goal

pub returns : goal.returns
returns c = rw c.resumed.ensures at c.next_byte.ensures
