use Rattle.markdown_tokenizer.proofs.Runs.Noted.{bytes-have-places}
use Rattle.markdown_tokenizer.proofs.laws.bytes_have_places.Goals as goal

pub returns : goal.returns
returns c = bytes-have-places
