use Rattle.mdinline_text_machine.proofs.Paragraphs.Staying.{texts-stay-ready}
use Rattle.mdinline_text_machine.proofs.laws.other_chains_stay_ready_after_texts.Goals as goal

pub returns : goal.returns
returns c g events ready document = texts-stay-ready g events document ready
