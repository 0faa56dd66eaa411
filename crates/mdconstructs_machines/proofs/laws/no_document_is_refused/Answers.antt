use Rattle.mdconstructs_machines.proofs.NoRefusals.{lines-refuse-nothing, paragraphs-refuse-nothing, peek-refuses-nothing, deep-refuses-nothing, back-refuses-nothing, save-refuses-nothing}
use Rattle.mdconstructs_machines.proofs.laws.no_document_is_refused.Goals as goal

pub returns : goal.returns
returns c = record {
  lines = lines-refuse-nothing;
  paragraphs = paragraphs-refuse-nothing;
  peek = peek-refuses-nothing;
  deep = deep-refuses-nothing;
  back = back-refuses-nothing;
  save = save-refuses-nothing;
}
