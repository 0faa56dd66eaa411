use Rattle.mddocument_parts.proofs.DocumentAsked.{labels-decide}
use Rattle.mddocument_parts.proofs.laws.labels_decide.Goals as goal

pub returns : goal.returns
returns c defined others options bytes seats h = labels-decide bytes options.constructs defined others options.gfm_strikethrough_single_tilde seats h
