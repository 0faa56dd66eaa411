use Rattle.mdconstructs_machines.proofs.LineReads.Accounts.{documents-account}
use Rattle.mdconstructs_machines.proofs.laws.innermost_spans_account_for_documents.Goals as goal

pub returns : goal.returns
returns c = documents-account
