use Rattle.mddocument.proofs.Emphasis.InlineAccounts.{inlines-account}
use Rattle.mddocument.proofs.laws.inline_texts_in_their_blocks_account_for_each_byte.Goals as goal

pub returns : goal.returns
returns c = inlines-account
