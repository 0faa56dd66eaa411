use Rattle.mdhtml_markup.proofs.AddressLemmas.{addresses-quoted, addresses-safe, addresses-short}
use Rattle.mdhtml_markup.proofs.laws.allowed_addresses_are_safe.Goals as goal

pub returns : goal.returns
returns c = record { quoted = addresses-quoted; short = addresses-short; safe = addresses-safe }
