-- Why a push or a flush fails.
use Rattle.std.specs.Prelude.{ℕ, List, codes, Result, IsErrOf}
use Rattle.markdown_base.specs.declared.message.Message.{Message as MessageOf}
use Rattle.markdown_base.specs.Shown.{message_text}
use Rattle.markdown_tokenizer.specs.declared.tokenizer.fault.Fault.{Fault}
use Rattle.markdown_tokenizer.specs.declared.tokenizer.fault.Fault.TheVariants.{Memory, Failed, Message}

-- the line that a fault is shown as
abbrev pub fault_text : Fault → List ℕ
fault_text Memory = codes "out of memory"
fault_text Failed = codes "tokenizer has failed"
fault_text (Message m) = message_text m

-- if a call refuses the document with a message, the property holds for it
abbrev pub IfMessage : {T : Type 0} → Result T Fault → (MessageOf → Type 0) → Type 0
IfMessage result P = (m : MessageOf) → IsErrOf result (Message m) → P m
