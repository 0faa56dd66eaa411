-- What is kept of a document that was read up to a cut, and what reading on from there leaves.
use Rattle.std.specs.Prelude.{ℕ, true}
use Rattle.markdown.specs.declared.state.Name.{Name}
use Rattle.markdown.specs.declared.state.State.{State}
use Rattle.markdown.specs.declared.state.State.TheVariants.{Next}
use Rattle.markdown.specs.declared.subtokenize.Subresult.{Subresult}
use Rattle.markdown.specs.Alike.{at_document_start}
use Rattle.markdown.specs.Configuration.{TokenizerValue}
use Rattle.markdown.specs.Engine.{CanPush, IsFlushed, IsPushed}
use Rattle.markdown.specs.Rules.{Rules}
use Rattle.markdown.specs.Text.{Given, IsDocument, empty_text}
use Rattle.markdown.specs.Virtual.{point}

-- A tokenizer has read its document from the start up to a cut, in one push, and this state waits
pub record HasReadUpTo {M R D : Type 0} (rules : M → Given → Rules R D) (cut : ℕ × ℕ) (start : Name) (t : TokenizerValue M R D)
    (state : State) : Type 0 where
  pub document : IsDocument t.given
  pub allowed : CanPush t.given (empty_text (point 1 1 0 0)) (0, 0) cut
  pub pushed : IsPushed (rules t.machine t.given) (at_document_start t.given t.machine) (0, 0) cut (Next start) t state

-- A range was pushed, and then the tokenizer was flushed
pub record WasReadOn {M R D : Type 0} (rules : Rules R D) (old : TokenizerValue M R D) (from to : ℕ × ℕ) (state : State)
    (new : TokenizerValue M R D) (sub : Subresult) : Type 0 where
  pub read : TokenizerValue M R D
  pub last : State
  pub pushed : IsPushed rules old from to state read last
  pub flushed : IsFlushed rules true read last new sub
