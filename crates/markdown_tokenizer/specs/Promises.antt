-- What machines may promise of their final events.
use Rattle.std.specs.Prelude.{List}
use Rattle.markdown_base.specs.declared.event.Event.{Event}
use Rattle.markdown_tokenizer.specs.Text.{Given, Text}
use Rattle.markdown_tokenizer.specs.Rules.{Rules}
use Rattle.markdown_tokenizer.specs.Engine.{EndsWellFormed}
use Rattle.markdown_tokenizer.specs.Lawful.{IsLawful}
use Rattle.markdown_tokenizer.specs.Plain.{KeepsPlain, plain}

-- the same rules with another promise
abbrev pub promising : {R D : Type 0} → Rules R D → (ends : Text → List Event → Type 0) → Rules R D
promising rules ends = record rules { ends = ends }

module _ {M R D : Type 0} (rules : M → Given → Rules R D) where
  -- a machine whose states register no resolver, make no edit and link nothing may promise that its final events are well formed
  abbrev pub MayPromiseWellFormed : Type 0
  MayPromiseWellFormed = (m : M) (g : Given) → KeepsPlain (rules m g).step → IsLawful g (plain (promising (rules m g) (EndsWellFormed g)))

  -- a machine may promise less than it does: what follows from its promise
  abbrev pub MayPromiseLess : (ends : Given → Text → List Event → Type 0) → Type 0
  MayPromiseLess ends = (m : M) (g : Given) → ((text : Text) (events : List Event) → (rules m g).ends text events → ends g text events)
      → IsLawful g (promising (rules m g) (ends g))
