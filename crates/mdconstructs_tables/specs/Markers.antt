-- A byte that is a span of its own.
use Rattle.std.specs.Prelude.{◌≡◌, ◌<◌, ◌≤◌, [], ◌∷◌, true, All, IfSome, length}
use Rattle.markdown_base.specs.declared.event.Name.{Name}
use Rattle.markdown_base.specs.Places.{stands_before}
use Rattle.markdown_tokenizer.specs.declared.waiting.Waits.TheVariants.{Byte}
use Rattle.markdown_tokenizer.specs.Configuration.{TokenizerValue, at_configuration}
use Rattle.markdown_tokenizer.specs.Sight.{sight_of}
use Rattle.mdconstructs_tables.specs.Rows.{enter, exit, consume, does}

-- A byte of the text waits, which begins before it ends, and no choice that waits saved more of the stack than there is
pub record IsMarkable {M R D : Type 0} (t : TokenizerValue M R D) : Type 0 where
  pub waits : t.configuration.waiting ≡ Byte
  pub inside : t.configuration.position < length t.text.seats
  pub in_order : stands_before (sight_of t).enter_place (sight_of t).next ≡ true
  pub below : All (λ c. IfSome c.saved (λ saved. length saved.stack ≤ length t.configuration.stack)) t.choices

-- a span of this name has begun, holds the byte that waited, and has ended
abbrev pub marked : {M R D : Type 0} → Name → TokenizerValue M R D → TokenizerValue M R D
marked name t = at_configuration t (does (enter name ∷ consume ∷ exit name ∷ []) (sight_of t) t.configuration)
