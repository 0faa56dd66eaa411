-- What texts and lines are read as is void-tight, and no event of it has a link.
use Rattle.mdinline_text_machine.proofs.Prelude.{◌≡◌, ◌∷◌, ◌++◌, [], List, ℕ, true, false, refl, sym, ◌∙◌, Event, Enter, Exit, is_void, IsVoidTight, Seat, end_after, Given, Text, data_events, text_events, event, leaf}
use Rattle.markdown_base.specs.declared.event.Name.{Name}
use Rattle.markdown_tokenizer.specs.Plain.{HaveNoLinks}
use Rattle.markdown_tokenizer.proofs.Readings.Plain.{no-links-append}
use Rattle.mdconstructs_machines.specs.Spans.{span}
use Rattle.mdinline_text_machine.proofs.Paragraphs.Formed.{void-cons, void-append}
use Rattle.mdinline_text_machine.proofs.Texts.Built.{IsKeptBySpans, data-built}
use Rattle.mdinline_text_machine.proofs.Texts.ItemsBuilt.{text-built}

none-tight : IsVoidTight []
none-tight k e at = absurd (cc)

exit-tight : (e : Event) → e.kind ≡ Exit → IsVoidTight (e ∷ [])
exit-tight e exits = void-cons e [] (λ enters void. let no : Exit ≡ Enter = sym exits ∙ enters in absurd (cc)) none-tight

module _ (bytes : List ℕ) where
  leaf-tight : (name : Name) (seats : List Seat) → IsVoidTight (leaf bytes name seats)
  leaf-tight name [] = none-tight
  leaf-tight name (s ∷ ss) =
      let exit = event bytes Exit name (end_after s.end ss) in
      void-cons (event bytes Enter name s.point) (exit ∷ []) (λ enters void. (exit, refl, refl, refl)) (exit-tight exit refl)

  span-tight : (name : Name) (seats : List Seat) (es : List Event) → is_void name ≡ false → IsVoidTight es → IsVoidTight (span bytes name seats es)
  span-tight name [] es other h = h
  span-tight name (s ∷ ss) es other h =
      let exit = event bytes Exit name (end_after s.end ss) in
      void-cons (event bytes Enter name s.point) (es ++ exit ∷ []) (λ enters void. let no : false ≡ true = sym other ∙ void in absurd (cc)) (void-append es (exit ∷ []) h (exit-tight exit refl))

  pub tight-kept : IsKeptBySpans bytes IsVoidTight
  tight-kept = record { none = none-tight; both = void-append; alone = leaf-tight; around = span-tight }

  pub data-tight : (seats : List Seat) → IsVoidTight (data_events bytes seats)
  data-tight = data-built bytes IsVoidTight tight-kept

  leaf-alone : (name : Name) (seats : List Seat) → HaveNoLinks (leaf bytes name seats)
  leaf-alone name [] = tt
  leaf-alone name (s ∷ ss) = (refl, (refl, tt))

  span-alone : (name : Name) (seats : List Seat) (es : List Event) → is_void name ≡ false → HaveNoLinks es → HaveNoLinks (span bytes name seats es)
  span-alone name [] es other h = h
  span-alone name (s ∷ ss) es other h = (refl, no-links-append es (event bytes Exit name (end_after s.end ss) ∷ []) h (refl, tt))

  pub links-kept : IsKeptBySpans bytes HaveNoLinks
  links-kept = record { none = tt; both = no-links-append; alone = leaf-alone; around = span-alone }

-- the events of a text
pub text-tight : (g : Given) (text : Text) → IsVoidTight (text_events g text)
text-tight g = text-built g IsVoidTight (tight-kept g.bytes)

pub text-alone : (g : Given) (text : Text) → HaveNoLinks (text_events g text)
text-alone g = text-built g HaveNoLinks (links-kept g.bytes)
