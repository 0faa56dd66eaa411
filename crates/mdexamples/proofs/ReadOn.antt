-- What a tokenizer that has read up to a cut keeps, and how it goes on in a document that begins alike.
use Rattle.std.proofs.Common.{◌≡◌, ◌∙◌, ℕ, ap, length, sym, subst, true}
use Rattle.std.specs.Prelude.{Contains}
use Rattle.markdown.specs.declared.state.Name.{Name}
use Rattle.markdown.specs.declared.state.State.{State}
use Rattle.markdown.specs.declared.state.State.TheVariants.{Next}
use Rattle.markdown.specs.declared.subtokenize.Subresult.{Subresult}
use Rattle.markdown.specs.declared.waiting.Phase.TheVariants.{Reading}
use Rattle.markdown.specs.Alike.{CanMove, LooksNoFurther, RestIsRun, at_document_start, in_document}
use Rattle.markdown.specs.AtPlaces.{AreAtPlaces}
use Rattle.markdown.specs.Configuration.{TokenizerValue}
use Rattle.markdown.specs.Engine.{CanPush, HoldsOf, IsFlushed, IsPushed, IsRunOf}
use Rattle.markdown.specs.Lawful.{IsLawful}
use Rattle.markdown.specs.Rules.{Rules}
use Rattle.markdown.specs.Text.{Given, IsDocument, empty_text}
use Rattle.markdown.specs.Virtual.{point}
use Rattle.markdown.proofs.Runs.Onward.{goes-on-elsewhere}
use Rattle.mdexamples.specs.Kept.{HasReadUpTo, WasReadOn}

-- a push and a flush of the same tokenizer
pub read-on : {M R D : Type 0} (rules : M → Given → Rules R D) (old read new : TokenizerValue M R D) (from to : ℕ × ℕ) (state last : State) (sub : Subresult)
    → IsPushed (rules old.machine old.given) old from to state read last → IsFlushed (rules read.machine read.given) true read last new sub
    → WasReadOn (rules old.machine old.given) old from to state new sub
read-on {M} rules old read new from to state last sub pushes flushes = record {
  read = read;
  last = last;
  pushed = pushes;
  flushed = subst (λ (x : M). IsFlushed (rules x old.given) true read last new sub) pushes.machine
      (subst (λ (x : Given). IsFlushed (rules read.machine x) true read last new sub) pushes.given flushes);
}

module _ {M R D : Type 0} (rules : M → Given → Rules R D) (cut : ℕ × ℕ) (start : Name) where
  -- a push of a document's beginning, to a tokenizer that has read nothing
  pub read-up-to : (g : Given) (m : M) (begun new : TokenizerValue M R D) (state : State) → begun ≡ at_document_start g m → IsDocument g
      → CanPush begun.given begun.text (0, 0) cut → IsPushed (rules begun.machine begun.given) begun (0, 0) cut (Next start) new state → HasReadUpTo rules cut start new state
  read-up-to g m begun new state begins document can pushes =
      let allowed : CanPush g (empty_text (point 1 1 0 0)) (0, 0) cut = subst (λ (t : TokenizerValue M R D). CanPush t.given t.text (0, 0) cut) begins can in
      let pushed : IsPushed (rules m g) (at_document_start g m) (0, 0) cut (Next start) new state =
      subst (λ (t : TokenizerValue M R D). IsPushed (rules t.machine t.given) t (0, 0) cut (Next start) new state) begins pushes in
      record {
        document = subst IsDocument (sym pushed.given) document;
        allowed = subst (λ (x : Given). CanPush x (empty_text (point 1 1 0 0)) (0, 0) cut) (sym pushed.given) allowed;
        pushed = subst (λ (x : M). IsPushed (rules x new.given) (at_document_start new.given x) (0, 0) cut (Next start) new state) (sym pushed.machine)
            (subst (λ (x : Given). IsPushed (rules m x) (at_document_start x m) (0, 0) cut (Next start) new state) (sym pushed.given) pushed);
      }

  -- reading on in a document with this tokenizer and state, from the cut to its end, is a run of it
  pub record GoesOn (m : M) (h : Given) (t : TokenizerValue M R D) (state : State) : Type 0 where
    pub range : CanPush t.given t.text cut (length h.bytes, 0)
    pub holds : HoldsOf (rules t.machine t.given) t state
    pub run : (final : TokenizerValue M R D) (sub : Subresult) → WasReadOn (rules t.machine t.given) t cut (length h.bytes, 0) state final sub
        → IsRunOf h (rules m) true start final sub

  -- a copy of what was kept goes on in another document
  pub goes-on : ((m : M) (g : Given) → IsLawful g (rules m g)) → (h : Given) (kept copy moved : TokenizerValue M R D) (state copied : State) → HasReadUpTo rules cut start kept state
      → LooksNoFurther (rules kept.machine) → Contains (rules kept.machine h).starts start → CanMove kept.given h kept.text.end → copy ≡ kept → copied ≡ state → moved ≡ in_document h copy
      → (copy.phase ≡ Reading → AreAtPlaces h.tab h.bytes moved.configuration.events) → GoesOn kept.machine h moved copied
  goes-on lawful h kept copy moved state copied read looks starts move copy-is copied-is moved-is places =
      let is : moved ≡ in_document h kept = moved-is ∙ ap (in_document h) copy-is in
      let at : AreAtPlaces h.tab h.bytes kept.configuration.events = subst (λ (t : TokenizerValue M R D). AreAtPlaces h.tab h.bytes t.configuration.events) is
      (places (ap (λ (t : TokenizerValue M R D). t.phase) copy-is ∙ read.pushed.phase)) in
      let rest : RestIsRun (rules kept.machine) h cut start (in_document h kept) state =
      (goes-on-elsewhere rules lawful kept.machine looks kept.given h cut start kept state read.document starts read.allowed read.pushed move.alike at).1 in
      let on : GoesOn kept.machine h (in_document h kept) state =
      record { range = rest.range; holds = rest.holds; run = λ final sub w. rest.run true w.read final w.last sub w.pushed w.flushed } in
      subst (λ (s : State). GoesOn kept.machine h moved s) (sym copied-is) (subst (λ (t : TokenizerValue M R D). GoesOn kept.machine h t state) (sym is) on)
