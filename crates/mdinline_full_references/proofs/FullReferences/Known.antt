-- The state at the `]` of a label, whose code is told the answer of the test: for a machine whose test gives that answer, it is the state with the test.
use Rattle.std.proofs.Common.{◌≡◌, ℕ, Bool, cond, Option, Some, None, refl, sym, ap, subst}
use Rattle.std.specs.Prelude.{Result, [], ◌∷◌, IfOk}
use Rattle.markdown_base.specs.declared.event.Name.TheVariants.{Reference, ReferenceMarker}
use Rattle.markdown_base.specs.declared.state.State.{State}
use Rattle.markdown_base.specs.declared.state.State.TheVariants.{Ok, Nok}
use Rattle.markdown_tokenizer.specs.Configuration.{Configuration, TokenizerValue}
use Rattle.markdown_tokenizer.specs.Sight.{Sight, sight_of}
use Rattle.markdown_tokenizer.specs.Text.{Given}
use Rattle.mdconstructs_tables.specs.Rows.{class_of, consume, enter, exit, picked, row, step_of, write}
use Rattle.mdconstructs_tables.specs.RowInvariant.{DoesAll, IsCallable, step_in}
use Rattle.mdinline_text_machine.specs.TextBytes.{text_byte}
use Rattle.mdinline_link_tails.specs.ResourceRows.{at_bytes_only}
use Rattle.mdinline_full_references.specs.FullReferenceRows.{is_label_read, known, label_end, label_end_rows, label_noted, no_label}

module _ {M R D : Type 0} (wanted : Given → Sight → Configuration R D → Bool) (answer : Bool) (t : TokenizerValue M R D) where
  -- it can be called as the one with the test can
  pub known-callable : IsCallable text_byte (label_end wanted) t → IsCallable text_byte (label_end (known answer)) t
  known-callable h = record {
    called = record {
      inside = h.called.inside;
      fed = h.called.fed;
      in_order = h.called.in_order;
      base = h.called.base;
      spans = let o = h.called.spans in record { stack = o.stack; began = o.began; void = o.void; below = o.below; needs = o.needs; called = o.called };
      noted = h.called.noted;
    };
    byte = h.byte;
    stands = h.stands;
    marks = h.marks;
    ends = h.ends;
    ends_read = h.ends_read;
    ends_noted = h.ends_noted;
  }

  -- and does what that one does
  known-step : wanted t.given (sight_of t) t.configuration ≡ answer → step_in text_byte (label_end (known answer)) t ≡ step_in text_byte (label_end wanted) t
  known-step h =
      let g = t.given in
      let s = sight_of t in
      let k = t.configuration in
      let step = λ (test : Given → Sight → Configuration R D → Bool) (o : Option ℕ). step_of (picked (at_bytes_only (label_end_rows test) (class_of text_byte s.previous) (class_of text_byte o)) g s k) s k in
      elim s.current as (λ o. step (known answer) o ≡ step wanted o) [
        | None ↦ refl
        | Some b ↦
            ap
            (λ c. step_of
            (cond (is_label_read g s k) (cond c (picked (row (enter ReferenceMarker ∷ consume ∷ exit ReferenceMarker ∷ exit Reference ∷ []) Ok) g s k) (picked (row (write (label_noted 1) ∷ []) Nok) g s k)) (picked no_label g s k)) s k)
            (sym h)
      ]

  pub known-did : {E : Type 0} (new : TokenizerValue M R D) (r : Result State E) → wanted t.given (sight_of t) t.configuration ≡ answer
      → IfOk r (DoesAll (step_in text_byte (label_end (known answer)) t) t new) → IfOk r (DoesAll (step_in text_byte (label_end wanted) t) t new)
  known-did new r h did = subst (λ q. IfOk r (DoesAll q t new)) (known-step h) did
