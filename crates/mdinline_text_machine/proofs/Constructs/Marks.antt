-- Behind acts that are allowed whatever the class of the byte that waits, that byte can be a span of its own.
use Rattle.mdinline_text_machine.proofs.Prelude.{◌≡◌, ℕ, List, Bool, subst, true, false, Option, Some, None, refl, ap, ◌∙◌, length, ◌<◌, Byte, Waits, Text, byte_of, current_of, sight_of, class_of, allows_all, start_shape}
use Rattle.std.proofs.lemmas.Option.{slice_get_cases}
use Rattle.markdown_tokenizer.specs.Configuration.{TokenizerValue}
use Rattle.mdconstructs_tables.specs.Markers.{IsMarkable}
use Rattle.mdconstructs_tables.specs.RowInvariant.{IsCallable, IsFed}
use Rattle.mdconstructs_tables.specs.RowTest.{is_called_at}
use Rattle.mdconstructs_tables.specs.Rows.{Act, StateRows, chooses, does}
use Rattle.mdconstructs_tables.proofs.Rows.Calls.{can-mark}
use Rattle.std.proofs.Common.{inl, inr, arith}

-- a byte that waits is seen
pub sees-byte : (text : Text) (p : ℕ) (waits : Waits) (ended : Bool) → waits ≡ Byte → IsFed waits p ended text → (b : ℕ) × (current_of text p waits ≡ Some b)
sees-byte text p waits ended is fed =
    let inside : p < length text.seats = subst (λ w. IsFed w p ended text) is fed in
    elim (slice_get_cases text.seats p).1 [
      | inl there ↦ (there.0.byte, ap (current_of text p) is ∙ ap byte_of there.2)
      | inr none ↦ absurd (omega (arith, inside, none.0))
    ]

pub can-mark-behind : {M W R D : Type 0} (class : ℕ → W) (state : StateRows W R D) (t : TokenizerValue M R D) → IsCallable class state t → is_called_at state.called true None ≡ false
    → (acts : List (Act R D)) (t' : TokenizerValue M R D) → ((b : Option W) (w : W) → allows_all acts (start_shape b (Some w) state) ≡ true)
    → t' ≡ record t { configuration = does acts (sight_of t) t.configuration; choices = chooses acts (sight_of t) t.configuration t.choices } → t'.configuration.waiting ≡ Byte → IsMarkable t'
can-mark-behind class state t can never acts t' allowed is waits =
    let before = class_of class (sight_of t).previous in
    let k = t.configuration in
    let seen = sees-byte t.text k.position k.waiting k.ended (can.byte never) can.called.fed in
    can-mark class state before (Some (class seen.0)) t can.called refl (ap (class_of class) seen.1) acts t' (allowed before (class seen.0)) is waits
