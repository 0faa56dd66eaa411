use Rattle.mdconstructs_tables.proofs.Rows.Calls.{byte-waits}
use Rattle.mdinline_constructs.proofs.Prelude.{◌≡◌, ◌∙◌, [], ◌∷◌, Some, refl, sym, ap, CharacterReference, CharacterReferenceMarkerSemi, CharacterReferenceValue, sight_of, class_of, consume, enter, exit, can-exit, can-mark, text_byte, reference_value}
use Rattle.mdconstructs_tables.specs.Markers.{marked}
use Rattle.mdinline_constructs.proofs.reference.reference_value.Goals as goal

pub marker-requires : goal.marker-requires
marker-requires g c =
    let t = c.args.t.now in
    let e : (sight_of t).current ≡ Some c.in-Some.byte = sym c.current.ensures ∙ c.in-Some.is in
    let made = c.in_ok-exit-in-Some.ensures.ok in
    let still : c.exit.new.self.configuration.waiting ≡ t.configuration.waiting = ap (λ t. t.configuration.waiting) made in
    can-mark text_byte reference_value (class_of text_byte (sight_of t).previous) (Some (text_byte c.in-Some.byte)) t c.requires.called refl (ap (class_of text_byte) e) (exit CharacterReferenceValue ∷ [])
    c.exit.new.self refl made (still ∙ byte-waits t.text t.configuration.position t.configuration.waiting c.in-Some.byte e)

pub exit-requires-then-byte-eq59 : goal.exit-requires-then-byte-eq59
exit-requires-then-byte-eq59 g c =
    let t = c.args.t.now in
    let e : (sight_of t).current ≡ Some c.in-Some.byte = sym c.current.ensures ∙ c.in-Some.is in
    can-exit text_byte reference_value (class_of text_byte (sight_of t).previous) (Some (text_byte c.in-Some.byte)) t c.requires.called refl (ap (class_of text_byte) e)
    (exit CharacterReferenceValue ∷ enter CharacterReferenceMarkerSemi ∷ consume ∷ exit CharacterReferenceMarkerSemi ∷ []) CharacterReference c.marker.new.t refl
    (c.in_ok-marker-in-Some.ensures ∙ ap (marked CharacterReferenceMarkerSemi) c.in_ok-exit-in-Some.ensures.ok)

pub consume-requires : goal.consume-requires
consume-requires g c =
    let t = c.args.t.now in
    let e : (sight_of t).current ≡ Some c.in-Some.byte = sym c.current.ensures ∙ c.in-Some.is in
    let still : c.grow_value.new.t.configuration.waiting ≡ t.configuration.waiting = ap (λ t. t.configuration.waiting) c.grow_value.ensures in
    still ∙ byte-waits t.text t.configuration.position t.configuration.waiting c.in-Some.byte e
