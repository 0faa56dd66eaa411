use Rattle.mdinline_full_references.proofs.Prelude.{[], ◌∷◌, Some, refl, sym, ap, ◌∙◌, ReferenceString, enter, writes, then, byte-waits, can-mark, class_of, text_byte}
use Rattle.mdinline_full_references.specs.FullReferenceRows.{counts_byte, label_start}
use Rattle.mdinline_full_references.proofs.full_reference.label_start.Goals as goal

pub marker-requires : goal.marker-requires
marker-requires g c =
    let t = c.args.t.now in
    let is = sym c.current.ensures ∙ c.in-Some.is in
    let made = then text_byte label_start _ (Some (text_byte c.in-Some.field-0)) t c.requires.called refl (ap (class_of text_byte) is) (writes counts_byte ∷ []) (enter ReferenceString) c.count_byte.new.t c.enter.new.self refl c.count_byte.ensures c.in_ok-enter-in-Some.ensures.ok in
    can-mark text_byte label_start _ (Some (text_byte c.in-Some.field-0)) t c.requires.called refl (ap (class_of text_byte) is) (writes counts_byte ∷ enter ReferenceString ∷ []) c.enter.new.self refl made
    (ap (λ t. t.configuration.waiting) made ∙ byte-waits t.text t.configuration.position t.configuration.waiting c.in-Some.field-0 is)
