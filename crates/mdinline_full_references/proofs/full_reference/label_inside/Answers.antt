use Rattle.mdinline_full_references.proofs.Prelude.{[], ◌∷◌, Some, refl, sym, ap, ◌∙◌, Data, exit, writes, then, byte-waits, can-exit, can-mark, class_of, text_byte}
use Rattle.mdinline_full_references.specs.FullReferenceRows.{counts_byte, label_inside}
use Rattle.mdinline_full_references.proofs.full_reference.label_inside.Goals as goal

pub exit-requires-then-waits-3 : goal.exit-requires-then-waits-3
exit-requires-then-waits-3 g c =
    let t = c.args.t.now in
    let is = sym c.current.ensures ∙ c.in-Some.is in
    can-exit text_byte label_inside _ (Some (text_byte c.in-Some.field-0)) t c.requires.called refl (ap (class_of text_byte) is) (writes counts_byte ∷ []) Data c.count_byte.new.t refl c.count_byte.ensures

pub marker-requires : goal.marker-requires
marker-requires g c =
    let t = c.args.t.now in
    let is = sym c.current.ensures ∙ c.in-Some.is in
    let made = then text_byte label_inside _ (Some (text_byte c.in-Some.field-0)) t c.requires.called refl (ap (class_of text_byte) is) (writes counts_byte ∷ []) (exit Data) c.count_byte.new.t c.exit-then-waits-3.new.self refl c.count_byte.ensures c.in_ok-exit-in-Some-3.ensures.ok in
    can-mark text_byte label_inside _ (Some (text_byte c.in-Some.field-0)) t c.requires.called refl (ap (class_of text_byte) is) (writes counts_byte ∷ exit Data ∷ []) c.exit-then-waits-3.new.self refl made
    (ap (λ t. t.configuration.waiting) made ∙ byte-waits t.text t.configuration.position t.configuration.waiting c.in-Some.field-0 is)
