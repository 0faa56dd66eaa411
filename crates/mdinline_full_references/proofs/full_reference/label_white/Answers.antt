use Rattle.mdinline_full_references.proofs.Prelude.{[], ◌∷◌, Some, refl, sym, ap, ◌∙◌, Data, SpaceOrTab, enter, exit, writes, then, byte-waits, can-exit, class_of, text_byte}
use Rattle.mdinline_full_references.specs.FullReferenceRows.{counts_byte, label_white}
use Rattle.mdinline_full_references.proofs.full_reference.label_white.Goals as goal

pub exit-requires-then-waits-4 : goal.exit-requires-then-waits-4
exit-requires-then-waits-4 g c =
    let t = c.args.t.now in
    let is = sym c.current.ensures ∙ c.in-Some.is in
    can-exit text_byte label_white _ (Some (text_byte c.in-Some.field-0)) t c.requires.called refl (ap (class_of text_byte) is) (writes counts_byte ∷ []) SpaceOrTab c.count_byte-then-waits-4.new.t refl c.count_byte-then-waits-4.ensures

pub exit-requires-else-waits-4 : goal.exit-requires-else-waits-4
exit-requires-else-waits-4 g c =
    let t = c.args.t.now in
    let is = sym c.current.ensures ∙ c.in-Some.is in
    can-exit text_byte label_white _ (Some (text_byte c.in-Some.field-0)) t c.requires.called refl (ap (class_of text_byte) is) (writes counts_byte ∷ []) SpaceOrTab c.count_byte-else-waits-4.new.t refl c.count_byte-else-waits-4.ensures

pub consume-requires-else-waits-4 : goal.consume-requires-else-waits-4
consume-requires-else-waits-4 g c =
    let t = c.args.t.now in
    let is = sym c.current.ensures ∙ c.in-Some.is in
    let left = then text_byte label_white _ (Some (text_byte c.in-Some.field-0)) t c.requires.called refl (ap (class_of text_byte) is) (writes counts_byte ∷ []) (exit SpaceOrTab) c.count_byte-else-waits-4.new.t c.exit-else-waits-4.new.self refl c.count_byte-else-waits-4.ensures c.in_ok-exit-in-Some-4.ensures.ok in
    let made = then text_byte label_white _ (Some (text_byte c.in-Some.field-0)) t c.requires.called refl (ap (class_of text_byte) is) (writes counts_byte ∷ exit SpaceOrTab ∷ []) (enter Data) c.exit-else-waits-4.new.self c.enter-else-waits-4.new.self refl left c.in_ok-enter-in-Some-2.ensures.ok in
    ap (λ t. t.configuration.waiting) made ∙ byte-waits t.text t.configuration.position t.configuration.waiting c.in-Some.field-0 is
