use Rattle.mdconstructs_tables.proofs.Rows.Calls.{byte-waits}
use Rattle.mdinline_constructs.proofs.Prelude.{◌≡◌, cond, [], ◌∷◌, Some, refl, sym, ap, ◌∙◌, subst, Autolink, AutolinkEmail, AutolinkMarker, Next, Ok, Nok, AutolinkEmailLabel, AutolinkEmailValue, sight_of, can-exit, can-mark, then, DoesAll, Row, class_of, enter, exit, consume, write, picked, step_of, text_byte, size_b_is, size_b_grows, domain_ends, email_label, email_label_rows, label_ends, label_goes_on, label_has_hyphen}
use Rattle.mdconstructs_tables.specs.Markers.{marked}
use Rattle.mdinline_constructs.proofs.email.email_label.Goals as goal

pub marker-requires : goal.marker-requires
marker-requires g c =
    let t = c.args.t.now in
    let is = sym c.current.ensures ∙ c.in-Some.is in
    let made = c.in_ok-exit-in-Some.ensures.ok in
    can-mark text_byte email_label _ (Some (text_byte c.in-Some.field-0)) t c.requires.called refl (ap (class_of text_byte) is) (exit AutolinkEmail ∷ []) c.exit.new.self refl made
    (ap (λ t. t.configuration.waiting) made ∙ byte-waits t.text t.configuration.position t.configuration.waiting c.in-Some.field-0 is)

pub exit-requires-then-domain_ends : goal.exit-requires-then-domain_ends
exit-requires-then-domain_ends g c =
    let t = c.args.t.now in
    let is = sym c.current.ensures ∙ c.in-Some.is in
    can-exit text_byte email_label _ (Some (text_byte c.in-Some.field-0)) t c.requires.called refl (ap (class_of text_byte) is)
    (exit AutolinkEmail ∷ enter AutolinkMarker ∷ consume ∷ exit AutolinkMarker ∷ []) Autolink c.marker.new.t refl (c.in_ok-marker-in-Some.ensures ∙ ap (marked AutolinkMarker) c.in_ok-exit-in-Some.ensures.ok)

pub returns-in_ok-exit-in-Some-2 : goal.returns-in_ok-exit-in-Some-2
returns-in_ok-exit-in-Some-2 g c =
    let t = c.args.t.now in
    let is = sym c.current.ensures ∙ c.in-Some.is in
    let first = sym c.label_goes_on.ensures ∙ c.if-label_goes_on.false in
    let second = sym c.label_has_hyphen.ensures ∙ c.if-label_has_hyphen.false in
    let third = sym c.label_ends.ensures ∙ c.if-label_ends.false in
    let last = sym c.domain_ends.ensures ∙ c.if-domain_ends.true in
    let acts = exit AutolinkEmail ∷ enter AutolinkMarker ∷ consume ∷ exit AutolinkMarker ∷ [] in
    let rows = ap (λ o. step_of (picked (email_label_rows (class_of text_byte (sight_of t).previous) (class_of text_byte o)) t.given (sight_of t) t.configuration) (sight_of t) t.configuration) is in
    let label : Row g.row.M-Resolver.Denot g.row.M-Document.Denot = record { acts = write size_b_grows ∷ consume ∷ []; answer = Next AutolinkEmailLabel } in
    let value : Row g.row.M-Resolver.Denot g.row.M-Document.Denot = record { acts = write size_b_grows ∷ consume ∷ []; answer = Next AutolinkEmailValue } in
    let next : Row g.row.M-Resolver.Denot g.row.M-Document.Denot = record { acts = write (size_b_is 0) ∷ consume ∷ []; answer = Next AutolinkEmailLabel } in
    let none : Row g.row.M-Resolver.Denot g.row.M-Document.Denot = record { acts = []; answer = Nok } in
    let ends : Row g.row.M-Resolver.Denot g.row.M-Document.Denot = record { acts = exit AutolinkEmail ∷ enter AutolinkMarker ∷ consume ∷ exit AutolinkMarker ∷ exit Autolink ∷ []; answer = Ok } in
    let s = sight_of t in
    let k = t.configuration in
    let picks : step_of (cond (label_goes_on t.given s k) label (cond (label_has_hyphen t.given s k) value (cond (label_ends t.given s k) next (cond (domain_ends t.given s k) ends none)))) s k ≡ step_of ends s k =
    λ i. step_of (cond (first i) label (cond (second i) value (cond (third i) next (cond (last i) ends none)))) s k in
    subst (λ s. DoesAll s t c.exit-then-domain_ends.new.self Ok) (sym (rows ∙ picks)) (record {
      answered = refl;
      became = then text_byte email_label _ (Some (text_byte c.in-Some.field-0)) t c.requires.called refl (ap (class_of text_byte) is) acts
          (exit Autolink) c.marker.new.t c.exit-then-domain_ends.new.self refl (c.in_ok-marker-in-Some.ensures ∙ ap (marked AutolinkMarker) c.in_ok-exit-in-Some.ensures.ok) c.in_ok-exit-in-Some-2.ensures.ok;
    })
