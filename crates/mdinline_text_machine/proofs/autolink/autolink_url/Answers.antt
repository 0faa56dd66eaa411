use Rattle.mdinline_text_machine.proofs.Prelude.{◌≡◌, [], ◌∷◌, Some, refl, ap, ◌∙◌, Autolink, AutolinkMarker, AutolinkProtocol, sight_of, enter, exit, consume, class_of, marked, can-exit, text_byte, greater, autolink_url}
use Rattle.mdinline_text_machine.proofs.autolink.autolink_url.Goals as goal

pub exit-requires-in-Some-eq62 : goal.exit-requires-in-Some-eq62
exit-requires-in-Some-eq62 g c =
    let e : (sight_of c.args.t.now).current ≡ Some 62 = cc (c.current.ensures, c.in-Some-eq62.is) in
    can-exit text_byte autolink_url _ (Some greater) c.args.t.now c.requires.called refl (ap (class_of text_byte) e)
    (exit AutolinkProtocol ∷ enter AutolinkMarker ∷ consume ∷ exit AutolinkMarker ∷ []) Autolink c.marker.new.t refl
    (c.in_ok-marker-in-Some-eq62.ensures ∙ ap (marked AutolinkMarker) c.in_ok-exit-in-Some-eq62.ensures.ok)
