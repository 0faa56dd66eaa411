-- What is written of a call is short, if its numbers have few digits.
use Rattle.std.proofs.Common.{◌≡◌, ℕ, ◌+◌, ◌*◌, ◌≤◌, List, [], ◌∷◌, ◌++◌, length, ap, refl, arith, Option, None, Some}
use Rattle.std.proofs.lemmas.List.{length-append}
use Rattle.std.specs.Fmt.{decimal}
use Rattle.std.specs.List.{flat_map}
use Rattle.std.specs.Prelude.{◌==◌, cond, codes}
use Rattle.mdhtml_document.specs.declared.names.Inline.TheVariants as inline
use Rattle.mdhtml_document.specs.declared.notes.Called.{Called}
use Rattle.mdhtml_document.specs.Html.{call_shape}
use Rattle.mdhtml_document.specs.HtmlLaws.{IsBrief}
use Rattle.mdhtml_document.specs.Notes.{call_id, call_pieces, note_id}
use Rattle.mdhtml_document.proofs.NoteIds.{call-address, decimal-escaped, note-address}
use Rattle.mdhtml_document.proofs.Rooms.{cond-le}
use Rattle.mdhtml_document.proofs.ShortShapes.{IsShort, first-short, longs, quoted-short, tag-long, thin, whole}
use Rattle.mdhtml_markup.specs.declared.elements.AttributeName.TheVariants as attr
use Rattle.mdhtml_markup.specs.declared.elements.Element.TheVariants.{Anchor}
use Rattle.mdhtml_markup.specs.Addresses.{written_address}
use Rattle.mdhtml_markup.specs.Escapes.{escaped}
use Rattle.mdhtml_markup.specs.Pieces.{Attribute, FootnoteCall, Href, Id, attribute}

pub call-id-short : (digits n r : ℕ) → length (decimal n) ≤ digits → length (decimal r) ≤ digits → length (call_id n r) ≤ 2 * digits + 20
call-id-short digits n r h k =
    let tail = cond (r == 1) [] (codes "-" ++ decimal r) in
    let most : length tail ≤ digits + 1 = cond-le (r == 1) [] (codes "-" ++ decimal r) (digits + 1) (omega arith) (omega (arith, k)) in
    let all = length-append (decimal n) tail in
    omega (arith, h, most, all)

pub note-link : (n : ℕ) → length (attribute (Href (codes "#" ++ note_id n))) ≤ length (decimal n) + 26
note-link n =
    let url = codes "#" ++ note_id n in
    let same = ap (λ (t : List ℕ). length t) (note-address n) in
    let q = quoted-short attr.Href (written_address url) tt in
    omega (arith, same, q)

pub call-link : (digits n r : ℕ) → length (decimal n) ≤ digits → length (decimal r) ≤ digits → length (attribute (Href (codes "#" ++ call_id n r))) ≤ 2 * digits + 30
call-link digits n r h k =
    let url = codes "#" ++ call_id n r in
    let same = ap (λ (t : List ℕ). length t) (call-address n r) in
    let q = quoted-short attr.Href (written_address url) tt in
    let few = call-id-short digits n r h k in
    omega (arith, same, q, few)

pub number-short : (n : ℕ) → length (escaped (decimal n)) ≡ length (decimal n)
number-short n = ap (λ (t : List ℕ). length t) (decimal-escaped n)

pub call-pieces-short : (digits : ℕ) (c : Called) → IsBrief digits c → longs (call_pieces c) ≤ 48 + 9 * (digits + 8)
call-pieces-short digits c brief =
    let href = Href (codes "#" ++ note_id c.number) in
    let id = Id (call_id c.number c.repeat) in
    let rest : List Attribute = FootnoteCall ∷ [] in
    let tag = tag-long Anchor (flat_map attribute (href ∷ id ∷ rest)) in
    let one = first-short href (id ∷ rest) in
    let two = first-short id rest in
    let link = note-link c.number in
    let q = quoted-short attr.Id (call_id c.number c.repeat) tt in
    let few = call-id-short digits c.number c.repeat brief.number brief.repeat in
    let number = number-short c.number in
    let n = brief.number in
    omega (arith, tag, one, two, link, q, few, number, n)

pub call-short : (digits : ℕ) (o : Option Called) (few all own : ℕ) → ((c : Called) → o ≡ Some c → IsBrief digits c) → digits + 8 ≤ own → IsShort inline.Call (call_shape o) few all own
call-short digits None few all own brief h = thin refl (omega arith)
call-short digits (Some c) few all own brief h =
    let short = call-pieces-short digits c (brief c refl) in
    whole refl (omega (arith, short, h))
