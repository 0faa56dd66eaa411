-- Spans of which none of a link's is in a link are apart.
use Rattle.std.proofs.Common.{◌≡◌, Bool, true, false, List, [], ◌∷◌, refl, sym, ap, subst, ◌∙◌}
use Rattle.std.proofs.lemmas.Bool.{false≢true}
use Rattle.std.specs.Prelude.{◌&&◌, ◌||◌, not}
use Rattle.markdown_base.proofs.Balanced.{same_name-true}
use Rattle.markdown_base.specs.declared.event.Event.{Event}
use Rattle.markdown_base.specs.declared.event.Name.{Name}
use Rattle.markdown_base.specs.declared.event.Name.TheVariants as name
use Rattle.markdown_base.specs.Events.{IsBalanced, empty, span, is_enter, same_name}
use Rattle.mdgfm_documents.proofs.InLinks.{in-span}
use Rattle.mdgfm_documents.proofs.LinksKept.{links-hold-no-links}
use Rattle.mdgfm_documents.proofs.Whole.{gfm-is-balanced}
use Rattle.mdgfm_documents.specs.Documents.{gfm_events}
use Rattle.mdgfm_documents.specs.LinkLaws.{AreInNoLink, all_links, has_link}
use Rattle.mdhtml_calls.specs.Laws.{DocumentsAreApart}
use Rattle.mdhtml_document.proofs.Both.{AreNamed, balanced-named, keep-events}
use Rattle.mdhtml_document.proofs.Entered.{named-each}
use Rattle.mdhtml_document.proofs.SpanFacts.{opened-kinded}
use Rattle.mdhtml_document.specs.declared.names.Inline.TheVariants as inline
use Rattle.mdhtml_document.specs.HtmlLaws.{are_apart, has_links, has_links_by, is_linked}
use Rattle.mdhtml_document.specs.Names.{inline_of, inlines_by_name}
use Rattle.mdhtml_document.specs.Spans.{AreKinded, Nothing, Span, Spans, events_of, spans_of}

is-balanced : (s : Spans) → AreKinded s → AreNamed s → IsBalanced (events_of s)
is-balanced Nothing k n = empty
is-balanced (Span e f s b) k n =
    span e f (events_of s) (events_of b) refl k.0 k.1 n.0 (is-balanced s k.2 n.1) (is-balanced b k.3 n.2)

-- a name that is none of a link's
other-name : {A : Type 0} (n m : Name) → all_links n ≡ false → all_links m ≡ true → same_name n m ≡ true → A
other-name n m h k same = absurd (false≢true (sym h ∙ ap all_links (same_name-true n m same) ∙ k))

brings-none : (n : Name) → all_links n ≡ false → has_links_by (inline_of n) false ≡ false
brings-none n h =
    named-each (λ i. has_links_by i false ≡ false) inlines_by_name inline.Other n ((λ q. refl), ((λ q. refl), ((λ q. refl), ((λ q. refl), ((λ q. refl), ((λ q. refl), ((λ q. refl), ((λ q. refl), (other-name n name.Autolink h refl, (other-name n name.GfmAutolinkLiteralWww h refl, (other-name n name.GfmAutolinkLiteralEmail h refl, (other-name n name.GfmAutolinkLiteralProtocol h refl, (other-name n name.GfmAutolinkLiteralMailto h refl, (other-name n name.GfmAutolinkLiteralXmpp h refl, (other-name n name.Link h refl, ((λ q. refl), ((λ q. refl), (other-name n name.GfmFootnoteCall h refl, ((λ q. refl), ((λ q. refl), tt)))))))))))))))))))) refl

-- only a link is one that may not hold others
no-link : (n : Name) (inner : Bool) → same_name n name.Link ≡ false → is_linked (inline_of n) inner ≡ false
no-link n inner h =
    named-each (λ i. is_linked i inner ≡ false) inlines_by_name inline.Other n ((λ q. refl), ((λ q. refl), ((λ q. refl), ((λ q. refl), ((λ q. refl), ((λ q. refl), ((λ q. refl), ((λ q. refl), ((λ q. refl), ((λ q. refl), ((λ q. refl), ((λ q. refl), ((λ q. refl), ((λ q. refl), ((λ q. absurd (false≢true (sym h ∙ q))), ((λ q. refl), ((λ q. refl), ((λ q. refl), ((λ q. refl), ((λ q. refl), tt)))))))))))))))))))) refl

holds-none : (n : Name) → is_linked (inline_of n) false ≡ false
holds-none n = by (same_name n name.Link) refl
  where
    by : (t : Bool) → same_name n name.Link ≡ t → is_linked (inline_of n) false ≡ false
    by false h = no-link n false h
    by true h = ap (λ m. is_linked (inline_of m) false) (same_name-true n name.Link h)

or-true : (a : Bool) → (a || true) ≡ true
or-true true = refl
or-true false = refl

-- in a link no link is
in-link : (ns : List Name) (s : Spans) → AreKinded s → AreNamed s → has_link ns ≡ true → AreInNoLink all_links ns (events_of s) → has_links s ≡ false
in-link ns Nothing k n h o = refl
in-link ns (Span e f s b) k n h o =
    let two = in-span all_links ns e f (events_of s) (events_of b) k.0 k.1 (is-balanced s k.2 n.1) o in
    let other : all_links e.name ≡ false = ap (λ x. is_enter x && all_links e.name) (sym k.0) ∙ o.0 h in
    let inner = in-link (e.name ∷ ns) s k.2 n.1 (ap (λ t. same_name e.name name.Link || t) h ∙ or-true (same_name e.name name.Link)) two.0 in
    let behind = in-link ns b k.3 n.2 h two.1 in
    ap (λ t. has_links_by (inline_of e.name) t || has_links b) inner ∙ ap (λ t. t || has_links b) (brings-none e.name other) ∙ behind

-- so none is in another
stand-apart : (ns : List Name) (s : Spans) → AreKinded s → AreNamed s → AreInNoLink all_links ns (events_of s) → are_apart s ≡ true
stand-apart ns Nothing k n o = refl
stand-apart ns (Span e f s b) k n o =
    let two = in-span all_links ns e f (events_of s) (events_of b) k.0 k.1 (is-balanced s k.2 n.1) o in
    let inner = stand-apart (e.name ∷ ns) s k.2 n.1 two.0 in
    let behind = stand-apart ns b k.3 n.2 two.1 in
    let free : is_linked (inline_of e.name) (has_links s) ≡ false = by two.0 (same_name e.name name.Link) refl in
    ap (λ t. not t && (are_apart s && are_apart b)) free ∙ ap (λ t. t && are_apart b) inner ∙ behind
  where
    by : AreInNoLink all_links (e.name ∷ ns) (events_of s) → (t : Bool) → same_name e.name name.Link ≡ t → is_linked (inline_of e.name) (has_links s) ≡ false
    by inner false h = no-link e.name (has_links s) h
    by inner true h =
        let none = in-link (e.name ∷ ns) s k.2 n.1 (ap (λ t. t || has_link ns) h) inner in
        ap (is_linked (inline_of e.name)) none ∙ holds-none e.name

balanced-apart : (events : List Event) → IsBalanced events → AreInNoLink all_links [] events → are_apart (spans_of events) ≡ true
balanced-apart events b o =
    stand-apart [] (spans_of events) (opened-kinded events).0 (balanced-named events b) (subst (AreInNoLink all_links []) (sym (keep-events events b)) o)

pub documents-are-apart : DocumentsAreApart
documents-are-apart options bytes is o =
    balanced-apart (gfm_events options.parse bytes) (gfm-is-balanced options.parse bytes is) (links-hold-no-links options.parse bytes is o)
