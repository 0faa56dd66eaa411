-- The literals of some texts, and of the events of some lines, on each side of each rule.
use Rattle.std.specs.Prelude.{ℕ, ◌+◌, List, [], ◌∷◌, ◌++◌, None, codes, map, true}
use Rattle.markdown_base.specs.declared.event.Event.{Event}
use Rattle.markdown_base.specs.declared.event.Kind.TheVariants.{Enter, Exit}
use Rattle.markdown_base.specs.declared.event.Name.{Name}
use Rattle.markdown_base.specs.declared.event.Name.TheVariants.{CharacterReference, CharacterReferenceMarker, CharacterReferenceMarkerSemi, CharacterReferenceValue, Data, Emphasis, EmphasisSequence, EmphasisText, GfmAutolinkLiteralEmail, GfmAutolinkLiteralMailto, GfmAutolinkLiteralProtocol, GfmAutolinkLiteralWww, GfmAutolinkLiteralXmpp, LabelText, Link, Paragraph}
use Rattle.markdown_base.specs.Virtual.{point}
use Rattle.mdgfm_literals.specs.declared.texts.Literal.{Literal}
use Rattle.mdgfm_literals.specs.LiteralEvents.{events_with}
use Rattle.mdgfm_literals.specs.Literals.{literals_from}
use Rattle.mdgfm_events.specs.Places.{event}
use Rattle.mdgfm_literals.specs.Stretches.{literals_of}

-- ---- texts

-- a literal from an index up to another
abbrev pub literal : Name → (from to : ℕ) → List Literal
literal name i j = record { from = i; to = j; name = name } ∷ []

abbrev pub www : (from to : ℕ) → List Literal
www = literal GfmAutolinkLiteralWww

abbrev pub url : (from to : ℕ) → List Literal
url = literal GfmAutolinkLiteralProtocol

abbrev pub email : (from to : ℕ) → List Literal
email = literal GfmAutolinkLiteralEmail

-- texts, and the literals that they must have
abbrev pub Texts : Type 0
Texts = List (List ℕ × List Literal)

abbrev pub literals : Texts → List (List Literal)
literals texts = map (λ t. literals_from 0 None 0 t.0) texts

abbrev pub told : Texts → List (List Literal)
told texts = map (λ t. t.1) texts

-- `www.`: what may be before it, and underscores in its domain
abbrev pub of_www : Texts
of_www =
    (codes "www.a.b", www 0 7) ∷ (codes "(www.a", www 1 6) ∷ (codes "*www.a", www 1 6) ∷ (codes "xwww.a", []) ∷ (codes "-www.a", []) ∷
    (codes "www.", []) ∷ (codes "www..b", []) ∷ (codes "WWW.a", []) ∷ (codes "www.a_b.c", []) ∷ (codes "www.a.b_", []) ∷ (codes "www.a_b.c.d", www 0 11) ∷
    (codes "_www.a", www 1 6) ∷ (codes "www.a_www.b", www 6 11) ∷ (codes "www.a www.b", www 0 5 ++ www 6 11) ∷ []

-- protocols, in any case
abbrev pub of_protocols : Texts
of_protocols =
    (codes "http://a", url 0 8) ∷ (codes "HTTPS://a.b/c", url 0 13) ∷ (codes "ftp://a<b", url 0 7) ∷ (codes "ftps://a", []) ∷ (codes "xhttp://a", []) ∷
    (codes "\"http://a", url 1 9) ∷ (codes "1http://a", url 1 9) ∷ (codes "http://_a", []) ∷ (codes "http://a_b", []) ∷ (codes "http:/a", []) ∷ []

-- what is left out at the end
abbrev pub of_ends : Texts
of_ends =
    (codes "www.a.b?!", www 0 7) ∷ (codes "www.a/(c)", www 0 9) ∷ (codes "www.a/(c))", www 0 9) ∷ (codes "www.a/c).)", www 0 7) ∷ (codes "www.a&c;", www 0 5) ∷
    (codes "www.a&c;&d;.", www 0 5) ∷ (codes "www.a&1;", www 0 7) ∷ (codes "www.a&;", www 0 6) ∷ (codes "www.a/&c", www 0 8) ∷ []

-- email addresses, and schemes of theirs
abbrev pub of_emails : Texts
of_emails =
    (codes "a@b.c", email 0 5) ∷ (codes "+a@b.c", email 0 6) ∷ (codes "a@b", []) ∷ (codes "@b.c", []) ∷ (codes "a@b.c_", []) ∷ (codes "a@b.1", []) ∷
    (codes "a@b.c.", email 0 5) ∷ (codes "a@b_c.d", email 0 7) ∷ (codes "a@b@c.d", email 2 7) ∷ (codes "a@b.c@d", []) ∷ (codes "a@b.c+d@e.f", email 0 5 ++ email 5 11) ∷
    (codes "mailto:a@b.c", literal GfmAutolinkLiteralMailto 0 12) ∷ (codes "Xmpp:a@b.c", literal GfmAutolinkLiteralXmpp 0 10) ∷ (codes "xmailto:a@b.c", email 8 13) ∷ []

-- in escapes no literal begins
abbrev pub of_escapes : Texts
of_escapes = (codes "\\*www.a", www 2 7) ∷ (codes "\\_a@b.c", []) ∷ (codes "\\aa@b.c", email 1 7) ∷ (codes "\\-www.a", []) ∷ []

-- ---- events, in one line

abbrev pub at : ℕ → Event → Event
at i e = record e { point = point 1 (i + 1) i 0 }

abbrev pub leaf : Name → (from to : ℕ) → List Event
leaf name i j = event Enter name (point 1 (i + 1) i 0) ∷ event Exit name (point 1 (j + 1) j 0) ∷ []

abbrev pub span : Name → (from to : ℕ) → List Event → List Event
span name i j es = event Enter name (point 1 (i + 1) i 0) ∷ (es ++ event Exit name (point 1 (j + 1) j 0) ∷ [])

-- the events of a line, with its literals
abbrev pub with_its : List ℕ → List Event → List Event
with_its bytes es = events_with 4 bytes 0 0 (point 1 1 0 0) (literals_of bytes true 0 0 es) es

-- a reference of one letter
abbrev pub reference : (from : ℕ) → List Event
reference i =
    span CharacterReference i (i + 4) (leaf CharacterReferenceMarker i (i + 1) ++ (leaf CharacterReferenceValue (i + 1) (i + 3) ++ leaf CharacterReferenceMarkerSemi (i + 3) (i + 4)))

-- a literal behind data; in data alone; over a reference in it; up to one at its end
abbrev pub Lines : Type 0
Lines = List (List ℕ × List Event × List Event)

abbrev pub lines : Lines
lines =
    (codes "a www.b.c d", leaf Data 0 11, leaf Data 0 2 ++ (leaf GfmAutolinkLiteralWww 2 9 ++ leaf Data 9 11)) ∷
    (codes "www.b.c", leaf Data 0 7, leaf GfmAutolinkLiteralWww 0 7) ∷
    (codes "www.b&lt;c", leaf Data 0 5 ++ (reference 5 ++ leaf Data 9 10), leaf GfmAutolinkLiteralWww 0 10) ∷
    (codes "www.b&lt;", leaf Data 0 5 ++ reference 5, leaf GfmAutolinkLiteralWww 0 5 ++ reference 5) ∷
    (codes "&lt;", reference 0, reference 0) ∷
    (codes "[www.b](c)", span Link 0 10 (span LabelText 1 6 (leaf Data 1 6)), span Link 0 10 (span LabelText 1 6 (leaf Data 1 6))) ∷
    (codes "*a*b@c.d", span Emphasis 0 3 (leaf EmphasisSequence 0 1 ++ (span EmphasisText 1 2 (leaf Data 1 2) ++ leaf EmphasisSequence 2 3)) ++ leaf Data 3 8, span Emphasis 0 3 (leaf EmphasisSequence 0 1 ++ (span EmphasisText 1 2 (leaf Data 1 2) ++ leaf EmphasisSequence 2 3)) ++ leaf GfmAutolinkLiteralEmail 3 8) ∷
    (codes "-www.b", leaf Data 1 6, leaf GfmAutolinkLiteralWww 1 6) ∷
    (codes "-www.b", leaf Data 0 1 ++ span Paragraph 1 6 (leaf Data 1 6), leaf Data 0 1 ++ span Paragraph 1 6 (leaf GfmAutolinkLiteralWww 1 6)) ∷
    (codes "-www.b", leaf Emphasis 0 1 ++ leaf Data 1 6, leaf Emphasis 0 1 ++ leaf Data 1 6) ∷
    []

abbrev pub lines_with : Lines → List (List Event)
lines_with = map (λ l. with_its l.0 l.1)

abbrev pub lines_told : Lines → List (List Event)
lines_told = map (λ l. l.2)
