-- The tree of events that are read apart, and its HTML.
use Rattle.std.proofs.Common.{◌≡◌, ℕ, List, [], ◌∷◌, ◌++◌, ap, sym, subst, refl, ◌∙◌, append_assoc, append-nil}
use Rattle.std.specs.Prelude.{⊤}
use Rattle.markdown_base.specs.declared.configuration.CompileOptions.{CompileOptions}
use Rattle.markdown_base.specs.declared.event.Event.{Event}
use Rattle.markdown_base.specs.declared.event.Kind.TheVariants.{Enter, Exit}
use Rattle.markdown_base.specs.Events.{IsBalanced, empty, span}
use Rattle.mdhtml_document.specs.declared.shapes.Mode.TheVariants as mode
use Rattle.mdhtml_document.specs.Html.{Known, columns_in, pieces, shape}
use Rattle.mdhtml_document.specs.HtmlLaws.{HtmlOfBoth}
use Rattle.mdhtml_document.specs.Names.{block_of}
use Rattle.mdhtml_document.specs.Spans.{Nothing, Opened, Span, Spans, SpansKeepEvents, events_of, opened, opened_by, spans_of}
use Rattle.mdhtml_markup.specs.Pieces.{html, html_from}
use Rattle.mdhtml_document.proofs.Written.{html-append}

-- spans, and others behind them
abbrev joined : Spans → Spans → Spans
joined Nothing t = t
joined (Span e f inside behind) t = Span e f inside (joined behind t)

joined-nothing : (s : Spans) → joined s Nothing ≡ s
joined-nothing Nothing = refl
joined-nothing (Span e f inside behind) = ap (Span e f inside) (joined-nothing behind)

-- each span's exit has the name of its enter
abbrev pub AreNamed : Spans → Type 0
AreNamed Nothing = ⊤
AreNamed (Span e f s behind) = (f.name ≡ e.name) × AreNamed s × AreNamed behind

-- what balanced events are, in front of others
record Read (xs : List Event) : Type 0 where
  spans : Spans
  named : AreNamed spans
  events : events_of spans ≡ xs
  first : (zs : List Event) → opened (xs ++ zs) ≡ record { inside = joined spans (opened zs).inside; around = (opened zs).around }

reads : (xs : List Event) → IsBalanced xs → Read xs
reads xs empty = record { spans = Nothing; named = tt; events = refl; first = λ zs. refl }
reads xs (span e f us vs is enters exits same bu bv) =
    let u = reads us bu in
    let v = reads vs bv in
    record {
      spans = Span e f u.spans v.spans;
      named = (same, u.named, v.named);
      events = ap (λ x. e ∷ (x ++ f ∷ events_of v.spans)) u.events ∙ ap (λ x. e ∷ (us ++ f ∷ x)) v.events ∙ sym is;
      first = λ zs.
          ap (λ x. opened (x ++ zs)) is ∙ ap (λ x. opened (e ∷ x)) (append_assoc us (f ∷ vs) zs) ∙ ap (λ k. opened_by k e (opened (us ++ f ∷ (vs ++ zs)))) enters
          ∙ ap (opened_by Enter e) (u.first (f ∷ (vs ++ zs)) ∙ ap (λ k. after u.spans (opened_by k f (opened (vs ++ zs)))) exits ∙ ap (λ r. after u.spans (opened_by Exit f r)) (v.first zs))
          ∙ ap (λ s. record { inside = Span e f s (joined v.spans (opened zs).inside); around = (opened zs).around }) (joined-nothing u.spans);
    }
  where
    after : Spans → Opened → Opened
    after s r = record { inside = joined s r.inside; around = r.around }

pub keep-events : SpansKeepEvents
keep-events es balanced =
    let r = reads es balanced in
    ap (λ x. events_of (opened x).inside) (sym (append-nil es)) ∙ ap (λ (o : Opened). events_of o.inside) (r.first []) ∙ ap events_of (joined-nothing r.spans) ∙ r.events

-- the spans that balanced events read as
alone : (es : List Event) (balanced : IsBalanced es) → spans_of es ≡ (reads es balanced).spans
alone es balanced =
    let r = reads es balanced in
    ap (λ x. (opened x).inside) (sym (append-nil es)) ∙ ap (λ (o : Opened). o.inside) (r.first []) ∙ joined-nothing r.spans

pub balanced-named : (es : List Event) → IsBalanced es → AreNamed (spans_of es)
balanced-named es balanced = subst AreNamed (sym (alone es balanced)) (reads es balanced).named

-- the spans of two parts
both : (es fs : List Event) → IsBalanced es → spans_of (es ++ fs) ≡ joined (spans_of es) (spans_of fs)
both es fs balanced =
    let r = reads es balanced in
    ap (λ (o : Opened). o.inside) (r.first fs) ∙ ap (λ s. joined s (spans_of fs)) (sym (alone es balanced))

module _ (options : CompileOptions) (bytes : List ℕ) (known : Known) (tab : ℕ) where
  -- in a table pieces behind the last span would come between both
  pieces-joined : (s t : Spans) → pieces options bytes known tab mode.Flow [] (joined s t) ≡ pieces options bytes known tab mode.Flow [] s ++ pieces options bytes known tab mode.Flow [] t
  pieces-joined Nothing t = refl
  pieces-joined (Span e f inside behind) t =
      let s = shape options bytes known tab mode.Flow [] e f inside in
      let inner = pieces options bytes known tab s.inside (columns_in (block_of e.name) [] (events_of inside)) inside in
      let rest = pieces options bytes known tab mode.Flow [] behind in
      let last = pieces options bytes known tab mode.Flow [] t in
      ap (λ x. s.opened ++ (inner ++ (s.closed ++ x))) (pieces-joined behind t)
      ∙ sym (append_assoc s.opened (inner ++ (s.closed ++ rest)) last ∙ ap (λ x. s.opened ++ x) (append_assoc inner (s.closed ++ rest) last ∙ ap (λ x. inner ++ x) (append_assoc s.closed rest last)))

pub html-both : HtmlOfBoth
html-both options bytes known tab es fs be bf fresh =
    let p = pieces options bytes known tab mode.Flow [] in
    ap (λ s. html (p s)) (both es fs be) ∙ ap html (pieces-joined options bytes known tab (spans_of es) (spans_of fs))
    ∙ html-append (p (spans_of es)) (p (spans_of fs)) ∙ ap (λ f. html (p (spans_of es)) ++ html_from f (p (spans_of fs))) fresh
