use Rattle.mdinline_constructs.proofs.Prelude.{◌≡◌, ◌==◌, [], ◌∷◌, true, false, refl, sym, ◌∙◌, arith, rules, nat_tests, SpaceOrTab, Next, HtmlTextTagCloseBetween, HtmlTextTagOpenBetween, HtmlTextTagOpenAttributeNameAfter, HtmlTextTagOpenAttributeValueBefore, HtmlTextTagOpenAttributeValueQuoted, HtmlTextLineEndingAfterPrefix, is_white, row, enter, consume, when, html_following, html_line_begins, no_html, sees}
use Rattle.mdinline_constructs.proofs.HtmlTexts.Following.{begun-by}
use Rattle.mdinline_constructs.proofs.HtmlTexts.Picked.{does-by, seen, tested-by}
use Rattle.mdinline_constructs.proofs.html_text.html_line_ending_after.Goals as goal

pub returns-then-closes : goal.returns-then-closes
returns-then-closes g c =
    let t = c.args.t.now in
    let b = c.in-Some.field-0 in
    let is = sym c.current.ensures ∙ c.in-Some.is in
    let plain : (b == 10) ≡ false = grind (arith, nat_tests, c.in-Some.field-0-test) in
    let w : is_white b ≡ false = grind (arith, nat_tests, c.in-Some.field-0-test) in
    let e0 : (t.configuration.local.tokenize_state.marker_b == 195) ≡ true = sym c.follows-closes.ensures ∙ c.if-closes.true in
    does-by
    (seen t b is no_html (when (sees is_white) (row (enter SpaceOrTab ∷ consume ∷ []) (Next HtmlTextLineEndingAfterPrefix)) (html_line_begins [] html_following)) plain
    ∙ tested-by t b is is_white (row (enter SpaceOrTab ∷ consume ∷ []) (Next HtmlTextLineEndingAfterPrefix)) (html_line_begins [] html_following) false w
    ∙ begun-by t [] HtmlTextTagCloseBetween (HtmlTextTagOpenBetween ∷ HtmlTextTagOpenAttributeNameAfter ∷ HtmlTextTagOpenAttributeValueBefore ∷ HtmlTextTagOpenAttributeValueQuoted ∷ []) true e0)
    (search rules)

pub returns-then-opens : goal.returns-then-opens
returns-then-opens g c =
    let t = c.args.t.now in
    let b = c.in-Some.field-0 in
    let is = sym c.current.ensures ∙ c.in-Some.is in
    let plain : (b == 10) ≡ false = grind (arith, nat_tests, c.in-Some.field-0-test) in
    let w : is_white b ≡ false = grind (arith, nat_tests, c.in-Some.field-0-test) in
    let e0 : (t.configuration.local.tokenize_state.marker_b == 195) ≡ false = sym c.follows-closes.ensures ∙ c.if-closes.false in
    let e1 : (t.configuration.local.tokenize_state.marker_b == 197) ≡ true = sym c.follows-opens.ensures ∙ c.if-opens.true in
    does-by
    (seen t b is no_html (when (sees is_white) (row (enter SpaceOrTab ∷ consume ∷ []) (Next HtmlTextLineEndingAfterPrefix)) (html_line_begins [] html_following)) plain
    ∙ tested-by t b is is_white (row (enter SpaceOrTab ∷ consume ∷ []) (Next HtmlTextLineEndingAfterPrefix)) (html_line_begins [] html_following) false w
    ∙ begun-by t [] HtmlTextTagCloseBetween (HtmlTextTagOpenBetween ∷ HtmlTextTagOpenAttributeNameAfter ∷ HtmlTextTagOpenAttributeValueBefore ∷ HtmlTextTagOpenAttributeValueQuoted ∷ []) false e0
    ∙ begun-by t [] HtmlTextTagOpenBetween (HtmlTextTagOpenAttributeNameAfter ∷ HtmlTextTagOpenAttributeValueBefore ∷ HtmlTextTagOpenAttributeValueQuoted ∷ []) true e1)
    (search rules)

pub returns-then-named : goal.returns-then-named
returns-then-named g c =
    let t = c.args.t.now in
    let b = c.in-Some.field-0 in
    let is = sym c.current.ensures ∙ c.in-Some.is in
    let plain : (b == 10) ≡ false = grind (arith, nat_tests, c.in-Some.field-0-test) in
    let w : is_white b ≡ false = grind (arith, nat_tests, c.in-Some.field-0-test) in
    let e0 : (t.configuration.local.tokenize_state.marker_b == 195) ≡ false = sym c.follows-closes.ensures ∙ c.if-closes.false in
    let e1 : (t.configuration.local.tokenize_state.marker_b == 197) ≡ false = sym c.follows-opens.ensures ∙ c.if-opens.false in
    let e2 : (t.configuration.local.tokenize_state.marker_b == 199) ≡ true = sym c.follows-named.ensures ∙ c.if-named.true in
    does-by
    (seen t b is no_html (when (sees is_white) (row (enter SpaceOrTab ∷ consume ∷ []) (Next HtmlTextLineEndingAfterPrefix)) (html_line_begins [] html_following)) plain
    ∙ tested-by t b is is_white (row (enter SpaceOrTab ∷ consume ∷ []) (Next HtmlTextLineEndingAfterPrefix)) (html_line_begins [] html_following) false w
    ∙ begun-by t [] HtmlTextTagCloseBetween (HtmlTextTagOpenBetween ∷ HtmlTextTagOpenAttributeNameAfter ∷ HtmlTextTagOpenAttributeValueBefore ∷ HtmlTextTagOpenAttributeValueQuoted ∷ []) false e0
    ∙ begun-by t [] HtmlTextTagOpenBetween (HtmlTextTagOpenAttributeNameAfter ∷ HtmlTextTagOpenAttributeValueBefore ∷ HtmlTextTagOpenAttributeValueQuoted ∷ []) false e1
    ∙ begun-by t [] HtmlTextTagOpenAttributeNameAfter (HtmlTextTagOpenAttributeValueBefore ∷ HtmlTextTagOpenAttributeValueQuoted ∷ []) true e2)
    (search rules)

pub returns-then-valued : goal.returns-then-valued
returns-then-valued g c =
    let t = c.args.t.now in
    let b = c.in-Some.field-0 in
    let is = sym c.current.ensures ∙ c.in-Some.is in
    let plain : (b == 10) ≡ false = grind (arith, nat_tests, c.in-Some.field-0-test) in
    let w : is_white b ≡ false = grind (arith, nat_tests, c.in-Some.field-0-test) in
    let e0 : (t.configuration.local.tokenize_state.marker_b == 195) ≡ false = sym c.follows-closes.ensures ∙ c.if-closes.false in
    let e1 : (t.configuration.local.tokenize_state.marker_b == 197) ≡ false = sym c.follows-opens.ensures ∙ c.if-opens.false in
    let e2 : (t.configuration.local.tokenize_state.marker_b == 199) ≡ false = sym c.follows-named.ensures ∙ c.if-named.false in
    let e3 : (t.configuration.local.tokenize_state.marker_b == 200) ≡ true = sym c.follows-valued.ensures ∙ c.if-valued.true in
    does-by
    (seen t b is no_html (when (sees is_white) (row (enter SpaceOrTab ∷ consume ∷ []) (Next HtmlTextLineEndingAfterPrefix)) (html_line_begins [] html_following)) plain
    ∙ tested-by t b is is_white (row (enter SpaceOrTab ∷ consume ∷ []) (Next HtmlTextLineEndingAfterPrefix)) (html_line_begins [] html_following) false w
    ∙ begun-by t [] HtmlTextTagCloseBetween (HtmlTextTagOpenBetween ∷ HtmlTextTagOpenAttributeNameAfter ∷ HtmlTextTagOpenAttributeValueBefore ∷ HtmlTextTagOpenAttributeValueQuoted ∷ []) false e0
    ∙ begun-by t [] HtmlTextTagOpenBetween (HtmlTextTagOpenAttributeNameAfter ∷ HtmlTextTagOpenAttributeValueBefore ∷ HtmlTextTagOpenAttributeValueQuoted ∷ []) false e1
    ∙ begun-by t [] HtmlTextTagOpenAttributeNameAfter (HtmlTextTagOpenAttributeValueBefore ∷ HtmlTextTagOpenAttributeValueQuoted ∷ []) false e2
    ∙ begun-by t [] HtmlTextTagOpenAttributeValueBefore (HtmlTextTagOpenAttributeValueQuoted ∷ []) true e3)
    (search rules)

pub returns-then-quoted : goal.returns-then-quoted
returns-then-quoted g c =
    let t = c.args.t.now in
    let b = c.in-Some.field-0 in
    let is = sym c.current.ensures ∙ c.in-Some.is in
    let plain : (b == 10) ≡ false = grind (arith, nat_tests, c.in-Some.field-0-test) in
    let w : is_white b ≡ false = grind (arith, nat_tests, c.in-Some.field-0-test) in
    let e0 : (t.configuration.local.tokenize_state.marker_b == 195) ≡ false = sym c.follows-closes.ensures ∙ c.if-closes.false in
    let e1 : (t.configuration.local.tokenize_state.marker_b == 197) ≡ false = sym c.follows-opens.ensures ∙ c.if-opens.false in
    let e2 : (t.configuration.local.tokenize_state.marker_b == 199) ≡ false = sym c.follows-named.ensures ∙ c.if-named.false in
    let e3 : (t.configuration.local.tokenize_state.marker_b == 200) ≡ false = sym c.follows-valued.ensures ∙ c.if-valued.false in
    let e4 : (t.configuration.local.tokenize_state.marker_b == 201) ≡ true = sym c.follows-quoted.ensures ∙ c.if-quoted.true in
    does-by
    (seen t b is no_html (when (sees is_white) (row (enter SpaceOrTab ∷ consume ∷ []) (Next HtmlTextLineEndingAfterPrefix)) (html_line_begins [] html_following)) plain
    ∙ tested-by t b is is_white (row (enter SpaceOrTab ∷ consume ∷ []) (Next HtmlTextLineEndingAfterPrefix)) (html_line_begins [] html_following) false w
    ∙ begun-by t [] HtmlTextTagCloseBetween (HtmlTextTagOpenBetween ∷ HtmlTextTagOpenAttributeNameAfter ∷ HtmlTextTagOpenAttributeValueBefore ∷ HtmlTextTagOpenAttributeValueQuoted ∷ []) false e0
    ∙ begun-by t [] HtmlTextTagOpenBetween (HtmlTextTagOpenAttributeNameAfter ∷ HtmlTextTagOpenAttributeValueBefore ∷ HtmlTextTagOpenAttributeValueQuoted ∷ []) false e1
    ∙ begun-by t [] HtmlTextTagOpenAttributeNameAfter (HtmlTextTagOpenAttributeValueBefore ∷ HtmlTextTagOpenAttributeValueQuoted ∷ []) false e2
    ∙ begun-by t [] HtmlTextTagOpenAttributeValueBefore (HtmlTextTagOpenAttributeValueQuoted ∷ []) false e3
    ∙ begun-by t [] HtmlTextTagOpenAttributeValueQuoted [] true e4)
    (search rules)

pub returns-else-quoted : goal.returns-else-quoted
returns-else-quoted g c =
    let t = c.args.t.now in
    let b = c.in-Some.field-0 in
    let is = sym c.current.ensures ∙ c.in-Some.is in
    let plain : (b == 10) ≡ false = grind (arith, nat_tests, c.in-Some.field-0-test) in
    let w : is_white b ≡ false = grind (arith, nat_tests, c.in-Some.field-0-test) in
    let e0 : (t.configuration.local.tokenize_state.marker_b == 195) ≡ false = sym c.follows-closes.ensures ∙ c.if-closes.false in
    let e1 : (t.configuration.local.tokenize_state.marker_b == 197) ≡ false = sym c.follows-opens.ensures ∙ c.if-opens.false in
    let e2 : (t.configuration.local.tokenize_state.marker_b == 199) ≡ false = sym c.follows-named.ensures ∙ c.if-named.false in
    let e3 : (t.configuration.local.tokenize_state.marker_b == 200) ≡ false = sym c.follows-valued.ensures ∙ c.if-valued.false in
    let e4 : (t.configuration.local.tokenize_state.marker_b == 201) ≡ false = sym c.follows-quoted.ensures ∙ c.if-quoted.false in
    does-by
    (seen t b is no_html (when (sees is_white) (row (enter SpaceOrTab ∷ consume ∷ []) (Next HtmlTextLineEndingAfterPrefix)) (html_line_begins [] html_following)) plain
    ∙ tested-by t b is is_white (row (enter SpaceOrTab ∷ consume ∷ []) (Next HtmlTextLineEndingAfterPrefix)) (html_line_begins [] html_following) false w
    ∙ begun-by t [] HtmlTextTagCloseBetween (HtmlTextTagOpenBetween ∷ HtmlTextTagOpenAttributeNameAfter ∷ HtmlTextTagOpenAttributeValueBefore ∷ HtmlTextTagOpenAttributeValueQuoted ∷ []) false e0
    ∙ begun-by t [] HtmlTextTagOpenBetween (HtmlTextTagOpenAttributeNameAfter ∷ HtmlTextTagOpenAttributeValueBefore ∷ HtmlTextTagOpenAttributeValueQuoted ∷ []) false e1
    ∙ begun-by t [] HtmlTextTagOpenAttributeNameAfter (HtmlTextTagOpenAttributeValueBefore ∷ HtmlTextTagOpenAttributeValueQuoted ∷ []) false e2
    ∙ begun-by t [] HtmlTextTagOpenAttributeValueBefore (HtmlTextTagOpenAttributeValueQuoted ∷ []) false e3
    ∙ begun-by t [] HtmlTextTagOpenAttributeValueQuoted [] false e4)
    (record { answered = refl; became = refl })
