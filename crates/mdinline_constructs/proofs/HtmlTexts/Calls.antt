-- What the code of states in data of raw HTML may do: read a line ending, and end.
use Rattle.mdinline_constructs.proofs.Prelude.{byte-waits, ◌≡◌, ℕ, [], ◌∷◌, Option, Some, refl, ap, HtmlText, HtmlTextData, Name, exited, TokenizerValue, at_configuration, sight_of, Byte, can-exit, can-mark, IsCallable, allows_all, start_shape, Rows, class_of, consume, exit, TextByte, line_feed, text_byte, CanEndHtml, CanEndHtmlLine, html_state}

module _ {M R D : Type 0} (name : Name) (rows : (previous current : Option TextByte) → Rows R D) (t : TokenizerValue M R D) (can : IsCallable text_byte (html_state name rows) t) where
  pub waits-at : (b : ℕ) → (sight_of t).current ≡ Some b → t.configuration.waiting ≡ Byte
  waits-at b is = byte-waits t.text t.configuration.position t.configuration.waiting b is

  -- at a line feed data may end, and the line ending may be read
  pub line-can-end : (sight_of t).current ≡ Some 10 → CanEndHtmlLine t
  line-can-end is = record {
    waits = waits-at 10 is;
    ends = can-exit text_byte (html_state name rows) _ (Some line_feed) t can.called refl (ap (class_of text_byte) is) [] HtmlTextData t refl refl;
    marks = can-mark text_byte (html_state name rows) _ (Some line_feed) t can.called refl (ap (class_of text_byte) is) (exit HtmlTextData ∷ [])
        (at_configuration t (exited HtmlTextData (sight_of t).exit_place t.configuration)) refl refl (waits-at 10 is);
  }

  -- at `>` raw HTML may end
  pub html-can-end : (sight_of t).current ≡ Some 62 → CanEndHtml t
  html-can-end is = record {
    waits = waits-at 62 is;
    stands = can.stands (waits-at 62 is);
    ends = can.ends_read
        (ap (λ o. allows_all {R = R} {D = D} (consume ∷ exit HtmlTextData ∷ exit HtmlText ∷ []) (start_shape (class_of text_byte (sight_of t).previous) (class_of text_byte o) (html_state name rows))) is);
  }
