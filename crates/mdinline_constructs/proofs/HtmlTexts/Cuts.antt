-- The events of raw HTML: they can be cut into atoms, as none goes over a line ending; and what spans keep holds of them.
use Rattle.mdinline_constructs.proofs.Prelude.{ℕ, ◌+◌, ◌==◌, List, ◌∷◌, true, false, cond, Option, Some, None, length, take, drop, refl, sym, subst, arith, flat_map, prefix_len, drop-take, take-append-drop, Event, HtmlText, HtmlTextData, LineEnding, SpaceOrTab, Seat, is_white, Found, bytes_of, cut, OfOption, IsCut, cut-append, cut-leaf, cut-span, NoEnding, plain-line, run-plain, one-taken, cuts, ItemCut, IsKeptBySpans, IsBuilt, flat-built, Piece, line_break, data_run, piece_at, piece_length, piece_events, html, html_of, has_blank_line}
use Rattle.mdinline_constructs.proofs.HtmlTexts.Pieces.{is_no_line_feed, piece-positive}

-- what holds of raw HTML of any size holds of what is there
pub html-there : (P : Found → Type 0) (text : List ℕ) (o : Option ℕ) → ((n : ℕ) → P (html n)) → OfOption P (html_of text o)
html-there P text None h = tt
html-there P text (Some n) h = elim (has_blank_line (take n text)) as (λ t. OfOption P (cond t None (Some (html n)))) [ true ↦ tt | false ↦ h n ]

module _ (bytes : List ℕ) where
  -- a piece
  piece-cut : (s : Seat) (ss : List Seat) → let a = piece_at (bytes_of (s ∷ ss)) in IsCut bytes (piece_events bytes (a, take (piece_length a) (s ∷ ss))) (take (piece_length a) (s ∷ ss))
  piece-cut s ss =
      let text = bytes_of (s ∷ ss) in
      elim (s.byte == 10) as (λ t. let a = cond t (line_break (prefix_len is_white (bytes_of ss))) (data_run (prefix_len is_no_line_feed text)) in
      IsCut bytes (piece_events bytes (a, take (piece_length a) (s ∷ ss))) (take (piece_length a) (s ∷ ss))) [
        | true ↦
            let n = prefix_len is_white (bytes_of ss) in
            let l = take (1 + n) (s ∷ ss) in
            let white : NoEnding (drop 1 l) = subst NoEnding (sym (drop-take 1 n (s ∷ ss))) (run-plain is_white refl ss) in
            subst (IsCut bytes (piece_events bytes (line_break n, l))) (take-append-drop 1 l)
            (cut-append bytes (cut-leaf bytes LineEnding (take 1 l) (one-taken l)) (cut-leaf bytes SpaceOrTab (drop 1 l) (plain-line (drop 1 l) white)))
        | false ↦
            let l = take (prefix_len is_no_line_feed text) (s ∷ ss) in
            cut-leaf bytes HtmlTextData l (plain-line l (run-plain is_no_line_feed refl (s ∷ ss)))
      ]

  -- raw HTML of any size
  pub html-cut : (seats : List Seat) (o : Option ℕ) → OfOption (ItemCut bytes seats) (html_of (bytes_of seats) o)
  html-cut seats o =
      html-there (ItemCut bytes seats) (bytes_of seats) o (λ n.
      let l = take n seats in
      cut-span bytes HtmlText l (flat_map (piece_events bytes) (cut piece_at piece_length (length l) l))
      (cuts bytes piece_at piece_length (piece_events bytes) piece-positive piece-cut (length l) l (omega arith)))

-- what spans keep
module _ (bytes : List ℕ) (P : List Event → Type 0) (kept : IsKeptBySpans bytes P) where
  piece-built : (p : Piece × List Seat) → P (piece_events bytes p)
  piece-built (line_break n, seats) = kept.both _ _ (kept.alone LineEnding (take 1 seats)) (kept.alone SpaceOrTab (drop 1 seats))
  piece-built (data_run n, seats) = kept.alone HtmlTextData seats

  pub html-built : (text : List ℕ) (o : Option ℕ) → OfOption (IsBuilt bytes P kept) (html_of text o)
  html-built text o =
      html-there (IsBuilt bytes P kept) text o (λ n seats.
      kept.around HtmlText seats _ refl (flat-built bytes P kept (piece_events bytes) (cut piece_at piece_length (length seats) seats) piece-built))
