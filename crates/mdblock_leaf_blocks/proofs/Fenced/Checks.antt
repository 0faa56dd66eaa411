-- At the end of a line of fenced code the next line is looked at: it is the closing fence, or a line of code.
use Rattle.mdblock_leaf_blocks.proofs.Prelude.{Bool, List, [], cond, length, refl, subst, true, ◌++◌, ◌-◌, ◌<◌, ◌==◌, ◌^◌, ◌∷◌, ◌≡◌, ◌≤◌, Seat, Point, Name, Retry, RawFlowAfter, RawFlowAtNonLazyBreak, RawFlowCloseStart, RawFlowContentBefore, with_local, Configuration, byte_of, seat_before, Given, Text, raw_flow_at_non_lazy_break, line_feed, unchanged, bytes_of, Mark, Fence, closes, IsInLine, LineEnds}
use Rattle.mdblock_leaf_blocks.proofs.Lines.{IsAt, looks, read-checked}
use Rattle.mdblock_leaf_blocks.proofs.Fenced.Looks.{Saw, close-seen, closes-is}
use Rattle.mdblock_leaf_blocks.proofs.Fenced.Steps.{IsMark, IsOfFence, IsRead, KeepsFence, feed-class, fence_kept, of-fence-kept}

-- the state that comes next
abbrev pub behind_look : Bool → Name
behind_look v = cond v RawFlowAfter RawFlowContentBefore

-- what is read from there is read from here
pub next-read : (g : Given) (t : Text) (f : Fence) (of : IsMark f.byte) (size : 1 ≤ f.size) (k : Configuration Unit Unit) (p : Point) (s : Seat) (l rest : List Seat) → (s.byte == 10) ≡ true → IsOfFence f k.local
    → IsAt t k p (s ∷ (l ++ rest)) → IsInLine l → LineEnds rest → length l < 2 ^ 64 - 1 → (line more : List Seat) (marks : List Mark) (to : Name)
    → ((k' : Configuration Unit Unit) → IsAt t k' p (s ∷ (l ++ rest)) → IsOfFence f k'.local → IsRead g t k' (behind_look (closes g.options.constructs f (bytes_of l))) line more marks to)
    → IsRead g t k RawFlowAtNonLazyBreak line more marks to
next-read g t f of size k p s l rest feed fenced at all ends room line more marks to further =
    let look = looks g t k s (l ++ rest) at.left at.waits RawFlowAtNonLazyBreak RawFlowCloseStart RawFlowAfter RawFlowContentBefore raw_flow_at_non_lazy_break refl line_feed (feed-class s.byte feed) [] (λ previous. refl) in
    let seen = subst (λ v. Saw v k.local look) (closes-is g f (bytes_of l) size of)
    (close-seen g t k.stack k.events f s l rest of feed all ends (byte_of (seat_before t k.position)) k.position k.ended (unchanged k.local) at.left fenced room) in
    let read = further (with_local k look.local) (record { behind = at.behind; left = at.left; waits = at.waits }) (of-fence-kept f k.local look.local seen.1 fenced) in
    read-checked g t k s (l ++ rest) at.left at.waits RawFlowAtNonLazyBreak RawFlowCloseStart RawFlowAfter RawFlowContentBefore raw_flow_at_non_lazy_break refl line_feed (feed-class s.byte feed) [] (λ previous. refl)
    (closes g.options.constructs f (bytes_of l)) seen.0 KeepsFence (λ after kept. fence_kept.on k.local look.local after seen.1 kept) line more marks (Retry to) read
