-- The next bytes are ones that a state reads over, or notes and reads over: what that does to the fields of a tokenizer, one or two at a time and at once.
use Rattle.markdown_tokenizer.proofs.Prelude.{◌≡◌, ◌+◌, ◌-◌, ◌^◌, ◌≤◌, ◌<◌, ℕ, zero, suc, List, Option, None, Some, IfSome, refl, sym, ap, ◌∙◌, subst, arith, cond, length, nat_lt, slice_index, Bool, true, false, Name, Point, Given, Text, Configuration, Inside, TokenizerValue, Rules, Byte, End, Nothing, Plain, Other, moved, moved_over, shown, at_configuration, consumed, sight, fed, seen, IsSound, IsQuick, ReadsOver, IsByteOver, IsPairOver, IsPair, HasReadOver, none_over, one_over, two_over, AreOverUpto, no_byte, one_byte, two_bytes, over_one, noted_one, noted_upto}
use Rattle.markdown_tokenizer.specs.declared.count.Calls.{Calls}
use Rattle.markdown_tokenizer.specs.declared.tokenizer.noted.Noted.{Noted}
use Rattle.markdown_tokenizer.specs.Calls.{noting, place_of}
use Rattle.markdown_tokenizer.proofs.Positions.Chains.{shown-other}
use Rattle.markdown_tokenizer.proofs.Positions.Quick.{quick-plain}
use Rattle.markdown_tokenizer.proofs.Inside.Steps.{after_previous-is, byte-waits, consumed-seen, consumed-sound, current-is, end-inside, here-is, quick-more, quick-seen, quick-sound, told-moved}
use Rattle.markdown_tokenizer.proofs.Inside.Fields.{wide_of, bytes_within, tab_within, ByteWithin}
use Rattle.markdown_tokenizer.proofs.Inside.Known.{plain-on, run-fits}

module _ {M R D : Type 0} {same : R → R → Bool} (t : Inside M R D) (sound : IsSound same t) (byte : ℕ)
    (q : IsQuick t.tab_size t.bytes.now t.after_previous t.plain_until t.end.0 byte Plain) where
  current-fed : (sight (seen t).given (seen t).text (fed (seen t).text (seen t).configuration)).current ≡ Some byte
  current-fed =
      sym (current-is (record t { waits = Byte; byte = byte; moves = Plain }) (quick-sound t sound byte Plain q) Byte refl
      ∙ ap (λ u. (sight u.given u.text u.configuration).current) (quick-seen t sound byte Plain q))

  -- the fields after the byte is fed, and after it is consumed too
  abbrev fed-fields : Inside M R D
  fed-fields = record t { waits = Byte; byte = byte; moves = Plain }

  abbrev over-fields : Inside M R D
  over-fields = record fed-fields { after_previous = moved Plain t.after_previous; previous = Some byte; ended = false; waits = Nothing; moves = Other }

  fed-sound : IsSound same fed-fields
  fed-sound = quick-sound t sound byte Plain q

  byte-there : ByteWithin fed-fields
  byte-there = byte-waits fed-fields fed-sound refl

  moves-there : moved Plain t.after_previous ≡ byte-there.seat.end
  moves-there = told-moved fed-fields fed-sound byte-there refl (λ k. let f : Plain ≡ Other = k in cc)

  -- they are sound again, with as much known of the next byte
  over-sound : IsSound same over-fields
  over-sound = consumed-sound fed-fields fed-sound byte-there (moved Plain t.after_previous) moves-there t.plain_until
      (plain-on t.skips t.after_previous t.end.0 t.plain_until sound.known.is_plain_until.before sound.placed.read.place.bounds.first)

  -- what is seen is what reading over one byte makes of it
  over-seen : seen over-fields ≡ at_configuration (seen t) (consumed (fed (seen t).text (seen t).configuration))
  over-seen =
      consumed-seen fed-fields fed-sound byte-there (moved Plain t.after_previous) moves-there
      ∙ ap (λ (u : TokenizerValue M R D). at_configuration u (consumed u.configuration)) (quick-seen t sound byte Plain q)

-- the count and the place that is noted alone are others
counted-sound : {M R D : Type 0} {same : R → R → Bool} (t : Inside M R D) (calls : Calls) (noted : Noted) → IsSound same t → IsSound same (record t { calls = calls; noted = noted })
counted-sound t calls noted sound = record { placed = sound.placed; known = sound.known; made = sound.made; at_places = sound.at_places; kept_choices = sound.kept_choices; once = sound.once }

abbrev calls_of : ℕ → Calls
calls_of n = record { made = n }

-- a place is noted before a byte is fed, or after
fed-noting : {R D : Type 0} (text : Text) (k : Configuration R D) (n : Noted) → fed text (noting n k) ≡ noting n (fed text k)
fed-noting text k n = elim (nat_lt k.position (length text.seats))
    as (λ (b : Bool). cond b (record (noting n k) { waiting = Byte }) (record (noting n k) { waiting = End; ended = true }) ≡ noting n (cond b (record k { waiting = Byte }) (record k { waiting = End; ended = true }))) [ true ↦ refl | false ↦ refl ]

module _ {M R D : Type 0} where
  -- the fields with this place behind this byte, so many calls, and this noted
  abbrev pub after_byte : Inside M R D → Point → ℕ → Calls → Noted → Inside M R D
  after_byte t place byte calls noted = record t { after_previous = place; previous = Some byte; byte = byte; ended = false; waits = Nothing; moves = Other; calls = calls; noted = noted }

  -- the byte at the place
  abbrev byte_here : Inside M R D → ℕ
  byte_here t = slice_index t.bytes.now t.after_previous.index

  -- it is read over
  abbrev over_here : Inside M R D → Inside M R D
  over_here t = after_byte t (moved Plain t.after_previous) (byte_here t) (calls_of (t.calls.made + 1)) t.noted

  -- its place is noted
  abbrev noting_here : Inside M R D → Inside M R D
  noting_here t = record t { noted = record { exit = t.after_previous; enter = t.after_previous } }

-- no gap and no end of the text is before the byte at the place, and it is above CR
module _ {M R D : Type 0} {same : R → R → Bool} (t : Inside M R D) (sound : IsSound same t) (before : t.after_previous.index < t.plain_until) (above : 13 < byte_here t) where
  quick-here : IsQuick t.tab_size t.bytes.now t.after_previous t.plain_until t.end.0 (byte_here t) Plain
  quick-here =
      let tab = sound.placed.tab in let own = sound.known.own_bytes in
      let place = sound.placed.read.place in
      quick-plain t.tab_size t.bytes.now (rw tab (wide_of t sound)) t.after_previous (rw (tab, own) place) t.plain_until t.end.0
      (sound.known.is_plain_until.flat before) before sound.known.is_plain_until.before (rw own (end-inside t sound)) above

  here-sound : IsSound same (over_here t)
  here-sound = counted-sound (over-fields t sound (byte_here t) quick-here) (calls_of (t.calls.made + 1)) t.noted (over-sound t sound (byte_here t) quick-here)

  here-more : (seen t).configuration.position < length (seen t).text.seats
  here-more = quick-more t sound (byte_here t) Plain quick-here

  here-current : (sight (seen t).given (seen t).text (fed (seen t).text (seen t).configuration)).current ≡ Some (byte_here t)
  here-current = current-fed t sound (byte_here t) quick-here

  here-seen : seen (over_here t) ≡ over_one (seen t)
  here-seen = ap (λ (u : TokenizerValue M R D). record u { calls = t.calls.made + 1 }) (over-seen t sound (byte_here t) quick-here)

  -- where a span would end before the byte, and begin with it
  here-place : place_of (sight (seen t).given (seen t).text (fed (seen t).text (seen t).configuration)) ≡ record { exit = t.after_previous; enter = t.after_previous }
  here-place =
      let u = fed-fields t sound (byte_here t) quick-here in
      let u_sound = fed-sound t sound (byte_here t) quick-here in
      let s = sight (seen u).given (seen u).text (seen u).configuration in
      let own = sound.known.own_bytes in
      let itself : shown (bytes_within t) t.after_previous ≡ t.after_previous = shown-other (bytes_within t) t.after_previous (λ e. let f : byte_here t ≡ 10 = ap (λ (b : List ℕ). slice_index b t.after_previous.index) own ∙ e in omega (arith, f, above)) in
      let exit : s.exit_place ≡ t.after_previous = sym (after_previous-is u u_sound) ∙ itself in
      let enter : s.enter_place ≡ t.after_previous = sym (here-is u u_sound) ∙ ap (shown (bytes_within t)) (sound.known.is_plain_until.there before) ∙ itself in
      let both : place_of s ≡ record { exit = t.after_previous; enter = t.after_previous } = λ i. record { exit = exit i; enter = enter i } in
      ap (λ (v : TokenizerValue M R D). place_of (sight v.given v.text v.configuration)) (sym (quick-seen t sound (byte_here t) Plain quick-here)) ∙ both

  noting-sound : IsSound same (noting_here t)
  noting-sound = counted-sound t t.calls (record { exit = t.after_previous; enter = t.after_previous }) sound

-- the byte at the place is noted too
module _ {M R D : Type 0} {same : R → R → Bool} (t : Inside M R D) (sound : IsSound same t) (before : t.after_previous.index < t.plain_until) (above : 13 < byte_here t) where
  abbrev noted_here : Inside M R D
  noted_here = over_here (noting_here t)

  noted-sound : IsSound same noted_here
  noted-sound = here-sound (noting_here t) (noting-sound t sound before above) before above

  noted-seen : seen noted_here ≡ noted_one (seen t)
  noted-seen =
      let k = (seen t).configuration in
      let n : Noted = record { exit = t.after_previous; enter = t.after_previous } in
      here-seen (noting_here t) (noting-sound t sound before above) before above
      ∙ ap (λ (q : Configuration R D). record (seen t) { configuration = consumed q; calls = t.calls.made + 1 }) (fed-noting (seen t).text k n)
      ∙ ap (λ (p : Noted). record (seen t) { configuration = consumed (noting p (fed (seen t).text k)); calls = t.calls.made + 1 }) (sym (here-place t sound before above))

  -- so are it and the one behind it
  module _ (before_next : noted_here.after_previous.index < t.plain_until) (above_next : 13 < byte_here noted_here) where
    two-sound : IsSound same (over_here noted_here)
    two-sound = here-sound noted_here noted-sound before_next above_next

    two-seen : seen (over_here noted_here) ≡ over_one (noted_one (seen t))
    two-seen = here-seen noted_here noted-sound before_next above_next ∙ ap over_one noted-seen

    two-pair : (rules : Given → Rules R D) (name : Name) → IsPairOver rules name (byte_here t) (byte_here noted_here) → IsPair rules name (seen t)
    two-pair rules name pair =
        let is = pair.2 (seen t).given in record {
          other = is.0;
          byte = byte_here t;
          next = byte_here noted_here;
          more = here-more t sound before above;
          is = here-current t sound before above;
          notes = is.1;
          more_behind = subst (λ (u : TokenizerValue M R D). u.configuration.position < length u.text.seats) noted-seen (here-more noted_here noted-sound before_next above_next);
          is_behind = subst (λ (u : TokenizerValue M R D). (sight u.given u.text (fed u.text u.configuration)).current ≡ Some (byte_here noted_here)) noted-seen (here-current noted_here noted-sound before_next above_next);
          goes_back = is.2;
        }

-- The bytes from a place on, up to an index, were read over: the fields are those at the place but for the place and what goes with it
module _ {M R D : Type 0} (same : R → R → Bool) (rules : Given → Rules R D) (name : Name) (t : Inside M R D) (flat : t.after_previous.vs ≡ 0) where
  abbrev from : ℕ
  from = t.after_previous.index

  record Reached (to : ℕ) (last : Option ℕ) : Type 0 where
    pub fields : Inside M R D
    pub sound : IsSound same fields
    pub over : HasReadOver rules name (seen t) (seen fields)
    pub later : from ≤ to
    pub place : fields.after_previous ≡ moved_over (to - from) t.after_previous
    pub made : fields.calls.made ≡ t.calls.made + (to - from)
    pub noted : fields.noted ≡ noted_upto last t.after_previous t.noted
    pub others : (place : Point) (byte : ℕ) (calls : Calls) (noted : Noted) → after_byte fields place byte calls noted ≡ after_byte t place byte calls noted
    pub there : from < to → fields ≡ after_byte t fields.after_previous (slice_index t.bytes.now (to - 1)) fields.calls fields.noted

  reached-none : IsSound same t → Reached from None
  reached-none sound = record {
    fields = t;
    sound = sound;
    over = none_over;
    later = omega arith;
    place =
        let p = t.after_previous in
        let column : p.column ≡ p.column + (p.index - p.index) = omega arith in
        let index : p.index ≡ p.index + (p.index - p.index) = omega arith in
        λ i. record { line = p.line; column = column i; index = index i; vs = flat i };
    made = let p = t.after_previous in omega arith;
    noted = refl;
    others = λ place byte calls noted. refl;
    there = λ less. absurd (omega (arith, less));
  }

  module _ {to : ℕ} {last : Option ℕ} (r : Reached to last) where
    index-there : r.fields.after_previous.index ≡ to
    index-there = let e = ap (λ (p : Point). p.index) r.place in let later = r.later in omega (arith, e, later)

    same-bytes : r.fields.bytes.now ≡ t.bytes.now
    same-bytes = ap (λ (u : Inside M R D). u.bytes.now) (r.others r.fields.after_previous 0 r.fields.calls r.fields.noted)

    same-plain : r.fields.plain_until ≡ t.plain_until
    same-plain = ap (λ (u : Inside M R D). u.plain_until) (r.others r.fields.after_previous 0 r.fields.calls r.fields.noted)

    byte-behind : (n : ℕ) → slice_index r.fields.bytes.now (r.fields.after_previous.index + n) ≡ slice_index t.bytes.now (to + n)
    byte-behind n = λ i. slice_index (same-bytes i) (index-there i + n)

    byte-first : byte_here r.fields ≡ slice_index t.bytes.now to
    byte-first = λ i. slice_index (same-bytes i) (index-there i)

    module _ (before : to < t.plain_until) where
      before-first : r.fields.after_previous.index < r.fields.plain_until
      before-first = let e = index-there in let p = same-plain in omega (arith, e, p, before)

      reached-one : IsByteOver rules name (slice_index t.bytes.now to) → Reached (to + 1) last
      reached-one byte =
          let u = r.fields in
          let later = r.later in
          let above : 13 < byte_here u = subst (λ (b : ℕ). 13 < b) (sym byte-first) byte.0 in
          let reads : ReadsOver (seen u).given (rules (seen u).given) name (byte_here u) = subst (λ (b : ℕ). ReadsOver (seen u).given (rules (seen u).given) name b) (sym byte-first) (byte.1 (seen u).given) in
          record {
            fields = over_here u;
            sound = here-sound u r.sound before-first above;
            over = subst (λ (v : TokenizerValue M R D). HasReadOver rules name (seen t) v) (sym (here-seen u r.sound before-first above))
                (one_over r.over (here-more u r.sound before-first above, (byte_here u, here-current u r.sound before-first above, reads)));
            later = omega (arith, later);
            place =
                let p = t.after_previous in
                let column : (p.column + (to - from)) + 1 ≡ p.column + ((to + 1) - from) = omega (arith, later) in
                let index : (p.index + (to - from)) + 1 ≡ p.index + ((to + 1) - from) = omega (arith, later) in
                ap (moved Plain) r.place ∙ (λ i. record { line = p.line; column = column i; index = index i; vs = 0 });
            made = let made = r.made in omega (arith, made, later);
            noted = r.noted;
            others = λ place b calls noted. r.others place b calls noted;
            there = λ _.
                let back : (to + 1) - 1 ≡ to = omega arith in
                r.others (moved Plain u.after_previous) (byte_here u) (calls_of (u.calls.made + 1)) u.noted
                ∙ ap (λ (b : ℕ). after_byte t (moved Plain u.after_previous) b (calls_of (u.calls.made + 1)) u.noted) (byte-first ∙ ap (slice_index t.bytes.now) (sym back));
          }

      reached-two : to + 1 < t.plain_until → IsPairOver rules name (slice_index t.bytes.now to) (slice_index t.bytes.now (to + 1)) → Reached (to + 2) (Some to)
      reached-two more bytes =
          let u = r.fields in
          let later = r.later in
          let above : 13 < byte_here u = subst (λ (b : ℕ). 13 < b) (sym byte-first) bytes.0 in
          let above_next : 13 < slice_index u.bytes.now (u.after_previous.index + 1) = subst (λ (b : ℕ). 13 < b) (sym (byte-behind 1)) bytes.1 in
          let before_next : u.after_previous.index + 1 < u.plain_until = let e = index-there in let p = same-plain in omega (arith, e, p, more) in
          let pair : IsPairOver rules name (byte_here u) (slice_index u.bytes.now (u.after_previous.index + 1)) = subst (λ (b : ℕ). IsPairOver rules name b (slice_index u.bytes.now (u.after_previous.index + 1))) (sym byte-first)
          (subst (λ (b : ℕ). IsPairOver rules name (slice_index t.bytes.now to) b) (sym (byte-behind 1)) bytes) in
          let v = noted_here u r.sound before-first above in
          record {
            fields = over_here v;
            sound = two-sound u r.sound before-first above before_next above_next;
            over = subst (λ (w : TokenizerValue M R D). HasReadOver rules name (seen t) w) (sym (two-seen u r.sound before-first above before_next above_next))
                (two_over r.over (two-pair u r.sound before-first above before_next above_next rules name pair));
            later = omega (arith, later);
            place =
                let p = t.after_previous in
                let column : ((p.column + (to - from)) + 1) + 1 ≡ p.column + ((to + 2) - from) = omega (arith, later) in
                let index : ((p.index + (to - from)) + 1) + 1 ≡ p.index + ((to + 2) - from) = omega (arith, later) in
                ap (λ (q : Point). moved Plain (moved Plain q)) r.place ∙ (λ i. record { line = p.line; column = column i; index = index i; vs = 0 });
            made = let made = r.made in omega (arith, made, later);
            noted = λ i. record { exit = r.place i; enter = r.place i };
            others = λ place b calls noted. r.others place b calls noted;
            there = λ _.
                let back : (to + 2) - 1 ≡ to + 1 = omega arith in
                r.others (moved Plain v.after_previous) (byte_here v) (calls_of (v.calls.made + 1)) v.noted
                ∙ ap (λ (b : ℕ). after_byte t (moved Plain v.after_previous) b (calls_of (v.calls.made + 1)) v.noted) (byte-behind 1 ∙ ap (slice_index t.bytes.now) (sym back));
          }

  -- so they are up to each index up to which a state reads over the bytes
  reached : {to : ℕ} {last : Option ℕ} → IsSound same t → AreOverUpto rules name t.bytes.now from to last → to ≤ t.plain_until → Reached to last
  reached sound no_byte plain = reached-none sound
  reached sound (one_byte are byte) plain = reached-one (reached sound are (omega (arith, plain))) (omega (arith, plain)) byte
  reached sound (two_bytes are bytes) plain = reached-two (reached sound are (omega (arith, plain))) (omega (arith, plain)) (omega (arith, plain)) bytes

-- an index that is before one is before a later one
sooner : (from to more : ℕ) (last : Option ℕ) → to ≤ more → IfSome last (λ n. (from ≤ n) × (n < to)) → IfSome last (λ n. (from ≤ n) × (n < more))
sooner from to more None le h = tt
sooner from to more (Some n) le h = (h.0, omega (arith, h.1, le))

-- the last byte that is noted is among them
module _ {R D : Type 0} {rules : Given → Rules R D} {name : Name} {bytes : List ℕ} {from : ℕ} where
  upto-later : {to : ℕ} {last : Option ℕ} → AreOverUpto rules name bytes from to last → from ≤ to
  upto-later no_byte = omega arith
  upto-later (one_byte are byte) = let rest = upto-later are in omega (arith, rest)
  upto-later (two_bytes are pair) = let rest = upto-later are in omega (arith, rest)

  pub last-within : {to : ℕ} {last : Option ℕ} → AreOverUpto rules name bytes from to last → IfSome last (λ n. (from ≤ n) × (n < to))
  last-within no_byte = tt
  last-within (one_byte {to = to} {last = last} are byte) = sooner from to (to + 1) last (omega arith) (last-within are)
  last-within (two_bytes are pair) = let rest = upto-later are in (rest, omega arith)

  -- bytes that are read over one by one
  all-over : (n : ℕ) → ((k : ℕ) → from ≤ k → k < from + n → IsByteOver rules name (slice_index bytes k)) → AreOverUpto rules name bytes from (from + n) None
  all-over zero over = let e : from + 0 ≡ from = omega arith in rw e no_byte
  all-over (suc n) over =
      let e : from + suc n ≡ (from + n) + 1 = omega arith in
      rw e (one_byte (all-over n (λ k least most. over k least (omega (arith, most)))) (over (from + n) (omega arith) (omega arith)))

  pub all-upto : (to : ℕ) → from ≤ to → ((k : ℕ) → from ≤ k → k < to → IsByteOver rules name (slice_index bytes k)) → AreOverUpto rules name bytes from to None
  all-upto to later over =
      let e : from + (to - from) ≡ to = omega (arith, later) in
      subst (λ (n : ℕ). AreOverUpto rules name bytes from n None) e (all-over (to - from) (λ k least most. over k least (omega (arith, most, later))))

-- so they are if the code moves once over all bytes up to an index
module _ {M R D : Type 0} {same : R → R → Bool} (rules : Given → Rules R D) (name : Name) (t : Inside M R D) (sound : IsSound same t) (to : ℕ) (last : Option ℕ)
    (more : t.after_previous.index < to) (plain : to ≤ t.plain_until) (are : AreOverUpto rules name t.bytes.now t.after_previous.index to last) where
  abbrev pub passed : ℕ
  passed = to - t.after_previous.index

  pub passed-flat : t.after_previous.vs ≡ 0
  passed-flat = sound.known.is_plain_until.flat (omega (arith, more, plain))

  pub passed-fits : t.after_previous.column + passed < 2 ^ 64
  passed-fits =
      let known = sound.known.is_plain_until in
      let inside = end-inside t sound in let before = known.before in
      run-fits (tab_within t) (bytes_within t) t.after_previous passed (wide_of t sound) t.parse_state.now.limit sound.placed.read.place
      (known.flat (omega (arith, more, plain))) (omega (arith, more, plain, inside, before))

  pub noted-from : IfSome last (λ n. t.after_previous.index ≤ n)
  noted-from = elim last as (λ (o : Option ℕ). IfSome o (λ n. (t.after_previous.index ≤ n) × (n < to)) → IfSome o (λ n. t.after_previous.index ≤ n)) [ None ↦ λ h. tt | Some n ↦ λ h. h.0 ] (last-within are)

  pub noted-fits : IfSome last (λ n. t.after_previous.column + (n - t.after_previous.index) < 2 ^ 64)
  noted-fits =
      let fits = passed-fits in
      elim last as (λ (o : Option ℕ). IfSome o (λ n. (t.after_previous.index ≤ n) × (n < to)) → IfSome o (λ n. t.after_previous.column + (n - t.after_previous.index) < 2 ^ 64)) [ None ↦ λ h. tt | Some n ↦ λ h. omega (arith, h.0, h.1, fits) ] (last-within are)

  module _ (place : Point) (there : place ≡ moved_over passed t.after_previous) (calls : Calls) (counted : calls.made ≡ t.calls.made + passed) (noted : Noted) (noted_is : noted ≡ noted_upto last t.after_previous t.noted) where
    was-reached : Reached same rules name t passed-flat to last
    was-reached = reached same rules name t passed-flat sound are plain

    is-at-once : was-reached.fields ≡ after_byte t place (slice_index t.bytes.now (to - 1)) calls noted
    is-at-once =
        let r = was-reached in
        let place_same : r.fields.after_previous ≡ place = r.place ∙ sym there in
        let calls_same : r.fields.calls ≡ calls = ap calls_of (r.made ∙ sym counted) in
        let noted_same : r.fields.noted ≡ noted = r.noted ∙ sym noted_is in
        r.there more ∙ (λ i. after_byte t (place_same i) (slice_index t.bytes.now (to - 1)) (calls_same i) (noted_same i))

    pub passed-sound : IsSound same (after_byte t place (slice_index t.bytes.now (to - 1)) calls noted)
    passed-sound = subst (IsSound same) is-at-once was-reached.sound

    pub passed-over : HasReadOver rules name (seen t) (seen (after_byte t place (slice_index t.bytes.now (to - 1)) calls noted))
    passed-over = subst (λ (u : Inside M R D). HasReadOver rules name (seen t) (seen u)) is-at-once was-reached.over
