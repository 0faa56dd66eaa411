-- What reading each chain costs all chains together cost.
use Rattle.mddocument_costs.proofs.Prelude.{List, Option, Some, [], ap, arith, length, refl, subst, suc, sym, true, zero, ℕ, ◌*◌, ◌+◌, ◌≡◌, ◌≤◌, ◌∙◌, ◌∷◌, mul-add, mul-suc, sum_by-cons, AllByRecursion, range_with_len, sum_by, Contains, option_and_then, Content, Event, Name, Next, every-all, every-kept, text-on, start_configuration, EndsIn, Rules, CanFollow, Given, IsDocument, IsText, empty_text, Subresult, some_content, whole-from, begins-fits, chunks_can_be_read, begins, content_at, fits, fitting_starts, AreChildren, Child, IsChild, IsSubtokenized, pieces_of, start_name, text_from, text_of_chain, IsReady, place_at, IsWithin, calls_of, chain_bytes}

-- what is among one is that
pub only-one : (w c : Content) → Contains (w ∷ []) c → c ≡ w
only-one w c (zero, less, is) = sym is
only-one w c (suc i, less, is) = absurd (omega (arith, less))

module _ (g : Given) (document : IsDocument g) (wanted : Option Content) (events : List Event) (ready : IsReady g.tab g.bytes wanted events) where
  abbrev pub Begins : ℕ → Type 0
  Begins c = begins wanted events c ≡ true

  -- how many virtual bytes the text of a chain has
  abbrev pub bytes_at : ℕ → ℕ
  bytes_at c = length (text_from g events c).seats

  -- the text of a chain is a text
  pub is-text : (c : ℕ) → Begins c → IsText g (text_from g events c)
  is-text c b =
      let fit = begins-fits g.tab g.bytes wanted events ready c b in
      let whole = whole-from g.tab g.bytes wanted events ready c fit in
      let start = empty_text (place_at events c) in
      let place : IsText g start = record { document = document; starts = (ready.readable c fit).from.0; pieces = []; follow = tt; is = refl } in
      let can = subst (λ ks. CanFollow g start (pieces_of events ks)) whole.1 (chunks_can_be_read g.tab g.bytes g.options wanted events ready c b) in
      subst (λ ks. IsText g (text_of_chain g events ks)) (sym whole.1) (text-on g start (pieces_of events (c ∷ whole.0)) place can)

  -- what begins a chain has a content, and fits
  pub content-of : (c : ℕ) → Begins c → (w : Content) × (fits wanted events c ≡ true) × (content_at events c ≡ Some w)
  content-of c b =
      let fit = begins-fits g.tab g.bytes wanted events ready c b in
      let there = some_content wanted (content_at events c) fit in
      (there.0, fit, there.1)

  all-begin : AllByRecursion Begins (fitting_starts wanted events)
  all-begin =
      let indices = range_with_len 0 (length events) in
      every-kept (λ k. Unit {0}) Begins (begins wanted events) (λ k u e. e) indices (every-all (λ k. Unit {0}) (λ k. tt) indices)

  module _ {R D : Type 0} (rules : Given → Rules R D) where
    -- a chain of a content is read from the start of that content
    pub from-start : (c : ℕ) (child : Child) (one : IsChild g rules events c child) (w : Content) (start : Name) → content_at events c ≡ Some w → start_name w ≡ Some start → one.read.start ≡ start
    from-start c child one w start at starts =
        let same : Some start ≡ Some one.read.start = sym starts ∙ sym (ap (option_and_then start_name) at) ∙ one.read.starts in
        cc

    pub reads-from : (c : ℕ) (child : Child) (one : IsChild g rules events c child) (w : Content) (start : Name) → content_at events c ≡ Some w → start_name w ≡ Some start
        → EndsIn g (rules g).step (text_from g events c) 0 (start_configuration one.read.flag) [] (Next start) one.result
    reads-from c child one w start at starts =
        subst (λ (name : Name). EndsIn g (rules g).step (text_from g events c) 0 (start_configuration one.read.flag) [] (Next name) one.result) (from-start c child one w start at starts) one.read.ends

    -- so many calls for each byte, and so many for each chain, are enough for each chain by itself; its text has no more bytes than all texts
    module _ (a_byte a_chain : ℕ)
        (each : (c : ℕ) (child : Child) → Begins c → bytes_at c ≤ chain_bytes g wanted events → (one : IsChild g rules events c child) → one.result.calls ≤ a_byte * bytes_at c + a_chain) where
      calls-few : (cs : List ℕ) (children : List Child) (read : AreChildren g rules events cs children) → AllByRecursion Begins cs → sum_by bytes_at cs ≤ chain_bytes g wanted events
          → calls_of g rules events cs children read ≤ a_byte * sum_by bytes_at cs + a_chain * length cs
      calls-few [] children read begin few = omega arith
      calls-few (c ∷ cs) [] read begin few = absurd read
      calls-few (c ∷ cs) (child ∷ children) read begin few =
          let all = sum_by-cons bytes_at c cs in
          let here = each c child begin.0 (omega (arith, few, all)) read.0 in
          let rest = calls-few cs children read.1 begin.1 (omega (arith, few, all)) in
          let by_bytes : a_byte * sum_by bytes_at (c ∷ cs) ≡ a_byte * bytes_at c + a_byte * sum_by bytes_at cs = ap (λ n. a_byte * n) all ∙ mul-add a_byte (bytes_at c) (sum_by bytes_at cs) in
          let by_chains : a_chain * length (c ∷ cs) ≡ a_chain * length cs + a_chain = mul-suc a_chain (length cs) in
          let made : calls_of g rules events (c ∷ cs) (child ∷ children) read ≡ read.0.result.calls + calls_of g rules events cs children read.1 = refl in
          omega (arith, here, rest, by_bytes, by_chains, made)

      -- they are enough for all chains
      pub calls-within : (new : List Event) (sub : Subresult) (h : IsSubtokenized g rules wanted events new sub) → IsWithin g rules wanted events new sub a_byte a_chain h
      calls-within new sub h = calls-few (fitting_starts wanted events) h.children h.read all-begin (omega arith)
