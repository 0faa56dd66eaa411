use Rattle.mdconstructs_tables.proofs.Prelude.{◌≡◌, ap, chunk_before}
use Rattle.mdconstructs_tables.proofs.chunks.link_chunk.Goals as goal

pub link_to-requires : goal.link_to-requires
link_to-requires g c =
    let same : c.t.inside.tokenize_state.start ≡ chunk_before c.args.t.now.configuration = ap (λ v. v.configuration.local.tokenize_state.start) c.t.view_is in
    record { can_link = rw (same, c.last_event.ensures) c.requires }

pub returns : goal.returns
returns g c =
    let same : c.t.inside.tokenize_state.start ≡ chunk_before c.args.t.now.configuration = ap (λ v. v.configuration.local.tokenize_state.start) c.t.view_is in
    rw (same, c.last_event.ensures) at c.link_to.ensures
