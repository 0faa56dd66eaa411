use Rattle.mdgfm_documents.specs.Documents.{gfm_events}
use Rattle.mdhtml_calls.proofs.OtherOptions.{html-same}
use Rattle.mdhtml_calls.proofs.laws.other_options_do_nothing.Goals as goal
use Rattle.mdhtml_document.specs.Html.{known_in}

pub returns : goal.returns
returns _ = λ options bytes. let events = gfm_events options.parse bytes in html-same options.compile bytes (known_in bytes events) options.parse.tab_size events
