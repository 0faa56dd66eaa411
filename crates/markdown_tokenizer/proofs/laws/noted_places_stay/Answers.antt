use Rattle.markdown_tokenizer.proofs.Positions.TextOrder.{noted-later}
use Rattle.markdown_tokenizer.proofs.laws.noted_places_stay.Goals as goal

pub returns : goal.returns
returns g c = λ t p is inside noted. record {
  place = noted.place;
  shown = noted.shown;
  upto = noted-later t.given t.text t.configuration.position p is inside noted.upto;
  behind = noted.behind;
}
