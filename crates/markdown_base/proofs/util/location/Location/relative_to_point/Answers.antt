use Rattle.markdown_base.proofs.Prelude.{◌≡◌, sym, rules, MatchOption, Option, Some, None, option_and_then, point_in}
use Rattle.markdown_base.proofs.util.location.Location.relative_to_point.Goals as goal

-- what holds in each case of a call holds of its result
chained : {A B : Type 0} (f : A → Option B) (P : A → Type 0) (result : Option B) → ((x : A) → P x → result ≡ f x) → (o : Option A) → MatchOption o (result ≡ None) P → result ≡ option_and_then f o
chained f P result each None h = h
chained f P result each (Some x) h = each x h

pub returns : goal.returns
returns c = record { point = rw (sym c.relative_to_absolute.ensures.offset) (chained (point_in c.args.self.now) _ c.and_then.result (λ x ran. search rules) c.relative_to_absolute.result c.and_then.ensures) }
