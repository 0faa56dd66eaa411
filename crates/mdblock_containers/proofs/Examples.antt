-- The definition computes the events of each example.
use Rattle.std.proofs.Common.{◌≡◌, map, refl}
use Rattle.mdblock_containers.specs.Examples.{skeletons_of, given_for, a_few, without_containers, quotes, items, quotes_and_items}
use Rattle.mdblock_containers.specs.ListExamples.{lists, read_of}

pub few : skeletons_of a_few ≡ given_for a_few
few = refl

pub no-containers : skeletons_of without_containers ≡ given_for without_containers
no-containers = refl

pub of-quotes : skeletons_of quotes ≡ given_for quotes
of-quotes = refl

pub of-items : skeletons_of items ≡ given_for items
of-items = refl

pub of-both : skeletons_of quotes_and_items ≡ given_for quotes_and_items
of-both = refl

pub of-lists : map (λ l. read_of l.document) lists ≡ lists
of-lists = refl
