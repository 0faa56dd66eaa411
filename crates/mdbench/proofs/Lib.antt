mod Prelude
-- insertions: edits that `main.rt` puts in a long list are apart in whatever order
mod Insertions
