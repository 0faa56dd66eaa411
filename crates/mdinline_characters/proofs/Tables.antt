-- The lists of the code: each has the references whose names have its length, in order.
use Rattle.mdinline_characters.proofs.Prelude.{◌≡◌, ◌==◌, length, nat_le, refl, true, is_ascii_alphanumeric, filter, list_all, list_any, lengths, of_length, read, NAMES_OF_2, NAMES_OF_3, NAMES_OF_4, NAMES_OF_5, NAMES_OF_6, NAMES_OF_7, NAMES_OF_8, NAMES_OF_9, NAMES_OF_10, NAMES_OF_11, NAMES_OF_12, NAMES_OF_13, NAMES_OF_14, NAMES_OF_15, NAMES_OF_16, NAMES_OF_17, NAMES_OF_18, NAMES_OF_19, NAMES_OF_20, NAMES_OF_21, NAMES_OF_22, NAMES_OF_23, NAMES_OF_24, NAMES_OF_31}
use Rattle.mdinline_characters.specs.CharacterReferences.{character_references}
use Rattle.mdinline_characters.proofs.Orders.{are_in_order}

pub in_order-2 : are_in_order (read NAMES_OF_2) ≡ true
in_order-2 = refl

pub are_of-2 : read NAMES_OF_2 ≡ of_length 2 character_references
unfolding character_references
are_of-2 = refl

pub in_order-3 : are_in_order (read NAMES_OF_3) ≡ true
in_order-3 = refl

pub are_of-3 : read NAMES_OF_3 ≡ of_length 3 character_references
unfolding character_references
are_of-3 = refl

pub in_order-4 : are_in_order (read NAMES_OF_4) ≡ true
in_order-4 = refl

pub are_of-4 : read NAMES_OF_4 ≡ of_length 4 character_references
unfolding character_references
are_of-4 = refl

pub in_order-5 : are_in_order (read NAMES_OF_5) ≡ true
in_order-5 = refl

pub are_of-5 : read NAMES_OF_5 ≡ of_length 5 character_references
unfolding character_references
are_of-5 = refl

pub in_order-6 : are_in_order (read NAMES_OF_6) ≡ true
in_order-6 = refl

pub are_of-6 : read NAMES_OF_6 ≡ of_length 6 character_references
unfolding character_references
are_of-6 = refl

pub in_order-7 : are_in_order (read NAMES_OF_7) ≡ true
in_order-7 = refl

pub are_of-7 : read NAMES_OF_7 ≡ of_length 7 character_references
unfolding character_references
are_of-7 = refl

pub in_order-8 : are_in_order (read NAMES_OF_8) ≡ true
in_order-8 = refl

pub are_of-8 : read NAMES_OF_8 ≡ of_length 8 character_references
unfolding character_references
are_of-8 = refl

pub in_order-9 : are_in_order (read NAMES_OF_9) ≡ true
in_order-9 = refl

pub are_of-9 : read NAMES_OF_9 ≡ of_length 9 character_references
unfolding character_references
are_of-9 = refl

pub in_order-10 : are_in_order (read NAMES_OF_10) ≡ true
in_order-10 = refl

pub are_of-10 : read NAMES_OF_10 ≡ of_length 10 character_references
unfolding character_references
are_of-10 = refl

pub in_order-11 : are_in_order (read NAMES_OF_11) ≡ true
in_order-11 = refl

pub are_of-11 : read NAMES_OF_11 ≡ of_length 11 character_references
unfolding character_references
are_of-11 = refl

pub in_order-12 : are_in_order (read NAMES_OF_12) ≡ true
in_order-12 = refl

pub are_of-12 : read NAMES_OF_12 ≡ of_length 12 character_references
unfolding character_references
are_of-12 = refl

pub in_order-13 : are_in_order (read NAMES_OF_13) ≡ true
in_order-13 = refl

pub are_of-13 : read NAMES_OF_13 ≡ of_length 13 character_references
unfolding character_references
are_of-13 = refl

pub in_order-14 : are_in_order (read NAMES_OF_14) ≡ true
in_order-14 = refl

pub are_of-14 : read NAMES_OF_14 ≡ of_length 14 character_references
unfolding character_references
are_of-14 = refl

pub in_order-15 : are_in_order (read NAMES_OF_15) ≡ true
in_order-15 = refl

pub are_of-15 : read NAMES_OF_15 ≡ of_length 15 character_references
unfolding character_references
are_of-15 = refl

pub in_order-16 : are_in_order (read NAMES_OF_16) ≡ true
in_order-16 = refl

pub are_of-16 : read NAMES_OF_16 ≡ of_length 16 character_references
unfolding character_references
are_of-16 = refl

pub in_order-17 : are_in_order (read NAMES_OF_17) ≡ true
in_order-17 = refl

pub are_of-17 : read NAMES_OF_17 ≡ of_length 17 character_references
unfolding character_references
are_of-17 = refl

pub in_order-18 : are_in_order (read NAMES_OF_18) ≡ true
in_order-18 = refl

pub are_of-18 : read NAMES_OF_18 ≡ of_length 18 character_references
unfolding character_references
are_of-18 = refl

pub in_order-19 : are_in_order (read NAMES_OF_19) ≡ true
in_order-19 = refl

pub are_of-19 : read NAMES_OF_19 ≡ of_length 19 character_references
unfolding character_references
are_of-19 = refl

pub in_order-20 : are_in_order (read NAMES_OF_20) ≡ true
in_order-20 = refl

pub are_of-20 : read NAMES_OF_20 ≡ of_length 20 character_references
unfolding character_references
are_of-20 = refl

pub in_order-21 : are_in_order (read NAMES_OF_21) ≡ true
in_order-21 = refl

pub are_of-21 : read NAMES_OF_21 ≡ of_length 21 character_references
unfolding character_references
are_of-21 = refl

pub in_order-22 : are_in_order (read NAMES_OF_22) ≡ true
in_order-22 = refl

pub are_of-22 : read NAMES_OF_22 ≡ of_length 22 character_references
unfolding character_references
are_of-22 = refl

pub in_order-23 : are_in_order (read NAMES_OF_23) ≡ true
in_order-23 = refl

pub are_of-23 : read NAMES_OF_23 ≡ of_length 23 character_references
unfolding character_references
are_of-23 = refl

pub in_order-24 : are_in_order (read NAMES_OF_24) ≡ true
in_order-24 = refl

pub are_of-24 : read NAMES_OF_24 ≡ of_length 24 character_references
unfolding character_references
are_of-24 = refl

pub in_order-31 : are_in_order (read NAMES_OF_31) ≡ true
in_order-31 = refl

pub are_of-31 : read NAMES_OF_31 ≡ of_length 31 character_references
unfolding character_references
are_of-31 = refl

pub all_are_listed : character_references ≡ filter (λ reference. list_any (λ n. length reference.0 == n) lengths) character_references
unfolding character_references
all_are_listed = refl

pub listed_in_order : are_in_order character_references ≡ true
unfolding character_references
listed_in_order = refl

pub all_are_short : character_references ≡ filter (λ reference. nat_le (length reference.0) 31) character_references
unfolding character_references
all_are_short = refl

pub all_are_plain : character_references ≡ filter (λ reference. list_all is_ascii_alphanumeric reference.0) character_references
unfolding character_references
all_are_plain = refl
