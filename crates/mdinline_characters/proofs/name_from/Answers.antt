use Rattle.mdinline_characters.proofs.Prelude.{◌≡◌, ◌∙◌, ◌++◌, [], ◌∷◌, ℕ, List, refl, ap, sym, option_copied, option_or, Option, Some, None, Bor, Reference, character_references, first_from, name_among, of_length, read, NAMES_OF_2, NAMES_OF_3, NAMES_OF_4, NAMES_OF_5, NAMES_OF_6, NAMES_OF_7, NAMES_OF_8, NAMES_OF_9, NAMES_OF_10, NAMES_OF_11, NAMES_OF_12, NAMES_OF_13, NAMES_OF_14, NAMES_OF_15, NAMES_OF_16, NAMES_OF_17, NAMES_OF_18, NAMES_OF_19, NAMES_OF_20, NAMES_OF_21, NAMES_OF_22, NAMES_OF_23, NAMES_OF_24, NAMES_OF_31}
use Rattle.mdinline_characters.specs.References.{name_from}
use Rattle.mdinline_characters.proofs.Orders.{strictly_sorted}
use Rattle.mdinline_characters.proofs.Tables.{in_order-2, are_of-2, in_order-3, are_of-3, in_order-4, are_of-4, in_order-5, are_of-5, in_order-6, are_of-6, in_order-7, are_of-7, in_order-8, are_of-8, in_order-9, are_of-9, in_order-10, are_of-10, in_order-11, are_of-11, in_order-12, are_of-12, in_order-13, are_of-13, in_order-14, are_of-14, in_order-15, are_of-15, in_order-16, are_of-16, in_order-17, are_of-17, in_order-18, are_of-18, in_order-19, are_of-19, in_order-20, are_of-20, in_order-21, are_of-21, in_order-22, are_of-22, in_order-23, are_of-23, in_order-24, are_of-24, in_order-31, are_of-31}
use Rattle.mdinline_characters.proofs.name_from.Goals as goal

-- one list more
joins : (r a b : Option (Bor (List ℕ))) (x rest : Option (List ℕ)) → r ≡ option_or a b → option_copied b ≡ x → option_or (option_copied r) rest ≡ option_or (option_copied a) (option_or x rest)
joins r None b x rest is found = ap (λ o. option_or (option_copied o) rest) is ∙ ap (λ o. option_or o rest) found
joins r (Some y) b x rest is found = ap (λ o. option_or (option_copied o) rest) is

or_none : (o : Option (List ℕ)) → option_or o None ≡ o
or_none None = refl
or_none (Some x) = refl

-- the first name of the references of a length
of_part : (n : ℕ) (part : List Reference) (start : List ℕ) (o : Option (Bor (List ℕ))) → option_copied o ≡ first_from part start → part ≡ of_length n character_references
    → option_copied o ≡ first_from (of_length n character_references) start
of_part n part start o found is = found ∙ ap (λ references. first_from references start) is

pub returns : goal.returns
unfolding name_from
returns c =
    let start = c.args.start.now ++ (c.args.next ∷ []) in
    let in_2 = of_part 2 (read NAMES_OF_2) start c.first_from.result (c.first_from.ensures (strictly_sorted (read NAMES_OF_2) in_order-2)) are_of-2 in
    let in_3 = of_part 3 (read NAMES_OF_3) start c.first_from-2.result (c.first_from-2.ensures (strictly_sorted (read NAMES_OF_3) in_order-3)) are_of-3 in
    let in_4 = of_part 4 (read NAMES_OF_4) start c.first_from-3.result (c.first_from-3.ensures (strictly_sorted (read NAMES_OF_4) in_order-4)) are_of-4 in
    let in_5 = of_part 5 (read NAMES_OF_5) start c.first_from-4.result (c.first_from-4.ensures (strictly_sorted (read NAMES_OF_5) in_order-5)) are_of-5 in
    let in_6 = of_part 6 (read NAMES_OF_6) start c.first_from-5.result (c.first_from-5.ensures (strictly_sorted (read NAMES_OF_6) in_order-6)) are_of-6 in
    let in_7 = of_part 7 (read NAMES_OF_7) start c.first_from-6.result (c.first_from-6.ensures (strictly_sorted (read NAMES_OF_7) in_order-7)) are_of-7 in
    let in_8 = of_part 8 (read NAMES_OF_8) start c.first_from-7.result (c.first_from-7.ensures (strictly_sorted (read NAMES_OF_8) in_order-8)) are_of-8 in
    let in_9 = of_part 9 (read NAMES_OF_9) start c.first_from-8.result (c.first_from-8.ensures (strictly_sorted (read NAMES_OF_9) in_order-9)) are_of-9 in
    let in_10 = of_part 10 (read NAMES_OF_10) start c.first_from-9.result (c.first_from-9.ensures (strictly_sorted (read NAMES_OF_10) in_order-10)) are_of-10 in
    let in_11 = of_part 11 (read NAMES_OF_11) start c.first_from-10.result (c.first_from-10.ensures (strictly_sorted (read NAMES_OF_11) in_order-11)) are_of-11 in
    let in_12 = of_part 12 (read NAMES_OF_12) start c.first_from-11.result (c.first_from-11.ensures (strictly_sorted (read NAMES_OF_12) in_order-12)) are_of-12 in
    let in_13 = of_part 13 (read NAMES_OF_13) start c.first_from-12.result (c.first_from-12.ensures (strictly_sorted (read NAMES_OF_13) in_order-13)) are_of-13 in
    let in_14 = of_part 14 (read NAMES_OF_14) start c.first_from-13.result (c.first_from-13.ensures (strictly_sorted (read NAMES_OF_14) in_order-14)) are_of-14 in
    let in_15 = of_part 15 (read NAMES_OF_15) start c.first_from-14.result (c.first_from-14.ensures (strictly_sorted (read NAMES_OF_15) in_order-15)) are_of-15 in
    let in_16 = of_part 16 (read NAMES_OF_16) start c.first_from-15.result (c.first_from-15.ensures (strictly_sorted (read NAMES_OF_16) in_order-16)) are_of-16 in
    let in_17 = of_part 17 (read NAMES_OF_17) start c.first_from-16.result (c.first_from-16.ensures (strictly_sorted (read NAMES_OF_17) in_order-17)) are_of-17 in
    let in_18 = of_part 18 (read NAMES_OF_18) start c.first_from-17.result (c.first_from-17.ensures (strictly_sorted (read NAMES_OF_18) in_order-18)) are_of-18 in
    let in_19 = of_part 19 (read NAMES_OF_19) start c.first_from-18.result (c.first_from-18.ensures (strictly_sorted (read NAMES_OF_19) in_order-19)) are_of-19 in
    let in_20 = of_part 20 (read NAMES_OF_20) start c.first_from-19.result (c.first_from-19.ensures (strictly_sorted (read NAMES_OF_20) in_order-20)) are_of-20 in
    let in_21 = of_part 21 (read NAMES_OF_21) start c.first_from-20.result (c.first_from-20.ensures (strictly_sorted (read NAMES_OF_21) in_order-21)) are_of-21 in
    let in_22 = of_part 22 (read NAMES_OF_22) start c.first_from-21.result (c.first_from-21.ensures (strictly_sorted (read NAMES_OF_22) in_order-22)) are_of-22 in
    let in_23 = of_part 23 (read NAMES_OF_23) start c.first_from-22.result (c.first_from-22.ensures (strictly_sorted (read NAMES_OF_23) in_order-23)) are_of-23 in
    let in_24 = of_part 24 (read NAMES_OF_24) start c.first_from-23.result (c.first_from-23.ensures (strictly_sorted (read NAMES_OF_24) in_order-24)) are_of-24 in
    let in_31 = of_part 31 (read NAMES_OF_31) start c.first_from-24.result (c.first_from-24.ensures (strictly_sorted (read NAMES_OF_31) in_order-31)) are_of-31 in
    sym (or_none (option_copied c.or-23.result))
    ∙ joins c.or-23.result c.or-22.result c.first_from-24.result (first_from (of_length 31 character_references) start) (name_among [] start) c.or-23.ensures in_31
    ∙ joins c.or-22.result c.or-21.result c.first_from-23.result (first_from (of_length 24 character_references) start) (name_among (31 ∷ []) start) c.or-22.ensures in_24
    ∙ joins c.or-21.result c.or-20.result c.first_from-22.result (first_from (of_length 23 character_references) start) (name_among (24 ∷ 31 ∷ []) start) c.or-21.ensures in_23
    ∙ joins c.or-20.result c.or-19.result c.first_from-21.result (first_from (of_length 22 character_references) start) (name_among (23 ∷ 24 ∷ 31 ∷ []) start) c.or-20.ensures in_22
    ∙ joins c.or-19.result c.or-18.result c.first_from-20.result (first_from (of_length 21 character_references) start) (name_among (22 ∷ 23 ∷ 24 ∷ 31 ∷ []) start) c.or-19.ensures in_21
    ∙ joins c.or-18.result c.or-17.result c.first_from-19.result (first_from (of_length 20 character_references) start) (name_among (21 ∷ 22 ∷ 23 ∷ 24 ∷ 31 ∷ []) start) c.or-18.ensures in_20
    ∙ joins c.or-17.result c.or-16.result c.first_from-18.result (first_from (of_length 19 character_references) start) (name_among (20 ∷ 21 ∷ 22 ∷ 23 ∷ 24 ∷ 31 ∷ []) start) c.or-17.ensures in_19
    ∙ joins c.or-16.result c.or-15.result c.first_from-17.result (first_from (of_length 18 character_references) start) (name_among (19 ∷ 20 ∷ 21 ∷ 22 ∷ 23 ∷ 24 ∷ 31 ∷ []) start) c.or-16.ensures in_18
    ∙ joins c.or-15.result c.or-14.result c.first_from-16.result (first_from (of_length 17 character_references) start) (name_among (18 ∷ 19 ∷ 20 ∷ 21 ∷ 22 ∷ 23 ∷ 24 ∷ 31 ∷ []) start) c.or-15.ensures in_17
    ∙ joins c.or-14.result c.or-13.result c.first_from-15.result (first_from (of_length 16 character_references) start) (name_among (17 ∷ 18 ∷ 19 ∷ 20 ∷ 21 ∷ 22 ∷ 23 ∷ 24 ∷ 31 ∷ []) start) c.or-14.ensures in_16
    ∙ joins c.or-13.result c.or-12.result c.first_from-14.result (first_from (of_length 15 character_references) start) (name_among (16 ∷ 17 ∷ 18 ∷ 19 ∷ 20 ∷ 21 ∷ 22 ∷ 23 ∷ 24 ∷ 31 ∷ []) start) c.or-13.ensures in_15
    ∙ joins c.or-12.result c.or-11.result c.first_from-13.result (first_from (of_length 14 character_references) start) (name_among (15 ∷ 16 ∷ 17 ∷ 18 ∷ 19 ∷ 20 ∷ 21 ∷ 22 ∷ 23 ∷ 24 ∷ 31 ∷ []) start) c.or-12.ensures in_14
    ∙ joins c.or-11.result c.or-10.result c.first_from-12.result (first_from (of_length 13 character_references) start) (name_among (14 ∷ 15 ∷ 16 ∷ 17 ∷ 18 ∷ 19 ∷ 20 ∷ 21 ∷ 22 ∷ 23 ∷ 24 ∷ 31 ∷ []) start) c.or-11.ensures in_13
    ∙ joins c.or-10.result c.or-9.result c.first_from-11.result (first_from (of_length 12 character_references) start) (name_among (13 ∷ 14 ∷ 15 ∷ 16 ∷ 17 ∷ 18 ∷ 19 ∷ 20 ∷ 21 ∷ 22 ∷ 23 ∷ 24 ∷ 31 ∷ []) start) c.or-10.ensures in_12
    ∙ joins c.or-9.result c.or-8.result c.first_from-10.result (first_from (of_length 11 character_references) start) (name_among (12 ∷ 13 ∷ 14 ∷ 15 ∷ 16 ∷ 17 ∷ 18 ∷ 19 ∷ 20 ∷ 21 ∷ 22 ∷ 23 ∷ 24 ∷ 31 ∷ []) start) c.or-9.ensures in_11
    ∙ joins c.or-8.result c.or-7.result c.first_from-9.result (first_from (of_length 10 character_references) start) (name_among (11 ∷ 12 ∷ 13 ∷ 14 ∷ 15 ∷ 16 ∷ 17 ∷ 18 ∷ 19 ∷ 20 ∷ 21 ∷ 22 ∷ 23 ∷ 24 ∷ 31 ∷ []) start) c.or-8.ensures in_10
    ∙ joins c.or-7.result c.or-6.result c.first_from-8.result (first_from (of_length 9 character_references) start) (name_among (10 ∷ 11 ∷ 12 ∷ 13 ∷ 14 ∷ 15 ∷ 16 ∷ 17 ∷ 18 ∷ 19 ∷ 20 ∷ 21 ∷ 22 ∷ 23 ∷ 24 ∷ 31 ∷ []) start) c.or-7.ensures in_9
    ∙ joins c.or-6.result c.or-5.result c.first_from-7.result (first_from (of_length 8 character_references) start) (name_among (9 ∷ 10 ∷ 11 ∷ 12 ∷ 13 ∷ 14 ∷ 15 ∷ 16 ∷ 17 ∷ 18 ∷ 19 ∷ 20 ∷ 21 ∷ 22 ∷ 23 ∷ 24 ∷ 31 ∷ []) start) c.or-6.ensures in_8
    ∙ joins c.or-5.result c.or-4.result c.first_from-6.result (first_from (of_length 7 character_references) start) (name_among (8 ∷ 9 ∷ 10 ∷ 11 ∷ 12 ∷ 13 ∷ 14 ∷ 15 ∷ 16 ∷ 17 ∷ 18 ∷ 19 ∷ 20 ∷ 21 ∷ 22 ∷ 23 ∷ 24 ∷ 31 ∷ []) start) c.or-5.ensures in_7
    ∙ joins c.or-4.result c.or-3.result c.first_from-5.result (first_from (of_length 6 character_references) start) (name_among (7 ∷ 8 ∷ 9 ∷ 10 ∷ 11 ∷ 12 ∷ 13 ∷ 14 ∷ 15 ∷ 16 ∷ 17 ∷ 18 ∷ 19 ∷ 20 ∷ 21 ∷ 22 ∷ 23 ∷ 24 ∷ 31 ∷ []) start) c.or-4.ensures in_6
    ∙ joins c.or-3.result c.or-2.result c.first_from-4.result (first_from (of_length 5 character_references) start) (name_among (6 ∷ 7 ∷ 8 ∷ 9 ∷ 10 ∷ 11 ∷ 12 ∷ 13 ∷ 14 ∷ 15 ∷ 16 ∷ 17 ∷ 18 ∷ 19 ∷ 20 ∷ 21 ∷ 22 ∷ 23 ∷ 24 ∷ 31 ∷ []) start) c.or-3.ensures in_5
    ∙ joins c.or-2.result c.or.result c.first_from-3.result (first_from (of_length 4 character_references) start) (name_among (5 ∷ 6 ∷ 7 ∷ 8 ∷ 9 ∷ 10 ∷ 11 ∷ 12 ∷ 13 ∷ 14 ∷ 15 ∷ 16 ∷ 17 ∷ 18 ∷ 19 ∷ 20 ∷ 21 ∷ 22 ∷ 23 ∷ 24 ∷ 31 ∷ []) start) c.or-2.ensures in_4
    ∙ joins c.or.result c.first_from.result c.first_from-2.result (first_from (of_length 3 character_references) start) (name_among (4 ∷ 5 ∷ 6 ∷ 7 ∷ 8 ∷ 9 ∷ 10 ∷ 11 ∷ 12 ∷ 13 ∷ 14 ∷ 15 ∷ 16 ∷ 17 ∷ 18 ∷ 19 ∷ 20 ∷ 21 ∷ 22 ∷ 23 ∷ 24 ∷ 31 ∷ []) start) c.or.ensures in_3
    ∙ ap (λ found. option_or found (name_among (3 ∷ 4 ∷ 5 ∷ 6 ∷ 7 ∷ 8 ∷ 9 ∷ 10 ∷ 11 ∷ 12 ∷ 13 ∷ 14 ∷ 15 ∷ 16 ∷ 17 ∷ 18 ∷ 19 ∷ 20 ∷ 21 ∷ 22 ∷ 23 ∷ 24 ∷ 31 ∷ []) start)) in_2
