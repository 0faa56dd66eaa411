use Rattle.mdinline_characters.proofs.Prelude.{◌∙◌, ◌==◌, length, sym, arith, list_any, lengths, read, NAMES_OF_2, NAMES_OF_3, NAMES_OF_4, NAMES_OF_5, NAMES_OF_6, NAMES_OF_7, NAMES_OF_8, NAMES_OF_9, NAMES_OF_10, NAMES_OF_11, NAMES_OF_12, NAMES_OF_13, NAMES_OF_14, NAMES_OF_15, NAMES_OF_16, NAMES_OF_17, NAMES_OF_18, NAMES_OF_19, NAMES_OF_20, NAMES_OF_21, NAMES_OF_22, NAMES_OF_23, NAMES_OF_24, NAMES_OF_31}
use Rattle.mdinline_characters.proofs.Orders.{strictly_sorted}
use Rattle.mdinline_characters.proofs.Parts.{characters_in_part, no_characters, unlisted}
use Rattle.mdinline_characters.proofs.Tables.{all_are_listed, in_order-2, are_of-2, in_order-3, are_of-3, in_order-4, are_of-4, in_order-5, are_of-5, in_order-6, are_of-6, in_order-7, are_of-7, in_order-8, are_of-8, in_order-9, are_of-9, in_order-10, are_of-10, in_order-11, are_of-11, in_order-12, are_of-12, in_order-13, are_of-13, in_order-14, are_of-14, in_order-15, are_of-15, in_order-16, are_of-16, in_order-17, are_of-17, in_order-18, are_of-18, in_order-19, are_of-19, in_order-20, are_of-20, in_order-21, are_of-21, in_order-22, are_of-22, in_order-23, are_of-23, in_order-24, are_of-24, in_order-31, are_of-31}
use Rattle.mdinline_characters.proofs.find.Goals as goal

pub returns-in-2 : goal.returns-in-2
returns-in-2 c = c.find_in.ensures (strictly_sorted (read NAMES_OF_2) in_order-2) ∙ characters_in_part 2 (read NAMES_OF_2) c.args.name.now (omega arith) are_of-2

pub returns-in-3 : goal.returns-in-3
returns-in-3 c = c.find_in-in-3.ensures (strictly_sorted (read NAMES_OF_3) in_order-3) ∙ characters_in_part 3 (read NAMES_OF_3) c.args.name.now (omega arith) are_of-3

pub returns-in-4 : goal.returns-in-4
returns-in-4 c = c.find_in-in-4.ensures (strictly_sorted (read NAMES_OF_4) in_order-4) ∙ characters_in_part 4 (read NAMES_OF_4) c.args.name.now (omega arith) are_of-4

pub returns-in-5 : goal.returns-in-5
returns-in-5 c = c.find_in-in-5.ensures (strictly_sorted (read NAMES_OF_5) in_order-5) ∙ characters_in_part 5 (read NAMES_OF_5) c.args.name.now (omega arith) are_of-5

pub returns-in-6 : goal.returns-in-6
returns-in-6 c = c.find_in-in-6.ensures (strictly_sorted (read NAMES_OF_6) in_order-6) ∙ characters_in_part 6 (read NAMES_OF_6) c.args.name.now (omega arith) are_of-6

pub returns-in-7 : goal.returns-in-7
returns-in-7 c = c.find_in-in-7.ensures (strictly_sorted (read NAMES_OF_7) in_order-7) ∙ characters_in_part 7 (read NAMES_OF_7) c.args.name.now (omega arith) are_of-7

pub returns-in-8 : goal.returns-in-8
returns-in-8 c = c.find_in-in-8.ensures (strictly_sorted (read NAMES_OF_8) in_order-8) ∙ characters_in_part 8 (read NAMES_OF_8) c.args.name.now (omega arith) are_of-8

pub returns-in-9 : goal.returns-in-9
returns-in-9 c = c.find_in-in-9.ensures (strictly_sorted (read NAMES_OF_9) in_order-9) ∙ characters_in_part 9 (read NAMES_OF_9) c.args.name.now (omega arith) are_of-9

pub returns-in-10 : goal.returns-in-10
returns-in-10 c = c.find_in-in-10.ensures (strictly_sorted (read NAMES_OF_10) in_order-10) ∙ characters_in_part 10 (read NAMES_OF_10) c.args.name.now (omega arith) are_of-10

pub returns-in-11 : goal.returns-in-11
returns-in-11 c = c.find_in-in-11.ensures (strictly_sorted (read NAMES_OF_11) in_order-11) ∙ characters_in_part 11 (read NAMES_OF_11) c.args.name.now (omega arith) are_of-11

pub returns-in-12 : goal.returns-in-12
returns-in-12 c = c.find_in-in-12.ensures (strictly_sorted (read NAMES_OF_12) in_order-12) ∙ characters_in_part 12 (read NAMES_OF_12) c.args.name.now (omega arith) are_of-12

pub returns-in-13 : goal.returns-in-13
returns-in-13 c = c.find_in-in-13.ensures (strictly_sorted (read NAMES_OF_13) in_order-13) ∙ characters_in_part 13 (read NAMES_OF_13) c.args.name.now (omega arith) are_of-13

pub returns-in-14 : goal.returns-in-14
returns-in-14 c = c.find_in-in-14.ensures (strictly_sorted (read NAMES_OF_14) in_order-14) ∙ characters_in_part 14 (read NAMES_OF_14) c.args.name.now (omega arith) are_of-14

pub returns-in-15 : goal.returns-in-15
returns-in-15 c = c.find_in-in-15.ensures (strictly_sorted (read NAMES_OF_15) in_order-15) ∙ characters_in_part 15 (read NAMES_OF_15) c.args.name.now (omega arith) are_of-15

pub returns-in-16 : goal.returns-in-16
returns-in-16 c = c.find_in-in-16.ensures (strictly_sorted (read NAMES_OF_16) in_order-16) ∙ characters_in_part 16 (read NAMES_OF_16) c.args.name.now (omega arith) are_of-16

pub returns-in-17 : goal.returns-in-17
returns-in-17 c = c.find_in-in-17.ensures (strictly_sorted (read NAMES_OF_17) in_order-17) ∙ characters_in_part 17 (read NAMES_OF_17) c.args.name.now (omega arith) are_of-17

pub returns-in-18 : goal.returns-in-18
returns-in-18 c = c.find_in-in-18.ensures (strictly_sorted (read NAMES_OF_18) in_order-18) ∙ characters_in_part 18 (read NAMES_OF_18) c.args.name.now (omega arith) are_of-18

pub returns-in-19 : goal.returns-in-19
returns-in-19 c = c.find_in-in-19.ensures (strictly_sorted (read NAMES_OF_19) in_order-19) ∙ characters_in_part 19 (read NAMES_OF_19) c.args.name.now (omega arith) are_of-19

pub returns-in-20 : goal.returns-in-20
returns-in-20 c = c.find_in-in-20.ensures (strictly_sorted (read NAMES_OF_20) in_order-20) ∙ characters_in_part 20 (read NAMES_OF_20) c.args.name.now (omega arith) are_of-20

pub returns-in-21 : goal.returns-in-21
returns-in-21 c = c.find_in-in-21.ensures (strictly_sorted (read NAMES_OF_21) in_order-21) ∙ characters_in_part 21 (read NAMES_OF_21) c.args.name.now (omega arith) are_of-21

pub returns-in-22 : goal.returns-in-22
returns-in-22 c = c.find_in-in-22.ensures (strictly_sorted (read NAMES_OF_22) in_order-22) ∙ characters_in_part 22 (read NAMES_OF_22) c.args.name.now (omega arith) are_of-22

pub returns-in-23 : goal.returns-in-23
returns-in-23 c = c.find_in-in-23.ensures (strictly_sorted (read NAMES_OF_23) in_order-23) ∙ characters_in_part 23 (read NAMES_OF_23) c.args.name.now (omega arith) are_of-23

pub returns-in-24 : goal.returns-in-24
returns-in-24 c = c.find_in-in-24.ensures (strictly_sorted (read NAMES_OF_24) in_order-24) ∙ characters_in_part 24 (read NAMES_OF_24) c.args.name.now (omega arith) are_of-24

pub returns-in-31 : goal.returns-in-31
returns-in-31 c = c.find_in-in-31.ensures (strictly_sorted (read NAMES_OF_31) in_order-31) ∙ characters_in_part 31 (read NAMES_OF_31) c.args.name.now (omega arith) are_of-31

pub returns-in_default : goal.returns-in_default
returns-in_default c =
    let other = unlisted lengths (length c.args.name.now) ((λ e. omega arith), ((λ e. omega arith), ((λ e. omega arith), ((λ e. omega arith), ((λ e. omega arith), ((λ e. omega arith), ((λ e. omega arith), ((λ e. omega arith), ((λ e. omega arith), ((λ e. omega arith), ((λ e. omega arith), ((λ e. omega arith), ((λ e. omega arith), ((λ e. omega arith), ((λ e. omega arith), ((λ e. omega arith), ((λ e. omega arith), ((λ e. omega arith), ((λ e. omega arith), ((λ e. omega arith), ((λ e. omega arith), ((λ e. omega arith), ((λ e. omega arith), ((λ e. omega arith), tt)))))))))))))))))))))))) in
    sym (no_characters (λ name. list_any (λ n. length name == n) lengths) c.args.name.now other all_are_listed)
