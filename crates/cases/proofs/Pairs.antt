-- Exactly one of a and b, and exactly one of a and not b: nothing is known, and no world agrees. Assumes nothing.
use Rattle.std.proofs.Common.{◌≡◌, ℕ, ◌+◌, ◌^◌, true, false, cond, ◌&&◌, eqb, List, [], ◌∷◌, set, Ok, sym, refl, ap, ◌∙◌, subst, arith}
use lib.Bits.{bit_or}
use lib.Count.{ones, ones_cat, count_trailing_zeros}
use Rattle.literals.specs.Literals.{single, place, rotated, of_first, without, opposites}
use Rattle.literals.specs.Tables.{empty, full, filled, common}
use Rattle.literals.proofs.Laws.{same_decides}
use Rattle.domain.specs.Sheet.{works, Sheet}
use Rattle.knowledge.specs.AllWorlds.{tells_true, trace, agrees, narrowed, narrowed_all, in_all_worlds}
use Rattle.knowledge.specs.Questions.{Question}
use Rattle.knowledge.specs.Sweeps.{left_over, grouped, all_grouped, passed, sweep, room, told_from, start, closure}
use Rattle.cases.specs.Cases.{question_of, Stands}
use Rattle.cases.specs.declared.cases.Case.{Case}
use Rattle.cases.proofs.Computed.{worked_out, counted, swept, settled, domain_fits, marks_shown, worlds_as, reading, stands}

abbrev pairs : Sheet
pairs =
    record { fluents = 2; initial = 0; groups = 3 ∷ 8589934593 ∷ []; actions = record { needs = 0; deed = works [] } ∷ []; strong = 0; weak = 0 }

abbrev q : Question
q = record { sheet = pairs; orders = []; told = empty }

-- ---- counts of members

one_one : ones 1 ≡ 1
unfolding counted
one_one = refl

sum_two : ones 1 + ones 1 ≡ 2
unfolding counted
sum_two = refl

-- a and not b are two
two : ones 8589934593 ≡ 2
two = ones_cat 33 1 1 (omega arith) ∙ sum_two

-- ---- a sweep adds nothing

first_none : grouped 0 3 ≡ 0
unfolding worked_out counted
first_none = refl

all_left : left_over 8589934593 8589934593 ≡ 8589934593
unfolding left_over counted
all_left = refl

none_left : left_over 8589934593 0 ≡ 0
unfolding left_over
none_left = ap (λ n. cond (eqb n 0) 8589934593 (cond (eqb n 1) (2 ^ count_trailing_zeros 64 8589934593) 0)) two

second_none : grouped 0 8589934593 ≡ 0
unfolding rotated
second_none =
    ap (λ x. bit_or 0 (bit_or (opposites (without 8589934593 x)) (left_over 8589934593 0))) all_left ∙ ap (λ x. bit_or 0 (bit_or 0 x)) none_left

none_grouped : all_grouped (3 ∷ 8589934593 ∷ []) 0 ≡ 0
unfolding all_grouped
none_grouped = ap (λ x. grouped x 8589934593) first_none ∙ second_none

resting : sweep pairs [] (start q) ≡ start q
unfolding sweep passed start told_from filled of_first
resting = ap (set empty 0) none_grouped

none_known : closure q ≡ empty
unfolding closure start told_from filled of_first swept
none_known = settled pairs [] 0 (room (start q)) (start q) (omega arith) resting

-- ---- no state agrees

neither_one : agrees q 12884901888 ≡ false
unfolding worked_out counted
neither_one = refl

only_b : agrees q 4294967298 ≡ false
unfolding worked_out counted
only_b = refl

both_one : agrees q 3 ≡ false
unfolding worked_out counted
both_one = refl

only_a : agrees q 8589934593 ≡ false
only_a =
    let told = tells_true 2 empty 1 0 (trace q 8589934593) in
    ap (λ n. (eqb n 1 && (eqb (ones 8589934593) 1 && true)) && told) one_one ∙ ap (λ n. (eqb n 1 && true) && told) two

left_as_was : (w : ℕ) (sets : List ℕ) → agrees q w ≡ false → narrowed q w sets ≡ sets
left_as_was w sets h = ap (λ b. cond b (common sets (trace q w)) sets) h

none_agrees : in_all_worlds q ≡ full 2 0
unfolding in_all_worlds narrowed_all single place
none_agrees =
    left_as_was 3 _ both_one ∙ left_as_was 4294967298 _ only_b ∙ left_as_was 8589934593 _ only_a ∙ left_as_was 12884901888 _ neither_one

pub pairs_stand : (c : Case) → reading c ≡ Ok pairs → domain_fits c pairs ≡ true → question_of pairs c ≡ q → marks_shown c empty ≡ true → c.agreeing ≡ false → Stands c
pairs_stand c decoded fits asked marks none =
    stands c pairs decoded fits
    (subst (λ q. marks_shown c (closure q) ≡ true) (sym asked) (subst (λ sets. marks_shown c sets ≡ true) (sym none_known) marks))
    (subst (λ q. worlds_as c.agreeing q ≡ true) (sym asked)
    (subst (λ a. worlds_as a q ≡ true) (sym none) ((same_decides (in_all_worlds q) (full 2 0)).1 none_agrees)))
