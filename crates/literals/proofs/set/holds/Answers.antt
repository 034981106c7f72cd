use Rattle.std.proofs.Common.{◌≡◌, ◌/◌, ◌^◌, true, false, ltb, refl, arith}
use lib.Bits.{and_mask}
use Rattle.std.proofs.lemmas.Bool.Decides.{nat_tests}
use Rattle.literals.specs.Literals.{at_place}
use Rattle.literals.proofs.Promise.{membership}
use Rattle.literals.proofs.Words.{shifted_digit}
use Rattle.literals.proofs.set.holds.Goals as goal

pub returns-then-at-lt64 : goal.returns-then-at-lt64
unfolding at_place
returns-then-at-lt64 c =
    let inside : ltb c.args.at 64 ≡ true = grind (arith, nat_tests) in
    record {
      value = rw (inside, and_mask (c.args.set / 2 ^ c.args.at) 1) (shifted_digit c.args.set c.args.at);
      laws = membership;
    }

pub returns-else-at-lt64 : goal.returns-else-at-lt64
unfolding at_place
returns-else-at-lt64 c = let outside : ltb c.args.at 64 ≡ false = grind (arith, nat_tests) in record { value = rw outside refl; laws = membership }
