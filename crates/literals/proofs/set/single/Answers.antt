use Rattle.std.proofs.Common.{◌≡◌, true, false, ltb, refl, arith}
use Rattle.std.proofs.lemmas.Nat.{one_shl}
use Rattle.std.proofs.lemmas.Bool.Decides.{nat_tests}
use Rattle.literals.specs.Literals.{single}
use Rattle.literals.proofs.Members.{place_below}
use Rattle.literals.proofs.set.single.Goals as goal

pub overflow_shl-result : goal.overflow_shl-result
overflow_shl-result c = omega (arith, place_below c.args.literal (omega arith))

pub returns-then-literal-lt64 : goal.returns-then-literal-lt64
unfolding single
returns-then-literal-lt64 c =
    let inside : ltb c.args.literal 64 ≡ true = grind (arith, nat_tests) in
    rw (inside, ← c.place.ensures) (one_shl c.place.result 64 (omega (arith, place_below c.args.literal (omega arith))))

pub returns-else-literal-lt64 : goal.returns-else-literal-lt64
unfolding single
returns-else-literal-lt64 c = let outside : ltb c.args.literal 64 ≡ false = grind (arith, nat_tests) in rw outside refl
