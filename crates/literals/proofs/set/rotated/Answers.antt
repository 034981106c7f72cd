use Rattle.std.proofs.Common.{◌≡◌, ◌%◌, ◌^◌, arith}
use Rattle.literals.specs.Literals.{rotated}
use Rattle.literals.proofs.set.rotated.Goals as goal

pub returns : goal.returns
unfolding rotated
returns c = let whole : c.args.set % 2 ^ 64 ≡ c.args.set = omega arith in rw whole c.rotate_left.ensures
