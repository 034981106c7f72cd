-- Membership obeys its laws. Assumes nothing.
use Rattle.literals.specs.Membership.{Membership}
use Rattle.literals.proofs.Members.{has-and, has-or, has-without, has-with, has-opposites, has_all, has-empty, covers-has, has-covers, same-members}

pub membership : Membership
membership =
    record {
      common = has-and;
      either = has-or;
      removed = has-without;
      added = has-with;
      opposed = has-opposites;
      every = has_all;
      none = has-empty;
      part = λ s p small. (covers-has s p, has-covers s p small);
      same = same-members;
    }
