-- What the crates above this one rest on: literals, members of sets, facts of tables. Assumes nothing.

-- opposites, and the places of literals
pub use Rattle.literals.proofs.Members.{opposite-opposite, opposite-fluent, opposite_differs, opposite_below, opposite_past}
pub use Rattle.literals.proofs.Members.{place_below, place_past, literal_at_below, literal_place, place_literal}
-- the members that each operation makes
pub use Rattle.literals.proofs.Members.{has-and, has-or, has-without, has-empty, has_past, has_below, has-single, has-with, has-opposites, has_all}
-- each operation makes the number of a set
pub use Rattle.literals.proofs.Members.{and_below, or_below, without_below, single_below, with_below, opposites_below, all_below}
-- sets with the same members are equal, and a set with more members is a larger number
pub use Rattle.literals.proofs.Members.{same-members, no_members, covers-has, has-covers, covers_le, or_le, or_assoc, or-empty, or_none}
-- the lowest member
pub use Rattle.literals.proofs.Members.{Lowest, lowest_none, none_lowest, lowest_some, some_lowest}
-- how many members a set has
pub use Rattle.literals.proofs.Counting.{ones_members}
-- and where that is none or one
pub use Rattle.literals.proofs.Members.{ones_none, ones_empty, ones_power, ones_place, ones_one, ones_literal, ones_has, ones_single, has_ones}
-- the sets of a table
pub use Rattle.literals.proofs.Facts.{length-empty, empty_sets, length-full, full_sets, put_sets, told_sets}
-- the facts that a table shows
pub use Rattle.literals.proofs.Facts.{shows_late, shows-empty, shows-full, shows-put, shows-told}
-- which tables are the same, and which are full
pub use Rattle.literals.proofs.Facts.{length-common, shows-common, common_sets}
pub use Rattle.literals.proofs.Facts.{same_facts, same_decides, is_full-shows, shows-is_full, full-is_full}
-- how many actions are recorded
pub use Rattle.literals.proofs.Ordered.{recorded_few}
