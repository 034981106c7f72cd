-- What the layouts above this crate rest on. Assumes nothing.

-- numerals, and how many bytes packed bits have
pub use Rattle.bits.proofs.Numbers.{length-numeral}
pub use Rattle.bits.proofs.Packing.{length-packed}
-- bits that stand at a place, fields read there, and the end of a layout
pub use Rattle.bits.proofs.Standing.{Stands, stands_none, stands_split, stands_join, field_reads, field_stands, packed_stands, packed_ends, packed_only}
-- what accepted reads say of their parts
pub use Rattle.bits.proofs.Pieces.{err_not_ok, same_answer, both_read, test_passed, lifted_read, not_refused, test_answered}
-- pieces of a layout, read back as they are printed
pub use Rattle.bits.proofs.Pieces.{Piece, field_piece, tested, tested_piece, chained, piece_made, piece_then, piece_by, FirstAndRest, none_piece, cons_piece}
-- bits written one after another
pub use Rattle.bits.proofs.Writing.{wrote_none, wrote_as, wrote_then, wrote_refused, wrote_all}
-- lists joined from the parts of other lists
pub use Rattle.bits.proofs.Joins.{joined-append, joined-take, length_more, length-all, joined_split, joined-map}
