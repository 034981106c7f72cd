-- What the crates above this one rest on. Assumes nothing.

-- how worlds move on a lawful sheet
pub use Rattle.knowledge.proofs.Moving.{moves}
-- what the history reasoner shows is exactly what is known, and it keeps the five laws
pub use Rattle.knowledge.proofs.HistoryLaws.{closure_known, known_closure, shows_known, history_laws}
-- the world reasoner shows exactly what is true in every agreeing world, and keeps the five laws
pub use Rattle.knowledge.proofs.Narrowing.{shows_true}
pub use Rattle.knowledge.proofs.WorldLaws.{world_laws}
-- sweeps: each leaves a table, and less room or the table as it was
pub use Rattle.knowledge.proofs.Turns.{Fitting, sweep_table}
pub use Rattle.knowledge.proofs.Closing.{fitting_of, start_table, sweep_falls, sweeps_done, sweeps_again}
-- unions over effects, one after another
pub use Rattle.knowledge.proofs.Unions.{blank, union_first, union_more, union_done, coming_union, firing_union}
-- what two tables both show is a table; a reasoner that supposes a fluent both ways keeps the laws of the one below it
pub use Rattle.knowledge.proofs.SupposeLaws.{common_table, suppose_laws}
-- the table of the told facts that count
pub use Rattle.knowledge.proofs.Closing.{base_table, base_shows}
-- what is in reach, with one order or look more, and in the full table
pub use Rattle.knowledge.proofs.Reach.{reach_early, reach_full, full_reach}
pub use Rattle.knowledge.proofs.Extended.{reach_more, reach_less}
-- two tests that follow from one another are the same
pub use Rattle.knowledge.proofs.States.{same_tests}
