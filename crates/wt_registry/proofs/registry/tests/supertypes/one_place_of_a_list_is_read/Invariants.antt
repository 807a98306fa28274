-- the ledger that nobody reads
use Rattle.wt_registry.proofs.registry.tests.supertypes.one_place_of_a_list_is_read.Given as goal

abbrev pub ghosts-last_is_below_each : goal.ghosts-last_is_below_each
ghosts-last_is_below_each g a = record { name = a.blank.name; parts = a.blank.parts }
