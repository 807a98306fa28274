-- the ledger that nobody reads
use Rattle.wt_keys.proofs.subtyping.RegisteredTypesSupers.is_subtype.Given as goal

abbrev pub ghosts-leads_uncounted : goal.ghosts-leads_uncounted
ghosts-leads_uncounted a = record { name = a.blank.name; parts = a.blank.parts }
