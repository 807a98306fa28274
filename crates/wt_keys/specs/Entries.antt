-- What an entry stands for.
use Rattle.std.specs.Prelude.{List, map}
use Rattle.wt_tree.specs.References.{number_group}
use Rattle.wt_model.specs.Registered.{RegisteredGroup}
use Rattle.wt_keys.specs.declared.entry.RecGroupEntry.{RecGroupEntry}

-- a key with the registrations that its references name, as a description says it
abbrev pub made_of : RecGroupEntry → RegisteredGroup
made_of entry = record {
  number = entry.number;
  description = record { members = number_group entry.hash_consing_key.types; outer = entry.outer };
  trampolines = entry.trampolines;
  indices = entry.shared_type_indices;
}

abbrev pub made_by : List RecGroupEntry → List RegisteredGroup
made_by entries = map made_of entries
