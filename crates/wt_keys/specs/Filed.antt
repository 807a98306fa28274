-- How entries are found: by their keys, and by the indices of their types, through registration numbers.
use Rattle.std.specs.Prelude.{◌≡◌, ℕ, ◌<◌, Bool, List, [], ◌∷◌, Option, Some, None, option_and_then, if◌then◌else◌}
use Rattle.wt_env.specs.Among.{Among}
use Rattle.wt_env.specs.declared.types.VMSharedTypeIndex.{VMSharedTypeIndex}
use Rattle.wt_env.specs.declared.types.WasmRecGroup.{WasmRecGroup}
use Rattle.wt_keys.specs.declared.entry.RecGroupEntry.{RecGroupEntry}

-- registration numbers rise from above low
abbrev pub NumbersRise : ℕ → List RecGroupEntry → Type 0
NumbersRise low [] = Unit {0}
NumbersRise low (entry ∷ entries) = (low < entry.number) × NumbersRise entry.number entries

-- two entries with one key, or with one index, have one number
pub record Agree (a b : RecGroupEntry) : Type 0 where
  pub keys : a.hash_consing_key ≡ b.hash_consing_key → a.number ≡ b.number
  pub indices : (i : VMSharedTypeIndex) → Among i a.shared_type_indices → Among i b.shared_type_indices → a.number ≡ b.number

-- entries with different numbers, keys and indices, in the order of their numbers
pub record AreApart (entries : List RecGroupEntry) : Type 0 where
  pub rising : NumbersRise 0 entries
  pub agree : (a b : RecGroupEntry) → Among a entries → Among b entries → Agree a b

-- the number of an entry is told at its key, and at each of its indices
pub record IsFiled (by_key : WasmRecGroup → Option ℕ) (by_index : ℕ → Option ℕ) (entry : RecGroupEntry) : Type 0 where
  pub key : by_key entry.hash_consing_key ≡ Some entry.number
  pub indices : (i : VMSharedTypeIndex) → Among i entry.shared_type_indices → by_index i.0 ≡ Some entry.number

-- Each entry's number is told at its key and at each of its indices. More may be told, of entries that aren't there.
abbrev pub AreFiled : (WasmRecGroup → Option ℕ) → (ℕ → Option ℕ) → List RecGroupEntry → Type 0
AreFiled by_key by_index entries = (entry : RecGroupEntry) → Among entry entries → IsFiled by_key by_index entry

-- what is found, if it passes
abbrev pub passing : (RecGroupEntry → Bool) → Option RecGroupEntry → Option RecGroupEntry
passing test found = option_and_then (λ entry. if test entry then Some entry else None) found
