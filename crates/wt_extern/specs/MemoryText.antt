-- The texts of refused memory types (those of wasmtime).
use Rattle.std.specs.Prelude.{ℕ, List, ◌++◌, codes}
use Rattle.std.specs.Fmt.{decimal}
use Rattle.wt_extern.specs.declared.memory_refusal.MemoryRefusal.{MemoryRefusal}
use Rattle.wt_extern.specs.declared.memory_refusal.MemoryRefusal.TheVariants.{MaximumBelowMinimum, PageSize, SharedWithoutMaximum, MinimumPastU64, MinimumTooLarge, MaximumTooLarge}

abbrev pub memory_refusal_text : MemoryRefusal → List ℕ
memory_refusal_text MaximumBelowMinimum = codes "maximum page size cannot be smaller than the minimum page size"
memory_refusal_text (PageSize log2) = codes "page size must be 2**16 or 2**0, but was given 2**" ++ decimal log2 ++ codes "; note that future Wasm extensions might allow any power of two page size, but only 2**16 and 2**0 are currently valid"
memory_refusal_text SharedWithoutMaximum = codes "shared memories must have a maximum size"
memory_refusal_text MinimumPastU64 = codes "memory's minimum byte size must fit in a u64"
memory_refusal_text MinimumTooLarge = codes "minimum size is too large for this memory type's index type"
memory_refusal_text MaximumTooLarge = codes "maximum size is too large for this memory type's index type"
