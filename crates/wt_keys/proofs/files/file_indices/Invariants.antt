-- the number is told at the indices so far, and elsewhere what was told
use Rattle.std.proofs.Common.{◌≡◌, ℕ, Some, nat_eq, take}
use Rattle.std.specs.HashMap.{get}
use Rattle.wt_env.specs.Among.{Among}
use Rattle.wt_env.specs.declared.types.VMSharedTypeIndex.{VMSharedTypeIndex as Index}
use Rattle.wt_keys.proofs.files.file_indices.Given as goal

abbrev pub invariant-loop-index : goal.invariant-loop-index
invariant-loop-index l = record {
  kept : (i : Index) (n : ℕ) → (Among i l.indices → n ≡ l.number) → get nat_eq l.initial.by_index i.0 ≡ Some n → get nat_eq l.by_index i.0 ≡ Some n;
  told : (i : Index) → Among i (take l.index-index l.indices) → get nat_eq l.by_index i.0 ≡ Some l.number;
}
