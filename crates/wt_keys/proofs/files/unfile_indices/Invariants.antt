-- what was told elsewhere
use Rattle.std.proofs.Common.{◌≡◌, ℕ, Some, nat_eq}
use Rattle.std.specs.HashMap.{get}
use Rattle.wt_env.specs.Among.{Among}
use Rattle.wt_env.specs.declared.types.VMSharedTypeIndex.{VMSharedTypeIndex as Index}
use Rattle.wt_keys.proofs.files.unfile_indices.Given as goal

abbrev pub invariant-loop-index : goal.invariant-loop-index
invariant-loop-index l = (i : Index) (n : ℕ) → (Among i l.indices → ⊥) → get nat_eq l.initial.by_index i.0 ≡ Some n → get nat_eq l.by_index i.0 ≡ Some n
