-- The canonical form of a group, in two steps: its own types by their places, and then what leaves it by
-- engine indices. The second step leaves what is the group's own.
use Rattle.std.proofs.Common.{◌≡◌, ℕ, ◌-◌, Bool, true, false, nat_lt, if◌then◌else◌, List, map, slice_get, Option, Some, None, option_map, unwrap_or, refl, ap, sym, ◌∙◌}
use Rattle.std.proofs.lemmas.Bool.{false≢true}
use Rattle.wt_env.specs.declared.types.VMSharedTypeIndex.{VMSharedTypeIndex}
use Rattle.wt_env.specs.declared.types.ModuleInternedTypeIndex.{ModuleInternedTypeIndex}
use Rattle.wt_env.specs.declared.types.EngineOrModuleTypeIndex.{EngineOrModuleTypeIndex}
use Rattle.wt_env.specs.declared.types.EngineOrModuleTypeIndex.TheVariants as index
use Rattle.wt_env.specs.declared.types.WasmSubType.{WasmSubType}
use Rattle.wt_tree.specs.References.{group_refs, number_group}
use Rattle.wt_tree.specs.MapRefs.{LeavesOwn, leaves_group, map_group_refs}
use Rattle.wt_tree.specs.Canonical.{known_at, known_index, own_index, canonical_index}
use Rattle.wt_tree.proofs.Changing.{map_group_refs-same, map_group_refs-over}
use Rattle.wt_tree.proofs.Leaving.{leaves_own, number_group-over, group_refs-over}

pub canonical_index-known : (start : ℕ) (known : List VMSharedTypeIndex) (i : EngineOrModuleTypeIndex) → canonical_index start known i ≡ known_index known (own_index start i)
canonical_index-known start known (index.Engine i) = refl
canonical_index-known start known (index.Module i) = by (nat_lt i.0 start)
  where
    by : (earlier : Bool) → (if earlier then known_at known i else index.RecGroup (i.0 - start)) ≡ known_index known (if earlier then index.Module i else index.RecGroup (i.0 - start))
    by true = refl
    by false = refl
canonical_index-known start known (index.RecGroup k) = refl

known_at-leaves : (found : Option VMSharedTypeIndex) (i : ModuleInternedTypeIndex) → leaves_group (unwrap_or (option_map index.Engine found) (index.Module i)) ≡ true
known_at-leaves None i = refl
known_at-leaves (Some engine) i = refl

pub known_index-leaves : (known : List VMSharedTypeIndex) → LeavesOwn (known_index known)
known_index-leaves known = leaves_own (known_index known) (λ k. refl) leaving
  where
    leaving : (i : EngineOrModuleTypeIndex) → leaves_group i ≡ true → leaves_group (known_index known i) ≡ true
    leaving (index.Engine i) leaves = refl
    leaving (index.Module i) leaves = known_at-leaves (slice_get known i.0) i
    leaving (index.RecGroup k) leaves = absurd (false≢true leaves)

pub canonical_group-known : (start : ℕ) (known : List VMSharedTypeIndex) (ts : List WasmSubType) → map_group_refs (canonical_index start known) ts ≡ map_group_refs (known_index known) (map_group_refs (own_index start) ts)
canonical_group-known start known ts =
    map_group_refs-same (canonical_index start known) (λ i. known_index known (own_index start i)) (canonical_index-known start known) ts
    ∙ sym (map_group_refs-over (known_index known) (own_index start) ts)

-- what is known doesn't change the numbered group
pub canonical_group-numbers : (start : ℕ) (known : List VMSharedTypeIndex) (ts : List WasmSubType) → number_group (map_group_refs (canonical_index start known) ts) ≡ number_group (map_group_refs (own_index start) ts)
canonical_group-numbers start known ts =
    ap number_group (canonical_group-known start known ts)
    ∙ number_group-over (known_index known) (known_index-leaves known) (map_group_refs (own_index start) ts)

-- what leaves the canonical group is what leaves the group, by engine indices
pub canonical_group-refs : (start : ℕ) (known : List VMSharedTypeIndex) (ts : List WasmSubType) → group_refs (map_group_refs (canonical_index start known) ts) ≡ map (known_index known) (group_refs (map_group_refs (own_index start) ts))
canonical_group-refs start known ts =
    ap group_refs (canonical_group-known start known ts)
    ∙ group_refs-over (known_index known) (known_index-leaves known) (map_group_refs (own_index start) ts)
