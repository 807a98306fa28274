-- The plan that the fields of one stand for.
use Rattle.std.specs.Prelude.{◌≡◌, ℕ, ◌+◌, ◌<◌, ◌⊎◌, List, [], ◌∷◌, ◌++◌, length, map, Option, Some, None, IsSome, true}
use Rattle.wt_env.specs.Among.{Among}
use Rattle.wt_env.specs.declared.types.VMSharedTypeIndex.{VMSharedTypeIndex}
use Rattle.wt_env.specs.declared.types.EngineOrModuleTypeIndex.{EngineOrModuleTypeIndex}
use Rattle.wt_env.specs.declared.types.EngineOrModuleTypeIndex.TheVariants as index
use Rattle.wt_env.specs.declared.types.WasmSubType.{WasmSubType}
use Rattle.wt_env.specs.declared.types.WasmRecGroup.{WasmRecGroup}
use Rattle.wt_tree.specs.Canonical.{canonical_index}
use Rattle.wt_tree.specs.MapRefs.{map_group_refs}
use Rattle.wt_tree.specs.ModuleTree.{module_trees}
use Rattle.wt_tree.specs.Tree.{ClosedTree}
use Rattle.wt_tree.specs.Trampoline.{is_own_trampoline, other_trampoline}
use Rattle.wt_model.specs.Registered.{RegisteredGroup}
use Rattle.wt_model.specs.declared.ever.EverRegistered.{EverRegistered}
use Rattle.wt_model.specs.Indices.{used, locate, closed_tree}
use Rattle.wt_model.specs.Reach.{Reach}
use Rattle.wt_model.specs.Trampolines.{IsTrampoline, TellsTrampoline, TellTrampolines}
use Rattle.wt_model.specs.Plan.{Plan, Occurs, plan_trampolines, plan_group, plan_groups}
use Rattle.wt_model.specs.Sound.{KeepRules}
use Rattle.wt_keys.specs.declared.entry.RecGroupEntry.{RecGroupEntry}
use Rattle.wt_keys.specs.Entries.{made_by}
use Rattle.wt_keys.specs.Keys.{ResolvesTo, AreKeys, AreShown, IsNewKey}
use Rattle.wt_indices.specs.Free.{FreeSet, AreFreeBeside}
use Rattle.wt_plan.specs.declared.plan.Plan.{Plan as PlanFields}

-- each reference that leaves these types is the index of a registered type
abbrev pub AreResolved : List RegisteredGroup → List WasmSubType → Type 0
AreResolved made types = (outer : List (ℕ × ℕ)) × ResolvesTo made types outer

-- the free indices are those that no type has, of what stands and what was planned
abbrev pub AreFreeFor : List RecGroupEntry → List RecGroupEntry → FreeSet → Type 0
AreFreeFor entries added free = AreFreeBeside (used (made_by (entries ++ added))) free

-- the supertype that a member of a key declares is registered, or is one of so many members before it
abbrev pub HasList : List RegisteredGroup → ℕ → Option EngineOrModuleTypeIndex → Type 0
HasList made many None = Unit {0}
HasList made many (Some (index.Engine i)) = IsSome (locate made i)
HasList made many (Some (index.Module n)) = ⊥
HasList made many (Some (index.RecGroup k)) = k < many

-- the plan over what is registered
abbrev pub plan_of : List RecGroupEntry → PlanFields → Plan
plan_of entries plan = record {
  registered = made_by entries;
  added = made_by plan.added;
  given = plan.given;
  numbers = plan.numbers.items;
  map = plan.map.items;
}

-- each index of an entry that is new is below the number of all types
abbrev pub AreNewBelow : List RecGroupEntry → List RecGroupEntry → Type 0
AreNewBelow entries added =
    (entry : RecGroupEntry) (i : VMSharedTypeIndex) → Among entry added → Among i entry.shared_type_indices
    → i.0 < length (used (made_by (entries ++ added)))

-- entries that are added in turn, each new to those before it
abbrev pub AreNewKeys : List RecGroupEntry → ℕ → List RecGroupEntry → Type 0
AreNewKeys entries top [] = Unit {0}
AreNewKeys entries top (entry ∷ more) = IsNewKey entries top entry × AreNewKeys (entries ++ entry ∷ []) (top + 1) more

-- More entries were planned, and no occurrence.
pub record PlansMore (entries : List RecGroupEntry) (before after : PlanFields) (more : List RecGroupEntry) : Type 0 where
  pub added : after.added ≡ before.added ++ more
  pub new : AreNewKeys (entries ++ before.added) before.given.numbers more
  pub given : after.given.numbers ≡ before.given.numbers + length more
  pub shown : AreShown more

-- The group of this trampoline alone was planned, which has this number; what is new has it.
pub record PlansAlone (entries : List RecGroupEntry) (before after : PlanFields) (member : WasmSubType) (number : ℕ) : Type 0 where
  pub more : List RecGroupEntry
  pub plans : PlansMore entries before after more
  pub is : IsTrampoline (made_by (entries ++ after.added)) member number
  pub led : (e : RecGroupEntry) → Among e more → (e.number ≡ number) × (e.hash_consing_key.types ≡ member ∷ [])
  pub numbers : after.numbers.items ≡ before.numbers.items
  pub map : after.map.items ≡ before.map.items

-- The trampoline of a member was planned, where it isn't the member itself, and its group's number is told; what is
-- new has that number.
pub record PlansTold (entries : List RecGroupEntry) (before after : PlanFields) (member : Option WasmSubType) (told : Option ℕ) : Type 0 where
  pub more : List RecGroupEntry
  pub plans : PlansMore entries before after more
  pub tells : TellsTrampoline (made_by (entries ++ after.added)) member told
  pub led : (e : RecGroupEntry) → Among e more → (told ≡ Some e.number) × (m : WasmSubType) × (member ≡ Some m) × (e.hash_consing_key.types ≡ m ∷ [])
  pub numbers : after.numbers.items ≡ before.numbers.items
  pub map : after.map.items ≡ before.map.items

-- The trampolines of members were planned, and they are told; each that is new is told, and is that of a member.
pub record PlansTrampolines (entries : List RecGroupEntry) (before after : PlanFields) (members : List WasmSubType) (told : List (Option ℕ)) : Type 0 where
  pub planned : plan_trampolines (plan_of entries before) members ≡ plan_of entries after
  pub keys : AreKeys (entries ++ after.added) after.given.numbers
  pub more : List RecGroupEntry
  pub plans : PlansMore entries before after more
  pub tell : TellTrampolines (made_by (entries ++ after.added)) members told
  pub led : (e : RecGroupEntry) → Among e more → Among (Some e.number) told
      × (ty : WasmSubType) × (m : WasmSubType) × Among ty members × (other_trampoline ty ≡ Some m) × (e.hash_consing_key.types ≡ m ∷ [])
  pub numbers : after.numbers.items ≡ before.numbers.items
  pub map : after.map.items ≡ before.map.items

-- the group of a trampoline alone
abbrev pub IsAlone : RecGroupEntry → Type 0
IsAlone entry = (member : WasmSubType) × (is_own_trampoline member ≡ true) × (entry.hash_consing_key.types ≡ member ∷ [])

-- One more group was planned: an entry that has these types as its key. It was there, or it is new, behind others
-- that are new, to which it leads: trampolines of its members.
pub record PlansOne (entries : List RecGroupEntry) (before after : PlanFields) (types : List WasmSubType) : Type 0 where
  pub entry : RecGroupEntry
  pub group : entry.hash_consing_key.types ≡ types
  pub numbers : after.numbers.items ≡ before.numbers.items ++ entry.number ∷ []
  pub map : after.map.items ≡ before.map.items ++ entry.shared_type_indices
  pub stands : Among entry (entries ++ after.added)
  pub more : List RecGroupEntry
  pub plans : PlansMore entries before after more
  pub led : (e : RecGroupEntry) → Among e more → (e.number ≡ entry.number) ⊎ Among (Some e.number) entry.trampolines
  pub alone : (e : RecGroupEntry) → Among e more → (e ≡ entry) ⊎ IsAlone e

-- the key of a module's group behind the types so far
abbrev pub key_of : PlanFields → WasmRecGroup → List WasmSubType
key_of plan group = map_group_refs (canonical_index (length plan.map.items) plan.map.items) group.types

-- One more group of a module was planned, and no type breaks a rule on what it names.
pub record PlansGroup (entries : List RecGroupEntry) (before after : PlanFields) (group : WasmRecGroup) : Type 0 where
  pub planned : plan_group (plan_of entries before) group ≡ plan_of entries after
  pub keys : AreKeys (entries ++ after.added) after.given.numbers
  pub one : PlansOne entries before after (key_of before group)
  pub rules : KeepRules (made_by (entries ++ after.added))

-- the closed trees of the types so far
abbrev pub AreNamed : List RecGroupEntry → PlanFields → List ClosedTree → Type 0
AreNamed entries plan known = map (closed_tree (made_by (entries ++ plan.added))) plan.map.items ≡ map Some known

-- The groups of a module were planned: the groups that are new have keys that no other has, indices of their own, and the
-- form in which they are shown; each occurs or is a trampoline of one that does; the types have the closed trees that
-- the module gives them; and no type breaks a rule on what it names.
pub record PlansModule (entries : List RecGroupEntry) (first plan : PlanFields) (groups : List WasmRecGroup) : Type 0 where
  pub planned : plan_groups (plan_of entries first) groups ≡ plan_of entries plan
  pub keys : AreKeys (entries ++ plan.added) plan.given.numbers
  pub shown : AreShown plan.added
  pub below : AreNewBelow entries plan.added
  pub occurs : Occurs (plan_of entries plan)
  pub named : AreNamed entries plan (module_trees [] groups)
  pub rules : KeepRules (made_by (entries ++ plan.added))

-- ---- one type of a host

-- nothing is planned yet, where so much was registered
abbrev pub nothing_planned : List RecGroupEntry → EverRegistered → Plan
nothing_planned entries given = record { registered = made_by entries; added = []; given = given; numbers = []; map = [] }

-- One type was planned, the only one of its group, where registrations had numbers up to this one: the groups that are new
-- have keys that no other has, indices of their own, and the form in which they are shown; edges lead to each of them from
-- the type's group, which has this number; the type has this index; and no type breaks a rule on what it names.
pub record PlansType (entries : List RecGroupEntry) (top : ℕ) (plan : PlanFields) (number : ℕ) (i : VMSharedTypeIndex) : Type 0 where
  pub keys : AreKeys (entries ++ plan.added) plan.given.numbers
  pub new : AreNewKeys entries top plan.added
  pub given : plan.given.numbers ≡ top + length plan.added
  pub shown : AreShown plan.added
  pub below : AreNewBelow entries plan.added
  pub stands : (entry : RecGroupEntry) × Among entry (entries ++ plan.added) × (entry.number ≡ number)
  pub led : (entry : RecGroupEntry) → Among entry plan.added → Reach (made_by (entries ++ plan.added)) number entry.number
  pub located : locate (made_by (entries ++ plan.added)) i ≡ Some (number, 0)
  pub rules : KeepRules (made_by (entries ++ plan.added))

-- The same, and this type alone occurs.
pub record PlansHost (entries : List RecGroupEntry) (top : ℕ) (plan : PlanFields) : Type 0 where
  pub number : ℕ
  pub index : VMSharedTypeIndex
  pub plans : PlansType entries top plan number index
  pub numbers : plan.numbers.items ≡ number ∷ []
  pub map : plan.map.items ≡ index ∷ []
