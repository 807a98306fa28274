-- The closed trees of a module's types where one more group was planned: those so far, and those of the group.
use Rattle.std.proofs.Common.{◌≡◌, ℕ, inl, inr, true, List, [], ◌∷◌, ◌++◌, length, map, drop, slice_get, Option, Some, unwrap_or, refl, sym, ap, ◌∙◌, append_assoc}
use Rattle.std.proofs.Math.Seq.{drop-append_seam}
use Rattle.std.proofs.lemmas.List.{map-append, length-map}
use Rattle.wt_env.specs.Among.{Among}
use Rattle.wt_env.specs.declared.types.VMSharedTypeIndex.{VMSharedTypeIndex}
use Rattle.wt_env.specs.declared.types.EngineOrModuleTypeIndex.{EngineOrModuleTypeIndex}
use Rattle.wt_env.specs.declared.types.EngineOrModuleTypeIndex.TheVariants as index
use Rattle.wt_env.specs.declared.types.WasmRecGroup.{WasmRecGroup}
use Rattle.wt_env.proofs.lists.Members.{first_same, rest_same}
use Rattle.wt_tree.specs.Canonical.{canonical_index}
use Rattle.wt_tree.specs.MapRefs.{map_sub_refs}
use Rattle.wt_tree.specs.ModuleTree.{members_from, group_tree}
use Rattle.wt_tree.specs.References.{group_refs}
use Rattle.wt_tree.specs.Tree.{Tree, ClosedTree, no_tree}
use Rattle.wt_tree.specs.Fit.{named_by}
use Rattle.wt_rules.specs.Rules.{is_module_index, group_trees}
use Rattle.wt_model.specs.Registered.{RegisteredGroup}
use Rattle.wt_model.specs.Indices.{locate, closed_tree}
use Rattle.wt_model.specs.Trees.{trees}
use Rattle.wt_model.specs.Describe.{tree_of}
use Rattle.wt_model.proofs.trees.KnownTrees.{members-named, trees-located, trees-length}
use Rattle.wt_keys.specs.declared.entry.RecGroupEntry.{RecGroupEntry}
use Rattle.wt_keys.specs.Entries.{made_by}
use Rattle.wt_keys.specs.Keys.{AreKeys}
use Rattle.wt_keys.proofs.AddedKeys.{closed_tree-registered}
use Rattle.wt_keys.proofs.KeyTrees.{tree-of_key}
use Rattle.wt_plan.specs.declared.plan.Plan.{Plan as PlanFields}
use Rattle.wt_plan.specs.Planned.{AreResolved, AreNewKeys, PlansOne, key_of}
use Rattle.wt_plan.proofs.ModuleKeys.{canonical-tree}
use Rattle.wt_plan.proofs.GrownKeys.{closed_tree-grown, tree_of-grown}

-- earlier trees stay where groups are added
pub named-grown_all : (all : List RecGroupEntry) (top : ℕ) (more : List RecGroupEntry) (indices : List VMSharedTypeIndex) → AreKeys all top → AreNewKeys all top more → ((i : VMSharedTypeIndex) → Among i indices → (at : ℕ × ℕ) × (locate (made_by all) i ≡ Some at))
    → map (closed_tree (made_by (all ++ more))) indices ≡ map (closed_tree (made_by all)) indices
named-grown_all all top more [] keys new stand = refl
named-grown_all all top more (i ∷ indices) keys new stand =
    let here = stand i (inl refl) in
    let first = closed_tree-grown all top more keys new i here.0 here.1 in
    let rest = named-grown_all all top more indices keys new (λ j there. stand j (inr there)) in
    λ k. first k ∷ rest k

-- where the closed trees of indices are known, they are what the indices name
pub named-known : (made : List RegisteredGroup) (indices : List VMSharedTypeIndex) (known : List ClosedTree) → map (closed_tree made) indices ≡ map Some known
    → map (λ (i : VMSharedTypeIndex). named_by (closed_tree made) (index.Engine i)) indices ≡ known
named-known made [] [] is = refl
named-known made [] (t ∷ known) is = absurd (cc)
named-known made (i ∷ indices) [] is = absurd (cc)
named-known made (i ∷ indices) (t ∷ known) is =
    let here = ap (λ (found : Option ClosedTree). unwrap_or found no_tree) (first_same is) in
    let rest = named-known made indices known (rest_same is) in
    λ k. here k ∷ rest k

-- each of the closed trees that are known is that of an index
pub known-index : (made : List RegisteredGroup) (indices : List VMSharedTypeIndex) (known : List ClosedTree) → map (closed_tree made) indices ≡ map Some known
    → (t : ClosedTree) → Among t known → (i : VMSharedTypeIndex) × Among i indices × (closed_tree made i ≡ Some t)
known-index made [] [] is t at = absurd at
known-index made [] (u ∷ known) is t at = absurd (cc)
known-index made (i ∷ indices) [] is t at = absurd at
known-index made (i ∷ indices) (u ∷ known) is t (inl same) = (i, inl refl, first_same is ∙ ap Some (sym same))
known-index made (i ∷ indices) (u ∷ known) is t (inr there) =
    let rest = known-index made indices known (rest_same is) t there in
    (rest.0, inr rest.1, rest.2)

-- as many indices as the group has types
pub as_many : (entry : RecGroupEntry) (plan : PlanFields) (group : WasmRecGroup) → length entry.shared_type_indices ≡ length entry.hash_consing_key.types → entry.hash_consing_key.types ≡ key_of plan group → length entry.shared_type_indices ≡ length group.types
as_many entry plan group members same =
    members ∙ ap length same
    ∙ length-map group.types (map_sub_refs (canonical_index (length plan.map.items) plan.map.items))

module _ (entries : List RecGroupEntry) (plan after : PlanFields) (group : WasmRecGroup) (module_only : (i : EngineOrModuleTypeIndex) → Among i (group_refs group.types) → is_module_index i ≡ true) (resolved : AreResolved (made_by (entries ++ plan.added)) (key_of plan group)) (before : AreKeys (entries ++ plan.added) plan.given.numbers) (one : PlansOne entries plan after (key_of plan group)) (keys : AreKeys (entries ++ after.added) after.given.numbers) (known : List ClosedTree) (named : map (closed_tree (made_by (entries ++ plan.added))) plan.map.items ≡ map Some known) where
  abbrev all : List RecGroupEntry
  all = entries ++ plan.added

  -- what stands then
  abbrev made : List RegisteredGroup
  made = made_by (entries ++ after.added)

  pub grown : all ++ one.more ≡ entries ++ after.added
  grown = append_assoc entries plan.added one.more ∙ ap (λ (added : List RecGroupEntry). entries ++ added) (sym one.plans.added)

  pub as_many_types : length one.entry.shared_type_indices ≡ length group.types
  as_many_types = as_many one.entry plan group (keys.keys one.entry one.stands).members one.group

  pub earlier-named : map (closed_tree made) plan.map.items ≡ map Some known
  earlier-named =
      ap (λ (es : List RecGroupEntry). map (closed_tree (made_by es)) plan.map.items) (sym grown)
      ∙ named-grown_all all plan.given.numbers one.more plan.map.items before one.plans.new (trees-located (made_by all) plan.map.items known named)
      ∙ named

  -- the tree of the entry is that of the module's group
  pub own_tree : trees made one.entry.number ≡ group_tree known group.types
  own_tree =
      tree-of_key (entries ++ after.added) after.given.numbers one.entry keys one.stands
      ∙ ap (tree_of made) one.group
      ∙ ap (λ (es : List RecGroupEntry). tree_of (made_by es) (key_of plan group)) (sym grown)
      ∙ tree_of-grown all plan.given.numbers one.more before one.plans.new (key_of plan group) resolved.0 resolved.1
      ∙ canonical-tree (made_by all) plan.map.items known group.types module_only named

  pub own_trees : (k : ℕ) (i : VMSharedTypeIndex) → slice_get one.entry.shared_type_indices k ≡ Some i → closed_tree made i ≡ Some (record { tree = group_tree known group.types; place = k })
  own_trees k i is =
      closed_tree-registered (entries ++ after.added) after.given.numbers one.entry k i keys one.stands is
      ∙ ap (λ (t : Tree). Some (record { tree = t; place = k })) own_tree

  -- the closed trees of the group's types are those of the entry's indices
  pub group-named : map (closed_tree made) one.entry.shared_type_indices ≡ map Some (group_trees known group)
  group-named =
      members-named made (group_tree known group.types) one.entry.shared_type_indices own_trees
      ∙ ap (λ (n : ℕ). map Some (members_from (group_tree known group.types) 0 n)) as_many_types

  pub all-named : map (closed_tree made) after.map.items ≡ map Some (known ++ group_trees known group)
  all-named =
      ap (map (closed_tree made)) one.map
      ∙ map-append (closed_tree made) plan.map.items one.entry.shared_type_indices
      ∙ (λ i. earlier-named i ++ group-named i)
      ∙ sym (map-append Some known (group_trees known group))

  -- they are what the indices behind those so far name
  pub behind-named : map (λ (i : VMSharedTypeIndex). named_by (closed_tree made) (index.Engine i)) (drop (length plan.map.items) after.map.items) ≡ group_trees known group
  behind-named =
      ap (λ (indices : List VMSharedTypeIndex). map (λ (i : VMSharedTypeIndex). named_by (closed_tree made) (index.Engine i)) (drop (length plan.map.items) indices)) one.map
      ∙ ap (map (λ (i : VMSharedTypeIndex). named_by (closed_tree made) (index.Engine i))) (drop-append_seam plan.map.items one.entry.shared_type_indices)
      ∙ named-known made one.entry.shared_type_indices (group_trees known group) group-named

  pub known-count : length plan.map.items ≡ length known
  known-count = trees-length (made_by all) plan.map.items known named
