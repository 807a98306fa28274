-- What makes a new entry: the next number, a key that no entry has, and the smallest free indices.
use Rattle.std.proofs.Common.{◌≡◌, ℕ, ◌+◌, List, length, None, sym, ap, subst, ◌∙◌, arith}
use Rattle.std.specs.List.{find}
use Rattle.wt_env.specs.Equality.{rec_group_eq}
use Rattle.wt_env.specs.Among.{Among}
use Rattle.wt_tree.specs.References.{number_group}
use Rattle.wt_keys.specs.declared.entry.RecGroupEntry.{RecGroupEntry}
use Rattle.wt_model.specs.Indices.{used, assign_shared_type_indices}
use Rattle.wt_model.specs.Describe.{describe}
use Rattle.wt_model.specs.Trampolines.{trampoline_numbers, TellTrampolines}
use Rattle.wt_keys.specs.Entries.{made_of, made_by}
use Rattle.wt_keys.specs.Keys.{ResolvesTo, KeyNamesTypes, AreKeys, IsNewKey}
use Rattle.wt_keys.specs.SupertypeChains.{FollowSupertypes}
use Rattle.wt_model.specs.Indices.{AreUnused, AreDistinct}
use Rattle.wt_keys.proofs.AddedKeys.{is_key-new}
use Rattle.wt_model.proofs.indices.FreshIndices.{length-assign_shared_type_indices, assign_shared_type_indices-below, assign_shared_type_indices-unused, assign_shared_type_indices-distinct}
use Rattle.wt_keys.proofs.KeyTrees.{describe-named}
use Rattle.wt_keys.proofs.KeyTrampolines.{told-numbers}

module _ (entries : List RecGroupEntry) (top : ℕ) (entry : RecGroupEntry) (number : entry.number ≡ top + 1) (names : ResolvesTo (made_by entries) entry.hash_consing_key.types entry.outer) (keys : AreKeys entries top) (tell : TellTrampolines (made_by entries) (number_group entry.hash_consing_key.types) entry.trampolines) (indices : entry.shared_type_indices ≡ assign_shared_type_indices (length entry.hash_consing_key.types) (used (made_by entries))) where
  pub new_key : KeyNamesTypes entry.hash_consing_key.types → find (λ e. rec_group_eq e.hash_consing_key entry.hash_consing_key) entries ≡ None → FollowSupertypes entries entry.shared_type_indices entry.hash_consing_key.types entry.supertypes
      → IsNewKey entries top entry
  new_key name_types new supertypes =
      let n = length entry.hash_consing_key.types in
      let numbers = used (made_by entries) in
      record {
        number = number;
        key = is_key-new entries top entry keys number names (ap length indices ∙ length-assign_shared_type_indices n numbers) name_types tell;
        new = new;
        unused = subst (AreUnused numbers) (sym indices) (assign_shared_type_indices-unused n numbers);
        distinct = subst AreDistinct (sym indices) (assign_shared_type_indices-distinct n numbers);
        within = λ i at.
            let below = assign_shared_type_indices-below n numbers i (subst (Among i) indices at) in
            let long = ap length indices ∙ length-assign_shared_type_indices n numbers in
            omega (arith, below, long);
        supertypes = supertypes;
      }

  -- and what it is among the registered groups
  pub new_made : made_of entry ≡ record { number = top + 1; description = describe (made_by entries) entry.hash_consing_key.types; trampolines = trampoline_numbers (made_by entries) (number_group entry.hash_consing_key.types); indices = assign_shared_type_indices (length entry.hash_consing_key.types) (used (made_by entries)) }
  new_made =
      let described = sym (describe-named (made_by entries) entry.hash_consing_key.types entry.outer names) in
      let told = told-numbers entries top keys (number_group entry.hash_consing_key.types) entry.trampolines tell in
      λ t. record { number = number t; description = described t; trampolines = told t; indices = indices t }
