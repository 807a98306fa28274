-- The lists of the members of a new group, one after another: each member declares what has a list already.
use Rattle.std.proofs.Common.{◌≡◌, ◌⊎◌, inl, inr, ℕ, zero, suc, ◌<◌, true, List, [], ◌∷◌, ◌++◌, length, map, take, slice_get, Option, Some, None, is_some, refl, sym, ap, subst, ◌∙◌, arith}
use Rattle.std.proofs.lemmas.List.{length-append, length-take-le}
use Rattle.std.proofs.lemmas.Option.{slice_get_within}
use Rattle.wt_env.specs.Among.{Among}
use Rattle.wt_env.specs.declared.types.VMSharedTypeIndex.{VMSharedTypeIndex}
use Rattle.wt_env.specs.declared.types.EngineOrModuleTypeIndex.{EngineOrModuleTypeIndex}
use Rattle.wt_env.specs.declared.types.EngineOrModuleTypeIndex.TheVariants as index
use Rattle.wt_env.specs.declared.types.WasmSubType.{WasmSubType}
use Rattle.wt_env.proofs.lists.Members.{first_same, rest_same, some_same, get_among, among_before, among_behind}
use Rattle.wt_tree.specs.References.{super_refs, shape_refs, sub_refs, group_refs}
use Rattle.wt_model.specs.Registered.{RegisteredGroup}
use Rattle.wt_keys.specs.declared.entry.RecGroupEntry.{RecGroupEntry}
use Rattle.wt_keys.specs.Keys.{named_at, KeyNamesEarlier, KeyNamesTypes}
use Rattle.wt_keys.specs.SupertypeChains.{FollowsSupertype, FollowSupertypes}
use Rattle.wt_keys.proofs.SupertypeLists.{kept-at}
use Rattle.wt_plan.specs.Planned.{AreResolved, HasList}

-- ---- what a member declares has a list

super-among : (types : List WasmSubType) (ty : WasmSubType) (i : VMSharedTypeIndex) → Among ty types → ty.supertype ≡ Some (index.Engine i) → Among (index.Engine i) (group_refs types)
super-among [] ty i at is = absurd at
super-among (t ∷ ts) ty i (inl same) is =
    let own : t.supertype ≡ Some (index.Engine i) = ap (λ (x : WasmSubType). x.supertype) (sym same) ∙ is in
    let first : Among (index.Engine i) (super_refs t.supertype) = subst (λ (o : Option EngineOrModuleTypeIndex). Among (index.Engine i) (super_refs o)) (sym own) (inl refl) in
    among_before (sub_refs t) (group_refs ts) (index.Engine i) (among_before (super_refs t.supertype) (shape_refs t.composite_type) (index.Engine i) first)
super-among (t ∷ ts) ty i (inr later) is = among_behind (sub_refs t) (group_refs ts) (index.Engine i) (super-among ts ty i later is)

named-each : (made : List RegisteredGroup) (xs : List EngineOrModuleTypeIndex) (os : List (ℕ × ℕ)) (x : EngineOrModuleTypeIndex) → map (named_at made) xs ≡ map Some os → Among x xs → is_some (named_at made x) ≡ true
named-each made [] os x is at = absurd at
named-each made (y ∷ ys) [] x is at = absurd (cc)
named-each made (y ∷ ys) (o ∷ os) x is (inl same) = ap (λ z. is_some (named_at made z)) same ∙ ap is_some (first_same is)
named-each made (y ∷ ys) (o ∷ os) x is (inr later) = named-each made ys os x (rest_same is) later

-- the next member of a key
pub has_list : (made : List RegisteredGroup) (types : List WasmSubType) (place : ℕ) (ty : WasmSubType) → AreResolved made types → KeyNamesTypes types → slice_get types place ≡ Some ty → (many : ℕ) → many ≡ place → HasList made many ty.supertype
has_list made types place ty named names stands many same = by ty.supertype refl
  where
    of : (x : EngineOrModuleTypeIndex) → ty.supertype ≡ Some x → KeyNamesEarlier place x → HasList made many (Some x)
    of (index.Engine i) is earlier = named-each made (group_refs types) named.0 (index.Engine i) named.1 (super-among types ty i (get_among types place ty stands) is)
    of (index.Module n) is earlier = absurd earlier
    of (index.RecGroup k) is earlier = omega (arith, earlier, same)

    by : (o : Option EngineOrModuleTypeIndex) → ty.supertype ≡ o → HasList made many o
    by None is = tt
    by (Some x) is = of x is (names.supertypes place ty x stands is)

-- ---- one list more

-- what stands in a list with one more stood there, or is the one more
pushed-cases : {A : Type 0} (xs : List A) (x y : A) (n : ℕ) → slice_get (xs ++ x ∷ []) n ≡ Some y → (slice_get xs n ≡ Some y) ⊎ ((n ≡ length xs) × (y ≡ x))
pushed-cases [] x y zero is = inr (refl, sym (some_same is))
pushed-cases [] x y (suc n) is = absurd (cc)
pushed-cases (z ∷ zs) x y zero is = inl is
pushed-cases (z ∷ zs) x y (suc n) is = by (pushed-cases zs x y n is)
  where
    by : (slice_get zs n ≡ Some y) ⊎ ((n ≡ length zs) × (y ≡ x)) → (slice_get zs n ≡ Some y) ⊎ ((suc n ≡ suc (length zs)) × (y ≡ x))
    by (inl before) = inl before
    by (inr last) = inr (ap suc last.0, last.1)

module _ (entries : List RecGroupEntry) (indices : List VMSharedTypeIndex) where
  follows-still : (lists more : List (List VMSharedTypeIndex)) (supertype : Option EngineOrModuleTypeIndex) (list : List VMSharedTypeIndex) → FollowsSupertype entries indices lists supertype list → FollowsSupertype entries indices (lists ++ more) supertype list
  follows-still lists more None list follows = follows
  follows-still lists more (Some (index.Engine i)) list follows = follows
  follows-still lists more (Some (index.Module n)) list follows = absurd follows
  follows-still lists more (Some (index.RecGroup k)) list follows = (follows.0, follows.1, ((follows.2).0, kept-at lists more k (follows.2).0 (follows.2).1, (follows.2).2))

  pub follow-none : FollowSupertypes entries indices [] []
  follow-none = record { many = refl; each = λ place ty list stands at. absurd (cc) }

  pub follow-pushed : (types : List WasmSubType) (ty : WasmSubType) (lists : List (List VMSharedTypeIndex)) (list : List VMSharedTypeIndex) → FollowSupertypes entries indices types lists
      → FollowsSupertype entries indices lists ty.supertype list → FollowSupertypes entries indices (types ++ ty ∷ []) (lists ++ list ∷ [])
  follow-pushed types ty lists list follow follows = record {
    many = let many = follow.many in let one = length-append types (ty ∷ []) in let other = length-append lists (list ∷ []) in omega (arith, many, one, other);
    each = λ place t l stands at. by place t l (pushed-cases types ty t place stands) (pushed-cases lists list l place at);
  }
    where
      by : (place : ℕ) (t : WasmSubType) (l : List VMSharedTypeIndex) → (slice_get types place ≡ Some t) ⊎ ((place ≡ length types) × (t ≡ ty)) → (slice_get lists place ≡ Some l) ⊎ ((place ≡ length lists) × (l ≡ list))
          → FollowsSupertype entries indices (lists ++ list ∷ []) t.supertype l
      by place t l (inl stands) (inl at) = follows-still lists (list ∷ []) t.supertype l (follow.each place t l stands at)
      by place t l (inl stands) (inr last) =
          let within = slice_get_within types place t stands in
          let many = follow.many in
          let end = last.0 in
          absurd (omega (arith, within, many, end))
      by place t l (inr last) (inl at) =
          let within = slice_get_within lists place l at in
          let many = follow.many in
          let end = last.0 in
          absurd (omega (arith, within, many, end))
      by place t l (inr last) (inr end) =
          subst (λ (m : WasmSubType). FollowsSupertype entries indices (lists ++ list ∷ []) m.supertype l) (sym last.1)
          (subst (FollowsSupertype entries indices (lists ++ list ∷ []) ty.supertype) (sym end.1) (follows-still lists (list ∷ []) ty.supertype list follows))

-- so many members have lists so far
pub lists-so_far : (entries : List RecGroupEntry) (indices : List VMSharedTypeIndex) (types : List WasmSubType) (n : ℕ) (lists : List (List VMSharedTypeIndex)) → FollowSupertypes entries indices (take n types) lists → n < length types → length lists ≡ n
lists-so_far entries indices types n lists follow below =
    follow.many ∙ length-take-le n types (omega (arith, below))
