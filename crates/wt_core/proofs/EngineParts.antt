-- The type indices of what is shown are engine indices, and those of a part of it are.
use Rattle.std.proofs.Common.{◌≡◌, List, [], ◌∷◌, ◌++◌, Option, inl, inr, refl, sym, subst}
use Rattle.std.specs.Prelude.{option_to_list}
use Rattle.std.specs.List.{flat_map}
use Rattle.wt_env.specs.Among.{Among}
use Rattle.wt_env.specs.declared.types.VMSharedTypeIndex.{VMSharedTypeIndex}
use Rattle.wt_env.specs.declared.types.EngineOrModuleTypeIndex.{EngineOrModuleTypeIndex}
use Rattle.wt_env.specs.declared.types.EngineOrModuleTypeIndex.TheVariants as index
use Rattle.wt_env.specs.declared.types.Kind.{Kind}
use Rattle.wt_env.specs.declared.types.WasmFuncType.{WasmFuncType}
use Rattle.wt_env.specs.declared.types.WasmStructType.{WasmStructType}
use Rattle.wt_env.specs.declared.types.WasmArrayType.{WasmArrayType}
use Rattle.wt_env.specs.declared.types.WasmExnType.{WasmExnType}
use Rattle.wt_env.specs.declared.types.WasmCompositeInnerType.{WasmCompositeInnerType}
use Rattle.wt_env.specs.declared.types.WasmCompositeInnerType.TheVariants as shape
use Rattle.wt_env.specs.declared.types.WasmSubType.{WasmSubType}
use Rattle.wt_env.proofs.lists.Members.{among_behind}
use Rattle.wt_tree.specs.Tree.{ClosedTree}
use Rattle.wt_tree.specs.Kinds.{kinded_vals, kinded_fields, kinded_field, kinded_shape, kinded_refs, indices_of, type_indices}
use Rattle.wt_tree.specs.Fit.{IsKnown, AreKnown}
use Rattle.wt_tree.proofs.KnownParts.{among_first, among_second}
use Rattle.wt_heap.specs.Engines.{IsEngineIndex, AreEngineIndices}

module _ (types : VMSharedTypeIndex → Option ClosedTree) where
  known-engine : (i : EngineOrModuleTypeIndex) → IsKnown types i → IsEngineIndex i
  known-engine (index.Engine i) known = tt
  known-engine (index.Module n) known = absurd known
  known-engine (index.RecGroup k) known = absurd known

  -- an index that has a closed tree is an engine index
  pub known-engines : (indices : List EngineOrModuleTypeIndex) → AreKnown types indices → AreEngineIndices indices
  known-engines indices known = record { each = λ i at. known-engine i (known.each i at) }

  -- the type indices of a shape have closed trees where those of the type do
  pub known-shape : (ty : WasmSubType) → AreKnown types (type_indices ty) → AreKnown types (indices_of (kinded_shape ty.composite_type))
  known-shape ty known = record { each = λ i at. known.each i (among_behind (option_to_list ty.supertype) (indices_of (kinded_refs ty)) i at) }

engines-shape : (ty : WasmSubType) → AreEngineIndices (type_indices ty) → AreEngineIndices (indices_of (kinded_shape ty.composite_type))
engines-shape ty engines = record { each = λ i at. engines.each i (among_behind (option_to_list ty.supertype) (indices_of (kinded_refs ty)) i at) }

engines-first : (xs ys : List (Kind × EngineOrModuleTypeIndex)) → AreEngineIndices (indices_of (xs ++ ys)) → AreEngineIndices (indices_of xs)
engines-first xs ys engines = record { each = λ i at. engines.each i (among_first xs ys i at) }

engines-second : (xs ys : List (Kind × EngineOrModuleTypeIndex)) → AreEngineIndices (indices_of (xs ++ ys)) → AreEngineIndices (indices_of ys)
engines-second xs ys engines = record { each = λ i at. engines.each i (among_second xs ys i at) }

-- ---- of a list

pub engines-head : {A : Type 0} (f : A → List (Kind × EngineOrModuleTypeIndex)) (xs : List A) (x : A) (rest : List A) → xs ≡ x ∷ rest → AreEngineIndices (indices_of (flat_map f xs)) → AreEngineIndices (indices_of (f x))
engines-head {A = A} f xs x rest is engines = engines-first (f x) (flat_map f rest) (subst (λ (all : List A). AreEngineIndices (indices_of (flat_map f all))) is engines)

pub engines-tail : {A : Type 0} (f : A → List (Kind × EngineOrModuleTypeIndex)) (xs : List A) (x : A) (rest : List A) → xs ≡ x ∷ rest → AreEngineIndices (indices_of (flat_map f xs)) → AreEngineIndices (indices_of (flat_map f rest))
engines-tail {A = A} f xs x rest is engines = engines-second (f x) (flat_map f rest) (subst (λ (all : List A). AreEngineIndices (indices_of (flat_map f all))) is engines)

pub engines-at : {A : Type 0} (f : A → List (Kind × EngineOrModuleTypeIndex)) (xs : List A) (x : A) → Among x xs → AreEngineIndices (indices_of (flat_map f xs)) → AreEngineIndices (indices_of (f x))
engines-at {A = A} f [] x at engines = absurd at
engines-at {A = A} f (y ∷ ys) x (inl same) engines = subst (λ (z : A). AreEngineIndices (indices_of (f z))) (sym same) (engines-first (f y) (flat_map f ys) engines)
engines-at {A = A} f (y ∷ ys) x (inr later) engines = engines-at f ys x later (engines-second (f y) (flat_map f ys) engines)

-- ---- of a type

of_shape : (ty : WasmSubType) (s : WasmCompositeInnerType) → AreEngineIndices (type_indices ty) → ty.composite_type ≡ s → AreEngineIndices (indices_of (kinded_shape s))
of_shape ty s engines is = subst (λ (t : WasmCompositeInnerType). AreEngineIndices (indices_of (kinded_shape t))) is (engines-shape ty engines)

pub engines-params : (ty : WasmSubType) (f : WasmFuncType) → AreEngineIndices (type_indices ty) → ty.composite_type ≡ shape.Func f → AreEngineIndices (indices_of (kinded_vals f.params))
engines-params ty f engines is = engines-first (kinded_vals f.params) (kinded_vals f.results) (of_shape ty (shape.Func f) engines is)

pub engines-results : (ty : WasmSubType) (f : WasmFuncType) → AreEngineIndices (type_indices ty) → ty.composite_type ≡ shape.Func f → AreEngineIndices (indices_of (kinded_vals f.results))
engines-results ty f engines is = engines-second (kinded_vals f.params) (kinded_vals f.results) (of_shape ty (shape.Func f) engines is)

pub engines-fields : (ty : WasmSubType) (s : WasmStructType) → AreEngineIndices (type_indices ty) → ty.composite_type ≡ shape.Struct s → AreEngineIndices (indices_of (kinded_fields s.fields))
engines-fields ty s engines is = of_shape ty (shape.Struct s) engines is

pub engines-element : (ty : WasmSubType) (a : WasmArrayType) → AreEngineIndices (type_indices ty) → ty.composite_type ≡ shape.Array a → AreEngineIndices (indices_of (kinded_field a.0))
engines-element ty a engines is = of_shape ty (shape.Array a) engines is

pub engines-exception : (ty : WasmSubType) (e : WasmExnType) → AreEngineIndices (type_indices ty) → ty.composite_type ≡ shape.Exn e → AreEngineIndices (indices_of (kinded_fields e.fields))
engines-exception ty e engines is = record { each = λ i at. (of_shape ty (shape.Exn e) engines is).each i (inr at) }

pub engine-function : (ty : WasmSubType) (e : WasmExnType) → AreEngineIndices (type_indices ty) → ty.composite_type ≡ shape.Exn e → IsEngineIndex e.func_ty
engine-function ty e engines is = (of_shape ty (shape.Exn e) engines is).each e.func_ty (inl refl)
