-- A constant global of references fits one of others exactly where its heap type fits the other's.
use Rattle.std.proofs.Common.{◌≡◌, Bool, true, false, Option, None, refl}
use Rattle.std.specs.Prelude.{is_ok}
use Rattle.wt_env.specs.declared.types.VMSharedTypeIndex.{VMSharedTypeIndex}
use Rattle.wt_env.specs.declared.types.WasmHeapType.{WasmHeapType}
use Rattle.wt_env.specs.declared.types.WasmValType.TheVariants as val
use Rattle.wt_tree.specs.Tree.{ClosedTree}
use Rattle.wt_tree.specs.Fit.{heap_fits, named_by}
use Rattle.wt_matching.specs.declared.unfit.Unfit.{Unfit}
use Rattle.wt_matching.specs.declared.unfit.Unfit.TheVariants as unfit
use Rattle.wt_matching.specs.Import.{answer, unless, first_of, constant_global, entity_unfit}

alone : (holds : Bool) (cause : Unfit) → is_ok (answer (first_of (unless holds cause) None)) ≡ holds
alone true cause = refl
alone false cause = refl

pub is_fit_exactly : (types : VMSharedTypeIndex → Option ClosedTree) (expected actual : WasmHeapType)
    → is_ok (answer (entity_unfit types (constant_global expected) (constant_global actual))) ≡ heap_fits (named_by types) (named_by types) actual expected
is_fit_exactly types expected actual =
    alone (heap_fits (named_by types) (named_by types) actual expected)
    (unfit.ConstantContent (val.Ref (record { nullable = true; heap_type = expected })) (val.Ref (record { nullable = true; heap_type = actual })))
