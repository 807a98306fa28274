-- A function over numbers is a function.
use Rattle.std.proofs.Common.{◌≡◌, true, false, Bool, ◌&&◌, refl}
use Rattle.std.proofs.lemmas.Bool.{false≢true}
use Rattle.wt_env.specs.declared.types.WasmCompositeInnerType.{WasmCompositeInnerType}
use Rattle.wt_env.specs.declared.types.WasmCompositeInnerType.TheVariants as shape
use Rattle.wt_env.specs.declared.types.WasmSubType.{WasmSubType}
use Rattle.wt_tree.specs.NumberFunction.{is_over_numbers, is_number_function}
use Rattle.wt_tree.specs.Kinds.{kind_of}
use Rattle.wt_rules.specs.Rules.{is_function_kind, is_function}

last : (a b c : Bool) → (a && b && c) ≡ true → c ≡ true
last true true c h = h
last true false c h = absurd (false≢true h)
last false b c h = absurd (false≢true h)

shape-function : (s : WasmCompositeInnerType) → is_over_numbers s ≡ true → is_function_kind (kind_of s) ≡ true
shape-function (shape.Func f) h = refl
shape-function (shape.Struct s) h = absurd (false≢true h)
shape-function (shape.Array a) h = absurd (false≢true h)
shape-function (shape.Exn e) h = absurd (false≢true h)
shape-function (shape.Cont c) h = absurd (false≢true h)

pub function-plain : (t : WasmSubType) → is_number_function t ≡ true → is_function t ≡ true
function-plain t plain = shape-function t.composite_type (third t plain)
  where
    third : (t : WasmSubType) → is_number_function t ≡ true → is_over_numbers t.composite_type ≡ true
    third t h = last t.is_final _ (is_over_numbers t.composite_type) h
