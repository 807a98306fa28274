-- The name that a concrete heap type has, of each kind, and the part of a type of an embedder that is of one form.
use Rattle.std.specs.Prelude.{Bool, true, false, Option, Some, None}
use Rattle.wt_heap.specs.declared.names.FuncName.{FuncName}
use Rattle.wt_heap.specs.declared.names.ArrayName.{ArrayName}
use Rattle.wt_heap.specs.declared.names.StructName.{StructName}
use Rattle.wt_heap.specs.declared.names.ExnName.{ExnName}
use Rattle.wt_heap.specs.declared.names.ContName.{ContName}
use Rattle.wt_heap.specs.declared.heap_type.HeapType.{HeapType}
use Rattle.wt_heap.specs.declared.heap_type.HeapType.TheVariants as heap
use Rattle.wt_heap.specs.declared.ref_type.RefType.{RefType}
use Rattle.wt_heap.specs.declared.val_type.ValType.{ValType}
use Rattle.wt_heap.specs.declared.val_type.ValType.TheVariants as val
use Rattle.wt_heap.specs.declared.storage_type.StorageType.{StorageType}
use Rattle.wt_heap.specs.declared.storage_type.StorageType.TheVariants as storage

abbrev pub concrete_func : HeapType → Option FuncName
concrete_func (heap.ConcreteFunc name) = Some name
concrete_func _ = None

abbrev pub concrete_array : HeapType → Option ArrayName
concrete_array (heap.ConcreteArray name) = Some name
concrete_array _ = None

abbrev pub concrete_struct : HeapType → Option StructName
concrete_struct (heap.ConcreteStruct name) = Some name
concrete_struct _ = None

abbrev pub concrete_exn : HeapType → Option ExnName
concrete_exn (heap.ConcreteExn name) = Some name
concrete_exn _ = None

abbrev pub concrete_cont : HeapType → Option ContName
concrete_cont (heap.ConcreteCont name) = Some name
concrete_cont _ = None

-- the reference type that a value type is
abbrev pub reference_of : ValType → Option RefType
reference_of (val.Ref r) = Some r
reference_of _ = None

-- a value type that is a number (WebAssembly 3.0, "Number Types")
abbrev pub is_number : ValType → Bool
is_number val.I32 = true
is_number val.I64 = true
is_number val.F32 = true
is_number val.F64 = true
is_number _ = false

-- the value type that a storage type is
abbrev pub value_of : StorageType → Option ValType
value_of (storage.ValType v) = Some v
value_of _ = None

-- the value type by which a field of this storage type is read: a packed number becomes an i32 (WebAssembly 3.0,
-- "Storage Types")
abbrev pub unpacked : StorageType → ValType
unpacked (storage.ValType v) = v
unpacked _ = val.I32
