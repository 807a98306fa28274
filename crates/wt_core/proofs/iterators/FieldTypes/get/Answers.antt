-- what stands at a place is read there
use Rattle.std.proofs.Common.{◌≡◌, List, slice_get, Some, option_map, ap, sym, ◌∙◌}
use Rattle.wt_env.specs.declared.types.WasmFieldType.{WasmFieldType}
use Rattle.wt_heap.specs.declared.field_type.FieldType.{FieldType}
use Rattle.wt_env.proofs.lists.Members.{get_among}
use Rattle.wt_tree.specs.Kinds.{kinded_field}
use Rattle.wt_core.specs.FromWasm.{field_of}
use Rattle.wt_core.proofs.EngineParts.{engines-at}
use Rattle.wt_core.proofs.ReadBack.{get-map}
use Rattle.wt_core.proofs.iterators.FieldTypes.get.Goals as goal

pub field_of-requires : goal.field_of-requires
field_of-requires c =
    let types = c.self.inside.types.now in
    let here : slice_get types c.args.place ≡ Some c.in-Some.ty.now = sym c.in-Some.ensures in
    engines-at kinded_field types c.in-Some.ty.now (get_among types c.args.place c.in-Some.ty.now here) c.self.invariant

pub returns-in-Some : goal.returns-in-Some
returns-in-Some c =
    let read : WasmFieldType → FieldType = field_of c.self.inside.engine in
    let types = c.self.inside.types.now in
    ap Some c.field_of.ensures
    ∙ ap (option_map read) c.in-Some.ensures
    ∙ sym (get-map read types c.args.place)
    ∙ ap (λ (list : List FieldType). slice_get list c.args.place) c.self.view_is

pub returns-in-None : goal.returns-in-None
returns-in-None c =
    let read : WasmFieldType → FieldType = field_of c.self.inside.engine in
    let types = c.self.inside.types.now in
    ap (option_map read) c.in-None.ensures
    ∙ sym (get-map read types c.args.place)
    ∙ ap (λ (list : List FieldType). slice_get list c.args.place) c.self.view_is
