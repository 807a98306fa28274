-- exactly this one is of the engine, and that type data
use Rattle.wt_core.specs.FromWasm.{field_of}
use Rattle.wt_core.proofs.ReadBack.{field-back, field-own}
use Rattle.wt_core.proofs.iterators.field_of.Goals as goal

pub returns : goal.returns
returns c =
    let engine = c.args.engine in
    let ty = c.args.ty.now in
    c.from_wasm.ensures.only (field_of engine ty) (field-back engine ty c.requires) (field-own engine ty)
