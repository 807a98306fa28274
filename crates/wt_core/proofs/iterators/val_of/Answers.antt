-- exactly this one is of the engine, and that type data
use Rattle.wt_core.specs.FromWasm.{val_of}
use Rattle.wt_core.proofs.ReadBack.{val-back, val-own}
use Rattle.wt_core.proofs.iterators.val_of.Goals as goal

pub returns : goal.returns
returns c =
    let engine = c.args.engine in
    let ty = c.args.ty.now in
    c.from_wasm.ensures.only (val_of engine ty) (val-back engine ty c.requires) (val-own engine ty)
