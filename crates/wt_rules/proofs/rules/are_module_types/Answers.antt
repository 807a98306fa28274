-- none of its indices is another one
use Rattle.wt_rules.proofs.ModuleReferences.{module_types}
use Rattle.wt_rules.proofs.rules.are_module_types.Goals as goal

pub returns : goal.returns
returns c = module_types c.args.types.now.groups c.as_slice.result.now c.any_has_foreign.result c.as_slice.ensures c.any_has_foreign.ensures
