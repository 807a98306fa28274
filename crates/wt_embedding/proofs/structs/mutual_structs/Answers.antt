-- each struct refers to one type of the module
use Rattle.std.proofs.Common.{List, [], ◌∷◌, ◌++◌, sym, ap, subst, ◌∙◌}
use Rattle.wt_env.specs.declared.types.WasmSubType.{WasmSubType}
use Rattle.wt_registry.specs.Rules.{AreModuleTypes}
use Rattle.wt_embedding.proofs.ModuleTypes.{pair-named}
use Rattle.wt_embedding.proofs.structs.mutual_structs.Goals as goal

pub returns-clause-named : goal.returns-clause-named
returns-clause-named c =
    let first = c.in_ok-structure.field-0 in
    let second = c.in_ok-structure-2.field-0 in
    let types = c.in_ok-push.ensures.ok ∙ ap (λ (before : List WasmSubType). before ++ second ∷ []) c.in_ok-types.ensures in
    let groups = c.in_ok-one.ensures ∙ ap (λ (types : List WasmSubType). record { types = types } ∷ []) types in
    subst AreModuleTypes (sym groups) (pair-named first second (record { 0 = 1 }) (record { 0 = 0 }) c.in_ok-structure.ensures c.in_ok-structure-2.ensures)
