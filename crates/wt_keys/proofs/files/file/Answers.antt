-- the number is told at the key and at the indices, and what is told of others that agree stays
use Rattle.std.proofs.Common.{◌≡◌, Some, sym, subst, ◌∙◌}
use Rattle.std.proofs.lemmas.Result.{on_ok_weaker}
use Rattle.std.specs.HashMap.{get}
use Rattle.wt_env.specs.Equality.{rec_group_eq, rec_group_eq-exact}
use Rattle.wt_env.specs.declared.types.WasmRecGroup.{WasmRecGroup}
use Rattle.wt_env.specs.Among.{Among}
use Rattle.wt_keys.proofs.Filing.{put-kept}
use Rattle.wt_keys.proofs.files.file.Goals as goal

pub returns-clause-kept : goal.returns-clause-kept
returns-clause-kept c = λ e agree filed. record {
  key = put-kept rec_group_eq rec_group_eq-exact (get rec_group_eq c.args.files.now.by_key) (get rec_group_eq c.insert.new.self) c.in_ok-key.key c.args.entry.now.number c.in_ok-insert.ensures.updates.0
      e.hash_consing_key e.number (λ same. agree.keys (same ∙ c.in_ok-key.ensures)) filed.key;
  indices = λ i at. c.file_indices.ensures.kept i e.number (λ there. agree.indices i at (subst (Among i) c.as_slice.ensures there)) (filed.indices i at);
}

pub returns-clause-told : goal.returns-clause-told
returns-clause-told c =
    on_ok_weaker c.file_indices.result
    (λ told. record {
      key = subst (λ (key : WasmRecGroup). get rec_group_eq c.insert.new.self key ≡ Some c.args.entry.now.number) c.in_ok-key.ensures c.in_ok-insert.ensures.updates.1;
      indices = λ i at. told i (subst (Among i) (sym c.as_slice.ensures) at);
    })
    c.file_indices.ensures.told
