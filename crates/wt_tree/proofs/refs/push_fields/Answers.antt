-- one more at the end
use Rattle.wt_tree.proofs.References.{fields_refs-turn}
use Rattle.wt_tree.proofs.refs.push_fields.Goals as goal

pub loop-field-preserved : goal.loop-field-preserved
loop-field-preserved c =
    fields_refs-turn c.args.refs.now c.loop-field.refs c.push_field.new.refs c.args.fields.now c.loop-field.field-index _ c.loop-field-test.true c.loop-field.invariant c.in_ok-push_field.ensures
