-- each registered type has a list
use Rattle.std.proofs.Common.{◌++◌, sym, ap, ◌∙◌}
use Rattle.std.specs.Option.{option_copied}
use Rattle.wt_keys.proofs.ListedSubtypes.{listed}
use Rattle.wt_plan.proofs.supertypes.behind_registered.Goals as goal

pub unreachable-requires : goal.unreachable-requires
unreachable-requires c =
    listed (c.args.entries.now ++ c.args.added.now) c.requires.keys.0 c.requires.keys.1 c.args.supertype c.requires.registered (sym c.supertypes_of.ensures ∙ ap option_copied c.in-None.is)
