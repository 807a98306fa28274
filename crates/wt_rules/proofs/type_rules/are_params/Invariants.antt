-- The fields before this place hold the parameters there, so what is left decides.
use Rattle.std.proofs.Common.{◌≡◌, ◌≤◌, drop, length, map}
use Rattle.wt_tree.specs.Fit.{fields_equal, named_by}
use Rattle.wt_rules.specs.TypeRules.{constant_field}
use Rattle.wt_rules.proofs.type_rules.are_params.Given as goal

abbrev pub invariant-loop-place : goal.invariant-loop-place
invariant-loop-place g l = record {
  long : length l.params ≡ length l.fields;
  within : l.place ≤ length l.fields;
  rest :
      fields_equal (named_by (g.T.Supers.types l.types)) (named_by (g.T.Supers.types l.types)) l.fields (map constant_field l.params)
      ≡ fields_equal (named_by (g.T.Supers.types l.types)) (named_by (g.T.Supers.types l.types)) (drop l.place l.fields) (map constant_field (drop l.place l.params));
}
