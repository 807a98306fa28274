-- The words of rules, and the texts of places.
use Rattle.std.specs.Prelude.{ℕ, List, ◌++◌, codes}
use Rattle.std.specs.Fmt.{decimal}
use Rattle.wt_rules.specs.declared.place.Place.{Place}
use Rattle.wt_rules.specs.declared.place.Place.TheVariants.{Member}
use Rattle.wt_rules.specs.declared.place.Rule.{Rule}
use Rattle.wt_rules.specs.declared.place.Rule.TheVariants.{Forward, SuperOrder, Kind, SuperFinal, SuperKind, SuperMismatch, ExnOpen, ExnResults, ExnFields}

-- `group 0 member 1`
abbrev pub place_text : Place → List ℕ
place_text (Member group member) = codes "group " ++ decimal group ++ codes " member " ++ decimal member

abbrev pub rule_word : Rule → List ℕ
rule_word Forward = codes "forward"
rule_word SuperOrder = codes "super-order"
rule_word Kind = codes "kind"
rule_word SuperFinal = codes "super-final"
rule_word SuperKind = codes "super-kind"
rule_word SuperMismatch = codes "super-mismatch"
rule_word ExnOpen = codes "exn-open"
rule_word ExnResults = codes "exn-results"
rule_word ExnFields = codes "exn-fields"
