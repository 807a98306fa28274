-- Why a registration of one type of a host is refused, by what it breaks.
use Rattle.wt_rules.specs.declared.host_types.HostBreach.{HostBreach}
use Rattle.wt_rules.specs.declared.host_types.HostBreach.TheVariants as breach
use Rattle.wt_model.specs.declared.refusal.BuildRefusal.{BuildRefusal}
use Rattle.wt_model.specs.declared.refusal.BuildRefusal.TheVariants as refusal

abbrev pub breach_refusal : HostBreach → BuildRefusal
breach_refusal (breach.FinalSupertype supertype) = refusal.FinalSupertype supertype
breach_refusal (breach.SupertypeMismatch kind) = refusal.SupertypeMismatch kind
breach_refusal (breach.TooManyFields fields) = refusal.TooManyFields fields
breach_refusal (breach.TagHasResults results) = refusal.TagHasResults results
