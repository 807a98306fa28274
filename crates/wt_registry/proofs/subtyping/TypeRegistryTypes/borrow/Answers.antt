-- what is borrowed is shown by engine indices
use Rattle.std.proofs.Common.{◌≡◌, Option, Some, None, IfSome, option_map, sym}
use Rattle.wt_tree.specs.Fit.{ShowsAt}
use Rattle.wt_model.specs.Indices.{closed_tree}
use Rattle.wt_model.specs.Shown.{sub_type_at}
use Rattle.wt_model.proofs.subtyping.ShownTypes.{sound-shows}
use Rattle.wt_registry.proofs.subtyping.TypeRegistryTypes.borrow.Goals as goal

-- what is true of a value is true of the reference to it
referred : {A B : Type 0} (f : A → B) (P : B → Type 0) (found : Option A) (value : Option B) → option_map f found ≡ value → ((b : B) → value ≡ Some b → P b) → IfSome found (λ a. P (f a))
referred f P None value is each = tt
referred f P (Some a) value is each = each (f a) (sym is)

pub returns-clause-shows : goal.returns-clause-shows
returns-clause-shows c =
    let registry = c.args.self.now in
    let i = c.args.index in
    referred (λ x. x.now) (ShowsAt (closed_tree registry.made) i) c.borrow.result (sub_type_at registry.made i) c.borrow.ensures.value (sound-shows registry c.tell_invariant.ensures.sound i)
