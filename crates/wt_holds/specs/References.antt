-- How many references lead to a group, and which groups are due to be removed.
use Rattle.std.specs.Prelude.{◌≡◌, ℕ, ◌+◌, ◌==◌, List, [], ◌∷◌, Bool, true, false, not, ◌&&◌}
use Rattle.wt_env.specs.Among.{Among}
use Rattle.wt_model.specs.Registered.{RegisteredGroup}
use Rattle.wt_model.specs.Reach.{edges}
use Rattle.wt_model.specs.Holds.{times, is_registered}

-- how often a number stands among the edges of the registered groups
abbrev pub references : List RegisteredGroup → ℕ → ℕ
references [] n = 0
references (group ∷ rest) n = times n (edges group) + references rest n

-- a registered group that no reference leads to, by these counts, and that is no root
abbrev pub is_due : List RegisteredGroup → (ℕ → Bool) → (ℕ → ℕ) → ℕ → Bool
is_due made root count n = is_registered made n && ((count n == 0) && not (root n))

abbrev pub one_if : Bool → ℕ
one_if true = 1
one_if false = 0

-- a number, where it is pushed
abbrev pub pushed_if : Bool → ℕ → List ℕ
pushed_if true n = n ∷ []
pushed_if false n = []

-- While groups are removed: the counts tell the references of what is registered, with those of removed groups that
-- aren't lowered yet, which lead to registered groups; and on the stack stands what is due, once.
pub record Cascading (made : List RegisteredGroup) (root : ℕ → Bool) (count : ℕ → ℕ) (stack pending : List ℕ) : Type 0 where
  pub stand : (n : ℕ) → Among n pending → is_registered made n ≡ true
  pub counted : (n : ℕ) → count n ≡ references made n + times n pending
  pub due : (n : ℕ) → times n stack ≡ one_if (is_due made root count n)
