-- How many types the groups before one have.
use Rattle.std.proofs.Common.{◌≡◌, ℕ, zero, suc, ◌+◌, ◌<◌, ◌≤◌, List, [], ◌∷◌, length, take, get_or, ap, arith}
use Rattle.wt_env.specs.declared.types.WasmRecGroup.{WasmRecGroup}
use Rattle.wt_registry.specs.Rules.{total_members}

pub total-turn : (groups : List WasmRecGroup) (n : ℕ) (group : WasmRecGroup) → n < length groups → group ≡ get_or groups n group
    → total_members (take (suc n) groups) ≡ total_members (take n groups) + length group.types
total-turn [] n group below is = absurd (omega arith)
total-turn (g ∷ groups) zero group below is =
    let same = ap (λ (h : WasmRecGroup). length h.types) is in omega (arith, same)
total-turn (g ∷ groups) (suc n) group below is =
    let later = total-turn groups n group (omega arith) is in omega (arith, later)

pub total-within : (groups : List WasmRecGroup) (n : ℕ) → total_members (take n groups) ≤ total_members groups
total-within groups zero = omega arith
total-within [] (suc n) = omega arith
total-within (g ∷ groups) (suc n) = let later = total-within groups n in omega (arith, later)
