-- each group is reached from one that is held or waits
use Rattle.std.proofs.Common.{◌≡◌, ℕ, inl, List, [], ◌∷◌, ◌++◌, refl, subst}
use Rattle.wt_registry.specs.Registered.{RegisteredGroup}
use Rattle.wt_env.specs.Among.{Among}
use Rattle.wt_registry.specs.Holds.{waiting}
use Rattle.wt_session.specs.World.{World, holds, IsReached}
use Rattle.wt_session.proofs.laws.nothing_stands.Goals as goal

unreached : (world : World) → holds world ≡ [] → waiting world.registry.standings ≡ [] → (number : ℕ) → IsReached world number → ⊥
unreached world held waits number reached =
    subst (λ (waiting : List ℕ). Among reached.0 waiting) waits
    (subst (λ (held : List ℕ). Among reached.0 (held ++ waiting world.registry.standings)) held reached.1)

nothing : (world : World) → holds world ≡ [] → waiting world.registry.standings ≡ [] → (made : List RegisteredGroup) → ((group : RegisteredGroup) → Among group made → IsReached world group.number) → made ≡ []
nothing world held waits [] every = refl
nothing world held waits (group ∷ made) every = absurd (unreached world held waits group.number (every group (inl refl)))

pub returns : goal.returns
returns c = nothing c.args.session.now c.requires.held c.requires.waits c.args.session.now.registry.made c.tell_invariant.ensures.reached.every
