-- Several entries that are added in turn: what is true of all entries stays true, and the trees stay as they are.
use Rattle.std.proofs.Common.{◌≡◌, ℕ, ◌+◌, inl, inr, List, [], ◌∷◌, ◌++◌, length, Some, sym, ap, subst, ◌∙◌, arith, append_assoc}
use Rattle.std.proofs.lemmas.List.{map-append, append-nil, length-append}
use Rattle.wt_env.specs.declared.types.VMSharedTypeIndex.{VMSharedTypeIndex}
use Rattle.wt_env.specs.declared.types.WasmSubType.{WasmSubType}
use Rattle.wt_env.proofs.lists.Members.{among_either}
use Rattle.wt_model.specs.Registered.{RegisteredGroup}
use Rattle.wt_model.specs.Indices.{locate, closed_tree}
use Rattle.wt_model.specs.Describe.{tree_of}
use Rattle.wt_model.proofs.indices.Places.{locate-before}
use Rattle.wt_keys.specs.declared.entry.RecGroupEntry.{RecGroupEntry}
use Rattle.wt_keys.specs.Entries.{made_of, made_by}
use Rattle.wt_keys.specs.Keys.{ResolvesTo, AreKeys, AreShown}
use Rattle.wt_keys.proofs.AddedKeys.{names-before, keys-push, closed_tree-kept, tree_of-kept}
use Rattle.wt_plan.specs.declared.plan.Plan.{Plan as PlanFields}
use Rattle.wt_plan.specs.Planned.{AreResolved, AreNewBelow, AreNewKeys, PlansMore}
use Rattle.wt_plan.proofs.NewIndices.{new_below-pushed}

-- ---- keys

-- one entry, then more
entry_then : (entries more : List RecGroupEntry) (entry : RecGroupEntry) → (entries ++ entry ∷ []) ++ more ≡ entries ++ (entry ∷ more)
entry_then entries more entry = append_assoc entries (entry ∷ []) more

pub new_keys-all : (entries : List RecGroupEntry) (top : ℕ) (more : List RecGroupEntry) → AreKeys entries top → AreNewKeys entries top more → AreKeys (entries ++ more) (top + length more)
new_keys-all entries top [] keys new =
    let same : top ≡ top + 0 = omega arith in
    subst (λ (n : ℕ). AreKeys (entries ++ []) n) same (subst (λ (es : List RecGroupEntry). AreKeys es top) (sym (append-nil entries)) keys)
new_keys-all entries top (entry ∷ more) keys new =
    let rest = new_keys-all (entries ++ entry ∷ []) (top + 1) more (keys-push entries top entry keys new.0) new.1 in
    let same : (top + 1) + length more ≡ top + length (entry ∷ more) = omega arith in
    subst (λ (n : ℕ). AreKeys (entries ++ (entry ∷ more)) n) same (subst (λ (es : List RecGroupEntry). AreKeys es ((top + 1) + length more)) (entry_then entries more entry) rest)

pub new_keys-append : (entries : List RecGroupEntry) (top : ℕ) (first second : List RecGroupEntry) → AreNewKeys entries top first → AreNewKeys (entries ++ first) (top + length first) second → AreNewKeys entries top (first ++ second)
new_keys-append entries top [] second one two =
    let same : top + 0 ≡ top = omega arith in
    subst (λ (n : ℕ). AreNewKeys entries n second) same (subst (λ (es : List RecGroupEntry). AreNewKeys es (top + 0) second) (append-nil entries) two)
new_keys-append entries top (entry ∷ first) second one two = (
  one.0,
  new_keys-append (entries ++ entry ∷ []) (top + 1) first second one.1
      (subst (λ (n : ℕ). AreNewKeys ((entries ++ entry ∷ []) ++ first) n second) same
      (subst (λ (es : List RecGroupEntry). AreNewKeys es (top + length (entry ∷ first)) second) (sym (entry_then entries first entry)) two)),
)
  where
    same : top + length (entry ∷ first) ≡ (top + 1) + length first
    same = omega arith

pub new_below-all : (entries added : List RecGroupEntry) (top : ℕ) (more : List RecGroupEntry) → AreNewBelow entries added → AreNewKeys (entries ++ added) top more → AreNewBelow entries (added ++ more)
new_below-all entries added top [] below new = subst (AreNewBelow entries) (sym (append-nil added)) below
new_below-all entries added top (entry ∷ more) below new =
    let one = new_below-pushed entries added top entry below new.0 in
    let rest = new_below-all entries (added ++ entry ∷ []) (top + 1) more one (subst (λ (es : List RecGroupEntry). AreNewKeys es (top + 1) more) (append_assoc entries added (entry ∷ [])) new.1) in
    subst (AreNewBelow entries) (entry_then added more entry) rest

-- ---- trees

pub closed_tree-grown : (entries : List RecGroupEntry) (top : ℕ) (more : List RecGroupEntry) → AreKeys entries top → AreNewKeys entries top more → (i : VMSharedTypeIndex) (at : ℕ × ℕ) → locate (made_by entries) i ≡ Some at
    → closed_tree (made_by (entries ++ more)) i ≡ closed_tree (made_by entries) i
closed_tree-grown entries top [] keys new i at is = ap (λ (es : List RecGroupEntry). closed_tree (made_by es) i) (append-nil entries)
closed_tree-grown entries top (entry ∷ more) keys new i at is =
    let still = ap (λ (made : List RegisteredGroup). locate made i) (map-append made_of entries (entry ∷ [])) ∙ locate-before (made_by entries) (made_of entry ∷ []) i at is in
    ap (λ (es : List RecGroupEntry). closed_tree (made_by es) i) (sym (entry_then entries more entry))
    ∙ closed_tree-grown (entries ++ entry ∷ []) (top + 1) more (keys-push entries top entry keys new.0) new.1 i at still
    ∙ closed_tree-kept entries top entry keys new.0 i at is

pub names-grown : (entries more : List RecGroupEntry) (types : List WasmSubType) (outer : List (ℕ × ℕ)) → ResolvesTo (made_by entries) types outer → ResolvesTo (made_by (entries ++ more)) types outer
names-grown entries more types outer names =
    subst (λ (made : List RegisteredGroup). ResolvesTo made types outer) (sym (map-append made_of entries more)) (names-before (made_by entries) (made_by more) types outer names)

pub tree_of-grown : (entries : List RecGroupEntry) (top : ℕ) (more : List RecGroupEntry) → AreKeys entries top → AreNewKeys entries top more → (types : List WasmSubType) (outer : List (ℕ × ℕ)) → ResolvesTo (made_by entries) types outer
    → tree_of (made_by (entries ++ more)) types ≡ tree_of (made_by entries) types
tree_of-grown entries top [] keys new types outer names = ap (λ (es : List RecGroupEntry). tree_of (made_by es) types) (append-nil entries)
tree_of-grown entries top (entry ∷ more) keys new types outer names =
    ap (λ (es : List RecGroupEntry). tree_of (made_by es) types) (sym (entry_then entries more entry))
    ∙ tree_of-grown (entries ++ entry ∷ []) (top + 1) more (keys-push entries top entry keys new.0) new.1 types outer (names-grown entries (entry ∷ []) types outer names)
    ∙ tree_of-kept entries top entry keys new.0 types outer names

-- ---- what a key names

pub named-grown : (entries more : List RecGroupEntry) (types : List WasmSubType) → AreResolved (made_by entries) types → AreResolved (made_by (entries ++ more)) types
named-grown entries more types named = (named.0, names-grown entries more types named.0 named.1)

-- ---- plans of more

-- what was added in two turns
pub added-joined : (entries before first second after : List RecGroupEntry) → after ≡ (before ++ first) ++ second → (entries ++ (before ++ first)) ++ second ≡ entries ++ after
added-joined entries before first second after same = append_assoc entries (before ++ first) second ∙ ap (λ (more : List RecGroupEntry). entries ++ more) (sym same)

pub shown-joined : (first second : List RecGroupEntry) → AreShown first → AreShown second → AreShown (first ++ second)
shown-joined first second one two e there = elim (among_either first second e there) [ inl before ↦ one e before | inr behind ↦ two e behind ]

pub plans-none : (entries : List RecGroupEntry) (before after : PlanFields) → after.added ≡ before.added → after.given.numbers ≡ before.given.numbers → PlansMore entries before after []
plans-none entries before after added given = record {
  added = added ∙ sym (append-nil before.added);
  new = tt;
  given = omega (arith, given);
  shown = λ e there. absurd there;
}

pub plans-joined : (entries : List RecGroupEntry) (before middle after : PlanFields) (first second : List RecGroupEntry) → PlansMore entries before middle first → PlansMore entries middle after second → PlansMore entries before after (first ++ second)
plans-joined entries before middle after first second one two = record {
  added = two.added ∙ ap (λ (more : List RecGroupEntry). more ++ second) one.added ∙ append_assoc before.added first second;
  new =
      new_keys-append (entries ++ before.added) before.given.numbers first second one.new
      (subst (λ (n : ℕ). AreNewKeys ((entries ++ before.added) ++ first) n second) one.given
      (subst (λ (es : List RecGroupEntry). AreNewKeys es middle.given.numbers second) (ap (λ (more : List RecGroupEntry). entries ++ more) one.added ∙ sym (append_assoc entries before.added first)) two.new));
  given = let a = one.given in let b = two.given in let long = length-append first second in omega (arith, a, b, long);
  shown = shown-joined first second one.shown two.shown;
}

-- what is true of all entries stays true
pub plans-keys : (entries : List RecGroupEntry) (before after : PlanFields) (more : List RecGroupEntry) → AreKeys (entries ++ before.added) before.given.numbers → PlansMore entries before after more
    → AreKeys (entries ++ after.added) after.given.numbers
plans-keys entries before after more keys plans =
    let all = new_keys-all (entries ++ before.added) before.given.numbers more keys plans.new in
    let joined : (entries ++ before.added) ++ more ≡ entries ++ after.added =
    append_assoc entries before.added more ∙ ap (λ (added : List RecGroupEntry). entries ++ added) (sym plans.added) in
    subst (λ (n : ℕ). AreKeys (entries ++ after.added) n) (sym plans.given) (subst (λ (es : List RecGroupEntry). AreKeys es (before.given.numbers + length more)) joined all)
