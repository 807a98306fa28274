-- The free indices of a registry are those that no registered type has, once what a refused plan took is given back.
use Rattle.std.proofs.Common.{◌≡◌, ℕ, ◌||◌, not, List, [], ◌++◌, Result, Ok, Err, OnOk, OnErr, ap, sym, ◌∙◌}
use Rattle.wt_model.specs.Registered.{RegisteredGroup}
use Rattle.wt_model.specs.Indices.{used, is_used}
use Rattle.wt_indices.specs.Free.{FreeSet, is_free, is_free_before, AreFreeBeside, AreSameBefore}
use Rattle.wt_keys.specs.declared.entry.RecGroupEntry.{RecGroupEntry}
use Rattle.wt_keys.specs.Entries.{made_by}
use Rattle.wt_holds.specs.GivenBack.{HasFree}
use Rattle.std.proofs.lemmas.List.{append-nil}
use Rattle.wt_plan.specs.Planned.{AreFreeFor}

-- once that is given back, they are free
pub returned-free : (made : List RegisteredGroup) (free returned : FreeSet) → HasFree made free → ((k : ℕ) → is_free returned k ≡ is_free_before free k) → AreFreeBeside (used made) returned
returned-free made free returned has same k = same k ∙ has k

pub nothing-planned : (entries : List RecGroupEntry) (free : FreeSet) → AreFreeBeside (used (made_by entries)) free → AreFreeFor entries [] free
nothing-planned entries free beside k = beside k ∙ ap (λ es. not (is_used (used (made_by es)) k)) (sym (append-nil entries))

-- a refused plan leaves them so
pub still-free : (made : List RegisteredGroup) (free returned after : FreeSet) → HasFree made free → ((k : ℕ) → is_free returned k ≡ is_free_before free k) → returned.taken ≡ [] → AreSameBefore returned after → HasFree made after
still-free made free returned after has same none before k = before k ∙ ap (λ taken. is_used taken k || is_free returned k) none ∙ same k ∙ has k

-- and a plan that is carried out does, once what it took is kept
pub kept-free : (entries added : List RecGroupEntry) (new : List RegisteredGroup) (free after : FreeSet) → AreFreeFor entries added free → new ≡ made_by (entries ++ added) → after ≡ record free { taken = [] } → HasFree new after
kept-free entries added new free after beside made settled k = ap (λ f. is_free_before f k) settled ∙ beside k ∙ ap (λ groups. not (is_used (used groups) k)) (sym made)

-- either way
pub either-free : {A E : Type 0} (result : Result A E) (entries added : List RecGroupEntry) (new : List RegisteredGroup) (old : List RegisteredGroup) (first returned free after : FreeSet)
    → HasFree old first → ((k : ℕ) → is_free returned k ≡ is_free_before first k) → returned.taken ≡ [] → AreSameBefore returned free → AreFreeFor entries added free
    → OnOk result (new ≡ made_by (entries ++ added)) → OnOk result (after ≡ record free { taken = [] }) → OnErr result (after ≡ free) → OnErr result (new ≡ old) → HasFree new after
either-free (Ok x) entries added new old first returned free after has same none before beside made settled unsettled left = kept-free entries added new free after beside made settled
either-free (Err e) entries added new old first returned free after has same none before beside made settled unsettled left = λ k.
    ap (λ f. is_free_before f k) unsettled ∙ still-free old first returned free has same none before k ∙ ap (λ groups. not (is_used (used groups) k)) (sym left)
