-- The mark at the place of a group is what is told of the group's number.
use Rattle.std.proofs.Common.{◌≡◌, ℕ, ◌==◌, Bool, true, List, [], ◌∷◌, ◌++◌, length, get_or, Some, refl, ap, ◌∙◌, arith}
use Rattle.std.specs.List.{position_from}
use Rattle.std.proofs.lemmas.List.{length-map}
use Rattle.wt_keys.specs.declared.entry.RecGroupEntry.{RecGroupEntry}
use Rattle.wt_model.specs.Registered.{RegisteredGroup}
use Rattle.wt_keys.specs.Entries.{made_of, made_by}
use Rattle.wt_holds.specs.Marks.{marked}
use Rattle.wt_env.proofs.lists.Found.{found_from}

mark-past : (keep : ℕ → Bool) (passed : List RecGroupEntry) (entry : RecGroupEntry) (rest : List RecGroupEntry) (d : Bool) → get_or (marked keep (made_by (passed ++ entry ∷ rest))) (length passed) d ≡ keep entry.number
mark-past keep [] entry rest d = refl
mark-past keep (x ∷ passed) entry rest d = mark-past keep passed entry rest d

same_number : (n m : ℕ) → (n == m) ≡ true → n ≡ m
same_number n m e = grind (arith, e)

pub mark-found : (keep : ℕ → Bool) (entries : List RecGroupEntry) (marks : List Bool) (number place : ℕ) (mark : Bool) → position_from (λ entry. entry.number == number) 0 entries ≡ Some place
    → marks ≡ marked keep (made_by entries) → mark ≡ get_or marks place mark → mark ≡ keep number
mark-found keep entries marks number place mark h is own =
    let found = found_from (λ (e : RecGroupEntry). e.number == number) 0 place entries h in
    let at : place ≡ length found.passed = omega (arith, found.place) in
    own
    ∙ (ap (λ list. get_or list place mark) (is ∙ ap (λ es. marked keep (made_by es)) found.splits)
    ∙ (ap (λ k. get_or (marked keep (made_by (found.passed ++ found.item ∷ found.rest))) k mark) at
    ∙ (mark-past keep found.passed found.item found.rest mark ∙ ap keep (same_number found.item.number number found.passes))))

-- there is a mark for each group
pub length-marked : (keep : ℕ → Bool) (entries : List RecGroupEntry) → length (marked keep (made_by entries)) ≡ length entries
length-marked keep entries = length-map (made_by entries) (λ (m : RegisteredGroup). keep m.number) ∙ length-map entries made_of
