-- Entries that are apart, where more come behind them or some are taken away.
use Rattle.std.proofs.Common.{◌≡◌, ℕ, zero, suc, ◌<◌, inl, inr, Bool, true, false, List, [], ◌∷◌, ◌++◌, length, get_or, sym, ap, arith}
use Rattle.std.proofs.lemmas.Bool.{false≢true}
use Rattle.wt_env.specs.Among.{Among}
use Rattle.wt_env.proofs.lists.Members.{among_before, among_behind, among_either}
use Rattle.wt_keys.specs.declared.entry.RecGroupEntry.{RecGroupEntry}
use Rattle.wt_keys.specs.Marks.{marked_items}
use Rattle.wt_keys.specs.Filed.{NumbersRise, Agree, AreApart}
use Rattle.wt_keys.proofs.Filing.{at_among, either}
use Rattle.wt_keys.proofs.Numbered.{rise-above, rise-behind, rise-front, rise-marked}

pub apart-none : AreApart []
apart-none = record { rising = tt; agree = λ a b at. absurd at }

pub apart-front : (front entries : List RecGroupEntry) → AreApart (front ++ entries) → AreApart front
apart-front front entries apart = record {
  rising = rise-front 0 front entries apart.rising;
  agree = λ a b at there. apart.agree a b (among_before front entries a at) (among_before front entries b there);
}

pub apart-behind : (front entries : List RecGroupEntry) → AreApart (front ++ entries) → AreApart entries
apart-behind front entries apart = record {
  rising = rise-behind 0 front entries apart.rising;
  agree = λ a b at there. apart.agree a b (among_behind front entries a at) (among_behind front entries b there);
}

-- ---- more entries

module _ (entries added : List RecGroupEntry) (apart : AreApart (entries ++ added)) (Before After : RecGroupEntry → Type 0)
    (stays : (e : RecGroupEntry) → ((x : RecGroupEntry) → Among x added → Agree e x) → Before e → After e) (before : (e : RecGroupEntry) → Among e entries → Before e) where
  -- what is told of each stays
  pub told-still : (e : RecGroupEntry) → Among e entries → After e
  told-still e at = stays e (λ x there. apart.agree e x (among_before entries added e at) (among_behind entries added x there)) (before e at)

  -- and so it is told of all
  pub told-all : ((e : RecGroupEntry) → Among e added → After e) → (e : RecGroupEntry) → Among e (entries ++ added) → After e
  told-all new e at = either (told-still e) (new e) (among_either entries added e at)

-- ---- entries that are marked

pub marked-among : {A : Type 0} (marks : List Bool) (xs : List A) (x : A) → Among x (marked_items marks xs) → Among x xs
marked-among [] xs x at = absurd at
marked-among (mark ∷ marks) [] x at = absurd at
marked-among (true ∷ marks) (y ∷ ys) x (inl same) = inl same
marked-among (true ∷ marks) (y ∷ ys) x (inr later) = inr (marked-among marks ys x later)
marked-among (false ∷ marks) (y ∷ ys) x at = inr (marked-among marks ys x at)

pub apart-marked : (marks : List Bool) (entries : List RecGroupEntry) → AreApart entries → AreApart (marked_items marks entries)
apart-marked marks entries apart = record {
  rising = rise-marked 0 marks entries apart.rising;
  agree = λ a b at there. apart.agree a b (marked-among marks entries a at) (marked-among marks entries b there);
}

-- an entry that isn't marked has another number than each that is
pub unmarked-other : (low : ℕ) (marks : List Bool) (entries : List RecGroupEntry) (k : ℕ) (d e : RecGroupEntry) → NumbersRise low entries → length marks ≡ length entries → k < length entries
    → get_or marks k false ≡ false → Among e (marked_items marks entries) → e.number ≡ (get_or entries k d).number → ⊥
unmarked-other low [] [] k d e rises long below off at same = at
unmarked-other low [] (y ∷ ys) k d e rises long below off at same = omega (arith, long)
unmarked-other low (m ∷ ms) [] k d e rises long below off at same = at
unmarked-other low (true ∷ ms) (y ∷ ys) zero d e rises long below off at same = false≢true (sym off)
unmarked-other low (false ∷ ms) (y ∷ ys) zero d e rises long below off at same =
    let above = rise-above y.number ys e rises.1 (marked-among ms ys e at) in
    omega (arith, above, same)
unmarked-other low (true ∷ ms) (y ∷ ys) (suc k) d e rises long below off (inl here) same =
    let above = rise-above y.number ys (get_or ys k d) rises.1 (at_among ys k d (omega (arith, below))) in
    omega (arith, above, same, ap (λ (x : RecGroupEntry). x.number) here)
unmarked-other low (true ∷ ms) (y ∷ ys) (suc k) d e rises long below off (inr later) same =
    unmarked-other y.number ms ys k d e rises.1 (omega (arith, long)) (omega (arith, below)) off later same
unmarked-other low (false ∷ ms) (y ∷ ys) (suc k) d e rises long below off at same =
    unmarked-other y.number ms ys k d e rises.1 (omega (arith, long)) (omega (arith, below)) off at same
