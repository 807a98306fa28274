-- A list of zeros holds nothing.
use Rattle.std.proofs.Common.{◌≡◌, ℕ, zero, suc, replicate, slice_index, refl}

pub slice_index-zeros : (n k : ℕ) → slice_index (replicate n 0) k ≡ 0
slice_index-zeros zero k = refl
slice_index-zeros (suc n) zero = refl
slice_index-zeros (suc n) (suc k) = slice_index-zeros n k
