-- Pieces that were taken or added one after the other, and counts that rose meanwhile.
use Rattle.std.proofs.Common.{◌≡◌, ℕ, ◌+◌, ◌<◌, ◌≤◌, inl, inr, List, ◌++◌, length, Option, Some, None, arith, append_assoc, length-append}
use Rattle.wt_env.specs.Stream.{IsTaken, IsAdded, Rose}

-- two pieces in a row are one piece
pub IsTaken-append : (xs ys : List ℕ) (a b d : Option (List ℕ)) → IsTaken xs a b → IsTaken ys b d → IsTaken (xs ++ ys) a d
IsTaken-append xs ys a b None h k = cc
IsTaken-append xs ys a b (Some rest) h k = let e : (xs ++ ys) ++ rest ≡ xs ++ (ys ++ rest) = append_assoc xs ys rest in rw (h, k, e)

pub IsAdded-append : (xs ys : List ℕ) (a b d : Option (List ℕ)) → IsAdded xs a b → IsAdded ys b d → IsAdded (xs ++ ys) a d
IsAdded-append xs ys None b d h k = rw (k, h)
IsAdded-append xs ys (Some held) b d h k = let e : (held ++ xs) ++ ys ≡ held ++ (xs ++ ys) = append_assoc held xs ys in rw (k, h, e)

-- a count that never falls rose where it rose in between
pub Rose-within : (a b c d : ℕ) → a ≤ b → Rose b c → c ≤ d → Rose a d
Rose-within a b c d h (inl k) l = inl (omega arith)
Rose-within a b c d h (inr k) l = inr (omega arith)

-- two pieces that pass the limit together
pub taken_past : (limit : ℕ) (xs ys : List ℕ) (a b d : Option (List ℕ)) → IsTaken xs a b → IsTaken ys b d → limit < length xs + length ys → (bytes : List ℕ) × IsTaken bytes a d × (limit < length bytes)
taken_past limit xs ys a b d h k l = (xs ++ ys, IsTaken-append xs ys a b d h k, omega (arith, length-append xs ys))
