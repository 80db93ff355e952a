-- The seven bytes of a record's head, read one by one. Assumes nothing.
use mathlib.Core.Path.{◌≡◌}
use mathlib.Core.List.{List, [], ◌∷◌}
use Prim.Native.Nat.{ℕ, ◌+◌, ◌*◌, ◌≤◌}
use native.Mathlib.Omega.{arith}
use lib.ListN.{length, get_or}
use Rattle.model.specs.Records.{number, head_of}

pub head_by_bytes : (s : List ℕ) → 7 ≤ length s
    → head_of s
    ≡ ((((((get_or s 0 0 * 256 + get_or s 1 0) * 256 + get_or s 2 0) * 256 + get_or s 3 0) * 256 + get_or s 4 0) * 256 + get_or s 5 0) * 256 + get_or s 6 0)
unfolding head_of number
head_by_bytes [] h = absurd (omega arith)
head_by_bytes (a ∷ []) h = absurd (omega arith)
head_by_bytes (a ∷ b ∷ []) h = absurd (omega arith)
head_by_bytes (a ∷ b ∷ c ∷ []) h = absurd (omega arith)
head_by_bytes (a ∷ b ∷ c ∷ d ∷ []) h = absurd (omega arith)
head_by_bytes (a ∷ b ∷ c ∷ d ∷ e ∷ []) h = absurd (omega arith)
head_by_bytes (a ∷ b ∷ c ∷ d ∷ e ∷ f ∷ []) h = absurd (omega arith)
head_by_bytes (a ∷ b ∷ c ∷ d ∷ e ∷ f ∷ g ∷ s) h = omega arith
