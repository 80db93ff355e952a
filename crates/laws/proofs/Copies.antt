-- A list copied into another from a position on, as `lib.Seq`'s `paste` says it. Assumes nothing.
use mathlib.Core.Path.{◌≡◌}
use mathlib.Core.List.{List, ◌++◌}
use Prim.Native.Nat.{ℕ, ◌+◌, ◌≤◌, ◌<◌}
use native.Mathlib.Omega.{arith}
use native.Mathlib.Numerals.{add-one}
use lib.ListN.{length, get_or, set, drop}
use lib.Seq.{take_at, take-length, drop-append-add, paste, paste-suc}

module _ {A : Type 0} where
  -- one element more is copied
  pub copy_onward : (d₀ d s : List A) (at i : ℕ) (z : A) → at + length s ≤ length d₀ → i < length s → d ≡ paste d₀ at s i
      → set d (at + i) (get_or s i z) ≡ paste d₀ at s (i + 1)
  copy_onward d₀ d s at i z room more e = rw (e, add-one) (paste-suc d₀ at s i z (omega arith) more)

  -- copied in behind what stands in front
  pub paste_behind : (front rest s : List A) (n : ℕ) → length front ≡ n
      → paste (front ++ rest) n s (length s) ≡ (front ++ s) ++ drop (length s) rest
  paste_behind front rest s n e =
      rw (take_at front rest n e, take-length s, ← e, drop-append-add front rest (length s))
