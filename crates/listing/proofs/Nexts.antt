-- A step of the listing by what its tests give. Assumes nothing.
use mathlib.Core.Path.{◌≡◌}
use mathlib.Core.Bool.{Bool, true, false, not, ◌&&◌}
use mathlib.Core.List.{List}
use Prim.Native.Nat.{ℕ, ◌≤◌, ◌<◌}
use borrow.Author.Tests.{lt-ltb, le-ltb}
use lib.ListN.{length}
use Rattle.model.specs.Lists.{empty}
use Rattle.model.specs.Records.{short}
use Rattle.model.specs.Serve.{serve}
use Rattle.listing.specs.declared.Step.TheVariants.{Over, More, Full}
use Rattle.listing.specs.Steps.{longest_line, stepped, listed, next_line}

module _ (w s : List ℕ) (last : Bool) (place : ℕ) (out : List ℕ) where
  pub next_over : empty s ≡ true → last ≡ true → next_line w s last place out ≡ stepped Over w out
  unfolding next_line
  next_over e p = simp (e, p, next_line)

  pub next_nothing_yet : empty s ≡ true → last ≡ false → next_line w s last place out ≡ stepped More w out
  unfolding next_line
  next_nothing_yet e p = simp (e, p, next_line)

  -- bytes are there
  module _ (e : empty s ≡ false) where
    pub next_full : length out < longest_line → next_line w s last place out ≡ stepped Full w out
    unfolding next_line
    next_full h = simp (e, lt-ltb (length out) longest_line h, next_line)

    pub next_more : longest_line ≤ length out → short s ≡ true → last ≡ false → next_line w s last place out ≡ stepped More w out
    unfolding next_line
    next_more h q p = simp (e, le-ltb (length out) longest_line h, q, p, next_line)

    pub next_listed : longest_line ≤ length out → (short s && not last) ≡ false
        → next_line w s last place out ≡ listed (short s) place out (serve w s)
    unfolding next_line
    next_listed h q = simp (e, le-ltb (length out) longest_line h, q, next_line)
