-- The process that calls, as the code has it: whether it is listed, and its user. Assumes nothing.
use Rattle.std.specs.Prelude.{◌≡◌, List, ℕ, Option, Some, None, cond}
use Rattle.model.specs.Tables.{Process, listed, user_of}
use Rattle.search.specs.declared.Caller.{Caller}

abbrev pub caller : List Process → ℕ → Caller
caller processes p = record { process = p; user = user_of processes p }

-- the caller's user is that of its row
pub record Known (processes : List Process) (c : Caller) : Type 0 where
  pub user : c.user ≡ user_of processes c.process

-- the caller, if it is listed
unfoldable pub listing_of : List Process → ℕ → Option Caller
listing_of processes p = cond (listed processes p) (Some (caller processes p)) None
