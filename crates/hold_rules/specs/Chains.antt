-- The chains by which the test of soundness compares holds: of used rows by place and process, of end holds by place. Assumes nothing.
use Rattle.std.specs.Prelude.{Bool, not, ◌&&◌, ◌||◌, List, ℕ, ◌+◌, ◌-◌, ◌*◌, ◌%◌, ◌<◌, eqb, get_or}
use Rattle.model.specs.Tables.{Place, Hold, no_hold, free_hold, hold_rows, same_place, user_of}
use Rattle.model.specs.Sound.{same_hold, is_end}
use Rattle.model.specs.Words.{unpack}
use Rattle.rows.specs.Blocks.{block_of}
use Rattle.rows.specs.Stands.{hold_row}
use Rattle.index.specs.declared.Links.{Links}
use Rattle.index.specs.Buckets.{last_below, in_bucket, Chains, Chain}
use Rattle.index.specs.Indexed.{sum_of}

-- how many chains there are
abbrev pub hold_buckets : ℕ
hold_buckets = 509

abbrev pub place_sum : Place → ℕ
place_sum q = sum_of q.directory (block_of q.name)

-- the heads and links of holds
abbrev pub HoldIndex : Type 0
HoldIndex = Links hold_buckets hold_rows

-- USED HOLDS

-- by process and place alone, so that the same hold falls into the same bucket
abbrev pub hold_bucket : Hold → ℕ
hold_bucket h = (place_sum h.place + h.process * 401) % hold_buckets

abbrev pub hold_chains : List Hold → Chains Hold
hold_chains holds =
    record {
      every = holds;
      none = no_hold;
      chosen = λ x. not (free_hold x);
      bucket = hold_bucket;
      size = hold_buckets;
      rows = hold_rows;
    }

-- row k has the hold of row i
abbrev pub same_as_row : List ℕ → ℕ → ℕ → Bool
same_as_row w i k = same_hold (hold_row w k) (hold_row w i)

-- END HOLDS

abbrev pub place_bucket : Place → ℕ
place_bucket q = place_sum q % hold_buckets

abbrev pub end_chains : List Hold → Chains Hold
end_chains holds =
    record {
      every = holds;
      none = no_hold;
      chosen = is_end;
      bucket = λ x. place_bucket x.place;
      size = hold_buckets;
      rows = hold_rows;
    }

-- a bucket's chain leads to the end holds before row i that may be on its place
pub record EndsBefore (w : List ℕ) (x : HoldIndex) (bucket i : ℕ) : Type 0 where
  pub inside : bucket < hold_buckets
  pub chain : Chain (in_bucket (end_chains (unpack w).holds) (place_bucket (hold_row w i).place)) x.next (get_or x.heads bucket 0) i

abbrev pub end_on : Place → Hold → Bool
end_on q x = is_end x && same_place x.place q

-- row k has an end hold on the place of row i
abbrev pub end_at_row : List ℕ → ℕ → ℕ → Bool
end_at_row w i k = end_on (hold_row w i).place (hold_row w k)

abbrev pub user_of_row : List ℕ → ℕ → ℕ
user_of_row w k = user_of (unpack w).processes (hold_row w k).process

-- no end hold on the place of row i is before it, or the last is of the same user
unfoldable pub last_agrees : List ℕ → ℕ → Bool
last_agrees w i =
    eqb (last_below (end_at_row w i) i) 0 || eqb (user_of_row w (last_below (end_at_row w i) i - 1)) (user_of_row w i)
