-- Chains of rows by bucket, for any table. A head and a link name a row by one more than its number, and 0 names none. Assumes nothing.
use Rattle.std.specs.Prelude.{◌≡◌, Bool, true, false, ◌&&◌, List, ℕ, zero, suc, ◌+◌, ◌≤◌, ◌<◌, eqb, length, get_or, set, replicate, Option, Some, None}
use Rattle.index.specs.declared.Links.{Links}

-- one more than the last row below i that passes, 0 where none does
unfoldable pub last_below : (ℕ → Bool) → ℕ → ℕ
last_below p zero = 0
last_below p (suc i) = elim (p i) [ true ↦ suc i | false ↦ last_below p i ]

-- a table's rows, which of them are chained, the bucket of each, and how many buckets and rows there are
pub record Chains (A : Type 0) : Type 0 where
  pub every : List A
  pub none : A
  pub chosen : A → Bool
  pub bucket : A → ℕ
  pub size : ℕ
  pub rows : ℕ

module _ {A : Type 0} (t : Chains A) where
  abbrev pub row_in : ℕ → A
  row_in k = get_or t.every k t.none

  unfoldable pub in_bucket : ℕ → ℕ → Bool
  in_bucket b k = t.chosen (row_in k) && eqb (t.bucket (row_in k)) b

  -- each link below i leads to the last row before it in the same bucket
  unfoldable pub Linked : List ℕ → ℕ → Type 0
  Linked next i = (k : ℕ) → k < i → (b : ℕ) → in_bucket b k ≡ true → get_or next k 0 ≡ last_below (in_bucket b) k

  -- the rows below i, chained
  pub record Chained (heads next : List ℕ) (i : ℕ) : Type 0 where
    pub inside : i ≤ t.rows
    pub heads_long : length heads ≡ t.size
    pub next_long : length next ≡ t.rows
    pub heads_right : (b : ℕ) → b < t.size → get_or heads b 0 ≡ last_below (in_bucket b) i
    pub linked : Linked next i

-- HEADS AND LINKS

-- no row is chained
abbrev pub no_links : {size rows : ℕ} → Links size rows
no_links {size} {rows} = record { heads = replicate size 0; next = replicate rows 0 }

-- a row put at the head of a bucket's chain
abbrev pub with_row : {size rows : ℕ} → Links size rows → ℕ → ℕ → Links size rows
with_row x bucket row = record { heads = set x.heads bucket (row + 1); next = set x.next row (get_or x.heads bucket 0) }

-- A CHAIN GONE DOWN

-- one more than the row, 0 for none
abbrev pub counted : Option ℕ → ℕ
counted None = 0
counted (Some row) = suc row

-- the chain that begins at `from`: the last row below `limit` that is in it, and from each row the last before it
pub record Chain (inside : ℕ → Bool) (next : List ℕ) (from limit : ℕ) : Type 0 where
  pub within : limit ≤ length next
  pub start : from ≡ last_below inside limit
  pub linked : (k : ℕ) → k < limit → inside k ≡ true → get_or next k 0 ≡ last_below inside k

-- the test may be asked of each row of a chain
pub record Asked (may : ℕ → Type 0) (next : List ℕ) (from : ℕ) : Type 0 where
  pub inside : ℕ → Bool
  pub limit : ℕ
  pub chain : Chain inside next from limit
  pub each : (k : ℕ) → k < limit → inside k ≡ true → may k

-- the test, asked of a chain's rows, says which of them are meant; only rows of the chain are
pub record Reads (says : ℕ → Bool → Type 0) (inside : ℕ → Bool) (limit : ℕ) (meant : ℕ → Bool) : Type 0 where
  pub told : (k : ℕ) → k < limit → inside k ≡ true → (answer : Bool) → says k answer → answer ≡ meant k
  pub only : (k : ℕ) → meant k ≡ true → inside k ≡ true

-- the last row of a chain that is meant
abbrev pub Last : (ℕ → Bool → Type 0) → List ℕ → ℕ → ℕ → Type 0
Last says next from found =
    (inside : ℕ → Bool) (limit : ℕ) → Chain inside next from limit → (meant : ℕ → Bool) → Reads says inside limit meant
    → found ≡ last_below meant limit
