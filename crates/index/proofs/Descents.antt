-- Down a chain, for any table: each step of the loop that looks for the last row that passes, and what its answer says. Assumes nothing.
use mathlib.Core.Path.{◌≡◌, refl, sym, ap, ◌∙◌}
use mathlib.Core.Bool.{Bool, true, false, false≢true}
use mathlib.Core.List.{List}
use Prim.Native.Nat.{ℕ, suc, ◌-◌, ◌≤◌, ◌<◌}
use native.Mathlib.Omega.{arith}
use lib.ListN.{length, get_or}
use Rattle.std.specs.Prelude.{Option, Some, None}
use Rattle.std.specs.Option.{is_some}
use Rattle.index.specs.Buckets.{last_below, counted, Chains, row_in, in_bucket, Chained, Chain, Asked, Reads, Last}
use Rattle.index.proofs.Buckets.{last_here, last_earlier, last_of_none, last_within, last_passes, last_of_last, in_this_bucket, chosen_row, link_at}

-- where the loop is: `found` is one more than the row to look at, in every chain that begins there, and what is meant lies below it
pub record Going (says : ℕ → Bool → Type 0) (next : List ℕ) (from found : ℕ) : Type 0 where
  pub low : {inside : ℕ → Bool} {limit : ℕ} → Chain inside next from limit → found ≤ limit
  pub chained : {inside : ℕ → Bool} {limit : ℕ} → Chain inside next from limit → {row : ℕ} → suc row ≡ found → inside row ≡ true
  pub same : {inside : ℕ → Bool} {limit : ℕ} {meant : ℕ → Bool} → Chain inside next from limit → Reads says inside limit meant
      → last_below meant found ≡ last_below meant limit

-- the last row below i, where there is one
last_is : (p : ℕ → Bool) (i : ℕ) {row : ℕ} → suc row ≡ last_below p i → p row ≡ true
last_is p i {row} e =
    let here : last_below p i - 1 ≡ row = omega arith in
    let some : last_below p i ≡ 0 → ⊥ = λ z. omega arith in
    rw here at (last_passes p i some)

module _ {says : ℕ → Bool → Type 0} {next : List ℕ} {from : ℕ} where
  pub going_starts : {found : ℕ} → found ≡ from → Going says next from found
  going_starts e =
      record {
        low = λ {inside} {limit} c. omega (arith, c.start, last_within inside limit);
        chained = λ {inside} {limit} c z. last_is inside limit (z ∙ e ∙ c.start);
        same = λ {inside} {limit} {meant} c r. ap (last_below meant) (e ∙ c.start) ∙ last_of_last meant inside r.only limit;
      }

  module _ {found row : ℕ} (g : Going says next from found) (some : (1 ≤ found) × (row ≡ found - 1)) where
    this : suc row ≡ found
    this = omega (arith, some.0, some.1)

    lower : {inside : ℕ → Bool} {limit : ℕ} → Chain inside next from limit → row < limit
    lower c = omega (arith, this, g.low c)

    pub going_inside : {may : ℕ → Type 0} → Asked may next from → row < length next
    going_inside asked = omega (arith, lower asked.chain, asked.chain.within)

    pub going_asks : {may : ℕ → Type 0} → Asked may next from → may row
    going_asks asked = asked.each row (lower asked.chain) (g.chained asked.chain this)

    linked_row : {inside : ℕ → Bool} {limit v : ℕ} → Chain inside next from limit → v ≡ get_or next row 0 → v ≡ last_below inside row
    linked_row c e = e ∙ c.linked row (lower c) (g.chained c this)

    meant_here : {inside : ℕ → Bool} {limit : ℕ} {meant : ℕ → Bool} → Chain inside next from limit → Reads says inside limit meant
        → {answer : Bool} → says row answer → answer ≡ meant row
    meant_here c r {answer} s = r.told row (lower c) (g.chained c this) answer s

    pub going_found : says row true → Last says next from (suc row)
    going_found s inside limit c meant r = sym (last_here meant row (sym (meant_here c r s))) ∙ ap (last_below meant) this ∙ g.same c r

    module _ {v : ℕ} (e : v ≡ get_or next row 0) where
      pub going_down : {may : ℕ → Type 0} → Asked may next from → v < found
      going_down asked = omega (arith, this, linked_row asked.chain e, last_within asked.inside row)

      pub going_on : says row false → Going says next from v
      going_on s =
          record {
            low = λ {inside} {limit} c. omega (arith, lower c, linked_row c e, last_within inside row);
            chained = λ {inside} {limit} c z. last_is inside row (z ∙ linked_row c e);
            same = λ {inside} {limit} {meant} c r.
                ap (last_below meant) (linked_row c e) ∙ last_of_last meant inside r.only row
                ∙ sym (last_earlier meant row (sym (meant_here c r s))) ∙ ap (last_below meant) this ∙ g.same c r;
          }

  pub going_ends : {found : ℕ} → Going says next from found → (1 ≤ found → ⊥) → Last says next from 0
  going_ends {found} g z inside limit c meant r =
      let none : found ≡ 0 = omega arith in
      sym (last_of_none meant) ∙ ap (last_below meant) (sym none) ∙ g.same c r

-- a row and none, by the number that counts them
pub counted_one : (a b : Option ℕ) → counted a ≡ counted b → a ≡ b
counted_one None None e = refl
counted_one None (Some row) e = absurd (omega arith)
counted_one (Some row) None e = absurd (omega arith)
counted_one (Some row) (Some other) e = let same : row ≡ other = omega arith in ap Some same

pub none_counted : (found : Option ℕ) → false ≡ is_some found → counted found ≡ 0
none_counted None e = refl
none_counted (Some row) e = absurd (false≢true e)

pub some_counted : (found : Option ℕ) → true ≡ is_some found → counted found ≡ 0 → ⊥
some_counted None e z = false≢true (sym e)
some_counted (Some row) e z = omega arith

-- A BUCKET'S CHAIN

module _ {A : Type 0} {t : Chains A} where
  -- it begins at its head
  pub bucket_chain : {heads next : List ℕ} {limit : ℕ} → Chained t heads next limit → {h : ℕ} → h < t.size → Chain (in_bucket t h) next (get_or heads h 0) limit
  bucket_chain {next = next} {limit = limit} c {h} s =
      record {
        within = omega (arith, c.inside, c.next_long);
        start = c.heads_right h s;
        linked = λ k l u. link_at t next limit c.linked k l h u;
      }

module _ {A : Type 0} (t : Chains A) (h : ℕ) {next : List ℕ} {from limit : ℕ} (c : Chain (in_bucket t h) next from limit) where
  -- a test that may be asked of every chosen row below
  pub bucket_asked : {may : ℕ → Type 0} → ((k : ℕ) → k < limit → t.chosen (row_in t k) ≡ true → may k) → Asked may next from
  bucket_asked f = record { inside = in_bucket t h; limit = limit; chain = c; each = λ k l u. f k l (chosen_row t h k u) }

  -- what a test finds that says whether a row passes, where only rows of the bucket do
  pub last_passing : {says : ℕ → Bool → Type 0} {found : ℕ} → Last says next from found → (passes : A → Bool)
      → ((k : ℕ) (answer : Bool) → k < limit → t.chosen (row_in t k) ≡ true → says k answer → answer ≡ passes (row_in t k))
      → ((x : A) → passes x ≡ true → (t.chosen x ≡ true) × (t.bucket x ≡ h)) → found ≡ last_below (λ k. passes (row_in t k)) limit
  last_passing f passes told only =
      f (in_bucket t h) limit c (λ k. passes (row_in t k))
      (record {
        told = λ k l u answer a. told k answer l (chosen_row t h k u) a;
        only = λ k p. let its = only (row_in t k) p in in_this_bucket t k its.0 its.1;
      })
