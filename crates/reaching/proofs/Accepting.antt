-- What a record that reading accepted is: a proper call, whose paths stand within the bytes. Assumes nothing.
use mathlib.Core.Path.{◌≡◌, refl, sym, ap, subst, ◌∙◌}
use mathlib.Core.Bool.{true, false, not}
use mathlib.Core.List.{List, [], ◌∷◌}
use Prim.Native.Nat.{ℕ, ◌+◌, ◌-◌, ◌≤◌}
use native.Mathlib.Omega.{arith}
use lib.ListN.{length, take, drop, length-take}
use Rattle.model.specs.Lists.{empty}
use Rattle.model.specs.Refusals.{granted}
use Rattle.model.specs.Words.{bits}
use Rattle.model.specs.Paths.{valid_path}
use Rattle.model.specs.Records.{Call, blank, path, target, row_of, not_blank, fields_broken, paths_broken, well_formed, fields_from, head_of, fields, asked, short, taken, read}
use Rattle.laws.proofs.Bools.{clash}
use Rattle.laws.proofs.Each.{Each, each_take, each_drop}
use Rattle.laws.proofs.Grants.{passed}
use Rattle.laws.proofs.Pieces.{Byte}
use Rattle.invariants.proofs.Accepted.{well_formed_same, valid_target_short, fields_right}
use Rattle.invariants.proofs.Order.{Proper, process_there, child_there, path1_valid, path2_valid, target_valid}
use Rattle.invariants.proofs.Records.{Whole, whole}
use Rattle.invariants.proofs.Served.{fields_proper}
use Rattle.records.specs.declared.Fields.{Fields}
use Rattle.std.specs.Prelude.{Ok}
use Rattle.records.specs.declared.Accepted.{Accepted}
use Rattle.records.specs.Reading.{Part, Reading, fields_of, answered, reading, part_of, outcome_of}
use Rattle.records.proofs.ThereAndBack.{reading_means}
use Rattle.reaching.specs.Ready.{call_in, PathIn, Walks}

take_at_most : {A : Type 0} (n : ℕ) (l : List A) → length (take n l) ≤ n
take_at_most n l = simp length-take (omega arith)

nothing : (l : List ℕ) → not (empty l) ≡ false → l ≡ []
unfolding empty
nothing [] i = refl
nothing (x ∷ l) i = clash refl i

-- the part that is lent is the one that the fields name
pub slice_part : (s : List ℕ) (p : Part) → take (p.start + p.length - p.start) (drop p.start s) ≡ part_of s p
unfolding part_of
slice_part s p = let e : p.start + p.length - p.start ≡ p.length = omega arith in rw e

pub slice_valid : {s : List ℕ} {p : Part} → PathIn s p → valid_path (take (p.start + p.length - p.start) (drop p.start s)) ≡ true
slice_valid {s} {p} i = rw (slice_part s p) i.valid

pub slice_short : (s : List ℕ) (p : Part) → p.length ≤ 64 → length (take (p.start + p.length - p.start) (drop p.start s)) ≤ 64
slice_short s p h = let short = take_at_most (p.start + p.length - p.start) (drop p.start s) in omega arith

pub part_bytes : {s : List ℕ} (p : Part) → Each Byte s → Each Byte (part_of s p)
unfolding part_of
part_bytes p bytes = each_take p.length (each_drop p.start bytes)

module _ {s : List ℕ} {f : Fields} {n : ℕ} (bytes : Each Byte s) (e : reading s ≡ Ok (record { fields = f; taken = n })) where
  pub call_read : read s ≡ granted (call_in s f)
  unfolding outcome_of
  call_read = sym (reading_means s) ∙ ap (outcome_of s) e

  formed : well_formed (fields s) ≡ granted (call_in s f)
  unfolding read
  formed = (passed 17 (short s) (well_formed (fields s)) call_read).then

  pub fields_are : fields s ≡ call_in s f
  fields_are = well_formed_same (fields s) formed

  pub call_proper : Proper (call_in s f)
  unfolding well_formed
  call_proper =
      let right = passed 2 (fields_broken (fields s)) _ formed in
      let valid = passed 3 (paths_broken (fields s)) _ right.then in
      subst Proper fields_are (fields_proper s bytes right.missed valid.missed)

  fields_read : f ≡ fields_of (fields s)
  unfolding reading answered
  fields_read = go (sym (ap (answered (taken s)) call_read) ∙ e) ∙ ap fields_of (sym fields_are)
    where
      go : {a b : Accepted} → ◌≡◌ {A = Reading} (Ok a) (Ok b) → b.fields ≡ a.fields
      go {a} {b} h = let same : b ≡ a = cc in ap (λ (x : Accepted). x.fields) same

  is_whole : Whole s
  unfolding read
  is_whole = whole s (passed 17 (short s) (well_formed (fields s)) call_read).missed

  -- NUMBERS

  pub process_counts : 1 ≤ f.process
  process_counts = let there = process_there (call_in s f) call_proper in omega arith

  pub child_counts : f.call ≡ 2 → 1 ≤ f.argument
  child_counts h = let there = child_there (call_in s f) call_proper h in omega arith

  -- PATHS

  sizes : 7 + length (fields s).path1 + length (fields s).path2 ≤ length s
  unfolding fields fields_from asked
  sizes =
      let a = take_at_most (bits 11 8 (head_of s)) (drop 7 s) in
      let b = take_at_most (bits 3 8 (head_of s)) (drop (bits 11 8 (head_of s)) (drop 7 s)) in
      omega (arith, is_whole.paths_there)

  path1_end : f.path1.start + f.path1.length ≡ 7 + length (fields s).path1
  unfolding fields_of
  path1_end = ap (λ (g : Fields). g.path1.start + g.path1.length) fields_read

  path2_end : f.path2.start + f.path2.length ≡ 7 + length (fields s).path1 + length (fields s).path2
  unfolding fields_of
  path2_end = ap (λ (g : Fields). g.path2.start + g.path2.length) fields_read

  path2_long : f.path2.length ≡ length (part_of s f.path2)
  unfolding fields_of
  path2_long = ap (λ (g : Fields). g.path2.length) fields_read ∙ ap (λ (r : Call). length r.path2) fields_are

  pub path2_within : f.path2.start + f.path2.length ≤ length s
  path2_within = let fit = sizes in let there = path2_end in omega arith

  pub path1_in : Walks f → PathIn s f.path1
  unfolding Walks
  path1_in h =
      let fit = sizes in
      let there = path1_end in
      record { within = omega arith; valid = path1_valid (call_in s f) call_proper h }

  pub path2_in : (row_of f.call).path2 ≡ path → PathIn s f.path2
  path2_in h = record { within = path2_within; valid = path2_valid (call_in s f) call_proper h }

  pub target_short : (row_of f.call).path2 ≡ target → f.path2.length ≤ 64
  target_short h =
      let long = path2_long in
      let short = valid_target_short (part_of s f.path2) (target_valid (call_in s f) call_proper h) in
      omega arith

  -- a blank cell
  pub path2_blank : (row_of f.call).path2 ≡ blank → part_of s f.path2 ≡ []
  unfolding not_blank
  path2_blank h = nothing (part_of s f.path2) (rw h at (fields_right (call_in s f) call_proper.fields).path2)

  pub blank_short : (row_of f.call).path2 ≡ blank → f.path2.length ≤ 64
  blank_short h =
      let long = path2_long in
      let none : length (part_of s f.path2) ≡ 0 = ap length (path2_blank h) in
      omega arith
