-- The record of a call, there and back: a call whose numbers are within their fields' widths is read from the record that is written for
-- it, whatever bytes stand behind; and every record is what is written for the call that is read from it. Assumes nothing.
use mathlib.Core.Path.{◌≡◌, refl, sym, ap, ap₂, subst, ◌∙◌}
use mathlib.Core.Bool.{false}
use mathlib.Core.List.{List, ◌++◌}
use Prim.Native.Nat.{ℕ, ◌+◌, ◌^◌, ◌≤◌, ◌<◌}
use native.Mathlib.Omega.{arith}
use borrow.Author.Tests.{ltb-false, le-ltb}
use lib.Dec.{ltb}
use lib.ListN.{length, take, drop, length-append, length-drop, take-append-drop}
use lib.Seq.{length-take-le, take-append-le, drop-append-le, take-take, take-add, take-append_seam, drop-append_seam, take-length}
use Rattle.model.specs.Refusals.{granted, ◌>>◌}
use Rattle.model.specs.Words.{bits}
use Rattle.model.specs.Records.{Call, well_formed, number, fields_from, head_of, fields, asked, short, taken, read, head, head_bytes, write, record_length}
use Rattle.model.specs.Serve.{judged_with, judged, serve}
use Rattle.laws.proofs.Bools.{clash}
use Rattle.laws.proofs.Choices.{chosen}
use Rattle.laws.proofs.Each.{Each, each_take}
use Rattle.laws.proofs.Pieces.{Byte}
use Rattle.invariants.proofs.Heads.{CallFits, call_field, process_field, argument_field, path1_length_field, path2_length_field, zeros_field, head_within, fields_joined, number_of_bytes, number_within, bytes_of_number, head_bytes_spread}

-- ENOUGH BYTES

-- all that the lengths ask for is there
pub record Whole (s : List ℕ) : Type 0 where
  pub head_there : 7 ≤ length s
  pub paths_there : asked s ≤ length s

-- bytes that are not too short are whole, and the other way round
pub whole : (s : List ℕ) → short s ≡ false → Whole s
unfolding short
whole s =
    chosen (λ b. b ≡ false → Whole s) (ltb (length s) 7) _ _ (λ _ e. clash refl e)
    (λ q e. record { head_there = ltb-false (length s) 7 q; paths_there = ltb-false (length s) (asked s) e })

pub whole_not_short : {s : List ℕ} → Whole s → short s ≡ false
unfolding short
whole_not_short {s} w =
    chosen (λ b. b ≡ false) (ltb (length s) 7) _ _ (λ q. clash q (le-ltb (length s) 7 w.head_there))
    (λ _. le-ltb (length s) (asked s) w.paths_there)

-- what is taken of whole bytes is what they ask for, and that is there
pub whole_taken : {s : List ℕ} → Whole s → taken s ≡ asked s
unfolding taken
whole_taken {s} w = simp (whole_not_short w, taken)

pub taken_there : {s : List ℕ} → Whole s → taken s ≤ length s
taken_there w = rw (whole_taken w) w.paths_there

-- the bytes of both paths are there
module _ {s : List ℕ} (w : Whole s) where
  first_path_there : bits 11 8 (head_of s) ≤ length (drop 7 s)
  unfolding asked
  first_path_there = simp length-drop (omega (arith, w.paths_there))

  second_path_there : bits 3 8 (head_of s) ≤ length (drop (bits 11 8 (head_of s)) (drop 7 s))
  unfolding asked
  second_path_there = simp length-drop (omega (arith, w.paths_there))

-- WHAT STANDS BEHIND A RECORD DOES NOT COUNT

-- all that reading and serving see of bytes
pub record Alike (s p : List ℕ) : Type 0 where
  pub same_fields : fields s ≡ fields p
  pub same_short : short s ≡ short p
  pub same_taken : taken s ≡ taken p

-- a whole record, and more bytes behind it
module _ (p rest : List ℕ) (w : Whole p) where
  same_head : head_of (p ++ rest) ≡ head_of p
  unfolding head_of
  same_head = ap (number 0) (take-append-le 7 p rest w.head_there)

  same_asked : asked (p ++ rest) ≡ asked p
  unfolding asked
  same_asked = rw same_head

  pub whole_behind : Whole (p ++ rest)
  whole_behind =
      let l = length-append p rest in
      record { head_there = omega (arith, w.head_there); paths_there = rw same_asked (omega (arith, w.paths_there)) }

  pub behind : Alike (p ++ rest) p
  unfolding fields fields_from
  behind =
      let n = bits 11 8 (head_of p) in
      record {
        same_fields =
            rw (
              same_head,
              drop-append-le 7 p rest w.head_there,
              take-append-le n (drop 7 p) rest (first_path_there w),
              drop-append-le n (drop 7 p) rest (first_path_there w),
              take-append-le (bits 3 8 (head_of p)) (drop n (drop 7 p)) rest (second_path_there w),
            );
        same_short = whole_not_short whole_behind ∙ sym (whole_not_short w);
        same_taken = whole_taken whole_behind ∙ same_asked ∙ sym (whole_taken w);
      }

-- the bytes that are taken say all
module _ (s : List ℕ) (w : Whole s) where
  whole_record : Whole (take (asked s) s)
  unfolding asked head_of
  whole_record =
      let l = length-take-le (asked s) s w.paths_there in
      let h : take 7 (take (asked s) s) ≡ take 7 s = take-take 7 (asked s) s (omega arith) in
      record { head_there = omega arith; paths_there = rw h (omega arith) }

  pub front : Alike s (take (taken s) s)
  front =
      let a = behind (take (asked s) s) (drop (asked s) s) whole_record in
      rw (whole_taken w) (subst (λ l. Alike l (take (asked s) s)) (take-append-drop (asked s) s) a)

-- reading and serving see no more
pub read_alike : {s p : List ℕ} → Alike s p → read s ≡ read p
unfolding read
read_alike a = rw (a.same_short, a.same_fields)

pub serve_alike : (w : List ℕ) {s p : List ℕ} → Alike s p → serve w s ≡ serve w p
unfolding serve judged judged_with
serve_alike w a = rw (a.same_taken, a.same_short, a.same_fields)

-- so both need only the bytes that are taken
pub read_front : (s : List ℕ) → short s ≡ false → read s ≡ read (take (taken s) s)
read_front s e = read_alike (front s (whole s e))

pub serve_front : (w s : List ℕ) → short s ≡ false → serve w s ≡ serve w (take (taken s) s)
serve_front w s e = serve_alike w (front s (whole s e))

-- WRITTEN, THEN READ

pub written_length : (r : Call) → length (write r) ≡ record_length r
unfolding write head_bytes record_length
written_length r = simp length-append (omega arith)

-- the record alone
module _ {r : Call} (f : CallFits r) where
  written_head : head_of (write r) ≡ head r
  unfolding head_of write head_bytes
  written_head = number_of_bytes (head_within f)

  written_asked : asked (write r) ≡ record_length r
  unfolding asked record_length
  written_asked = rw (written_head, path1_length_field f, path2_length_field f)

  pub written_whole : Whole (write r)
  unfolding record_length
  written_whole = let l = written_length r in record { head_there = omega arith; paths_there = rw written_asked (omega arith) }

  pub written_taken : taken (write r) ≡ record_length r
  written_taken = whole_taken written_whole ∙ written_asked

  written_paths : drop 7 (write r) ≡ r.path1 ++ r.path2
  unfolding write head_bytes
  written_paths = refl

  pub written_fields : fields (write r) ≡ r
  unfolding fields fields_from
  written_fields =
      rw (
        written_head,
        call_field f,
        process_field f,
        argument_field f,
        path1_length_field f,
        path2_length_field f,
        zeros_field f,
        written_paths,
        take-append_seam r.path1 r.path2,
        drop-append_seam r.path1 r.path2,
        take-length r.path2,
      )

-- the record, and whatever stands behind it
module _ {r : Call} (f : CallFits r) (rest : List ℕ) where
  pub written_and_more : Alike (write r ++ rest) (write r)
  written_and_more = behind (write r) rest (written_whole f)

  pub fields_of_written : fields (write r ++ rest) ≡ r
  fields_of_written = written_and_more.same_fields ∙ written_fields f

  pub written_not_short : short (write r ++ rest) ≡ false
  written_not_short = written_and_more.same_short ∙ whole_not_short (written_whole f)

  pub taken_of_written : taken (write r ++ rest) ≡ record_length r
  taken_of_written = written_and_more.same_taken ∙ written_taken f

  pub read_written : well_formed r ≡ granted r → read (write r ++ rest) ≡ granted r
  unfolding read ◌>>◌
  read_written g = rw (written_not_short, fields_of_written) g

-- READ, THEN WRITTEN

-- the bytes of a whole record are those that are written for the fields read from them
module _ {s : List ℕ} (bytes : Each Byte s) (w : Whole s) where
  seven : length (take 7 s) ≡ 7
  seven = length-take-le 7 s w.head_there

  head_of_within : head_of s < 2 ^ 56
  unfolding head_of
  head_of_within = let l = number_within (each_take 7 bytes) in rw seven at l

  read_head : head (fields s) ≡ head_of s
  unfolding head fields fields_from
  read_head =
      rw (
        length-take-le (bits 11 8 (head_of s)) (drop 7 s) (first_path_there w),
        length-take-le (bits 3 8 (head_of s)) (drop (bits 11 8 (head_of s)) (drop 7 s)) (second_path_there w),
      )
      (fields_joined head_of_within)

  read_head_bytes : head_bytes (head_of s) ≡ take 7 s
  unfolding head_of
  read_head_bytes = let e = bytes_of_number 0 (each_take 7 bytes) in head_bytes_spread (head_of s) ∙ (rw seven at e)

  -- also where the call is refused
  pub written_back : write (fields s) ≡ take (taken s) s
  unfolding write asked fields fields_from
  written_back =
      let n = bits 11 8 (head_of s) in
      let m = bits 3 8 (head_of s) in
      let e : 7 + (n + m) ≡ asked s = omega arith in
      ap₂ ◌++◌ (ap head_bytes read_head ∙ read_head_bytes) (sym (take-add n m (drop 7 s)))
      ∙ sym (take-add 7 (n + m) s)
      ∙ ap (λ k. take k s) (e ∙ sym (whole_taken w))
